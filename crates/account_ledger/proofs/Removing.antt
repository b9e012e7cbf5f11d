-- A removal and a mark: what they make of the account and of the files.
use Rattle.std.proofs.Common.{◌≡◌, ℕ, ◌+◌, ◌<◌, Bool, true, false, cond, ◌&&◌, List, length, bytes_eq, Option, Some, None, refl, sym, ap, ◌∙◌, arith}
use Rattle.std.proofs.lemmas.Bool.{false≢true}
use Rattle.std.proofs.lemmas.Slice.Eq.{bytes_eq-Decides}
use Rattle.std.specs.Option.{option_map}
use Rattle.quota_units.specs.Limiting.{LimitNumbers}
use Rattle.quota_units.specs.declared.flags.Flags.{Flags}
use Rattle.quota_roots.specs.declared.root.RootSpec.{RootSpec}
use Rattle.quota_roots.specs.Governing.{governs_at}
use Rattle.keeper.specs.Files.{listed, has_row, ledger_at, removed as removed_row, renamed as renamed_row}
use Rattle.keeper.specs.Calls.{Told, Changes, OnFiles}
use Rattle.keeper.specs.declared.rows.FileRow.{FileRow}
use Rattle.keeper.proofs.Changing.{changes_same}
use Rattle.message_names.specs.Parts.{unique_of, base_of}
use Rattle.message_names.specs.Messages.{FileMessage, message_of, octets_of}
use Rattle.message_names.specs.Sizes.{size_named, size_or}
use Rattle.account_core.specs.declared.calls.Call.TheVariants.{Remove, Mark}
use Rattle.account_core.specs.declared.calls.Reply.{Reply}
use Rattle.account_core.specs.declared.calls.Reply.TheVariants.{NoMailbox, NoMessage, Removed, Marked}
use Rattle.account_core.specs.Account.{Account, Message}
use Rattle.account_core.specs.Messages.{named_message, with_flags}
use Rattle.account_core.specs.Machine.{has_mailbox, if_message, message_reply, removed_after, marked_after, step}
use Rattle.root_ledgers.specs.declared.book.Book.{Book}
use Rattle.root_ledgers.specs.declared.book.Standing.{Standing}
use Rattle.root_ledgers.specs.Settling.{book_at}
use Rattle.root_ledgers.specs.Lines.{change_by, change_at, BookLined, LedgerLined, BooksLined, LedgersLined}
use Rattle.account_ledger.specs.Messages.{message_in}
use Rattle.account_ledger.specs.NamedFiles.{file_named}
use Rattle.account_ledger.specs.Writing.{HasNamed}
use Rattle.account_ledger.specs.Lives.{Live, Shows}
use Rattle.account_ledger.proofs.Weighing.{is_mailbox_of}
use Rattle.account_ledger.proofs.NamedFiles.{row_there, file_has_base}
use Rattle.account_ledger.proofs.Shifting.{Moves}
use Rattle.account_ledger.proofs.Found.{free_name, named_by, removed_shifted, changed_shifted}
use Rattle.account_ledger.proofs.Delivering.{there_in}

-- the answer to a call on a message that is there
pub message_replied : (account : Account) (mailbox base : List ℕ) (message : Message) (given : Reply) → has_mailbox account mailbox ≡ true → named_message mailbox base account.messages ≡ Some message
    → message_reply account mailbox base given ≡ given
message_replied account mailbox base message given there named =
    ap (λ b. cond b (if_message (named_message mailbox base account.messages) given) NoMailbox) there ∙ ap (λ o. if_message o given) named

-- no message has 10 ^ 18 octets
pub octets_small : (mailbox : List ℕ) (file : FileRow) → (message_in mailbox file).octets < 1000000000000000000
octets_small mailbox file = by (size_named (unique_of file.name))
  where
    by : (o : Option ℕ) → size_or o file.length < 1000000000000000000
    by None = omega arith
    by (Some size) = omega arith

-- the file was found
module _ (l : Live) (account : Account) (shows : Shows l account) (mailbox base : List ℕ) (file : FileRow) (there : is_mailbox_of l.mailboxes mailbox ≡ true)
    (found : Some file ≡ file_named base (listed mailbox shows.told.files.rows)) where
  pub named : named_message mailbox base account.messages ≡ Some (message_in mailbox file)
  named = named_by l account shows mailbox base (Some file) there found

  pub moves_removed : Moves (Some (message_in mailbox file)) None (message_in mailbox file).octets l.deliveries (l.generation + 1) account (step l.roots account (Remove mailbox base))
  moves_removed =
      rw (ap (removed_after account mailbox base) (message_replied account mailbox base (message_in mailbox file) Removed (there_in l account shows mailbox there) named)) (record {
        limits = refl;
        mailboxes = refl;
        epoch = refl;
        deliveries_are = shows.stands.deliveries_are;
        generation_is = ap (λ n. n + 1) shows.stands.generation_is;
        shifted = removed_shifted mailbox base (message_in mailbox file) account.messages named;
        has = refl;
        had = tt;
        small = octets_small mailbox file;
        grows = omega arith;
      })

  pub moves_marked : (flags : Flags) → Moves (Some (message_in mailbox file)) (Some (with_flags flags (message_in mailbox file))) (message_in mailbox file).octets l.deliveries l.generation account (step l.roots account (Mark mailbox base flags))
  moves_marked flags =
      rw (ap (marked_after account mailbox base flags) (message_replied account mailbox base (message_in mailbox file) Marked (there_in l account shows mailbox there) named)) (record {
        limits = refl;
        mailboxes = refl;
        epoch = refl;
        deliveries_are = shows.stands.deliveries_are;
        generation_is = shows.stands.generation_is;
        shifted = changed_shifted mailbox base (with_flags flags) (message_in mailbox file) account.messages named;
        has = refl;
        had = refl;
        small = octets_small mailbox file;
        grows = omega arith;
      })

  pub replied : (given : Reply) → given ≡ message_reply account mailbox base given
  replied given = sym (message_replied account mailbox base (message_in mailbox file) given (there_in l account shows mailbox there) named)

  pub has_named : HasNamed mailbox base (message_in mailbox file).octets account
  has_named = ap (λ o. option_map (λ (m : Message). m.octets) o) named

  pub file_there : has_row mailbox file.name shows.told.files.rows ≡ true
  file_there = row_there mailbox base file shows.told.files.rows (sym found) (file_has_base mailbox base file shows.told.files.rows (sym found))

  pub name_free : (name : List ℕ) → base_of name ≡ base_of file.name → (bytes_eq mailbox mailbox && bytes_eq file.name name) ≡ false → has_row mailbox name shows.told.files.rows ≡ false
  name_free name same differs =
      free_name l account shows mailbox base name file there found (same ∙ file_has_base mailbox base file shows.told.files.rows (sym found))
      (other_name (bytes_eq mailbox mailbox) (bytes_eq file.name name) ((bytes_eq-Decides mailbox mailbox).1 refl) differs)
    where
      other_name : (b c : Bool) → b ≡ true → (b && c) ≡ false → c ≡ false
      other_name true c e f = f
      other_name false c e f = absurd (false≢true e)

-- there is no such message
module _ (l : Live) (account : Account) (shows : Shows l account) (mailbox base : List ℕ) (there : is_mailbox_of l.mailboxes mailbox ≡ true)
    (none : None ≡ file_named base (listed mailbox shows.told.files.rows)) where
  pub missing : named_message mailbox base account.messages ≡ None
  missing = named_by l account shows mailbox base None there none

  pub missing_replied : (given : Reply) → NoMessage ≡ message_reply account mailbox base given
  missing_replied given =
      sym (ap (λ b. cond b (if_message (named_message mailbox base account.messages) given) NoMailbox) (there_in l account shows mailbox there) ∙ ap (λ o. if_message o given) missing)

  pub removal_missing : step l.roots account (Remove mailbox base) ≡ account
  removal_missing = ap (removed_after account mailbox base) (sym (missing_replied Removed))

  pub mark_missing : (flags : Flags) → step l.roots account (Mark mailbox base flags) ≡ account
  mark_missing flags = ap (marked_after account mailbox base flags) (sym (missing_replied Marked))

-- the mailbox is not there
pub nowhere : (account : Account) (mailbox base : List ℕ) (given : Reply) → has_mailbox account mailbox ≡ false → NoMailbox ≡ message_reply account mailbox base given
nowhere account mailbox base given none = sym (ap (λ b. cond b (if_message (named_message mailbox base account.messages) given) NoMailbox) none)

-- a file with a name of other flags tells the message with these flags
pub marked_message : (mailbox name : List ℕ) (file : FileRow) (flags : Flags) → ((length : ℕ) → message_of name length ≡ record { base = base_of file.name; octets = octets_of file.name length; flags = flags })
    → message_in mailbox (record { name = name; length = file.length }) ≡ with_flags flags (message_in mailbox file)
marked_message mailbox name file flags reads = ap (λ (f : FileMessage). let m : Message = record { mailbox = mailbox; base = f.base; octets = f.octets; flags = f.flags } in m) (reads file.length)

-- a message that stays in its mailbox changes no usage
pub none_lined : (roots : List RootSpec) (mailbox : List ℕ) (octets : ℕ) (limits : List LimitNumbers) (books : List Book) → BooksLined (length roots) (change_at roots (Some mailbox) (Some mailbox)) octets limits books books
none_lined roots mailbox octets limits books = record {
  count = refl;
  done = λ root inside. by (governs_at roots root mailbox) (book_at books root) _;
  left = λ root far. refl;
}
  where
    by : (b : Bool) (book : Book) (own : LimitNumbers) → BookLined (change_by b b) octets own book book
    by true book own = refl
    by false book own = refl

pub no_lines : (roots : List RootSpec) (mailbox : List ℕ) (octets : ℕ) (limits : List LimitNumbers) (books : List Book) (told : Option Told)
    → Changes (OnFiles (LedgersLined (length roots) (change_at roots (Some mailbox) (Some mailbox)) octets limits books books)) told told
no_lines roots mailbox octets limits books told =
    changes_same {X = Told} _ (λ (x : Told). record {
      same = refl;
      done = λ root inside. by (governs_at roots root mailbox) (ledger_at x.files root) _ _ _;
      left = λ root far. refl;
    }) told
  where
    by : (b : Bool) (ledger : Option (List ℕ)) (own : LimitNumbers) (book : Book) (standing : Standing) → LedgerLined (change_by b b) octets own book standing ledger ledger
    by true ledger own book standing = refl
    by false ledger own book standing = refl

-- the row of a mailbox and a name is gone
abbrev pub RowRemoved : List ℕ → List ℕ → Told → Told → Type 0
RowRemoved mailbox name told told' = told'.files ≡ record told.files { rows = removed_row mailbox name told.files.rows }

-- or it has another mailbox and name
abbrev pub RowRenamed : List ℕ → List ℕ → List ℕ → List ℕ → Told → Told → Type 0
RowRenamed from name to other told told' = told'.files ≡ record told.files { rows = renamed_row from name to other told.files.rows }
