-- The named message of the account is told by the file that was found.
use Rattle.std.proofs.Common.{◌≡◌, ℕ, Bool, true, false, cond, ◌&&◌, ◌||◌, List, [], ◌∷◌, sum_by, Option, Some, None, bytes_eq, refl, sym, ap, ◌∙◌, arith}
use Rattle.std.specs.Option.{option_map}
use Rattle.std.proofs.lemmas.Bool.{false≢true}
use Rattle.std.proofs.lemmas.Slice.Eq.{bytes_eq-Decides}
use Rattle.std.proofs.lemmas.List.Sums.{sum_by-cons}
use Rattle.keeper.specs.Files.{Files, Row, has_row, is_named, listed, removed, renamed}
use Rattle.keeper.specs.declared.rows.FileRow.{FileRow}
use Rattle.account_core.specs.Account.{Account, Message}
use Rattle.account_core.specs.Messages.{is_message, named_message, how_many, removed as messages_removed, changed}
use Rattle.account_core.proofs.MessageSums.{none_named, same_named, removed_sum, changed_sum}
use Rattle.message_names.specs.Parts.{base_of}
use Rattle.account_ledger.specs.Messages.{message_in, messages_in}
use Rattle.account_ledger.specs.NamedFiles.{file_named}
use Rattle.account_ledger.specs.Lives.{Live, Shows}
use Rattle.account_ledger.proofs.Weighing.{weigh, rows_weigh, is_mailbox_of}
use Rattle.account_ledger.proofs.NamedFiles.{named_in, file_has_base, removed_weighs, renamed_weighs}
use Rattle.account_ledger.proofs.Shifting.{Shifted, FilesShifted}

some_named : (mailbox base : List ℕ) (messages : List Message) (o : Option Message) → named_message mailbox base messages ≡ o → (o ≡ None → how_many mailbox base messages ≡ 0)
some_named mailbox base messages o is none = (none_named mailbox base messages).1 (is ∙ none)

-- the message that a mailbox and a base name in the account is that of the file
pub named_by : (l : Live) (account : Account) (shows : Shows l account) (mailbox base : List ℕ) (found : Option FileRow) → is_mailbox_of l.mailboxes mailbox ≡ true
    → found ≡ file_named base (listed mailbox shows.told.files.rows) → named_message mailbox base account.messages ≡ option_map (message_in mailbox) found
named_by l account shows mailbox base found there is = by (option_map (message_in mailbox) found) told
  where
    inside : is_mailbox_of account.mailboxes mailbox ≡ true
    inside = ap (λ boxes. is_mailbox_of boxes mailbox) shows.stands.mailboxes_are ∙ there

    told : named_message mailbox base (messages_in account.mailboxes shows.told.files.rows) ≡ option_map (message_in mailbox) found
    told = named_in mailbox base account.mailboxes shows.told.files.rows inside ∙ ap (option_map (message_in mailbox)) (sym is)

    many : how_many mailbox base (messages_in account.mailboxes shows.told.files.rows) ≡ how_many mailbox base account.messages
    many = shows.stands.stand (λ m. cond (is_message mailbox base m) 1 0)

    by : (o : Option Message) → named_message mailbox base (messages_in account.mailboxes shows.told.files.rows) ≡ o → named_message mailbox base account.messages ≡ o
    by None e = (none_named mailbox base account.messages).0 (sym many ∙ (none_named mailbox base (messages_in account.mailboxes shows.told.files.rows)).1 e)
    by (Some message) e =
        same_named (messages_in account.mailboxes shows.told.files.rows) account.messages shows.stands.stand mailbox base message (let a = shows.orderly.apart mailbox base in omega arith) e

-- no file of a mailbox has a base that no message of it has
zero_row : (mailboxes : List (List ℕ)) (mailbox name base : List ℕ) → is_mailbox_of mailboxes mailbox ≡ true → base_of name ≡ base → (row : Row)
    → weigh (λ m. cond (is_message mailbox base m) 1 0) mailboxes row ≡ 0 → is_named mailbox name row ≡ false
zero_row mailboxes mailbox name base there is row zero = step (bytes_eq row.mailbox mailbox) (bytes_eq row.name name) refl refl
  where
    step : (b c : Bool) → bytes_eq row.mailbox mailbox ≡ b → bytes_eq row.name name ≡ c → (b && c) ≡ false
    step false c box called = refl
    step true false box called = refl
    step true true box called =
        let e : row.mailbox ≡ mailbox = (bytes_eq-Decides row.mailbox mailbox).0 box in
        let f : row.name ≡ name = (bytes_eq-Decides row.name name).0 called in
        let g : is_mailbox_of mailboxes row.mailbox ≡ true = ap (is_mailbox_of mailboxes) e ∙ there in
        let k : bytes_eq (base_of row.name) base ≡ true = (bytes_eq-Decides (base_of row.name) base).1 (ap base_of f ∙ is) in
        let z : cond (is_mailbox_of mailboxes row.mailbox) (cond (bytes_eq row.mailbox mailbox && bytes_eq (base_of row.name) base) 1 0) 0 ≡ 0 = zero in
        absurd (let y = rw (g, box, k) at z in omega arith)

pub no_row : (mailboxes : List (List ℕ)) (mailbox name base : List ℕ) → is_mailbox_of mailboxes mailbox ≡ true → base_of name ≡ base → (rows : List Row)
    → sum_by (weigh (λ m. cond (is_message mailbox base m) 1 0) mailboxes) rows ≡ 0 → has_row mailbox name rows ≡ false
no_row mailboxes mailbox name base there is [] zero = refl
no_row mailboxes mailbox name base there is (row ∷ rows) zero =
    let e = sum_by-cons (weigh (λ m. cond (is_message mailbox base m) 1 0) mailboxes) row rows in
    let first : weigh (λ m. cond (is_message mailbox base m) 1 0) mailboxes row ≡ 0 = omega arith in
    let rest : sum_by (weigh (λ m. cond (is_message mailbox base m) 1 0) mailboxes) rows ≡ 0 = omega arith in
    ap (λ b. b || has_row mailbox name rows) (zero_row mailboxes mailbox name base there is row first) ∙ no_row mailboxes mailbox name base there is rows rest

-- one message of a list is gone, or has changed
pub removed_shifted : (mailbox base : List ℕ) (message : Message) (messages : List Message) → named_message mailbox base messages ≡ Some message → Shifted (Some message) None messages (messages_removed mailbox base messages)
removed_shifted mailbox base message messages named = record {
  sums = λ weight. let e = removed_sum weight message mailbox base messages named in omega arith;
  there = λ weight. let e = removed_sum weight message mailbox base messages named in omega arith;
}

pub changed_shifted : (mailbox base : List ℕ) (change : Message → Message) (message : Message) (messages : List Message) → named_message mailbox base messages ≡ Some message
    → Shifted (Some message) (Some (change message)) messages (changed mailbox base change messages)
changed_shifted mailbox base change message messages named = record {
  sums = λ weight. changed_sum weight message change mailbox base messages named;
  there = λ weight. let e = removed_sum weight message mailbox base messages named in omega arith;
}

-- the file is removed, or has another mailbox and name
pub files_removed : (mailboxes : List (List ℕ)) (mailbox base : List ℕ) (file : FileRow) (files files' : Files) → is_mailbox_of mailboxes mailbox ≡ true → Some file ≡ file_named base (listed mailbox files.rows)
    → files' ≡ record files { rows = removed mailbox file.name files.rows } → FilesShifted mailboxes (Some (message_in mailbox file)) None files files'
files_removed mailboxes mailbox base file files files' there found is =
    rw is (record {
      rows = λ weight. let e = removed_weighs mailbox base file mailboxes there weight files.rows (sym found) (file_has_base mailbox base file files.rows (sym found)) in omega arith;
      ledgers = λ root. refl;
    })

pub files_renamed : (mailboxes : List (List ℕ)) (mailbox base to name : List ℕ) (file : FileRow) (message : Message) (files files' : Files) → is_mailbox_of mailboxes mailbox ≡ true → is_mailbox_of mailboxes to ≡ true
    → Some file ≡ file_named base (listed mailbox files.rows) → message_in to (record { name = name; length = file.length }) ≡ message
    → files' ≡ record files { rows = renamed mailbox file.name to name files.rows } → FilesShifted mailboxes (Some (message_in mailbox file)) (Some message) files files'
files_renamed mailboxes mailbox base to name file message files files' there target found same is =
    rw (is, ← same) (record {
      rows = λ weight. renamed_weighs mailbox base file mailboxes there weight to name target files.rows (sym found) (file_has_base mailbox base file files.rows (sym found));
      ledgers = λ root. refl;
    })

-- how many files of a mailbox have a base
rows_with : (l : Live) (account : Account) (shows : Shows l account) (mailbox base : List ℕ)
    → sum_by (weigh (λ m. cond (is_message mailbox base m) 1 0) l.mailboxes) shows.told.files.rows ≡ how_many mailbox base account.messages
rows_with l account shows mailbox base =
    sym (rows_weigh (λ m. cond (is_message mailbox base m) 1 0) l.mailboxes shows.told.files.rows shows.whole.mailboxes.different)
    ∙ ap (λ b. sum_by (λ m. cond (is_message mailbox base m) 1 0) (messages_in b shows.told.files.rows)) (sym shows.stands.mailboxes_are) ∙ shows.stands.stand (λ m. cond (is_message mailbox base m) 1 0)

-- no file of a mailbox has a base that no message of it has
pub none_there : (l : Live) (account : Account) (shows : Shows l account) (mailbox name base : List ℕ) → is_mailbox_of l.mailboxes mailbox ≡ true → base_of name ≡ base → how_many mailbox base account.messages ≡ 0
    → has_row mailbox name shows.told.files.rows ≡ false
none_there l account shows mailbox name base there is none =
    no_row l.mailboxes mailbox name base there is shows.told.files.rows (rows_with l account shows mailbox base ∙ none)

-- a name that differs from a removed one is there as before
other_row : (mailbox name other : List ℕ) (rows : List Row) → bytes_eq name other ≡ false → has_row mailbox other (removed mailbox name rows) ≡ has_row mailbox other rows
other_row mailbox name other [] differs = refl
other_row mailbox name other (row ∷ rows) differs = by (is_named mailbox name row) refl (other_row mailbox name other rows differs)
  where
    not_other : (c : Bool) → bytes_eq row.name name ≡ true → bytes_eq row.name other ≡ c → c ≡ false
    not_other false is si = refl
    not_other true is si = sym si ∙ ap (λ n. bytes_eq n other) ((bytes_eq-Decides row.name name).0 is) ∙ differs

    named_so : (b c : Bool) → (b && c) ≡ true → c ≡ true
    named_so true c e = e
    named_so false c e = absurd (false≢true e)

    by : (b : Bool) → is_named mailbox name row ≡ b → has_row mailbox other (removed mailbox name rows) ≡ has_row mailbox other rows
        → has_row mailbox other (cond b rows (row ∷ removed mailbox name rows)) ≡ is_named mailbox other row || has_row mailbox other rows
    by true is rest =
        let e : bytes_eq row.name other ≡ false = not_other (bytes_eq row.name other) (named_so (bytes_eq row.mailbox mailbox) (bytes_eq row.name name) is) refl in
        sym (ap (λ c. (bytes_eq row.mailbox mailbox && c) || has_row mailbox other rows) e ∙ and_none (bytes_eq row.mailbox mailbox))
      where
        and_none : (b : Bool) → ((b && false) || has_row mailbox other rows) ≡ has_row mailbox other rows
        and_none true = refl
        and_none false = refl
    by false is rest = ap (λ b. is_named mailbox other row || b) rest

-- another name with the base of the found file is free
pub free_name : (l : Live) (account : Account) (shows : Shows l account) (mailbox base name : List ℕ) (file : FileRow) → is_mailbox_of l.mailboxes mailbox ≡ true
    → Some file ≡ file_named base (listed mailbox shows.told.files.rows) → base_of name ≡ base → bytes_eq file.name name ≡ false → has_row mailbox name shows.told.files.rows ≡ false
free_name l account shows mailbox base name file there found is differs =
    let rows = shows.told.files.rows in
    let named : base_of file.name ≡ base = file_has_base mailbox base file rows (sym found) in
    let fewer = removed_weighs mailbox base file l.mailboxes there (λ m. cond (is_message mailbox base m) 1 0) rows (sym found) named in
    let one : ◌≡◌ {A = ℕ} (cond (is_message mailbox base (message_in mailbox file)) 1 0) 1 = ap (λ b. cond (b && bytes_eq (base_of file.name) base) 1 0) ((bytes_eq-Decides mailbox mailbox).1 refl) ∙ ap (λ b. cond b 1 0) ((bytes_eq-Decides (base_of file.name) base).1 named) in
    let all = rows_with l account shows mailbox base in
    let few = shows.orderly.apart mailbox base in
    let zero : sum_by (weigh (λ m. cond (is_message mailbox base m) 1 0) l.mailboxes) (removed mailbox file.name rows) ≡ 0 = omega arith in
    sym (other_row mailbox file.name name rows differs) ∙ no_row l.mailboxes mailbox name base there is (removed mailbox file.name rows) zero

-- a file that has its own mailbox and name again is as it was
pub renamed_same : (mailbox name to other : List ℕ) (rows : List Row) → mailbox ≡ to → name ≡ other → renamed mailbox name to other rows ≡ rows
renamed_same mailbox name to other [] box is = refl
renamed_same mailbox name to other (row ∷ rows) box is = by (is_named mailbox name row) refl (renamed_same mailbox name to other rows box is)
  where
    parts : (b c : Bool) → (b && c) ≡ true → (b ≡ true) × (c ≡ true)
    parts true c e = (refl, e)
    parts false c e = absurd (false≢true e)

    by : (b : Bool) → is_named mailbox name row ≡ b → renamed mailbox name to other rows ≡ rows → cond b (record row { mailbox = to; name = other } ∷ rows) (row ∷ renamed mailbox name to other rows) ≡ row ∷ rows
    by true e rest =
        let both = parts (bytes_eq row.mailbox mailbox) (bytes_eq row.name name) e in
        let m : to ≡ row.mailbox = sym box ∙ sym ((bytes_eq-Decides row.mailbox mailbox).0 both.0) in
        let n : other ≡ row.name = sym is ∙ sym ((bytes_eq-Decides row.name name).0 both.1) in
        ap (λ x. record row { mailbox = x; name = other } ∷ rows) m ∙ ap (λ x. let r : Row = record row { name = x } in r ∷ rows) n
    by false e rest = ap (λ rs. row ∷ rs) rest
