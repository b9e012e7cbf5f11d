-- A move to another mailbox: what it is answered, and what it makes of the account.
use Rattle.std.proofs.Common.{◌≡◌, ℕ, ◌+◌, Bool, true, false, cond, List, bytes_eq, Some, None, is_some, refl, sym, ap, ◌∙◌, arith}
use Rattle.std.proofs.lemmas.Slice.Eq.{bytes_eq-Decides}
use Rattle.quota_units.specs.declared.resource.Resource.{Resource}
use Rattle.quota_roots.specs.declared.root.RootSpec.{RootSpec}
use Rattle.keeper.specs.Files.{listed, has_row}
use Rattle.keeper.specs.declared.rows.FileRow.{FileRow}
use Rattle.account_core.specs.declared.calls.Call.TheVariants.{Move}
use Rattle.account_core.specs.declared.calls.Reply.{Reply}
use Rattle.account_core.specs.declared.calls.Reply.TheVariants.{NoMailbox, NoMessage, NameTaken, Over, Moved}
use Rattle.account_core.specs.Account.{Account, Message}
use Rattle.account_core.specs.Legality.{MayMove}
use Rattle.account_core.specs.Messages.{named_message, changed, with_mailbox}
use Rattle.account_core.specs.Machine.{has_mailbox, over_of, over_or, gaining, move_reply, moving_reply, move_between_reply, moved_after, reply_of, step}
use Rattle.account_core.proofs.MessageSums.{none_named}
use Rattle.account_core.proofs.Moving.{move_is}
use Rattle.account_ledger.specs.Messages.{message_in}
use Rattle.account_ledger.specs.NamedFiles.{IsThere, file_named}
use Rattle.account_ledger.specs.Lives.{Live, Shows}
use Rattle.account_ledger.proofs.Weighing.{is_mailbox_of}
use Rattle.account_ledger.proofs.NamedFiles.{file_has_base}
use Rattle.account_ledger.proofs.Shifting.{Moves}
use Rattle.account_ledger.proofs.Found.{named_by, none_there, changed_shifted}
use Rattle.account_ledger.proofs.Delivering.{there_in}
use Rattle.account_ledger.proofs.Removing.{octets_small}

-- answers, by what is there
reply_there : (roots : List RootSpec) (account : Account) (from base to : List ℕ) → has_mailbox account from ≡ true → has_mailbox account to ≡ true
    → move_reply roots account from base to ≡ moving_reply roots account from base to (named_message from base account.messages)
reply_there roots account from base to source target =
    ap (λ b. cond b (cond (has_mailbox account to) (moving_reply roots account from base to (named_message from base account.messages)) NoMailbox) NoMailbox) source
    ∙ ap (λ b. cond b (moving_reply roots account from base to (named_message from base account.messages)) NoMailbox) target

pub reply_missing : (roots : List RootSpec) (account : Account) (from base to : List ℕ) → true ≡ has_mailbox account from → true ≡ has_mailbox account to → named_message from base account.messages ≡ None
    → NoMessage ≡ move_reply roots account from base to
reply_missing roots account from base to source target none = sym (reply_there roots account from base to (sym source) (sym target) ∙ ap (moving_reply roots account from base to) none)

pub reply_same : (roots : List RootSpec) (account : Account) (from base to : List ℕ) (message : Message) → IsThere from base to message account → bytes_eq from to ≡ true → Moved ≡ move_reply roots account from base to
reply_same roots account from base to message there same =
    sym (reply_there roots account from base to there.source there.target ∙ ap (moving_reply roots account from base to) there.there
    ∙ ap (λ b. cond b Moved (move_between_reply roots account from base to message)) same)

pub reply_over : (roots : List RootSpec) (account : Account) (from base to : List ℕ) (message : Message) (root : ℕ) (resource : Resource) → MayMove account from base to message
    → over_of roots account (gaining roots from to) message.octets ≡ Some (root, resource) → Over root resource ≡ move_reply roots account from base to
reply_over roots account from base to message root resource may over = sym (move_is roots account from base to message may ∙ ap (λ o. over_or o Moved) over)

pub reply_moved : (roots : List RootSpec) (account : Account) (from base to : List ℕ) (message : Message) → MayMove account from base to message
    → over_of roots account (gaining roots from to) message.octets ≡ None → Moved ≡ move_reply roots account from base to
reply_moved roots account from base to message may fits = sym (move_is roots account from base to message may ∙ ap (λ o. over_or o Moved) fits)

-- the source or the target is not there
pub no_source : (roots : List RootSpec) (account : Account) (from base to : List ℕ) → has_mailbox account from ≡ false → NoMailbox ≡ reply_of roots account (Move from base to)
no_source roots account from base to none =
    sym (ap (λ b. cond b (cond (has_mailbox account to) (moving_reply roots account from base to (named_message from base account.messages)) NoMailbox) NoMailbox) none)

pub no_target : (roots : List RootSpec) (account : Account) (from base to : List ℕ) → has_mailbox account from ≡ true → has_mailbox account to ≡ false → NoMailbox ≡ reply_of roots account (Move from base to)
no_target roots account from base to source none =
    sym (ap (λ b. cond b (cond (has_mailbox account to) (moving_reply roots account from base to (named_message from base account.messages)) NoMailbox) NoMailbox) source
    ∙ ap (λ b. cond b (moving_reply roots account from base to (named_message from base account.messages)) NoMailbox) none)

-- a reply other than Moved leaves the account, and so does a move within a mailbox
pub refused_leaves : (roots : List RootSpec) (account : Account) (from base to : List ℕ) (given : Reply) → given ≡ reply_of roots account (Move from base to)
    → moved_after account from base to given ≡ account → step roots account (Move from base to) ≡ account
refused_leaves roots account from base to given is leaves = ap (moved_after account from base to) (sym is) ∙ leaves

pub within_leaves : (account : Account) (from base to : List ℕ) → bytes_eq from to ≡ true → moved_after account from base to Moved ≡ account
within_leaves account from base to same =
    ap (λ b. cond b account (record account { messages = changed from base (with_mailbox to) account.messages; generation = account.generation + 1 })) same

module _ (l : Live) (account : Account) (shows : Shows l account) (from base to : List ℕ) (source : is_mailbox_of l.mailboxes from ≡ true) (target : is_mailbox_of l.mailboxes to ≡ true) where
  pub missing_moved : None ≡ file_named base (listed from shows.told.files.rows) → NoMessage ≡ reply_of l.roots account (Move from base to)
  missing_moved none =
      reply_missing l.roots account from base to (sym (there_in l account shows from source)) (sym (there_in l account shows to target)) (named_by l account shows from base None source none)

  module _ (file : FileRow) (found : Some file ≡ file_named base (listed from shows.told.files.rows)) where
    abbrev message : Message
    message = message_in from file

    pub is_there : IsThere from base to message account
    is_there = record { source = there_in l account shows from source; target = there_in l account shows to target; there = named_by l account shows from base (Some file) source found }

    pub within_replied : bytes_eq from to ≡ true → Moved ≡ reply_of l.roots account (Move from base to)
    within_replied same = reply_same l.roots account from base to message is_there same

    pub taken_replied : (other : FileRow) → bytes_eq from to ≡ false → Some other ≡ file_named base (listed to shows.told.files.rows) → NameTaken ≡ reply_of l.roots account (Move from base to)
    taken_replied other apart taken =
        sym (reply_there l.roots account from base to is_there.source is_there.target ∙ ap (moving_reply l.roots account from base to) is_there.there
        ∙ ap (λ b. cond b Moved (move_between_reply l.roots account from base to message)) apart
        ∙ ap (λ o. cond (is_some o) NameTaken (over_or (over_of l.roots account (gaining l.roots from to) message.octets) Moved)) (named_by l account shows to base (Some other) target taken))

    module _ (free : None ≡ file_named base (listed to shows.told.files.rows)) (apart : bytes_eq from to ≡ false) where
      pub may : MayMove account from base to message
      may = record {
        source = is_there.source;
        target = is_there.target;
        there = is_there.there;
        apart = λ same. not_both (bytes_eq from to) apart ((bytes_eq-Decides from to).1 same);
        free = named_by l account shows to base None target free;
      }
        where
          not_both : (b : Bool) → b ≡ false → b ≡ true → ⊥
          not_both true e f = cc
          not_both false e f = cc

      -- the file's name is free in the target
      pub target_free : has_row to file.name shows.told.files.rows ≡ false
      target_free =
          none_there l account shows to file.name base target (file_has_base from base file shows.told.files.rows (sym found))
          ((none_named to base account.messages).1 may.free)

      pub moves_moved : over_of l.roots account (gaining l.roots from to) message.octets ≡ None
          → Moves (Some message) (Some (with_mailbox to message)) message.octets l.deliveries (l.generation + 1) account (step l.roots account (Move from base to))
      moves_moved fits =
          let is : step l.roots account (Move from base to) ≡ record account { messages = changed from base (with_mailbox to) account.messages; generation = account.generation + 1 } =
          ap (moved_after account from base to) (sym (reply_moved l.roots account from base to message may fits))
          ∙ ap (λ b. cond b account (record account { messages = changed from base (with_mailbox to) account.messages; generation = account.generation + 1 })) apart in
          rw is (record {
            limits = refl;
            mailboxes = refl;
            epoch = refl;
            deliveries_are = shows.stands.deliveries_are;
            generation_is = ap (λ n. n + 1) shows.stands.generation_is;
            shifted = changed_shifted from base (with_mailbox to) message account.messages is_there.there;
            has = refl;
            had = refl;
            small = octets_small from file;
            grows = omega arith;
          })
