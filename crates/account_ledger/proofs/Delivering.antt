-- A delivery: its file is free, and what it makes of the account.
use Rattle.std.proofs.Common.{◌≡◌, ℕ, ◌+◌, ◌<◌, ◌≤◌, ◌^◌, cond, true, false, List, [], ◌∷◌, ◌++◌, length, Some, None, refl, sym, ap, ◌∙◌, arith}
use Rattle.std.proofs.lemmas.List.Sums.{sum_by_push}
use Rattle.quota_units.specs.declared.flags.Flags.{Flags}
use Rattle.quota_units.specs.declared.resource.Resource.{Resource}
use Rattle.quota_roots.specs.declared.root.RootSpec.{RootSpec}
use Rattle.keeper.specs.Files.{Files, Row, has_row}
use Rattle.keeper.specs.Calls.{Told}
use Rattle.message_names.specs.Sizes.{cut_size}
use Rattle.message_names.specs.Messages.{message_of, FileMessage}
use Rattle.message_names.specs.Parts.{base_of}
use Rattle.account_core.specs.declared.calls.Call.TheVariants.{Deliver}
use Rattle.account_core.specs.declared.calls.Reply.TheVariants.{NoMailbox, Over, Delivered}
use Rattle.account_core.specs.Account.{Account, Message}
use Rattle.account_core.specs.Delivering.{delivered_base}
use Rattle.account_core.specs.Machine.{has_mailbox, over_in, over_or, reply_of, delivered_after, delivered_message, step}
use Rattle.account_ledger.specs.NamedFiles.{IsDeliveryName}
use Rattle.account_ledger.specs.Lives.{Live, Shows}
use Rattle.account_ledger.proofs.Weighing.{is_mailbox_of, told_by, weigh}
use Rattle.account_ledger.proofs.Found.{none_there}
use Rattle.account_ledger.proofs.Shifting.{FilesShifted, Moves, Shifted}

-- the account after a delivery that is accepted
pub step_delivered : (roots : List RootSpec) (account : Account) (mailbox : List ℕ) (octets : ℕ) (flags : Flags) → has_mailbox account mailbox ≡ true → over_in roots account mailbox octets ≡ None
    → step roots account (Deliver mailbox octets flags)
    ≡ record account { messages = account.messages ++ delivered_message account.epoch (account.deliveries + 1) mailbox octets flags ∷ []; deliveries = account.deliveries + 1; generation = account.generation + 1 }
step_delivered roots account mailbox octets flags there fits =
    ap (delivered_after account mailbox octets flags) (ap (λ b. cond b (over_or (over_in roots account mailbox octets) (Delivered (account.deliveries + 1))) NoMailbox) there ∙ ap (λ o. over_or o (Delivered (account.deliveries + 1))) fits)

brought : (messages : List Message) (m : Message) → Shifted None (Some m) messages (messages ++ m ∷ [])
brought messages m = record { sums = λ weight. (let e = sum_by_push weight messages m in omega arith); there = λ weight. omega arith }

pub there_in : (l : Live) (account : Account) → Shows l account → (mailbox : List ℕ) → is_mailbox_of l.mailboxes mailbox ≡ true → has_mailbox account mailbox ≡ true
there_in l account shows mailbox there = ap (λ boxes. is_mailbox_of boxes mailbox) shows.stands.mailboxes_are ∙ there

module _ (l : Live) (account : Account) (shows : Shows l account) (mailbox : List ℕ) (octets : ℕ) (flags : Flags) (there : is_mailbox_of l.mailboxes mailbox ≡ true) where
  number_is : account.deliveries + 1 ≡ l.deliveries + 1
  number_is = ap (λ n. n + 1) shows.stands.deliveries_are

  -- what an accepted delivery makes of the account
  pub moves_delivered : octets ≤ 67108864 → over_in l.roots account mailbox octets ≡ None
      → Moves None (Some (delivered_message l.epoch (l.deliveries + 1) mailbox octets flags)) octets (l.deliveries + 1) (l.generation + 1) account (step l.roots account (Deliver mailbox octets flags))
  moves_delivered small fits =
      rw (step_delivered l.roots account mailbox octets flags (there_in l account shows mailbox there) fits, number_is, shows.stands.epoch_is) (record {
        limits = refl;
        mailboxes = refl;
        epoch = refl;
        deliveries_are = refl;
        generation_is = ap (λ n. n + 1) shows.stands.generation_is;
        shifted = brought account.messages (delivered_message l.epoch (l.deliveries + 1) mailbox octets flags);
        has = tt;
        had = refl;
        small = omega arith;
        grows = omega arith;
      })

  pub delivered_replied : over_in l.roots account mailbox octets ≡ None → Delivered (l.deliveries + 1) ≡ reply_of l.roots account (Deliver mailbox octets flags)
  delivered_replied fits =
      sym (ap (λ b. cond b (over_or (over_in l.roots account mailbox octets) (Delivered (account.deliveries + 1))) NoMailbox) (there_in l account shows mailbox there)
      ∙ ap (λ o. over_or o (Delivered (account.deliveries + 1))) fits ∙ ap (λ n. Delivered n) number_is)

  pub over_replied : (root : ℕ) (resource : Resource) → over_in l.roots account mailbox octets ≡ Some (root, resource) → Over root resource ≡ reply_of l.roots account (Deliver mailbox octets flags)
  over_replied root resource over =
      sym (ap (λ b. cond b (over_or (over_in l.roots account mailbox octets) (Delivered (account.deliveries + 1))) NoMailbox) (there_in l account shows mailbox there)
      ∙ ap (λ o. over_or o (Delivered (account.deliveries + 1))) over)

  pub over_leaves : (root : ℕ) (resource : Resource) → over_in l.roots account mailbox octets ≡ Some (root, resource) → step l.roots account (Deliver mailbox octets flags) ≡ account
  over_leaves root resource over = ap (delivered_after account mailbox octets flags) (sym (over_replied root resource over))

  -- the file of the next delivery is free
  pub row_free : (name : List ℕ) → l.deliveries + 1 < 2 ^ 64 → base_of name ≡ delivered_base l.epoch (l.deliveries + 1) → has_row mailbox name shows.told.files.rows ≡ false
  row_free name below is =
      let n = shows.stands.deliveries_are in
      none_there l account shows mailbox name (delivered_base l.epoch (l.deliveries + 1)) there is
      (rw shows.stands.epoch_is at (shows.orderly.unused (l.deliveries + 1) (omega arith) below mailbox))

pub nowhere_replied : (roots : List RootSpec) (account : Account) (mailbox : List ℕ) (octets : ℕ) (flags : Flags) → has_mailbox account mailbox ≡ false → NoMailbox ≡ reply_of roots account (Deliver mailbox octets flags)
nowhere_replied roots account mailbox octets flags none = sym (ap (λ b. cond b (over_or (over_in roots account mailbox octets) (Delivered (account.deliveries + 1))) NoMailbox) none)

pub nowhere_leaves : (roots : List RootSpec) (account : Account) (mailbox : List ℕ) (octets : ℕ) (flags : Flags) → has_mailbox account mailbox ≡ false → step roots account (Deliver mailbox octets flags) ≡ account
nowhere_leaves roots account mailbox octets flags none = ap (delivered_after account mailbox octets flags) (sym (nowhere_replied roots account mailbox octets flags none))

file_told : (mailbox name bytes base : List ℕ) (octets : ℕ) (flags : Flags) → message_of name (length bytes) ≡ record { base = base; octets = cut_size octets; flags = flags } → octets ≤ 67108864
    → told_by (record { mailbox = mailbox; name = name; octets = bytes }) ≡ record { mailbox = mailbox; base = base; octets = octets; flags = flags }
file_told mailbox name bytes base octets flags reads small =
    ap (λ (f : FileMessage). let m : Message = record { mailbox = mailbox; base = f.base; octets = f.octets; flags = f.flags } in m) reads
    ∙ ap (λ n. let m : Message = record { mailbox = mailbox; base = base; octets = n; flags = flags } in m) (let e : cut_size octets ≡ octets = omega arith in e)

-- a file that is put brings its message
pub files_put : (mailboxes : List (List ℕ)) (epoch number : ℕ) (mailbox name bytes : List ℕ) (octets : ℕ) (flags : Flags) (files files1 : Files) → is_mailbox_of mailboxes mailbox ≡ true
    → IsDeliveryName epoch number octets flags name → octets ≤ 67108864
    → files1 ≡ record files { rows = files.rows ++ record { mailbox = mailbox; name = name; octets = bytes } ∷ [] }
    → FilesShifted mailboxes None (Some (delivered_message epoch number mailbox octets flags)) files files1
files_put mailboxes epoch number mailbox name bytes octets flags files files1 there named small put =
    let message = delivered_message epoch number mailbox octets flags in
    let row : Row = record { mailbox = mailbox; name = name; octets = bytes } in
    let is : told_by row ≡ message = file_told mailbox name bytes (delivered_base epoch number) octets flags (named.reads (length bytes)) small in
    rw put (record {
      rows = λ weight.
          let e = sum_by_push (weigh weight mailboxes) files.rows row in
          let f : weigh weight mailboxes row ≡ weight message = ap (λ b. cond b (weight (told_by row)) 0) there ∙ ap weight is in
          omega arith;
      ledgers = λ root. refl;
    })

pub nowhere_in : (l : Live) (account : Account) → Shows l account → (mailbox : List ℕ) → is_mailbox_of l.mailboxes mailbox ≡ false → has_mailbox account mailbox ≡ false
nowhere_in l account shows mailbox none = ap (λ boxes. is_mailbox_of boxes mailbox) shows.stands.mailboxes_are ∙ none

-- one more file
abbrev pub RowPut : List ℕ → List ℕ → List ℕ → Told → Told → Type 0
RowPut mailbox name octets told told' = told'.files ≡ record told.files { rows = told.files.rows ++ record { mailbox = mailbox; name = name; octets = octets } ∷ [] }
