-- A fresh scan gives the usage, where the files stand for the account.
use Rattle.std.proofs.Common.{◌≡◌, ℕ, ◌^◌, ◌<◌, ◌≤◌, Bool, true, false, cond, List, [], length, get_or, sum_by, None, arith, refl, sym, ap, ◌∙◌}
use Rattle.std.proofs.lemmas.List.Sums.{sum_by-le-sum_by}
use Rattle.quota_roots.specs.declared.root.RootSpec.{RootSpec}
use Rattle.quota_roots.specs.Governing.{governs, governs_at}
use Rattle.quota_roots.proofs.GoverningLemmas.{governs_at_get_or}
use Rattle.keeper.specs.Files.{Row, listed}
use Rattle.keeper.specs.declared.rows.FileRow.{FileRow}
use Rattle.account_core.specs.Account.{Account, Message, counted, usage}
use Rattle.quota_units.proofs.SumLemmas.{same_totals}
use Rattle.account_core.proofs.Admitting.{totals_at-usages}
use Rattle.account_ledger.specs.Messages.{message_in, messages_of, messages_in, StandFor}
use Rattle.quota_units.specs.Sums.{cut_sum}
use Rattle.root_ledgers.specs.Scans.{scan, scanned_octets, scanned_count, size_of_file}
use Rattle.account_ledger.specs.Stores.{fresh_scan, usage_at}
use Rattle.root_ledgers.proofs.Sums.{same_sums, sum_map, sum_flat_map, sum_ones, sum_where}

abbrev pub no_root : RootSpec
no_root = record { name = []; prefix = None }

pub at_most : (b : Bool) (n : ℕ) → cond b n 0 ≤ n
at_most true n = omega arith
at_most false n = omega arith

-- what the root of this number counts of the messages that files tell
module _ (roots : List RootSpec) (root : ℕ) (inside : root < length roots) (rows : List Row) (weight : Message → ℕ) (size : FileRow → ℕ)
    (same : (mailbox : List ℕ) (file : FileRow) → weight (message_in mailbox file) ≡ size file) where
  one_mailbox : (mailbox : List ℕ)
      → sum_by (λ (m : Message). cond (governs (get_or roots root no_root) m.mailbox) (weight m) 0) (messages_of rows mailbox) ≡ cond (governs_at roots root mailbox) (sum_by size (listed mailbox rows)) 0
  one_mailbox mailbox =
      let b = governs (get_or roots root no_root) mailbox in
      sum_map (λ (m : Message). cond (governs (get_or roots root no_root) m.mailbox) (weight m) 0) (message_in mailbox) (listed mailbox rows)
      ∙ sum_where b (λ (f : FileRow). weight (message_in mailbox f)) (listed mailbox rows)
      ∙ ap (λ n. cond b n 0) (same_sums (λ (f : FileRow). weight (message_in mailbox f)) size (listed mailbox rows) (same mailbox))
      ∙ ap (λ c. cond c (sum_by size (listed mailbox rows)) 0) (sym (governs_at_get_or roots mailbox root no_root inside))

  counted_in : (mailboxes : List (List ℕ))
      → counted (get_or roots root no_root) weight (messages_in mailboxes rows) ≡ sum_by (λ m. cond (governs_at roots root m) (sum_by size (listed m rows)) 0) mailboxes
  counted_in mailboxes =
      sum_flat_map (λ (m : Message). cond (governs (get_or roots root no_root) m.mailbox) (weight m) 0) (messages_of rows) mailboxes
      ∙ same_sums (λ m. sum_by (λ (x : Message). cond (governs (get_or roots root no_root) x.mailbox) (weight x) 0) (messages_of rows m))
      (λ m. cond (governs_at roots root m) (sum_by size (listed m rows)) 0) mailboxes one_mailbox

-- no sum over the messages comes near the cut
abbrev pub IsBounded : Account → Type 0
IsBounded account = (sum_by (λ (m : Message). m.octets) account.messages ≤ 2 ^ 61) × (length account.messages ≤ 2 ^ 61)

module _ (roots : List RootSpec) (root : ℕ) (inside : root < length roots) (account : Account) (mailboxes : List (List ℕ)) (rows : List Row)
    (same : account.mailboxes ≡ mailboxes) (stand : StandFor rows account) where
  abbrev spec : RootSpec
  spec = get_or roots root no_root

  octets_are : scanned_octets roots root mailboxes rows ≡ (usage spec account).octets
  octets_are =
      sym (counted_in roots root inside rows (λ m. m.octets) size_of_file (λ mailbox file. refl) mailboxes)
      ∙ ap (λ ms. counted spec (λ m. m.octets) (messages_in ms rows)) (sym same)
      ∙ stand (λ (m : Message). cond (governs spec m.mailbox) m.octets 0)

  deliveries_are : scanned_count roots root mailboxes rows ≡ (usage spec account).count
  deliveries_are =
      same_sums (λ m. cond (governs_at roots root m) (length (listed m rows)) 0) (λ m. cond (governs_at roots root m) (sum_by (λ (f : FileRow). 1) (listed m rows)) 0) mailboxes
      (λ m. ap (λ n. cond (governs_at roots root m) n 0) (sym (sum_ones (listed m rows))))
      ∙ sym (counted_in roots root inside rows (λ m. 1) (λ f. 1) (λ mailbox file. refl) mailboxes)
      ∙ ap (λ ms. counted spec (λ m. 1) (messages_in ms rows)) (sym same)
      ∙ stand (λ (m : Message). cond (governs spec m.mailbox) 1 0)

  -- with no cut
  pub fresh_is_usage : fresh_scan roots root mailboxes rows ≡ usage_at roots root account
  fresh_is_usage = same_totals octets_are deliveries_are ∙ sym (totals_at-usages roots account root no_root inside)

  pub scan_is_usage : IsBounded account → scan roots root mailboxes rows ≡ usage_at roots root account
  scan_is_usage bounded =
      let o = octets_are in
      let k = deliveries_are in
      let a : (usage spec account).octets ≤ sum_by (λ (m : Message). m.octets) account.messages =
      sum_by-le-sum_by (λ (m : Message). cond (governs spec m.mailbox) m.octets 0) (λ (m : Message). m.octets) account.messages (λ m. at_most (governs spec m.mailbox) m.octets) in
      let b : (usage spec account).count ≤ sum_by (λ (m : Message). 1) account.messages =
      sum_by-le-sum_by (λ (m : Message). cond (governs spec m.mailbox) 1 0) (λ (m : Message). 1) account.messages (λ m. at_most (governs spec m.mailbox) 1) in
      let c = sum_ones account.messages in
      let e : cut_sum (scanned_octets roots root mailboxes rows) ≡ (usage spec account).octets = omega (arith, bounded.0) in
      let f : cut_sum (scanned_count roots root mailboxes rows) ≡ (usage spec account).count = omega (arith, bounded.1) in
      same_totals e f ∙ sym (totals_at-usages roots account root no_root inside)
