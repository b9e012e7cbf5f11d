-- What is kept of settled roots tells the usage, the limits and the rows of the account, and what a message would be over.
use Rattle.std.proofs.Common.{◌≡◌, ℕ, ◌<◌, true, ◌||◌, List, [], ◌∷◌, length, Option, Some, None, refl, sym, ap, ◌∙◌}
use Rattle.std.proofs.Math.Bool.{or-true}
use Rattle.std.proofs.lemmas.Bool.{eq-eqb}
use Rattle.std.specs.Prelude.{nat_eq}
use Rattle.std.specs.List.{All, filter_map, cons_option, range_with_len, slice_get}
use Rattle.std.specs.Option.{option_map}
use Rattle.std.proofs.Math.ListN.{get_or-map}
use Rattle.quota_units.specs.declared.resource.Resource.{Resource}
use Rattle.quota_units.specs.declared.totals.Totals.{Totals}
use Rattle.quota_roots.specs.Governing.{governs_at}
use Rattle.quota_roots.specs.RootSets.{has_root}
use Rattle.quota_roots.specs.RootLists.{root_named}
use Rattle.quota_roots.proofs.GoverningLemmas.{governed_inside}
use Rattle.quota_roots.proofs.MemberLemmas.{Contains-from_is_in}
use Rattle.std.proofs.lemmas.List.Elements.{All-contains}
use Rattle.admission.specs.Fitting.{first_over, limits_at, over, totals_at}
use Rattle.account_core.specs.declared.calls.Call.TheVariants.{Quota as QuotaCall, Roots as RootsCall}
use Rattle.account_core.specs.declared.calls.Reply.TheVariants.{NoRoot, Quota, Roots}
use Rattle.account_core.specs.Account.{Account}
use Rattle.account_core.specs.Machine.{over_of, reply_of, usages}
use Rattle.account_core.proofs.Admitting.{totals_at-usages}
use Rattle.root_ledgers.specs.declared.book.Book.{Book}
use Rattle.root_ledgers.specs.declared.book.Standing.TheVariants.{Settled}
use Rattle.root_ledgers.specs.Settling.{book_at, no_book, standings_of}
use Rattle.account_ledger.specs.Rows.{kept_row, kept_rows, totals_of}
use Rattle.account_ledger.specs.Settling.{AreSettled}
use Rattle.account_ledger.specs.Stores.{standing_at, usage_at}
use Rattle.account_ledger.specs.Lives.{Live, Shows, store_of}
use Rattle.account_ledger.proofs.Replying.{governing_rows_are, map_where, no_root, quota_none, quota_some, row_at}
use Rattle.account_ledger.proofs.Showing.{standing_of}

module _ (l : Live) (account : Account) (shows : Shows l account) where
  pub settled_totals : (root : ℕ) → root < length l.roots → standing_at (standings_of l.books) root ≡ Settled → (book_at l.books root).totals ≡ usage_at l.roots root account
  settled_totals root inside settled = (shows.stands.kept root inside (sym (standing_of l.books root) ∙ settled)).totals

  each : length account.limits ≡ length l.roots
  each = ap length shows.stands.limits_are ∙ shows.whole.limits

  pub no_root_quota : (name : List ℕ) → root_named l.roots name ≡ None → NoRoot ≡ reply_of l.roots account (QuotaCall name)
  no_root_quota name nowhere = quota_none account name l.roots each nowhere

  pub quota_replied : (name : List ℕ) (root : ℕ) (totals : Totals) → root_named l.roots name ≡ Some root → root < length l.roots → totals ≡ usage_at l.roots root account
      → Quota (record { root = root; octets = totals.octets; count = totals.count; limits = limits_at l.limits root }) ≡ reply_of l.roots account (QuotaCall name)
  quota_replied name root totals place inside used =
      quota_some account name l.roots each root totals (limits_at l.limits root) place inside used (ap (λ ls. limits_at ls root) (sym shows.stands.limits_are))

  module _ (mailbox : List ℕ) (settled : (root : ℕ) → governs_at l.roots root mailbox ≡ true → standing_at (standings_of l.books) root ≡ Settled) where
    row_here : (root : ℕ) → governs_at l.roots root mailbox ≡ true → kept_row l.limits l.books root ≡ row_at l.roots account.limits account root
    row_here root governed =
        let inside = governed_inside l.roots mailbox root governed in
        let used = settled_totals root inside (settled root governed) ∙ totals_at-usages l.roots account root no_root inside in
        rw (used, shows.stands.limits_are) refl

    -- the rows that are kept are the machine's
    pub rows_replied : Roots (kept_rows l.roots l.limits l.books mailbox) ≡ reply_of l.roots account (RootsCall mailbox)
    rows_replied =
        ap (λ rows. Roots rows)
        (map_where (kept_row l.limits l.books) (row_at l.roots account.limits account) (λ root. governs_at l.roots root mailbox) row_here (range_with_len 0 (length l.roots))
        ∙ sym (governing_rows_are l.roots account mailbox each))

-- the first root over is the same if the totals of the roots of the set are
over_same : (f g : ℕ → Option (ℕ × Resource)) (numbers : List ℕ) → ((root : ℕ) → has_root numbers root ≡ true → f root ≡ g root) → filter_map f numbers ≡ filter_map g numbers
over_same f g [] same = refl
over_same f g (n ∷ numbers) same =
    ap (λ o. cons_option o (filter_map f numbers)) (same n (ap (λ b. b || has_root numbers n) (eq-eqb n n refl)))
    ∙ ap (λ rest. cons_option (g n) rest) (over_same f g numbers (λ root has. same root (ap (λ b. nat_eq n root || b) has ∙ or-true (nat_eq n root))))

pub over_is : (l : Live) (account : Account) (shows : Shows l account) (numbers : List ℕ) → ((root : ℕ) → has_root numbers root ≡ true → root < length l.roots) → AreSettled (has_root numbers) (store_of l) → (octets : ℕ)
    → first_over l.limits (totals_of l.books) numbers octets ≡ over_of l.roots account numbers octets
over_is l account shows numbers inside settled octets =
    ap (λ (found : List (ℕ × Resource)). slice_get found 0) (over_same
    (λ root. option_map (λ resource. (root, resource)) (over (limits_at l.limits root) (totals_at (totals_of l.books) root) octets))
    (λ root. option_map (λ resource. (root, resource)) (over (limits_at l.limits root) (totals_at (usages l.roots account) root) octets))
    numbers
    (λ root has. ap (λ t. option_map (λ resource. (root, resource)) (over (limits_at l.limits root) t octets))
    (get_or-map (λ (b : Book). b.totals) l.books root no_book ∙ settled_totals l account shows root (inside root has) (settled root has))))
    ∙ ap (λ ls. first_over ls (usages l.roots account) numbers octets) (sym shows.stands.limits_are)

-- a root of a set of roots below a number is below it
pub has_below : (numbers : List ℕ) (n : ℕ) → All (λ root. root < n) numbers → (root : ℕ) → has_root numbers root ≡ true → root < n
has_below numbers n below root has = All-contains (λ r. r < n) numbers root below (Contains-from_is_in numbers root has)
