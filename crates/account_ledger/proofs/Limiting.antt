-- The limits of a root are set: what is kept stands for the account still, and what the call is answered.
use Rattle.std.proofs.Common.{◌≡◌, ◌≢◌, ℕ, ◌<◌, List, [], length, set, Option, Some, None, refl, sym, ap, ◌∙◌, inl, inr, subst, arith}
use Rattle.std.proofs.Math.Seq.{map-set_same}
use Rattle.std.proofs.lemmas.Bool.{cases_eq}
use Rattle.std.proofs.lemmas.List.{get_or-set_same, get_or-set_other}
use Rattle.std.specs.Prelude.{Ok}
use Rattle.quota_units.specs.Causes.{HasCause}
use Rattle.quota_units.specs.Limiting.{LimitNumbers}
use Rattle.quota_units.specs.Sums.{AreSmall}
use Rattle.quota_units.specs.declared.totals.Totals.{Totals}
use Rattle.quota_roots.specs.RootLists.{root_named}
use Rattle.quota_roots.specs.declared.root.RootSpec.{RootSpec}
use Rattle.keeper.specs.Files.{Files, ledger_at, ledger_bytes}
use Rattle.keeper.specs.Calls.{Told, Writes, Changes, Due, OnFiles}
use Rattle.keeper.proofs.Changing.{changes_weaken}
use Rattle.keeper.proofs.Spending.{spends_not}
use Rattle.keeper.proofs.LedgerLemmas.{rows_same}
use Rattle.admission.specs.Fitting.{limits_at}
use Rattle.account_core.specs.declared.calls.Call.TheVariants.{SetLimits}
use Rattle.account_core.specs.declared.calls.Reply.TheVariants.{LimitsSet, NoRoot}
use Rattle.account_core.specs.Account.{Account}
use Rattle.account_core.specs.Machine.{reply_of, step, limits_after}
use Rattle.root_ledgers.specs.declared.book.Book.{Book}
use Rattle.root_ledgers.specs.declared.book.Standing.TheVariants.{Settled}
use Rattle.root_ledgers.specs.Ledgers.{folded}
use Rattle.root_ledgers.specs.Settling.{Kept, kept_of, no_book, book_at, standings_of, folded_book, with_folded, IsKept}
use Rattle.root_ledgers.proofs.Kept.{kept_folded}
use Rattle.account_ledger.specs.Messages.{StandFor}
use Rattle.account_ledger.specs.Stores.{usage_at}
use Rattle.account_ledger.specs.Lives.{Acts, Live, Shows, Stands}
use Rattle.account_ledger.proofs.Replying.{limits_none, limits_some}
use Rattle.account_ledger.proofs.Showing.{after_told, ok_is_no_err}

abbrev no_limits : LimitNumbers
no_limits = record { octets = None; count = None }

-- a live account with other limits of a root
abbrev pub with_limits : Live → Option Told → ℕ → ℕ → ℕ → LimitNumbers → Live
with_limits l told faults lists root new = record l {
  told = told;
  faults = faults;
  lists = lists;
  limits = set l.limits root new;
  books = set l.books root (folded_book new (book_at l.books root).totals);
}

module _ (l : Live) (account : Account) (shows : Shows l account) (root : ℕ) (new : LimitNumbers) (inside : root < length l.roots) where
  abbrev totals : Totals
  totals = (book_at l.books root).totals

  module _ (files' : Files) (settled : (book_at l.books root).standing ≡ Settled) (short : length (folded new (book_at l.books root).totals) < 5120)
      (writes : Writes root (folded new (book_at l.books root).totals) shows.told.files files') where
    kept_here : IsKept (limits_at (set l.limits root new) root) (usage_at l.roots root account) (ledger_at files' root) (ledger_bytes files' root) (book_at (set l.books root (folded_book new totals)) root)
    kept_here =
        let a : limits_at (set l.limits root new) root ≡ new = get_or-set_same l.limits root new no_limits (omega (arith, shows.whole.limits)) in
        let b : book_at (set l.books root (folded_book new totals)) root ≡ folded_book new totals = get_or-set_same l.books root (folded_book new totals) no_book (omega (arith, shows.whole.kept.each, shows.whole.limits)) in
        let small : AreSmall totals = shows.whole.kept.small root no_book (omega (arith, shows.whole.kept.each, shows.whole.limits)) in
        rw (a, b) (kept_folded new (usage_at l.roots root account) totals (ledger_at files' root) (folded_book new totals) (shows.stands.kept root inside settled).totals
        (omega (arith, small.octets)) (omega (arith, small.count)) refl writes.1 short)

    kept_there : (other : ℕ) → other ≢ root → other < length l.roots → (book_at (set l.books root (folded_book new totals)) other).standing ≡ Settled
        → IsKept (limits_at (set l.limits root new) other) (usage_at l.roots other account) (ledger_at files' other) (ledger_bytes files' other) (book_at (set l.books root (folded_book new totals)) other)
    kept_there other differs within is =
        let a : limits_at (set l.limits root new) other ≡ limits_at l.limits other = get_or-set_other l.limits root other new no_limits differs in
        let b : book_at (set l.books root (folded_book new totals)) other ≡ book_at l.books other = get_or-set_other l.books root other (folded_book new totals) no_book differs in
        let stays : ledger_at files' other ≡ ledger_at shows.told.files other = writes.0.others other differs in
        let was : (book_at l.books other).standing ≡ Settled = rw b at is in
        rw (a, b, stays) (shows.stands.kept other within was)

    pub stands_relimited : (told' : Option Told) (faults' lists' : ℕ) → Stands (with_limits l told' faults' lists' root new) (record account { limits = set account.limits root new }) files'
    stands_relimited told' faults' lists' = record {
      limits_are = ap (λ ls. set ls root new) shows.stands.limits_are;
      mailboxes_are = shows.stands.mailboxes_are;
      epoch_is = shows.stands.epoch_is;
      deliveries_are = shows.stands.deliveries_are;
      generation_is = shows.stands.generation_is;
      stand = subst (λ rows. StandFor rows account) (sym (rows_same shows.told.files files' writes.0.same)) shows.stands.stand;
      kept = λ other within is. elim (cases_eq other root) [
        | inl same ↦ rw same kept_here
        | inr differs ↦ kept_there other differs within is
      ];
    }

  pub limits_replied : (name : List ℕ) → root_named l.roots name ≡ Some root → (book_at l.books root).standing ≡ Settled
      → LimitsSet (record { root = root; octets = totals.octets; count = totals.count; limits = new }) ≡ reply_of l.roots account (SetLimits name new)
  limits_replied name place settled =
      limits_some account name l.roots (ap length shows.stands.limits_are ∙ shows.whole.limits) root totals new place inside (shows.stands.kept root inside settled).totals

pub after_limits : (roots : List RootSpec) (account : Account) (name : List ℕ) (root : ℕ) (new : LimitNumbers) → root_named roots name ≡ Some root → step roots account (SetLimits name new) ≡ record account { limits = set account.limits root new }
after_limits roots account name root new place = ap (λ o. let a : Account = record account { limits = limits_after o new account.limits } in a) place

-- no root has the name
pub no_root_replied : (l : Live) (account : Account) (shows : Shows l account) (name : List ℕ) (new : LimitNumbers) → root_named l.roots name ≡ None → NoRoot ≡ reply_of l.roots account (SetLimits name new)
no_root_replied l account shows name new nowhere = limits_none account name l.roots (ap length shows.stands.limits_are ∙ shows.whole.limits) new nowhere

pub no_root_leaves : (roots : List RootSpec) (account : Account) (name : List ℕ) (new : LimitNumbers) → root_named roots name ≡ None → step roots account (SetLimits name new) ≡ account
no_root_leaves roots account name new nowhere = ap (λ o. let a : Account = record account { limits = limits_after o new account.limits } in a) nowhere

-- the standings stay where a settled root is settled again
pub standings_stay : (books : List Book) (root : ℕ) (book : Book) → book.standing ≡ Settled → (book_at books root).standing ≡ Settled → standings_of (set books root book) ≡ standings_of books
standings_stay books root book is settled = map-set_same (λ (b : Book). b.standing) books root book no_book (is ∙ sym settled)

-- the limits of a settled root are set, and its ledger is the folded text of them and its usage
module _ (l : Live) (name : List ℕ) (root : ℕ) (new : LimitNumbers) (place : root_named l.roots name ≡ Some root) (inside : root < length l.roots) (settled : (book_at l.books root).standing ≡ Settled) (told' : Option Told) (faults' lists' : ℕ) where
  abbrev own : Totals
  own = (book_at l.books root).totals

  acts_here : (failed : Type 0) → ¬ failed → Changes (OnFiles (Writes root (folded new own))) l.told told' → length (folded new own) < 5120 → HasCause failed l.faults faults'
      → Due failed l.faults l.append_faults faults' l.append_faults l.told told'
      → Acts (SetLimits name new) [] (Ok (LimitsSet (record { root = root; octets = own.octets; count = own.count; limits = new }))) l (with_limits l told' faults' lists' root new)
  acts_here failed not files short cause due = record {
    keeps = record { roots = refl; mailboxes = refl; epoch = refl };
    reply = λ account shows. limits_replied l account shows root new inside name place settled;
    form = record { kind = refl; names = inside };
    there = refl;
    writes = record { standings = standings_stay l.books root (folded_book new own) refl settled; files = files; faults = cause.kept not; appends = refl };
    rows = changes_weaken {X = Told} _ _ (λ (x y : Told) w. rows_same x.files y.files w.0.same) l.told told' files;
    stands = λ account shows. after_told (OnFiles (Writes root (folded new own))) l.told told' shows.told
        (λ told. Stands (with_limits l told' faults' lists' root new) (step l.roots account (SetLimits name new)) told.files) shows.is_told files
        (λ y w. subst (λ (a : Account). Stands (with_limits l told' faults' lists' root new) a y.files) (sym (after_limits l.roots account name root new place))
        (stands_relimited l account shows root new inside y.files settled short w told' faults' lists'));
    counts = (omega arith, omega arith);
    later = record { faults = cause.later; appends = omega arith };
    cause = λ e. absurd (cc);
    due = spends_not failed _ _ _ _ _ (λ e. absurd (ok_is_no_err e)) due;
    never_full = λ limit e. absurd (cc);
  }

  pub acts_limited : (failed : Type 0) → ¬ failed → (totals : Totals) → totals ≡ (book_at l.books root).totals → (kept : Kept) → kept ≡ with_folded (kept_of l.limits l.books) root new totals
      → (appends' : ℕ) → appends' ≡ l.append_faults → Changes (OnFiles (Writes root (folded new totals))) l.told told' → length (folded new totals) < 5120 → HasCause failed l.faults faults'
      → Due failed l.faults l.append_faults faults' appends' l.told told'
      → Acts (SetLimits name new) [] (Ok (LimitsSet (record { root = root; octets = totals.octets; count = totals.count; limits = new }))) l
      (record l { told = told'; faults = faults'; append_faults = appends'; lists = lists'; limits = kept.limits; books = kept.books })
  acts_limited failed not totals is kept folds appends' stay =
      rw (folds, stay, is) (acts_here failed not)
