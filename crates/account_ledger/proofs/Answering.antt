-- Calls that leave the account are answered.
use Rattle.std.proofs.Common.{◌≡◌, ◌≢◌, ℕ, ◌<◌, Bool, true, false, ◌||◌, List, [], ◌∷◌, length, codes, Option, Some, None, refl, sym, ap, ◌∙◌, subst, inl, inr}
use Rattle.std.specs.Prelude.{Result, Ok, Err, nat_eq}
use Rattle.std.specs.List.{All}
use Rattle.std.proofs.Math.Bool.{or-false}
use Rattle.std.proofs.lemmas.Bool.{eqb-true, false≢true}
use Rattle.std.proofs.lemmas.List.{ext_get_or}
use Rattle.quota_units.specs.Limiting.{LimitNumbers}
use Rattle.quota_units.specs.declared.flags.Flags.{Flags}
use Rattle.quota_units.specs.declared.resource.Resource.{Resource}
use Rattle.quota_units.specs.declared.totals.Totals.{Totals}
use Rattle.quota_roots.specs.Governing.{gainers, gains_by, governing, governs_at}
use Rattle.quota_roots.specs.RootLists.{root_named}
use Rattle.quota_roots.specs.RootSets.{has_root}
use Rattle.quota_roots.specs.declared.root.RootSpec.{RootSpec}
use Rattle.keeper.specs.Calls.{Told}
use Rattle.keeper.proofs.Changing.{changes_then, changes_weaken}
use Rattle.admission.specs.Fitting.{limits_at}
use Rattle.admission.specs.declared.verdict.Verdict.{Verdict}
use Rattle.account_core.specs.declared.calls.Call.{Call}
use Rattle.account_core.specs.declared.calls.Call.TheVariants.{Deliver, Check, Quota, Roots as RootsCall}
use Rattle.account_core.specs.declared.calls.Reply.{Reply}
use Rattle.account_core.specs.declared.calls.Reply.TheVariants.{Fits, Over, Quota as QuotaReply, Roots as RootsReply}
use Rattle.account_core.specs.declared.calls.RootRow.{RootRow}
use Rattle.account_core.specs.declared.calls.StepError.{StepError}
use Rattle.account_core.specs.declared.calls.StepError.TheVariants.{Store as StoreError, NoMemory, JournalFull}
use Rattle.account_core.specs.Account.{Account}
use Rattle.account_core.specs.Forms.{HasForm}
use Rattle.account_core.specs.Machine.{over_in, over_of, over_or, reply_of}
use Rattle.root_ledgers.specs.declared.book.Standing.{Standing}
use Rattle.root_ledgers.specs.declared.book.Standing.TheVariants.{Settled, Doubt}
use Rattle.root_ledgers.specs.Settling.{MarksOne, StaysInDoubt, book_at, standings_of}
use Rattle.account_ledger.specs.Rows.{IsInside, IsVerdict, kept_rows}
use Rattle.account_ledger.specs.Stores.{Store, standing_at, usage_at}
use Rattle.account_ledger.specs.Settling.{AreSettled, LedgersStay, SettledFor, LedgersAndFaultsStay, is_root, needs}
use Rattle.account_ledger.specs.Writing.{Spares, is_filing, misses}
use Rattle.account_ledger.specs.Lives.{IsWhole, Live, Prepares, Shows, Steps, store_of}
use Rattle.account_ledger.proofs.Delivering.{over_leaves, over_replied}
use Rattle.account_ledger.proofs.Judging.{quota_replied, rows_replied, settled_totals}
use Rattle.account_ledger.proofs.Showing.{shows_then, standing_of}
use Rattle.account_ledger.proofs.Stepping.{prepares_may, steps_answered}
use Rattle.account_ledger.proofs.Weighing.{is_mailbox_of}

-- the roots that a call needs are those of a set
pub settled_by : (may may1 : ℕ → Bool) (m : Live) → ((root : ℕ) → may root ≡ may1 root) → AreSettled may (store_of m) → AreSettled may1 (store_of m)
settled_by may may1 m same settled root is = settled root (same root ∙ is)

-- a live account whose roots were settled shows the same account
pub shows_prepared : (failed : Type 0) (may : ℕ → Bool) (l m : Live) (account : Account) → Prepares failed may l m → IsWhole m → Shows l account → Shows m account
shows_prepared failed may l m account prep whole shows = shows_then _ l m account shows whole prep.settles.files (prep.stands account shows)

pub roots_prepared : (failed : Type 0) (may : ℕ → Bool) (l m : Live) → Prepares failed may l m → m.roots ≡ l.roots
roots_prepared failed may l m prep = ap (λ (x : Live). x.roots) prep.same

-- a check
pub check_answered : (l m : Live) (octets : ℕ) (set : List ℕ) (verdict : Verdict) (given : Reply) (failed : Type 0) → ¬ failed → set ≡ gainers l.roots None (codes "INBOX")
    → ((root : ℕ) → has_root set root ≡ gains_by l.roots None (codes "INBOX") root) → Prepares failed (has_root set) l m → IsWhole m → AreSettled (has_root set) (store_of m)
    → ((account : Account) → Shows m account → IsVerdict (over_of m.roots account set octets) verdict)
    → ((over : Option (ℕ × Resource)) → IsVerdict over verdict → given ≡ over_or over Fits) → IsInside (length m.roots) verdict
    → ((roots : List RootSpec) (mailboxes : List (List ℕ)) (n : ℕ) → IsInside (length roots) verdict → HasForm roots mailboxes (Check n) given) → misses given ≡ false
    → Steps (Check octets) [] (Ok given) l m
check_answered l m octets set verdict given failed not is members prep whole settled judged says inside form there =
    steps_answered (Check octets) [] given failed l m not (prepares_may failed (has_root set) (needs l.roots (Check octets)) l m members prep) whole
    (subst (λ b. SettledFor b (needs l.roots (Check octets)) (store_of l) (store_of m)) (sym there) (settled_by (has_root set) (needs l.roots (Check octets)) m members settled))
    (λ account shows.
    let v = judged account (shows_prepared failed (has_root set) l m account prep whole shows) in
    says _ (subst (λ roots. IsVerdict (over_of roots account (governing l.roots (codes "INBOX")) octets) verdict) (roots_prepared failed (has_root set) l m prep) (subst (λ numbers. IsVerdict (over_of m.roots account numbers octets) verdict) is v)))
    (form l.roots l.mailboxes octets (subst (λ roots. IsInside (length roots) verdict) (roots_prepared failed (has_root set) l m prep) inside))
    (λ account shows. refl) refl (λ rows. refl) tt

module _ (l m : Live) (failed : Type 0) (not : ¬ failed) (may : ℕ → Bool) (prep : Prepares failed may l m) (whole : IsWhole m) (settled : AreSettled may (store_of m)) where
  shown_m : (account : Account) → Shows l account → Shows m account
  shown_m account shows = shows_prepared failed may l m account prep whole shows

  roots_m : m.roots ≡ l.roots
  roots_m = roots_prepared failed may l m prep

  -- the usage of a root that was settled
  pub usage_told : (root : ℕ) → root < length l.roots → may root ≡ true → (account : Account) → Shows l account → (book_at m.books root).totals ≡ usage_at l.roots root account
  usage_told root inside is account shows =
      subst (λ roots. (book_at m.books root).totals ≡ usage_at roots root account) roots_m
      (settled_totals m account (shown_m account shows) root (subst (λ roots. root < length roots) (sym roots_m) inside) (settled root is))

  -- a question on the quota of a root
  pub quota_answered : (name : List ℕ) (root : ℕ) (totals : Totals) (limits : LimitNumbers) → root_named l.roots name ≡ Some root → root < length l.roots → ((r : ℕ) → may r ≡ nat_eq root r)
      → ((account : Account) → Shows l account → totals ≡ usage_at l.roots root account) → limits ≡ limits_at m.limits root
      → Steps (Quota name) [] (Ok (QuotaReply (record { root = root; octets = totals.octets; count = totals.count; limits = limits }))) l m
  quota_answered name root totals limits place inside one used own =
      let same = λ (r : ℕ). one r ∙ ap (λ o. is_root o r) (sym place) in
      let own_l : limits ≡ limits_at l.limits root = own ∙ ap (λ (x : Live). limits_at x.limits root) prep.same in
      steps_answered (Quota name) [] _ failed l m not (prepares_may failed may (needs l.roots (Quota name)) l m same prep) whole (settled_by may (needs l.roots (Quota name)) m same settled)
      (λ account shows. rw own_l (quota_replied l account shows name root totals place inside (used account shows)))
      (record { kind = refl; names = inside }) (λ account shows. refl) refl (λ rows. refl) tt

  module _ (mailbox : List ℕ) (comes : (r : ℕ) → may r ≡ gains_by l.roots None mailbox r) where
    -- the roots of a mailbox
    pub rows_answered : (rows : List RootRow) → rows ≡ kept_rows m.roots m.limits m.books mailbox → All (λ (row : RootRow). row.root < length m.roots) rows → Steps (RootsCall mailbox) [] (Ok (RootsReply rows)) l m
    rows_answered rows are inside =
        steps_answered (RootsCall mailbox) [] (RootsReply rows) failed l m not (prepares_may failed may (needs l.roots (RootsCall mailbox)) l m comes prep) whole (settled_by may (needs l.roots (RootsCall mailbox)) m comes settled)
        (λ account shows.
        let settled_m = λ (r : ℕ) (is : governs_at m.roots r mailbox ≡ true). settled r (comes r ∙ subst (λ roots. governs_at roots r mailbox ≡ true) roots_m is) in
        ap (λ rs. RootsReply rs) are ∙ subst (λ roots. RootsReply (kept_rows m.roots m.limits m.books mailbox) ≡ reply_of roots account (RootsCall mailbox)) roots_m (rows_replied m account (shown_m account shows) mailbox settled_m))
        (record { kind = refl; names = subst (λ (roots : List RootSpec). All (λ (row : RootRow). row.root < length roots) rows) roots_m inside }) (λ account shows. refl) refl (λ rs. refl) tt

    module _ (octets : ℕ) (flags : Flags) (there : is_mailbox_of l.mailboxes mailbox ≡ true) (set : List ℕ) (is : set ≡ gainers l.roots None mailbox) (over : Option (ℕ × Resource))
        (judged : (account : Account) → Shows m account → over_of m.roots account set octets ≡ over) where
      judged_l : (account : Account) → Shows l account → over_in l.roots account mailbox octets ≡ over
      judged_l account shows = subst (λ roots. over_of roots account (governing l.roots mailbox) octets ≡ over) roots_m (subst (λ numbers. over_of m.roots account numbers octets ≡ over) is (judged account (shown_m account shows)))

      -- an accepted delivery fits
      pub fits_here : over ≡ None → (account : Account) → Shows m account → over_in m.roots account mailbox octets ≡ None
      fits_here none account shows =
          subst (λ roots. over_of m.roots account (governing roots mailbox) octets ≡ None) (sym roots_m) (subst (λ numbers. over_of m.roots account numbers octets ≡ None) is (judged account shows ∙ none))

      -- a delivery that a root would be over its limit with
      pub over_answered : (root : ℕ) (resource : Resource) → over ≡ Some (root, resource) → root < length m.roots → (bytes : List ℕ) → Steps (Deliver mailbox octets flags) bytes (Ok (Over root resource)) l m
      over_answered root resource some inside bytes =
          steps_answered (Deliver mailbox octets flags) bytes (Over root resource) failed l m not (prepares_may failed may (needs l.roots (Deliver mailbox octets flags)) l m comes prep) whole
          (settled_by may (needs l.roots (Deliver mailbox octets flags)) m comes settled)
          (λ account shows. over_replied l account shows mailbox octets flags there root resource (judged_l account shows ∙ some))
          (record { kind = refl; names = subst (λ (roots : List RootSpec). root < length roots) roots_m inside })
          (λ account shows. over_leaves l account shows mailbox octets flags there root resource (judged_l account shows ∙ some)) refl (λ rows. refl) tt

-- a call that puts or renames a file found no memory
pub spared_filed : (call : Call) (result : Result Reply StepError) (l m l' : Live) → is_filing call ≡ true → AreSettled (needs l.roots call) (store_of m) → (result ≡ Err NoMemory → LedgersAndFaultsStay (store_of m) (store_of l'))
    → result ≡ Err NoMemory → Spares call (store_of l) (store_of l')
spared_filed call result l m l' files settled calm wanting =
    inr (files, λ root is. ap (λ ss. standing_at ss root) (calm wanting).0.standings ∙ settled root is)

-- no root is needed
pub none_needed : (call : Call) (l m : Live) → ((root : ℕ) → needs l.roots call root ≡ false) → AreSettled (needs l.roots call) (store_of m)
none_needed call l m none root is = absurd (false≢true (sym (none root) ∙ is))

pub calm_then : (f g h : Store) → LedgersAndFaultsStay f g → LedgersAndFaultsStay g h → LedgersAndFaultsStay f h
calm_then f g h (a, x) (b, y) = (record { standings = b.standings ∙ a.standings; ledgers = changes_then {X = Told} _ _ _ (λ (p q r : Told) s t root. t root ∙ s root) f.told g.told h.told a.ledgers b.ledgers; appends = b.appends ∙ a.appends }, y ∙ x)

-- a root that was not settled stays as it was
pub stays_settling : (root : ℕ) (l m : Live) (failed : Type 0) → Prepares failed (has_root (root ∷ [])) l m → IsWhole l → (book_at m.books root).standing ≡ Doubt → LedgersStay (store_of l) (store_of m)
stays_settling root l m failed prep whole doubt = record {
  standings = ext_get_or Doubt (standings_of m.books) (standings_of l.books) prep.settles.count (λ r inside. one r (prep.settles.each r));
  ledgers = changes_weaken {X = Told} _ _ (λ (x y : Told) s r. elim (s.each r) [
    | inl same ↦ same
    | inr now ↦ absurd (never r now.0 now.2)
  ]) l.told m.told prep.settles.files;
  appends = prep.settles.appends;
}
  where
    only : (r : ℕ) → (nat_eq root r || false) ≡ true → root ≡ r
    only r is = eqb-true root r (sym (or-false (nat_eq root r)) ∙ is)

    never : (r : ℕ) → (nat_eq root r || false) ≡ true → standing_at (standings_of m.books) r ≡ Settled → ⊥
    never r is settled =
        let e : standing_at (standings_of m.books) r ≡ Doubt = subst (λ k. standing_at (standings_of m.books) k ≡ Doubt) (only r is) (standing_of m.books root ∙ doubt) in
        both_ways (sym e ∙ settled)
      where
        both_ways : (let d : Standing = Doubt in d) ≡ Settled → ⊥
        both_ways f = absurd (cc)

    one : (r : ℕ) → MarksOne (nat_eq root r || false) (standing_at (standings_of l.books) r) (standing_at (standings_of m.books) r) → standing_at (standings_of m.books) r ≡ standing_at (standings_of l.books) r
    one r (inl same) = same
    one r (inr (is, was, settled)) = absurd (never r is settled)

pub stays_unsettled : (root : ℕ) (l m : Live) (result : Result (Unit {0}) StepError) → Prepares (result ≡ Err StoreError) (has_root (root ∷ [])) l m → IsWhole l → (result ≡ Err StoreError → StaysInDoubt (has_root (root ∷ [])) m.books)
    → (result ≡ Err NoMemory → LedgersAndFaultsStay (store_of l) (store_of m)) → ((limit : ℕ) → result ≢ Err (JournalFull limit)) → (fault : StepError) → result ≡ Err fault → LedgersStay (store_of l) (store_of m)
stays_unsettled root l m result prep whole failed spared full StoreError is =
    let w = failed is in
    let same : root ≡ w.0 = eqb-true root w.0 (sym (or-false (nat_eq root w.0)) ∙ w.2) in
    stays_settling root l m (result ≡ Err StoreError) prep whole (subst (λ k. (book_at m.books k).standing ≡ Doubt) (sym same) w.3)
stays_unsettled root l m result prep whole failed spared full NoMemory is = (spared is).0
stays_unsettled root l m result prep whole failed spared full (JournalFull limit) is = absurd (full limit is)
