-- What opening the accounts of a table gives, if each keeper tells its files and none of its calls
-- will fail.
use Rattle.std.proofs.Common.{◌≡◌, ◌≢◌, ◌<◌, ◌≤◌, ◌+◌, ◌-◌, ◌^◌, ℕ, zero, suc, Bool, true, false, min, nat_lt, if◌then◌else◌, List, [], ◌∷◌, map, take, slice_get, Option, Some, None, IfSome, refl, sym, ap, ◌∙◌, subst, arith}
use Rattle.std.specs.List.{All, AllZip}
use Rattle.std.specs.Option.{option_map, option_flatten, option_or}
use Rattle.std.proofs.lemmas.Bool.Decides.{nat_tests}
use Rattle.std.proofs.lemmas.List.Elements.{All-nil, All-cons, All-head, All-tail, All-map}
use Rattle.quota_roots.specs.declared.root.RootSpec.{RootSpec}
use Rattle.quota_roots.specs.declared.setup.Setup.{Setup}
use Rattle.keeper.specs.Calls.{Told, Changes, OnFiles, Due}
use Rattle.keeper.specs.Accounts.{keeper_in}
use Rattle.account_core.specs.declared.calls.Entry.{Entry}
use Rattle.account_core.specs.Account.{Account}
use Rattle.account_core.specs.Histories.{Origin}
use Rattle.account_opening.specs.Admitting.{CanOpen, HasReason, MayOpen}
use Rattle.account_opening.specs.Bases.{first_double, first_used, how_many_files, listings, shown}
use Rattle.account_opening.specs.declared.error.OpenError.{OpenError}
use Rattle.account_opening.specs.declared.error.OpenError.TheVariants.{Store, NoMemory, TooManyMessages, DoubleName, EpochUsed}
use Rattle.account_ledger.specs.Opening.{opening_account, opening_of}
use Rattle.account_ledger.specs.States.{State}
use Rattle.accounts_file.specs.declared.entry.AccountEntry.{AccountEntry}
use Rattle.desk.specs.Shares.{Share}
use Rattle.host_opening.specs.Telling.{HasFiles}
use Rattle.host_opening.specs.Opening.{IsOpenedFrom, OpensEach}
use Rattle.host_opening.specs.Refusing.{MayBeOpened, RefusesFirst}
use Rattle.plain_desk.specs.Owning.{share_of}
use Rattle.quotactl.specs.Outcome.{HaveNoneDue, first_refusal, refusal_by, refusal_in, share_in, told_in}
use Rattle.owner_sessions.specs.Owner.{HasAccount}
use Rattle.owner_sessions.specs.Plain.{NeverFails}

-- what holds of the value in an option, if there is one, holds of this value
of_some : {X : Type 0} (P : X → Type 0) (x : X) (o : Option X) → o ≡ Some x → IfSome o P → P x
of_some P x None is fact = absurd cc
of_some P x (Some own) is fact = let same : own ≡ x = cc in subst P same fact

few_counted : (n : ℕ) → n ≤ 1048576 → nat_lt 1048576 (min n (2 ^ 64 - 1)) ≡ false
few_counted n few = grind (arith, nat_tests)

many_counted : (n : ℕ) → 1048576 < n → nat_lt 1048576 (min n (2 ^ 64 - 1)) ≡ true
many_counted n many = grind (arith, nat_tests)

-- the causes that findings of few files give
abbrev causes : Option (List ℕ) → Option (List ℕ) → Option OpenError
causes double used = option_or (option_map (λ name. DoubleName name) double) (option_map (λ name. EpochUsed name) used)

-- the first cause that findings of so many files give
abbrev cause_of : ℕ → Option (List ℕ) → Option (List ℕ) → Option OpenError
cause_of files double used = if nat_lt 1048576 files then Some (TooManyMessages files) else causes double used

few_found : (files : ℕ) (double used : Option (List ℕ)) → nat_lt 1048576 files ≡ false
    → cause_of files double used ≡ causes double used
few_found files double used few = ap (λ (many : Bool). if many then Some (TooManyMessages files) else causes double used) few

many_found : (files : ℕ) (double used : Option (List ℕ)) → nat_lt 1048576 files ≡ true → cause_of files double used ≡ Some (TooManyMessages files)
many_found files double used many = ap (λ (many : Bool). if many then Some (TooManyMessages files) else causes double used) many

none_found : (double used : Option (List ℕ)) → double ≡ None → used ≡ None
    → causes double used ≡ None
none_found None None no_double no_used = refl
none_found (Some x) used no_double no_used = absurd cc
none_found None (Some x) no_double no_used = absurd cc

double_found : (double used : Option (List ℕ)) (name : List ℕ) → Some name ≡ double
    → causes double used ≡ Some (DoubleName name)
double_found double used name is = ap (λ (d : Option (List ℕ)). causes d used) (sym is)

used_found : (double used : Option (List ℕ)) (name : List ℕ) → double ≡ None → Some name ≡ used
    → causes double used ≡ Some (EpochUsed name)
used_found double used name none is =
    ap (λ (d : Option (List ℕ)). causes d used) none
    ∙ ap (λ (u : Option (List ℕ)). causes None u) (sym is)

-- files that prevent nothing give no cause for a refusal
pub can_open_none : (setup : Setup) (epoch : ℕ) (t : Told) → CanOpen setup epoch t.files → refusal_by epoch (listings setup.mailboxes t.files.rows) ≡ None
can_open_none setup epoch t can =
    let all = listings setup.mailboxes t.files.rows in
    let double = option_map shown (first_double all) in
    let used = option_map shown (first_used epoch all) in
    few_found (min (how_many_files all) (2 ^ 64 - 1)) double used (few_counted (how_many_files all) can.few)
    ∙ none_found double used (ap (option_map shown) can.apart) (ap (option_map shown) can.unused)

-- files that give a cause for a refusal give no other
pub reason_some : (setup : Setup) (epoch : ℕ) (cause : OpenError) (t : Told) → HasReason setup epoch cause t.files → cause ≢ Store → cause ≢ NoMemory
    → refusal_by epoch (listings setup.mailboxes t.files.rows) ≡ Some cause
reason_some setup epoch Store t has no_store memory = absurd (no_store refl)
reason_some setup epoch NoMemory t has no_store memory = absurd (memory refl)
reason_some setup epoch (TooManyMessages files) t has no_store memory =
    let all = listings setup.mailboxes t.files.rows in
    many_found (min (how_many_files all) (2 ^ 64 - 1)) (option_map shown (first_double all)) (option_map shown (first_used epoch all)) (many_counted (how_many_files all) has.0)
    ∙ ap (λ (n : ℕ). Some (TooManyMessages n)) (sym has.1)
reason_some setup epoch (DoubleName name) t has no_store memory =
    let all = listings setup.mailboxes t.files.rows in
    let double = option_map shown (first_double all) in
    let used = option_map shown (first_used epoch all) in
    few_found (min (how_many_files all) (2 ^ 64 - 1)) double used (few_counted (how_many_files all) has.0) ∙ double_found double used name has.1
reason_some setup epoch (EpochUsed name) t has no_store memory =
    let all = listings setup.mailboxes t.files.rows in
    let double = option_map shown (first_double all) in
    let used = option_map shown (first_used epoch all) in
    few_found (min (how_many_files all) (2 ^ 64 - 1)) double used (few_counted (how_many_files all) has.0) ∙ used_found double used name (ap (option_map shown) has.1) has.2

can_open : (setup : Setup) (epoch : ℕ) (t t' : Option Told) → Changes (OnFiles (MayOpen setup epoch)) t t' → IfSome t (λ u. CanOpen setup epoch u.files)
can_open setup epoch None t' may = tt
can_open setup epoch (Some t) None may = absurd may
can_open setup epoch (Some t) (Some t') may = may.1

-- a keeper that told this, when no failure of it was due, has counted no failure since
never_from : (s : State) (t : Told) (o o' : Option Told) → o ≡ Some t → t.due ≡ 0 → s.store.told ≡ o' → Due ⊥ 0 0 s.store.faults s.store.append_faults o o' → NeverFails s
never_from s t None o' is none is' due = absurd cc
never_from s t (Some u) None is none is' due = absurd due
never_from s t (Some u) (Some u') is none is' due =
    let same : u ≡ t = cc in
    let no_due : u.due ≡ 0 = ap (λ (x : Told). x.due) same ∙ none in
    let bounded : (s.store.faults + s.store.append_faults) + u'.due ≤ (0 + 0) + u.due = due.bounded in
    record { told = u'; is_told = is'; none = omega arith }

abbrev origin_of : List RootSpec → ℕ → ℕ → Option Account → Origin
origin_of roots journal epoch account = record { roots = roots; journal = journal; epoch = epoch; account = account }

origin_is : (o : Origin) (roots : List RootSpec) (journal epoch : ℕ) (account : Option Account) → o.roots ≡ roots → o.journal ≡ journal → o.epoch ≡ epoch → o.account ≡ account
    → o ≡ origin_of roots journal epoch account
origin_is o roots journal epoch account r j e a =
    ap (λ (x : List RootSpec). origin_of x o.journal o.epoch o.account) r ∙ ap (λ (x : ℕ). origin_of roots x o.epoch o.account) j
    ∙ ap (λ (x : ℕ). origin_of roots journal x o.account) e ∙ ap (λ (x : Option Account). origin_of roots journal epoch x) a

abbrev owners_share : Origin → List Entry → Share
owners_share origin seen = record { origin = origin; caller = 0; seen = seen }

-- what a relation gives of each element of the second list
zip_second : {A B : Type 0} (R : A → B → Type 0) (P : B → Type 0) → ((x : A) (y : B) → R x y → P y) → (xs : List A) (ys : List B) → AllZip R xs ys → All P ys
zip_second R P gives [] [] r = All-nil P
zip_second R P gives [] (y ∷ ys) r = absurd r
zip_second R P gives (x ∷ xs) [] r = absurd r
zip_second R P gives (x ∷ xs) (y ∷ ys) r = All-cons P y ys (gives x y r.0) (zip_second R P gives xs ys r.1)

module _ {K : Type 0} (told : K → Option Told) (epoch : ℕ) (accounts : List (List ℕ × Option K)) where
  told_is : (name : List ℕ) (keeper : K) → keeper_in name accounts ≡ Some keeper → told_in told name accounts ≡ told keeper
  told_is name keeper is = ap (λ (o : Option K). option_flatten (option_map told o)) is

  refusal_is : (entry : AccountEntry) (t : Told) → told_in told entry.name accounts ≡ Some t → refusal_in told epoch accounts entry ≡ refusal_by epoch (listings entry.setup.mailboxes t.files.rows)
  refusal_is entry t is = ap (λ (o : Option Told). option_flatten (option_map (λ (u : Told). refusal_by epoch (listings entry.setup.mailboxes u.files.rows)) o)) is

  -- the account was opened with these files, so nothing in them prevents it
  opened_may : (entry : AccountEntry) (s : State) → IsOpenedFrom told epoch accounts entry s → MayBeOpened told epoch accounts entry
  opened_may entry s (keeper, is, opened) = (keeper, is, can_open entry.setup epoch (told keeper) s.store.told opened.admitted)

  share_is : (entry : AccountEntry) (s : State) → IsOpenedFrom told epoch accounts entry s → share_of s ≡ share_in told epoch accounts entry
  share_is entry s (keeper, is, opened) =
      let o = opened.opened in
      let account : s.origin.account ≡ opening_of entry.setup epoch (told_in told entry.name accounts) = o.opening ∙ ap (opening_of entry.setup epoch) (sym (told_is entry.name keeper is)) in
      let origin = origin_is s.origin entry.setup.roots entry.setup.journal epoch (opening_of entry.setup epoch (told_in told entry.name accounts)) o.roots o.journal o.epoch_is account in
      ap (λ (x : Origin). owners_share x s.history) origin
      ∙ ap (λ (x : List Entry). owners_share (origin_of entry.setup.roots entry.setup.journal epoch (opening_of entry.setup epoch (told_in told entry.name accounts))) x) o.history

  -- the owners' shares, before their first calls
  pub shares_opened : (entries : List AccountEntry) (states : List State) (accounts' : List (List ℕ × Option K)) → OpensEach told epoch entries states accounts accounts'
      → map share_of states ≡ map (share_in told epoch accounts) entries
  shares_opened entries states accounts' opens = go entries states opens.kept
    where
      go : (es : List AccountEntry) (ss : List State) → AllZip (IsOpenedFrom told epoch accounts) es ss → map share_of ss ≡ map (share_in told epoch accounts) es
      go [] [] all = refl
      go [] (s ∷ ss) all = absurd all
      go (e ∷ es) [] all = absurd all
      go (e ∷ es) (s ∷ ss) all =
          ap (λ (x : Share). x ∷ map share_of ss) (share_is e s all.0) ∙ ap (λ (xs : List Share). share_in told epoch accounts e ∷ xs) (go es ss all.1)

  module _ (none_due : HaveNoneDue told accounts) where
    may_none : (entry : AccountEntry) → MayBeOpened told epoch accounts entry → refusal_in told epoch accounts entry ≡ None
    may_none entry (keeper, is, can) =
        let (t, tells, due) = none_due entry.name keeper is in
        refusal_is entry t (told_is entry.name keeper is ∙ tells) ∙ can_open_none entry.setup epoch t (of_some (λ (u : Told). CanOpen entry.setup epoch u.files) t (told keeper) tells can)

    cause_some : (cause : OpenError) (entry : AccountEntry) → HasFiles told entry.name (HasReason entry.setup epoch cause) accounts → cause ≢ Store → cause ≢ NoMemory
        → refusal_in told epoch accounts entry ≡ Some cause
    cause_some cause entry (keeper, is, has) no_store memory =
        let (t, tells, due) = none_due entry.name keeper is in
        refusal_is entry t (told_is entry.name keeper is ∙ tells)
        ∙ reason_some entry.setup epoch cause t (of_some (λ (u : Told). HasReason entry.setup epoch cause u.files) t (told keeper) tells has) no_store memory

    -- the files of accounts that were opened give no cause for a refusal
    pub opened_none : (entries : List AccountEntry) (states : List State) (accounts' : List (List ℕ × Option K)) → OpensEach told epoch entries states accounts accounts'
        → first_refusal told epoch accounts entries ≡ None
    opened_none entries states accounts' opens = go entries states opens.kept
      where
        go : (es : List AccountEntry) (ss : List State) → AllZip (IsOpenedFrom told epoch accounts) es ss → first_refusal told epoch accounts es ≡ None
        go [] [] all = refl
        go [] (s ∷ ss) all = absurd all
        go (e ∷ es) [] all = absurd all
        go (e ∷ es) (s ∷ ss) all = ap (λ (o : Option OpenError). option_or o (first_refusal told epoch accounts es)) (may_none e (opened_may e s all.0)) ∙ go es ss all.1

    -- the first account that is refused gives the first cause
    pub refused_some : (cause : OpenError) (entries : List AccountEntry) (accounts' : List (List ℕ × Option K)) → RefusesFirst told epoch cause entries accounts accounts'
        → cause ≢ Store → cause ≢ NoMemory → first_refusal told epoch accounts entries ≡ Some cause
    refused_some cause entries accounts' refuses no_store memory = go entries refuses.number refuses.is_there refuses.before
      where
        go : (es : List AccountEntry) (n : ℕ) → slice_get es n ≡ Some refuses.refused → All (MayBeOpened told epoch accounts) (take n es) → first_refusal told epoch accounts es ≡ Some cause
        go [] n is before = absurd cc
        go (e ∷ es) zero is before =
            let same : e ≡ refuses.refused = cc in
            let here : refusal_in told epoch accounts e ≡ Some cause =
            ap (refusal_in told epoch accounts) same ∙ cause_some cause refuses.refused (refuses.reason no_store memory) no_store memory in
            ap (λ (o : Option OpenError). option_or o (first_refusal told epoch accounts es)) here
        go (e ∷ es) (suc n) is before =
            ap (λ (o : Option OpenError). option_or o (first_refusal told epoch accounts es)) (may_none e (All-head (MayBeOpened told epoch accounts) e (take n es) before))
            ∙ go es n is (All-tail (MayBeOpened told epoch accounts) e (take n es) before)

    has_account : (entry : AccountEntry) (s : State) → IsOpenedFrom told epoch accounts entry s → HasAccount (share_of s)
    has_account entry s (keeper, is, opened) =
        let (t, tells, due) = none_due entry.name keeper is in
        record { account = opening_account entry.setup epoch t.files; is_told = opened.opened.opening ∙ ap (opening_of entry.setup epoch) tells }

    -- the opening accounts are told
    pub shares_told : (entries : List AccountEntry) (states : List State) (accounts' : List (List ℕ × Option K)) → OpensEach told epoch entries states accounts accounts'
        → All HasAccount (map share_of states)
    shares_told entries states accounts' opens =
        All-map HasAccount share_of states (zip_second (IsOpenedFrom told epoch accounts) (λ (s : State). HasAccount (share_of s)) has_account entries states opens.kept)

    never : (entry : AccountEntry) (s : State) → IsOpenedFrom told epoch accounts entry s → NeverFails s
    never entry s (keeper, is, opened) =
        let (t, tells, due) = none_due entry.name keeper is in
        never_from s t (told keeper) s.store.told tells due refl opened.due

    -- no call of the keepers has failed, and none will
    pub none_due_never_fails : (entries : List AccountEntry) (states : List State) (accounts' : List (List ℕ × Option K)) → OpensEach told epoch entries states accounts accounts' → All NeverFails states
    none_due_never_fails entries states accounts' opens = zip_second (IsOpenedFrom told epoch accounts) NeverFails never entries states opens.kept
