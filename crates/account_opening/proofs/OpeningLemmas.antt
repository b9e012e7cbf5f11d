-- First elements that pass, findings of one more mailbox, and the limits that ledgers tell.
use Rattle.std.proofs.Common.{◌≡◌, ℕ, ◌+◌, ◌-◌, ◌^◌, ◌<◌, ◌≤◌, min, Bool, true, false, cond, nat_lt, List, [], ◌∷◌, ◌++◌, length, take, drop, get_or, find, Option, Some, None, Ok, refl, sym, ap, ◌∙◌, subst, arith}
use Rattle.std.specs.Prelude.{Vec}
use Rattle.std.specs.Option.{option_map, option_or}
use Rattle.std.proofs.lemmas.Bool.Decides.{nat_tests}
use Rattle.std.proofs.lemmas.List.{drop_more, take_more, take_min, get_or_read}
use Rattle.std.proofs.lemmas.List.FromFn.{map-range_with_len_more}
use Rattle.std.proofs.lemmas.List.Sums.{sum_by-append}
use Rattle.quota_units.specs.Limiting.{LimitNumbers}
use Rattle.keeper.specs.Files.{Files, Row, listed, ledger_at}
use Rattle.keeper.specs.Calls.{Told, Changes, Lists, ReadsLedger}
use Rattle.keeper.specs.declared.rows.FileRow.{FileRow}
use Rattle.keeper.proofs.Changing.{changes_then}
use Rattle.admission.specs.Fitting.{limits_at}
use Rattle.account_opening.specs.declared.findings.Findings.{Findings}
use Rattle.account_opening.specs.Bases.{listings, how_many_files, double_in, first_double, used_in, first_used, shown, findings_of, with_files_of}
use Rattle.account_opening.specs.Admitting.{FindsSome}
use Rattle.account_opening.specs.Limits.{limits_of_ledger, limits_below, ReadsSome}

pub above_one : (n : ℕ) → 1 < n → nat_lt 1 n ≡ true
above_one n h = grind (arith, nat_tests)

pub not_above_one : (n : ℕ) → n ≤ 1 → nat_lt 1 n ≡ false
not_above_one n h = grind (arith, nat_tests)

module _ {X : Type 0} (p : X → Bool) (xs : List X) (i : ℕ) (x : X) (inside : i < length xs) (is : x ≡ get_or xs i x) where
  pub found_here : p x ≡ true → find p (drop i xs) ≡ Some x
  found_here passes = ap (find p) (drop_more xs i x inside ∙ ap (λ (y : X). y ∷ drop (i + 1) xs) (sym is)) ∙ ap (λ (b : Bool). cond b (Some x) (find p (drop (i + 1) xs))) passes

  pub passed_here : p x ≡ false → find p (drop (i + 1) xs) ≡ find p (drop i xs)
  passed_here fails = sym (ap (find p) (drop_more xs i x inside ∙ ap (λ (y : X). y ∷ drop (i + 1) xs) (sym is)) ∙ ap (λ (b : Bool). cond b (Some x) (find p (drop (i + 1) xs))) fails)

pub shown_is : (base : List ℕ) → take (min (length base) 255) base ≡ shown base
shown_is base = let e : min (length base) 255 ≡ min 255 (length base) = omega arith in ap (λ n. take n base) e ∙ take_min 255 base

-- with one more element at the end, the first that is found
module _ {X B : Type 0} (F : List X → Option B) (f : X → Option B) (empty : F [] ≡ None) (steps : (x : X) (xs : List X) → F (x ∷ xs) ≡ option_or (f x) (F xs)) where
  or_none : (o : Option B) → option_or o None ≡ o
  or_none None = refl
  or_none (Some b) = refl

  or_assoc : (a b c : Option B) → option_or a (option_or b c) ≡ option_or (option_or a b) c
  or_assoc None b c = refl
  or_assoc (Some x) b c = refl

  none_or : (o p : Option B) → o ≡ None → p ≡ option_or o p
  none_or None p e = refl
  none_or (Some b) p e = absurd (cc)

  pub first_more : (xs : List X) (x : X) → F (xs ++ x ∷ []) ≡ option_or (F xs) (f x)
  first_more [] x = steps x [] ∙ ap (option_or (f x)) empty ∙ or_none (f x) ∙ none_or (F []) (f x) empty
  first_more (y ∷ xs) x = steps y (xs ++ x ∷ []) ∙ ap (option_or (f y)) (first_more xs x) ∙ or_assoc (f y) (F xs) (f x) ∙ ap (λ o. option_or o (f x)) (sym (steps y xs))

map_or : {A B : Type 0} (g : A → B) (o p : Option A) → option_map g (option_or o p) ≡ option_or (option_map g o) (option_map g p)
map_or g None p = refl
map_or g (Some a) p = refl

files_more : (all : List (List FileRow)) (files : List FileRow) → min (how_many_files (all ++ files ∷ [])) (2 ^ 64 - 1) ≡ min (min (how_many_files all) (2 ^ 64 - 1) + length files) (2 ^ 64 - 1)
files_more all files = let e = sum_by-append length all (files ∷ []) in omega arith

same_findings : (a b : Findings) → a.files ≡ b.files → a.double ≡ b.double → a.used ≡ b.used → a ≡ b
same_findings a b p q r =
    ap (λ f. let x : Findings = record { files = f; double = a.double; used = a.used } in x) p
    ∙ ap (λ d. let x : Findings = record { files = b.files; double = d; used = a.used } in x) q
    ∙ ap (λ u. let x : Findings = record { files = b.files; double = b.double; used = u } in x) r

pub findings_more : (epoch : ℕ) (all : List (List FileRow)) (files : List FileRow) → findings_of epoch (all ++ files ∷ []) ≡ with_files_of epoch (findings_of epoch all) files
findings_more epoch all files =
    same_findings (findings_of epoch (all ++ files ∷ [])) (with_files_of epoch (findings_of epoch all) files)
    (files_more all files)
    (ap (option_map shown) (first_more first_double double_in refl (λ x xs. refl) all files) ∙ map_or shown (first_double all) (double_in files))
    (ap (option_map shown) (first_more (first_used epoch) (used_in epoch) refl (λ x xs. refl) all files) ∙ map_or shown (first_used epoch all) (used_in epoch files))

listings_more : (mailboxes : List (List ℕ)) (mailbox : List ℕ) (rows : List Row) → listings (mailboxes ++ mailbox ∷ []) rows ≡ listings mailboxes rows ++ listed mailbox rows ∷ []
listings_more [] mailbox rows = refl
listings_more (m ∷ ms) mailbox rows = ap (λ l. listed m rows ∷ l) (listings_more ms mailbox rows)

finds_once : (epoch : ℕ) (mailboxes : List (List ℕ)) (mailbox : List ℕ) (found found' : Findings) (files : List FileRow) → found' ≡ with_files_of epoch found files
    → (x y z : Told) → FindsSome epoch mailboxes found x y → (files ≡ listed mailbox y.files.rows) × (z.files ≡ y.files) → FindsSome epoch (mailboxes ++ mailbox ∷ []) found' x z
finds_once epoch mailboxes mailbox found found' files with x y z so_far lists = (
  with ∙ ap (λ f. with_files_of epoch f files) so_far.0 ∙ ap (with_files_of epoch (findings_of epoch (listings mailboxes x.files.rows))) (lists.0 ∙ ap (λ (f : Files). listed mailbox f.rows) so_far.1)
      ∙ sym (ap (findings_of epoch) (listings_more mailboxes mailbox x.files.rows) ∙ findings_more epoch (listings mailboxes x.files.rows) (listed mailbox x.files.rows)),
  lists.1 ∙ so_far.1,
)

pub finds_more : {A : Type 0} (E : Type 0) (epoch : ℕ) (mailboxes : List (List ℕ)) (i : ℕ) (mailbox : List ℕ) → i < length mailboxes → mailbox ≡ get_or mailboxes i mailbox
    → (found found' : Findings) (files : Vec FileRow A) → found' ≡ with_files_of epoch found files.items → (a b c : Option Told)
    → Changes (FindsSome epoch (take i mailboxes) found) a b → Changes (Lists {A = A} {E = E} mailbox (Ok files)) b c → Changes (FindsSome epoch (take (i + 1) mailboxes) found') a c
finds_more E epoch mailboxes i mailbox inside is found found' files with a b c so_far lists =
    let more : take (i + 1) mailboxes ≡ take i mailboxes ++ mailbox ∷ [] = take_more mailboxes i mailbox inside ∙ ap (λ (m : List ℕ). take i mailboxes ++ m ∷ []) (sym is) in
    subst (λ (ms : List (List ℕ)). Changes (FindsSome epoch ms found') a c) (sym more) (changes_then _ _ _ (finds_once epoch (take i mailboxes) mailbox found found' files.items with) a b c so_far lists)

limits_more : (k : ℕ) (files : Files) (own : List LimitNumbers) → limits_below (k + 1) files own ≡ limits_below k files own ++ limits_of_ledger (ledger_at files k) (limits_at own k) ∷ []
limits_more k files own = map-range_with_len_more (λ root. limits_of_ledger (ledger_at files root) (limits_at own root)) 0 k k (omega arith)

reads_once : {A : Type 0} (k : ℕ) (own limits limits' : List LimitNumbers) (here told_here : LimitNumbers) (found : Option (Vec ℕ A)) → here ≡ limits_at own k → told_here ≡ limits_of_ledger (option_map (λ b. b.items) found) here
    → limits' ≡ limits ++ told_here ∷ [] → (x y z : Told) → ReadsSome k own limits x y → (option_map (λ b. b.items) found ≡ ledger_at y.files k) × (z.files ≡ y.files) → ReadsSome (k + 1) own limits' x z
reads_once k own limits limits' here told_here found at tells pushed x y z so_far read =
    let ledger = read.0 ∙ ap (λ f. ledger_at f k) so_far.1 in
    let last = tells ∙ ap (λ o. limits_of_ledger o here) ledger ∙ ap (λ l. limits_of_ledger (ledger_at x.files k) l) at in
    (pushed ∙ ap (λ ls. ls ++ told_here ∷ []) so_far.0 ∙ ap (λ (l : LimitNumbers). limits_below k x.files own ++ l ∷ []) last ∙ sym (limits_more k x.files own), read.1 ∙ so_far.1)

pub reads_more : {A : Type 0} (E : Type 0) (k : ℕ) (own limits limits' : List LimitNumbers) (here told_here : LimitNumbers) (found : Option (Vec ℕ A)) → k < length own → here ≡ get_or own k here
    → told_here ≡ limits_of_ledger (option_map (λ b. b.items) found) here → limits' ≡ limits ++ told_here ∷ [] → (a b c : Option Told)
    → Changes (ReadsSome k own limits) a b → Changes (ReadsLedger {A = A} {E = E} k (Ok found)) b c → Changes (ReadsSome (k + 1) own limits') a c
reads_more E k own limits limits' here told_here found inside at tells pushed =
    changes_then _ _ _ (reads_once k own limits limits' here told_here found (get_or_read own k here inside at (record { octets = None; count = None })) tells pushed)
