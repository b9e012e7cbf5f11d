-- What is noted of the bases of files, file by file.
use Rattle.std.proofs.Common.{◌≡◌, ℕ, zero, suc, ◌+◌, ◌<◌, ◌≤◌, Bool, true, false, cond, nat_lt, List, [], ◌∷◌, ◌++◌, length, take, get_or, find, Option, Some, None, is_some, unwrap_or, refl, sym, ap, ◌∙◌, subst, arith, sum_by, bytes_eq}
use Rattle.std.specs.BTreeMap.{BTreeMap}
use Rattle.std.proofs.lemmas.Bool.Decides.{nat_tests}
use Rattle.std.proofs.lemmas.List.{take_more}
use Rattle.std.proofs.lemmas.List.Sums.{sum_by-append, sum_by-cons}
use Rattle.std.proofs.lemmas.Slice.Eq.{bytes_eq-Decides}
use denote.Ref.{Bor}
use Rattle.keeper.specs.declared.rows.FileRow.{FileRow}
use Rattle.account_opening.specs.Bases.{AreApart, AreCounted, base_in, count_up_to_two, noted, times_in}

-- one more file
times_more : (files : List FileRow) (i : ℕ) (file : FileRow) → i < length files → file ≡ get_or files i file → (base : List ℕ)
    → times_in (take (i + 1) files) base ≡ times_in (take i files) base + cond (bytes_eq (base_in file) base) 1 0
times_more files i file inside is base =
    let f = λ (x : FileRow). cond (bytes_eq (base_in x) base) 1 0 in
    ap (sum_by f) (take_more files i file inside ∙ ap (λ (x : FileRow). take i files ++ x ∷ []) (sym is))
    ∙ sum_by-append f (take i files) (file ∷ [])
    ∙ ap (λ n. sum_by f (take i files) + n) (sum_by-cons f file [] ∙ (omega arith))

plus_one : (n : ℕ) → n + 1 ≡ suc n
plus_one n = omega arith

plus_none : (n : ℕ) → n + 0 ≡ n
plus_none n = omega arith

note_more : (n : ℕ) → count_up_to_two (suc n) ≡ Some (cond (is_some (count_up_to_two n)) 2 1)
note_more zero = refl
note_more (suc zero) = refl
note_more (suc (suc n)) = refl

noted_twice : (n : ℕ) → nat_lt 1 (unwrap_or (count_up_to_two n) 0) ≡ nat_lt 1 n
noted_twice zero = refl
noted_twice (suc zero) = refl
noted_twice (suc (suc n)) = sym (two n)
  where
    two : (k : ℕ) → nat_lt 1 (suc (suc k)) ≡ true
    two k = grind (arith, nat_tests)

not_noted : (n : ℕ) → is_some (count_up_to_two n) ≡ false → n ≡ 0
not_noted zero e = refl
not_noted (suc zero) e = absurd (cc)
not_noted (suc (suc n)) e = absurd (cc)

-- what is written over again
pub over_again : (same : Bool) (first second old : Option ℕ) → cond same second (cond same first old) ≡ cond same second old
over_again true first second old = refl
over_again false first second old = refl

-- one more base
module _ (files : List FileRow) (i : ℕ) (file : FileRow) (inside : i < length files) (is : file ≡ get_or files i file) (here : List ℕ) (here_is : here ≡ base_in file)
    (m n : BTreeMap (Bor (List ℕ)) ℕ) (again : Bool) (again_is : again ≡ is_some (noted m here))
    (writes : (other : List ℕ) → noted n other ≡ cond (bytes_eq here other) (Some (cond again 2 1)) (noted m other)) (notes : AreCounted m (take i files)) where
  more_here : (base : List ℕ) → times_in (take (i + 1) files) base ≡ times_in (take i files) base + cond (bytes_eq here base) 1 0
  more_here base = times_more files i file inside is base ∙ ap (λ b. times_in (take i files) base + cond (bytes_eq b base) 1 0) (sym here_is)

  same_more : (base : List ℕ) → bytes_eq here base ≡ true → times_in (take (i + 1) files) base ≡ suc (times_in (take i files) base)
  same_more base e = more_here base ∙ ap (λ (b : Bool). times_in (take i files) base + cond b 1 0) e ∙ plus_one (times_in (take i files) base)

  other_more : (base : List ℕ) → bytes_eq here base ≡ false → times_in (take (i + 1) files) base ≡ times_in (take i files) base
  other_more base e = more_here base ∙ ap (λ (b : Bool). times_in (take i files) base + cond b 1 0) e ∙ plus_none (times_in (take i files) base)

  pub notes_more : AreCounted n (take (i + 1) files)
  notes_more base = writes base ∙ by (bytes_eq here base) refl
    where
      by : (same : Bool) → bytes_eq here base ≡ same → cond same (Some (cond again 2 1)) (noted m base) ≡ count_up_to_two (times_in (take (i + 1) files) base)
      by true e =
          let is_here : here ≡ base = (bytes_eq-Decides here base).0 e in
          ap (λ (a : Bool). Some (cond a 2 1)) (again_is ∙ ap (λ b. is_some (noted m b)) is_here ∙ ap is_some (notes base))
          ∙ sym (note_more (times_in (take i files) base)) ∙ ap count_up_to_two (sym (same_more base e))
      by false e = notes base ∙ ap count_up_to_two (sym (other_more base e))

  -- where none was noted before, each stands once at most
  pub apart_more : again ≡ false → AreApart (take i files) → AreApart (take (i + 1) files)
  apart_more first apart base = by (bytes_eq here base) refl
    where
      by : (same : Bool) → bytes_eq here base ≡ same → times_in (take (i + 1) files) base ≤ 1
      by true e =
          let is_here : here ≡ base = (bytes_eq-Decides here base).0 e in
          let none : times_in (take i files) base ≡ 0 = not_noted (times_in (take i files) base) (sym (ap is_some (notes base)) ∙ ap (λ b. is_some (noted m b)) (sym is_here) ∙ sym again_is ∙ first) in
          let more = same_more base e in
          omega arith
      by false e = subst (λ n. n ≤ 1) (sym (other_more base e)) (apart base)

-- a base that is noted twice
pub is_twice : (files : List FileRow) (notes : BTreeMap (Bor (List ℕ)) ℕ) (here base : List ℕ) → AreCounted notes files → here ≡ base → nat_lt 1 (unwrap_or (noted notes here) 0) ≡ nat_lt 1 (times_in files base)
is_twice files notes here base are same = ap (λ b. nat_lt 1 (unwrap_or (noted notes b) 0)) same ∙ ap (λ o. nat_lt 1 (unwrap_or o 0)) (are base) ∙ noted_twice (times_in files base)

-- where each stands once at most, none is found
pub none_found : (all : List FileRow) → AreApart all → (files : List FileRow) → find (λ (file : FileRow). nat_lt 1 (times_in all (base_in file))) files ≡ None
none_found all apart [] = refl
none_found all apart (file ∷ files) =
    let e : nat_lt 1 (times_in all (base_in file)) ≡ false = not_twice (times_in all (base_in file)) (apart (base_in file)) in
    ap (λ (b : Bool). cond b (Some file) (find (λ (f : FileRow). nat_lt 1 (times_in all (base_in f))) files)) e ∙ none_found all apart files
  where
    not_twice : (n : ℕ) → n ≤ 1 → nat_lt 1 n ≡ false
    not_twice n h = grind (arith, nat_tests)
