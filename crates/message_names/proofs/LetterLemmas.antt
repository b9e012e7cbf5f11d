-- The letters of flags, and the flags that stand among letters.
use Rattle.std.proofs.Common.{◌≡◌, ℕ, ◌==◌, List, [], ◌∷◌, ◌++◌, Bool, true, false, cond, not, ◌&&◌, ◌||◌, refl, ap, ◌∙◌, sym, ⊎_elim}
use Rattle.std.specs.List.{filter, list_any}
use Rattle.std.proofs.lemmas.Bool.{cases_Bool, cond-true, cond-false, eqb-true, or_from, or_parts}
use Rattle.std.proofs.lemmas.List.Folds.{list_any-append}
use Rattle.std.proofs.lemmas.List.Elements.{filter-append}
use Rattle.quota_units.specs.declared.flags.Flags.{Flags}
use Rattle.quota_units.specs.Flagging.{is_among, flag_letters, is_flag_letter, has_flag, flags_among, letters_of}

-- the test that a byte names no flag
abbrev is_other : ℕ → Bool
is_other b = not (is_flag_letter b)

module _ (p q : ℕ → Bool) where
  any_either : (b : Bool) (x : ℕ) (ys : List ℕ) → list_any q (cond b (x ∷ ys) ys) ≡ ((q x && b) || list_any q ys)
  any_either true x ys = both (q x) (list_any q ys)
    where
      both : (c d : Bool) → (c || d) ≡ ((c && true) || d)
      both true d = refl
      both false d = refl
  any_either false x ys = none (q x) (list_any q ys)
    where
      none : (c d : Bool) → d ≡ ((c && false) || d)
      none true d = refl
      none false d = refl

  any_kept : (xs : List ℕ) → list_any q (filter p xs) ≡ list_any (λ x. q x && p x) xs
  any_kept [] = refl
  any_kept (x ∷ xs) = any_either (p x) x (filter p xs) ∙ ap (λ b. (q x && p x) || b) (any_kept xs)

  kept_cases : (x : ℕ) (ys zs : List ℕ) (b c : Bool) → p x ≡ b → q x ≡ c → c ≡ false → filter q ys ≡ zs
      → filter q (cond b (x ∷ ys) ys) ≡ zs
  kept_cases x ys zs true c e f g h = cond-false (q x) (x ∷ filter q ys) (filter q ys) (f ∙ g) ∙ h
  kept_cases x ys zs false c e f g h = h

  -- what passes none of the bytes keeps none of those that are kept
  none_kept : (xs : List ℕ) → list_any q xs ≡ false → filter q (filter p xs) ≡ []
  none_kept [] h = refl
  none_kept (x ∷ xs) h =
      let parts = or_parts (q x) (list_any q xs) h in
      kept_cases x (filter p xs) [] (p x) (q x) refl refl parts.0 (none_kept xs parts.1)

module _ (q : ℕ → Bool) where
  again_either : (b : Bool) (x : ℕ) (ys : List ℕ) → q x ≡ b → filter q ys ≡ ys → filter q (cond b (x ∷ ys) ys) ≡ cond b (x ∷ ys) ys
  again_either true x ys e h = cond-true (q x) (x ∷ filter q ys) (filter q ys) e ∙ ap (λ zs. x ∷ zs) h
  again_either false x ys e h = h

  kept_again : (xs : List ℕ) → filter q (filter q xs) ≡ filter q xs
  kept_again [] = refl
  kept_again (x ∷ xs) = again_either (q x) x (filter q xs) refl (kept_again xs)

-- a letter that names a flag does not stand among bytes that name none
apart : (l x : ℕ) → is_flag_letter l ≡ true → ((x == l) && is_other x) ≡ false
apart l x h = ⊎_elim
    (λ (e : (x == l) ≡ true). ap (λ b. b && is_other x) e ∙ ap (λ y. is_other y) (eqb-true x l e) ∙ ap not h)
    (λ (e : (x == l) ≡ false). ap (λ b. b && is_other x) e)
    (cases_Bool (x == l))

none_among : (l : ℕ) → is_flag_letter l ≡ true → (xs : List ℕ) → list_any (λ x. (x == l) && is_other x) xs ≡ false
none_among l h [] = refl
none_among l h (x ∷ xs) = or_from ((x == l) && is_other x) (list_any (λ y. (y == l) && is_other y) xs) (apart l x h) (none_among l h xs)

-- a flag is read back from its letter, whatever bytes that name no flag stand behind the letters
one_back : (flags : Flags) (others : List ℕ) (l : ℕ) (set : Bool) → is_flag_letter l ≡ true
    → list_any (λ x. (x == l) && has_flag flags x) flag_letters ≡ (set || false)
    → is_among (letters_of flags ++ filter is_other others) l ≡ set
one_back flags others l set h e =
    list_any-append (λ x. x == l) (letters_of flags) (filter is_other others)
    ∙ ap (λ b. b || list_any (λ x. x == l) (filter is_other others)) (any_kept (has_flag flags) (λ x. x == l) flag_letters ∙ e)
    ∙ ap (λ b. (set || false) || b) (any_kept is_other (λ x. x == l) others ∙ none_among l h others)
    ∙ alone set
  where
    alone : (b : Bool) → ((b || false) || false) ≡ b
    alone true = refl
    alone false = refl

abbrev flags_with : Bool → Bool → Bool → Bool → Bool → Bool → Flags
flags_with d f p r s t = record { draft = d; flagged = f; passed = p; replied = r; seen = s; trashed = t }

same_flags : (a b : Flags) → a.draft ≡ b.draft → a.flagged ≡ b.flagged → a.passed ≡ b.passed → a.replied ≡ b.replied
    → a.seen ≡ b.seen → a.trashed ≡ b.trashed → a ≡ b
same_flags a b p q r s t u =
    let e : flags_with a.draft a.flagged a.passed a.replied a.seen a.trashed
    ≡ flags_with b.draft b.flagged b.passed b.replied b.seen b.trashed = cc in e

pub flags_back : (flags : Flags) (others : List ℕ) → flags_among (letters_of flags ++ filter is_other others) ≡ flags
flags_back flags others = same_flags (flags_among (letters_of flags ++ filter is_other others)) flags
    (one_back flags others 68 flags.draft refl refl)
    (one_back flags others 70 flags.flagged refl refl)
    (one_back flags others 80 flags.passed refl refl)
    (one_back flags others 82 flags.replied refl refl)
    (one_back flags others 83 flags.seen refl refl)
    (one_back flags others 84 flags.trashed refl refl)

-- and those other bytes are read back
pub others_back : (flags : Flags) (others : List ℕ) → filter is_other (letters_of flags ++ filter is_other others) ≡ filter is_other others
others_back flags others =
    filter-append is_other (letters_of flags) (filter is_other others)
    ∙ ap (λ ys. ys ++ filter is_other (filter is_other others)) (none_kept (has_flag flags) is_other flag_letters refl)
    ∙ kept_again is_other others

-- where no flag is set, there is none
pub no_flags : (flags : Flags) → list_any (has_flag flags) flag_letters ≡ false → flags_among [] ≡ flags
no_flags flags h =
    let d = or_parts flags.draft _ h in
    let f = or_parts flags.flagged _ d.1 in
    let p = or_parts flags.passed _ f.1 in
    let r = or_parts flags.replied _ p.1 in
    let s = or_parts flags.seen _ r.1 in
    let t = or_parts flags.trashed _ s.1 in
    same_flags (flags_among []) flags (sym d.0) (sym f.0) (sym p.0) (sym r.0) (sym s.0) (sym t.0)
