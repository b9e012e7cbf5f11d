-- Lines of a text, and where its first line feed is.
use Rattle.std.proofs.Common.{◌≢◌, ℕ, suc, ◌+◌, ◌≤◌, ◌<◌, List, [], ◌∷◌, ◌++◌, length, get_or, take, refl, ap, sym, subst, ◌∙◌, arith, append_assoc, length-take, length-take-le, eq-eqb, eqb-true}
use Rattle.std.proofs.lemmas.List.{take_more, get_or-take}
use Rattle.memchr.specs.Find.{Nowhere, Passes, is_byte}
use Rattle.wire_io.specs.Lines.{HasNoEnd, IsLine}

-- no line feed in either part, none in both
pub HasNoEnd-append : (a b : List ℕ) → HasNoEnd a → HasNoEnd b → HasNoEnd (a ++ b)
HasNoEnd-append [] b none more = more
HasNoEnd-append (x ∷ a) b none more = (none.0, HasNoEnd-append a b none.1 more)

-- a line goes on from bytes with no line feed
pub IsLine-append : (a b : List ℕ) → HasNoEnd a → IsLine b → IsLine (a ++ b)
IsLine-append a b none line = (
  a ++ line.0,
  HasNoEnd-append a line.0 none line.1,
  ap (λ l. a ++ l) line.2 ∙ sym (append_assoc a line.0 (10 ∷ [])),
)

-- a line is no text without a line feed
pub line_has_end : (a : List ℕ) → IsLine a → HasNoEnd a → ⊥
line_has_end a line none = ends line.0 (subst HasNoEnd line.2 none)
  where
    ends : (body : List ℕ) → HasNoEnd (body ++ 10 ∷ []) → ⊥
    ends [] h = h.0 refl
    ends (x ∷ body) h = ends body h.1

-- no byte is a line feed where none is at any place
pub HasNoEnd-places : (xs : List ℕ) → ((k : ℕ) → k < length xs → get_or xs k 0 ≢ 10) → HasNoEnd xs
HasNoEnd-places [] none = tt
HasNoEnd-places (x ∷ xs) none = (none 0 (omega arith), HasNoEnd-places xs (λ k h. none (suc k) (omega arith)))

-- a search found no line feed among the first n of the first m bytes
pub HasNoEnd-searched : (xs : List ℕ) (n m : ℕ) → n ≤ length (take m xs) → Nowhere (Passes (is_byte 10) (take m xs)) 0 n → HasNoEnd (take n xs)
HasNoEnd-searched xs n m short none =
    let within : (n ≤ m) × (n ≤ length xs) = (omega (arith, length-take m xs), omega (arith, length-take m xs)) in
    let all : (k : ℕ) → k < length (take n xs) → get_or (take n xs) k 0 ≢ 10 = λ k h is.
    let below : k < n = omega (arith, length-take-le n xs within.1) in
    none k (omega arith) below (eq-eqb _ _ (get_or-take m xs k 0 (omega arith) ∙ sym (get_or-take n xs k 0 below) ∙ is)) in
    HasNoEnd-places (take n xs) all

-- and at place n it found one
pub IsLine-searched : (xs : List ℕ) (n m : ℕ) → n < length (take m xs) → Nowhere (Passes (is_byte 10) (take m xs)) 0 n → Passes (is_byte 10) (take m xs) n → IsLine (take (n + 1) xs)
IsLine-searched xs n m short none found =
    let within : (n < m) × (n < length xs) = (omega (arith, length-take m xs), omega (arith, length-take m xs)) in (
      take n xs,
      HasNoEnd-searched xs n m (omega arith) none,
      take_more xs n 0 within.1 ∙ ap (λ b. take n xs ++ b ∷ []) (sym (get_or-take m xs n 0 within.0) ∙ eqb-true _ _ found),
    )
