-- The numbers that words spell.
use Rattle.std.proofs.Common.{◌≡◌, ◌≢◌, ◌<◌, ◌≤◌, ◌^◌, ◌⊎◌, ℕ, List, [], ◌∷◌, Some, sym, ◌∙◌, inl, inr, arith, slice_get, get_or}
use Rattle.std.proofs.lemmas.Fmt.{decimal_injective, first_decimal}
use Rattle.std.specs.Fmt.{decimal}

-- no number up to `most` is spelled so
pub not_to : (word : List ℕ) (n most : ℕ) → word ≡ decimal n → n < 2 ^ 64 → most < 2 ^ 64 → (n ≤ 0) ⊎ (most < n) → (m : ℕ) → word ≡ decimal m → 0 < m → m ≤ most → ⊥
not_to word n most e fits fits-most out m i some up =
    let same : n ≡ m = decimal_injective n m fits (omega (arith, up, fits-most)) (sym e ∙ i) in
    elim out [ inl none ↦ omega (arith, none, same, some) | inr above ↦ omega (arith, above, same, up) ]

-- the numeral of a number does not begin with `-`
pub decimal_undashed : (n : ℕ) → 0 < n → n < 2 ^ 64 → slice_get (decimal n) 0 ≢ Some 45
decimal_undashed n some fits e = go (decimal n) (first_decimal n some fits) e
  where
    go : (ds : List ℕ) → 48 < get_or ds 0 0 → slice_get ds 0 ≡ Some 45 → ⊥
    go [] h e = omega (arith, h)
    go (d ∷ ds) h e =
        let is : d ≡ 45 = cc in
        omega (arith, is, h)
