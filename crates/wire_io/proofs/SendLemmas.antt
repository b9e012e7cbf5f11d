-- Bytes that are written in several pieces.
use Rattle.std.proofs.Common.{◌≡◌, ℕ, ◌+◌, ◌-◌, List, ◌++◌, length, take, drop, ap, sym, subst, ◌∙◌}
use Rattle.std.proofs.Math.Seq.{take-add}
use Rattle.std.proofs.KnownBytes.{Appends-trans}
use Rattle.std.specs.declared.option.Option.{Option}
use Rattle.std.specs.Io.KnownBytes.{Appends}
use Rattle.wire_io.proofs.PieceLemmas.{slice_from}

-- a prefix of the bytes was written, and then the next of them
pub Appends-take : (a b c : Option (List ℕ)) (xs : List ℕ) (n m : ℕ) → Appends a b (take n xs) → Appends b c (take m (take (length xs - n) (drop n xs)))
    → Appends a c (take (n + m) xs)
Appends-take a b c xs n m first second =
    let next : take n xs ++ take m (take (length xs - n) (drop n xs)) ≡ take (n + m) xs = ap (λ l. take n xs ++ take m l) (slice_from xs n) ∙ sym (take-add n m xs) in
    subst (Appends a c) next (Appends-trans a b c _ _ first second)
