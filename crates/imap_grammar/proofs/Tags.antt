-- Bytes that are no tag.
use Rattle.std.proofs.Common.{◌≡◌, ℕ, ◌<◌, Bool, true, false, ◌&&◌, ltb, leb, List, [], ◌∷◌, length, refl, sym, subst, arith, if◌then◌else◌}
use Rattle.std.proofs.lemmas.Bool.Decides.{nat_tests}
use Rattle.imap_grammar.specs.declared.readers.Stop.{Stop}
use Rattle.imap_grammar.specs.Reading.{Reader, gives, fails, Stops, FailsAt}
use Rattle.imap_grammar.specs.Commands.{checked_tag}

stops_there : (rest : List ℕ) (stop : Stop) → FailsAt rest stop → Stops {A = List ℕ} stop (fails rest)
stops_there [] stop at = subst (λ (s : Stop). Stops {A = List ℕ} s (fails [])) (sym at) refl
stops_there (b ∷ bs) stop at = subst (λ (s : Stop). Stops {A = List ℕ} s (fails (b ∷ bs))) (sym at) (b ∷ bs, refl, refl)

refused : (c : Bool) (bytes rest : List ℕ) (stop : Stop) → c ≡ false → FailsAt rest stop → Stops stop ((let reader : Reader (List ℕ) = if c then gives bytes else fails in reader) rest)
refused true bytes rest stop e at = absurd cc
refused false bytes rest stop e at = stops_there rest stop at

pub checked_empty : (bytes rest : List ℕ) (stop : Stop) → length bytes ≡ 0 → FailsAt rest stop → Stops stop (checked_tag bytes rest)
checked_empty bytes rest stop e at = let none : (ltb 0 (length bytes) && leb (length bytes) 64) ≡ false = grind (arith, nat_tests) in refused (ltb 0 (length bytes) && leb (length bytes) 64) bytes rest stop none at

pub checked_long : (bytes rest : List ℕ) (stop : Stop) → 64 < length bytes → FailsAt rest stop → Stops stop (checked_tag bytes rest)
checked_long bytes rest stop e at = let none : (ltb 0 (length bytes) && leb (length bytes) 64) ≡ false = grind (arith, nat_tests) in refused (ltb 0 (length bytes) && leb (length bytes) 64) bytes rest stop none at
