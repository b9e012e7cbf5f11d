-- Spellings that are read.
use Rattle.std.proofs.Common.{◌≡◌, ℕ, Bool, true, false, List, [], ◌∷◌, ◌++◌, ap, ◌∙◌, inl, inr, if◌then◌else◌}
use Rattle.std.specs.List.{list_all}
use Rattle.imap_grammar.specs.Grammar.{IsLineEnd}
use Rattle.imap_grammar.specs.Reading.{Reading, got, and_then, gives, with_first, many, line_end, Reader}
use Rattle.std.proofs.lemmas.Bool.{and_parts}

pub run_spelled : (is : ℕ → Bool) (bytes : List ℕ) (b : ℕ) (rest : List ℕ) → list_all is bytes ≡ true → is b ≡ false
    → many is (bytes ++ b ∷ rest) ≡ got bytes (b ∷ rest)
run_spelled is [] b rest each stops = ap (λ c. if c then with_first b (many is rest) else got [] (b ∷ rest)) stops
run_spelled is (x ∷ bytes) b rest each stops =
    let parts = and_parts (is x) (list_all is bytes) each in
    ap (λ c. if c then with_first x (many is (bytes ++ b ∷ rest)) else got [] (x ∷ (bytes ++ b ∷ rest))) parts.0
    ∙ ap (with_first x) (run_spelled is bytes b rest parts.1 stops)

pub end_spelled : {A : Type 0} (value : A) (end next : List ℕ) → IsLineEnd end → and_then (line_end (end ++ next)) (λ e. gives value) ≡ got value next
end_spelled value end next (inl e) = ap (λ l. and_then (line_end (l ++ next)) (λ x. gives value)) e
end_spelled value end next (inr e) = ap (λ l. and_then (line_end (l ++ next)) (λ x. gives value)) e

-- a reader that reads its spelling, and then another
pub then_spelled : {A B : Type 0} (reading : Reading A) (next : A → Reader B) (v : A) (rest : List ℕ) (reading2 : Reading B) → reading ≡ got v rest
    → next v rest ≡ reading2 → and_then reading next ≡ reading2
then_spelled reading next v rest reading2 e f = ap (λ r. and_then r next) e ∙ f
