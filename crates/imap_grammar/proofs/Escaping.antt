-- Bytes printed between quotes, as far as an index.
use Rattle.std.proofs.Common.{◌≡◌, ℕ, ◌+◌, ◌<◌, ◌≤◌, List, ◌++◌, length, take, get_or, sym, ap, ◌∙◌, append-nil}
use Rattle.std.specs.List.{flat_map}
use Rattle.std.proofs.lemmas.List.{take_more, take_all, flat_map_more}
use Rattle.imap_grammar.specs.Printing.{escaped}

-- the bytes before the index were printed
abbrev pub EscapedTo : (old out bytes : List ℕ) → ℕ → Type 0
EscapedTo old out bytes i = out ≡ old ++ flat_map escaped (take i bytes)

pub escaped_none : (old bytes : List ℕ) → EscapedTo old old bytes 0
escaped_none old bytes = sym (append-nil old)

pub escaped_more : (old out more bytes : List ℕ) (i : ℕ) → i < length bytes → EscapedTo old out bytes i → more ≡ out ++ escaped (get_or bytes i 0) → EscapedTo old more bytes (i + 1)
escaped_more old out more bytes i lt so_far e =
    e ∙ ap (λ l. l ++ escaped (get_or bytes i 0)) so_far
    ∙ flat_map_more escaped old (take i bytes) (get_or bytes i 0)
    ∙ ap (λ l. old ++ flat_map escaped l) (sym (take_more bytes i 0 lt))

pub escaped_all : (old out bytes : List ℕ) (i : ℕ) → length bytes ≤ i → EscapedTo old out bytes i → out ≡ old ++ flat_map escaped bytes
escaped_all old out bytes i le so_far = so_far ∙ ap (λ l. old ++ flat_map escaped l) (take_all i bytes le)
