-- A command is longer than its tag.
use Rattle.std.proofs.Common.{◌≡◌, ℕ, suc, ◌+◌, ◌<◌, Bool, true, false, List, [], ◌∷◌, length, subst, arith, if◌then◌else◌}
use Rattle.imap_grammar.specs.Bytes.{is_tag_byte}
use Rattle.imap_grammar.specs.Reading.{Reading, Reader, got, wrong, short, marked, and_then, gives, fails, byte, with_first, many}
use Rattle.imap_grammar.specs.Commands.{is_tag_long, checked_tag, tag_at}

-- the bytes that were read and the rest are as many as the text has
abbrev Parts : ℕ → Reading (List ℕ) → Type 0
Parts size (got bytes rest) = length bytes + length rest ≡ size
Parts size (wrong rest) = Unit {0}
Parts size short = Unit {0}
Parts size (marked count) = Unit {0}

parts_first : (b size : ℕ) (reading : Reading (List ℕ)) → Parts size reading → Parts (suc size) (with_first b reading)
parts_first b size (got bytes rest) e = omega (arith, e)
parts_first b size (wrong rest) e = tt
parts_first b size short e = tt
parts_first b size (marked count) e = tt

parts_if : (size : ℕ) (c : Bool) (x y : Reading (List ℕ)) → Parts size x → Parts size y → Parts size (if c then x else y)
parts_if size true x y p q = p
parts_if size false x y p q = q

parts_many : (is : ℕ → Bool) (text : List ℕ) → Parts (length text) (many is text)
parts_many is [] = tt
parts_many is (b ∷ bs) = parts_if (length (b ∷ bs)) (is b) (with_first b (many is bs)) (got [] (b ∷ bs)) (parts_first b (length bs) (many is bs) (parts_many is bs)) (omega arith)

parts_fails : (size : ℕ) (text : List ℕ) → Parts size (fails text)
parts_fails size [] = tt
parts_fails size (b ∷ bs) = tt

parts_checked : (size : ℕ) (bytes rest : List ℕ) → length bytes + length rest ≡ size → Parts size (checked_tag bytes rest)
parts_checked size bytes rest e = go (is_tag_long bytes)
  where
    go : (c : Bool) → Parts size ((let reader : Reader (List ℕ) = if c then gives bytes else fails in reader) rest)
    go true = e
    go false = parts_fails size rest

parts_tag : (text : List ℕ) → Parts (length text) (tag_at text)
parts_tag text = go (many is_tag_byte text) (parts_many is_tag_byte text)
  where
    go : (reading : Reading (List ℕ)) → Parts (length text) reading → Parts (length text) (and_then reading checked_tag)
    go (got bytes rest) e = parts_checked (length text) bytes rest e
    go (wrong rest) e = tt
    go short e = tt
    go (marked count) e = tt

parts_of : (text bytes rest : List ℕ) → tag_at text ≡ got bytes rest → length bytes + length rest ≡ length text
parts_of text bytes rest e = subst (Parts (length text)) e (parts_tag text)

-- a tag, and then a byte
pub tag_shorter : (text tag rest more : List ℕ) (b : ℕ) (u : Unit {0}) → tag_at text ≡ got tag rest → byte b rest ≡ got u more → length tag < length text
tag_shorter text tag [] more b u e f = absurd cc
tag_shorter text tag (x ∷ xs) more b u e f = let parts = parts_of text tag (x ∷ xs) e in omega (arith, parts)
