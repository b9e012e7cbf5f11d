-- A reader leaves no more text than it was given.
use Rattle.std.proofs.Common.{◌≡◌, ℕ, zero, suc, ◌+◌, ◌-◌, ◌*◌, ◌<◌, ◌≤◌, Bool, true, false, List, [], ◌∷◌, length, Option, Some, None, subst, arith, eqb, if◌then◌else◌}
use Rattle.imap_grammar.specs.Bytes.{is_astring_byte}
use Rattle.imap_grammar.specs.Reading.{Reading, Reader, got, wrong, short, marked, and_then, gives, byte, with_first, many}
use Rattle.imap_grammar.specs.Astrings.{plain}
use Rattle.imap_grammar.specs.Numbers.{takes_digit, number_ends, digits, number}
use Rattle.imap_grammar.specs.Lists.{next_item}
use Rattle.imap_grammar.specs.LimitLists.{asked_limit}
use Rattle.imap_grammar.specs.StatusItems.{status_item}
use Rattle.imap_grammar.specs.AppendArguments.{flag}

-- no more than this many bytes are left
abbrev pub Leaves : {A : Type 0} → ℕ → Reading A → Type 0
Leaves most (got own rest) = length rest ≤ most
Leaves most (wrong rest) = Unit {0}
Leaves most short = Unit {0}
Leaves most (marked count) = Unit {0}

abbrev pub Shrinks : {A : Type 0} → Reader A → Type 0
Shrinks item = (text : List ℕ) → Leaves (length text) (item text)

weaker : {A : Type 0} (less most : ℕ) (reading : Reading A) → less ≤ most → Leaves less reading → Leaves most reading
weaker less most (got own rest) le p = omega (arith, le, p)
weaker less most (wrong rest) le p = tt
weaker less most short le p = tt
weaker less most (marked count) le p = tt

leaves_then : {A B : Type 0} (most : ℕ) (reading : Reading A) (next : A → Reader B) → Leaves most reading → ((own : A) → Shrinks (next own)) → Leaves most (and_then reading next)
leaves_then most (got own rest) next p q = weaker (length rest) most (next own rest) p (q own rest)
leaves_then most (wrong rest) next p q = tt
leaves_then most short next p q = tt
leaves_then most (marked count) next p q = tt

leaves_if : {A : Type 0} (most : ℕ) (c : Bool) (x y : Reading A) → Leaves most x → Leaves most y → Leaves most (if c then x else y)
leaves_if most true x y p q = p
leaves_if most false x y p q = q

keeps : (n : ℕ) → n ≤ n
keeps n = omega arith

shrinks_byte : (b : ℕ) → Shrinks (byte b)
shrinks_byte b [] = tt
shrinks_byte b (x ∷ xs) = leaves_if (length (x ∷ xs)) (eqb x b) (got tt xs) (wrong (x ∷ xs)) (omega arith) tt

first_more : (b most : ℕ) (reading : Reading (List ℕ)) → Leaves most reading → Leaves (suc most) (with_first b reading)
first_more b most (got own rest) p = omega (arith, p)
first_more b most (wrong rest) p = tt
first_more b most short p = tt
first_more b most (marked count) p = tt

shrinks_many : (is : ℕ → Bool) → Shrinks (many is)
shrinks_many is [] = tt
shrinks_many is (b ∷ bs) = leaves_if (length (b ∷ bs)) (is b) (with_first b (many is bs)) (got [] (b ∷ bs)) (first_more b (length bs) (many is bs) (shrinks_many is bs)) (omega arith)

shrinks_plain : Shrinks plain
shrinks_plain [] = tt
shrinks_plain (b ∷ bs) = leaves_if (length (b ∷ bs)) (is_astring_byte b) (many is_astring_byte (b ∷ bs)) (wrong (b ∷ bs)) (shrinks_many is_astring_byte (b ∷ bs)) tt

ends : (come value : ℕ) (rest : List ℕ) → Leaves (length rest) (number_ends come value rest)
ends zero value rest = tt
ends (suc come) value rest = omega arith

shrinks_digits : (most largest come value : ℕ) → Shrinks (digits most largest come value)
shrinks_digits most largest come value [] = tt
shrinks_digits most largest come value (b ∷ bs) =
    leaves_if (length (b ∷ bs)) (takes_digit most largest come value b) (digits most largest (come + 1) (value * 10 + (b - 48)) bs) (number_ends come value (b ∷ bs))
    (weaker (length bs) (length (b ∷ bs)) (digits most largest (come + 1) (value * 10 + (b - 48)) bs) (omega arith) (shrinks_digits most largest (come + 1) (value * 10 + (b - 48)) bs))
    (ends come value (b ∷ bs))

pub shrinks_limit : Shrinks asked_limit
shrinks_limit text =
    leaves_then (length text) (plain text) _ (shrinks_plain text) (λ name rest.
    leaves_then (length rest) (byte 32 rest) _ (shrinks_byte 32 rest) (λ space rest2.
    leaves_then (length rest2) (number rest2) _ (shrinks_digits 19 9223372036854775807 0 0 rest2) (λ limit rest3. keeps (length rest3))))

pub shrinks_status_item : Shrinks status_item
shrinks_status_item text = leaves_then (length text) (plain text) _ (shrinks_plain text) (λ name rest. keeps (length rest))

pub shrinks_flag : Shrinks flag
shrinks_flag [] = tt
shrinks_flag (b ∷ bs) = leaves_if (length (b ∷ bs)) (eqb b 92) _ _
    (weaker (length bs) (length (b ∷ bs)) _ (omega arith) (leaves_then (length bs) (plain bs) _ (shrinks_plain bs) (λ name rest. keeps (length rest))))
    (leaves_then (length (b ∷ bs)) (plain (b ∷ bs)) _ (shrinks_plain (b ∷ bs)) (λ name rest. keeps (length rest)))

-- one more item takes a byte
next_leaves : {A : Type 0} (item : Reader A) → Shrinks item → (b : ℕ) (bs : List ℕ) → Leaves (length bs) (next_item item (b ∷ bs))
next_leaves item shrinks b bs =
    leaves_if (length bs) (eqb b 41) (got None bs) (if eqb b 32 then and_then (item bs) (λ own. gives (Some own)) else wrong (b ∷ bs)) (omega arith)
    (leaves_if (length bs) (eqb b 32) (and_then (item bs) (λ own. gives (Some own))) (wrong (b ∷ bs)) (leaves_then (length bs) (item bs) _ (shrinks bs) (λ own rest. keeps (length rest))) tt)

pub next_shorter : {A : Type 0} (item : Reader A) → Shrinks item → (rest more : List ℕ) (next : Option A) → next_item item rest ≡ got next more → length more < length rest
next_shorter item shrinks [] more next e = absurd cc
next_shorter {A} item shrinks (b ∷ bs) more next e = let le : length more ≤ length bs = subst (λ (r : Reading (Option A)). Leaves (length bs) r) e (next_leaves item shrinks b bs) in omega (arith, le)
