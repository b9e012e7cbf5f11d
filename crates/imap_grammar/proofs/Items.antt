-- The items of lists: what is read is spelled so, and each spelling is read.
use Rattle.std.proofs.Common.{◌≡◌, ℕ, true, false, List, [], ◌∷◌, ◌++◌, Option, None, refl, sym, ap, ◌∙◌, subst, inl, inr, arith, append_assoc, append-nil, eqb}
use Rattle.std.specs.List.{list_all}
use Rattle.std.specs.Char.{is_ascii_digit}
use Rattle.std.proofs.lemmas.Bool.{and_parts, cond-false}
use Rattle.std.proofs.lemmas.Bool.Decides.{nat_tests}
use Rattle.quota_units.specs.Resources.{resource_of}
use Rattle.imap_grammar.specs.declared.limits.AskedLimit.{AskedLimit}
use Rattle.imap_grammar.specs.declared.status.StatusItem.{StatusItem}
use Rattle.imap_grammar.specs.Bytes.{is_astring_byte}
use Rattle.imap_grammar.specs.Grammar.{IsPlain, IsNumber, IsAskedLimit, IsStatusItem, IsFlag}
use Rattle.imap_grammar.specs.Reading.{Reader, got, and_then, ◌>>=◌, gives, byte}
use Rattle.imap_grammar.specs.Astrings.{plain}
use Rattle.imap_grammar.specs.Numbers.{number}
use Rattle.imap_grammar.specs.LimitLists.{asked_limit}
use Rattle.imap_grammar.specs.StatusItems.{item_of, status_item}
use Rattle.imap_grammar.specs.SystemFlags.{letter_of}
use Rattle.imap_grammar.specs.AppendArguments.{flag}
use Rattle.imap_grammar.proofs.ReaderLaws.{IsReader, reads_then, reads_gives}
use Rattle.imap_grammar.proofs.Steps.{reads_same, reads_byte_then, choice, reads_choice}
use Rattle.imap_grammar.proofs.Spelled.{then_spelled}
use Rattle.imap_grammar.proofs.Numbers.{reads_number, number_spelled}
use Rattle.imap_grammar.proofs.Astrings.{Plain, reads_plain, plain_spelled}

-- a plain name has a first byte
pub plain_first : (bytes : List ℕ) → IsPlain bytes → (b : ℕ) × (bs : List ℕ) × (bytes ≡ b ∷ bs) × (is_astring_byte b ≡ true)
plain_first [] is = let lt = is.some in absurd (omega (arith, lt))
plain_first (b ∷ bs) is = (b, bs, refl, (and_parts (is_astring_byte b) (list_all is_astring_byte bs) is.each).0)

abbrev asked_of : List ℕ → ℕ → AskedLimit
asked_of name limit = record { resource = resource_of name; limit = limit }

-- a resource's name, a space and a limit
pub reads_asked : IsReader IsAskedLimit asked_limit
reads_asked = reads_then Plain IsAskedLimit plain (λ name. byte 32 >>= (λ space. number >>= (λ limit. gives (asked_of name limit)))) reads_plain
    (λ bytes name own. reads_byte_then (λ b. IsAskedLimit (bytes ++ b)) 32 (number >>= (λ limit. gives (asked_of name limit)))
    (reads_then IsNumber (λ b. IsAskedLimit (bytes ++ 32 ∷ b)) number (λ limit. gives (asked_of name limit))
    (reads_number 19 9223372036854775807 (omega arith))
    (λ ds n is. reads_gives (λ b. IsAskedLimit (bytes ++ 32 ∷ (ds ++ b))) (asked_of name n)
    (bytes, ds, own.1, is, ap resource_of own.0, ap (λ l. bytes ++ 32 ∷ l) (append-nil ds)))))

pub asked_spelled : (bytes : List ℕ) (asked : AskedLimit) (b : ℕ) (rest : List ℕ) → IsAskedLimit bytes asked → is_ascii_digit b ≡ false
    → asked_limit (bytes ++ b ∷ rest) ≡ got asked (b ∷ rest)
asked_spelled bytes asked b rest (name, digits, is_plain, is_number, is_resource, e) stops =
    let text : bytes ++ b ∷ rest ≡ name ++ 32 ∷ (digits ++ b ∷ rest) = ap (λ l. l ++ b ∷ rest) e ∙ append_assoc name (32 ∷ digits) (b ∷ rest) in
    ap asked_limit text
    ∙ then_spelled (plain (name ++ 32 ∷ (digits ++ b ∷ rest))) _ name (32 ∷ (digits ++ b ∷ rest)) _
    (plain_spelled name 32 (digits ++ b ∷ rest) is_plain refl) refl
    ∙ then_spelled (number (digits ++ b ∷ rest)) (λ limit. gives (asked_of name limit)) asked.limit (b ∷ rest) _
    (number_spelled 19 9223372036854775807 digits asked.limit b rest is_number stops) refl
    ∙ ap (λ r. got (record { resource = r; limit = asked.limit }) (b ∷ rest)) (sym is_resource)

not_closing : (b : ℕ) → is_astring_byte b ≡ true → eqb b 41 ≡ false
not_closing b e = grind (arith, nat_tests)

pub asked_begins : (own : List ℕ) (x : AskedLimit) → IsAskedLimit own x → (b : ℕ) × (bs : List ℕ) × (own ≡ b ∷ bs) × (eqb b 41 ≡ false)
asked_begins own x (name, digits, is_plain, is_number, is_resource, e) =
    let first = plain_first name is_plain in
    (first.0, first.1 ++ 32 ∷ digits, e ∙ ap (λ l. l ++ 32 ∷ digits) first.2, not_closing first.0 first.3)

-- a name of an item of STATUS
pub reads_status : IsReader IsStatusItem status_item
reads_status = reads_then Plain IsStatusItem plain (λ name. gives (item_of name)) reads_plain
    (λ bytes name own. reads_gives (λ b. IsStatusItem (bytes ++ b)) (item_of name)
    (subst IsPlain (sym (append-nil bytes)) own.1, ap item_of (own.0 ∙ sym (append-nil bytes))))

pub status_spelled : (bytes : List ℕ) (item : Option StatusItem) (b : ℕ) (rest : List ℕ) → IsStatusItem bytes item → is_astring_byte b ≡ false
    → status_item (bytes ++ b ∷ rest) ≡ got item (b ∷ rest)
status_spelled bytes item b rest (is, same) stops = ap (λ r. and_then r (λ name. gives (item_of name))) (plain_spelled bytes b rest is stops)
    ∙ ap (λ i. got i (b ∷ rest)) (sym same)

-- a flag
abbrev lettered : Reader (Option ℕ)
lettered = plain >>= (λ name. gives (letter_of name))

abbrev unlettered : Reader (Option ℕ)
unlettered = plain >>= (λ name. gives None)

pub reads_flag : IsReader IsFlag flag
reads_flag = reads_same IsFlag (choice 92 lettered unlettered) flag same
    (reads_choice IsFlag 92 lettered unlettered
    (reads_then Plain (λ b. IsFlag (92 ∷ b)) plain (λ name. gives (letter_of name)) reads_plain
    (λ bytes name own. reads_gives (λ b. IsFlag (92 ∷ (bytes ++ b))) (letter_of name)
    (inr (bytes, own.1, ap letter_of own.0, ap (λ l. 92 ∷ l) (append-nil bytes)))))
    (reads_then Plain IsFlag plain (λ name. gives None) reads_plain
    (λ bytes name own. reads_gives (λ b. IsFlag (bytes ++ b)) None (inl (subst IsPlain (sym (append-nil bytes)) own.1, refl)))))
  where
    same : (text : List ℕ) → choice 92 lettered unlettered text ≡ flag text
    same [] = refl
    same (b ∷ bs) = refl

not_backslash : (b : ℕ) → is_astring_byte b ≡ true → eqb b 92 ≡ false
not_backslash b e = grind (arith, nat_tests)

pub flag_spelled : (bytes : List ℕ) (letter : Option ℕ) (b : ℕ) (rest : List ℕ) → IsFlag bytes letter → is_astring_byte b ≡ false
    → flag (bytes ++ b ∷ rest) ≡ got letter (b ∷ rest)
flag_spelled bytes letter b rest (inl (is, none)) stops =
    let first = plain_first bytes is in
    let text : bytes ++ b ∷ rest ≡ first.0 ∷ (first.1 ++ b ∷ rest) = ap (λ l. l ++ b ∷ rest) first.2 in
    ap flag text ∙ cond-false (eqb first.0 92) (lettered (first.1 ++ b ∷ rest)) (unlettered (first.0 ∷ (first.1 ++ b ∷ rest))) (not_backslash first.0 first.3)
    ∙ ap unlettered (sym text) ∙ ap (λ r. and_then r (λ name. gives None)) (plain_spelled bytes b rest is stops) ∙ ap (λ l. got l (b ∷ rest)) (sym none)
flag_spelled bytes letter b rest (inr (name, is, same, e)) stops =
    ap (λ l. flag (l ++ b ∷ rest)) e ∙ ap (λ r. and_then r (λ n. gives (letter_of n))) (plain_spelled name b rest is stops)
    ∙ ap (λ l. got l (b ∷ rest)) (sym same)

pub flag_begins : (own : List ℕ) (x : Option ℕ) → IsFlag own x → (b : ℕ) × (bs : List ℕ) × (own ≡ b ∷ bs) × (eqb b 41 ≡ false)
flag_begins own x (inl (is, none)) = let first = plain_first own is in (first.0, first.1, first.2, not_closing first.0 first.3)
flag_begins own x (inr (name, is, same, e)) = (92, name, e, refl)
