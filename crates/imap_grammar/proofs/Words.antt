-- The words of commands, and their letters.
use Rattle.std.proofs.Common.{◌≡◌, ℕ, ◌<◌, ◌≤◌, ◌⊎◌, Bool, true, false, ◌&&◌, List, [], ◌∷◌, map, Option, Some, None, refl, ap, ◌∙◌, inl, inr, arith, if◌then◌else◌, bytes_eq, codes}
use Rattle.std.specs.List.{list_all}
use Rattle.std.specs.Char.{to_ascii_lowercase, is_ascii_lowercase}
use Rattle.std.proofs.lemmas.Bool.{and_parts}
use Rattle.std.proofs.lemmas.Bool.Decides.{nat_tests, leb_tells}
use Rattle.std.proofs.lemmas.Slice.Eq.{bytes_eq-Decides}
use Rattle.std.proofs.lemmas.Str.Ascii.{lowercase_is}
use Rattle.imap_grammar.specs.declared.word.Word.{Word}
use Rattle.imap_grammar.specs.declared.word.Word.TheVariants.{Capability as CapabilityWord, Noop as NoopWord, Logout as LogoutWord, Login as LoginWord, GetQuota as GetQuotaWord, GetQuotaRoot as GetQuotaRootWord, SetQuota as SetQuotaWord, Status as StatusWord, Append as AppendWord}
use Rattle.imap_grammar.specs.Bytes.{is_letter}
use Rattle.imap_grammar.specs.Grammar.{IsWord}
use Rattle.imap_grammar.specs.Commands.{word_named, word_of}

-- the letters of a word, in lower case
abbrev pub letters_of : Word → List ℕ
letters_of CapabilityWord = codes "capability"
letters_of NoopWord = codes "noop"
letters_of LogoutWord = codes "logout"
letters_of LoginWord = codes "login"
letters_of GetQuotaWord = codes "getquota"
letters_of GetQuotaRootWord = codes "getquotaroot"
letters_of SetQuotaWord = codes "setquota"
letters_of StatusWord = codes "status"
letters_of AppendWord = codes "append"

-- one test of many
word_step : (name : List ℕ) (w word : Word) (others : Option Word) → (others ≡ Some word → name ≡ letters_of word)
    → (if bytes_eq name (letters_of w) then Some w else others) ≡ Some word → name ≡ letters_of word
word_step name w word others other e = go (bytes_eq name (letters_of w)) (bytes_eq-Decides name (letters_of w)).0 e
  where
    go : (c : Bool) → (c ≡ true → name ≡ letters_of w) → (if c then Some w else others) ≡ Some word → name ≡ letters_of word
    go true same i = let is : w ≡ word = cc in same refl ∙ ap letters_of is
    go false same i = other i

pub word_is : (name : List ℕ) (word : Word) → word_named name ≡ Some word → name ≡ letters_of word
word_is name word e =
    word_step name CapabilityWord word _ (word_step name NoopWord word _
    (word_step name LogoutWord word _ (word_step name LoginWord word _ (word_step name GetQuotaWord word _
    (word_step name GetQuotaRootWord word _ (word_step name SetQuotaWord word _
    (word_step name StatusWord word _ (word_step name AppendWord word None none)))))))) e
  where
    none : None ≡ Some word → name ≡ letters_of word
    none i = absurd cc

pub word_read : (letters : List ℕ) (word : Word) → IsWord (letters_of word) letters → word_of letters ≡ Some word
word_read letters word e = ap word_named e ∙ of_word word
  where
    of_word : (w : Word) → word_named (letters_of w) ≡ Some w
    of_word CapabilityWord = refl
    of_word NoopWord = refl
    of_word LogoutWord = refl
    of_word LoginWord = refl
    of_word GetQuotaWord = refl
    of_word GetQuotaRootWord = refl
    of_word SetQuotaWord = refl
    of_word StatusWord = refl
    of_word AppendWord = refl

in_either : (c w : ℕ) → to_ascii_lowercase c ≡ w → 97 ≤ w → w ≤ 122 → (c < 65 → to_ascii_lowercase c ≡ c) → (90 < c → to_ascii_lowercase c ≡ c)
    → ((65 ≤ c) × (c ≤ 90)) ⊎ ((97 ≤ c) × (c ≤ 122))
in_either c w e low high below above = elim (leb_tells c 64) [
  | inl h ↦ let same = below (omega (arith, h.1)) in absurd (omega (arith, h.1, same, e, low))
  | inr h ↦ elim (leb_tells c 90) [
    | inl k ↦ inl (omega (arith, h.1), k.1)
    | inr k ↦ let same = above (omega (arith, k.1)) in inr (omega (arith, same, e, low), omega (arith, same, e, high))
  ]
]

-- a letter in lower case is one in either
letter : (c w : ℕ) → to_ascii_lowercase c ≡ w → is_ascii_lowercase w ≡ true → is_letter c ≡ true
letter c w e low = let l = lowercase_is c in let range : (97 ≤ w) × (w ≤ 122) = grind (arith, nat_tests) in
    let either : ((65 ≤ c) × (c ≤ 90)) ⊎ ((97 ≤ c) × (c ≤ 122)) = in_either c w e range.0 range.1 l.1 l.2 in grind (arith, nat_tests)

letters_are : (bytes word : List ℕ) → map to_ascii_lowercase bytes ≡ word → list_all is_ascii_lowercase word ≡ true → list_all is_letter bytes ≡ true
letters_are [] word e each = refl
letters_are (c ∷ bytes) [] e each = absurd cc
letters_are (c ∷ bytes) (w ∷ word) e each =
    let head : to_ascii_lowercase c ≡ w = cc in
    let tail : map to_ascii_lowercase bytes ≡ word = cc in
    let parts = and_parts (is_ascii_lowercase w) (list_all is_ascii_lowercase word) each in
    ap (λ x. x && list_all is_letter bytes) (letter c w head parts.0) ∙ letters_are bytes word tail parts.1

pub word_letters : (bytes : List ℕ) (word : Word) → IsWord (letters_of word) bytes → list_all is_letter bytes ≡ true
word_letters bytes word e = letters_are bytes (letters_of word) e (low word)
  where
    low : (w : Word) → list_all is_ascii_lowercase (letters_of w) ≡ true
    low CapabilityWord = refl
    low NoopWord = refl
    low LogoutWord = refl
    low LoginWord = refl
    low GetQuotaWord = refl
    low GetQuotaRootWord = refl
    low SetQuotaWord = refl
    low StatusWord = refl
    low AppendWord = refl
