-- Names that were written, read back.
use Rattle.std.proofs.Common.{◌≡◌, ◌<◌, ℕ, ◌==◌, ◌^◌, List, [], ◌∷◌, ◌++◌, Bool, true, false, cond, not, length, codes, decimal, Some, refl, ap, ◌∙◌, sym, ⊎_elim, arith}
use Rattle.std.specs.List.{before_first, after_first, filter, list_any, list_all}
use Rattle.std.specs.Option.{option_or}
use Rattle.std.specs.Char.{is_ascii_digit}
use Rattle.std.proofs.lemmas.Bool.{cases_Bool, and_from, and_parts, not-true, not_from_false}
use Rattle.std.proofs.lemmas.Bool.Decides.{nat_tests}
use Rattle.std.proofs.lemmas.Fmt.{decimal_is_IsNumeral}
use Rattle.std.proofs.lemmas.List.{append-nil, append_assoc}
use Rattle.std.proofs.lemmas.List.Folds.{list_all-append}
use Rattle.quota_units.specs.declared.flags.Flags.{Flags}
use Rattle.quota_units.specs.Flagging.{is_flag_letter, flag_letters, has_flag, flags_among, letters_of}
use Rattle.quota_units.proofs.DigitLemmas.{digits_all}
use Rattle.message_names.specs.Parts.{is_colon, is_comma, unique_of, info_of}
use Rattle.message_names.specs.Sizes.{cut_size, size_at, size_named, size_or}
use Rattle.message_names.specs.FlagLetters.{after_two, flags_of, others_of}
use Rattle.message_names.specs.Messages.{FileMessage, message_of}
use Rattle.message_names.specs.Written.{is_base_byte, is_base, written_flags, written_name, renamed}
use Rattle.message_names.specs.Laws.{IsRenamed}
use Rattle.message_names.proofs.CutLemmas.{after_yes, after_no, before_yes, before_no}
use Rattle.message_names.proofs.FieldLemmas.{named_no}
use Rattle.message_names.proofs.PlaceLemmas.{place_read}
use Rattle.message_names.proofs.LetterLemmas.{flags_back, others_back, no_flags}

-- bytes without a separator, and what stands behind them
module _ (p : ℕ → Bool) where
  abbrev has_none : List ℕ → Bool
  has_none xs = list_all (λ x. not (p x)) xs

  head_none : (x : ℕ) (xs : List ℕ) → has_none (x ∷ xs) ≡ true → (p x ≡ false) × (has_none xs ≡ true)
  head_none x xs h = let parts = and_parts (not (p x)) (has_none xs) h in (not-true (p x) parts.0, parts.1)

  before_at : (xs : List ℕ) (y : ℕ) (ys : List ℕ) → has_none xs ≡ true → p y ≡ true → before_first p (xs ++ y ∷ ys) ≡ xs
  before_at [] y ys h k = before_yes p y ys k
  before_at (x ∷ xs) y ys h k =
      let parts = head_none x xs h in
      before_no p x (xs ++ y ∷ ys) parts.0 ∙ ap (λ zs. x ∷ zs) (before_at xs y ys parts.1 k)

  after_at : (xs : List ℕ) (y : ℕ) (ys : List ℕ) → has_none xs ≡ true → p y ≡ true → after_first p (xs ++ y ∷ ys) ≡ ys
  after_at [] y ys h k = after_yes p y ys k
  after_at (x ∷ xs) y ys h k =
      let parts = head_none x xs h in after_no p x (xs ++ y ∷ ys) parts.0 ∙ after_at xs y ys parts.1 k

  before_all : (xs : List ℕ) → has_none xs ≡ true → before_first p xs ≡ xs
  before_all [] h = refl
  before_all (x ∷ xs) h =
      let parts = head_none x xs h in before_no p x xs parts.0 ∙ ap (λ zs. x ∷ zs) (before_all xs parts.1)

  after_all : (xs : List ℕ) → has_none xs ≡ true → after_first p xs ≡ []
  after_all [] h = refl
  after_all (x ∷ xs) h = let parts = head_none x xs h in after_no p x xs parts.0 ∙ after_all xs parts.1

  -- what stands before the first separator has none
  before_has_none : (xs : List ℕ) → has_none (before_first p xs) ≡ true
  before_has_none [] = refl
  before_has_none (x ∷ xs) = ⊎_elim
      (λ (h : p x ≡ true). ap has_none (before_yes p x xs h))
      (λ (h : p x ≡ false). ap has_none (before_no p x xs h)
      ∙ and_from (not (p x)) (has_none (before_first p xs)) (not_from_false (p x) h) (before_has_none xs))
      (cases_Bool (p x))

  -- bytes that pass another test have no separator
  none_from : (q : ℕ → Bool) → ((x : ℕ) → q x ≡ true → p x ≡ false) → (xs : List ℕ) → list_all q xs ≡ true → has_none xs ≡ true
  none_from q other [] h = refl
  none_from q other (x ∷ xs) h =
      let parts = and_parts (q x) (list_all q xs) h in
      and_from (not (p x)) (has_none xs) (not_from_false (p x) (other x parts.0)) (none_from q other xs parts.1)

base_no_colon : (b : ℕ) → is_base_byte b ≡ true → is_colon b ≡ false
base_no_colon b h = grind (arith, nat_tests)

base_no_comma : (b : ℕ) → is_base_byte b ≡ true → is_comma b ≡ false
base_no_comma b h = grind (arith, nat_tests)

digit_no_colon : (b : ℕ) → is_ascii_digit b ≡ true → is_colon b ≡ false
digit_no_colon b h = grind (arith, nat_tests)

base_bytes : (base : List ℕ) → is_base base ≡ true → list_all is_base_byte base ≡ true
base_bytes [] h = refl
base_bytes (b ∷ bytes) h = (and_parts (not (b == 46)) (list_all is_base_byte (b ∷ bytes)) h).1

-- flags that are written behind a unique part
module _ (unique : List ℕ) (plain : has_none is_colon unique ≡ true) (flags : Flags) where
  letters_back : flags_among (letters_of flags) ≡ flags
  letters_back = ap flags_among (sym (append-nil (letters_of flags))) ∙ flags_back flags []

  flags_either : (t : Bool) → list_any (has_flag flags) flag_letters ≡ t
      → (unique_of (unique ++ cond t (codes ":2," ++ letters_of flags) []) ≡ unique)
      × (flags_of (unique ++ cond t (codes ":2," ++ letters_of flags) []) ≡ flags)
  flags_either true h = (
    before_at is_colon unique 58 (codes "2," ++ letters_of flags) plain refl,
    ap (λ info. flags_among (after_two info)) (after_at is_colon unique 58 (codes "2," ++ letters_of flags) plain refl) ∙ letters_back,
  )
  flags_either false h = (
    ap unique_of (append-nil unique) ∙ before_all is_colon unique plain,
    ap flags_of (append-nil unique) ∙ ap (λ info. flags_among (after_two info)) (after_all is_colon unique plain) ∙ no_flags flags h,
  )

  flags_read : (unique_of (unique ++ written_flags flags) ≡ unique) × (flags_of (unique ++ written_flags flags) ≡ flags)
  flags_read = flags_either (list_any (has_flag flags) flag_letters) refl

-- bytes without a comma have no part in the size
named_over : (xs ys : List ℕ) → has_none is_comma xs ≡ true → size_named (xs ++ ys) ≡ size_named ys
named_over [] ys h = refl
named_over (x ∷ xs) ys h =
    let parts = head_none is_comma x xs h in named_no x (xs ++ ys) parts.0 ∙ named_over xs ys parts.1

cut_twice : (n : ℕ) → cut_size (cut_size n) ≡ cut_size n
cut_twice n = omega arith

same_message : (a b : List ℕ) (m n : ℕ) (f g : Flags) → a ≡ b → m ≡ n → f ≡ g
    → ◌≡◌ {A = FileMessage} (record { base = a; octets = m; flags = f }) (record { base = b; octets = n; flags = g })
same_message a b m n f g p q r = cc

-- a base, a size and flags that are written
module _ (base : List ℕ) (size : ℕ) (flags : Flags) (right : is_base base ≡ true) (small : size < 2 ^ 64) where
  digits : list_all is_ascii_digit (decimal size) ≡ true
  digits = digits_all (decimal size) (decimal_is_IsNumeral size small).0.1

  size_read : size_at (codes ",S=" ++ decimal size) ≡ Some (cut_size size)
  size_read =
      let numeral = decimal_is_IsNumeral size small in
      ap (λ ds. size_at (codes ",S=" ++ ds)) (sym (append-nil (decimal size)))
      ∙ place_read (decimal size) [] numeral.0.0 digits refl
      ∙ ap (λ n. Some (cut_size n)) numeral.1

  abbrev unique : List ℕ
  unique = base ++ (codes ",S=" ++ decimal size)

  plain : has_none is_colon unique ≡ true
  plain =
      list_all-append (λ x. not (is_colon x)) base (codes ",S=" ++ decimal size)
      ∙ and_from (has_none is_colon base) (has_none is_colon (codes ",S=" ++ decimal size))
      (none_from is_colon is_base_byte base_no_colon base (base_bytes base right))
      (none_from is_colon is_ascii_digit digit_no_colon (decimal size) digits)

  no_comma : has_none is_comma base ≡ true
  no_comma = none_from is_comma is_base_byte base_no_comma base (base_bytes base right)

  named : size_named unique ≡ Some (cut_size size)
  named =
      named_over base (codes ",S=" ++ decimal size) no_comma
      ∙ ap (λ o. option_or o (size_named (codes "S=" ++ decimal size))) size_read

  apart : written_name base size flags ≡ unique ++ written_flags flags
  apart = sym (append_assoc base (codes ",S=" ++ decimal size) (written_flags flags))

  unique_back : unique_of (written_name base size flags) ≡ unique
  unique_back = ap unique_of apart ∙ (flags_read unique plain flags).0

  pub written_back : (length : ℕ)
      → message_of (written_name base size flags) length ≡ record { base = base; octets = cut_size size; flags = flags }
  written_back length = same_message _ _ _ _ _ _
      (ap (before_first is_comma) unique_back ∙ before_at is_comma base 44 (codes "S=" ++ decimal size) no_comma refl)
      (ap (λ u. size_or (size_named u) length) unique_back ∙ ap (λ o. size_or o length) named ∙ cut_twice size)
      (ap flags_of apart ∙ (flags_read unique plain flags).1)

-- a name with new flags
pub renamed_back : (name : List ℕ) (flags : Flags) → IsRenamed name (renamed name flags) flags
renamed_back name flags =
    let plain = before_has_none is_colon name in
    let rest = letters_of flags ++ others_of name in
    let info = after_at is_colon (unique_of name) 58 (codes "2," ++ rest) plain refl in
    let unique = before_at is_colon (unique_of name) 58 (codes "2," ++ rest) plain refl in
    let given = ap (λ i. flags_among (after_two i)) info ∙ flags_back flags (after_two (info_of name)) in
    record {
      unique = unique;
      flags = given;
      others = ap (λ i. filter (λ b. not (is_flag_letter b)) (after_two i)) info ∙ others_back flags (after_two (info_of name));
      message = λ length. same_message _ _ _ _ _ _ (ap (before_first is_comma) unique)
          (ap (λ u. size_or (size_named u) length) unique) given;
    }
