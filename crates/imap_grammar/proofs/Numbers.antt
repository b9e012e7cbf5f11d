-- Numbers: what is read is spelled so, and each spelling is read.
use Rattle.std.proofs.Common.{◌≡◌, ℕ, zero, suc, ◌+◌, ◌-◌, ◌*◌, ◌<◌, ◌≤◌, Bool, true, false, ◌&&◌, ltb, leb, lt-ltb, le-leb, List, [], ◌∷◌, ◌++◌, length, take, refl, sym, ap, ◌∙◌, subst, arith, append_assoc, append-nil, length-append}
use Rattle.std.specs.List.{list_all}
use Rattle.std.specs.Char.{is_ascii_digit, digit_value}
use Rattle.std.specs.Str.Parse.{digits_value}
use Rattle.std.proofs.lemmas.Bool.{and_parts, cond-false, cond-true}
use Rattle.std.proofs.lemmas.Bool.Decides.{nat_tests}
use Rattle.std.proofs.lemmas.Int.Digits.{digits_value_push}
use Rattle.std.proofs.lemmas.Str.Parse.{digits_value-take-le}
use Rattle.std.proofs.lemmas.Str.{digit_value_digit}
use Rattle.std.proofs.lemmas.List.{take_at}
use Rattle.quota_units.proofs.DigitLemmas.{digit_range}
use Rattle.imap_grammar.specs.Grammar.{IsNumberWithin}
use Rattle.imap_grammar.specs.Reading.{Reader, got}
use Rattle.imap_grammar.specs.Numbers.{takes_digit, number_ends, digits, number_within}
use Rattle.imap_grammar.proofs.ReaderLaws.{GoesOn, Reads, IsReader}
use Rattle.imap_grammar.proofs.Steps.{reads_step, reads_wrong, reads_none, reads_if}

-- the value of one digit more
pub push_value : (prefix : List ℕ) (b : ℕ) → is_ascii_digit b ≡ true → digits_value 10 (prefix ++ b ∷ []) ≡ digits_value 10 prefix * 10 + (b - 48)
push_value prefix b e =
    let r = digit_range b e in
    let v = digit_value_digit b r in
    let same : digit_value b ≡ b - 48 = omega arith in
    digits_value_push 10 prefix b ∙ ap (λ n. digits_value 10 prefix * 10 + n) same

all_push : (prefix : List ℕ) (b : ℕ) → list_all is_ascii_digit prefix ≡ true → is_ascii_digit b ≡ true → list_all is_ascii_digit (prefix ++ b ∷ []) ≡ true
all_push [] b each e = ap (λ c. c && true) e
all_push (x ∷ prefix) b each e =
    let parts = and_parts (is_ascii_digit x) (list_all is_ascii_digit prefix) each in
    ap (λ c. c && list_all is_ascii_digit (prefix ++ b ∷ [])) parts.0 ∙ all_push prefix b parts.1 e

module _ (most largest : ℕ) where
  abbrev Number : List ℕ → ℕ → Type 0
  Number = IsNumberWithin most largest

  -- what completes these digits
  abbrev Completes : List ℕ → List ℕ → ℕ → Type 0
  Completes prefix bytes = Number (prefix ++ bytes)

  -- further digits, after these
  abbrev after_digits : List ℕ → Reader ℕ
  after_digits prefix = digits most largest (length prefix) (digits_value 10 prefix)

  abbrev takes_next : List ℕ → ℕ → Bool
  takes_next prefix b = takes_digit most largest (length prefix) (digits_value 10 prefix) b

  abbrev one_more : List ℕ → ℕ → Reader ℕ
  one_more prefix b = digits most largest (length prefix + 1) (digits_value 10 prefix * 10 + (b - 48))

  -- a digit that is taken
  record IsTaken (come value b : ℕ) : Type 0 where
    digit : is_ascii_digit b ≡ true
    few : come < most
    bounded : value * 10 + (b - 48) ≤ largest

  taken : (come value b : ℕ) → takes_digit most largest come value b ≡ true → IsTaken come value b
  taken come value b e =
      let first = and_parts (is_ascii_digit b) (ltb come most && leb (value * 10 + (b - 48)) largest) e in
      let second = and_parts (ltb come most) (leb (value * 10 + (b - 48)) largest) first.1 in
      let few : come < most = grind (arith, nat_tests) in
      let bounded : value * 10 + (b - 48) ≤ largest = grind (arith, nat_tests) in
      record { digit = first.0; few = few; bounded = bounded }

  takes_it : (come value b : ℕ) → IsTaken come value b → takes_digit most largest come value b ≡ true
  takes_it come value b t =
      ap (λ c. c && (ltb come most && leb (value * 10 + (b - 48)) largest)) t.digit
      ∙ ap (λ c. c && leb (value * 10 + (b - 48)) largest) (lt-ltb come most t.few) ∙ le-leb (value * 10 + (b - 48)) largest t.bounded

  -- digits with which a number may begin
  record IsBegun (prefix : List ℕ) : Type 0 where
    each : list_all is_ascii_digit prefix ≡ true
    few : length prefix ≤ most
    bounded : digits_value 10 prefix ≤ largest

  begun_more : (prefix : List ℕ) (b : ℕ) → IsBegun prefix → IsTaken (length prefix) (digits_value 10 prefix) b → IsBegun (prefix ++ b ∷ [])
  begun_more prefix b begun t =
      let value = push_value prefix b t.digit in
      let size = length-append prefix (b ∷ []) in
      let few = t.few in
      let bounded = t.bounded in
      record { each = all_push prefix b begun.each t.digit; few = omega (arith, size, few); bounded = omega (arith, value, bounded) }

  begun_number : (prefix : List ℕ) (n : ℕ) → IsBegun prefix → length prefix ≡ suc n → Number prefix (digits_value 10 prefix)
  begun_number prefix n begun e = record { some = omega (arith, e); few = begun.few; digits = begun.each; value = refl; bounded = begun.bounded }

  number_goes : 0 < most → (prefix : List ℕ) → IsBegun prefix → GoesOn (λ bytes. Number (prefix ++ bytes)) []
  number_goes lt [] begun = (48 ∷ [], 0, record { some = omega arith; few = omega (arith, lt); digits = refl; value = refl; bounded = omega arith })
  number_goes lt (x ∷ prefix) begun = (
    [],
    digits_value 10 (x ∷ prefix),
    subst (λ l. Number l (digits_value 10 (x ∷ prefix))) (sym (append-nil (x ∷ prefix)))
        (begun_number (x ∷ prefix) (length prefix) begun refl),
  )

  -- one digit more
  next_digit : (prefix : List ℕ) (b : ℕ) (l : List ℕ) → IsTaken (length prefix) (digits_value 10 prefix) b
      → one_more prefix b l ≡ after_digits (prefix ++ b ∷ []) l
  next_digit prefix b l t =
      ap (λ n. digits most largest n (digits_value 10 prefix * 10 + (b - 48)) l) (sym (length-append prefix (b ∷ [])))
      ∙ ap (λ n. digits most largest (length (prefix ++ b ∷ [])) n l) (sym (push_value prefix b t.digit))

  digit_read : (prefix : List ℕ) (b : ℕ) (bs : List ℕ) → IsTaken (length prefix) (digits_value 10 prefix) b → takes_next prefix b ≡ true
      → Reads (Completes (prefix ++ b ∷ [])) (after_digits (prefix ++ b ∷ [])) bs (after_digits (prefix ++ b ∷ []) bs)
      → Reads (Completes prefix) (after_digits prefix) (b ∷ bs) (one_more prefix b bs)
  digit_read prefix b bs t e more =
      subst (Reads (Completes prefix) (after_digits prefix) (b ∷ bs)) (sym (next_digit prefix b bs t))
      (reads_step (Completes prefix) (Completes (prefix ++ b ∷ [])) (after_digits prefix) (after_digits (prefix ++ b ∷ [])) b bs
      (after_digits (prefix ++ b ∷ []) bs)
      (λ l. cond-true (takes_next prefix b) (one_more prefix b l) (number_ends (length prefix) (digits_value 10 prefix) (b ∷ l)) e ∙ next_digit prefix b l t)
      (λ bytes v. subst (λ l. Number l v) (append_assoc prefix (b ∷ []) bytes)) more)

  digits_end : 0 < most → (prefix : List ℕ) (b : ℕ) (bs : List ℕ) → IsBegun prefix → takes_next prefix b ≡ false
      → Reads (Completes prefix) (after_digits prefix) (b ∷ bs) (number_ends (length prefix) (digits_value 10 prefix) (b ∷ bs))
  digits_end lt prefix b bs begun e = go (length prefix) refl
    where
      stops : (n : ℕ) → length prefix ≡ n → (l : List ℕ) → after_digits prefix (b ∷ l) ≡ number_ends n (digits_value 10 prefix) (b ∷ l)
      stops n size l =
          cond-false (takes_next prefix b) (one_more prefix b l) (number_ends (length prefix) (digits_value 10 prefix) (b ∷ l)) e
          ∙ ap (λ m. number_ends m (digits_value 10 prefix) (b ∷ l)) size

      go : (n : ℕ) → length prefix ≡ n → Reads (Completes prefix) (after_digits prefix) (b ∷ bs) (number_ends n (digits_value 10 prefix) (b ∷ bs))
      go zero size = reads_wrong (Completes prefix) (after_digits prefix) b bs (stops zero size) (number_goes lt prefix begun)
      go (suc n) size = reads_none (Completes prefix) (after_digits prefix) (digits_value 10 prefix) b bs (stops (suc n) size)
          (subst (λ l. Number l (digits_value 10 prefix)) (sym (append-nil prefix)) (begun_number prefix n begun size))

  reads_digits : 0 < most → (text prefix : List ℕ) → IsBegun prefix → Reads (Completes prefix) (after_digits prefix) text (after_digits prefix text)
  reads_digits lt [] prefix begun = number_goes lt prefix begun
  reads_digits lt (b ∷ bs) prefix begun =
      reads_if (Completes prefix) (after_digits prefix) (takes_next prefix b) (b ∷ bs) (one_more prefix b bs)
      (number_ends (length prefix) (digits_value 10 prefix) (b ∷ bs))
      (λ e. let t = taken (length prefix) (digits_value 10 prefix) b e in
      digit_read prefix b bs t e (reads_digits lt bs (prefix ++ b ∷ []) (begun_more prefix b begun t)))
      (λ e. digits_end lt prefix b bs begun e)

  -- what is read is spelled so
  pub reads_number : 0 < most → IsReader (IsNumberWithin most largest) (number_within most largest)
  reads_number lt =
      let none : IsBegun [] = record { each = refl; few = omega arith; bounded = omega arith } in
      record { some = number_goes lt [] none; each = λ text. reads_digits lt text [] none }

  parts_all : (prefix back : List ℕ) (x : ℕ) → list_all is_ascii_digit (prefix ++ x ∷ back) ≡ true → is_ascii_digit x ≡ true
  parts_all [] back x each = (and_parts (is_ascii_digit x) (list_all is_ascii_digit back) each).0
  parts_all (y ∷ prefix) back x each = parts_all prefix back x (and_parts (is_ascii_digit y) (list_all is_ascii_digit (prefix ++ x ∷ back)) each).1

  digits_spelled : (back prefix : List ℕ) (n b : ℕ) (rest : List ℕ) → Number (prefix ++ back) n → is_ascii_digit b ≡ false
      → digits most largest (length prefix) (digits_value 10 prefix) (back ++ b ∷ rest) ≡ got n (b ∷ rest)
  digits_spelled [] prefix n b rest is stops =
      let all : prefix ++ [] ≡ prefix = append-nil prefix in
      let some : 0 < length prefix = subst (λ l. 0 < length l) all is.some in
      let value : n ≡ digits_value 10 prefix = is.value ∙ ap (digits_value 10) all in
      let none : takes_digit most largest (length prefix) (digits_value 10 prefix) b ≡ false =
      ap (λ c. c && (ltb (length prefix) most && leb (digits_value 10 prefix * 10 + (b - 48)) largest)) stops in
      cond-false (takes_digit most largest (length prefix) (digits_value 10 prefix) b)
      (digits most largest (length prefix + 1) (digits_value 10 prefix * 10 + (b - 48)) rest)
      (number_ends (length prefix) (digits_value 10 prefix) (b ∷ rest)) none
      ∙ ends (length prefix) some ∙ ap (λ m. got m (b ∷ rest)) (sym value)
    where
      ends : (m : ℕ) → 0 < m → number_ends m (digits_value 10 prefix) (b ∷ rest) ≡ got (digits_value 10 prefix) (b ∷ rest)
      ends zero lt = absurd (omega (arith, lt))
      ends (suc m) lt = refl
  digits_spelled (x ∷ back) prefix n b rest is stops =
      let digit = parts_all prefix back x is.digits in
      let joined : (prefix ++ x ∷ []) ++ back ≡ prefix ++ x ∷ back = append_assoc prefix (x ∷ []) back in
      let value = push_value prefix x digit in
      let size = length-append prefix (x ∷ []) in
      let whole = length-append prefix (x ∷ back) in
      let few = is.few in
      let own : take (length prefix + 1) (prefix ++ x ∷ back) ≡ prefix ++ x ∷ [] = ap (take (length prefix + 1)) (sym joined)
      ∙ take_at (prefix ++ x ∷ []) back (length prefix + 1) size in
      let below : digits_value 10 (prefix ++ x ∷ []) ≤ digits_value 10 (prefix ++ x ∷ back) =
      subst (λ l. digits_value 10 l ≤ digits_value 10 (prefix ++ x ∷ back)) own
      (digits_value-take-le 10 (prefix ++ x ∷ back) (length prefix + 1) (omega arith)) in
      let is_value = is.value in
      let bounded = is.bounded in
      let t : IsTaken (length prefix) (digits_value 10 prefix) x =
      record { digit = digit; few = omega (arith, whole, few); bounded = omega (arith, value, below, is_value, bounded) } in
      cond-true (takes_digit most largest (length prefix) (digits_value 10 prefix) x)
      (digits most largest (length prefix + 1) (digits_value 10 prefix * 10 + (x - 48)) (back ++ b ∷ rest))
      (number_ends (length prefix) (digits_value 10 prefix) (x ∷ (back ++ b ∷ rest))) (takes_it (length prefix) (digits_value 10 prefix) x t)
      ∙ next_digit prefix x (back ++ b ∷ rest) t
      ∙ digits_spelled back (prefix ++ x ∷ []) n b rest (subst (λ l. Number l n) (sym joined) is) stops

  -- each spelling is read
  pub number_spelled : (bytes : List ℕ) (n b : ℕ) (rest : List ℕ) → IsNumberWithin most largest bytes n → is_ascii_digit b ≡ false
      → number_within most largest (bytes ++ b ∷ rest) ≡ got n (b ∷ rest)
  number_spelled bytes n b rest is stops = digits_spelled bytes [] n b rest is stops
