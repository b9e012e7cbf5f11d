-- How the pair of a sum line comes from its words, one after the other.
use Rattle.std.proofs.Common.{◌≡◌, ℕ, ◌<◌, ℤ, pos, neg_ℤ, List, [], ◌∷◌, ◌++◌, Bool, true, false, cond, length, Option, Some, None, refl, ap, ◌∙◌, sym, ⊎_elim, arith, nat_lt}
use Rattle.std.specs.List.{take_while, slice_split, filter, list_any, after_first}
use Rattle.std.specs.Option.{option_map}
use Rattle.std.proofs.lemmas.Bool.{cases_Bool, cond-true, cond-false, lt-ltb, false≢true}
use Rattle.std.proofs.lemmas.Bool.Decides.{nat_tests}
use Rattle.std.proofs.lemmas.List.{append_assoc}
use Rattle.maildirsize.specs.Prefixes.{skip_while, begins_with}
use Rattle.maildirsize.specs.Lines.{is_line_feed, first_line}
use Rattle.maildirsize.specs.Sums.{Pair}
use Rattle.maildirsize.specs.SumLine.{is_space, is_in_word, magnitude_in, integer_in, words_in, pair_of, pair_of_words, sum_line_at}
use Rattle.maildirsize.proofs.PrefixLemmas.{take_yes, skip_yes, skip_no, begins_with-skip_while}
use Rattle.maildirsize.proofs.SplitLemmas.{first_part, parts_behind, line_more, line_over, split_yes, list_any-skip_while, after_first-skip_while}

-- the bytes of an integer with a minus, and of one without
pub integer_minus : (bs : List ℕ)
    → integer_in (take_while is_in_word (45 ∷ bs)) ≡ option_map (λ n. neg_ℤ (pos n)) (magnitude_in (take_while is_in_word bs))
integer_minus bs = ap integer_in (take_yes is_in_word 45 bs refl)

abbrev words_at : List ℕ → List (List ℕ)
words_at bs = words_in (first_line bs)

space_apart : (x : ℕ) → is_line_feed x ≡ true → is_space x ≡ false
space_apart x h = grind (arith, nat_tests)

space_within : (x : ℕ) → is_space x ≡ true → is_line_feed x ≡ false
space_within x h = grind (arith, nat_tests)

word_within : (x : ℕ) → is_in_word x ≡ true → is_line_feed x ≡ false
word_within x h = grind (arith, nat_tests)

no_word : (x : ℕ) → is_in_word x ≡ false → is_space x ≡ false → is_line_feed x ≡ true
no_word x h s = grind (arith, nat_tests)

abbrev not_empty : List (List ℕ) → List (List ℕ)
not_empty parts = filter (λ word. nat_lt 0 (length word)) parts

-- spaces in prefix change no word
words_space : (x : ℕ) (xs : List ℕ) → is_space x ≡ true → words_at (x ∷ xs) ≡ words_at xs
words_space x xs h = ap words_in (line_more x xs (space_within x h)) ∙ ap not_empty (split_yes is_space x (first_line xs) h)

words_at-skip_while : (bs : List ℕ) → words_at (skip_while is_space bs) ≡ words_at bs
words_at-skip_while [] = refl
words_at-skip_while (x ∷ xs) = ⊎_elim
    (λ (h : is_space x ≡ true). ap words_at (skip_yes is_space x xs h) ∙ words_at-skip_while xs ∙ sym (words_space x xs h))
    (λ (h : is_space x ≡ false). ap words_at (skip_no is_space x xs h))
    (cases_Bool (is_space x))

words_end : (x : ℕ) (xs : List ℕ) → is_line_feed x ≡ true → words_at (x ∷ xs) ≡ []
words_end x xs h = ap words_in (line_over x xs h)

-- where no word begins, the words are those of the parts behind
words_rest : (bs : List ℕ) → begins_with is_in_word bs ≡ false → not_empty (parts_behind is_space bs) ≡ words_at bs
words_rest [] h = refl
words_rest (x ∷ xs) h = ⊎_elim
    (λ (s : is_space x ≡ true). ap not_empty (cond-true (is_space x) (slice_split is_space (first_line xs)) [] s)
    ∙ sym (words_space x xs s))
    (λ (s : is_space x ≡ false). ap not_empty (cond-false (is_space x) (slice_split is_space (first_line xs)) [] s)
    ∙ sym (words_end x xs (no_word x h s)))
    (cases_Bool (is_space x))

-- a first word, and the words behind it
words_more : (bs : List ℕ) → 0 < length (take_while is_in_word bs)
    → words_at bs ≡ take_while is_in_word bs ∷ words_at (skip_while is_in_word bs)
words_more bs some =
    let word = take_while is_in_word bs in
    let rest = skip_while is_in_word bs in
    ap not_empty (first_part is_space space_apart bs)
    ∙ cond-true (nat_lt 0 (length word)) (word ∷ not_empty (parts_behind is_space rest)) (not_empty (parts_behind is_space rest))
    (lt-ltb 0 (length word) some)
    ∙ ap (λ ws. word ∷ ws) (words_rest rest (begins_with-skip_while is_in_word bs))

-- a pair with what stands behind its line, where the line has an end
abbrev with_rest : Bool → List ℕ → Option Pair → Option (Pair × List ℕ)
with_rest ended rest pair = cond ended (option_map (λ p. (p, rest)) pair) None

-- the pair of the words that were read and of those of the bytes, with what stands behind the line
abbrev pub line_from : List (List ℕ) → List ℕ → Option (Pair × List ℕ)
line_from words bs = with_rest (list_any is_line_feed bs) (after_first is_line_feed bs) (pair_of_words (words ++ words_at bs))

same_line : (words : List (List ℕ)) (a b : Bool) (s t : List ℕ) (v w : List (List ℕ)) → a ≡ b → s ≡ t → v ≡ w
    → with_rest a s (pair_of_words (words ++ v)) ≡ with_rest b t (pair_of_words (words ++ w))
same_line words a b s t v w h k l = ap (λ x. with_rest x s (pair_of_words (words ++ v))) h
    ∙ ap (λ x. with_rest b x (pair_of_words (words ++ v))) k ∙ ap (λ x. with_rest b t (pair_of_words (words ++ x))) l

line_skip : (words : List (List ℕ)) (bs : List ℕ) → line_from words bs ≡ line_from words (skip_while is_space bs)
line_skip words bs = sym (same_line words (list_any is_line_feed (skip_while is_space bs)) (list_any is_line_feed bs)
    (after_first is_line_feed (skip_while is_space bs)) (after_first is_line_feed bs)
    (words_at (skip_while is_space bs)) (words_at bs) (list_any-skip_while is_space space_within bs)
    (after_first-skip_while is_space space_within bs) (words_at-skip_while bs))

line_word : (words : List (List ℕ)) (bs : List ℕ) → 0 < length (take_while is_in_word bs)
    → line_from words bs ≡ line_from (words ++ take_while is_in_word bs ∷ []) (skip_while is_in_word bs)
line_word words bs some =
    let word = take_while is_in_word bs in
    let rest = skip_while is_in_word bs in
    same_line words (list_any is_line_feed bs) (list_any is_line_feed rest) (after_first is_line_feed bs)
    (after_first is_line_feed rest) (words_at bs) (word ∷ words_at rest)
    (sym (list_any-skip_while is_in_word word_within bs)) (sym (after_first-skip_while is_in_word word_within bs))
    (words_more bs some)
    ∙ ap (λ ws. with_rest (list_any is_line_feed rest) (after_first is_line_feed rest) (pair_of_words ws))
    (sym (append_assoc words (word ∷ []) (words_at rest)))

refused : (b : Bool) (rest : List ℕ) (o : Option Pair) → o ≡ None → with_rest b rest o ≡ None
refused true rest o h = ap (with_rest true rest) h
refused false rest o h = refl

-- an integer has bytes
integer_some : (w : List ℕ) (z : ℤ) → integer_in w ≡ Some z → 0 < length w
integer_some [] z h = cc
integer_some (x ∷ w) z h = omega arith

first_wrong : (w : List ℕ) (ws : List (List ℕ)) → integer_in w ≡ None → pair_of_words (w ∷ ws) ≡ None
first_wrong w [] h = refl
first_wrong w (v ∷ []) h = ap (λ o. pair_of o (integer_in v)) h
first_wrong w (v ∷ u ∷ us) h = refl

pair_none : (o : Option ℤ) → pair_of o None ≡ None
pair_none None = refl
pair_none (Some z) = refl

second_wrong : (v w : List ℕ) (ws : List (List ℕ)) → integer_in w ≡ None → pair_of_words (v ∷ w ∷ ws) ≡ None
second_wrong v w [] h = ap (pair_of (integer_in v)) h ∙ pair_none (integer_in v)
second_wrong v w (u ∷ us) h = refl

-- where no word begins behind spaces, there are no words
words_none : (bs : List ℕ) → begins_with is_space bs ≡ false → begins_with is_in_word bs ≡ false → words_at bs ≡ []
words_none [] s h = refl
words_none (x ∷ xs) s h = words_end x xs (no_word x h s)

prefix_some : (p : ℕ → Bool) (xs : List ℕ) → begins_with p xs ≡ true → 0 < length (take_while p xs)
prefix_some p [] h = absurd (false≢true h)
prefix_some p (x ∷ xs) h = let e = ap length (take_yes p x xs h) in omega arith

-- words_at for bytes that begin with no space: the first word, if there is one
words_cases : (P : List (List ℕ) → Type 0) (bs : List ℕ) → begins_with is_space bs ≡ false → P []
    → P (take_while is_in_word bs ∷ words_at (skip_while is_in_word bs)) → P (words_at bs)
words_cases P bs s none some = ⊎_elim
    (λ (h : begins_with is_in_word bs ≡ true). let e = words_more bs (prefix_some is_in_word bs h) in rw e some)
    (λ (h : begins_with is_in_word bs ≡ false). let e = words_none bs s h in rw e none)
    (cases_Bool (begins_with is_in_word bs))

pub no_first : (bs : List ℕ) → integer_in (take_while is_in_word (skip_while is_space bs)) ≡ None → sum_line_at bs ≡ None
no_first bs h =
    let at = skip_while is_space bs in
    line_skip [] bs ∙ refused (list_any is_line_feed at) (after_first is_line_feed at) (pair_of_words (words_at at))
    (words_cases (λ ws. pair_of_words ws ≡ None) at (begins_with-skip_while is_space bs) refl
    (first_wrong (take_while is_in_word at) (words_at (skip_while is_in_word at)) h))

-- one word is read
pub one_read : (bs : List ℕ) (z : ℤ) → integer_in (take_while is_in_word (skip_while is_space bs)) ≡ Some z
    → sum_line_at bs ≡ line_from (take_while is_in_word (skip_while is_space bs) ∷ [])
    (skip_while is_in_word (skip_while is_space bs))
one_read bs z h = line_skip [] bs
    ∙ line_word [] (skip_while is_space bs) (integer_some (take_while is_in_word (skip_while is_space bs)) z h)

pub no_second : (word bs : List ℕ) → integer_in (take_while is_in_word (skip_while is_space bs)) ≡ None
    → line_from (word ∷ []) bs ≡ None
no_second word bs h =
    let at = skip_while is_space bs in
    line_skip (word ∷ []) bs ∙ refused (list_any is_line_feed at) (after_first is_line_feed at) (pair_of_words (word ∷ words_at at))
    (words_cases (λ ws. pair_of_words (word ∷ ws) ≡ None) at (begins_with-skip_while is_space bs) refl
    (second_wrong word (take_while is_in_word at) (words_at (skip_while is_in_word at)) h))

-- two words are read
pub two_read : (word bs : List ℕ) (z : ℤ) → integer_in (take_while is_in_word (skip_while is_space bs)) ≡ Some z
    → line_from (word ∷ []) bs ≡ line_from (word ∷ take_while is_in_word (skip_while is_space bs) ∷ [])
    (skip_while is_space (skip_while is_in_word (skip_while is_space bs)))
two_read word bs z h =
    let at = skip_while is_space bs in
    line_skip (word ∷ []) bs ∙ line_word (word ∷ []) at (integer_some (take_while is_in_word at) z h)
    ∙ line_skip (word ∷ take_while is_in_word at ∷ []) (skip_while is_in_word at)

-- the line is over
pub line_done : (u v rest : List ℕ) (y z : ℤ) → integer_in u ≡ Some y → integer_in v ≡ Some z
    → line_from (u ∷ v ∷ []) (10 ∷ rest) ≡ Some (record { octets = y; count = z }, rest)
line_done u v rest y z h k =
    ap (λ ws. with_rest true rest (pair_of_words ((u ∷ v ∷ []) ++ ws))) (words_end 10 rest refl)
    ∙ ap (λ o. with_rest true rest (pair_of o (integer_in v))) h ∙ ap (λ o. with_rest true rest (pair_of (Some y) o)) k

-- a third word, or no end
pub line_not_done : (u v bs : List ℕ) → begins_with is_space bs ≡ false → begins_with is_line_feed bs ≡ false
    → line_from (u ∷ v ∷ []) bs ≡ None
line_not_done u v [] s e = refl
line_not_done u v (x ∷ xs) s e =
    let w : is_in_word x ≡ true = grind (arith, nat_tests) in
    refused (list_any is_line_feed (x ∷ xs)) (after_first is_line_feed (x ∷ xs)) (pair_of_words (u ∷ v ∷ words_at (x ∷ xs)))
    (ap (λ ws. pair_of_words (u ∷ v ∷ ws)) (words_more (x ∷ xs) (prefix_some is_in_word (x ∷ xs) w)))

-- the same, where the bytes were read one piece after the other: a and b stand behind spaces, r behind the first word, s behind the second, e behind the spaces then
module _ (bs a r b : List ℕ) (y : ℤ) (ea : a ≡ skip_while is_space bs) (first : integer_in (take_while is_in_word a) ≡ Some y)
    (er : r ≡ skip_while is_in_word a) (eb : b ≡ skip_while is_space r) where
  one_first : sum_line_at bs ≡ line_from (take_while is_in_word (skip_while is_space bs) ∷ [])
      (skip_while is_in_word (skip_while is_space bs))
  one_first = one_read bs y (cc)

  pub second_none : integer_in (take_while is_in_word b) ≡ None → sum_line_at bs ≡ None
  second_none none =
      let h : integer_in (take_while is_in_word
      (skip_while is_space (skip_while is_in_word (skip_while is_space bs)))) ≡ None = cc in
      one_first ∙ no_second (take_while is_in_word (skip_while is_space bs)) (skip_while is_in_word (skip_while is_space bs)) h

  module _ (s e : List ℕ) (z : ℤ) (second : integer_in (take_while is_in_word b) ≡ Some z) (es : s ≡ skip_while is_in_word b)
      (ee : e ≡ skip_while is_space s) where
    both_read : sum_line_at bs ≡ line_from (take_while is_in_word a ∷ take_while is_in_word b ∷ []) e
    both_read =
        let h : integer_in (take_while is_in_word
        (skip_while is_space (skip_while is_in_word (skip_while is_space bs)))) ≡ Some z = cc in
        let t = two_read (take_while is_in_word (skip_while is_space bs)) (skip_while is_in_word (skip_while is_space bs)) z h in
        let ws : take_while is_in_word (skip_while is_space bs) ≡ take_while is_in_word a = cc in
        let vs : take_while is_in_word (skip_while is_space
        (skip_while is_in_word (skip_while is_space bs))) ≡ take_while is_in_word b = cc in
        let es' : skip_while is_space (skip_while is_in_word
        (skip_while is_space (skip_while is_in_word (skip_while is_space bs)))) ≡ e = cc in
        one_first ∙ t ∙ ap (λ w. line_from
        (w ∷ take_while is_in_word (skip_while is_space (skip_while is_in_word (skip_while is_space bs))) ∷ [])
        (skip_while is_space (skip_while is_in_word (skip_while is_space (skip_while is_in_word (skip_while is_space bs)))))) ws
        ∙ ap (λ v. line_from (take_while is_in_word a ∷ v ∷ [])
        (skip_while is_space (skip_while is_in_word (skip_while is_space (skip_while is_in_word (skip_while is_space bs)))))) vs
        ∙ ap (λ x. line_from (take_while is_in_word a ∷ take_while is_in_word b ∷ []) x) es'

    pub line_none : begins_with is_line_feed e ≡ false → sum_line_at bs ≡ None
    line_none over = both_read ∙ line_not_done (take_while is_in_word a) (take_while is_in_word b) e
        (ap (begins_with is_space) ee ∙ begins_with-skip_while is_space s) over

    pub line_some : (rest : List ℕ) → e ≡ 10 ∷ rest → sum_line_at bs ≡ Some (record { octets = y; count = z }, rest)
    line_some rest h = both_read ∙ ap (line_from (take_while is_in_word a ∷ take_while is_in_word b ∷ [])) h
        ∙ line_done (take_while is_in_word a) (take_while is_in_word b) rest y z first second

-- an integer behind a minus
pub minus_none : (bs ds : List ℕ) → bs ≡ 45 ∷ ds → magnitude_in (take_while is_in_word ds) ≡ None
    → integer_in (take_while is_in_word bs) ≡ None
minus_none bs ds e h = ap (λ xs. integer_in (take_while is_in_word xs)) e ∙ integer_minus ds
    ∙ ap (option_map (λ n. neg_ℤ (pos n))) h

pub minus_some : (bs ds : List ℕ) (n : ℕ) → bs ≡ 45 ∷ ds → magnitude_in (take_while is_in_word ds) ≡ Some n
    → (integer_in (take_while is_in_word bs) ≡ Some (neg_ℤ (pos n))) × (skip_while is_in_word ds ≡ skip_while is_in_word bs)
minus_some bs ds n e h = (
  ap (λ xs. integer_in (take_while is_in_word xs)) e ∙ integer_minus ds ∙ ap (option_map (λ n. neg_ℤ (pos n))) h,
  sym (ap (skip_while is_in_word) e ∙ skip_yes is_in_word 45 ds refl),
)
