-- Lists: what is read is spelled so, and each spelling is read.
use Rattle.std.proofs.Common.{◌≡◌, ℕ, zero, suc, ◌<◌, ◌≤◌, false, List, [], ◌∷◌, ◌++◌, length, Option, Some, None, refl, sym, ap, ◌∙◌, subst, arith, append_assoc, append-nil, length-append, eqb}
use Rattle.std.proofs.lemmas.Bool.{cond-false}
use Rattle.imap_grammar.specs.Grammar.{IsMoreItems, IsItems}
use Rattle.imap_grammar.specs.Reading.{Reading, Reader, got, wrong, short, marked, and_then, ◌>>=◌, gives, fails}
use Rattle.imap_grammar.specs.Lists.{next_item, with_others, more_items, items_after, some_items, any_items}
use Rattle.imap_grammar.proofs.ReaderLaws.{GoesOn, Reads, IsReader, then_at, reads_then, reads_gives}
use Rattle.imap_grammar.proofs.Steps.{same_reads, reads_same, reads_weaker, reads_fails, choice, reads_choice}

module _ {A : Type 0} (item : Reader A) (Is : List ℕ → A → Type 0) where
  -- a space and an item, or the closing parenthesis
  abbrev Next : List ℕ → Option A → Type 0
  Next bytes None = bytes ≡ 41 ∷ []
  Next bytes (Some x) = (own : List ℕ) × Is own x × (bytes ≡ 32 ∷ own)

  reads_next : IsReader Is item → IsReader Next (next_item item)
  reads_next is = reads_same Next (choice 41 (gives None) (choice 32 (item >>= (λ x. gives (Some x))) fails)) (next_item item) same
      (reads_choice Next 41 (gives None) (choice 32 (item >>= (λ x. gives (Some x))) fails) (reads_gives (λ bytes. Next (41 ∷ bytes)) None refl)
      (reads_choice Next 32 (item >>= (λ x. gives (Some x))) fails
      (reads_then Is (λ bytes. Next (32 ∷ bytes)) item (λ x. gives (Some x)) is
      (λ bytes x own. reads_gives (λ b. Next (32 ∷ (bytes ++ b))) (Some x) (bytes, own, ap (λ l. 32 ∷ l) (append-nil bytes))))
      (reads_fails Next (41 ∷ [], None, refl))))
    where
      same : (text : List ℕ) → choice 41 (gives None) (choice 32 (item >>= (λ x. gives (Some x))) fails) text ≡ next_item item text
      same [] = refl
      same (b ∷ bs) = refl

  next_takes : (text rest : List ℕ) (reading : Reading (Option A)) (o : Option A) → Reads Next (next_item item) text reading → reading ≡ got o rest
      → length rest < length text
  next_takes text rest (got None l) o (bytes, e, is, keeps) i =
      let same : l ≡ rest = cc in
      let sized : length text ≡ suc (length l) = ap length e ∙ ap (λ b. length (b ++ l)) is in
      subst (λ r. length r < length text) same (omega (arith, sized))
  next_takes text rest (got (Some x) l) o (bytes, e, (own, is, j), keeps) i =
      let same : l ≡ rest = cc in
      let sized : length text ≡ suc (length (own ++ l)) = ap length e ∙ ap (λ b. length (b ++ l)) j in
      let parts = length-append own l in
      subst (λ r. length r < length text) same (omega (arith, sized, parts))
  next_takes text rest (wrong l) o p i = absurd cc
  next_takes text rest short o p i = absurd cc
  next_takes text rest (marked n) o p i = absurd cc

  -- with rounds enough, more rounds read the same
  rounds_same : IsReader Is item → (r s : ℕ) (text : List ℕ) → length text ≤ r → length text ≤ s → more_items item r text ≡ more_items item s text
  rounds_same is zero zero text le le2 = refl
  rounds_same is zero (suc s) [] le le2 = refl
  rounds_same is zero (suc s) (b ∷ bs) le le2 = absurd (omega (arith, le))
  rounds_same is (suc r) zero [] le le2 = refl
  rounds_same is (suc r) zero (b ∷ bs) le le2 = absurd (omega (arith, le2))
  rounds_same is (suc r) (suc s) text le le2 = go (next_item item text) (λ rest l1 l2. rounds_same is r s rest l1 l2) ((reads_next is).each text)
    where
      go : (reading : Reading (Option A)) → ((rest : List ℕ) → length rest ≤ r → length rest ≤ s → more_items item r rest ≡ more_items item s rest)
          → Reads Next (next_item item) text reading → and_then reading (with_others (more_items item r)) ≡ and_then reading (with_others (more_items item s))
      go (got None rest) same p = refl
      go (got (Some x) rest) same p =
          let lt = next_takes text rest (got (Some x) rest) (Some x) p refl in
          ap (λ l. and_then l (λ items. gives (x ∷ items))) (same rest (omega (arith, lt, le)) (omega (arith, lt, le2)))
      go (wrong rest) same p = refl
      go short same p = refl
      go (marked n) same p = refl

  -- one round
  abbrev loop : Reader (List A)
  loop = next_item item >>= with_others (items_after item)

  unrolled : IsReader Is item → (text : List ℕ) → loop text ≡ items_after item text
  unrolled is [] = refl
  unrolled is (b ∷ bs) = go (next_item item (b ∷ bs)) ((reads_next is).each (b ∷ bs))
    where
      go : (reading : Reading (Option A)) → Reads Next (next_item item) (b ∷ bs) reading
          → and_then reading (with_others (items_after item)) ≡ and_then reading (with_others (more_items item (length bs)))
      go (got None rest) p = refl
      go (got (Some x) rest) p =
          let lt = next_takes (b ∷ bs) rest (got (Some x) rest) (Some x) p refl in
          ap (λ l. and_then l (λ items. gives (x ∷ items))) (rounds_same is (length rest) (length bs) rest (omega arith) (omega (arith, lt)))
      go (wrong rest) p = refl
      go short p = refl
      go (marked n) p = refl

  -- further items and the closing parenthesis
  abbrev More : List ℕ → List A → Type 0
  More bytes xs = (list : List ℕ) × IsMoreItems Is list xs × (bytes ≡ list ++ 41 ∷ [])

  more_none : GoesOn More []
  more_none = (41 ∷ [], [], ([], refl, refl))

  more_next : (bytes : List ℕ) (o : Option A) → Next bytes o → GoesOn More bytes
  more_next bytes None is = ([], [], ([], refl, append-nil bytes ∙ is))
  more_next bytes (Some x) (own, is, e) = (
    41 ∷ [],
    x ∷ [],
    (32 ∷ own, (own, [], is, refl, ap (λ l. 32 ∷ l) (sym (append-nil own))), ap (λ l. l ++ 41 ∷ []) e),
  )

  one_more : (bytes own list : List ℕ) (x : A) (xs : List A) → Is own x → bytes ≡ 32 ∷ own → More list xs → More (bytes ++ (list ++ [])) (x ∷ xs)
  one_more bytes own list x xs is e (l, are, i) = (
    32 ∷ (own ++ l),
    (own, l, is, are, refl),
    ap (λ b. b ++ (list ++ [])) e ∙ ap (λ t. 32 ∷ (own ++ t)) (append-nil list ∙ i) ∙ ap (λ t. 32 ∷ t) (sym (append_assoc own l (41 ∷ []))),
  )

  each_items : IsReader Is item → (fuel : ℕ) (text : List ℕ) → length text ≤ fuel → Reads More (items_after item) text (items_after item text)
  each_items is zero [] le = more_none
  each_items is zero (b ∷ bs) le = absurd (omega (arith, le))
  each_items is (suc fuel) text le =
      subst (Reads More (items_after item) text) (unrolled is text) (same_reads More loop (items_after item) (unrolled is) text (loop text)
      (then_at Next More (next_item item) (with_others (items_after item)) more_next text (next_item item text) (each (λ rest lt. each_items is fuel rest lt))
      ((reads_next is).each text)))
    where
      each : ((rest : List ℕ) → length rest ≤ fuel → Reads More (items_after item) rest (items_after item rest))
          → (bytes rest : List ℕ) (o : Option A) → text ≡ bytes ++ rest → Next bytes o
          → Reads (λ b. More (bytes ++ b)) (with_others (items_after item) o) rest (with_others (items_after item) o rest)
      each again bytes rest None e own = (reads_gives (λ b. More (bytes ++ b)) [] ([], refl, append-nil bytes ∙ own)).each rest
      each again bytes rest (Some x) e (own, is_own, i) =
          let sized : length text ≡ suc (length (own ++ rest)) = ap length e ∙ ap (λ b. length (b ++ rest)) i in
          let parts = length-append own rest in
          then_at More (λ b. More (bytes ++ b)) (items_after item) (λ items. gives (x ∷ items))
          (λ list xs p. ([], x ∷ xs, one_more bytes own list x xs is_own i p)) rest (items_after item rest)
          (λ list rest2 xs e2 p. (reads_gives (λ b. More (bytes ++ (list ++ b))) (x ∷ xs) (one_more bytes own list x xs is_own i p)).each rest2)
          (again rest (omega (arith, sized, parts, le)))

  reads_items : IsReader Is item → IsReader More (items_after item)
  reads_items is = record { some = more_none; each = λ text. each_items is (length text) text (omega arith) }

  -- items and the closing parenthesis
  abbrev pub AnyClosed : List ℕ → List A → Type 0
  AnyClosed bytes xs = (list : List ℕ) × IsItems Is list xs × (bytes ≡ list ++ 41 ∷ [])

  -- the same, with one item at least
  abbrev pub SomeClosed : List ℕ → List A → Type 0
  SomeClosed bytes xs = AnyClosed bytes xs × (0 < length xs)

  pub reads_some : IsReader Is item → IsReader SomeClosed (some_items item)
  reads_some is = reads_then Is SomeClosed item (λ x. items_after item >>= (λ xs. gives (x ∷ xs))) is
      (λ own x is_own. reads_then More (λ b. SomeClosed (own ++ b)) (items_after item) (λ xs. gives (x ∷ xs)) (reads_items is)
      (λ bytes xs p. reads_gives (λ b. SomeClosed (own ++ (bytes ++ b))) (x ∷ xs) (joined own bytes x xs is_own p)))
    where
      joined : (own bytes : List ℕ) (x : A) (xs : List A) → Is own x → More bytes xs → SomeClosed (own ++ (bytes ++ [])) (x ∷ xs)
      joined own bytes x xs is_own (list, are, e) =
          ((own ++ list, (own, list, is_own, are, refl), ap (λ l. own ++ l) (append-nil bytes ∙ e) ∙ sym (append_assoc own list (41 ∷ []))), omega arith)

  pub reads_any : IsReader Is item → IsReader AnyClosed (any_items item)
  reads_any is = reads_same AnyClosed (choice 41 (gives []) (some_items item)) (any_items item) same
      (reads_choice AnyClosed 41 (gives []) (some_items item) (reads_gives (λ bytes. AnyClosed (41 ∷ bytes)) [] ([], refl, refl)) any)
    where
      any : IsReader AnyClosed (some_items item)
      any = reads_weaker SomeClosed AnyClosed (some_items item) (λ bytes xs p. p.0) (reads_some is)

      same : (text : List ℕ) → choice 41 (gives []) (some_items item) text ≡ any_items item text
      same [] = refl
      same (b ∷ bs) = refl

  module _ (Stop : ℕ → Type 0) (space : Stop 32) (closing : Stop 41)
      (spelled : (own : List ℕ) (x : A) (b : ℕ) (rest : List ℕ) → Is own x → Stop b → item (own ++ b ∷ rest) ≡ got x (b ∷ rest)) where
    -- what comes after an item stops it
    stops : (bytes : List ℕ) (xs : List A) (next : List ℕ) → IsMoreItems Is bytes xs → (b : ℕ) × (rest : List ℕ) × (bytes ++ 41 ∷ next ≡ b ∷ rest) × Stop b
    stops bytes [] next e = (41, next, ap (λ l. l ++ 41 ∷ next) e, closing)
    stops bytes (x ∷ xs) next (own, more, is, are, e) = (32, (own ++ more) ++ 41 ∷ next, ap (λ l. l ++ 41 ∷ next) e, space)

    item_then : (own more : List ℕ) (x : A) (xs : List A) (next : List ℕ) → Is own x → IsMoreItems Is more xs
        → item (own ++ (more ++ 41 ∷ next)) ≡ got x (more ++ 41 ∷ next)
    item_then own more x xs next is are =
        let stop = stops more xs next are in
        ap (λ l. item (own ++ l)) stop.2 ∙ spelled own x stop.0 stop.1 is stop.3 ∙ ap (got x) (sym stop.2)

    more_spelled : (xs : List A) (bytes next : List ℕ) (rounds : ℕ) → IsMoreItems Is bytes xs → length (bytes ++ 41 ∷ next) ≤ rounds
        → more_items item rounds (bytes ++ 41 ∷ next) ≡ got xs next
    more_spelled [] bytes next zero e le = let sized = length-append bytes (41 ∷ next) in absurd (omega (arith, sized, le))
    more_spelled [] bytes next (suc rounds) e le = ap (λ l. more_items item (suc rounds) (l ++ 41 ∷ next)) e
    more_spelled (x ∷ xs) bytes next zero is le = let sized = length-append bytes (41 ∷ next) in absurd (omega (arith, sized, le))
    more_spelled (x ∷ xs) bytes next (suc rounds) (own, more, is, are, e) le =
        let text : bytes ++ 41 ∷ next ≡ 32 ∷ (own ++ (more ++ 41 ∷ next)) = ap (λ l. l ++ 41 ∷ next) e
        ∙ ap (λ l. 32 ∷ l) (append_assoc own more (41 ∷ next)) in
        let sized : length (bytes ++ 41 ∷ next) ≡ suc (length (own ++ (more ++ 41 ∷ next))) = ap length text in
        let parts = length-append own (more ++ 41 ∷ next) in
        ap (more_items item (suc rounds)) text
        ∙ ap (λ r. and_then (and_then r (λ v. gives (Some v))) (with_others (more_items item rounds))) (item_then own more x xs next is are)
        ∙ ap (λ r. and_then r (λ items. gives (x ∷ items))) (more_spelled xs more next rounds are (omega (arith, sized, parts, le)))

    pub some_spelled : (list next : List ℕ) (x : A) (xs : List A) → IsItems Is list (x ∷ xs) → some_items item (list ++ 41 ∷ next) ≡ got (x ∷ xs) next
    some_spelled list next x xs (own, more, is, are, e) =
        let text : list ++ 41 ∷ next ≡ own ++ (more ++ 41 ∷ next) = ap (λ l. l ++ 41 ∷ next) e ∙ append_assoc own more (41 ∷ next) in
        ap (some_items item) text
        ∙ ap (λ r. and_then r (λ first rest. and_then (items_after item rest) (λ others. gives (first ∷ others)))) (item_then own more x xs next is are)
        ∙ ap (λ r. and_then r (λ others. gives (x ∷ others))) (more_spelled xs more next (length (more ++ 41 ∷ next)) are (omega arith))

    pub any_spelled : ((own : List ℕ) (x : A) → Is own x → (b : ℕ) × (bs : List ℕ) × (own ≡ b ∷ bs) × (eqb b 41 ≡ false)) → (list next : List ℕ) (xs : List A)
        → IsItems Is list xs → any_items item (list ++ 41 ∷ next) ≡ got xs next
    any_spelled begins list next [] e = ap (λ l. any_items item (l ++ 41 ∷ next)) e
    any_spelled begins list next (x ∷ xs) (own, more, is, are, e) =
        let first = begins own x is in
        let text : list ++ 41 ∷ next ≡ first.0 ∷ ((first.1 ++ more) ++ 41 ∷ next) = ap (λ l. l ++ 41 ∷ next) (e ∙ ap (λ l. l ++ more) first.2) in
        ap (any_items item) text ∙ cond-false (eqb first.0 41) (got [] ((first.1 ++ more) ++ 41 ∷ next))
        (some_items item (first.0 ∷ ((first.1 ++ more) ++ 41 ∷ next))) first.3
        ∙ ap (some_items item) (sym text) ∙ some_spelled list next x xs (own, more, is, are, e)
