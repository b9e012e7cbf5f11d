-- Where a head ends, as its lines come.
use Rattle.std.proofs.Common.{◌≡◌, ◌≢◌, ℕ, ◌+◌, ◌-◌, ◌<◌, ◌≤◌, Bool, true, false, ◌||◌, List, [], ◌∷◌, ◌++◌, length, codes, take, Option, Some, None, refl, ap, sym, subst, ◌∙◌, inl, inr, arith, append_assoc, append-nil, length-append, nat_eq, eqb-true, eq-eqb}
use Rattle.std.proofs.lemmas.Bool.{cond-true, cond-false, false_from_ne_true}
use Rattle.std.proofs.lemmas.Slice.Eq.{ends_is}
use Rattle.std.proofs.lemmas.List.{append_cancel_left, reverse-append}
use Rattle.std.specs.List.{ends_with}
use Rattle.wire_io.specs.Lines.{HasNoEnd, IsLine}
use Rattle.wire_io.proofs.Prefixes.{prefixes, prefix_of_push, no_nil}
use Rattle.http_front.specs.Heads.{max_head, ends_head, Cut, cut_from}
use Rattle.http_front.specs.Taking.{IsUnendedBefore, IsHead, IsEndless, IsPartOfHead}
use Rattle.std.proofs.Common.{reverse, Decides}

-- lists that end in an element each have one last element
last_is : (a b : List ℕ) (x y : ℕ) → a ++ x ∷ [] ≡ b ++ y ∷ [] → x ≡ y
last_is a b x y e =
    let back : x ∷ reverse a ≡ y ∷ reverse b = sym (reverse-append a (x ∷ [])) ∙ ap reverse e ∙ reverse-append b (y ∷ []) in
    cc

nat_decides : (a b : ℕ) → Decides (nat_eq a b) (a ≡ b)
nat_decides a b = (eqb-true a b, eq-eqb a b)

-- bytes whose last one is no line feed do not end with bytes whose last one is
ends_other : (front : List ℕ) (b : ℕ) (needle : List ℕ) → b ≢ 10 → ends_with nat_eq (front ++ b ∷ []) (needle ++ 10 ∷ []) ≡ false
ends_other front b needle ne =
    let all = front ++ b ∷ [] in
    let end = needle ++ 10 ∷ [] in
    false_from_ne_true (ends_with nat_eq all end) (λ t.
    let is = (ends_is nat_decides all end (ends_with nat_eq all end) refl).0 t in
    ne (last_is front (take (length all - length end) all ++ needle) b 10 (is ∙ sym (append_assoc (take (length all - length end) all) needle (10 ∷ [])))))

pub unended_push : (front : List ℕ) (b : ℕ) → b ≢ 10 → ends_head (front ++ b ∷ []) ≡ false
unended_push front b ne =
    ap (λ c. c || ends_with nat_eq (front ++ b ∷ []) (codes "\n\r\n")) (ends_other front b (10 ∷ []) ne) ∙ ends_other front b (10 ∷ 13 ∷ []) ne

-- bytes without a line feed after others end no head
unended_more : (front piece : List ℕ) → ends_head front ≡ false → HasNoEnd piece → ends_head (front ++ piece) ≡ false
unended_more front [] unended none = ap ends_head (append-nil front) ∙ unended
unended_more front (b ∷ piece) unended none =
    ap ends_head (sym (append_assoc front (b ∷ []) piece)) ∙ unended_more (front ++ b ∷ []) piece (unended_push front b none.0) none.1

-- a part of bytes without a line feed has none
no_end_before : (a b : List ℕ) → HasNoEnd (a ++ b) → HasNoEnd a
no_end_before [] b none = tt
no_end_before (x ∷ a) b none = (none.0, no_end_before a b none.1)

pub nothing_unended : ends_head [] ≡ false
nothing_unended = refl

pub nothing_before : IsUnendedBefore []
nothing_before prefix b more e = absurd (no_nil prefix b more e)

module _ (text : List ℕ) (unended : ends_head text ≡ false) (first : IsUnendedBefore text) where
  -- bytes without a line feed came
  unended_before : (piece : List ℕ) → HasNoEnd piece → IsUnendedBefore (text ++ piece)
  unended_before piece none prefix b more e = elim (prefixes text prefix piece (b ∷ more) e) [
    | inl h ↦ ap ends_head h.1 ∙ unended_more text h.0 unended (no_end_before h.0 (b ∷ more)
        (subst HasNoEnd (append_cancel_left text piece (h.0 ++ b ∷ more) (e ∙ ap (λ l. l ++ b ∷ more) h.1 ∙ append_assoc text h.0 (b ∷ more))) none))
    | inr h ↦ first prefix h.0 h.1 h.2
  ]

  -- a line came, with its end
  line_before : (body : List ℕ) → HasNoEnd body → IsUnendedBefore (text ++ (body ++ 10 ∷ []))
  line_before body none prefix b more e =
      elim (prefix_of_push (text ++ body) 10 prefix b more (append_assoc text body (10 ∷ []) ∙ e)) [
        | inl same ↦ ap ends_head (sym same) ∙ unended_more text body unended none
        | inr h ↦ unended_before body none prefix h.0 h.1 h.2
      ]

-- `piece` came after the text, which is `now` since
module _ (text piece now : List ℕ) (room : ℕ) (unended : ends_head text ≡ false) (first : IsUnendedBefore text) (grows : now ≡ text ++ piece) (fits : length text + room ≡ max_head) where
  pub sized : length now ≡ length text + length piece
  sized = ap length grows ∙ length-append text piece

  pub part_first : HasNoEnd piece → IsUnendedBefore now
  part_first none = subst IsUnendedBefore (sym grows) (unended_before text unended first piece none)

  pub part_unended : HasNoEnd piece → ends_head now ≡ false
  part_unended none = ap ends_head grows ∙ unended_more text piece unended none

  pub part_endless : HasNoEnd piece → length piece ≡ room → IsEndless now
  part_endless none full = record { unended = part_unended none; first = part_first none; full = omega (arith, sized, full, fits) }

  pub part_of_head : HasNoEnd piece → length piece < room → IsPartOfHead now
  part_of_head none lt = record { unended = part_unended none; first = part_first none; short = omega (arith, sized, lt, fits) }

  module _ (line : IsLine piece) (le : length piece ≤ room) where
    pub line_first : IsUnendedBefore now
    line_first = subst IsUnendedBefore (sym (grows ∙ ap (λ l. text ++ l) line.2)) (line_before text unended first line.0 line.1)

    pub line_within : length now ≤ max_head
    line_within = omega (arith, sized, le, fits)

    pub line_ends : ends_head now ≡ true → IsHead now
    line_ends ended = record { ended = ended; first = line_first; within = line_within }

    -- the text has less room for the next line
    pub grown : length text < length now
    grown = let byte : length piece ≡ length line.0 + 1 = ap length line.2 ∙ length-append line.0 (10 ∷ []) in omega (arith, sized, byte)

-- ---- the cut

abbrev pub cut_at : (head rest : List ℕ) → Option Cut
cut_at head rest = Some (record { head = head; rest = rest })

pub cut_here : (come bytes : List ℕ) → ends_head come ≡ true → cut_from come bytes ≡ cut_at come bytes
cut_here come [] e = cond-true (ends_head come) (cut_at come []) None e
cut_here come (b ∷ bs) e = cond-true (ends_head come) (cut_at come (b ∷ bs)) (cut_from (come ++ b ∷ []) bs) e

cut_later : (come : List ℕ) (b : ℕ) (bs : List ℕ) → ends_head come ≡ false → cut_from come (b ∷ bs) ≡ cut_from (come ++ b ∷ []) bs
cut_later come b bs e = cond-false (ends_head come) (cut_at come (b ∷ bs)) (cut_from (come ++ b ∷ []) bs) e

cut_nowhere : (come : List ℕ) → ends_head come ≡ false → cut_from come [] ≡ None
cut_nowhere come e = cond-false (ends_head come) (cut_at come []) None e

-- a head that is cut off is cut off whatever comes after it
pub cut_more : (come bytes more : List ℕ) (cut : Cut) → cut_from come bytes ≡ Some cut → cut_from come (bytes ++ more) ≡ cut_at cut.head (cut.rest ++ more)
cut_more come [] more cut e = go (ends_head come) refl
  where
    go : (c : Bool) → ends_head come ≡ c → cut_from come more ≡ cut_at cut.head (cut.rest ++ more)
    go true is =
        let same : cut_at come [] ≡ Some cut = sym (cut_here come [] is) ∙ e in
        let own : record { head = come; rest = [] } ≡ cut = cc in
        cut_here come more is ∙ ap (λ (p : Cut). cut_at p.head (p.rest ++ more)) own
    go false is = let none = sym (cut_nowhere come is) ∙ e in absurd cc
cut_more come (b ∷ bs) more cut e = go (ends_head come) refl (cut_more (come ++ b ∷ []) bs more cut)
  where
    go : (c : Bool) → ends_head come ≡ c
        → (cut_from (come ++ b ∷ []) bs ≡ Some cut → cut_from (come ++ b ∷ []) (bs ++ more) ≡ cut_at cut.head (cut.rest ++ more))
        → cut_from come (b ∷ (bs ++ more)) ≡ cut_at cut.head (cut.rest ++ more)
    go true is later =
        let same : cut_at come (b ∷ bs) ≡ Some cut = sym (cut_here come (b ∷ bs) is) ∙ e in
        let own : record { head = come; rest = b ∷ bs } ≡ cut = cc in
        cut_here come (b ∷ (bs ++ more)) is ∙ ap (λ (p : Cut). cut_at p.head (p.rest ++ more)) own
    go false is later = cut_later come b (bs ++ more) is ∙ later (sym (cut_later come b bs is) ∙ e)

-- bytes that end no head have no cut
pub cut_none : (text : List ℕ) → IsUnendedBefore text → ends_head text ≡ false → (come rest : List ℕ) → text ≡ come ++ rest → cut_from come rest ≡ None
cut_none text first unended come [] e = cut_nowhere come (ap ends_head (sym (e ∙ append-nil come)) ∙ unended)
cut_none text first unended come (b ∷ bs) e =
    cut_later come b bs (first come b bs e) ∙ cut_none text first unended (come ++ b ∷ []) bs (e ∙ sym (append_assoc come (b ∷ []) bs))

-- a head is cut off the bytes after it
pub cut_head_off : (text : List ℕ) → IsUnendedBefore text → ends_head text ≡ true → (rest come more : List ℕ) → text ≡ come ++ more → cut_from come (more ++ rest) ≡ cut_at text rest
cut_head_off text first ended rest come [] e =
    let same : text ≡ come = e ∙ append-nil come in
    cut_here come rest (ap ends_head (sym same) ∙ ended) ∙ ap (λ t. cut_at t rest) (sym same)
cut_head_off text first ended rest come (m ∷ ms) e =
    cut_later come m (ms ++ rest) (first come m ms e) ∙ cut_head_off text first ended rest (come ++ m ∷ []) ms (e ∙ sym (append_assoc come (m ∷ []) ms))

-- what comes first of bytes that end no head ends none
pub unended_in : (text prefix more : List ℕ) → IsUnendedBefore text → text ≡ prefix ++ more → IsUnendedBefore prefix
unended_in text prefix more first e own b rest i = first own b (rest ++ more) (e ∙ ap (λ l. l ++ more) i ∙ append_assoc own (b ∷ rest) more)
