-- No spelling begins another, each spells one request, and each text has one cut.
use Rattle.std.proofs.Common.{◌≡◌, ℕ, suc, zero, ◌+◌, ◌<◌, ◌≤◌, List, [], ◌∷◌, ◌++◌, length, Option, Some, None, refl, sym, ap, ◌∙◌, inl, inr, subst, append_assoc, append-nil, arith, length-append}
use Rattle.std.proofs.lemmas.List.{append_cancel_left}
use Rattle.wire_io.specs.Protocol.{Protocol, Spells, IsFirst, IsRest, Spelling, Spellings, spelled_bytes, IsCut, IsFilled, HasOneCut}
use Rattle.wire_io.specs.Transcript.{Found, or_later, first_request}
use Rattle.wire_io.proofs.Prefixes.{prefixes, prefix_of_push}

module _ {State Request Call Answer : Type 0} (p : Protocol State Request Call Answer) where
  pub no_longer : (state : State) (bytes more : List ℕ) (q r : Request) → Spells p state bytes q → Spells p state (bytes ++ more) r → more ≡ []
  no_longer state bytes [] q r one other = refl
  no_longer state bytes (b ∷ more) q r one other =
      let none : p.whole state bytes ≡ None = other.first bytes b more refl in
      let some : p.whole state bytes ≡ Some q = one.whole in
      absurd cc

  pub one_request : (state : State) (bytes : List ℕ) (q r : Request) → Spells p state bytes q → Spells p state bytes r → q ≡ r
  one_request state bytes q r one other =
      let a : p.whole state bytes ≡ Some q = one.whole in
      let b : p.whole state bytes ≡ Some r = other.whole in
      cc

  -- two spellings at the start of one text are one
  pub same_prefix : (state : State) (a b u v : List ℕ) (q r : Request) → Spells p state a q → Spells p state b r → a ++ u ≡ b ++ v → (b ≡ a) × (r ≡ q) × (v ≡ u)
  same_prefix state a b u v q r one other e = elim (prefixes a b u v e) [ inl h ↦ longer h.0 h.1 | inr h ↦ shorter h.0 h.1 h.2 ]
    where
      equal : b ≡ a → (b ≡ a) × (r ≡ q) × (v ≡ u)
      equal i =
          let spelled : Spells p state a r = subst (λ l. Spells p state l r) i other in
          (i, one_request state a r q spelled one, sym (append_cancel_left a u v (e ∙ ap (λ l. l ++ v) i)))

      longer : (m : List ℕ) → b ≡ a ++ m → (b ≡ a) × (r ≡ q) × (v ≡ u)
      longer m i =
          let none = no_longer state a m q r one (subst (λ l. Spells p state l r) i other) in
          equal (i ∙ ap (λ l. a ++ l) none ∙ append-nil a)

      shorter : (x : ℕ) (m : List ℕ) → a ≡ b ++ x ∷ m → (b ≡ a) × (r ≡ q) × (v ≡ u)
      shorter x m i =
          let none = no_longer state b (x ∷ m) r q other (subst (λ l. Spells p state l q) i one) in
          absurd cc

  -- a rest has no spelling at its start
  pub no_prefix : (state : State) (rest own unread : List ℕ) (q : Request) → IsRest p state rest → Spells p state own q → rest ≡ own ++ unread → ⊥
  no_prefix state rest own unread q less spelled e =
      let more = less.prefix.0 in
      let whole : Spells p state (own ++ (unread ++ more)) less.prefix.1 = subst (λ l. Spells p state l less.prefix.1) (ap (λ l. l ++ more) e ∙ append_assoc own unread more) less.prefix.2 in
      let none = no_longer state own (unread ++ more) q less.prefix.1 spelled whole in
      let gone = prefix_nil unread more none in
      less.unspelled q (subst (λ l. Spells p state l q) (sym (e ∙ ap (λ l. own ++ l) gone ∙ append-nil own)) spelled)
    where
      prefix_nil : (a b : List ℕ) → a ++ b ≡ [] → a ≡ []
      prefix_nil [] b i = refl
      prefix_nil (x ∷ a) b i = absurd cc

  -- no prefix of the text is a whole request
  abbrev pub NoneWhole : State → List ℕ → Type 0
  NoneWhole state text = (prefix more : List ℕ) → text ≡ prefix ++ more → p.whole state prefix ≡ None

  -- what the search for the first request of a text finds
  abbrev pub IsFind : State → List ℕ → Option (Found Request) → Type 0
  IsFind state text None = NoneWhole state text
  IsFind state text (Some found) = Spells p state found.own found.request × (text ≡ found.own ++ found.unread)

  first_push : (state : State) (come : List ℕ) (b : ℕ) → IsFirst p state come → p.whole state come ≡ None → IsFirst p state (come ++ b ∷ [])
  first_push state come b first none prefix x more e = elim (prefix_of_push come b prefix x more e) [
    | inl same ↦ subst (λ l. p.whole state l ≡ None) same none
    | inr h ↦ first prefix h.0 h.1 h.2
  ]

  at_end : (state : State) (come : List ℕ) → IsFirst p state come → p.whole state come ≡ None → NoneWhole state come
  at_end state come first none prefix [] e = subst (λ l. p.whole state l ≡ None) (e ∙ append-nil prefix) none
  at_end state come first none prefix (x ∷ more) e = first prefix x more e

  pub first_is : (state : State) (come rest : List ℕ) → IsFirst p state come → IsFind state (come ++ rest) (first_request p state come rest)
  first_is state come [] first =
      elim (p.whole state come) as (λ o. p.whole state come ≡ o → IsFind state (come ++ []) (or_later o come [] None)) [
        | None ↦ λ none. subst (NoneWhole state) (sym (append-nil come)) (at_end state come first none)
        | Some q ↦ λ some. (record { whole = some; first = first }, refl)
      ] refl
  first_is state come (b ∷ bs) first =
      elim (p.whole state come) as (λ o. p.whole state come ≡ o → IsFind state (come ++ b ∷ bs) (or_later o come (b ∷ bs) (first_request p state (come ++ b ∷ []) bs))) [
        | None ↦ λ none. subst (λ text. IsFind state text (first_request p state (come ++ b ∷ []) bs)) (append_assoc come (b ∷ []) bs) (first_is state (come ++ b ∷ []) bs (first_push state come b first none))
        | Some q ↦ λ some. (record { whole = some; first = first }, refl)
      ] refl

  nothing_first : (state : State) → IsFirst p state []
  nothing_first state prefix b more e = absurd (nil_not prefix b more e)
    where
      nil_not : (prefix : List ℕ) (b : ℕ) (more : List ℕ) → [] ≡ prefix ++ b ∷ more → ⊥
      nil_not [] b more i = cc
      nil_not (x ∷ prefix) b more i = cc

  pub find_is : (state : State) (text : List ℕ) → IsFind state text (first_request p state [] text)
  find_is state text = first_is state [] text (nothing_first state)

  -- a text none of whose prefixes is whole is less than a request
  pub rest_of : IsFilled p → (state : State) (text : List ℕ) → NoneWhole state text → IsRest p state text
  rest_of filled state text none =
      let more = (filled.fills state text).0 in
      let q = (filled.fills state text).1 in
      let some = (filled.fills state text).2 in
      record {
        unspelled = λ r spelled. let here : p.whole state text ≡ Some r = spelled.whole in let gone : p.whole state text ≡ None = none text [] (sym (append-nil text)) in absurd cc;
        prefix = found more (first_request p state [] (text ++ more)) (find_is state (text ++ more)) q some;
      }
    where
      found : (more : List ℕ) (o : Option (Found Request)) → IsFind state (text ++ more) o → (q : Request) → p.whole state (text ++ more) ≡ Some q
          → (m : List ℕ) × (r : Request) × Spells p state (text ++ m) r
      found more None is q some = let gone : p.whole state (text ++ more) ≡ None = is (text ++ more) [] (sym (append-nil (text ++ more))) in absurd cc
      found more (Some f) is q some = elim (prefixes text f.own more f.unread is.1) [
        | inl h ↦ (h.0, f.request, subst (λ l. Spells p state l f.request) h.1 is.0)
        | inr h ↦ let gone : p.whole state f.own ≡ None = none f.own (h.0 ∷ h.1) h.2 in let here : p.whole state f.own ≡ Some f.request = is.0.whole in absurd cc
      ]

  -- nothing is no request
  pub none_whole : IsFilled p → (state : State) → NoneWhole state []
  none_whole filled state [] more e = filled.starts state
  none_whole filled state (b ∷ bs) more e = absurd cc

  pub some_byte : IsFilled p → (state : State) (bytes : List ℕ) (q : Request) → Spells p state bytes q → (b : ℕ) × (bs : List ℕ) × (bytes ≡ b ∷ bs)
  some_byte filled state [] q spelled = let here : p.whole state [] ≡ Some q = spelled.whole in let gone : p.whole state [] ≡ None = filled.starts state in absurd cc
  some_byte filled state (b ∷ bs) q spelled = (b, bs, refl)

  -- a text with a cut
  abbrev HasCut : State → List ℕ → Type 0
  HasCut state text = (xs : List (Spelling Request)) × (rest : List ℕ) × IsCut p state text xs rest

  shorter : (own unread : List ℕ) (b : ℕ) (bs text : List ℕ) → text ≡ own ++ unread → own ≡ b ∷ bs → length unread < length text
  shorter own unread b bs text e i =
      let sized : length text ≡ length own + length unread = ap length e ∙ length-append own unread in
      let one : length own ≡ suc (length bs) = ap length i in
      omega (arith, sized, one)

  cut_found : IsFilled p → (state : State) (text : List ℕ) → ((s : State) (t : List ℕ) → length t < length text → HasCut s t)
      → (o : Option (Found Request)) → IsFind state text o → HasCut state text
  cut_found filled state text deeper None is = ([], text, record { last = state; spelled = refl; text_is = refl; less = rest_of filled state text is })
  cut_found filled state text deeper (Some f) is =
      let b = some_byte filled state f.own f.request is.0 in
      let more = deeper (p.next state f.request) f.unread (shorter f.own f.unread b.0 b.1 text is.1 b.2) in (
        (f.own, f.request) ∷ more.0,
        more.1,
        record {
          last = more.2.last;
          spelled = (is.0, more.2.spelled);
          text_is = is.1 ∙ ap (λ l. f.own ++ l) more.2.text_is ∙ sym (append_assoc f.own (spelled_bytes more.0) more.1);
          less = more.2.less;
        },
      )

  cut_within : IsFilled p → (n : ℕ) (state : State) (text : List ℕ) → length text ≤ n → HasCut state text
  cut_within filled zero state text le = cut_found filled state text (λ s t lt. absurd (omega (arith, lt, le))) (first_request p state [] text) (find_is state text)
  cut_within filled (suc n) state text le = cut_found filled state text (λ s t lt. cut_within filled n s t (omega (arith, lt, le))) (first_request p state [] text) (find_is state text)

  one_cut_from : (state : State) (text : List ℕ) (xs ys : List (Spelling Request)) (rest other : List ℕ) → IsCut p state text xs rest → IsCut p state text ys other → (ys ≡ xs) × (other ≡ rest)
  one_cut_from state text [] [] rest other a b = (refl, sym b.text_is ∙ a.text_is)
  one_cut_from state text ((own, q) ∷ xs) [] rest other a b =
      let less : IsRest p state other = subst (λ s. IsRest p s other) b.spelled b.less in
      absurd (no_prefix state other own (spelled_bytes xs ++ rest) q less a.spelled.0 (sym b.text_is ∙ a.text_is ∙ append_assoc own (spelled_bytes xs) rest))
  one_cut_from state text [] ((own, q) ∷ ys) rest other a b =
      let less : IsRest p state rest = subst (λ s. IsRest p s rest) a.spelled a.less in
      absurd (no_prefix state rest own (spelled_bytes ys ++ other) q less b.spelled.0 (sym a.text_is ∙ b.text_is ∙ append_assoc own (spelled_bytes ys) other))
  one_cut_from state text ((own, q) ∷ xs) ((also, r) ∷ ys) rest other a b =
      let split : own ++ (spelled_bytes xs ++ rest) ≡ also ++ (spelled_bytes ys ++ other) =
      sym (append_assoc own (spelled_bytes xs) rest) ∙ sym a.text_is ∙ b.text_is ∙ append_assoc also (spelled_bytes ys) other in
      let same = same_prefix state own also (spelled_bytes xs ++ rest) (spelled_bytes ys ++ other) q r a.spelled.0 b.spelled.0 split in
      let from : IsCut p (p.next state q) (spelled_bytes xs ++ rest) xs rest = record { last = a.last; spelled = a.spelled.1; text_is = refl; less = a.less } in
      let also_from : IsCut p (p.next state q) (spelled_bytes xs ++ rest) ys other = record { last = b.last; spelled = subst (λ x. Spellings p (p.next state x) ys b.last) same.1 b.spelled.1; text_is = sym same.2; less = b.less } in
      let more = one_cut_from (p.next state q) (spelled_bytes xs ++ rest) xs ys rest other from also_from in
      (pair_cons own also q r xs ys same.0 same.1 more.0, more.1)
    where
      pair_cons : (a b : List ℕ) (q r : Request) (xs ys : List (Spelling Request)) → b ≡ a → r ≡ q → ys ≡ xs → ((b, r) ∷ ys) ≡ ((a, q) ∷ xs)
      pair_cons a b q r xs ys i j k = cc

  pub one_cut : IsFilled p → (state : State) (text : List ℕ) → HasOneCut p state text
  one_cut filled state text = record { cut = cut_within filled (length text) state text (omega arith); only = one_cut_from state text }
