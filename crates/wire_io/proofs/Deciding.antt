-- The bytes of an input decide how a session ends, where nothing fails.
use Rattle.std.proofs.lemmas.Bool.Decides.{nat_tests}
use Rattle.std.proofs.Common.{true, false, leb, ◌≡◌, ◌≢◌, ℕ, ◌+◌, ◌<◌, ◌≤◌, ◌⊎◌, List, [], ◌∷◌, ◌++◌, length, Option, Some, None, refl, sym, ap, ◌∙◌, inl, inr, subst, append_assoc, append-nil, arith, length-append}
use Rattle.wire_io.specs.declared.ends.After.{After}
use Rattle.wire_io.specs.declared.ends.After.TheVariants.{Open, Closing, Stopping}
use Rattle.wire_io.specs.declared.ends.SessionEnd.{SessionEnd}
use Rattle.wire_io.specs.declared.ends.SessionEnd.TheVariants.{Closed, Stopped, Truncated, InputLimit, ReadFault, WriteFault, NoMemory}
use Rattle.wire_io.specs.Work.{Does, AlwaysEnds}
use Rattle.wire_io.specs.Protocol.{Protocol, Spells, IsRest, Spelling, spelled_bytes, IsFilled}
use Rattle.wire_io.specs.Session.{Exchange, bytes_of, Exchanges, Waits, Finishes, Ends, Session, Outlives, IsFinished, RestEnds, InputEnds, IsQuiet}
use Rattle.wire_io.specs.Transcript.{end_of_rest}
use Rattle.wire_io.proofs.Prefixes.{prefixes}
use Rattle.wire_io.proofs.Cuts.{same_prefix, no_prefix, rest_of, none_whole}

-- the end that a request makes of a session
abbrev pub end_after : After → Option SessionEnd
end_after Open = None
end_after Closing = Some Closed
end_after Stopping = Some Stopped

module _ {State Request Call Answer : Type 0} (p : Protocol State Request Call Answer) (limit : ℕ) where
  -- less than a request is left, up to the limit or to the input's end
  pub record IsLeft (state : State) (at : ℕ) (bytes : List ℕ) (end : SessionEnd) : Type 0 where
    pub seen : List ℕ
    pub unseen : List ℕ
    pub parts : bytes ≡ seen ++ unseen
    pub less : IsRest p state seen
    pub all : (unseen ≡ []) ⊎ (at + length seen ≡ limit)
    pub end_is : end ≡ end_of_rest limit at bytes

  -- a request within the limit stands at the start, and its work ends so
  pub record IsAhead (state : State) (at : ℕ) (bytes : List ℕ) (Ended : Request → Type 0) : Type 0 where
    pub own : List ℕ
    pub request : Request
    pub unread : List ℕ
    pub spelled : Spells p state own request
    pub parts : bytes ≡ own ++ unread
    pub within : at + length own ≤ limit
    pub ended : Ended request

  -- the one is the case or the other, not both
  pub never_both : (state : State) (at : ℕ) (bytes : List ℕ) (end : SessionEnd) (Ended : Request → Type 0) → IsLeft state at bytes end → IsAhead state at bytes Ended → ⊥
  never_both state at bytes end Ended left ahead = elim left.all [
    | inl none ↦ no_prefix p state left.seen ahead.own ahead.unread ahead.request left.less ahead.spelled
        (sym (append-nil left.seen) ∙ ap (λ l. left.seen ++ l) (sym none) ∙ sym left.parts ∙ ahead.parts)
    | inr full ↦ elim (prefixes ahead.own left.seen ahead.unread left.unseen (sym ahead.parts ∙ left.parts)) [
      | inl h ↦ no_prefix p state left.seen ahead.own h.0 ahead.request left.less ahead.spelled h.1
      | inr h ↦ let sized : length ahead.own ≡ length left.seen + length (h.0 ∷ h.1) = ap length h.2 ∙ length-append left.seen (h.0 ∷ h.1) in absurd (omega (arith, sized, full, ahead.within))
    ]
  ]

  pub end_none : (at : ℕ) → at < limit → end_of_rest limit at [] ≡ Closed
  end_none at lt = let no : leb limit at ≡ false = grind (arith, nat_tests) in rw no refl

  pub end_short : (at : ℕ) (bytes : List ℕ) → bytes ≢ [] → at + length bytes < limit → end_of_rest limit at bytes ≡ Truncated at
  end_short at [] some lt = absurd (some refl)
  end_short at (b ∷ bs) some lt = let no : leb limit (at + length (b ∷ bs)) ≡ false = grind (arith, nat_tests) in rw no refl

  pub end_full : (at : ℕ) (bytes : List ℕ) → limit ≤ at + length bytes → end_of_rest limit at bytes ≡ InputLimit
  end_full at [] le = let yes : leb limit at ≡ true = grind (arith, nat_tests) in rw yes refl
  end_full at (b ∷ bs) le = let yes : leb limit (at + length (b ∷ bs)) ≡ true = grind (arith, nat_tests) in rw yes refl

  -- the work of a request, as it was answered, ends the session so
  abbrev pub Ended : SessionEnd → Request → State → Type 0
  Ended end request state = (log : List (Call × Answer)) × (text : List ℕ) × (after : After) × Does (p.work state request) log text after × (end_after after ≡ Some end)

  -- the work of a request, however it is answered, ends the session so
  abbrev pub EndsAlways : SessionEnd → Request → State → Type 0
  EndsAlways end request state = (after : After) × AlwaysEnds (p.work state request) after × (end_after after ≡ Some end)

  finished : (state : State) (at : ℕ) (rest left : List ℕ) (log : List (Call × Answer)) (text : List ℕ) (after : After) (end : SessionEnd) → Finishes p state rest log text after → end_after after ≡ Some end
      → at + length rest ≤ limit → IsAhead state at (rest ++ left) (λ request. Ended end request state)
  finished state at rest left log text after end f e fits =
      let sized : length rest ≡ length f.x.bytes + length f.unread = ap length f.rest_is ∙ length-append f.x.bytes f.unread in
      record {
        own = f.x.bytes;
        request = f.x.request;
        unread = f.unread ++ left;
        spelled = f.exchange.spelled;
        parts = ap (λ l. l ++ left) f.rest_is ∙ append_assoc f.x.bytes f.unread left;
        within = omega (arith, sized, fits);
        ended = (f.x.log, f.exchange.answer, after, f.exchange.worked, e);
      }

  -- what the session's own end says of the bytes behind the requests that it outlived
  pub ended_forms : (state : State) (at : ℕ) (rest left : List ℕ) (log : List (Call × Answer)) (text : List ℕ) (end : SessionEnd) → Ends p limit (left ≡ []) state at rest log text end
      → at + length rest ≤ limit → IsQuiet end
      → (IsLeft state at (rest ++ left) end × Waits p state rest log text × (rest ++ left ≡ rest ⊎ (at + length rest ≡ limit))) ⊎ (IsAhead state at (rest ++ left) (λ request. Ended end request state) ⊎ (end ≡ NoMemory))
  ended_forms state at rest left log text Closed (inl h) fits quiet =
      let none : rest ++ left ≡ [] = ap (λ l. l ++ left) h.0 ∙ h.2 in
      inl (record { seen = rest; unseen = left; parts = refl; less = h.3.less; all = inl h.2; end_is = sym (ap (end_of_rest limit at) none ∙ end_none at h.1) }, h.3, inl (ap (λ l. rest ++ l) h.2 ∙ append-nil rest))
  ended_forms state at rest left log text Closed (inr f) fits quiet = inr (inl (finished state at rest left log text Closing Closed f refl fits))
  ended_forms state at rest left log text Stopped f fits quiet = inr (inl (finished state at rest left log text Stopping Stopped f refl fits))
  ended_forms state at rest left log text (Truncated offset) h fits quiet =
      let same : rest ++ left ≡ rest = ap (λ l. rest ++ l) h.2 ∙ append-nil rest in
      inl (record { seen = rest; unseen = left; parts = refl; less = h.4.less; all = inl h.2; end_is = ap Truncated h.3 ∙ sym (ap (end_of_rest limit at) same ∙ end_short at rest h.0 h.1) }, h.4, inl same)
  ended_forms state at rest left log text InputLimit h fits quiet =
      let sized : length (rest ++ left) ≡ length rest + length left = length-append rest left in
      inl (record { seen = rest; unseen = left; parts = refl; less = h.1.less; all = inr h.0; end_is = sym (end_full at (rest ++ left) (omega (arith, sized, h.0))) }, h.1, inr h.0)
  ended_forms state at rest left log text ReadFault h fits quiet = absurd (quiet.0 refl)
  ended_forms state at rest left log text WriteFault h fits quiet = absurd (quiet.1 refl)
  ended_forms state at rest left log text NoMemory h fits quiet = inr (inr refl)

  finished_always : (state : State) (at : ℕ) (bytes : List ℕ) (after : After) (due : SessionEnd) → IsFinished p limit state at bytes after → end_after after ≡ Some due
      → IsAhead state at bytes (λ request. EndsAlways due request state)
  finished_always state at bytes after due f e = record { own = f.0; request = f.1; unread = f.2; spelled = f.3; parts = f.5; within = f.6; ended = (after, f.4, e) }

  -- what the input says of them
  pub due_forms : (state : State) (at : ℕ) (bytes : List ℕ) (due : SessionEnd) → RestEnds p limit state at bytes due
      → IsRest p state [] → IsLeft state at bytes due ⊎ IsAhead state at bytes (λ request. EndsAlways due request state)
  due_forms state at bytes Closed (inl h) empty = inl (record { seen = bytes; unseen = []; parts = sym (append-nil bytes); less = subst (IsRest p state) (sym h.0) empty; all = inl refl; end_is = sym (ap (end_of_rest limit at) h.0 ∙ end_none at h.1) })
  due_forms state at bytes Closed (inr h) empty = inr (finished_always state at bytes Closing Closed h refl)
  due_forms state at bytes Stopped h empty = inr (finished_always state at bytes Stopping Stopped h refl)
  due_forms state at bytes (Truncated offset) h empty = inl (record { seen = bytes; unseen = []; parts = sym (append-nil bytes); less = h.3; all = inl refl; end_is = ap Truncated h.2 ∙ sym (end_short at bytes h.0 h.1) })
  due_forms state at bytes InputLimit h empty =
      let sized : length bytes ≡ length h.0 + length h.1 = ap length h.2 ∙ length-append h.0 h.1 in
      inl (record { seen = h.0; unseen = h.1; parts = h.2; less = h.4; all = inr h.3; end_is = sym (end_full at bytes (omega (arith, sized, h.3))) })
  due_forms state at bytes ReadFault h empty = absurd h
  due_forms state at bytes WriteFault h empty = absurd h
  due_forms state at bytes NoMemory h empty = absurd h

  -- an end is never due beyond the limit
  due_within : (state : State) (at : ℕ) (bytes : List ℕ) (due : SessionEnd) → RestEnds p limit state at bytes due → at ≤ limit
  due_within state at bytes Closed (inl h) = omega (arith, h.1)
  due_within state at bytes Closed (inr h) = omega (arith, h.6)
  due_within state at bytes Stopped h = omega (arith, h.6)
  due_within state at bytes (Truncated offset) h = omega (arith, h.1)
  due_within state at bytes InputLimit h = omega (arith, h.3)
  due_within state at bytes ReadFault h = absurd h
  due_within state at bytes WriteFault h = absurd h
  due_within state at bytes NoMemory h = absurd h

  one_end : (after word : After) (end due : SessionEnd) → after ≡ word → end_after after ≡ Some end → end_after word ≡ Some due → end ≡ due
  one_end after word end due same e d = let moved : end_after after ≡ end_after word = ap end_after same in cc

  -- two ends of the same bytes are one
  both_ends : (state : State) (at : ℕ) (bytes : List ℕ) (end due : SessionEnd)
      → IsLeft state at bytes end ⊎ IsAhead state at bytes (λ request. Ended end request state)
      → IsLeft state at bytes due ⊎ IsAhead state at bytes (λ request. EndsAlways due request state) → end ≡ due
  both_ends state at bytes end due (inl a) (inl b) = a.end_is ∙ sym b.end_is
  both_ends state at bytes end due (inl a) (inr b) = absurd (never_both state at bytes end (λ request. EndsAlways due request state) a b)
  both_ends state at bytes end due (inr a) (inl b) = absurd (never_both state at bytes due (λ request. Ended end request state) b a)
  both_ends state at bytes end due (inr a) (inr b) =
      let same = same_prefix p state a.own b.own a.unread b.unread a.request b.request a.spelled b.spelled (sym a.parts ∙ b.parts) in
      let e = a.ended in
      let always : AlwaysEnds (p.work state a.request) b.ended.0 = subst (λ r. AlwaysEnds (p.work state r) b.ended.0) same.1 b.ended.1 in
      one_end e.2 b.ended.0 end due (always e.0 e.1 e.2 e.3) e.4 b.ended.2

  -- behind a request that both sides outlive
  behind_own : (at place : ℕ) (own rest : List ℕ) → place ≡ at + length (own ++ rest) → place ≡ (at + length own) + length rest
  behind_own at place own rest e = let sized : length (own ++ rest) ≡ length own + length rest = length-append own rest in omega (arith, e, sized)

  fits_behind : (at : ℕ) (own ex rest : List ℕ) → at + length ((own ++ ex) ++ rest) ≤ limit → (at + length own) + length (ex ++ rest) ≤ limit
  fits_behind at own ex rest le =
      let a : length ((own ++ ex) ++ rest) ≡ length (own ++ ex) + length rest = length-append (own ++ ex) rest in
      let b : length (own ++ ex) ≡ length own + length ex = length-append own ex in
      let c : length (ex ++ rest) ≡ length ex + length rest = length-append ex rest in
      omega (arith, le, a, b, c)

  fits_own : (at : ℕ) (own ex rest : List ℕ) → at + length ((own ++ ex) ++ rest) ≤ limit → at + length own ≤ limit
  fits_own at own ex rest le =
      let a : length ((own ++ ex) ++ rest) ≡ length (own ++ ex) + length rest = length-append (own ++ ex) rest in
      let b : length (own ++ ex) ≡ length own + length ex = length-append own ex in
      omega (arith, le, a, b)

  abbrev InputForm : State → ℕ → List ℕ → SessionEnd → Type 0
  InputForm state at bytes due = IsLeft state at bytes due ⊎ IsAhead state at bytes (λ request. EndsAlways due request state)

  abbrev OwnForm : State → ℕ → List ℕ → SessionEnd → Type 0
  OwnForm state at bytes end = IsLeft state at bytes end ⊎ IsAhead state at bytes (λ request. Ended end request state)

  -- a request that the session outlives is none that ends the input
  not_due : (state : State) (at : ℕ) (bytes : List ℕ) (due : SessionEnd) → InputForm state at bytes due
      → IsAhead state at bytes (λ request. (log : List (Call × Answer)) × (text : List ℕ) × Does (p.work state request) log text Open) → ⊥
  not_due state at bytes due (inl a) x = never_both state at bytes due _ a x
  not_due state at bytes due (inr a) x =
      let same = same_prefix p state a.own x.own a.unread x.unread a.request x.request a.spelled x.spelled (sym a.parts ∙ x.parts) in
      let did = x.ended in
      let moved : Does (p.work state a.request) did.0 did.1 Open = subst (λ r. Does (p.work state r) did.0 did.1 Open) same.1 did.2 in
      let always = a.ended.1 did.0 did.1 Open moved in
      let none : end_after Open ≡ end_after a.ended.0 = ap end_after always in
      let some : end_after a.ended.0 ≡ Some due = a.ended.2 in
      absurd cc

  not_ended : (state : State) (at : ℕ) (bytes : List ℕ) (end : SessionEnd) → OwnForm state at bytes end → IsAhead state at bytes (λ request. AlwaysEnds (p.work state request) Open) → ⊥
  not_ended state at bytes end (inl a) y = never_both state at bytes end _ a y
  not_ended state at bytes end (inr a) y =
      let same = same_prefix p state a.own y.own a.unread y.unread a.request y.request a.spelled y.spelled (sym a.parts ∙ y.parts) in
      let e = a.ended in
      let always : AlwaysEnds (p.work state a.request) Open = subst (λ r. AlwaysEnds (p.work state r) Open) same.1 y.ended in
      let none : end_after e.2 ≡ end_after Open = ap end_after (always e.0 e.1 e.2 e.3) in
      let some : end_after e.2 ≡ Some end = e.4 in
      absurd cc

  -- the session's own end, by its forms
  own_forms : (state : State) (at : ℕ) (rest left : List ℕ) (log : List (Call × Answer)) (text : List ℕ) (end : SessionEnd) → Ends p limit (left ≡ []) state at rest log text end
      → at + length rest ≤ limit → IsQuiet end → OwnForm state at (rest ++ left) end ⊎ (end ≡ NoMemory)
  own_forms state at rest left log text end ends fits quiet = by_form (ended_forms state at rest left log text end ends fits quiet)
    where
      by_form : (IsLeft state at (rest ++ left) end × Waits p state rest log text × (rest ++ left ≡ rest ⊎ (at + length rest ≡ limit))) ⊎ (IsAhead state at (rest ++ left) (λ request. Ended end request state) ⊎ (end ≡ NoMemory))
          → OwnForm state at (rest ++ left) end ⊎ (end ≡ NoMemory)
      by_form (inl a) = inl (inl a.0)
      by_form (inr (inl a)) = inl (inr a)
      by_form (inr (inr none)) = inr none

  -- from a place on, the session and the input end alike
  pub ends_alike : IsFilled p → (state last final : State) (at place due_place : ℕ) (ex : List (Exchange Request Call Answer)) (xs : List (Spelling Request)) (rest left bytes : List ℕ)
      (log : List (Call × Answer)) (text : List ℕ) (end due : SessionEnd)
      → Exchanges p state ex last → Ends p limit (left ≡ []) last place rest log text end → place ≡ at + length (bytes_of ex) → at + length (bytes_of ex ++ rest) ≤ limit
      → Outlives p state xs final → RestEnds p limit final due_place bytes due → due_place ≡ at + length (spelled_bytes xs)
      → (bytes_of ex ++ rest) ++ left ≡ spelled_bytes xs ++ bytes → IsQuiet end → (end ≡ due) ⊎ (end ≡ NoMemory)
  ends_alike filled state last final at place due_place [] [] rest left bytes log text end due outlived ends place_is fits also due_ends due_is e quiet =
      let here : place ≡ at = omega (arith, place_is) in
      let there : due_place ≡ at = omega (arith, due_is) in
      let own_ends : Ends p limit (left ≡ []) state at rest log text end = subst (λ n. Ends p limit (left ≡ []) state n rest log text end) here (subst (λ s. Ends p limit (left ≡ []) s place rest log text end) outlived ends) in
      let input_ends : RestEnds p limit state at bytes due = subst (λ n. RestEnds p limit state n bytes due) there (subst (λ s. RestEnds p limit s due_place bytes due) also due_ends) in
      let form : InputForm state at (rest ++ left) due = subst (λ l. InputForm state at l due) (sym e) (due_forms state at bytes due input_ends (rest_of p filled state [] (none_whole p filled state))) in
      elim (own_forms state at rest left log text end own_ends fits quiet) [ inl a ↦ inl (both_ends state at (rest ++ left) end due a form) | inr none ↦ inr none ]
  ends_alike filled state last final at place due_place (x ∷ ex) [] rest left bytes log text end due outlived ends place_is fits also due_ends due_is e quiet =
      let there : due_place ≡ at = omega (arith, due_is) in
      let input_ends : RestEnds p limit state at bytes due = subst (λ n. RestEnds p limit state n bytes due) there (subst (λ s. RestEnds p limit s due_place bytes due) also due_ends) in
      let form = due_forms state at bytes due input_ends (rest_of p filled state [] (none_whole p filled state)) in
      absurd (not_due state at bytes due form (record {
        own = x.bytes;
        request = x.request;
        unread = (bytes_of ex ++ rest) ++ left;
        spelled = outlived.0.spelled;
        parts = sym e ∙ ap (λ l. l ++ left) (append_assoc x.bytes (bytes_of ex) rest) ∙ append_assoc x.bytes (bytes_of ex ++ rest) left;
        within = fits_own at x.bytes (bytes_of ex) rest fits;
        ended = (x.log, outlived.0.answer, outlived.0.worked);
      }))
  ends_alike filled state last final at place due_place [] (y ∷ xs) rest left bytes log text end due outlived ends place_is fits also due_ends due_is e quiet =
      let here : place ≡ at = omega (arith, place_is) in
      let own_ends : Ends p limit (left ≡ []) state at rest log text end = subst (λ n. Ends p limit (left ≡ []) state n rest log text end) here (subst (λ s. Ends p limit (left ≡ []) s place rest log text end) outlived ends) in
      let most = due_within final due_place bytes due due_ends in
      let sized : length (y.0 ++ spelled_bytes xs) ≡ length y.0 + length (spelled_bytes xs) = length-append y.0 (spelled_bytes xs) in
      elim (own_forms state at rest left log text end own_ends fits quiet) [
        | inl a ↦ absurd (not_ended state at (rest ++ left) end a (record {
          own = y.0;
          request = y.1;
          unread = spelled_bytes xs ++ bytes;
          spelled = also.0;
          parts = e ∙ append_assoc y.0 (spelled_bytes xs) bytes;
          within = omega (arith, most, due_is, sized);
          ended = also.1;
        }))
        | inr none ↦ inr none
      ]
  ends_alike filled state last final at place due_place (x ∷ ex) (y ∷ xs) rest left bytes log text end due outlived ends place_is fits also due_ends due_is e quiet =
      let split : x.bytes ++ ((bytes_of ex ++ rest) ++ left) ≡ y.0 ++ (spelled_bytes xs ++ bytes) =
      sym (ap (λ l. l ++ left) (append_assoc x.bytes (bytes_of ex) rest) ∙ append_assoc x.bytes (bytes_of ex ++ rest) left) ∙ e ∙ append_assoc y.0 (spelled_bytes xs) bytes in
      let same = same_prefix p state x.bytes y.0 ((bytes_of ex ++ rest) ++ left) (spelled_bytes xs ++ bytes) x.request y.1 outlived.0.spelled also.0 split in
      let moved : Outlives p (p.next state x.request) xs final = subst (λ r. Outlives p (p.next state r) xs final) same.1 also.2 in
      let due_there : due_place ≡ at + length (x.bytes ++ spelled_bytes xs) = due_is ∙ ap (λ l. at + length (l ++ spelled_bytes xs)) same.0 in
      ends_alike filled (p.next state x.request) last final (at + length x.bytes) place due_place ex xs rest left bytes log text end due outlived.1 ends
      (behind_own at place x.bytes (bytes_of ex) place_is) (fits_behind at x.bytes (bytes_of ex) rest fits) moved due_ends (behind_own at due_place x.bytes (spelled_bytes xs) due_there) (sym same.2) quiet

  -- the whole session and the whole input end alike
  pub end_decided : IsFilled p → (greeting : List ℕ) (start : State) (input taken left : List ℕ) (log : List (Call × Answer)) (written : List ℕ) (end due : SessionEnd) → input ≡ taken ++ left
      → Session p greeting start limit (left ≡ []) taken log written end → InputEnds p start limit input due → IsQuiet end → (end ≡ due) ⊎ (end ≡ NoMemory)
  end_decided filled greeting start input taken left log written end due parts (inl s) due_is quiet =
      ends_alike filled start s.state due_is.state 0 (length (bytes_of s.exchanges)) (length (spelled_bytes due_is.xs)) s.exchanges due_is.xs s.rest left due_is.bytes s.last_log s.last_text end due
      s.outlived s.ends (omega arith) (subst (λ l. 0 + length l ≤ limit) s.taken_is (omega (arith, s.within))) due_is.outlived due_is.ends (omega arith)
      (ap (λ l. l ++ left) (sym s.taken_is) ∙ sym parts ∙ due_is.input_is) quiet
  end_decided filled greeting start input taken left log written end due parts (inr s) due_is quiet = absurd (quiet.1 s.0)
