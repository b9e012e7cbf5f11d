-- Every input has an end that it decides.
use Rattle.std.proofs.Common.{◌≡◌, ◌≢◌, ℕ, zero, suc, ◌+◌, ◌-◌, ◌<◌, ◌≤◌, List, [], ◌∷◌, ◌++◌, length, take, drop, Option, Some, None, refl, sym, ap, ◌∙◌, inl, inr, subst, append_assoc, arith, length-append}
use Rattle.std.proofs.lemmas.Bool.Decides.{leb_tells}
use Rattle.std.proofs.lemmas.List.{take-append-drop, take-append-le, length-take-le, length-drop}
use Rattle.wire_io.specs.declared.ends.After.{After}
use Rattle.wire_io.specs.declared.ends.After.TheVariants.{Open, Closing, Stopping}
use Rattle.wire_io.specs.declared.ends.SessionEnd.{SessionEnd}
use Rattle.wire_io.specs.declared.ends.SessionEnd.TheVariants.{Closed, Stopped, Truncated, InputLimit}
use Rattle.wire_io.specs.Work.{AlwaysEnds}
use Rattle.wire_io.specs.Protocol.{Protocol, Spells, Spelling, spelled_bytes, IsFilled}
use Rattle.wire_io.specs.Session.{Outlives, RestEnds, InputEnds, EndsOneWay}
use Rattle.wire_io.specs.Transcript.{Found, first_request}
use Rattle.wire_io.proofs.Cuts.{NoneWhole, IsFind, find_is, rest_of, none_whole, some_byte}

some_first : (l : List ℕ) → 0 < length l → (b : ℕ) × (m : List ℕ) × (l ≡ b ∷ m)
some_first [] lt = absurd (omega (arith, lt))
some_first (b ∷ m) lt = (b, m, refl)

is_nil : (l : List ℕ) → length l ≤ 0 → l ≡ []
is_nil [] le = refl
is_nil (b ∷ m) le = absurd (omega (arith, le))

module _ {State Request Call Answer : Type 0} (p : Protocol State Request Call Answer) (limit : ℕ) (filled : IsFilled p) (one_way : EndsOneWay p) where
  -- how bytes from a place on end a session
  record EndsFrom (state : State) (at : ℕ) (bytes : List ℕ) : Type 0 where
    xs : List (Spelling Request)
    last : State
    rest : List ℕ
    due : SessionEnd
    outlived : Outlives p state xs last
    bytes_are : bytes ≡ spelled_bytes xs ++ rest
    ends : RestEnds p limit last (at + length (spelled_bytes xs)) rest due

  -- the limit is reached within less than a request
  full : (state : State) (at : ℕ) (bytes : List ℕ) → at ≤ limit → limit ≤ at + length bytes → NoneWhole p state (take (limit - at) bytes) → EndsFrom state at bytes
  full state at bytes within le none =
      let sized : length (take (limit - at) bytes) ≡ limit - at = length-take-le (limit - at) bytes (omega (arith, within, le)) in
      record {
        xs = [];
        last = state;
        rest = bytes;
        due = InputLimit;
        outlived = refl;
        bytes_are = refl;
        ends = (take (limit - at) bytes, drop (limit - at) bytes, sym (take-append-drop (limit - at) bytes), omega (arith, sized, within), rest_of p filled state (take (limit - at) bytes) none);
      }

  -- the input ends within less than a request
  short : (state : State) (at : ℕ) (bytes : List ℕ) → at + length bytes < limit → NoneWhole p state bytes → EndsFrom state at bytes
  short state at [] lt none = record { xs = []; last = state; rest = []; due = Closed; outlived = refl; bytes_are = refl; ends = inl (refl, omega (arith, lt)) }
  short state at (b ∷ bs) lt none =
      let some : (b ∷ bs) ≢ [] = λ e. cc in
      record {
        xs = [];
        last = state;
        rest = b ∷ bs;
        due = Truncated at;
        outlived = refl;
        bytes_are = refl;
        ends = (some, omega (arith, lt), omega arith, rest_of p filled state (b ∷ bs) none);
      }

  -- no prefix of a prefix is whole
  none_before : (state : State) (prefix more : List ℕ) → NoneWhole p state (prefix ++ more) → NoneWhole p state prefix
  none_before state prefix more none a b e = none a (b ++ more) (ap (λ l. l ++ more) e ∙ append_assoc a b more)

  left_over : (state : State) (at : ℕ) (bytes : List ℕ) → at ≤ limit → NoneWhole p state bytes → EndsFrom state at bytes
  left_over state at bytes within none = elim (leb_tells limit (at + length bytes)) [
    | inl h ↦ full state at bytes within h.1 (none_before state (take (limit - at) bytes) (drop (limit - at) bytes) (subst (NoneWhole p state) (sym (take-append-drop (limit - at) bytes)) none))
    | inr h ↦ short state at bytes h.1 none
  ]

  -- no prefix of a request that goes beyond the limit is whole
  cut_short : (state : State) (n : ℕ) (bytes own unread : List ℕ) (request : Request) → Spells p state own request → bytes ≡ own ++ unread → n < length own → NoneWhole p state (take n bytes)
  cut_short state n bytes own unread request spelled parts lt a b e =
      let prefix : take n bytes ≡ take n own = ap (take n) parts ∙ take-append-le n own unread (omega (arith, lt)) in
      let sized : length (drop n own) ≡ length own - n = length-drop n own in
      let left = some_first (drop n own) (omega (arith, sized, lt)) in
      let whole : own ≡ a ++ (b ++ (left.0 ∷ left.1)) =
      sym (take-append-drop n own) ∙ ap (λ l. l ++ drop n own) (sym prefix ∙ e) ∙ append_assoc a b (drop n own) ∙ ap (λ l. a ++ (b ++ l)) left.2 in
      let more : (c : ℕ) × (m : List ℕ) × (b ++ (left.0 ∷ left.1) ≡ c ∷ m) = some_after b left.0 left.1 in
      spelled.first a more.0 more.1 (whole ∙ ap (λ l. a ++ l) more.2)
    where
      some_after : (b : List ℕ) (x : ℕ) (xs : List ℕ) → (c : ℕ) × (m : List ℕ) × (b ++ (x ∷ xs) ≡ c ∷ m)
      some_after [] x xs = (x, xs, refl)
      some_after (y ∷ b) x xs = (y, b ++ (x ∷ xs), refl)

  -- a request within the limit stands at the start
  served : (state : State) (at : ℕ) (bytes own unread : List ℕ) (request : Request) → Spells p state own request → bytes ≡ own ++ unread → at + length own ≤ limit
      → (word : After) → AlwaysEnds (p.work state request) word → EndsFrom (p.next state request) (at + length own) unread → EndsFrom state at bytes
  served state at bytes own unread request spelled parts fits Open always later =
      let sized : length (own ++ spelled_bytes later.xs) ≡ length own + length (spelled_bytes later.xs) = length-append own (spelled_bytes later.xs) in
      let place : (at + length own) + length (spelled_bytes later.xs) ≡ at + length (own ++ spelled_bytes later.xs) = omega (arith, sized) in
      record {
        xs = (own, request) ∷ later.xs;
        last = later.last;
        rest = later.rest;
        due = later.due;
        outlived = (spelled, always, later.outlived);
        bytes_are = parts ∙ ap (λ l. own ++ l) later.bytes_are ∙ sym (append_assoc own (spelled_bytes later.xs) later.rest);
        ends = subst (λ n. RestEnds p limit later.last n later.rest later.due) place later.ends;
      }
  served state at bytes own unread request spelled parts fits Closing always later =
      record { xs = []; last = state; rest = bytes; due = Closed; outlived = refl; bytes_are = refl; ends = inr (own, request, unread, spelled, always, parts, omega (arith, fits)) }
  served state at bytes own unread request spelled parts fits Stopping always later =
      record { xs = []; last = state; rest = bytes; due = Stopped; outlived = refl; bytes_are = refl; ends = (own, request, unread, spelled, always, parts, omega (arith, fits)) }

  found_first : (state : State) (at : ℕ) (bytes : List ℕ) → at ≤ limit → ((s : State) (n : ℕ) (t : List ℕ) → length t < length bytes → n ≤ limit → EndsFrom s n t)
      → (o : Option (Found Request)) → IsFind p state bytes o → EndsFrom state at bytes
  found_first state at bytes within deeper None none = left_over state at bytes within none
  found_first state at bytes within deeper (Some f) is = elim (leb_tells (at + length f.own) limit) [
    | inl h ↦
        let byte = some_byte p filled state f.own f.request is.0 in
        let one : length f.own ≡ suc (length byte.1) = ap length byte.2 in
        let sized : length bytes ≡ length f.own + length f.unread = ap length is.1 ∙ length-append f.own f.unread in
        let word = one_way state f.request in
        served state at bytes f.own f.unread f.request is.0 is.1 h.1 word.0 word.1
        (deeper (p.next state f.request) (at + length f.own) f.unread (omega (arith, one, sized)) h.1)
    | inr h ↦
        let sized : length bytes ≡ length f.own + length f.unread = ap length is.1 ∙ length-append f.own f.unread in
        full state at bytes within (omega (arith, sized, h.1)) (cut_short state (limit - at) bytes f.own f.unread f.request is.0 is.1 (omega (arith, h.1)))
  ]

  ends_from : (most : ℕ) (state : State) (at : ℕ) (bytes : List ℕ) → length bytes ≤ most → at ≤ limit → EndsFrom state at bytes
  ends_from zero state at bytes few within =
      left_over state at bytes within (subst (NoneWhole p state) (sym (is_nil bytes few)) (none_whole p filled state))
  ends_from (suc most) state at bytes few within =
      found_first state at bytes within (λ s n t lt le. ends_from most s n t (omega (arith, lt, few)) le) (first_request p state [] bytes) (find_is p state bytes)

  pub has_end : (start : State) (input : List ℕ) → (due : SessionEnd) × InputEnds p start limit input due
  has_end start input =
      let found = ends_from (length input) start 0 input (omega arith) (omega arith) in
      let place : 0 + length (spelled_bytes found.xs) ≡ length (spelled_bytes found.xs) = omega arith in (
        found.due,
        record {
          xs = found.xs;
          state = found.last;
          bytes = found.rest;
          outlived = found.outlived;
          input_is = found.bytes_are;
          ends = subst (λ n. RestEnds p limit found.last n found.rest found.due) place found.ends;
        },
      )
