-- A request as it is taken from a feed, and how a session ends within it.
use Rattle.std.proofs.Common.{◌≡◌, ◌≢◌, ◌⊎◌, ℕ, zero, suc, ◌+◌, ◌<◌, List, [], ◌∷◌, ◌++◌, length, take, drop, Option, Result, Err, refl, ap, sym, ◌∙◌, subst, inl, inr, arith, append-nil, take-append-drop}
use Rattle.std.specs.Io.KnownBytes.{IsAtEnd}
use Rattle.quota_units.specs.Causes.{HasCause}
use Rattle.wire_io.specs.declared.ends.SessionEnd.{SessionEnd}
use Rattle.wire_io.specs.declared.ends.SessionEnd.TheVariants.{Closed, Stopped, Truncated, InputLimit, ReadFault, WriteFault, NoMemory}
use Rattle.wire_io.specs.declared.ends.FeedEnd.{FeedEnd}
use Rattle.wire_io.specs.declared.ends.FeedEnd.TheVariants.{Fault, Ended, Limit, NoMemory as FeedNoMemory}
use Rattle.wire_io.specs.Feeding.{Hands}
use Rattle.wire_io.proofs.FeedLemmas.{Hands-trans}
use Rattle.wire_io.specs.Requests.{end_at}
use Rattle.wire_io.specs.Session.{IsPartOrAll as IsPartOrAllOf, Waits, Ends}
use Rattle.wire_io.specs.Work.{Work}
use Rattle.wire_io.proofs.Cuts.{rest_of}
use Rattle.http_front.specs.Requests.{Request, IsBegun, prompts}
use Rattle.http_front.specs.Http.{http}
use Rattle.http_front.specs.Taking.{Stops, IsPartOrAll, Awaits, CutsPrompts, BreaksOff, EndsSessions}
use Rattle.http_front.proofs.WholeLemmas.{http_filled}

-- why the feed handed out no more, from what its call says; `Begun` is what the call says of the bytes that came
pub stopped : {T Begun : Type 0} (end : FeedEnd) (left : Option (List ℕ)) (waiting : List ℕ) (taken limit : ℕ)
    → ((◌≡◌ {A = Result T FeedEnd} (Err end) (Err Fault) ⊎ (◌≡◌ {A = Result T FeedEnd} (Err end) (Err Ended))) → Begun × (waiting ≡ []) × (taken < limit))
    → (◌≡◌ {A = Result T FeedEnd} (Err end) (Err Limit) → Begun × (waiting ≡ []) × (taken ≡ limit))
    → (◌≡◌ {A = Result T FeedEnd} (Err end) (Err Ended) → IsAtEnd left)
    → (◌≡◌ {A = Result T FeedEnd} (Err end) (Err FeedNoMemory) → Begun × (waiting ≢ []))
    → Begun × Stops end left waiting taken limit
stopped Fault left waiting taken limit below full ended memory = let h = below (inl refl) in (h.0, (h.1, h.2))
stopped Ended left waiting taken limit below full ended memory = let h = below (inr refl) in (h.0, (h.1, h.2, ended refl))
stopped Limit left waiting taken limit below full ended memory = let h = full refl in (h.0, (h.1, h.2))
stopped FeedNoMemory left waiting taken limit below full ended memory = let h = memory refl in (h.0, h.1)

-- more bytes came
pub hands_more : (a b c : Option (List ℕ)) (u v w : List ℕ) (m n k : ℕ) (given piece now : List ℕ)
    → Hands a b u v m n given → Hands b c v w n k piece → now ≡ given ++ piece → Hands a c u w m k now
hands_more a b c u v w m n k given piece now first second grows =
    subst (Hands a c u w m k) (sym grows) (Hands-trans a b c u v w m n k given piece first second)

nil_is : (l : List ℕ) → length l ≡ 0 → l ≡ []
nil_is [] e = refl
nil_is (x ∷ l) e = absurd (omega (arith, e))

-- the session ended within a request, after these bytes of it
module _ (limit first : ℕ) (left : Option (List ℕ)) (given waiting prompted : List ℕ) (taken at' : ℕ) (begun : IsBegun given) (asked : prompted ≡ prompts given)
    (counts : at' ≡ first + length given) (sum : at' + length waiting ≡ taken) where
  abbrev Breaks : SessionEnd → Type 0
  Breaks end = BreaksOff limit (IsAtEnd left) first (given ++ waiting) prompted end

  module _ (none : waiting ≡ []) where
    alone : given ++ waiting ≡ given
    alone = ap (λ w. given ++ w) none ∙ append-nil given

    awaits : Awaits (given ++ waiting) prompted
    awaits = subst (λ l. Awaits l prompted) (sym alone) (record { begun = begun; prompted = asked })

    at_now : first + length (given ++ waiting) ≡ taken
    at_now = omega (arith, ap length alone, ap length none, counts, sum)

  ended_off : (come : ℕ) → length given ≡ come → (waiting ≡ []) × (taken < limit) × IsAtEnd left → Breaks (end_at Ended first come)
  ended_off zero sized (none, lt, over) =
      let total : first + length (given ++ waiting) ≡ taken = at_now none in
      let nothing : given ++ waiting ≡ [] = alone none ∙ nil_is given sized in
      (nothing, omega (arith, total, lt), over, awaits none)
  ended_off (suc n) sized (none, lt, over) =
      let total : first + length (given ++ waiting) ≡ taken = at_now none in
      let some : given ++ waiting ≢ [] = λ e. absurd (omega (arith, sized, ap length (sym (alone none)), ap length e)) in
      (some, omega (arith, total, lt), over, refl, awaits none)

  breaks_at : (end : FeedEnd) (come : ℕ) → length given ≡ come → Stops end left waiting taken limit → Breaks (end_at end first come)
  breaks_at Fault come sized (none, lt) = awaits none
  breaks_at Ended come sized stops = ended_off come sized stops
  breaks_at Limit come sized (none, full) = (at_now none ∙ full, awaits none)
  breaks_at FeedNoMemory come sized some = record {
    come = given;
    unread = waiting;
    part_or_all = inl begun;
    rest_is = refl;
    prompted = asked;
  }

  pub breaks_off : (end : FeedEnd) (come : ℕ) (own : SessionEnd) → own ≡ end_at end first come → length given ≡ come → Stops end left waiting taken limit → Breaks own
  breaks_off end come own is sized stops = subst Breaks (sym is) (breaks_at end come sized stops)

-- a prefix of the prompts was written
pub cut_prompt : (given waiting prompt : List ℕ) (n : ℕ) → IsPartOrAll given → prompt ≡ prompts given → CutsPrompts (given ++ waiting) (take n prompt)
cut_prompt given waiting prompt n part asked = record {
  come = given;
  unread = waiting;
  part_or_all = part;
  rest_is = refl;
  prefix = (drop n prompt, sym asked ∙ sym (take-append-drop n prompt));
}

-- ---- the ends of a session of any server

module _ {State Call Answer : Type 0} (work : State → Request → Work Call Answer) (state : State) where
  begun_rest : (rest text : List ℕ) → Awaits rest text → Waits (http work) state rest [] text
  begun_rest rest text a = record { less = rest_of (http work) (http_filled work) state rest a.begun; no_calls = refl; prompted = a.prompted }

  part : (come : List ℕ) → IsPartOrAll come → IsPartOrAllOf (http work) state come
  part come (inl begun) = inl (rest_of (http work) (http_filled work) state come begun)
  part come (inr (request, is)) = inr (request, record { whole = is.all; first = is.first })

  pub ends_session : (limit : ℕ) (nothing_left : Type 0) (at : ℕ) (rest text : List ℕ) (end : SessionEnd) → BreaksOff limit nothing_left at rest text end
      → Ends (http work) limit nothing_left state at rest [] text end
  ends_session limit nothing_left at rest text Closed (none, below, over, a) = inl (none, below, over, begun_rest rest text a)
  ends_session limit nothing_left at rest text Stopped h = absurd h
  ends_session limit nothing_left at rest text (Truncated offset) (some, below, over, begins, a) = (some, below, over, begins, begun_rest rest text a)
  ends_session limit nothing_left at rest text InputLimit (full, a) = (full, begun_rest rest text a)
  ends_session limit nothing_left at rest text ReadFault a = begun_rest rest text a
  ends_session limit nothing_left at rest text WriteFault h = inr (record {
    come = h.come;
    unread = h.unread;
    part_or_all = part h.come h.part_or_all;
    rest_is = h.rest_is;
    no_calls = refl;
    prefix = h.prefix;
  })
  ends_session limit nothing_left at rest text NoMemory h = record {
    come = h.come;
    unread = h.unread;
    part_or_all = part h.come h.part_or_all;
    rest_is = h.rest_is;
    prompted = h.prompted;
    begun = inl refl;
  }

pub ends_sessions : (State Call Answer : Type 0) → EndsSessions State Call Answer
ends_sessions State Call Answer work state limit left at rest text end h = ends_session work state limit (IsAtEnd left) at rest text end h

-- ---- causes

module _ {T Taken : Type 0} (end : FeedEnd) (first come : ℕ) (own : SessionEnd) (is : own ≡ end_at end first come) where
  -- the session's end tells a fault of the feed
  pub end_cause : (before now : ℕ) → HasCause (◌≡◌ {A = Result T FeedEnd} (Err end) (Err Fault)) before now → HasCause (◌≡◌ {A = Result Taken SessionEnd} (Err own) (Err ReadFault)) before now
  end_cause before now h = record {
    later = h.later;
    rose = λ e. let same : own ≡ ReadFault = cc in h.rose (ap Err (reads end (sym is ∙ same)));
    kept = λ no. h.kept (λ e. let same : end ≡ Fault = cc in no (ap Err (is ∙ ap (λ f. end_at f first come) same)));
  }
    where
      reads : (f : FeedEnd) → end_at f first come ≡ ReadFault → f ≡ Fault
      reads Fault e = refl
      reads Limit e = absurd cc
      reads FeedNoMemory e = absurd cc
      reads Ended e = absurd (ended come e)
        where
          ended : (n : ℕ) → end_at Ended first n ≡ ReadFault → ⊥
          ended zero i = cc
          ended (suc n) i = cc

-- and it tells no fault of the sink
module _ {Taken : Type 0} (end : FeedEnd) (first come : ℕ) (own : SessionEnd) (is : own ≡ end_at end first come) where
  pub end_not_written : ◌≡◌ {A = Result Taken SessionEnd} (Err own) (Err WriteFault) → ⊥
  end_not_written e = let same : own ≡ WriteFault = cc in written end (sym is ∙ same)
    where
      written : (f : FeedEnd) → end_at f first come ≡ WriteFault → ⊥
      written Fault i = cc
      written Limit i = cc
      written FeedNoMemory i = cc
      written Ended i = ended come i
        where
          ended : (n : ℕ) → end_at Ended first n ≡ WriteFault → ⊥
          ended zero j = cc
          ended (suc n) j = cc

-- what makes a count rise, and what does not
pub kept_cause : {A : Type 0} (before now : ℕ) → (A → ⊥) → now ≡ before → HasCause A before now
kept_cause before now not same = record { later = omega (arith, same); rose = λ a. absurd (not a); kept = λ no. same }

pub cause_from : {A : Type 0} (first before now : ℕ) → before ≡ first → HasCause A before now → HasCause A first now
cause_from {A} first before now same h = subst (λ n. HasCause A n now) same h

pub same_cause : {A B : Type 0} (before now : ℕ) → (A → B) → (B → A) → HasCause A before now → HasCause B before now
same_cause before now to back h = record { later = h.later; rose = λ b. h.rose (back b); kept = λ no. h.kept (λ a. no (to a)) }
