-- Bytes of a request that came from a feed, and what was written for them.
use Rattle.std.proofs.Common.{◌≡◌, ◌≢◌, ◌+◌, ◌<◌, ◌≤◌, ◌⊎◌, ℕ, zero, suc, List, [], ◌∷◌, ◌++◌, length, take, drop, Option, Some, None, is_some, Result, Ok, Err, refl, sym, ap, ◌∙◌, subst, append_assoc, append-nil, inl, inr, arith, length-append, take-append-drop}
use Rattle.std.specs.Io.KnownBytes.{Appends, IsAtEnd}
use Rattle.std.proofs.KnownBytes.{Appends-trans, Appends-nil}
use Rattle.quota_units.specs.Causes.{HasCause}
use Rattle.wire_io.specs.declared.ends.SessionEnd.{SessionEnd}
use Rattle.wire_io.specs.declared.ends.SessionEnd.TheVariants.{ReadFault, WriteFault, NoMemory}
use Rattle.wire_io.specs.declared.ends.FeedEnd.{FeedEnd}
use Rattle.wire_io.specs.declared.ends.FeedEnd.TheVariants.{Fault, Ended, Limit, NoMemory as FeedNoMemory}
use Rattle.wire_io.specs.Feeding.{Hands}
use Rattle.wire_io.specs.Sending.{AppendsPart}
use Rattle.wire_io.specs.Protocol.{Protocol, Spells, IsRest, IsFilled}
use Rattle.wire_io.specs.Session.{IsPartOrAll, Ends}
use Rattle.wire_io.specs.Requests.{end_at}
use Rattle.wire_io.proofs.FeedLemmas.{Hands-nil, Hands-trans}
use Rattle.wire_io.proofs.Cuts.{rest_of}
use Rattle.wire_io.proofs.Requests.{take_ended}
use Rattle.front_core.specs.Taking.{Came, Moves, Takes, TakesRest}

module _ {State Request Call Answer : Type 0} (p : Protocol State Request Call Answer) (filled : IsFilled p) (state : State) (come written : List ℕ) (c : Came p state come written) where
  -- what came so far is less than a request
  pub less : p.whole state come ≡ None → IsRest p state come
  less none = rest_of p filled state come each
    where
      each : (prefix more : List ℕ) → come ≡ prefix ++ more → p.whole state prefix ≡ None
      each prefix [] e = ap (p.whole state) (sym (append-nil prefix) ∙ sym e) ∙ none
      each prefix (b ∷ more) e = c.early prefix b more e

  -- or it is the request
  pub spells : (request : Request) → p.whole state come ≡ Some request → Spells p state come request
  spells request is = record { whole = is; first = c.early }

  pub part_or_all : IsPartOrAll p state come
  part_or_all = by (p.whole state come) refl
    where
      by : (o : Option Request) → p.whole state come ≡ o → IsPartOrAll p state come
      by None e = inl (less e)
      by (Some request) e = inr (request, spells request e)

-- nothing came, and nothing was written
moves_none : (left written : Option (List ℕ)) (waiting : List ℕ) (taken at : ℕ) → Moves left left written written waiting waiting taken taken at at [] []
moves_none left written waiting taken at = record { hands = Hands-nil left waiting taken; counts = omega arith; appended = Appends-nil written }

-- more bytes came
pub moves_in : (left middle left' written between : Option (List ℕ)) (waiting held waiting' : List ℕ) (taken count taken' first at at' : ℕ) (come said piece now : List ℕ)
    → Moves left middle written between waiting held taken count first at come said → Hands middle left' held waiting' count taken' piece → at' ≡ at + length piece → now ≡ come ++ piece
    → Moves left left' written between waiting waiting' taken taken' first at' now said
moves_in left middle left' written between waiting held waiting' taken count taken' first at at' come said piece now m hands counts grows =
    let sized : length now ≡ length come + length piece = ap length grows ∙ length-append come piece in
    record {
      hands = subst (Hands left left' waiting waiting' taken taken') (sym grows) (Hands-trans left middle left' waiting held waiting' taken count taken' come piece m.hands hands);
      counts = omega (arith, m.counts, counts, sized);
      appended = m.appended;
    }

-- more was written
pub moves_out : (left middle written between written' : Option (List ℕ)) (waiting held : List ℕ) (taken count first at : ℕ) (come said more : List ℕ)
    → Moves left middle written between waiting held taken count first at come said → Appends between written' more
    → Moves left middle written written' waiting held taken count first at come (said ++ more)
moves_out left middle written between written' waiting held taken count first at come said more m appended =
    record { hands = m.hands; counts = m.counts; appended = Appends-trans written between written' said more m.appended appended }

module _ {State Request Call Answer Taken : Type 0} (p : Protocol State Request Call Answer) (filled : IsFilled p) (state : State) (limit : ℕ) (request_of : Taken → Request)
    (left left' written written' : Option (List ℕ)) (waiting waiting' : List ℕ) (taken taken' first at' : ℕ) (given prompted : List ℕ)
    (m : Moves left left' written written' waiting waiting' taken taken' first at' given prompted) where
  -- all of a request came
  pub takes_whole : (own : Taken) → Came p state given prompted → p.whole state given ≡ Some (request_of own)
      → Takes p state limit request_of left left' written written' waiting waiting' taken taken' first at' (Ok own)
  takes_whole own r is = record { given = given; prompted = prompted; moves = m; comes = (spells p filled state given prompted r (request_of own) is, r.asked) }

  -- memory ran out, after these first bytes of it came and their prompts were written
  pub takes_abandoned : (come piece : List ℕ) → given ≡ come ++ piece → Came p state come prompted
      → Takes p state limit request_of left left' written written' waiting waiting' taken taken' first at' (Err NoMemory)
  takes_abandoned come piece parts r = record {
    given = given;
    prompted = prompted;
    moves = m;
    comes = record {
      come = come;
      unread = piece ++ waiting';
      part_or_all = part_or_all p filled state come prompted r;
      rest_is = ap (λ l. l ++ waiting') parts ∙ append_assoc come piece waiting';
      prompted = r.asked;
      begun = inl refl;
    };
  }

  -- the last prompt was not written whole
  pub takes_cut : (rest : List ℕ) → Came p state given (prompted ++ rest)
      → Takes p state limit request_of left left' written written' waiting waiting' taken taken' first at' (Err WriteFault)
  takes_cut rest r = record {
    given = given;
    prompted = prompted;
    moves = m;
    comes = inr (record {
      come = given;
      unread = waiting';
      part_or_all = part_or_all p filled state given (prompted ++ rest) r;
      rest_is = refl;
      no_calls = refl;
      prefix = (rest, sym r.asked);
    });
  }

  -- The feed ended within it. The last call of the feed says what holds then; `Begun` is what it says of the bytes that it
  -- appended.
  pub takes_ended : {T Begun : Type 0} → (Begun → Came p state given prompted) → (Begun → p.whole state given ≡ None) → (end : FeedEnd) (come : ℕ) (own : SessionEnd)
      → own ≡ end_at end first come → length given ≡ come → at' + length waiting' ≡ taken'
      → ((◌≡◌ {A = Result T FeedEnd} (Err end) (Err Fault) ⊎ (◌≡◌ {A = Result T FeedEnd} (Err end) (Err Ended))) → Begun × (waiting' ≡ []) × (taken' < limit))
      → (◌≡◌ {A = Result T FeedEnd} (Err end) (Err Limit) → Begun × (waiting' ≡ []) × (taken' ≡ limit))
      → (◌≡◌ {A = Result T FeedEnd} (Err end) (Err Ended) → IsAtEnd left')
      → (◌≡◌ {A = Result T FeedEnd} (Err end) (Err FeedNoMemory) → Begun × (waiting' ≢ []))
      → Takes p state limit request_of left left' written written' waiting waiting' taken taken' first at' (Err own)
  takes_ended {T} {Begun} came none end come own is sized sum below full ended memory =
      let r = came (by_end end below full ended memory) in
      let t = take_ended p limit state state (λ log. log ≡ []) left left' waiting waiting' taken taken' first at' prompted given m.hands m.counts r.asked {T = T} {Begun = Begun}
      (λ begun. less p filled state given prompted r (none begun)) refl [] end come own is sized sum below full ended memory in
      record {
        given = t.given;
        prompted = prompted;
        moves = record { hands = t.hands; counts = t.counts; appended = m.appended };
        comes = subst (λ log. Ends p limit (IsAtEnd left') state first (t.given ++ waiting') log prompted own) t.logged t.comes;
      }
    where
      by_end : (f : FeedEnd) → ((◌≡◌ {A = Result T FeedEnd} (Err f) (Err Fault) ⊎ (◌≡◌ {A = Result T FeedEnd} (Err f) (Err Ended))) → Begun × (waiting' ≡ []) × (taken' < limit))
          → (◌≡◌ {A = Result T FeedEnd} (Err f) (Err Limit) → Begun × (waiting' ≡ []) × (taken' ≡ limit))
          → (◌≡◌ {A = Result T FeedEnd} (Err f) (Err Ended) → IsAtEnd left')
          → (◌≡◌ {A = Result T FeedEnd} (Err f) (Err FeedNoMemory) → Begun × (waiting' ≢ []))
          → Begun
      by_end Fault b l n m = (b (inl refl)).0
      by_end Ended b l n m = (b (inr refl)).0
      by_end Limit b l n m = (l refl).0
      by_end FeedNoMemory b l n m = (m refl).0

-- the session's end tells a fault of the feed
module _ {T Taken : Type 0} (end : FeedEnd) (first come : ℕ) (own : SessionEnd) (is : own ≡ end_at end first come) where
  pub end_cause : (before now : ℕ) → HasCause (◌≡◌ {A = Result T FeedEnd} (Err end) (Err Fault)) before now → HasCause (◌≡◌ {A = Result Taken SessionEnd} (Err own) (Err ReadFault)) before now
  end_cause before now h = record {
    later = h.later;
    rose = λ e. let same : own ≡ ReadFault = cc in h.rose (ap Err (reads end (sym is ∙ same)));
    kept = λ no. h.kept (λ e. let same : end ≡ Fault = cc in no (ap Err (is ∙ ap (λ f. end_at f first come) same)));
  }
    where
      reads : (f : FeedEnd) → end_at f first come ≡ ReadFault → f ≡ Fault
      reads Fault e = refl
      reads Limit e = absurd cc
      reads FeedNoMemory e = absurd cc
      reads Ended e = absurd (ended come e)
        where
          ended : (n : ℕ) → end_at Ended first n ≡ ReadFault → ⊥
          ended zero i = cc
          ended (suc n) i = cc

-- and it tells no fault of the sink
module _ {Taken : Type 0} (end : FeedEnd) (first come : ℕ) (own : SessionEnd) (is : own ≡ end_at end first come) where
  pub end_not_written : ◌≡◌ {A = Result Taken SessionEnd} (Err own) (Err WriteFault) → ⊥
  end_not_written e = let same : own ≡ WriteFault = cc in written end (sym is ∙ same)
    where
      written : (f : FeedEnd) → end_at f first come ≡ WriteFault → ⊥
      written Fault i = cc
      written Limit i = cc
      written FeedNoMemory i = cc
      written Ended i = ended come i
        where
          ended : (n : ℕ) → end_at Ended first n ≡ WriteFault → ⊥
          ended zero j = cc
          ended (suc n) j = cc

-- what makes a count rise, and what does not
pub kept_cause : {A : Type 0} (before now : ℕ) → (A → ⊥) → now ≡ before → HasCause A before now
kept_cause before now not same = record { later = omega (arith, same); rose = λ a. absurd (not a); kept = λ no. same }

pub cause_from : {A : Type 0} (first before now : ℕ) → before ≡ first → HasCause A before now → HasCause A first now
cause_from {A} first before now same h = subst (λ n. HasCause A n now) same h

pub same_cause : {A B : Type 0} (before now : ℕ) → (A → B) → (B → A) → HasCause A before now → HasCause B before now
same_cause before now to back h = record { later = h.later; rose = λ b. h.rose (back b); kept = λ no. h.kept (λ a. no (to a)) }

module _ {State Request Call Answer Taken : Type 0} (p : Protocol State Request Call Answer) (state : State) (request_of : Taken → Request) (limit limit' : ℕ) where
  -- the same limit
  pub takes_within : (left left' written written' : Option (List ℕ)) (waiting waiting' : List ℕ) (taken taken' first at' : ℕ) (result : Result Taken SessionEnd)
      → limit' ≡ limit → Takes p state limit' request_of left left' written written' waiting waiting' taken taken' first at' result
      → Takes p state limit request_of left left' written written' waiting waiting' taken taken' first at' result
  takes_within left left' written written' waiting waiting' taken taken' first at' result same t =
      subst (λ n. Takes p state n request_of left left' written written' waiting waiting' taken taken' first at' result) same t

  -- the rest of a request, from the offset where it begins
  pub takes_from : (middle left' between written' : Option (List ℕ)) (held waiting' : List ℕ) (count taken' own first at at' : ℕ) (come said : List ℕ)
      (result : Result Taken SessionEnd) → limit' ≡ limit → own ≡ first → TakesRest p state limit' request_of middle left' between written' held waiting' count taken' own at at' come said result
      → TakesRest p state limit request_of middle left' between written' held waiting' count taken' first at at' come said result
  takes_from middle left' between written' held waiting' count taken' own first at at' come said result same begins rest =
      subst (λ n. TakesRest p state limit request_of middle left' between written' held waiting' count taken' n at at' come said result) begins
      (subst (λ n. TakesRest p state n request_of middle left' between written' held waiting' count taken' own at at' come said result) same rest)

-- no bytes came yet, and the text is empty
pub moves_begun : (left written : Option (List ℕ)) (waiting : List ℕ) (taken at : ℕ) (text : List ℕ) → text ≡ [] → Moves left left written written waiting waiting taken taken at at text []
moves_begun left written waiting taken at text none = subst (λ t. Moves left left written written waiting waiting taken taken at at t []) (sym none) (moves_none left written waiting taken at)

-- a prompt that was not written whole
pub cut_prompt : (said ready : List ℕ) (n : ℕ) → (said ++ take n ready) ++ drop n ready ≡ said ++ ready
cut_prompt said ready n = append_assoc said (take n ready) (drop n ready) ∙ ap (λ l. said ++ l) (take-append-drop n ready)
