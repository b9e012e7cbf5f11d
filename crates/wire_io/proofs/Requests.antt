-- What comes of the bytes that were taken for a request.
use Rattle.std.proofs.Common.{◌≡◌, ◌≢◌, ◌+◌, ◌<◌, ◌⊎◌, ℕ, suc, zero, List, [], ◌++◌, length, take, drop, Option, Result, Ok, Err, refl, sym, ap, ◌∙◌, subst, append_assoc, append-nil, inl, inr, arith, take-append-drop}
use Rattle.std.proofs.lemmas.List.{nil_from_length}
use Rattle.std.specs.Io.KnownBytes.{Appends, IsAtEnd}
use Rattle.std.proofs.KnownBytes.{Appends-trans}
use Rattle.wire_io.specs.declared.ends.After.{After}
use Rattle.wire_io.specs.declared.ends.SessionEnd.{SessionEnd}
use Rattle.wire_io.specs.declared.ends.SessionEnd.TheVariants.{WriteFault, NoMemory}
use Rattle.wire_io.specs.declared.ends.FeedEnd.{FeedEnd}
use Rattle.wire_io.specs.declared.ends.FeedEnd.TheVariants.{Fault, Ended, Limit, NoMemory as FeedNoMemory}
use Rattle.wire_io.specs.Feeding.{Hands}
use Rattle.wire_io.specs.Sending.{AppendsPart}
use Rattle.wire_io.specs.Protocol.{Protocol, IsRest, IsFilled}
use Rattle.wire_io.specs.Session.{IsPrefix, IsPartOrAll, Waits, Ends}
use Rattle.wire_io.specs.Requests.{Answered, Abandoned, TakesRequest, ServesRequest, end_at}
use Rattle.wire_io.proofs.Cuts.{some_byte}

module _ {State Request Call Answer : Type 0} (p : Protocol State Request Call Answer) (limit : ℕ) (state state' : State) (Logs : List (Call × Answer) → Type 0)
    (left left' : Option (List ℕ)) (waiting waiting' : List ℕ) (taken taken' at at' : ℕ) (prompted : List ℕ) where
  module _ (given : List ℕ) (hands : Hands left left' waiting waiting' taken taken' given) (counts : at' ≡ at + length given) (prompts : prompted ≡ p.prompts state given) where
    -- the request was worked in full
    pub take_answered : (text : List ℕ) (after : After) → Answered p state state' Logs given text after
        → TakesRequest p limit state state' Logs left left' waiting waiting' taken taken' at at' prompted text (Ok after)
    take_answered text after a = record {
      given = given;
      log = a.log;
      hands = hands;
      counts = counts;
      logged = a.logged;
      comes = (
        record { bytes = given; request = a.request; log = a.log; text = prompted ++ text },
        record { answer = text; spelled = a.spelled; worked = a.worked; written = ap (λ l. l ++ text) prompts },
        refl,
        refl,
        refl,
        a.next_is,
      );
    }

    -- or given up, with part of it taken or all
    pub take_abandoned : (text : List ℕ) → IsPartOrAll p state given → Abandoned p state Logs given
        → TakesRequest p limit state state' Logs left left' waiting waiting' taken taken' at at' prompted text (Err NoMemory)
    take_abandoned text come a = record {
      given = given;
      log = a.log;
      hands = hands;
      counts = counts;
      logged = a.logged;
      comes = record { come = given; unread = waiting'; part_or_all = come; rest_is = refl; prompted = prompts; begun = a.begun };
    }

    waits : IsRest p state given → Waits p state (given ++ []) [] prompted
    waits less = subst (λ l. Waits p state l [] prompted) (sym (append-nil given)) (record { less = less; no_calls = refl; prompted = prompts })

    -- the source ended, below the limit
    ended_ends : (come : ℕ) → length given ≡ come → IsRest p state given → at' < limit → IsAtEnd left' → Ends p limit (IsAtEnd left') state at (given ++ []) [] prompted (end_at Ended at come)
    ended_ends zero e less lt end = inl (append-nil given ∙ nil_from_length given e, omega (arith, counts, lt), end, waits less)
    ended_ends (suc come) e less lt end =
        let same : length (given ++ []) ≡ length given = ap length (append-nil given) in
        ((λ none. let zero_is : length (given ++ []) ≡ 0 = ap length none in absurd (omega (arith, zero_is, same, e))), omega (arith, counts, lt, same), end, refl, waits less)

    -- The feed ended within the request. The last call of the feed says what holds then; `Begun` is what it says of the bytes
    -- that it appended.
    pub take_ended : {T Begun : Type 0} → (Begun → IsRest p state given) → Logs [] → (text : List ℕ) (end : FeedEnd) (come : ℕ) (own : SessionEnd) → own ≡ end_at end at come → length given ≡ come → at' + length waiting' ≡ taken'
        → ((◌≡◌ {A = Result T FeedEnd} (Err end) (Err Fault) ⊎ (◌≡◌ {A = Result T FeedEnd} (Err end) (Err Ended))) → Begun × (waiting' ≡ []) × (taken' < limit))
        → (◌≡◌ {A = Result T FeedEnd} (Err end) (Err Limit) → Begun × (waiting' ≡ []) × (taken' ≡ limit))
        → (◌≡◌ {A = Result T FeedEnd} (Err end) (Err Ended) → IsAtEnd left')
        → (◌≡◌ {A = Result T FeedEnd} (Err end) (Err FeedNoMemory) → Begun × (waiting' ≢ []))
        → TakesRequest p limit state state' Logs left left' waiting waiting' taken taken' at at' prompted text (Err own)
    take_ended {T} {Begun} rest none text end come own is e all below full ended memory = record {
      given = given;
      log = [];
      hands = hands;
      counts = counts;
      logged = none;
      comes = subst (λ f. Ends p limit (IsAtEnd left') state at (given ++ waiting') [] prompted f) (sym is) (by_end end below full ended memory);
    }
      where
        by_end : (f : FeedEnd) → ((◌≡◌ {A = Result T FeedEnd} (Err f) (Err Fault) ⊎ (◌≡◌ {A = Result T FeedEnd} (Err f) (Err Ended))) → Begun × (waiting' ≡ []) × (taken' < limit))
            → (◌≡◌ {A = Result T FeedEnd} (Err f) (Err Limit) → Begun × (waiting' ≡ []) × (taken' ≡ limit))
            → (◌≡◌ {A = Result T FeedEnd} (Err f) (Err Ended) → IsAtEnd left')
            → (◌≡◌ {A = Result T FeedEnd} (Err f) (Err FeedNoMemory) → Begun × (waiting' ≢ []))
            → Ends p limit (IsAtEnd left') state at (given ++ waiting') [] prompted (end_at f at come)
        by_end Fault b l n m = let h = b (inl refl) in subst (λ w. Ends p limit (IsAtEnd left') state at (given ++ w) [] prompted (end_at Fault at come)) (sym h.1) (waits (rest h.0))
        by_end Ended b l n m =
            let h = b (inr refl) in
            let nothing : length waiting' ≡ 0 = ap length h.1 in
            subst (λ w. Ends p limit (IsAtEnd left') state at (given ++ w) [] prompted (end_at Ended at come)) (sym h.1) (ended_ends come e (rest h.0) (omega (arith, all, h.2, nothing)) (n refl))
        by_end Limit b l n m =
            let h = l refl in
            let nothing : length waiting' ≡ 0 = ap length h.1 in
            let same : length (given ++ []) ≡ length given = ap length (append-nil given) in
            subst (λ w. Ends p limit (IsAtEnd left') state at (given ++ w) [] prompted (end_at Limit at come)) (sym h.1) (omega (arith, all, counts, h.2, nothing, same), waits (rest h.0))
        by_end FeedNoMemory b l n m =
            let h = m refl in
            record { come = given; unread = waiting'; part_or_all = inl (rest h.0); rest_is = refl; prompted = prompts; begun = inl refl }

  -- a write of the prompts failed; what is written of them is a prefix of those of the bytes that came
  pub take_cut : (given : List ℕ) → Hands left left' waiting waiting' taken taken' given → at' ≡ at + length given → IsPartOrAll p state given → IsPrefix prompted (p.prompts state given) → Logs [] → (text : List ℕ)
      → TakesRequest p limit state state' Logs left left' waiting waiting' taken taken' at at' prompted text (Err WriteFault)
  take_cut given hands counts come prefix none text = record {
    given = given;
    log = [];
    hands = hands;
    counts = counts;
    logged = none;
    comes = inr (record { come = given; unread = waiting'; part_or_all = come; rest_is = refl; no_calls = refl; prefix = prefix });
  }

  -- a request has a byte
  pub take_progress : IsFilled p → (text : List ℕ) (after : After) → TakesRequest p limit state state' Logs left left' waiting waiting' taken taken' at at' prompted text (Ok after) → at < at'
  take_progress filled text after t =
      let x = t.comes.0 in
      let byte = some_byte p filled state x.bytes x.request t.comes.1.spelled in
      let sized : length t.given ≡ suc (length byte.1) = ap length (t.comes.2 ∙ byte.2) in
      omega (arith, t.counts, sized)

  module _ (written sent written' : Option (List ℕ)) (before : Appends written sent prompted) (text : List ℕ) where
    -- the answer was written
    pub serve_sent : (after : After) → TakesRequest p limit state state' Logs left left' waiting waiting' taken taken' at at' prompted text (Ok after) → Appends sent written' text
        → ServesRequest p limit state state' Logs left left' written written' waiting waiting' taken taken' at at' (Ok after)
    serve_sent after t appended = record {
      given = t.given;
      log = t.log;
      text = prompted ++ text;
      hands = t.hands;
      counts = t.counts;
      logged = t.logged;
      appended = Appends-trans written sent written' prompted text before appended;
      served = t.comes;
    }

    -- a prefix of it was
    pub serve_cut : (after : After) → TakesRequest p limit state state' Logs left left' waiting waiting' taken taken' at at' prompted text (Ok after) → AppendsPart sent written' text
        → ServesRequest p limit state state' Logs left left' written written' waiting waiting' taken taken' at at' (Err WriteFault)
    serve_cut after t part =
        let x = t.comes.0 in
        record {
          given = t.given;
          log = t.log;
          text = prompted ++ take part.0 text;
          hands = t.hands;
          counts = t.counts;
          logged = t.logged;
          appended = Appends-trans written sent written' prompted (take part.0 text) before part.2;
          served = inl (record {
            x = x;
            unread = waiting';
            after = after;
            exchange = t.comes.1;
            rest_is = ap (λ l. l ++ waiting') t.comes.2;
            log_is = t.comes.3;
            prefix = (
              drop part.0 text,
              sym t.comes.4 ∙ ap (λ l. prompted ++ l) (sym (take-append-drop part.0 text)) ∙ sym (append_assoc prompted (take part.0 text) (drop part.0 text)),
            );
          });
        }

    -- none of it was
    pub serve_ended : (end : SessionEnd) → TakesRequest p limit state state' Logs left left' waiting waiting' taken taken' at at' prompted text (Err end)
        → ServesRequest p limit state state' Logs left left' written sent waiting waiting' taken taken' at at' (Err end)
    serve_ended end t = record {
      given = t.given;
      log = t.log;
      text = prompted;
      hands = t.hands;
      counts = t.counts;
      logged = t.logged;
      appended = before;
      served = t.comes;
    }

-- what a protocol and a limit serve, those that are equal to them serve
pub serve_same : {State Request Call Answer : Type 0} (p q : Protocol State Request Call Answer) (limit limit' : ℕ) (state state' : State) (Logs : List (Call × Answer) → Type 0)
    (left left' written written' : Option (List ℕ)) (waiting waiting' : List ℕ) (taken taken' at at' : ℕ) (result : Result After SessionEnd) → q ≡ p → limit' ≡ limit
    → ServesRequest q limit' state state' Logs left left' written written' waiting waiting' taken taken' at at' result
    → ServesRequest p limit state state' Logs left left' written written' waiting waiting' taken taken' at at' result
serve_same p q limit limit' state state' Logs left left' written written' waiting waiting' taken taken' at at' result same equal s =
    subst (λ r. ServesRequest r limit state state' Logs left left' written written' waiting waiting' taken taken' at at' result) same
    (subst (λ n. ServesRequest q n state state' Logs left left' written written' waiting waiting' taken taken' at at' result) equal s)
