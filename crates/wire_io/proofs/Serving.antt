-- A session, request by request.
use Rattle.std.proofs.Common.{◌≡◌, ◌+◌, ◌≤◌, ◌⊎◌, ℕ, List, [], ◌∷◌, ◌++◌, length, take, drop, Option, Some, None, IfSome, Ok, Err, refl, sym, ap, ◌∙◌, subst, append_assoc, append-nil, inl, inr, arith, length-append, take-append-drop}
use Rattle.std.specs.Io.KnownBytes.{Appends, IsAtEnd}
use Rattle.std.proofs.KnownBytes.{Appends-trans, Consumes-nil}
use Rattle.wire_io.specs.declared.ends.After.{After}
use Rattle.wire_io.specs.declared.ends.After.TheVariants.{Open, Closing, Stopping}
use Rattle.wire_io.specs.declared.ends.SessionEnd.{SessionEnd}
use Rattle.wire_io.specs.declared.ends.SessionEnd.TheVariants.{Closed, Stopped, ReadFault, WriteFault}
use Rattle.wire_io.specs.Feeding.{Hands}
use Rattle.wire_io.specs.Sending.{AppendsPart}
use Rattle.wire_io.specs.Protocol.{Protocol, IsFilled}
use Rattle.wire_io.specs.Session.{Exchange, bytes_of, log_of, text_of, IsExchange, Exchanges, Ends, Finishes, EndsOneWay, EndsAsDecided}
use Rattle.wire_io.specs.Requests.{ServesRequest}
use Rattle.wire_io.specs.Serving.{IsServed, IsSession}
use Rattle.wire_io.proofs.FeedLemmas.{Hands-trans}
use Rattle.wire_io.proofs.Deciding.{end_decided}
use Rattle.wire_io.proofs.Endings.{has_end}

module _ {Request Call Answer : Type 0} where
  bytes_push : (xs : List (Exchange Request Call Answer)) (x : Exchange Request Call Answer) → bytes_of (xs ++ x ∷ []) ≡ bytes_of xs ++ x.bytes
  bytes_push [] x = append-nil x.bytes
  bytes_push (y ∷ xs) x = ap (λ l. y.bytes ++ l) (bytes_push xs x) ∙ sym (append_assoc y.bytes (bytes_of xs) x.bytes)

  log_push : (xs : List (Exchange Request Call Answer)) (x : Exchange Request Call Answer) → log_of (xs ++ x ∷ []) ≡ log_of xs ++ x.log
  log_push [] x = append-nil x.log
  log_push (y ∷ xs) x = ap (λ l. y.log ++ l) (log_push xs x) ∙ sym (append_assoc y.log (log_of xs) x.log)

  text_push : (xs : List (Exchange Request Call Answer)) (x : Exchange Request Call Answer) → text_of (xs ++ x ∷ []) ≡ text_of xs ++ x.text
  text_push [] x = append-nil x.text
  text_push (y ∷ xs) x = ap (λ l. y.text ++ l) (text_push xs x) ∙ sym (append_assoc y.text (text_of xs) x.text)

module _ {State Request Call Answer : Type 0} (p : Protocol State Request Call Answer) where
  exchanges_push : (xs : List (Exchange Request Call Answer)) (x : Exchange Request Call Answer) (start state next : State) → Exchanges p start xs state → IsExchange p state x Open → next ≡ p.next state x.request
      → Exchanges p start (xs ++ x ∷ []) next
  exchanges_push [] x start state next outlived is then = subst (λ s. IsExchange p s x Open × (next ≡ p.next s x.request)) outlived (is, then)
  exchanges_push (y ∷ xs) x start state next outlived is then = (outlived.0, exchanges_push xs x (p.next start y.request) state next outlived.1 is then)

  -- what a session did so far: whole requests, answered, and the session went on after each
  pub record Reached (start state : State) (Logs : List (Call × Answer) → Type 0) (left left' written written' : Option (List ℕ)) (waiting' : List ℕ) (taken' at' : ℕ) : Type 0 where
    pub exchanges : List (Exchange Request Call Answer)
    pub outlived : Exchanges p start exchanges state
    pub hands : Hands left left' [] waiting' 0 taken' (bytes_of exchanges)
    pub counts : at' ≡ length (bytes_of exchanges)
    pub logged : Logs (log_of exchanges)
    pub appended : Appends written written' (text_of exchanges)

  module _ (limit : ℕ) (start state state' : State) (First Second Both : List (Call × Answer) → Type 0) (left mid left' written sent written' : Option (List ℕ)) (waiting waiting' : List ℕ) (taken taken' at at' : ℕ)
      (joins : (log more : List (Call × Answer)) → First log → Second more → Both (log ++ more)) (r : Reached start state First left mid written sent waiting taken at) where
    -- one request more, after which the session goes on
    reached_more : ServesRequest p limit state state' Second mid left' sent written' waiting waiting' taken taken' at at' (Ok Open) → Reached start state' Both left left' written written' waiting' taken' at'
    reached_more s =
        let x = s.served.0 in
        let bytes : bytes_of r.exchanges ++ s.given ≡ bytes_of (r.exchanges ++ x ∷ []) = ap (λ l. bytes_of r.exchanges ++ l) s.served.2 ∙ sym (bytes_push r.exchanges x) in
        let log : log_of r.exchanges ++ s.log ≡ log_of (r.exchanges ++ x ∷ []) = ap (λ l. log_of r.exchanges ++ l) s.served.3 ∙ sym (log_push r.exchanges x) in
        let text : text_of r.exchanges ++ s.text ≡ text_of (r.exchanges ++ x ∷ []) = ap (λ l. text_of r.exchanges ++ l) s.served.4 ∙ sym (text_push r.exchanges x) in
        record {
          exchanges = r.exchanges ++ x ∷ [];
          outlived = exchanges_push r.exchanges x start state state' r.outlived s.served.1 s.served.5;
          hands = subst (Hands left left' [] waiting' 0 taken') bytes (Hands-trans left mid left' [] waiting waiting' 0 taken taken' (bytes_of r.exchanges) s.given r.hands s.hands);
          counts = s.counts ∙ ap (λ n. n + length s.given) r.counts ∙ sym (length-append (bytes_of r.exchanges) s.given) ∙ ap length bytes;
          logged = subst Both log (joins (log_of r.exchanges) s.log r.logged s.logged);
          appended = subst (Appends written written') text (Appends-trans written sent written' (text_of r.exchanges) s.text r.appended s.appended);
        }

    -- the session ends in what follows
    served_by : (end : SessionEnd) (given : List ℕ) (log : List (Call × Answer)) (text : List ℕ)
        → Hands mid left' waiting waiting' taken taken' given → Second log → Appends sent written' text → taken' ≤ limit
        → Ends p limit (IsAtEnd left') state at (given ++ waiting') log text end
        → IsServed p start limit Both left left' written written' end
    served_by end given log text hands made appended within ends =
        let all = Hands-trans left mid left' [] waiting waiting' 0 taken taken' (bytes_of r.exchanges) given r.hands hands in
        let parts : all.got ≡ bytes_of r.exchanges ++ (given ++ waiting') = all.joined ∙ append_assoc (bytes_of r.exchanges) given waiting' in
        record {
          taken = all.got;
          log = log_of r.exchanges ++ log;
          text = text_of r.exchanges ++ text;
          consumed = all.consumed;
          appended = Appends-trans written sent written' (text_of r.exchanges) text r.appended appended;
          logged = joins (log_of r.exchanges) log r.logged made;
          worked = record {
            exchanges = r.exchanges;
            state = state;
            rest = given ++ waiting';
            last_log = log;
            last_text = text;
            outlived = r.outlived;
            taken_is = parts;
            within = omega (arith, all.counted, within);
            log_is = refl;
            written_is = refl;
            ends = subst (λ n. Ends p limit (IsAtEnd left') state n (given ++ waiting') log text end) r.counts ends;
          };
        }

    pub reached_ends : (end : SessionEnd) → ServesRequest p limit state state' Second mid left' sent written' waiting waiting' taken taken' at at' (Err end)
        → taken' ≤ limit → IsServed p start limit Both left left' written written' end
    reached_ends end s within = served_by end s.given s.log s.text s.hands s.logged s.appended within s.served

    finishes : (after : After) (s : ServesRequest p limit state state' Second mid left' sent written' waiting waiting' taken taken' at at' (Ok after)) → Finishes p state (s.given ++ waiting') s.log s.text after
    finishes after s = record { x = s.served.0; unread = waiting'; exchange = s.served.1; rest_is = ap (λ l. l ++ waiting') s.served.2; log_is = s.served.3; text_is = s.served.4 }

    reached_close : ServesRequest p limit state state' Second mid left' sent written' waiting waiting' taken taken' at at' (Ok Closing)
        → taken' ≤ limit → IsServed p start limit Both left left' written written' Closed
    reached_close s within = served_by Closed s.given s.log s.text s.hands s.logged s.appended within (inr (finishes Closing s))

    reached_stop : ServesRequest p limit state state' Second mid left' sent written' waiting waiting' taken taken' at at' (Ok Stopping)
        → taken' ≤ limit → IsServed p start limit Both left left' written written' Stopped
    reached_stop s within = served_by Stopped s.given s.log s.text s.hands s.logged s.appended within (finishes Stopping s)

    -- the same, by what the session does after the request
    module _ (after : After) (s : ServesRequest p limit state state' Second mid left' sent written' waiting waiting' taken taken' at at' (Ok after)) where
      as_after : (word : After) → after ≡ word → ServesRequest p limit state state' Second mid left' sent written' waiting waiting' taken taken' at at' (Ok word)
      as_after word is = subst (λ (a : After). ServesRequest p limit state state' Second mid left' sent written' waiting waiting' taken taken' at at' (Ok a)) is s

      pub goes_on : after ≡ Open → Reached start state' Both left left' written written' waiting' taken' at'
      goes_on is = reached_more (as_after Open is)

      pub closes : after ≡ Closing → taken' ≤ limit → IsServed p start limit Both left left' written written' Closed
      closes is within = reached_close (as_after Closing is) within

      pub stops : after ≡ Stopping → taken' ≤ limit → IsServed p start limit Both left left' written written' Stopped
      stops is within = reached_stop (as_after Stopping is) within

  module _ (greeting : List ℕ) (start : State) (limit : ℕ) (Logs : List (Call × Answer) → Type 0) where
    -- the greeting, and then the rest
    pub greeted : (left left' written greeted written' : Option (List ℕ)) (end : SessionEnd) → Appends written greeted greeting
        → IsServed p start limit Logs left left' greeted written' end → IsSession p greeting start limit Logs left left' written written' end
    greeted left left' written met written' end hello s = record {
      taken = s.taken;
      log = s.log;
      text = greeting ++ s.text;
      consumed = s.consumed;
      appended = Appends-trans written met written' greeting s.text hello s.appended;
      logged = s.logged;
      session = inl (record {
        exchanges = s.worked.exchanges;
        state = s.worked.state;
        rest = s.worked.rest;
        last_log = s.worked.last_log;
        last_text = s.worked.last_text;
        outlived = s.worked.outlived;
        taken_is = s.worked.taken_is;
        within = s.worked.within;
        log_is = s.worked.log_is;
        written_is = ap (λ l. greeting ++ l) s.worked.written_is;
        ends = s.worked.ends;
      });
    }

    -- or a prefix of it alone
    pub not_greeted : (left written written' : Option (List ℕ)) → Logs [] → AppendsPart written written' greeting → IsSession p greeting start limit Logs left left written written' WriteFault
    not_greeted left written written' made part = record {
      taken = [];
      log = [];
      text = take part.0 greeting;
      consumed = Consumes-nil left;
      appended = part.2;
      logged = made;
      session = inr (refl, refl, refl, (drop part.0 greeting, sym (take-append-drop part.0 greeting)));
    }

    -- where nothing failed, the input decides the end
    pub decided_by : IsFilled p → EndsOneWay p → (left left' written written' : Option (List ℕ)) (end : SessionEnd) (R W : Type 0) → IsSession p greeting start limit Logs left left' written written' end
        → (end ≡ ReadFault → R) → (end ≡ WriteFault → W)
        → IfSome left (λ input. EndsAsDecided p start limit input (R ⊎ W) end)
    decided_by filled one_way None left' written written' end R W s read write = tt
    decided_by filled one_way (Some input) None written written' end R W s read write = absurd s.consumed
    decided_by filled one_way (Some input) (Some rest) written written' end R W s read write = record {
      decides = has_end p limit filled one_way start input;
      ends = λ due ends quiet.
          end_decided p limit filled greeting start input s.taken rest s.log s.text end due s.consumed s.session ends ((λ e. quiet (inl (read e))), (λ e. quiet (inr (write e))));
    }

    -- the same session, of a source that is known by another name
    pub session_of : (left given left' kept written written' : Option (List ℕ)) (end : SessionEnd) → given ≡ left → kept ≡ left'
        → IsSession p greeting start limit Logs given left' written written' end → IsSession p greeting start limit Logs left kept written written' end
    session_of left given left' kept written written' end e f s =
        subst (λ l. IsSession p greeting start limit Logs left l written written' end) (sym f) (subst (λ l. IsSession p greeting start limit Logs l left' written written' end) e s)

  -- all that a session does, served by a feed of the source
  pub session_done : (greeting : List ℕ) (start : State) (limit own : ℕ) (Logs : List (Call × Answer) → Type 0) (left given left' kept written met written' : Option (List ℕ)) (end : SessionEnd)
      → given ≡ left → kept ≡ left' → own ≡ limit → Appends written met greeting → IsServed p start own Logs given left' met written' end → IsSession p greeting start limit Logs left kept written written' end
  session_done greeting start limit own Logs left given left' kept written met written' end e f same hello s =
      session_of greeting start limit Logs left given left' kept written written' end e f
      (greeted greeting start limit Logs given left' written met written' end hello (subst (λ n. IsServed p start n Logs given left' met written' end) same s))

  -- a session whose calls meet one relation is one whose calls meet each relation that follows
  pub session_with : (greeting : List ℕ) (start : State) (limit : ℕ)
      (Logs Logs' : List (Call × Answer) → Type 0) (left left' written written' : Option (List ℕ))
      (end : SessionEnd) → ((log : List (Call × Answer)) → Logs log → Logs' log)
      → IsSession p greeting start limit Logs left left' written written' end
      → IsSession p greeting start limit Logs' left left' written written' end
  session_with greeting start limit Logs Logs' left left' written written' end follows s = record {
    taken = s.taken;
    log = s.log;
    text = s.text;
    consumed = s.consumed;
    appended = s.appended;
    logged = follows s.log s.logged;
    session = s.session;
  }
