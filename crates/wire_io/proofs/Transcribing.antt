-- The session that was held is the one that its input gives.
use Rattle.std.proofs.Common.{◌≡◌, ◌≢◌, ℕ, suc, zero, ◌+◌, ◌-◌, ◌<◌, ◌≤◌, List, [], ◌∷◌, ◌++◌, length, take, min, Option, Some, None, refl, sym, ap, ◌∙◌, inl, inr, subst, append_assoc, append-nil, arith, length-append, length-take}
use Rattle.std.proofs.lemmas.List.{nil_from_length}
use Rattle.std.proofs.Math.Seq.{take-nil}
use Rattle.wire_io.specs.declared.ends.After.{After}
use Rattle.wire_io.specs.declared.ends.After.TheVariants.{Open, Closing, Stopping}
use Rattle.wire_io.specs.declared.ends.SessionEnd.{SessionEnd}
use Rattle.wire_io.specs.declared.ends.SessionEnd.TheVariants.{Closed, Stopped, Truncated, InputLimit, ReadFault, WriteFault, NoMemory}
use Rattle.wire_io.specs.Work.{Work, ask, say, Does}
use Rattle.wire_io.specs.Protocol.{Protocol, Spells, IsRest, IsFilled}
use Rattle.wire_io.specs.Session.{Exchange, bytes_of, log_of, text_of, Exchanges, Waits, Finishes, Ends, Session, IsQuiet}
use Rattle.wire_io.specs.Transcript.{Transcript, Answers, IsAnswered, Done, perform, Found, or_waits, going_on, end_of_rest, first_request, transcript_from, transcript}
use Rattle.wire_io.proofs.Cuts.{same_prefix, no_prefix, some_byte, find_is, IsFind}
use Rattle.wire_io.proofs.Deciding.{end_none, end_short, end_full}

-- the first elements of a list and more
take_over : (n : ℕ) (a b : List ℕ) → length a ≤ n → take n (a ++ b) ≡ a ++ take (n - length a) b
take_over n [] b le = let same : n ≡ n - 0 = omega arith in ap (λ k. take k b) same
take_over zero (x ∷ a) b le = absurd (omega (arith, le))
take_over (suc n) (x ∷ a) b le =
    let fewer : n - length a ≡ suc n - suc (length a) = omega arith in
    ap (λ l. x ∷ l) (take_over n a b (omega (arith, le)) ∙ ap (λ k. a ++ take k b) fewer)

module _ {World Call Answer : Type 0} (by : Answers World Call Answer) where
  pub perform_is : (work : Work Call Answer) (world last : World) (log : List (Call × Answer)) (text : List ℕ) (after : After) → Does work log text after → IsAnswered by world log last
      → perform by world work ≡ record { text = text; after = after; world = last }
  perform_is (say t a) world last [] text after did answered = done_is t text a after world last did.0 did.1 answered
    where
      done_is : (t text : List ℕ) (a after : After) (world last : World) → text ≡ t → after ≡ a → last ≡ world → ◌≡◌ {A = Done World} (record { text = t; after = a; world = world }) (record { text = text; after = after; world = last })
      done_is t text a after world last i j k = cc
  perform_is (say t a) world last (entry ∷ log) text after did answered = absurd did
  perform_is (ask call next) world last [] text after did answered = absurd did
  perform_is (ask call next) world last (entry ∷ log) text after did answered =
      let called : entry.0 ≡ call = did.0 in
      let told : entry.1 ≡ by.answer world call = answered.0 ∙ ap (λ c. by.answer world c) called in
      let rest : IsAnswered by (by.after world call) log last = subst (λ c. IsAnswered by (by.after world c) log last) called answered.1 in
      let done : Does (next (by.answer world call)) log text after = subst (λ a. Does (next a) log text after) told did.1 in
      perform_is (next (by.answer world call)) (by.after world call) last log text after done rest

  pub answered_split : (world last : World) (a b : List (Call × Answer)) → IsAnswered by world (a ++ b) last → (mid : World) × IsAnswered by world a mid × IsAnswered by mid b last
  answered_split world last [] b is = (world, refl, is)
  answered_split world last (entry ∷ a) b is = let more = answered_split (by.after world entry.0) last a b is.1 in (more.0, (is.0, more.1), more.2)

module _ {State Request Call Answer World : Type 0} (p : Protocol State Request Call Answer) (by : Answers World Call Answer) (limit : ℕ) where
  found_record : (own own' unread behind' : List ℕ) (q q' : Request) → own' ≡ own → q' ≡ q → behind' ≡ unread
      → ◌≡◌ {A = Found Request} (record { own = own'; request = q'; unread = behind' }) (record { own = own; request = q; unread = unread })
  found_record own own' unread behind' q q' i j k = cc

  -- a spelling at the start is what is found first
  found_first : (state : State) (text own unread : List ℕ) (q : Request) → Spells p state own q → text ≡ own ++ unread
      → first_request p state [] text ≡ Some (record { own = own; request = q; unread = unread })
  found_first state text own unread q spelled e = go (first_request p state [] text) (find_is p state text)
    where
      go : (o : Option (Found Request)) → IsFind p state text o → o ≡ Some (record { own = own; request = q; unread = unread })
      go None is = let gone : p.whole state own ≡ None = is own unread e in let here : p.whole state own ≡ Some q = spelled.whole in absurd cc
      go (Some f) is =
          let same = same_prefix p state own f.own unread f.unread q f.request spelled is.0 (sym e ∙ is.1) in
          ap Some (found_record own f.own unread f.unread q f.request same.0 same.1 same.2)

  -- in less than a request none is found
  none_first : (state : State) (rest : List ℕ) → IsRest p state rest → first_request p state [] rest ≡ None
  none_first state rest less = go (first_request p state [] rest) (find_is p state rest)
    where
      go : (o : Option (Found Request)) → IsFind p state rest o → o ≡ None
      go None is = refl
      go (Some f) is = absurd (no_prefix p state rest f.own f.unread f.request less is.0 is.1)

  abbrev after_request : (rounds : ℕ) → State → (at : ℕ) → List ℕ → List ℕ → Request → Done World → Transcript World
  after_request rounds state at own unread q done =
      going_on done.after (p.prompts state own ++ done.text) done.world (transcript_from p by limit rounds (p.next state q) done.world (at + length own) unread)

  -- the transcript goes by the request at the start
  goes_by : (rounds : ℕ) (state : State) (world last : World) (at : ℕ) (text own unread : List ℕ) (q : Request) (log : List (Call × Answer)) (answer : List ℕ) (after : After)
      → Spells p state own q → text ≡ own ++ unread → Does (p.work state q) log answer after → IsAnswered by world log last
      → transcript_from p by limit (suc rounds) state world at text ≡ after_request rounds state at own unread q (record { text = answer; after = after; world = last })
  goes_by rounds state world last at text own unread q log answer after spelled e did answered =
      ap (λ o. or_waits o (record { text = p.prompts state text; end = end_of_rest limit at text; world = world }) (λ f. after_request rounds state at f.own f.unread f.request (perform by world (p.work state f.request)))) (found_first state text own unread q spelled e)
      ∙ ap (after_request rounds state at own unread q) (perform_is by (p.work state q) world last log answer after did answered)

  waits_there : (rounds : ℕ) (state : State) (world : World) (at : ℕ) (rest : List ℕ) → IsRest p state rest
      → transcript_from p by limit (suc rounds) state world at rest ≡ record { text = p.prompts state rest; end = end_of_rest limit at rest; world = world }
  waits_there rounds state world at rest less =
      ap (λ o. or_waits o (record { text = p.prompts state rest; end = end_of_rest limit at rest; world = world }) (λ f. after_request rounds state at f.own f.unread f.request (perform by world (p.work state f.request)))) (none_first state rest less)

  transcript_eq : (a b : List ℕ) (end due : SessionEnd) (w v : World) → a ≡ b → end ≡ due → w ≡ v → ◌≡◌ {A = Transcript World} (record { text = a; end = end; world = w }) (record { text = b; end = due; world = v })
  transcript_eq a b end due w v i j k = cc

  finishes_there : (rounds : ℕ) (state : State) (world last : World) (at : ℕ) (text rest left : List ℕ) (log : List (Call × Answer)) (written : List ℕ) (after : After) (end : SessionEnd)
      → Finishes p state rest log written after → text ≡ rest ++ left → IsAnswered by world log last
      → ((answer : List ℕ) (left_to : World) (more : Transcript World) → going_on after answer left_to more ≡ record { text = answer; end = end; world = left_to })
      → transcript_from p by limit (suc rounds) state world at text ≡ record { text = written; end = end; world = last }
  finishes_there rounds state world last at text rest left log written after end f e answered stops =
      let x = f.x in
      let parts : text ≡ x.bytes ++ (f.unread ++ left) = e ∙ ap (λ l. l ++ left) f.rest_is ∙ append_assoc x.bytes f.unread left in
      let own : IsAnswered by world x.log last = subst (λ l. IsAnswered by world l last) f.log_is answered in
      goes_by rounds state world last at text x.bytes (f.unread ++ left) x.request x.log f.exchange.answer after f.exchange.spelled parts f.exchange.worked own
      ∙ stops (p.prompts state x.bytes ++ f.exchange.answer) last _
      ∙ transcript_eq (p.prompts state x.bytes ++ f.exchange.answer) written end end last last (sym (f.text_is ∙ f.exchange.written)) refl refl

  waits_with : (rounds : ℕ) (state : State) (world last : World) (at : ℕ) (text rest : List ℕ) (log : List (Call × Answer)) (written : List ℕ) (end : SessionEnd)
      → IsAnswered by world log last → Waits p state rest log written → text ≡ rest → end_of_rest limit at rest ≡ end → transcript_from p by limit (suc rounds) state world at text ≡ record { text = written; end = end; world = last }
  waits_with rounds state world last at text rest log written end answered waits e ended =
      let same : last ≡ world = subst (λ l. IsAnswered by world l last) waits.no_calls answered in
      ap (transcript_from p by limit (suc rounds) state world at) e ∙ waits_there rounds state world at rest waits.less
      ∙ transcript_eq (p.prompts state rest) written (end_of_rest limit at rest) end world last (sym waits.prompted) ended (sym same)

  -- the end of the session is the end of the transcript
  ends_there : (rounds : ℕ) (state : State) (world last : World) (at : ℕ) (rest left : List ℕ) (log : List (Call × Answer)) (written : List ℕ) (end : SessionEnd)
      → Ends p limit (left ≡ []) state at rest log written end → at + length (rest ++ left) ≤ limit → IsAnswered by world log last → IsQuiet end → end ≢ NoMemory
      → transcript_from p by limit (suc rounds) state world at (rest ++ left) ≡ record { text = written; end = end; world = last }
  ends_there rounds state world last at rest left log written Closed (inl h) fits answered quiet some =
      waits_with rounds state world last at (rest ++ left) rest log written Closed answered h.3 (ap (λ l. rest ++ l) h.2 ∙ append-nil rest) (ap (end_of_rest limit at) h.0 ∙ end_none p limit at h.1)
  ends_there rounds state world last at rest left log written Closed (inr f) fits answered quiet some =
      finishes_there rounds state world last at (rest ++ left) rest left log written Closing Closed f refl answered (λ a w m. refl)
  ends_there rounds state world last at rest left log written Stopped f fits answered quiet some =
      finishes_there rounds state world last at (rest ++ left) rest left log written Stopping Stopped f refl answered (λ a w m. refl)
  ends_there rounds state world last at rest left log written (Truncated offset) h fits answered quiet some =
      waits_with rounds state world last at (rest ++ left) rest log written (Truncated offset) answered h.4 (ap (λ l. rest ++ l) h.2 ∙ append-nil rest) (end_short p limit at rest h.0 h.1 ∙ ap Truncated (sym h.3))
  ends_there rounds state world last at rest left log written InputLimit h fits answered quiet some =
      let sized : length (rest ++ left) ≡ length rest + length left = length-append rest left in
      let none : length left ≡ 0 = omega (arith, sized, fits, h.0) in
      waits_with rounds state world last at (rest ++ left) rest log written InputLimit answered h.1 (ap (λ l. rest ++ l) (nil_from_length left none) ∙ append-nil rest) (end_full p limit at rest (omega (arith, h.0)))
  ends_there rounds state world last at rest left log written ReadFault h fits answered quiet some = absurd (quiet.0 refl)
  ends_there rounds state world last at rest left log written WriteFault h fits answered quiet some = absurd (quiet.1 refl)
  ends_there rounds state world last at rest left log written NoMemory h fits answered quiet some = absurd (some refl)

  place_behind : (at place : ℕ) (own rest : List ℕ) → place ≡ at + length (own ++ rest) → place ≡ (at + length own) + length rest
  place_behind at place own rest e = let sized : length (own ++ rest) ≡ length own + length rest = length-append own rest in omega (arith, e, sized)

  -- from a place on, the session is the transcript
  transcribed : IsFilled p → (rounds : ℕ) (state final : State) (world last : World) (at place : ℕ) (ex : List (Exchange Request Call Answer)) (rest left : List ℕ) (log : List (Call × Answer)) (written : List ℕ) (end : SessionEnd)
      → Exchanges p state ex final → Ends p limit (left ≡ []) final place rest log written end → place ≡ at + length (bytes_of ex)
      → at + length (bytes_of ex ++ (rest ++ left)) ≤ limit → length (bytes_of ex ++ (rest ++ left)) < rounds → IsAnswered by world (log_of ex ++ log) last → IsQuiet end → end ≢ NoMemory
      → transcript_from p by limit rounds state world at (bytes_of ex ++ (rest ++ left)) ≡ record { text = text_of ex ++ written; end = end; world = last }
  transcribed filled zero state final world last at place ex rest left log written end outlived ends place_is fits lt answered quiet some = absurd (omega (arith, lt))
  transcribed filled (suc rounds) state final world last at place [] rest left log written end outlived ends place_is fits lt answered quiet some =
      let here : place ≡ at = omega (arith, place_is) in
      let own : Ends p limit (left ≡ []) state at rest log written end = subst (λ n. Ends p limit (left ≡ []) state n rest log written end) here (subst (λ s. Ends p limit (left ≡ []) s place rest log written end) outlived ends) in
      ends_there rounds state world last at rest left log written end own fits answered quiet some
  transcribed filled (suc rounds) state final world last at place (x ∷ ex) rest left log written end outlived ends place_is fits lt answered quiet some =
      let unread = bytes_of ex ++ (rest ++ left) in
      let parts : (x.bytes ++ bytes_of ex) ++ (rest ++ left) ≡ x.bytes ++ unread = append_assoc x.bytes (bytes_of ex) (rest ++ left) in
      let sized : length ((x.bytes ++ bytes_of ex) ++ (rest ++ left)) ≡ length x.bytes + length unread = ap length parts ∙ length-append x.bytes unread in
      let byte = some_byte p filled state x.bytes x.request outlived.0.spelled in
      let one : length x.bytes ≡ suc (length byte.1) = ap length byte.2 in
      let split = answered_split by world last x.log (log_of ex ++ log) (subst (λ l. IsAnswered by world l last) (append_assoc x.log (log_of ex) log) answered) in
      let more = transcribed filled rounds (p.next state x.request) final split.0 last (at + length x.bytes) place ex rest left log written end outlived.1 ends
      (place_behind at place x.bytes (bytes_of ex) place_is) (omega (arith, sized, fits)) (omega (arith, sized, lt, one)) split.2 quiet some in
      goes_by rounds state world split.0 at ((x.bytes ++ bytes_of ex) ++ (rest ++ left)) x.bytes unread x.request x.log outlived.0.answer Open outlived.0.spelled parts outlived.0.worked split.1
      ∙ ap (going_on Open (p.prompts state x.bytes ++ outlived.0.answer) split.0) more
      ∙ transcript_eq ((p.prompts state x.bytes ++ outlived.0.answer) ++ (text_of ex ++ written)) ((x.text ++ text_of ex) ++ written) end end last last
      (ap (λ l. l ++ (text_of ex ++ written)) (sym outlived.0.written) ∙ sym (append_assoc x.text (text_of ex) written)) refl refl

  ends_weaker : (P Q : Type 0) → (P → Q) → (state : State) (at : ℕ) (rest : List ℕ) (log : List (Call × Answer)) (text : List ℕ) (end : SessionEnd) → Ends p limit P state at rest log text end → Ends p limit Q state at rest log text end
  ends_weaker P Q f state at rest log text Closed (inl h) = inl (h.0, h.1, f h.2, h.3)
  ends_weaker P Q f state at rest log text Closed (inr h) = inr h
  ends_weaker P Q f state at rest log text Stopped h = h
  ends_weaker P Q f state at rest log text (Truncated offset) h = (h.0, h.1, f h.2, h.3, h.4)
  ends_weaker P Q f state at rest log text InputLimit h = h
  ends_weaker P Q f state at rest log text ReadFault h = h
  ends_weaker P Q f state at rest log text WriteFault h = h
  ends_weaker P Q f state at rest log text NoMemory h = h

  pub session_decided : IsFilled p → (greeting : List ℕ) (start : State) (input taken left : List ℕ) (log : List (Call × Answer)) (written : List ℕ) (end : SessionEnd) (world last : World) → input ≡ taken ++ left
      → Session p greeting start limit (left ≡ []) taken log written end → IsAnswered by world log last → IsQuiet end → end ≢ NoMemory
      → (written ≡ greeting ++ (transcript p by limit start world input).text) × (end ≡ (transcript p by limit start world input).end) × (last ≡ (transcript p by limit start world input).world)
  session_decided filled greeting start input taken left log written end world last parts (inr s) answered quiet some = absurd (quiet.1 s.0)
  session_decided filled greeting start input taken left log written end world last parts (inl s) answered quiet some =
      let few = limit - length taken in
      let shown = take few left in
      let seen : take limit input ≡ taken ++ shown = ap (take limit) parts ∙ take_over limit taken left s.within in
      let text : take limit input ≡ bytes_of s.exchanges ++ (s.rest ++ shown) = seen ∙ ap (λ l. l ++ shown) s.taken_is ∙ append_assoc (bytes_of s.exchanges) s.rest shown in
      let ends = ends_weaker (left ≡ []) (shown ≡ []) (λ none. ap (take few) none ∙ take-nil few) s.state (length (bytes_of s.exchanges)) s.rest s.last_log s.last_text end s.ends in
      let sized : length (bytes_of s.exchanges ++ (s.rest ++ shown)) ≡ length (take limit input) = ap length (sym text) in
      let short : length (take limit input) ≡ min limit (length input) = length-take limit input in
      let is = transcribed filled (suc (length input)) start s.state world last 0 (length (bytes_of s.exchanges)) s.exchanges s.rest shown s.last_log s.last_text end s.outlived ends (omega arith)
      (omega (arith, sized, short)) (omega (arith, sized, short)) (subst (λ l. IsAnswered by world l last) s.log_is answered) quiet some in
      let whole : transcript p by limit start world input ≡ record { text = text_of s.exchanges ++ s.last_text; end = end; world = last } = ap (transcript_from p by limit (suc (length input)) start world 0) text ∙ is in
      (s.written_is ∙ ap (λ t. greeting ++ t) (sym (ap (λ (t : Transcript World). t.text) whole)), sym (ap (λ (t : Transcript World). t.end) whole), sym (ap (λ (t : Transcript World). t.world) whole))
