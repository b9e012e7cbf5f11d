-- The steps by which a request comes: after each, what came is no whole request yet, or the request is known.
use Rattle.std.proofs.Common.{◌≡◌, ℕ, ◌+◌, ◌-◌, ◌<◌, ◌≤◌, Bool, true, false, ltb, leb, eqb, List, [], ◌∷◌, ◌++◌, length, take, drop, Some, None, Result, Ok, Err, refl, sym, ap, ◌∙◌, subst, inl, inr, arith, append_assoc, append-nil, length-append, if◌then◌else◌}
use Rattle.std.proofs.lemmas.Bool.{lt-leb, le-ltb, cond-false}
use Rattle.std.proofs.lemmas.List.{drop_all}
use Rattle.std.proofs.Math.Seq.{take-append_seam, drop-append_seam}
use Rattle.imap_grammar.specs.declared.command.Command.{Command}
use Rattle.imap_grammar.specs.declared.command.CommandFault.{CommandFault}
use Rattle.imap_grammar.specs.declared.command.CommandFault.TheVariants.{TooLong, MessageTooLarge}
use Rattle.imap_grammar.specs.declared.progress.Progress.{Progress}
use Rattle.imap_grammar.specs.declared.progress.Progress.TheVariants.{Whole, Literal, Message, More}
use Rattle.imap_grammar.specs.Grammar.{Tagged}
use Rattle.imap_grammar.specs.Reading.{Reading, got, wrong, short, marked, byte, line_end}
use Rattle.imap_grammar.specs.Commands.{command_at}
use Rattle.imap_grammar.specs.Progressing.{max_text, max_message, message_size, long_or, wrong_at, goes_on, whole_before, closed, after_marker, at_marker, read_before, progress_of, progress_in}
use Rattle.imap_grammar.specs.Requests.{command, refused, fault_tag, request_of, request_in, with_message, with_size, whole_of, whole_at, ready, asks_for, asked_at, asked_later}
use Rattle.imap_grammar.specs.Reaching.{HasNoLineFeed, EndsLine, Reached, TakesLine, AwaitsLine, CameAs, IsEnded}
use Rattle.imap_grammar.proofs.Growing.{Within, Grows, MarksLine, GoesOn, within_end}
use Rattle.imap_grammar.proofs.Lined.{IsLined, Shut, EndsOn, end_lined}
use Rattle.imap_grammar.proofs.CommandSteps.{lined_command}
use Rattle.imap_grammar.proofs.LineFeeds.{none_append, none_prefix, none_rest, some_feed, nil_cons, last_feed, line_rest, line_prefix, split_prefix}
use Rattle.imap_grammar.proofs.ProgressSteps.{asks_nothing, octets_goes_on, octets_wrong, octets_after, literal_reading, message_reading, open_none, open_too_long, wrong_open, wrong_ended, line_progress, line_request, AtEnd, end_request, more_takes}
use Rattle.imap_grammar.proofs.Coming.{asked_append, asked_nothing, reached_more, reached_silent}

-- a text that goes on with bytes other than a line feed
abbrev IsQuiet : Reading Tagged → Type 0
IsQuiet (got tagged rest) = ⊥
IsQuiet (wrong rest) = HasNoLineFeed rest
IsQuiet short = Unit {0}
IsQuiet (marked count) = ⊥

quiet_takes : (text : List ℕ) (reading : Reading Tagged) → IsQuiet reading → TakesLine text reading
quiet_takes text (got tagged rest) q = q
quiet_takes text (wrong rest) q = q
quiet_takes text short q = tt
quiet_takes text (marked count) q = absurd q

quiet_later : (text more : List ℕ) (later : Reading Tagged) → HasNoLineFeed more → 0 < length more → Within more later → IsLined more later → MarksLine (text ++ more) later → IsQuiet later
quiet_later text more (got tagged rest) none lt w l m = some_feed l.0 rest (subst HasNoLineFeed l.1 none)
quiet_later text more (wrong rest) none lt w l m = none_rest w.0 rest (subst HasNoLineFeed w.1 none)
quiet_later text more short none lt w l m = tt
quiet_later text more (marked count) none lt w l m = last_feed text more m.0 m.1 lt none

-- bytes other than a line feed make no request, and no marker
quiet_part : (text more : List ℕ) (now later : Reading Tagged) → GoesOn text more now later → EndsOn text more now later → MarksLine (text ++ more) later
    → HasNoLineFeed more → 0 < length more → TakesLine text now → IsQuiet later
quiet_part text more (got tagged rest) later g e m none lt t = absurd t
quiet_part text more (wrong rest) later g e m none lt t = subst IsQuiet (sym g.grows) (none_append rest more t none)
quiet_part text more short later g e m none lt t = quiet_later text more later none lt g.grows e.lines m
quiet_part text more (marked count) later g e m none lt t = quiet_later text more later none lt g.grows e.lines m

-- a line makes a command with nothing after it, or none
line_at_end : (text more : List ℕ) (now later : Reading Tagged) → GoesOn text more now later → EndsOn text more now later → EndsLine more → TakesLine text now → AtEnd later
line_at_end text more now later g e ends t = by_now now g e t
  where
    go : (later : Reading Tagged) → IsLined more later → AtEnd later
    go (got tagged rest) l = line_rest ends.0 l.0 rest ends.1 (sym ends.2 ∙ l.1)
    go (wrong rest) l = tt
    go short l = tt
    go (marked count) l = tt

    by_now : (now : Reading Tagged) → GoesOn text more now later → EndsOn text more now later → TakesLine text now → AtEnd later
    by_now (got tagged rest) g e t = absurd t
    by_now (wrong rest) g e t = subst AtEnd (sym g.grows) tt
    by_now short g e t = go later e.lines
    by_now (marked count) g e t = go later e.lines

-- what the end of a line reads
abbrev OfLine : Reading (Unit {0}) → Type 0
OfLine (got value rest) = Unit {0}
OfLine (wrong rest) = (body : List ℕ) × (rest ≡ body ++ 10 ∷ [])
OfLine short = ⊥
OfLine (marked count) = ⊥

of_line : (body : List ℕ) → OfLine (line_end (body ++ 10 ∷ []))
of_line [] = tt
of_line (x ∷ body) = go (eqb x 10) (eqb x 13)
  where
    feed : (rest : List ℕ) → OfLine (byte 10 (rest ++ 10 ∷ []))
    feed [] = tt
    feed (y ∷ rest) = other (eqb y 10)
      where
        other : (c : Bool) → OfLine (if c then got tt (rest ++ 10 ∷ []) else wrong (y ∷ (rest ++ 10 ∷ [])))
        other true = tt
        other false = (y ∷ rest, refl)

    go : (c d : Bool) → OfLine (if c then got tt (body ++ 10 ∷ []) else if d then byte 10 (body ++ 10 ∷ []) else wrong (x ∷ (body ++ 10 ∷ [])))
    go true d = tt
    go false true = feed body
    go false false = (x ∷ body, refl)

ended_if : (c : Bool) (fault : CommandFault) (answer : Result Progress CommandFault) → IsEnded answer → IsEnded (if c then Err fault else answer)
ended_if true fault answer e = tt
ended_if false fault answer e = e

whole_ended : (text : List ℕ) (tagged : Tagged) (rest : List ℕ) → IsEnded (whole_before text tagged rest)
whole_ended text tagged [] = tt
whole_ended text tagged (b ∷ bs) = tt

module _ (login : Bool) where
  steps : (text more : List ℕ) → GoesOn text more (command_at login text) (command_at login (text ++ more))
  steps text more = (lined_command login).steady.goes_on text more

  ends_on : (text more : List ℕ) → EndsOn text more (command_at login text) (command_at login (text ++ more))
  ends_on text more = (lined_command login).ends_on text more

  within : (text : List ℕ) → Within text (command_at login text)
  within text = (steps text []).within

  -- a text that takes a line is no request, unless it is too long
  takes_none : (text : List ℕ) → TakesLine text (command_at login text) → length text < max_text → whole_at login text ≡ None
  takes_none text t lt =
      let own = line_progress login text (command_at login text) (within text) (omega (arith, lt)) t in
      line_request login text (command_at login text) refl t ∙ ap (request_of text []) own.2 ∙ open_none text [] own.0 own.1 lt

  takes_too_long : (text : List ℕ) → TakesLine text (command_at login text) → length text ≡ max_text → whole_at login text ≡ Some (refused [] TooLong)
  takes_too_long text t e =
      let own = line_progress login text (command_at login text) (within text) (omega (arith, e)) t in
      line_request login text (command_at login text) refl t ∙ ap (request_of text []) own.2 ∙ open_too_long text [] own.0 e

  quiet : (text more : List ℕ) → TakesLine text (command_at login text) → HasNoLineFeed more → 0 < length more → IsQuiet (command_at login (text ++ more))
  quiet text more t none lt = quiet_part text more (command_at login text) (command_at login (text ++ more)) (steps text more) (ends_on text more) (steps (text ++ more) []).marks none lt t

  takes_part : (text more : List ℕ) → TakesLine text (command_at login text) → HasNoLineFeed more → TakesLine (text ++ more) (command_at login (text ++ more))
  takes_part text [] t none = subst (λ l. TakesLine l (command_at login l)) (sym (append-nil text)) t
  takes_part text (b ∷ bs) t none = quiet_takes (text ++ b ∷ bs) (command_at login (text ++ b ∷ bs)) (quiet text (b ∷ bs) t none (omega arith))

  quiet_asked : (text : List ℕ) (reading : Reading Tagged) → command_at login text ≡ reading → IsQuiet reading → asked_at login text ≡ []
  quiet_asked text (got tagged rest) e q = absurd q
  quiet_asked text (wrong rest) e q =
      ap (λ r. asks_for (progress_of login text r)) e ∙ asks_nothing (wrong_at login text (length text - length rest)) (octets_wrong login text (length text - length rest))
  quiet_asked text short e q = ap (λ r. asks_for (progress_of login text r)) e ∙ asks_nothing (goes_on text) (octets_goes_on text)
  quiet_asked text (marked count) e q = absurd q

  part_asked : (text more : List ℕ) → TakesLine text (command_at login text) → HasNoLineFeed more → asked_later login text more ≡ []
  part_asked text more t none = asked_nothing login text more (λ own rest e lt.
      let own_none : HasNoLineFeed own = none_prefix own rest (subst HasNoLineFeed e none) in
      quiet_asked (text ++ own) (command_at login (text ++ own)) refl (quiet text own t own_none lt))

  -- nothing came yet
  pub start : AwaitsLine login [] []
  start = record {
    reached = record { early = λ prefix b more e. absurd (nil_cons prefix b more e); asked = refl };
    within = omega arith;
    takes_line = tt;
  }

  -- before a message, what came is the text
  pub text_came : (text : List ℕ) → CameAs login text text []
  text_came text = inl (refl, refl)

  -- Less than a line came, or nothing.
  module _ (text written piece : List ℕ) (awaits : AwaitsLine login text written) (none : HasNoLineFeed piece) where
    pub part_none : length (text ++ piece) < max_text → whole_at login (text ++ piece) ≡ None
    part_none lt = takes_none (text ++ piece) (takes_part text piece awaits.takes_line none) lt

    pub part_too_long : length (text ++ piece) ≡ max_text → whole_at login (text ++ piece) ≡ Some (refused [] TooLong)
    part_too_long e = takes_too_long (text ++ piece) (takes_part text piece awaits.takes_line none) e

  -- its proper prefixes are no requests
  prefix_none : (text written own : List ℕ) (b : ℕ) (rest : List ℕ) → AwaitsLine login text written → HasNoLineFeed own → length (text ++ (own ++ b ∷ rest)) ≤ max_text → whole_at login (text ++ own) ≡ None
  prefix_none text written own b rest awaits none le =
      let sized : length (text ++ (own ++ b ∷ rest)) ≡ length text + (length own + length (b ∷ rest)) =
      length-append text (own ++ b ∷ rest) ∙ ap (λ n. length text + n) (length-append own (b ∷ rest)) in
      let shorter : length (text ++ own) ≡ length text + length own = length-append text own in
      part_none text written own awaits none (omega (arith, sized, shorter, le))

  module _ (text written piece : List ℕ) (awaits : AwaitsLine login text written) (none : HasNoLineFeed piece) where
    pub part_reached : length (text ++ piece) ≤ max_text → Reached login (text ++ piece) written
    part_reached le = subst (λ w. Reached login (text ++ piece) w) (append-nil written)
        (reached_more login text written piece awaits.reached
        (λ own b rest e. prefix_none text written own b rest awaits (none_prefix own (b ∷ rest) (subst HasNoLineFeed e none)) (subst (λ l. length (text ++ l) ≤ max_text) e le))
        [] (part_asked text piece awaits.takes_line none))

  -- A line came.
  module _ (text written line : List ℕ) (awaits : AwaitsLine login text written) (ends : EndsLine line) (fits : length (text ++ line) ≤ max_text) where
    line_asked : asked_later login text line ≡ asked_at login (text ++ line)
    line_asked =
        ap (asked_later login text) ends.2 ∙ asked_append login text ends.0 (10 ∷ [])
        ∙ ap (λ l. l ++ asked_later login (text ++ ends.0) (10 ∷ [])) (part_asked text ends.0 awaits.takes_line ends.1)
        ∙ append-nil (asked_at login ((text ++ ends.0) ++ 10 ∷ []))
        ∙ ap (asked_at login) (append_assoc text ends.0 (10 ∷ []) ∙ ap (λ l. text ++ l) (sym ends.2))

    pub line_reached : Reached login (text ++ line) (written ++ asked_at login (text ++ line))
    line_reached = reached_more login text written line awaits.reached
        (λ own b rest e. prefix_none text written own b rest awaits (line_prefix ends.0 own b rest ends.1 (sym ends.2 ∙ e)) (subst (λ l. length (text ++ l) ≤ max_text) e fits))
        (asked_at login (text ++ line)) line_asked

    at_end : AtEnd (command_at login (text ++ line))
    at_end = line_at_end text line (command_at login text) (command_at login (text ++ line)) (steps text line) (ends_on text line) ends awaits.takes_line

    pub line_whole : whole_at login (text ++ line) ≡ request_in login (text ++ line) []
    line_whole = end_request login (text ++ line) (command_at login (text ++ line)) refl at_end

    -- with what is written after it
    line_writes : (answer : Result Progress CommandFault) (also : List ℕ) → progress_in login (text ++ line) ≡ answer → asks_for answer ≡ also → Reached login (text ++ line) (written ++ also)
    line_writes answer also e asks = subst (λ w. Reached login (text ++ line) (written ++ w)) (ap asks_for e ∙ asks) line_reached

    line_silent : (answer : Result Progress CommandFault) → progress_in login (text ++ line) ≡ answer → asks_for answer ≡ [] → Reached login (text ++ line) written
    line_silent answer e asks = subst (λ w. Reached login (text ++ line) w) (append-nil written) (line_writes answer [] e asks)

    -- what the code does then: it takes a line
    pub line_more : (at : ℕ) → progress_in login (text ++ line) ≡ Ok (More at) → AwaitsLine login (text ++ line) written
    line_more at e = record {
      reached = line_silent (Ok (More at)) e refl;
      within = fits;
      takes_line = more_takes login (text ++ line) at (command_at login (text ++ line)) (within (text ++ line)) at_end fits e;
    }

    -- or writes `ready` and takes octets of a literal
    pub line_literal : (count : ℕ) → progress_in login (text ++ line) ≡ Ok (Literal count) → Reached login (text ++ line) (written ++ ready)
    line_literal count e = line_writes (Ok (Literal count)) ready e refl

    -- or writes `ready` and takes octets of the message
    pub line_message : (size : ℕ) → progress_in login (text ++ line) ≡ Ok (Message size) → Reached login (text ++ line) (written ++ ready)
    line_message size e = line_writes (Ok (Message size)) ready e refl

    -- or answers a command
    pub line_command : (own : Command) (tag : ℕ) → progress_in login (text ++ line) ≡ Ok (Whole own tag)
        → Reached login (text ++ line) written × (whole_at login (text ++ line) ≡ Some (command (take tag (text ++ line)) own []))
    line_command own tag e = (line_silent (Ok (Whole own tag)) e refl, line_whole ∙ ap (request_of (text ++ line) []) e)

    -- or a fault
    pub line_fault : (fault : CommandFault) → progress_in login (text ++ line) ≡ Err fault
        → Reached login (text ++ line) written × (whole_at login (text ++ line) ≡ Some (refused (fault_tag fault (text ++ line)) fault))
    line_fault fault e = (line_silent (Err fault) e refl, line_whole ∙ ap (request_of (text ++ line) []) e)

  -- The text ends with the marker of a literal.
  module _ (text : List ℕ) (count : ℕ) (at_literal : progress_in login text ≡ Ok (Literal count)) where
    literal_read : (command_at login text ≡ marked count) × (length text < max_text) × (length text + count ≤ max_text)
    literal_read = literal_reading login text count (command_at login text) at_literal

    pub literal_fits : (length text < max_text) × (length text + count ≤ max_text)
    literal_fits = (literal_read.1, literal_read.2)

    octets_short : (piece : List ℕ) → 0 < length piece → length piece ≤ count → command_at login (text ++ piece) ≡ short
    octets_short piece lt le = subst (λ r. Shut piece r (command_at login (text ++ piece))) literal_read.0 ((ends_on text piece).shut lt) le

    octets_takes : (piece : List ℕ) → length piece ≤ count → TakesLine (text ++ piece) (command_at login (text ++ piece))
    octets_takes [] le = subst (λ l. TakesLine l (command_at login l)) (sym (append-nil text)) (subst (TakesLine text) (sym literal_read.0) literal_read.2)
    octets_takes (b ∷ bs) le = subst (TakesLine (text ++ b ∷ bs)) (sym (octets_short (b ∷ bs) (omega arith) le)) tt

    octets_asked : (own : List ℕ) → 0 < length own → length own ≤ count → asked_at login (text ++ own) ≡ []
    octets_asked own lt le = ap (λ r. asks_for (progress_of login (text ++ own) r)) (octets_short own lt le) ∙ asks_nothing (goes_on (text ++ own)) (octets_goes_on (text ++ own))

    octets_partial : (piece : List ℕ) → length piece < count → whole_at login (text ++ piece) ≡ None
    octets_partial piece lt =
        let sized : length (text ++ piece) ≡ length text + length piece = length-append text piece in
        takes_none (text ++ piece) (octets_takes piece (omega (arith, lt))) (omega (arith, sized, lt, literal_read.2))

    -- Octets of it came, or none.
    module _ (written piece : List ℕ) (reached : Reached login text written) where
      pub octets_reached : length piece ≤ count → Reached login (text ++ piece) written
      octets_reached le = reached_silent login text written piece reached
          (λ own b rest e.
          let sized : length piece ≡ length own + length (b ∷ rest) = ap length e ∙ length-append own (b ∷ rest) in
          octets_partial own (omega (arith, sized, le)))
          (λ own rest e lt.
          let sized : length piece ≡ length own + length rest = ap length e ∙ length-append own rest in
          octets_asked own lt (omega (arith, sized, le)))

      pub octets_none : length piece < count → whole_at login (text ++ piece) ≡ None
      octets_none lt = octets_partial piece lt

      -- after the last of them the code takes a line, and does not ask before that: a literal of no octets leaves the text as it was
      pub octets_line : length piece ≡ count → AwaitsLine login (text ++ piece) written
      octets_line e =
          let sized : length (text ++ piece) ≡ length text + length piece = length-append text piece in
          record {
            reached = octets_reached (omega (arith, e));
            within = omega (arith, sized, e, literal_read.2);
            takes_line = octets_takes piece (omega (arith, e));
          }

      pub octets_whole : length piece ≡ count → whole_at login (text ++ piece) ≡ request_in login (text ++ piece) []
      octets_whole e = line_request login (text ++ piece) (command_at login (text ++ piece)) refl (octets_takes piece (omega (arith, e)))

      -- what the code would be told
      pub octets_progress : length piece ≡ count → 0 < count → progress_in login (text ++ piece) ≡ goes_on (text ++ piece)
      octets_progress e lt = ap (progress_of login (text ++ piece)) (octets_short piece (omega (arith, e, lt)) (omega (arith, e)))

  -- The text ends with the marker of a message.
  module _ (text : List ℕ) (size : ℕ) (at_message : progress_in login text ≡ Ok (Message size)) where
    message_read : (tagged : Tagged) × (command_at login text ≡ got tagged []) × (message_size tagged.command ≡ Some size) × (length text < max_text) × (size ≤ max_message)
    message_read = message_reading login text size (command_at login text) at_message

    pub message_fits : (length text < max_text) × (size ≤ max_message)
    message_fits = (message_read.3, message_read.4)

    read_after : (more : List ℕ) → command_at login (text ++ more) ≡ got message_read.0 more
    read_after more = subst (λ r. Grows more r (command_at login (text ++ more))) message_read.1 (steps text more).grows

    progress_after : (more : List ℕ) → progress_in login (text ++ more) ≡ at_marker login (text ++ more) message_read.0 size more
    progress_after more = ap (progress_of login (text ++ more)) (read_after more) ∙ ap (λ s. read_before login (text ++ more) message_read.0 s more) message_read.2

    whole_after : (more : List ℕ) → whole_at login (text ++ more) ≡ with_message login text size more
    whole_after more =
        let sized : length (text ++ more) ≡ length text + length more = length-append text more in
        let first : length (text ++ more) - length more ≡ length text = omega (arith, sized) in
        ap (whole_of login (text ++ more)) (read_after more)
        ∙ ap (λ s. with_size login (text ++ more) s more) message_read.2
        ∙ ap (λ n. with_message login (take n (text ++ more)) size more) first
        ∙ ap (λ l. with_message login l size more) (take-append_seam text more)

    asked_after : (more : List ℕ) → 0 < length more → asked_at login (text ++ more) ≡ []
    asked_after [] lt = absurd (omega (arith, lt))
    asked_after (b ∷ bs) lt =
        ap asks_for (progress_after (b ∷ bs)) ∙ asks_nothing (at_marker login (text ++ b ∷ bs) message_read.0 size (b ∷ bs)) (octets_after login (text ++ b ∷ bs) message_read.0 size b bs)

    none_at_marker : (message : List ℕ) → request_in login text message ≡ None
    none_at_marker message = ap (request_of text message) at_message

    message_partial : (piece : List ℕ) → length piece ≤ size → whole_at login (text ++ piece) ≡ None
    message_partial piece le = whole_after piece ∙ go (ltb (length piece) size) refl
      where
        go : (c : Bool) → ltb (length piece) size ≡ c → (if c then request_in login text [] else request_in login (text ++ drop size piece) (take size piece)) ≡ None
        go true e = none_at_marker []
        go false e =
            let nothing : drop size piece ≡ [] = drop_all size piece le in
            ap (λ l. request_in login (text ++ l) (take size piece)) nothing ∙ ap (λ l. request_in login l (take size piece)) (append-nil text) ∙ none_at_marker (take size piece)

    -- Octets of it came, or none.
    module _ (written piece : List ℕ) (reached : Reached login text written) (le : length piece ≤ size) where
      pub message_reached : Reached login (text ++ piece) written
      message_reached = reached_silent login text written piece reached
          (λ own b rest e.
          let sized : length piece ≡ length own + length (b ∷ rest) = ap length e ∙ length-append own (b ∷ rest) in
          message_partial own (omega (arith, sized, le)))
          (λ own rest e lt. asked_after own lt)

      pub message_none : whole_at login (text ++ piece) ≡ None
      message_none = message_partial piece le

  -- All octets of a message came, and then a tail.
  module _ (head message : List ℕ) (at_message : progress_in login head ≡ Ok (Message (length message))) where
    whole_with : (tail : List ℕ) → whole_at login (head ++ (message ++ tail)) ≡ request_in login (head ++ tail) message
    whole_with tail =
        let sized : length (message ++ tail) ≡ length message + length tail = length-append message tail in
        whole_after head (length message) at_message (message ++ tail)
        ∙ cond-false (ltb (length (message ++ tail)) (length message)) (request_in login head [])
        (request_in login (head ++ drop (length message) (message ++ tail)) (take (length message) (message ++ tail))) (le-ltb _ _ (omega (arith, sized)))
        ∙ ap (λ l. request_in login (head ++ l) (take (length message) (message ++ tail))) (drop-append_seam message tail)
        ∙ ap (request_in login (head ++ tail)) (take-append_seam message tail)

    abbrev tagged : Tagged
    tagged = (message_read head (length message) at_message).0

    part_progress : (b : ℕ) (bs : List ℕ) → HasNoLineFeed (b ∷ bs) → length (head ++ b ∷ bs) ≤ max_text
        → (k : ℕ) × (progress_in login (head ++ b ∷ bs) ≡ long_or (head ++ b ∷ bs) (Ok (More k)))
    part_progress b bs none le = go (line_end (b ∷ bs)) refl (within_end (b ∷ bs)) (end_lined (b ∷ bs))
      where
        text : List ℕ
        text = head ++ b ∷ bs

        to_closed : progress_in login text ≡ closed login text tagged (line_end (b ∷ bs))
        to_closed =
            let fits = message_fits head (length message) at_message in
            let sized : length text ≡ length head + length (b ∷ bs) = length-append head (b ∷ bs) in
            progress_after head (length message) at_message (b ∷ bs)
            ∙ cond-false (leb max_text (length text - length (b ∷ bs))) (Err TooLong)
            (if ltb max_message (length message) then Err MessageTooLarge else after_marker login text tagged (length message) (b ∷ bs)) (lt-leb _ _ (omega (arith, sized, fits.0)))
            ∙ cond-false (ltb max_message (length message)) (Err MessageTooLarge) (after_marker login text tagged (length message) (b ∷ bs)) (le-ltb _ _ fits.1)

        go : (reading : Reading (Unit {0})) → line_end (b ∷ bs) ≡ reading → Within (b ∷ bs) reading → IsLined (b ∷ bs) reading
            → (k : ℕ) × (progress_in login text ≡ long_or text (Ok (More k)))
        go (got value rest) e w l = absurd (some_feed l.0 rest (subst HasNoLineFeed l.1 none))
        go (wrong rest) e w l = (
          length text - length rest,
          to_closed ∙ ap (closed login text tagged) e
              ∙ wrong_open login text (head ++ w.0) rest (ap (λ l. head ++ l) w.1 ∙ sym (append_assoc head w.0 rest)) le (none_rest w.0 rest (subst HasNoLineFeed w.1 none)),
        )
        go short e w l = (length text, to_closed ∙ ap (closed login text tagged) e)
        go (marked count) e w l = (length text, to_closed ∙ ap (closed login text tagged) e)

    -- less than a line, or nothing
    none_with : (piece : List ℕ) → HasNoLineFeed piece → length (head ++ piece) < max_text → whole_at login (head ++ (message ++ piece)) ≡ None
    none_with [] none lt = whole_with [] ∙ ap (λ l. request_in login l message) (append-nil head) ∙ none_at_marker head (length message) at_message message
    none_with (b ∷ bs) none lt =
        let own = part_progress b bs none (omega (arith, lt)) in
        whole_with (b ∷ bs) ∙ ap (request_of (head ++ b ∷ bs) message) own.1 ∙ open_none (head ++ b ∷ bs) message (More own.0) tt lt

    too_long_with : (piece : List ℕ) → HasNoLineFeed piece → length (head ++ piece) ≡ max_text → whole_at login (head ++ (message ++ piece)) ≡ Some (refused [] TooLong)
    too_long_with [] none e =
        let sized : length (head ++ []) ≡ length head = ap length (append-nil head) in
        absurd (omega (arith, e, sized, (message_fits head (length message) at_message).0))
    too_long_with (b ∷ bs) none e =
        let own = part_progress b bs none (omega (arith, e)) in
        whole_with (b ∷ bs) ∙ ap (request_of (head ++ b ∷ bs) message) own.1 ∙ open_too_long (head ++ b ∷ bs) message (More own.0) e

    -- its proper prefixes are no requests
    prefix_with : (own : List ℕ) (b : ℕ) (rest : List ℕ) → HasNoLineFeed own → length (head ++ (own ++ b ∷ rest)) ≤ max_text → whole_at login (head ++ (message ++ own)) ≡ None
    prefix_with own b rest none le =
        let sized : length (head ++ (own ++ b ∷ rest)) ≡ length head + (length own + length (b ∷ rest)) =
        length-append head (own ++ b ∷ rest) ∙ ap (λ n. length head + n) (length-append own (b ∷ rest)) in
        let shorter : length (head ++ own) ≡ length head + length own = length-append head own in
        none_with own none (omega (arith, sized, shorter, le))

    silent_with : (written tail : List ℕ) → Reached login head written → ((own : List ℕ) (b : ℕ) (rest : List ℕ) → tail ≡ own ++ b ∷ rest → whole_at login (head ++ (message ++ own)) ≡ None)
        → Reached login (head ++ (message ++ tail)) written
    silent_with written tail reached none = reached_silent login head written (message ++ tail) reached
        (λ own b rest e. elim (split_prefix message tail own b rest e) [
          | inl p ↦
              let sized : length message ≡ length own + length (b ∷ p.0) = ap length p.1 ∙ length-append own (b ∷ p.0) in
              message_partial head (length message) at_message own (omega (arith, sized))
          | inr p ↦ ap (λ l. whole_at login (head ++ l)) p.1 ∙ none p.0 b rest p.2
        ])
        (λ own rest e lt. asked_after head (length message) at_message own lt)

    module _ (line : List ℕ) (ends : EndsLine line) (fits : length (head ++ line) ≤ max_text) where
      closed_ended : (reading : Reading (Unit {0})) → Within line reading → OfLine reading → IsEnded (closed login (head ++ line) tagged reading)
      closed_ended (got value rest) w o = ended_if (ltb max_text (length (head ++ line) - length rest)) TooLong (whole_before (head ++ line) tagged rest) (whole_ended (head ++ line) tagged rest)
      closed_ended (wrong rest) w o =
          subst IsEnded (sym (wrong_ended login (head ++ line) (head ++ w.0) rest o.0 (ap (λ l. head ++ l) w.1 ∙ sym (append_assoc head w.0 rest)) fits o.1)) tt
      closed_ended short w o = absurd o
      closed_ended (marked count) w o = absurd o

      after_ended : (rest : List ℕ) → line ≡ rest → IsEnded (after_marker login (head ++ line) tagged (length message) rest)
      after_ended [] e = absurd (nil_cons ends.0 10 [] (sym e ∙ ends.2))
      after_ended (b ∷ bs) e =
          subst (λ l. IsEnded (closed login (head ++ line) tagged (line_end l))) e
          (closed_ended (line_end line) (within_end line) (subst (λ l. OfLine (line_end l)) (sym ends.2) (of_line ends.0)))

      pub line_ended : IsEnded (progress_in login (head ++ line))
      line_ended = subst IsEnded (sym (progress_after head (length message) at_message line))
          (ended_if (leb max_text (length (head ++ line) - length line)) TooLong
          (if ltb max_message (length message) then Err MessageTooLarge else after_marker login (head ++ line) tagged (length message) line)
          (ended_if (ltb max_message (length message)) MessageTooLarge (after_marker login (head ++ line) tagged (length message) line) (after_ended line refl)))

  -- All octets of a message came.
  module _ (head written message : List ℕ) (at_message : progress_in login head ≡ Ok (Message (length message))) (reached : Reached login head written) where
    -- what came is this
    pub after_came : (tail : List ℕ) → CameAs login (head ++ (message ++ tail)) (head ++ tail) message
    after_came tail = inr (head, tail, refl, refl, at_message)

    pub after_whole : (tail : List ℕ) → whole_at login (head ++ (message ++ tail)) ≡ request_in login (head ++ tail) message
    after_whole = whole_with head message at_message

    -- Then less than a line came, or nothing.
    module _ (piece : List ℕ) (none : HasNoLineFeed piece) where
      pub after_reached : length (head ++ piece) ≤ max_text → Reached login (head ++ (message ++ piece)) written
      after_reached le = silent_with head message at_message written piece reached
          (λ own b rest e. prefix_with head message at_message own b rest (none_prefix own (b ∷ rest) (subst HasNoLineFeed e none)) (subst (λ l. length (head ++ l) ≤ max_text) e le))

      pub after_none : length (head ++ piece) < max_text → whole_at login (head ++ (message ++ piece)) ≡ None
      after_none = none_with head message at_message piece none

      pub after_too_long : length (head ++ piece) ≡ max_text → whole_at login (head ++ (message ++ piece)) ≡ Some (refused [] TooLong)
      after_too_long = too_long_with head message at_message piece none

    -- Then a line came.
    module _ (line : List ℕ) (ends : EndsLine line) (fits : length (head ++ line) ≤ max_text) where
      pub end_reached : Reached login (head ++ (message ++ line)) written
      end_reached = silent_with head message at_message written line reached
          (λ own b rest e.
          prefix_with head message at_message own b rest (line_prefix ends.0 own b rest ends.1 (sym ends.2 ∙ e)) (subst (λ l. length (head ++ l) ≤ max_text) e fits))

      -- the code is told a command or a fault, and nothing else
      pub end_is : IsEnded (progress_in login (head ++ line))
      end_is = line_ended head message at_message line ends fits

      pub end_command : (own : Command) (tag : ℕ) → progress_in login (head ++ line) ≡ Ok (Whole own tag)
          → whole_at login (head ++ (message ++ line)) ≡ Some (command (take tag (head ++ line)) own message)
      end_command own tag e = after_whole line ∙ ap (request_of (head ++ line) message) e

      pub end_fault : (fault : CommandFault) → progress_in login (head ++ line) ≡ Err fault
          → whole_at login (head ++ (message ++ line)) ≡ Some (refused (fault_tag fault (head ++ line)) fault)
      end_fault fault e = after_whole line ∙ ap (request_of (head ++ line) message) e
