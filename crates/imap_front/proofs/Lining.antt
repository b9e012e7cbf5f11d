-- A line of a feed as part of a request: before a message, and after one.
use Rattle.std.proofs.Common.{◌≡◌, ◌≢◌, ◌+◌, ◌<◌, ◌≤◌, ℕ, Bool, List, [], ◌∷◌, ◌++◌, length, take, Some, None, Ok, Err, refl, sym, ap, ◌∙◌, subst, append_assoc, arith, length-append}
use Rattle.wire_io.specs.Lines.{HasNoEnd, IsLine}
use Rattle.wire_io.specs.Feeding.{IsBegun, IsTooLong}
use Rattle.imap_grammar.specs.declared.command.Command.{Command}
use Rattle.imap_grammar.specs.declared.command.CommandFault.{CommandFault}
use Rattle.imap_grammar.specs.declared.command.CommandFault.TheVariants.{TooLong}
use Rattle.imap_grammar.specs.declared.progress.Progress.{Progress}
use Rattle.imap_grammar.specs.declared.progress.Progress.TheVariants.{Whole, Literal, Message, More}
use Rattle.imap_grammar.specs.Progressing.{max_text, progress_in}
use Rattle.imap_grammar.specs.Requests.{command, refused, fault_tag, whole_at, ready}
use Rattle.imap_grammar.specs.Reaching.{HasNoLineFeed, EndsLine, Reached, AwaitsLine, IsEnded}
use Rattle.imap_grammar.proofs.Reaching.{part_reached, part_none, part_too_long, line_more, line_literal, line_message, line_command, line_fault, after_reached, after_none, after_too_long, end_reached, line_ended, end_command, end_fault}

-- lines of a feed are lines of a command's text
no_line_feed : (text : List ℕ) → HasNoEnd text → HasNoLineFeed text
no_line_feed [] h = tt
no_line_feed (b ∷ bs) h = (h.0, no_line_feed bs h.1)

ends_line : (line : List ℕ) → IsLine line → EndsLine line
ends_line line is = (is.0, no_line_feed is.0 is.1, is.2)

-- a line has a byte
pub line_byte : (line : List ℕ) → IsLine line → 0 < length line
line_byte line is = let sized : length line ≡ length is.0 + 1 = ap length is.2 ∙ length-append is.0 (10 ∷ []) in omega (arith, sized)

-- `piece` came after the text, which is `now` since
module _ (login : Bool) (text said piece now : List ℕ) (room : ℕ) (awaits : AwaitsLine login text said) (grows : now ≡ text ++ piece) (fits : length text + room ≡ max_text) where
  sized : length now ≡ length text + length piece
  sized = ap length grows ∙ length-append text piece

  joined : length (text ++ piece) ≡ length text + length piece
  joined = length-append text piece

  pub part_of : HasNoEnd piece → length piece ≤ room → Reached login now said
  part_of none le = subst (λ t. Reached login t said) (sym grows) (part_reached login text said piece awaits (no_line_feed piece none) (omega (arith, joined, le, fits)))

  pub part_less : IsBegun piece room → whole_at login now ≡ None
  part_less begun = subst (λ t. whole_at login t ≡ None) (sym grows) (part_none login text said piece awaits (no_line_feed piece begun.0) (omega (arith, joined, begun.1, fits)))

  pub part_long : IsTooLong piece room → whole_at login now ≡ Some (refused [] TooLong)
  part_long long = subst (λ t. whole_at login t ≡ Some (refused [] TooLong)) (sym grows) (part_too_long login text said piece awaits (no_line_feed piece long.0) (omega (arith, joined, long.1, fits)))

  module _ (is : IsLine piece) (le : length piece ≤ room) where
    line : EndsLine piece
    line = ends_line piece is

    within : length (text ++ piece) ≤ max_text
    within = omega (arith, joined, le, fits)

    pub more_of : (at : ℕ) → progress_in login now ≡ Ok (More at) → AwaitsLine login now said
    more_of at e = subst (λ t. AwaitsLine login t said) (sym grows) (line_more login text said piece awaits line within at (ap (progress_in login) (sym grows) ∙ e))

    pub literal_of : (count : ℕ) → progress_in login now ≡ Ok (Literal count) → Reached login now (said ++ ready)
    literal_of count e = subst (λ t. Reached login t (said ++ ready)) (sym grows) (line_literal login text said piece awaits line within count (ap (progress_in login) (sym grows) ∙ e))

    pub message_of : (count : ℕ) → progress_in login now ≡ Ok (Message count) → Reached login now (said ++ ready)
    message_of count e = subst (λ t. Reached login t (said ++ ready)) (sym grows) (line_message login text said piece awaits line within count (ap (progress_in login) (sym grows) ∙ e))

    pub command_of : (own : Command) (tag : ℕ) → progress_in login now ≡ Ok (Whole own tag) → Reached login now said × (whole_at login now ≡ Some (command (take tag now) own []))
    command_of own tag e = subst (λ t. Reached login t said × (whole_at login t ≡ Some (command (take tag t) own []))) (sym grows)
        (line_command login text said piece awaits line within own tag (ap (progress_in login) (sym grows) ∙ e))

    pub fault_of : (fault : CommandFault) → progress_in login now ≡ Err fault → Reached login now said × (whole_at login now ≡ Some (refused (fault_tag fault now) fault))
    fault_of fault e = subst (λ t. Reached login t said × (whole_at login t ≡ Some (refused (fault_tag fault t) fault))) (sym grows)
        (line_fault login text said piece awaits line within fault (ap (progress_in login) (sym grows) ∙ e))

    -- the text has less room for the next line
    pub grown : length text < length now
    grown = let byte = line_byte piece is in omega (arith, sized, byte)

-- `piece` came after the message, and the text is `now` since; all that came is `come`
module _ (login : Bool) (head said message piece now come : List ℕ) (room : ℕ) (at_marker : progress_in login head ≡ Ok (Message (length message))) (reached : Reached login head said)
    (grows : now ≡ head ++ piece) (came : come ≡ (head ++ message) ++ piece) (fits : length head + room ≡ max_text) where
  last_joined : length (head ++ piece) ≡ length head + length piece
  last_joined = length-append head piece

  all : come ≡ head ++ (message ++ piece)
  all = came ∙ append_assoc head message piece

  pub last_part_of : HasNoEnd piece → length piece ≤ room → Reached login come said
  last_part_of none le = subst (λ t. Reached login t said) (sym all) (after_reached login head said message at_marker reached piece (no_line_feed piece none) (omega (arith, last_joined, le, fits)))

  pub last_part_less : IsBegun piece room → whole_at login come ≡ None
  last_part_less begun = subst (λ t. whole_at login t ≡ None) (sym all) (after_none login head said message at_marker reached piece (no_line_feed piece begun.0) (omega (arith, last_joined, begun.1, fits)))

  pub last_part_long : IsTooLong piece room → whole_at login come ≡ Some (refused [] TooLong)
  last_part_long long = subst (λ t. whole_at login t ≡ Some (refused [] TooLong)) (sym all)
      (after_too_long login head said message at_marker reached piece (no_line_feed piece long.0) (omega (arith, last_joined, long.1, fits)))

  module _ (is : IsLine piece) (le : length piece ≤ room) where
    last_within : length (head ++ piece) ≤ max_text
    last_within = omega (arith, last_joined, le, fits)

    pub last_of : Reached login come said
    last_of = subst (λ t. Reached login t said) (sym all) (end_reached login head said message at_marker reached piece (ends_line piece is) last_within)

    pub last_command : (own : Command) (tag : ℕ) → progress_in login now ≡ Ok (Whole own tag) → whole_at login come ≡ Some (command (take tag now) own message)
    last_command own tag e =
        ap (whole_at login) all ∙ end_command login head said message at_marker reached piece (ends_line piece is) last_within own tag (ap (progress_in login) (sym grows) ∙ e)
        ∙ ap (λ t. Some (command (take tag t) own message)) (sym grows)

    pub last_fault : (fault : CommandFault) → progress_in login now ≡ Err fault → whole_at login come ≡ Some (refused (fault_tag fault now) fault)
    last_fault fault e =
        ap (whole_at login) all ∙ end_fault login head said message at_marker reached piece (ends_line piece is) last_within fault (ap (progress_in login) (sym grows) ∙ e)
        ∙ ap (λ t. Some (refused (fault_tag fault t) fault)) (sym grows)

-- after the line that follows a message the text is a command or has a fault
pub last_is : (login : Bool) (head message piece now : List ℕ) (room : ℕ) → progress_in login head ≡ Ok (Message (length message)) → now ≡ head ++ piece → length head + room ≡ max_text
    → IsLine piece → length piece ≤ room → IsEnded (progress_in login now)
last_is login head message piece now room at_marker grows fits is le =
    let sized : length (head ++ piece) ≡ length head + length piece = length-append head piece in
    subst (λ t. IsEnded (progress_in login t)) (sym grows) (line_ended login head message at_marker piece (ends_line piece is) (omega (arith, sized, le, fits)))

-- and so, if it has no fault, it is a command
pub ended_whole : (progress : Progress) → IsEnded (Ok progress) → ((own : Command) (tag : ℕ) → progress ≢ Whole own tag) → ⊥
ended_whole (Whole own tag) is not = not own tag refl
ended_whole (Literal count) is not = is
ended_whole (Message count) is not = is
ended_whole (More at) is not = is
