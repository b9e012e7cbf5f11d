-- Each text goes on to a request.
use Rattle.std.proofs.Common.{◌≡◌, ℕ, ◌+◌, ◌-◌, ◌≤◌, Bool, true, false, ltb, leb, le-leb, List, [], ◌∷◌, ◌++◌, length, take, drop, replicate, Option, Some, None, Ok, Err, refl, sym, ap, ◌∙◌, subst, arith, if◌then◌else◌, append_assoc, append-nil, length-append, length-drop}
use Rattle.std.proofs.lemmas.Bool.{cond-false, cond-true}
use Rattle.std.proofs.lemmas.Bool.Decides.{nat_tests}
use Rattle.std.proofs.lemmas.List.{length-replicate}
use Rattle.imap_grammar.specs.declared.command.CommandFault.TheVariants.{TooLong, MessageTooLarge}
use Rattle.imap_grammar.specs.declared.progress.Progress.TheVariants.{Whole, Literal, Message, More}
use Rattle.imap_grammar.specs.Grammar.{Tagged}
use Rattle.imap_grammar.specs.Reading.{Reading, got, wrong, short, marked, line_end}
use Rattle.imap_grammar.specs.Commands.{command_at}
use Rattle.imap_grammar.specs.Faults.{line_fault}
use Rattle.imap_grammar.specs.Progressing.{Outcome, max_text, max_message, message_size, long_or, has_end, wrong_at, whole_before, ended_before, closed, after_marker, at_marker, read_before, at_literal, progress_of, progress_in}
use Rattle.imap_grammar.specs.Requests.{Request, command, refused, fault_tag, request_of, request_in, with_message, with_size, whole_of, whole_at}
use Rattle.imap_grammar.proofs.Commands.{command_read}
use Rattle.imap_grammar.proofs.SpelledCommands.{command_spelled}

-- an answer that is a request
abbrev IsSettled : Outcome → Type 0
IsSettled (Ok (Whole own tag)) = Unit {0}
IsSettled (Ok (Literal count)) = ⊥
IsSettled (Ok (Message count)) = ⊥
IsSettled (Ok (More at)) = ⊥
IsSettled (Err fault) = Unit {0}

settled_request : (text message : List ℕ) (answer : Outcome) → IsSettled answer → (request : Request) × (request_of text message answer ≡ Some request)
settled_request text message (Ok (Whole own tag)) is = (command (take tag text) own message, refl)
settled_request text message (Ok (Literal count)) is = absurd is
settled_request text message (Ok (Message count)) is = absurd is
settled_request text message (Ok (More at)) is = absurd is
settled_request text message (Err fault) is = (refused (fault_tag fault text) fault, refl)

ended_settled : (text : List ℕ) (tagged : Tagged) (rest : List ℕ) → IsSettled (ended_before text tagged rest)
ended_settled text tagged rest = go (ltb max_text (length text - length rest)) rest
  where
    go : (c : Bool) (l : List ℕ) → IsSettled (if c then Err TooLong else whole_before text tagged l)
    go true l = tt
    go false [] = tt
    go false (b ∷ bs) = tt

-- texts of the most bytes
module _ (login : Bool) (text : List ℕ) (long : max_text ≤ length text) where
  long_settled : (answer : Outcome) → IsSettled (long_or text answer)
  long_settled answer = subst IsSettled (sym (cond-true (leb max_text (length text)) (Err TooLong) answer (le-leb max_text (length text) long))) tt

  wrong_settled : (at : ℕ) → IsSettled (wrong_at login text at)
  wrong_settled at = go (has_end text at)
    where
      go : (c : Bool) → IsSettled (if c then Err (line_fault login text at) else long_or text (Ok (More at)))
      go true = tt
      go false = long_settled (Ok (More at))

  closed_settled : (tagged : Tagged) (reading : Reading (Unit {0})) → IsSettled (closed login text tagged reading)
  closed_settled tagged (got end rest) = ended_settled text tagged rest
  closed_settled tagged (wrong rest) = wrong_settled (length text - length rest)
  closed_settled tagged short = long_settled (Ok (More (length text)))
  closed_settled tagged (marked count) = long_settled (Ok (More (length text)))

  marker_settled : (tagged : Tagged) (size : ℕ) (rest : List ℕ) → IsSettled (at_marker login text tagged size rest)
  marker_settled tagged size rest = go (leb max_text (length text - length rest)) (ltb max_message size) refl rest refl
    where
      go : (c d : Bool) → leb max_text (length text - length rest) ≡ c → (l : List ℕ) → rest ≡ l
          → IsSettled (if c then Err TooLong else if d then Err MessageTooLarge else after_marker login text tagged size l)
      go true d i l j = tt
      go false true i l j = tt
      go false false i [] j = absurd (ends (le-leb max_text (length text - length rest) (omega (arith, long, ap length j))))
        where
          ends : leb max_text (length text - length rest) ≡ true → ⊥
          ends k = cc
      go false false i (b ∷ bs) j = closed_settled tagged (line_end (b ∷ bs))

  before_settled : (tagged : Tagged) (o : Option ℕ) (rest : List ℕ) → IsSettled (read_before login text tagged o rest)
  before_settled tagged None rest = ended_settled text tagged rest
  before_settled tagged (Some size) rest = marker_settled tagged size rest

  reading_settled : (reading : Reading Tagged) → IsSettled (progress_of login text reading)
  reading_settled (got tagged rest) = before_settled tagged (message_size tagged.command) rest
  reading_settled (wrong rest) = wrong_settled (length text - length rest)
  reading_settled short = long_settled (Ok (More (length text)))
  reading_settled (marked count) = long_settled (at_literal text count)

  long_request : (message : List ℕ) → (request : Request) × (request_in login text message ≡ Some request)
  long_request message = settled_request text message (progress_in login text) (reading_settled (command_at login text))

-- bytes, as many as are wanted
some_bytes : (n : ℕ) → (l : List ℕ) × (n ≤ length l)
some_bytes n = let sized : length (replicate n 0) ≡ n = length-replicate {A = ℕ} n 0 in (replicate n 0, omega (arith, sized))

with_octets : (login : Bool) (prefix : List ℕ) (size : ℕ) (rest : List ℕ) → size + max_text ≤ length rest
    → (request : Request) × (with_message login prefix size rest ≡ Some request)
with_octets login prefix size rest le =
    let parts = length-append prefix (drop size rest) in
    let dropped = length-drop size rest in
    let long : max_text ≤ length (prefix ++ drop size rest) = omega (arith, parts, dropped, le) in
    let own = long_request login (prefix ++ drop size rest) long (take size rest) in (
      own.0,
      cond-false (ltb (length rest) size) (request_in login prefix []) (request_in login (prefix ++ drop size rest) (take size rest))
          (not_less (length rest) size (omega (arith, le))) ∙ own.1,
    )
  where
    not_less : (m n : ℕ) → n ≤ m → ltb m n ≡ false
    not_less m n le = grind (arith, nat_tests)

-- a text of the most bytes goes on to a request
long_fills : (login : Bool) (bytes : List ℕ) → max_text ≤ length bytes
    → (more : List ℕ) × (request : Request) × (whole_at login (bytes ++ more) ≡ Some request)
long_fills login bytes long = go (command_at login bytes) refl
  where
    now : whole_at login bytes ≡ request_in login bytes [] → (more : List ℕ) × (request : Request) × (whole_at login (bytes ++ more) ≡ Some request)
    now e = let own = long_request login bytes long [] in ([], own.0, ap (whole_at login) (append-nil bytes) ∙ e ∙ own.1)

    go : (reading : Reading Tagged) → command_at login bytes ≡ reading
        → (more : List ℕ) × (request : Request) × (whole_at login (bytes ++ more) ≡ Some request)
    go (got tagged rest) e = sized (message_size tagged.command) refl
      where
        sized : (o : Option ℕ) → message_size tagged.command ≡ o → (more : List ℕ) × (request : Request) × (whole_at login (bytes ++ more) ≡ Some request)
        sized None i = now (ap (whole_of login bytes) e ∙ ap (λ o. with_size login bytes o rest) i)
        sized (Some size) i =
            let read = command_read login bytes rest tagged e in
            let pad = some_bytes (size + max_text) in
            let text : bytes ++ pad.0 ≡ read.0 ++ (rest ++ pad.0) = ap (λ l. l ++ pad.0) read.2 ∙ append_assoc read.0 rest pad.0 in
            let now_read : command_at login (bytes ++ pad.0) ≡ got tagged (rest ++ pad.0) = ap (command_at login) text
            ∙ command_spelled login read.0 (rest ++ pad.0) tagged read.1 in
            let parts = length-append rest pad.0 in
            let padded = pad.1 in
            let prefix = take (length (bytes ++ pad.0) - length (rest ++ pad.0)) (bytes ++ pad.0) in
            let own = with_octets login prefix size (rest ++ pad.0) (omega (arith, parts, padded)) in
            (pad.0, own.0, ap (whole_of login (bytes ++ pad.0)) now_read ∙ ap (λ o. with_size login (bytes ++ pad.0) o (rest ++ pad.0)) i ∙ own.1)
    go (wrong rest) e = now (ap (whole_of login bytes) e)
    go short e = now (ap (whole_of login bytes) e)
    go (marked count) e = now (ap (whole_of login bytes) e)

pub fills : (login : Bool) (text : List ℕ) → (more : List ℕ) × (request : Request) × (whole_at login (text ++ more) ≡ Some request)
fills login text =
    let pad = some_bytes max_text in
    let parts = length-append text pad.0 in
    let padded = pad.1 in
    let own = long_fills login (text ++ pad.0) (omega (arith, parts, padded)) in
    (pad.0 ++ own.0, own.1, ap (whole_at login) (sym (append_assoc text pad.0 own.0)) ∙ own.2)
