-- What a text has come to, by what was read of it.
use Rattle.std.proofs.Common.{◌≡◌, ℕ, ◌+◌, ◌-◌, ◌<◌, ◌≤◌, Bool, true, false, ltb, leb, eqb, List, [], ◌∷◌, ◌++◌, length, take, drop, Option, Some, None, Result, Ok, Err, refl, sym, ap, ◌∙◌, subst, arith, append-nil, if◌then◌else◌}
use Rattle.std.specs.List.{list_any}
use Rattle.std.proofs.lemmas.Bool.{leb-false, ltb-false, le-leb, lt-leb, le-ltb}
use Rattle.std.proofs.lemmas.List.{take_all, drop_all}
use Rattle.imap_grammar.specs.declared.command.CommandFault.{CommandFault}
use Rattle.imap_grammar.specs.declared.command.CommandFault.TheVariants.{TooLong, LiteralTooLarge, MessageTooLarge}
use Rattle.imap_grammar.specs.declared.progress.Progress.{Progress}
use Rattle.imap_grammar.specs.declared.progress.Progress.TheVariants.{Whole, Literal, Message, More}
use Rattle.imap_grammar.specs.Grammar.{Tagged}
use Rattle.imap_grammar.specs.Reading.{Reading, got, wrong, short, marked, line_end}
use Rattle.imap_grammar.specs.Commands.{command_at}
use Rattle.imap_grammar.specs.Faults.{line_fault}
use Rattle.imap_grammar.specs.Progressing.{max_text, max_message, message_size, long_or, has_end, wrong_at, goes_on, whole_before, ended_before, closed, after_marker, at_marker, read_before, progress_of}
use Rattle.imap_grammar.specs.Requests.{refused, request_of, request_in, with_message, with_size, whole_of, whole_at, asks_for}
use Rattle.imap_grammar.specs.Reaching.{HasNoLineFeed, TakesLine}
use Rattle.imap_grammar.proofs.Growing.{Within}
use Rattle.imap_grammar.proofs.LineFeeds.{none_any, any_none, any_end, end_in_rest}

-- no octets come next
abbrev pub HasNoOctets : Result Progress CommandFault → Type 0
HasNoOctets (Ok (Whole own tag)) = Unit {0}
HasNoOctets (Ok (Literal count)) = ⊥
HasNoOctets (Ok (Message count)) = ⊥
HasNoOctets (Ok (More at)) = Unit {0}
HasNoOctets (Err fault) = Unit {0}

pub asks_nothing : (answer : Result Progress CommandFault) → HasNoOctets answer → asks_for answer ≡ []
asks_nothing (Ok (Whole own tag)) n = refl
asks_nothing (Ok (Literal count)) n = absurd n
asks_nothing (Ok (Message count)) n = absurd n
asks_nothing (Ok (More at)) n = refl
asks_nothing (Err fault) n = refl

octets_if : (c : Bool) (fault : CommandFault) (answer : Result Progress CommandFault) → HasNoOctets answer → HasNoOctets (if c then Err fault else answer)
octets_if true fault answer n = tt
octets_if false fault answer n = n

pub octets_goes_on : (text : List ℕ) → HasNoOctets (goes_on text)
octets_goes_on text = octets_if (leb max_text (length text)) TooLong (Ok (More (length text))) tt

pub octets_wrong : (login : Bool) (text : List ℕ) (at : ℕ) → HasNoOctets (wrong_at login text at)
octets_wrong login text at =
    octets_if (has_end text at) (line_fault login text at) (long_or text (Ok (More at))) (octets_if (leb max_text (length text)) TooLong (Ok (More at)) tt)

octets_whole : (text : List ℕ) (tagged : Tagged) (rest : List ℕ) → HasNoOctets (whole_before text tagged rest)
octets_whole text tagged [] = tt
octets_whole text tagged (b ∷ bs) = tt

octets_ended : (text : List ℕ) (tagged : Tagged) (rest : List ℕ) → HasNoOctets (ended_before text tagged rest)
octets_ended text tagged rest = octets_if (ltb max_text (length text - length rest)) TooLong (whole_before text tagged rest) (octets_whole text tagged rest)

octets_closed : (login : Bool) (text : List ℕ) (tagged : Tagged) (reading : Reading (Unit {0})) → HasNoOctets (closed login text tagged reading)
octets_closed login text tagged (got end rest) = octets_ended text tagged rest
octets_closed login text tagged (wrong rest) = octets_wrong login text (length text - length rest)
octets_closed login text tagged short = octets_goes_on text
octets_closed login text tagged (marked count) = octets_goes_on text

-- after the marker of a message, with bytes after it
pub octets_after : (login : Bool) (text : List ℕ) (tagged : Tagged) (size b : ℕ) (bs : List ℕ) → HasNoOctets (at_marker login text tagged size (b ∷ bs))
octets_after login text tagged size b bs =
    octets_if (leb max_text (length text - length (b ∷ bs))) TooLong (if ltb max_message size then Err MessageTooLarge else after_marker login text tagged size (b ∷ bs))
    (octets_if (ltb max_message size) MessageTooLarge (after_marker login text tagged size (b ∷ bs)) (octets_closed login text tagged (line_end (b ∷ bs))))

no_literal : (answer : Result Progress CommandFault) (count : ℕ) → HasNoOctets answer → answer ≡ Ok (Literal count) → ⊥
no_literal answer count n e = subst HasNoOctets e n

no_message : (answer : Result Progress CommandFault) (size : ℕ) → HasNoOctets answer → answer ≡ Ok (Message size) → ⊥
no_message answer size n e = subst HasNoOctets e n

-- An answer is that of a literal only at a marker.
module _ (login : Bool) (text : List ℕ) (n : ℕ) where
  literal_message : (tagged : Tagged) (size : ℕ) (rest : List ℕ) (c d : Bool)
      → ((let answer : Result Progress CommandFault = if c then Err TooLong else if d then Err MessageTooLarge else after_marker login text tagged size rest in answer) ≡ Ok (Literal n)) → ⊥
  literal_message tagged size rest true d e = absurd cc
  literal_message tagged size rest false true e = absurd cc
  literal_message tagged size [] false false e = absurd cc
  literal_message tagged size (b ∷ bs) false false e = no_literal (after_marker login text tagged size (b ∷ bs)) n (octets_closed login text tagged (line_end (b ∷ bs))) e

  literal_read : (tagged : Tagged) (size : Option ℕ) (rest : List ℕ) → read_before login text tagged size rest ≡ Ok (Literal n) → ⊥
  literal_read tagged None rest e = no_literal (ended_before text tagged rest) n (octets_ended text tagged rest) e
  literal_read tagged (Some size) rest e = literal_message tagged size rest (leb max_text (length text - length rest)) (ltb max_message size) e

  literal_marked : (count : ℕ) (c d : Bool) → leb max_text (length text) ≡ c → ltb max_text (length text + count) ≡ d
      → ((let answer : Result Progress CommandFault = if c then Err TooLong else if d then Err LiteralTooLarge else Ok (Literal count) in answer) ≡ Ok (Literal n))
      → (count ≡ n) × (length text < max_text) × (length text + count ≤ max_text)
  literal_marked count true d below fits e = absurd cc
  literal_marked count false true below fits e = absurd cc
  literal_marked count false false below fits e = (cc, leb-false _ _ below, ltb-false _ _ fits)

  pub literal_reading : (reading : Reading Tagged) → progress_of login text reading ≡ Ok (Literal n) → (reading ≡ marked n) × (length text < max_text) × (length text + n ≤ max_text)
  literal_reading (got tagged rest) e = absurd (literal_read tagged (message_size tagged.command) rest e)
  literal_reading (wrong rest) e = absurd (no_literal (wrong_at login text (length text - length rest)) n (octets_wrong login text (length text - length rest)) e)
  literal_reading short e = absurd (no_literal (goes_on text) n (octets_goes_on text) e)
  literal_reading (marked count) e =
      let h = literal_marked count (leb max_text (length text)) (ltb max_text (length text + count)) refl refl e in
      (ap marked h.0, h.1, omega (arith, h.0, h.2))

  -- nor of a message but at a marker with nothing after it
  message_marker : (tagged : Tagged) (size : ℕ) (rest : List ℕ) (c d : Bool) → leb max_text (length text - length rest) ≡ c → ltb max_message size ≡ d
      → ((let answer : Result Progress CommandFault = if c then Err TooLong else if d then Err MessageTooLarge else after_marker login text tagged size rest in answer) ≡ Ok (Message n))
      → (size ≡ n) × (rest ≡ []) × (length text < max_text) × (n ≤ max_message)
  message_marker tagged size rest true d below fits e = absurd cc
  message_marker tagged size rest false true below fits e = absurd cc
  message_marker tagged size [] false false below fits e =
      let same : size ≡ n = cc in
      let lt : length text - 0 < max_text = leb-false _ _ below in
      let le : size ≤ max_message = ltb-false _ _ fits in
      (same, refl, omega (arith, lt), omega (arith, le, same))
  message_marker tagged size (b ∷ bs) false false below fits e = absurd (no_message (after_marker login text tagged size (b ∷ bs)) n (octets_closed login text tagged (line_end (b ∷ bs))) e)

  message_read : (tagged : Tagged) (size : Option ℕ) (rest : List ℕ) → read_before login text tagged size rest ≡ Ok (Message n)
      → (size ≡ Some n) × (rest ≡ []) × (length text < max_text) × (n ≤ max_message)
  message_read tagged None rest e = absurd (no_message (ended_before text tagged rest) n (octets_ended text tagged rest) e)
  message_read tagged (Some size) rest e =
      let h = message_marker tagged size rest (leb max_text (length text - length rest)) (ltb max_message size) refl refl e in
      (ap Some h.0, h.1, h.2, h.3)

  message_marked : (count : ℕ) (c d : Bool)
      → ((let answer : Result Progress CommandFault = if c then Err TooLong else if d then Err LiteralTooLarge else Ok (Literal count) in answer) ≡ Ok (Message n)) → ⊥
  message_marked count true d e = absurd cc
  message_marked count false true e = absurd cc
  message_marked count false false e = absurd cc

  pub message_reading : (reading : Reading Tagged) → progress_of login text reading ≡ Ok (Message n)
      → (tagged : Tagged) × (reading ≡ got tagged []) × (message_size tagged.command ≡ Some n) × (length text < max_text) × (n ≤ max_message)
  message_reading (got tagged rest) e =
      let h = message_read tagged (message_size tagged.command) rest e in
      (tagged, ap (got tagged) h.1, h.0, h.2, h.3)
  message_reading (wrong rest) e = absurd (no_message (wrong_at login text (length text - length rest)) n (octets_wrong login text (length text - length rest)) e)
  message_reading short e = absurd (no_message (goes_on text) n (octets_goes_on text) e)
  message_reading (marked count) e = absurd (message_marked count (leb max_text (length text)) (ltb max_text (length text + count)) e)

-- a text whose reading takes a line: more of it comes, or a literal's octets, unless it is too long
abbrev pub IsOpen : Progress → Type 0
IsOpen (Whole own tag) = ⊥
IsOpen (Literal count) = Unit {0}
IsOpen (Message count) = ⊥
IsOpen (More at) = Unit {0}

pub open_none : (text message : List ℕ) (open_at : Progress) → IsOpen open_at → length text < max_text → request_of text message (long_or text (Ok open_at)) ≡ None
open_none text message open_at is lt = ap (λ c. request_of text message (if c then Err TooLong else Ok open_at)) (lt-leb max_text (length text) lt) ∙ go open_at is
  where
    go : (own : Progress) → IsOpen own → request_of text message (Ok own) ≡ None
    go (Whole own tag) i = absurd i
    go (Literal count) i = refl
    go (Message count) i = absurd i
    go (More at) i = refl

pub open_too_long : (text message : List ℕ) (open_at : Progress) → length text ≡ max_text → request_of text message (long_or text (Ok open_at)) ≡ Some (refused [] TooLong)
open_too_long text message open_at e =
    let le : max_text ≤ length text = omega (arith, e) in
    ap (λ c. request_of text message (if c then Err TooLong else Ok open_at)) (le-leb max_text (length text) le)

-- wrong, with no line feed after that
pub wrong_open : (login : Bool) (text used rest : List ℕ) → text ≡ used ++ rest → length text ≤ max_text → HasNoLineFeed rest
    → wrong_at login text (length text - length rest) ≡ long_or text (Ok (More (length text - length rest)))
wrong_open login text used rest e le none =
    ap (λ c. if c then Err (line_fault login text (length text - length rest)) else long_or text (Ok (More (length text - length rest)))) (end_in_rest text used rest e le ∙ any_none rest none)

-- wrong, with a line feed
pub wrong_ended : (login : Bool) (text used rest body : List ℕ) → text ≡ used ++ rest → length text ≤ max_text → rest ≡ body ++ 10 ∷ []
    → wrong_at login text (length text - length rest) ≡ Err (line_fault login text (length text - length rest))
wrong_ended login text used rest body e le ends =
    ap (λ c. if c then Err (line_fault login text (length text - length rest)) else long_or text (Ok (More (length text - length rest))))
    (end_in_rest text used rest e le ∙ ap (list_any (λ b. eqb b 10)) ends ∙ any_end body [])

pub line_progress : (login : Bool) (text : List ℕ) (reading : Reading Tagged) → Within text reading → length text ≤ max_text → TakesLine text reading
    → (own : Progress) × IsOpen own × (progress_of login text reading ≡ long_or text (Ok own))
line_progress login text (got tagged rest) w le t = absurd t
line_progress login text (wrong rest) w le t = (More (length text - length rest), tt, wrong_open login text w.0 rest w.1 le t)
line_progress login text short w le t = (More (length text), tt, refl)
line_progress login text (marked count) w le t = (
  Literal count,
  tt,
  ap (λ (c : Bool). long_or text (if c then Err LiteralTooLarge else Ok (Literal count))) (le-ltb max_text (length text + count) t),
)

-- and the request is that of the text
pub line_request : (login : Bool) (text : List ℕ) (reading : Reading Tagged) → command_at login text ≡ reading → TakesLine text reading → whole_at login text ≡ request_in login text []
line_request login text (got tagged rest) e t = absurd t
line_request login text (wrong rest) e t = ap (whole_of login text) e
line_request login text short e t = ap (whole_of login text) e
line_request login text (marked count) e t = ap (whole_of login text) e

-- a command has nothing after it
abbrev pub AtEnd : Reading Tagged → Type 0
AtEnd (got tagged rest) = rest ≡ []
AtEnd (wrong rest) = Unit {0}
AtEnd short = Unit {0}
AtEnd (marked count) = Unit {0}

with_nothing : (login : Bool) (text : List ℕ) (size : Option ℕ) → with_size login text size [] ≡ request_in login text []
with_nothing login text None = refl
with_nothing login text (Some size) =
    let all : take (length text - 0) text ≡ text = take_all (length text - 0) text (omega arith) in
    ap (λ l. with_message login l size []) all ∙ go (ltb 0 size)
  where
    same : request_in login (text ++ drop size []) (take size []) ≡ request_in login text []
    same =
        let none : drop size [] ≡ [] = drop_all size [] (omega arith) in
        let nothing : take size [] ≡ [] = take_all size [] (omega arith) in
        ap (λ l. request_in login (text ++ l) (take size [])) none ∙ ap (λ l. request_in login l (take size [])) (append-nil text) ∙ ap (request_in login text) nothing

    go : (c : Bool) → (if c then request_in login text [] else request_in login (text ++ drop size []) (take size [])) ≡ request_in login text []
    go true = refl
    go false = same

pub end_request : (login : Bool) (text : List ℕ) (reading : Reading Tagged) → command_at login text ≡ reading → AtEnd reading → whole_at login text ≡ request_in login text []
end_request login text (got tagged rest) e i = ap (whole_of login text) e ∙ ap (with_size login text (message_size tagged.command)) i ∙ with_nothing login text (message_size tagged.command)
end_request login text (wrong rest) e i = ap (whole_of login text) e
end_request login text short e i = ap (whole_of login text) e
end_request login text (marked count) e i = ap (whole_of login text) e

-- a text of which more is to come takes a line
module _ (login : Bool) (text : List ℕ) (at : ℕ) where
  more_message : (tagged : Tagged) (size : ℕ) (c d : Bool)
      → ((let answer : Result Progress CommandFault = if c then Err TooLong else if d then Err MessageTooLarge else Ok (Message size) in answer) ≡ Ok (More at)) → ⊥
  more_message tagged size true d e = absurd cc
  more_message tagged size false true e = absurd cc
  more_message tagged size false false e = absurd cc

  more_ended : (tagged : Tagged) (c : Bool) → ((let answer : Result Progress CommandFault = if c then Err TooLong else Ok (Whole tagged.command (length tagged.tag)) in answer) ≡ Ok (More at)) → ⊥
  more_ended tagged true e = absurd cc
  more_ended tagged false e = absurd cc

  more_read : (tagged : Tagged) (size : Option ℕ) → read_before login text tagged size [] ≡ Ok (More at) → ⊥
  more_read tagged None e = more_ended tagged (ltb max_text (length text - 0)) e
  more_read tagged (Some size) e = more_message tagged size (leb max_text (length text - 0)) (ltb max_message size) e

  more_literal : (count : ℕ) (c d : Bool)
      → ((let answer : Result Progress CommandFault = if c then Err TooLong else if d then Err LiteralTooLarge else Ok (Literal count) in answer) ≡ Ok (More at)) → ⊥
  more_literal count true d e = absurd cc
  more_literal count false true e = absurd cc
  more_literal count false false e = absurd cc

  more_wrong : (place : ℕ) (c : Bool) → ((let answer : Result Progress CommandFault = if c then Err (line_fault login text place) else long_or text (Ok (More place)) in answer) ≡ Ok (More at)) → c ≡ false
  more_wrong place true e = absurd cc
  more_wrong place false e = refl

  pub more_takes : (reading : Reading Tagged) → Within text reading → AtEnd reading → length text ≤ max_text → progress_of login text reading ≡ Ok (More at) → TakesLine text reading
  more_takes (got tagged rest) w i le e = absurd (more_read tagged (message_size tagged.command) (ap (read_before login text tagged (message_size tagged.command)) (sym i) ∙ e))
  more_takes (wrong rest) w i le e =
      none_any rest (sym (end_in_rest text w.0 rest w.1 le) ∙ more_wrong (length text - length rest) (has_end text (length text - length rest)) e)
  more_takes short w i le e = tt
  more_takes (marked count) w i le e = absurd (more_literal count (leb max_text (length text)) (ltb max_text (length text + count)) e)
