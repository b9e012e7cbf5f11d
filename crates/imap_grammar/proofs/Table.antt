-- A text is read whole exactly if it is a command of the grammar, and not too large.
use Rattle.std.proofs.Common.{◌≡◌, ℕ, ◌+◌, ◌-◌, ◌<◌, ◌≤◌, Bool, true, false, ltb, leb, List, [], ◌∷◌, ◌++◌, length, take, Option, Some, None, Ok, Err, refl, sym, ap, ◌∙◌, subst, inl, inr, arith, if◌then◌else◌, append_assoc, append-nil, length-append}
use Rattle.std.proofs.lemmas.Bool.{cond-false}
use Rattle.std.proofs.lemmas.Bool.Decides.{nat_tests}
use Rattle.std.proofs.lemmas.List.{take_at, length-take-le}
use Rattle.imap_grammar.specs.declared.command.Command.{Command}
use Rattle.imap_grammar.specs.declared.command.CommandFault.TheVariants.{TooLong, LiteralTooLarge, MessageTooLarge}
use Rattle.imap_grammar.specs.declared.progress.Progress.TheVariants.{Whole, Literal, Message, More}
use Rattle.imap_grammar.specs.Bounds.{IsSmall, IsWithinBounds}
use Rattle.imap_grammar.specs.Grammar.{Tagged, IsLineEnd, IsCommand}
use Rattle.imap_grammar.specs.Reading.{Reading, got, wrong, short, marked, line_end}
use Rattle.imap_grammar.specs.Commands.{command_at}
use Rattle.imap_grammar.specs.Faults.{line_fault}
use Rattle.imap_grammar.specs.Progressing.{Outcome, max_text, max_message, message_size, long_or, has_end, wrong_at, whole_before, ended_before, closed, after_marker, at_marker, read_before, at_literal, progress_of, progress_in, command_of, command_in}
use Rattle.imap_grammar.proofs.Steps.{End, reads_end}
use Rattle.imap_grammar.proofs.Arguments.{EndOf}
use Rattle.imap_grammar.proofs.Commands.{IsRead, has_read, command_read}
use Rattle.imap_grammar.proofs.SpelledCommands.{command_spelled}

-- what of a command is not read at once: nothing, or the line's end after a message
abbrev pub RestOf : Option ℕ → List ℕ → Type 0
RestOf None rest = rest ≡ []
RestOf (Some size) rest = IsLineEnd rest

-- a command is read, whatever comes after it
pub command_rest : (login : Bool) (bytes next : List ℕ) (tagged : Tagged) → IsCommand login bytes tagged
    → (rest : List ℕ) × RestOf (message_size tagged.command) rest × (command_at login (bytes ++ next) ≡ got tagged (rest ++ next))
command_rest login bytes next tagged (body, end, is, is_body, is_end, e) = go (message_size tagged.command) refl
  where
    go : (o : Option ℕ) → message_size tagged.command ≡ o
        → (rest : List ℕ) × RestOf (message_size tagged.command) rest × (command_at login (bytes ++ next) ≡ got tagged (rest ++ next))
    go None i = (
      [],
      subst (λ m. RestOf m []) (sym i) refl,
      command_spelled login bytes next tagged (body, end, is, is_body, subst (λ m. EndOf m end) (sym i) is_end, e),
    )
    go (Some size) i =
        let prefix = tagged.tag ++ 32 ∷ (body ++ []) in
        let own : IsRead login prefix tagged = (body, [], is, is_body, subst (λ m. EndOf m []) (sym i) refl, refl) in
        let parts : prefix ++ (end ++ next) ≡ tagged.tag ++ 32 ∷ (body ++ (end ++ next)) = append_assoc tagged.tag (32 ∷ (body ++ [])) (end ++ next)
        ∙ ap (λ l. tagged.tag ++ 32 ∷ (l ++ (end ++ next))) (append-nil body) in
        let text : bytes ++ next ≡ prefix ++ (end ++ next) = ap (λ l. l ++ next) e ∙ append_assoc tagged.tag (32 ∷ (body ++ end)) next
        ∙ ap (λ l. tagged.tag ++ 32 ∷ l) (append_assoc body end next) ∙ sym parts in
        (end, subst (λ m. RestOf m end) (sym i) is_end, ap (command_at login) text ∙ command_spelled login prefix (end ++ next) tagged own)

-- a text is one command at most
pub one_command : (login : Bool) (text : List ℕ) (one other : Tagged) → IsCommand login text one → IsCommand login text other → one ≡ other
one_command login text one other is is_other =
    let first = command_rest login text [] one is in
    let second = command_rest login text [] other is_other in
    same (first.0 ++ []) (second.0 ++ []) (sym first.2 ∙ second.2)
  where
    same : (r s : List ℕ) → got one r ≡ got other s → one ≡ other
    same r s e = cc

not_less : (m n : ℕ) → n ≤ m → ltb m n ≡ false
not_less m n le = grind (arith, nat_tests)

less : (m n : ℕ) → ltb m n ≡ false → n ≤ m
less m n e = grind (arith, nat_tests)

not_least : (m n : ℕ) → n < m → leb m n ≡ false
not_least m n lt = grind (arith, nat_tests)

-- what is read up to a line's end is a command
pub ended_command : (login : Bool) (bytes end : List ℕ) (tagged : Tagged) → IsRead login bytes tagged → RestOf (message_size tagged.command) end
    → IsCommand login (bytes ++ end) tagged
ended_command login bytes end tagged (body, own, is, is_body, is_end, e) rest = go (message_size tagged.command) is_end rest
  where
    go : (o : Option ℕ) → EndOf o own → RestOf o end → IsCommand login (bytes ++ end) tagged
    go None is_line none = (body, own, is, is_body, is_line, ap (λ l. bytes ++ l) none ∙ append-nil bytes ∙ e)
    go (Some size) none is_line = (
      body,
      end,
      is,
      is_body,
      is_line,
      ap (λ l. l ++ end)
          (e ∙ ap (λ l. tagged.tag ++ 32 ∷ (body ++ l)) none ∙ ap (λ l. tagged.tag ++ 32 ∷ l) (append-nil body)) ∙ append_assoc tagged.tag (32 ∷ body) end,
    )

-- the tag is the first bytes of the text
pub tag_first : (login : Bool) (text : List ℕ) (tagged : Tagged) → IsCommand login text tagged
    → (take (length tagged.tag) text ≡ tagged.tag) × (length tagged.tag ≤ length text)
tag_first login text tagged (body, end, is, is_body, is_end, e) =
    let sized : length text ≡ length (tagged.tag ++ 32 ∷ (body ++ end)) = ap length e in
    let parts = length-append tagged.tag (32 ∷ (body ++ end)) in
    (ap (take (length tagged.tag)) e ∙ take_at tagged.tag (32 ∷ (body ++ end)) (length tagged.tag) refl, omega (arith, sized, parts))

-- answers that are no command
long_no : (text : List ℕ) (at : ℕ) (command : Command) (n : ℕ) → long_or text (Ok (More at)) ≡ Ok (Whole command n) → ⊥
long_no text at command n e = go (leb max_text (length text)) e
  where
    go : (c : Bool) → (let answer : Outcome = if c then Err TooLong else Ok (More at) in answer) ≡ Ok (Whole command n) → ⊥
    go true i = cc
    go false i = cc

wrong_no : (login : Bool) (text : List ℕ) (at : ℕ) (command : Command) (n : ℕ) → wrong_at login text at ≡ Ok (Whole command n) → ⊥
wrong_no login text at command n e = go (has_end text at) e
  where
    go : (c : Bool) → (let answer : Outcome = if c then Err (line_fault login text at) else long_or text (Ok (More at)) in answer) ≡ Ok (Whole command n) → ⊥
    go true i = cc
    go false i = long_no text at command n i

literal_no : (text : List ℕ) (count : ℕ) (command : Command) (n : ℕ) → long_or text (at_literal text count) ≡ Ok (Whole command n) → ⊥
literal_no text count command n e = go (leb max_text (length text)) (ltb max_text (length text + count)) e
  where
    go : (c d : Bool) → (let answer : Outcome = if c then Err TooLong else if d then Err LiteralTooLarge else Ok (Literal count) in answer) ≡ Ok
        (Whole command n) → ⊥
    go true d i = cc
    go false true i = cc
    go false false i = cc

-- a text that was read whole
abbrev IsWhole : List ℕ → Tagged → List ℕ → Command → ℕ → Type 0
IsWhole text tagged rest command n = (rest ≡ []) × (length text ≤ max_text) × (tagged.command ≡ command) × (length tagged.tag ≡ n)

ended_whole : (text : List ℕ) (tagged : Tagged) (rest : List ℕ) (command : Command) (n : ℕ) → ended_before text tagged rest ≡ Ok (Whole command n)
    → IsWhole text tagged rest command n
ended_whole text tagged rest command n e = go (ltb max_text (length text - length rest)) refl rest refl e
  where
    go : (c : Bool) → ltb max_text (length text - length rest) ≡ c → (l : List ℕ) → rest ≡ l
        → (let answer : Outcome = if c then Err TooLong else whole_before text tagged l in answer) ≡ Ok (Whole command n) → IsWhole text tagged rest command n
    go true i l j k = absurd cc
    go false i (b ∷ bs) j k = absurd cc
    go false i [] j k =
        let le = less max_text (length text - length rest) i in
        let none : length rest ≡ 0 = ap length j in
        let same : tagged.command ≡ command = cc in
        let sized : length tagged.tag ≡ n = cc in
        (j, omega (arith, le, none), same, sized)

closed_whole : (login : Bool) (text : List ℕ) (tagged : Tagged) (rest : List ℕ) (command : Command) (n : ℕ)
    → closed login text tagged (line_end rest) ≡ Ok (Whole command n)
    → (end : List ℕ) × (rest ≡ end) × IsLineEnd end × IsWhole text tagged [] command n
closed_whole login text tagged rest command n e = go (line_end rest) refl e
  where
    go : (reading : Reading (Unit {0})) → line_end rest ≡ reading → closed login text tagged reading ≡ Ok (Whole command n)
        → (end : List ℕ) × (rest ≡ end) × IsLineEnd end × IsWhole text tagged [] command n
    go (got u more) i j =
        let own = has_read End line_end rest more u reads_end i in
        let whole = ended_whole text tagged more command n j in
        (own.0, own.1 ∙ ap (λ l. own.0 ++ l) whole.0 ∙ append-nil own.0, own.2, (refl, whole.1, whole.2, whole.3))
    go (wrong more) i j = absurd (wrong_no login text (length text - length more) command n j)
    go short i j = absurd (long_no text (length text) command n j)
    go (marked count) i j = absurd (long_no text (length text) command n j)

marker_whole : (login : Bool) (text : List ℕ) (tagged : Tagged) (size : ℕ) (rest : List ℕ) (command : Command) (n : ℕ)
    → at_marker login text tagged size rest ≡ Ok (Whole command n)
    → (size ≤ max_message) × IsLineEnd rest × IsWhole text tagged [] command n
marker_whole login text tagged size rest command n e = go (leb max_text (length text - length rest)) (ltb max_message size) refl rest refl e
  where
    go : (c d : Bool) → ltb max_message size ≡ d → (l : List ℕ) → rest ≡ l
        → (let answer : Outcome = if c then Err TooLong else if d then Err MessageTooLarge else after_marker login text tagged size l in answer) ≡ Ok
        (Whole command n) → (size ≤ max_message) × IsLineEnd rest × IsWhole text tagged [] command n
    go true d i l j k = absurd cc
    go false true i l j k = absurd cc
    go false false i [] j k = absurd cc
    go false false i (b ∷ bs) j k =
        let own = closed_whole login text tagged (b ∷ bs) command n k in
        (less max_message size i, subst IsLineEnd (sym (j ∙ own.1)) own.2, own.3)

-- the answer of a reading that is whole
before_whole : (login : Bool) (text : List ℕ) (tagged : Tagged) (rest : List ℕ) (command : Command) (n : ℕ)
    → read_before login text tagged (message_size tagged.command) rest ≡ Ok (Whole command n)
    → RestOf (message_size tagged.command) rest × IsSmall (message_size tagged.command) × IsWhole text tagged [] command n
before_whole login text tagged rest command n e = go (message_size tagged.command) e
  where
    go : (o : Option ℕ) → read_before login text tagged o rest ≡ Ok (Whole command n) → RestOf o rest × IsSmall o × IsWhole text tagged [] command n
    go None i = let own = ended_whole text tagged rest command n i in (own.0, tt, (refl, own.1, own.2, own.3))
    go (Some size) i = let own = marker_whole login text tagged size rest command n i in (own.1, own.0, own.2)

-- a text that is this command, with a tag of n bytes, and not too large
abbrev IsText : Bool → List ℕ → Command → ℕ → Type 0
IsText login text command n = IsCommand login text (record { tag = take n text; command = command }) × (n ≤ length text) × IsWithinBounds text command

pub whole_is : (login : Bool) (text : List ℕ) (command : Command) (n : ℕ) → progress_in login text ≡ Ok (Whole command n) → IsText login text command n
whole_is login text command n e = go (command_at login text) refl e
  where
    tagged_by : (tagged : Tagged) → tagged.command ≡ command → length tagged.tag ≡ n → take (length tagged.tag) text ≡ tagged.tag
        → tagged ≡ record { tag = take n text; command = command }
    tagged_by tagged i j k = same tagged.tag (take n text) tagged.command command (sym k ∙ ap (λ m. take m text) j) i
      where
        same : (s t : List ℕ) (c d : Command) → s ≡ t → c ≡ d → ◌≡◌ {A = Tagged} (record { tag = s; command = c }) (record { tag = t; command = d })
        same s t c d i j = cc

    go : (reading : Reading Tagged) → command_at login text ≡ reading → progress_of login text reading ≡ Ok (Whole command n) → IsText login text command n
    go (got tagged rest) i j =
        let read = command_read login text rest tagged i in
        let own = before_whole login text tagged rest command n j in
        let is : IsCommand login text tagged = subst (λ l. IsCommand login l tagged) (sym read.2) (ended_command login read.0 rest tagged read.1 own.0) in
        let first = tag_first login text tagged is in
        let whole = own.2 in
        let small : IsSmall (message_size command) = subst (λ c. IsSmall (message_size c)) whole.2 own.1 in (
          subst (IsCommand login text) (tagged_by tagged whole.2 whole.3 first.0) is,
          subst (λ m. m ≤ length text) whole.3 first.1,
          record { short = whole.1; small = small },
        )
    go (wrong rest) i j = absurd (wrong_no login text (length text - length rest) command n j)
    go short i j = absurd (long_no text (length text) command n j)
    go (marked count) i j = absurd (literal_no text count command n j)

-- the answer of a command that is not too large
ended_answer : (text : List ℕ) (tagged : Tagged) → length text ≤ max_text → ended_before text tagged [] ≡ Ok (Whole tagged.command (length tagged.tag))
ended_answer text tagged le = cond-false (ltb max_text (length text - 0)) (Err TooLong) (whole_before text tagged [])
    (not_less max_text (length text - 0) (omega (arith, le)))

line_answer : (login : Bool) (text : List ℕ) (tagged : Tagged) (size : ℕ) (end : List ℕ) → IsLineEnd end
    → after_marker login text tagged size end ≡ ended_before text tagged []
line_answer login text tagged size end (inl e) = ap (after_marker login text tagged size) e
line_answer login text tagged size end (inr e) = ap (after_marker login text tagged size) e

end_some : (end : List ℕ) → IsLineEnd end → 0 < length end
end_some end (inl e) = let sized : length end ≡ 1 = ap length e in omega (arith, sized)
end_some end (inr e) = let sized : length end ≡ 2 = ap length e in omega (arith, sized)

before_answer : (login : Bool) (text : List ℕ) (tagged : Tagged) (o : Option ℕ) (rest : List ℕ) → RestOf o rest → length rest ≤ length text
    → length text ≤ max_text → IsSmall o
    → read_before login text tagged o rest ≡ Ok (Whole tagged.command (length tagged.tag))
before_answer login text tagged None rest none le le2 small = ap (ended_before text tagged) none ∙ ended_answer text tagged le2
before_answer login text tagged (Some size) rest is_end le le2 small =
    let some = end_some rest is_end in
    cond-false (leb max_text (length text - length rest)) (Err TooLong)
    (if ltb max_message size then Err MessageTooLarge else after_marker login text tagged size rest)
    (not_least max_text (length text - length rest) (omega (arith, some, le, le2)))
    ∙ cond-false (ltb max_message size) (Err MessageTooLarge) (after_marker login text tagged size rest) (not_less max_message size small)
    ∙ line_answer login text tagged size rest is_end ∙ ended_answer text tagged le2

rest_fits : (login : Bool) (text rest : List ℕ) (tagged : Tagged) → command_at login text ≡ got tagged rest → length rest ≤ length text
rest_fits login text rest tagged e =
    let read = command_read login text rest tagged e in
    let sized : length text ≡ length (read.0 ++ rest) = ap length read.2 in
    let parts = length-append read.0 rest in
    omega (arith, sized, parts)

pub tagged_whole : (login : Bool) (text : List ℕ) (tagged : Tagged) → IsCommand login text tagged → IsWithinBounds text tagged.command
    → progress_in login text ≡ Ok (Whole tagged.command (length tagged.tag))
tagged_whole login text tagged is within =
    let own = command_rest login text [] tagged is in
    let read : command_at login text ≡ got tagged own.0 = ap (command_at login) (sym (append-nil text)) ∙ own.2 ∙ ap (got tagged) (append-nil own.0) in
    ap (progress_of login text) read ∙ before_answer login text tagged (message_size tagged.command) own.0 own.1
    (rest_fits login text own.0 tagged read) within.short within.small

pub is_whole : (login : Bool) (text : List ℕ) (command : Command) (n : ℕ) → IsText login text command n → progress_in login text ≡ Ok (Whole command n)
is_whole login text command n (is, le, within) =
    tagged_whole login text (record { tag = take n text; command = command }) is within ∙ ap (λ m. Ok (Whole command m)) (length-take-le n text le)

pub command_is : (login : Bool) (text : List ℕ) (command : Command) → command_in login text ≡ Ok command
    → (tag : List ℕ) × IsCommand login text (record { tag = tag; command = command }) × IsWithinBounds text command
command_is login text command e = go (progress_in login text) refl e
  where
    go : (answer : Outcome) → progress_in login text ≡ answer → command_of login text answer ≡ Ok command
        → (tag : List ℕ) × IsCommand login text (record { tag = tag; command = command }) × IsWithinBounds text command
    go (Ok (Whole own n)) i j =
        let same : own ≡ command = cc in
        let is = whole_is login text command n (i ∙ ap (λ c. Ok (Whole c n)) same) in
        (take n text, is.0, is.2)
    go (Ok (Literal count)) i j = absurd cc
    go (Ok (Message count)) i j = absurd cc
    go (Ok (More at)) i j = absurd cc
    go (Err fault) i j = absurd cc

pub is_command : (login : Bool) (text : List ℕ) (command : Command)
    → (tag : List ℕ) × IsCommand login text (record { tag = tag; command = command }) × IsWithinBounds text command → command_in login text ≡ Ok command
is_command login text command (tag, is, within) = ap (command_of login text) (tagged_whole login text (record { tag = tag; command = command }) is within)
