-- A syntax error names the place up to which a text begins a command.
use Rattle.std.proofs.Common.{◌≡◌, ℕ, suc, ◌+◌, ◌-◌, ◌<◌, ◌≤◌, ◌⊎◌, inl, inr, Bool, not, true, false, ltb, leb, List, [], ◌∷◌, ◌++◌, length, take, Option, Some, None, Result, Ok, Err, refl, sym, ap, ◌∙◌, subst, arith, if◌then◌else◌, append_assoc, append-nil, length-append}
use Rattle.std.specs.List.{list_all}
use Rattle.std.proofs.lemmas.Bool.Decides.{nat_tests}
use Rattle.std.proofs.lemmas.List.{take_at}
use Rattle.std.proofs.Math.Seq.{take-append-add, take-length}
use Rattle.imap_grammar.specs.declared.command.Command.{Command}
use Rattle.imap_grammar.specs.declared.command.CommandFault.{CommandFault}
use Rattle.imap_grammar.specs.declared.command.CommandFault.TheVariants.{TooLong, InvalidTag, Unknown, Syntax, LiteralTooLarge, MessageTooLarge}
use Rattle.imap_grammar.specs.declared.progress.Progress.TheVariants.{Whole, Literal, Message, More}
use Rattle.imap_grammar.specs.declared.word.Word.{Word}
use Rattle.imap_grammar.specs.Bytes.{is_tag_byte, is_letter}
use Rattle.imap_grammar.specs.Grammar.{Tagged, IsTag, IsWord, IsCommand}
use Rattle.imap_grammar.specs.Reading.{Reading, got, wrong, short, marked, and_then, gives, line_end}
use Rattle.imap_grammar.specs.Commands.{arguments_after, allowed_arguments, arguments_of, command_at, ended}
use Rattle.imap_grammar.specs.Faults.{untaken, tag_in, line_fault, are_letters, begins_word, fault_in_word, fault_at_end, unended_fault}
use Rattle.imap_grammar.specs.Places.{BeginsCommand, IsPlace, EndsWord, HasAllowedWord, HasOpenWord, EndsInWord}
use Rattle.imap_grammar.specs.Progressing.{Outcome, max_text, max_message, message_size, long_or, has_end, wrong_at, whole_before, ended_before, closed, after_marker, at_marker, read_before, at_literal, progress_of, progress_in, command_of, command_in}
use Rattle.imap_grammar.proofs.ReaderLaws.{Agrees, HasByte, GoesOn, Reads}
use Rattle.imap_grammar.proofs.Words.{letters_of, word_letters}
use Rattle.imap_grammar.proofs.Commands.{both_got, word_allowed, tag_with}
use Rattle.imap_grammar.proofs.Table.{RestOf, command_rest}
use Rattle.imap_grammar.proofs.Lines.{finish_by, finish, line_after, Line, reads_line, line_command, finished, no_arguments}
use Rattle.imap_grammar.proofs.Splits.{NoLetter, no_letter, IsSplit, taken_untaken, split_word, fault_split, read_split, split_at, split_end}
use Rattle.imap_grammar.proofs.Unended.{Begins, all_of, all_short, HasLine, Cut, text_cut, tag_begins, line_begins, letters_begin}

-- the place at which a line's reading stops, if it does not read the whole line
abbrev Stopped : List ℕ → ℕ → Reading Command → Type 0
Stopped text at (got command more) = HasByte more × (at ≡ length text - length more)
Stopped text at (wrong more) = at ≡ length text - length more
Stopped text at short = at ≡ length text
Stopped text at (marked count) = at ≡ length text

-- a command with this tag and this word is read by its line
whole_line : (login : Bool) (tag letters : List ℕ) (word : Word) (b : ℕ) (rest : List ℕ) (tagged : Tagged) → IsTag tag → IsWord (letters_of word) letters
    → is_letter b ≡ false
    → IsCommand login (tag ++ 32 ∷ (letters ++ b ∷ rest)) tagged → line_after word (b ∷ rest) ≡ got tagged.command []
whole_line login tag letters word b rest tagged is_tag is_word stops is =
    let text = tag ++ 32 ∷ (letters ++ b ∷ rest) in
    let own = command_rest login text [] tagged is in
    let read : and_then (arguments_of login (Some word) (b ∷ rest)) (tag_with tag) ≡ got tagged (own.0 ++ []) =
    sym (split_at login tag letters word b rest is_tag is_word stops) ∙ ap (command_at login) (sym (append-nil text)) ∙ own.2 in
    let first = both_got (arguments_of login (Some word) (b ∷ rest)) (tag_with tag) tagged (own.0 ++ []) read in
    let allowed = word_allowed login (Some word) (b ∷ rest) first.1 first.0 first.2 in
    done allowed.0 allowed.1 allowed.3 own.1 (same_command first.0 first.1 (own.0 ++ []) first.3)
    (same_rest first.0 first.1 (own.0 ++ []) first.3 ∙ append-nil own.0)
  where
    same_command : (c : Command) (r s : List ℕ) → got (record { tag = tag; command = c }) r ≡ got tagged s → c ≡ tagged.command
    same_command c r s e = cc

    same_rest : (c : Command) (r s : List ℕ) → got (record { tag = tag; command = c }) r ≡ got tagged s → r ≡ s
    same_rest c r s e = cc

    done : {c : Command} {r s : List ℕ} (w : Word) → Some word ≡ Some w → arguments_after w (b ∷ rest) ≡ got c r → RestOf (message_size tagged.command) s
        → c ≡ tagged.command → r ≡ s → line_after word (b ∷ rest) ≡ got tagged.command []
    done {c} {r} {s} w e i is_rest j k =
        let same : word ≡ w = cc in
        ap (λ v. line_after v (b ∷ rest)) same ∙ ap (λ l. and_then l finish) (i ∙ ap (λ d. got d r) j ∙ ap (got tagged.command) k)
        ∙ finished tagged.command s is_rest

-- no command begins with a prefix that is longer than the place
module _ (login : Bool) (text : List ℕ) (split : IsSplit login text) where
  -- the text up to where these bytes end
  abbrev upto : List ℕ → List ℕ
  upto bytes = split.tag ++ 32 ∷ (split.letters ++ bytes)

  upto_more : (bytes more : List ℕ) → upto (bytes ++ more) ≡ upto bytes ++ more
  upto_more bytes more = ap (λ l. split.tag ++ 32 ∷ l) (sym (append_assoc split.letters bytes more))
      ∙ sym (append_assoc split.tag (32 ∷ (split.letters ++ bytes)) more)

  first_apart : (bytes bs x : List ℕ) (b : ℕ) → NoLetter (bytes ++ b ∷ bs) → (c : ℕ) × (cs : List ℕ) × (bytes ++ b ∷ x ≡ c ∷ cs) × (is_letter c ≡ false)
  first_apart [] bs x b e = (b, x, refl, e)
  first_apart (c ∷ cs) bs x b e = (c, cs ++ b ∷ x, refl, e)

  -- a line that is not read whole is no command
  no_command : (other : Bool) (bytes bs x : List ℕ) (b : ℕ) (tagged : Tagged) → split.rest ≡ bytes ++ b ∷ bs
      → (line_after split.word (bytes ++ b ∷ x) ≡ got tagged.command [] → ⊥)
      → IsCommand other (upto (bytes ++ b ∷ x)) tagged → ⊥
  no_command other bytes bs x b tagged e not_whole is =
      let first = first_apart bytes bs x b (subst NoLetter e (no_letter split.rest split.ends)) in
      not_whole (ap (line_after split.word) first.2
      ∙ whole_line other split.tag split.letters split.word first.0 first.1 tagged split.is_tag split.is_word first.3
      (subst (λ l. IsCommand other (upto l) tagged) first.2 is))

  -- the text as far as the place
  module _ (bytes bs : List ℕ) (b : ℕ) (e : split.rest ≡ bytes ++ b ∷ bs) where
    here : text ≡ upto bytes ++ b ∷ bs
    here = split.parts ∙ ap upto e ∙ upto_more bytes (b ∷ bs)

    sized : length text ≡ length (upto bytes) + length (b ∷ bs)
    sized = ap length here ∙ length-append (upto bytes) (b ∷ bs)

    taken_here : (at : ℕ) → at ≡ length text - length (b ∷ bs) → take at text ≡ upto bytes
    taken_here at i = ap (take at) here ∙ take_at (upto bytes) (b ∷ bs) at (omega (arith, i, sized))

    longer : (n : ℕ) → length (upto bytes) < n → (x : List ℕ) × (take n text ≡ upto bytes ++ b ∷ x)
    longer n lt = (
      take (n - length (upto bytes) - 1) bs,
      ap (take n) here ∙ ap (λ m. take m (upto bytes ++ b ∷ bs)) split_n ∙ take-append-add (upto bytes) (b ∷ bs) (suc (n - length (upto bytes) - 1)),
    )
      where
        split_n : n ≡ length (upto bytes) + suc (n - length (upto bytes) - 1)
        split_n = omega (arith, lt)

    no_longer : (at : ℕ) → at ≡ length text - length (b ∷ bs)
        → ((x : List ℕ) (command : Command) → line_after split.word (bytes ++ b ∷ x) ≡ got command [] → ⊥)
        → (n : ℕ) → at < n → n ≤ length text → BeginsCommand (take n text) → ⊥
    no_longer at i not_whole n lt le (other, more, tagged, is) =
        let own = longer n (omega (arith, i, sized, lt)) in
        let joined : take n text ++ more ≡ upto (bytes ++ b ∷ (own.0 ++ more)) = ap (λ l. l ++ more) own.1 ∙ append_assoc (upto bytes) (b ∷ own.0) more
        ∙ sym (upto_more bytes (b ∷ (own.0 ++ more))) in
        no_command other bytes bs (own.0 ++ more) b tagged e (not_whole (own.0 ++ more) tagged.command) (subst (λ l. IsCommand other l tagged) joined is)

  -- bytes that go on to a line go on to a command
  begins_by : (bytes : List ℕ) → GoesOn (Line login split.letters) bytes → (more : List ℕ) × (tagged : Tagged) × IsCommand login (upto bytes ++ more) tagged
  begins_by bytes (more, command, is) = (
    more,
    record { tag = split.tag; command = command },
    subst (λ l. IsCommand login l (record { tag = split.tag; command = command })) (upto_more bytes more)
        (line_command login split.tag split.letters (bytes ++ more) command split.is_tag is),
  )

  begins_at : (at : ℕ) (bytes : List ℕ) → take at text ≡ upto bytes → GoesOn (Line login split.letters) bytes
      → (more : List ℕ) × (tagged : Tagged) × IsCommand login (take at text ++ more) tagged
  begins_at at bytes e on = let own = begins_by bytes on in (own.0, own.1, subst (λ l. IsCommand login (l ++ own.0) own.1) (sym e) own.2)

  at_end : (at : ℕ) → at ≡ length text → GoesOn (Line login split.letters) split.rest → IsPlace login text at
  at_end at e on = record {
    within = omega (arith, e);
    begins = begins_at at split.rest (ap (λ n. take n text) e ∙ take-length text ∙ split.parts) on;
    longest = λ n lt le own. absurd (omega (arith, e, lt, le));
  }

  at_byte : (at : ℕ) (bytes more : List ℕ) → HasByte more → split.rest ≡ bytes ++ more → at ≡ length text - length more
      → GoesOn (Line login split.letters) bytes
      → ((next : List ℕ) (command : Command) → Agrees more next → line_after split.word (bytes ++ next) ≡ got command [] → ⊥) → IsPlace login text at
  at_byte at bytes [] has e i on not_whole = absurd has
  at_byte at bytes (b ∷ bs) has e i on not_whole = record {
    within = omega (arith, i);
    begins = begins_at at bytes (taken_here bytes bs b e at i) on;
    longest = no_longer bytes bs b e at i (λ x command. not_whole (b ∷ x) command (x, refl));
  }

  stopped_place : (at : ℕ) (reading : Reading Command) → Reads (Line login split.letters) (line_after split.word) split.rest reading → Stopped text at reading
      → IsPlace login text at
  stopped_place at (got command more) (bytes, e, is, keeps) (has, i) =
      at_byte at bytes more has e i ([], command, subst (λ l. Line login split.letters l command) (sym (append-nil bytes)) is)
      (λ next other agree j. differs more next has agree (sym (keeps next agree) ∙ j))
    where
      differs : {c : Command} (more next : List ℕ) → HasByte more → Agrees more next → got command next ≡ got c [] → ⊥
      differs {c} [] next has agree k = has
      differs {c} (b ∷ bs) next has agree k = let none : next ≡ [] = cc in empty bs agree none
        where
          empty : (l : List ℕ) → (x : List ℕ) × (next ≡ b ∷ x) → next ≡ [] → ⊥
          empty l (x, m) none = cc
  stopped_place at (wrong more) (bytes, e, has, on, keeps) i =
      at_byte at bytes more has e i on (λ next other agree j. differs next other (sym (keeps next agree) ∙ j))
    where
      differs : (next : List ℕ) (c : Command) → wrong next ≡ got c [] → ⊥
      differs next c k = cc
  stopped_place at short on i = at_end at i on
  stopped_place at (marked count) on i = at_end at i on

  line_place : (at : ℕ) → Stopped text at (line_after split.word split.rest) → IsPlace login text at
  line_place at i = stopped_place at (line_after split.word split.rest)
      ((reads_line login split.letters split.word split.allowed split.is_word).each split.rest) i

-- which place a text's answer names
module _ (login : Bool) (text : List ℕ) (at : ℕ) where
  abbrev Names : Outcome → Type 0
  Names (Ok (Whole command tag)) = ⊥
  Names (Ok (Literal count)) = at ≡ length text
  Names (Ok (Message count)) = at ≡ length text
  Names (Ok (More place)) = at ≡ place
  Names (Err fault) = fault ≡ Syntax at

  fault_place : (place : ℕ) → line_fault login text place ≡ Syntax at → at ≡ place
  fault_place place e = (fault_split login text place at e).1

  long_place : (place : ℕ) → Names (long_or text (Ok (More place))) → at ≡ place
  long_place place e = go (leb max_text (length text)) e
    where
      go : (c : Bool) → Names (if c then Err TooLong else Ok (More place)) → at ≡ place
      go true i = absurd cc
      go false i = i

  wrong_place : (place : ℕ) → Names (wrong_at login text place) → at ≡ place
  wrong_place place e = go (has_end text place) e
    where
      go : (c : Bool) → Names (if c then Err (line_fault login text place) else long_or text (Ok (More place))) → at ≡ place
      go true i = fault_place place i
      go false i = long_place place i

  literal_place : (count : ℕ) → Names (long_or text (at_literal text count)) → at ≡ length text
  literal_place count e = go (leb max_text (length text)) (ltb max_text (length text + count)) e
    where
      go : (c d : Bool) → Names (if c then Err TooLong else if d then Err LiteralTooLarge else Ok (Literal count)) → at ≡ length text
      go true d i = absurd cc
      go false true i = absurd cc
      go false false i = i

  ended_place : (tagged : Tagged) (rest : List ℕ) → Names (ended_before text tagged rest) → HasByte rest × (at ≡ length text - length rest)
  ended_place tagged rest e = go (ltb max_text (length text - length rest)) rest e
    where
      go : (c : Bool) (l : List ℕ) → Names (if c then Err TooLong else whole_before text tagged l) → HasByte l × (at ≡ length text - length l)
      go true l i = absurd cc
      go false [] i = absurd i
      go false (b ∷ bs) i = let same : at ≡ length text - length (b ∷ bs) = cc in (tt, same)

  closed_place : (tagged : Tagged) (reading : Reading (Unit {0})) → Names (closed login text tagged reading)
      → Stopped text at (and_then reading (λ end. gives tagged.command))
  closed_place tagged (got end rest) e = ended_place tagged rest e
  closed_place tagged (wrong rest) e = wrong_place (length text - length rest) e
  closed_place tagged short e = long_place (length text) e
  closed_place tagged (marked count) e = long_place (length text) e

  marker_place : (tagged : Tagged) (size : ℕ) (rest : List ℕ) → Names (at_marker login text tagged size rest) → Stopped text at (ended tagged.command rest)
  marker_place tagged size rest e = go (leb max_text (length text - length rest)) (ltb max_message size) rest e
    where
      go : (c d : Bool) (l : List ℕ) → Names (if c then Err TooLong else if d then Err MessageTooLarge else after_marker login text tagged size l)
          → Stopped text at (ended tagged.command l)
      go true d l i = absurd cc
      go false true l i = absurd cc
      go false false [] i = i
      go false false (b ∷ bs) i = closed_place tagged (line_end (b ∷ bs)) i

  before_place : (tagged : Tagged) (o : Option ℕ) (rest : List ℕ) → Names (read_before login text tagged o rest)
      → Stopped text at (finish_by o tagged.command rest)
  before_place tagged None rest e = ended_place tagged rest e
  before_place tagged (Some size) rest e = marker_place tagged size rest e

  reading_place : (tag : List ℕ) (reading : Reading Command) → Names (progress_of login text (and_then reading (tag_with tag)))
      → Stopped text at (and_then reading finish)
  reading_place tag (got command rest) e = before_place (record { tag = tag; command = command }) (message_size command) rest e
  reading_place tag (wrong rest) e = wrong_place (length text - length rest) e
  reading_place tag short e = long_place (length text) e
  reading_place tag (marked count) e = literal_place count e

  same_fault : (one other : CommandFault) → ◌≡◌ {A = Result Command CommandFault} (Err one) (Err other) → one ≡ other
  same_fault one other e = cc

  -- the place of a text that goes on
  word_place : (place : ℕ) (line : List ℕ) → fault_in_word place line ≡ Syntax at → at ≡ place
  word_place place line e = go (are_letters line) (begins_word line) e
    where
      go : (c d : Bool) → (if c then if d then Syntax place else Unknown else Syntax place) ≡ Syntax at → at ≡ place
      go true true i = cc
      go true false i = absurd cc
      go false d i = cc

  end_place : (place : ℕ) (tag rest : List ℕ) → fault_at_end place tag rest ≡ Syntax at → at ≡ place
  end_place place tag [] e = go (leb (length tag) 64) e
    where
      go : (c : Bool) → (if c then Syntax place else InvalidTag) ≡ Syntax at → at ≡ place
      go true i = cc
      go false i = absurd cc
  end_place place tag (b ∷ bs) e = word_place place bs e

  unended_place : (place : ℕ) → unended_fault login text place ≡ Syntax at → at ≡ place
  unended_place place e = go (ltb place (length text)) e
    where
      go : (c : Bool) → (if c then line_fault login text place else fault_at_end place (tag_in text) (untaken is_tag_byte text)) ≡ Syntax at → at ≡ place
      go true i = fault_place place i
      go false i = end_place place (tag_in text) (untaken is_tag_byte text) i

  -- the answer of a text that has to be a command
  abbrev Ends : Outcome → Type 0
  Ends answer = command_of login text answer ≡ Err (Syntax at)

  ends_name : (answer : Outcome) → Ends answer → Names answer
  ends_name (Ok (Whole command tag)) e = absurd cc
  ends_name (Ok (Literal count)) e = fault_place (length text) (same_fault (line_fault login text (length text)) (Syntax at) e)
  ends_name (Ok (Message count)) e = fault_place (length text) (same_fault (line_fault login text (length text)) (Syntax at) e)
  ends_name (Ok (More place)) e = unended_place place (same_fault (unended_fault login text place) (Syntax at) e)
  ends_name (Err fault) e = same_fault fault (Syntax at) e

  -- a text that has a tag and a word that is allowed, or ends early
  abbrev Found : Type 0
  Found = IsSplit login text ⊎ ((at ≡ length text) × EndsInWord text × (Begins login text ⊎ (Begins (not login) text × HasOpenWord text)))

  tag_found : at ≡ length text → untaken is_tag_byte text ≡ [] → leb (length (tag_in text)) 64 ≡ true → Found
  tag_found i none few =
      let each = all_of is_tag_byte text none in
      let sized : length text ≡ length (tag_in text) = ap length (taken_untaken is_tag_byte text ∙ ap (λ l. tag_in text ++ l) none ∙ append-nil (tag_in text)) in
      let short : length (tag_in text) ≤ 64 = grind (arith, nat_tests) in
      inr (i, inl each, inl (tag_begins login text each (omega (arith, sized, short))))

  line_found : at ≡ length text → (line : List ℕ) → IsTag (tag_in text) → text ≡ tag_in text ++ 32 ∷ line → HasLine login line → Found
  line_found i line is e own = go own.ends
    where
      parts : text ≡ tag_in text ++ 32 ∷ (own.letters ++ own.rest)
      parts = e ∙ ap (λ l. tag_in text ++ 32 ∷ l) own.parts

      go : EndsWord own.rest ⊎ (own.rest ≡ 13 ∷ []) → Found
      go (inl ends) = inl (record {
        tag = tag_in text;
        letters = own.letters;
        rest = own.rest;
        word = own.word;
        is_tag = is;
        is_word = own.is_word;
        allowed = own.allowed;
        ends = ends;
        parts = parts;
      })
      go (inr return) = inr (
        i,
        inr (inr (
          tag_in text ++ 32 ∷ own.letters,
          record { tag = tag_in text; letters = own.letters; is_tag = is; each = word_letters own.letters own.word own.is_word; parts = refl },
          parts ∙ ap (λ l. tag_in text ++ 32 ∷ (own.letters ++ l)) return ∙ sym (append_assoc (tag_in text) (32 ∷ own.letters) (13 ∷ [])),
        )),
        inl (subst (Begins login) (sym parts) (line_begins login (tag_in text) own.letters own.rest is own.on)),
      )

  letters_found : at ≡ length text → (line : List ℕ) → IsTag (tag_in text) → text ≡ tag_in text ++ 32 ∷ line → list_all is_letter line ≡ true
      → begins_word line ≡ true → Found
  letters_found i line is e each begins = inr (i, inr (inl opened), go (letters_begin login (tag_in text) line is begins))
    where
      opened : HasOpenWord text
      opened = record { tag = tag_in text; letters = line; is_tag = is; each = each; parts = e }

      go : Begins login (tag_in text ++ 32 ∷ line) ⊎ Begins (not login) (tag_in text ++ 32 ∷ line) → Begins login text ⊎ (Begins (not login) text × HasOpenWord text)
      go (inl own) = inl (subst (Begins login) (sym e) own)
      go (inr own) = inr (subst (Begins (not login)) (sym e) own, opened)

  -- a text that was read up to its end
  short_found : at ≡ length text → (place : ℕ) → command_at login text ≡ short → fault_at_end place (tag_in text) (untaken is_tag_byte text) ≡ Syntax at → Found
  short_found i place read e = go (untaken is_tag_byte text) refl e
    where
      tag_by : untaken is_tag_byte text ≡ [] → (c : Bool) → leb (length (tag_in text)) 64 ≡ c → (if c then Syntax place else InvalidTag) ≡ Syntax at → Found
      tag_by none true few j = tag_found i none few
      tag_by none false few j = absurd cc

      begun : (line : List ℕ) → list_all is_letter line ≡ true → fault_in_word place line ≡ Syntax at → begins_word line ≡ true
      begun line each j = by (begins_word line) refl
          (sym (ap (λ c. if c then if begins_word line then Syntax place else Unknown else Syntax place) each) ∙ j)
        where
          by : (d : Bool) → begins_word line ≡ d → (if d then Syntax place else Unknown) ≡ Syntax at → begins_word line ≡ true
          by true k l = k
          by false k l = absurd cc

      cut : (b : ℕ) (line : List ℕ) → fault_in_word place line ≡ Syntax at → Cut login text b line short → Found
      cut b line j (is, parts, inl each) = letters_found i line is parts each (begun line each j)
      cut b line j (is, parts, inr own) = line_found i line is parts own

      go : (l : List ℕ) → untaken is_tag_byte text ≡ l → fault_at_end place (tag_in text) l ≡ Syntax at → Found
      go [] k j = tag_by k (leb (length (tag_in text)) 64) refl j
      go (b ∷ line) k j = cut b line j (subst (Cut login text b line) read (text_cut login text b line k))

  split_of : (place : ℕ) → line_fault login text place ≡ Syntax at → IsSplit login text
  split_of place e = (fault_split login text place at e).0

  -- a text that goes wrong at a byte
  wrong_less : (rest : List ℕ) → command_at login text ≡ wrong rest → length text - length rest < length text
  wrong_less rest read = go (untaken is_tag_byte text) refl
    where
      has : (l : List ℕ) → HasByte l → 0 < length l
      has [] own = absurd own
      has (b ∷ bs) own = omega arith

      go : (l : List ℕ) → untaken is_tag_byte text ≡ l → length text - length rest < length text
      go [] k = absurd (apart (sym (all_short login text (all_of is_tag_byte text k)) ∙ read))
        where
          apart : ◌≡◌ {A = Reading Tagged} short (wrong rest) → ⊥
          apart e = cc
      go (b ∷ line) k =
          let own = has rest (subst (Cut login text b line) read (text_cut login text b line k)) in
          let sized : length text ≡ length (tag_in text ++ b ∷ line) = ap length (taken_untaken is_tag_byte text ∙ ap (λ l. tag_in text ++ l) k) in
          let parts = length-append (tag_in text) (b ∷ line) in
          omega (arith, own, sized, parts)

  command_found : Ends (progress_in login text) → Found
  command_found e = go (command_at login text) refl e
    where
      unended : (place : ℕ) → place ≤ length text → (length text ≤ place → command_at login text ≡ short) → Ends (long_or text (Ok (More place))) → Found
      unended place le read i = by (leb max_text (length text)) i
        where
          at_last : at ≡ place → (c : Bool) → ltb place (length text) ≡ c
              → (if c then line_fault login text place else fault_at_end place (tag_in text) (untaken is_tag_byte text)) ≡ Syntax at → Found
          at_last same true k j = inl (split_of place j)
          at_last same false k j =
              let last : length text ≤ place = grind (arith, nat_tests) in
              short_found (omega (arith, same, le, last)) place (read last) j

          by : (c : Bool) → Ends (if c then Err TooLong else Ok (More place)) → Found
          by true j = absurd cc
          by false j =
              let own = same_fault (unended_fault login text place) (Syntax at) j in
              at_last (unended_place place own) (ltb place (length text)) refl own

      wrongly : (rest : List ℕ) → command_at login text ≡ wrong rest → Ends (wrong_at login text (length text - length rest)) → Found
      wrongly rest read i = by (has_end text (length text - length rest)) i
        where
          less : length text - length rest < length text
          less = wrong_less rest read

          by : (c : Bool) → Ends (if c then Err (line_fault login text (length text - length rest)) else long_or text (Ok (More (length text - length rest)))) → Found
          by true j = inl (split_of (length text - length rest) (same_fault (line_fault login text (length text - length rest)) (Syntax at) j))
          by false j = unended (length text - length rest) (omega (arith, less)) (λ last. absurd (omega (arith, less, last))) j

      literally : (count : ℕ) → Ends (long_or text (at_literal text count)) → Found
      literally count i = by (leb max_text (length text)) (ltb max_text (length text + count)) i
        where
          by : (c d : Bool) → Ends (if c then Err TooLong else if d then Err LiteralTooLarge else Ok (Literal count)) → Found
          by true d j = absurd cc
          by false true j = absurd cc
          by false false j = inl (split_of (length text) (same_fault (line_fault login text (length text)) (Syntax at) j))

      go : (reading : Reading Tagged) → command_at login text ≡ reading → Ends (progress_of login text reading) → Found
      go (got tagged rest) i j = inl (read_split login text rest tagged i)
      go (wrong rest) i j = wrongly rest i j
      go short i j = unended (length text) (omega arith) (λ last. i) j
      go (marked count) i j = literally count j

  -- a text that has a syntax error already
  progress_split : progress_in login text ≡ Err (Syntax at) → IsSplit login text
  progress_split e = go (command_at login text) refl e
    where
      long : (place : ℕ) → long_or text (Ok (More place)) ≡ Err (Syntax at) → IsSplit login text
      long place i = by (leb max_text (length text)) i
        where
          by : (c : Bool) → ◌≡◌ {A = Outcome} (if c then Err TooLong else Ok (More place)) (Err (Syntax at)) → IsSplit login text
          by true j = absurd cc
          by false j = absurd cc

      wrongly : (place : ℕ) → wrong_at login text place ≡ Err (Syntax at) → IsSplit login text
      wrongly place i = by (has_end text place) i
        where
          by : (c : Bool) → ◌≡◌ {A = Outcome} (if c then Err (line_fault login text place) else long_or text (Ok (More place))) (Err (Syntax at)) → IsSplit login text
          by true j = let same : line_fault login text place ≡ Syntax at = cc in split_of place same
          by false j = long place j

      literally : (count : ℕ) → long_or text (at_literal text count) ≡ Err (Syntax at) → IsSplit login text
      literally count i = by (leb max_text (length text)) (ltb max_text (length text + count)) i
        where
          by : (c d : Bool) → ◌≡◌ {A = Outcome} (if c then Err TooLong else if d then Err LiteralTooLarge else Ok (Literal count)) (Err (Syntax at)) → IsSplit login text
          by true d j = absurd cc
          by false true j = absurd cc
          by false false j = absurd cc

      go : (reading : Reading Tagged) → command_at login text ≡ reading → progress_of login text reading ≡ Err (Syntax at) → IsSplit login text
      go (got tagged rest) i j = read_split login text rest tagged i
      go (wrong rest) i j = wrongly (length text - length rest) j
      go short i j = long (length text) j
      go (marked count) i j = literally count j

  split_place : (split : IsSplit login text) → Names (progress_in login text) → Stopped text at (line_after split.word split.rest)
  split_place split e = go split.rest refl (no_letter split.rest split.ends)
    where
      go : (l : List ℕ) → split.rest ≡ l → NoLetter l → Stopped text at (line_after split.word l)
      go [] i apart =
          let text_is : text ≡ split.tag ++ 32 ∷ split.letters = split.parts ∙ ap (λ l. split.tag ++ 32 ∷ (split.letters ++ l)) i
          ∙ ap (λ l. split.tag ++ 32 ∷ l) (append-nil split.letters) in
          let read : command_at login text ≡ short = ap (command_at login) text_is
          ∙ split_end login split.tag split.letters split.word split.is_tag split.is_word in
          subst (λ r. Stopped text at (and_then r finish)) (sym (no_arguments split.word))
          (long_place (length text) (subst (λ r. Names (progress_of login text r)) read e))
      go (b ∷ bs) i stops =
          let text_is : text ≡ split.tag ++ 32 ∷ (split.letters ++ b ∷ bs) = split.parts ∙ ap (λ l. split.tag ++ 32 ∷ (split.letters ++ l)) i in
          let read : command_at login text ≡ and_then (arguments_after split.word (b ∷ bs)) (tag_with split.tag) =
          ap (command_at login) text_is ∙ split_at login split.tag split.letters split.word b bs split.is_tag split.is_word stops
          ∙ ap (λ c. and_then (allowed_arguments c split.word (b ∷ bs)) (tag_with split.tag)) split.allowed in
          reading_place split.tag (arguments_after split.word (b ∷ bs)) (subst (λ r. Names (progress_of login text r)) read e)

-- a text that goes on to a command goes wrong at its end
end_is : (login : Bool) (text : List ℕ) (at : ℕ) → at ≡ length text → Begins login text → IsPlace login text at
end_is login text at e (more, tagged, is) = record {
  within = omega (arith, e);
  begins = (more, tagged, subst (λ l. IsCommand login (l ++ more) tagged) (sym (ap (λ n. take n text) e ∙ take-length text)) is);
  longest = λ n lt le own. absurd (omega (arith, e, lt, le));
}

pub progress_place : (login : Bool) (text : List ℕ) (at : ℕ) → progress_in login text ≡ Err (Syntax at) → IsPlace login text at
progress_place login text at e =
    let split = progress_split login text at e in
    line_place login text split at (split_place login text at split (subst (Names login text at) (sym e) refl))

pub progress_word : (login : Bool) (text : List ℕ) (at : ℕ) → progress_in login text ≡ Err (Syntax at) → HasAllowedWord login text
progress_word login text at e = split_word login text (progress_split login text at e)

pub command_place : (login : Bool) (text : List ℕ) (at : ℕ) → command_in login text ≡ Err (Syntax at)
    → IsPlace login text at ⊎ (IsPlace (not login) text at × HasOpenWord text)
command_place login text at e = go (command_found login text at e)
  where
    go : Found login text at → IsPlace login text at ⊎ (IsPlace (not login) text at × HasOpenWord text)
    go (inl split) = inl (line_place login text split at (split_place login text at split (ends_name login text at (progress_in login text) e)))
    go (inr (i, ends, inl own)) = inl (end_is login text at i own)
    go (inr (i, ends, inr (own, word))) = inr (end_is (not login) text at i own, word)

pub command_word : (login : Bool) (text : List ℕ) (at : ℕ) → command_in login text ≡ Err (Syntax at)
    → HasAllowedWord login text ⊎ ((at ≡ length text) × EndsInWord text)
command_word login text at e = go (command_found login text at e)
  where
    go : Found login text at → HasAllowedWord login text ⊎ ((at ≡ length text) × EndsInWord text)
    go (inl split) = inl (split_word login text split)
    go (inr (i, ends, own)) = inr (i, ends)
