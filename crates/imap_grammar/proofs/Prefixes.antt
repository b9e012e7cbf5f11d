-- A text that a command of the session goes on from is wrong at its end.
use Rattle.std.proofs.Common.{◌≡◌, ℕ, ◌+◌, ◌-◌, ◌<◌, Bool, true, false, ◌||◌, ltb, leb, lt-ltb, le-leb, List, [], ◌∷◌, ◌++◌, length, map, take, codes, Option, Some, None, Result, Ok, Err, refl, sym, ap, ◌∙◌, subst, inl, inr, arith, if◌then◌else◌, eqb, append_assoc, append-nil, length-append}
use Rattle.std.specs.List.{list_all}
use Rattle.std.specs.Char.{to_ascii_lowercase}
use Rattle.std.proofs.lemmas.Bool.{and_parts, and_from, or_left, or_right}
use Rattle.std.proofs.lemmas.Bool.Decides.{nat_tests}
use Rattle.std.proofs.lemmas.List.{take_at, take-map, length-map}
use Rattle.std.proofs.lemmas.Slice.Eq.{bytes_eq-Decides}
use Rattle.imap_grammar.specs.declared.command.Command.{Command}
use Rattle.imap_grammar.specs.declared.command.CommandFault.{CommandFault}
use Rattle.imap_grammar.specs.declared.command.CommandFault.TheVariants.{TooLong, InvalidTag, Unknown, Syntax, LiteralTooLarge, MessageTooLarge}
use Rattle.imap_grammar.specs.declared.progress.Progress.{Progress}
use Rattle.imap_grammar.specs.declared.progress.Progress.TheVariants.{Literal, More}
use Rattle.imap_grammar.specs.declared.word.Word.{Word}
use Rattle.imap_grammar.specs.declared.word.Word.TheVariants.{Capability as CapabilityWord, Noop as NoopWord, Logout as LogoutWord, Login as LoginWord, GetQuota as GetQuotaWord, GetQuotaRoot as GetQuotaRootWord, SetQuota as SetQuotaWord, Status as StatusWord, Append as AppendWord}
use Rattle.imap_grammar.specs.Bytes.{is_tag_byte, is_letter}
use Rattle.imap_grammar.specs.Grammar.{Tagged, IsTag, IsWord, IsLineEnd, IsCommand}
use Rattle.imap_grammar.specs.Reading.{Reading, got, wrong, short, marked, and_then, ◌>>=◌, byte, line_end}
use Rattle.imap_grammar.specs.Commands.{word_of, is_tag_long, arguments_of, command_at}
use Rattle.imap_grammar.specs.Faults.{taken, untaken, tag_in, begins_line_end, word_in, denial, word_fault, fault_after_tag, line_fault, begins_as, begins_common, begins_quota, begins_mailbox, begins_word, are_letters, fault_in_word, fault_at_end}
use Rattle.imap_grammar.specs.Places.{BeginsCommand, EndsWord, HasOpenWord}
use Rattle.imap_grammar.specs.Progressing.{Outcome, max_text, max_message, message_size, long_or, closed, after_marker, at_marker, read_before, at_literal, progress_of, progress_in, command_of, command_in}
use Rattle.imap_grammar.proofs.Words.{letters_of, word_read, word_letters}
use Rattle.imap_grammar.proofs.Table.{RestOf, command_rest}
use Rattle.imap_grammar.proofs.Splits.{NoLetter, no_letter, IsSplit, all_taken, many_all, read_split, stop_byte}
use Rattle.imap_grammar.proofs.Commands.{tag_with, after_tag}
use Rattle.imap_grammar.proofs.SpelledCommands.{tag_spelled}
use Rattle.imap_grammar.proofs.Unended.{untaken_stops, split_here, all_of, all_short, Cut, text_cut}
use Rattle.imap_grammar.proofs.Growing.{Grows}
use Rattle.imap_grammar.proofs.CommandSteps.{lined_command}

taken_past : (is : ℕ → Bool) (a b : List ℕ) → list_all is a ≡ true → taken is (a ++ b) ≡ a ++ taken is b
taken_past is [] b e = refl
taken_past is (x ∷ xs) b e =
    let own = and_parts (is x) (list_all is xs) e in
    ap (λ c. if c then x ∷ taken is (xs ++ b) else []) own.0 ∙ ap (λ l. x ∷ l) (taken_past is xs b own.1)

untaken_past : (is : ℕ → Bool) (a b : List ℕ) → list_all is a ≡ true → untaken is (a ++ b) ≡ untaken is b
untaken_past is [] b e = refl
untaken_past is (x ∷ xs) b e =
    let own = and_parts (is x) (list_all is xs) e in
    ap (λ c. if c then untaken is (xs ++ b) else x ∷ (xs ++ b)) own.0 ∙ untaken_past is xs b own.1

-- the bytes up to one that fails the test, and from it on
taken_here : (is : ℕ → Bool) (a : List ℕ) (b : ℕ) (bs : List ℕ) → list_all is a ≡ true → is b ≡ false → taken is (a ++ b ∷ bs) ≡ a
taken_here is a b bs e stops = taken_past is a (b ∷ bs) e ∙ ap (λ c. a ++ (if c then b ∷ taken is bs else [])) stops ∙ append-nil a

untaken_here : (is : ℕ → Bool) (a : List ℕ) (b : ℕ) (bs : List ℕ) → list_all is a ≡ true → is b ≡ false → untaken is (a ++ b ∷ bs) ≡ b ∷ bs
untaken_here is a b bs e stops = untaken_past is a (b ∷ bs) e ∙ ap (λ c. if c then untaken is bs else b ∷ bs) stops

-- a word is the bytes up to its end
not_end : (x : ℕ) (l : List ℕ) → is_letter x ≡ true → (eqb x 32 || begins_line_end (x ∷ l)) ≡ false
not_end x l e = go (eqb x 32 || begins_line_end (x ∷ l)) refl
  where
    go : (c : Bool) → (eqb x 32 || begins_line_end (x ∷ l)) ≡ c → c ≡ false
    go true i = let no : true ≡ false = sym e ∙ stop_byte x l i in absurd cc
    go false i = refl

word_here : (letters rest : List ℕ) → list_all is_letter letters ≡ true → EndsWord rest → word_in (letters ++ rest) ≡ letters
word_here [] [] each ends = refl
word_here [] (b ∷ bs) each ends = ap (λ c. if c then [] else b ∷ word_in bs) ends
word_here (x ∷ xs) rest each ends =
    let own = and_parts (is_letter x) (list_all is_letter xs) each in
    ap (λ c. if c then [] else x ∷ word_in (xs ++ rest)) (not_end x (xs ++ rest) own.0) ∙ ap (λ l. x ∷ l) (word_here xs rest own.1 ends)

-- the fault of a text with a tag and a word that is allowed
pub split_fault : (login : Bool) (text : List ℕ) (at : ℕ) → IsSplit login text → line_fault login text at ≡ Syntax at
split_fault login text at split =
    let line = split.letters ++ split.rest in
    let fits : is_tag_long split.tag ≡ true = and_from (ltb 0 (length split.tag)) (leb (length split.tag) 64) (lt-ltb 0 (length split.tag) split.is_tag.some)
    (le-leb (length split.tag) 64 split.is_tag.short) in
    ap (λ t. line_fault login t at) split.parts
    ∙ ap (λ t. if is_tag_long t then fault_after_tag login at (untaken is_tag_byte (split.tag ++ 32 ∷ line)) else InvalidTag)
    (taken_here is_tag_byte split.tag 32 line split.is_tag.each refl)
    ∙ ap (λ c. if c then fault_after_tag login at (untaken is_tag_byte (split.tag ++ 32 ∷ line)) else InvalidTag) fits
    ∙ ap (fault_after_tag login at) (untaken_here is_tag_byte split.tag 32 line split.is_tag.each refl)
    ∙ ap (λ w. word_fault login at (word_of w)) (word_here split.letters split.rest (word_letters split.letters split.word split.is_word) split.ends)
    ∙ ap (word_fault login at) (word_read split.letters split.word split.is_word)
    ∙ ap (λ c. if c then Syntax at else denial login) split.allowed

-- a word begins with its first letters
as_begun : (line more name : List ℕ) → map to_ascii_lowercase (line ++ more) ≡ name → map to_ascii_lowercase name ≡ name → begins_as line name ≡ true
as_begun line more name e low =
    let n = length line in
    let size : length name ≡ length line + length more = ap length (sym e) ∙ length-map (line ++ more) to_ascii_lowercase ∙ length-append line more in
    let same : map to_ascii_lowercase line ≡ map to_ascii_lowercase (take n name) = ap (map to_ascii_lowercase) (sym (take_at line more n refl))
    ∙ sym (take-map to_ascii_lowercase n (line ++ more)) ∙ ap (take n) (e ∙ sym low) ∙ take-map to_ascii_lowercase n name in
    and_from (leb n (length name)) _ (le-leb n (length name) (omega (arith, size)))
    ((bytes_eq-Decides (map to_ascii_lowercase line) (map to_ascii_lowercase (take n name))).1 same)

as_common : (line : List ℕ) → begins_common line ≡ true → begins_word line ≡ true
as_common line e = or_left (begins_common line) (begins_as line (codes "login") || (begins_quota line || begins_mailbox line)) e

as_other : (line : List ℕ) → (begins_quota line || begins_mailbox line) ≡ true → begins_word line ≡ true
as_other line e =
    or_right (begins_common line) (begins_as line (codes "login") || (begins_quota line || begins_mailbox line))
    (or_right (begins_as line (codes "login")) (begins_quota line || begins_mailbox line) e)

as_quota : (line : List ℕ) → begins_quota line ≡ true → begins_word line ≡ true
as_quota line e = as_other line (or_left (begins_quota line) (begins_mailbox line) e)

as_mailbox : (line : List ℕ) → begins_mailbox line ≡ true → begins_word line ≡ true
as_mailbox line e = as_other line (or_right (begins_quota line) (begins_mailbox line) e)

word_begun : (line more : List ℕ) (word : Word) → IsWord (letters_of word) (line ++ more) → begins_word line ≡ true
word_begun line more CapabilityWord e = as_common line
    (or_left (begins_as line (codes "capability")) (begins_as line (codes "noop") || begins_as line (codes "logout")) (as_begun line more (codes "capability") e refl))
word_begun line more NoopWord e = as_common line
    (or_right (begins_as line (codes "capability")) (begins_as line (codes "noop") || begins_as line (codes "logout"))
    (or_left (begins_as line (codes "noop")) (begins_as line (codes "logout")) (as_begun line more (codes "noop") e refl)))
word_begun line more LogoutWord e = as_common line
    (or_right (begins_as line (codes "capability")) (begins_as line (codes "noop") || begins_as line (codes "logout"))
    (or_right (begins_as line (codes "noop")) (begins_as line (codes "logout")) (as_begun line more (codes "logout") e refl)))
word_begun line more LoginWord e =
    or_right (begins_common line) (begins_as line (codes "login") || (begins_quota line || begins_mailbox line))
    (or_left (begins_as line (codes "login")) (begins_quota line || begins_mailbox line) (as_begun line more (codes "login") e refl))
word_begun line more GetQuotaWord e = as_quota line
    (or_left (begins_as line (codes "getquota")) (begins_as line (codes "getquotaroot") || begins_as line (codes "setquota"))
    (as_begun line more (codes "getquota") e refl))
word_begun line more GetQuotaRootWord e = as_quota line
    (or_right (begins_as line (codes "getquota")) (begins_as line (codes "getquotaroot") || begins_as line (codes "setquota"))
    (or_left (begins_as line (codes "getquotaroot")) (begins_as line (codes "setquota")) (as_begun line more (codes "getquotaroot") e refl)))
word_begun line more SetQuotaWord e = as_quota line
    (or_right (begins_as line (codes "getquota")) (begins_as line (codes "getquotaroot") || begins_as line (codes "setquota"))
    (or_right (begins_as line (codes "getquotaroot")) (begins_as line (codes "setquota")) (as_begun line more (codes "setquota") e refl)))
word_begun line more StatusWord e = as_mailbox line
    (or_left (begins_as line (codes "status")) (begins_as line (codes "append")) (as_begun line more (codes "status") e refl))
word_begun line more AppendWord e = as_mailbox line
    (or_right (begins_as line (codes "status")) (begins_as line (codes "append")) (as_begun line more (codes "append") e refl))

none_taken : (rest : List ℕ) → NoLetter rest → taken is_letter rest ≡ []
none_taken [] apart = refl
none_taken (b ∷ bs) apart = ap (λ c. if c then b ∷ taken is_letter bs else []) apart

letters_begun : (line more letters rest : List ℕ) (word : Word) → line ++ more ≡ letters ++ rest → NoLetter rest → IsWord (letters_of word) letters
    → are_letters line ≡ true → begins_word line ≡ true
letters_begun line more letters rest word e apart is each =
    let same : line ++ taken is_letter more ≡ letters = sym (taken_past is_letter line more each) ∙ ap (taken is_letter) e
    ∙ taken_past is_letter letters rest (word_letters letters word is) ∙ ap (λ l. letters ++ l) (none_taken rest apart) ∙ append-nil letters in
    word_begun line (taken is_letter more) word (subst (IsWord (letters_of word)) (sym same) is)

module _ (login : Bool) (text more : List ℕ) (at : ℕ) (split : IsSplit login (text ++ more)) where
  abbrev line : List ℕ
  line = split.letters ++ split.rest

  tag_fault : untaken is_tag_byte text ≡ [] → fault_at_end at (tag_in text) [] ≡ Syntax at
  tag_fault none =
      let each = all_of is_tag_byte text none in
      let same : text ++ taken is_tag_byte more ≡ split.tag = sym (taken_past is_tag_byte text more each) ∙ ap (taken is_tag_byte) split.parts
      ∙ taken_here is_tag_byte split.tag 32 line split.is_tag.each refl in
      let whole : text ≡ tag_in text = split_here is_tag_byte text [] none ∙ append-nil (tag_in text) in
      let size : length text + length (taken is_tag_byte more) ≡ length split.tag = sym (length-append text (taken is_tag_byte more)) ∙ ap length same in
      let own : length text ≡ length (tag_in text) = ap length whole in
      let most = split.is_tag.short in
      ap (λ c. if c then Syntax at else InvalidTag) (le-leb (length (tag_in text)) 64 (omega (arith, size, own, most)))

  line_fault_end : (b : ℕ) (bs : List ℕ) → untaken is_tag_byte text ≡ b ∷ bs → fault_in_word at bs ≡ Syntax at
  line_fault_end b bs e =
      let stops = untaken_stops is_tag_byte text b bs e in
      let here : text ++ more ≡ tag_in text ++ b ∷ (bs ++ more) = ap (λ l. l ++ more) (split_here is_tag_byte text (b ∷ bs) e) ∙ append_assoc (tag_in text) (b ∷ bs) more in
      let same : b ∷ (bs ++ more) ≡ 32 ∷ line = sym (untaken_here is_tag_byte (tag_in text) b (bs ++ more) (each_taken text) stops)
      ∙ ap (untaken is_tag_byte) (sym here ∙ split.parts) ∙ untaken_here is_tag_byte split.tag 32 line split.is_tag.each refl in
      let tail : bs ++ more ≡ line = cc in
      go (are_letters bs) refl (begins_word bs) refl (letters_begun bs more split.letters split.rest split.word tail (no_letter split.rest split.ends) split.is_word)
    where
      each_taken : (l : List ℕ) → list_all is_tag_byte (tag_in l) ≡ true
      each_taken l = all_taken is_tag_byte l

      go : (c : Bool) → are_letters bs ≡ c → (d : Bool) → begins_word bs ≡ d → (are_letters bs ≡ true → begins_word bs ≡ true) → fault_in_word at bs ≡ Syntax at
      go false i d j both = ap (λ c. if c then if begins_word bs then Syntax at else Unknown else Syntax at) i
      go true i true j both = ap (λ c. if c then if begins_word bs then Syntax at else Unknown else Syntax at) i ∙ ap (λ c. if c then Syntax at else Unknown) j
      go true i false j both = let no : true ≡ false = sym (both i) ∙ j in absurd cc

  prefix_end : fault_at_end at (tag_in text) (untaken is_tag_byte text) ≡ Syntax at
  prefix_end = go (untaken is_tag_byte text) refl
    where
      go : (l : List ℕ) → untaken is_tag_byte text ≡ l → fault_at_end at (tag_in text) l ≡ Syntax at
      go [] e = tag_fault e
      go (b ∷ bs) e = line_fault_end b bs e

not_less : (n : ℕ) → ltb n n ≡ false
not_less n = grind (arith, nat_tests)

-- the answer to a text that ends before a command does
end_of : (login other : Bool) (text more : List ℕ) → IsSplit other (text ++ more) → command_of login text (Ok (More (length text))) ≡ Err (Syntax (length text))
end_of login other text more split =
    ap (λ c. Err (if c then line_fault login text (length text) else fault_at_end (length text) (tag_in text) (untaken is_tag_byte text))) (not_less (length text))
    ∙ ap (λ f. Err f) (prefix_end other text more (length text) split)

-- a line's end of which a part and more bytes are there
cr_left : (rest more end : List ℕ) (b : ℕ) → IsLineEnd end → (b ∷ rest) ++ more ≡ end → 0 < length more → b ∷ rest ≡ 13 ∷ []
cr_left rest more end b (inl e) i lt =
    let size : length (b ∷ (rest ++ more)) ≡ 1 = ap length (i ∙ e) in
    let parts = length-append rest more in
    absurd (omega (arith, size, parts, lt))
cr_left [] more end b (inr e) i lt = let same : b ∷ more ≡ 13 ∷ 10 ∷ [] = i ∙ e in let head : b ≡ 13 = cc in ap (λ c. c ∷ []) head
cr_left (x ∷ xs) more end b (inr e) i lt =
    let size : length (b ∷ x ∷ (xs ++ more)) ≡ 2 = ap length (i ∙ e) in
    let parts = length-append xs more in
    absurd (omega (arith, size, parts, lt))

module _ (login : Bool) (text more : List ℕ) (tagged : Tagged) (lt : 0 < length more) (is : IsCommand login (text ++ more) tagged) (progress : Progress) where
  abbrev Wrong : Outcome → Type 0
  Wrong answer = answer ≡ Ok progress → command_of login text answer ≡ Err (Syntax (length text))

  rest_read : (end : List ℕ) × RestOf (message_size tagged.command) end × (command_at login (text ++ more) ≡ got tagged end)
  rest_read =
      let own = command_rest login (text ++ more) [] tagged is in
      (own.0, own.1, ap (command_at login) (sym (append-nil (text ++ more))) ∙ own.2 ∙ ap (got tagged) (append-nil own.0))

  whole_split : IsSplit login (text ++ more)
  whole_split = read_split login (text ++ more) rest_read.0 tagged rest_read.2

  grown : Grows more (command_at login text) (command_at login (text ++ more))
  grown = ((lined_command login).steady.goes_on text more).grows

  end_wrong : command_of login text (Ok (More (length text))) ≡ Err (Syntax (length text))
  end_wrong = end_of login login text more whole_split

  long_wrong : Wrong (long_or text (Ok (More (length text))))
  long_wrong e = go (leb max_text (length text)) e
    where
      go : (c : Bool) → Wrong (if c then Err TooLong else Ok (More (length text)))
      go true i = absurd cc
      go false i = end_wrong

  split_wrong : IsSplit login text → ◌≡◌ {A = Result Command CommandFault} (Err (line_fault login text (length text))) (Err (Syntax (length text)))
  split_wrong split = ap (λ f. Err f) (split_fault login text (length text) split)

  literal_wrong : (count : ℕ) → IsSplit login text → Wrong (long_or text (at_literal text count))
  literal_wrong count split e = go (leb max_text (length text)) (ltb max_text (length text + count)) e
    where
      go : (c d : Bool) → Wrong (if c then Err TooLong else if d then Err LiteralTooLarge else Ok (Literal count))
      go true d i = absurd cc
      go false true i = absurd cc
      go false false i = split_wrong split

  marker_wrong : (own : Tagged) (size : ℕ) (rest end : List ℕ) → IsSplit login text → IsLineEnd end → rest ++ more ≡ end → Wrong (at_marker login text own size rest)
  marker_wrong own size rest end split is_end e i = go (leb max_text (length text - length rest)) (ltb max_message size) rest e i
    where
      go : (c d : Bool) (l : List ℕ) → l ++ more ≡ end
          → Wrong (if c then Err TooLong else if d then Err MessageTooLarge else after_marker login text own size l)
      go true d l j k = absurd cc
      go false true l j k = absurd cc
      go false false [] j k = split_wrong split
      go false false (b ∷ bs) j k = subst (λ l. Wrong (closed login text own (line_end l))) (sym (cr_left bs more end b is_end j lt)) long_wrong k

  before_wrong : (own : Tagged) (o : Option ℕ) (rest end : List ℕ) → IsSplit login text → RestOf o end → rest ++ more ≡ end → Wrong (read_before login text own o rest)
  before_wrong own None rest end split none e i =
      let size : length (rest ++ more) ≡ 0 = ap length (e ∙ none) in
      let parts = length-append rest more in
      absurd (omega (arith, size, parts, lt))
  before_wrong own (Some size) rest end split is_end e i = marker_wrong own size rest end split is_end e i

  marked_split : (count : ℕ) → command_at login text ≡ marked count → IsSplit login text
  marked_split count read = go (untaken is_tag_byte text) refl
    where
      go : (l : List ℕ) → untaken is_tag_byte text ≡ l → IsSplit login text
      go [] e = let no : ◌≡◌ {A = Reading Tagged} short (marked count) = sym (all_short login text (all_of is_tag_byte text e)) ∙ read in absurd cc
      go (b ∷ line) e =
          let own = subst (Cut login text b line) read (text_cut login text b line e) in
          let word = own.2 in
          record {
            tag = tag_in text;
            letters = word.letters;
            rest = word.rest;
            word = word.word;
            is_tag = own.0;
            is_word = word.is_word;
            allowed = word.allowed;
            ends = word.ends;
            parts = own.1 ∙ ap (λ l. tag_in text ++ 32 ∷ l) word.parts;
          }

  prefix_wrong : Wrong (progress_in login text)
  prefix_wrong = go (command_at login text) refl grown
    where
      same_command : (own : Tagged) (rest end : List ℕ) → got own rest ≡ got tagged end → own ≡ tagged
      same_command own rest end e = cc

      same_rest : (own : Tagged) (rest end : List ℕ) → got own rest ≡ got tagged end → rest ≡ end
      same_rest own rest end e = cc

      apart : (rest end : List ℕ) → wrong rest ≡ got tagged end → ⊥
      apart rest end e = cc

      go : (reading : Reading Tagged) → command_at login text ≡ reading → Grows more reading (command_at login (text ++ more)) → Wrong (progress_of login text reading)
      go (got own rest) i j =
          let both = sym j ∙ rest_read.2 in
          before_wrong own (message_size own.command) rest rest_read.0 (read_split login text rest own i)
          (subst (λ t. RestOf (message_size t.command) rest_read.0) (sym (same_command own (rest ++ more) rest_read.0 both)) rest_read.1)
          (same_rest own (rest ++ more) rest_read.0 both)
      go (wrong rest) i j = absurd (apart (rest ++ more) rest_read.0 (sym j ∙ rest_read.2))
      go short i j = long_wrong
      go (marked count) i j = literal_wrong count (marked_split count i)

pub prefix_is_wrong : (login : Bool) (text more : List ℕ) (tagged : Tagged) (progress : Progress) → 0 < length more → IsCommand login (text ++ more) tagged
    → progress_in login text ≡ Ok progress → command_in login text ≡ Err (Syntax (length text))
prefix_is_wrong login text more tagged progress lt is e = prefix_wrong login text more tagged lt is progress e

-- a tag, a space and letters end too early
open_short : (login : Bool) (tag letters : List ℕ) → IsTag tag → list_all is_letter letters ≡ true → command_at login (tag ++ 32 ∷ letters) ≡ short
open_short login tag letters is each =
    ap (λ r. and_then r (λ t. byte 32 >>= (λ space. after_tag login t))) (tag_spelled tag 32 letters is refl)
    ∙ ap (λ r. and_then r (λ found. arguments_of login (word_of found) >>= tag_with tag)) (many_all is_letter letters each)

not_long : (n : ℕ) → n < max_text → leb max_text n ≡ false
not_long n lt = grind (arith, nat_tests)

-- a word that has not ended is not judged by the session
pub open_is_wrong : (login : Bool) (text : List ℕ) → HasOpenWord text → BeginsCommand text → length text < max_text
    → command_in login text ≡ Err (Syntax (length text))
open_is_wrong login text word (other, more, tagged, is) lt =
    let own = command_rest other (text ++ more) [] tagged is in
    let read = ap (command_at other) (sym (append-nil (text ++ more))) ∙ own.2 ∙ ap (got tagged) (append-nil own.0) in
    let split = read_split other (text ++ more) own.0 tagged read in
    ap (λ r. command_of login text (progress_of login text r))
    (ap (command_at login) word.parts ∙ open_short login word.tag word.letters word.is_tag word.each)
    ∙ ap (λ c. command_of login text (if c then Err TooLong else Ok (More (length text)))) (not_long (length text) lt)
    ∙ end_of login other text more split
