-- What is read is a command of the grammar, up to the marker of its message.
use Rattle.std.proofs.Common.{◌≡◌, ℕ, ◌<◌, ◌≤◌, Bool, true, false, List, [], ◌∷◌, ◌++◌, length, map, Option, Some, None, refl, sym, ap, ◌∙◌, subst, arith, if◌then◌else◌, append_assoc}
use Rattle.std.specs.List.{list_all}
use Rattle.std.specs.Char.{to_ascii_lowercase}
use Rattle.std.proofs.lemmas.Bool.Decides.{nat_tests}
use Rattle.imap_grammar.specs.declared.command.Command.{Command}
use Rattle.imap_grammar.specs.declared.word.Word.{Word}
use Rattle.imap_grammar.specs.Bytes.{is_tag_byte, is_letter}
use Rattle.imap_grammar.specs.Grammar.{Tagged, IsTag, IsWord, IsBody}
use Rattle.imap_grammar.specs.Reading.{Reading, Reader, got, wrong, short, marked, and_then, ◌>>=◌, gives, fails, byte, many}
use Rattle.imap_grammar.specs.Commands.{word_of, is_tag_long, checked_tag, tag_at, arguments_after, is_allowed, allowed_arguments, arguments_of, command_at}
use Rattle.imap_grammar.specs.Progressing.{message_size}
use Rattle.imap_grammar.proofs.ReaderLaws.{Agrees, Reads, IsReader}
use Rattle.imap_grammar.proofs.Steps.{Byte, reads_byte, Run, reads_many}
use Rattle.imap_grammar.proofs.Words.{letters_of, word_is}
use Rattle.imap_grammar.proofs.Arguments.{EndOf, Arguments, reads_arguments}

-- the bytes are this command with this tag, up to the marker of its message if it has one
abbrev pub IsRead : Bool → List ℕ → Tagged → Type 0
IsRead login bytes tagged = (body end : List ℕ) × IsTag tagged.tag × IsBody login body tagged.command × EndOf (message_size tagged.command) end
    × (bytes ≡ tagged.tag ++ 32 ∷ (body ++ end))

-- what was read first, and what then
pub both_got : {A B : Type 0} (reading : Reading A) (next : A → Reader B) (w : B) (end : List ℕ) → and_then reading next ≡ got w end
    → (v : A) × (rest : List ℕ) × (reading ≡ got v rest) × (next v rest ≡ got w end)
both_got (got v rest) next w end e = (v, rest, refl, e)
both_got (wrong rest) next w end e = absurd cc
both_got short next w end e = absurd cc
both_got (marked count) next w end e = absurd cc

-- what a reader has read
pub has_read : {A : Type 0} (P : List ℕ → A → Type 0) (f : Reader A) (text rest : List ℕ) (v : A) → IsReader P f → f text ≡ got v rest
    → (bytes : List ℕ) × (text ≡ bytes ++ rest) × P bytes v × ((next : List ℕ) → Agrees rest next → f (bytes ++ next) ≡ got v next)
has_read P f text rest v is e = subst (Reads P f text) e (is.each text)

no_reading : {A : Type 0} (text rest : List ℕ) (v : A) → fails text ≡ got v rest → ⊥
no_reading [] rest v e = cc
no_reading (b ∷ bs) rest v e = cc

checked : (c : Bool) (bytes text tag rest : List ℕ) → ((let reader : Reader (List ℕ) = if c then gives bytes else fails in reader) text ≡ got tag rest)
    → (c ≡ true) × (bytes ≡ tag) × (text ≡ rest)
checked true bytes text tag rest e = let same : bytes ≡ tag = cc in let ends : text ≡ rest = cc in (refl, same, ends)
checked false bytes text tag rest e = absurd (no_reading text rest tag e)

pub tag_fits : (bytes : List ℕ) → list_all is_tag_byte bytes ≡ true → is_tag_long bytes ≡ true → IsTag bytes
tag_fits bytes each fits =
    let some : 0 < length bytes = grind (arith, nat_tests) in
    let few : length bytes ≤ 64 = grind (arith, nat_tests) in
    record { some = some; short = few; each = each }

pub tag_read : (text tag rest : List ℕ) → tag_at text ≡ got tag rest → IsTag tag × (text ≡ tag ++ rest)
tag_read text tag rest e =
    let first = both_got (many is_tag_byte text) checked_tag tag rest e in
    let run = has_read (Run is_tag_byte) (many is_tag_byte) text first.1 first.0 (reads_many is_tag_byte) first.2 in
    let fits = checked (is_tag_long first.0) first.0 first.1 tag rest first.3 in
    let same : run.0 ≡ tag = sym run.2.0 ∙ fits.1 in
    let is : IsTag run.0 = tag_fits run.0 run.2.1 (ap is_tag_long (sym run.2.0) ∙ fits.0) in
    (subst IsTag same is, run.1 ∙ ap (λ l. l ++ first.1) same ∙ ap (λ l. tag ++ l) fits.2)

pub word_allowed : (login : Bool) (found : Option Word) (text rest : List ℕ) (command : Command) → arguments_of login found text ≡ got command rest
    → (word : Word) × (found ≡ Some word) × (is_allowed word login ≡ true) × (arguments_after word text ≡ got command rest)
word_allowed login None text rest command e = absurd (no_reading text rest command e)
word_allowed login (Some word) text rest command e = go (is_allowed word login) refl e
  where
    go : (c : Bool) → is_allowed word login ≡ c → allowed_arguments c word text ≡ got command rest
        → (w : Word) × (Some word ≡ Some w) × (is_allowed w login ≡ true) × (arguments_after w text ≡ got command rest)
    go true is i = (word, refl, is, i)
    go false is i = absurd (no_reading text rest command i)

-- the tag is given with the command
abbrev pub tag_with : List ℕ → Command → Reader Tagged
tag_with tag command = gives (record { tag = tag; command = command })

-- the reading of a command, after its tag and the space
abbrev pub after_tag : Bool → List ℕ → Reader Tagged
after_tag login tag = many is_letter >>= (λ letters. arguments_of login (word_of letters) >>= tag_with tag)

-- letters and arguments that were read are the text
joined : (text run letters rest bytes more end : List ℕ) → text ≡ run ++ rest → letters ≡ run → rest ≡ bytes ++ more → more ≡ end → text ≡ letters ++ (bytes ++ end)
joined text run letters rest bytes more end e i j k = e ∙ ap (λ l. l ++ rest) (sym i) ∙ ap (λ l. letters ++ l) (j ∙ ap (λ l. bytes ++ l) k)

pub arguments_read : (login : Bool) (tag text end : List ℕ) (tagged : Tagged) → after_tag login tag text ≡ got tagged end
    → (tagged.tag ≡ tag) × ((letters bytes : List ℕ) × Arguments login letters bytes tagged.command × (text ≡ letters ++ (bytes ++ end)))
arguments_read login tag text end tagged e =
    let first = both_got (many is_letter text) (λ letters. arguments_of login (word_of letters) >>= tag_with tag) tagged end e in
    let run = has_read (Run is_letter) (many is_letter) text first.1 first.0 (reads_many is_letter) first.2 in
    let second = both_got (arguments_of login (word_of first.0) first.1) (tag_with tag) tagged end first.3 in
    let own = word_allowed login (word_of first.0) first.1 second.1 second.0 second.2 in
    let is : IsWord (letters_of own.0) first.0 = word_is (map to_ascii_lowercase first.0) own.0 own.1 in
    let args = has_read (Arguments login first.0) (arguments_after own.0) first.1 second.1 second.0 (reads_arguments login first.0 own.0 own.2 is) own.3 in
    let same_tag : tagged.tag ≡ tag = same_tags tagged second.0 second.1 second.3 in
    let same_command : second.0 ≡ tagged.command = same_commands tagged second.0 second.1 second.3 in
    let same_rest : second.1 ≡ end = same_rests tagged second.0 second.1 second.3 in (
      same_tag,
      (
        first.0,
        args.0,
        subst (Arguments login first.0 args.0) same_command args.2,
        joined text run.0 first.0 first.1 args.0 second.1 end run.1 run.2.0 args.1 same_rest,
      ),
    )
  where
    same_tags : (t : Tagged) (command : Command) (rest : List ℕ) → got (record { tag = tag; command = command }) rest ≡ got t end → t.tag ≡ tag
    same_tags t command rest i = cc

    same_commands : (t : Tagged) (command : Command) (rest : List ℕ) → got (record { tag = tag; command = command }) rest ≡ got t end → command ≡ t.command
    same_commands t command rest i = cc

    same_rests : (t : Tagged) (command : Command) (rest : List ℕ) → got (record { tag = tag; command = command }) rest ≡ got t end → rest ≡ end
    same_rests t command rest i = cc

-- what is read is a command
pub command_read : (login : Bool) (text end : List ℕ) (tagged : Tagged) → command_at login text ≡ got tagged end
    → (bytes : List ℕ) × IsRead login bytes tagged × (text ≡ bytes ++ end)
command_read login text end tagged e =
    let first = both_got (tag_at text) (λ tag. byte 32 >>= (λ space. after_tag login tag)) tagged end e in
    let is_tag = tag_read text first.0 first.1 first.2 in
    let second = both_got (byte 32 first.1) (λ space. after_tag login first.0) tagged end first.3 in
    let spaced = has_read (Byte 32) (byte 32) first.1 second.1 second.0 (reads_byte 32) second.2 in
    let args = arguments_read login first.0 second.1 end tagged second.3 in
    with_tag first.0 first.1 second.1 is_tag.0 is_tag.1 (spaced.1 ∙ ap (λ l. l ++ second.1) spaced.2) args
  where
    with_tag : (tag rest line : List ℕ) → IsTag tag → text ≡ tag ++ rest → rest ≡ 32 ∷ line
        → (tagged.tag ≡ tag) × ((letters bytes : List ℕ) × Arguments login letters bytes tagged.command × (line ≡ letters ++ (bytes ++ end)))
        → (bytes : List ℕ) × IsRead login bytes tagged × (text ≡ bytes ++ end)
    with_tag tag rest line is i j (same, (letters, bytes, (own, stop, is_body, is_end, k), l)) = (
      tagged.tag ++ 32 ∷ ((letters ++ own) ++ stop),
      (letters ++ own, stop, subst IsTag (sym same) is, is_body, is_end, refl),
      i ∙ ap (λ t. t ++ rest) (sym same) ∙ ap (λ t. tagged.tag ++ t) (j ∙ ap (λ t. 32 ∷ t) (l ∙ ap (λ t. letters ++ (t ++ end)) k
          ∙ ap (λ t. letters ++ t) (append_assoc own stop end) ∙ sym (append_assoc letters own (stop ++ end)) ∙ sym (append_assoc (letters ++ own) stop end)))
          ∙ sym (append_assoc tagged.tag (32 ∷ ((letters ++ own) ++ stop)) end),
    )
