-- Texts that begin with a tag, a space and the word of a command that is allowed.
use Rattle.std.proofs.Common.{◌≡◌, ℕ, Bool, true, false, ◌&&◌, ◌||◌, List, [], ◌∷◌, ◌++◌, map, Option, Some, None, refl, sym, ap, ◌∙◌, arith, if◌then◌else◌, eqb, eqb-true}
use Rattle.std.specs.List.{list_all}
use Rattle.std.specs.Char.{to_ascii_lowercase}
use Rattle.std.proofs.lemmas.Bool.{and_parts}
use Rattle.std.proofs.lemmas.Bool.Decides.{nat_tests}
use Rattle.imap_grammar.specs.declared.command.Command.{Command}
use Rattle.imap_grammar.specs.declared.command.Command.TheVariants.{Capability, Noop, Logout, GetQuota, GetQuotaRoot}
use Rattle.imap_grammar.specs.declared.command.CommandFault.TheVariants.{InvalidTag, NotAuthenticated, AlreadyAuthenticated, Syntax}
use Rattle.imap_grammar.specs.declared.word.Word.{Word}
use Rattle.imap_grammar.specs.declared.word.Word.TheVariants.{Capability as CapabilityWord, Noop as NoopWord, Logout as LogoutWord, Login as LoginWord, GetQuota as GetQuotaWord, GetQuotaRoot as GetQuotaRootWord, SetQuota as SetQuotaWord, Status as StatusWord, Append as AppendWord}
use Rattle.imap_grammar.specs.Bytes.{is_tag_byte, is_letter}
use Rattle.imap_grammar.specs.Grammar.{Tagged, IsTag, IsWord}
use Rattle.imap_grammar.specs.Reading.{Reader, got, wrong, short, and_then, ◌>>=◌, gives, byte, line_end, many, with_first}
use Rattle.imap_grammar.specs.Commands.{word_of, is_tag_long, tag_at, name_alone, arguments_after, is_allowed, arguments_of, command_at}
use Rattle.imap_grammar.specs.Faults.{taken, untaken, tag_in, begins_with, begins_line_end, word_in, denial, word_fault, fault_after_tag, line_fault}
use Rattle.imap_grammar.specs.Places.{EndsWord, HasAllowedWord}
use Rattle.imap_grammar.proofs.Steps.{Byte, reads_byte, Run, reads_many}
use Rattle.imap_grammar.proofs.Spelled.{run_spelled}
use Rattle.imap_grammar.proofs.Words.{letters_of, word_is, word_read, word_letters}
use Rattle.imap_grammar.proofs.Commands.{both_got, has_read, tag_fits, tag_read, word_allowed, tag_with, after_tag}
use Rattle.imap_grammar.proofs.SpelledCommands.{tag_spelled}

-- no letter comes first
abbrev pub NoLetter : List ℕ → Type 0
NoLetter [] = Unit {0}
NoLetter (b ∷ bs) = is_letter b ≡ false

-- a text with a tag and a word, by the word's letters
pub record IsSplit (login : Bool) (text : List ℕ) : Type 0 where
  pub tag : List ℕ
  pub letters : List ℕ
  pub rest : List ℕ
  pub word : Word
  pub is_tag : IsTag tag
  pub is_word : IsWord (letters_of word) letters
  pub allowed : is_allowed word login ≡ true
  pub ends : EndsWord rest
  pub parts : text ≡ tag ++ 32 ∷ (letters ++ rest)

-- what a fault's text is split into
pub taken_untaken : (is : ℕ → Bool) (text : List ℕ) → text ≡ taken is text ++ untaken is text
taken_untaken is [] = refl
taken_untaken is (b ∷ bs) = go (is b) (taken_untaken is bs)
  where
    go : (c : Bool) → bs ≡ taken is bs ++ untaken is bs → b ∷ bs ≡ (if c then b ∷ taken is bs else []) ++ (if c then untaken is bs else b ∷ bs)
    go true more = ap (λ l. b ∷ l) more
    go false more = refl

pub all_taken : (is : ℕ → Bool) (text : List ℕ) → list_all is (taken is text) ≡ true
all_taken is [] = refl
all_taken is (b ∷ bs) = go (is b) refl (all_taken is bs)
  where
    go : (c : Bool) → is b ≡ c → list_all is (taken is bs) ≡ true → list_all is (if c then b ∷ taken is bs else []) ≡ true
    go true e more = ap (λ d. d && list_all is (taken is bs)) e ∙ more
    go false e more = refl

pub stop_byte : (b : ℕ) (bs : List ℕ) → (eqb b 32 || begins_line_end (b ∷ bs)) ≡ true → is_letter b ≡ false
stop_byte b bs e = go (eqb b 32) refl (eqb b 10) refl (eqb b 13) refl e
  where
    space : eqb b 32 ≡ true → is_letter b ≡ false
    space i = grind (arith, nat_tests)

    feed : eqb b 10 ≡ true → is_letter b ≡ false
    feed i = grind (arith, nat_tests)

    carriage : eqb b 13 ≡ true → is_letter b ≡ false
    carriage i = grind (arith, nat_tests)

    go : (c : Bool) → eqb b 32 ≡ c → (d : Bool) → eqb b 10 ≡ d → (f : Bool) → eqb b 13 ≡ f → (c || (d || (f && begins_with 10 bs))) ≡ true
        → is_letter b ≡ false
    go true i d j f k l = space i
    go false i true j f k l = feed j
    go false i false j true k l = carriage k
    go false i false j false k l = absurd cc

-- no letter comes after a word
pub no_letter : (rest : List ℕ) → EndsWord rest → NoLetter rest
no_letter [] is = tt
no_letter (b ∷ bs) is = stop_byte b bs is

word_rest : (text : List ℕ) → (rest : List ℕ) × (text ≡ word_in text ++ rest) × EndsWord rest
word_rest [] = ([], refl, tt)
word_rest (b ∷ bs) = go (eqb b 32 || begins_line_end (b ∷ bs)) refl (word_rest bs)
  where
    go : (c : Bool) → (eqb b 32 || begins_line_end (b ∷ bs)) ≡ c → (rest : List ℕ) × (bs ≡ word_in bs ++ rest) × EndsWord rest
        → (rest : List ℕ) × (b ∷ bs ≡ (if c then [] else b ∷ word_in bs) ++ rest) × EndsWord rest
    go true e more = (b ∷ bs, refl, e)
    go false e (rest, i, ends) = (rest, ap (λ l. b ∷ l) i, ends)

-- a syntax error is found after the word of a command that is allowed
word_split : (login : Bool) (at place : ℕ) (found : Option Word) → word_fault login at found ≡ Syntax place
    → (word : Word) × (found ≡ Some word) × (is_allowed word login ≡ true) × (place ≡ at)
word_split login at place None e = absurd cc
word_split login at place (Some word) e = go (is_allowed word login) refl e
  where
    denied : (c : Bool) → (if c then AlreadyAuthenticated else NotAuthenticated) ≡ Syntax place → ⊥
    denied true i = cc
    denied false i = cc

    go : (c : Bool) → is_allowed word login ≡ c → (if c then Syntax at else denial login) ≡ Syntax place
        → (w : Word) × (Some word ≡ Some w) × (is_allowed w login ≡ true) × (place ≡ at)
    go true i j = let same : place ≡ at = cc in (word, refl, i, same)
    go false i j = absurd (denied login j)

line_split : (login : Bool) (at place : ℕ) (text : List ℕ) → fault_after_tag login at text ≡ Syntax place
    → (line : List ℕ) × (text ≡ 32 ∷ line) × ((word : Word) × (word_of (word_in line) ≡ Some word) × (is_allowed word login ≡ true) × (place ≡ at))
line_split login at place [] e = absurd cc
line_split login at place (b ∷ bs) e = go (eqb b 32) refl e
  where
    go : (c : Bool) → eqb b 32 ≡ c → (if c then word_fault login at (word_of (word_in bs)) else InvalidTag) ≡ Syntax place
        → (line : List ℕ) × (b ∷ bs ≡ 32 ∷ line) × ((word : Word) × (word_of (word_in line) ≡ Some word) × (is_allowed word login ≡ true) × (place ≡ at))
    go true i j = (bs, ap (λ c. c ∷ bs) (eqb-true b 32 i), word_split login at place (word_of (word_in bs)) j)
    go false i j = absurd cc

pub fault_split : (login : Bool) (text : List ℕ) (at place : ℕ) → line_fault login text at ≡ Syntax place → IsSplit login text × (place ≡ at)
fault_split login text at place e = go (is_tag_long (tag_in text)) refl e
  where
    go : (c : Bool) → is_tag_long (tag_in text) ≡ c → (if c then fault_after_tag login at (untaken is_tag_byte text) else InvalidTag) ≡ Syntax place
        → IsSplit login text × (place ≡ at)
    go true i j =
        let own = line_split login at place (untaken is_tag_byte text) j in
        let rest = word_rest own.0 in
        let split : IsSplit login text = record {
          tag = tag_in text;
          letters = word_in own.0;
          rest = rest.0;
          word = own.2.0;
          is_tag = tag_fits (tag_in text) (all_taken is_tag_byte text) i;
          is_word = word_is (map to_ascii_lowercase (word_in own.0)) own.2.0 own.2.1;
          allowed = own.2.2;
          ends = rest.2;
          parts = taken_untaken is_tag_byte text ∙ ap (λ l. tag_in text ++ l) (own.1 ∙ ap (λ l. 32 ∷ l) rest.1);
        } in
        (split, own.2.3)
    go false i j = absurd cc

-- arguments that are read begin with a space or a line's end
begins_space : {A : Type 0} (next : Reader A) (text rest : List ℕ) (v : A) → and_then (byte 32 text) (λ u. next) ≡ got v rest → EndsWord text
begins_space next [] rest v e = tt
begins_space {A} next (b ∷ bs) rest v e = go (eqb b 32) e
  where
    go : (c : Bool) → and_then {A = Unit {0}} (if c then got tt bs else wrong (b ∷ bs)) (λ u. next) ≡ got v rest → (c || begins_line_end (b ∷ bs)) ≡ true
    go true i = refl
    go false i = absurd cc

begins_end : {A : Type 0} (value v : A) (text rest : List ℕ) → and_then (line_end text) (λ u. gives value) ≡ got v rest → EndsWord text
begins_end value v [] rest e = tt
begins_end value v (b ∷ bs) rest e = go (eqb b 32) (eqb b 10) (eqb b 13) bs e
  where
    feed : (d : Bool) (c : ℕ) (cs : List ℕ) → and_then {A = Unit {0}} (if d then got tt cs else wrong (c ∷ cs)) (λ u. gives value) ≡ got v rest → d ≡ true
    feed true c cs i = refl
    feed false c cs i = absurd cc

    or_true : (c : Bool) → (c || true) ≡ true
    or_true true = refl
    or_true false = refl

    go : (c d f : Bool) (l : List ℕ) → and_then {A = Unit {0}} (if d then got tt l else if f then byte 10 l else wrong (b ∷ l))
        (λ u. gives value) ≡ got v rest → (c || (d || (f && begins_with 10 l))) ≡ true
    go c true f l i = or_true c
    go c false true [] i = absurd cc
    go c false true (x ∷ xs) i = ap (λ t. c || t) (feed (eqb x 10) x xs i) ∙ or_true c
    go c false false l i = absurd cc

arguments_begin : (word : Word) (text rest : List ℕ) (command : Command) → arguments_after word text ≡ got command rest → EndsWord text
arguments_begin CapabilityWord text rest command e = begins_end Capability command text rest e
arguments_begin NoopWord text rest command e = begins_end Noop command text rest e
arguments_begin LogoutWord text rest command e = begins_end Logout command text rest e
arguments_begin LoginWord text rest command e = begins_space _ text rest command e
arguments_begin GetQuotaWord text rest command e = let own = both_got (name_alone text) (λ root. gives (GetQuota root)) command rest e in
    begins_space _ text own.1 own.0 own.2
arguments_begin GetQuotaRootWord text rest command e = let own = both_got (name_alone text) (λ mailbox. gives (GetQuotaRoot mailbox)) command rest e in
    begins_space _ text own.1 own.0 own.2
arguments_begin SetQuotaWord text rest command e = begins_space _ text rest command e
arguments_begin StatusWord text rest command e = begins_space _ text rest command e
arguments_begin AppendWord text rest command e = begins_space _ text rest command e

-- what was read is split so
-- tag, space and letters that were read are the text
joined : (text tag after space line run letters rest : List ℕ) → text ≡ tag ++ after → after ≡ space ++ line → space ≡ 32 ∷ [] → line ≡ run ++ rest → letters ≡ run
    → text ≡ tag ++ 32 ∷ (letters ++ rest)
joined text tag after space line run letters rest e i j k l =
    e ∙ ap (λ t. tag ++ t) (i ∙ ap (λ t. t ++ line) j ∙ ap (λ t. 32 ∷ t) (k ∙ ap (λ t. t ++ rest) (sym l)))

pub read_split : (login : Bool) (text end : List ℕ) (tagged : Tagged) → command_at login text ≡ got tagged end → IsSplit login text
read_split login text end tagged e =
    let first = both_got (tag_at text) (λ tag. byte 32 >>= (λ space. after_tag login tag)) tagged end e in
    let is_tag = tag_read text first.0 first.1 first.2 in
    let second = both_got (byte 32 first.1) (λ space. after_tag login first.0) tagged end first.3 in
    let spaced = has_read (Byte 32) (byte 32) first.1 second.1 second.0 (reads_byte 32) second.2 in
    let third = both_got (many is_letter second.1) (λ letters. arguments_of login (word_of letters) >>= tag_with first.0) tagged end second.3 in
    let run = has_read (Run is_letter) (many is_letter) second.1 third.1 third.0 (reads_many is_letter) third.2 in
    let fourth = both_got (arguments_of login (word_of third.0) third.1) (tag_with first.0) tagged end third.3 in
    let own = word_allowed login (word_of third.0) third.1 fourth.1 fourth.0 fourth.2 in
    record {
      tag = first.0;
      letters = third.0;
      rest = third.1;
      word = own.0;
      is_tag = is_tag.0;
      is_word = word_is (map to_ascii_lowercase third.0) own.0 own.1;
      allowed = own.2;
      ends = arguments_begin own.0 third.1 fourth.1 fourth.0 own.3;
      parts = joined text first.0 first.1 spaced.0 second.1 run.0 third.0 third.1 is_tag.1 spaced.1 spaced.2 run.1 run.2.0;
    }

-- the reading of a text with this tag and this word
pub split_at : (login : Bool) (tag letters : List ℕ) (word : Word) (b : ℕ) (rest : List ℕ) → IsTag tag → IsWord (letters_of word) letters
    → is_letter b ≡ false
    → command_at login (tag ++ 32 ∷ (letters ++ b ∷ rest)) ≡ and_then (arguments_of login (Some word) (b ∷ rest)) (tag_with tag)
split_at login tag letters word b rest is_tag is_word stops =
    ap (λ r. and_then r (λ t. byte 32 >>= (λ space. after_tag login t))) (tag_spelled tag 32 (letters ++ b ∷ rest) is_tag refl)
    ∙ ap (λ r. and_then r (λ found. arguments_of login (word_of found) >>= tag_with tag))
    (run_spelled is_letter letters b rest (word_letters letters word is_word) stops)
    ∙ ap (λ w. and_then (arguments_of login w (b ∷ rest)) (tag_with tag)) (word_read letters word is_word)

pub many_all : (is : ℕ → Bool) (text : List ℕ) → list_all is text ≡ true → many is text ≡ short
many_all is [] each = refl
many_all is (b ∷ bs) each =
    let own = and_parts (is b) (list_all is bs) each in
    ap (λ c. if c then with_first b (many is bs) else got [] (b ∷ bs)) own.0 ∙ ap (with_first b) (many_all is bs own.1)

-- a text that ends with its word
pub split_end : (login : Bool) (tag letters : List ℕ) (word : Word) → IsTag tag → IsWord (letters_of word) letters
    → command_at login (tag ++ 32 ∷ letters) ≡ short
split_end login tag letters word is_tag is_word =
    ap (λ r. and_then r (λ t. byte 32 >>= (λ space. after_tag login t))) (tag_spelled tag 32 letters is_tag refl)
    ∙ ap (λ r. and_then r (λ found. arguments_of login (word_of found) >>= tag_with tag)) (many_all is_letter letters (word_letters letters word is_word))

pub split_word : (login : Bool) (text : List ℕ) → IsSplit login text → HasAllowedWord login text
split_word login text split = record {
  tag = split.tag;
  letters = split.letters;
  rest = split.rest;
  word = split.word;
  is_tag = split.is_tag;
  is_word = word_read split.letters split.word split.is_word;
  allowed = split.allowed;
  ends = split.ends;
  parts = split.parts;
}
