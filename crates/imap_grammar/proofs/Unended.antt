-- Texts that end before a command does, and are the first bytes of one.
use Rattle.std.proofs.Common.{◌≡◌, ℕ, ◌≤◌, ◌⊎◌, inl, inr, Bool, true, false, not, ◌||◌, List, [], ◌∷◌, ◌++◌, length, map, take, drop, codes, Option, Some, None, refl, sym, ap, ◌∙◌, subst, arith, if◌then◌else◌, append_assoc, append-nil, eqb, eqb-true, leb}
use Rattle.std.specs.List.{list_all}
use Rattle.std.specs.Char.{to_ascii_lowercase}
use Rattle.std.proofs.lemmas.Bool.{and_parts}
use Rattle.std.proofs.lemmas.List.{map-append, take-append-drop}
use Rattle.std.proofs.lemmas.Slice.Eq.{bytes_eq-Decides}
use Rattle.imap_grammar.specs.declared.command.Command.{Command}
use Rattle.imap_grammar.specs.declared.command.Command.TheVariants.{Capability, Noop, Logout, GetQuota, GetQuotaRoot}
use Rattle.imap_grammar.specs.declared.word.Word.{Word}
use Rattle.imap_grammar.specs.declared.word.Word.TheVariants.{Capability as CapabilityWord, Noop as NoopWord, Logout as LogoutWord, Login as LoginWord, GetQuota as GetQuotaWord, GetQuotaRoot as GetQuotaRootWord, SetQuota as SetQuotaWord, Status as StatusWord, Append as AppendWord}
use Rattle.imap_grammar.specs.Bytes.{is_tag_byte, is_letter}
use Rattle.imap_grammar.specs.Grammar.{Tagged, IsTag, IsWord, IsCommand}
use Rattle.imap_grammar.specs.Reading.{Reading, Reader, got, wrong, short, marked, and_then, ◌>>=◌, gives, fails, byte, many, line_end}
use Rattle.imap_grammar.specs.Commands.{word_of, is_tag_long, checked_tag, name_alone, arguments_after, is_allowed, allowed_arguments, arguments_of, command_at}
use Rattle.imap_grammar.specs.Faults.{taken, untaken, tag_in, begins_line_end, begins_as, begins_word}
use Rattle.imap_grammar.specs.Places.{EndsWord}
use Rattle.imap_grammar.proofs.ReaderLaws.{HasByte, GoesOn, Reads}
use Rattle.imap_grammar.proofs.Spelled.{run_spelled}
use Rattle.imap_grammar.proofs.Words.{letters_of, word_is}
use Rattle.imap_grammar.proofs.Commands.{tag_fits, tag_with, after_tag}
use Rattle.imap_grammar.proofs.Lines.{finish, line_after, Line, reads_line, line_command, no_arguments}
use Rattle.imap_grammar.proofs.Splits.{taken_untaken, all_taken, many_all}

-- the text goes on to a command of a session that is logged in or not
abbrev pub Begins : Bool → List ℕ → Type 0
Begins login text = (more : List ℕ) × (tagged : Tagged) × IsCommand login (text ++ more) tagged

-- what the bytes up to the first that fails a test are
pub untaken_stops : (is : ℕ → Bool) (text : List ℕ) (b : ℕ) (bs : List ℕ) → untaken is text ≡ b ∷ bs → is b ≡ false
untaken_stops is [] b bs e = absurd cc
untaken_stops is (x ∷ xs) b bs e = go (is x) refl (untaken_stops is xs b bs) e
  where
    go : (c : Bool) → is x ≡ c → (untaken is xs ≡ b ∷ bs → is b ≡ false) → (if c then untaken is xs else x ∷ xs) ≡ b ∷ bs → is b ≡ false
    go true i later j = later j
    go false i later j = let same : x ≡ b = cc in ap is (sym same) ∙ i

pub split_here : (is : ℕ → Bool) (text rest : List ℕ) → untaken is text ≡ rest → text ≡ taken is text ++ rest
split_here is text rest e = taken_untaken is text ∙ ap (λ l. taken is text ++ l) e

many_taken : (is : ℕ → Bool) (text : List ℕ) (b : ℕ) (bs : List ℕ) → untaken is text ≡ b ∷ bs → many is text ≡ got (taken is text) (b ∷ bs)
many_taken is text b bs e =
    ap (many is) (split_here is text (b ∷ bs) e) ∙ run_spelled is (taken is text) b bs (all_taken is text) (untaken_stops is text b bs e)

pub all_of : (is : ℕ → Bool) (text : List ℕ) → untaken is text ≡ [] → list_all is text ≡ true
all_of is text e = ap (list_all is) (split_here is text [] e ∙ append-nil (taken is text)) ∙ all_taken is text

pub all_short : (login : Bool) (text : List ℕ) → list_all is_tag_byte text ≡ true → command_at login text ≡ short
all_short login text each = ap (λ r. and_then (and_then r checked_tag) (λ tag. byte 32 >>= (λ space. after_tag login tag))) (many_all is_tag_byte text each)

-- a word's line that ends too early
short_first : {A B : Type 0} (f : A → B) (reading : Reading A) → and_then reading (λ v. gives (f v)) ≡ short → reading ≡ short
short_first f (got v rest) e = absurd cc
short_first f (wrong rest) e = absurd cc
short_first f short e = refl
short_first f (marked count) e = absurd cc

short_space : {A : Type 0} (next : Reader A) (c : ℕ) (cs : List ℕ) → and_then (byte 32 (c ∷ cs)) (λ u. next) ≡ short → EndsWord (c ∷ cs) ⊎ (c ∷ cs ≡ 13 ∷ [])
short_space {A} next c cs e = inl (go (eqb c 32) e)
  where
    go : (d : Bool) → and_then {A = Unit {0}} (if d then got tt cs else wrong (c ∷ cs)) (λ u. next) ≡ short → (d || begins_line_end (c ∷ cs)) ≡ true
    go true i = refl
    go false i = absurd cc

short_end : {A : Type 0} (value : A) (c : ℕ) (cs : List ℕ) → and_then (line_end (c ∷ cs)) (λ u. gives value) ≡ short → EndsWord (c ∷ cs) ⊎ (c ∷ cs ≡ 13 ∷ [])
short_end {A} value c cs e = inr (go (eqb c 10) (eqb c 13) refl cs e)
  where
    feed : (d : Bool) (x : ℕ) (xs : List ℕ) → and_then {A = Unit {0}} (if d then got tt xs else wrong (x ∷ xs)) (λ u. gives value) ≡ short → ⊥
    feed true x xs i = cc
    feed false x xs i = cc

    go : (d f : Bool) → eqb c 13 ≡ f → (l : List ℕ)
        → and_then {A = Unit {0}} (if d then got tt l else if f then byte 10 l else wrong (c ∷ l)) (λ u. gives value) ≡ short → c ∷ l ≡ 13 ∷ []
    go true f i l j = absurd cc
    go false true i [] j = ap (λ x. x ∷ []) (eqb-true c 13 i)
    go false true i (x ∷ xs) j = absurd (feed (eqb x 10) x xs j)
    go false false i l j = absurd cc

arguments_short : (word : Word) (c : ℕ) (cs : List ℕ) → arguments_after word (c ∷ cs) ≡ short → EndsWord (c ∷ cs) ⊎ (c ∷ cs ≡ 13 ∷ [])
arguments_short CapabilityWord c cs e = short_end Capability c cs e
arguments_short NoopWord c cs e = short_end Noop c cs e
arguments_short LogoutWord c cs e = short_end Logout c cs e
arguments_short LoginWord c cs e = short_space _ c cs e
arguments_short GetQuotaWord c cs e = short_space _ c cs (short_first (λ root. GetQuota root) (name_alone (c ∷ cs)) e)
arguments_short GetQuotaRootWord c cs e = short_space _ c cs (short_first (λ mailbox. GetQuotaRoot mailbox) (name_alone (c ∷ cs)) e)
arguments_short SetQuotaWord c cs e = short_space _ c cs e
arguments_short StatusWord c cs e = short_space _ c cs e
arguments_short AppendWord c cs e = short_space _ c cs e

-- a word's line that ends with a marker has a space after the word
marked_first : {A B : Type 0} (f : A → B) (n : ℕ) (reading : Reading A) → and_then reading (λ v. gives (f v)) ≡ marked n → reading ≡ marked n
marked_first f n (got v rest) e = absurd cc
marked_first f n (wrong rest) e = absurd cc
marked_first f n short e = absurd cc
marked_first f n (marked count) e = let same : count ≡ n = cc in ap (λ m. marked m) same

marked_space : {A : Type 0} (next : Reader A) (n c : ℕ) (cs : List ℕ) → and_then (byte 32 (c ∷ cs)) (λ u. next) ≡ marked n → EndsWord (c ∷ cs)
marked_space {A} next n c cs e = go (eqb c 32) e
  where
    go : (d : Bool) → and_then {A = Unit {0}} (if d then got tt cs else wrong (c ∷ cs)) (λ u. next) ≡ marked n → (d || begins_line_end (c ∷ cs)) ≡ true
    go true i = refl
    go false i = absurd cc

marked_end : {A : Type 0} (value : A) (n c : ℕ) (cs : List ℕ) → and_then (line_end (c ∷ cs)) (λ u. gives value) ≡ marked n → EndsWord (c ∷ cs)
marked_end {A} value n c cs e = absurd (go (eqb c 10) (eqb c 13) cs e)
  where
    feed : (d : Bool) (x : ℕ) (xs : List ℕ) → and_then {A = Unit {0}} (if d then got tt xs else wrong (x ∷ xs)) (λ u. gives value) ≡ marked n → ⊥
    feed true x xs i = cc
    feed false x xs i = cc

    go : (d f : Bool) (l : List ℕ) → and_then {A = Unit {0}} (if d then got tt l else if f then byte 10 l else wrong (c ∷ l)) (λ u. gives value) ≡ marked n → ⊥
    go true f l i = cc
    go false true [] i = cc
    go false true (x ∷ xs) i = feed (eqb x 10) x xs i
    go false false l i = cc

arguments_marked : (word : Word) (n c : ℕ) (cs : List ℕ) → arguments_after word (c ∷ cs) ≡ marked n → EndsWord (c ∷ cs)
arguments_marked CapabilityWord n c cs e = marked_end Capability n c cs e
arguments_marked NoopWord n c cs e = marked_end Noop n c cs e
arguments_marked LogoutWord n c cs e = marked_end Logout n c cs e
arguments_marked LoginWord n c cs e = marked_space _ n c cs e
arguments_marked GetQuotaWord n c cs e = marked_space _ n c cs (marked_first (λ root. GetQuota root) n (name_alone (c ∷ cs)) e)
arguments_marked GetQuotaRootWord n c cs e = marked_space _ n c cs (marked_first (λ mailbox. GetQuotaRoot mailbox) n (name_alone (c ∷ cs)) e)
arguments_marked SetQuotaWord n c cs e = marked_space _ n c cs e
arguments_marked StatusWord n c cs e = marked_space _ n c cs e
arguments_marked AppendWord n c cs e = marked_space _ n c cs e

-- the letters of a word that is allowed, and its end
pub record HasWord (login : Bool) (line : List ℕ) : Type 0 where
  pub letters : List ℕ
  pub rest : List ℕ
  pub word : Word
  pub is_word : IsWord (letters_of word) letters
  pub allowed : is_allowed word login ≡ true
  pub ends : EndsWord rest
  pub parts : line ≡ letters ++ rest

-- the letters of a word that is allowed, and bytes with which its line begins
pub record HasLine (login : Bool) (line : List ℕ) : Type 0 where
  pub letters : List ℕ
  pub rest : List ℕ
  pub word : Word
  pub is_word : IsWord (letters_of word) letters
  pub allowed : is_allowed word login ≡ true
  pub ends : EndsWord rest ⊎ (rest ≡ 13 ∷ [])
  pub on : GoesOn (Line login letters) rest
  pub parts : line ≡ letters ++ rest

-- what a reading that ends too early says of the bytes after the tag and the space
abbrev Ends : Bool → List ℕ → Reading Tagged → Type 0
Ends login line (got tagged rest) = Unit {0}
Ends login line (wrong rest) = HasByte rest
Ends login line short = (list_all is_letter line ≡ true) ⊎ HasLine login line
Ends login line (marked count) = HasWord login line

module _ (login : Bool) (tag line : List ℕ) where
  word_end : (letters : List ℕ) (c : ℕ) (cs : List ℕ) → line ≡ letters ++ c ∷ cs → (word : Word) → IsWord (letters_of word) letters
      → is_allowed word login ≡ true → Ends login line (and_then (arguments_after word (c ∷ cs)) (tag_with tag))
  word_end letters c cs e word is allowed = go (arguments_after word (c ∷ cs)) refl
    where
      reads : (reading : Reading Command) → arguments_after word (c ∷ cs) ≡ reading
          → Reads (Line login letters) (line_after word) (c ∷ cs) (and_then reading finish)
      reads reading i = subst (Reads (Line login letters) (line_after word) (c ∷ cs)) (ap (λ r. and_then r finish) i)
          ((reads_line login letters word allowed is).each (c ∷ cs))

      go : (reading : Reading Command) → arguments_after word (c ∷ cs) ≡ reading → Ends login line (and_then reading (tag_with tag))
      go (got command rest) i = tt
      go (wrong rest) i = let (bytes, j, has, on, keeps) = reads (wrong rest) i in has
      go short i = inr (record {
        letters = letters;
        rest = c ∷ cs;
        word = word;
        is_word = is;
        allowed = allowed;
        ends = arguments_short word c cs i;
        on = reads short i;
        parts = e;
      })
      go (marked count) i = record {
        letters = letters;
        rest = c ∷ cs;
        word = word;
        is_word = is;
        allowed = allowed;
        ends = arguments_marked word count c cs i;
        parts = e;
      }

  arguments_end : (letters : List ℕ) (c : ℕ) (cs : List ℕ) → line ≡ letters ++ c ∷ cs → (found : Option Word) → word_of letters ≡ found
      → Ends login line (and_then (arguments_of login found (c ∷ cs)) (tag_with tag))
  arguments_end letters c cs e None i = tt
  arguments_end letters c cs e (Some word) i = go (is_allowed word login) refl
    where
      go : (a : Bool) → is_allowed word login ≡ a → Ends login line (and_then (allowed_arguments a word (c ∷ cs)) (tag_with tag))
      go true j = word_end letters c cs e word (word_is (map to_ascii_lowercase letters) word i) j
      go false j = tt

  abbrev with_arguments : Reading (List ℕ) → Reading Tagged
  with_arguments reading = and_then reading (λ letters. arguments_of login (word_of letters) >>= tag_with tag)

  letters_end : Ends login line (after_tag login tag line)
  letters_end = go (untaken is_letter line) refl
    where
      go : (l : List ℕ) → untaken is_letter line ≡ l → Ends login line (after_tag login tag line)
      go [] i =
          let each = all_of is_letter line i in
          subst (λ r. Ends login line (with_arguments r)) (sym (many_all is_letter line each)) (inl each)
      go (c ∷ cs) i =
          subst (λ r. Ends login line (with_arguments r)) (sym (many_taken is_letter line c cs i))
          (arguments_end (taken is_letter line) c cs (split_here is_letter line (c ∷ cs) i) (word_of (taken is_letter line)) refl)

-- what a reading that ends too early says of a text that is not all bytes of a tag
abbrev pub Cut : Bool → (text : List ℕ) → (b : ℕ) → (line : List ℕ) → Reading Tagged → Type 0
Cut login text b line (got tagged rest) = Unit {0}
Cut login text b line (wrong rest) = HasByte rest
Cut login text b line short = IsTag (tag_in text) × (text ≡ tag_in text ++ 32 ∷ line) × ((list_all is_letter line ≡ true) ⊎ HasLine login line)
Cut login text b line (marked count) = IsTag (tag_in text) × (text ≡ tag_in text ++ 32 ∷ line) × HasWord login line

abbrev with_line : Bool → Reading (List ℕ) → Reading Tagged
with_line login reading = and_then reading (λ tag. byte 32 >>= (λ space. after_tag login tag))

pub text_cut : (login : Bool) (text : List ℕ) (b : ℕ) (line : List ℕ) → untaken is_tag_byte text ≡ b ∷ line → Cut login text b line (command_at login text)
text_cut login text b line e = subst (λ r. Cut login text b line (with_line login (and_then r checked_tag))) (sym (many_taken is_tag_byte text b line e)) (long (is_tag_long (tag_in text)) refl)
  where
    after : IsTag (tag_in text) → b ≡ 32 → (reading : Reading Tagged) → Ends login line reading → Cut login text b line reading
    after is same (got tagged rest) own = tt
    after is same (wrong rest) own = own
    after is same short own = (is, split_here is_tag_byte text (b ∷ line) e ∙ ap (λ c. tag_in text ++ c ∷ line) same, own)
    after is same (marked count) own = (is, split_here is_tag_byte text (b ∷ line) e ∙ ap (λ c. tag_in text ++ c ∷ line) same, own)

    spaced : IsTag (tag_in text) → (c : Bool) → eqb b 32 ≡ c
        → Cut login text b line (and_then {A = Unit {0}} (if c then got tt line else wrong (b ∷ line)) (λ space. after_tag login (tag_in text)))
    spaced is true i = after is (eqb-true b 32 i) (after_tag login (tag_in text) line) (letters_end login (tag_in text) line)
    spaced is false i = tt

    long : (c : Bool) → is_tag_long (tag_in text) ≡ c
        → Cut login text b line (with_line login ((let reader : Reader (List ℕ) = if c then gives (tag_in text) else fails in reader) (b ∷ line)))
    long true i = spaced (tag_fits (tag_in text) (all_taken is_tag_byte text) i) (eqb b 32) refl
    long false i = tt

-- a text that is all bytes of a tag goes on to NOOP
pub tag_begins : (login : Bool) (text : List ℕ) → list_all is_tag_byte text ≡ true → length text ≤ 64 → Begins login text
tag_begins login [] each few = (
  codes "a NOOP\n",
  record { tag = codes "a"; command = Noop },
  (codes "NOOP", codes "\n", record { some = omega arith; short = omega arith; each = refl }, refl, inl refl, refl),
)
tag_begins login (b ∷ bs) each few = (
  codes " NOOP\n",
  record { tag = b ∷ bs; command = Noop },
  (codes "NOOP", codes "\n", record { some = omega arith; short = few; each = each }, refl, inl refl, refl),
)

-- letters with which a word begins go on to it
completed : (letters name : List ℕ) → begins_as letters name ≡ true → map to_ascii_lowercase name ≡ name
    → (more : List ℕ) × (map to_ascii_lowercase (letters ++ more) ≡ name)
completed letters name e low =
    let n = length letters in
    let parts = and_parts (leb n (length name)) _ e in
    let same : map to_ascii_lowercase letters ≡ map to_ascii_lowercase (take n name) = (bytes_eq-Decides (map to_ascii_lowercase letters) (map to_ascii_lowercase (take n name))).0 parts.1 in (
      drop n name,
      map-append to_ascii_lowercase letters (drop n name) ∙ ap (λ l. l ++ map to_ascii_lowercase (drop n name)) same
          ∙ sym (map-append to_ascii_lowercase (take n name) (drop n name)) ∙ ap (map to_ascii_lowercase) (take-append-drop n name) ∙ low,
    )

either : {A : Type 0} (x y : Bool) → (x ≡ true → A) → (y ≡ true → A) → (x || y) ≡ true → A
either true y one other e = one refl
either false y one other e = other e

word_completed : (letters : List ℕ) → begins_word letters ≡ true → (word : Word) × (more : List ℕ) × IsWord (letters_of word) (letters ++ more)
word_completed letters =
    either _ _ (either _ _ (by CapabilityWord refl) (either _ _ (by NoopWord refl) (by LogoutWord refl)))
    (either _ _ (by LoginWord refl)
    (either _ _ (either _ _ (by GetQuotaWord refl) (either _ _ (by GetQuotaRootWord refl) (by SetQuotaWord refl)))
    (either _ _ (by StatusWord refl) (by AppendWord refl))))
  where
    by : (word : Word) → map to_ascii_lowercase (letters_of word) ≡ letters_of word → begins_as letters (letters_of word) ≡ true
        → (word : Word) × (more : List ℕ) × IsWord (letters_of word) (letters ++ more)
    by word low e = let own = completed letters (letters_of word) e low in (word, own.0, own.1)

-- each word is allowed in this session or in another
allowed_in : (word : Word) (login : Bool) → (is_allowed word login ≡ true) ⊎ (is_allowed word (not login) ≡ true)
allowed_in CapabilityWord login = inl refl
allowed_in NoopWord login = inl refl
allowed_in LogoutWord login = inl refl
allowed_in LoginWord true = inr refl
allowed_in LoginWord false = inl refl
allowed_in GetQuotaWord true = inl refl
allowed_in GetQuotaWord false = inr refl
allowed_in GetQuotaRootWord true = inl refl
allowed_in GetQuotaRootWord false = inr refl
allowed_in SetQuotaWord true = inl refl
allowed_in SetQuotaWord false = inr refl
allowed_in StatusWord true = inl refl
allowed_in StatusWord false = inr refl
allowed_in AppendWord true = inl refl
allowed_in AppendWord false = inr refl

pub line_begins : (login : Bool) (tag letters rest : List ℕ) → IsTag tag → GoesOn (Line login letters) rest → Begins login (tag ++ 32 ∷ (letters ++ rest))
line_begins login tag letters rest is (more, command, line) = (
  more,
  record { tag = tag; command = command },
  subst (λ l. IsCommand login l (record { tag = tag; command = command }))
      (ap (λ l. tag ++ 32 ∷ l) (sym (append_assoc letters rest more)) ∙ sym (append_assoc tag (32 ∷ (letters ++ rest)) more))
      (line_command login tag letters (rest ++ more) command is line),
)

-- a tag and letters with which a word begins
word_begins : (session : Bool) (tag letters more : List ℕ) (word : Word) → IsTag tag → IsWord (letters_of word) (letters ++ more) → is_allowed word session ≡ true
    → Begins session (tag ++ 32 ∷ letters)
word_begins session tag letters more word is is_word allowed =
    let none : GoesOn (Line session (letters ++ more)) [] = subst (λ r. Reads (Line session (letters ++ more)) (line_after word) [] (and_then r finish)) (no_arguments word)
    ((reads_line session (letters ++ more) word allowed is_word).each []) in
    let own = line_begins session tag (letters ++ more) [] is none in (
      more ++ own.0,
      own.1,
      subst (λ l. IsCommand session l own.1)
          (append_assoc tag (32 ∷ ((letters ++ more) ++ [])) own.0 ∙ ap (λ l. tag ++ 32 ∷ (l ++ own.0)) (append-nil (letters ++ more))
          ∙ ap (λ l. tag ++ 32 ∷ l) (append_assoc letters more own.0) ∙ sym (append_assoc tag (32 ∷ letters) (more ++ own.0))) own.2,
    )

pub letters_begin : (login : Bool) (tag letters : List ℕ) → IsTag tag → begins_word letters ≡ true
    → Begins login (tag ++ 32 ∷ letters) ⊎ Begins (not login) (tag ++ 32 ∷ letters)
letters_begin login tag letters is e =
    let own = word_completed letters e in
    elim (allowed_in own.0 login) [
      | inl allowed ↦ inl (word_begins login tag letters own.1 own.0 is own.2 allowed)
      | inr allowed ↦ inr (word_begins (not login) tag letters own.1 own.0 is own.2 allowed)
    ]
