-- The head that bytes are, read piece by piece (RFC 9112, sections 2 to 5). The grammar is
-- httparse's; a law says that this reader finds exactly its heads.
use Rattle.std.specs.Prelude.{◌≡◌, ◌≤◌, ℕ, zero, suc, Bool, true, false, nat_lt, ◌==◌, if◌then◌else◌, List, [], ◌∷◌, length, codes, Option, Some, None}
use Rattle.std.specs.Str.{is_utf8}
use Rattle.httparse.specs.Grammar.{is_token_byte, is_uri_byte, is_value_byte, LineEnd, crlf, lf, Field, RequestHead, ReadsRequest}

-- the most fields of a head
abbrev pub max_fields : ℕ
max_fields = 64

-- what is read at the start of a text, and the text after it
abbrev pub Found : Type 0 → Type 0
Found A = Option (A × List ℕ)

abbrev pub found : {A : Type 0} → A → List ℕ → Found A
found a rest = Some (a, rest)

abbrev pub mapped : {A B : Type 0} → (A → B) → Found A → Found B
mapped f None = None
mapped f (Some (a, rest)) = found (f a) rest

-- only if it passes the test
abbrev pub kept : {A : Type 0} → (A → Bool) → Found A → Found A
kept test None = None
kept test (Some (a, rest)) = if test a then found a rest else None

abbrev pub or_else : {A : Type 0} → Found A → Found A → Found A
or_else None second = second
or_else (Some first) second = Some first

-- one and then another
abbrev pub then_read : {A B : Type 0} → Found A → (List ℕ → Found B) → Found (A × B)
then_read None next = None
then_read (Some (a, rest)) next = mapped (λ b. (a, b)) (next rest)

abbrev pub row : {A B : Type 0} → (List ℕ → Found A) → (List ℕ → Found B) → List ℕ → Found (A × B)
row first next text = then_read (first text) next

-- the line feed of CR LF
abbrev pub feed : List ℕ → Found LineEnd
feed [] = None
feed (b ∷ text) = if b == 10 then found crlf text else None

-- CR LF, or LF alone
abbrev pub newline : List ℕ → Found LineEnd
newline [] = None
newline (b ∷ text) =
    if b == 10 then found lf text else (if b == 13 then feed text else None)

-- all the empty lines at the start; `carriage` says that a CR has just been read
abbrev pub blank_from : (carriage : Bool) → List ℕ → Found (List LineEnd)
blank_from carriage [] = None
blank_from true (b ∷ text) =
    if b == 10 then mapped (λ ends. crlf ∷ ends) (blank_from false text) else None
blank_from false (b ∷ text) =
    if b == 10 then mapped (λ ends. lf ∷ ends) (blank_from false text)
    else (if b == 13 then blank_from true text else found [] (b ∷ text))

-- the bytes that pass the test, up to the byte `stop`, which is read too
abbrev pub run_to : (ℕ → Bool) → (stop : ℕ) → List ℕ → Found (List ℕ)
run_to test stop [] = None
run_to test stop (b ∷ text) =
    if test b then mapped (λ run. b ∷ run) (run_to test stop text)
    else (if b == stop then found [] text else None)

-- the same of one byte or more
abbrev pub word : (ℕ → Bool) → (stop : ℕ) → List ℕ → Found (List ℕ)
word test stop text = kept (λ run. nat_lt 0 (length run)) (run_to test stop text)

abbrev pub target : List ℕ → Found (List ℕ)
target text = kept is_utf8 (word is_uri_byte 32 text)

-- the text after these bytes
abbrev pub after_bytes : List ℕ → List ℕ → Option (List ℕ)
after_bytes [] text = Some text
after_bytes (p ∷ ps) [] = None
after_bytes (p ∷ ps) (b ∷ text) = if b == p then after_bytes ps text else None

abbrev pub minor_digit : Option (List ℕ) → Found ℕ
minor_digit None = None
minor_digit (Some []) = None
minor_digit (Some (b ∷ text)) =
    if b == 48 then found 0 text else (if b == 49 then found 1 text else None)

-- HTTP/1.0 or HTTP/1.1
abbrev pub version : List ℕ → Found ℕ
version text = minor_digit (after_bytes (codes "HTTP/1.") text)

-- a field's value with the white space around it, and the end of its line
abbrev pub value_line : List ℕ → Found (List ℕ × LineEnd)
value_line [] = None
value_line (b ∷ text) =
    if is_value_byte b then mapped (λ v. (b ∷ v.0, v.1)) (value_line text)
    else mapped (λ end. ([], end)) (newline (b ∷ text))

abbrev pub field_with : List ℕ × (List ℕ × LineEnd) → Field
field_with f = record { name = f.0; raw = f.1.0; end = f.1.1 }

abbrev pub field : List ℕ → Found Field
field text = mapped field_with (row (word is_token_byte 58) value_line text)

-- the empty line after the last field
abbrev pub last_line : List ℕ → Found (List Field × LineEnd)
last_line text = mapped (λ end. ([], end)) (newline text)

abbrev pub section_with : Field × (List Field × LineEnd) → List Field × LineEnd
section_with s = (s.0 ∷ s.1.0, s.1.1)

-- at most so many fields, and the empty line after them
abbrev pub section : (room : ℕ) → List ℕ → Found (List Field × LineEnd)
section zero text = last_line text
section (suc room) text =
    or_else (last_line text) (mapped section_with (row field (section room) text))

-- empty lines, and the request line: method, target, minor version
abbrev pub Start : Type 0
Start = List LineEnd × (List ℕ × (List ℕ × (ℕ × LineEnd)))

abbrev pub request_start : List ℕ → Found Start
request_start text =
    row (blank_from false) (row (word is_token_byte 32) (row target (row version newline))) text

-- nothing comes after it
abbrev pub head_alone : Found (Start × (List Field × LineEnd)) → Option RequestHead
head_alone None = None
head_alone (Some (t, [])) = Some (record {
  blank = t.0.0;
  method = t.0.1.0;
  target = t.0.1.1.0;
  minor = t.0.1.1.1.0;
  line_end = t.0.1.1.1.1;
  fields = t.1.0;
  last = t.1.1;
})
head_alone (Some (t, b ∷ rest)) = None

-- the head that all of the bytes are, if it has at most 64 fields
abbrev pub read_head : List ℕ → Option RequestHead
read_head text = head_alone (row request_start (section max_fields) text)

-- The reader finds a head exactly if the grammar has it.
pub record ReadsExactly : Type 0 where
  pub reads : (text : List ℕ) (h : RequestHead) → read_head text ≡ Some h
      → ReadsRequest text h [] × (length h.fields ≤ max_fields)
  pub finds : (text : List ℕ) (h : RequestHead) → ReadsRequest text h []
      → length h.fields ≤ max_fields → read_head text ≡ Some h
