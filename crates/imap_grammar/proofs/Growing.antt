-- What a reading becomes when more bytes come after the text.
use Rattle.std.proofs.Common.{◌≡◌, ℕ, ◌<◌, ◌≤◌, Bool, true, false, eqb, List, [], ◌∷◌, ◌++◌, length, refl, sym, ap, ◌∙◌, subst, append_assoc, if◌then◌else◌}
use Rattle.imap_grammar.specs.Reading.{Reading, Reader, got, wrong, short, marked, and_then, ◌>>=◌, gives, fails, byte, with_first, many, line_end}

-- what is not read is the end of the text
abbrev pub Within : {A : Type 0} → List ℕ → Reading A → Type 0
Within text (got value rest) = (used : List ℕ) × (text ≡ used ++ rest)
Within text (wrong rest) = (used : List ℕ) × (text ≡ used ++ rest)
Within text short = Unit {0}
Within text (marked count) = Unit {0}

-- what was read stays, and a text that ended too early goes on within the bytes that came
abbrev pub Grows : {A : Type 0} → (more : List ℕ) → (now later : Reading A) → Type 0
Grows more (got value rest) later = later ≡ got value (rest ++ more)
Grows more (wrong rest) later = later ≡ wrong (rest ++ more)
Grows more short later = Within more later
Grows more (marked count) later = Within more later

-- a marker ends with a line feed
abbrev pub MarksLine : {A : Type 0} → List ℕ → Reading A → Type 0
MarksLine text (got value rest) = Unit {0}
MarksLine text (wrong rest) = Unit {0}
MarksLine text short = Unit {0}
MarksLine text (marked count) = (body : List ℕ) × (text ≡ body ++ 10 ∷ [])

-- all of the text was read, or it ends too early
abbrev pub Pending : {A : Type 0} → Reading A → Type 0
Pending (got value rest) = rest ≡ []
Pending (wrong rest) = ⊥
Pending short = Unit {0}
Pending (marked count) = ⊥

-- after a marker, up to the last of its octets, nothing else is read
abbrev pub Inside : {A : Type 0} → (more : List ℕ) → (now later : Reading A) → Type 0
Inside more (got value rest) later = Unit {0}
Inside more (wrong rest) later = Unit {0}
Inside more short later = Unit {0}
Inside more (marked count) later = length more ≤ count → Pending later

-- a reading of a text, and that of the text with more bytes
pub record GoesOn {A : Type 0} (text more : List ℕ) (now later : Reading A) : Type 0 where
  pub within : Within text now
  pub grows : Grows more now later
  pub marks : MarksLine text now
  pub inside : 0 < length more → Inside more now later

pub record Steady {A : Type 0} (read : Reader A) : Type 0 where
  pub idle : Pending (read [])
  pub goes_on : (text more : List ℕ) → GoesOn text more (read text) (read (text ++ more))

pub within_steady : {A : Type 0} (read : Reader A) → Steady read → (text : List ℕ) → Within text (read text)
within_steady read one text = (one.goes_on text []).within

-- the kinds of readings
pub got_on : {A : Type 0} (text more used rest : List ℕ) (value : A) → text ≡ used ++ rest → GoesOn text more (got value rest) (got value (rest ++ more))
got_on text more used rest value e = record { within = (used, e); grows = refl; marks = tt; inside = λ lt. tt }

pub wrong_on : {A : Type 0} (text more used rest : List ℕ) → text ≡ used ++ rest → GoesOn {A = A} text more (wrong rest) (wrong (rest ++ more))
wrong_on text more used rest e = record { within = (used, e); grows = refl; marks = tt; inside = λ lt. tt }

pub short_on : {A : Type 0} (text more : List ℕ) (later : Reading A) → Within more later → GoesOn text more short later
short_on text more later within = record { within = tt; grows = within; marks = tt; inside = λ lt. tt }

pub if_on : {A : Type 0} (text more : List ℕ) (c : Bool) (x y x' y' : Reading A) → (c ≡ true → GoesOn text more x x') → (c ≡ false → GoesOn text more y y')
    → GoesOn text more (if c then x else y) (if c then x' else y')
if_on text more true x y x' y' one other = one refl
if_on text more false x y x' y' one other = other refl

-- bytes before the text
pub within_after : {A : Type 0} (before text : List ℕ) (now : Reading A) → Within text now → Within (before ++ text) now
within_after before text (got value rest) w = (before ++ w.0, ap (λ l. before ++ l) w.1 ∙ sym (append_assoc before w.0 rest))
within_after before text (wrong rest) w = (before ++ w.0, ap (λ l. before ++ l) w.1 ∙ sym (append_assoc before w.0 rest))
within_after before text short w = tt
within_after before text (marked count) w = tt

pub marks_after : {A : Type 0} (before text : List ℕ) (now : Reading A) → MarksLine text now → MarksLine (before ++ text) now
marks_after before text (got value rest) m = tt
marks_after before text (wrong rest) m = tt
marks_after before text short m = tt
marks_after before text (marked count) m = (before ++ m.0, ap (λ l. before ++ l) m.1 ∙ sym (append_assoc before m.0 (10 ∷ [])))

pub after : {A : Type 0} (before text more : List ℕ) (now later : Reading A) → GoesOn text more now later → GoesOn (before ++ text) more now later
after before text more now later g = record {
  within = within_after before text now g.within;
  grows = g.grows;
  marks = marks_after before text now g.marks;
  inside = g.inside;
}

-- one reader, and then another
pub within_then : {A B : Type 0} (text : List ℕ) (now : Reading A) (next : A → Reader B) → Within text now → ((v : A) (rest : List ℕ) → Within rest (next v rest)) → Within text (and_then now next)
within_then text (got v rest) next w others = subst (λ l. Within l (next v rest)) (sym w.1) (within_after w.0 rest (next v rest) (others v rest))
within_then text (wrong rest) next w others = w
within_then text short next w others = tt
within_then text (marked count) next w others = tt

pub pending_then : {A B : Type 0} (now : Reading A) (next : A → Reader B) → Pending now → ((v : A) → Pending (next v [])) → Pending (and_then now next)
pending_then (got v rest) next p others = subst (λ l. Pending (next v l)) (sym p) (others v)
pending_then (wrong rest) next p others = p
pending_then short next p others = tt
pending_then (marked count) next p others = p

module _ {A B : Type 0} (text more : List ℕ) (next : A → Reader B) (others : (v : A) → Steady (next v)) where
  within_next : (v : A) (rest : List ℕ) → Within rest (next v rest)
  within_next v rest = ((others v).goes_on rest []).within

  pub on_then : (now later : Reading A) → GoesOn text more now later → GoesOn text more (and_then now next) (and_then later next)
  on_then (got v rest) later g =
      let used = g.within.0 in
      subst (λ r. GoesOn text more (next v rest) (and_then r next)) (sym g.grows)
      (subst (λ l. GoesOn l more (next v rest) (next v (rest ++ more))) (sym g.within.1) (after used rest more (next v rest) (next v (rest ++ more)) ((others v).goes_on rest more)))
  on_then (wrong rest) later g = subst (λ r. GoesOn text more (wrong rest) (and_then r next)) (sym g.grows) (wrong_on text more g.within.0 rest g.within.1)
  on_then short later g = short_on text more (and_then later next) (within_then more later next g.grows within_next)
  on_then (marked count) later g = record {
    within = tt;
    grows = within_then more later next g.grows within_next;
    marks = g.marks;
    inside = λ lt le. pending_then later next (g.inside lt le) (λ v. (others v).idle);
  }

pub steady_then : {A B : Type 0} (first : Reader A) (next : A → Reader B) → Steady first → ((v : A) → Steady (next v)) → Steady (first >>= next)
steady_then first next one others = record {
  idle = pending_then (first []) next one.idle (λ v. (others v).idle);
  goes_on = λ text more. on_then text more next others (first text) (first (text ++ more)) (one.goes_on text more);
}

-- the primitives
pub steady_gives : {A : Type 0} (value : A) → Steady (gives value)
steady_gives value = record { idle = refl; goes_on = λ text more. got_on text more [] text value refl }

fails_on : {A : Type 0} (text more : List ℕ) → GoesOn {A = A} text more (fails text) (fails (text ++ more))
fails_on [] [] = short_on [] [] (fails []) tt
fails_on [] (b ∷ bs) = short_on [] (b ∷ bs) (fails (b ∷ bs)) ([], refl)
fails_on (b ∷ bs) more = wrong_on (b ∷ bs) more [] (b ∷ bs) refl

pub steady_fails : {A : Type 0} → Steady {A = A} fails
steady_fails = record { idle = tt; goes_on = fails_on }

pub within_if : {A : Type 0} (text : List ℕ) (c : Bool) (x y : Reading A) → Within text x → Within text y → Within text (if c then x else y)
within_if text true x y one other = one
within_if text false x y one other = other

within_byte : (wanted : ℕ) (text : List ℕ) → Within text (byte wanted text)
within_byte wanted [] = tt
within_byte wanted (b ∷ bs) = within_if (b ∷ bs) (eqb b wanted) (got tt bs) (wrong (b ∷ bs)) (b ∷ [], refl) ([], refl)

byte_on : (wanted : ℕ) (text more : List ℕ) → GoesOn text more (byte wanted text) (byte wanted (text ++ more))
byte_on wanted [] more = short_on [] more (byte wanted more) (within_byte wanted more)
byte_on wanted (b ∷ bs) more =
    if_on (b ∷ bs) more (eqb b wanted) (got tt bs) (wrong (b ∷ bs)) (got tt (bs ++ more)) (wrong (b ∷ (bs ++ more)))
    (λ e. got_on (b ∷ bs) more (b ∷ []) bs tt refl) (λ e. wrong_on (b ∷ bs) more [] (b ∷ bs) refl)

pub steady_byte : (wanted : ℕ) → Steady (byte wanted)
steady_byte wanted = record { idle = tt; goes_on = byte_on wanted }

pub within_end : (text : List ℕ) → Within text (line_end text)
within_end [] = tt
within_end (b ∷ bs) =
    within_if (b ∷ bs) (eqb b 10) (got tt bs) (if eqb b 13 then byte 10 bs else wrong (b ∷ bs)) (b ∷ [], refl)
    (within_if (b ∷ bs) (eqb b 13) (byte 10 bs) (wrong (b ∷ bs)) (within_after (b ∷ []) bs (byte 10 bs) (within_byte 10 bs)) ([], refl))

end_on : (text more : List ℕ) → GoesOn text more (line_end text) (line_end (text ++ more))
end_on [] more = short_on [] more (line_end more) (within_end more)
end_on (b ∷ bs) more =
    if_on (b ∷ bs) more (eqb b 10) (got tt bs) (if eqb b 13 then byte 10 bs else wrong (b ∷ bs))
    (got tt (bs ++ more)) (if eqb b 13 then byte 10 (bs ++ more) else wrong (b ∷ (bs ++ more)))
    (λ e. got_on (b ∷ bs) more (b ∷ []) bs tt refl)
    (λ e. if_on (b ∷ bs) more (eqb b 13) (byte 10 bs) (wrong (b ∷ bs)) (byte 10 (bs ++ more)) (wrong (b ∷ (bs ++ more)))
    (λ f. after (b ∷ []) bs more (byte 10 bs) (byte 10 (bs ++ more)) (byte_on 10 bs more)) (λ f. wrong_on (b ∷ bs) more [] (b ∷ bs) refl))

pub steady_end : Steady line_end
steady_end = record { idle = tt; goes_on = end_on }

pub within_first : (b : ℕ) (text : List ℕ) (now : Reading (List ℕ)) → Within text now → Within (b ∷ text) (with_first b now)
within_first b text (got v rest) w = (b ∷ w.0, ap (λ l. b ∷ l) w.1)
within_first b text (wrong rest) w = (b ∷ w.0, ap (λ l. b ∷ l) w.1)
within_first b text short w = tt
within_first b text (marked count) w = tt

pending_first : (b : ℕ) (now : Reading (List ℕ)) → Pending now → Pending (with_first b now)
pending_first b (got v rest) p = p
pending_first b (wrong rest) p = p
pending_first b short p = tt
pending_first b (marked count) p = p

-- a byte in what is read does not move what is not
kept_first : (b : ℕ) (text : List ℕ) (now : Reading (List ℕ)) → Within text now → Within text (with_first b now)
kept_first b text (got v rest) w = w
kept_first b text (wrong rest) w = w
kept_first b text short w = tt
kept_first b text (marked count) w = tt

pub first_on : (b : ℕ) (text more : List ℕ) (now later : Reading (List ℕ)) → GoesOn text more now later → GoesOn (b ∷ text) more (with_first b now) (with_first b later)
first_on b text more (got v rest) later g = record {
  within = (b ∷ g.within.0, ap (λ l. b ∷ l) g.within.1);
  grows = ap (with_first b) g.grows;
  marks = tt;
  inside = λ lt. tt;
}
first_on b text more (wrong rest) later g = record {
  within = (b ∷ g.within.0, ap (λ l. b ∷ l) g.within.1);
  grows = ap (with_first b) g.grows;
  marks = tt;
  inside = λ lt. tt;
}
first_on b text more short later g = short_on (b ∷ text) more (with_first b later) (kept_first b more later g.grows)
first_on b text more (marked count) later g = record {
  within = tt;
  grows = kept_first b more later g.grows;
  marks = (b ∷ g.marks.0, ap (λ l. b ∷ l) g.marks.1);
  inside = λ lt le. pending_first b later (g.inside lt le);
}

pub within_many : (is : ℕ → Bool) (text : List ℕ) → Within text (many is text)
within_many is [] = tt
within_many is (b ∷ bs) = within_if (b ∷ bs) (is b) (with_first b (many is bs)) (got [] (b ∷ bs)) (within_first b bs (many is bs) (within_many is bs)) ([], refl)

pub many_on : (is : ℕ → Bool) (text more : List ℕ) → GoesOn text more (many is text) (many is (text ++ more))
many_on is [] more = short_on [] more (many is more) (within_many is more)
many_on is (b ∷ bs) more =
    if_on (b ∷ bs) more (is b) (with_first b (many is bs)) (got [] (b ∷ bs)) (with_first b (many is (bs ++ more))) (got [] (b ∷ (bs ++ more)))
    (λ e. first_on b bs more (many is bs) (many is (bs ++ more)) (many_on is bs more)) (λ e. got_on (b ∷ bs) more [] (b ∷ bs) [] refl)

pub steady_many : (is : ℕ → Bool) → Steady (many is)
steady_many is = record { idle = tt; goes_on = many_on is }
