-- The reader of heads finds exactly what the grammar has.
use Rattle.std.proofs.Common.{map, take, drop, length-take, drop_of_length-le, ◌≡◌, ◌≤◌, ℕ, zero, suc, Bool, true, false, ◌||◌, eqb, eqb-true, eq-eqb, ltb-true, lt-ltb, if◌then◌else◌, nat_lt, List, [], ◌∷◌, ◌++◌, length, codes, flat_map, Option, Some, None, refl, sym, ap, ◌∙◌, subst, arith, append_assoc, append-nil}
use Rattle.std.proofs.lemmas.Bool.{cond-true, cond-false}
use Rattle.std.proofs.lemmas.List.Elements.{All-cons, All-nil, All-head, All-tail}
use Rattle.std.proofs.lemmas.Str.{IsUtf8-from_is_utf8, is_utf8-from_IsUtf8}
use Rattle.std.specs.Str.{is_utf8}
use Rattle.std.proofs.lemmas.List.{length-map}
use Rattle.httparse.specs.declared.spans.HeaderSpan.{HeaderSpan}
use Rattle.httparse.specs.declared.spans.RequestSpans.{RequestSpans}
use Rattle.httparse.specs.Spans.{header_bytes, name_and_value, IsRequestAt, IsRequestWithin}
use Rattle.httparse.specs.Grammar.{print_request, is_token_byte, is_uri_byte, is_value_byte, AllPass, LineEnd, crlf, lf, print_end, print_blank, Field, print_field, IsField, RequestHead, ReadsRequest}
use Rattle.httparse.specs.Pieces.{Piece, Then, Stops, is_newline, Newline, Blank, Word, Target, Version, Text, FieldLine, SectionOfAtMost, RequestStart}
use Rattle.httparse.proofs.PieceLemmas.{space_ends_token, colon_ends_token, print_field-append, FieldLine_parts, Stops-FieldLine}
use Rattle.httparse.proofs.GrammarLemmas.{request_pieces, request_from_pieces, request_tree, request_head}
use Rattle.http_front.specs.Reading.{Found, found, mapped, kept, or_else, then_read, row, feed, newline, blank_from, run_to, word, target, after_bytes, minor_digit, version, value_line, field_with, field, last_line, section_with, section, Start, request_start, head_alone, read_head, ReadsExactly}

-- the reader finds the piece, and what it finds is one
pub record IsExact {A : Type 0} (G : Piece A) (r : List ℕ → Found A) : Type 0 where
  pub sound : (text : List ℕ) (a : A) (rest : List ℕ) → r text ≡ found a rest → G a text rest
  pub full : (text : List ℕ) (a : A) (rest : List ℕ) → G a text rest → r text ≡ found a rest

-- two finds that are one
got : {A : Type 0} (a b : A) (r q : List ℕ) → found a r ≡ found b q → (a ≡ b) × (r ≡ q)
got {A} a b r q e =
    let same : ◌≡◌ {A = A × List ℕ} (a, r) (b, q) = cc in
    (λ i. (same i).0, λ i. (same i).1)

mapped_some : {A B : Type 0} (f : A → B) (o : Found A) (b : B) (rest : List ℕ) → mapped f o ≡ found b rest
    → (a : A) × (o ≡ found a rest) × (f a ≡ b)
mapped_some f None b rest e = absurd cc
mapped_some f (Some (a, r)) b rest e = let same = got (f a) b r rest e in (a, ap (found a) same.1, same.0)

kept_some : {A : Type 0} (test : A → Bool) (o : Found A) (a : A) (rest : List ℕ) → kept test o ≡ found a rest
    → (o ≡ found a rest) × (test a ≡ true)
kept_some test None a rest e = absurd cc
kept_some test (Some (b, r)) a rest e = go (test b) refl e
  where
    go : (t : Bool) → test b ≡ t → (if t then found b r else None) ≡ found a rest → (found b r ≡ found a rest) × (test a ≡ true)
    go true is e = (e, sym (ap test (got b a r rest e).0) ∙ is)
    go false is e = absurd cc

pub exact_row : {A B : Type 0} (G : Piece A) (H : Piece B) (r : List ℕ → Found A) (s : List ℕ → Found B)
    → IsExact G r → IsExact H s → IsExact (Then G H) (row r s)
exact_row {A} {B} G H r s g h = record {
  sound = λ text ab rest e. by text ab rest (r text) refl e;
  full = λ text ab rest x. ap (λ o. then_read o s) (g.full text ab.0 x.0 x.1) ∙ ap (mapped (λ b. (ab.0, b))) (h.full x.0 ab.1 rest x.2);
}
  where
    by : (text : List ℕ) (ab : A × B) (rest : List ℕ) (o : Found A) → r text ≡ o → then_read o s ≡ found ab rest → Then G H ab text rest
    by text ab rest None is e = absurd cc
    by text ab rest (Some (a, middle)) is e =
        let m = mapped_some {A = B} {B = A × B} (λ b. (a, b)) (s middle) ab rest e in (
          middle,
          subst (λ x. G x text middle) (λ i. (m.2 i).0) (g.sound text a middle is),
          subst (λ x. H x middle rest) (λ i. (m.2 i).1) (h.sound middle m.0 rest m.1),
        )

-- ---- line ends

feed_sound : (text : List ℕ) (end : LineEnd) (rest : List ℕ) → feed text ≡ found end rest → (end ≡ crlf) × (text ≡ 10 ∷ rest)
feed_sound [] end rest e = absurd cc
feed_sound (b ∷ text) end rest e = go (eqb b 10) refl e
  where
    go : (t : Bool) → eqb b 10 ≡ t → (if t then found crlf text else None) ≡ found end rest → (end ≡ crlf) × (b ∷ text ≡ 10 ∷ rest)
    go true is e = let same = got crlf end text rest e in (sym same.0, ap (λ x. x ∷ text) (eqb-true b 10 is) ∙ ap (λ l. 10 ∷ l) same.1)
    go false is e = absurd cc

newline_sound : (text : List ℕ) (end : LineEnd) (rest : List ℕ) → newline text ≡ found end rest → text ≡ print_end end ++ rest
newline_sound [] end rest e = absurd cc
newline_sound (b ∷ text) end rest e = go (eqb b 10) (eqb b 13) refl refl e
  where
    go : (t u : Bool) → eqb b 10 ≡ t → eqb b 13 ≡ u → (if t then found lf text else (if u then feed text else None)) ≡ found end rest
        → b ∷ text ≡ print_end end ++ rest
    go true u is other e =
        let same = got lf end text rest e in
        subst (λ x. b ∷ text ≡ print_end x ++ rest) same.0 (ap (λ x. x ∷ text) (eqb-true b 10 is) ∙ ap (λ l. 10 ∷ l) same.1)
    go false true is other e =
        let s = feed_sound text end rest e in
        subst (λ x. b ∷ text ≡ print_end x ++ rest) (sym s.0) (ap (λ x. x ∷ text) (eqb-true b 13 other) ∙ ap (λ l. 13 ∷ l) s.1)
    go false false is other e = absurd cc

newline_full : (text : List ℕ) (end : LineEnd) (rest : List ℕ) → text ≡ print_end end ++ rest → newline text ≡ found end rest
newline_full text crlf rest e = ap newline e
newline_full text lf rest e = ap newline e

exact_newline : IsExact Newline newline
exact_newline = record { sound = newline_sound; full = newline_full }

-- neither CR nor LF
no_newline : (b : ℕ) → is_newline b ≡ false → (eqb b 13 ≡ false) × (eqb b 10 ≡ false)
no_newline b e = go (eqb b 13) (eqb b 10) e
  where
    go : (t u : Bool) → (t || u) ≡ false → (t ≡ false) × (u ≡ false)
    go true u e = absurd cc
    go false u e = (refl, e)

newline_none : (text : List ℕ) → Stops is_newline text → newline text ≡ None
newline_none [] stops = absurd stops
newline_none (b ∷ text) stops =
    let no = no_newline b stops in
    ap (λ c. if c then found lf text else (if eqb b 13 then feed text else None)) no.1 ∙ ap (λ c. if c then feed text else None) no.0

-- ---- empty lines

blank_stop : (text : List ℕ) → Stops is_newline text → blank_from false text ≡ found [] text
blank_stop [] stops = absurd stops
blank_stop (b ∷ text) stops =
    let no = no_newline b stops in
    ap (λ c. if c then mapped (λ ends. lf ∷ ends) (blank_from false text) else (if eqb b 13 then blank_from true text else found [] (b ∷ text))) no.1
    ∙ ap (λ c. if c then blank_from true text else found [] (b ∷ text)) no.0

blank_full : (ends : List LineEnd) (text rest : List ℕ) → text ≡ print_blank ends ++ rest → Stops is_newline rest → blank_from false text ≡ found ends rest
blank_full [] text rest e stops = ap (blank_from false) e ∙ blank_stop rest stops
blank_full (lf ∷ ends) text rest e stops =
    ap (blank_from false) e ∙ ap (mapped (λ es. lf ∷ es)) (blank_full ends (print_blank ends ++ rest) rest refl stops)
blank_full (crlf ∷ ends) text rest e stops =
    ap (blank_from false) e ∙ ap (mapped (λ es. crlf ∷ es)) (blank_full ends (print_blank ends ++ rest) rest refl stops)

-- the text with the CR that was read before it
abbrev lead : Bool → List ℕ → List ℕ
lead true text = 13 ∷ text
lead false text = text

abbrev IsBlank : List LineEnd → (text rest : List ℕ) → Type 0
IsBlank ends text rest = (text ≡ print_blank ends ++ rest) × Stops is_newline rest

blank_sound : (carriage : Bool) (text : List ℕ) (ends : List LineEnd) (rest : List ℕ) → blank_from carriage text ≡ found ends rest → IsBlank ends (lead carriage text) rest
blank_sound true [] ends rest e = absurd cc
blank_sound false [] ends rest e = absurd cc
blank_sound true (b ∷ text) ends rest e = go (eqb b 10) refl (λ es. blank_sound false text es rest) e
  where
    go : (t : Bool) → eqb b 10 ≡ t → ((es : List LineEnd) → blank_from false text ≡ found es rest → IsBlank es text rest)
        → (if t then mapped (λ es. crlf ∷ es) (blank_from false text) else None) ≡ found ends rest → IsBlank ends (13 ∷ b ∷ text) rest
    go true is deeper e =
        let m = mapped_some (λ es. crlf ∷ es) (blank_from false text) ends rest e in
        let s = deeper m.0 m.1 in
        subst (λ es. IsBlank es (13 ∷ b ∷ text) rest) m.2 (ap (λ x. 13 ∷ x ∷ text) (eqb-true b 10 is) ∙ ap (λ l. 13 ∷ 10 ∷ l) s.0, s.1)
    go false is deeper e = absurd cc
blank_sound false (b ∷ text) ends rest e = go (eqb b 10) (eqb b 13) refl refl (λ es. blank_sound false text es rest) (blank_sound true text ends rest) e
  where
    go : (t u : Bool) → eqb b 10 ≡ t → eqb b 13 ≡ u → ((es : List LineEnd) → blank_from false text ≡ found es rest → IsBlank es text rest)
        → (blank_from true text ≡ found ends rest → IsBlank ends (13 ∷ text) rest)
        → (if t then mapped (λ es. lf ∷ es) (blank_from false text) else (if u then blank_from true text else found [] (b ∷ text))) ≡ found ends rest
        → IsBlank ends (b ∷ text) rest
    go true u is other deeper after e =
        let m = mapped_some (λ es. lf ∷ es) (blank_from false text) ends rest e in
        let s = deeper m.0 m.1 in
        subst (λ es. IsBlank es (b ∷ text) rest) m.2 (ap (λ x. x ∷ text) (eqb-true b 10 is) ∙ ap (λ l. 10 ∷ l) s.0, s.1)
    go false true is other deeper after e = let s = after e in (ap (λ x. x ∷ text) (eqb-true b 13 other) ∙ s.0, s.1)
    go false false is other deeper after e =
        let same = got [] ends (b ∷ text) rest e in
        let stops : is_newline b ≡ false = ap (λ c. c || eqb b 10) other ∙ is in
        subst (λ es. IsBlank es (b ∷ text) rest) same.0 (same.1, subst (Stops is_newline) same.1 stops)

exact_blank : IsExact Blank (blank_from false)
exact_blank = record { sound = λ text ends rest e. blank_sound false text ends rest e; full = λ text ends rest x. blank_full ends text rest x.0 x.1 }

-- ---- words

module _ (test : ℕ → Bool) (stop : ℕ) where
  run_full : (w text rest : List ℕ) → test stop ≡ false → AllPass test w → text ≡ w ++ stop ∷ rest → run_to test stop text ≡ found w rest
  run_full [] text rest fails all e =
      ap (run_to test stop) e ∙ cond-false (test stop) (mapped (λ run. stop ∷ run) (run_to test stop rest)) (if eqb stop stop then found [] rest else None) fails
      ∙ cond-true (eqb stop stop) (found [] rest) None (eq-eqb stop stop refl)
  run_full (b ∷ w) text rest fails all e =
      ap (run_to test stop) e
      ∙ cond-true (test b) (mapped (λ run. b ∷ run) (run_to test stop (w ++ stop ∷ rest))) (if eqb b stop then found [] (w ++ stop ∷ rest) else None) (All-head (λ v. test v ≡ true) b w all)
      ∙ ap (mapped (λ run. b ∷ run)) (run_full w (w ++ stop ∷ rest) rest fails (All-tail (λ v. test v ≡ true) b w all) refl)

  abbrev IsRun : (w text rest : List ℕ) → Type 0
  IsRun w text rest = AllPass test w × (text ≡ w ++ stop ∷ rest)

  run_sound : (text w rest : List ℕ) → run_to test stop text ≡ found w rest → IsRun w text rest
  run_sound [] w rest e = absurd cc
  run_sound (b ∷ text) w rest e = go (test b) (eqb b stop) refl refl (λ v. run_sound text v rest) e
    where
      go : (t u : Bool) → test b ≡ t → eqb b stop ≡ u → ((v : List ℕ) → run_to test stop text ≡ found v rest → IsRun v text rest)
          → (if t then mapped (λ run. b ∷ run) (run_to test stop text) else (if u then found [] text else None)) ≡ found w rest → IsRun w (b ∷ text) rest
      go true u is other deeper e =
          let m = mapped_some (λ run. b ∷ run) (run_to test stop text) w rest e in
          let s = deeper m.0 m.1 in
          subst (λ v. IsRun v (b ∷ text) rest) m.2 (All-cons (λ v. test v ≡ true) b m.0 is s.0, ap (λ l. b ∷ l) s.1)
      go false true is other deeper e =
          let same = got [] w text rest e in
          subst (λ v. IsRun v (b ∷ text) rest) same.0 (All-nil (λ v. test v ≡ true), ap (λ x. x ∷ text) (eqb-true b stop other) ∙ ap (λ l. stop ∷ l) same.1)
      go false false is other deeper e = absurd cc

  exact_word : test stop ≡ false → IsExact (Word test stop) (word test stop)
  exact_word fails = record {
    sound = λ text w rest e.
        let k = kept_some (λ (run : List ℕ). nat_lt 0 (length run)) (run_to test stop text) w rest e in
        let s = run_sound text w rest k.0 in
        (ltb-true 0 (length w) k.1, s.0, s.1);
    full = λ text w rest x.
        ap (kept (λ run. nat_lt 0 (length run))) (run_full w text rest fails x.1 x.2) ∙ cond-true (nat_lt 0 (length w)) (found w rest) None (lt-ltb 0 (length w) x.0);
  }

exact_target : IsExact Target target
exact_target = record {
  sound = λ text w rest e.
      let k = kept_some is_utf8 (word is_uri_byte 32 text) w rest e in
      ((exact_word is_uri_byte 32 refl).sound text w rest k.0, IsUtf8-from_is_utf8 w k.1);
  full = λ text w rest x.
      ap (kept is_utf8) ((exact_word is_uri_byte 32 refl).full text w rest x.0) ∙ cond-true (is_utf8 w) (found w rest) None (is_utf8-from_IsUtf8 w x.1);
}

-- ---- the version

after_sound : (ps text rest : List ℕ) → after_bytes ps text ≡ Some rest → text ≡ ps ++ rest
after_sound [] text rest e = cc
after_sound (p ∷ ps) [] rest e = absurd cc
after_sound (p ∷ ps) (b ∷ text) rest e = go (eqb b p) refl (after_sound ps text rest) e
  where
    go : (t : Bool) → eqb b p ≡ t → (after_bytes ps text ≡ Some rest → text ≡ ps ++ rest) → (if t then after_bytes ps text else None) ≡ Some rest → b ∷ text ≡ p ∷ (ps ++ rest)
    go true is deeper e = ap (λ x. x ∷ text) (eqb-true b p is) ∙ ap (λ l. p ∷ l) (deeper e)
    go false is deeper e = absurd cc

version_sound : (text : List ℕ) (minor : ℕ) (rest : List ℕ) → version text ≡ found minor rest → Version minor text rest
version_sound text minor rest e = by (after_bytes (codes "HTTP/1.") text) refl e
  where
    digits : (b : ℕ) (l : List ℕ) → text ≡ codes "HTTP/1." ++ b ∷ l → (t u : Bool) → eqb b 48 ≡ t → eqb b 49 ≡ u
        → (if t then found 0 l else (if u then found 1 l else None)) ≡ found minor rest → Version minor text rest
    digits b l is true u zero_is one_is e =
        let same = got 0 minor l rest e in
        subst (λ m. Version m text rest) same.0 (omega arith, is ∙ ap (λ x. codes "HTTP/1." ++ x ∷ l) (eqb-true b 48 zero_is) ∙ ap (λ r. codes "HTTP/1." ++ 48 ∷ r) same.1)
    digits b l is false true zero_is one_is e =
        let same = got 1 minor l rest e in
        subst (λ m. Version m text rest) same.0 (omega arith, is ∙ ap (λ x. codes "HTTP/1." ++ x ∷ l) (eqb-true b 49 one_is) ∙ ap (λ r. codes "HTTP/1." ++ 49 ∷ r) same.1)
    digits b l is false false zero_is one_is e = absurd cc

    by : (o : Option (List ℕ)) → after_bytes (codes "HTTP/1.") text ≡ o → minor_digit o ≡ found minor rest → Version minor text rest
    by None is e = absurd cc
    by (Some []) is e = absurd cc
    by (Some (b ∷ l)) is e = digits b l (after_sound (codes "HTTP/1.") text (b ∷ l) is) (eqb b 48) (eqb b 49) refl refl e

version_full : (text : List ℕ) (minor : ℕ) (rest : List ℕ) → Version minor text rest → version text ≡ found minor rest
version_full text zero rest x = ap version x.1
version_full text (suc zero) rest x = ap version x.1
version_full text (suc (suc n)) rest x = absurd (omega (arith, x.0))

exact_version : IsExact Version version
exact_version = record { sound = version_sound; full = version_full }

-- ---- fields

abbrev pair : List ℕ → LineEnd → List ℕ × LineEnd
pair value end = (value, end)

value_full : (value : List ℕ) (end : LineEnd) (text rest : List ℕ) → AllPass is_value_byte value → text ≡ value ++ (print_end end ++ rest)
    → value_line text ≡ found (pair value end) rest
value_full [] crlf text rest all e = ap value_line e
value_full [] lf text rest all e = ap value_line e
value_full (b ∷ value) end text rest all e =
    let more = value ++ (print_end end ++ rest) in
    ap value_line e
    ∙ cond-true (is_value_byte b) (mapped (λ v. pair (b ∷ v.0) v.1) (value_line more)) (mapped (λ x. pair [] x) (newline (b ∷ more))) (All-head (λ v. is_value_byte v ≡ true) b value all)
    ∙ ap (mapped (λ v. pair (b ∷ v.0) v.1)) (value_full value end more rest (All-tail (λ v. is_value_byte v ≡ true) b value all) refl)

value_sound : (text : List ℕ) (t : List ℕ × LineEnd) (rest : List ℕ) → value_line text ≡ found t rest → Text t text rest
value_sound [] t rest e = absurd cc
value_sound (b ∷ text) t rest e = go (is_value_byte b) refl (λ v. value_sound text v rest) e
  where
    go : (c : Bool) → is_value_byte b ≡ c → ((v : List ℕ × LineEnd) → value_line text ≡ found v rest → Text v text rest)
        → (if c then mapped (λ v. pair (b ∷ v.0) v.1) (value_line text) else mapped (λ x. pair [] x) (newline (b ∷ text))) ≡ found t rest → Text t (b ∷ text) rest
    go true is deeper e =
        let m = mapped_some (λ (v : List ℕ × LineEnd). pair (b ∷ v.0) v.1) (value_line text) t rest e in
        let s = deeper m.0 m.1 in
        subst (λ v. Text v (b ∷ text) rest) m.2 (All-cons (λ v. is_value_byte v ≡ true) b m.0.0 is s.0, ap (λ l. b ∷ l) s.1)
    go false is deeper e =
        let m = mapped_some (λ (x : LineEnd). pair [] x) (newline (b ∷ text)) t rest e in
        subst (λ v. Text v (b ∷ text) rest) m.2 (All-nil (λ v. is_value_byte v ≡ true), newline_sound (b ∷ text) m.0 rest m.1)

exact_value : IsExact Text value_line
exact_value = record { sound = value_sound; full = λ text t rest x. value_full t.0 t.1 text rest x.0 x.1 }

exact_name : IsExact (Word is_token_byte 58) (word is_token_byte 58)
exact_name = exact_word is_token_byte 58 colon_ends_token

exact_parts : IsExact (Then (Word is_token_byte 58) Text) (row (word is_token_byte 58) value_line)
exact_parts = exact_row (Word is_token_byte 58) Text (word is_token_byte 58) value_line exact_name exact_value

exact_field : IsExact FieldLine field
exact_field = record {
  sound = λ text f rest e.
      let m = mapped_some field_with (row (word is_token_byte 58) value_line text) f rest e in
      let x = exact_parts.sound text m.0 rest m.1 in
      let own = field_with m.0 in
      let valid : IsField own = record { name = (x.1.0, x.1.1); raw = x.2.0 } in
      subst (λ g. FieldLine g text rest) m.2 (valid, x.1.2 ∙ ap (λ l. own.name ++ 58 ∷ l) x.2.1 ∙ sym (print_field-append own rest));
  full = λ text f rest x. ap (mapped field_with) (exact_parts.full text (f.name, (f.raw, f.end)) rest (FieldLine_parts f text rest x));
}

-- ---- sections

abbrev Lines : Type 0
Lines = List Field × LineEnd

abbrev lines : List Field → LineEnd → Lines
lines fields last = (fields, last)

last_full : (text : List ℕ) (last : LineEnd) (rest : List ℕ) → text ≡ print_end last ++ rest → last_line text ≡ found (lines [] last) rest
last_full text last rest e = ap (mapped (λ end. lines [] end)) (newline_full text last rest e)

last_sound : (room : ℕ) (text : List ℕ) (s : Lines) (rest : List ℕ) → last_line text ≡ found s rest → SectionOfAtMost room s text rest
last_sound room text s rest e =
    let m = mapped_some (λ (end : LineEnd). lines [] end) (newline text) s rest e in
    subst (λ x. SectionOfAtMost room x text rest) m.2 ((All-nil IsField, newline_sound text m.0 rest m.1), omega arith)

exact_last : IsExact (SectionOfAtMost 0) (section 0)
exact_last = record { sound = last_sound 0; full = λ text s rest x. by text s.0 s.1 rest x }
  where
    by : (text : List ℕ) (fields : List Field) (last : LineEnd) (rest : List ℕ) → SectionOfAtMost 0 (lines fields last) text rest → section 0 text ≡ found (lines fields last) rest
    by text [] last rest x = last_full text last rest x.0.1
    by text (f ∷ fs) last rest x = absurd (omega (arith, x.1))

module _ (room : ℕ) (deeper : IsExact (SectionOfAtMost room) (section room)) where
  exact_next : IsExact (Then FieldLine (SectionOfAtMost room)) (row field (section room))
  exact_next = exact_row FieldLine (SectionOfAtMost room) field (section room) exact_field deeper

  next_sound : (text : List ℕ) (s : Lines) (rest : List ℕ) → mapped section_with (row field (section room) text) ≡ found s rest → SectionOfAtMost (suc room) s text rest
  next_sound text s rest e =
      let m = mapped_some section_with (row field (section room) text) s rest e in
      let x = exact_next.sound text m.0 rest m.1 in
      let f = m.0.0 in
      let fs = m.0.1.0 in
      let last = m.0.1.1 in
      let printed : text ≡ (flat_map print_field (f ∷ fs) ++ print_end last) ++ rest =
      x.1.1 ∙ ap (λ l. print_field f ++ l) x.2.0.1 ∙ sym (append_assoc (print_field f) (flat_map print_field fs ++ print_end last) rest)
      ∙ ap (λ l. l ++ rest) (sym (append_assoc (print_field f) (flat_map print_field fs) (print_end last))) in
      subst (λ y. SectionOfAtMost (suc room) y text rest) m.2 ((All-cons IsField f fs x.1.0 x.2.0.0, printed), omega (arith, x.2.1))

  more_sound : (text : List ℕ) (s : Lines) (rest : List ℕ) (o : Found Lines) → last_line text ≡ o
      → or_else o (mapped section_with (row field (section room) text)) ≡ found s rest → SectionOfAtMost (suc room) s text rest
  more_sound text s rest None is e = next_sound text s rest e
  more_sound text s rest (Some first) is e = last_sound (suc room) text s rest (is ∙ e)

  more_full : (text : List ℕ) (fields : List Field) (last : LineEnd) (rest : List ℕ) → SectionOfAtMost (suc room) (lines fields last) text rest
      → section (suc room) text ≡ found (lines fields last) rest
  more_full text [] last rest x = ap (λ o. or_else o (mapped section_with (row field (section room) text))) (last_full text last rest x.0.1)
  more_full text (f ∷ fs) last rest x =
      let middle = (flat_map print_field fs ++ print_end last) ++ rest in
      let line : FieldLine f text middle = (
        All-head IsField f fs x.0.0,
        x.0.1 ∙ ap (λ l. l ++ rest) (append_assoc (print_field f) (flat_map print_field fs) (print_end last))
            ∙ append_assoc (print_field f) (flat_map print_field fs ++ print_end last) rest,
      ) in
      let none : last_line text ≡ None = ap (mapped (λ end. lines [] end)) (newline_none text (Stops-FieldLine f text middle line)) in
      let after : SectionOfAtMost room (lines fs last) middle rest = ((All-tail IsField f fs x.0.0, refl), omega (arith, x.1)) in
      ap (λ o. or_else o (mapped section_with (row field (section room) text))) none
      ∙ ap (mapped section_with) (exact_next.full text (f, lines fs last) rest (middle, line, after))

  exact_more : IsExact (SectionOfAtMost (suc room)) (section (suc room))
  exact_more = record { sound = λ text s rest e. more_sound text s rest (last_line text) refl e; full = λ text s rest x. more_full text s.0 s.1 rest x }

exact_section : (room : ℕ) → IsExact (SectionOfAtMost room) (section room)
exact_section zero = exact_last
exact_section (suc room) = exact_more room (exact_section room)

-- ---- the head

exact_start : IsExact RequestStart request_start
exact_start = exact_row _ _ _ _ exact_blank (exact_row _ _ _ _ (exact_word is_token_byte 32 space_ends_token) (exact_row _ _ _ _ exact_target (exact_row _ _ _ _ exact_version exact_newline)))

abbrev Tree : Type 0
Tree = Start × Lines

exact_head : IsExact (Then RequestStart (SectionOfAtMost 64)) (row request_start (section 64))
exact_head = exact_row RequestStart (SectionOfAtMost 64) request_start (section 64) exact_start (exact_section 64)

head_sound : (text : List ℕ) (h : RequestHead) → read_head text ≡ Some h → ReadsRequest text h [] × (length h.fields ≤ 64)
head_sound text h e = by (row request_start (section 64) text) refl e
  where
    by : (o : Found Tree) → row request_start (section 64) text ≡ o → head_alone o ≡ Some h → ReadsRequest text h [] × (length h.fields ≤ 64)
    by None is e = absurd cc
    by (Some (t, [])) is e =
        let x = exact_head.sound text t [] is in
        let same : request_head t ≡ h = cc in
        subst (λ k. ReadsRequest text k [] × (length k.fields ≤ 64)) same (request_from_pieces text t [] (x.0, x.1, x.2.0), x.2.1)
    by (Some (t, b ∷ rest)) is e = absurd cc

head_full : (text : List ℕ) (h : RequestHead) → ReadsRequest text h [] → length h.fields ≤ 64 → read_head text ≡ Some h
head_full text h reads le =
    let x = request_pieces text h [] reads in
    ap head_alone (exact_head.full text (request_tree h) [] (x.0, x.1, (x.2, le)))

pub heads_are_exact : ReadsExactly
heads_are_exact = record { reads = head_sound; finds = head_full }

-- ---- what httparse answers

-- offsets of a head that is all of the text
pub parsed : (text : List ℕ) (room : List HeaderSpan) (spans : RequestSpans) (h : RequestHead) → length room ≡ 64 → spans.len ≡ length text
    → IsRequestWithin text room spans → IsRequestAt text room spans h → read_head text ≡ Some h
parsed text room spans h sized len within at =
    let count : length (take spans.headers room) ≤ 64 = omega (arith, length-take spans.headers room) in
    let same : length (map (header_bytes text) (take spans.headers room)) ≡ length (map name_and_value h.fields) = ap length at.fields in
    let few : length h.fields ≤ 64 = omega (arith, count, same, length-map (take spans.headers room) (header_bytes text), length-map h.fields name_and_value) in
    let none : drop spans.len text ≡ [] = drop_of_length-le text (omega (arith, len)) in
    head_full text h (subst (ReadsRequest text h) none at.reads) few

-- there is no head
pub not_parsed : (text : List ℕ) → ((h : RequestHead) → ReadsRequest text h [] → length h.fields ≤ 64 → ⊥) → read_head text ≡ None
not_parsed text never = by (read_head text) refl
  where
    by : (o : Option RequestHead) → read_head text ≡ o → read_head text ≡ None
    by None e = e
    by (Some h) e = let r = head_sound text h e in absurd (never h r.0 r.1)

-- a head that all of the text is has the text's length
pub full_length : (text : List ℕ) (room : List HeaderSpan) (spans : RequestSpans) (h : RequestHead) → ReadsRequest text h [] → IsRequestAt text room spans h → spans.len ≡ length text
full_length text room spans h reads at = at.len ∙ ap length (sym (append-nil (print_request h))) ∙ ap length (sym reads.1)
