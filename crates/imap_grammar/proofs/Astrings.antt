-- Plain and quoted names: what is read is spelled so, and each spelling is read.
use Rattle.std.proofs.Common.{◌≡◌, ℕ, Bool, true, false, ◌&&◌, List, [], ◌∷◌, ◌++◌, refl, sym, ap, ◌∙◌, subst, arith, if◌then◌else◌, append_assoc, eqb, eqb-true}
use Rattle.std.specs.List.{list_all, flat_map}
use Rattle.std.proofs.lemmas.Bool.{and_parts, cond-false, cond-true}
use Rattle.std.proofs.lemmas.Bool.Decides.{nat_tests}
use Rattle.imap_grammar.specs.Bytes.{is_astring_byte, is_escaped, is_quotable}
use Rattle.imap_grammar.specs.Printing.{escaped}
use Rattle.imap_grammar.specs.Grammar.{IsPlain}
use Rattle.imap_grammar.specs.Reading.{Reading, got, wrong, with_first, many}
use Rattle.imap_grammar.specs.Astrings.{plain, inside}
use Rattle.imap_grammar.proofs.ReaderLaws.{GoesOn, Reads, IsReader}
use Rattle.imap_grammar.proofs.Steps.{Run, reads_step, reads_first, reads_wrong, reads_if, reads_many}
use Rattle.imap_grammar.proofs.Spelled.{run_spelled}

-- bytes that need no quotes, as they are
abbrev pub Plain : List ℕ → List ℕ → Type 0
Plain bytes v = (v ≡ bytes) × IsPlain bytes

plain_some : GoesOn Plain []
plain_some = (97 ∷ [], 97 ∷ [], (refl, record { some = omega arith; each = refl }))

pub reads_plain : IsReader Plain plain
reads_plain = record { some = plain_some; each = each }
  where
    more : (b : ℕ) (bytes v : List ℕ) → is_astring_byte b ≡ true → Run is_astring_byte bytes v → Plain (b ∷ bytes) (b ∷ v)
    more b bytes v holds own = (ap (λ l. b ∷ l) own.0, record { some = omega arith; each = ap (λ c. c && list_all is_astring_byte bytes) holds ∙ own.1 })

    first : (b : ℕ) (l : List ℕ) → is_astring_byte b ≡ true → many is_astring_byte (b ∷ l) ≡ with_first b (many is_astring_byte l)
    first b l e = cond-true (is_astring_byte b) (with_first b (many is_astring_byte l)) (got [] (b ∷ l)) e

    each : (text : List ℕ) → Reads Plain plain text (plain text)
    each [] = plain_some
    each (b ∷ bs) = reads_if Plain plain (is_astring_byte b) (b ∷ bs) (many is_astring_byte (b ∷ bs)) (wrong (b ∷ bs))
        (λ e. subst (Reads Plain plain (b ∷ bs)) (sym (first b bs e))
        (reads_first Plain (Run is_astring_byte) plain (many is_astring_byte) b bs (many is_astring_byte bs)
        (λ l. cond-true (is_astring_byte b) (many is_astring_byte (b ∷ l)) (wrong (b ∷ l)) e ∙ first b l e)
        (λ bytes v. more b bytes v e) ((reads_many is_astring_byte).each bs)))
        (λ e. reads_wrong Plain plain b bs (λ l. cond-false (is_astring_byte b) (many is_astring_byte (b ∷ l)) (wrong (b ∷ l)) e) plain_some)

-- what comes up to the closing quote
abbrev pub Closed : List ℕ → List ℕ → Type 0
Closed bytes v = (list_all is_quotable v ≡ true) × (bytes ≡ flat_map escaped v ++ 34 ∷ [])

-- the same after a \
abbrev AfterBackslash : List ℕ → List ℕ → Type 0
AfterBackslash bytes v = (c : ℕ) × (cs : List ℕ) × (v ≡ c ∷ cs) × (is_escaped c ≡ true) × (list_all is_quotable (c ∷ cs) ≡ true)
    × (bytes ≡ c ∷ (flat_map escaped cs ++ 34 ∷ []))

abbrev Inside : Bool → List ℕ → List ℕ → Type 0
Inside true = AfterBackslash
Inside false = Closed

escaped_quotable : (b : ℕ) → is_escaped b ≡ true → is_quotable b ≡ true
escaped_quotable b e = grind (arith, nat_tests)

neither : (b : ℕ) → eqb b 34 ≡ false → eqb b 92 ≡ false → is_escaped b ≡ false
neither b e f = grind (arith, nat_tests)

escaped_more : (b : ℕ) (bytes v : List ℕ) → is_escaped b ≡ true → Closed bytes v → AfterBackslash (b ∷ bytes) (b ∷ v)
escaped_more b bytes v e own = (b, v, refl, e, ap (λ c. c && list_all is_quotable v) (escaped_quotable b e) ∙ own.0, ap (λ l. b ∷ l) own.1)

backslash_more : (b : ℕ) (bytes v : List ℕ) → b ≡ 92 → AfterBackslash bytes v → Closed (b ∷ bytes) v
backslash_more b bytes v e (c, cs, is, is_one, each, i) =
    let first : escaped c ≡ 92 ∷ c ∷ [] = cond-true (is_escaped c) (92 ∷ c ∷ []) (c ∷ []) is_one in
    let spelled : b ∷ bytes ≡ flat_map escaped v ++ 34 ∷ [] =
    ap (λ x. x ∷ bytes) e ∙ ap (λ l. 92 ∷ l) i ∙ sym (ap (λ l. (l ++ flat_map escaped cs) ++ 34 ∷ []) first)
    ∙ sym (ap (λ l. flat_map escaped l ++ 34 ∷ []) is) in
    (subst (λ l. list_all is_quotable l ≡ true) (sym is) each, spelled)

byte_more : (b : ℕ) (bytes v : List ℕ) → is_escaped b ≡ false → is_quotable b ≡ true → Closed bytes v → Closed (b ∷ bytes) (b ∷ v)
byte_more b bytes v other e own =
    let first : escaped b ≡ b ∷ [] = cond-false (is_escaped b) (92 ∷ b ∷ []) (b ∷ []) other in
    (ap (λ c. c && list_all is_quotable v) e ∙ own.0, ap (λ l. b ∷ l) own.1 ∙ sym (ap (λ l. (l ++ flat_map escaped v) ++ 34 ∷ []) first))

closed_some : GoesOn Closed []
closed_some = (34 ∷ [], [], (refl, refl))

escaped_some : GoesOn AfterBackslash []
escaped_some = (34 ∷ 34 ∷ [], 34 ∷ [], (34, [], refl, refl, refl, refl))

each_inside : (after_backslash : Bool) (text : List ℕ) → Reads (Inside after_backslash) (inside after_backslash) text (inside after_backslash text)
each_inside true [] = escaped_some
each_inside false [] = closed_some
each_inside true (b ∷ bs) = reads_if AfterBackslash (inside true) (is_escaped b) (b ∷ bs) (with_first b (inside false bs)) (wrong (b ∷ bs))
    (λ e. reads_first AfterBackslash Closed (inside true) (inside false) b bs (inside false bs)
    (λ l. cond-true (is_escaped b) (with_first b (inside false l)) (wrong (b ∷ l)) e)
    (λ bytes v. escaped_more b bytes v e) (each_inside false bs))
    (λ e. reads_wrong AfterBackslash (inside true) b bs (λ l. cond-false (is_escaped b) (with_first b (inside false l)) (wrong (b ∷ l)) e) escaped_some)
each_inside false (b ∷ bs) =
    reads_if Closed (inside false) (eqb b 34) (b ∷ bs) (got [] bs) (second bs)
    (λ e. (b ∷ [], refl, (refl, ap (λ c. c ∷ []) (eqb-true b 34 e)), λ next agree. cond-true (eqb b 34) (got [] next) (second next) e))
    (λ no_quote. reads_if Closed (inside false) (eqb b 92) (b ∷ bs) (inside true bs) (third bs)
    (λ e. reads_step Closed AfterBackslash (inside false) (inside true) b bs (inside true bs)
    (λ l. not_first l no_quote ∙ cond-true (eqb b 92) (inside true l) (third l) e)
    (λ bytes v. backslash_more b bytes v (eqb-true b 92 e)) (each_inside true bs))
    (λ no_slash. reads_if Closed (inside false) (is_quotable b) (b ∷ bs) (with_first b (inside false bs)) (wrong (b ∷ bs))
    (λ e. reads_first Closed Closed (inside false) (inside false) b bs (inside false bs)
    (λ l. not_first l no_quote ∙ not_second l no_slash ∙ cond-true (is_quotable b) (with_first b (inside false l)) (wrong (b ∷ l)) e)
    (λ bytes v. byte_more b bytes v (neither b no_quote no_slash) e) (each_inside false bs))
    (λ e. reads_wrong Closed (inside false) b bs
    (λ l. not_first l no_quote ∙ not_second l no_slash ∙ cond-false (is_quotable b) (with_first b (inside false l)) (wrong (b ∷ l)) e) closed_some)))
  where
    third : List ℕ → Reading (List ℕ)
    third l = if is_quotable b then with_first b (inside false l) else wrong (b ∷ l)

    second : List ℕ → Reading (List ℕ)
    second l = if eqb b 92 then inside true l else third l

    not_first : (l : List ℕ) → eqb b 34 ≡ false → inside false (b ∷ l) ≡ second l
    not_first l e = cond-false (eqb b 34) (got [] l) (second l) e

    not_second : (l : List ℕ) → eqb b 92 ≡ false → second l ≡ third l
    not_second l e = cond-false (eqb b 92) (inside true l) (third l) e

-- what is read is spelled so
pub reads_closed : IsReader Closed (inside false)
reads_closed = record { some = closed_some; each = each_inside false }

-- each spelling is read
pub plain_spelled : (bytes : List ℕ) (b : ℕ) (rest : List ℕ) → IsPlain bytes → is_astring_byte b ≡ false → plain (bytes ++ b ∷ rest) ≡ got bytes (b ∷ rest)
plain_spelled [] b rest is stops = let lt = is.some in absurd (omega (arith, lt))
plain_spelled (x ∷ bytes) b rest is stops =
    let parts = and_parts (is_astring_byte x) (list_all is_astring_byte bytes) is.each in
    cond-true (is_astring_byte x) (many is_astring_byte (x ∷ (bytes ++ b ∷ rest))) (wrong (x ∷ (bytes ++ b ∷ rest))) parts.0
    ∙ run_spelled is_astring_byte (x ∷ bytes) b rest is.each stops

one_inside : (x : ℕ) (text v rest : List ℕ) → is_quotable x ≡ true → inside false text ≡ got v rest → inside false (escaped x ++ text) ≡ got (x ∷ v) rest
one_inside x text v rest fits e = go (is_escaped x) refl
  where
    apart : is_escaped x ≡ false → (eqb x 34 ≡ false) × (eqb x 92 ≡ false)
    apart other = grind (arith, nat_tests)

    go : (c : Bool) → is_escaped x ≡ c → inside false ((if c then 92 ∷ x ∷ [] else x ∷ []) ++ text) ≡ got (x ∷ v) rest
    go true is = cond-true (is_escaped x) (with_first x (inside false text)) (wrong (x ∷ text)) is ∙ ap (with_first x) e
    go false other =
        let tests = apart other in
        cond-false (eqb x 34) (got [] text) (if eqb x 92 then inside true text else if is_quotable x then with_first x (inside false text) else wrong
        (x ∷ text)) tests.0
        ∙ cond-false (eqb x 92) (inside true text) (if is_quotable x then with_first x (inside false text) else wrong (x ∷ text)) tests.1
        ∙ cond-true (is_quotable x) (with_first x (inside false text)) (wrong (x ∷ text)) fits ∙ ap (with_first x) e

pub inside_spelled : (v rest : List ℕ) → list_all is_quotable v ≡ true → inside false (flat_map escaped v ++ 34 ∷ rest) ≡ got v rest
inside_spelled [] rest each = refl
inside_spelled (x ∷ v) rest each =
    let parts = and_parts (is_quotable x) (list_all is_quotable v) each in
    ap (inside false) (append_assoc (escaped x) (flat_map escaped v) (34 ∷ rest))
    ∙ one_inside x (flat_map escaped v ++ 34 ∷ rest) v rest parts.0 (inside_spelled v rest parts.1)
