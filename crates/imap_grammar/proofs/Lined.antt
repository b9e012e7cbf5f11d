-- Readers whose last byte is a line feed: a command's, up to its end or the marker of its message.
use Rattle.std.proofs.Common.{◌≡◌, ℕ, ◌<◌, ◌≤◌, Bool, true, false, eqb, List, [], ◌∷◌, ◌++◌, length, refl, sym, ap, ◌∙◌, subst, append_assoc, eqb-true, if◌then◌else◌}
use Rattle.imap_grammar.specs.Reading.{Reading, Reader, got, wrong, short, marked, and_then, ◌>>=◌, gives, fails, byte, line_end}
use Rattle.imap_grammar.proofs.Growing.{Within, Pending, GoesOn, Steady, steady_then, steady_end, steady_gives, steady_fails}

-- what is read ends with a line feed
abbrev pub IsLined : {A : Type 0} → List ℕ → Reading A → Type 0
IsLined text (got value rest) = (body : List ℕ) × (text ≡ body ++ 10 ∷ rest)
IsLined text (wrong rest) = Unit {0}
IsLined text short = Unit {0}
IsLined text (marked count) = Unit {0}

-- if more bytes make a text whole that ended too early, a line feed is among them
abbrev pub Lines : {A : Type 0} → (more : List ℕ) → (now later : Reading A) → Type 0
Lines more (got value rest) later = Unit {0}
Lines more (wrong rest) later = Unit {0}
Lines more short later = IsLined more later
Lines more (marked count) later = IsLined more later

-- after a marker, up to the last of its octets, the text ends too early
abbrev pub Shut : {A : Type 0} → (more : List ℕ) → (now later : Reading A) → Type 0
Shut more (got value rest) later = Unit {0}
Shut more (wrong rest) later = Unit {0}
Shut more short later = Unit {0}
Shut more (marked count) later = length more ≤ count → later ≡ short

pub record EndsOn {A : Type 0} (text more : List ℕ) (now later : Reading A) : Type 0 where
  pub lined : IsLined text now
  pub lines : Lines more now later
  pub shut : 0 < length more → Shut more now later

pub record Lined {A : Type 0} (read : Reader A) : Type 0 where
  pub steady : Steady read
  pub starts : read [] ≡ short
  pub ends_on : (text more : List ℕ) → EndsOn text more (read text) (read (text ++ more))

-- a text that goes wrong, and one that does not end too early
pub wrong_ends : {A : Type 0} (text more rest : List ℕ) (later : Reading A) → EndsOn text more (wrong rest) later
wrong_ends text more rest later = record { lined = tt; lines = tt; shut = λ lt. tt }

pub got_ends : {A : Type 0} (text more body rest : List ℕ) (value : A) (later : Reading A) → text ≡ body ++ 10 ∷ rest → EndsOn text more (got value rest) later
got_ends text more body rest value later e = record { lined = (body, e); lines = tt; shut = λ lt. tt }

pub short_ends : {A : Type 0} (text more : List ℕ) (later : Reading A) → IsLined more later → EndsOn text more short later
short_ends text more later l = record { lined = tt; lines = l; shut = λ lt. tt }

pub if_ends : {A : Type 0} (text more : List ℕ) (c : Bool) (x y x' y' : Reading A) → (c ≡ true → EndsOn text more x x') → (c ≡ false → EndsOn text more y y')
    → EndsOn text more (if c then x else y) (if c then x' else y')
if_ends text more true x y x' y' one other = one refl
if_ends text more false x y x' y' one other = other refl

-- bytes before the text
pub lined_after : {A : Type 0} (before text : List ℕ) (now : Reading A) → IsLined text now → IsLined (before ++ text) now
lined_after before text (got value rest) l = (before ++ l.0, ap (λ t. before ++ t) l.1 ∙ sym (append_assoc before l.0 (10 ∷ rest)))
lined_after before text (wrong rest) l = tt
lined_after before text short l = tt
lined_after before text (marked count) l = tt

pub ends_after : {A : Type 0} (before text more : List ℕ) (now later : Reading A) → EndsOn text more now later → EndsOn (before ++ text) more now later
ends_after before text more now later g = record { lined = lined_after before text now g.lined; lines = g.lines; shut = g.shut }

-- any reader, and then one whose last byte is a line feed
module _ {A B : Type 0} (text more : List ℕ) (next : A → Reader B) (others : (v : A) → Lined (next v)) where
  lined_next : (v : A) (rest : List ℕ) → IsLined rest (next v rest)
  lined_next v rest = ((others v).ends_on rest []).lined

  lined_within : (later : Reading A) → Within more later → IsLined more (and_then later next)
  lined_within (got v rest) w = subst (λ l. IsLined l (next v rest)) (sym w.1) (lined_after w.0 rest (next v rest) (lined_next v rest))
  lined_within (wrong rest) w = tt
  lined_within short w = tt
  lined_within (marked count) w = tt

  short_pending : (later : Reading A) → Pending later → and_then later next ≡ short
  short_pending (got v rest) p = ap (next v) p ∙ (others v).starts
  short_pending (wrong rest) p = absurd p
  short_pending short p = refl
  short_pending (marked count) p = absurd p

  ends_then : (now later : Reading A) → GoesOn text more now later → EndsOn text more (and_then now next) (and_then later next)
  ends_then (got v rest) later g =
      let used = g.within.0 in
      subst (λ r. EndsOn text more (next v rest) (and_then r next)) (sym g.grows)
      (subst (λ l. EndsOn l more (next v rest) (next v (rest ++ more))) (sym g.within.1) (ends_after used rest more (next v rest) (next v (rest ++ more)) ((others v).ends_on rest more)))
  ends_then (wrong rest) later g = wrong_ends text more rest (and_then later next)
  ends_then short later g = short_ends text more (and_then later next) (lined_within later g.grows)
  ends_then (marked count) later g = record {
    lined = tt;
    lines = lined_within later g.grows;
    shut = λ lt le. short_pending later (g.inside lt le);
  }

starts_then : {A B : Type 0} (now : Reading A) (next : A → Reader B) → Pending now → ((v : A) → Lined (next v)) → and_then now next ≡ short
starts_then (got v rest) next p others = ap (next v) p ∙ (others v).starts
starts_then (wrong rest) next p others = absurd p
starts_then short next p others = refl
starts_then (marked count) next p others = absurd p

pub lined_then : {A B : Type 0} (first : Reader A) (next : A → Reader B) → Steady first → ((v : A) → Lined (next v)) → Lined (first >>= next)
lined_then first next one others = record {
  steady = steady_then first next one (λ v. (others v).steady);
  starts = starts_then (first []) next one.idle others;
  ends_on = λ text more. ends_then text more next others (first text) (first (text ++ more)) (one.goes_on text more);
}

-- such a reader, and then what it gives
lined_value : {A B : Type 0} (text : List ℕ) (value : A → B) (now : Reading A) → IsLined text now → IsLined text (and_then now (λ v. gives (value v)))
lined_value text value (got v rest) l = l
lined_value text value (wrong rest) l = tt
lined_value text value short l = tt
lined_value text value (marked count) l = tt

gives_ends : {A B : Type 0} (text more : List ℕ) (value : A → B) (now later : Reading A) → EndsOn text more now later
    → EndsOn text more (and_then now (λ v. gives (value v))) (and_then later (λ v. gives (value v)))
gives_ends text more value (got v rest) later g = got_ends text more g.lined.0 rest (value v) (and_then later (λ v. gives (value v))) g.lined.1
gives_ends text more value (wrong rest) later g = wrong_ends text more rest (and_then later (λ v. gives (value v)))
gives_ends text more value short later g = short_ends text more (and_then later (λ v. gives (value v))) (lined_value more value later g.lines)
gives_ends text more value (marked count) later g = record {
  lined = tt;
  lines = lined_value more value later g.lines;
  shut = λ lt le. ap (λ r. and_then r (λ v. gives (value v))) (g.shut lt le);
}

pub lined_gives : {A B : Type 0} (first : Reader A) (value : A → B) → Lined first → Lined (first >>= (λ v. gives (value v)))
lined_gives first value one = record {
  steady = steady_then first (λ v. gives (value v)) one.steady (λ v. steady_gives (value v));
  starts = ap (λ r. and_then r (λ v. gives (value v))) one.starts;
  ends_on = λ text more. gives_ends text more value (first text) (first (text ++ more)) (one.ends_on text more);
}

-- the primitives
fails_ends : {A : Type 0} (text more : List ℕ) → EndsOn {A = A} text more (fails text) (fails (text ++ more))
fails_ends [] [] = short_ends [] [] (fails []) tt
fails_ends [] (b ∷ bs) = short_ends [] (b ∷ bs) (fails (b ∷ bs)) tt
fails_ends (b ∷ bs) more = wrong_ends (b ∷ bs) more (b ∷ bs) (wrong (b ∷ (bs ++ more)))

pub lined_fails : {A : Type 0} → Lined {A = A} fails
lined_fails = record { steady = steady_fails; starts = refl; ends_on = fails_ends }

lined_if : {A : Type 0} (text : List ℕ) (c : Bool) (x y : Reading A) → (c ≡ true → IsLined text x) → (c ≡ false → IsLined text y) → IsLined text (if c then x else y)
lined_if text true x y one other = one refl
lined_if text false x y one other = other refl

feed_lined : (text : List ℕ) → IsLined text (byte 10 text)
feed_lined [] = tt
feed_lined (b ∷ bs) = lined_if (b ∷ bs) (eqb b 10) (got tt bs) (wrong (b ∷ bs)) (λ e. ([], ap (λ c. c ∷ bs) (eqb-true b 10 e))) (λ e. tt)

feed_ends : (text more : List ℕ) → EndsOn text more (byte 10 text) (byte 10 (text ++ more))
feed_ends [] more = short_ends [] more (byte 10 more) (feed_lined more)
feed_ends (b ∷ bs) more =
    if_ends (b ∷ bs) more (eqb b 10) (got tt bs) (wrong (b ∷ bs)) (got tt (bs ++ more)) (wrong (b ∷ (bs ++ more)))
    (λ e. got_ends (b ∷ bs) more [] bs tt (got tt (bs ++ more)) (ap (λ c. c ∷ bs) (eqb-true b 10 e))) (λ e. wrong_ends (b ∷ bs) more (b ∷ bs) (wrong (b ∷ (bs ++ more))))

pub end_lined : (text : List ℕ) → IsLined text (line_end text)
end_lined [] = tt
end_lined (b ∷ bs) =
    lined_if (b ∷ bs) (eqb b 10) (got tt bs) (if eqb b 13 then byte 10 bs else wrong (b ∷ bs)) (λ e. ([], ap (λ c. c ∷ bs) (eqb-true b 10 e)))
    (λ e. lined_if (b ∷ bs) (eqb b 13) (byte 10 bs) (wrong (b ∷ bs)) (λ f. lined_after (b ∷ []) bs (byte 10 bs) (feed_lined bs)) (λ f. tt))

end_ends : (text more : List ℕ) → EndsOn text more (line_end text) (line_end (text ++ more))
end_ends [] more = short_ends [] more (line_end more) (end_lined more)
end_ends (b ∷ bs) more =
    if_ends (b ∷ bs) more (eqb b 10) (got tt bs) (if eqb b 13 then byte 10 bs else wrong (b ∷ bs))
    (got tt (bs ++ more)) (if eqb b 13 then byte 10 (bs ++ more) else wrong (b ∷ (bs ++ more)))
    (λ e. got_ends (b ∷ bs) more [] bs tt (got tt (bs ++ more)) (ap (λ c. c ∷ bs) (eqb-true b 10 e)))
    (λ e. if_ends (b ∷ bs) more (eqb b 13) (byte 10 bs) (wrong (b ∷ bs)) (byte 10 (bs ++ more)) (wrong (b ∷ (bs ++ more)))
    (λ f. ends_after (b ∷ []) bs more (byte 10 bs) (byte 10 (bs ++ more)) (feed_ends bs more)) (λ f. wrong_ends (b ∷ bs) more (b ∷ bs) (wrong (b ∷ (bs ++ more)))))

pub lined_end : Lined line_end
lined_end = record { steady = steady_end; starts = refl; ends_on = end_ends }
