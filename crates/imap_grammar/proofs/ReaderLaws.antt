-- What a reader does on each text: what it reads is spelled so, what it reads before it stops is the
-- beginning of a spelling, and it hangs on no more than the byte at which it stops.
use Rattle.std.proofs.Common.{◌≡◌, ℕ, List, [], ◌∷◌, ◌++◌, refl, sym, ap, ◌∙◌, subst, append_assoc}
use Rattle.imap_grammar.specs.Reading.{Reading, got, wrong, short, marked, Reader, and_then, ◌>>=◌, gives}

-- a text with the same first byte as this one, if it has one
abbrev pub Agrees : List ℕ → List ℕ → Type 0
Agrees [] next = Unit {0}
Agrees (b ∷ bs) next = (more : List ℕ) × (next ≡ b ∷ more)

-- a text has a byte
abbrev pub HasByte : List ℕ → Type 0
HasByte [] = ⊥
HasByte (b ∷ bs) = Unit {0}

-- some bytes make a spelling of these
abbrev pub GoesOn : {A : Type 0} → (List ℕ → A → Type 0) → List ℕ → Type 0
GoesOn {A} P bytes = (more : List ℕ) × (v : A) × P (bytes ++ more) v

-- what a reader gives on a text
abbrev pub Reads : {A : Type 0} → (List ℕ → A → Type 0) → Reader A → List ℕ → Reading A → Type 0
Reads P f text (got v rest) = (bytes : List ℕ) × (text ≡ bytes ++ rest) × P bytes v
    × ((next : List ℕ) → Agrees rest next → f (bytes ++ next) ≡ got v next)
Reads P f text (wrong rest) = (bytes : List ℕ) × (text ≡ bytes ++ rest) × HasByte rest × GoesOn P bytes
    × ((next : List ℕ) → Agrees rest next → f (bytes ++ next) ≡ wrong next)
Reads P f text short = GoesOn P text
Reads P f text (marked count) = GoesOn P text

pub record IsReader {A : Type 0} (P : List ℕ → A → Type 0) (f : Reader A) : Type 0 where
  pub some : (bytes : List ℕ) × (v : A) × P bytes v
  pub each : (text : List ℕ) → Reads P f text (f text)

pub agrees_same : (rest : List ℕ) → Agrees rest rest
agrees_same [] = tt
agrees_same (b ∷ bs) = (bs, refl)

pub agrees_after : (rest own more next : List ℕ) → rest ≡ own ++ more → Agrees more next → Agrees rest (own ++ next)
agrees_after rest [] more next e same = subst (λ l. Agrees l next) (sym e) same
agrees_after rest (c ∷ cs) more next e same = subst (λ l. Agrees l (c ∷ (cs ++ next))) (sym e) (cs ++ next, refl)

-- bytes that go on go on after others
goes_after : {B : Type 0} (R : List ℕ → B → Type 0) (text bytes rest own : List ℕ) → text ≡ bytes ++ rest → rest ≡ own → GoesOn (λ b. R (bytes ++ b)) own
    → GoesOn R text
goes_after R text bytes rest own e e2 (more, w, is) =
    (more, w, subst (λ l. R l w) (sym (ap (λ l. l ++ more) (e ∙ ap (λ l. bytes ++ l) e2) ∙ append_assoc bytes own more)) is)

-- a reader, and then another that has read so
after : {A B : Type 0} (R : List ℕ → B → Type 0) (f : Reader A) (next : A → Reader B) (text bytes rest : List ℕ) (v : A) (reading : Reading B)
    → text ≡ bytes ++ rest
    → ((l : List ℕ) → Agrees rest l → f (bytes ++ l) ≡ got v l) → Reads (λ b. R (bytes ++ b)) (next v) rest reading → Reads R (f >>= next) text reading
after R f next text bytes rest v (got w more) e keeps (own, e2, is, keeps2) = (
  bytes ++ own,
  e ∙ ap (λ l. bytes ++ l) e2 ∙ sym (append_assoc bytes own more),
  is,
  λ l same. ap (λ t. and_then (f t) next) (append_assoc bytes own l) ∙ ap (λ r. and_then r next) (keeps (own ++ l) (agrees_after rest own more l e2 same))
      ∙ keeps2 l same,
)
after R f next text bytes rest v (wrong more) e keeps (own, e2, has, on, keeps2) = (
  bytes ++ own,
  e ∙ ap (λ l. bytes ++ l) e2 ∙ sym (append_assoc bytes own more),
  has,
  goes_after R (bytes ++ own) bytes own own refl refl on,
  λ l same. ap (λ t. and_then (f t) next) (append_assoc bytes own l) ∙ ap (λ r. and_then r next) (keeps (own ++ l) (agrees_after rest own more l e2 same))
      ∙ keeps2 l same,
)
after R f next text bytes rest v short e keeps on = goes_after R text bytes rest rest e refl on
after R f next text bytes rest v (marked count) e keeps on = goes_after R text bytes rest rest e refl on

module _ {A B : Type 0} (P : List ℕ → A → Type 0) (R : List ℕ → B → Type 0) (f : Reader A) (next : A → Reader B) where
  both_go : ((bytes : List ℕ) (v : A) → P bytes v → GoesOn R bytes) → (bytes : List ℕ) → GoesOn P bytes → GoesOn R bytes
  both_go on bytes (more, v, is) =
      let some = on (bytes ++ more) v is in
      (more ++ some.0, some.1, subst (λ l. R l some.1) (append_assoc bytes more some.0) some.2)

  -- a reader, and then one that reads so the rest of this text
  pub then_at : ((bytes : List ℕ) (v : A) → P bytes v → GoesOn R bytes) → (text : List ℕ) (reading : Reading A)
      → ((bytes rest : List ℕ) (v : A) → text ≡ bytes ++ rest → P bytes v → Reads (λ b. R (bytes ++ b)) (next v) rest (next v rest)) → Reads P f text reading
      → Reads R (f >>= next) text (and_then reading next)
  then_at on text (got v rest) each (bytes, e, is, keeps) = after R f next text bytes rest v (next v rest) e keeps (each bytes rest v e is)
  then_at on text (wrong rest) each (bytes, e, has, more, keeps) = (bytes, e, has, both_go on bytes more, λ l same. ap (λ r. and_then r next) (keeps l same))
  then_at on text short each more = both_go on text more
  then_at on text (marked count) each more = both_go on text more

  -- a reader, and then one for what the first has read
  pub reads_then : IsReader P f → ((bytes : List ℕ) (v : A) → P bytes v → IsReader (λ b. R (bytes ++ b)) (next v)) → IsReader R (f >>= next)
  reads_then first second =
      let some = (second first.some.0 first.some.1 first.some.2).some in
      let each : (text : List ℕ) → Reads R (f >>= next) text ((f >>= next) text) =
      λ text. then_at (λ bytes v is. (second bytes v is).some) text (f text) (λ bytes rest v e is. (second bytes v is).each rest) (first.each text) in
      record { some = (first.some.0 ++ some.0, some.1, some.2); each = each }

pub reads_gives : {A : Type 0} (P : List ℕ → A → Type 0) (v : A) → P [] v → IsReader P (gives v)
reads_gives P v is = record { some = ([], v, is); each = λ text. ([], refl, is, λ next same. refl) }
