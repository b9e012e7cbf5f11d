-- The law of readers, byte by byte.
use Rattle.std.proofs.Common.{◌≡◌, ℕ, Bool, true, false, ◌&&◌, List, [], ◌∷◌, ◌++◌, refl, sym, ap, ◌∙◌, subst, inl, inr, arith, if◌then◌else◌, append-nil, eqb, eqb-true}
use Rattle.std.specs.List.{list_all}
use Rattle.std.proofs.lemmas.Bool.{cond-false, cond-true}
use Rattle.imap_grammar.specs.Grammar.{IsLineEnd}
use Rattle.imap_grammar.specs.Reading.{Reading, got, wrong, short, marked, Reader, ◌>>=◌, gives, fails, byte, line_end, many, with_first}
use Rattle.imap_grammar.proofs.ReaderLaws.{Agrees, GoesOn, Reads, IsReader, reads_then, reads_gives}

pub same_byte : (x : ℕ) → eqb x x ≡ true
same_byte x = go (eqb x x) refl
  where
    go : (c : Bool) → eqb x x ≡ c → c ≡ true
    go true e = refl
    go false e = absurd (differs e)
      where
        differs : eqb x x ≡ false → ⊥
        differs e = grind arith

-- a reader that hands on after its first byte
pub reads_step : {A : Type 0} (P Q : List ℕ → A → Type 0) (h f : Reader A) (b : ℕ) (bs : List ℕ) (reading : Reading A) → ((l : List ℕ) → h (b ∷ l) ≡ f l)
    → ((bytes : List ℕ) (v : A) → Q bytes v → P (b ∷ bytes) v) → Reads Q f bs reading → Reads P h (b ∷ bs) reading
reads_step P Q h f b bs (got v rest) same is (bytes, e, own, keeps) =
    (b ∷ bytes, ap (λ l. b ∷ l) e, is bytes v own, λ next agree. same (bytes ++ next) ∙ keeps next agree)
reads_step P Q h f b bs (wrong rest) same is (bytes, e, has, (more, v, own), keeps) =
    (b ∷ bytes, ap (λ l. b ∷ l) e, has, (more, v, is (bytes ++ more) v own), λ next agree. same (bytes ++ next) ∙ keeps next agree)
reads_step P Q h f b bs short same is (more, v, own) = (more, v, is (bs ++ more) v own)
reads_step P Q h f b bs (marked count) same is (more, v, own) = (more, v, is (bs ++ more) v own)

-- a reader that reads its first byte and then others
pub reads_first : (P Q : List ℕ → List ℕ → Type 0) (h f : Reader (List ℕ)) (b : ℕ) (bs : List ℕ) (reading : Reading (List ℕ))
    → ((l : List ℕ) → h (b ∷ l) ≡ with_first b (f l))
    → ((bytes v : List ℕ) → Q bytes v → P (b ∷ bytes) (b ∷ v)) → Reads Q f bs reading → Reads P h (b ∷ bs) (with_first b reading)
reads_first P Q h f b bs (got v rest) same is (bytes, e, own, keeps) =
    (b ∷ bytes, ap (λ l. b ∷ l) e, is bytes v own, λ next agree. same (bytes ++ next) ∙ ap (with_first b) (keeps next agree))
reads_first P Q h f b bs (wrong rest) same is (bytes, e, has, (more, v, own), keeps) =
    (b ∷ bytes, ap (λ l. b ∷ l) e, has, (more, b ∷ v, is (bytes ++ more) v own), λ next agree. same (bytes ++ next) ∙ ap (with_first b) (keeps next agree))
reads_first P Q h f b bs short same is (more, v, own) = (more, b ∷ v, is (bs ++ more) v own)
reads_first P Q h f b bs (marked count) same is (more, v, own) = (more, b ∷ v, is (bs ++ more) v own)

-- a reader that goes wrong at its first byte
pub reads_wrong : {A : Type 0} (P : List ℕ → A → Type 0) (h : Reader A) (b : ℕ) (bs : List ℕ) → ((l : List ℕ) → h (b ∷ l) ≡ wrong (b ∷ l)) → GoesOn P []
    → Reads P h (b ∷ bs) (wrong (b ∷ bs))
reads_wrong P h b bs same on = ([], refl, tt, on, λ next agree. ap h agree.1 ∙ same agree.0 ∙ ap wrong (sym agree.1))

-- a reader that ends before a byte
pub reads_none : {A : Type 0} (P : List ℕ → A → Type 0) (h : Reader A) (v : A) (b : ℕ) (bs : List ℕ) → ((l : List ℕ) → h (b ∷ l) ≡ got v (b ∷ l)) → P [] v
    → Reads P h (b ∷ bs) (got v (b ∷ bs))
reads_none P h v b bs same is = ([], refl, is, λ next agree. ap h agree.1 ∙ same agree.0 ∙ ap (got v) (sym agree.1))

-- a test chooses between two readings
pub reads_if : {A : Type 0} (P : List ℕ → A → Type 0) (h : Reader A) (c : Bool) (text : List ℕ) (x y : Reading A) → (c ≡ true → Reads P h text x)
    → (c ≡ false → Reads P h text y) → Reads P h text (if c then x else y)
reads_if P h true text x y one other = one refl
reads_if P h false text x y one other = other refl

-- the same reader, written otherwise
pub same_reads : {A : Type 0} (P : List ℕ → A → Type 0) (f g : Reader A) → ((text : List ℕ) → f text ≡ g text) → (text : List ℕ) (reading : Reading A)
    → Reads P f text reading → Reads P g text reading
same_reads P f g same text (got v rest) (bytes, e, own, keeps) = (bytes, e, own, λ next agree. sym (same (bytes ++ next)) ∙ keeps next agree)
same_reads P f g same text (wrong rest) (bytes, e, has, on, keeps) = (bytes, e, has, on, λ next agree. sym (same (bytes ++ next)) ∙ keeps next agree)
same_reads P f g same text short on = on
same_reads P f g same text (marked count) on = on

pub reads_same : {A : Type 0} (P : List ℕ → A → Type 0) (f g : Reader A) → ((text : List ℕ) → f text ≡ g text) → IsReader P f → IsReader P g
reads_same P f g same is = record { some = is.some; each = λ text. same_reads P f g same text (g text) (subst (Reads P f text) (same text) (is.each text)) }

-- a reader that reads nothing
pub reads_fails : {A : Type 0} (P : List ℕ → A → Type 0) → GoesOn P [] → IsReader P fails
reads_fails {A} P on = record { some = on; each = each }
  where
    each : (text : List ℕ) → Reads P fails text (fails text)
    each [] = on
    each (b ∷ bs) = reads_wrong P fails b bs (λ l. refl) on

pub reads_weaker : {A : Type 0} (P Q : List ℕ → A → Type 0) (f : Reader A) → ((bytes : List ℕ) (v : A) → P bytes v → Q bytes v) → IsReader P f → IsReader Q f
reads_weaker {A} P Q f is own = record {
  some = (own.some.0, own.some.1, is own.some.0 own.some.1 own.some.2);
  each =
      λ text. go text (f text) (own.each text);
}
  where
    go : (text : List ℕ) (reading : Reading A) → Reads P f text reading → Reads Q f text reading
    go text (got v rest) (bytes, e, i, keeps) = (bytes, e, is bytes v i, keeps)
    go text (wrong rest) (bytes, e, has, (more, v, i), keeps) = (bytes, e, has, (more, v, is (bytes ++ more) v i), keeps)
    go text short (more, v, i) = (more, v, is (text ++ more) v i)
    go text (marked count) (more, v, i) = (more, v, is (text ++ more) v i)

-- one byte
abbrev pub Byte : ℕ → List ℕ → Unit {0} → Type 0
Byte x bytes u = bytes ≡ x ∷ []

byte_here : (x b : ℕ) (l : List ℕ) → eqb b x ≡ true → byte x (b ∷ l) ≡ got tt l
byte_here x b l e = cond-true (eqb b x) (got tt l) (wrong (b ∷ l)) e

byte_none : (x b : ℕ) (l : List ℕ) → eqb b x ≡ false → byte x (b ∷ l) ≡ wrong (b ∷ l)
byte_none x b l e = cond-false (eqb b x) (got tt l) (wrong (b ∷ l)) e

pub reads_byte : (x : ℕ) → IsReader (Byte x) (byte x)
reads_byte x = record { some = (x ∷ [], tt, refl); each = each }
  where
    each : (text : List ℕ) → Reads (Byte x) (byte x) text (byte x text)
    each [] = (x ∷ [], tt, refl)
    each (b ∷ bs) = reads_if (Byte x) (byte x) (eqb b x) (b ∷ bs) (got tt bs) (wrong (b ∷ bs))
        (λ e. (b ∷ [], refl, ap (λ c. c ∷ []) (eqb-true b x e), λ next agree. byte_here x b next e))
        (λ e. reads_wrong (Byte x) (byte x) b bs (λ l. byte_none x b l e) (x ∷ [], tt, refl))

pub reads_byte_then : {A : Type 0} (R : List ℕ → A → Type 0) (x : ℕ) (next : Reader A) → IsReader (λ bytes. R (x ∷ bytes)) next
    → IsReader R (byte x >>= (λ u. next))
reads_byte_then R x next own = reads_then (Byte x) R (byte x) (λ u. next) (reads_byte x)
    (λ bytes u e. subst (λ l. IsReader (λ b. R (l ++ b)) next) (sym e) own)

-- one reader after this byte, and another before each other byte
abbrev pub choice : {A : Type 0} → ℕ → Reader A → Reader A → Reader A
choice x f g [] = short
choice x f g (b ∷ bs) = if eqb b x then f bs else g (b ∷ bs)

module _ {A : Type 0} (R : List ℕ → A → Type 0) (x : ℕ) (f g : Reader A) where
  other : (b : ℕ) (bs bytes rest next : List ℕ) → eqb b x ≡ false → b ∷ bs ≡ bytes ++ rest → Agrees rest next
      → choice x f g (bytes ++ next) ≡ g (bytes ++ next)
  other b bs [] rest next apart e agree = here (subst (λ l. Agrees l next) (sym e) agree)
    where
      here : (more : List ℕ) × (next ≡ b ∷ more) → choice x f g next ≡ g next
      here (more, i) = ap (choice x f g) i ∙ cond-false (eqb b x) (f more) (g (b ∷ more)) apart ∙ ap g (sym i)
  other b bs (c ∷ cs) rest next apart e agree =
      let same : b ≡ c = cc in
      cond-false (eqb c x) (f (cs ++ next)) (g (c ∷ (cs ++ next))) (ap (λ d. eqb d x) (sym same) ∙ apart)

  otherwise : (b : ℕ) (bs : List ℕ) (reading : Reading A) → eqb b x ≡ false → Reads R g (b ∷ bs) reading → Reads R (choice x f g) (b ∷ bs) reading
  otherwise b bs (got v rest) apart (bytes, e, is, keeps) = (bytes, e, is, λ next agree. other b bs bytes rest next apart e agree ∙ keeps next agree)
  otherwise b bs (wrong rest) apart (bytes, e, has, on, keeps) =
      (bytes, e, has, on, λ next agree. other b bs bytes rest next apart e agree ∙ keeps next agree)
  otherwise b bs short apart on = on
  otherwise b bs (marked count) apart on = on

  pub reads_choice : IsReader (λ bytes. R (x ∷ bytes)) f → IsReader R g → IsReader R (choice x f g)
  reads_choice one two = record { some = two.some; each = each }
    where
      each : (text : List ℕ) → Reads R (choice x f g) text (choice x f g text)
      each [] = two.some
      each (b ∷ bs) = reads_if R (choice x f g) (eqb b x) (b ∷ bs) (f bs) (g (b ∷ bs))
          (λ e. reads_step R (λ bytes. R (x ∷ bytes)) (choice x f g) f b bs (f bs) (λ l. cond-true (eqb b x) (f l) (g (b ∷ l)) e)
          (λ bytes v. subst (λ c. R (c ∷ bytes) v) (sym (eqb-true b x e))) (one.each bs))
          (λ e. otherwise b bs (g (b ∷ bs)) e (two.each (b ∷ bs)))

-- the end of a line
abbrev pub End : List ℕ → Unit {0} → Type 0
End bytes u = IsLineEnd bytes

pub reads_end : IsReader End line_end
reads_end = reads_same End (choice 10 (gives tt) (choice 13 (byte 10) fails)) line_end same
    (reads_choice End 10 (gives tt) (choice 13 (byte 10) fails) (reads_gives (λ bytes. End (10 ∷ bytes)) tt (inl refl))
    (reads_choice End 13 (byte 10) fails (reads_weaker (Byte 10) (λ bytes. End (13 ∷ bytes)) (byte 10) (λ bytes u e. inr (ap (λ l. 13 ∷ l) e))
    (reads_byte 10))
    (reads_fails End (10 ∷ [], tt, inl refl))))
  where
    same : (text : List ℕ) → choice 10 (gives tt) (choice 13 (byte 10) fails) text ≡ line_end text
    same [] = refl
    same (b ∷ bs) = refl

-- the end of a line, and then this value
pub reads_ended : {A : Type 0} (R : List ℕ → A → Type 0) (v : A) → ((end : List ℕ) → IsLineEnd end → R end v) → IsReader R (line_end >>= (λ u. gives v))
reads_ended R v is = reads_then End R line_end (λ u. gives v) reads_end
    (λ end u own. reads_gives (λ b. R (end ++ b)) v (subst (λ l. R l v) (sym (append-nil end)) (is end own)))

-- bytes that pass a test
abbrev pub Run : (ℕ → Bool) → List ℕ → List ℕ → Type 0
Run is bytes v = (v ≡ bytes) × (list_all is bytes ≡ true)

pub reads_many : (is : ℕ → Bool) → IsReader (Run is) (many is)
reads_many is = record { some = ([], [], (refl, refl)); each = each }
  where
    each : (text : List ℕ) → Reads (Run is) (many is) text (many is text)
    each [] = ([], [], (refl, refl))
    each (b ∷ bs) = reads_if (Run is) (many is) (is b) (b ∷ bs) (with_first b (many is bs)) (got [] (b ∷ bs))
        (λ e. reads_first (Run is) (Run is) (many is) (many is) b bs (many is bs) (λ l. cond-true (is b) (with_first b (many is l)) (got [] (b ∷ l)) e)
        (λ bytes v own. (ap (λ l. b ∷ l) own.0, ap (λ c. c && list_all is bytes) e ∙ own.1)) (each bs))
        (λ e. reads_none (Run is) (many is) [] b bs (λ l. cond-false (is b) (with_first b (many is l)) (got [] (b ∷ l)) e) (refl, refl))
