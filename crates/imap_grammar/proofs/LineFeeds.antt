-- Line feeds of a text.
use Rattle.std.proofs.Common.{◌≡◌, ◌⊎◌, ℕ, ◌+◌, ◌-◌, ◌<◌, ◌≤◌, Bool, true, false, ◌||◌, eqb, List, [], ◌∷◌, ◌++◌, length, drop, refl, sym, ap, ◌∙◌, subst, arith, inl, inr, length-append}
use Rattle.std.specs.List.{list_any}
use Rattle.std.proofs.lemmas.Bool.Decides.{eqb_tells}
use Rattle.std.proofs.lemmas.List.{take_all}
use Rattle.std.proofs.Math.Seq.{drop-append_seam}
use Rattle.imap_grammar.specs.Progressing.{max_text, has_end}
use Rattle.imap_grammar.specs.Reaching.{HasNoLineFeed}

pub none_append : (a b : List ℕ) → HasNoLineFeed a → HasNoLineFeed b → HasNoLineFeed (a ++ b)
none_append [] b none more = more
none_append (x ∷ a) b none more = (none.0, none_append a b none.1 more)

pub none_prefix : (a b : List ℕ) → HasNoLineFeed (a ++ b) → HasNoLineFeed a
none_prefix [] b none = tt
none_prefix (x ∷ a) b none = (none.0, none_prefix a b none.1)

pub none_rest : (a b : List ℕ) → HasNoLineFeed (a ++ b) → HasNoLineFeed b
none_rest [] b none = none
none_rest (x ∷ a) b none = none_rest a b none.1

pub some_feed : (body rest : List ℕ) → HasNoLineFeed (body ++ 10 ∷ rest) → ⊥
some_feed [] rest none = none.0 refl
some_feed (x ∷ body) rest none = some_feed body rest none.1

-- no bytes are bytes with one among them
pub nil_cons : (a : List ℕ) (b : ℕ) (more : List ℕ) → [] ≡ a ++ b ∷ more → ⊥
nil_cons [] b more e = absurd cc
nil_cons (x ∷ a) b more e = absurd cc

-- a text that ends with a line feed does so in what came last
pub last_feed : (text more body : List ℕ) → text ++ more ≡ body ++ 10 ∷ [] → 0 < length more → HasNoLineFeed more → ⊥
last_feed [] more body e lt none = some_feed body [] (subst HasNoLineFeed e none)
last_feed (x ∷ text) more [] e lt none =
    let nothing : text ++ more ≡ [] = cc in
    let sized : length text + length more ≡ 0 = sym (length-append text more) ∙ ap length nothing in
    absurd (omega (arith, lt, sized))
last_feed (x ∷ text) more (y ∷ body) e lt none =
    let rest : text ++ more ≡ body ++ 10 ∷ [] = cc in
    last_feed text more body rest lt none

-- a line has nothing after its line feed
pub line_rest : (body other rest : List ℕ) → HasNoLineFeed body → body ++ 10 ∷ [] ≡ other ++ 10 ∷ rest → rest ≡ []
line_rest [] [] rest none e = cc
line_rest [] (y ∷ other) rest none e = let more : [] ≡ other ++ 10 ∷ rest = cc in absurd (nil_cons other 10 rest more)
line_rest (x ∷ body) [] rest none e = let same : x ≡ 10 = cc in absurd (none.0 same)
line_rest (x ∷ body) (y ∷ other) rest none e = let more : body ++ 10 ∷ [] ≡ other ++ 10 ∷ rest = cc in line_rest body other rest none.1 more

-- a proper prefix of a line has no line feed
pub line_prefix : (body prefix : List ℕ) (b : ℕ) (more : List ℕ) → HasNoLineFeed body → body ++ 10 ∷ [] ≡ prefix ++ b ∷ more → HasNoLineFeed prefix
line_prefix body [] b more none e = tt
line_prefix [] (x ∷ prefix) b more none e = let rest : [] ≡ prefix ++ b ∷ more = cc in absurd (nil_cons prefix b more rest)
line_prefix (y ∷ body) (x ∷ prefix) b more none e =
    let head : y ≡ x = cc in
    let rest : body ++ 10 ∷ [] ≡ prefix ++ b ∷ more = cc in
    (λ i. none.0 (head ∙ i), line_prefix body prefix b more none.1 rest)

-- a prefix of some bytes and more is a prefix of those bytes, or goes on into the others
pub split_prefix : (a b prefix : List ℕ) (x : ℕ) (more : List ℕ) → a ++ b ≡ prefix ++ x ∷ more
    → ((rest : List ℕ) × (a ≡ prefix ++ x ∷ rest)) ⊎ ((own : List ℕ) × (prefix ≡ a ++ own) × (b ≡ own ++ x ∷ more))
split_prefix [] b prefix x more e = inr (prefix, refl, e)
split_prefix (y ∷ a) b [] x more e = let head : y ≡ x = cc in inl (a, ap (λ c. c ∷ a) head)
split_prefix (y ∷ a) b (z ∷ prefix) x more e =
    let head : y ≡ z = cc in
    let rest : a ++ b ≡ prefix ++ x ∷ more = cc in
    elim (split_prefix a b prefix x more rest) [
      | inl p ↦ inl (p.0, ap (λ c. c ∷ a) head ∙ ap (λ l. z ∷ l) p.1)
      | inr p ↦ inr (p.0, ap (λ l. z ∷ l) p.1 ∙ ap (λ c. c ∷ (a ++ p.0)) (sym head), p.2)
    ]

-- the test for a line feed
pub any_none : (text : List ℕ) → HasNoLineFeed text → list_any (λ b. eqb b 10) text ≡ false
any_none [] none = refl
any_none (b ∷ bs) none = elim (eqb_tells b 10) [ inl e ↦ absurd (none.0 e.1) | inr e ↦ ap (λ c. c || list_any (λ b. eqb b 10) bs) e.0 ∙ any_none bs none.1 ]

pub none_any : (text : List ℕ) → list_any (λ b. eqb b 10) text ≡ false → HasNoLineFeed text
none_any [] e = tt
none_any (b ∷ bs) e = elim (eqb_tells b 10) [
  | inl i ↦ absurd (some i.0)
  | inr i ↦ (i.1, none_any bs (sym (ap (λ c. c || list_any (λ b. eqb b 10) bs) i.0) ∙ e))
]
  where
    some : eqb b 10 ≡ true → ⊥
    some i = let both : true ≡ false = sym (ap (λ c. c || list_any (λ b. eqb b 10) bs) i) ∙ e in absurd cc

pub any_end : (body rest : List ℕ) → list_any (λ b. eqb b 10) (body ++ 10 ∷ rest) ≡ true
any_end [] rest = refl
any_end (b ∷ body) rest = ap (λ c. eqb b 10 || c) (any_end body rest) ∙ or_true (eqb b 10)
  where
    or_true : (c : Bool) → (c || true) ≡ true
    or_true true = refl
    or_true false = refl

-- the line of a text ends in its rest
pub end_in_rest : (text used rest : List ℕ) → text ≡ used ++ rest → length text ≤ max_text → has_end text (length text - length rest) ≡ list_any (λ b. eqb b 10) rest
end_in_rest text used rest e le =
    let sized : length text ≡ length used + length rest = ap length e ∙ length-append used rest in
    let at : length text - length rest ≡ length used = omega (arith, sized) in
    ap (λ l. list_any (λ b. eqb b 10) (drop (length text - length rest) l)) (take_all max_text text le)
    ∙ ap (λ n. list_any (λ b. eqb b 10) (drop n text)) at
    ∙ ap (λ l. list_any (λ b. eqb b 10) (drop (length used) l)) e
    ∙ ap (list_any (λ b. eqb b 10)) (drop-append_seam used rest)
