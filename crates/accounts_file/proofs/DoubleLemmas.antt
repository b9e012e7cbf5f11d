-- Names that stand twice.
use Rattle.std.proofs.Common.{◌≡◌, ℕ, ◌+◌, ◌<◌, ◌≤◌, Bool, true, false, not, ◌||◌, cond, List, [], ◌∷◌, ◌++◌, length, map, take, drop, get_or, bytes_eq, Option, None, Some, is_some, arith, refl, ◌∙◌, sym, ap, inl, inr, append_assoc, ◌⊎◌, subst}
use Rattle.std.specs.Prelude.{Vec}
use Rattle.std.specs.List.{list_any, list_all}
use Rattle.std.proofs.lemmas.List.Folds.{list_any-append}
use Rattle.std.proofs.lemmas.Slice.Eq.{bytes_eq-Decides}
use Rattle.std.proofs.lemmas.Bool.Decides.{same_from_decides}
use Rattle.std.proofs.lemmas.Bool.{and_parts}
use Rattle.std.proofs.lemmas.List.{at_drop_more, at_drop_all, take_more, append-nil, get_or-map}
use Rattle.quota_roots.specs.Setups.{are_different}
use Rattle.accounts_file.specs.declared.entry.AccountEntry.{AccountEntry}
use Rattle.accounts_file.specs.declared.error.AccountsError.{AccountsError}
use Rattle.std.specs.BTreeMap.{BTreeMap, UpdatesBy, get_by}
use Rattle.std.specs.Cmp.Lexicographic.{slice_cmp}
use Rattle.std.specs.Ordering.{nat_cmp}
use Rattle.std.specs.Str.{str_eq_ignore_ascii_case, str_to_ascii_lowercase}
use Rattle.std.proofs.lemmas.Map.Text.{btree_map_updates_str}
use denote.Ref.{Bor}
use Rattle.accounts_file.specs.Doubles.{AreInserted, all_recipients, doubles_refusal, first_repeat, has_same, is_inserted, own_double, repeated, repeated_in_any_case}
use Rattle.accounts_file.specs.Hosts.{AreDifferent}
use Rattle.accounts_file.specs.Refusals.{double, first_in}
use Rattle.accounts_file.specs.declared.error.AccountsError.TheVariants.{NoMemory}

repeat_more : (same : List ℕ → List ℕ → Bool) (names : List (List ℕ)) (at : ℕ) (d : List ℕ) → at < length names
    → first_repeat same (take at names) (drop at names)
    ≡ cond (has_same same (take at names) (get_or names at d)) (Some (get_or names at d)) (first_repeat same (take (at + 1) names) (drop (at + 1) names))
repeat_more same names at d within =
    at_drop_more (first_repeat same (take at names)) names at d within
    ∙ ap (λ seen. cond (has_same same (take at names) (get_or names at d)) (Some (get_or names at d)) (first_repeat same seen (drop (at + 1) names))) (sym (take_more names at d within))

-- of the names before this place none stands twice
abbrev pub IsSoFar : (List ℕ → List ℕ → Bool) → List (List ℕ) → ℕ → Type 0
IsSoFar same names at = first_repeat same (take at names) (drop at names) ≡ first_repeat same [] names

pub repeat_here : (same : List ℕ → List ℕ → Bool) (names : List (List ℕ)) (at : ℕ) (d : List ℕ) → at < length names → IsSoFar same names at → has_same same (take at names) (get_or names at d) ≡ true
    → first_repeat same [] names ≡ Some (get_or names at d)
repeat_here same names at d within far here =
    sym far ∙ repeat_more same names at d within ∙ ap (λ b. cond b (Some (get_or names at d)) (first_repeat same (take (at + 1) names) (drop (at + 1) names))) here

pub repeat_on : (same : List ℕ → List ℕ → Bool) (names : List (List ℕ)) (at : ℕ) (d : List ℕ) → at < length names → IsSoFar same names at → has_same same (take at names) (get_or names at d) ≡ false → IsSoFar same names (at + 1)
repeat_on same names at d within far here =
    sym (sym far ∙ repeat_more same names at d within ∙ ap (λ b. cond b (Some (get_or names at d)) (first_repeat same (take (at + 1) names) (drop (at + 1) names))) here)

pub repeat_nowhere : (same : List ℕ → List ℕ → Bool) (names : List (List ℕ)) → IsSoFar same names (length names) → first_repeat same [] names ≡ None
repeat_nowhere same names far =
    let all : length names ≤ length names = omega arith in
    sym far ∙ at_drop_all (first_repeat same (take (length names) names)) names (length names) all

some_or : {X : Type 0} (here : Bool) (x : X) (old : Option X) → is_some (cond here (Some x) old) ≡ (here || is_some old)
some_or true x old = refl
some_or false x old = refl

-- one more text is noted
pub noted_one : {X : Type 0} (text : List ℕ) (old new : BTreeMap (Bor (List ℕ)) X) (x : X) → UpdatesBy (λ a b. slice_cmp nat_cmp a.now b.now) (λ k. slice_cmp nat_cmp text k.now) old new (Some x)
    → (other : List ℕ) → is_inserted new other ≡ (bytes_eq text other || is_inserted old other)
noted_one {X} text old new x updates other =
    ap (λ (o : Option X). is_some o) (btree_map_updates_str text old new (Some x) updates other) ∙ some_or (bytes_eq text other) x (get_by (λ k. slice_cmp nat_cmp other k.now) old)

or_last : (before here : Bool) → (here || before) ≡ (before || (here || false))
or_last true true = refl
or_last true false = refl
or_last false true = refl
or_last false false = refl

abbrev is_lower : List ℕ → List ℕ → Bool
is_lower text name = bytes_eq (str_to_ascii_lowercase name) text

-- the place of a name in lower case
pub lower_at : {A : Type 0} (names : List (List ℕ)) (lower : List (Vec ℕ A)) (at : ℕ) (d : List ℕ) (e : Vec ℕ A) → map (λ (name : Vec ℕ A). name.items) lower ≡ map str_to_ascii_lowercase names
    → length lower ≡ length names → at < length names → (get_or lower at e).items ≡ str_to_ascii_lowercase (get_or names at d)
lower_at {A} names lower at d e all count within =
    let inside : at < length lower = omega (arith, count, within) in
    sym (get_or-map (λ (name : Vec ℕ A). name.items) lower at e [] inside) ∙ ap (λ l. get_or l at []) all ∙ get_or-map str_to_ascii_lowercase names at d [] within

-- one more name is noted
pub noted_more : {X : Type 0} (names : List (List ℕ)) (at : ℕ) (d here : List ℕ) (old new : BTreeMap (Bor (List ℕ)) X) → at < length names → here ≡ str_to_ascii_lowercase (get_or names at d)
    → ((other : List ℕ) → is_inserted new other ≡ (bytes_eq here other || is_inserted old other)) → AreInserted old (take at names) → AreInserted new (take (at + 1) names)
noted_more names at d here old new within is writes noted text =
    let name = get_or names at d in
    writes text
    ∙ ap (λ h. bytes_eq h text || is_inserted old text) is
    ∙ ap (λ b. is_lower text name || b) (noted text)
    ∙ or_last (list_any (is_lower text) (take at names)) (is_lower text name)
    ∙ sym (list_any-append (is_lower text) (take at names) (name ∷ []))
    ∙ ap (list_any (is_lower text)) (sym (take_more names at d within))

-- a name was noted exactly where it stood before, in any ASCII case
pub noted_before : {X : Type 0} (names : List (List ℕ)) (at : ℕ) (d here : List ℕ) (notes : BTreeMap (Bor (List ℕ)) X) → here ≡ str_to_ascii_lowercase (get_or names at d) → AreInserted notes (take at names)
    → is_inserted notes here ≡ has_same str_eq_ignore_ascii_case (take at names) (get_or names at d)
noted_before names at d here notes is noted = ap (is_inserted notes) is ∙ noted (str_to_ascii_lowercase (get_or names at d))

recipients_push : (accounts : List AccountEntry) (account : AccountEntry) → all_recipients (accounts ++ account ∷ []) ≡ all_recipients accounts ++ account.recipients
recipients_push [] account = append-nil account.recipients
recipients_push (first ∷ accounts) account = ap (λ r. first.recipients ++ r) (recipients_push accounts account) ∙ sym (append_assoc first.recipients (all_recipients accounts) account.recipients)

pub recipients_more : (accounts : List AccountEntry) (at : ℕ) (d : AccountEntry) → at < length accounts
    → all_recipients (take (at + 1) accounts) ≡ all_recipients (take at accounts) ++ (get_or accounts at d).recipients
recipients_more accounts at d within = ap all_recipients (take_more accounts at d within) ∙ recipients_push (take at accounts) (get_or accounts at d)

bytes_eq_sym : (xs ys : List ℕ) → bytes_eq xs ys ≡ bytes_eq ys xs
bytes_eq_sym xs ys = same_from_decides (bytes_eq xs ys) (bytes_eq ys xs) (bytes_eq-Decides xs ys) ((λ e. sym ((bytes_eq-Decides ys xs).0 e)), (λ e. (bytes_eq-Decides ys xs).1 (sym e)))

abbrev unseen : List (List ℕ) → List ℕ → Bool
unseen seen name = not (list_any (λ other. bytes_eq other name) seen)

unseen_push : (before here : Bool) → not (before || (here || false)) ≡ true → (before ≡ false) × (here ≡ false)
unseen_push true here h = absurd (cc)
unseen_push false true h = absurd (cc)
unseen_push false false h = (refl, refl)

parted : (seen names : List (List ℕ)) (name : List ℕ) → list_all (unseen (seen ++ name ∷ [])) names ≡ true
    → (list_all (unseen seen) names ≡ true) × (list_any (λ other. bytes_eq other name) names ≡ false)
parted seen [] name all = (refl, refl)
parted seen (first ∷ names) name all =
    let (here, more) = and_parts (unseen (seen ++ name ∷ []) first) (list_all (unseen (seen ++ name ∷ [])) names) all in
    let (before, same) = unseen_push (list_any (λ other. bytes_eq other first) seen) (bytes_eq name first) (rw (list_any-append (λ other. bytes_eq other first) seen (name ∷ [])) at here) in
    let (old, new) = parted seen names name more in
    (rw before old, rw (bytes_eq_sym first name, same) new)

not_found : (b : Bool) (name : List ℕ) (rest : Option (List ℕ)) → cond b (Some name) rest ≡ None → (b ≡ false) × (rest ≡ None)
not_found true name rest h = absurd (cc)
not_found false name rest h = (refl, h)

different : (seen names : List (List ℕ)) → first_repeat bytes_eq seen names ≡ None → (are_different names ≡ true) × (list_all (unseen seen) names ≡ true)
different seen [] none = (refl, refl)
different seen (name ∷ names) none =
    let (here, rest) = not_found (list_any (λ other. bytes_eq other name) seen) name (first_repeat bytes_eq (seen ++ name ∷ []) names) none in
    let (apart, all) = different (seen ++ name ∷ []) names rest in
    let (old, new) = parted seen names name all in
    (rw new apart, rw here old)

-- names of which none stood before are different
pub different_names : (names : List (List ℕ)) → repeated names ≡ None → are_different names ≡ true
different_names names none = (different [] names none).0

first_none : (refusal : Option AccountsError) (rest : List (Option AccountsError)) → first_in (refusal ∷ rest) ≡ None → (refusal ≡ None) × (first_in rest ≡ None)
first_none None rest h = (refl, h)
first_none (Some e) rest h = absurd (cc)

-- an account that is refused, behind others that are not
pub double_found : (done : List AccountEntry) (account : AccountEntry) (rest : List AccountEntry) (e : AccountsError) → first_in (map own_double done) ≡ None → own_double account ≡ Some e
    → first_in (map own_double (done ++ account ∷ rest)) ≡ Some e
double_found [] account rest e none here = ap (λ o. first_in (o ∷ map own_double rest)) here
double_found (first ∷ done) account rest e none here =
    let (one, more) = first_none (own_double first) (map own_double done) none in
    ap (λ o. first_in (o ∷ map own_double (done ++ account ∷ rest))) one ∙ double_found done account rest e more here

pub double_more : (done : List AccountEntry) (account : AccountEntry) → first_in (map own_double done) ≡ None → own_double account ≡ None → first_in (map own_double (done ++ account ∷ [])) ≡ None
double_more [] account none here = ap (λ o. first_in (o ∷ [])) here
double_more (first ∷ done) account none here =
    let (one, more) = first_none (own_double first) (map own_double done) none in
    ap (λ o. first_in (o ∷ map own_double (done ++ account ∷ []))) one ∙ double_more done account more here

pub double_none : (name : Option (List ℕ)) → double name ≡ None → name ≡ None
double_none None h = refl
double_none (Some name) h = absurd (cc)

found_or_memory : (done : List AccountEntry) (account : AccountEntry) (rest : List AccountEntry) (e : AccountsError) → first_in (map own_double done) ≡ None
    → (e ≡ NoMemory) ⊎ (own_double account ≡ Some e) → (e ≡ NoMemory) ⊎ (first_in (map own_double (done ++ account ∷ rest)) ≡ Some e)
found_or_memory done account rest e none told = elim told [
  | inl memory ↦ inl memory
  | inr here ↦ inr (double_found done account rest e none here)
]

-- accounts of which one was refused, behind others that were not, or for which there was no memory
pub double_told : (accounts done : List AccountEntry) (account : AccountEntry) (rest : List AccountEntry) (e : AccountsError) → first_in (map own_double done) ≡ None
    → done ++ account ∷ rest ≡ accounts → (e ≡ NoMemory) ⊎ (own_double account ≡ Some e) → (e ≡ NoMemory) ⊎ (first_in (map own_double accounts) ≡ Some e)
double_told accounts done account rest e none all told =
    subst (λ (l : List AccountEntry). (e ≡ NoMemory) ⊎ (first_in (map own_double l) ≡ Some e)) all (found_or_memory done account rest e none told)

-- accounts of which none is refused are different
pub no_double : (accounts : List AccountEntry) → doubles_refusal accounts ≡ None → AreDifferent accounts
no_double accounts none =
    let names = map (λ (account : AccountEntry). account.name) accounts in
    let tokens = map (λ (account : AccountEntry). account.token) accounts in
    let more = double (repeated_in_any_case (all_recipients accounts)) ∷ first_in (map own_double accounts) ∷ [] in
    let by_name = first_none (double (repeated names)) (double (repeated tokens) ∷ more) none in
    let by_token = first_none (double (repeated tokens)) more by_name.1 in
    record {
      names = different_names names (double_none (repeated names) by_name.0);
      tokens = different_names tokens (double_none (repeated tokens) by_token.0);
    }
