-- Lists of values, one on.
use Rattle.std.proofs.Common.{◌≡◌, ℕ, suc, ◌+◌, ◌<◌, ◌≤◌, true, ◌&&◌, List, [], ◌∷◌, ◌++◌, length, map, take, drop, get_or, None, Some, nat_le, arith, refl, ◌∙◌, sym, ap, ◌⊎◌, inl, inr}
use Rattle.std.specs.List.{list_all}
use Rattle.std.proofs.lemmas.List.{at_drop_more, at_drop_all, length-map, take_more}
use Rattle.std.proofs.lemmas.List.Folds.{list_all-map}
use Rattle.toml.specs.Data.{Data}
use Rattle.toml.specs.View.{view, items_of as as_items, items_view}
use Rattle.toml.specs.declared.value.Value.{Value}
use Rattle.accounts_file.specs.declared.key.Key.{Key}
use Rattle.accounts_file.specs.declared.error.AccountsError.{AccountsError}
use Rattle.accounts_file.specs.Refusals.{first_in, judged}
use Rattle.accounts_file.proofs.RuleLemmas.{judged_bad}
use Rattle.accounts_file.specs.declared.error.AccountsError.TheVariants.{NoMemory}
use Rattle.accounts_file.specs.Values.{is_text, items_of, list_of}
use Rattle.accounts_file.specs.RootTables.{all_limits, is_table, limits_of, members_in, root_refusals, root_value_refusal, some_tables, spec_of, specs_of}
use Rattle.quota_roots.specs.declared.root.RootSpec.{RootSpec}
use Rattle.quota_units.specs.Limiting.{LimitNumbers}
use Rattle.toml.specs.Data.{as_array, as_table}
use Rattle.accounts_file.specs.Accounts.{refusal_in}

-- the items of an array, as the list that they came from
pub list_of_items : (values : List Data) → list_of (as_items values) ≡ values
list_of_items [] = refl
list_of_items (value ∷ values) = ap (λ (l : List Data). value ∷ l) (list_of_items values)

pub texts_more : (key : Key) (values : List Value) (at : ℕ) (d : Value) → at < length values
    → list_all (is_text key) (map view (drop at values)) ≡ (is_text key (view (get_or values at d)) && list_all (is_text key) (map view (drop (at + 1) values)))
texts_more key values at d within = at_drop_more (λ vs. list_all (is_text key) (map view vs)) values at d within

pub texts_end : (key : Key) (values : List Value) → list_all (is_text key) (map view (drop (length values) values)) ≡ true
texts_end key values = let all : length values ≤ length values = omega arith in at_drop_all (λ vs. list_all (is_text key) (map view vs)) values (length values) all

pub roots_more : (values : List Value) (at : ℕ) (d : Value) → at < length values
    → first_in (root_refusals at (map view (drop at values))) ≡ first_in (root_value_refusal at (as_table (view (get_or values at d))) ∷ root_refusals (at + 1) (map view (drop (at + 1) values)))
roots_more values at d within =
    let e : suc at ≡ at + 1 = omega arith in
    at_drop_more (λ vs. first_in (root_refusals at (map view vs))) values at d within
    ∙ ap (λ n. first_in (root_value_refusal at (as_table (view (get_or values at d))) ∷ root_refusals n (map view (drop (at + 1) values)))) e

pub roots_end : (values : List Value) → first_in (root_refusals (length values) (map view (drop (length values) values))) ≡ None
roots_end values = let all : length values ≤ length values = omega arith in at_drop_all (λ vs. first_in (root_refusals (length values) (map view vs))) values (length values) all

pub accounts_more : (values : List Value) (at : ℕ) (d : Value) → at < length values
    → first_in (map refusal_in (map view (drop at values))) ≡ first_in (refusal_in (view (get_or values at d)) ∷ map refusal_in (map view (drop (at + 1) values)))
accounts_more values at d within = at_drop_more (λ vs. first_in (map refusal_in (map view vs))) values at d within

pub accounts_end : (values : List Value) → first_in (map refusal_in (map view (drop (length values) values))) ≡ None
accounts_end values = let all : length values ≤ length values = omega arith in at_drop_all (λ vs. first_in (map refusal_in (map view vs))) values (length values) all

pub items_read : (value : Data) (values : List Value) → as_array value ≡ Some (items_view values) → items_of value ≡ Some (map view values)
items_read value values array = rw (array, list_of_items (map view values)) refl

pub tables_mapped : (values : List Value) → some_tables (Some (map view values)) ≡ (nat_le 1 (length values) && list_all (λ value. is_table (view value)) values)
tables_mapped values =
    ap (λ n. nat_le 1 n && list_all is_table (map view values)) (length-map values view) ∙ ap (λ b. nat_le 1 (length values) && b) (list_all-map is_table view values)

specs_push : (values : List Value) (value : Value) → specs_of (map view (values ++ value ∷ [])) ≡ specs_of (map view values) ++ spec_of (members_in (view value)) ∷ []
specs_push [] value = refl
specs_push (first ∷ values) value = ap (λ (l : List RootSpec). spec_of (members_in (view first)) ∷ l) (specs_push values value)

pub specs_more : (values : List Value) (at : ℕ) (value : Value) → at < length values → value ≡ get_or values at value
    → specs_of (map view (take (at + 1) values)) ≡ specs_of (map view (take at values)) ++ spec_of (members_in (view value)) ∷ []
specs_more values at value within read =
    ap (λ (l : List Value). specs_of (map view l)) (take_more values at value within) ∙ specs_push (take at values) (get_or values at value)
    ∙ ap (λ (v : Value). specs_of (map view (take at values)) ++ spec_of (members_in (view v)) ∷ []) (sym read)

limits_push : (values : List Value) (value : Value) → all_limits (map view (values ++ value ∷ [])) ≡ all_limits (map view values) ++ limits_of (members_in (view value)) ∷ []
limits_push [] value = refl
limits_push (first ∷ values) value = ap (λ (l : List LimitNumbers). limits_of (members_in (view first)) ∷ l) (limits_push values value)

pub limits_more : (values : List Value) (at : ℕ) (value : Value) → at < length values → value ≡ get_or values at value
    → all_limits (map view (take (at + 1) values)) ≡ all_limits (map view (take at values)) ++ limits_of (members_in (view value)) ∷ []
limits_more values at value within read =
    ap (λ (l : List Value). all_limits (map view l)) (take_more values at value within) ∙ limits_push (take at values) (get_or values at value)
    ∙ ap (λ (v : Value). all_limits (map view (take at values)) ++ limits_of (members_in (view v)) ∷ []) (sym read)

-- roots behind one that is not refused
pub roots_on : (values : List Value) (at : ℕ) (value : Value) → at < length values → value ≡ get_or values at value
    → first_in (root_refusals at (map view (drop at values))) ≡ first_in (root_refusals 0 (map view values)) → root_value_refusal at (as_table (view value)) ≡ None
    → first_in (root_refusals (at + 1) (map view (drop (at + 1) values))) ≡ first_in (root_refusals 0 (map view values))
roots_on values at value within read far good =
    let rest = root_refusals (at + 1) (map view (drop (at + 1) values)) in
    let here : root_value_refusal at (as_table (view (get_or values at value))) ≡ None = ap (λ (v : Value). root_value_refusal at (as_table (view v))) (sym read) ∙ good in
    sym (sym far ∙ roots_more values at value within ∙ ap (λ o. first_in (o ∷ rest)) here)

wrong_text : (key : Key) (values : List Value) (at : ℕ) (value : Value) (e : AccountsError) → at < length values → value ≡ get_or values at value
    → list_all (is_text key) (map view (drop at values)) ≡ list_all (is_text key) (map view values) → judged key (is_text key (view value)) ≡ Some e
    → judged key (list_all (is_text key) (map view values)) ≡ Some e
wrong_text key values at value e within read far bad =
    let (wrong, is) = judged_bad key (is_text key (view value)) e bad in
    let more = list_all (is_text key) (map view (drop (at + 1) values)) in
    let all : list_all (is_text key) (map view values) ≡ (is_text key (view value) && more) =
    sym far ∙ texts_more key values at value within ∙ ap (λ v. is_text key (view v) && more) (sym read) in
    ap (judged key) (all ∙ ap (λ b. b && more) wrong) ∙ ap Some (sym is)

-- a list whose item at this place was refused, or for which there was no memory
pub texts_wrong : (key : Key) (values : List Value) (at : ℕ) (value : Value) (e : AccountsError) → at < length values → value ≡ get_or values at value
    → list_all (is_text key) (map view (drop at values)) ≡ list_all (is_text key) (map view values) → (e ≡ NoMemory) ⊎ (judged key (is_text key (view value)) ≡ Some e)
    → (e ≡ NoMemory) ⊎ (judged key (list_all (is_text key) (map view values)) ≡ Some e)
texts_wrong key values at value e within read far told = elim told [
  | inl none ↦ inl none
  | inr bad ↦ inr (wrong_text key values at value e within read far bad)
]
