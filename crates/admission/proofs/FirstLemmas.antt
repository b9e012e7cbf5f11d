-- The first root of a set that a message does not fit.
use Rattle.std.proofs.Common.{◌≡◌, ℕ, zero, suc, ◌<◌, Bool, true, false, cond, not, ◌&&◌, List, [], ◌∷◌, length, get_or, Option, Some, None, arith, refl, sym, ◌∙◌, ap, inl, inr}
use Rattle.std.specs.List.{All, AllPairs, Contains, filter_map, cons_option, slice_get}
use Rattle.std.specs.List.Sorted.{IsStrictlyIncreasing}
use Rattle.std.specs.Option.{option_map}
use Rattle.std.proofs.lemmas.Bool.{cases_eq}
use Rattle.std.proofs.lemmas.List.{get_or_read}
use Rattle.std.proofs.lemmas.List.Elements.{All-contains, Contains-get_or}
use Rattle.std.proofs.lemmas.List.Kept.{AllPairs-from_increasing}
use Rattle.quota_units.specs.Limiting.{LimitNumbers}
use Rattle.quota_units.specs.declared.totals.Totals.{Totals}
use Rattle.quota_units.specs.declared.resource.Resource.{Resource}
use Rattle.quota_units.specs.declared.resource.Resource.TheVariants.{Storage, Message}
use Rattle.admission.specs.Fitting.{over, first_over, limits_at, totals_at, fits_root, FitsEach}

abbrev pub named : (ℕ → Option Resource) → ℕ → Option (ℕ × Resource)
named h root = option_map (λ resource. (root, resource)) (h root)

in_rest : (x : ℕ) (xs : List ℕ) (n : ℕ) → (x ≡ n → ⊥) → Contains (x ∷ xs) n → Contains xs n
in_rest x xs n other (zero, inside, same) = absurd (other same)
in_rest x xs n other (suc k, inside, same) = (k, omega arith, same)

pub behind : (x : ℕ) (xs : List ℕ) (n : ℕ) → Contains xs n → Contains (x ∷ xs) n
behind x xs n has = (suc has.0, omega (arith, has.1), has.2)

rest_in_order : (x : ℕ) (xs : List ℕ) → AllPairs (λ a b. a < b) (x ∷ xs) → AllPairs (λ a b. a < b) xs
rest_in_order x xs order i j d before inside = order (suc i) (suc j) d (omega arith) (omega arith)

head_below : (x : ℕ) (xs : List ℕ) (n : ℕ) → AllPairs (λ a b. a < b) (x ∷ xs) → Contains xs n → x < n
head_below x xs n order has = let below = order 0 (suc has.0) n (omega arith) (omega (arith, has.1)) in omega (arith, below, has.2)

skipped : (h : ℕ → Option Resource) (x : ℕ) (xs : List ℕ) → h x ≡ None → filter_map (named h) (x ∷ xs) ≡ filter_map (named h) xs
skipped h x xs none = ap (λ o. cons_option (option_map (λ resource. (x, resource)) o) (filter_map (named h) xs)) none

taken : (h : ℕ → Option Resource) (x : ℕ) (xs : List ℕ) (resource : Resource) → h x ≡ Some resource → slice_get (filter_map (named h) (x ∷ xs)) 0 ≡ Some (x, resource)
taken h x xs resource some = ap (λ o. slice_get (cons_option (option_map (λ r. (x, r)) o) (filter_map (named h) xs)) 0) some

first_at : (h : ℕ → Option Resource) (roots : List ℕ) (n : ℕ) (resource : Resource) → AllPairs (λ a b. a < b) roots
    → ((k : ℕ) → k < n → Contains roots k → h k ≡ None) → Contains roots n → h n ≡ Some resource
    → slice_get (filter_map (named h) roots) 0 ≡ Some (n, resource)
first_at h [] n resource order none has over = absurd (omega (arith, has.1))
first_at h (x ∷ xs) n resource order none has over = elim (cases_eq x n) [
  | inl same ↦ taken h x xs resource (ap h same ∙ over) ∙ ap (λ k. Some (k, resource)) same
  | inr other ↦
      let later = in_rest x xs n other has in
      let no = none x (head_below x xs n order later) (0, omega arith, refl) in
      ap (λ ps. slice_get ps 0) (skipped h x xs no) ∙ first_at h xs n resource (rest_in_order x xs order) (λ k below in_xs. none k below (behind x xs k in_xs)) later over
]

pub no_first : (h : ℕ → Option Resource) (roots : List ℕ) → ((k : ℕ) → Contains roots k → h k ≡ None) → slice_get (filter_map (named h) roots) 0 ≡ None
no_first h [] none = refl
no_first h (x ∷ xs) none =
    ap (λ ps. slice_get ps 0) (skipped h x xs (none x (0, omega arith, refl))) ∙ no_first h xs (λ k in_xs. none k (behind x xs k in_xs))

-- what the message takes over its limit at this root
abbrev pub over_at : List LimitNumbers → List Totals → ℕ → ℕ → Option Resource
over_at limits totals octets root = over (limits_at limits root) (totals_at totals root) octets

-- the message fits each root of the set that is below this one
abbrev pub NoneBelow : List LimitNumbers → List Totals → List ℕ → ℕ → ℕ → Type 0
NoneBelow limits totals roots octets n = (k : ℕ) → k < n → Contains roots k → over_at limits totals octets k ≡ None

pub over_first : (limits : List LimitNumbers) (totals : List Totals) (roots : List ℕ) (octets n : ℕ) (resource : Resource) → IsStrictlyIncreasing roots
    → NoneBelow limits totals roots octets n → Contains roots n → over_at limits totals octets n ≡ Some resource → first_over limits totals roots octets ≡ Some (n, resource)
over_first limits totals roots octets n resource order none has over = first_at (over_at limits totals octets) roots n resource (AllPairs-from_increasing roots order) none has over

pub over_nowhere : (limits : List LimitNumbers) (totals : List Totals) (roots : List ℕ) (octets n : ℕ) → All (λ root. root < n) roots
    → NoneBelow limits totals roots octets n → first_over limits totals roots octets ≡ None
over_nowhere limits totals roots octets n low none = no_first (over_at limits totals octets) roots (λ k has. none k (All-contains (λ root. root < n) roots k low has) has)

choice_fits : (storage number : Bool) → cond (not storage) (Some Storage) (cond (not number) (Some Message) None) ≡ None → (storage && number) ≡ true
choice_fits true true none = refl
choice_fits true false none = cc
choice_fits false number none = cc

choice_over : (storage number : Bool) (resource : Resource) → cond (not storage) (Some Storage) (cond (not number) (Some Message) None) ≡ Some resource → (storage && number) ≡ true → ⊥
choice_over true true resource some fits = cc
choice_over true false resource some fits = cc
choice_over false number resource some fits = cc

pub fits_each : (limits : List LimitNumbers) (totals : List Totals) (roots : List ℕ) (octets n : ℕ) → All (λ root. root < n) roots
    → NoneBelow limits totals roots octets n → FitsEach limits totals roots octets
fits_each limits totals roots octets n low none k d inside =
    let root = get_or roots k d in
    choice_fits _ _ (none root (low k d inside) (Contains-get_or roots k d inside))

pub fits_not_each : (limits : List LimitNumbers) (totals : List Totals) (roots : List ℕ) (octets n : ℕ) (resource : Resource) → Contains roots n
    → over_at limits totals octets n ≡ Some resource → FitsEach limits totals roots octets → ⊥
fits_not_each limits totals roots octets n resource has some fits =
    choice_over _ _ resource some (All-contains (λ root. fits_root (limits_at limits root) (totals_at totals root) octets ≡ true) roots n fits has)

-- with the limits that a root's place gives
pub over_read : (limits : List LimitNumbers) (totals : List Totals) (octets root : ℕ) (read : LimitNumbers) → root < length limits → read ≡ get_or limits root read
    → over_at limits totals octets root ≡ over read (totals_at totals root) octets
over_read limits totals octets root read inside is = ap (λ l. over l (totals_at totals root) octets) (sym (get_or_read limits root read inside is (record { octets = None; count = None })))
