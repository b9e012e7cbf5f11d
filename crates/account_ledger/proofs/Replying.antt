-- What the machine replies, by what is kept of the roots.
use Rattle.std.proofs.Common.{◌≡◌, ℕ, suc, ◌+◌, ◌<◌, ◌≤◌, ◌↔◌, Bool, true, false, cond, not, nat_lt, nat_le, inl, inr, List, [], ◌∷◌, ◌++◌, length, get_or, take, set, map, filter, Option, Some, None, refl, sym, ap, ◌∙◌, arith, add-zero, bytes_eq, find}
use Rattle.std.specs.Prelude.{IfSome}
use Rattle.std.specs.List.{range_with_len, filter_map, cons_option, slice_get, position_or_len, All}
use Rattle.std.specs.Option.{option_map}
use Rattle.std.proofs.lemmas.Bool.Decides.{nat_tests}
use Rattle.std.proofs.lemmas.Bool.{cases_lt}
use Rattle.std.proofs.lemmas.List.{get_or_past, map-append, take_more, take_more_set}
use Rattle.quota_units.specs.Limiting.{LimitNumbers, IsLimit, AreLimits}
use Rattle.quota_units.specs.declared.resource.Resource.TheVariants.{Storage, Message as MessageCount}
use Rattle.quota_units.specs.Sums.{cut_sum}
use Rattle.quota_units.specs.declared.totals.Totals.{Totals}
use Rattle.quota_units.specs.declared.resource.Resource.{Resource}
use Rattle.quota_roots.specs.declared.root.RootSpec.{RootSpec}
use Rattle.quota_roots.specs.Governing.{governs, governs_at, governing}
use Rattle.quota_roots.specs.RootLists.{root_named}
use Rattle.quota_roots.proofs.GoverningLemmas.{governs_at_get_or, governing_below, governing_more}
use Rattle.admission.specs.Fitting.{allows, number_fits, over, first_over, all_over, limits_at, totals_at}
use Rattle.account_core.specs.declared.calls.RootRow.{RootRow}
use Rattle.account_core.specs.declared.calls.Reply.TheVariants.{NoRoot, Quota, LimitsSet}
use Rattle.account_core.specs.Account.{Account, usage}
use Rattle.account_core.specs.Machine.{row_of, rows_from, rows, named, quota_reply, limits_reply, governing_rows}
use Rattle.account_core.proofs.Admitting.{totals_at-usages}
use Rattle.admission.specs.declared.verdict.Verdict.{Verdict}
use Rattle.admission.specs.declared.verdict.Verdict.TheVariants.{Fits, Over}
use Rattle.account_ledger.specs.Rows.{IsVerdict, totals_of}
use Rattle.root_ledgers.specs.declared.book.Book.{Book}
use Rattle.account_ledger.specs.Stores.{usage_at}

abbrev pub no_root : RootSpec
no_root = record { name = []; prefix = None }

abbrev no_limits : LimitNumbers
no_limits = record { octets = None; count = None }

-- facts about one optional value
pub of_both : {X : Type 0} (P Q R : X → Type 0) → ((x : X) → P x → Q x → R x) → (o : Option X) → IfSome o P → IfSome o Q → IfSome o R
of_both P Q R join None p q = tt
of_both P Q R join (Some x) p q = join x p q

-- the row of the root of a number
abbrev pub row_at : List RootSpec → List LimitNumbers → Account → ℕ → RootRow
row_at roots limits account root = row_of account root (get_or roots root no_root) (limits_at limits root)

below_more : (n : ℕ) → nat_lt 0 (suc n) ≡ true
below_more n = grind (arith, nat_tests)

both_more : (k m : ℕ) → nat_lt (suc k) (suc m) ≡ nat_lt k m
both_more k m = grind (arith, nat_tests)

module _ (account : Account) (name : List ℕ) where
  abbrev is_named : RootSpec → Bool
  is_named spec = bytes_eq spec.name name

  abbrev found_at : ℕ → List RootSpec → List LimitNumbers → ℕ → RootSpec × RootRow
  found_at n roots limits k = (get_or roots k no_root, row_of account (n + k) (get_or roots k no_root) (limits_at limits k))

  abbrev found : ℕ → List RootSpec → List LimitNumbers → Option (RootSpec × RootRow)
  found n roots limits = cond (nat_lt (position_or_len is_named roots) (length roots)) (Some (found_at n roots limits (position_or_len is_named roots))) None

  first_found : (n : ℕ) (x : RootSpec) (xs : List RootSpec) (l : LimitNumbers) (ls : List LimitNumbers) → cond (nat_lt 0 (suc (length xs))) (Some (found_at n (x ∷ xs) (l ∷ ls) 0)) None ≡ Some (x, row_of account n x l)
  first_found n x xs l ls = rw (below_more (length xs), add-zero n) refl

  later_found : (n k m : ℕ) (x : RootSpec) (xs : List RootSpec) (l : LimitNumbers) (ls : List LimitNumbers)
      → cond (nat_lt (1 + k) (suc m)) (Some (found_at n (x ∷ xs) (l ∷ ls) (1 + k))) None ≡ cond (nat_lt k m) (Some (found_at (n + 1) xs ls k)) None
  later_found n k m x xs l ls =
      let a : 1 + k ≡ suc k = omega arith in
      let e : n + suc k ≡ (n + 1) + k = omega arith in
      ap (λ j. cond (nat_lt j (suc m)) (Some (found_at n (x ∷ xs) (l ∷ ls) j)) None) a
      ∙ ap (λ (b : Bool). cond b (Some (found_at n (x ∷ xs) (l ∷ ls) (suc k))) None) (both_more k m)
      ∙ ap (λ (j : ℕ). cond (nat_lt k m) (let f : RootSpec × RootRow = (get_or xs k no_root, row_of account j (get_or xs k no_root) (limits_at ls k)) in Some f) None) e

  step_rows : (n : ℕ) (x : RootSpec) (xs : List RootSpec) (l : LimitNumbers) (ls : List LimitNumbers) → find (λ y. bytes_eq y.0.name name) (rows_from account (n + 1) xs ls) ≡ found (n + 1) xs ls → (b : Bool)
      → cond b (Some (x, row_of account n x l)) (find (λ y. bytes_eq y.0.name name) (rows_from account (n + 1) xs ls))
      ≡ cond (nat_lt (cond (not b) (1 + position_or_len is_named xs) 0) (suc (length xs))) (Some (found_at n (x ∷ xs) (l ∷ ls) (cond (not b) (1 + position_or_len is_named xs) 0))) None
  step_rows n x xs l ls rest true = sym (first_found n x xs l ls)
  step_rows n x xs l ls rest false = rest ∙ sym (later_found n (position_or_len is_named xs) (length xs) x xs l ls)

  find_rows : (n : ℕ) (roots : List RootSpec) (limits : List LimitNumbers) → length limits ≡ length roots → find (λ x. bytes_eq x.0.name name) (rows_from account n roots limits) ≡ found n roots limits
  find_rows n [] limits same = refl
  find_rows n (x ∷ xs) [] same = absurd (omega arith)
  find_rows n (x ∷ xs) (l ∷ ls) same = step_rows n x xs l ls (find_rows (n + 1) xs ls (omega arith)) (is_named x)

  by_place : (b : Bool) (f : ℕ → RootSpec × RootRow) (k : ℕ) → cond b (Some (f k)) None ≡ option_map f (cond b (Some k) None)
  by_place true f k = refl
  by_place false f k = refl

  pub named_is : (roots : List RootSpec) → length account.limits ≡ length roots → named roots account name ≡ option_map (λ k. (get_or roots k no_root, row_at roots account.limits account k)) (root_named roots name)
  named_is roots same =
      find_rows 0 roots account.limits same
      ∙ by_place (nat_lt (position_or_len is_named roots) (length roots)) (found_at 0 roots account.limits) (position_or_len is_named roots)
      ∙ zeroed (root_named roots name)
    where
      zeroed : (o : Option ℕ) → option_map (found_at 0 roots account.limits) o ≡ option_map (λ k. (get_or roots k no_root, row_at roots account.limits account k)) o
      zeroed None = refl
      zeroed (Some k) = let e : 0 + k ≡ k = omega arith in ap (λ (j : ℕ). let f : RootSpec × RootRow = (get_or roots k no_root, row_of account j (get_or roots k no_root) (limits_at account.limits k)) in Some f) e

  module _ (roots : List RootSpec) (same : length account.limits ≡ length roots) where
    pub quota_none : root_named roots name ≡ None → NoRoot ≡ quota_reply (named roots account name)
    quota_none none = sym (ap quota_reply (named_is roots same ∙ ap (option_map (λ k. (get_or roots k no_root, row_at roots account.limits account k))) none))

    pub limits_none : (limits : LimitNumbers) → root_named roots name ≡ None → NoRoot ≡ limits_reply limits (named roots account name)
    limits_none limits none = sym (ap (limits_reply limits) (named_is roots same ∙ ap (option_map (λ k. (get_or roots k no_root, row_at roots account.limits account k))) none))

    pub quota_some : (root : ℕ) (totals : Totals) (limits : LimitNumbers) → root_named roots name ≡ Some root → root < length roots → totals ≡ usage_at roots root account → limits ≡ limits_at account.limits root
        → Quota (record { root = root; octets = totals.octets; count = totals.count; limits = limits }) ≡ quota_reply (named roots account name)
    quota_some root totals limits at inside used own =
        let u : totals ≡ usage (get_or roots root no_root) account = used ∙ totals_at-usages roots account root no_root inside in
        rw (own, u) (sym (ap quota_reply (named_is roots same ∙ ap (option_map (λ k. (get_or roots k no_root, row_at roots account.limits account k))) at)))

    pub limits_some : (root : ℕ) (totals : Totals) (limits : LimitNumbers) → root_named roots name ≡ Some root → root < length roots → totals ≡ usage_at roots root account
        → LimitsSet (record { root = root; octets = totals.octets; count = totals.count; limits = limits }) ≡ limits_reply limits (named roots account name)
    limits_some root totals limits at inside used =
        let u : totals ≡ usage (get_or roots root no_root) account = used ∙ totals_at-usages roots account root no_root inside in
        rw u (sym (ap (limits_reply limits) (named_is roots same ∙ ap (option_map (λ k. (get_or roots k no_root, row_at roots account.limits account k))) at)))

pub map_more : {X Y : Type 0} (f : X → Y) (xs : List X) (x : X) (b : Bool) → map f (xs ++ cond b (x ∷ []) []) ≡ map f xs ++ cond b (f x ∷ []) []
map_more f [] x true = refl
map_more f [] x false = refl
map_more f (y ∷ xs) x b = ap (λ ys. f y ∷ ys) (map_more f xs x b)

-- what agrees on the elements that a test passes
map_where_step : {X Y : Type 0} (f g : X → Y) (x : X) (xs : List X) (b : Bool) → (b ≡ true → f x ≡ g x) → map f xs ≡ map g xs → map f (cond b (x ∷ xs) xs) ≡ map g (cond b (x ∷ xs) xs)
map_where_step f g x xs true here rest = ap (λ y. y ∷ map f xs) (here refl) ∙ ap (λ ys. g x ∷ ys) rest
map_where_step f g x xs false here rest = rest

pub map_where : {X Y : Type 0} (f g : X → Y) (p : X → Bool) → ((x : X) → p x ≡ true → f x ≡ g x) → (xs : List X) → map f (filter p xs) ≡ map g (filter p xs)
map_where f g p same [] = refl
map_where f g p same (x ∷ xs) = map_where_step f g x (filter p xs) (p x) (same x) (map_where f g p same xs)

filter_map_where_step : {X Y : Type 0} (f g : X → Option Y) (x : X) (xs : List X) (b : Bool) → (b ≡ true → f x ≡ g x) → filter_map f xs ≡ filter_map g xs
    → filter_map f (cond b (x ∷ xs) xs) ≡ filter_map g (cond b (x ∷ xs) xs)
filter_map_where_step f g x xs true here rest = ap (λ o. cons_option o (filter_map f xs)) (here refl) ∙ ap (λ ys. cons_option (g x) ys) rest
filter_map_where_step f g x xs false here rest = rest

filter_map_where : {X Y : Type 0} (f g : X → Option Y) (p : X → Bool) → ((x : X) → p x ≡ true → f x ≡ g x) → (xs : List X) → filter_map f (filter p xs) ≡ filter_map g (filter p xs)
filter_map_where f g p same [] = refl
filter_map_where f g p same (x ∷ xs) = filter_map_where_step f g x (filter p xs) (p x) (same x) (filter_map_where f g p same xs)

-- the first root over among some is the same where their totals are
pub first_over_where : (among : ℕ → Bool) (count : ℕ) (limits : List LimitNumbers) (a b : List Totals) (octets : ℕ)
    → ((root : ℕ) → among root ≡ true → totals_at a root ≡ totals_at b root)
    → first_over limits a (filter among (range_with_len 0 count)) octets ≡ first_over limits b (filter among (range_with_len 0 count)) octets
first_over_where among count limits a b octets same =
    ap (λ (ps : List (ℕ × Resource)). slice_get ps 0) (filter_map_where
    (λ root. option_map (λ resource. (root, resource)) (over (limits_at limits root) (totals_at a root) octets))
    (λ root. option_map (λ resource. (root, resource)) (over (limits_at limits root) (totals_at b root) octets))
    among
    (λ root is. ap (λ t. option_map (λ resource. (root, resource)) (over (limits_at limits root) t octets)) (same root is))
    (range_with_len 0 count))

-- the rows of the governing roots, by their numbers
module _ (account : Account) (mailbox : List ℕ) (all : List RootSpec) (all_limits : List LimitNumbers) where
  abbrev Behind : ℕ → List RootSpec → List LimitNumbers → Type 0
  Behind n roots limits = (k : ℕ) → k < length roots → (get_or all (n + k) no_root ≡ get_or roots k no_root) × (limits_at all_limits (n + k) ≡ limits_at limits k) × (n + k < length all)

  behind_more : (n : ℕ) (x : RootSpec) (roots : List RootSpec) (l : LimitNumbers) (limits : List LimitNumbers) → Behind n (x ∷ roots) (l ∷ limits) → Behind (n + 1) roots limits
  behind_more n x roots l limits behind k inside =
      let e : n + suc k ≡ (n + 1) + k = omega arith in
      let b = behind (suc k) (omega arith) in
      rw e at b

  rows_step : (n : ℕ) (x : RootSpec) (l : LimitNumbers) (rest : List (RootSpec × RootRow)) (numbers : List ℕ) (b c : Bool) → c ≡ b → row_of account n x l ≡ row_at all all_limits account n
      → map (λ y. y.1) rest ≡ map (row_at all all_limits account) numbers
      → map (λ y. y.1) (cond b ((x, row_of account n x l) ∷ rest) rest) ≡ map (row_at all all_limits account) (cond c (n ∷ numbers) numbers)
  rows_step n x l rest numbers true c e same more =
      rw e (ap (λ r. r ∷ map (λ (y : RootSpec × RootRow). y.1) rest) same ∙ ap (λ rs. row_at all all_limits account n ∷ rs) more)
  rows_step n x l rest numbers false c e same more = rw e more

  rows_behind : (n : ℕ) (roots : List RootSpec) (limits : List LimitNumbers) → length limits ≡ length roots → Behind n roots limits
      → map (λ y. y.1) (filter (λ y. governs y.0 mailbox) (rows_from account n roots limits))
      ≡ map (row_at all all_limits account) (filter (λ r. governs_at all r mailbox) (range_with_len n (length roots)))
  rows_behind n [] limits same behind = refl
  rows_behind n (x ∷ roots) [] same behind = absurd (omega arith)
  rows_behind n (x ∷ roots) (l ∷ limits) same behind =
      let z : n + 0 ≡ n = omega arith in
      let b = behind 0 (omega arith) in
      let root_is : get_or all n no_root ≡ x = rw z at b.0 in
      let limits_are : limits_at all_limits n ≡ l = rw z at b.1 in
      let inside : n < length all = rw z at b.2 in
      rows_step n x l (filter (λ y. governs y.0 mailbox) (rows_from account (n + 1) roots limits)) (filter (λ r. governs_at all r mailbox) (range_with_len (n + 1) (length roots)))
      (governs x mailbox) (governs_at all n mailbox)
      (governs_at_get_or all mailbox n no_root inside ∙ ap (λ spec. governs spec mailbox) root_is)
      (rw (root_is, limits_are) refl)
      (rows_behind (n + 1) roots limits (omega arith) (behind_more n x roots l limits behind))

pub governing_rows_are : (roots : List RootSpec) (account : Account) (mailbox : List ℕ) → length account.limits ≡ length roots
    → governing_rows roots account mailbox ≡ map (row_at roots account.limits account) (governing roots mailbox)
governing_rows_are roots account mailbox same =
    rows_behind account mailbox roots account.limits 0 roots account.limits same
    (λ k inside. let z : 0 + k ≡ k = omega arith in rw z (refl, refl, inside))

pub rows_more : {Y : Type 0} (f : ℕ → Y) (roots : List RootSpec) (mailbox : List ℕ) (n : ℕ) (rows : List Y) (b : Bool) → governs_at roots n mailbox ≡ b → rows ≡ map f (governing_below roots mailbox n)
    → rows ++ cond b (f n ∷ []) [] ≡ map f (governing_below roots mailbox (n + 1))
rows_more f roots mailbox n rows b is so_far =
    ap (λ rs. rs ++ cond b (f n ∷ []) []) so_far ∙ sym (map_more f (governing_below roots mailbox n) n b)
    ∙ ap (λ (c : Bool). map f (governing_below roots mailbox n ++ cond c (n ∷ []) [])) (sym is) ∙ sym (ap (map f) (governing_more roots mailbox n))

-- one more root's totals
pub totals_more : (books : List Book) (totals : List Totals) (n : ℕ) (d : Book) → n < length totals → n < length books → take n totals ≡ totals_of (take n books)
    → take (n + 1) (set totals n (get_or books n d).totals) ≡ totals_of (take (n + 1) books)
totals_more books totals n d inside there so_far =
    take_more_set totals n (get_or books n d).totals inside ∙ ap (λ ts. ts ++ (get_or books n d).totals ∷ []) so_far
    ∙ sym (ap totals_of (take_more books n d there) ∙ map-append (λ (b : Book). b.totals) (take n books) (get_or books n d ∷ []))

pub of_weaker : {X : Type 0} (P Q : X → Type 0) → ((x : X) → P x → Q x) → (o : Option X) → IfSome o P → IfSome o Q
of_weaker P Q weaker None p = tt
of_weaker P Q weaker (Some x) p = weaker x p

pub verdict_is : (first : Option (ℕ × Resource)) (verdict : Verdict) → ((verdict ≡ Fits) ↔ (first ≡ None)) → ((root : ℕ) (resource : Resource) → (verdict ≡ Over root resource) ↔ (first ≡ Some (root, resource)))
    → (over : Option (ℕ × Resource)) → first ≡ over → IsVerdict over verdict
verdict_is first Fits fits others over same = sym same ∙ fits.0 refl
verdict_is first (Over root resource) fits others over same = sym same ∙ (others root resource).0 refl

allows_cut : (limit : Option ℕ) (had octets : ℕ) → IfSome limit IsLimit → allows limit (had + cut_sum octets) ≡ allows limit (had + octets)
allows_cut None had octets range = refl
allows_cut (Some limit) had octets range = at_limit limit had octets range.bounded
  where
    at_limit : (l h o : ℕ) → l ≤ 9007199254740991 → nat_le (h + cut_sum o) l ≡ nat_le (h + o) l
    at_limit l h o bounded = grind (arith, nat_tests)

over_cut : (limits : LimitNumbers) (totals : Totals) (octets : ℕ) → AreLimits limits → over limits totals (cut_sum octets) ≡ over limits totals octets
over_cut limits totals octets range =
    ap (λ (b : Bool). cond (not b) (Some Storage) (cond (not (number_fits limits totals)) (Some MessageCount) None)) (allows_cut limits.octets totals.octets octets range.octets)

range_at : (limits : List LimitNumbers) → All AreLimits limits → (root : ℕ) → AreLimits (limits_at limits root)
range_at limits all root = elim (cases_lt root (length limits)) [
  | inl inside ↦ all root no_limits inside
  | inr past ↦ rw (get_or_past limits root no_limits past) (record { octets = tt; count = tt })
]

-- a message of more octets than are kept is over the same limits as one of so many
pub first_over_cut : (limits : List LimitNumbers) (totals : List Totals) (roots : List ℕ) (octets : ℕ) → All AreLimits limits → first_over limits totals roots (cut_sum octets) ≡ first_over limits totals roots octets
first_over_cut limits totals roots octets all = ap (λ (ps : List (ℕ × Resource)). slice_get ps 0) (each roots)
  where
    each : (rs : List ℕ) → all_over limits totals rs (cut_sum octets) ≡ all_over limits totals rs octets
    each [] = refl
    each (r ∷ rs) =
        ap (λ o. cons_option (option_map (λ resource. (r, resource)) o) (all_over limits totals rs (cut_sum octets))) (over_cut (limits_at limits r) (totals_at totals r) octets (range_at limits all r))
        ∙ ap (λ ys. cons_option (option_map (λ resource. (r, resource)) (over (limits_at limits r) (totals_at totals r) octets)) ys) (each rs)
