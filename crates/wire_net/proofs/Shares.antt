-- The connections that a door takes, counted one by one.
use Rattle.std.proofs.Common.{◌≡◌, ◌<◌, ◌≤◌, ◌+◌, ◌*◌, ◌-◌, ℕ, zero, suc, true, false, List, [], ◌∷◌, ◌++◌, length, map, take, get_or, Some, refl, sym, ap, ◌∙◌, rules, arith, length-append, append-nil, subst, inl, inr}
use Rattle.std.proofs.Math.Nat.{suc-mul, mul-le-mul_right}
use Rattle.std.specs.List.{slice_get, slice_index_or, filter, All}
use Rattle.std.proofs.lemmas.Bool.{cond-true, cond-false, cases_lt}
use Rattle.std.proofs.lemmas.Option.{slice_get_past, slice_get_within, slice_get-get_or}
use Rattle.std.proofs.lemmas.List.{map-append, take_more}
use Rattle.std.proofs.lemmas.List.Elements.{filter-append}
use Rattle.wire_io.specs.declared.ends.Wire.{Wire}
use Rattle.wire_net.specs.declared.waiting.MemConnection.{MemConnection}
use Rattle.wire_net.specs.Memory.{Arrival, Offer, MemoryDoor, is_same, is_for, arrival_of, arrivals, IsShare, IsOpened, AreOpened, told_of}
use Rattle.wire_net.specs.Doors.{IsFresh}
use Rattle.wire_net.specs.Keeping.{offer_in, offers_in}

module _ {X : Type 0} where
  -- a place of the first list keeps its element
  kept : (xs ys : List X) (k : ℕ) → k < length xs → slice_get (xs ++ ys) k ≡ slice_get xs k
  kept [] ys k lt = absurd (omega arith)
  kept (x ∷ xs) ys zero lt = refl
  kept (x ∷ xs) ys (suc k) lt = kept xs ys k (omega arith)

  last : (xs : List X) (x : X) → slice_get (xs ++ x ∷ []) (length xs) ≡ Some x
  last [] x = refl
  last (y ∷ xs) x = last xs x

-- of so many doors, the door of this number took `mine` of `all`, and passes over `left` more
-- before it takes the next
pub record Counted (doors number left : ℕ) (all mine : List Arrival) : Type 0 where
  pub few : left < doors
  pub place : number + length mine * doors ≡ length all + left
  pub same : (k : ℕ) → k < length mine → slice_get mine k ≡ slice_get all (number + k * doors)

pub counted_none : (doors number : ℕ) → number < doors → Counted doors number number [] []
counted_none doors number lt = record {
  few = lt;
  place = omega arith;
  same = λ k none. absurd (omega arith);
}

module _ (doors number left : ℕ) (all mine : List Arrival) (c : Counted doors number left all mine) where
  -- the places taken before are places of all that came
  before : (k : ℕ) → k < length mine → number + k * doors < length all
  before k lt =
      let more : suc k * doors ≤ length mine * doors = mul-le-mul_right doors lt in
      let one : suc k * doors ≡ k * doors + doors = suc-mul k doors in
      omega (arith, c.few, c.place)

  still : (x : Arrival) (k : ℕ) → k < length mine → slice_get mine k ≡ slice_get (all ++ x ∷ []) (number + k * doors)
  still x k lt = c.same k lt ∙ sym (kept all (x ∷ []) (number + k * doors) (before k lt))

  -- the door passes over a connection
  pub counted_pass : (x : Arrival) → 0 < left → Counted doors number (left - 1) (all ++ x ∷ []) mine
  counted_pass x some = record {
    few = omega (arith, c.few);
    place = omega (arith, c.place, length-append all (x ∷ []));
    same = still x;
  }

  -- the door takes a connection
  pub counted_take : (x : Arrival) → left ≡ 0 → Counted doors number (doors - 1) (all ++ x ∷ []) (mine ++ x ∷ [])
  counted_take x none =
      let long : length (mine ++ x ∷ []) ≡ suc (length mine) = omega (arith, length-append mine (x ∷ [])) in
      let next : length (mine ++ x ∷ []) * doors ≡ length mine * doors + doors = ap (λ (n : ℕ). n * doors) long ∙ suc-mul (length mine) doors in
      let at : number + length mine * doors ≡ length all = omega (arith, c.place) in
      record {
        few = omega (arith, c.few);
        place = omega (arith, c.few, length-append all (x ∷ []));
        same = λ k lt. elim (cases_lt k (length mine)) [
          | inl within ↦ kept mine (x ∷ []) k within ∙ still x k within
          | inr past ↦
              let is : k ≡ length mine = omega arith in
              ap (slice_get (mine ++ x ∷ [])) is ∙ last mine x ∙ sym (last all x) ∙ ap (slice_get (all ++ x ∷ [])) (sym at ∙ ap (λ (n : ℕ). number + n * doors) (sym is))
        ];
      }

  -- and what it took in the end is its share
  pub counted_share : IsShare doors number all mine
  counted_share k = elim (cases_lt k (length mine)) [
    | inl within ↦ c.same k within
    | inr past ↦
        let more : length mine * doors ≤ k * doors = mul-le-mul_right doors past in
        slice_get_past mine k past ∙ sym (slice_get_past all (number + k * doors) (omega (arith, c.place)))
  ]

-- doors that were opened, and one more
pub opened_more : (doors : ℕ) (all : List Arrival) (fails : List ℕ) (made : List MemoryDoor) (door : MemoryDoor) → AreOpened doors all fails made → IsOpened doors (length made) all fails door → AreOpened doors all fails (made ++ door ∷ [])
opened_more doors all fails made door each is number other at = elim (cases_lt number (length made)) [
  | inl within ↦ each number other (sym (kept made (door ∷ []) number within) ∙ at)
  | inr past ↦
      let short : number < length (made ++ door ∷ []) = slice_get_within (made ++ door ∷ []) number other at in
      let here : number ≡ length made = omega (arith, length-append made (door ∷ [])) in
      let same : Some door ≡ Some other = sym (last made door) ∙ ap (slice_get (made ++ door ∷ [])) (sym here) ∙ at in
      let one : door ≡ other = search rules in
      subst (λ (d : MemoryDoor). IsOpened doors number all fails d) one (subst (λ (n : ℕ). IsOpened doors n all fails door) (sym here) is)
]

-- doors as they were opened are fresh
pub opened_fresh : (doors : ℕ) (all : List Arrival) (fails : List ℕ) (made : List MemoryDoor) → AreOpened doors all fails made → All (IsFresh (λ d. d.misses) (λ d. d.ended) (λ d. d.asked) told_of) made
opened_fresh doors all fails made each k d lt =
    let is = (each k (slice_index_or made k d) (slice_get-get_or made k d lt)).door_is in
    (ap (λ (s : MemoryDoor). s.misses) is, ap (λ (s : MemoryDoor). s.ended) is, ap (λ (s : MemoryDoor). s.asked) is, (ap (λ (s : MemoryDoor). s.handed) is, ap (λ (s : MemoryDoor). s.done) is))

module _ (wire : Wire) (connections : List MemConnection) (i : ℕ) (x : MemConnection) (within : i < length connections) (is : x ≡ get_or connections i x) where
  next : arrivals wire (offers_in (take (i + 1) connections)) ≡ arrivals wire (offers_in (take i connections)) ++ arrivals wire (offer_in x ∷ [])
  next =
      let one : take (i + 1) connections ≡ take i connections ++ x ∷ [] = take_more connections i x within ∙ ap (λ (y : MemConnection). take i connections ++ y ∷ []) (sym is) in
      let kept_offers : List Offer = offers_in (take i connections) in
      ap (λ (l : List MemConnection). arrivals wire (offers_in l)) one
      ∙ ap (arrivals wire) (map-append offer_in (take i connections) (x ∷ []))
      ∙ ap (map arrival_of) (filter-append (is_for wire) kept_offers (offer_in x ∷ []))
      ∙ map-append arrival_of (filter (is_for wire) kept_offers) (filter (is_for wire) (offer_in x ∷ []))

  -- one more connection of the wire
  pub arrivals_more : is_same wire x.wire ≡ true → arrivals wire (offers_in (take (i + 1) connections)) ≡ arrivals wire (offers_in (take i connections)) ++ (offer_in x).arrival ∷ []
  arrivals_more for = next ∙ ap (λ (l : List Offer). arrivals wire (offers_in (take i connections)) ++ map arrival_of l) (cond-true (is_same wire x.wire) (offer_in x ∷ []) [] for)

  -- one more connection, of another wire
  pub arrivals_same : is_same wire x.wire ≡ false → arrivals wire (offers_in (take (i + 1) connections)) ≡ arrivals wire (offers_in (take i connections))
  arrivals_same other = next ∙ ap (λ (l : List Offer). arrivals wire (offers_in (take i connections)) ++ map arrival_of l) (cond-false (is_same wire x.wire) (offer_in x ∷ []) [] other) ∙ append-nil (arrivals wire (offers_in (take i connections)))
