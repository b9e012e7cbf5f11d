-- Calls of a feed, one after another.
use Rattle.std.proofs.Common.{◌≡◌, ℕ, ◌+◌, ◌-◌, ◌≤◌, ◌<◌, List, [], ◌++◌, length, take, drop, refl, ap, sym, subst, ◌∙◌, arith, append_assoc, append-nil, length-append}
use Rattle.std.proofs.Math.Seq.{drop-append_seam}
use Rattle.std.proofs.lemmas.List.{take-append-drop, length-take-le}
use Rattle.std.proofs.KnownBytes.{Consumes-nil, Consumes-trans}
use Rattle.std.specs.declared.option.Option.{Option}
use Rattle.wire_io.specs.Feeding.{gained, Hands}

-- nothing is taken and nothing handed out
pub Hands-nil : (left : Option (List ℕ)) (waiting : List ℕ) (taken : ℕ) → Hands left left waiting waiting taken taken []
Hands-nil left waiting taken = record {
  got = [];
  consumed = Consumes-nil left;
  joined = append-nil waiting;
  counted = omega arith;
}

-- one call after another hands out what the first does, and then what the second does
pub Hands-trans : (a b c : Option (List ℕ)) (u v w : List ℕ) (m n k : ℕ) (given more : List ℕ)
    → Hands a b u v m n given → Hands b c v w n k more → Hands a c u w m k (given ++ more)
Hands-trans a b c u v w m n k given more first second = record {
  got = first.got ++ second.got;
  consumed = Consumes-trans a b c first.got second.got first.consumed second.consumed;
  joined =
      sym (append_assoc u first.got second.got) ∙ ap (λ l. l ++ second.got) first.joined ∙ append_assoc given v second.got
      ∙ ap (λ l. given ++ l) second.joined ∙ sym (append_assoc given more w);
  counted = omega (arith, first.counted, second.counted, length-append first.got second.got);
}

-- the first bytes that wait are handed out
pub Hands-prefix : (left : Option (List ℕ)) (waiting : List ℕ) (taken n : ℕ) → Hands left left waiting (drop n waiting) taken taken (take n waiting)
Hands-prefix left waiting taken n = record {
  got = [];
  consumed = Consumes-nil left;
  joined = append-nil waiting ∙ sym (take-append-drop n waiting);
  counted = omega arith;
}

-- what is taken is what is handed out, and what waits more or less than before
pub length-Hands : (a b : Option (List ℕ)) (u v : List ℕ) (m n : ℕ) (given : List ℕ) → Hands a b u v m n given → n + length u ≡ m + (length given + length v)
length-Hands a b u v m n given hands =
    omega (arith, hands.counted, length-append u hands.got, length-append given v, ap length hands.joined)

-- a list that is appended to has gained just that
pub gained-append : (old given : List ℕ) → gained old (old ++ given) ≡ given
gained-append old given = drop-append_seam old given

-- what is taken first changes nothing of what is handed out
pub Hands-taken : (a b c c' : Option (List ℕ)) (u v w w' : List ℕ) (m n k k' : ℕ) (given given' : List ℕ)
    → Hands a b u v m n given → Hands b c v w n k [] → c' ≡ c → w' ≡ w → k' ≡ k → given' ≡ given → Hands a c' u w' m k' given'
Hands-taken a b c c' u v w w' m n k k' given given' first second e f h i =
    let both : Hands a c u w m k given = subst (Hands a c u w m k) (append-nil given) (Hands-trans a b c u v w m n k given [] first second) in
    let told : Hands a c' u w m k given = subst (λ x. Hands a x u w m k given) (sym e) both in
    let rest : Hands a c' u w' m k given = subst (λ x. Hands a c' u x m k given) (sym f) told in
    let count : Hands a c' u w' m k' given = subst (λ x. Hands a c' u w' m x given) (sym h) rest in
    subst (Hands a c' u w' m k') (sym i) count

-- what a call has done so far, where it may hand out so many bytes and has room for more
pub record Reached (out out' : List ℕ) (left left' : Option (List ℕ)) (waiting waiting' : List ℕ) (taken taken' most room : ℕ) : Type 0 where
  pub grows : out' ≡ out ++ gained out out'
  pub hands : Hands left left' waiting waiting' taken taken' (gained out out')
  pub room_is : length (gained out out') + room ≡ most

-- what a list gained grows as the list does
pub gained_more : (out mid new more : List ℕ) → mid ≡ out ++ gained out mid → new ≡ mid ++ more → gained out new ≡ gained out mid ++ more
gained_more out mid new more grows grown =
    ap (gained out) (grown ∙ ap (λ l. l ++ more) grows ∙ append_assoc out (gained out mid) more) ∙ gained-append out (gained out mid ++ more)

-- a byte was seen to wait, and then the first that wait were handed out
pub reached_more : (out mid new : List ℕ) (a b c c' : Option (List ℕ)) (u v w x : List ℕ) (m n k k' most room count : ℕ)
    → Reached out mid a b u v m n most room → Hands b c v w n k [] → count ≤ length w → count ≤ room
    → new ≡ mid ++ take count w → x ≡ drop count w → c' ≡ c → k' ≡ k
    → Reached out new a c' u x m k' most (room - count)
reached_more out mid new a b c c' u v w x m n k k' most room count so_far ready within fits grown rest same_left same_taken =
    let more : gained out new ≡ gained out mid ++ take count w = gained_more out mid new (take count w) so_far.grows grown in
    let first : Hands a c u w m k (gained out mid) = Hands-taken a b c c u v w w m n k k _ _ so_far.hands ready refl refl refl refl in
    let both : Hands a c u (drop count w) m k (gained out mid ++ take count w) = Hands-trans a c c u w (drop count w) m k k _ _ first (Hands-prefix c w k count) in
    let nothing : Hands c c (drop count w) (drop count w) k k [] = Hands-nil c (drop count w) k in
    record {
      grows = grown ∙ ap (λ l. l ++ take count w) so_far.grows ∙ append_assoc out (gained out mid) (take count w) ∙ ap (λ l. out ++ l) (sym more);
      hands = Hands-taken a c c c' u (drop count w) (drop count w) x m k k k' _ _ both nothing same_left rest same_taken more;
      room_is = omega (arith, so_far.room_is, ap length more, length-append (gained out mid) (take count w), length-take-le count w within);
    }

-- What was handed out is more than what waited, or nothing had to be read.
pub unread_more : {X : Type 0} (first mid read new : X) (a b : Option (List ℕ)) (u v : List ℕ) (m n k k' : ℕ) (given more : List ℕ)
    → Hands a b u v m n given → (length given ≤ length u → (mid ≡ first) × (n ≡ m)) → (0 < length v → (read ≡ mid) × (k ≡ n)) → new ≡ read → k' ≡ k
    → 0 < length more → length (given ++ more) ≤ length u → (new ≡ first) × (k' ≡ m)
unread_more first mid read new a b u v m n k k' given more hands before then same same_taken some short =
    let waits : 0 < length v = omega (arith, ap length hands.joined, length-append u hands.got, length-append given v, length-append given more) in
    let kept : (mid ≡ first) × (n ≡ m) = before (omega (arith, length-append given more)) in
    let unread : (read ≡ mid) × (k ≡ n) = then waits in
    (same ∙ unread.0 ∙ kept.0, same_taken ∙ unread.1 ∙ kept.1)
