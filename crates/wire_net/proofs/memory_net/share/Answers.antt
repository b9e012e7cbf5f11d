use Rattle.std.proofs.Common.{rules, ◌≡◌, ◌+◌, ◌-◌, ℕ, List, take, true, [], ◌∷◌, ◌++◌, sym, ap, ◌∙◌, subst, arith}
use Rattle.std.proofs.lemmas.List.{map-append, take_all}
use Rattle.wire_net.specs.Memory.{Arrival, is_same, arrivals, IsShare}
use Rattle.wire_net.specs.Keeping.{arrival_in, offer_in, arrivals_in, offers_in}
use Rattle.wire_net.proofs.Shares.{Counted, counted_pass, counted_take, counted_share, arrivals_more}
use Rattle.wire_net.proofs.memory_net.share.Goals as goal

pub loop-connection-preserved-then-left-gt0 : goal.loop-connection-preserved-then-left-gt0
loop-connection-preserved-then-left-gt0 c =
    let i : ℕ = c.loop-connection.connection-index in
    let mine : List Arrival = arrivals_in c.loop-connection.mine.items in
    let one : is_same c.args.wire c.connection-item.result.wire ≡ true = search rules in
    let more : arrivals c.args.wire (offers_in (take (i + 1) c.args.connections.now)) ≡ arrivals c.args.wire (offers_in (take i c.args.connections.now)) ++ (offer_in c.connection-item.result).arrival ∷ [] = arrivals_more c.args.wire c.args.connections.now i c.connection-item.result c.loop-connection-test.true c.connection-item.is one in
    subst (λ (l : List Arrival). Counted c.args.doors c.args.number (c.loop-connection.left - 1) l mine) (sym more) (counted_pass _ _ _ _ _ c.loop-connection.invariant (offer_in c.connection-item.result).arrival (omega (arith, c.if-left-gt0.true)))

pub loop-connection-preserved : goal.loop-connection-preserved
loop-connection-preserved c =
    let i : ℕ = c.loop-connection.connection-index in
    let mine : List Arrival = arrivals_in c.loop-connection.mine.items in
    let x : Arrival = (offer_in c.connection-item.result).arrival in
    let one : is_same c.args.wire c.connection-item.result.wire ≡ true = search rules in
    let more : arrivals c.args.wire (offers_in (take (i + 1) c.args.connections.now)) ≡ arrivals c.args.wire (offers_in (take i c.args.connections.now)) ++ x ∷ [] = arrivals_more c.args.wire c.args.connections.now i c.connection-item.result c.loop-connection-test.true c.connection-item.is one in
    let taken : arrival_in c.in_ok-of.field-0 ≡ x = c.in_ok-of.ensures in
    let pushed : arrivals_in c.push_back.new.self.items ≡ mine ++ x ∷ [] = ap arrivals_in c.in_ok-push_back.ensures.items ∙ map-append arrival_in c.loop-connection.mine.items (c.in_ok-of.field-0 ∷ []) ∙ ap (λ (a : Arrival). mine ++ a ∷ []) taken in
    let next : Counted c.args.doors c.args.number (c.args.doors - 1) (arrivals c.args.wire (offers_in (take i c.args.connections.now)) ++ x ∷ []) (mine ++ x ∷ []) = counted_take _ _ _ _ _ c.loop-connection.invariant x (omega (arith, c.if-left-gt0.false)) in
    subst (λ (l : List Arrival). Counted c.args.doors c.args.number (c.args.doors - 1) l (arrivals_in c.push_back.new.self.items)) (sym more) (subst (λ (l : List Arrival). Counted c.args.doors c.args.number (c.args.doors - 1) (arrivals c.args.wire (offers_in (take i c.args.connections.now)) ++ x ∷ []) l) (sym pushed) next)

pub returns : goal.returns
returns c =
    let all : take c.loop-connection.connection-index c.args.connections.now ≡ c.args.connections.now = take_all _ _ c.loop-connection-test.false in
    subst (λ l. IsShare c.args.doors c.args.number (arrivals c.args.wire (offers_in l)) (arrivals_in c.loop-connection.mine.items)) all (counted_share _ _ _ _ _ c.loop-connection.invariant)
