use Rattle.std.proofs.Common.{rules, ◌≡◌, length, ℕ, List, sym, ap, ◌∙◌, subst}
use Rattle.wire_net.specs.Memory.{Arrival, MemoryDoor, arrivals, opened, IsShare, IsOpened, AreOpened}
use Rattle.wire_net.specs.Keeping.{arrivals_in, offers_in}
use Rattle.wire_net.proofs.Shares.{opened_more}
use Rattle.wire_net.proofs.memory_net.open_doors.Goals as goal

pub loop-number-preserved : goal.loop-number-preserved
loop-number-preserved c =
    let all : List Arrival = arrivals c.args.wire (offers_in c.args.connections.now) in
    let made : List MemoryDoor = c.loop-number.made.items in
    let mine : List Arrival = arrivals_in c.in_ok-mine.mine.items in
    let fails : c.in_ok-to_vec.field-0.items ≡ c.args.fails.now = search rules in
    let number : length made ≡ c.loop-number.number = c.loop-number.invariant.count in
    let share : IsShare c.args.doors (length made) all mine = subst (λ (n : ℕ). IsShare c.args.doors n all mine) (sym number) c.in_ok-mine.ensures in
    let is : IsOpened c.args.doors (length made) all c.args.fails.now c.in_ok-new.field-0 = record {
      waiting = mine;
      share = share;
      door_is = c.in_ok-new.ensures ∙ ap (opened mine) fails;
    } in
    record {
      count = search rules;
      room = search rules;
      opened = subst (λ (l : List MemoryDoor). AreOpened c.args.doors all c.args.fails.now l) (sym c.push_reserved.ensures.items) (opened_more c.args.doors all c.args.fails.now made c.in_ok-new.field-0 c.loop-number.invariant.opened is);
    }
