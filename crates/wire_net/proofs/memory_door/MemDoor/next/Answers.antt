use Rattle.std.proofs.Common.{List, [], ◌∷◌, ℕ, sym, ap, ◌∙◌}
use Rattle.std.proofs.lemmas.List.{map-append}
use Rattle.wire_net.specs.Keeping.{arrival_in, arrivals_in, bytes_in, items_in}
use Rattle.wire_net.proofs.memory_door.MemDoor.next.Goals as goal

pub returns : goal.returns
returns c = (
  arrival_in c.in-Some.next,
  arrivals_in c.pop_front.new.self.items,
  ap (λ s. s.waiting) (sym c.self.view_is) ∙ ap arrivals_in c.in-Some.ensures.items,
  c.in-Some.next.input_is,
  c.in-Some.next.output_is,
  rw (← c.self.view_is) (ap (λ (h : List (List ℕ)). record {
    waiting = arrivals_in c.pop_front.new.self.items;
    fails = c.self.inside.fails.items;
    accepts = c.self.inside.accepts;
    misses = 0;
    ended = c.self.inside.ended;
    asked = c.self.inside.asked;
    faults = c.self.inside.faults;
    handed = h;
    done = items_in c.self.inside.done.items;
  }) (ap bytes_in c.push_reserved.ensures.items ∙ map-append (λ v. v.items) c.self.inside.handed.items (c.in-Some.next.bytes ∷ []))),
)
