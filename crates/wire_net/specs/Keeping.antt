-- What doors and nets in memory keep, as contracts see it.
use Rattle.std.specs.Prelude.{ℕ, List, Vec, map}
use Rattle.wire_net.specs.declared.waiting.Waiting.{Waiting}
use Rattle.wire_net.specs.declared.memory_door.Finished.{Finished}
use Rattle.wire_net.specs.declared.waiting.MemConnection.{MemConnection}
use Rattle.wire_net.specs.Told.{Item}
use Rattle.wire_net.specs.Memory.{Arrival, Offer, item_of}

abbrev pub arrival_in : Waiting → Arrival
arrival_in waiting = record { input = waiting.bytes.items; room = waiting.room }

abbrev pub arrivals_in : List Waiting → List Arrival
arrivals_in waiting = map arrival_in waiting

abbrev pub bytes_in : {A : Type 0} → List (Vec ℕ A) → List (List ℕ)
bytes_in texts = map (λ text. text.items) texts

abbrev pub item_in : Finished → Item
item_in finished = item_of finished.input finished.output

abbrev pub items_in : List Finished → List Item
items_in done = map item_in done

abbrev pub offer_in : MemConnection → Offer
offer_in connection = record {
  wire = connection.wire;
  arrival = record { input = connection.input.items; room = connection.room };
}

abbrev pub offers_in : List MemConnection → List Offer
offers_in connections = map offer_in connections
