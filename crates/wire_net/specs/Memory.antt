-- Doors and nets in memory: which connections they give, and which of their calls fail.
use Rattle.std.specs.Prelude.{◌≡◌, ◌+◌, ◌*◌, ◌-◌, ◌^◌, ℕ, Bool, true, false, List, [], ◌∷◌, ◌++◌, Contains, Some, filter, map, slice_get}
use Rattle.std.specs.declared.option.Option.{Option}
use Rattle.wire_io.specs.declared.ends.Wire.{Wire}
use Rattle.wire_io.specs.declared.ends.Wire.TheVariants.{Imap, Jmap, Policy}
use Rattle.wire_io.specs.Memory.{MemoryInput, MemoryOutput, next_number}
use Rattle.wire_net.specs.declared.door.Accepted.{Accepted}
use Rattle.wire_net.specs.declared.door.Accepted.TheVariants.{Connected, Stopped, Failed}
use Rattle.wire_net.specs.Told.{Item, Told}

-- a connection to come: the bytes that its client sends, and the room for bytes to the client
pub record Arrival : Type 0 where
  pub input : List ℕ
  pub room : ℕ

-- the end that gives these bytes, with no read made yet
abbrev pub fresh_input : List ℕ → MemoryInput
fresh_input bytes = record {
  left = bytes;
  piece = 2 ^ 64 - 1;
  fails = [];
  reads = 0;
  faults = 0;
}

-- the end that takes bytes up to this room, with no write made yet
abbrev pub fresh_output : ℕ → MemoryOutput
fresh_output room = record {
  written = [];
  piece = 2 ^ 64 - 1;
  room = room;
  fails = [];
  writes = 0;
  faults = 0;
}

-- a door: the connections to come, the numbers of the accepts that fail, how many accepts were
-- made, and what each door shows
pub record MemoryDoor : Type 0 where
  pub waiting : List Arrival
  pub fails : List ℕ
  pub accepts : ℕ
  pub misses : ℕ
  pub ended : Bool
  pub asked : Bool
  pub faults : ℕ
  pub handed : List (List ℕ)
  pub done : List Item

-- a door as it was opened, with these connections to come
abbrev pub opened : List Arrival → List ℕ → MemoryDoor
opened waiting fails = record {
  waiting = waiting;
  fails = fails;
  accepts = 0;
  misses = 0;
  ended = false;
  asked = false;
  faults = 0;
  handed = [];
  done = [];
}

abbrev pub told_of : MemoryDoor → Option Told
told_of door = Some (record { handed = door.handed; done = door.done })

-- a connection that was given back by these ends
abbrev pub item_of : MemoryInput → MemoryOutput → Item
item_of input output = record {
  left = Some input.left;
  written = Some output.written;
  read_faults = input.faults;
  write_faults = output.faults;
}

-- the door gives the next connection, or none is to come and it stops
abbrev pub Gives : MemoryDoor → Accepted MemoryInput MemoryOutput → MemoryDoor → Type 0
Gives door (Connected input output) after = (next : Arrival) × (later : List Arrival)
    × (door.waiting ≡ next ∷ later)
    × (input ≡ fresh_input next.input) × (output ≡ fresh_output next.room)
    × (after ≡ record door {
      waiting = later;
      misses = 0;
      handed = door.handed ++ next.input ∷ [];
    })
Gives door Stopped after = (door.waiting ≡ [])
    × (after ≡ record door { misses = 0; ended = true })
Gives door Failed after = ⊥

-- the next accept is among those that fail
abbrev pub FailsAccept : MemoryDoor → Type 0
FailsAccept door = Contains door.fails (next_number door.accepts)

-- An accept gives the next connection, or fails as it was chosen to. If any door of the net was
-- asked to stop, or no connection is to come, it stops.
abbrev pub Accepts : MemoryDoor → Accepted MemoryInput MemoryOutput → MemoryDoor → Type 0
Accepts door (Connected input output) after = (door.asked ≡ false) × ¬ FailsAccept door
    × Gives (record door { accepts = next_number door.accepts }) (Connected input output) after
Accepts door Stopped after = after ≡ record door {
  accepts = next_number door.accepts;
  misses = 0;
  ended = true;
}
Accepts door Failed after = (door.asked ≡ false) × FailsAccept door × (after ≡ record door {
  accepts = next_number door.accepts;
  misses = door.misses + 1;
  faults = next_number door.faults;
})

-- these bytes were written to the connection that was given back at this place
abbrev pub IsWritten : List Item → (place : ℕ) → List ℕ → Type 0
IsWritten done place bytes = (item : Item) × (slice_get done place ≡ Some item)
    × (item.written ≡ Some bytes)

-- a connection to come to a net: its wire, the bytes that its client sends, and the room for bytes
-- to the client
pub record Offer : Type 0 where
  pub wire : Wire
  pub arrival : Arrival

abbrev pub is_same : Wire → Wire → Bool
is_same Imap Imap = true
is_same Jmap Jmap = true
is_same Policy Policy = true
is_same wire other = false

abbrev pub is_for : Wire → Offer → Bool
is_for wire offer = is_same wire offer.wire

abbrev pub arrival_of : Offer → Arrival
arrival_of offer = offer.arrival

-- the connections of a wire
abbrev pub arrivals : Wire → List Offer → List Arrival
arrivals wire offers = map arrival_of (filter (is_for wire) offers)

-- of so many doors the door of this number takes these connections of all: those at the places
-- `number`, `number + doors`, `number + 2 * doors` and so on
abbrev pub IsShare : (doors number : ℕ) → (all mine : List Arrival) → Type 0
IsShare doors number all mine = (k : ℕ) → slice_get mine k ≡ slice_get all (number + k * doors)

-- a door as a net opens it, which takes its share of the connections
pub record IsOpened (doors number : ℕ) (all : List Arrival) (fails : List ℕ)
    (door : MemoryDoor) : Type 0 where
  pub waiting : List Arrival
  pub share : IsShare doors number all waiting
  pub door_is : door ≡ opened waiting fails

-- each of these doors takes its share
abbrev pub AreOpened : (doors : ℕ) → List Arrival → List ℕ → List MemoryDoor → Type 0
AreOpened doors all fails made = (number : ℕ) (door : MemoryDoor)
    → slice_get made number ≡ Some door → IsOpened doors number all fails door

-- a net: the connections to come, the numbers of the accepts that fail, whether it was asked to
-- open doors before, and what each net shows
pub record MemoryNet : Type 0 where
  pub offers : List Offer
  pub fails : List ℕ
  pub listened : Bool
  pub out : ℕ
  pub retired : List MemoryDoor
  pub faults : ℕ

-- the next `listen` fails: 0 is among the numbers that fail, and this is the first one
abbrev pub FailsListen : MemoryNet → Type 0
FailsListen net = (net.listened ≡ false) × Contains net.fails 0
