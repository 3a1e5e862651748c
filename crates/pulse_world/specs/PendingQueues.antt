-- Queues of pending wires.
use Rattle.std.specs.Prelude.{◌≡◌, ◌≤◌, ◌<◌, ◌^◌, ◌++◌, ◌↔◌, ℕ, Bool, true, Some, List, map, length, slice_get}
use Rattle.pulse_ids.specs.Ids.{WireId}
use Rattle.pulse_ids.specs.Lists.{IsIn, occurrences}

-- the wires of a queue in order, and a bound that all wires are below
pub record PlainQueue : Type 0 where
  pub wires : List ℕ
  pub bound : ℕ

-- the number of a wire
abbrev pub number_in : WireId → ℕ
number_in wire = wire.number

-- a queue of these wires
abbrev pub queue_of : List WireId → ℕ → PlainQueue
queue_of wires bound = record { wires = map number_in wires; bound = bound }

-- each wire of the queue has its place in a table
abbrev pub ArePlaced : PlainQueue → List ℕ → Type 0
ArePlaced queue places = (place wire : ℕ) → slice_get queue.wires place ≡ Some wire → slice_get places wire ≡ Some place

-- a wire's bit is 1 exactly where the wire stands in the queue
abbrev pub AreMarked : PlainQueue → List Bool → Type 0
AreMarked queue marks = (wire : ℕ) → (slice_get marks wire ≡ Some true) ↔ IsIn wire queue.wires

-- a queue with its table of places, a bit for each wire below the bound, and the room of its list, which is enough for all
-- of them
pub record IsQueueOf (queue : PlainQueue) (places : List ℕ) (marks : List Bool) (room : ℕ) : Type 0 where
  pub placed : ArePlaced queue places
  pub marked : AreMarked queue marks
  pub bound : queue.bound ≡ length places
  pub one_mark : queue.bound ≡ length marks
  pub fits : queue.bound ≤ room
  pub small : queue.bound < 2 ^ 32

-- the wires can be put at the end of the queue: none stands twice then, and all are below the bound
pub record HasRoomFor (queue : PlainQueue) (more : List ℕ) : Type 0 where
  pub once : (wire : ℕ) → occurrences wire (queue.wires ++ more) ≤ 1
  pub below : (wire : ℕ) → IsIn wire more → wire < queue.bound
