-- Logs of deliveries as plain lists.
use Rattle.std.specs.Prelude.{ℕ, List, map, ◌≤◌, ◌<◌, ◌^◌, length}
use Rattle.pulse_ids.specs.Ids.{WireId}

-- the wires in order, and how many there is room for
pub record PlainLog : Type 0 where
  pub wires : List ℕ
  pub room : ℕ

abbrev pub wire_number : WireId → ℕ
wire_number wire = wire.number

abbrev pub log_of : List WireId → ℕ → PlainLog
log_of wires room = record { wires = map wire_number wires; room = room }

-- there are no more wires than there is room for, and the room is there
pub record IsLog (log : PlainLog) (capacity : ℕ) : Type 0 where
  pub fits : length log.wires ≤ log.room
  pub room : log.room ≤ capacity
  pub small : log.room < 2 ^ 32
