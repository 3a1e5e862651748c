-- Room for what the phases of a netlist deliver.
use Rattle.std.specs.Prelude.{◌≡◌, ◌≤◌, ℕ, Bool, List, [], length, map}
use Rattle.cell_netlist.specs.declared.lines.Rail.{Rail}
use Rattle.cell_netlist.specs.Netlists.{PlainNetlist, number_of_wires}
use Rattle.pulse_world.specs.Worlds.{PlainWorld}
use Rattle.schedule_replay.specs.Logs.{wire_number}
use Rattle.schedule_replay.specs.Orders.{Cycle}
use Rattle.pulse_traces.specs.declared.rooms.PhaseRoom.{PhaseRoom}
use Rattle.pulse_traces.specs.declared.cycles.CycleRoom.{CycleRoom}
use Rattle.pulse_traces.specs.declared.scripts.AskedCycle.{AskedCycle}
use Rattle.pulse_traces.specs.CycleCounts.{pulses_in}
use Rattle.pulse_traces.specs.SimulationTexts.{counts_in, digits_in}
use Rattle.pulse_traces.specs.Pieces.{cycle_of_parts}

-- there is a character for each output rail
pub record HasDigits (net : PlainNetlist) (rails : ℕ) (digits : List ℕ) : Type 0 where
  pub rails_are : rails ≡ length net.output_rails
  pub each_rail : length digits ≡ rails

-- and room for each wire
pub record HasRoom (net : PlainNetlist) (room : PhaseRoom) : Type 0 where
  pub wires : number_of_wires net ≤ room.log.room
  pub digits : HasDigits net room.rails room.digits.items

-- in both phases
pub record HasRooms (net : PlainNetlist) (room : CycleRoom) : Type 0 where
  pub excite : HasRoom net room.excite
  pub relax : HasRoom net room.relax

-- nothing was delivered in the phase
abbrev pub IsFresh : PlainWorld → Type 0
IsFresh world = world.counted ≡ counts_in world.net.output_rails []

-- the cycle whose deliveries stand in the room
abbrev pub cycle_in : List Bool → CycleRoom → Cycle
cycle_in vector room = record { vector = vector; excite = room.excite.log.wires; relax = room.relax.log.wires }

-- and its characters, and how many output rails pulsed in its excite
pub record ShowsCycle (rails : List Rail) (room : CycleRoom) : Type 0 where
  pub excite : room.excite.digits.items ≡ digits_in rails room.excite.log.wires
  pub relax : room.relax.digits.items ≡ digits_in rails room.relax.log.wires
  pub pulses : room.excite.pulses ≡ pulses_in rails room.excite.log.wires

-- the text of the cycle in the room
abbrev pub text_in : Bool → ℕ → CycleRoom → List ℕ
text_in trace number room =
    cycle_of_parts trace number room.excite.log.wires room.relax.log.wires room.excite.digits.items room.relax.digits.items

-- the cycle that is asked for
abbrev pub cycle_asked : AskedCycle → Cycle
cycle_asked asked = record { vector = asked.vector.now; excite = map wire_number asked.excite.now; relax = map wire_number asked.relax.now }

-- its characters stand in the room
pub record ShowsScript (rails : List Rail) (asked : AskedCycle) (room : CycleRoom) : Type 0 where
  pub excite : room.excite.digits.items ≡ digits_in rails (map wire_number asked.excite.now)
  pub relax : room.relax.digits.items ≡ digits_in rails (map wire_number asked.relax.now)

-- its text by them
abbrev pub text_asked : Bool → ℕ → AskedCycle → CycleRoom → List ℕ
text_asked trace number asked room =
    cycle_of_parts trace number (map wire_number asked.excite.now) (map wire_number asked.relax.now) room.excite.digits.items room.relax.digits.items
