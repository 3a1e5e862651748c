use Rattle.std.proofs.Common.{◌≡◌, ◌++◌, drop}
use Rattle.cell_netlist.specs.World.{rail_pulses}
use Rattle.pulse_world.specs.PendingQueues.{HasRoomFor}
use Rattle.pulse_world.proofs.opening.pulse_rails.Given as goal

abbrev pub invariant-loop-number : goal.invariant-loop-number
invariant-loop-number l = HasRoomFor l.pending (rail_pulses l.phase l.vector (drop l.number l.rails))
    × (l.pending.bound ≡ l.fn.pending.bound)
    × (l.pending.wires ++ rail_pulses l.phase l.vector (drop l.number l.rails) ≡ l.fn.pending.wires ++ rail_pulses l.phase l.vector l.rails)
