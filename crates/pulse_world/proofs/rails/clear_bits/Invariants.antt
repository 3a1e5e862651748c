use Rattle.std.proofs.Common.{◌≡◌}
use Rattle.pulse_world.proofs.QueueRoom.{cleared_bits}
use Rattle.pulse_world.proofs.rails.clear_bits.Given as goal

abbrev pub invariant-loop-number : goal.invariant-loop-number
invariant-loop-number l = l.bits ≡ cleared_bits l.number l.fn.bits
