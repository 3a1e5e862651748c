use Rattle.pulse_world.proofs.QueueRoom.{counts-zero}
use Rattle.pulse_world.proofs.rails.RailCounts.new.Goals as goal

pub returns : goal.returns
returns c = rw c.in_ok-pulsed.ensures (counts-zero c.args.rails)
