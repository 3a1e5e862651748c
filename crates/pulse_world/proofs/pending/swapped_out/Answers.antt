use Rattle.pulse_world.proofs.QueuePlaces.{put-last}
use Rattle.pulse_world.proofs.pending.swapped_out.Goals as goal

pub returns-clause-rest : goal.returns-clause-rest
returns-clause-rest c = put-last c.args.wires.now.items c.take_last-last.new.self.items c.take_last-last.result c.args.place c.take_last-last.ensures.items
