use Rattle.pulse_world.proofs.Reactions.{split-reacted}
use Rattle.pulse_world.proofs.reacting.split_at.Goals as goal

pub returns : goal.returns
returns c = split-reacted c.args.cell_states.now c.args.id.number c.args.id c.cell.result c.cell.ensures c.requires c.in-Split.from c.in-Split.left c.in-Split.right c.in-Split.is
