use Rattle.timed_world.proofs.SmallBounds.{bounds_are_small}
use Rattle.timed_world.proofs.laws.bounds_are_small.Goals as goal

pub returns : goal.returns
returns c = bounds_are_small
