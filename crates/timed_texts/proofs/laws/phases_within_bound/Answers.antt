use Rattle.timed_texts.proofs.Settled.{phases_within_bound}
use Rattle.timed_texts.proofs.laws.phases_within_bound.Goals as goal

pub returns : goal.returns
returns c = phases_within_bound c.times_within_bound.ensures c.pulses_on_wires.ensures.openings
