use Rattle.timed_texts.proofs.OneTiming.{one_timing, one_text}
use Rattle.timed_texts.proofs.laws.one_timing.Goals as goal

pub returns-clause-timing : goal.returns-clause-timing
returns-clause-timing c = one_timing c.one_timed_phase.ensures c.one_bound.ensures

pub returns-clause-text : goal.returns-clause-text
returns-clause-text c = one_text c.one_timed_phase.ensures c.one_bound.ensures
