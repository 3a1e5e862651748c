-- The laws of counters.
use Rattle.workload_circuits.proofs.WellFounded.{counters_fit, counters_are_founded, counters_are_not_refused}
use Rattle.workload_circuits.proofs.laws.counters_are_founded.Goals as goal

pub returns-clause-fits : goal.returns-clause-fits
returns-clause-fits c = counters_fit

pub returns-clause-founded : goal.returns-clause-founded
returns-clause-founded c = counters_are_founded

pub returns-clause-not_refused : goal.returns-clause-not_refused
returns-clause-not_refused c = counters_are_not_refused c.one_verdict.ensures.founded
