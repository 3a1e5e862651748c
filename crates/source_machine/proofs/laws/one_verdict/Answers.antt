use Rattle.source_machine.proofs.Refusals.{founded_is_not_refused, refusals_are_equal}
use Rattle.source_machine.proofs.Verdicts.{fits_is_judged}
use Rattle.source_machine.proofs.laws.one_verdict.Goals as goal

pub returns : goal.returns
returns c = record { judged = fits_is_judged; founded = founded_is_not_refused; at_most_one = refusals_are_equal }
