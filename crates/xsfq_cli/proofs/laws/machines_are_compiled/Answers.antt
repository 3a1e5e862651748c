-- The headline by the laws of the table.
use Rattle.xsfq_cli.proofs.HeadlineLaws.{done_law, machine_law}
use Rattle.xsfq_cli.proofs.laws.machines_are_compiled.Goals as goal

pub returns-clause-done : goal.returns-clause-done
returns-clause-done c = done_law c.one_judgement.ensures.of_bytes

pub returns-clause-machine : goal.returns-clause-machine
returns-clause-machine c = machine_law c.one_judgement.ensures.verdict c.each_outcome_has_its_cause.ensures.accepted
