use Rattle.source_machine.proofs.Uniqueness.{runs_are_equal, same_valuation}
use Rattle.source_machine.proofs.Existence.{run_exists, some_valuation}
use Rattle.source_machine.proofs.laws.one_run.Goals as goal

pub returns : goal.returns
returns c = record {
  one_valuation = λ machine fits founded state vector deep wide. some_valuation machine fits founded state vector wide deep;
  same_valuation = λ machine fits founded. same_valuation machine founded;
  at_least_one = run_exists;
  at_most_one = runs_are_equal;
}
