use Rattle.cell_netlist.proofs.CallerLemmasOnRuns.{run_exists, run_rails, runs_agree}
use Rattle.cell_netlist.proofs.equations.equation_runs.Goals as goal

pub returns-clause-exists : goal.returns-clause-exists
returns-clause-exists c = run_exists

pub returns-clause-rails : goal.returns-clause-rails
returns-clause-rails c = run_rails

pub returns-clause-agree : goal.returns-clause-agree
returns-clause-agree c = runs_agree
