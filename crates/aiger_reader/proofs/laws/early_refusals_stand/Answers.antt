-- A refusal that is shown early stands.
use Rattle.aiger_reader.proofs.Standing.{early_stands}
use Rattle.aiger_reader.proofs.laws.early_refusals_stand.Goals as goal

pub returns : goal.returns
returns c = early_stands
