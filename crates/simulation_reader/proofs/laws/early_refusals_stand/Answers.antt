use Rattle.simulation_reader.proofs.Inputs.{early-stands}
use Rattle.simulation_reader.proofs.laws.early_refusals_stand.Goals as goal

pub returns : goal.returns
returns c = early-stands c.early_refusals_stand.ensures c.early_refusals_stand-2.ensures
