use Rattle.simulation_reader.proofs.Long.{long-shows}
use Rattle.simulation_reader.proofs.laws.long_inputs_are_refused.Goals as goal

pub returns : goal.returns
returns c = long-shows
