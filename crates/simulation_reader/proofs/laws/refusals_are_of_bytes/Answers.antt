use Rattle.simulation_reader.proofs.OfBytes.{of_bytes}
use Rattle.simulation_reader.proofs.laws.refusals_are_of_bytes.Goals as goal

pub returns : goal.returns
returns c = of_bytes
