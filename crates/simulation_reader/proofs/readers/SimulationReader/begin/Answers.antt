-- The form of the vectors is that of the netlist's text.
use Rattle.std.proofs.Common.{◌∙◌, [], ap, subst}
use Rattle.std.specs.Prelude.{unwrap_or}
use Rattle.schedule_replay.specs.Readings.{IsReading}
use Rattle.simulation_reader.proofs.Feeding.{form-is}
use Rattle.simulation_reader.proofs.Inputs.{begun-count}
use Rattle.simulation_reader.proofs.readers.SimulationReader.begin.Goals as goal

pub returns : goal.returns
returns c = λ text begun.
    let width = c.unwrap_or-inputs.ensures ∙ ap (λ o. unwrap_or o 0) (c.inputs.ensures.inputs text begun.read begun.goes_on) in
    let count = c.lines.ensures.lines text begun.read begun.goes_on ∙ begun-count text _ begun in
    subst (λ form. IsReading form [] c.new.result) (form-is c.args.self.now.scripted text _ _ width count) c.new.ensures
