-- The text first, and then the rules.
use Rattle.xsfq_cli.proofs.InputReading.{input_is_early}
use Rattle.xsfq_cli.proofs.SimulationLaws.{input_checked}
use Rattle.xsfq_cli.proofs.simulation_inputs.read_form.Goals as goal

pub read_whole-requires-clause-early : goal.read_whole-requires-clause-early
read_whole-requires-clause-early g c = input_is_early c.early_refusals_stand.ensures g.F.VectorForm.scripted

pub returns-in-Ok : goal.returns-in-Ok
returns-in-Ok g c = input_checked g.F.VectorForm.scripted _ c.in-Ok.read c.sound_input.result c.in-Ok.ensures c.sound_input.ensures
