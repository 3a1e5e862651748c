use Rattle.simulation_reader.proofs.Inputs.{inputs-in-form}
use Rattle.simulation_reader.proofs.laws.inputs_have_their_form.Goals as goal

pub returns : goal.returns
returns c = inputs-in-form c.texts_have_their_form.ensures
