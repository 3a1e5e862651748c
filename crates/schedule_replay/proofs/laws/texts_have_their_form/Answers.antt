use Rattle.schedule_replay.proofs.InForm.{texts-in-form}
use Rattle.schedule_replay.proofs.laws.texts_have_their_form.Goals as goal

pub returns : goal.returns
returns c = texts-in-form
