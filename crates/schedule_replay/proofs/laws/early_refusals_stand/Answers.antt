use Rattle.schedule_replay.proofs.Showing.{early_stands}
use Rattle.schedule_replay.proofs.laws.early_refusals_stand.Goals as goal

pub returns : goal.returns
returns c = early_stands
