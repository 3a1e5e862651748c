-- A refusal that is shown early stands.
use Rattle.std.proofs.Common.{◌++◌}
use Rattle.blif_reader.specs.Laws.{EarlyStands}
use Rattle.blif_reader.proofs.Limits.{early_stays}
use Rattle.blif_reader.proofs.Judgements.{early_judged}
use Rattle.blif_reader.proofs.laws.early_refusals_stand.Goals as goal

early_stands : EarlyStands
early_stands = record {
  shown = λ unset text more refusal h. early_stays unset text more refusal h;
  judged = λ unset text more refusal h. early_judged unset (text ++ more) refusal (early_stays unset text more refusal h);
}

pub returns : goal.returns
returns c = early_stands
