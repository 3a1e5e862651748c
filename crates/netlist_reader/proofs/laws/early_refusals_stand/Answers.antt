-- A refusal that is shown early stands.
use Rattle.std.proofs.Common.{◌++◌}
use Rattle.netlist_reader.proofs.Texts.{shown_stays, shown_judged}
use Rattle.netlist_reader.proofs.laws.early_refusals_stand.Goals as goal

pub returns : goal.returns
returns c = record {
  shown = shown_stays;
  judged = λ text more refusal h. shown_judged (text ++ more) refusal (shown_stays text more refusal h);
}
