-- When a line is refused.
use Rattle.blif_reader.specs.Laws.{RefusalsAreTold}
use Rattle.blif_reader.proofs.FirstRefusals.{first_told, line_told}
use Rattle.blif_reader.proofs.TextVerdicts.{early_is}
use Rattle.blif_reader.proofs.laws.refusals_are_told.Goals as goal

are_told : RefusalsAreTold
are_told = record {
  line = λ unset lines line h. line_told unset lines line h;
  first = λ unset lines. first_told unset lines;
  early = λ unset text. early_is unset text;
}

pub returns : goal.returns
returns c = are_told
