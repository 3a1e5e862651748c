-- What a text is judged to be.
use Rattle.blif_reader.specs.Laws.{VerdictsAreTold}
use Rattle.blif_reader.proofs.TextVerdicts.{whole_told, judgement_is}
use Rattle.blif_reader.proofs.laws.verdicts_are_told.Goals as goal

are_told : VerdictsAreTold
are_told = record { whole = λ unset lines h. whole_told unset lines h; judged = λ unset text. judgement_is unset text }

pub returns : goal.returns
returns c = are_told
