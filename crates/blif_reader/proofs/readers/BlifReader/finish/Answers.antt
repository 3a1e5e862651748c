-- A reader that has answered a refusal answers it again.
use Rattle.std.proofs.Common.{sym, subst}
use Rattle.blif_reader.specs.declared.readings.Reading.{Reading}
use Rattle.blif_reader.specs.Readings.{HasAnswered}
use Rattle.blif_reader.proofs.readers.BlifReader.finish.Goals as goal

pub returns-clause-again : goal.returns-clause-again
returns-clause-again c =
    λ refusal h. c.finished.ensures.again refusal (subst (λ (r : Reading). HasAnswered r refusal) (sym c.self.view_is) h)
