-- A reader that has answered a refusal answers it again.
use Rattle.std.proofs.Common.{sym, subst}
use Rattle.aiger_reader.specs.declared.readings.Reading.{Reading}
use Rattle.aiger_reader.specs.Readings.{HasAnswered}
use Rattle.aiger_reader.proofs.readers.AigerReader.feed.Goals as goal

pub returns-clause-again : goal.returns-clause-again
returns-clause-again c =
    λ refusal h. c.answer.ensures.again refusal (c.take_more.ensures.again refusal (subst (λ (r : Reading). HasAnswered r refusal) (sym c.self.view_is) h))
