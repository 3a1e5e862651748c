-- A reader that has answered a refusal answers it again.
use Rattle.std.proofs.Common.{◌++◌, sym, subst}
use Rattle.blif_reader.specs.declared.readings.Reading.{Reading}
use Rattle.blif_reader.specs.Readings.{IsReading, HasAnswered}
use Rattle.blif_reader.proofs.readers.BlifReader.feed.Goals as goal

pub returns-clause-again : goal.returns-clause-again
returns-clause-again c =
    λ refusal h. c.answer.ensures.again refusal (c.take_more.ensures.again refusal (subst (λ (r : Reading). HasAnswered r refusal) (sym c.self.view_is) h))

pub returns-clause-early : goal.returns-clause-early
returns-clause-early c = λ unset text read.
    c.answer.ensures.early unset (text ++ c.args.piece.now) (c.take_more.ensures.read unset text (subst (λ (r : Reading). IsReading unset text r) (sym c.self.view_is) read))
