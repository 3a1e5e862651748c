-- The answer to a piece.
use Rattle.std.proofs.Common.{◌++◌, sym, subst}
use Rattle.schedule_replay.specs.declared.readings.Reading.{Reading}
use Rattle.schedule_replay.specs.Readings.{IsReading}
use Rattle.schedule_replay.proofs.readers.VectorReader.feed.Goals as goal

pub returns-clause-early : goal.returns-clause-early
returns-clause-early c =
    λ form text read. c.answer.ensures.early form (text ++ c.args.piece.now) (c.take_more.ensures.read form text (subst (λ (r : Reading). IsReading form text r) (sym c.self.view_is) read))
