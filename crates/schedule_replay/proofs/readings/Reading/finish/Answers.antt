-- The verdict of a reading.
use Rattle.std.proofs.Common.{◌∙◌, sym}
use Rattle.schedule_replay.specs.PlainVectors.{PlainVectors}
use Rattle.schedule_replay.specs.VectorTexts.{judgement}
use Rattle.schedule_replay.proofs.Stopping.{verdict_refused, verdict_going, verdict_is}
use Rattle.schedule_replay.proofs.readings.Reading.finish.Goals as goal

pub returns-in-Some-clause-verdict : goal.returns-in-Some-clause-verdict
returns-in-Some-clause-verdict c = λ form text read. verdict_refused form text c.args.self read c.in-Some.refusal c.in-Some.is

pub returns-in-None-clause-verdict : goal.returns-in-None-clause-verdict
returns-in-None-clause-verdict c =
    λ form text read. verdict_is PlainVectors c.of_table.result (judgement form text) (verdict_going form text c.args.self read c.requires c.in-None.is ∙ sym c.of_table.ensures)
