-- The answer of a reading.
use Rattle.schedule_replay.proofs.Stopping.{answers_refused, answers_going}
use Rattle.schedule_replay.proofs.readings.Reading.answer.Goals as goal

pub returns-in-Some-clause-early : goal.returns-in-Some-clause-early
returns-in-Some-clause-early c = λ form text read. answers_refused form text c.args.self.now read (Unit {0}) c.in-Some.refusal c.in-Some.is

pub returns-in-None-clause-early : goal.returns-in-None-clause-early
returns-in-None-clause-early c = λ form text read. answers_going form text c.args.self.now read c.requires c.in-None.is
