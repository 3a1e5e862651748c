-- The answer of a reading.
use Rattle.aiger_reader.proofs.Early.{answers_few, answers_stopped, answers_going}
use Rattle.aiger_reader.proofs.readings.Reading.answer.Goals as goal

pub returns-then-self-lt4-clause-early : goal.returns-then-self-lt4-clause-early
returns-then-self-lt4-clause-early c = λ unset text read. answers_few unset text c.args.self.now c.if-self-lt4.true read

pub returns-in-Some-clause-early : goal.returns-in-Some-clause-early
returns-in-Some-clause-early c =
    rw c.refusal.ensures (λ unset text read. answers_stopped (Unit {0}) unset text c.args.self.now c.in-Some.stop c.if-self-lt4.false c.in-Some.is read)

pub returns-in-None-clause-early : goal.returns-in-None-clause-early
returns-in-None-clause-early c = λ unset text read. answers_going unset text c.args.self.now c.if-self-lt4.false c.in-None.is read
