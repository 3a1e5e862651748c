-- The answer of a reading.
use Rattle.std.proofs.Common.{sym, subst, Err}
use Rattle.blif_reader.specs.declared.refusals.BlifRefusal.{BlifRefusal}
use Rattle.blif_reader.specs.Sources.{early}
use Rattle.blif_reader.specs.Readings.{Answers}
use Rattle.blif_reader.proofs.Limits.{answers, answers_going, stands}
use Rattle.blif_reader.proofs.readings.Reading.answer.Goals as goal

pub returns-in_default-clause-early : goal.returns-in_default-clause-early
returns-in_default-clause-early c = λ unset text read. answers_going unset text c.args.self.now c.in_default.is read

pub returns-in-Ok-clause-early : goal.returns-in-Ok-clause-early
returns-in-Ok-clause-early c =
    λ unset text read. subst (λ (r : BlifRefusal). Answers {A = Unit {0}} (Err r) (early unset text)) (sym c.in-Ok.ensures.ok)
    (answers (Unit {0}) c.in-Some.refusal (early unset text) (stands unset text c.args.self.now c.in-Some.refusal c.in-Some.is read))
