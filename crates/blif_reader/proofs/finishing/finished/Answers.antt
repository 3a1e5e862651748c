-- The verdict of a source that has ended.
use Rattle.std.proofs.Common.{sym, subst, Result, Ok, Err}
use Rattle.std.proofs.lemmas.Result.{err_from_is_err_and, IfOk-weaker, IfErr-weaker}
use Rattle.blif_reader.specs.declared.refusals.BlifRefusal.{BlifRefusal}
use Rattle.blif_reader.specs.Sources.{PlainSource, IsVerdictOf}
use Rattle.blif_reader.specs.Readings.{OrMemory}
use Rattle.blif_reader.proofs.Judgements.{stopped_is, last_is, whole_is, going}
use Rattle.blif_reader.proofs.finishing.finished.Goals as goal

pub returns-in-Some-clause-refusal : goal.returns-in-Some-clause-refusal
returns-in-Some-clause-refusal c = λ unset text read. stopped_is unset text c.args.reading c.in-Some.refusal c.in-Some.is read

pub returns-in_err-read_last-clause-refusal : goal.returns-in_err-read_last-clause-refusal
returns-in_err-read_last-clause-refusal c =
    let p = err_from_is_err_and c.from_residual.result c.from_residual.ensures.1 in
    rw (p.1, p.2) (λ unset text read. last_is unset text c.args.reading c.in_err-read_last.field-0.0 (going unset text c.args.reading c.in_default.is read) c.in_err-read_last.ensures.err)

pub returns-clause-machine : goal.returns-clause-machine
returns-clause-machine c =
    IfOk-weaker c.read_whole.result _ _ (λ machine h. λ unset text read.
    subst (λ (j : Result PlainSource BlifRefusal). IsVerdictOf j (Ok machine))
    (sym (whole_is unset text c.args.reading c.read_last.new.state (going unset text c.args.reading c.in_default.is read) c.in_ok-read_last.ensures.ok)) h) c.read_whole.ensures.machine

pub returns-clause-refusal : goal.returns-clause-refusal
returns-clause-refusal c =
    IfErr-weaker c.read_whole.result _ _ (λ refusal h. λ unset text read.
    subst (λ (j : Result PlainSource BlifRefusal). OrMemory refusal (IsVerdictOf j (Err refusal)))
    (sym (whole_is unset text c.args.reading c.read_last.new.state (going unset text c.args.reading c.in_default.is read) c.in_ok-read_last.ensures.ok)) h) c.read_whole.ensures.refusal
