-- The verdict of a source that has ended.
use Rattle.std.proofs.Common.{subst, Ok, Err}
use Rattle.std.proofs.lemmas.Result.{err_from_is_err_and, IfOk-weaker, IfErr-weaker}
use Rattle.source_machine.specs.Machines.{machine_of}
use Rattle.aiger_reader.specs.Sources.{judgement, IsVerdictOf}
use Rattle.aiger_reader.specs.Readings.{OrMemory, answer_of}
use Rattle.aiger_reader.proofs.Judgements.{stopped_is, last_is, whole_fails, machine_read, machine_fails, going}
use Rattle.aiger_reader.proofs.finishing.finished.Goals as goal

pub returns-in-Some-clause-refusal : goal.returns-in-Some-clause-refusal
returns-in-Some-clause-refusal c = rw c.refusal.ensures (λ unset text read. stopped_is unset text c.args.reading c.in-Some.stop c.in-Some.is read)

pub returns-in-Err-clause-refusal : goal.returns-in-Err-clause-refusal
returns-in-Err-clause-refusal c =
    rw c.refusal-in-Err.ensures (λ unset text read.
    let g = going unset text c.args.reading c.in_default.not-Some read in
    subst (λ u. OrMemory (answer_of c.in-Err.stop) (IsVerdictOf (judgement u text) (Err (answer_of c.in-Err.stop)))) g.choice
    (last_is c.args.reading.unset text c.in-Err.stop c.args.reading.begun.items c.args.reading.built g.short g.has (rw c.as_slice.ensures.value at c.in-Err.ensures.err)))

pub returns-in_err-raw-clause-refusal : goal.returns-in_err-raw-clause-refusal
returns-in_err-raw-clause-refusal c =
    let p = err_from_is_err_and c.from_residual.result c.from_residual.ensures.1 in
    rw (p.1, p.2) (λ unset text read.
    let g = going unset text c.args.reading c.in_default.not-Some read in
    subst (λ u. OrMemory c.in_err-raw.field-0.0 (IsVerdictOf (judgement u text) (Err c.in_err-raw.field-0.0))) g.choice
    (whole_fails c.args.reading.unset text c.args.reading.begun.items c.args.reading.built c.read_last.new.built g.short g.has
    (rw c.as_slice.ensures.value at c.in_default-read_last.ensures.ok) c.args.reading.taken c.in_err-raw.field-0.0 g.size c.in_err-raw.ensures.err))

pub returns-clause-machine : goal.returns-clause-machine
returns-clause-machine c =
    IfOk-weaker c.grounded.result _ _ (λ machine h. λ unset text read.
    let g = going unset text c.args.reading c.in_default.not-Some read in
    subst (λ u. IsVerdictOf (judgement u text) (Ok machine)) g.choice
    (machine_read c.args.reading.unset text c.args.reading.begun.items c.args.reading.built c.read_last.new.built g.short g.has
    (rw c.as_slice.ensures.value at c.in_default-read_last.ensures.ok) c.args.reading.taken (machine_of c.in_ok-raw.raw) machine g.size c.in_ok-raw.ensures.ok h.0 h.1)) c.grounded.ensures.ok

pub returns-clause-refusal : goal.returns-clause-refusal
returns-clause-refusal c =
    IfErr-weaker c.grounded.result _ _ (λ refusal h. λ unset text read.
    let g = going unset text c.args.reading c.in_default.not-Some read in
    subst (λ u. OrMemory refusal (IsVerdictOf (judgement u text) (Err refusal))) g.choice
    (machine_fails c.args.reading.unset text c.args.reading.begun.items c.args.reading.built c.read_last.new.built g.short g.has
    (rw c.as_slice.ensures.value at c.in_default-read_last.ensures.ok) c.args.reading.taken (machine_of c.in_ok-raw.raw) refusal g.size c.in_ok-raw.ensures.ok h)) c.grounded.ensures.err
