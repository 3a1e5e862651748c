-- The last physical line, and then what has begun.
use Rattle.std.proofs.Common.{◌≡◌, sym, subst, Result, Ok, Err}
use Rattle.std.specs.Prelude.{OnOk, IfErr}
use Rattle.std.proofs.lemmas.Result.{err_from_is_err_and}
use Rattle.word_scan.specs.Logical.{begun_line}
use Rattle.blif_reader.specs.declared.refusals.BlifRefusal.{BlifRefusal}
use Rattle.blif_reader.specs.States.{BlifState}
use Rattle.blif_reader.specs.Readings.{OrMemory}
use Rattle.blif_reader.proofs.Taking.{or_memory_then}
use Rattle.blif_reader.proofs.LastLines.{closed_read, closed_refused}
use Rattle.blif_reader.proofs.finishing.read_closed.Goals as goal

pub returns-in_err-read_line-clause-err : goal.returns-in_err-read_line-clause-err
returns-in_err-read_line-clause-err c =
    let p = err_from_is_err_and c.from_residual.result c.from_residual.ensures.1 in
    rw (p.1, p.2) (or_memory_then c.in_err-read_line.field-0.0 _ _
    (closed_refused c.args.unset c.args.state.now (begun_line c.args.logical.now) c.args.number c.args.line.now c.in_err-read_line.field-0.0) c.in_err-read_line.ensures.err)

pub returns-clause-ok : goal.returns-clause-ok
returns-clause-ok c =
    subst (λ (r : Result BlifState BlifRefusal). OnOk c.read_begun.result (r ≡ Ok c.read_begun.new.state))
    (sym (closed_read c.args.unset c.args.state.now (begun_line c.args.logical.now) c.args.number c.args.line.now (begun_line c.read_line.new.logical) c.read_line.new.state
    c.in_ok-read_line.ensures.begun c.in_ok-read_line.ensures.ok)) c.read_begun.ensures.ok

pub returns-clause-err : goal.returns-clause-err
returns-clause-err c =
    subst (λ (r : Result BlifState BlifRefusal). IfErr c.read_begun.result (λ refusal. OrMemory refusal (r ≡ Err refusal)))
    (sym (closed_read c.args.unset c.args.state.now (begun_line c.args.logical.now) c.args.number c.args.line.now (begun_line c.read_line.new.logical) c.read_line.new.state
    c.in_ok-read_line.ensures.begun c.in_ok-read_line.ensures.ok)) c.read_begun.ensures.err
