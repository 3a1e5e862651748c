-- A name that is refused refuses the line.
use Rattle.std.proofs.Common.{Result, Ok, ap, subst, sym, ◌∙◌}
use Rattle.std.proofs.lemmas.Result.{err_from_is_err_and}
use Rattle.word_scan.specs.Reading.{read_on}
use Rattle.word_scan.specs.Logical.{dark_words}
use Rattle.blif_reader.specs.States.{BlifState}
use Rattle.blif_reader.specs.declared.refusals.LineRefusal.{LineRefusal}
use Rattle.blif_reader.specs.Refusing.{FailsBy}
use Rattle.blif_reader.specs.Latches.{clock_read}
use Rattle.blif_reader.proofs.Fails.{word_fails}
use Rattle.blif_reader.proofs.states.State.add_clocks.Goals as goal

pub returns-in_err-add_clock-clause-err : goal.returns-in_err-add_clock-clause-err
returns-in_err-add_clock-clause-err c =
    let p = err_from_is_err_and c.from_residual.result c.from_residual.ensures.1 in
    let refusal = c.in_err-add_clock.field-0.0 in
    let state = c.loop-word.self in
    let same = sym (ap (read_on clock_read (Ok state)) c.in-Some.ensures.found) ∙ c.loop-word.invariant in
    rw (p.1, p.2) (subst (λ (r : Result BlifState LineRefusal). FailsBy refusal r) same
    (word_fails clock_read state c.in-Some.word.now (dark_words c.in-Some.after.now) refusal c.in_err-add_clock.ensures.err))
