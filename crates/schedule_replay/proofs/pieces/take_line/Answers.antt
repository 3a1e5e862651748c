-- A line that lies whole in a piece.
use Rattle.std.proofs.Common.{refl}
use Rattle.std.proofs.lemmas.Result.{err_from_is_err_and}
use Rattle.word_scan.specs.Lines.{whole_part}
use Rattle.word_scan.proofs.CallerLemmasReading.{whole_step, whole_stops}
use Rattle.schedule_replay.specs.Tables.{first_table, line_read}
use Rattle.schedule_replay.proofs.Stopping.{or_memory}
use Rattle.schedule_replay.proofs.pieces.take_line.Goals as goal

pub returns-in_ok-read-in-Some-clause-ok : goal.returns-in_ok-read-in-Some-clause-ok
returns-in_ok-read-in-Some-clause-ok c =
    λ text has. whole_step (line_read c.args.form) first_table text c.args.piece.now c.in-Some.line.now c.args.lines.now c.take_whole.new.self c.args.table.now c.read.new.self
    (whole_part c.in-Some.line.now) c.in-Some.ensures.whole.part refl (c.in-Some.ensures.at text has.at) has c.in_ok-read-in-Some.ensures.ok

pub returns-in_err-read-in-Some-clause-err : goal.returns-in_err-read-in-Some-clause-err
returns-in_err-read-in-Some-clause-err c =
    let p = err_from_is_err_and c.from_residual.result c.from_residual.ensures.1 in
    let refusal = c.in_err-read-in-Some.field-0.0 in
    rw (p.1, p.2) (or_memory refusal _ _ (λ wrong text has. whole_stops (line_read c.args.form) first_table text c.args.piece.now c.in-Some.line.now c.args.lines.now c.args.table.now
    refusal (whole_part c.in-Some.line.now) c.in-Some.ensures.whole.part refl has wrong) c.in_err-read-in-Some.ensures.err)
