-- A line that a piece cuts.
use Rattle.std.proofs.Common.{◌∙◌, ap, sym}
use Rattle.std.proofs.lemmas.Result.{err_from_is_err_and}
use Rattle.word_scan.proofs.CallerLemmasReading.{open_step, whole_step, whole_stops}
use Rattle.schedule_replay.specs.Tables.{first_table, line_read}
use Rattle.schedule_replay.proofs.Stopping.{or_memory, untrue, not_untrue}
use Rattle.schedule_replay.proofs.pieces.take_cut.Goals as goal

pub returns-then-not-taken-clause-ok : goal.returns-then-not-taken-clause-ok
returns-then-not-taken-clause-ok c =
    λ text has. open_step (line_read c.args.form) first_table text c.args.piece.now c.take.new.self.line c.args.lines.now c.take.new.self c.args.table.now c.in_ok-taken.taken
    c.in_ok-taken.ensures.part (untrue c.in_ok-taken.taken.whole c.if-not-taken.true) (c.in_ok-taken.ensures.at text has.at) has

pub returns-clause-ok : goal.returns-clause-ok
returns-clause-ok c =
    λ text has. whole_step (line_read c.args.form) first_table text c.args.piece.now c.take.new.self.line c.args.lines.now c.take.new.self c.args.table.now c.read.new.self
    c.in_ok-taken.taken c.in_ok-taken.ensures.part (not_untrue c.in_ok-taken.taken.whole c.if-not-taken.false) (c.in_ok-taken.ensures.at text has.at) has
    (ap (line_read c.args.form c.args.table.now) (sym c.line.ensures.line) ∙ c.in_ok-read.ensures.ok)

pub returns-in_err-read-clause-err : goal.returns-in_err-read-clause-err
returns-in_err-read-clause-err c =
    let p = err_from_is_err_and c.from_residual-in_err-read.result c.from_residual-in_err-read.ensures.1 in
    let refusal = c.in_err-read.field-0.0 in
    rw (p.1, p.2) (or_memory refusal _ _ (λ wrong text has. whole_stops (line_read c.args.form) first_table text c.args.piece.now c.take.new.self.line c.args.lines.now c.args.table.now
    refusal c.in_ok-taken.taken c.in_ok-taken.ensures.part (not_untrue c.in_ok-taken.taken.whole c.if-not-taken.false) has
    (ap (line_read c.args.form c.args.table.now) (sym c.line.ensures.line) ∙ wrong)) c.in_err-read.ensures.err)
