-- A byte after `stop`, or a line.
use Rattle.std.proofs.Common.{rules, ◌≡◌, ◌++◌, ℕ, List, Some, Err, false, sym, subst}
use Rattle.schedule_replay.specs.VectorTexts.{shown_by}
use Rattle.schedule_replay.specs.Tables.{OrMemory}
use Rattle.schedule_replay.specs.Readings.{HasReadLines, lines_so_far}
use Rattle.schedule_replay.proofs.Showing.{stop_shown, wrong_shown}
use Rattle.schedule_replay.proofs.Stopping.{if_err}
use Rattle.schedule_replay.proofs.pieces.take_next.Goals as goal

pub returns-then-has_stop-clause-err : goal.returns-then-has_stop-clause-err
returns-then-has_stop-clause-err c =
    let form = c.args.form in
    let piece = c.args.piece.now in
    let lines = c.args.lines.now in
    let table = c.args.table.now in
    let stop = c.has_stop.ensures.0 (search rules) in
    subst (λ r. OrMemory r ((text : List ℕ) → HasReadLines form text lines table → shown_by form (text ++ piece) false ≡ Some r)) (sym c.bad_line.ensures)
    (λ text has. stop_shown form text piece lines table has stop c.requires.some)

pub returns-else-has_stop-clause-err : goal.returns-else-has_stop-clause-err
returns-else-has_stop-clause-err c =
    let form = c.args.form in
    let piece = c.args.piece.now in
    let lines = c.args.lines.now in
    let table = c.args.table.now in
    if_err c.take_line.result (λ r. (text : List ℕ) → HasReadLines form text lines table → lines_so_far form (text ++ piece) ≡ Err r)
    (λ r. (text : List ℕ) → HasReadLines form text lines table → shown_by form (text ++ piece) false ≡ Some r)
    (λ r wrong text has. wrong_shown form (text ++ piece) r (wrong text has)) c.take_line.ensures.err
