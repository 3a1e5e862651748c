-- A piece, part by part.
use Rattle.std.proofs.Common.{◌≡◌, ◌++◌, ℕ, List, Some, false, take, subst, append_assoc, arith}
use Rattle.std.proofs.lemmas.Result.{err_from_is_err_and}
use Rattle.std.proofs.lemmas.List.{length-take, length-drop}
use Rattle.word_scan.proofs.CallerLemmasPieces.{part_taken, all_taken}
use Rattle.schedule_replay.specs.VectorTexts.{shown_by}
use Rattle.schedule_replay.specs.Readings.{HasReadLines}
use Rattle.schedule_replay.proofs.Stopping.{or_memory}
use Rattle.schedule_replay.proofs.pieces.take_piece.Goals as goal

pub returns-in_err-used-clause-err : goal.returns-in_err-used-clause-err
returns-in_err-used-clause-err c =
    let p = err_from_is_err_and c.from_residual.result c.from_residual.ensures.1 in
    let read = c.loop-rest.invariant.read in
    let refusal = c.in_err-used.field-0.0 in
    rw (p.1, p.2) (or_memory refusal _ _ (λ shown text has. subst (λ (t : List ℕ). shown_by c.args.form t false ≡ Some refusal) (all_taken text c.args.piece.now read.0 c.loop-rest.rest.now read.1)
    (shown (text ++ read.0) (read.2 text has))) c.in_err-used.ensures.err)

pub loop-rest-preserved : goal.loop-rest-preserved
loop-rest-preserved c =
    let read = c.loop-rest.invariant.read in
    let rest = c.loop-rest.rest.now in
    let used = c.in_ok-used.used in
    record {
      fine = c.in_ok-used.ensures.fine;
      place = omega (arith, c.in_ok-used.ensures.used.0, c.in_ok-used.ensures.used.2, length-take used rest, length-drop used rest, c.loop-rest.invariant.place);
      read = (
        read.0 ++ take used rest,
        part_taken c.args.piece.now read.0 rest used read.1,
        λ text has. subst (λ (t : List ℕ). HasReadLines c.args.form t c.take_next.new.lines c.take_next.new.table) (append_assoc text read.0 (take used rest))
            (c.in_ok-used.ensures.ok (text ++ read.0) (read.2 text has)),
      );
    }
