-- A piece, part by part.
use Rattle.std.proofs.Common.{◌++◌, ℕ, List, take, subst, append_assoc, arith}
use Rattle.std.proofs.lemmas.Result.{err_from_is_err_and}
use Rattle.std.proofs.lemmas.List.{length-take, length-drop}
use Rattle.word_scan.proofs.CallerLemmasPieces.{part_taken, all_taken}
use Rattle.aiger_reader.specs.Building.{text_read, StopsFor}
use Rattle.aiger_reader.specs.Readings.{HasRead}
use Rattle.aiger_reader.proofs.pieces.take_piece.Goals as goal

pub returns-in_err-used-clause-err : goal.returns-in_err-used-clause-err
returns-in_err-used-clause-err c =
    let p = err_from_is_err_and c.from_residual.result c.from_residual.ensures.1 in
    let read = c.loop-rest.invariant.read in
    let stop = c.in_err-used.field-0.0 in
    rw (p.1, p.2) (λ text has. subst (λ (t : List ℕ). StopsFor stop (text_read c.args.unset t)) (all_taken text c.args.piece.now read.0 c.loop-rest.rest.now read.1)
    (c.in_err-used.ensures.err (text ++ read.0) (read.2 text has)))

pub loop-rest-preserved : goal.loop-rest-preserved
loop-rest-preserved c =
    let read = c.loop-rest.invariant.read in
    let rest = c.loop-rest.rest.now in
    let used = c.in_ok-used.used in
    record {
      fine = c.in_ok-used.ensures.fine;
      start = omega (arith, c.in_ok-used.ensures.start, c.in_ok-used.ensures.used.0, length-take used rest, length-drop used rest, c.loop-rest.invariant.start);
      read = (
        read.0 ++ take used rest,
        part_taken c.args.piece.now read.0 rest used read.1,
        λ text has. subst (λ (t : List ℕ). HasRead c.args.unset t c.take_unit.new.begun.items c.take_unit.new.built) (append_assoc text read.0 (take used rest))
            (c.in_ok-used.ensures.ok (text ++ read.0) (read.2 text has)),
      );
    }
