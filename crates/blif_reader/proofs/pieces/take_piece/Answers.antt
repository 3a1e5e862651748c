-- A piece, part by part.
use Rattle.std.proofs.Common.{◌≡◌, ◌++◌, ℕ, List, Err, take, subst, append_assoc, arith}
use Rattle.std.proofs.lemmas.Result.{err_from_is_err_and}
use Rattle.std.proofs.lemmas.List.{length-take, length-drop}
use Rattle.word_scan.proofs.CallerLemmasPieces.{part_taken, all_taken}
use Rattle.blif_reader.specs.Sources.{text_read}
use Rattle.blif_reader.specs.Readings.{HasRead, OrMemory}
use Rattle.blif_reader.proofs.pieces.take_piece.Goals as goal

pub returns-in_err-used-clause-err : goal.returns-in_err-used-clause-err
returns-in_err-used-clause-err c =
    let p = err_from_is_err_and c.from_residual.result c.from_residual.ensures.1 in
    let read = c.loop-rest.invariant.read in
    let refusal = c.in_err-used.field-0.0 in
    rw (p.1, p.2) (λ text has. subst (λ (t : List ℕ). OrMemory refusal (text_read c.args.unset t ≡ Err refusal)) (all_taken text c.args.piece.now read.0 c.loop-rest.rest.now read.1)
    (c.in_err-used.ensures.err (text ++ read.0) (read.2 text has)))

pub loop-rest-preserved : goal.loop-rest-preserved
loop-rest-preserved c =
    let read = c.loop-rest.invariant.read in
    let rest = c.loop-rest.rest.now in
    let used = c.in_ok-used.used in
    record {
      bounded = c.in_ok-used.ensures.bounded;
      few = omega (arith, c.in_ok-used.ensures.few, c.in_ok-used.ensures.used.0, length-take used rest, length-drop used rest, c.loop-rest.invariant.few);
      read = (
        read.0 ++ take used rest,
        part_taken c.args.piece.now read.0 rest used read.1,
        λ text has. subst (λ (t : List ℕ). HasRead c.args.unset t c.take_line.new.lines c.take_line.new.logical c.take_line.new.state) (append_assoc text read.0 (take used rest))
            (c.in_ok-used.ensures.ok (text ++ read.0) (read.2 text has)),
      );
    }
