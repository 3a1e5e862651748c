-- A piece, line by line.
use Rattle.std.proofs.Common.{◌≡◌, ◌++◌, ◌<◌, ℕ, List, Err, length, take, subst, append_assoc, arith}
use Rattle.std.proofs.lemmas.Result.{err_from_is_err_and}
use Rattle.std.proofs.lemmas.List.{take_rest, length-drop}
use Rattle.word_scan.specs.Reading.{HasRead, text_read}
use Rattle.word_scan.proofs.CallerLemmasPieces.{part_taken, all_taken, not_zero}
use Rattle.word_scan.specs.Lines.{whole_lines}
use Rattle.netlist_reader.specs.Building.{line_read, start, OrMemory, StopsReading}
use Rattle.netlist_reader.proofs.pieces.take_piece.Goals as goal

pub returns-in_err-used-clause-err : goal.returns-in_err-used-clause-err
returns-in_err-used-clause-err c =
    let p = err_from_is_err_and c.from_residual.result c.from_residual.ensures.1 in
    let read = c.loop-alloc.invariant.read in
    let refusal = c.in_err-used.field-0.0 in
    rw (p.1, p.2) (λ text has. subst (λ (t : List ℕ). OrMemory refusal (text_read line_read start t ≡ Err refusal)) (all_taken text c.args.piece.now read.0 c.loop-alloc.rest.now read.1)
    (c.in_err-used.ensures.err (text ++ read.0) (read.2 text has)))

pub returns-in_err-used-clause-stops : goal.returns-in_err-used-clause-stops
returns-in_err-used-clause-stops c =
    let p = err_from_is_err_and c.from_residual.result c.from_residual.ensures.1 in
    let read = c.loop-alloc.invariant.read in
    let refusal = c.in_err-used.field-0.0 in
    rw (p.1, p.2) (λ text has. subst (λ (t : List ℕ). StopsReading (whole_lines t) refusal c.take_line.new.built) (all_taken text c.args.piece.now read.0 c.loop-alloc.rest.now read.1)
    (c.in_err-used.ensures.stops (text ++ read.0) (read.2 text has)))

pub loop-alloc-preserved : goal.loop-alloc-preserved
loop-alloc-preserved c =
    let read = c.loop-alloc.invariant.read in
    let rest = c.loop-alloc.rest.now in
    let used = c.in_ok-used.used in
    let some : 0 < length rest = not_zero (length rest) c.if-not-is_empty.ensures in
    record {
      fine = c.in_ok-used.ensures.fine;
      few = omega (arith, c.in_ok-used.ensures.few, c.in_ok-used.ensures.used.0, c.in_ok-used.ensures.used.1 some, take_rest rest used, length-drop used rest, c.loop-alloc.invariant.few);
      read = (
        read.0 ++ take used rest,
        part_taken c.args.piece.now read.0 rest used read.1,
        λ text has. subst (λ (t : List ℕ). HasRead line_read start t c.take_line.new.lines c.take_line.new.built) (append_assoc text read.0 (take used rest))
            (c.in_ok-used.ensures.ok (text ++ read.0) (read.2 text has)),
      );
    }
