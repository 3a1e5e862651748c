-- A piece that fails leaves the pieces before it, and has bytes.
use Rattle.std.proofs.Common.{arith}
use Rattle.text_pieces.specs.Pieces.{piece_text}
use Rattle.byte_ports.proofs.CallerLemmas.{wrote_up_to, err_so}
use Rattle.text_pieces.proofs.Bytes.{has_bytes, more_bytes}
use Rattle.text_pieces.proofs.pieces.write_pieces.Goals as goal

pub returns-in_err-write_piece-clause-written : goal.returns-in_err-write_piece-clause-written
returns-in_err-write_piece-clause-written g c =
    wrote_up_to piece_text c.args.pieces.now c.loop-piece.piece-index _ _ _ _ _ _ _ _ _ (omega arith) c.loop-piece.invariant.written c.loop-piece.invariant.calm
    (err_so c.in_err-write_piece.was) c.from_residual.ensures.0 c.write_piece.ensures.written

pub returns-in_err-write_piece-clause-unflushed : goal.returns-in_err-write_piece-clause-unflushed
returns-in_err-write_piece-clause-unflushed g c =
    λ some. c.write_piece.ensures.unflushed (has_bytes _ _ (err_so c.in_err-write_piece.was) c.write_piece.ensures.empty)

pub returns-in_err-write_piece-clause-empty : goal.returns-in_err-write_piece-clause-empty
returns-in_err-write_piece-clause-empty g c =
    let some = more_bytes piece_text c.args.pieces.now c.loop-piece.piece-index _ (omega arith)
    (has_bytes _ _ (err_so c.in_err-write_piece.was) c.write_piece.ensures.empty) in
    λ none. absurd (omega (arith, some, none))

pub returns-in_err-write_piece-clause-untouched : goal.returns-in_err-write_piece-clause-untouched
returns-in_err-write_piece-clause-untouched g c =
    let some = more_bytes piece_text c.args.pieces.now c.loop-piece.piece-index _ (omega arith)
    (has_bytes _ _ (err_so c.in_err-write_piece.was) c.write_piece.ensures.empty) in
    λ none. absurd (omega (arith, some, none))
