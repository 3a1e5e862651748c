-- A piece, up to the limit.
use Rattle.word_scan.proofs.CallerLemmasPieces.{taken_prefix}
use Rattle.blif_reader.proofs.Limits.{stopped_at, too_long_at}
use Rattle.blif_reader.proofs.readings.read_on.Goals as goal

pub returns-in-Err-clause-read : goal.returns-in-Err-clause-read
returns-in-Err-clause-read c =
    λ text e has. stopped_at c.args.unset text c.args.piece.now _ c.args.room c.requires.room e
    (taken_prefix c.args.piece.now _ c.args.room c.min-within.ensures) c.in-Err.refusal (c.in-Err.ensures.err text has)

pub returns-in-Ok-clause-read : goal.returns-in-Ok-clause-read
returns-in-Ok-clause-read c =
    λ text e has. too_long_at c.args.unset text c.args.piece.now _ c.args.room c.requires.room e
    (taken_prefix c.args.piece.now _ c.args.room c.min-within.ensures) c.take_piece.new.lines c.take_piece.new.logical c.take_piece.new.state c.if-room-piece.true (c.in-Ok.ensures.ok text has)
