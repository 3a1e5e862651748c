-- A piece, up to the limit.
use Rattle.word_scan.proofs.CallerLemmasPieces.{taken_prefix}
use Rattle.schedule_replay.proofs.Stopping.{stopped_at, too_long_at, or_memory}
use Rattle.schedule_replay.proofs.readings.read_on.Goals as goal

pub returns-in-Err-clause-read : goal.returns-in-Err-clause-read
returns-in-Err-clause-read c =
    λ text e has. stopped_at c.args.form text c.args.piece.now c.min-within.result c.args.room c.requires.room e (taken_prefix c.args.piece.now _ c.args.room c.min-within.ensures)
    c.in-Err.refusal c.take_piece.new.lines c.take_piece.new.table (or_memory c.in-Err.refusal _ _ (λ shown. shown text has) c.in-Err.ensures.err)

pub returns-in-Ok-clause-read : goal.returns-in-Ok-clause-read
returns-in-Ok-clause-read c =
    λ text e has. too_long_at c.args.form text c.args.piece.now c.min-within.result c.args.room c.requires.room e (taken_prefix c.args.piece.now _ c.args.room c.min-within.ensures)
    c.past_limit.result c.take_piece.new.lines c.take_piece.new.table c.if-room-piece.true (c.in-Ok.ensures.ok text has) c.past_limit.ensures
