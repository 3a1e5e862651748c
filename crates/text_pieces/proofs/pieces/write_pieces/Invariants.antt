-- The pieces so far were written, the sink has not failed, and it was called exactly where they have bytes.
use Rattle.std.proofs.Common.{◌≡◌, ◌<◌, IsFalse, length, take}
use Rattle.std.specs.List.{flat_map}
use Rattle.std.specs.Io.KnownBytes.{Appends}
use Rattle.text_pieces.specs.Pieces.{piece_text}
use Rattle.text_pieces.proofs.pieces.write_pieces.Given as goal

abbrev pub invariant-loop-piece : goal.invariant-loop-piece
invariant-loop-piece g l = record {
  written : Appends (g.K.Sink.taken l.fn.sink) (g.K.Sink.taken l.sink) (flat_map piece_text (take l.piece-index l.pieces));
  calm : g.K.Sink.faults l.sink ≡ g.K.Sink.faults l.fn.sink;
  opened : 0 < length (flat_map piece_text (take l.piece-index l.pieces)) → IsFalse (g.K.Sink.flushed l.sink);
  untouched : length (flat_map piece_text (take l.piece-index l.pieces)) ≡ 0 → l.sink ≡ l.fn.sink;
}
