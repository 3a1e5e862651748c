-- A number has a byte at least.
use Rattle.std.proofs.Common.{arith}
use Rattle.text_pieces.proofs.Bytes.{numbered_bytes}
use Rattle.text_pieces.proofs.pieces.write_numbered.Goals as goal

pub returns-clause-unflushed : goal.returns-clause-unflushed
returns-clause-unflushed g c = c.write_pieces.ensures.unflushed (numbered_bytes c.args.before.now c.args.after.now c.args.number (omega arith))
