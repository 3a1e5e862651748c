-- A logical line leaves what is bounded.
use Rattle.blif_reader.proofs.LineBounds.{line_bounded}
use Rattle.blif_reader.proofs.pieces.read_logical.Goals as goal

pub returns-in-Ok-clause-bounded : goal.returns-in-Ok-clause-bounded
returns-in-Ok-clause-bounded c =
    line_bounded c.args.unset c.args.state.now c.read.new.self c.args.text.now c.requires c.in-Ok.ensures.ok
