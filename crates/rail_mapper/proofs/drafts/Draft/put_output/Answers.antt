use Rattle.std.proofs.Common.{arith, inl, refl}
use Rattle.rail_mapper.proofs.drafts.Draft.put_output.Goals as goal

pub add_output-requires-clause-wire : goal.add_output-requires-clause-wire
add_output-requires-clause-wire c = omega (arith, c.requires.inside c.args.rail c.take-wire.result.number (rw c.take-wire.ensures.first (inl refl)), c.requires.wires)
