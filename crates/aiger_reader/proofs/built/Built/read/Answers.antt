-- A unit that was read leaves what is bounded.
use Rattle.aiger_reader.proofs.Bounding.{unit_bounded}
use Rattle.aiger_reader.proofs.built.Built.read.Goals as goal

pub returns-in-Ok-clause-bounded : goal.returns-in-Ok-clause-bounded
returns-in-Ok-clause-bounded c =
    (unit_bounded c.args.unset c.args.self.now c.read_unit.new.self c.args.unit.now c.requires.some c.requires.plain c.requires.bounded c.in-Ok.ensures.ok).bounded

pub returns-in-Ok-clause-start : goal.returns-in-Ok-clause-start
returns-in-Ok-clause-start c =
    (unit_bounded c.args.unset c.args.self.now c.read_unit.new.self c.args.unit.now c.requires.some c.requires.plain c.requires.bounded c.in-Ok.ensures.ok).start
