use Rattle.rail_checker.proofs.RootTable.{RootsTo}
use Rattle.rail_checker.proofs.roots.root_table.Given as goal

-- the cells so far gave their outputs roots
abbrev pub invariant-loop-item : goal.invariant-loop-item
invariant-loop-item l = RootsTo l.net l.drivers l.order.items l.item-index l.roots
