use Rattle.std.proofs.Common.{◌≡◌}
use Rattle.dependency_order.specs.Dependencies.{first_items}
use Rattle.cell_orders.specs.Needs.{dependencies_of}
use Rattle.cell_orders.proofs.order.add_cells.Given as goal

-- the cells so far are added
abbrev pub invariant-loop-number : goal.invariant-loop-number
invariant-loop-number l = l.dependencies ≡ first_items (dependencies_of l.net) l.number
