use Rattle.std.proofs.Common.{◌≡◌}
use Rattle.dependency_order.specs.Dependencies.{first_items}
use Rattle.rail_checker.specs.Needs.{dependencies_of}
use Rattle.rail_checker.proofs.grounding.add_cells.Given as goal

-- the cells so far are added
abbrev pub invariant-loop-driver : goal.invariant-loop-driver
invariant-loop-driver l = l.dependencies ≡ first_items (dependencies_of l.net l.drivers) l.driver-index
