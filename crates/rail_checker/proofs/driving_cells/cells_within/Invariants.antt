use Rattle.std.proofs.Common.{◌≡◌, nat_lt, take}
use Rattle.std.specs.List.{filter}
use Rattle.rail_checker.proofs.driving_cells.cells_within.Given as goal

-- the numbers of cells so far
abbrev pub invariant-loop-id : goal.invariant-loop-id
invariant-loop-id l = l.cells.items ≡ filter (λ id. nat_lt id.number l.count) (take l.id-index l.ids)
