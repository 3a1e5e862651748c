use Rattle.std.proofs.Common.{◌≡◌, replicate}
use Rattle.rail_mapper.specs.Shelves.{bare_shelf}
use Rattle.rail_mapper.proofs.shelves.bare_shelves.Given as goal

abbrev pub invariant-loop-made : goal.invariant-loop-made
invariant-loop-made l = l.shelves.items ≡ replicate l._made bare_shelf
