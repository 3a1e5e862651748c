use Rattle.std.proofs.Common.{◌≡◌, ◌≤◌, ◌++◌, take, length}
use Rattle.rail_mapper.specs.Shelves.{numbers_of}
use Rattle.rail_mapper.proofs.shelves.append.Given as goal

-- the leaves below this one are added
abbrev pub invariant-loop-k : goal.invariant-loop-k
invariant-loop-k l = (numbers_of l.wires.items ≡ numbers_of l.fn.wires.items ++ take l.k l.leaves) × (length l.fn.wires.items ≤ length l.wires.items)
