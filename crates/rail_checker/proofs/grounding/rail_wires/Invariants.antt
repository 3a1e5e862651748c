use Rattle.std.proofs.Common.{◌≡◌, take, map}
use Rattle.cell_netlist.specs.Netlists.{wire_of}
use Rattle.rail_checker.proofs.grounding.rail_wires.Given as goal

-- the wires of the rails so far
abbrev pub invariant-loop-rail : goal.invariant-loop-rail
invariant-loop-rail l = l.wires.items ≡ map wire_of (take l.rail-index l.rail-items)
