use Rattle.std.proofs.Common.{◌-◌, ◌≤◌, length}
use Rattle.cell_netlist.specs.declared.kinds.Ask.{Ask}
use Rattle.rail_demand.specs.Searching.{Steps, AreNeeded, IsClosedBefore}
use Rattle.rail_demand.proofs.searches.Search.spread.Given as goal

abbrev pub decreases-loop-done : goal.decreases-loop-done
decreases-loop-done l = l.self.room - l.done

-- the rails so far are closed
abbrev pub invariant-loop-done : goal.invariant-loop-done
invariant-loop-done l = record {
  low : l.done ≤ length l.self.found;
  steps : Steps l.built l.fn.self l.self;
  closed : IsClosedBefore l.built l.self l.done;
  needed : (ask : Ask) → AreNeeded l.built ask l.fn.self.found → AreNeeded l.built ask l.self.found;
}
