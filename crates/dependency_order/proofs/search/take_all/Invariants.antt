use Rattle.std.proofs.Common.{◌≡◌, ◌-◌, [], length}
use Rattle.dependency_order.specs.Searches.{IsSearch, AllSettled, AreYielded}
use Rattle.dependency_order.proofs.search.take_all.Given as goal

abbrev pub decreases-loop-item : goal.decreases-loop-item
decreases-loop-item g l = length l.dependencies.needs - length l.progress.order

-- each item has been ready or lacks a number
abbrev pub invariant-loop-item : goal.invariant-loop-item
invariant-loop-item g l = record {
  search : IsSearch l.dependencies (g.A.Agenda.allows (g.A.Agenda.keys l.fn.agenda)) l.progress (g.A.Agenda.waiting l.agenda);
  settled : AllSettled l.dependencies l.progress;
  yielded : AreYielded l.dependencies [] l.progress;
  kept : g.A.Agenda.keys l.agenda ≡ g.A.Agenda.keys l.fn.agenda;
}
