use Rattle.std.proofs.Common.{◌≡◌, drop}
use Rattle.dependency_order.specs.Dependencies.{yields_of}
use Rattle.dependency_order.specs.Searches.{IsSearch, AllSettled, AreYielded}
use Rattle.dependency_order.proofs.search.spread.Given as goal

-- the numbers so far are known
abbrev pub invariant-loop-number : goal.invariant-loop-number
invariant-loop-number g l = record {
  search : IsSearch l.dependencies (g.A.Agenda.allows (g.A.Agenda.keys l.fn.agenda)) l.progress (g.A.Agenda.waiting l.agenda);
  settled : AllSettled l.dependencies l.progress;
  yielded : AreYielded l.dependencies (drop l.number-index (yields_of l.dependencies l.item)) l.progress;
  order : l.progress.order ≡ l.fn.progress.order;
  kept : g.A.Agenda.keys l.agenda ≡ g.A.Agenda.keys l.fn.agenda;
}
