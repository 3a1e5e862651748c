use Rattle.std.proofs.Common.{◌≡◌, ℕ, ◌<◌}
use Rattle.dependency_order.specs.Searches.{Steps, IsSettled}
use Rattle.dependency_order.proofs.search.visit_all.Given as goal

-- the items so far are settled
abbrev pub invariant-loop-item : goal.invariant-loop-item
invariant-loop-item g l = record {
  steps : Steps l.dependencies (g.A.Agenda.allows (g.A.Agenda.keys l.fn.agenda)) l.fn.progress l.progress (g.A.Agenda.waiting l.agenda);
  settled : (other : ℕ) → other < l.item → IsSettled l.dependencies l.progress other;
  kept : g.A.Agenda.keys l.agenda ≡ g.A.Agenda.keys l.fn.agenda;
}
