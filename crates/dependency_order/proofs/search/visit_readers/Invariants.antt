use Rattle.std.proofs.Common.{◌≡◌, ℕ, ◌≤◌, ◌<◌, ◌⊎◌, length}
use Rattle.dependency_order.specs.Searches.{Steps, IsSettled, IsReader}
use Rattle.dependency_order.proofs.search.visit_readers.Given as goal

abbrev pub decreases-loop-head : goal.decreases-loop-head
decreases-loop-head g l = l.head

-- each item is settled, or a reader that is left
abbrev pub invariant-loop-head : goal.invariant-loop-head
invariant-loop-head g l = record {
  low : l.head ≤ length l.readers.owners;
  steps : Steps l.dependencies (g.A.Agenda.allows (g.A.Agenda.keys l.fn.agenda)) l.fn.progress l.progress (g.A.Agenda.waiting l.agenda);
  left : (item : ℕ) → item < length l.dependencies.needs → IsSettled l.dependencies l.progress item ⊎ IsReader l.readers l.head item;
  kept : g.A.Agenda.keys l.agenda ≡ g.A.Agenda.keys l.fn.agenda;
}
