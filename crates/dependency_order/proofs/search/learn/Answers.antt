use Rattle.std.proofs.Common.{◌<◌, ◌⊎◌, length, ℕ, sym, subst}
use Rattle.std.specs.Prelude.{slice_index}
use Rattle.dependency_order.specs.Searches.{Stage, IsSearch, IsSettled, IsReader}
use Rattle.dependency_order.proofs.Turns.{learn_keeps, learn_leaves}
use Rattle.dependency_order.proofs.search.learn.Goals as goal

pub visit_readers-requires-clause-search : goal.visit_readers-requires-clause-search
visit_readers-requires-clause-search g c =
    subst (λ (s : Stage). IsSearch c.args.dependencies.now (g.A.Agenda.allows (g.A.Agenda.keys c.args.agenda.now)) s (g.A.Agenda.waiting c.args.agenda.now))
    (sym c.learn.ensures) (learn_keeps _ _ c.args.progress.now _ c.requires.search c.args.number c.requires.number c.requires.yielded)

pub visit_readers-requires-clause-left : goal.visit_readers-requires-clause-left
visit_readers-requires-clause-left g c =
    subst (λ (s : Stage). (item : ℕ) → item < length c.args.dependencies.now.needs → IsSettled c.args.dependencies.now s item ⊎ IsReader c.args.readers.now
    (slice_index c.args.readers.now.heads c.args.number) item) (sym c.learn.ensures) (learn_leaves _
    (g.A.Agenda.allows (g.A.Agenda.keys c.args.agenda.now)) c.args.progress.now
    (g.A.Agenda.waiting c.args.agenda.now) c.requires.search c.args.readers.now c.requires.readers c.requires.settled c.args.number)
