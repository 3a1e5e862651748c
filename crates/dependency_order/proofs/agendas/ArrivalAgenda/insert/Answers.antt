use Rattle.std.proofs.Common.{sym, subst, ◌∷◌, [], List, ℕ, IsPermutation}
use Rattle.std.proofs.lemmas.List.Sorted.{IsPermutation-append_comm}
use Rattle.dependency_order.proofs.agendas.ArrivalAgenda.insert.Goals as goal

pub returns-clause-more : goal.returns-clause-more
returns-clause-more c =
    subst (λ (l : List ℕ). IsPermutation (c.args.item ∷ c.args.self.now) l)
    (sym c.in_ok-put_last.ensures.ok)
    (IsPermutation-append_comm (c.args.item ∷ []) c.args.self.now)
