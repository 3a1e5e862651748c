-- The list that has begun ends.
use Rattle.std.proofs.Common.{◌∙◌, ◌++◌, ◌∷◌, [], ap, sym, subst, arith}
use Rattle.flat_lists.specs.FlatLists.{PlainLists, AreEnds, lists_of}
use Rattle.flat_lists.proofs.EndedLists.{end-added, ended_at}
use Rattle.flat_lists.proofs.flat_lists.FlatLists.end.Goals as goal

pub invariant_of-self-2 : goal.invariant_of-self-2
invariant_of-self-2 g c =
    let all = c.len.result in
    subst (λ ends. AreEnds 0 ends c.self.inside.items.items) (sym c.in_ok-push.ensures.items)
    (end-added 0 c.self.inside.ends.items c.self.inside.items.items all (omega (arith, c.len.ensures, c.self.inside.items.ok.0)) c.self.invariant)

pub returns-clause-ended : goal.returns-clause-ended
returns-clause-ended g c =
    ap (λ ends. lists_of ends c.self.inside.items.items) c.in_ok-push.ensures.items
    ∙ ended_at c.self.inside.ends.items c.self.inside.items.items c.len.result (omega (arith, c.len.ensures, c.self.inside.items.ok.0)) c.self.invariant
    ∙ ap (λ (l : PlainLists g.row.T.Denot). record { lists = l.lists ++ l.begun ∷ []; begun = [] }) c.self.view_is
