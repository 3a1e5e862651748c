-- One item more.
use Rattle.std.proofs.Common.{◌∙◌, ◌++◌, ◌∷◌, [], ap, sym, subst}
use Rattle.flat_lists.specs.FlatLists.{PlainLists, AreEnds, lists_of}
use Rattle.flat_lists.proofs.EndedLists.{ends-stay, pushed}
use Rattle.flat_lists.proofs.flat_lists.FlatLists.push.Goals as goal

pub invariant_of-self-2 : goal.invariant_of-self-2
invariant_of-self-2 g c =
    subst (AreEnds 0 c.self.inside.ends.items) (sym c.in_ok-push.ensures.items) (ends-stay 0 c.self.inside.ends.items c.self.inside.items.items (c.args.item ∷ []) c.self.invariant)

pub returns-clause-added : goal.returns-clause-added
returns-clause-added g c =
    ap (lists_of c.self.inside.ends.items) c.in_ok-push.ensures.items ∙ pushed c.self.inside.ends.items c.self.inside.items.items c.args.item c.self.invariant
    ∙ ap (λ (l : PlainLists g.row.T.Denot). record l { begun = l.begun ++ c.args.item ∷ [] }) c.self.view_is
