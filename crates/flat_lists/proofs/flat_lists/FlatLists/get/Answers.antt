-- No list.
use Rattle.std.proofs.Common.{◌≡◌, List, [], get_or, sym, subst, arith}
use Rattle.flat_lists.specs.FlatLists.{PlainLists, ended_from}
use Rattle.flat_lists.proofs.EndedLists.{length_lists, past-lists}
use Rattle.flat_lists.proofs.flat_lists.FlatLists.get.Goals as goal

pub returns-else-k-len : goal.returns-else-k-len
returns-else-k-len g c =
    let ends = c.self.inside.ends.items in
    let items = c.self.inside.items.items in
    subst (λ (l : PlainLists g.row.T.Denot). ◌≡◌ {A = List g.row.T.Denot} [] (get_or l.lists c.args.k [])) c.self.view_is
    (sym (past-lists c.args.k (ended_from 0 ends items) (omega (arith, length_lists 0 ends items, c.len.ensures, c.self.inside.ends.ok.0))))
