use Rattle.std.proofs.Common.{arith, sym}
use Rattle.dependency_order.proofs.Cuts.{list_at, rise_at}
use Rattle.dependency_order.proofs.lists.piece.Goals as goal

pub slice_bounds-result-count : goal.slice_bounds-result-count
slice_bounds-result-count c =
    let r = rise_at 0 c.args.ends.now c.args.values.now c.args.number c.requires.ends c.requires.number in
    omega (arith, r.0, r.1, c.begin_of.ensures)

pub slice_bounds-result-start : goal.slice_bounds-result-start
slice_bounds-result-start c =
    let r = rise_at 0 c.args.ends.now c.args.values.now c.args.number c.requires.ends c.requires.number in
    omega (arith, r.0, r.1, c.begin_of.ensures)

pub slice_bounds-result-end : goal.slice_bounds-result-end
slice_bounds-result-end c =
    let r = rise_at 0 c.args.ends.now c.args.values.now c.args.number c.requires.ends c.requires.number in
    omega (arith, r.0, r.1, c.begin_of.ensures)

pub returns : goal.returns
returns c =
    rw (c.begin_of.ensures) (sym (list_at 0 c.args.ends.now c.args.values.now c.args.number c.requires.number))
