use Rattle.std.proofs.Common.{◌≡◌, ◌≤◌, List, [], ◌∷◌, Some, length, slice_get, refl, ap, subst, ◌∙◌, arith}
use Rattle.pulse_ids.proofs.CallerLemmas.{IsIn-place}
use Rattle.cell_netlist.specs.declared.lines.Cell.{Cell}
use Rattle.cell_netlist.specs.Netlists.{PlainNetlist, most_lines}
use Rattle.cell_netlist.proofs.CallerLemmas.{named_below}
use Rattle.cell_orders.specs.Needs.{needs_of_cell}
use Rattle.cell_orders.proofs.Reaching.{added_needs_fit, added_stays_small, added_is_first, all_added}
use Rattle.cell_orders.proofs.order.add_cells.Goals as goal

pub push_needs-requires : goal.push_needs-requires
push_needs-requires c wire i =
    let cells : c.cells-in-loop-number.result.now ≡ c.args.net.now.cells = c.cells-in-loop-number.ensures ∙ ap (λ (n : PlainNetlist). n.cells) c.net-in-loop-number.ensures.net in
    let at : slice_get c.args.net.now.cells c.loop-number.number ≡ Some c.get-cell.result.now =
    subst (λ (l : List Cell). slice_get l c.loop-number.number ≡ Some c.get-cell.result.now) cells
    (subst (λ k. slice_get c.cells-in-loop-number.result.now k ≡ Some c.get-cell.result.now) c.new.ensures c.get-cell.ensures) in
    (named_below c.args.net.now).of_reads c.get-cell.result.now (IsIn-place c.get-cell.result.now c.args.net.now.cells c.loop-number.number at) wire i

pub push-requires-clause-needs : goal.push-requires-clause-needs
push-requires-clause-needs c =
    let cells : c.cells-in-loop-number.result.now ≡ c.args.net.now.cells = c.cells-in-loop-number.ensures ∙ ap (λ (n : PlainNetlist). n.cells) c.net-in-loop-number.ensures.net in
    let at : slice_get c.args.net.now.cells c.loop-number.number ≡ Some c.get-cell.result.now =
    subst (λ (l : List Cell). slice_get l c.loop-number.number ≡ Some c.get-cell.result.now) cells
    (subst (λ k. slice_get c.cells-in-loop-number.result.now k ≡ Some c.get-cell.result.now) c.new.ensures c.get-cell.ensures) in
    let needs : c.as_slice.result.now ≡ needs_of_cell c.args.net.now c.get-cell.result.now =
    c.as_slice.ensures.value ∙ c.in_ok-push_needs.ensures ∙ rw (c.clear.ensures.items) refl in
    let few : length c.args.net.now.cells ≤ most_lines =
    subst (λ (n : PlainNetlist). length n.cells ≤ most_lines) c.net.ensures.net c.wires-few.ensures.lines.cells in
    added_needs_fit c.args.net.now c.net.ensures.sound c.readers_of_wires.ensures.places few c.loop-number.number c.get-cell.result.now at c.loop-number.dependencies
    c.loop-number.invariant c.as_slice.result.now (c.loop-number.number ∷ []) needs refl

pub push-requires-clause-small : goal.push-requires-clause-small
push-requires-clause-small c =
    let cells : c.cells-in-loop-number.result.now ≡ c.args.net.now.cells = c.cells-in-loop-number.ensures ∙ ap (λ (n : PlainNetlist). n.cells) c.net-in-loop-number.ensures.net in
    let at : slice_get c.args.net.now.cells c.loop-number.number ≡ Some c.get-cell.result.now =
    subst (λ (l : List Cell). slice_get l c.loop-number.number ≡ Some c.get-cell.result.now) cells
    (subst (λ k. slice_get c.cells-in-loop-number.result.now k ≡ Some c.get-cell.result.now) c.new.ensures c.get-cell.ensures) in
    let needs : c.as_slice.result.now ≡ needs_of_cell c.args.net.now c.get-cell.result.now =
    c.as_slice.ensures.value ∙ c.in_ok-push_needs.ensures ∙ rw (c.clear.ensures.items) refl in
    let few : length c.args.net.now.cells ≤ most_lines =
    subst (λ (n : PlainNetlist). length n.cells ≤ most_lines) c.net.ensures.net c.wires-few.ensures.lines.cells in
    added_stays_small c.args.net.now c.net.ensures.sound c.readers_of_wires.ensures.places few c.loop-number.number c.get-cell.result.now at c.loop-number.dependencies
    c.loop-number.invariant c.as_slice.result.now (c.loop-number.number ∷ []) needs refl

pub loop-number-preserved : goal.loop-number-preserved
loop-number-preserved c =
    let cells : c.cells-in-loop-number.result.now ≡ c.args.net.now.cells = c.cells-in-loop-number.ensures ∙ ap (λ (n : PlainNetlist). n.cells) c.net-in-loop-number.ensures.net in
    let at : slice_get c.args.net.now.cells c.loop-number.number ≡ Some c.get-cell.result.now =
    subst (λ (l : List Cell). slice_get l c.loop-number.number ≡ Some c.get-cell.result.now) cells
    (subst (λ k. slice_get c.cells-in-loop-number.result.now k ≡ Some c.get-cell.result.now) c.new.ensures c.get-cell.ensures) in
    let needs : c.as_slice.result.now ≡ needs_of_cell c.args.net.now c.get-cell.result.now =
    c.as_slice.ensures.value ∙ c.in_ok-push_needs.ensures ∙ rw (c.clear.ensures.items) refl in
    let few : length c.args.net.now.cells ≤ most_lines =
    subst (λ (n : PlainNetlist). length n.cells ≤ most_lines) c.net.ensures.net c.wires-few.ensures.lines.cells in
    c.in_ok-push.ensures.ok ∙ added_is_first c.args.net.now c.net.ensures.sound c.readers_of_wires.ensures.places few c.loop-number.number c.get-cell.result.now at c.loop-number.dependencies
    c.loop-number.invariant c.as_slice.result.now (c.loop-number.number ∷ []) needs refl

pub returns : goal.returns
returns c =
    let cells : c.cells.result.now ≡ c.args.net.now.cells = c.cells.ensures ∙ ap (λ (n : PlainNetlist). n.cells) c.net-2.ensures.net in
    let few : length c.args.net.now.cells ≤ most_lines =
    subst (λ (n : PlainNetlist). length n.cells ≤ most_lines) c.net.ensures.net c.wires-few.ensures.lines.cells in
    c.loop-number.invariant ∙ all_added c.args.net.now c.net.ensures.sound c.readers_of_wires.ensures.places few c.loop-number.number
    (omega (arith, c.loop-number-test.false, c.len-number-end.ensures, ap (λ (l : List Cell). length l) cells))
