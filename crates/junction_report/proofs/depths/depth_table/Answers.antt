use Rattle.std.proofs.Common.{◌≡◌, ◌<◌, ◌+◌, ◌≤◌, ℕ, List, Some, length, set, slice_get, sym, ap, subst, ◌∙◌, arith}
use Rattle.std.specs.Prelude.{slice_index}
use Rattle.pulse_ids.proofs.CallerLemmas.{IsIn-place}
use Rattle.cell_netlist.specs.declared.lines.Cell.{Cell}
use Rattle.cell_netlist.specs.Netlists.{PlainNetlist, most_lines}
use Rattle.cell_netlist.proofs.CallerLemmas.{named_below}
use Rattle.junction_report.specs.Depths.{share_of, depth_behind, entry_depth}
use Rattle.cell_orders.proofs.CallerLemmas.{item_at_below, items_few}
use Rattle.junction_report.proofs.Levels.{LevelsTo, levels_more, levels_done}
use Rattle.junction_report.proofs.depths.depth_table.Goals as goal

pub get-requires : goal.get-requires
get-requires c =
    let items = c.items-item-items.ensures in
    let low : c.loop-item.item-index < length c.args.order.now.items = subst (λ (l : List ℕ). c.loop-item.item-index < length l) items c.loop-item-test.true in
    let number : c.new-id.result.number ≡ slice_index c.args.order.now.items c.loop-item.item-index = c.new-id.ensures ∙ ap (λ (l : List ℕ). slice_index l c.loop-item.item-index) items in
    let cells : c.cells-in-loop-item.result.now ≡ c.args.net.now.cells = c.cells-in-loop-item.ensures ∙ ap (λ (n : PlainNetlist). n.cells) c.net-in-loop-item.ensures.net in
    omega (arith, number, ap (λ (l : List Cell). length l) cells, item_at_below c.args.net.now c.args.order.now.items c.requires.order c.loop-item.item-index low)

pub depth_of-depth-requires-clause-small : goal.depth_of-depth-requires-clause-small
depth_of-depth-requires-clause-small c place =
    let items = c.items-item-items.ensures in
    let low : c.loop-item.item-index < length c.args.order.now.items = subst (λ (l : List ℕ). c.loop-item.item-index < length l) items c.loop-item-test.true in
    let number : c.new-id.result.number ≡ slice_index c.args.order.now.items c.loop-item.item-index = c.new-id.ensures ∙ ap (λ (l : List ℕ). slice_index l c.loop-item.item-index) items in
    let cells : c.cells-in-loop-item.result.now ≡ c.args.net.now.cells = c.cells-in-loop-item.ensures ∙ ap (λ (n : PlainNetlist). n.cells) c.net-in-loop-item.ensures.net in
    let few : length c.args.net.now.cells ≤ most_lines =
    subst (λ (n : PlainNetlist). length n.cells ≤ most_lines) c.net.ensures.net c.wires-few.ensures.lines.cells in
    omega (arith, low, few, items_few c.args.net.now c.args.order.now.items c.requires.order, c.loop-item.invariant.small place)

pub depth_of-depth-requires-clause-reads : goal.depth_of-depth-requires-clause-reads
depth_of-depth-requires-clause-reads c wire i =
    let items = c.items-item-items.ensures in
    let low : c.loop-item.item-index < length c.args.order.now.items = subst (λ (l : List ℕ). c.loop-item.item-index < length l) items c.loop-item-test.true in
    let number : c.new-id.result.number ≡ slice_index c.args.order.now.items c.loop-item.item-index = c.new-id.ensures ∙ ap (λ (l : List ℕ). slice_index l c.loop-item.item-index) items in
    let cells : c.cells-in-loop-item.result.now ≡ c.args.net.now.cells = c.cells-in-loop-item.ensures ∙ ap (λ (n : PlainNetlist). n.cells) c.net-in-loop-item.ensures.net in
    let at : slice_get c.args.net.now.cells (slice_index c.args.order.now.items c.loop-item.item-index) ≡ Some c.get.result.now =
    subst (λ (l : List Cell). slice_get l (slice_index c.args.order.now.items c.loop-item.item-index) ≡ Some c.get.result.now) cells
    (subst (λ k. slice_get c.cells-in-loop-item.result.now k ≡ Some c.get.result.now) number c.get.ensures) in
    (named_below c.args.net.now).of_reads c.get.result.now
    (IsIn-place c.get.result.now c.args.net.now.cells (slice_index c.args.order.now.items c.loop-item.item-index) at) wire i

pub set-requires : goal.set-requires
set-requires c =
    let items = c.items-item-items.ensures in
    let low : c.loop-item.item-index < length c.args.order.now.items = subst (λ (l : List ℕ). c.loop-item.item-index < length l) items c.loop-item-test.true in
    let number : c.new-id.result.number ≡ slice_index c.args.order.now.items c.loop-item.item-index = c.new-id.ensures ∙ ap (λ (l : List ℕ). slice_index l c.loop-item.item-index) items in
    let cells : c.cells-in-loop-item.result.now ≡ c.args.net.now.cells = c.cells-in-loop-item.ensures ∙ ap (λ (n : PlainNetlist). n.cells) c.net-in-loop-item.ensures.net in
    omega (arith, number, c.loop-item.invariant.width, item_at_below c.args.net.now c.args.order.now.items c.requires.order c.loop-item.item-index low)

pub loop-item-preserved : goal.loop-item-preserved
loop-item-preserved c =
    let items = c.items-item-items.ensures in
    let low : c.loop-item.item-index < length c.args.order.now.items = subst (λ (l : List ℕ). c.loop-item.item-index < length l) items c.loop-item-test.true in
    let number : c.new-id.result.number ≡ slice_index c.args.order.now.items c.loop-item.item-index = c.new-id.ensures ∙ ap (λ (l : List ℕ). slice_index l c.loop-item.item-index) items in
    let cells : c.cells-in-loop-item.result.now ≡ c.args.net.now.cells = c.cells-in-loop-item.ensures ∙ ap (λ (n : PlainNetlist). n.cells) c.net-in-loop-item.ensures.net in
    let at : slice_get c.args.net.now.cells (slice_index c.args.order.now.items c.loop-item.item-index) ≡ Some c.get.result.now =
    subst (λ (l : List Cell). slice_get l (slice_index c.args.order.now.items c.loop-item.item-index) ≡ Some c.get.result.now) cells
    (subst (λ k. slice_get c.cells-in-loop-item.result.now k ≡ Some c.get.result.now) number c.get.ensures) in
    let made : c.set.new.self ≡ set c.loop-item.depths (slice_index c.args.order.now.items c.loop-item.item-index)
    (share_of c.args.measured c.get.result.now + entry_depth (depth_behind c.args.net.now c.loop-item.depths) c.get.result.now) =
    c.set.ensures ∙ ap (λ k. set c.loop-item.depths k c.depth_of-depth.result) number
    ∙ ap (λ v. set c.loop-item.depths (slice_index c.args.order.now.items c.loop-item.item-index) v) c.depth_of-depth.ensures in
    subst (LevelsTo c.args.net.now c.args.measured c.args.order.now.items (c.loop-item.item-index + 1)) (sym made)
    (levels_more c.args.net.now c.args.measured c.args.order.now c.requires c.net.ensures.sound c.loop-item.item-index low c.get.result.now at c.loop-item.depths c.loop-item.invariant)

pub returns : goal.returns
returns c =
    let items = ap (λ (l : List ℕ). length l) c.items-item-items.ensures in
    levels_done c.args.net.now c.args.measured c.args.order.now c.requires c.net.ensures.sound c.loop-item.item-index
    (omega (arith, items, c.loop-item-test.false, c.loop-item.auto.item-index-end)) c.loop-item.depths c.loop-item.invariant
