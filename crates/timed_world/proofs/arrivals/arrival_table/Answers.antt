use Rattle.std.proofs.Common.{◌≡◌, ◌<◌, ◌+◌, ◌≤◌, ℕ, List, Some, length, set, slice_get, sym, ap, subst, ◌∙◌, arith}
use Rattle.std.specs.Prelude.{slice_index}
use Rattle.pulse_ids.proofs.CallerLemmas.{IsIn-place}
use Rattle.cell_netlist.specs.declared.lines.Cell.{Cell}
use Rattle.cell_netlist.specs.Netlists.{PlainNetlist, most_lines}
use Rattle.cell_netlist.proofs.CallerLemmas.{named_below}
use Rattle.timed_world.specs.ArrivalTables.{cell_arrival}
use Rattle.timed_world.proofs.Filling.{FilledTo, item_at_low, items_few, filled_more, filled_done}
use Rattle.timed_world.proofs.arrivals.arrival_table.Goals as goal

pub get-requires : goal.get-requires
get-requires c =
    let items = c.items-item-items.ensures in
    let low : c.loop-item.item-index < length c.args.order.now.items = subst (λ (l : List ℕ). c.loop-item.item-index < length l) items c.loop-item-test.true in
    let number : c.new-id.result.number ≡ slice_index c.args.order.now.items c.loop-item.item-index = c.new-id.ensures ∙ ap (λ (l : List ℕ). slice_index l c.loop-item.item-index) items in
    let cells : c.cells-in-loop-item.result.now ≡ c.args.net.now.cells = c.cells-in-loop-item.ensures ∙ ap (λ (n : PlainNetlist). n.cells) c.net-in-loop-item.ensures.net in
    omega (arith, number, ap (λ (l : List Cell). length l) cells, item_at_low c.args.delays.now c.range.ensures c.args.net.now c.args.order.now.items c.requires c.loop-item.item-index low)

pub cell_arrival-time-requires-clause-small : goal.cell_arrival-time-requires-clause-small
cell_arrival-time-requires-clause-small c place =
    let items = c.items-item-items.ensures in
    let low : c.loop-item.item-index < length c.args.order.now.items = subst (λ (l : List ℕ). c.loop-item.item-index < length l) items c.loop-item-test.true in
    let number : c.new-id.result.number ≡ slice_index c.args.order.now.items c.loop-item.item-index = c.new-id.ensures ∙ ap (λ (l : List ℕ). slice_index l c.loop-item.item-index) items in
    let cells : c.cells-in-loop-item.result.now ≡ c.args.net.now.cells = c.cells-in-loop-item.ensures ∙ ap (λ (n : PlainNetlist). n.cells) c.net-in-loop-item.ensures.net in
    let few : length c.args.net.now.cells ≤ most_lines =
    subst (λ (n : PlainNetlist). length n.cells ≤ most_lines) c.net.ensures.net c.wires-few.ensures.lines.cells in
    omega (arith, low, few, items_few c.args.delays.now c.range.ensures c.args.net.now c.args.order.now.items c.requires, c.loop-item.invariant.small place)

pub cell_arrival-time-requires-clause-reads : goal.cell_arrival-time-requires-clause-reads
cell_arrival-time-requires-clause-reads c wire i =
    let items = c.items-item-items.ensures in
    let low : c.loop-item.item-index < length c.args.order.now.items = subst (λ (l : List ℕ). c.loop-item.item-index < length l) items c.loop-item-test.true in
    let number : c.new-id.result.number ≡ slice_index c.args.order.now.items c.loop-item.item-index = c.new-id.ensures ∙ ap (λ (l : List ℕ). slice_index l c.loop-item.item-index) items in
    let cells : c.cells-in-loop-item.result.now ≡ c.args.net.now.cells = c.cells-in-loop-item.ensures ∙ ap (λ (n : PlainNetlist). n.cells) c.net-in-loop-item.ensures.net in
    let at : slice_get c.args.net.now.cells (slice_index c.args.order.now.items c.loop-item.item-index) ≡ Some c.get.result.now =
    subst (λ (l : List Cell). slice_get l (slice_index c.args.order.now.items c.loop-item.item-index) ≡ Some c.get.result.now) cells
    (subst (λ k. slice_get c.cells-in-loop-item.result.now k ≡ Some c.get.result.now) number c.get.ensures) in
    (named_below c.args.net.now).of_reads c.get.result.now
    (IsIn-place c.get.result.now c.args.net.now.cells (slice_index c.args.order.now.items c.loop-item.item-index) at) wire i

pub set-requires : goal.set-requires
set-requires c =
    let items = c.items-item-items.ensures in
    let low : c.loop-item.item-index < length c.args.order.now.items = subst (λ (l : List ℕ). c.loop-item.item-index < length l) items c.loop-item-test.true in
    let number : c.new-id.result.number ≡ slice_index c.args.order.now.items c.loop-item.item-index = c.new-id.ensures ∙ ap (λ (l : List ℕ). slice_index l c.loop-item.item-index) items in
    let cells : c.cells-in-loop-item.result.now ≡ c.args.net.now.cells = c.cells-in-loop-item.ensures ∙ ap (λ (n : PlainNetlist). n.cells) c.net-in-loop-item.ensures.net in
    omega (arith, number, c.loop-item.invariant.width, item_at_low c.args.delays.now c.range.ensures c.args.net.now c.args.order.now.items c.requires c.loop-item.item-index low)

pub loop-item-preserved : goal.loop-item-preserved
loop-item-preserved c =
    let items = c.items-item-items.ensures in
    let low : c.loop-item.item-index < length c.args.order.now.items = subst (λ (l : List ℕ). c.loop-item.item-index < length l) items c.loop-item-test.true in
    let number : c.new-id.result.number ≡ slice_index c.args.order.now.items c.loop-item.item-index = c.new-id.ensures ∙ ap (λ (l : List ℕ). slice_index l c.loop-item.item-index) items in
    let cells : c.cells-in-loop-item.result.now ≡ c.args.net.now.cells = c.cells-in-loop-item.ensures ∙ ap (λ (n : PlainNetlist). n.cells) c.net-in-loop-item.ensures.net in
    let at : slice_get c.args.net.now.cells (slice_index c.args.order.now.items c.loop-item.item-index) ≡ Some c.get.result.now =
    subst (λ (l : List Cell). slice_get l (slice_index c.args.order.now.items c.loop-item.item-index) ≡ Some c.get.result.now) cells
    (subst (λ k. slice_get c.cells-in-loop-item.result.now k ≡ Some c.get.result.now) number c.get.ensures) in
    let made : c.set.new.self ≡ set c.loop-item.table (slice_index c.args.order.now.items c.loop-item.item-index)
    (cell_arrival c.args.delays.now c.args.net.now c.loop-item.table c.get.result.now) =
    c.set.ensures ∙ ap (λ k. set c.loop-item.table k c.cell_arrival-time.result) number
    ∙ ap (λ v. set c.loop-item.table (slice_index c.args.order.now.items c.loop-item.item-index) v) c.cell_arrival-time.ensures in
    subst (FilledTo c.args.delays.now c.args.net.now c.args.order.now.items (c.loop-item.item-index + 1)) (sym made)
    (filled_more c.args.delays.now c.range.ensures c.args.net.now c.args.order.now.items c.requires c.loop-item.item-index low c.get.result.now at c.loop-item.table c.loop-item.invariant)

pub returns-clause-arrivals : goal.returns-clause-arrivals
returns-clause-arrivals c =
    let items = ap (λ (l : List ℕ). length l) c.items-item-items.ensures in
    filled_done c.args.delays.now c.range.ensures c.args.net.now c.args.order.now.items c.requires c.loop-item.item-index
    (omega (arith, items, c.loop-item-test.false, c.loop-item.auto.item-index-end)) c.loop-item.table c.loop-item.invariant

pub returns-clause-small : goal.returns-clause-small
returns-clause-small c place =
    let items = ap (λ (l : List ℕ). length l) c.items-item-items.ensures in
    let few : length c.args.net.now.cells ≤ most_lines =
    subst (λ (n : PlainNetlist). length n.cells ≤ most_lines) c.net.ensures.net c.wires-few.ensures.lines.cells in
    omega (
      arith,
      items,
      few,
      items_few c.args.delays.now c.range.ensures c.args.net.now c.args.order.now.items c.requires,
      c.loop-item.invariant.small place,
      c.loop-item-test.false,
      c.loop-item.auto.item-index-end,
    )
