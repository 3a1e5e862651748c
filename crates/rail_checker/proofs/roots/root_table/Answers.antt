use Rattle.std.proofs.Common.{◌≡◌, ◌<◌, ◌+◌, ℕ, List, Some, slice_get, length, sym, ap, subst, arith}
use Rattle.std.specs.Prelude.{slice_index}
use Rattle.pulse_ids.specs.Ids.{WireId}
use Rattle.pulse_ids.proofs.CallerLemmas.{IsIn-at, IsIn-place}
use Rattle.cell_netlist.specs.declared.lines.Cell.{Cell}
use Rattle.cell_netlist.proofs.CallerLemmas.{named_below}
use Rattle.rail_checker.specs.DrivingCells.{cells_of}
use Rattle.rail_checker.specs.Tables.{AreOwn}
use Rattle.rail_checker.proofs.DriverTable.{cell_among, number_here, cell_here}
use Rattle.rail_checker.proofs.RootTable.{RootsTo, roots_begun, roots_more, roots_done, item_place}
use Rattle.rail_checker.proofs.roots.root_table.Goals as goal

pub loop-item-init : goal.loop-item-init
loop-item-init c =
    roots_begun c.args.net.now 8 (omega arith) c.requires.clear c.args.drivers.now c.requires.drivers c.args.order.now c.requires.order c.in_ok-roots.roots
    (subst (λ (n : ℕ). AreOwn n c.in_ok-roots.roots) c.wires.ensures.value c.in_ok-roots.ensures)

pub bounds-drivers-item : goal.bounds-drivers-item
bounds-drivers-item c =
    let items = c.items-item-items.ensures in
    let low : c.loop-item.item-index < length c.args.order.now.items = subst (λ (l : List ℕ). c.loop-item.item-index < length l) items c.loop-item-test.true in
    let same : slice_index c.items-item-items.result.now c.loop-item.item-index ≡ slice_index c.args.order.now.items c.loop-item.item-index =
    ap (λ (l : List ℕ). slice_index l c.loop-item.item-index) items in
    let place : slice_index c.args.order.now.items c.loop-item.item-index < length c.args.drivers.now =
    item_place c.args.net.now 8 (omega arith) c.requires.clear c.args.drivers.now c.requires.drivers c.args.order.now c.requires.order (slice_index c.args.order.now.items c.loop-item.item-index)
    (IsIn-at c.args.order.now.items c.loop-item.item-index 0 low) in
    subst (λ k. k < length c.args.drivers.now) (sym same) place

pub get-requires : goal.get-requires
get-requires c =
    let items = c.items-item-items.ensures in
    let low : c.loop-item.item-index < length c.args.order.now.items = subst (λ (l : List ℕ). c.loop-item.item-index < length l) items c.loop-item-test.true in
    let same : slice_index c.items-item-items.result.now c.loop-item.item-index ≡ slice_index c.args.order.now.items c.loop-item.item-index =
    ap (λ (l : List ℕ). slice_index l c.loop-item.item-index) items in
    let place : slice_index c.args.order.now.items c.loop-item.item-index < length c.args.drivers.now =
    item_place c.args.net.now 8 (omega arith) c.requires.clear c.args.drivers.now c.requires.drivers c.args.order.now c.requires.order (slice_index c.args.order.now.items c.loop-item.item-index)
    (IsIn-at c.args.order.now.items c.loop-item.item-index 0 low) in
    let within : slice_index c.items-item-items.result.now c.loop-item.item-index < length c.args.drivers.now = subst (λ k. k < length c.args.drivers.now) (sym same) place in
    omega (
      arith,
      ap (λ (l : List Cell). length l) c.cells.ensures,
      number_here c.args.net.now c.args.drivers.now c.requires.drivers (slice_index c.items-item-items.result.now c.loop-item.item-index) within,
    )

pub put_roots-requires-clause-outs : goal.put_roots-requires-clause-outs
put_roots-requires-clause-outs c wire i =
    let items = c.items-item-items.ensures in
    let low : c.loop-item.item-index < length c.args.order.now.items = subst (λ (l : List ℕ). c.loop-item.item-index < length l) items c.loop-item-test.true in
    let same : slice_index c.items-item-items.result.now c.loop-item.item-index ≡ slice_index c.args.order.now.items c.loop-item.item-index =
    ap (λ (l : List ℕ). slice_index l c.loop-item.item-index) items in
    let place : slice_index c.args.order.now.items c.loop-item.item-index < length c.args.drivers.now =
    item_place c.args.net.now 8 (omega arith) c.requires.clear c.args.drivers.now c.requires.drivers c.args.order.now c.requires.order (slice_index c.args.order.now.items c.loop-item.item-index)
    (IsIn-at c.args.order.now.items c.loop-item.item-index 0 low) in
    let within : slice_index c.items-item-items.result.now c.loop-item.item-index < length c.args.drivers.now = subst (λ k. k < length c.args.drivers.now) (sym same) place in
    let here : slice_get (cells_of c.args.net.now c.args.drivers.now) (slice_index c.items-item-items.result.now c.loop-item.item-index) ≡ Some c.get.result.now =
    cell_here c.args.net.now c.args.drivers.now c.requires.drivers (slice_index c.items-item-items.result.now c.loop-item.item-index) within c.cells.result.now c.cells.ensures
    c.get.result.now c.get.ensures in
    let at : slice_get (cells_of c.args.net.now c.args.drivers.now) (slice_index c.args.order.now.items c.loop-item.item-index) ≡ Some c.get.result.now =
    subst (λ k. slice_get (cells_of c.args.net.now c.args.drivers.now) k ≡ Some c.get.result.now) same here in
    omega (
      arith,
      c.loop-item.invariant.width,
      (named_below c.args.net.now).of_outs c.get.result.now
          (cell_among c.args.net.now c.args.drivers.now c.requires.drivers c.get.result.now
          (IsIn-place c.get.result.now (cells_of c.args.net.now c.args.drivers.now) (slice_index c.args.order.now.items c.loop-item.item-index) at)) wire i,
    )

pub put_roots-requires-clause-reads : goal.put_roots-requires-clause-reads
put_roots-requires-clause-reads c wire i =
    let items = c.items-item-items.ensures in
    let low : c.loop-item.item-index < length c.args.order.now.items = subst (λ (l : List ℕ). c.loop-item.item-index < length l) items c.loop-item-test.true in
    let same : slice_index c.items-item-items.result.now c.loop-item.item-index ≡ slice_index c.args.order.now.items c.loop-item.item-index =
    ap (λ (l : List ℕ). slice_index l c.loop-item.item-index) items in
    let place : slice_index c.args.order.now.items c.loop-item.item-index < length c.args.drivers.now =
    item_place c.args.net.now 8 (omega arith) c.requires.clear c.args.drivers.now c.requires.drivers c.args.order.now c.requires.order (slice_index c.args.order.now.items c.loop-item.item-index)
    (IsIn-at c.args.order.now.items c.loop-item.item-index 0 low) in
    let within : slice_index c.items-item-items.result.now c.loop-item.item-index < length c.args.drivers.now = subst (λ k. k < length c.args.drivers.now) (sym same) place in
    let here : slice_get (cells_of c.args.net.now c.args.drivers.now) (slice_index c.items-item-items.result.now c.loop-item.item-index) ≡ Some c.get.result.now =
    cell_here c.args.net.now c.args.drivers.now c.requires.drivers (slice_index c.items-item-items.result.now c.loop-item.item-index) within c.cells.result.now c.cells.ensures
    c.get.result.now c.get.ensures in
    let at : slice_get (cells_of c.args.net.now c.args.drivers.now) (slice_index c.args.order.now.items c.loop-item.item-index) ≡ Some c.get.result.now =
    subst (λ k. slice_get (cells_of c.args.net.now c.args.drivers.now) k ≡ Some c.get.result.now) same here in
    omega (
      arith,
      c.loop-item.invariant.width,
      (named_below c.args.net.now).of_reads c.get.result.now
          (cell_among c.args.net.now c.args.drivers.now c.requires.drivers c.get.result.now
          (IsIn-place c.get.result.now (cells_of c.args.net.now c.args.drivers.now) (slice_index c.args.order.now.items c.loop-item.item-index) at)) wire i,
    )

pub loop-item-preserved : goal.loop-item-preserved
loop-item-preserved c =
    let items = c.items-item-items.ensures in
    let low : c.loop-item.item-index < length c.args.order.now.items = subst (λ (l : List ℕ). c.loop-item.item-index < length l) items c.loop-item-test.true in
    let same : slice_index c.items-item-items.result.now c.loop-item.item-index ≡ slice_index c.args.order.now.items c.loop-item.item-index =
    ap (λ (l : List ℕ). slice_index l c.loop-item.item-index) items in
    let place : slice_index c.args.order.now.items c.loop-item.item-index < length c.args.drivers.now =
    item_place c.args.net.now 8 (omega arith) c.requires.clear c.args.drivers.now c.requires.drivers c.args.order.now c.requires.order (slice_index c.args.order.now.items c.loop-item.item-index)
    (IsIn-at c.args.order.now.items c.loop-item.item-index 0 low) in
    let within : slice_index c.items-item-items.result.now c.loop-item.item-index < length c.args.drivers.now = subst (λ k. k < length c.args.drivers.now) (sym same) place in
    let here : slice_get (cells_of c.args.net.now c.args.drivers.now) (slice_index c.items-item-items.result.now c.loop-item.item-index) ≡ Some c.get.result.now =
    cell_here c.args.net.now c.args.drivers.now c.requires.drivers (slice_index c.items-item-items.result.now c.loop-item.item-index) within c.cells.result.now c.cells.ensures
    c.get.result.now c.get.ensures in
    let at : slice_get (cells_of c.args.net.now c.args.drivers.now) (slice_index c.args.order.now.items c.loop-item.item-index) ≡ Some c.get.result.now =
    subst (λ k. slice_get (cells_of c.args.net.now c.args.drivers.now) k ≡ Some c.get.result.now) same here in
    subst (λ (l : List WireId). RootsTo c.args.net.now c.args.drivers.now c.args.order.now.items (c.loop-item.item-index + 1) l) (sym c.put_roots.ensures)
    (roots_more c.args.net.now 8 (omega arith) c.requires.clear c.args.drivers.now c.requires.drivers c.args.order.now c.requires.order c.loop-item.item-index low c.get.result.now at
    c.loop-item.roots c.loop-item.invariant)

pub returns : goal.returns
returns c =
    roots_done c.args.net.now 8 (omega arith) c.requires.clear c.args.drivers.now c.requires.drivers c.args.order.now c.requires.order c.loop-item.item-index
    (omega (arith, c.loop-item-test.false, ap (λ (l : List ℕ). length l) c.items-item-items.ensures)) c.loop-item.roots c.loop-item.invariant
