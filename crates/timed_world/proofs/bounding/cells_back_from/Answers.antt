use Rattle.std.proofs.Common.{◌≡◌, ◌∙◌, ◌≤◌, ◌++◌, ◌∷◌, [], Option, Some, None, List, length, slice_get, sym, ap, subst, arith}
use Rattle.std.specs.Prelude.{option_map}
use Rattle.std.proofs.lemmas.List.{length-map}
use Rattle.pulse_ids.specs.Ids.{WireId, CellId}
use Rattle.pulse_ids.proofs.CallerLemmas.{IsIn-place}
use Rattle.cell_netlist.specs.declared.lines.Cell.{Cell}
use Rattle.cell_netlist.specs.Netlists.{PlainNetlist, number_of_wires, most_lines}
use Rattle.cell_netlist.proofs.CallerLemmas.{named_below}
use Rattle.timed_world.specs.ArrivalTables.{table_arrival}
use Rattle.timed_world.specs.Bounding.{IsDriven, numbers_of}
use Rattle.timed_world.proofs.Latest.{BackTo, step_more, step_shorter, below_some, numbers-more, back_done, back_few}
use Rattle.timed_world.proofs.TableArrivals.{arrivals_are}
use Rattle.timed_world.proofs.bounding.cells_back_from.Goals as goal

pub comes_by-wire-requires-clause-reads : goal.comes_by-wire-requires-clause-reads
comes_by-wire-requires-clause-reads c wire i =
    let at : slice_get c.args.net.now.cells c.in-Some.id.number ≡ Some c.get.result.now =
    subst (λ (n : PlainNetlist). slice_get n.cells c.in-Some.id.number ≡ Some c.get.result.now) c.net-in-Some.ensures.net
    (subst (λ (l : List Cell). slice_get l c.in-Some.id.number ≡ Some c.get.result.now) c.cells.ensures c.get.ensures) in
    (named_below c.args.net.now).of_reads c.get.result.now (IsIn-place c.get.result.now c.args.net.now.cells c.in-Some.id.number at) wire i

pub loop-id-smaller : goal.loop-id-smaller
loop-id-smaller c =
    let at : slice_get c.args.net.now.cells c.in-Some.id.number ≡ Some c.get.result.now =
    subst (λ (n : PlainNetlist). slice_get n.cells c.in-Some.id.number ≡ Some c.get.result.now) c.net-in-Some.ensures.net
    (subst (λ (l : List Cell). slice_get l c.in-Some.id.number ≡ Some c.get.result.now) c.cells.ensures c.get.ensures) in
    step_shorter c.args.delays.now c.range.ensures c.args.net.now (table_arrival c.args.delays.now c.args.net.now c.args.table.now)
    (arrivals_are c.readers_of_wires.ensures.places c.args.net.now c.net.ensures.sound c.args.delays.now c.args.table.now c.requires.arrivals) c.args.last.number
    (numbers_of c.loop-id.cells.items) (option_map (λ (w : WireId). w.number) c.loop-id.wire) c.loop-id.invariant c.in-Some.id.number
    (subst (λ (o : Option CellId). IsDriven c.args.net.now (option_map (λ (w : WireId). w.number) c.loop-id.wire) (option_map (λ (x : CellId). x.number) o)) c.in-Some.is c.next_back.ensures)
    c.get.result.now at (option_map (λ (w : WireId). w.number) c.comes_by-wire.result) c.comes_by-wire.ensures.value
    (below_some (number_of_wires c.args.net.now) c.comes_by-wire.result c.comes_by-wire.ensures.below)

pub loop-id-preserved : goal.loop-id-preserved
loop-id-preserved c =
    let at : slice_get c.args.net.now.cells c.in-Some.id.number ≡ Some c.get.result.now =
    subst (λ (n : PlainNetlist). slice_get n.cells c.in-Some.id.number ≡ Some c.get.result.now) c.net-in-Some.ensures.net
    (subst (λ (l : List Cell). slice_get l c.in-Some.id.number ≡ Some c.get.result.now) c.cells.ensures c.get.ensures) in
    let more : numbers_of c.push.new.self.items ≡ numbers_of c.loop-id.cells.items ++ c.in-Some.id.number ∷ [] =
    ap numbers_of c.in_ok-push.ensures.items ∙ numbers-more c.loop-id.cells.items c.in-Some.id in
    subst (λ l. BackTo c.args.delays.now c.args.net.now (table_arrival c.args.delays.now c.args.net.now c.args.table.now) c.args.last.number l
    (option_map (λ (w : WireId). w.number) c.comes_by-wire.result)) (sym more)
    (step_more c.args.delays.now c.range.ensures c.args.net.now (table_arrival c.args.delays.now c.args.net.now c.args.table.now)
    (arrivals_are c.readers_of_wires.ensures.places c.args.net.now c.net.ensures.sound c.args.delays.now c.args.table.now c.requires.arrivals) c.args.last.number
    (numbers_of c.loop-id.cells.items) (option_map (λ (w : WireId). w.number) c.loop-id.wire) c.loop-id.invariant c.in-Some.id.number
    (subst (λ (o : Option CellId). IsDriven c.args.net.now (option_map (λ (w : WireId). w.number) c.loop-id.wire) (option_map (λ (x : CellId). x.number) o)) c.in-Some.is c.next_back.ensures)
    c.get.result.now at (option_map (λ (w : WireId). w.number) c.comes_by-wire.result) c.comes_by-wire.ensures.value
    (below_some (number_of_wires c.args.net.now) c.comes_by-wire.result c.comes_by-wire.ensures.below))

none_is : {X : Type 0} (o : Option X) → ((x : X) → o ≡ Some x → ⊥) → o ≡ None
none_is None some = cc
none_is (Some x) some = absurd (some x cc)

pub returns-clause-path : goal.returns-clause-path
returns-clause-path c =
    let none : c.next_back.result ≡ None = none_is c.next_back.result c.in_default.not-Some in
    back_done c.args.delays.now c.args.net.now (table_arrival c.args.delays.now c.args.net.now c.args.table.now) c.args.last.number (numbers_of c.loop-id.cells.items)
    (option_map (λ (w : WireId). w.number) c.loop-id.wire) c.loop-id.invariant
    (subst (λ (o : Option CellId). IsDriven c.args.net.now (option_map (λ (w : WireId). w.number) c.loop-id.wire) (option_map (λ (x : CellId). x.number) o)) none c.next_back.ensures)

pub returns-clause-few : goal.returns-clause-few
returns-clause-few c =
    let few = back_few c.args.delays.now c.args.net.now (table_arrival c.args.delays.now c.args.net.now c.args.table.now) c.args.last.number (numbers_of c.loop-id.cells.items)
    (option_map (λ (w : WireId). w.number) c.loop-id.wire) c.loop-id.invariant in
    let mapped = length-map c.loop-id.cells.items (λ (x : CellId). x.number) in
    let lines : length c.args.net.now.cells ≤ most_lines = subst (λ (n : PlainNetlist). length n.cells ≤ most_lines) c.net.ensures.net c.wires-few.ensures.lines.cells in
    omega (arith, few, mapped, lines)
