use Rattle.std.proofs.Common.{◌≡◌, ◌∙◌, List, Option, Some, length, slice_get, sym, ap, subst, arith}
use Rattle.std.specs.Prelude.{option_map}
use Rattle.pulse_ids.specs.Ids.{CellId}
use Rattle.cell_netlist.specs.declared.lines.Cell.{Cell}
use Rattle.cell_netlist.specs.Netlists.{PlainNetlist}
use Rattle.timed_world.specs.Bounding.{IsDriven, DrivenBy}
use Rattle.timed_world.specs.Delays.{lag}
use Rattle.timed_world.proofs.DrivingCells.{driven_below, rail_lag, cell_lag}
use Rattle.timed_world.proofs.lags.wire_lag.Goals as goal

pub get-requires : goal.get-requires
get-requires c =
    let d : DrivenBy c.args.net.now c.args.wire.number c.in-Some.id.number =
    subst (λ (o : Option CellId). IsDriven c.args.net.now (Some c.args.wire.number) (option_map (λ (x : CellId). x.number) o)) c.in-Some.is c.driver_cell.ensures in
    let low = driven_below c.args.net.now c.args.wire.number c.in-Some.id.number d in
    let cells = ap (λ (l : List Cell). length l) c.cells.ensures in
    let net = ap (λ (n : PlainNetlist). length n.cells) c.net-lines.ensures.net in omega arith

pub returns-in-None-clause-value : goal.returns-in-None-clause-value
returns-in-None-clause-value c =
    let d = subst (λ (o : Option CellId). IsDriven c.args.net.now (Some c.args.wire.number) (option_map (λ (x : CellId). x.number) o)) c.in-None.is c.driver_cell.ensures in
    sym (subst (λ w. lag c.args.delays.now c.args.net.now w ≡ 0) d.2 (rail_lag c.args.net.now c.net-lines.ensures.sound.wired c.args.delays.now d.0 d.1))

pub returns-in-Some-clause-value : goal.returns-in-Some-clause-value
returns-in-Some-clause-value c =
    let d : DrivenBy c.args.net.now c.args.wire.number c.in-Some.id.number =
    subst (λ (o : Option CellId). IsDriven c.args.net.now (Some c.args.wire.number) (option_map (λ (x : CellId). x.number) o)) c.in-Some.is c.driver_cell.ensures in
    let there : slice_get c.args.net.now.cells c.in-Some.id.number ≡ Some c.get.result.now =
    subst (λ (n : PlainNetlist). slice_get n.cells c.in-Some.id.number ≡ Some c.get.result.now) c.net-lines.ensures.net
    (subst (λ (l : List Cell). slice_get l c.in-Some.id.number ≡ Some c.get.result.now) c.cells.ensures c.get.ensures) in
    c.of_cell.ensures.value
    ∙ sym (cell_lag c.one_place_a_wire.ensures.driving_cells c.args.net.now c.args.wire.number c.in-Some.id.number c.net-lines.ensures.sound.wired c.args.delays.now c.get.result.now d there)
