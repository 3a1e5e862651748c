use Rattle.std.proofs.Common.{◌≡◌, ℕ, List, length, nat_lt, sym, ap, subst, ◌∙◌}
use Rattle.std.specs.List.{filter}
use Rattle.std.proofs.lemmas.Result.{IfOk-weaker}
use Rattle.pulse_ids.specs.Ids.{CellId}
use Rattle.cell_netlist.specs.declared.lines.Cell.{Cell}
use Rattle.rail_checker.specs.DrivingCells.{HoldsDrivers}
use Rattle.rail_checker.proofs.DriverTable.{drivers_held}
use Rattle.rail_checker.proofs.driving_cells.driving_cells.Goals as goal

pub returns : goal.returns
returns c =
    let held = drivers_held c.args.net.now c.in_ok-table.table c.in_ok-table.ensures c.wires-most.ensures.netlist.wires in
    let count : c.len.result ≡ length c.args.net.now.cells = c.len.ensures ∙ ap (λ (l : List Cell). length l) c.cells.ensures in
    IfOk-weaker c.cells_within.result (λ cells. cells.items ≡ filter (λ id. nat_lt id.number c.len.result) c.items.result.now) (λ drivers. HoldsDrivers c.args.net.now drivers.items)
    (λ drivers e.
    subst (λ (l : List CellId). HoldsDrivers c.args.net.now l)
    (sym (e ∙ ap (λ (n : ℕ). filter (λ id. nat_lt id.number n) c.items.result.now) count
    ∙ ap (λ (l : List CellId). filter (λ id. nat_lt id.number (length c.args.net.now.cells)) l) c.items.ensures)) held)
    c.cells_within.ensures
