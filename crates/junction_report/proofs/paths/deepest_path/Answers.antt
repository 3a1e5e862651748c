use Rattle.std.proofs.Common.{◌≤◌, List, length, sym, subst, arith}
use Rattle.pulse_ids.specs.Ids.{CellId}
use Rattle.cell_netlist.specs.Netlists.{PlainNetlist, most_lines}
use Rattle.junction_report.specs.Paths.{IsPath}
use Rattle.junction_report.specs.Reports.{numbers_of}
use Rattle.junction_report.proofs.Sizes.{lasts_pass, path_turned}
use Rattle.junction_report.proofs.paths.deepest_path.Goals as goal

pub cells_back_from-requires-clause-last : goal.cells_back_from-requires-clause-last
cells_back_from-requires-clause-last c = lasts_pass c.args.net.now c.net.ensures.sound c.args.depths.now c.requires c.deepest-last.result c.deepest-last.ensures

pub new-requires : goal.new-requires
new-requires c =
    let few : length c.args.net.now.cells ≤ most_lines =
    subst (λ (n : PlainNetlist). length n.cells ≤ most_lines) c.net.ensures.net c.wires-few.ensures.lines.cells in
    let found = (path_turned c.args.net.now c.net.ensures.sound c.args.depths.now c.requires c.deepest-last.result c.deepest-last.ensures c.in_ok-cells.cells.items
    c.reverse.new.self.items c.in_ok-cells.ensures c.reverse.ensures.items).1 in omega arith

pub returns : goal.returns
returns c =
    subst (λ (l : List CellId). IsPath c.args.net.now (numbers_of l)) (sym c.new.ensures)
    (path_turned c.args.net.now c.net.ensures.sound c.args.depths.now c.requires c.deepest-last.result c.deepest-last.ensures c.in_ok-cells.cells.items
    c.reverse.new.self.items c.in_ok-cells.ensures c.reverse.ensures.items).0
