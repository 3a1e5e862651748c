use Rattle.std.proofs.Common.{take, ap, ◌∙◌, arith}
use Rattle.std.proofs.lemmas.List.{length-take-le}
use Rattle.junction_report.specs.Counts.{all_in}
use Rattle.junction_report.proofs.Counting.{all_counted, counted_step}
use Rattle.junction_report.proofs.counts.count_cells.Goals as goal

pub add-requires : goal.add-requires
add-requires c =
    let all = ap all_in c.loop-cell.invariant ∙ all_counted (take c.loop-cell.cell-index c.args.cells.now) in
    omega (arith, all, length-take-le c.loop-cell.cell-index c.args.cells.now (omega arith), c.requires)

pub loop-cell-preserved : goal.loop-cell-preserved
loop-cell-preserved c =
    counted_step c.args.cells.now c.loop-cell.cell-index _ c.loop-cell.counts c.add.new.counts (omega arith) c.loop-cell.invariant c.add.ensures
