use Rattle.junction_report.proofs.Levels.{LevelsTo}
use Rattle.junction_report.proofs.depths.depth_table.Given as goal

-- the cells so far have their depths
abbrev pub invariant-loop-item : goal.invariant-loop-item
invariant-loop-item l = LevelsTo l.net l.measured l.order.items l.item-index l.depths
