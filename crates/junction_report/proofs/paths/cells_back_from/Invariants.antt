use Rattle.std.specs.Prelude.{IfSome}
use Rattle.cell_orders.specs.Needs.{listed}
use Rattle.junction_report.specs.Reports.{numbers_of}
use Rattle.junction_report.specs.Traces.{IsBackTo}
use Rattle.junction_report.specs.Walks.{IsPassing}
use Rattle.junction_report.proofs.Tracing.{depth_left}
use Rattle.junction_report.proofs.paths.cells_back_from.Given as goal

-- the next cell is less deep than the one before
abbrev pub decreases-loop-next : goal.decreases-loop-next
decreases-loop-next l = depth_left l.depths l.next

-- the cells so far lead back from the last one, and the next one is an LA, FA or splitter
abbrev pub invariant-loop-next : goal.invariant-loop-next
invariant-loop-next l = record {
  trace : IsBackTo l.net l.depths (listed l.fn.last) (numbers_of l.cells.items) (listed l.next);
  passing : IfSome l.next (λ cell. IsPassing l.net cell.number);
}
