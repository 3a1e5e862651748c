use Rattle.std.proofs.Common.{◌≡◌, ◌≤◌, Option, Some, List, length, slice_get, refl, sym, ap, subst, ◌∙◌, arith}
use Rattle.std.specs.Prelude.{IfSome}
use Rattle.pulse_ids.specs.Ids.{CellId}
use Rattle.pulse_ids.proofs.CallerLemmas.{IsIn-place}
use Rattle.cell_netlist.specs.declared.lines.Cell.{Cell}
use Rattle.cell_netlist.specs.Netlists.{PlainNetlist, most_lines}
use Rattle.cell_netlist.proofs.CallerLemmas.{named_below}
use Rattle.junction_report.specs.Walks.{IsPassing}
use Rattle.cell_orders.specs.Needs.{listed}
use Rattle.junction_report.specs.Reports.{numbers_of}
use Rattle.junction_report.specs.Traces.{IsBackTo}
use Rattle.cell_orders.proofs.CallerLemmas.{passing_below}
use Rattle.junction_report.proofs.Tracing.{depth_left, left_falls, after_passing, trace_more}
use Rattle.junction_report.proofs.paths.cells_back_from.Goals as goal

pub loop-next-init : goal.loop-next-init
loop-next-init c = record {
  trace = subst (λ (l : List CellId). IsBackTo c.args.net.now c.args.depths.now (listed c.args.last) (numbers_of l) (listed c.args.last)) (sym c.new-cells.ensures.items) refl;
  passing = c.requires.last;
}

pub get-requires : goal.get-requires
get-requires c =
    let cells : c.cells.result.now ≡ c.args.net.now.cells = c.cells.ensures ∙ ap (λ (n : PlainNetlist). n.cells) c.net-in-Some.ensures.net in
    let passing : IsPassing c.args.net.now c.in-Some.cell.number =
    subst (λ (o : Option CellId). IfSome o (λ cell. IsPassing c.args.net.now cell.number)) c.in-Some.is c.loop-next.invariant.passing in
    omega (arith, ap (λ (l : List Cell). length l) cells, passing_below c.args.net.now c.in-Some.cell.number passing)

pub cell_before-next-requires-clause-small : goal.cell_before-next-requires-clause-small
cell_before-next-requires-clause-small c place =
    let few : length c.args.net.now.cells ≤ most_lines =
    subst (λ (n : PlainNetlist). length n.cells ≤ most_lines) c.net.ensures.net c.wires-few.ensures.lines.cells in
    omega (arith, few, c.requires.depths.small place)

pub cell_before-next-requires-clause-reads : goal.cell_before-next-requires-clause-reads
cell_before-next-requires-clause-reads c wire i =
    let cells : c.cells.result.now ≡ c.args.net.now.cells = c.cells.ensures ∙ ap (λ (n : PlainNetlist). n.cells) c.net-in-Some.ensures.net in
    let at : slice_get c.args.net.now.cells c.in-Some.cell.number ≡ Some c.get.result.now =
    subst (λ (l : List Cell). slice_get l c.in-Some.cell.number ≡ Some c.get.result.now) cells c.get.ensures in
    (named_below c.args.net.now).of_reads c.get.result.now (IsIn-place c.get.result.now c.args.net.now.cells c.in-Some.cell.number at) wire i

pub loop-next-smaller : goal.loop-next-smaller
loop-next-smaller c =
    let cells : c.cells.result.now ≡ c.args.net.now.cells = c.cells.ensures ∙ ap (λ (n : PlainNetlist). n.cells) c.net-in-Some.ensures.net in
    let passing : IsPassing c.args.net.now c.in-Some.cell.number =
    subst (λ (o : Option CellId). IfSome o (λ cell. IsPassing c.args.net.now cell.number)) c.in-Some.is c.loop-next.invariant.passing in
    let at : slice_get c.args.net.now.cells c.in-Some.cell.number ≡ Some c.get.result.now =
    subst (λ (l : List Cell). slice_get l c.in-Some.cell.number ≡ Some c.get.result.now) cells c.get.ensures in
    let before = ap (λ (o : Option CellId). depth_left c.args.depths.now o) c.in-Some.is in
    let falls = left_falls c.args.net.now c.args.depths.now c.net.ensures.sound c.requires.depths c.in-Some.cell c.get.result.now at passing
    c.cell_before-next.result c.cell_before-next.ensures in omega arith

pub loop-next-preserved : goal.loop-next-preserved
loop-next-preserved c =
    let cells : c.cells.result.now ≡ c.args.net.now.cells = c.cells.ensures ∙ ap (λ (n : PlainNetlist). n.cells) c.net-in-Some.ensures.net in
    let passing : IsPassing c.args.net.now c.in-Some.cell.number =
    subst (λ (o : Option CellId). IfSome o (λ cell. IsPassing c.args.net.now cell.number)) c.in-Some.is c.loop-next.invariant.passing in
    let at : slice_get c.args.net.now.cells c.in-Some.cell.number ≡ Some c.get.result.now =
    subst (λ (l : List Cell). slice_get l c.in-Some.cell.number ≡ Some c.get.result.now) cells c.get.ensures in
    record {
      trace = trace_more c.args.net.now c.args.depths.now c.net.ensures.sound c.requires.depths c.in-Some.cell c.get.result.now at passing
          c.cell_before-next.result c.cell_before-next.ensures
          (listed c.args.last) c.loop-next.cells.items c.push.new.self.items c.in_ok-push.ensures.items
          (subst (λ (o : Option CellId). IsBackTo c.args.net.now c.args.depths.now (listed c.args.last) (numbers_of c.loop-next.cells.items) (listed o)) c.in-Some.is c.loop-next.invariant.trace);
      passing = after_passing c.args.net.now c.args.depths.now c.net.ensures.sound c.requires.depths c.in-Some.cell c.get.result.now at passing
          c.cell_before-next.result c.cell_before-next.ensures;
    }
