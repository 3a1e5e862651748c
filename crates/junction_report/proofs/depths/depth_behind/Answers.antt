use Rattle.std.proofs.Common.{map, get_or, ap, arith}
use Rattle.std.proofs.lemmas.Option.{get_or_from_slice_get}
use Rattle.junction_report.specs.Depths.{most}
use Rattle.cell_orders.proofs.CallerLemmas.{fed_below}
use Rattle.junction_report.proofs.depths.depth_behind.Goals as goal

pub get-requires : goal.get-requires
get-requires c = omega (arith, c.requires.width, fed_below c.args.net.now c.args.wire.number c.in-Some.cell.number c.in-Some.ensures)

pub returns-in-Some-clause-value : goal.returns-in-Some-clause-value
returns-in-Some-clause-value c =
    let same = ap (λ l. most (map (λ x. get_or c.args.depths.now x 0) l)) c.in-Some.ensures in
    let its = get_or_from_slice_get c.args.depths.now c.in-Some.cell.number c.get.result.now 0 c.get.ensures in omega arith

pub returns-in-Some-clause-small : goal.returns-in-Some-clause-small
returns-in-Some-clause-small c =
    let its = get_or_from_slice_get c.args.depths.now c.in-Some.cell.number c.get.result.now 0 c.get.ensures in
    omega (arith, its, c.requires.small c.in-Some.cell.number)
