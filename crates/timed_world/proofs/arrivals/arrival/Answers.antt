use Rattle.std.proofs.Common.{◌∙◌, ◌∷◌, [], sym, ap, arith}
use Rattle.std.proofs.lemmas.Option.{get_or_from_slice_get}
use Rattle.cell_netlist.specs.declared.lines.Driver.{Driver}
use Rattle.timed_world.specs.ArrivalTables.{first_arrival}
use Rattle.timed_world.proofs.DrivingCells.{driven_by, driven_below, gate_place}
use Rattle.timed_world.proofs.TableArrivals.{gate_arrival}
use Rattle.timed_world.proofs.arrivals.arrival.Goals as goal

pub get-requires : goal.get-requires
get-requires c =
    let d = driven_by c.args.net.now c.args.wire.number c.driver.result c.in-Out.id.number c.driver.ensures (gate_place c.driver.result c.in-Out.id c.in-Out.is) in
    let low = driven_below c.args.net.now c.args.wire.number c.in-Out.id.number d in
    let width = c.requires.width in omega (arith, low, width)

pub returns-in-Out-clause-value : goal.returns-in-Out-clause-value
returns-in-Out-clause-value c =
    sym (ap (first_arrival c.args.delays.now c.args.table.now) c.driver.ensures ∙ gate_arrival c.args.delays.now c.args.table.now c.driver.result c.in-Out.id c.in-Out.is
    ∙ get_or_from_slice_get c.args.table.now c.in-Out.id.number c.get.result.now 0 c.get.ensures)

pub returns-in-Out-clause-small : goal.returns-in-Out-clause-small
returns-in-Out-clause-small c =
    let most = c.requires.small c.in-Out.id.number in
    let is = get_or_from_slice_get c.args.table.now c.in-Out.id.number c.get.result.now 0 c.get.ensures in omega (arith, most, is)

pub returns-in-Input-clause-value : goal.returns-in-Input-clause-value
returns-in-Input-clause-value c =
    sym (ap (first_arrival c.args.delays.now c.args.table.now) (c.driver.ensures ∙ ap (λ (p : Driver). p ∷ []) c.in-Input.is))

pub returns-in-Q-clause-value : goal.returns-in-Q-clause-value
returns-in-Q-clause-value c =
    c.of.ensures.value ∙ sym (ap (first_arrival c.args.delays.now c.args.table.now) (c.driver.ensures ∙ ap (λ (p : Driver). p ∷ []) c.in-Q.is))

pub returns-in-N-clause-value : goal.returns-in-N-clause-value
returns-in-N-clause-value c =
    c.of-in-N.ensures.value ∙ sym (ap (first_arrival c.args.delays.now c.args.table.now) (c.driver.ensures ∙ ap (λ (p : Driver). p ∷ []) c.in-N.is))
