use Rattle.std.proofs.Common.{◌≡◌, ◌∙◌, Option, Some, None, ap, subst}
use Rattle.std.specs.Prelude.{option_map}
use Rattle.pulse_ids.specs.Ids.{WireId}
use Rattle.cell_netlist.specs.Netlists.{number_of_wires}
use Rattle.timed_world.specs.ArrivalTables.{table_arrival}
use Rattle.timed_world.specs.Bounding.{IsLatestFound}
use Rattle.timed_world.specs.Bounds.{bound_of}
use Rattle.timed_world.proofs.Latest.{bound_is, none_bound}
use Rattle.timed_world.proofs.TableArrivals.{arrivals_are}
use Rattle.timed_world.proofs.bounding.bound_by.Goals as goal

none_is : {X : Type 0} (o : Option X) → ((x : X) → o ≡ Some x → ⊥) → o ≡ None
none_is None some = cc
none_is (Some x) some = absurd (some x cc)

pub returns-in_default : goal.returns-in_default
returns-in_default c =
    let none : c.latest.result ≡ None = none_is c.latest.result c.in_default.not-Some in
    none_bound c.args.delays.now c.args.net.now (table_arrival c.args.delays.now c.args.net.now c.args.table.now)
    (arrivals_are c.readers_of_wires.ensures.places c.args.net.now c.net.ensures.sound c.args.delays.now c.args.table.now c.requires.arrivals) c.new-in_default.result
    (subst (λ (o : Option WireId). IsLatestFound c.args.net.now (table_arrival c.args.delays.now c.args.net.now c.args.table.now) (number_of_wires c.args.net.now)
    (option_map (λ (w : WireId). w.number) o)) none
    c.latest.ensures)
    (c.new-in_default.ensures ∙ ap (bound_of 0) c.new.ensures.items)

pub returns : goal.returns
returns c =
    bound_is c.args.delays.now c.args.net.now (table_arrival c.args.delays.now c.args.net.now c.args.table.now)
    (arrivals_are c.readers_of_wires.ensures.places c.args.net.now c.net.ensures.sound c.args.delays.now c.args.table.now c.requires.arrivals) c.in-Some.last.number c.arrival.result
    c.in_ok-cells.cells.items c.reverse.new.self.items c.new-2.result
    (subst (λ (o : Option WireId). IsLatestFound c.args.net.now (table_arrival c.args.delays.now c.args.net.now c.args.table.now) (number_of_wires c.args.net.now)
    (option_map (λ (w : WireId). w.number) o)) c.in-Some.is
    c.latest.ensures)
    c.in_ok-cells.ensures.path c.arrival.ensures.value c.reverse.ensures.items c.new-2.ensures
