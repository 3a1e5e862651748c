use Rattle.std.proofs.Common.{List, ◌∙◌, ap, sym, subst, map}
use Rattle.cell_netlist.specs.declared.lines.Rail.{Rail}
use Rattle.cell_netlist.specs.Netlists.{wire_of, number_of_wires}
use Rattle.dependency_order.specs.Dependencies.{PlainDependencies, AreBelow}
use Rattle.rail_checker.proofs.CellNeeds.{starts_below}
use Rattle.rail_checker.proofs.grounding.dependencies.Goals as goal

pub start-requires : goal.start-requires
start-requires c =
    subst (λ n. AreBelow n c.as_slice.result.now) (sym (ap (λ (d : PlainDependencies). d.count) c.in_ok-dependencies.ensures ∙ c.wires-3.ensures.value))
    (subst (λ l. AreBelow (number_of_wires c.args.net.now) l)
    (sym (c.as_slice.ensures.value ∙ c.in_ok-starts.ensures ∙ ap (λ (l : List Rail). map wire_of l) c.input_rails.ensures)) (starts_below c.args.net.now))
