use Rattle.std.proofs.Common.{◌≡◌, List, ℕ, map, sym, ◌∙◌, ap, subst}
use Rattle.dependency_order.specs.Agendas.{AllowsLowest}
use Rattle.dependency_order.specs.Dependencies.{PlainDependencies}
use Rattle.dependency_order.specs.Orders.{IsOrder, IsChosen}
use Rattle.source_machine.specs.declared.machines.Equation.{Equation}
use Rattle.source_machine.specs.Machines.{machine_of}
use Rattle.source_machine.specs.Dependencies.{dependencies_of}
use Rattle.graph_build.specs.Orders.{equation_nets, IsBuildOrder}
use Rattle.graph_build.proofs.BuildOrders.{nets_of, is_build_order}
use Rattle.graph_build.proofs.orders.build_order.Goals as goal

pub returns : goal.returns
returns c =
    let keys : c.in_ok-nets.nets.items ≡ equation_nets (machine_of c.args.machine.now) = c.in_ok-nets.ensures
    ∙ ap (map (λ (equation : Equation). equation.net.number)) c.as_slice.ensures.value ∙ nets_of c.args.machine.now.equations.items in
    let ordered : IsOrder (dependencies_of (machine_of c.args.machine.now)) c.in_ok-order.order.items =
    subst (λ (d : PlainDependencies). IsOrder d c.in_ok-order.order.items) c.in_ok-dependencies.ensures c.in_ok-order.ensures.order.order in
    let chosen : IsChosen (AllowsLowest (equation_nets (machine_of c.args.machine.now))) (dependencies_of (machine_of c.args.machine.now)) c.in_ok-order.order.items =
    subst (λ (k : List ℕ). IsChosen (AllowsLowest k) (dependencies_of (machine_of c.args.machine.now)) c.in_ok-order.order.items) keys
    (subst (λ (d : PlainDependencies). IsChosen (AllowsLowest c.in_ok-nets.nets.items) d c.in_ok-order.order.items) c.in_ok-dependencies.ensures c.in_ok-order.ensures.lowest) in
    subst (IsBuildOrder (machine_of c.args.machine.now)) (sym c.into_items.ensures)
    (is_build_order (machine_of c.args.machine.now) c.requires.founded c.in_ok-order.order.items ordered chosen)
