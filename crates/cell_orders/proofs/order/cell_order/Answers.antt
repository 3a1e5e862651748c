use Rattle.std.proofs.Common.{subst}
use Rattle.dependency_order.specs.Dependencies.{PlainDependencies}
use Rattle.dependency_order.specs.Orders.{IsOrder}
use Rattle.cell_orders.proofs.CellsInOrder.{cell_order_is}
use Rattle.cell_orders.proofs.order.cell_order.Goals as goal

pub returns-clause-cells : goal.returns-clause-cells
returns-clause-cells c =
    cell_order_is c.args.net.now c.in_ok-arrival_order.field-0.items
    (subst (λ (d : PlainDependencies). IsOrder d c.in_ok-arrival_order.field-0.items) c.in_ok-dependencies.ensures c.in_ok-arrival_order.ensures.order)
    c.net-sound.ensures.sound
