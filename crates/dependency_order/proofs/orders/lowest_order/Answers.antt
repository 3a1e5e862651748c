use Rattle.std.proofs.Common.{subst, IfOk}
use Rattle.dependency_order.specs.Agendas.{PlainLowest, AllowsLowest}
use Rattle.dependency_order.specs.Orders.{IsChosen}
use Rattle.dependency_order.proofs.orders.lowest_order.Goals as goal

pub returns-clause-lowest : goal.returns-clause-lowest
returns-clause-lowest c =
    subst (λ (agenda : PlainLowest). IfOk c.order_of.result (λ order. IsChosen (AllowsLowest agenda.keys) c.args.dependencies.now order.items)) c.in_ok-agenda.ensures c.order_of.ensures.chosen
