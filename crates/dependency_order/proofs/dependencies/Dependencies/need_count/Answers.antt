use Rattle.std.proofs.Common.{arith, ◌≡◌, subst}
use Rattle.dependency_order.specs.Lists.{total}
use Rattle.dependency_order.specs.Dependencies.{PlainDependencies}
use Rattle.dependency_order.proofs.Cuts.{lists_total}
use Rattle.dependency_order.proofs.dependencies.Dependencies.need_count.Goals as goal

pub returns : goal.returns
returns c =
    subst (λ (d : PlainDependencies). c.total.result ≡ total d.needs) c.self.view_is (omega
    (arith, c.total.ensures, lists_total 0 c.self.inside.needs.ends.items c.self.inside.needs.values.items c.self.invariant.0))
