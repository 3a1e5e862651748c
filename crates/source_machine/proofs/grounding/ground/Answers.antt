use Rattle.std.proofs.Common.{refl, subst, sym}
use Rattle.dependency_order.specs.Orders.{IsOrder}
use Rattle.source_machine.specs.Machines.{machine_of}
use Rattle.source_machine.specs.LowestNets.{IsFirst}
use Rattle.source_machine.specs.Dependencies.{dependencies_of}
use Rattle.source_machine.specs.Grounding.{IsLowest, IsDrivenTwice, IsUndriven, IsUngrounded, IsWellFounded}
use Rattle.source_machine.proofs.Verdicts.{founded_if}
use Rattle.source_machine.proofs.LowestNets.{never_when}
use Rattle.source_machine.proofs.grounding.ground.Goals as goal

pub returns-in-Some-2-clause-refused : goal.returns-in-Some-2-clause-refused
returns-in-Some-2-clause-refused c = (
  never_when (IsDrivenTwice (machine_of c.args.raw)) c.in_ok-net.field-0 c.in_default.not-Some c.in_ok-net.ensures,
  subst (λ n. IsLowest (IsUndriven (machine_of c.args.raw)) n) (sym c.new-in-Some-2.ensures)
      (subst (λ found. IsFirst (IsUndriven (machine_of c.args.raw)) found) c.in-Some-2.is c.in_ok-net-2.ensures),
)

pub invariant_of-result : goal.invariant_of-result
invariant_of-result c =
    let founded : IsWellFounded (machine_of c.args.raw) =
    founded_if (machine_of c.args.raw) c.requires
    (never_when (IsDrivenTwice (machine_of c.args.raw)) c.in_ok-net.field-0 c.in_default.not-Some c.in_ok-net.ensures)
    (never_when (IsUndriven (machine_of c.args.raw)) c.in_ok-net-2.field-0 c.in_default-2.not-Some c.in_ok-net-2.ensures)
    (never_when (IsUngrounded (machine_of c.args.raw)) c.ungrounded.result c.in_default-ungrounded.not-Some c.ungrounded.ensures) in
    (c.requires, founded, subst (λ l. IsOrder (dependencies_of (machine_of c.args.raw)) l) (sym c.into_items-order.ensures) c.in_ok-order.ensures.order)

pub returns-clause-accepted : goal.returns-clause-accepted
returns-clause-accepted c = (
  refl,
  founded_if (machine_of c.args.raw) c.requires
      (never_when (IsDrivenTwice (machine_of c.args.raw)) c.in_ok-net.field-0 c.in_default.not-Some c.in_ok-net.ensures)
      (never_when (IsUndriven (machine_of c.args.raw)) c.in_ok-net-2.field-0 c.in_default-2.not-Some c.in_ok-net-2.ensures)
      (never_when (IsUngrounded (machine_of c.args.raw)) c.ungrounded.result c.in_default-ungrounded.not-Some c.ungrounded.ensures),
)
