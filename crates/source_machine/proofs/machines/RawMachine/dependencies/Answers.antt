use Rattle.std.proofs.Common.{◌+◌, ◌∙◌, ap, sym, subst}
use Rattle.dependency_order.specs.Dependencies.{PlainDependencies, AreBelow}
use Rattle.source_machine.specs.Machines.{machine_of}
use Rattle.source_machine.proofs.OrderedEquations.{starts_are_below}
use Rattle.source_machine.proofs.machines.RawMachine.dependencies.Goals as goal

pub start-requires : goal.start-requires
start-requires c =
    subst (λ n. AreBelow n c.as_slice.result.now) (sym (ap (λ (d : PlainDependencies). d.count) c.in_ok-dependencies.ensures ∙ c.net_count.ensures))
    (subst (λ l. AreBelow (c.args.self.now.nets + 1) l) (sym (c.as_slice.ensures.value ∙ c.in_ok-starts.ensures)) (starts_are_below (machine_of c.args.self.now) c.requires.fits))
