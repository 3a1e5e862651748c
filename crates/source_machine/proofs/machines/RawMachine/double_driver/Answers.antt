use Rattle.std.proofs.Common.{◌∙◌, subst, arith}
use Rattle.pulse_ids.specs.Lists.{IsIn}
use Rattle.source_machine.specs.Machines.{machine_of}
use Rattle.source_machine.proofs.CallerLemmasOnRanges.{driven_fit}
use Rattle.source_machine.proofs.machines.RawMachine.double_driver.Goals as goal

pub first_twice-requires-clause-fit : goal.first_twice-requires-clause-fit
first_twice-requires-clause-fit c net i =
    omega (arith, c.net_count.ensures, driven_fit (machine_of c.args.self.now) c.requires net (subst (λ l. IsIn net l) (c.as_slice.ensures.value ∙ c.in_ok-driven.ensures) i))
