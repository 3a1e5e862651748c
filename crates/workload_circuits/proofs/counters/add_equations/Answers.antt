-- The equations of one bit more.
use Rattle.std.proofs.Common.{◌∙◌, ap}
use Rattle.source_machine.specs.Machines.{PlainMachine, machine_of}
use Rattle.workload_circuits.specs.Counters.{bit_equations, with_equations}
use Rattle.workload_circuits.proofs.Adding.{more_equations}
use Rattle.workload_circuits.proofs.counters.add_equations.Goals as goal

pub loop-bit-preserved : goal.loop-bit-preserved
loop-bit-preserved c =
    c.in_ok-add_bit.ensures
    ∙ ap (λ (m : PlainMachine). with_equations m (bit_equations c.args.bits c.loop-bit.bit)) c.loop-bit.invariant
    ∙ more_equations (machine_of c.args.raw.now) c.args.bits c.loop-bit.bit
