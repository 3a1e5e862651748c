use Rattle.std.proofs.Common.{map, List, sym, ◌∙◌, ap, subst, arith}
use Rattle.pulse_ids.specs.Lists.{IsIn}
use Rattle.source_machine.specs.declared.machines.Equation.{Equation}
use Rattle.source_machine.specs.Machines.{machine_of}
use Rattle.source_machine.specs.LowestNets.{IsFirst, IsUnknownIn}
use Rattle.source_machine.proofs.CallerLemmasOnRanges.{equation_in_range}
use Rattle.source_machine.proofs.NetNumbers.{equations_mapped}
use Rattle.source_machine.proofs.FaultyNets.{ungrounded_is}
use Rattle.source_machine.proofs.machines.RawMachine.ungrounded.Goals as goal

pub first_unknown-requires : goal.first_unknown-requires
first_unknown-requires c net i =
    omega (
      arith,
      c.requires.order.width,
      equation_in_range (machine_of c.args.self.now) c.requires.fits net
          (subst (λ l. IsIn net l) (ap (λ (l : List Equation). map (λ (equation : Equation). equation.net.number) l) c.as_slice.ensures.value ∙ sym
          (equations_mapped c.args.self.now.equations.items)) i),
    )

pub returns : goal.returns
returns c =
    ungrounded_is (machine_of c.args.self.now) c.args.order.now c.first_unknown.result c.requires.order
    (subst (λ l. IsFirst (IsUnknownIn l c.args.order.now.known) c.first_unknown.result)
    (ap (λ (l : List Equation). map (λ (equation : Equation). equation.net.number) l) c.as_slice.ensures.value ∙ sym
    (equations_mapped c.args.self.now.equations.items)) c.first_unknown.ensures)
