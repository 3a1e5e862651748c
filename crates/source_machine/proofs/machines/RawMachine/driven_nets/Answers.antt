use Rattle.std.proofs.Common.{ap, ◌∙◌, sym, List, map}
use Rattle.pulse_ids.specs.Ids.{NetId}
use Rattle.source_machine.specs.declared.machines.Latch.{Latch}
use Rattle.source_machine.specs.declared.machines.Equation.{Equation}
use Rattle.source_machine.proofs.NetNumbers.{three_parts, outs_mapped, equations_mapped}
use Rattle.source_machine.proofs.machines.RawMachine.driven_nets.Goals as goal

pub returns : goal.returns
returns c =
    three_parts c.new-nets.ensures.items c.in_ok-push_inputs.ensures c.in_ok-push_outs.ensures c.in_ok-push_equations.ensures
    (ap (λ (l : List NetId). map (λ (net : NetId). net.number) l) c.as_slice.ensures.value)
    (ap (λ (l : List Latch). map (λ (latch : Latch). latch.out.number) l) c.as_slice-2.ensures.value ∙ sym (outs_mapped c.args.self.now.latches.items))
    (ap (λ (l : List Equation). map (λ (equation : Equation). equation.net.number) l) c.as_slice-3.ensures.value ∙ sym (equations_mapped c.args.self.now.equations.items))
