use Rattle.std.proofs.Common.{ap, ◌∙◌, sym, List, map}
use Rattle.std.specs.List.{flat_map}
use Rattle.pulse_ids.specs.Ids.{Lit}
use Rattle.source_machine.specs.Machines.{equation_of}
use Rattle.source_machine.specs.Grounding.{cube_nets}
use Rattle.source_machine.specs.declared.machines.Latch.{Latch}
use Rattle.source_machine.specs.declared.machines.Equation.{Equation}
use Rattle.source_machine.proofs.NetNumbers.{three_parts, nexts_mapped, literals_mapped, all_cubes_mapped}
use Rattle.source_machine.proofs.machines.RawMachine.used_nets.Goals as goal

pub returns : goal.returns
returns c =
    three_parts c.new-nets.ensures.items c.in_ok-push_all_cubes.ensures c.in_ok-push_nexts.ensures c.in_ok-push_literals.ensures
    (ap (λ (l : List Equation). flat_map (λ (equation : Equation). cube_nets (equation_of equation)) l) c.as_slice.ensures.value ∙ sym
    (all_cubes_mapped c.args.self.now.equations.items))
    (ap (λ (l : List Latch). map (λ (latch : Latch). latch.next.id.number) l) c.as_slice-2.ensures.value ∙ sym (nexts_mapped c.args.self.now.latches.items))
    (ap (λ (l : List Lit). map (λ (literal : Lit). literal.id.number) l) c.as_slice-3.ensures.value ∙ sym (literals_mapped c.args.self.now.outputs.items))
