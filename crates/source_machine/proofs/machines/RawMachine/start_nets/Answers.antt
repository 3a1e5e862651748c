use Rattle.std.proofs.Common.{ap, refl, ◌∙◌, sym, List, map}
use Rattle.pulse_ids.specs.Ids.{NetId}
use Rattle.source_machine.specs.declared.machines.Latch.{Latch}
use Rattle.source_machine.proofs.NetNumbers.{three_parts, outs_mapped}
use Rattle.source_machine.proofs.machines.RawMachine.start_nets.Goals as goal

pub returns : goal.returns
returns c =
    three_parts c.new-nets.ensures.items c.in_ok-push.ensures.items c.in_ok-push_inputs.ensures c.in_ok-push_outs.ensures refl
    (ap (λ (l : List NetId). map (λ (net : NetId). net.number) l) c.as_slice.ensures.value)
    (ap (λ (l : List Latch). map (λ (latch : Latch). latch.out.number) l) c.as_slice-2.ensures.value ∙ sym (outs_mapped c.args.self.now.latches.items))
