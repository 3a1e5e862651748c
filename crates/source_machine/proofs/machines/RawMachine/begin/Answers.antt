use Rattle.std.proofs.Common.{inr, List, map, replicate, false, sym, ◌∙◌, ap, subst, arith}
use Rattle.pulse_ids.specs.Ids.{NetId}
use Rattle.pulse_ids.specs.Lists.{IsIn}
use Rattle.pulse_ids.proofs.CallerLemmas.{IsIn-left, IsIn-right}
use Rattle.source_machine.specs.declared.machines.Latch.{Latch}
use Rattle.source_machine.specs.Machines.{machine_of}
use Rattle.source_machine.specs.Evaluating.{IsGiven}
use Rattle.source_machine.proofs.NetNumbers.{outs_mapped}
use Rattle.source_machine.proofs.CallerLemmasOnRanges.{start_fit}
use Rattle.source_machine.proofs.Evaluating.{started}
use Rattle.source_machine.proofs.machines.RawMachine.begin.Goals as goal

pub give_inputs-requires-clause-fit : goal.give_inputs-requires-clause-fit
give_inputs-requires-clause-fit c net i =
    omega (
      arith,
      c.fill.ensures.len,
      c.requires.room,
      start_fit (machine_of c.args.self.now) c.requires.fits net
          (inr (IsIn-left net (machine_of c.args.self.now).inputs _ (subst (λ (l : List NetId). IsIn net (map (λ (x : NetId). x.number) l)) c.as_slice.ensures.value i))),
    )

pub give_state-requires-clause-fit : goal.give_state-requires-clause-fit
give_state-requires-clause-fit c net i =
    omega (
      arith,
      c.give_inputs.ensures.width,
      c.fill.ensures.len,
      c.requires.room,
      start_fit (machine_of c.args.self.now) c.requires.fits net
          (inr (IsIn-right net (machine_of c.args.self.now).inputs _
          (subst (λ l. IsIn net l) (ap (λ (l : List Latch). map (λ (latch : Latch). latch.out.number) l) c.as_slice-2.ensures.value ∙ sym (outs_mapped c.args.self.now.latches.items)) i))),
    )

pub returns : goal.returns
returns c =
    started (machine_of c.args.self.now) c.args.state.now c.args.vector.now c.fill.new.self c.give_inputs.new.bits c.give_state.new.bits
    (c.fill.ensures.after (λ y e. e) ∙ ap (λ n. replicate n false) c.requires.room)
    (subst (λ (l : List NetId). IsGiven c.fill.new.self (map (λ (x : NetId). x.number) l) c.args.vector.now c.give_inputs.new.bits) c.as_slice.ensures.value
    c.give_inputs.ensures) (subst (λ l. IsGiven c.give_inputs.new.bits l c.args.state.now c.give_state.new.bits)
    (ap (λ (l : List Latch). map (λ (latch : Latch). latch.out.number) l) c.as_slice-2.ensures.value ∙ sym (outs_mapped c.args.self.now.latches.items)) c.give_state.ensures)
