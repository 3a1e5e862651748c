use Rattle.std.proofs.Common.{◌≡◌, ◌++◌, List, Bool, length, take, drop, map, sym, ◌∙◌, ap, subst, arith}
use Rattle.pulse_ids.specs.Lists.{bit_at}
use Rattle.source_machine.specs.declared.machines.Latch.{Latch}
use Rattle.source_machine.specs.Machines.{PlainMachine, literal_of}
use Rattle.source_machine.specs.Runs.{literal_value, Agrees, next_state}
use Rattle.source_machine.specs.Evaluating.{IsEvaluated}
use Rattle.source_machine.proofs.Uniqueness.{same_valuation}
use Rattle.source_machine.proofs.Evaluating.{written_back, evaluated_agrees, next_mapped}
use Rattle.source_machine.proofs.valuations.step.Goals as goal

pub returns : goal.returns
returns c =
    let whole : take c.room.inside.bits.len (c.evaluate.new.bits ++ drop (length c.evaluate.new.bits) c.room.inside.bits.items) ≡ c.evaluate.new.bits =
    written_back c.room.inside.bits.len c.evaluate.new.bits _
    (omega (
      arith,
      c.evaluate.ensures.width,
      c.begin.ensures.width,
      c.requires.room,
      ap (λ (m : PlainMachine). m.nets) c.raw-raw.ensures.raw,
      ap (λ (l : List Bool). length l) c.room.view_is,
    )) in
    let evaluated : IsEvaluated c.args.machine.now c.args.state.now c.args.inputs.now c.order.result.now c.evaluate.new.bits =
    subst (λ (m : PlainMachine). IsEvaluated m c.args.state.now c.args.inputs.now c.order.result.now c.evaluate.new.bits) c.raw-raw.ensures.raw
    (c.evaluate.ensures.evaluated c.args.state.now c.args.inputs.now c.begin.ensures) in
    let agrees : Agrees c.args.machine.now c.args.state.now c.args.inputs.now c.evaluate.new.bits = evaluated_agrees c.args.machine.now c.raw-raw.ensures.fits
    c.raw-raw.ensures.founded c.args.state.now c.args.inputs.now c.requires.inputs c.requires.state c.order.result.now c.order.ensures c.evaluate.new.bits evaluated in
    record {
      agrees = subst (λ bits. Agrees c.args.machine.now c.args.state.now c.args.inputs.now bits) (sym whole) agrees;
      only = λ valuation other. same_valuation c.args.machine.now c.raw-raw.ensures.founded c.args.state.now c.args.inputs.now valuation c.evaluate.new.bits other agrees ∙ sym whole;
      next = c.advance.ensures ∙ ap (λ (l : List Latch). map (λ latch. literal_value (bit_at c.evaluate.new.bits) (literal_of latch.next)) l) c.as_slice.ensures.value ∙
          sym (next_mapped c.raw-raw.result.now c.evaluate.new.bits) ∙ ap (λ (m : PlainMachine). next_state m c.evaluate.new.bits) c.raw-raw.ensures.raw ∙ ap
          (λ bits. next_state c.args.machine.now bits) (sym whole);
    }
