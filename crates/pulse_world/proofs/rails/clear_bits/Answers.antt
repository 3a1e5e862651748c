use Rattle.std.proofs.Common.{◌∙◌, length, slice_set, ap, sym, arith, false}
use Rattle.pulse_world.proofs.QueueRoom.{cleared_bits-none, cleared_bits-length, cleared_bits-set, cleared_bits-all}
use Rattle.pulse_world.proofs.rails.clear_bits.Goals as goal

pub loop-number-init : goal.loop-number-init
loop-number-init c = sym (cleared_bits-none c.args.bits.now)

pub set-requires : goal.set-requires
set-requires c =
    let long = ap length c.loop-number.invariant ∙ cleared_bits-length c.args.bits.now c.loop-number.number in
    let low = c.loop-number-test.true in
    let all = c.len-number-end.ensures in
    let id = c.new.ensures in omega arith

pub loop-number-preserved : goal.loop-number-preserved
loop-number-preserved c =
    let low = c.loop-number-test.true in
    let all = c.len-number-end.ensures in
    c.set.ensures ∙ (ap (λ k. slice_set c.loop-number.bits k false) c.new.ensures
    ∙ (ap (λ bs. slice_set bs c.loop-number.number false) c.loop-number.invariant ∙ cleared_bits-set c.args.bits.now c.loop-number.number (omega arith)))

pub returns : goal.returns
returns c =
    let low = c.loop-number-test.false in
    let high = c.loop-number.auto.number-end in
    let all = c.len-number-end.ensures in
    c.loop-number.invariant ∙ cleared_bits-all c.args.bits.now c.loop-number.number (omega arith)
