-- One output rail more.
use Rattle.std.proofs.Common.{◌≡◌, Some, if◌then◌else◌, slice_get, subst, rules, arith}
use Rattle.pulse_traces.specs.SimulationTexts.{digit_of}
use Rattle.pulse_traces.proofs.Noting.{noted-more, counted-more, counted-few}
use Rattle.pulse_traces.proofs.digits.note_pulses.Goals as goal

pub loop-number-preserved : goal.loop-number-preserved
loop-number-preserved c =
    let counted = c.args.world.now.counted in
    let at = c.loop-number.number in
    let pulsed = c.pulsed-pulsed.result in
    let is = subst (λ n. slice_get counted n ≡ Some (if pulsed then 1 else 0)) c.new.ensures c.pulsed-pulsed.ensures in
    let width = c.loop-number.invariant.width in
    let within = c.loop-number-test.true in
    record {
      width = search rules;
      noted = noted-more digit_of c.loop-number.digits.items counted at (if pulsed then 1 else 0) c.digit.result (omega arith) c.loop-number.invariant.noted is c.digit.ensures;
      counted = counted-more counted at c.loop-number.count pulsed is c.loop-number.invariant.counted;
      few = counted-few at c.loop-number.count pulsed c.loop-number.invariant.few;
    }
