use Rattle.std.proofs.Common.{◌≡◌, ◌≤◌, map, take, length, sum}
use Rattle.pulse_traces.specs.SimulationTexts.{digit_of}
use Rattle.pulse_traces.proofs.digits.note_pulses.Given as goal

-- the characters so far are those of the first output rails, and so many of these pulsed
abbrev pub invariant-loop-number : goal.invariant-loop-number
invariant-loop-number l = record {
  width : length l.digits.items ≡ l.rails;
  noted : take l.number l.digits.items ≡ take l.number (map digit_of l.world.counted);
  counted : l.count ≡ sum (take l.number l.world.counted);
  few : l.count ≤ l.number;
}
