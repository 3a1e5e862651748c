-- That a counter is never refused.
use Rattle.std.specs.Prelude.{◌≡◌, ℕ, ◌≤◌}
use Rattle.source_machine.specs.declared.grounding.Grounding.{Grounding}
use Rattle.source_machine.specs.declared.grounding.Grounding.TheVariants.{NoMemory}
use Rattle.source_machine.specs.Fitting.{Fits}
use Rattle.source_machine.specs.Grounding.{IsWellFounded}
use Rattle.source_machine.specs.Refusals.{IsRefusedFor}
use Rattle.workload_circuits.specs.Counters.{counter}

-- in a counter of up to 4,096 bits each number is in range
abbrev pub CountersFit : Type 0
CountersFit = (bits : ℕ) → bits ≤ 4096 → Fits (counter bits)

-- each of its nets is driven once, and none waits for itself
abbrev pub CountersAreFounded : Type 0
CountersAreFounded = (bits : ℕ) → bits ≤ 4096 → IsWellFounded (counter bits)

-- nothing but want of memory refuses it
abbrev pub CountersAreNotRefused : Type 0
CountersAreNotRefused =
    (bits : ℕ) → bits ≤ 4096 → (refusal : Grounding) → IsRefusedFor (counter bits) refusal → refusal ≡ NoMemory
