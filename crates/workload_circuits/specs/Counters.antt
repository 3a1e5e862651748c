-- A counter: it counts the cycles in which its one input is 1. A bit changes where it takes what comes into it, and the
-- carry goes on to the next one.
use Rattle.std.specs.Prelude.{ℕ, zero, suc, ◌+◌, ◌*◌, List, [], ◌∷◌, ◌++◌, true, false, map, None}
use Rattle.std.specs.List.{flat_map}
use Rattle.pulse_ids.specs.Lists.{upto}
use Rattle.source_machine.specs.Machines.{PlainLiteral, PlainLatch, PlainEquation, PlainMachine}
use Rattle.source_machine.specs.Examples.{plain, inverse}

-- the net that holds a bit
abbrev pub held : ℕ → ℕ
held bit = 2 + bit

-- the net that is 1 where a bit and what comes into it are 1
abbrev pub carry : ℕ → ℕ → ℕ
carry bits bit = bits + 2 + 3 * bit

-- the net that is 1 where a bit and what comes into it are 0
abbrev pub neither : ℕ → ℕ → ℕ
neither bits bit = carry bits bit + 1

-- the net that is 1 where just one of both is 1, which is what the bit is next
abbrev pub toggled : ℕ → ℕ → ℕ
toggled bits bit = carry bits bit + 2

-- the net that comes into a bit: the input into the lowest one, and into another the carry of the bit below
abbrev pub incoming : ℕ → ℕ → ℕ
incoming bits zero = 1
incoming bits (suc bit) = carry bits bit

-- the and of two literals
abbrev pub conjunction : ℕ → PlainLiteral → PlainLiteral → PlainEquation
conjunction net first second = record { net = net; on = true; cubes = (first ∷ second ∷ []) ∷ [] }

-- a bit is 0 at first
abbrev pub bit_latch : ℕ → ℕ → PlainLatch
bit_latch bits bit = record { out = held bit; init = false; next = plain (toggled bits bit) }

-- the equations of a bit
abbrev pub bit_equations : ℕ → ℕ → List PlainEquation
bit_equations bits bit =
    conjunction (carry bits bit) (plain (held bit)) (plain (incoming bits bit)) ∷
    conjunction (neither bits bit) (inverse (held bit)) (inverse (incoming bits bit)) ∷
    conjunction (toggled bits bit) (inverse (carry bits bit)) (inverse (neither bits bit)) ∷ []

-- the latches of the lowest bits, so many of them
abbrev pub counter_latches : ℕ → ℕ → List PlainLatch
counter_latches bits count = map (bit_latch bits) (upto count)

-- the outputs of the lowest bits
abbrev pub counter_outputs : ℕ → List PlainLiteral
counter_outputs count = map (λ bit. plain (held bit)) (upto count)

-- the equations of the lowest bits
abbrev pub counter_equations : ℕ → ℕ → List PlainEquation
counter_equations bits count = flat_map (bit_equations bits) (upto count)

-- a counter of so many bits; its outputs are the bits, the lowest first
abbrev pub counter : ℕ → PlainMachine
counter bits = record {
  nets = 4 * bits + 1;
  inputs = 1 ∷ [];
  latches = counter_latches bits bits;
  equations = counter_equations bits bits;
  outputs = counter_outputs bits;
  input_names = None ∷ [];
  output_names = map (λ output. None) (counter_outputs bits);
}

-- further latches
abbrev pub with_latches : PlainMachine → List PlainLatch → PlainMachine
with_latches machine latches = record machine { latches = machine.latches ++ latches }

-- further outputs, which have no names
abbrev pub with_outputs : PlainMachine → List PlainLiteral → PlainMachine
with_outputs machine outputs =
    record machine { outputs = machine.outputs ++ outputs; output_names = machine.output_names ++ map (λ output. None) outputs }

-- further equations
abbrev pub with_equations : PlainMachine → List PlainEquation → PlainMachine
with_equations machine equations = record machine { equations = machine.equations ++ equations }
