-- What a machine computes. A valuation is the list of the bits of the nets 0 to `nets`.
use Rattle.std.specs.Prelude.{◌≡◌, ℕ, ◌+◌, List, [], ◌∷◌, ◌++◌, Bool, false, not, if◌then◌else◌, map, length, slice_index_or, ⊤}
use Rattle.std.specs.List.{list_any, list_all}
use Rattle.pulse_ids.specs.Lists.{bit_at, IsIn}
use Rattle.source_machine.specs.Machines.{PlainLiteral, PlainEquation, PlainMachine}

-- the bit of a literal's net, or the complement where the literal is negated
abbrev pub literal_value : (ℕ → Bool) → PlainLiteral → Bool
literal_value bit literal = if literal.negated then not (bit literal.net) else bit literal.net

-- whether all literals of a cube are 1
abbrev pub cube_value : (ℕ → Bool) → List PlainLiteral → Bool
cube_value bit cube = list_all (literal_value bit) cube

-- `on` where some cube has all its literals 1, and the opposite of `on` elsewhere
abbrev pub equation_value : (ℕ → Bool) → PlainEquation → Bool
equation_value bit equation =
    if list_any (cube_value bit) equation.cubes then equation.on else not equation.on

-- the nets that inputs, latches and equations drive, each as often as it is driven
abbrev pub driven_nets : PlainMachine → List ℕ
driven_nets machine =
    machine.inputs ++ (map (λ latch. latch.out) machine.latches ++ map (λ equation. equation.net) machine.equations)

-- the valuation agrees with the machine, the state and the input vector
pub record Agrees (machine : PlainMachine) (state vector valuation : List Bool) : Type 0 where
  pub width : length valuation ≡ machine.nets + 1
  pub constant : bit_at valuation 0 ≡ false
  pub undriven : (net : ℕ) → (IsIn net (driven_nets machine) → ⊥) → bit_at valuation net ≡ false
  pub inputs_agree : map (bit_at valuation) machine.inputs ≡ vector
  pub latches_agree : map (λ latch. bit_at valuation latch.out) machine.latches ≡ state
  pub equations_agree : (equation : PlainEquation) → IsIn equation machine.equations → bit_at valuation equation.net ≡ equation_value (bit_at valuation) equation

-- the first bits of the latches
abbrev pub initial_state : PlainMachine → List Bool
initial_state machine = map (λ latch. latch.init) machine.latches

-- the values of the latches' next literals
abbrev pub next_state : PlainMachine → List Bool → List Bool
next_state machine valuation = map (λ latch. literal_value (bit_at valuation) latch.next) machine.latches

-- one agreeing valuation for each vector, from this state on, each later state the next one of the valuation before
abbrev pub IsRunFrom : PlainMachine → List Bool → List (List Bool) → List (List Bool) → Type 0
IsRunFrom machine state [] [] = ⊤
IsRunFrom machine state [] (valuation ∷ valuations) = ⊥
IsRunFrom machine state (vector ∷ vectors) [] = ⊥
IsRunFrom machine state (vector ∷ vectors) (valuation ∷ valuations) =
    Agrees machine state vector valuation × IsRunFrom machine (next_state machine valuation) vectors valuations

-- the valuations are those of the machine on the vectors, from the first state on
abbrev pub IsRun : PlainMachine → List (List Bool) → List (List Bool) → Type 0
IsRun machine vectors valuations = IsRunFrom machine (initial_state machine) vectors valuations

-- the values of the output literals
abbrev pub output_bits : PlainMachine → List Bool → List Bool
output_bits machine valuation = map (literal_value (bit_at valuation)) machine.outputs

-- the value of the output literal of this number in the valuation of this number
abbrev pub bit_of : PlainMachine → List (List Bool) → ℕ → ℕ → Bool
bit_of machine valuations cycle output = bit_at (output_bits machine (slice_index_or valuations cycle [])) output
