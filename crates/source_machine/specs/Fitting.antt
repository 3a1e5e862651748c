-- What numbers, names and sizes a machine has.
use Rattle.std.specs.Prelude.{◌≡◌, ℕ, ◌+◌, ◌≤◌, List, [], ◌∷◌, length, All, IfSome}
use Rattle.std.specs.declared.option.Option.{Option}
use Rattle.pulse_ids.specs.Names.{IsPortName}
use Rattle.pulse_ids.specs.Quantities.{greatest_of}
use Rattle.pulse_ids.specs.declared.quantities.Quantity.TheVariants.{Inputs, Outputs, Latches, Nets, Size}
use Rattle.source_machine.specs.Machines.{PlainLiteral, PlainLatch, PlainEquation, PlainMachine, literal_of, latch_of, equation_of}
use Rattle.source_machine.specs.declared.machines.RawMachine.{RawMachine}

-- the net is one of those numbered from 1
abbrev pub IsNumbered : ℕ → ℕ → Type 0
IsNumbered nets net = (1 ≤ net) × (net ≤ nets)

-- the literal's net is the constant 0 or one of those numbered from 1
abbrev pub LiteralFits : ℕ → PlainLiteral → Type 0
LiteralFits nets literal = literal.net ≤ nets

-- the latch holds a numbered net, and its next literal fits
abbrev pub LatchFits : ℕ → PlainLatch → Type 0
LatchFits nets latch = IsNumbered nets latch.out × LiteralFits nets latch.next

-- the equation is of a numbered net, and each literal of its cubes fits
abbrev pub EquationFits : ℕ → PlainEquation → Type 0
EquationFits nets equation = IsNumbered nets equation.net × All (All (LiteralFits nets)) equation.cubes

-- one name or none for each port
abbrev pub NamesFit : ℕ → List (Option (List ℕ)) → Type 0
NamesFit ports names = (length names ≡ ports) × All (λ name. IfSome name IsPortName) names

-- the number of cubes and of literals in them
abbrev pub size_of_cubes : List (List PlainLiteral) → ℕ
size_of_cubes [] = 0
size_of_cubes (cube ∷ cubes) = (1 + length cube) + size_of_cubes cubes

-- the number of cubes and cube literals over all equations
abbrev pub size_of_equations : List PlainEquation → ℕ
size_of_equations [] = 0
size_of_equations (equation ∷ equations) = size_of_cubes equation.cubes + size_of_equations equations

-- the number of cubes and cube literals of a machine
abbrev pub size_of : PlainMachine → ℕ
size_of machine = size_of_equations machine.equations

-- no quantity is above its limit
pub record IsWithinLimits (machine : PlainMachine) : Type 0 where
  pub few_inputs : length machine.inputs ≤ greatest_of Inputs
  pub few_outputs : length machine.outputs ≤ greatest_of Outputs
  pub few_latches : length machine.latches ≤ greatest_of Latches
  pub few_nets : machine.nets ≤ greatest_of Nets
  pub small : size_of machine ≤ greatest_of Size

-- each net number is in range, and what drives a net drives a numbered one
pub record NetsFit (machine : PlainMachine) : Type 0 where
  pub inputs_fit : All (IsNumbered machine.nets) machine.inputs
  pub latches_fit : All (LatchFits machine.nets) machine.latches
  pub equations_fit : All (EquationFits machine.nets) machine.equations
  pub outputs_fit : All (LiteralFits machine.nets) machine.outputs

-- the same, of a machine of the code
pub record RawNetsFit (raw : RawMachine) : Type 0 where
  pub inputs_fit : All (λ net. IsNumbered raw.nets net.number) raw.inputs.items
  pub latches_fit : All (λ latch. LatchFits raw.nets (latch_of latch)) raw.latches.items
  pub equations_fit : All (λ equation. EquationFits raw.nets (equation_of equation)) raw.equations.items
  pub outputs_fit : All (λ literal. LiteralFits raw.nets (literal_of literal)) raw.outputs.items

-- all nets, names and quantities are in range
pub record Fits (machine : PlainMachine) : Type 0 where
  pub nets_fit : NetsFit machine
  pub input_names_fit : NamesFit (length machine.inputs) machine.input_names
  pub output_names_fit : NamesFit (length machine.outputs) machine.output_names
  pub limits : IsWithinLimits machine
