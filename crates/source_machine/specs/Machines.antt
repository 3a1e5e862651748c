-- Machines as plain lists and numbers.
use Rattle.std.specs.Prelude.{ℕ, List, Bool, map}
use Rattle.std.specs.declared.option.Option.{Option}
use Rattle.pulse_ids.specs.Ids.{Lit}
use Rattle.source_machine.specs.declared.machines.Equation.{Equation}
use Rattle.source_machine.specs.declared.machines.Latch.{Latch}
use Rattle.source_machine.specs.declared.machines.RawMachine.{RawMachine}

-- the bit of a net, or its complement
pub record PlainLiteral : Type 0 where
  pub net : ℕ
  pub negated : Bool

-- a net that holds a bit of the state, the bit's first value, and the literal of its next one
pub record PlainLatch : Type 0 where
  pub out : ℕ
  pub init : Bool
  pub next : PlainLiteral

-- a net as a sum of products: a cube is a list of literals
pub record PlainEquation : Type 0 where
  pub net : ℕ
  pub on : Bool
  pub cubes : List (List PlainLiteral)

-- a machine, whose nets are numbered from 1, and net 0 is the constant 0
pub record PlainMachine : Type 0 where
  pub nets : ℕ
  pub inputs : List ℕ
  pub latches : List PlainLatch
  pub equations : List PlainEquation
  pub outputs : List PlainLiteral
  pub input_names : List (Option (List ℕ))
  pub output_names : List (Option (List ℕ))

-- a literal without its kind
abbrev pub literal_of : Lit → PlainLiteral
literal_of lit = record { net = lit.id.number; negated = lit.negated }

-- a latch as plain numbers
abbrev pub latch_of : Latch → PlainLatch
latch_of latch = record { out = latch.out.number; init = latch.init; next = literal_of latch.next }

-- an equation as plain lists and numbers
abbrev pub equation_of : Equation → PlainEquation
equation_of equation =
    record { net = equation.net.number; on = equation.on; cubes = map (map literal_of) equation.rows.items }

-- a machine as plain lists and numbers
abbrev pub machine_of : RawMachine → PlainMachine
machine_of raw = record {
  nets = raw.nets;
  inputs = map (λ net. net.number) raw.inputs.items;
  latches = map latch_of raw.latches.items;
  equations = map equation_of raw.equations.items;
  outputs = map literal_of raw.outputs.items;
  input_names = raw.input_names.items;
  output_names = raw.output_names.items;
}
