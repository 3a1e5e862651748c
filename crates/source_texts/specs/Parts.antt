-- The parts of a source, the machine that they tell, and which parts are in range.
use Rattle.std.specs.Prelude.{◌≡◌, ◌≢◌, ◌≤◌, ◌<◌, ◌+◌, ◌*◌, ◌⊎◌, ℕ, Bool, true, false, List, [], ◌∷◌, Option, Some, None, map, length, unwrap_or}
use Rattle.std.specs.Option.{option_or}
use Rattle.std.specs.List.{All}
use Rattle.pulse_ids.specs.Lists.{IsIn}
use Rattle.pulse_ids.specs.Quantities.{greatest_of}
use Rattle.pulse_ids.specs.declared.quantities.Quantity.TheVariants as quantities
use Rattle.source_machine.specs.Machines.{PlainLiteral, PlainLatch, PlainEquation, PlainMachine}
use Rattle.aiger_reader.specs.Machines.{numbers_from}
use Rattle.aiger_reader.specs.Symbols.{name_by}

-- a latch: its variable, its next literal, and its first bit where the text tells it
pub record SourceLatch : Type 0 where
  pub out : ℕ
  pub next : PlainLiteral
  pub reset : Option Bool

-- a conjunction: its variable and its two literals
pub record SourceAnd : Type 0 where
  pub net : ℕ
  pub left : PlainLiteral
  pub right : PlainLiteral

-- how many variables there are; the variables of the inputs, the latches, the literals of the outputs, the conjunctions;
-- and the symbols, each by its letter, its position and its name
pub record SourceParts : Type 0 where
  pub variables : ℕ
  pub inputs : List ℕ
  pub latches : List SourceLatch
  pub outputs : List PlainLiteral
  pub ands : List SourceAnd
  pub symbols : List (ℕ × ℕ × List ℕ)

-- the latch of a machine: without a first bit it is 0 at first
abbrev pub latch_from : SourceLatch → PlainLatch
latch_from latch = record { out = latch.out; init = unwrap_or latch.reset false; next = latch.next }

-- the equation of a machine: one cube of both literals
abbrev pub equation_from : SourceAnd → PlainEquation
equation_from and = record { net = and.net; on = true; cubes = (and.left ∷ and.right ∷ []) ∷ [] }

-- the first name that symbols give to a position of a letter
abbrev pub name_given : ℕ → ℕ → List (ℕ × ℕ × List ℕ) → Option (List ℕ)
name_given letter place [] = None
name_given letter place (symbol ∷ symbols) = option_or (name_by letter place (Some symbol)) (name_given letter place symbols)

-- the names of so many positions of a letter
abbrev pub names_given : ℕ → ℕ → List (ℕ × ℕ × List ℕ) → List (Option (List ℕ))
names_given letter count symbols = map (λ place. name_given letter place symbols) (numbers_from 0 count)

-- the machine of the parts: `i` (105) names inputs, and `o` (111) outputs
abbrev pub machine_from : SourceParts → PlainMachine
machine_from parts = record {
  nets = parts.variables;
  inputs = parts.inputs;
  latches = map latch_from parts.latches;
  equations = map equation_from parts.ands;
  outputs = parts.outputs;
  input_names = names_given 105 (length parts.inputs) parts.symbols;
  output_names = names_given 111 (length parts.outputs) parts.symbols;
}

-- one of so many variables
abbrev pub IsVariable : ℕ → ℕ → Type 0
IsVariable variables net = (1 ≤ net) × (net ≤ variables)

-- a latch and a conjunction of variables; a literal may be of the constant, which is net 0
pub record IsLatchOf (variables : ℕ) (latch : SourceLatch) : Type 0 where
  pub out : IsVariable variables latch.out
  pub next : latch.next.net ≤ variables

pub record IsAndOf (variables : ℕ) (and : SourceAnd) : Type 0 where
  pub net : IsVariable variables and.net
  pub left : and.left.net ≤ variables
  pub right : and.right.net ≤ variables

-- the letter of the inputs or that of the outputs, and a position below their number
abbrev pub IsPosition : SourceParts → ℕ → ℕ → Type 0
IsPosition parts letter place = ((letter ≡ 105) × (place < length parts.inputs)) ⊎ ((letter ≡ 111) × (place < length parts.outputs))

-- a symbol of an input or output, whose name has a byte, isn't too long, and holds no LF and no CR
pub record IsSymbolOf (parts : SourceParts) (symbol : ℕ × ℕ × List ℕ) : Type 0 where
  pub position : IsPosition parts symbol.0 symbol.1
  pub not_empty : 1 ≤ length symbol.2
  pub not_long : length symbol.2 ≤ greatest_of quantities.NameBytes
  pub no_line_feed : All (λ byte. byte ≢ 10) symbol.2
  pub no_return : All (λ byte. byte ≢ 13) symbol.2

-- parts within the limits, whose variables are those that they count; there are no more symbols than ports may be
pub record AreInRange (parts : SourceParts) : Type 0 where
  pub variables : parts.variables ≤ greatest_of quantities.Nets
  pub sum : length parts.inputs + length parts.latches + length parts.ands ≤ parts.variables
  pub inputs : length parts.inputs ≤ greatest_of quantities.Inputs
  pub latches : length parts.latches ≤ greatest_of quantities.Latches
  pub outputs : length parts.outputs ≤ greatest_of quantities.Outputs
  pub size : 3 * length parts.ands ≤ greatest_of quantities.Size
  pub symbols : length parts.symbols ≤ greatest_of quantities.Inputs + greatest_of quantities.Outputs
  pub each_input : (net : ℕ) → IsIn net parts.inputs → IsVariable parts.variables net
  pub each_latch : (latch : SourceLatch) → IsIn latch parts.latches → IsLatchOf parts.variables latch
  pub each_output : (literal : PlainLiteral) → IsIn literal parts.outputs → literal.net ≤ parts.variables
  pub each_and : (and : SourceAnd) → IsIn and parts.ands → IsAndOf parts.variables and
  pub each_symbol : (symbol : ℕ × ℕ × List ℕ) → IsIn symbol parts.symbols → IsSymbolOf parts symbol
