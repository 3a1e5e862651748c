-- How great the numbers of a reader are.
use Rattle.std.specs.Prelude.{◌≡◌, ◌≤◌, ◌<◌, ◌+◌, ◌-◌, ◌*◌, ◌/◌, ℕ, min, Option, Some, None, length}
use Rattle.pulse_ids.specs.Quantities.{greatest_of}
use Rattle.pulse_ids.specs.declared.quantities.Quantity.TheVariants as quantities
use Rattle.source_machine.specs.Machines.{PlainMachine}
use Rattle.source_machine.specs.Fitting.{Fits, size_of}
use Rattle.aiger_reader.specs.declared.headers.Spelling.{Spelling}
use Rattle.aiger_reader.specs.declared.headers.Spelling.TheVariants.{Ascii, Binary}
use Rattle.aiger_reader.specs.declared.headers.Header.{Header}
use Rattle.aiger_reader.specs.Headers.{counts_refusal}
use Rattle.aiger_reader.specs.Sections.{latches_from, outputs_from, ands_from, sections_end}
use Rattle.aiger_reader.specs.Building.{PlainBuilt, nothing_built}

-- the counts are within the limits
pub record IsSmall (header : Header) : Type 0 where
  pub variables : header.variables ≤ greatest_of quantities.Nets
  pub inputs : header.inputs ≤ greatest_of quantities.Inputs
  pub latches : header.latches ≤ greatest_of quantities.Latches
  pub outputs : header.outputs ≤ greatest_of quantities.Outputs
  pub ands : 3 * header.ands ≤ greatest_of quantities.Size

-- how many inputs stand after so many units behind the header
abbrev pub HasInputs : Spelling → Header → ℕ → PlainMachine → Type 0
HasInputs Ascii header place machine = length machine.inputs ≡ min place header.inputs
HasInputs Binary header place machine =
    (place < sections_end header → length machine.inputs ≡ 0) × (sections_end header ≤ place → length machine.inputs ≡ header.inputs)

-- how many conjunctions do
abbrev pub HasAnds : Spelling → Header → ℕ → PlainMachine → Type 0
HasAnds Ascii header place machine = length machine.equations ≡ min (place - ands_from header) header.ands
HasAnds Binary header place machine = length machine.equations ≡ min (place - ands_from header) (2 * header.ands) / 2

-- the header is allowed, and the machine fits and has as many parts as units came
pub record IsBoundedBy (header : Header) (built : PlainBuilt) : Type 0 where
  pub allowed : counts_refusal header ≡ None
  pub fits : Fits built.machine
  pub nets : built.machine.nets ≡ header.variables
  pub literal : built.literal ≤ 2 * header.variables + 1
  pub size : size_of built.machine ≡ 3 * length built.machine.equations
  pub inputs : HasInputs header.spelling header built.place built.machine
  pub latches : length built.machine.latches ≡ min (built.place - latches_from header) header.latches
  pub outputs : length built.machine.outputs ≡ min (built.place - outputs_from header) header.outputs
  pub ands : HasAnds header.spelling header built.place built.machine

abbrev pub IsBoundedIf : Option Header → PlainBuilt → Type 0
IsBoundedIf None built = built ≡ nothing_built
IsBoundedIf (Some header) built = IsBoundedBy header built

-- no more units than bytes were read, and what they built is bounded
pub record IsBounded (built : PlainBuilt) : Type 0 where
  pub few : built.place ≤ built.start
  pub by : IsBoundedIf built.header built
