-- How great the numbers of a state are.
use Rattle.std.specs.Prelude.{◌≡◌, ⊤, ◌≤◌, ℕ, ◌+◌, Option, Some, None, length}
use Rattle.std.specs.List.{All}
use Rattle.pulse_ids.specs.Quantities.{greatest_of}
use Rattle.pulse_ids.specs.declared.quantities.Quantity.TheVariants as quantities
use Rattle.source_machine.specs.Additions.{with_nets}
use Rattle.source_machine.specs.Fitting.{Fits, EquationFits, IsNumbered, size_of, size_of_cubes}
use Rattle.blif_reader.specs.States.{BlifState, OpenEquation}

-- the open equation's nets are numbered
abbrev pub OpenFits : ℕ → Option OpenEquation → Type 0
OpenFits nets None = ⊤
OpenFits nets (Some unended) = EquationFits nets unended.equation × All (IsNumbered nets) unended.columns

abbrev pub size_of_open : Option OpenEquation → ℕ
size_of_open None = 0
size_of_open (Some unended) = size_of_cubes unended.equation.cubes

-- the machine fits, with the equation to which rows may still come
pub record IsBounded (state : BlifState) : Type 0 where
  pub few : length state.nets ≤ greatest_of quantities.Nets
  pub fits : Fits (with_nets state.machine (length state.nets))
  pub open_fits : OpenFits (length state.nets) state.unended
  pub size : size_of state.machine + size_of_open state.unended ≡ state.size
  pub small : state.size ≤ greatest_of quantities.Size
