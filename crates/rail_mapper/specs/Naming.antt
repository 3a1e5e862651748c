-- What naming ports does to a netlist.
use Rattle.std.specs.Prelude.{◌≡◌, ◌<◌, ℕ, Option, Some, None, List, [], ◌∷◌, ◌++◌, slice_index_or}
use Rattle.cell_netlist.specs.Names.{name_at, IsAboveAll}
use Rattle.cell_netlist.specs.Netlists.{PlainNetlist}

-- named ports with one more behind, where it has a name
pub data NamesOne (port : ℕ) (name : Option (List ℕ)) (before after : List (ℕ × List ℕ)) : Type 0 where
  unnamed : name ≡ None → after ≡ before → NamesOne port name before after
  named : (its : List ℕ) → name ≡ Some its → after ≡ before ++ (let pair : ℕ × List ℕ = (port, its) in pair) ∷ [] → NamesOne port name before after

-- the ports below a number have their names, and no other has one
pub record AreNamed (names : List (Option (List ℕ))) (count : ℕ) (named_ports : List (ℕ × List ℕ)) : Type 0 where
  pub each : (port : ℕ) → port < count → name_at named_ports port ≡ slice_index_or names port None
  pub below : IsAboveAll count named_ports

-- each port has its name
abbrev pub HasNames : List (Option (List ℕ)) → List (ℕ × List ℕ) → Type 0
HasNames names named_ports = (port : ℕ) → name_at named_ports port ≡ slice_index_or names port None

-- the input ports have these names, and all else is as it was
pub record NamesInputs (names : List (Option (List ℕ))) (before after : PlainNetlist) : Type 0 where
  pub added : after ≡ record before { input_names = after.input_names }
  pub each : HasNames names after.input_names

-- the output ports have these names, and all else is as it was
pub record NamesOutputs (names : List (Option (List ℕ))) (before after : PlainNetlist) : Type 0 where
  pub added : after ≡ record before { output_names = after.output_names }
  pub each : HasNames names after.output_names

-- all ports have their names, and all else is as it was
pub record NamesPorts (input_names output_names : List (Option (List ℕ))) (before after : PlainNetlist) : Type 0 where
  pub added : after ≡ record before { input_names = after.input_names; output_names = after.output_names }
  pub inputs : HasNames input_names after.input_names
  pub outputs : HasNames output_names after.output_names
