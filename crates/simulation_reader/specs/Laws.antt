-- What holds of all inputs of simulations.
use Rattle.std.specs.Prelude.{◌≡◌, ◌<◌, ◌≤◌, ◌+◌, ◌++◌, Bool, ℕ, List, Some, None, Ok, Err, length, ⊤}
use Rattle.pulse_ids.specs.Ids.{WireId}
use Rattle.pulse_ids.specs.Lists.{IsIn}
use Rattle.netlist_reader.specs.declared.refusals.NetRefusal.TheVariants as net_refusals
use Rattle.netlist_reader.specs.Verdicts as nets
use Rattle.schedule_replay.specs.declared.refusals.VectorRefusal.TheVariants as vector_refusals
use Rattle.schedule_replay.specs.VectorTexts.{limit}
use Rattle.simulation_reader.specs.declared.readers.SimulationInput.{SimulationInput}
use Rattle.simulation_reader.specs.declared.refusals.InputRefusal.{InputRefusal}
use Rattle.simulation_reader.specs.declared.refusals.InputRefusal.TheVariants.{Net, Vectors}
use Rattle.simulation_reader.specs.InputTexts.{early, judgement}

-- what the first bytes of an input show stays shown, and is its judgement
pub record EarlyStands : Type 0 where
  pub shown : (scripted : Bool) (text more : List ℕ) (refusal : InputRefusal) → early scripted text ≡ Some refusal → early scripted (text ++ more) ≡ Some refusal
  pub judged : (scripted : Bool) (text more : List ℕ) (refusal : InputRefusal) → early scripted text ≡ Some refusal → judgement scripted (text ++ more) ≡ Err refusal

-- each vector has a bit for each input port of the netlist, and no script is longer than the text may be
pub record HasForm (input : SimulationInput) : Type 0 where
  pub width : (vector : List Bool) → IsIn vector input.vectors.vectors → length vector ≡ input.net.inputs
  pub short : (script : List WireId) → IsIn script input.vectors.scripts → length script ≤ limit

abbrev pub InputsHaveTheirForm : Type 0
InputsHaveTheirForm = (scripted : Bool) (text : List ℕ) (input : SimulationInput) → judgement scripted text ≡ Ok input → HasForm input

-- an input of more bytes than both of its texts may have shows a refusal
abbrev pub LongShows : Type 0
LongShows = (scripted : Bool) (text : List ℕ) → nets.limit + limit < length text → early scripted text ≡ None → ⊥

-- a refusal comes of the bytes, and not of want of memory
abbrev pub IsOfBytes : InputRefusal → Type 0
IsOfBytes (Net net_refusals.NoMemory) = ⊥
IsOfBytes (Vectors vector_refusals.NoMemory) = ⊥
IsOfBytes refusal = ⊤

abbrev pub RefusalsAreOfBytes : Type 0
RefusalsAreOfBytes = (scripted : Bool) (text : List ℕ) (refusal : InputRefusal) → judgement scripted text ≡ Err refusal → IsOfBytes refusal
