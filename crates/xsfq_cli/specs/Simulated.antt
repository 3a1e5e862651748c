-- What the input of `simulate` is judged to be, and what is written for it.
use Rattle.std.specs.Prelude.{◌≡◌, ℕ, Bool, true, false, List, Option, Some, None, Result, Ok, Err, option_map}
use Rattle.cell_netlist.specs.declared.unsound.Unsound.{Unsound}
use Rattle.cell_netlist.specs.Netlists.{IsNetlist}
use Rattle.cell_netlist.specs.Sound.{IsFirstUnsound, IsSound}
use Rattle.pulse_world.specs.RailPulses.{PulsesAsItsRuns}
use Rattle.pulse_traces.specs.declared.scripts.CycleFault.{CycleFault}
use Rattle.pulse_traces.specs.Scripts.{IsReplayed, scripted}
use Rattle.pulse_traces.specs.SimulationTexts.{simulation_text}
use Rattle.pulse_traces.specs.Simulations.{IsSimulated}
use Rattle.schedule_replay.specs.Orders.{Cycle}
use Rattle.simulation_reader.specs.declared.readers.SimulationInput.{SimulationInput}
use Rattle.simulation_reader.specs.declared.refusals.InputRefusal.{InputRefusal}
use Rattle.simulation_reader.specs.InputTexts.{early, judgement}
use Rattle.xsfq_cli.specs.declared.orders.Schedule.{Schedule}
use Rattle.xsfq_cli.specs.declared.orders.Schedule.TheVariants.{Order, Script}
use Rattle.run_outcomes.specs.declared.outcomes.Outcome.{Outcome}
use Rattle.run_outcomes.specs.declared.outcomes.Outcome.TheVariants as outcomes
use Rattle.xsfq_cli.specs.declared.simulation_inputs.SoundInput.{SoundInput}
use Rattle.run_outcomes.specs.Outcomes.{input_outcome}

-- there are scripts in the input
abbrev pub has_scripts : Schedule → Bool
has_scripts (Order order) = false
has_scripts Script = true

-- the refusal that the first bytes of an input show, whatever follows them
abbrev pub input_shown : Bool → List ℕ → Option Outcome
input_shown with_scripts bytes = option_map input_outcome (early with_scripts bytes)

-- the netlist and the vectors that an input says, or the outcome that refuses it
abbrev pub in_outcomes : Result SimulationInput InputRefusal → Result SimulationInput Outcome
in_outcomes (Ok input) = Ok input
in_outcomes (Err refusal) = Err (input_outcome refusal)

abbrev pub input_said : Bool → List ℕ → Result SimulationInput Outcome
input_said with_scripts bytes = in_outcomes (judgement with_scripts bytes)

abbrev pub SaysInput : Bool → List ℕ → Result SimulationInput Outcome → Type 0
SaysInput with_scripts bytes said = input_said with_scripts bytes ≡ said

-- the netlist is sound, or the outcome is the first rule that it breaks
abbrev pub IsSoundInputOr : SimulationInput → Result SoundInput Outcome → Type 0
IsSoundInputOr input (Ok found) = (found.net ≡ input.net) × (found.vectors ≡ input.vectors) × IsSound input.net
IsSoundInputOr input (Err outcome) = (unsound : Unsound) × IsFirstUnsound input.net unsound × (outcome ≡ outcomes.Unsound unsound)

-- where an input says a netlist and vectors, the netlist is checked by the rules, and else it is refused
abbrev pub IsInputBy : Result SimulationInput Outcome → Result SoundInput Outcome → Type 0
IsInputBy (Ok input) found = IsSoundInputOr input found
IsInputBy (Err refusal) found = found ≡ Err refusal

-- the judgement of an input: its sound netlist with its vectors, or the outcome that refuses it
abbrev pub HasInput : Bool → List ℕ → Result SoundInput Outcome → Type 0
HasInput with_scripts bytes found = IsInputBy (input_said with_scripts bytes) found

-- how a replay ends: with the first fault of a script, if there is one
abbrev pub ending_of : Option CycleFault → Outcome
ending_of None = outcomes.Done
ending_of (Some fault) = outcomes.Script fault.cycle fault.phase fault.fault

-- The text for a sound netlist and its vectors, and how it ends: in an order that of the one list of cycles in which each
-- delivery is at the place that the order names; by scripts that of the cycles before the first fault.
abbrev pub Simulates : Schedule → Bool → SoundInput → List ℕ → Outcome → Type 0
Simulates (Order order) trace input text ending =
    (cycles : List Cycle) × IsSimulated order input.net input.vectors.vectors cycles × (text ≡ simulation_text trace input.net cycles) × (ending ≡ outcomes.Done)
Simulates Script trace input text ending =
    (made : List Cycle) × (fault : Option CycleFault) × IsReplayed input.net (scripted input.vectors) made fault × (text ≡ simulation_text trace input.net made)
    × (ending ≡ ending_of fault)

-- The headline of `simulate`. These bytes are a netlist's text and vectors for it, the netlist is sound, so that it pulses as its
-- rail equations say, and this is the text of its simulation, which ends so.
pub record IsSimulation (schedule : Schedule) (trace : Bool) (bytes : List ℕ) (input : SoundInput) (text : List ℕ) (ending : Outcome) : Type 0 where
  pub has : HasInput (has_scripts schedule) bytes (Ok input)
  pub netlist : IsNetlist input.net
  pub pulses : PulsesAsItsRuns input.net
  pub simulates : Simulates schedule trace input text ending
