-- What the text of `simulate` is: one for an input, and without a trace the same in every order.
use Rattle.std.specs.Prelude.{◌≡◌, ℕ, Bool, false, List, take}
use Rattle.cell_netlist.specs.declared.kinds.Phase.{Phase}
use Rattle.cell_netlist.specs.RailEquations.{IsNetRun}
use Rattle.pulse_traces.specs.RunTexts.{run_text}
use Rattle.run_outcomes.specs.declared.outcomes.Outcome.{Outcome}
use Rattle.run_outcomes.specs.declared.outcomes.Outcome.TheVariants as outcomes
use Rattle.schedule_replay.specs.declared.replaying.ScriptFault.{ScriptFault}
use Rattle.xsfq_cli.specs.declared.orders.Schedule.{Schedule}
use Rattle.xsfq_cli.specs.declared.orders.Schedule.TheVariants.{Script}
use Rattle.xsfq_cli.specs.declared.simulation_inputs.SoundInput.{SoundInput}
use Rattle.xsfq_cli.specs.Simulated.{IsSimulation}

-- Without a trace, the text of a simulation that ends with `Done` is that of each run of the rail equations on the vectors, in
-- every order and by every script.
abbrev pub TextSaysBits : Type 0
TextSaysBits =
    (schedule : Schedule) (bytes : List ℕ) (input : SoundInput) (text : List ℕ) → IsSimulation schedule false bytes input text outcomes.Done
    → (run : List (List Bool)) → IsNetRun input.net input.vectors.vectors run → text ≡ run_text input.net run

-- Where a script has a fault, the text is that of a run on the vectors of the cycles before the faulty one.
abbrev pub FaultedTextSaysBits : Type 0
FaultedTextSaysBits =
    (bytes : List ℕ) (input : SoundInput) (text : List ℕ) (cycle : ℕ) (phase : Phase) (fault : ScriptFault)
    → IsSimulation Script false bytes input text (outcomes.Script cycle phase fault)
    → (run : List (List Bool)) → IsNetRun input.net (take cycle input.vectors.vectors) run → text ≡ run_text input.net run

-- So of one netlist and the same vectors it is the same text, however the pulses are delivered.
abbrev pub SchedulesAgree : Type 0
SchedulesAgree =
    (schedule also : Schedule) (bytes more : List ℕ) (input other : SoundInput) (text texts : List ℕ) → IsSimulation schedule false bytes input text outcomes.Done
    → IsSimulation also false more other texts outcomes.Done → input.net ≡ other.net → input.vectors.vectors ≡ other.vectors.vectors → text ≡ texts

-- An input has one text by each schedule, with a trace too, and one ending.
abbrev pub OneSimulationText : Type 0
OneSimulationText =
    (schedule : Schedule) (trace : Bool) (bytes : List ℕ) (input other : SoundInput) (text texts : List ℕ) (ending end : Outcome)
    → IsSimulation schedule trace bytes input text ending → IsSimulation schedule trace bytes other texts end → (text ≡ texts) × (ending ≡ end)
