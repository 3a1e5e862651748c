-- Simulations of a netlist by scripts, and their faults.
use Rattle.std.specs.Prelude.{◌≡◌, ◌+◌, ◌*◌, ◌++◌, ℕ, Bool, Option, Some, None, List, [], ◌∷◌, Result, Ok, Err, length, map, get_or, ⊤}
use Rattle.byte_ports.specs.Writing.{WritesText}
use Rattle.pulse_ids.specs.Ids.{WireId}
use Rattle.cell_netlist.specs.Netlists.{PlainNetlist}
use Rattle.cell_netlist.specs.declared.kinds.Phase.{Phase}
use Rattle.cell_netlist.specs.declared.kinds.Phase.TheVariants.{Excite, Relax}
use Rattle.pulse_world.specs.Worlds.{PlainWorld, opened_world}
use Rattle.schedule_replay.specs.declared.replaying.ScriptFault.{ScriptFault}
use Rattle.schedule_replay.specs.Logs.{wire_number}
use Rattle.schedule_replay.specs.Orders.{Cycle, MakesCycles}
use Rattle.schedule_replay.specs.PlainVectors.{PlainVectors}
use Rattle.schedule_replay.specs.Replaying.{Replays}
use Rattle.schedule_replay.specs.Settling.{Anywhere}
use Rattle.pulse_traces.specs.declared.scripts.CycleFault.{CycleFault}
use Rattle.pulse_traces.specs.SimulationTexts.{text_from, simulation_text}
use Rattle.pulse_traces.specs.Simulations.{IsStart}

-- the wires of a script
abbrev pub script_at : List (List WireId) → ℕ → List ℕ
script_at scripts k = map wire_number (get_or scripts k [])

-- the cycles that vectors and their scripts ask for, from the one of this number on
abbrev pub scripted_from : ℕ → List (List Bool) → List (List WireId) → List Cycle
scripted_from number [] scripts = []
scripted_from number (vector ∷ vectors) scripts =
    record { vector = vector; excite = script_at scripts (2 * number); relax = script_at scripts (2 * number + 1) }
    ∷ scripted_from (number + 1) vectors scripts

abbrev pub scripted : PlainVectors → List Cycle
scripted read = scripted_from 0 read.vectors read.scripts

-- in a cycle from a settled world the script of this phase has a fault, and none before it has
abbrev pub Fails : PlainWorld → Cycle → Phase → ScriptFault → Type 0
Fails before cycle Excite fault = (after : PlainWorld) × Replays (opened_world Excite cycle.vector before) cycle.excite after (Err fault)
Fails before cycle Relax fault =
    (middle : PlainWorld) × Replays (opened_world Excite cycle.vector before) cycle.excite middle (Ok tt)
    × (after : PlainWorld) × Replays (opened_world Relax cycle.vector middle) cycle.relax after (Err fault)

-- no cycle is left, or the next one, of this number, has this fault
abbrev pub StopsAt : ℕ → PlainWorld → List Cycle → Option CycleFault → Type 0
StopsAt number world [] None = ⊤
StopsAt number world [] (Some fault) = ⊥
StopsAt number world (cycle ∷ cycles) None = ⊥
StopsAt number world (cycle ∷ cycles) (Some fault) = (fault.cycle ≡ number) × Fails world cycle fault.phase fault.fault

-- Of the cycles that are asked for these were made from a world on, up to the first fault of a script, if there is one.
pub record MakesUpTo (world : PlainWorld) (asked made : List Cycle) (fault : Option CycleFault) : Type 0 where
  pub last : PlainWorld
  pub left : List Cycle
  pub parts : asked ≡ made ++ left
  pub makes : MakesCycles Anywhere 0 world made last
  pub stops : StopsAt (length made) last left fault

-- From the start of a netlist.
pub record IsReplayed (net : PlainNetlist) (asked made : List Cycle) (fault : Option CycleFault) : Type 0 where
  pub first : PlainWorld
  pub starts : IsStart net first
  pub up_to : MakesUpTo first asked made fault

-- what a writer of scripts answers: the fault that it met, or that the sink failed
abbrev pub Tells : {E : Type 0} → Option CycleFault → Result (Option CycleFault) E → Type 0
Tells fault (Ok told) = told ≡ fault
Tells fault (Err failed) = ⊤

abbrev pub without_fault : {E : Type 0} → Result (Option CycleFault) E → Result Unit E
without_fault (Ok told) = Ok tt
without_fault (Err failed) = Err failed

-- the cycles that were made from a world on, and what a sink took of their text
pub record WritesUpTo {E : Type 0} (trace : Bool) (world : PlainWorld) (asked : List Cycle)
    (old new : Option (List ℕ)) (before now : ℕ) (result : Result (Option CycleFault) E) : Type 0 where
  pub made : List Cycle
  pub fault : Option CycleFault
  pub up_to : MakesUpTo world asked made fault
  pub tells : Tells fault result
  pub wrote : WritesText old new before now (without_fault result) (text_from trace world.net.output_rails 0 made)

-- from the start of a netlist
pub record WritesReplay {E : Type 0} (trace : Bool) (net : PlainNetlist) (asked : List Cycle)
    (old new : Option (List ℕ)) (before now : ℕ) (result : Result (Option CycleFault) E) : Type 0 where
  pub made : List Cycle
  pub fault : Option CycleFault
  pub replayed : IsReplayed net asked made fault
  pub tells : Tells fault result
  pub wrote : WritesText old new before now (without_fault result) (simulation_text trace net made)
