-- The laws of simulations: every order and every script without a fault gives the same lines, those of a run of the rail
-- equations; and what an order or a script gives is one.
use Rattle.std.specs.Prelude.{◌≡◌, ◌≤◌, ℕ, Bool, false, Option, Some, None, List, length, map, slice_get}
use Rattle.pulse_ids.specs.declared.quantities.Quantity.TheVariants.{Wires}
use Rattle.pulse_ids.specs.Lists.{IsIn}
use Rattle.pulse_ids.specs.Quantities.{greatest_of}
use Rattle.cell_netlist.specs.Netlists.{PlainNetlist, number_of_wires}
use Rattle.cell_netlist.specs.RailEquations.{IsNetRun}
use Rattle.cell_netlist.specs.Runs.{Moment}
use Rattle.cell_netlist.specs.Sound.{IsSound}
use Rattle.pulse_world.specs.PulsesPerCycle.{IsCycle}
use Rattle.schedule_replay.specs.Orders.{Cycle, vector_of}
use Rattle.pulse_traces.specs.declared.orders.DeliveryOrder.{DeliveryOrder}
use Rattle.pulse_traces.specs.declared.pulse_counts.PulseCounts.{PulseCounts}
use Rattle.pulse_traces.specs.declared.scripts.CycleFault.{CycleFault}
use Rattle.pulse_traces.specs.CycleCounts.{CountsSimulation}
use Rattle.pulse_traces.specs.RunTexts.{run_text}
use Rattle.pulse_traces.specs.Scripts.{IsReplayed}
use Rattle.pulse_traces.specs.Simulations.{IsSimulated}
use Rattle.pulse_traces.specs.SimulationTexts.{counts_in, simulation_text}

-- A cycle is one of the world's definition: its phases settled at two moments of one run, they delivered exactly the cycle's
-- wires, and each output rail counted as many pulses there as the cycle's text tells.
pub record IsCycleOf (net : PlainNetlist) (vectors : List (List Bool)) (number : ℕ) (cycle : Cycle) : Type 0 where
  pub excited : Moment
  pub relaxed : Moment
  pub is_cycle : IsCycle net vectors number excited relaxed
  pub excites : excited.delivered ≡ cycle.excite
  pub relaxes : relaxed.delivered ≡ cycle.relax
  pub excite_counts : excited.state.counted ≡ counts_in net.output_rails cycle.excite
  pub relax_counts : relaxed.state.counted ≡ counts_in net.output_rails cycle.relax

-- the cycles of a simulation are such ones, in every order
abbrev pub SimulatedInWorld : Type 0
SimulatedInWorld =
    (order : DeliveryOrder) (net : PlainNetlist) (vectors : List (List Bool)) (cycles : List Cycle) → IsSimulated order net vectors cycles
    → (number : ℕ) (cycle : Cycle) → slice_get cycles number ≡ Some cycle → IsCycleOf net vectors number cycle

-- and by scripts, up to the first fault
abbrev pub ReplayedInWorld : Type 0
ReplayedInWorld =
    (net : PlainNetlist) (asked made : List Cycle) (fault : Option CycleFault) → IsReplayed net asked made fault
    → (number : ℕ) (cycle : Cycle) → slice_get made number ≡ Some cycle → IsCycleOf net (map vector_of asked) number cycle

-- The text without a trace is that of each run of the rail equations on the vectors, in every order.
abbrev pub SimulatedSaysBits : Type 0
SimulatedSaysBits =
    (order : DeliveryOrder) (net : PlainNetlist) (vectors : List (List Bool)) (cycles : List Cycle) → IsSound net → IsSimulated order net vectors cycles
    → (run : List (List Bool)) → IsNetRun net vectors run → simulation_text false net cycles ≡ run_text net run

-- And by scripts, of the cycles before the first fault.
abbrev pub ReplayedSaysBits : Type 0
ReplayedSaysBits =
    (net : PlainNetlist) (asked made : List Cycle) (fault : Option CycleFault) → IsSound net → IsReplayed net asked made fault
    → (run : List (List Bool)) → IsNetRun net (map vector_of made) run → simulation_text false net made ≡ run_text net run

-- scripts that end without a fault make all cycles that they ask for
abbrev pub FaultlessIsWhole : Type 0
FaultlessIsWhole = (net : PlainNetlist) (asked made : List Cycle) → IsReplayed net asked made None → made ≡ asked

-- So two orders give the same lines.
abbrev pub OrdersAgree : Type 0
OrdersAgree =
    (net : PlainNetlist) (vectors : List (List Bool)) (order other : DeliveryOrder) (cycles others : List Cycle) → IsSound net
    → IsSimulated order net vectors cycles → IsSimulated other net vectors others → simulation_text false net cycles ≡ simulation_text false net others

-- And scripts that end without a fault give the lines of an order.
abbrev pub ScriptsAgree : Type 0
ScriptsAgree =
    (net : PlainNetlist) (order : DeliveryOrder) (cycles asked made : List Cycle) → IsSound net → IsReplayed net asked made None
    → IsSimulated order net (map vector_of asked) cycles → simulation_text false net made ≡ simulation_text false net cycles

-- a netlist and vectors have one list of cycles in an order
abbrev pub OneSimulation : Type 0
OneSimulation =
    (order : DeliveryOrder) (net : PlainNetlist) (vectors : List (List Bool)) (cycles others : List Cycle)
    → IsSimulated order net vectors cycles → IsSimulated order net vectors others → cycles ≡ others

-- and one pair of counts
abbrev pub OneCount : Type 0
OneCount =
    (order : DeliveryOrder) (net : PlainNetlist) (vectors : List (List Bool)) (counts others : PulseCounts)
    → CountsSimulation order net vectors counts → CountsSimulation order net vectors others → counts ≡ others

-- A sound netlist, not of too many wires, and cycles that are asked for by vectors of its width.
pub record CanBeReplayed (net : PlainNetlist) (asked : List Cycle) : Type 0 where
  pub sound : IsSound net
  pub few : number_of_wires net ≤ greatest_of Wires
  pub width : (cycle : Cycle) → IsIn cycle asked → length cycle.vector ≡ net.inputs

-- In every order such vectors can be simulated.
abbrev pub SimulationsExist : Type 0
SimulationsExist =
    (order : DeliveryOrder) (net : PlainNetlist) (asked : List Cycle) → CanBeReplayed net asked
    → (cycles : List Cycle) × IsSimulated order net (map vector_of asked) cycles

-- And whatever scripts ask for, there are cycles up to the first fault.
abbrev pub ReplaysExist : Type 0
ReplaysExist =
    (net : PlainNetlist) (asked : List Cycle) → CanBeReplayed net asked
    → (made : List Cycle) × (fault : Option CycleFault) × IsReplayed net asked made fault

-- By scripts such a netlist has one list of cycles up to the first fault, and one fault or none.
abbrev pub OneReplayed : Type 0
OneReplayed =
    (net : PlainNetlist) (asked made others : List Cycle) (fault other : Option CycleFault) → CanBeReplayed net asked
    → IsReplayed net asked made fault → IsReplayed net asked others other → (made ≡ others) × (fault ≡ other)
