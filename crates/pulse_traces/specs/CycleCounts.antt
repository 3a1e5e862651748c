-- How many deliveries cycles make, and how many output rails pulse in their excites.
use Rattle.std.specs.Prelude.{◌≡◌, ◌+◌, ℕ, Bool, List, [], ◌∷◌, length, map}
use Rattle.std.specs.List.{sum}
use Rattle.cell_netlist.specs.declared.lines.Rail.{Rail}
use Rattle.cell_netlist.specs.Netlists.{PlainNetlist}
use Rattle.pulse_world.specs.Worlds.{PlainWorld}
use Rattle.schedule_replay.specs.Orders.{Cycle, vector_of, MakesCycles, named_by}
use Rattle.pulse_traces.specs.declared.orders.DeliveryOrder.{DeliveryOrder}
use Rattle.pulse_traces.specs.declared.pulse_counts.PulseCounts.{PulseCounts}
use Rattle.pulse_traces.specs.Orders.{place_of}
use Rattle.pulse_traces.specs.SimulationTexts.{counts_in}
use Rattle.pulse_traces.specs.Simulations.{IsSimulated}

-- how many pulses of output rails there are in a phase that delivered these wires
abbrev pub pulses_in : List Rail → List ℕ → ℕ
pulses_in rails wires = sum (counts_in rails wires)

-- the deliveries in both phases of all cycles
abbrev pub deliveries_in : List Cycle → ℕ
deliveries_in [] = 0
deliveries_in (cycle ∷ cycles) = length cycle.excite + length cycle.relax + deliveries_in cycles

-- the pulses of output rails in the excites of all cycles
abbrev pub ones_in : List Rail → List Cycle → ℕ
ones_in rails [] = 0
ones_in rails (cycle ∷ cycles) = pulses_in rails cycle.excite + ones_in rails cycles

-- these are the two numbers of these cycles
pub record AreCounts (rails : List Rail) (cycles : List Cycle) (counts : PulseCounts) : Type 0 where
  pub deliveries : counts.deliveries ≡ deliveries_in cycles
  pub ones : counts.ones ≡ ones_in rails cycles

-- the counts of an order's cycles on these vectors from a world on
pub record CountsCycles (order : DeliveryOrder) (world : PlainWorld) (vectors : List (List Bool)) (counts : PulseCounts) : Type 0 where
  pub cycles : List Cycle
  pub after : PlainWorld
  pub of_vectors : map vector_of cycles ≡ vectors
  pub made : MakesCycles (named_by (place_of order)) 0 world cycles after
  pub counted : AreCounts world.net.output_rails cycles counts

-- the counts of a simulation of a netlist on vectors
pub record CountsSimulation (order : DeliveryOrder) (net : PlainNetlist) (vectors : List (List Bool)) (counts : PulseCounts) : Type 0 where
  pub cycles : List Cycle
  pub simulated : IsSimulated order net vectors cycles
  pub counted : AreCounts net.output_rails cycles counts
