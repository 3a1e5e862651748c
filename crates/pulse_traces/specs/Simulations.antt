-- Simulations of a netlist in an order, and what is written of them.
use Rattle.std.specs.Prelude.{◌≡◌, ℕ, Bool, None, List, [], Result, map}
use Rattle.std.specs.declared.option.Option.{Option}
use Rattle.byte_ports.specs.Writing.{WritesText}
use Rattle.cell_netlist.specs.Netlists.{PlainNetlist}
use Rattle.cell_netlist.specs.World.{start}
use Rattle.pulse_world.specs.Worlds.{PlainWorld, state_of}
use Rattle.schedule_replay.specs.Orders.{Cycle, vector_of, MakesCycles, named_by}
use Rattle.pulse_traces.specs.declared.orders.DeliveryOrder.{DeliveryOrder}
use Rattle.pulse_traces.specs.Orders.{place_of}
use Rattle.pulse_traces.specs.SimulationTexts.{text_from, simulation_text}

-- the places that are named are the order's
abbrev pub Follows : (ℕ → ℕ → ℕ → Type 0) → DeliveryOrder → Type 0
Follows names order = (step count place : ℕ) → names step count place → named_by (place_of order) step count place

-- the cycles of these vectors from a world on, and what a sink took of their text
pub record WritesCycles {E : Type 0} (order : DeliveryOrder) (trace : Bool) (world : PlainWorld) (vectors : List (List Bool))
    (old new : Option (List ℕ)) (before now : ℕ) (result : Result Unit E) : Type 0 where
  pub cycles : List Cycle
  pub after : PlainWorld
  pub of_vectors : map vector_of cycles ≡ vectors
  pub made : MakesCycles (named_by (place_of order)) 0 world cycles after
  pub wrote : WritesText old new before now result (text_from trace world.net.output_rails 0 cycles)

-- a world of a netlist at its start
pub record IsStart (net : PlainNetlist) (world : PlainWorld) : Type 0 where
  pub net_is : world.net ≡ net
  pub starts : state_of world ≡ start net
  pub settled : world.queue ≡ []
  pub unopened : world.opened ≡ None

-- These are the cycles of a netlist on vectors, from its start, where each delivery is at the place that the order names for
-- the number of deliveries since the start and the number of pending pulses.
pub record IsSimulated (order : DeliveryOrder) (net : PlainNetlist) (vectors : List (List Bool)) (cycles : List Cycle) : Type 0 where
  pub first : PlainWorld
  pub starts : IsStart net first
  pub last : PlainWorld
  pub of_vectors : map vector_of cycles ≡ vectors
  pub made : MakesCycles (named_by (place_of order)) 0 first cycles last

-- what a sink took of the text of a simulation
pub record WritesSimulation {E : Type 0} (order : DeliveryOrder) (trace : Bool) (net : PlainNetlist) (vectors : List (List Bool))
    (old new : Option (List ℕ)) (before now : ℕ) (result : Result Unit E) : Type 0 where
  pub cycles : List Cycle
  pub simulated : IsSimulated order net vectors cycles
  pub wrote : WritesText old new before now result (simulation_text trace net cycles)
