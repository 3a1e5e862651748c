-- The engine's world as plain lists, and what it means that a run reaches it.
use Rattle.std.specs.Prelude.{◌≡◌, ◌≤◌, ◌+◌, ℕ, Bool, Option, Some, None, List, [], ◌∷◌, ◌++◌, map, length, slice_get, option_map}
use Rattle.cell_netlist.specs.declared.kinds.Phase.{Phase}
use Rattle.cell_netlist.specs.declared.kinds.Phase.TheVariants.{Relax}
use Rattle.std.specs.List.{swap_remove}
use Rattle.cell_netlist.specs.declared.lines.Reader.{Reader}
use Rattle.cell_netlist.specs.Places.{readers}
use Rattle.pulse_ids.specs.Lists.{occurrences}
use Rattle.pulse_ids.specs.declared.quantities.Quantity.TheVariants.{Wires}
use Rattle.pulse_ids.specs.Quantities.{greatest_of}
use Rattle.cell_netlist.specs.Netlists.{PlainNetlist, number_of_wires}
use Rattle.cell_netlist.specs.declared.kinds.CellState.{CellState}
use Rattle.cell_netlist.specs.World.{State, cleared, opening_pulses, Delivered, deliver}
use Rattle.cell_netlist.specs.Runs.{Stage, Moment, IsMoment}
use Rattle.cell_netlist.specs.Sound.{IsSound}
use Rattle.pulse_world.specs.Reacting.{emitted_at}

-- the netlist, the phase opened last, if one was, the vector of its cycle, the state of each cell, the wires of
-- the pending pulses in their queue, and how often each output rail pulsed in this phase
pub record PlainWorld : Type 0 where
  pub net : PlainNetlist
  pub opened : Option Phase
  pub vector : List Bool
  pub cell_states : List CellState
  pub queue : List ℕ
  pub counted : List ℕ

-- a world of these parts
abbrev pub world_of : PlainNetlist → Option Phase → List Bool → List CellState → List ℕ → List ℕ → PlainWorld
world_of net opened vector cell_states queue counted =
    record { net = net; opened = opened; vector = vector; cell_states = cell_states; queue = queue; counted = counted }

-- the state of the pulses: each wire has as many pending as it stands in the queue
abbrev pub state_of : PlainWorld → State
state_of world = record { cell_states = world.cell_states; pending = λ wire. occurrences wire world.queue; counted = world.counted }

-- the phase that was opened last, and relax before the first opening
abbrev pub phase_of : Option Phase → Phase
phase_of None = Relax
phase_of (Some phase) = phase

-- a world whose next phase was opened with a vector
abbrev pub opened_world : Phase → List Bool → PlainWorld → PlainWorld
opened_world phase vector world = record {
  net = world.net;
  opened = Some phase;
  vector = vector;
  cell_states = map cleared world.cell_states;
  queue = opening_pulses world.net phase vector (state_of world);
  counted = map (λ _. 0) world.net.output_rails;
}

-- the phase of a stage
abbrev pub phase_in : Stage → Phase
phase_in stage = stage.phase

-- how many cycles have begun
abbrev pub cycles_begun : Option Stage → ℕ
cycles_begun None = 0
cycles_begun (Some stage) = stage.cycle + 1

-- A run of a netlist on vectors stands at a moment with this state, in this phase, with this vector of its cycle, and
-- each vector's cycle has begun.
pub record StandsAt (net : PlainNetlist) (opened : Option Phase) (vector : List Bool) (state : State) (vectors : List (List Bool)) (moment : Moment) : Type 0 where
  pub reached : IsMoment net vectors moment
  pub state_is : moment.state ≡ state
  pub opened_is : option_map phase_in moment.stage ≡ opened
  pub begun : length vectors ≡ cycles_begun moment.stage
  pub last : (stage : Stage) → moment.stage ≡ Some stage → slice_get vectors stage.cycle ≡ Some vector

-- Some run of the netlist does.
pub record IsReached (net : PlainNetlist) (opened : Option Phase) (vector : List Bool) (state : State) : Type 0 where
  pub vectors : List (List Bool)
  pub moment : Moment
  pub stands : StandsAt net opened vector state vectors moment

-- a world stands at a moment of a run on vectors
abbrev pub IsWorldAt : PlainWorld → List (List Bool) → Moment → Type 0
IsWorldAt world vectors moment = StandsAt world.net world.opened world.vector (state_of world) vectors moment

-- a world of a sound netlist, not of too many wires, that some run reaches
pub record IsWorld (world : PlainWorld) : Type 0 where
  pub sound : IsSound world.net
  pub few : number_of_wires world.net ≤ greatest_of Wires
  pub reached : IsReached world.net world.opened world.vector (state_of world)
  pub width : length world.vector ≡ world.net.inputs

-- One delivery of the pulse at a place of the queue. It is the delivery of its wire; it takes the wire out of the queue,
-- moves the last one into its place, and appends what the wire's one reader emits.
pub record DeliversAt (before after : PlainWorld) (place wire : ℕ) : Type 0 where
  pub at : slice_get before.queue place ≡ Some wire
  pub delivered : deliver before.net (state_of before) wire ≡ Delivered (state_of after)
  pub reader : Reader
  pub reads : readers before.net wire ≡ reader ∷ []
  pub queue : after.queue ≡ swap_remove before.queue place 0 ++ emitted_at before.net.cells before.cell_states reader
  pub net : after.net ≡ before.net
  pub opened : after.opened ≡ before.opened
  pub vector : after.vector ≡ before.vector
