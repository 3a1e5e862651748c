-- The law of every order in full: what is so of the pulses of a netlist by its rail equations.
use Rattle.std.specs.Prelude.{◌≡◌, ◌<◌, ℕ, suc, Bool, true, false, List, length}
use Rattle.pulse_ids.specs.Lists.{IsIn}
use Rattle.cell_netlist.specs.declared.lines.Rail.{Rail}
use Rattle.cell_netlist.specs.declared.lines.Cell.{Cell}
use Rattle.cell_netlist.specs.Netlists.{PlainNetlist, wire_of, reads, number_of_wires, IsDroc}
use Rattle.cell_netlist.specs.Runs.{Moment, Event, IsRun, IsMoment, IsWhole}
use Rattle.cell_netlist.specs.RailEquations.{IsNetRun, is_link, first_state}
use Rattle.cell_netlist.specs.NetRuns.{latches_from}
use Rattle.cell_netlist.specs.Sound.{IsSound}
use Rattle.pulse_world.specs.Delivery.{DeliversRails}
use Rattle.pulse_world.specs.DuePulses.{FollowsRails}
use Rattle.pulse_world.specs.LaterMoments.{LeadsOn}
use Rattle.pulse_world.specs.PulsesPerCycle.{IsCycle, PassesCycle, pulses_on, link_pulses}

-- The pulses of a netlist on a list of vectors are those of a run of its rail equations:
pub record PulsesAsRun (net : PlainNetlist) (vectors run : List (List Bool)) : Type 0 where
  -- under every order no delivery is an upset, and each output rail pulses in the phase of its wire's bit
  pub delivers : DeliversRails net vectors run
  -- only wires that are due are delivered, each once, until all are; and after relax the cells keep the next state
  pub follows : FollowsRails net vectors run
  -- in each cycle a wire that is no link is delivered once
  pub once : (cycle : ℕ) (excited relaxed : Moment) → IsCycle net vectors cycle excited relaxed
      → (wire : ℕ) → wire < number_of_wires net → is_link net wire ≡ false → pulses_on wire excited relaxed ≡ 1
  -- and a link by its back's state in this cycle and in the next one
  pub link : (cycle : ℕ) (excited relaxed : Moment) → IsCycle net vectors cycle excited relaxed
      → (wire : ℕ) → wire < number_of_wires net → is_link net wire ≡ true
      → pulses_on wire excited relaxed
      ≡ link_pulses (latches_from net (first_state net) run cycle wire) (latches_from net (first_state net) run (suc cycle) wire)

-- The law of every order. A netlist pulses as its rail equations say:
pub record PulsesAsItsRuns (net : PlainNetlist) : Type 0 where
  -- on each list of vectors the equations have a run
  pub some_run : (vectors : List (List Bool)) → (run : List (List Bool)) × IsNetRun net vectors run
  -- and the pulses are those of every run of them
  pub as_run : (vectors run : List (List Bool)) → IsNetRun net vectors run → PulsesAsRun net vectors run
  -- no output rail, LA, FA or splitter reads a link
  pub outputs : (rail : Rail) → IsIn rail net.output_rails → is_link net (wire_of rail) ≡ false
  pub gates : (cell : Cell) → IsIn cell net.cells → (IsDroc cell → ⊥) → (wire : ℕ) → IsIn wire (reads cell) → is_link net wire ≡ false
  -- the pulses can be brought to the end of all vectors, from the beginning and from every moment
  pub some_whole : (vectors : List (List Bool)) → (moment : Moment) × IsMoment net vectors moment × IsWhole vectors moment
  pub goes_on : (vectors : List (List Bool)) (moment : Moment) → IsMoment net vectors moment
      → (events : List Event) × (last : Moment) × LeadsOn net vectors events moment last × IsWhole vectors last
  -- and on the way there they pass through the cycle of each vector
  pub cycles : (vectors : List (List Bool)) (events : List Event) (last : Moment) → IsRun net vectors events last → IsWhole vectors last
      → (cycle : ℕ) → cycle < length vectors → PassesCycle net vectors events last cycle

-- a sound netlist pulses as its rail equations say
abbrev pub RailLaw : Type 0
RailLaw = (net : PlainNetlist) → IsSound net → PulsesAsItsRuns net
