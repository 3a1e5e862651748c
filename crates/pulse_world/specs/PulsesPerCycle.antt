-- How many pulses each wire gets in a cycle.
use Rattle.std.specs.Prelude.{◌≡◌, ◌<◌, ℕ, suc, Bool, true, false, Some, List, ◌++◌, length}
use Rattle.cell_netlist.specs.declared.kinds.Phase.TheVariants.{Excite, Relax}
use Rattle.cell_netlist.specs.declared.lines.Rail.{Rail}
use Rattle.cell_netlist.specs.declared.lines.Cell.{Cell}
use Rattle.pulse_ids.specs.Lists.{IsIn, occurrences}
use Rattle.cell_netlist.specs.Netlists.{PlainNetlist, wire_of, reads, number_of_wires, IsDroc}
use Rattle.cell_netlist.specs.World.{IsSettled}
use Rattle.cell_netlist.specs.Runs.{Moment, Event, IsRun, IsMoment, IsWhole}
use Rattle.cell_netlist.specs.RailEquations.{IsNetRun, is_link, first_state}
use Rattle.cell_netlist.specs.NetRuns.{latches_from}
use Rattle.cell_netlist.specs.Sound.{IsSound}
use Rattle.pulse_world.specs.LaterMoments.{LeadsOn}

-- A cycle of a run: a moment at which its excite is settled, and one at which its relax is, to which events of the
-- same run lead.
pub record IsCycle (net : PlainNetlist) (vectors : List (List Bool)) (cycle : ℕ) (excited relaxed : Moment) : Type 0 where
  pub reached : IsMoment net vectors excited
  pub excite : excited.stage ≡ Some (record { cycle = cycle; phase = Excite })
  pub excite_settled : IsSettled excited.state
  pub events : List Event
  pub leads : LeadsOn net vectors events excited relaxed
  pub relax : relaxed.stage ≡ Some (record { cycle = cycle; phase = Relax })
  pub relax_settled : IsSettled relaxed.state

-- The run of these events, the latest first, passes through a cycle: earlier events lead to a moment at which its excite is
-- settled, those in between to one at which its relax is, and later ones from there to the last moment.
pub record PassesCycle (net : PlainNetlist) (vectors : List (List Bool)) (events : List Event) (last : Moment) (cycle : ℕ) : Type 0 where
  pub excited : Moment
  pub relaxed : Moment
  pub is_cycle : IsCycle net vectors cycle excited relaxed
  pub earlier : List Event
  pub begins : IsRun net vectors earlier excited
  pub later : List Event
  pub ends : LeadsOn net vectors later relaxed last
  pub parts : events ≡ later ++ (is_cycle.events ++ earlier)

-- a whole run passes through the cycle of each vector
abbrev pub WholeRunsHaveCycles : Type 0
WholeRunsHaveCycles =
    (net : PlainNetlist) (vectors : List (List Bool)) (events : List Event) (last : Moment) → IsRun net vectors events last → IsWhole vectors last
    → (cycle : ℕ) → cycle < length vectors → PassesCycle net vectors events last cycle

-- how often a wire was delivered in the two phases of a cycle
abbrev pub pulses_on : ℕ → Moment → Moment → ℕ
pulses_on wire excited relaxed = occurrences wire (excited.delivered ++ relaxed.delivered)

-- the pulses of a link in a cycle, by its back's state and next state: two where the state goes from 0 to 1, none
-- where it goes from 1 to 0, and one where it stays
abbrev pub link_pulses : Bool → Bool → ℕ
link_pulses false true = 2
link_pulses true false = 0
link_pulses false false = 1
link_pulses true true = 1

-- in each cycle of each run of a sound netlist a wire that is no link is delivered once
abbrev pub OncePerCycle : Type 0
OncePerCycle =
    (net : PlainNetlist) → IsSound net → (vectors : List (List Bool)) (cycle : ℕ) (excited relaxed : Moment)
    → IsCycle net vectors cycle excited relaxed → (wire : ℕ) → wire < number_of_wires net → is_link net wire ≡ false
    → pulses_on wire excited relaxed ≡ 1

-- and a link by its back's state in this cycle and in the next one
abbrev pub LinkPerCycle : Type 0
LinkPerCycle =
    (net : PlainNetlist) → IsSound net → (vectors run : List (List Bool)) → IsNetRun net vectors run → (cycle : ℕ) (excited relaxed : Moment)
    → IsCycle net vectors cycle excited relaxed → (wire : ℕ) → wire < number_of_wires net → is_link net wire ≡ true
    → pulses_on wire excited relaxed
    ≡ link_pulses (latches_from net (first_state net) run cycle wire) (latches_from net (first_state net) run (suc cycle) wire)

-- no output rail reads a link
abbrev pub OutputsReadNoLink : Type 0
OutputsReadNoLink =
    (net : PlainNetlist) → IsSound net → (rail : Rail) → IsIn rail net.output_rails → is_link net (wire_of rail) ≡ false

-- no LA, FA or splitter reads a link
abbrev pub GatesReadNoLink : Type 0
GatesReadNoLink =
    (net : PlainNetlist) → IsSound net → (cell : Cell) → IsIn cell net.cells → (IsDroc cell → ⊥) → (wire : ℕ) → IsIn wire (reads cell)
    → is_link net wire ≡ false
