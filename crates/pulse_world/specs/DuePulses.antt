-- Which wires pulse in each phase of a run, and what the cells keep at the end of each cycle.
use Rattle.std.specs.Prelude.{◌≡◌, ◌≤◌, ◌<◌, ℕ, Bool, true, false, not, Option, Some, None, List, [], ◌∷◌, map}
use Rattle.pulse_ids.specs.Ids.{WireId}
use Rattle.cell_netlist.specs.declared.kinds.Held.TheVariants.{Rest}
use Rattle.cell_netlist.specs.declared.kinds.Phase.TheVariants.{Relax}
use Rattle.cell_netlist.specs.declared.kinds.Role.TheVariants.{Front, Back, Const}
use Rattle.cell_netlist.specs.declared.lines.Cell.{Cell}
use Rattle.cell_netlist.specs.declared.lines.Cell.TheVariants.{La, Fa, Split, Droc}
use Rattle.pulse_ids.specs.Lists.{IsIn, occurrences}
use Rattle.cell_netlist.specs.Netlists.{PlainNetlist, number_of_wires}
use Rattle.cell_netlist.specs.World.{IsSettled}
use Rattle.cell_netlist.specs.declared.kinds.CellState.{CellState}
use Rattle.cell_netlist.specs.Runs.{Stage, Moment, DeliversPulse, IsMoment}
use Rattle.cell_netlist.specs.RailEquations.{LatchState, is_due, first_state, next_state}
use Rattle.cell_netlist.specs.NetRuns.{bits_in, latches_from}

-- what a front keeps at the end of a cycle, by its `q`: the complement of its back's bit
abbrev pub front_bit : LatchState → Option WireId → Bool
front_bit latches None = false
front_bit latches (Some link) = not (latches link.number)

-- what a cell keeps at the end of a cycle, by the next state of the latches: an LA or FA rests, a back has its
-- bit, a front the complement, and a constant its preload
abbrev pub resting : LatchState → Cell → CellState
resting latches (La a b out) = record { held = Rest; bit = false }
resting latches (Fa a b out) = record { held = Rest; bit = false }
resting latches (Split from left right) = record { held = Rest; bit = false }
resting latches (Droc Front preload feed q n) = record { held = Rest; bit = front_bit latches q }
resting latches (Droc Back preload feed q n) = record { held = Rest; bit = latches feed.number }
resting latches (Droc Const preload feed q n) = record { held = Rest; bit = preload }

-- a wire of the netlist is due a pulse in a phase of a run
abbrev pub IsDueIn : PlainNetlist → List (List Bool) → Stage → ℕ → Type 0
IsDueIn net run stage wire =
    (wire < number_of_wires net)
    × (is_due net (latches_from net (first_state net) run stage.cycle) (bits_in run stage.cycle) stage.phase wire ≡ true)

-- deliveries of these wires, in order, lead from one moment to another
abbrev pub DeliversAll : PlainNetlist → List ℕ → Moment → Moment → Type 0
DeliversAll net [] before after = after ≡ before
DeliversAll net (wire ∷ wires) before after = (mid : Moment) × DeliversPulse net wire before mid × DeliversAll net wires mid after

-- The pulses of a netlist follow a run of its rail equations. At each moment of every run of its pulses:
pub record FollowsRails (net : PlainNetlist) (vectors run : List (List Bool)) : Type 0 where
  -- deliveries lead on to a settled moment
  pub goes_on : (moment : Moment) → IsMoment net vectors moment
      → (wires : List ℕ) × (later : Moment) × DeliversAll net wires moment later × IsSettled later.state
  -- each wire was delivered at most once in the phase, and has at most one pulse pending
  pub once : (moment : Moment) → IsMoment net vectors moment → (wire : ℕ) → occurrences wire moment.delivered ≤ 1
  pub one_pending : (moment : Moment) → IsMoment net vectors moment → (wire : ℕ) → moment.state.pending wire ≤ 1
  -- before the first opening nothing was delivered, and nothing is pending
  pub unopened : (moment : Moment) → IsMoment net vectors moment → moment.stage ≡ None
      → (moment.delivered ≡ []) × IsSettled moment.state
  -- only wires of the netlist that are due in the phase are delivered, or pending
  pub delivered_due : (moment : Moment) → IsMoment net vectors moment → (stage : Stage) → moment.stage ≡ Some stage
      → (wire : ℕ) → IsIn wire moment.delivered → IsDueIn net run stage wire
  pub pending_due : (moment : Moment) → IsMoment net vectors moment → (stage : Stage) → moment.stage ≡ Some stage
      → (wire : ℕ) → (moment.state.pending wire ≡ 0 → ⊥) → IsDueIn net run stage wire
  -- the phase is settled exactly where every wire that is due was delivered
  pub settled : (moment : Moment) → IsMoment net vectors moment → (stage : Stage) → moment.stage ≡ Some stage → IsSettled moment.state
      → (wire : ℕ) → IsDueIn net run stage wire → IsIn wire moment.delivered
  pub settles : (moment : Moment) → IsMoment net vectors moment → (stage : Stage) → moment.stage ≡ Some stage
      → ((wire : ℕ) → IsDueIn net run stage wire → IsIn wire moment.delivered) → IsSettled moment.state
  -- where relax is settled, the cells keep the next state of the latches
  pub kept : (moment : Moment) → IsMoment net vectors moment → (stage : Stage) → moment.stage ≡ Some stage → stage.phase ≡ Relax → IsSettled moment.state
      → moment.state.cell_states ≡ map (resting (next_state net (bits_in run stage.cycle))) net.cells
