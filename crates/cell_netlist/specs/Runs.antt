-- Runs of a netlist on a list of vectors, in every order of delivery.
use Rattle.std.specs.Prelude.{◌≡◌, ◌+◌, ◌*◌, ℕ, Bool, Option, Some, None, List, [], ◌∷◌, ◌++◌, length, slice_get}
use Rattle.cell_netlist.specs.declared.kinds.Phase.{Phase}
use Rattle.cell_netlist.specs.declared.kinds.Phase.TheVariants.{Excite, Relax}
use Rattle.cell_netlist.specs.Netlists.{PlainNetlist}
use Rattle.cell_netlist.specs.World.{State, start, IsSettled, opened, Delivered, deliver}

-- the phases of a run: the cycle, from 0, and which of its two phases
pub record Stage : Type 0 where
  pub cycle : ℕ
  pub phase : Phase

-- a moment of a run: the phase that it opened last, or none before the first opening; the wires delivered in
-- that phase, in order; and the state
pub record Moment : Type 0 where
  pub stage : Option Stage
  pub delivered : List ℕ
  pub state : State

-- relax follows excite, and the next cycle's excite follows relax
abbrev pub following : ℕ → Phase → Stage
following cycle Excite = record { cycle = cycle; phase = Relax }
following cycle Relax = record { cycle = cycle + 1; phase = Excite }

-- the phase that is opened next
abbrev pub next_stage : Option Stage → Stage
next_stage None = record { cycle = 0; phase = Excite }
next_stage (Some stage) = following stage.cycle stage.phase

-- what a run does: it opens the next phase, or delivers a pending pulse
pub data Event : Type 0 where
  Opens : Event
  Delivers : ℕ → Event

-- a phase opens where nothing is pending, with its cycle's vector
pub record OpensPhase (net : PlainNetlist) (vectors : List (List Bool)) (before after : Moment) : Type 0 where
  pub settled : IsSettled before.state
  pub vector : List Bool
  pub of_cycle : slice_get vectors (next_stage before.stage).cycle ≡ Some vector
  pub stage : after.stage ≡ Some (next_stage before.stage)
  pub delivered : after.delivered ≡ []
  pub state : after.state ≡ opened net (next_stage before.stage).phase vector before.state

-- a pending pulse of a wire is delivered
pub record DeliversPulse (net : PlainNetlist) (wire : ℕ) (before after : Moment) : Type 0 where
  pub stage : after.stage ≡ before.stage
  pub delivered : after.delivered ≡ before.delivered ++ wire ∷ []
  pub state : deliver net before.state wire ≡ Delivered after.state

-- an event leads from one moment to the next
abbrev pub Leads : PlainNetlist → List (List Bool) → Event → Moment → Moment → Type 0
Leads net vectors Opens before after = OpensPhase net vectors before after
Leads net vectors (Delivers wire) before after = DeliversPulse net wire before after

-- the moment before the first opening
abbrev pub beginning : PlainNetlist → Moment
beginning net = record { stage = None; delivered = []; state = start net }

-- A run: these events, the latest first, lead from the beginning to the moment. A run may end anywhere.
abbrev pub IsRun : PlainNetlist → List (List Bool) → List Event → Moment → Type 0
IsRun net vectors [] moment = moment ≡ beginning net
IsRun net vectors (event ∷ earlier) moment =
    (before : Moment) × IsRun net vectors earlier before × Leads net vectors event before moment

-- a moment that some run reaches
abbrev pub IsMoment : PlainNetlist → List (List Bool) → Moment → Type 0
IsMoment net vectors moment = (events : List Event) × IsRun net vectors events moment

-- how many phases were opened up to this one
abbrev pub taken_within : ℕ → Phase → ℕ
taken_within cycle Excite = 2 * cycle + 1
taken_within cycle Relax = 2 * cycle + 2

-- how many phases were opened
abbrev pub stages_taken : Option Stage → ℕ
stages_taken None = 0
stages_taken (Some stage) = taken_within stage.cycle stage.phase

-- every vector was taken through both phases, and the last phase is settled
abbrev pub IsWhole : List (List Bool) → Moment → Type 0
IsWhole vectors moment = IsSettled moment.state × (stages_taken moment.stage ≡ 2 * length vectors)
