-- From moment to moment of one run, and to its end.
use Rattle.std.specs.Prelude.{◌≡◌, ◌*◌, Bool, List, [], ◌∷◌, length}
use Rattle.cell_netlist.specs.Netlists.{PlainNetlist}
use Rattle.cell_netlist.specs.World.{IsSettled}
use Rattle.cell_netlist.specs.Runs.{Moment, Event, Leads, OpensPhase, IsMoment, IsWhole, stages_taken}
use Rattle.cell_netlist.specs.Sound.{IsSound}

-- these events, the latest first, lead from one moment of a run to a later one of the same run
abbrev pub LeadsOn : PlainNetlist → List (List Bool) → List Event → Moment → Moment → Type 0
LeadsOn net vectors [] first last = last ≡ first
LeadsOn net vectors (event ∷ earlier) first last = (before : Moment) × LeadsOn net vectors earlier first before × Leads net vectors event before last

-- where events lead from a moment that a run reaches, a run reaches the later one
abbrev pub MomentsLeadOn : Type 0
MomentsLeadOn =
    (net : PlainNetlist) (vectors : List (List Bool)) (events : List Event) (first last : Moment) → IsMoment net vectors first
    → LeadsOn net vectors events first last → IsMoment net vectors last

-- on any vectors a sound netlist has a whole run
abbrev pub WholeRunExists : Type 0
WholeRunExists =
    (net : PlainNetlist) → IsSound net → (vectors : List (List Bool)) → (moment : Moment) × IsMoment net vectors moment × IsWhole vectors moment

-- and from every moment of each of its runs, events lead on to a whole one
abbrev pub EveryRunGoesOn : Type 0
EveryRunGoesOn =
    (net : PlainNetlist) → IsSound net → (vectors : List (List Bool)) (moment : Moment) → IsMoment net vectors moment
    → (events : List Event) × (last : Moment) × LeadsOn net vectors events moment last × IsWhole vectors last

-- where a phase is settled and some vector's phase is left, the next phase can be opened
abbrev pub NextPhaseOpens : Type 0
NextPhaseOpens =
    (net : PlainNetlist) (vectors : List (List Bool)) (moment : Moment) → IsMoment net vectors moment → IsSettled moment.state
    → (stages_taken moment.stage ≡ 2 * length vectors → ⊥) → (after : Moment) × OpensPhase net vectors moment after

-- and after a whole run nothing follows
abbrev pub WholeRunEnds : Type 0
WholeRunEnds =
    (net : PlainNetlist) (vectors : List (List Bool)) (moment : Moment) → IsWhole vectors moment → (event : Event) (after : Moment)
    → Leads net vectors event moment after → ⊥
