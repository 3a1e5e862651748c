-- The calls of the engine's world are the events of a run: where a world stands at a moment, each call leads to the next.
use Rattle.std.specs.Prelude.{◌≡◌, ℕ, Bool, None, List, [], ◌∷◌, ◌++◌}
use Rattle.cell_netlist.specs.declared.kinds.Phase.TheVariants.{Excite, Relax}
use Rattle.cell_netlist.specs.World.{start}
use Rattle.cell_netlist.specs.Runs.{Moment, beginning, OpensPhase, DeliversPulse}
use Rattle.pulse_world.specs.Worlds.{PlainWorld, state_of, phase_of, opened_world, DeliversAt, IsWorldAt}

-- a world at its start stands at the beginning of a run
abbrev pub StartIsBeginning : Type 0
StartIsBeginning = (world : PlainWorld) → state_of world ≡ start world.net → world.opened ≡ None → IsWorldAt world [] (beginning world.net)

-- the opening of excite is the opening of the next cycle's excite, where the run has the new vector too
abbrev pub ExciteIsOpened : Type 0
ExciteIsOpened =
    (world : PlainWorld) (vectors : List (List Bool)) (moment : Moment) → IsWorldAt world vectors moment → phase_of world.opened ≡ Relax
    → world.queue ≡ [] → (inputs : List Bool)
    → (next : Moment) × OpensPhase world.net (vectors ++ inputs ∷ []) moment next
    × IsWorldAt (opened_world Excite inputs world) (vectors ++ inputs ∷ []) next

-- the opening of relax is the opening of the cycle's relax
abbrev pub RelaxIsOpened : Type 0
RelaxIsOpened =
    (world : PlainWorld) (vectors : List (List Bool)) (moment : Moment) → IsWorldAt world vectors moment → phase_of world.opened ≡ Excite
    → world.queue ≡ []
    → (next : Moment) × OpensPhase world.net vectors moment next × IsWorldAt (opened_world Relax world.vector world) vectors next

-- a delivery at a place is the delivery of its wire, by which the list of what the phase delivered grows
abbrev pub PlaceIsDelivered : Type 0
PlaceIsDelivered =
    (before after : PlainWorld) (place wire : ℕ) → DeliversAt before after place wire → (vectors : List (List Bool)) (moment : Moment)
    → IsWorldAt before vectors moment
    → (next : Moment) × DeliversPulse before.net wire moment next × IsWorldAt after vectors next
