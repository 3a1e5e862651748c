-- Runs that are computed.
use Rattle.std.proofs.Common.{◌≡◌, ◌≤◌, ◌+◌, ◌-◌, ℕ, Bool, true, false, ◌==◌, nat_le, Option, Some, None, is_some, unwrap_or, option_and_then, List, [], ◌∷◌, ◌++◌, map, reverse, slice_get, sym}
use Rattle.std.proofs.Common.{subst, inl, inr, arith, refl, if◌then◌else◌}
use Rattle.std.proofs.lemmas.Bool.{cases_lt, cases_Bool, eqb-true, leb-true}
use Rattle.cell_netlist.specs.declared.kinds.Held.{Held}
use Rattle.cell_netlist.specs.declared.kinds.Held.TheVariants.{Rest, HasA, HasB}
use Rattle.cell_netlist.specs.declared.kinds.Phase.{Phase}
use Rattle.pulse_ids.specs.Lists.{IsIn, occurrences}
use Rattle.cell_netlist.specs.Netlists.{PlainNetlist, wire_bound, number_of_wires}
use Rattle.cell_netlist.specs.declared.kinds.CellState.{CellState}
use Rattle.cell_netlist.specs.World.{State, IsSettled, opening_pulses, opened, Reactions, reactions, counted_after}
use Rattle.cell_netlist.specs.Runs.{Moment, next_stage, Event, Opens, Delivers, OpensPhase, DeliversPulse, Leads, beginning, IsRun}
use Rattle.cell_netlist.specs.Decisions.{all_below}
use Rattle.cell_netlist.specs.ExampleRuns.{Settles, RestsWith}
use Rattle.cell_netlist.proofs.ListLemmas.{all_below-at}
use Rattle.cell_netlist.proofs.WireBounds.{occurrences-past}

-- no pulse is pending below n
abbrev pub settled_below : ℕ → State → Bool
settled_below n state = all_below (λ wire. state.pending wire == 0) n

-- nothing is pending from n on
abbrev pub QuietFrom : ℕ → State → Type 0
QuietFrom n state = (wire : ℕ) → n ≤ wire → state.pending wire ≡ 0

pub settled-from : (n : ℕ) (state : State) → QuietFrom n state → settled_below n state ≡ true → IsSettled state
settled-from n state quiet e wire = elim (cases_lt wire n) [
  | inl lt ↦ eqb-true _ _ (all_below-at (λ w. state.pending w == 0) n e wire lt)
  | inr ge ↦ quiet wire ge
]

module _ (net : PlainNetlist) (vectors : List (List Bool)) where
  -- a phase opened with a vector
  abbrev open_with : Moment → List Bool → Moment
  open_with moment vector = record { stage = Some (next_stage moment.stage); delivered = []; state = opened net (next_stage moment.stage).phase vector moment.state }

  abbrev open_if : Moment → Option (List Bool) → Bool → Option Moment
  open_if moment None ok = None
  open_if moment (Some vector) false = None
  open_if moment (Some vector) true =
      if nat_le (wire_bound (opening_pulses net (next_stage moment.stage).phase vector moment.state)) (number_of_wires net) then Some (open_with moment vector) else None

  -- a pulse delivered with its reactions
  abbrev deliver_with : Moment → ℕ → Reactions → Moment
  deliver_with moment wire reacted = record {
    stage = moment.stage;
    delivered = moment.delivered ++ wire ∷ [];
    state = record {
      cell_states = reacted.cell_states;
      pending = λ other. (moment.state.pending other - (if wire == other then 1 else 0)) + occurrences other reacted.emitted;
      counted = counted_after net.output_rails moment.state.counted wire;
    };
  }

  abbrev deliver_if : Moment → ℕ → Option Reactions → Bool → Option Moment
  deliver_if moment wire None none_pending = None
  deliver_if moment wire (Some reacted) true = None
  deliver_if moment wire (Some reacted) false = if nat_le (wire_bound reacted.emitted) (number_of_wires net) then Some (deliver_with moment wire reacted) else None

  -- a step of a run
  abbrev step : Event → Moment → Option Moment
  step Opens moment = open_if moment (slice_get vectors (next_stage moment.stage).cycle) (settled_below (number_of_wires net) moment.state)
  step (Delivers wire) moment = deliver_if moment wire (reactions net.cells moment.state.cell_states wire) (moment.state.pending wire == 0)

  -- the moment after these events, the latest first
  abbrev pub play : List Event → Option Moment
  play [] = Some (beginning net)
  play (event ∷ earlier) = option_and_then (step event) (play earlier)

  bounded-then : {A : Type 0} (a b : ℕ) (x y : A) → (if nat_le a b then Some x else None) ≡ Some y → (a ≤ b) × (x ≡ y)
  bounded-then a b x y e = elim (cases_Bool (nat_le a b)) [
    | inl hit ↦ let g = rw hit at e in (leb-true _ _ hit, cc)
    | inr miss ↦ let g = rw miss at e in absurd cc
  ]

  open-leads : (moment after : Moment) → QuietFrom (number_of_wires net) moment.state → (o : Option (List Bool))
      → slice_get vectors (next_stage moment.stage).cycle ≡ o → (b : Bool) → settled_below (number_of_wires net) moment.state ≡ b
      → open_if moment o b ≡ Some after → OpensPhase net vectors moment after × QuietFrom (number_of_wires net) after.state
  open-leads moment after quiet None is b settled e = absurd cc
  open-leads moment after quiet (Some vector) is false settled e = absurd cc
  open-leads moment after quiet (Some vector) is true settled e =
      let its = bounded-then _ _ (open_with moment vector) after e in
      let P : Moment → Type 0 = λ m. OpensPhase net vectors moment m × QuietFrom (number_of_wires net) m.state in
      subst P its.1 (
        record { settled = settled-from (number_of_wires net) moment.state quiet settled; vector = vector; of_cycle = is; stage = refl; delivered = refl; state = refl },
        λ wire ge. occurrences-past wire (opening_pulses net (next_stage moment.stage).phase vector moment.state) (omega (arith, its.0)),
      )

  deliver-leads : (moment after : Moment) (wire : ℕ) → QuietFrom (number_of_wires net) moment.state → (o : Option Reactions)
      → reactions net.cells moment.state.cell_states wire ≡ o → (b : Bool) → (moment.state.pending wire == 0) ≡ b
      → deliver_if moment wire o b ≡ Some after → DeliversPulse net wire moment after × QuietFrom (number_of_wires net) after.state
  deliver-leads moment after wire quiet None is b pending e = absurd cc
  deliver-leads moment after wire quiet (Some reacted) is true pending e = absurd cc
  deliver-leads moment after wire quiet (Some reacted) is false pending e =
      let its = bounded-then _ _ (deliver_with moment wire reacted) after e in
      let P : Moment → Type 0 = λ m. DeliversPulse net wire moment m × QuietFrom (number_of_wires net) m.state in
      subst P its.1 (
        record { stage = refl; delivered = refl; state = rw (pending, is) refl },
        λ other ge.
            let none = quiet other ge in
            let few = occurrences-past other reacted.emitted (omega (arith, its.0)) in
            rw (none, few) (zero-less (if wire == other then 1 else 0)),
      )
    where
      zero-less : (k : ℕ) → (0 - k) + 0 ≡ 0
      zero-less k = omega arith

  step-leads : (event : Event) (moment after : Moment) → QuietFrom (number_of_wires net) moment.state → step event moment ≡ Some after
      → Leads net vectors event moment after × QuietFrom (number_of_wires net) after.state
  step-leads Opens moment after quiet e = open-leads moment after quiet _ refl _ refl e
  step-leads (Delivers wire) moment after quiet e = deliver-leads moment after wire quiet _ refl _ refl e

  abbrev IsPlayed : List Event → Moment → Type 0
  IsPlayed events moment = IsRun net vectors events moment × QuietFrom (number_of_wires net) moment.state

  played-on : (event : Event) (earlier : List Event) (o : Option Moment) → ((before : Moment) → o ≡ Some before → IsPlayed earlier before)
      → (after : Moment) → option_and_then (step event) o ≡ Some after → IsPlayed (event ∷ earlier) after
  played-on event earlier None so_far after e = absurd cc
  played-on event earlier (Some before) so_far after e =
      let past = so_far before refl in
      let now = step-leads event before after past.1 e in
      ((before, past.0, now.0), now.1)

  pub played : (events : List Event) (moment : Moment) → play events ≡ Some moment → IsPlayed events moment
  played [] moment e =
      let same : moment ≡ beginning net = cc in
      (same, subst (λ (m : Moment). QuietFrom (number_of_wires net) m.state) (sym same) (λ wire ge. refl))
  played (event ∷ earlier) moment e = played-on event earlier (play earlier) (λ before g. played earlier before g) moment e

  -- the moment that is played, or the beginning
  abbrev pub moment_of : List Event → Moment
  moment_of events = unwrap_or (play events) (beginning net)

  unwrapped : (o : Option Moment) (d : Moment) → is_some o ≡ true → o ≡ Some (unwrap_or o d)
  unwrapped None d e = absurd cc
  unwrapped (Some x) d e = refl

  -- a settled moment that is played
  pub settles : (events : List Event) (cycle : ℕ) (phase : Phase) (order counts : List ℕ) (such : State → Type 0)
      → is_some (play events) ≡ true → settled_below (number_of_wires net) (moment_of events).state ≡ true
      → (moment_of events).stage ≡ Some (record { cycle = cycle; phase = phase }) → (moment_of events).delivered ≡ order
      → (moment_of events).state.counted ≡ counts → such (moment_of events).state → Settles net vectors cycle phase order counts such
  settles events cycle phase order counts such e quiet stage delivered counted state =
      let past = played events (moment_of events) (unwrapped (play events) (beginning net) e) in
      record {
        moment = moment_of events;
        reached = (events, past.0);
        stage = stage;
        delivered = delivered;
        settled = settled-from (number_of_wires net) (moment_of events).state past.1 quiet;
        counted = counted;
        state = state;
      }

-- the events of phases, each with its order, the latest phase last
abbrev pub phases : List (List ℕ) → List Event
phases [] = []
phases (order ∷ later) = phases later ++ (reverse (map Delivers order) ++ Opens ∷ [])

-- whether all cell_states rest
abbrev pub is_rest : Held → Bool
is_rest Rest = true
is_rest HasA = false
is_rest HasB = false

abbrev pub all_rest : List CellState → Bool
all_rest [] = true
all_rest (cell_state ∷ cell_states) = if is_rest cell_state.held then all_rest cell_states else false

rest-at : (held : Held) → is_rest held ≡ true → held ≡ Rest
rest-at Rest e = refl
rest-at HasA e = absurd cc
rest-at HasB e = absurd cc

pub all_rest-at : (cell_states : List CellState) → all_rest cell_states ≡ true → (cell_state : CellState) → IsIn cell_state cell_states → cell_state.held ≡ Rest
all_rest-at [] e cell_state h = absurd h
all_rest-at (c ∷ cell_states) e cell_state h = elim (cases_Bool (is_rest c.held)) [
  | inr miss ↦ let g = rw miss at e in absurd cc
  | inl hit ↦ elim h [
    | inl same ↦ subst (λ (x : CellState). x.held ≡ Rest) same (rest-at c.held hit)
    | inr later ↦ all_rest-at cell_states (rw hit at e) cell_state later
  ]
]

-- a settled moment at which every gate rests
pub rests : (net : PlainNetlist) (vectors : List (List Bool)) (events : List Event) (cycle : ℕ) (phase : Phase) (order counts : List ℕ) (cell_states : List CellState)
    → is_some (play net vectors events) ≡ true → settled_below (number_of_wires net) (moment_of net vectors events).state ≡ true
    → (moment_of net vectors events).stage ≡ Some (record { cycle = cycle; phase = phase }) → (moment_of net vectors events).delivered ≡ order
    → (moment_of net vectors events).state.counted ≡ counts → (moment_of net vectors events).state.cell_states ≡ cell_states → all_rest cell_states ≡ true
    → Settles net vectors cycle phase order counts (RestsWith cell_states)
rests net vectors events cycle phase order counts cell_states e quiet stage delivered counted state rest =
    settles net vectors events cycle phase order counts (RestsWith cell_states) e quiet stage delivered counted
    (state, all_rest-at (moment_of net vectors events).state.cell_states (rw state rest))
