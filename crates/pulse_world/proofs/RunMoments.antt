-- What holds at each moment of every run, of any netlist.
use Rattle.std.proofs.Common.{◌≡◌, ◌≢◌, ℕ, ◌+◌, ◌-◌, ◌≤◌, ◌⊎◌, inl, inr, Option, Some, None, List, [], ◌∷◌, ◌++◌, map, Bool, true, false, ◌==◌, if◌then◌else◌, refl, sym, ◌∙◌, ap, subst, arith}
use Rattle.std.specs.Prelude.{slice_get}
use Rattle.std.proofs.lemmas.Bool.{eqb-true, eqb-false, cases_eq}
use Rattle.cell_netlist.specs.declared.lines.Rail.{Rail}
use Rattle.cell_netlist.specs.declared.kinds.Phase.{Phase}
use Rattle.pulse_ids.specs.Lists.{occurrences, bit_at}
use Rattle.cell_netlist.specs.Netlists.{PlainNetlist, wire_of}
use Rattle.cell_netlist.specs.World.{State, rail_pulses, has_sign, pulses_in, Reactions, reactions, counted_after, NotPending, Upset, Delivered, moved, deliver}
use Rattle.cell_netlist.specs.Runs.{Stage, Moment, Event, Opens, Delivers, next_stage, IsRun}
use Rattle.cell_netlist.specs.RailEquations.{IsRails, IsNetRun, first_state}
use Rattle.cell_netlist.specs.NetRuns.{bits_in, latches_from}
use Rattle.pulse_ids.proofs.CallerLemmasOnCounts.{occurrences-append, one_if, test_same, test_other}
use Rattle.cell_netlist.proofs.CallerLemmasOnSums.{sum_over}
use Rattle.cell_netlist.proofs.CallerLemmasOnRuns.{rails-from, vector-is}
use Rattle.pulse_world.proofs.Counts.{occurrences-last}

-- what a delivery that succeeds does
pub record Moves (net : PlainNetlist) (state : State) (wire : ℕ) (after : State) : Type 0 where
  pub pending : 1 ≤ state.pending wire
  pub reacted : Reactions
  pub reacts : reactions net.cells state.cell_states wire ≡ Some reacted
  pub cell_states : after.cell_states ≡ reacted.cell_states
  pub pending_is : (other : ℕ) → after.pending other ≡ (state.pending other - (if wire == other then 1 else 0)) + occurrences other reacted.emitted
  pub counted : after.counted ≡ counted_after net.output_rails state.counted wire

-- a delivery that succeeds
pub moves : (net : PlainNetlist) (state : State) (wire : ℕ) (after : State) → deliver net state wire ≡ Delivered after → Moves net state wire after
moves net state wire after e = go (state.pending wire == 0) refl (reactions net.cells state.cell_states wire) refl e
  where
    go : (test : Bool) → (state.pending wire == 0) ≡ test → (r : Option Reactions) → reactions net.cells state.cell_states wire ≡ r
        → (if test then NotPending else moved net state wire r) ≡ Delivered after → Moves net state wire after
    go true t r s e = absurd (cc)
    go false t None s e = absurd (cc)
    go false t (Some r) s e =
        let ne = eqb-false (state.pending wire) 0 t in
        let is : record {
          cell_states = r.cell_states;
          pending = λ other. (state.pending other - (if wire == other then 1 else 0)) + occurrences other r.emitted;
          counted = counted_after net.output_rails state.counted wire;
        } ≡ after = cc in
        record {
          pending = omega arith;
          reacted = r;
          reacts = s;
          cell_states = sym (ap (λ (s : State). s.cell_states) is);
          pending_is = λ other. sym (ap (λ (s : State). s.pending other) is);
          counted = sym (ap (λ (s : State). s.counted) is);
        }

-- what was pending or taken before a delivery is so after it, and what was emitted is pending
pub moved-balance : (net : PlainNetlist) (state : State) (wire : ℕ) (after : State) (m : Moves net state wire after) (other : ℕ) (taken : List ℕ)
    → after.pending other + occurrences other (taken ++ wire ∷ []) ≡ (state.pending other + occurrences other taken) + occurrences other m.reacted.emitted
moved-balance net state wire after m other taken = go (cases_eq wire other)
  where
    go : (wire ≡ other) ⊎ (wire ≢ other)
        → after.pending other + occurrences other (taken ++ wire ∷ []) ≡ (state.pending other + occurrences other taken) + occurrences other m.reacted.emitted
    go (inl e) =
        let p = m.pending_is other in
        let t = test_same wire other e in
        let u = test_same other wire (sym e) in
        let l = occurrences-append other taken (wire ∷ []) in
        let low : 1 ≤ state.pending other = subst (λ w. 1 ≤ state.pending w) e m.pending in omega arith
    go (inr ne) =
        let p = m.pending_is other in
        let t = test_other wire other ne in
        let u = test_other other wire (λ e. ne (sym e)) in
        let l = occurrences-append other taken (wire ∷ []) in omega arith

-- where a wire is pending and all tables have a queue, the delivery succeeds
pub delivered : (net : PlainNetlist) (state : State) (wire : ℕ) (r : Reactions) → (state.pending wire ≡ 0 → ⊥) → reactions net.cells state.cell_states wire ≡ Some r
    → (after : State) × (deliver net state wire ≡ Delivered after)
delivered net state wire r pending e = go (state.pending wire == 0) refl
  where
    go : (test : Bool) → (state.pending wire == 0) ≡ test → (after : State) × ((if test then NotPending else moved net state wire (reactions net.cells state.cell_states wire)) ≡ Delivered after)
    go true t = absurd (pending (eqb-true (state.pending wire) 0 t))
    go false t = (_, ap (moved net state wire) e)

-- an upset is a delivery of a pending wire
pub upset_pending : (net : PlainNetlist) (state : State) (wire : ℕ) → deliver net state wire ≡ Upset → state.pending wire ≡ 0 → ⊥
upset_pending net state wire e z = go (state.pending wire == 0) refl e
  where
    go : (test : Bool) → (state.pending wire == 0) ≡ test → (if test then NotPending else moved net state wire (reactions net.cells state.cell_states wire)) ≡ Upset → ⊥
    go true t e = cc
    go false t e = eqb-false (state.pending wire) 0 t z

-- where each pending pulse can be delivered, nothing is an upset
pub no_upset : (net : PlainNetlist) (state : State) (wire : ℕ) → ((state.pending wire ≡ 0 → ⊥) → (after : State) × (deliver net state wire ≡ Delivered after))
    → deliver net state wire ≡ Upset → ⊥
no_upset net state wire live e = let d = live (upset_pending net state wire e) in let f = d.1 in cc

-- the counts of the output rails after one more delivery
counted-more : (rails : List Rail) (taken : List ℕ) (wire : ℕ)
    → counted_after rails (map (λ rail. occurrences (wire_of rail) taken) rails) wire ≡ map (λ rail. occurrences (wire_of rail) (taken ++ wire ∷ [])) rails
counted-more [] taken wire = refl
counted-more (rail ∷ rails) taken wire =
    let r = counted-more rails taken wire in let h = occurrences-last (wire_of rail) wire taken in cc

-- an output rail has counted what was delivered on its wire in this phase
pub counts-are : (net : PlainNetlist) (vectors : List (List Bool)) (events : List Event) (moment : Moment) → IsRun net vectors events moment
    → moment.state.counted ≡ map (λ rail. occurrences (wire_of rail) moment.delivered) net.output_rails
counts-are net vectors [] moment run =
    subst (λ (m : Moment). m.state.counted ≡ map (λ rail. occurrences (wire_of rail) m.delivered) net.output_rails) (sym run) refl
counts-are net vectors (Opens ∷ earlier) moment (before, run, opens) =
    subst (λ taken. moment.state.counted ≡ map (λ rail. occurrences (wire_of rail) taken) net.output_rails) (sym opens.delivered) (ap (λ (s : State). s.counted) opens.state)
counts-are net vectors (Delivers wire ∷ earlier) moment (before, run, delivers) =
    let m = moves net before.state wire moment.state delivers.state in
    let r = counts-are net vectors earlier before run in
    subst (λ taken. moment.state.counted ≡ map (λ rail. occurrences (wire_of rail) taken) net.output_rails) (sym delivers.delivered)
    (m.counted ∙ (ap (λ counts. counted_after net.output_rails counts wire) r ∙ counted-more net.output_rails before.delivered wire))

-- a phase has a vector
pub vector-of : (net : PlainNetlist) (vectors : List (List Bool)) (events : List Event) (moment : Moment) → IsRun net vectors events moment
    → (stage : Stage) → moment.stage ≡ Some stage → (vector : List Bool) × (slice_get vectors stage.cycle ≡ Some vector)
vector-of net vectors [] moment run stage e = let f = ap (λ (m : Moment). m.stage) run in absurd (cc)
vector-of net vectors (Opens ∷ earlier) moment (before, run, opens) stage e =
    let f = opens.stage in
    let same : next_stage before.stage ≡ stage = cc in
    (opens.vector, subst (λ (s : Stage). slice_get vectors s.cycle ≡ Some opens.vector) same opens.of_cycle)
vector-of net vectors (Delivers wire ∷ earlier) moment (before, run, delivers) stage e =
    vector-of net vectors earlier before run stage (sym delivers.stage ∙ e)

-- the pulses that a vector puts on a rail in a phase
abbrev pub rail_given : Phase → List Bool → Rail → List ℕ
rail_given phase vector rail = if pulses_in phase (has_sign (bit_at vector rail.port) rail.sign) then wire_of rail ∷ [] else []

pub occurrences-rail_pulses : (phase : Phase) (vector : List Bool) (n : ℕ) (rails : List Rail)
    → occurrences n (rail_pulses phase vector rails) ≡ sum_over (λ rail. occurrences n (rail_given phase vector rail)) rails
occurrences-rail_pulses phase vector n [] = refl
occurrences-rail_pulses phase vector n (rail ∷ rails) =
    let a = occurrences-append n (rail_given phase vector rail) (rail_pulses phase vector rails) in
    let r = occurrences-rail_pulses phase vector n rails in omega arith

given-less : (test : Bool) (n wire : ℕ) → occurrences n (if test then wire ∷ [] else []) ≤ occurrences n (wire ∷ [])
given-less true n wire = omega arith
given-less false n wire = omega arith

pub rail_given-less : (phase : Phase) (vector : List Bool) (n : ℕ) (rail : Rail) → occurrences n (rail_given phase vector rail) ≤ occurrences n (wire_of rail ∷ [])
rail_given-less phase vector n rail = given-less (pulses_in phase (has_sign (bit_at vector rail.port) rail.sign)) n (wire_of rail)

given-is : (test : Bool) (wire : ℕ) → occurrences wire (if test then wire ∷ [] else []) ≡ one_if test
given-is true wire = let t = test_same wire wire refl in omega arith
given-is false wire = refl

pub rail_given-is : (phase : Phase) (vector : List Bool) (rail : Rail)
    → occurrences (wire_of rail) (rail_given phase vector rail) ≡ one_if (pulses_in phase (has_sign (bit_at vector rail.port) rail.sign))
rail_given-is phase vector rail = given-is (pulses_in phase (has_sign (bit_at vector rail.port) rail.sign)) (wire_of rail)

-- in the cycle of each phase that was opened, the run's bits meet the equations
pub rails-at : (net : PlainNetlist) (vectors run : List (List Bool)) (events : List Event) (moment : Moment) → IsRun net vectors events moment
    → IsNetRun net vectors run → (stage : Stage) → moment.stage ≡ Some stage
    → IsRails net (latches_from net (first_state net) run stage.cycle) (bits_in vectors stage.cycle) (bits_in run stage.cycle)
rails-at net vectors run events moment is_run is_net_run stage e =
    let v = vector-of net vectors events moment is_run stage e in
    subst (λ vector. IsRails net (latches_from net (first_state net) run stage.cycle) vector (bits_in run stage.cycle)) (vector-is vectors stage.cycle v.0 v.1)
    (rails-from net (first_state net) vectors run is_net_run stage.cycle v.0 v.1)
