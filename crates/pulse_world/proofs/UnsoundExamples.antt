-- Netlists that break a rule, and deliver no bits.
use Rattle.std.proofs.Common.{◌≡◌, ℕ, Bool, true, false, not, if◌then◌else◌, sym, ◌∙◌, Some, List, [], ◌∷◌, length, refl, arith, inl, inr}
use Rattle.pulse_ids.specs.Ids.{numbered}
use Rattle.cell_netlist.specs.declared.kinds.Phase.TheVariants.{Excite, Relax}
use Rattle.cell_netlist.specs.declared.kinds.Role.TheVariants.{Const}
use Rattle.cell_netlist.specs.declared.lines.Rail.{Rail}
use Rattle.cell_netlist.specs.declared.unsound.Unsound.{Unsound}
use Rattle.cell_netlist.specs.declared.unsound.Unsound.TheVariants.{WireUndriven, WireTwiceDriven, WireTwiceRead, Loop, LooseDroc, WrongPreload}
use Rattle.pulse_ids.specs.Lists.{bit_at}
use Rattle.cell_netlist.specs.Netlists.{PlainNetlist, number_of_wires, wire_of}
use Rattle.cell_netlist.specs.World.{has_sign, Upset, deliver}
use Rattle.cell_netlist.specs.Runs.{Moment, IsMoment, Event}
use Rattle.cell_netlist.specs.RailEquations.{LatchState, CellEquation, IsRails, IsNetRun}
use Rattle.pulse_world.specs.Delivery.{Delivers}
use Rattle.cell_netlist.specs.ExampleNetlists.{droc, on, unused, looped}
use Rattle.cell_netlist.specs.ExampleRefusals.{BreaksAlone}
use Rattle.cell_netlist.proofs.CallerLemmas.{first_refusal, looped_breaks, clear_pair_breaks, phases, play, played, settles}
use Rattle.cell_netlist.proofs.CallerLemmasOnLists.{Each, each-at}
use Rattle.pulse_world.specs.NeededRules.{NeedsRule, IsUpsetWithout, undriven, merged, tapped, fed_by_rail, both_clear, RulesAreNeeded}

-- a moment at which a delivery is an upset leaves no bits to deliver
no_bits : (net : PlainNetlist) (vectors : List (List Bool)) (moment : Moment) → IsMoment net vectors moment → (wire : ℕ)
    → deliver net moment.state wire ≡ Upset → (bit : ℕ → ℕ → Bool) → Delivers net vectors bit → ⊥
no_bits net vectors moment reached wire upset bit delivers = delivers.no_upset moment reached wire upset

-- bits that meet each equation
rails_of : (net : PlainNetlist) (state : LatchState) (vector bits : List Bool) → length bits ≡ number_of_wires net
    → Each (λ (r : Rail). bit_at bits (wire_of r) ≡ has_sign (bit_at vector r.port) r.sign) net.input_rails
    → Each (CellEquation state (bit_at bits)) net.cells → IsRails net state vector bits
rails_of net state vector bits e rails cells = record {
  length_is = e;
  rails = each-at (λ (r : Rail). bit_at bits (wire_of r) ≡ has_sign (bit_at vector r.port) r.sign) net.input_rails rails;
  cells = each-at (CellEquation state (bit_at bits)) net.cells cells;
}

-- a moment that is played
reaches : (net : PlainNetlist) (vectors : List (List Bool)) (events : List Event) (moment : Moment) → play net vectors events ≡ Some moment → IsMoment net vectors moment
reaches net vectors events moment e = (events, (played net vectors events moment e).0)

-- the upset comes after these phases
is_upset : (net : PlainNetlist) (vectors : List (List Bool)) (broken : Unsound) → BreaksAlone net broken → (run : List (List Bool)) → IsNetRun net vectors run
    → (orders : List (List ℕ)) (moment : Moment) → play net vectors (phases orders) ≡ Some moment → (wire : ℕ) → deliver net moment.state wire ≡ Upset
    → IsUpsetWithout net vectors broken
is_upset net vectors broken breaks run meets orders moment e wire upset =
    let reached = reaches net vectors (phases orders) moment e in
    record {
      needs = record { breaks = breaks; run = run; meets = meets; no_bits = no_bits net vectors moment reached wire upset };
      moment = moment;
      reached = reached;
      wire = wire;
      upset = upset;
    }

loop_is_upset : IsUpsetWithout looped ((true ∷ []) ∷ (true ∷ []) ∷ []) (Loop (numbered 1))
loop_is_upset =
    let bits = true ∷ true ∷ true ∷ true ∷ [] in
    let rails : (state : LatchState) → IsRails looped state (true ∷ []) bits =
    λ state. rails_of looped state (true ∷ []) bits refl (refl, tt) ((refl, refl), (refl, tt)) in
    is_upset looped ((true ∷ []) ∷ (true ∷ []) ∷ []) (Loop (numbered 1)) looped_breaks (bits ∷ bits ∷ []) (rails _, (rails _, tt))
    ((0 ∷ 2 ∷ 3 ∷ []) ∷ [] ∷ (0 ∷ []) ∷ []) _ refl 2 refl

two_drivers_are_upset : IsUpsetWithout merged ((true ∷ true ∷ true ∷ []) ∷ []) (WireTwiceDriven (numbered 0))
two_drivers_are_upset =
    let bits = true ∷ true ∷ true ∷ [] in
    is_upset merged ((true ∷ true ∷ true ∷ []) ∷ []) (WireTwiceDriven (numbered 0)) (record { first = first_refusal _ _ (omega arith) refl; others = refl })
    (bits ∷ []) (rails_of merged _ (true ∷ true ∷ true ∷ []) bits refl (refl, (refl, (refl, tt))) (refl, tt), tt)
    ((0 ∷ []) ∷ []) _ refl 0 refl

two_readers_are_upset : IsUpsetWithout tapped ((false ∷ []) ∷ []) (WireTwiceRead (numbered 4))
two_readers_are_upset =
    let bits = false ∷ true ∷ true ∷ true ∷ false ∷ false ∷ false ∷ [] in
    is_upset tapped ((false ∷ []) ∷ []) (WireTwiceRead (numbered 4)) (record { first = first_refusal _ _ (omega arith) refl; others = refl })
    (bits ∷ []) (rails_of tapped _ (false ∷ []) bits refl (refl, tt) ((refl, refl), ((refl, refl), (tt, (refl, tt)))), tt)
    ((1 ∷ 2 ∷ 3 ∷ 4 ∷ 6 ∷ []) ∷ [] ∷ []) _ refl 4 refl

wrong_feed_is_upset : IsUpsetWithout fed_by_rail ((true ∷ false ∷ []) ∷ []) (LooseDroc (numbered 0))
wrong_feed_is_upset =
    let bits = true ∷ true ∷ false ∷ true ∷ [] in
    is_upset fed_by_rail ((true ∷ false ∷ []) ∷ []) (LooseDroc (numbered 0))
    (record { first = first_refusal _ _ (droc Const true 0 (on 1) unused, refl, λ fits. fits.1) refl; others = refl })
    (bits ∷ []) (rails_of fed_by_rail _ (true ∷ false ∷ []) bits refl (refl, (refl, tt)) ((refl, tt), (refl, tt)), tt)
    ((0 ∷ 1 ∷ 3 ∷ []) ∷ [] ∷ []) _ refl 1 refl

wrong_preload_is_upset : IsUpsetWithout both_clear ((false ∷ []) ∷ []) (WrongPreload (numbered 0))
wrong_preload_is_upset =
    let bits = false ∷ true ∷ true ∷ true ∷ false ∷ false ∷ true ∷ [] in
    is_upset both_clear ((false ∷ []) ∷ []) (WrongPreload (numbered 0))
    (record { first = first_refusal _ _ (clear_pair_breaks both_clear refl (inr (inr (inl refl)))) refl; others = refl }) (bits ∷ [])
    (rails_of both_clear _ (false ∷ []) bits refl (refl, tt) ((refl, refl), ((refl, refl), (tt, (refl, tt)))), tt)
    ((1 ∷ 2 ∷ 3 ∷ 6 ∷ []) ∷ (1 ∷ []) ∷ []) _ refl 3 refl

-- the counts of one output rail
abbrev one_count : ℕ → List ℕ
one_count count = count ∷ []

-- no bit is due no pulse in both phases
undriven_is_silent : NeedsRule undriven ([] ∷ []) (WireUndriven (numbered 0))
undriven_is_silent = record {
  breaks = record { first = first_refusal _ _ (omega arith, refl) refl; others = refl };
  run = (false ∷ []) ∷ [];
  meets = (rails_of undriven _ [] (false ∷ []) refl tt tt, tt);
  no_bits = λ bit delivers.
      let excite = settles undriven ([] ∷ []) (phases ([] ∷ [])) 0 Excite [] (0 ∷ []) (λ state. Unit) refl refl refl refl refl tt in
      let relax = settles undriven ([] ∷ []) (phases ([] ∷ [] ∷ [])) 0 Relax [] (0 ∷ []) (λ state. Unit) refl refl refl refl refl tt in
      both_zero (bit 0 0) (sym excite.counted ∙ delivers.counts excite.moment excite.reached _ excite.stage excite.settled)
      (sym relax.counted ∙ delivers.counts relax.moment relax.reached _ relax.stage relax.settled);
}
  where
    both_zero : (bit : Bool) → one_count 0 ≡ one_count (if bit then 1 else 0) → one_count 0 ≡ one_count (if not bit then 1 else 0) → ⊥
    both_zero false excite relax = absurd cc
    both_zero true excite relax = absurd cc

pub rules_are_needed : RulesAreNeeded
rules_are_needed = (undriven_is_silent, two_drivers_are_upset, two_readers_are_upset, loop_is_upset, wrong_feed_is_upset, wrong_preload_is_upset)
