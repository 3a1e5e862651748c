-- The text of a simulation is that of a run of the rail equations.
use Rattle.std.proofs.Common.{◌≡◌, ◌+◌, ℕ, suc, Bool, true, false, Option, Some, None, List, [], ◌∷◌, ◌++◌, map, length, slice_get, if◌then◌else◌, ap, sym, ◌∙◌, subst, arith, refl, append-nil}
use Rattle.std.specs.Prelude.{decimal}
use Rattle.std.proofs.lemmas.List.{length-map}
use Rattle.pulse_ids.specs.Lists.{bit_at}
use Rattle.cell_netlist.specs.declared.kinds.Phase.{Phase}
use Rattle.cell_netlist.specs.declared.kinds.Phase.TheVariants.{Excite, Relax}
use Rattle.cell_netlist.specs.declared.lines.Rail.{Rail}
use Rattle.cell_netlist.specs.Netlists.{PlainNetlist, wire_of}
use Rattle.cell_netlist.specs.NetRuns.{bits_in}
use Rattle.cell_netlist.specs.RailEquations.{LatchState, first_state, next_state, IsNetRunFrom, IsNetRun}
use Rattle.cell_netlist.specs.Sound.{IsSound}
use Rattle.cell_netlist.specs.Text.{line_of}
use Rattle.cell_netlist.specs.World.{pulses_in}
use Rattle.pulse_world.specs.Delivery.{rail_counts}
use Rattle.pulse_world.specs.LaterMoments.{MomentsLeadOn}
use Rattle.pulse_world.specs.RailPulses.{RailLaw}
use Rattle.schedule_replay.specs.Orders.{Cycle, vector_of}
use Rattle.pulse_traces.specs.declared.scripts.CycleFault.{CycleFault}
use Rattle.pulse_traces.specs.EveryOrder.{IsCycleOf, SimulatedSaysBits, ReplayedSaysBits, FaultlessIsWhole, OrdersAgree, ScriptsAgree}
use Rattle.pulse_traces.specs.RunTexts.{bit_digits, bits_line, run_text_from}
use Rattle.pulse_traces.specs.Scripts.{IsReplayed, StopsAt}
use Rattle.pulse_traces.specs.SimulationTexts.{digit_of, digits_in, text_from}
use Rattle.pulse_traces.proofs.WorldCycles.{simulated_in_world, replayed_in_world}

-- the characters of counts that are due
digits-due : (phase : Phase) (bits : List Bool) (rails : List Rail) → map digit_of (rail_counts bits phase rails) ≡ bit_digits phase bits rails
digits-due phase bits [] = refl
digits-due phase bits (rail ∷ rails) =
    let first = one (pulses_in phase (bit_at bits (wire_of rail))) in let rest = digits-due phase bits rails in cc
  where
    one : (pulses : Bool) → digit_of (if pulses then 1 else 0) ≡ (if pulses then 49 else 48)
    one true = refl
    one false = refl

-- the characters of each cycle are those of the run's bits
abbrev pub SayBits : List Rail → List Cycle → List (List Bool) → Type 0
SayBits rails cycles run =
    (number : ℕ) (cycle : Cycle) → slice_get cycles number ≡ Some cycle
    → (digits_in rails cycle.excite ≡ bit_digits Excite (bits_in run number) rails) × (digits_in rails cycle.relax ≡ bit_digits Relax (bits_in run number) rails)

text-same : (rails : List Rail) (number : ℕ) (cycles : List Cycle) (run : List (List Bool)) → length cycles ≡ length run → SayBits rails cycles run
    → text_from false rails number cycles ≡ run_text_from rails number run
text-same rails number [] [] e says = refl
text-same rails number [] (bits ∷ run) e says = absurd (omega arith)
text-same rails number (cycle ∷ cycles) [] e says = absurd (omega arith)
text-same rails number (cycle ∷ cycles) (bits ∷ run) e says =
    let d = says 0 cycle refl in
    let excite = ap (λ l. line_of (decimal number ∷ l ∷ digits_in rails cycle.relax ∷ []) ++ text_from false rails (number + 1) cycles) d.0 in
    let relax = ap (λ l. line_of (decimal number ∷ bit_digits Excite bits rails ∷ l ∷ []) ++ text_from false rails (number + 1) cycles) d.1 in
    let rest = text-same rails (number + 1) cycles run (omega arith) (λ i c f. says (suc i) c f) in
    excite ∙ (relax ∙ ap (λ t. bits_line rails number bits ++ t) rest)

run-length : (net : PlainNetlist) (state : LatchState) (vectors run : List (List Bool)) → IsNetRunFrom net state vectors run → length run ≡ length vectors
run-length net state [] [] h = refl
run-length net state [] (bits ∷ run) h = absurd h
run-length net state (vector ∷ vectors) [] h = absurd h
run-length net state (vector ∷ vectors) (bits ∷ run) h = ap (λ n. suc n) (run-length net (next_state net bits) vectors run h.1)

module _ (rails : RailLaw) (lead_on : MomentsLeadOn) where
  -- a cycle of the world has the characters of each run
  cycle-says : (net : PlainNetlist) → IsSound net → (vectors run : List (List Bool)) → IsNetRun net vectors run → (number : ℕ) (cycle : Cycle)
      → IsCycleOf net vectors number cycle
      → (digits_in net.output_rails cycle.excite ≡ bit_digits Excite (bits_in run number) net.output_rails)
      × (digits_in net.output_rails cycle.relax ≡ bit_digits Relax (bits_in run number) net.output_rails)
  cycle-says net sound vectors run is_net_run number cycle c =
      let law = ((rails net sound).as_run vectors run is_net_run).delivers in
      let later = lead_on net vectors c.is_cycle.events c.excited c.relaxed c.is_cycle.reached c.is_cycle.leads in
      let excite = sym c.excite_counts ∙ law.counts c.excited c.is_cycle.reached _ c.is_cycle.excite c.is_cycle.excite_settled in
      let relax = sym c.relax_counts ∙ law.counts c.relaxed later _ c.is_cycle.relax c.is_cycle.relax_settled in (
        ap (map digit_of) excite ∙ digits-due Excite (bits_in run number) net.output_rails,
        ap (map digit_of) relax ∙ digits-due Relax (bits_in run number) net.output_rails,
      )

  pub simulated_says_bits : SimulatedSaysBits
  simulated_says_bits order net vectors cycles sound simulated run is_net_run =
      let counts : length cycles ≡ length run =
      sym (length-map cycles vector_of) ∙ (ap (λ l. length l) simulated.of_vectors ∙ sym (run-length net (first_state net) vectors run is_net_run)) in
      text-same net.output_rails 0 cycles run counts (λ number cycle at.
      cycle-says net sound vectors run is_net_run number cycle (simulated_in_world lead_on order net vectors cycles simulated number cycle at))

  -- what was made by scripts is a replay of itself
  itself : (net : PlainNetlist) (asked made : List Cycle) (fault : Option CycleFault) → IsReplayed net asked made fault → IsReplayed net made made None
  itself net asked made fault replayed = record {
    first = replayed.first;
    starts = replayed.starts;
    up_to = record { last = replayed.up_to.last; left = []; parts = sym (append-nil made); makes = replayed.up_to.makes; stops = tt };
  }

  pub replayed_says_bits : ReplayedSaysBits
  replayed_says_bits net asked made fault sound replayed run is_net_run =
      let counts : length made ≡ length run =
      sym (length-map made vector_of) ∙ sym (run-length net (first_state net) (map vector_of made) run is_net_run) in
      text-same net.output_rails 0 made run counts (λ number cycle at.
      cycle-says net sound (map vector_of made) run is_net_run number cycle (replayed_in_world lead_on net made made None (itself net asked made fault replayed) number cycle at))

  pub faultless_is_whole : FaultlessIsWhole
  faultless_is_whole net asked made replayed = go replayed.up_to.left replayed.up_to.parts replayed.up_to.stops
    where
      go : (left : List Cycle) → asked ≡ made ++ left → StopsAt (length made) replayed.up_to.last left None → made ≡ asked
      go [] parts stops = sym (parts ∙ append-nil made)
      go (cycle ∷ left) parts stops = absurd stops

  pub orders_agree : OrdersAgree
  orders_agree net vectors order other cycles others sound one two =
      let run = (rails net sound).some_run vectors in
      simulated_says_bits order net vectors cycles sound one run.0 run.1 ∙ sym (simulated_says_bits other net vectors others sound two run.0 run.1)

  pub scripts_agree : ScriptsAgree
  scripts_agree net order cycles asked made sound replayed simulated =
      let whole = faultless_is_whole net asked made replayed in
      let run = (rails net sound).some_run (map vector_of asked) in
      let is : IsNetRun net (map vector_of made) run.0 = subst (λ (cs : List Cycle). IsNetRun net (map vector_of cs) run.0) (sym whole) run.1 in
      replayed_says_bits net asked made None sound replayed run.0 is ∙ sym (simulated_says_bits order net (map vector_of asked) cycles sound simulated run.0 run.1)
