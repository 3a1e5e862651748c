-- The cycles of an order that were made so far, and the text that was written of them, or the counts of their pulses.
use Rattle.std.proofs.Common.{◌≡◌, ◌+◌, ◌*◌, ◌/◌, ◌%◌, ◌^◌, ◌≤◌, ◌<◌, [], ◌∷◌, ◌++◌, ◌∙◌}
use Rattle.std.proofs.Common.{ℕ, Bool, List, map, length, take, drop, Some, Result, IsErr, slice_get, subst, sym, ap, take-append-drop, arith, refl}
use Rattle.std.specs.declared.option.Option.{Option}
use Rattle.std.specs.Io.KnownBytes.{Appends}
use Rattle.std.proofs.KnownBytes.{Appends-nil, Appends-trans}
use Rattle.std.proofs.lemmas.List.{length-map, map-append}
use Rattle.std.proofs.lemmas.Option.{slice_get_within}
use Rattle.std.proofs.lemmas.Grind.{common_steps}
use Rattle.byte_ports.specs.Prefixes.{TookPrefix}
use Rattle.byte_ports.proofs.CallerLemmas.{prefix_of_first, prefix_of_second}
use Rattle.pulse_ids.specs.Lists.{IsIn}
use Rattle.cell_netlist.specs.Netlists.{PlainNetlist}
use Rattle.pulse_world.specs.Worlds.{PlainWorld}
use Rattle.schedule_replay.specs.Orders.{Cycle, vector_of, MakesCycle, MakesCycles, IsBetween, CyclesThere, NamesPending, named_by}
use Rattle.schedule_replay.proofs.CallerLemmas.{in_turn_as}
use Rattle.pulse_traces.specs.declared.orders.DeliveryOrder.{DeliveryOrder}
use Rattle.pulse_traces.specs.declared.orders.DeliveryOrder.TheVariants.{First, Last, Mix}
use Rattle.pulse_traces.specs.Orders.{mixed, place_of}
use Rattle.pulse_traces.specs.SimulationTexts.{cycle_text, text_from}
use Rattle.pulse_traces.specs.CycleCounts.{pulses_in, ones_in}
use Rattle.pulse_traces.specs.Simulations.{Follows}
use Rattle.pulse_traces.proofs.Lists.{take-more, take-length, drop-IsIn}
use Rattle.pulse_traces.proofs.CycleLists.{step_after, cycles-append, step-append, text-all, text-more, ones-more}

share-below : (x count : ℕ) → x < 2 ^ 32 → 1 ≤ count → x * count / 2 ^ 32 < count
share-below x count less some = grind (arith, common_steps)

rest-below : (y : ℕ) → y % 2 ^ 32 < 2 ^ 32
rest-below y = omega arith

-- each order names a pending pulse
pub place-below : (order : DeliveryOrder) → NamesPending (place_of order)
place-below First step count some = omega arith
place-below Last step count some = omega arith
place-below (Mix n) step count some = share-below (mixed n step) count (rest-below ((n + step) % 2 ^ 32 * 2654435761)) some

-- a cycle at named places is one at the order's places
pub cycle-as : (names : ℕ → ℕ → ℕ → Type 0) (order : DeliveryOrder) → Follows names order → (step : ℕ) (before : PlainWorld) (cycle : Cycle) (after : PlainWorld)
    → MakesCycle names step before cycle after → MakesCycle (named_by (place_of order)) step before cycle after
cycle-as names order follows step before cycle after made = record {
  middle = made.middle;
  excites = in_turn_as names (named_by (place_of order)) follows _ _ _ _ made.excites;
  rests = made.rests;
  relaxes = in_turn_as names (named_by (place_of order)) follows _ _ _ _ made.relaxes;
  settled = made.settled;
}

-- the first cycles were made
pub record MadeSo (order : DeliveryOrder) (world : PlainWorld) (vectors : List (List Bool)) (number step : ℕ) (mid : PlainWorld) : Type 0 where
  pub cycles : List Cycle
  pub of_vectors : map vector_of cycles ≡ take number vectors
  pub made : MakesCycles (named_by (place_of order)) 0 world cycles mid
  pub step_is : step ≡ step_after 0 cycles

-- and their text was written
pub record WrittenSo (order : DeliveryOrder) (trace : Bool) (world : PlainWorld) (vectors : List (List Bool)) (old : Option (List ℕ)) (number step : ℕ) (mid : PlainWorld)
    (now : Option (List ℕ)) : Type 0 where
  pub so_far : MadeSo order world vectors number step mid
  pub grown : Appends old now (text_from trace world.net.output_rails 0 so_far.cycles)

-- or the pulses of output rails in their excites were counted
pub record CountedSo (order : DeliveryOrder) (world : PlainWorld) (vectors : List (List Bool)) (number step ones : ℕ) (mid : PlainWorld) : Type 0 where
  pub so_far : MadeSo order world vectors number step mid
  pub ones_are : ones ≡ ones_in world.net.output_rails so_far.cycles

-- nothing was made yet
abbrev made-none : (order : DeliveryOrder) (world : PlainWorld) (vectors : List (List Bool)) → MadeSo order world vectors 0 0 world
made-none order world vectors = record { cycles = []; of_vectors = refl; made = refl; step_is = refl }

pub written-none : (order : DeliveryOrder) (trace : Bool) (world : PlainWorld) (vectors : List (List Bool)) (old : Option (List ℕ)) → WrittenSo order trace world vectors old 0 0 world old
written-none order trace world vectors old = record { so_far = made-none order world vectors; grown = Appends-nil old }

pub counted-none : (order : DeliveryOrder) (world : PlainWorld) (vectors : List (List Bool)) → CountedSo order world vectors 0 0 0 world
counted-none order world vectors = record { so_far = made-none order world vectors; ones_are = refl }

module _ (order : DeliveryOrder) (world : PlainWorld) (vectors : List (List Bool)) (number step : ℕ) (mid after : PlainWorld) (cycle : Cycle)
    (so : MadeSo order world vectors number step mid) (at : slice_get vectors number ≡ Some cycle.vector) (made : MakesCycle (named_by (place_of order)) step mid cycle after) where
  count : number ≡ length so.cycles
  count =
      let within = slice_get_within vectors number cycle.vector at in
      let taken = take-length vectors number (omega arith) in
      sym (sym (length-map so.cycles vector_of) ∙ (ap (λ l. length l) so.of_vectors ∙ taken))

  abbrev longer : List Cycle
  longer = so.cycles ++ cycle ∷ []

  vectors-longer : map vector_of longer ≡ take (number + 1) vectors
  vectors-longer = map-append vector_of so.cycles (cycle ∷ []) ∙ (ap (λ vs. vs ++ cycle.vector ∷ []) so.of_vectors ∙ sym (take-more vectors number cycle.vector at))

  made-longer : MakesCycles (named_by (place_of order)) 0 world longer after
  made-longer = cycles-append (named_by (place_of order)) 0 world mid after so.cycles (cycle ∷ []) so.made
      (after, subst (λ s. MakesCycle (named_by (place_of order)) s mid cycle after) so.step_is made, refl)

  -- the next cycle was made
  abbrev made-more : (next : ℕ) → next ≡ step + length cycle.excite + length cycle.relax → MadeSo order world vectors (number + 1) next after
  made-more next is = record {
    cycles = longer;
    of_vectors = vectors-longer;
    made = made-longer;
    step_is = is ∙ (ap (λ s. s + length cycle.excite + length cycle.relax) so.step_is ∙ sym (step-append 0 so.cycles (cycle ∷ [])));
  }

  -- and counted
  pub counted-one-more : (next ones more : ℕ) → next ≡ step + length cycle.excite + length cycle.relax → ones ≡ ones_in world.net.output_rails so.cycles
      → more ≡ pulses_in world.net.output_rails cycle.excite → CountedSo order world vectors (number + 1) next (ones + more) after
  counted-one-more next ones more is ones_are more_are = record {
    so_far = made-more next is;
    ones_are = let all = ones-more world.net.output_rails so.cycles cycle in omega arith;
  }

  module _ (trace : Bool) (old now new : Option (List ℕ)) (so_grown : Appends old now (text_from trace world.net.output_rails 0 so.cycles)) where
    text-longer : text_from trace world.net.output_rails 0 longer ≡ text_from trace world.net.output_rails 0 so.cycles ++ cycle_text trace world.net.output_rails number cycle
    text-longer = text-more trace world.net.output_rails so.cycles cycle
        ∙ ap (λ n. text_from trace world.net.output_rails 0 so.cycles ++ cycle_text trace world.net.output_rails n cycle) (sym count)

    -- or written
    pub written-more : (next : ℕ) → next ≡ step + length cycle.excite + length cycle.relax → Appends now new (cycle_text trace world.net.output_rails number cycle)
        → WrittenSo order trace world vectors old (number + 1) next after new
    written-more next is grown = record {
      so_far = made-more next is;
      grown = subst (Appends old new) (sym text-longer)
          (Appends-trans old now new (text_from trace world.net.output_rails 0 so.cycles) (cycle_text trace world.net.output_rails number cycle) so_grown grown);
    }

    -- or not written whole: what was written is a prefix of the text of all
    pub written-failed : {E : Type 0} (answer : Result Unit E) → IsErr answer → CyclesThere → IsBetween after → after.net ≡ world.net
        → ((vector : List Bool) → IsIn vector vectors → length vector ≡ world.net.inputs)
        → TookPrefix now new (cycle_text trace world.net.output_rails number cycle)
        → (cycles : List Cycle) × (last : PlainWorld) × (map vector_of cycles ≡ vectors) × MakesCycles (named_by (place_of order)) 0 world cycles last
        × TookPrefix old new (text_from trace world.net.output_rails 0 cycles)
    written-failed answer failed there between net width took =
        let rest = there (place_of order) (place-below order) (drop (number + 1) vectors) (step_after 0 longer) after between
        (λ v i. width v (drop-IsIn (number + 1) vectors v i) ∙ ap (λ (n : PlainNetlist). n.inputs) (sym net)) in
        let rails = world.net.output_rails in
        let so_far = text_from trace rails 0 so.cycles in
        let one = cycle_text trace rails number cycle in (
          longer ++ rest.0,
          rest.1,
          map-append vector_of longer rest.0 ∙ (ap (λ vs. vs ++ map vector_of rest.0) vectors-longer ∙ (ap (λ vs. take (number + 1) vectors ++ vs) rest.2 ∙ take-append-drop (number + 1) vectors)),
          cycles-append (named_by (place_of order)) 0 world after rest.1 longer rest.0 made-longer rest.3,
          subst (TookPrefix old new) (sym (text-all trace rails longer rest.0 ∙ ap (λ l. l ++ text_from trace rails (length longer) rest.0) text-longer))
              (prefix_of_first old new (so_far ++ one) (text_from trace rails (length longer) rest.0) (prefix_of_second old now new so_far one so_grown took)),
        )
