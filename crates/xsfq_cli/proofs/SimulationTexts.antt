-- The text of a simulation is one, and without a trace the same in every order.
use Rattle.std.proofs.Common.{◌≡◌, Option, ◌+◌, ℕ, Bool, true, false, Some, None, List, [], ◌∷◌, map, Ok, Err, refl, sym, ap, subst, ◌∙◌, inl, inr, ◌++◌, length, take}
use Rattle.std.specs.declared.result.Result.{Result}
use Rattle.pulse_ids.specs.Ids.{WireId}
use Rattle.pulse_ids.specs.Lists.{IsIn}
use Rattle.pulse_world.specs.Worlds.{PlainWorld}
use Rattle.cell_netlist.specs.Netlists.{PlainNetlist}
use Rattle.cell_netlist.specs.RailEquations.{IsNetRun}
use Rattle.cell_netlist.specs.Sound.{IsSound}
use Rattle.pulse_traces.specs.declared.scripts.CycleFault.{CycleFault}
use Rattle.pulse_traces.specs.EveryOrder.{CanBeReplayed, SimulatedSaysBits, ReplayedSaysBits, FaultlessIsWhole, OneSimulation, OneReplayed}
use Rattle.pulse_traces.specs.RunTexts.{run_text}
use Rattle.pulse_traces.specs.Scripts.{IsReplayed, StopsAt, scripted_from, scripted}
use Rattle.pulse_traces.specs.SimulationTexts.{simulation_text}
use Rattle.run_outcomes.specs.declared.outcomes.Outcome.{Outcome}
use Rattle.run_outcomes.specs.declared.outcomes.Outcome.TheVariants as outcomes
use Rattle.schedule_replay.specs.Orders.{Cycle, vector_of}
use Rattle.schedule_replay.specs.PlainVectors.{PlainVectors}
use Rattle.simulation_reader.specs.declared.readers.SimulationInput.{SimulationInput}
use Rattle.simulation_reader.specs.Laws.{InputsHaveTheirForm}
use Rattle.xsfq_cli.specs.declared.orders.Schedule.{Schedule}
use Rattle.xsfq_cli.specs.declared.orders.Schedule.TheVariants.{Order, Script}
use Rattle.xsfq_cli.specs.declared.simulation_inputs.SoundInput.{SoundInput}
use Rattle.xsfq_cli.specs.Simulated.{ending_of, has_scripts, input_said, IsInputBy, IsSimulation, Simulates}
use Rattle.xsfq_cli.specs.SimulationTexts.{TextSaysBits, FaultedTextSaysBits, SchedulesAgree, OneSimulationText}
use Rattle.xsfq_cli.proofs.SimulationLaws.{found_sound, vectors_fit}

-- the cycles that are asked for have the vectors
vectors-of : (number : ℕ) (vectors : List (List Bool)) (scripts : List (List WireId)) → map vector_of (scripted_from number vectors scripts) ≡ vectors
vectors-of number [] scripts = refl
vectors-of number (vector ∷ vectors) scripts = ap (λ l. vector ∷ l) (vectors-of (number + 1) vectors scripts)

asked-in : (number : ℕ) (vectors : List (List Bool)) (scripts : List (List WireId)) (cycle : Cycle) → IsIn cycle (scripted_from number vectors scripts)
    → IsIn cycle.vector vectors
asked-in number [] scripts cycle i = absurd i
asked-in number (vector ∷ vectors) scripts cycle (inl e) = inl (ap vector_of e)
asked-in number (vector ∷ vectors) scripts cycle (inr i) = inr (asked-in (number + 1) vectors scripts cycle i)

-- the vectors of the first cycles
front-vectors : (made left : List Cycle) → take (length made) (map vector_of (made ++ left)) ≡ map vector_of made
front-vectors [] [] = refl
front-vectors [] (cycle ∷ left) = refl
front-vectors (cycle ∷ made) left = ap (λ l. cycle.vector ∷ l) (front-vectors made left)

module _ (ordered : SimulatedSaysBits) (replayed : ReplayedSaysBits) (whole : FaultlessIsWhole) where
  says : (schedule : Schedule) (input : SoundInput) (text : List ℕ) → IsSound input.net → Simulates schedule false input text outcomes.Done
      → (run : List (List Bool)) → IsNetRun input.net input.vectors.vectors run → text ≡ run_text input.net run
  says (Order order) input text sound (cycles, simulated, text_is, ending) run is_run =
      text_is ∙ ordered order input.net input.vectors.vectors cycles sound simulated run is_run
  says Script input text sound (made, None, is_replay, text_is, ending) run is_run =
      let all = whole input.net (scripted input.vectors) made is_replay in
      let same : map vector_of made ≡ input.vectors.vectors = ap (map vector_of) all ∙ vectors-of 0 input.vectors.vectors input.vectors.scripts in
      text_is ∙ replayed input.net (scripted input.vectors) made None sound is_replay run (subst (λ vs. IsNetRun input.net vs run) (sym same) is_run)
  says Script input text sound (made, Some fault, is_replay, text_is, ending) run is_run = absurd cc

  pub text_says_bits : TextSaysBits
  text_says_bits schedule bytes input text is run is_run =
      says schedule input text (found_sound (input_said (has_scripts schedule) bytes) input is.has) is.simulates run is_run

  -- the cycle of the fault is the number of the cycles that were made
  stopped-at : (number : ℕ) (world : PlainWorld) (left : List Cycle) (fault : CycleFault) → StopsAt number world left (Some fault) → fault.cycle ≡ number
  stopped-at number world [] fault none = absurd none
  stopped-at number world (cycle ∷ left) fault (e, fails) = e

  pub faulted_text_says_bits : FaultedTextSaysBits
  faulted_text_says_bits bytes input text cycle phase fault is run is_run =
      let made = is.simulates.0 in
      let told = is.simulates.1 in go made told is.simulates.2 is.simulates.3 is.simulates.4
    where
      go : (made : List Cycle) (told : Option CycleFault) → IsReplayed input.net (scripted input.vectors) made told → text ≡ simulation_text false input.net made
          → outcomes.Script cycle phase fault ≡ ending_of told → text ≡ run_text input.net run
      go made None replay text_is ending = absurd cc
      go made (Some stop) replay text_is ending =
          let number : stop.cycle ≡ cycle = cc in
          let count : cycle ≡ length made = sym number ∙ stopped-at (length made) replay.up_to.last replay.up_to.left stop replay.up_to.stops in
          let all : input.vectors.vectors ≡ map vector_of (made ++ replay.up_to.left) =
          sym (vectors-of 0 input.vectors.vectors input.vectors.scripts) ∙ ap (map vector_of) replay.up_to.parts in
          let same : take cycle input.vectors.vectors ≡ map vector_of made =
          ap (λ n. take n input.vectors.vectors) count ∙ (ap (λ (vs : List (List Bool)). take (length made) vs) all ∙ front-vectors made replay.up_to.left) in
          text_is ∙ replayed input.net (scripted input.vectors) made (Some stop) (found_sound (input_said true bytes) input is.has) replay run
          (subst (λ vs. IsNetRun input.net vs run) same is_run)

  pub schedules_agree : SchedulesAgree
  schedules_agree schedule also bytes more input other text texts one two net_is vectors_are =
      let run = one.pulses.some_run input.vectors.vectors in
      let its : IsNetRun other.net other.vectors.vectors run.0 =
      subst (λ n. IsNetRun n other.vectors.vectors run.0) net_is (subst (λ vs. IsNetRun input.net vs run.0) vectors_are run.1) in
      text_says_bits schedule bytes input text one run.0 run.1
      ∙ (ap (λ n. run_text n run.0) net_is ∙ sym (text_says_bits also more other texts two run.0 its))

-- an input is found once
one-found : (said : Result SimulationInput Outcome) (one other : SoundInput) → IsInputBy said (Ok one) → IsInputBy said (Ok other) → other ≡ one
one-found (Ok input) one other (n, v, sound) (m, w, also) = go other.net one.net other.vectors one.vectors (m ∙ sym n) (w ∙ sym v)
  where
    input_of : PlainNetlist → PlainVectors → SoundInput
    input_of net vectors = record { net = net; vectors = vectors }

    go : (n m : PlainNetlist) (v w : PlainVectors) → n ≡ m → v ≡ w → input_of n v ≡ input_of m w
    go n m v w e f = rw (e, f) refl
one-found (Err refusal) one other e f = cc

module _ (one_list : OneSimulation) (one_replay : OneReplayed) (form : InputsHaveTheirForm) where
  one-text : (schedule : Schedule) (trace : Bool) (bytes : List ℕ) (input : SoundInput) (text texts : List ℕ) (ending end : Outcome)
      → IsSimulation schedule trace bytes input text ending → Simulates schedule trace input texts end → (text ≡ texts) × (ending ≡ end)
  one-text schedule trace bytes input text texts ending end is told = go schedule is.has is.simulates told
    where
      go : (schedule : Schedule) → IsInputBy (input_said (has_scripts schedule) bytes) (Ok input) → Simulates schedule trace input text ending
          → Simulates schedule trace input texts end → (text ≡ texts) × (ending ≡ end)
      go (Order order) has (cycles, simulated, text_is, done) (others, again, texts_are, also) =
          let same = one_list order input.net input.vectors.vectors cycles others simulated again in
          (text_is ∙ (ap (simulation_text trace input.net) same ∙ sym texts_are), done ∙ sym also)
      go Script has (made, fault, replayed, text_is, done) (others, other, again, texts_are, also) =
          let can : CanBeReplayed input.net (scripted input.vectors) = record {
            sound = found_sound (input_said true bytes) input has;
            few = is.netlist.wires;
            width = λ (cycle : Cycle) among.
                vectors_fit form true bytes input has cycle.vector (asked-in 0 input.vectors.vectors input.vectors.scripts cycle among);
          } in
          let same = one_replay input.net (scripted input.vectors) made others fault other can replayed again in
          (text_is ∙ (ap (simulation_text trace input.net) same.0 ∙ sym texts_are), done ∙ (ap ending_of same.1 ∙ sym also))

  pub one_simulation_text : OneSimulationText
  one_simulation_text schedule trace bytes input other text texts ending end one two =
      let same = one-found (input_said (has_scripts schedule) bytes) input other one.has two.has in
      one-text schedule trace bytes input text texts ending end one (subst (λ (i : SoundInput). Simulates schedule trace i texts end) same two.simulates)
