-- The reader of inputs of `simulate`: what is shown early stands, and is the judgement.
use Rattle.std.proofs.Common.{◌≡◌, ◌⊎◌, inl, inr, ℕ, Bool, List, ◌++◌, Option, Some, None, Ok, Err, refl, sym, ap, subst, ◌∙◌}
use Rattle.std.specs.Prelude.{option_map}
use Rattle.netlist_reader.specs.declared.refusals.NetRefusal.TheVariants as net_refusals
use Rattle.schedule_replay.specs.declared.refusals.VectorRefusal.TheVariants as vector_refusals
use Rattle.simulation_reader.specs.declared.readers.SimulationInput.{SimulationInput}
use Rattle.simulation_reader.specs.declared.readers.SimulationReader.{SimulationReader}
use Rattle.simulation_reader.specs.declared.refusals.InputRefusal.{InputRefusal}
use Rattle.simulation_reader.specs.declared.refusals.InputRefusal.TheVariants.{Net, Vectors}
use Rattle.simulation_reader.specs.InputTexts.{early, judgement}
use Rattle.simulation_reader.specs.Laws.{EarlyStands}
use Rattle.simulation_reader.specs.Reading.{HasTaken, OrMemory}
use Rattle.run_outcomes.specs.declared.outcomes.Outcome.{Outcome}
use Rattle.run_outcomes.specs.declared.outcomes.Outcome.TheVariants as outcomes
use Rattle.xsfq_cli.specs.Answering.{IsEarly}
use Rattle.run_outcomes.specs.Outcomes.{input_outcome}
use Rattle.xsfq_cli.specs.Simulated.{in_outcomes, input_said, input_shown, SaysInput}

-- the refusal of an outcome that is shown
some_refusal : (shown : Option InputRefusal) (outcome : Outcome) → option_map input_outcome shown ≡ Some outcome
    → (refusal : InputRefusal) × (shown ≡ Some refusal) × (outcome ≡ input_outcome refusal)
some_refusal None outcome e = cc
some_refusal (Some refusal) outcome e = (refusal, refl, cc)

pub input_is_early : EarlyStands → (with_scripts : Bool) → IsEarly (input_shown with_scripts) (SaysInput with_scripts)
input_is_early stands with_scripts = record {
  stays = λ text more outcome e.
      let r = some_refusal (early with_scripts text) outcome e in
      ap (option_map input_outcome) (stands.shown with_scripts text more r.0 r.1) ∙ ap (λ (o : Outcome). Some o) (sym r.2);
  final = λ text more outcome e.
      let r = some_refusal (early with_scripts text) outcome e in
      ap in_outcomes (stands.judged with_scripts text more r.0 r.1) ∙ ap (λ (o : Outcome). Err o) (sym r.2);
}

-- want of memory, or a fact
or_no_memory : (refusal : InputRefusal) (outcome : Outcome) (fact : Type 0) → OrMemory refusal fact → outcome ≡ input_outcome refusal → (outcome ≡ outcomes.NoMemory) ⊎ fact
or_no_memory (Net (net_refusals.BadLine line)) outcome fact is e = inr is
or_no_memory (Net net_refusals.Truncated) outcome fact is e = inr is
or_no_memory (Net (net_refusals.Limit quantity)) outcome fact is e = inr is
or_no_memory (Net net_refusals.NoMemory) outcome fact is e = inl e
or_no_memory (Vectors (vector_refusals.BadLine line)) outcome fact is e = inr is
or_no_memory (Vectors vector_refusals.Truncated) outcome fact is e = inr is
or_no_memory (Vectors (vector_refusals.Limit quantity)) outcome fact is e = inr is
or_no_memory (Vectors vector_refusals.NoMemory) outcome fact is e = inl e

map_right : {A B C : Type 0} → (B → C) → A ⊎ B → A ⊎ C
map_right f (inl a) = inl a
map_right f (inr b) = inr (f b)

-- a refusal in outcomes
pub shown_in_outcomes : (with_scripts : Bool) (text : List ℕ) (refusal : InputRefusal) (outcome : Outcome) → OrMemory refusal (early with_scripts text ≡ Some refusal)
    → outcome ≡ input_outcome refusal → (outcome ≡ outcomes.NoMemory) ⊎ (input_shown with_scripts text ≡ Some outcome)
shown_in_outcomes with_scripts text refusal outcome is e =
    map_right (λ (shown : early with_scripts text ≡ Some refusal). ap (option_map input_outcome) shown ∙ ap (λ (o : Outcome). Some o) (sym e))
    (or_no_memory refusal outcome (early with_scripts text ≡ Some refusal) is e)

pub judged_in_outcomes : (with_scripts : Bool) (text : List ℕ) (refusal : InputRefusal) (outcome : Outcome) → OrMemory refusal (judgement with_scripts text ≡ Err refusal)
    → outcome ≡ input_outcome refusal → (outcome ≡ outcomes.NoMemory) ⊎ (input_said with_scripts text ≡ Err outcome)
judged_in_outcomes with_scripts text refusal outcome is e =
    map_right (λ (judged : judgement with_scripts text ≡ Err refusal). ap in_outcomes judged ∙ ap (λ (o : Outcome). Err o) (sym e))
    (or_no_memory refusal outcome (judgement with_scripts text ≡ Err refusal) is e)

-- a reader's bytes, of the form that it was made for
module _ (with_scripts : Bool) (reader : SimulationReader) where
  as_made : (text : List ℕ) → HasTaken with_scripts text reader → HasTaken reader.scripted text reader
  as_made text taken = subst (λ (b : Bool). HasTaken b text reader) (sym taken.scripted_is) taken

  pub read_on : (after : SimulationReader) (text piece : List ℕ) → ((so_far : List ℕ) → HasTaken reader.scripted so_far reader → HasTaken reader.scripted (so_far ++ piece) after)
      → HasTaken with_scripts text reader → HasTaken with_scripts (text ++ piece) after
  read_on after text piece step taken = subst (λ (b : Bool). HasTaken b (text ++ piece) after) taken.scripted_is (step text (as_made text taken))

  pub quiet_on : (text piece : List ℕ) → ((so_far : List ℕ) → HasTaken reader.scripted so_far reader → early reader.scripted (so_far ++ piece) ≡ None)
      → HasTaken with_scripts text reader → input_shown with_scripts (text ++ piece) ≡ None
  quiet_on text piece step taken =
      ap (option_map input_outcome) (ap (λ (b : Bool). early b (text ++ piece)) (sym taken.scripted_is) ∙ step text (as_made text taken))

  pub refused_on : (text piece : List ℕ) (refusal : InputRefusal) (outcome : Outcome)
      → ((so_far : List ℕ) → HasTaken reader.scripted so_far reader → OrMemory refusal (early reader.scripted (so_far ++ piece) ≡ Some refusal))
      → outcome ≡ input_outcome refusal → HasTaken with_scripts text reader → (outcome ≡ outcomes.NoMemory) ⊎ (input_shown with_scripts (text ++ piece) ≡ Some outcome)
  refused_on text piece refusal outcome step e taken =
      shown_in_outcomes with_scripts (text ++ piece) refusal outcome
      (subst (λ (b : Bool). OrMemory refusal (early b (text ++ piece) ≡ Some refusal)) taken.scripted_is (step text (as_made text taken))) e

  pub judged_whole : (text : List ℕ) (input : SimulationInput) → ((so_far : List ℕ) → HasTaken reader.scripted so_far reader → judgement reader.scripted so_far ≡ Ok input)
      → HasTaken with_scripts text reader → input_said with_scripts text ≡ Ok input
  judged_whole text input verdict taken =
      ap in_outcomes (ap (λ (b : Bool). judgement b text) (sym taken.scripted_is) ∙ verdict text (as_made text taken))

  pub refused_whole : (text : List ℕ) (refusal : InputRefusal) (outcome : Outcome)
      → ((so_far : List ℕ) → HasTaken reader.scripted so_far reader → OrMemory refusal (judgement reader.scripted so_far ≡ Err refusal))
      → outcome ≡ input_outcome refusal → HasTaken with_scripts text reader → (outcome ≡ outcomes.NoMemory) ⊎ (input_said with_scripts text ≡ Err outcome)
  refused_whole text refusal outcome verdict e taken =
      judged_in_outcomes with_scripts text refusal outcome
      (subst (λ (b : Bool). OrMemory refusal (judgement b text ≡ Err refusal)) taken.scripted_is (verdict text (as_made text taken))) e
