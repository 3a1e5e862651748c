-- What holds of all texts of vectors.
use Rattle.std.specs.Prelude.{◌≡◌, ◌≤◌, ◌++◌, ◌*◌, ℕ, Bool, List, length, Some, Ok, Err, if◌then◌else◌}
use Rattle.pulse_ids.specs.Ids.{WireId}
use Rattle.pulse_ids.specs.Lists.{IsIn}
use Rattle.schedule_replay.specs.declared.refusals.VectorRefusal.{VectorRefusal}
use Rattle.schedule_replay.specs.declared.vector_lines.Form.{Form}
use Rattle.schedule_replay.specs.PlainVectors.{PlainVectors}
use Rattle.schedule_replay.specs.VectorTexts.{limit, early, judgement}

-- what the first bytes of a text show stays shown, and is its judgement
pub record EarlyStands : Type 0 where
  pub shown : (form : Form) (text more : List ℕ) (refusal : VectorRefusal) → early form text ≡ Some refusal → early form (text ++ more) ≡ Some refusal
  pub judged : (form : Form) (text more : List ℕ) (refusal : VectorRefusal) → early form text ≡ Some refusal → judgement form (text ++ more) ≡ Err refusal

-- What a text says has its form: each vector has a bit for each input port, each has two scripts or none has any, and no
-- script is longer than the text may be.
pub record HasTheForm (form : Form) (said : PlainVectors) : Type 0 where
  pub width : (vector : List Bool) → IsIn vector said.vectors → length vector ≡ form.inputs
  pub scripts : length said.scripts ≡ (if form.scripted then 2 else 0) * length said.vectors
  pub short : (script : List WireId) → IsIn script said.scripts → length script ≤ limit

abbrev pub TextsHaveTheirForm : Type 0
TextsHaveTheirForm = (form : Form) (text : List ℕ) (said : PlainVectors) → judgement form text ≡ Ok said → HasTheForm form said
