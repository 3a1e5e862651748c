-- The lines that the end of a text closes.
use Rattle.std.proofs.Common.{◌≡◌, ℕ, List, [], ◌∷◌, Option, Result, Ok, Err, ap, ◌∙◌}
use Rattle.source_machine.specs.declared.unset.Unset.{Unset}
use Rattle.word_scan.specs.Logical.{LogicalLine, logical_after, logical_begun}
use Rattle.blif_reader.specs.declared.refusals.BlifRefusal.{BlifRefusal}
use Rattle.blif_reader.specs.States.{BlifState}
use Rattle.blif_reader.specs.Sources.{logical_left, lines_closed, lines_read}
use Rattle.blif_reader.proofs.Taking.{read_joined, read_refused}

module _ (unset : Unset) (state : BlifState) (begun : Option LogicalLine) (number : ℕ) (line : List ℕ) where
  pub closed_read : (left : Option LogicalLine) (middle : BlifState) → logical_begun begun number (line ∷ []) ≡ left
      → lines_read unset (Ok state) (logical_after begun number (line ∷ [])) ≡ Ok middle
      → lines_read unset (Ok state) (lines_closed (line ∷ []) number begun) ≡ lines_read unset (Ok middle) (logical_left left)
  closed_read left middle e h =
      read_joined unset (Ok state) (logical_after begun number (line ∷ [])) (logical_left (logical_begun begun number (line ∷ [])))
      ∙ ap (λ (r : Result BlifState BlifRefusal). lines_read unset r (logical_left (logical_begun begun number (line ∷ [])))) h
      ∙ ap (λ (l : Option LogicalLine). lines_read unset (Ok middle) (logical_left l)) e

  pub closed_refused : (refusal : BlifRefusal) → lines_read unset (Ok state) (logical_after begun number (line ∷ [])) ≡ Err refusal
      → lines_read unset (Ok state) (lines_closed (line ∷ []) number begun) ≡ Err refusal
  closed_refused refusal h =
      read_joined unset (Ok state) (logical_after begun number (line ∷ [])) (logical_left (logical_begun begun number (line ∷ [])))
      ∙ ap (λ (r : Result BlifState BlifRefusal). lines_read unset r (logical_left (logical_begun begun number (line ∷ [])))) h
      ∙ read_refused unset refusal (logical_left (logical_begun begun number (line ∷ [])))
