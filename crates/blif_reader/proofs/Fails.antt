-- A refusal among the words of a line.
use Rattle.std.proofs.Common.{◌≡◌, ℕ, List, ◌∷◌, Result, Ok, Err, ap, ◌∙◌}
use Rattle.word_scan.specs.Reading.{read_on}
use Rattle.word_scan.proofs.CallerLemmasReading.{read_refused}
use Rattle.blif_reader.specs.declared.refusals.LineRefusal.{LineRefusal}
use Rattle.blif_reader.specs.declared.refusals.LineRefusal.TheVariants.{Cause, Limit, NoMemory}
use Rattle.blif_reader.specs.States.{BlifState}
use Rattle.blif_reader.specs.Refusing.{FailsBy}

stops : (read : BlifState → List ℕ → Result BlifState LineRefusal) (state : BlifState) (word : List ℕ) (words : List (List ℕ)) (refusal : LineRefusal)
    → read state word ≡ Err refusal → read_on read (Ok state) (word ∷ words) ≡ Err refusal
stops read state word words refusal h = ap (λ (r : Result BlifState LineRefusal). read_on read r words) h ∙ read_refused read refusal words

pub word_fails : (read : BlifState → List ℕ → Result BlifState LineRefusal) (state : BlifState) (word : List ℕ) (words : List (List ℕ)) (refusal : LineRefusal)
    → FailsBy refusal (read state word) → FailsBy refusal (read_on read (Ok state) (word ∷ words))
word_fails read state word words (Cause cause) h = stops read state word words (Cause cause) h
word_fails read state word words (Limit quantity) h = stops read state word words (Limit quantity) h
word_fails read state word words NoMemory h = tt
