-- What a reader keeps of the bytes so far, and what it answers.
use Rattle.std.specs.Prelude.{◌≡◌, ◌⊎◌, ◌≤◌, ⊤, ℕ, ◌+◌, min, true, List, Option, Some, None, Result, Ok, Err, length}
use Rattle.source_machine.specs.declared.unset.Unset.{Unset}
use Rattle.word_scan.specs.Lines.{PlainLines, IsAt, whole_lines, next_number}
use Rattle.word_scan.specs.Logical.{PlainLogical, logical_begun, begun_line}
use Rattle.blif_reader.specs.declared.refusals.BlifRefusal.{BlifRefusal}
use Rattle.blif_reader.specs.declared.refusals.BlifRefusal.TheVariants as refusals
use Rattle.blif_reader.specs.declared.readings.Reading.{Reading}
use Rattle.blif_reader.specs.States.{BlifState}
use Rattle.blif_reader.specs.Refusing.{is_named}
use Rattle.blif_reader.specs.Bounds.{IsBounded}
use Rattle.blif_reader.specs.Sources.{limit, text_read, early}

-- want of memory, or this is so
abbrev pub OrMemory : BlifRefusal → Type 0 → Type 0
OrMemory refusals.NoMemory fact = ⊤
OrMemory _ fact = fact

-- what was taken so far is this text: the physical and the logical line that have begun, and what the whole logical
-- lines lead to
pub record HasRead (unset : Unset) (text : List ℕ) (lines : PlainLines) (logical : PlainLogical) (state : BlifState) : Type 0 where
  pub at : IsAt text lines
  pub begun : logical_begun None 1 (whole_lines text) ≡ begun_line logical
  pub reads : text_read unset text ≡ Ok state

-- nothing stops the reading of this text, or this does
abbrev pub HasStopped : Unset → List ℕ → Option BlifRefusal → PlainLines → PlainLogical → BlifState → Type 0
HasStopped unset text None lines logical state = (length text ≤ limit) × HasRead unset text lines logical state
HasStopped unset text (Some refusal) lines logical state = OrMemory refusal (early unset text ≡ Some refusal)

-- under this choice, the bytes so far are this text
pub record IsReading (unset : Unset) (text : List ℕ) (reading : Reading) : Type 0 where
  pub choice : reading.unset ≡ unset
  pub taken : reading.taken ≡ min limit (length text)
  pub stopped : HasStopped unset text reading.stopped reading.lines reading.logical reading.state

-- what reading on needs
abbrev pub CanGoOn : Option BlifRefusal → PlainLines → BlifState → ℕ → Type 0
CanGoOn None lines state taken = IsBounded state × (next_number lines ≤ taken + 1)
CanGoOn (Some refusal) lines state taken = ⊤

pub record IsSafe (reading : Reading) : Type 0 where
  pub within : reading.taken ≤ limit
  pub goes_on : CanGoOn reading.stopped reading.lines reading.state reading.taken

-- an answer is this one, or want of memory
abbrev pub Answers : {A : Type 0} → Result A BlifRefusal → Option BlifRefusal → Type 0
Answers (Ok x) shown = shown ≡ None
Answers (Err refusals.NoMemory) shown = ⊤
Answers (Err refusal) shown = shown ≡ Some refusal

-- the reader has answered this refusal, and answers it from now on, or once want of memory and then that
abbrev pub HasAnswered : Reading → BlifRefusal → Type 0
HasAnswered reading refusal = reading.stopped ≡ Some refusal

-- where an answer is a refusal, it is answered from now on
abbrev pub KeepsAnswer : {A : Type 0} → Result A BlifRefusal → Reading → Type 0
KeepsAnswer (Ok x) reading = ⊤
KeepsAnswer (Err refusal) reading = HasAnswered reading refusal

-- the answer is this refusal, or, where it has a name, memory is refused for the copy of it
abbrev pub AnswersAgain : {A : Type 0} → Result A BlifRefusal → BlifRefusal → Type 0
AnswersAgain result refusal = (result ≡ Err refusal) ⊎ ((is_named refusal ≡ true) × (result ≡ Err refusals.NoMemory))
