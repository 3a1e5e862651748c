-- What a reader keeps of the bytes so far, and what it answers.
use Rattle.std.specs.Prelude.{◌≡◌, ◌≤◌, ℕ, ◌+◌, ◌^◌, min, List, [], Option, Some, None, Result, Ok, Err, length, ⊤}
use Rattle.word_scan.specs.Lines.{PlainLines, begun, next_number}
use Rattle.word_scan.specs.Reading.{HasRead, text_read}
use Rattle.schedule_replay.specs.declared.refusals.VectorRefusal.{VectorRefusal}
use Rattle.schedule_replay.specs.declared.refusals.VectorRefusal.TheVariants as refusals
use Rattle.schedule_replay.specs.declared.vector_lines.Form.{Form}
use Rattle.schedule_replay.specs.declared.vector_lines.Due.TheVariants.{Nothing}
use Rattle.schedule_replay.specs.declared.tables.Table.{Table}
use Rattle.schedule_replay.specs.declared.readings.Reading.{Reading}
use Rattle.schedule_replay.specs.VectorTexts.{limit, early}
use Rattle.schedule_replay.specs.Tables.{first_table, line_read, IsBounded}

-- what the whole lines of a text lead to
abbrev pub lines_so_far : Form → List ℕ → Result Table VectorRefusal
lines_so_far form text = text_read (line_read form) first_table text

-- what was taken so far is this text, and its whole lines lead to this table
abbrev pub HasReadLines : Form → List ℕ → PlainLines → Table → Type 0
HasReadLines form text lines table = HasRead (line_read form) first_table text lines table

-- the table is bounded, the present line comes after the lines that were read, and nothing stands after `stop`
pub record IsFine (form : Form) (lines : PlainLines) (table : Table) : Type 0 where
  pub bounded : IsBounded form table
  pub number : next_number lines ≡ table.place + 1
  pub ended : table.due ≡ Nothing → begun lines ≡ []

-- nothing is refused in this text, or it is refused for this
abbrev pub HasStopped : Form → List ℕ → Option VectorRefusal → PlainLines → Table → Type 0
HasStopped form text None lines table = (length text ≤ limit) × HasReadLines form text lines table
HasStopped form text (Some refusals.NoMemory) lines table = ⊤
HasStopped form text (Some refusal) lines table = early form text ≡ Some refusal

-- the bytes so far are this text of this form
pub record IsReading (form : Form) (text : List ℕ) (reading : Reading) : Type 0 where
  pub form_is : reading.form ≡ form
  pub taken : reading.taken ≡ min limit (length text)
  pub stopped : HasStopped form text reading.refused reading.lines reading.table

-- what reading on needs
abbrev pub CanGoOn : Option VectorRefusal → Form → PlainLines → Table → ℕ → Type 0
CanGoOn None form lines table taken = IsFine form lines table × (table.place ≤ taken)
CanGoOn (Some refusal) form lines table taken = ⊤

pub record IsSafe (reading : Reading) : Type 0 where
  pub within : reading.taken ≤ limit
  pub before : reading.form.before ≤ 2 ^ 27
  pub goes_on : CanGoOn reading.refused reading.form reading.lines reading.table reading.taken

-- an answer is this one, or want of memory
abbrev pub Answers : {A : Type 0} → Result A VectorRefusal → Option VectorRefusal → Type 0
Answers (Ok x) shown = shown ≡ None
Answers (Err refusals.NoMemory) shown = ⊤
Answers (Err refusal) shown = shown ≡ Some refusal

-- an answer is this judgement, or want of memory
abbrev pub IsVerdict : {A : Type 0} → Result A VectorRefusal → Result A VectorRefusal → Type 0
IsVerdict (Ok x) judged = judged ≡ Ok x
IsVerdict (Err refusals.NoMemory) judged = ⊤
IsVerdict (Err refusal) judged = judged ≡ Err refusal

-- the reader has answered this refusal, and answers it from now on
abbrev pub HasAnswered : Reading → VectorRefusal → Type 0
HasAnswered reading refusal = reading.refused ≡ Some refusal

-- where an answer is a refusal, it is answered from now on
abbrev pub KeepsAnswer : {A : Type 0} → Result A VectorRefusal → Reading → Type 0
KeepsAnswer (Ok x) reading = ⊤
KeepsAnswer (Err refusal) reading = HasAnswered reading refusal
