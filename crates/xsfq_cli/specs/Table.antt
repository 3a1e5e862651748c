-- The table of answers: each outcome of a call, when it comes, and what the ports took.
use Rattle.std.specs.Prelude.{◌≡◌, ◌⊎◌, ◌≤◌, ℕ, Bool, true, false, IsTrue, Option, Some, None, List, [], ◌++◌, length}
use Rattle.std.specs.Io.KnownBytes.{Appends, Consumes, IsAtEnd}
use Rattle.byte_ports.specs.Causes.{Rose}
use Rattle.byte_ports.specs.Prefixes.{TookPrefix}
use Rattle.xsfq_cli.specs.declared.orders.Order.{Order}
use Rattle.run_outcomes.specs.declared.outcomes.Outcome.{Outcome}
use Rattle.run_outcomes.specs.declared.outcomes.Outcome.TheVariants as outcomes
use Rattle.xsfq_cli.specs.Judgements.{reads, shown, Refuses, Writes}
use Rattle.run_outcomes.specs.Notes.{note_of}

-- what a call made of a source: the bytes left before and now, where it tells them, and the faults before and now
pub record Input : Type 0 where
  pub before : Option (List ℕ)
  pub now : Option (List ℕ)
  pub faults : ℕ
  pub faults_now : ℕ

abbrev pub input_of : {S : Type 0} → (S → Option (List ℕ)) → (S → ℕ) → S → S → Input
input_of left faults old new = record { before = left old; now = left new; faults = faults old; faults_now = faults new }

-- what a call made of a sink: the bytes taken, where it tells them, the faults, and whether it is flushed
pub record Output : Type 0 where
  pub before : Option (List ℕ)
  pub now : Option (List ℕ)
  pub faults : ℕ
  pub faults_now : ℕ
  pub flushed : Bool
  pub flushed_now : Bool

abbrev pub output_of : {K : Type 0} → (K → Option (List ℕ)) → (K → ℕ) → (K → Bool) → K → K → Output
output_of taken faults flushed old new = record {
  before = taken old;
  now = taken new;
  faults = faults old;
  faults_now = faults new;
  flushed = flushed old;
  flushed_now = flushed new;
}

-- the port is as it was
pub record Unread (input : Input) : Type 0 where
  pub left : input.now ≡ input.before
  pub faults : input.faults_now ≡ input.faults

pub record Unwritten (output : Output) : Type 0 where
  pub taken : output.now ≡ output.before
  pub faults : output.faults_now ≡ output.faults
  pub flushed : output.flushed_now ≡ output.flushed

-- where a source tells its bytes, these are left
abbrev pub Leaves : Option (List ℕ) → List ℕ → Type 0
Leaves None rest = Unit
Leaves (Some left) rest = left ≡ rest

-- These bytes were taken of the input, and at most 4,095 of them past the first that show a refusal.
pub record Took (shows : List ℕ → Option Outcome) (input : Input) (bytes : List ℕ) : Type 0 where
  pub consumed : Consumes input.before input.now bytes
  pub past : (first more : List ℕ) (refusal : Outcome) → bytes ≡ first ++ more → shows first ≡ Some refusal → length more ≤ 4095

-- The input did not fail, and the outcome refuses all its bytes, those that were taken and those that are left.
pub record Refused (shows : List ℕ → Option Outcome) (refuses : List ℕ → Outcome → Type 0) (input : Input) (outcome : Outcome) : Type 0 where
  pub calm : input.faults_now ≡ input.faults
  pub taken : List ℕ
  pub took : Took shows input taken
  pub rest : List ℕ
  pub leaves : Leaves input.now rest
  pub refuses_all : refuses (taken ++ rest) outcome

-- The input failed, and the bytes that were taken before show no refusal.
pub record ReadFailed (shows : List ℕ → Option Outcome) (input : Input) : Type 0 where
  pub rose : Rose input.faults input.faults_now
  pub taken : List ℕ
  pub took : Took shows input taken
  pub silent : shows taken ≡ None

-- Memory was refused, and the input did not fail.
pub record Starved (shows : List ℕ → Option Outcome) (input : Input) : Type 0 where
  pub calm : input.faults_now ≡ input.faults
  pub taken : List ℕ
  pub took : Took shows input taken

-- The outcomes that come before anything is written.
abbrev pub Stops : (List ℕ → Option Outcome) → (List ℕ → Outcome → Type 0) → Input → Outcome → Type 0
Stops shows refuses input outcome =
    Refused shows refuses input outcome
    ⊎ (((outcome ≡ outcomes.ReadFault) × ReadFailed shows input)
    ⊎ ((outcome ≡ outcomes.NoMemory) × Starved shows input))

-- The same of a command that reads its input; one that doesn't stops for want of memory alone.
abbrev pub StopsAs : Bool → (List ℕ → Option Outcome) → (List ℕ → Outcome → Type 0) → Input → Outcome → Type 0
StopsAs true shows refuses input outcome = Stops shows refuses input outcome
StopsAs false shows refuses input outcome = (outcome ≡ outcomes.NoMemory) × Unread input

-- The whole input was read without a fault, and these are its bytes.
pub record ReadWhole (shows : List ℕ → Option Outcome) (input : Input) (bytes : List ℕ) : Type 0 where
  pub calm : input.faults_now ≡ input.faults
  pub took : Took shows input bytes
  pub ended : IsAtEnd input.now

-- what a command reads: the whole input, or nothing
abbrev pub ReadsAll : Bool → (List ℕ → Option Outcome) → Input → List ℕ → Type 0
ReadsAll true shows input bytes = ReadWhole shows input bytes
ReadsAll false shows input bytes = Unread input × (bytes ≡ [])

-- The output took the whole text and was flushed.
pub record Wrote (output : Output) (text : List ℕ) : Type 0 where
  pub whole : Appends output.before output.now text
  pub calm : output.faults_now ≡ output.faults
  pub flushed : IsTrue output.flushed_now

-- The output failed, and took a prefix of the text.
pub record WriteFailed (output : Output) (text : List ℕ) : Type 0 where
  pub prefix : TookPrefix output.before output.now text
  pub rose : Rose output.faults output.faults_now

-- The outcomes of writing a text that ends in its own outcome.
abbrev pub Ends : Output → List ℕ → Outcome → Outcome → Type 0
Ends output text ending outcome =
    ((outcome ≡ ending) × Wrote output text) ⊎ ((outcome ≡ outcomes.WriteFault) × WriteFailed output text)

-- The input was read, and a text for it was written, or not all of it.
pub record Performed (order : Order) (input : Input) (output : Output) (outcome : Outcome) : Type 0 where
  pub bytes : List ℕ
  pub reads_all : ReadsAll (reads order) (shown order) input bytes
  pub text : List ℕ
  pub ending : Outcome
  pub writes : Writes order bytes text ending
  pub ends : Ends output text ending outcome

-- The outcomes of an order.
abbrev pub AnswersOrder : Order → Input → Output → Outcome → Type 0
AnswersOrder order input output outcome =
    (StopsAs (reads order) (shown order) (Refuses order) input outcome × Unwritten output) ⊎ Performed order input output outcome

-- The outcomes of words: where they order nothing, nothing is done.
abbrev pub Answers : Option Order → Input → Output → Outcome → Type 0
Answers None input output outcome = (outcome ≡ outcomes.Usage) × Unread input × Unwritten output
Answers (Some order) input output outcome = AnswersOrder order input output outcome

-- The notes took the outcome's note and were flushed, or failed and took a prefix of it. After `Done` they are as
-- they were.
pub record Noted (notes : Output) (outcome : Outcome) : Type 0 where
  pub prefix : TookPrefix notes.before notes.now (note_of outcome)
  pub whole : notes.faults_now ≡ notes.faults → Appends notes.before notes.now (note_of outcome)
  pub flushed : (outcome ≡ outcomes.Done → ⊥) → notes.faults_now ≡ notes.faults → IsTrue notes.flushed_now
  pub none : outcome ≡ outcomes.Done → Unwritten notes

-- The whole table: the outcome of a call, and its note.
pub record IsAnswered (order : Option Order) (input : Input) (output notes : Output) (outcome : Outcome) : Type 0 where
  pub answers : Answers order input output outcome
  pub noted : Noted notes outcome
