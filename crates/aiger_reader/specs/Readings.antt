-- What a reader keeps of the bytes so far, and what it answers.
use Rattle.std.specs.Prelude.{◌≡◌, ◌≤◌, ◌<◌, ℕ, ◌+◌, min, List, Option, Some, None, Result, Ok, Err, length, take, nat_lt, if◌then◌else◌, ⊤}
use Rattle.pulse_ids.specs.declared.quantities.Quantity.TheVariants as quantities
use Rattle.source_machine.specs.declared.unset.Unset.{Unset}
use Rattle.source_machine.specs.declared.places.Place.TheVariants.{Line}
use Rattle.source_machine.specs.Machines.{PlainMachine}
use Rattle.aiger_reader.specs.declared.headers.Header.{Header}
use Rattle.aiger_reader.specs.declared.refusals.AigerCause.TheVariants as causes
use Rattle.aiger_reader.specs.declared.refusals.AigerRefusal.{AigerRefusal}
use Rattle.aiger_reader.specs.declared.refusals.AigerRefusal.TheVariants as refusals
use Rattle.aiger_reader.specs.declared.refusals.Stop.{Stop}
use Rattle.aiger_reader.specs.declared.refusals.Stop.TheVariants as stops
use Rattle.aiger_reader.specs.declared.readings.Reading.{Reading}
use Rattle.aiger_reader.specs.Units.{HasNoEnd}
use Rattle.aiger_reader.specs.Sections.{kind_at, sections_end}
use Rattle.aiger_reader.specs.Sources.{fault_at, refusal_of, begun_of, limit, shown_by, end_place}
use Rattle.aiger_reader.specs.Building.{PlainBuilt, text_read}
use Rattle.aiger_reader.specs.Bounds.{IsBounded}

-- the answer of a reader that stopped
abbrev pub answer_of : Stop → AigerRefusal
answer_of (stops.Unit shown) = refusal_of shown
answer_of stops.TooLong = refusals.Limit quantities.SourceBytes
answer_of stops.NoMemory = refusals.NoMemory

-- what was taken so far is this text: these bytes have begun a unit, and the units before lead to this state
pub record HasRead (unset : Unset) (text begun : List ℕ) (built : PlainBuilt) : Type 0 where
  pub begun_is : begun_of text ≡ begun
  pub reads : text_read unset text ≡ Ok built

-- the state is bounded, and no byte that was kept completes a unit
pub record IsFine (begun : List ℕ) (built : PlainBuilt) : Type 0 where
  pub bounded : IsBounded built
  pub unended : HasNoEnd (kind_at built.header built.place) 0 begun

-- nothing stops the reading of this text, or this does
abbrev pub HasStopped : Unset → List ℕ → Option Stop → List ℕ → PlainBuilt → Type 0
HasStopped unset text None begun built = (length text ≤ limit) × HasRead unset text begun built
HasStopped unset text (Some (stops.Unit shown)) begun built = shown_by unset (take limit text) ≡ Some shown
HasStopped unset text (Some stops.TooLong) begun built = (limit < length text) × (shown_by unset (take limit text) ≡ None)
HasStopped unset text (Some stops.NoMemory) begun built = ⊤

-- under this choice, the bytes so far are this text
pub record IsReading (unset : Unset) (text : List ℕ) (reading : Reading) : Type 0 where
  pub choice : reading.unset ≡ unset
  pub taken : reading.taken ≡ min limit (length text)
  pub stopped : HasStopped unset text reading.stopped reading.begun.items reading.built

-- what reading on needs
abbrev pub CanGoOn : Option Stop → List ℕ → PlainBuilt → ℕ → Type 0
CanGoOn None begun built taken = IsFine begun built × (built.start + length begun ≡ taken)
CanGoOn (Some stop) begun built taken = ⊤

pub record IsSafe (reading : Reading) : Type 0 where
  pub within : reading.taken ≤ limit
  pub goes_on : CanGoOn reading.stopped reading.begun.items reading.built reading.taken

-- an answer is this one, or want of memory
abbrev pub Answers : {A : Type 0} → Result A AigerRefusal → Option AigerRefusal → Type 0
Answers (Ok x) shown = shown ≡ None
Answers (Err refusals.NoMemory) shown = ⊤
Answers (Err refusal) shown = shown ≡ Some refusal

-- want of memory, or this is so
abbrev pub OrMemory : AigerRefusal → Type 0 → Type 0
OrMemory refusals.NoMemory fact = ⊤
OrMemory _ fact = fact

-- the reader has answered this refusal, and answers it from now on
abbrev pub HasAnswered : Reading → AigerRefusal → Type 0
HasAnswered reading refusal = (stop : Stop) × (reading.stopped ≡ Some stop) × (answer_of stop ≡ refusal) × (4 ≤ reading.taken)

-- where an answer is a refusal, it is answered from now on
abbrev pub KeepsAnswer : {A : Type 0} → Result A AigerRefusal → Reading → Type 0
KeepsAnswer (Ok x) reading = ⊤
KeepsAnswer (Err refusal) reading = HasAnswered reading refusal

-- the machine of what was built of so many bytes, where no section is cut short
abbrev pub machine_by : Option Header → PlainBuilt → ℕ → Result PlainMachine AigerRefusal
machine_by None built bytes = Err (fault_at (Line 1) causes.BadHeader)
machine_by (Some header) built bytes =
    if nat_lt built.place (sections_end header)
    then Err (fault_at (end_place header.spelling (built.place + 1) bytes) causes.Truncated)
    else Ok built.machine
