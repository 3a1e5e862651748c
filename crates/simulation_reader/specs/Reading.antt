-- What a reader of a simulation's input keeps of the bytes so far, and what it answers.
use Rattle.std.specs.Prelude.{◌≡◌, ◌++◌, ℕ, Bool, true, false, List, [], Option, Some, None, Result, Ok, Err, length, ⊤}
use Rattle.netlist_reader.specs.declared.readings.Reading.{Reading}
use Rattle.netlist_reader.specs.declared.refusals.NetRefusal.TheVariants as net_refusals
use Rattle.netlist_reader.specs.Places.{netlist_in, has_end}
use Rattle.netlist_reader.specs.Readings as nets
use Rattle.netlist_reader.specs.Verdicts.{lines_in, after_end, early}
use Rattle.schedule_replay.specs.declared.readings.Reading as vector_readings
use Rattle.schedule_replay.specs.declared.refusals.VectorRefusal.TheVariants as vector_refusals
use Rattle.schedule_replay.specs.Readings as vectors
use Rattle.simulation_reader.specs.declared.readers.SimulationReader.{SimulationReader}
use Rattle.simulation_reader.specs.declared.refusals.InputRefusal.{InputRefusal}
use Rattle.simulation_reader.specs.declared.refusals.InputRefusal.TheVariants.{Net, Vectors}
use Rattle.simulation_reader.specs.InputTexts.{form_of}

-- the text of a netlist was read up to its `end` line, and shows no refusal
pub record HasBegun (text : List ℕ) (net : Reading) : Type 0 where
  pub read : nets.IsReading text net
  pub goes_on : net.stopped ≡ None
  pub ended : has_end (lines_in text) ≡ true
  pub none_after : after_end text ≡ []
  pub quiet : early text ≡ None

-- and these bytes were read after it
abbrev pub HasRead : Bool → List ℕ → List ℕ → vector_readings.Reading → Type 0
HasRead scripted text rest reading = vectors.IsReading (form_of scripted (netlist_in (lines_in text)) (length (lines_in text))) rest reading

-- the text so far has no `end` line, and shows no refusal
pub record IsBefore (text : List ℕ) (net : Reading) : Type 0 where
  pub read : nets.IsReading text net
  pub open_end : has_end (lines_in text) ≡ false
  pub quiet : early text ≡ None

-- the text so far is that of a netlist and these bytes after it
pub record IsAfter (scripted : Bool) (text : List ℕ) (net : Reading) (reading : vector_readings.Reading) : Type 0 where
  pub first : List ℕ
  pub rest : List ℕ
  pub parts : text ≡ first ++ rest
  pub begun : HasBegun first net
  pub has_read : HasRead scripted first rest reading

abbrev pub TakenBy : Bool → List ℕ → Reading → Option vector_readings.Reading → Type 0
TakenBy scripted text net None = IsBefore text net
TakenBy scripted text net (Some reading) = IsAfter scripted text net reading

-- the bytes so far are this text
pub record HasTaken (scripted : Bool) (text : List ℕ) (reader : SimulationReader) : Type 0 where
  pub scripted_is : reader.scripted ≡ scripted
  pub taken : TakenBy scripted text reader.net reader.vectors

-- want of memory, or this is so
abbrev pub OrMemory : InputRefusal → Type 0 → Type 0
OrMemory (Net net_refusals.NoMemory) fact = ⊤
OrMemory (Vectors vector_refusals.NoMemory) fact = ⊤
OrMemory refusal fact = fact

-- a refusal is want of memory
abbrev pub IsNoMemory : InputRefusal → Type 0
IsNoMemory (Net net_refusals.NoMemory) = ⊤
IsNoMemory (Vectors vector_refusals.NoMemory) = ⊤
IsNoMemory refusal = ⊥

-- an answer is this refusal, or want of memory
abbrev pub Answers : {A : Type 0} → Result A InputRefusal → Option InputRefusal → Type 0
Answers (Ok x) shown = shown ≡ None
Answers (Err refusal) shown = OrMemory refusal (shown ≡ Some refusal)

-- an answer is this judgement, or want of memory
abbrev pub IsVerdict : {A : Type 0} → Result A InputRefusal → Result A InputRefusal → Type 0
IsVerdict (Ok x) judged = judged ≡ Ok x
IsVerdict (Err refusal) judged = OrMemory refusal (judged ≡ Err refusal)

-- the reader has answered this refusal, of the netlist or of the vectors after it, and answers it from now on
abbrev pub HasAnsweredBy : Option vector_readings.Reading → Reading → InputRefusal → Type 0
HasAnsweredBy None net (Net refusal) = net.stopped ≡ Some refusal
HasAnsweredBy None net (Vectors refusal) = ⊥
HasAnsweredBy (Some reading) net (Net refusal) = ⊥
HasAnsweredBy (Some reading) net (Vectors refusal) = vectors.HasAnswered reading refusal

abbrev pub HasAnswered : SimulationReader → InputRefusal → Type 0
HasAnswered reader refusal = HasAnsweredBy reader.vectors reader.net refusal

-- where an answer is a refusal, it is answered from now on
abbrev pub KeepsAnswer : {A : Type 0} → Result A InputRefusal → SimulationReader → Type 0
KeepsAnswer (Ok x) reader = ⊤
KeepsAnswer (Err refusal) reader = HasAnswered reader refusal
