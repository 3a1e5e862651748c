-- What the reader of sources has read.
use Rattle.std.specs.Prelude.{◌≡◌, ℕ, List, [], Result, Ok, Err, length, take, nat_lt, if◌then◌else◌}
use Rattle.source_machine.specs.declared.unset.Unset.TheVariants.{Refuse}
use Rattle.aiger_reader.specs.declared.readings.Reading.{Reading}
use Rattle.aiger_reader.specs.Readings.{IsReading}
use Rattle.source_machine.specs.Machines.{PlainMachine}
use Rattle.blif_reader.specs.declared.readings.Reading as blif_reading
use Rattle.blif_reader.specs.declared.refusals.BlifRefusal.{BlifRefusal}
use Rattle.blif_reader.specs.Sources as blif_sources
use Rattle.blif_reader.specs.Readings as blif_readings
use Rattle.run_outcomes.specs.declared.outcomes.Outcome.{Outcome}
use Rattle.run_outcomes.specs.Outcomes.{blif_outcome}
use Rattle.xsfq_cli.specs.Sources.{SourceKind, Aiger, Blif, kind_of}

-- the bytes of a source of a kind that AIGER's reader takes: all of AIGER, and none of others
abbrev pub fed_as : SourceKind → List ℕ → List ℕ
fed_as Aiger text = text
fed_as Blif text = []

-- all bytes, where there are four, and before them none
abbrev pub unheld : List ℕ → List ℕ
unheld text = if nat_lt (length text) 4 then [] else text

-- those that BLIF's reader takes
abbrev pub fed_blif : SourceKind → List ℕ → List ℕ
fed_blif Aiger text = []
fed_blif Blif text = unheld text

-- the first four bytes are kept, and the reader of their kind has all of them
pub record HasRead (text kept : List ℕ) (aiger : Reading) (blif : blif_reading.Reading) : Type 0 where
  pub head : kept ≡ take 4 text
  pub fed : IsReading Refuse (fed_as (kind_of text) text) aiger
  pub blif_fed : blif_readings.IsReading Refuse (fed_blif (kind_of text) text) blif

-- where fewer than four bytes were kept before, the ones that are kept now are due to be fed
abbrev pub due : ℕ → List ℕ → List ℕ
due held kept = if nat_lt held 4 then kept else []

-- an answer is the verdict of a BLIF source, or memory was refused
abbrev pub JudgesBlif : List ℕ → Result PlainMachine BlifRefusal → Type 0
JudgesBlif text (Ok machine) = blif_sources.IsVerdictOf (blif_sources.judgement Refuse text) (Ok machine)
JudgesBlif text (Err refusal) = blif_readings.OrMemory refusal (blif_sources.IsVerdictOf (blif_sources.judgement Refuse text) (Err refusal))

-- the outcome of what BLIF's reader answers
abbrev pub IsBlifAnswer : Result Unit BlifRefusal → Result Unit Outcome → Type 0
IsBlifAnswer (Ok x) (Ok y) = Unit
IsBlifAnswer (Err refusal) (Err outcome) = outcome ≡ blif_outcome refusal
IsBlifAnswer answer outcome = ⊥

-- the outcome of its verdict
abbrev pub IsBlifVerdict : Result PlainMachine BlifRefusal → Result PlainMachine Outcome → Type 0
IsBlifVerdict (Ok machine) (Ok same) = same ≡ machine
IsBlifVerdict (Err refusal) (Err outcome) = outcome ≡ blif_outcome refusal
IsBlifVerdict verdict outcome = ⊥
