-- The sources of machines: the kinds, what their first bytes show, and their verdicts.
use Rattle.std.specs.Prelude.{◌≡◌, ℕ, List, Bool, ◌||◌, Option, None, Result, Ok, Err, codes, length, take, nat_lt, option_map, if◌then◌else◌}
use Rattle.std.specs.Str.{bytes_eq}
use Rattle.source_machine.specs.declared.unset.Unset.TheVariants.{Refuse}
use Rattle.source_machine.specs.Machines.{PlainMachine}
use Rattle.aiger_reader.specs.declared.refusals.AigerRefusal.{AigerRefusal}
use Rattle.aiger_reader.specs.Sources.{early, judgement, IsVerdictOf}
use Rattle.blif_reader.specs.declared.refusals.BlifRefusal.{BlifRefusal}
use Rattle.blif_reader.specs.Sources as blif_sources
use Rattle.run_outcomes.specs.declared.outcomes.Outcome.{Outcome}
use Rattle.run_outcomes.specs.Outcomes.{aiger_outcome, blif_outcome}

-- the kinds of sources: AIGER in both spellings, and BLIF
pub data SourceKind : Type 0 where
  Aiger : SourceKind
  Blif : SourceKind

-- the first four bytes begin AIGER, ASCII or binary
abbrev pub begins_aiger : List ℕ → Bool
begins_aiger head = bytes_eq head (codes "aag ") || bytes_eq head (codes "aig ")

-- the kind of a source, told by its first four bytes
abbrev pub kind_of : List ℕ → SourceKind
kind_of bytes = if begins_aiger (take 4 bytes) then Aiger else Blif

-- the refusal that the first bytes of a source of a kind show, whatever follows them
abbrev pub shown_as : SourceKind → List ℕ → Option Outcome
shown_as Aiger bytes = option_map aiger_outcome (early Refuse bytes)
shown_as Blif bytes = option_map blif_outcome (blif_sources.early Refuse bytes)

-- the refusal that the first bytes of a source show; before the fourth byte none
abbrev pub source_shown : List ℕ → Option Outcome
source_shown bytes = if nat_lt (length bytes) 4 then None else shown_as (kind_of bytes) bytes

-- the verdict of a source of a kind: its machine, or the outcome that refuses it
abbrev pub IsVerdictAs : SourceKind → List ℕ → Result PlainMachine Outcome → Type 0
IsVerdictAs Aiger bytes (Ok machine) = IsVerdictOf (judgement Refuse bytes) (Ok machine)
IsVerdictAs Aiger bytes (Err outcome) =
    (refusal : AigerRefusal) × IsVerdictOf (judgement Refuse bytes) (Err refusal) × (outcome ≡ aiger_outcome refusal)
IsVerdictAs Blif bytes (Ok machine) = blif_sources.IsVerdictOf (blif_sources.judgement Refuse bytes) (Ok machine)
IsVerdictAs Blif bytes (Err outcome) =
    (refusal : BlifRefusal) × blif_sources.IsVerdictOf (blif_sources.judgement Refuse bytes) (Err refusal) × (outcome ≡ blif_outcome refusal)

-- the verdict of a source
abbrev pub HasVerdict : List ℕ → Result PlainMachine Outcome → Type 0
HasVerdict bytes verdict = IsVerdictAs (kind_of bytes) bytes verdict
