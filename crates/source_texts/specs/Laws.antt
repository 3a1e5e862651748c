-- What is true of every text that is written from parts.
use Rattle.std.specs.Prelude.{◌≡◌, Ok}
use Rattle.source_machine.specs.Fitting.{Fits}
use Rattle.source_machine.specs.declared.unset.Unset.{Unset}
use Rattle.aiger_reader.specs.Sources.{judgement}
use Rattle.source_texts.specs.Parts.{SourceParts, AreInRange, machine_from}
use Rattle.source_texts.specs.Texts.{source_text}

-- the text of parts in range is judged to be the machine of the parts
abbrev pub SourceTextsAreRead : Type 0
SourceTextsAreRead = (unset : Unset) (parts : SourceParts) → AreInRange parts → judgement unset (source_text parts) ≡ Ok (machine_from parts)

-- which is in range
abbrev pub SourceMachinesFit : Type 0
SourceMachinesFit = (parts : SourceParts) → AreInRange parts → Fits (machine_from parts)
