-- The text of a netlist is judged to be its machine.
use Rattle.std.proofs.Common.{Ok, ◌∙◌, ap, subst}
use Rattle.source_machine.specs.Fitting.{Fits}
use Rattle.aiger_reader.specs.Sources.{judgement}
use Rattle.netlist_extract.specs.Outlines.{outline_of}
use Rattle.extracted_machines.specs.Machines.{extracted}
use Rattle.extracted_machines.specs.Laws.{ExtractsAreFounded, ExtractsPulse}
use Rattle.source_texts.proofs.CallerLemmas.{source_machines_fit, source_texts_are_read}
use Rattle.extracted_sources.specs.Sources.{parts_of}
use Rattle.extracted_sources.specs.Laws.{ExtractsAreRead, ExtractsAreNetlists}
use Rattle.extracted_sources.proofs.SameTexts.{text_same}
use Rattle.extracted_sources.proofs.SameMachines.{machine_same}
use Rattle.extracted_sources.proofs.Ranges.{parts_in_range}

pub extracts_are_read : ExtractsAreRead
extracts_are_read net is unset =
    ap (judgement unset) (text_same (outline_of net)) ∙ source_texts_are_read unset (parts_of (outline_of net)) (parts_in_range net is)
    ∙ ap Ok (machine_same (outline_of net))

pub extracts_are_netlists : ExtractsAreFounded → ExtractsPulse → ExtractsAreNetlists
extracts_are_netlists founded pulse net is unset = (
  extracted net,
  record {
    judged = extracts_are_read net is unset;
    fits = subst Fits (machine_same (outline_of net)) (source_machines_fit (parts_of (outline_of net)) (parts_in_range net is));
    founded = founded net is.sound;
    pulses = pulse net is.sound;
  },
)
