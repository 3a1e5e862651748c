use Rattle.extracted_sources.proofs.ReadBack.{extracts_are_read, extracts_are_netlists}
use Rattle.extracted_sources.proofs.laws.extracts_are_read.Goals as goal

pub returns-clause-read : goal.returns-clause-read
returns-clause-read c = extracts_are_read

pub returns-clause-netlists : goal.returns-clause-netlists
returns-clause-netlists c = extracts_are_netlists c.extracts_are_founded.ensures c.extracts_pulse.ensures.pulse
