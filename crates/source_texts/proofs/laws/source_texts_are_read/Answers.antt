use Rattle.source_texts.proofs.Fitting.{source_machines_fit}
use Rattle.source_texts.proofs.ReadBack.{source_texts_are_read}
use Rattle.source_texts.proofs.laws.source_texts_are_read.Goals as goal

pub returns-clause-read : goal.returns-clause-read
returns-clause-read c = source_texts_are_read

pub returns-clause-fit : goal.returns-clause-fit
returns-clause-fit c = source_machines_fit
