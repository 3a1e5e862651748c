-- What `report` answers by the laws of the table.
use Rattle.xsfq_cli.proofs.ReportedLaws.{one_report_text, reported_law, sound_is_reported, unsound_is_not_reported}
use Rattle.xsfq_cli.proofs.laws.netlists_are_reported.Goals as goal

pub returns-clause-done : goal.returns-clause-done
returns-clause-done c = reported_law c.one_judgement.ensures.of_bytes

pub returns-clause-one : goal.returns-clause-one
returns-clause-one c = one_report_text c.one_report.ensures

pub returns-clause-sound : goal.returns-clause-sound
returns-clause-sound c = sound_is_reported c.texts_are_read.ensures.read c.one_refusal.ensures.sound c.each_outcome_has_its_cause.ensures.accepted

pub returns-clause-unsound : goal.returns-clause-unsound
returns-clause-unsound c = unsound_is_not_reported c.texts_are_read.ensures.read c.each_outcome_has_its_cause.ensures.refused
