-- What `check` answers by the laws of the table.
use Rattle.xsfq_cli.proofs.CheckLaws.{checked_law, sound_law, unsound_law}
use Rattle.xsfq_cli.proofs.laws.netlists_are_checked.Goals as goal

pub returns-clause-done : goal.returns-clause-done
returns-clause-done c = checked_law c.one_judgement.ensures.of_bytes

pub returns-clause-sound : goal.returns-clause-sound
returns-clause-sound c = sound_law c.texts_are_read.ensures.read c.one_refusal.ensures.sound c.each_outcome_has_its_cause.ensures.accepted

pub returns-clause-unsound : goal.returns-clause-unsound
returns-clause-unsound c = unsound_law c.texts_are_read.ensures.read c.each_outcome_has_its_cause.ensures.refused
