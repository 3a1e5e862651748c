-- The laws of the table.
use Rattle.xsfq_cli.proofs.BoundedLaws.{bounded_law}
use Rattle.xsfq_cli.proofs.TableLaws.{accepted_law, only_refused_law, read_fault_law, refused_law, unread_law, unwritten_law, usage_law, write_fault_law}
use Rattle.xsfq_cli.proofs.laws.each_outcome_has_its_cause.Goals as goal

pub returns-clause-usage : goal.returns-clause-usage
returns-clause-usage c = usage_law c.one_judgement.ensures.refusal c.one_judgement.ensures.no_text c.one_judgement.ensures.of_bytes

pub returns-clause-read_fault : goal.returns-clause-read_fault
returns-clause-read_fault c = read_fault_law c.one_judgement.ensures.refusal c.one_judgement.ensures.no_text c.one_judgement.ensures.of_bytes

pub returns-clause-write_fault : goal.returns-clause-write_fault
returns-clause-write_fault c = write_fault_law c.one_judgement.ensures.refusal c.one_judgement.ensures.no_text c.one_judgement.ensures.of_bytes

pub returns-clause-refused : goal.returns-clause-refused
returns-clause-refused c = refused_law c.one_judgement.ensures.refusal c.one_judgement.ensures.no_text c.one_judgement.ensures.of_bytes

pub returns-clause-accepted : goal.returns-clause-accepted
returns-clause-accepted c = accepted_law c.one_judgement.ensures.refusal c.one_judgement.ensures.no_text c.one_judgement.ensures.of_bytes

pub returns-clause-only : goal.returns-clause-only
returns-clause-only c = only_refused_law c.one_judgement.ensures.refusal c.one_judgement.ensures.no_text c.one_judgement.ensures.of_bytes

pub returns-clause-unwritten : goal.returns-clause-unwritten
returns-clause-unwritten c = unwritten_law

pub returns-clause-bounded : goal.returns-clause-bounded
returns-clause-bounded c = bounded_law

pub returns-clause-unread : goal.returns-clause-unread
returns-clause-unread c = unread_law
