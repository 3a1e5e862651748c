-- What `workload` answers by the table, and what its netlist and its summary are.
use Rattle.xsfq_cli.proofs.WorkloadLaws.{workload_law}
use Rattle.xsfq_cli.proofs.WorkloadTexts.{counter_is_compiled, one_work_text, workload_is_compiled}
use Rattle.xsfq_cli.proofs.laws.workloads_are_done.Goals as goal

pub returns-clause-done : goal.returns-clause-done
returns-clause-done c = workload_law

pub returns-clause-compiled : goal.returns-clause-compiled
returns-clause-compiled c = workload_is_compiled c.counters_are_read.ensures.read

pub returns-clause-counter : goal.returns-clause-counter
returns-clause-counter c = counter_is_compiled c.counters_are_read.ensures.read c.one_judgement.ensures.verdict c.counters_are_founded.ensures.founded

pub returns-clause-one : goal.returns-clause-one
returns-clause-one c = one_work_text c.one_count.ensures c.one_report.ensures
