use Rattle.wire_ledgers.proofs.CallerLemmas.{begin_ledger, settle_step, input_step, output_step, cells_step}
use Rattle.wire_ledgers.proofs.CallerLemmasOnDrocs.{droc_step, feed_step}
use Rattle.wire_ledgers.proofs.laws.ledger_lines.Goals as goal

pub returns-clause-begin : goal.returns-clause-begin
returns-clause-begin c = begin_ledger

pub returns-clause-settled : goal.returns-clause-settled
returns-clause-settled c = settle_step

pub returns-clause-inputs : goal.returns-clause-inputs
returns-clause-inputs c = input_step

pub returns-clause-cells : goal.returns-clause-cells
returns-clause-cells c = cells_step

pub returns-clause-drocs : goal.returns-clause-drocs
returns-clause-drocs c = droc_step

pub returns-clause-feeds : goal.returns-clause-feeds
returns-clause-feeds c = feed_step

pub returns-clause-outputs : goal.returns-clause-outputs
returns-clause-outputs c = output_step
