-- The work, and then the flush.
use Rattle.byte_ports.proofs.CallerLemmas.{ok_so}
use Rattle.xsfq_cli.specs.Workloads.{work_text}
use Rattle.xsfq_cli.proofs.Flushing.{written_and_flushed}
use Rattle.xsfq_cli.proofs.workloads.emit.Goals as goal

pub returns-clause-written : goal.returns-clause-written
returns-clause-written g c =
    written_and_flushed _ _ _ _ _ _ _ _ (work_text c.args.work.now) (ok_so c.in_ok-write_work.was) c.write_work.ensures c.flush.ensures.bytes c.flush.ensures.cause
