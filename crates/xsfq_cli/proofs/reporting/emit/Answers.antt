-- The report, and then the flush.
use Rattle.byte_ports.proofs.CallerLemmas.{ok_so}
use Rattle.junction_report.specs.Texts.{report_text}
use Rattle.xsfq_cli.proofs.Flushing.{written_and_flushed}
use Rattle.xsfq_cli.proofs.reporting.emit.Goals as goal

pub returns-clause-written : goal.returns-clause-written
returns-clause-written g c =
    written_and_flushed _ _ _ _ _ _ _ _ (report_text c.args.report.now) (ok_so c.in_ok-write_report.was) c.write_report.ensures.written c.flush.ensures.bytes c.flush.ensures.cause
