-- A line that fails leaves the line before it.
use Rattle.std.proofs.Common.{subst}
use Rattle.byte_ports.proofs.CallerLemmas.{wrote_first, wrote_second, ok_so, err_so}
use Rattle.byte_ports.specs.Writing.{WritesText}
use Rattle.timed_texts.specs.Texts.{bound_line, path_line}
use Rattle.timed_texts.proofs.writing.write_bound.Goals as goal

pub returns-in_err-write_time-clause-written : goal.returns-in_err-write_time-clause-written
returns-in_err-write_time-clause-written g c =
    wrote_first _ _ _ _ _ _ (bound_line c.args.bound.now.time) (path_line c.args.bound.now.path)
    (err_so c.in_err-write_time.was) c.from_residual.ensures.0
    (subst (λ t. WritesText (g.K.Sink.taken c.args.out.now) (g.K.Sink.taken c.write_time.new.out) (g.K.Sink.faults c.args.out.now) (g.K.Sink.faults c.write_time.new.out)
    c.write_time.result (bound_line t)) c.time.ensures c.write_time.ensures.written)

pub returns-clause-written : goal.returns-clause-written
returns-clause-written g c =
    wrote_second _ _ _ _ _ _ _ _ (bound_line c.args.bound.now.time) (path_line c.args.bound.now.path) (ok_so c.in_ok-write_time.was)
    (subst (λ t. WritesText (g.K.Sink.taken c.args.out.now) (g.K.Sink.taken c.write_time.new.out) (g.K.Sink.faults c.args.out.now) (g.K.Sink.faults c.write_time.new.out)
    c.write_time.result (bound_line t)) c.time.ensures c.write_time.ensures.written) c.write_path.ensures.written
