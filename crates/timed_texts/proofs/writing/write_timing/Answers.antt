-- Lines that fail leave the lines before them.
use Rattle.std.proofs.Common.{subst}
use Rattle.byte_ports.proofs.CallerLemmas.{wrote_first, wrote_second, ok_so, err_so}
use Rattle.byte_ports.specs.Writing.{WritesText}
use Rattle.timed_world.specs.Bounds.{PlainBound}
use Rattle.timed_texts.specs.Texts.{times_text, bound_text}
use Rattle.timed_texts.proofs.writing.write_timing.Goals as goal

pub returns-in_err-write_cycles-clause-written : goal.returns-in_err-write_cycles-clause-written
returns-in_err-write_cycles-clause-written g c =
    wrote_first _ _ _ _ _ _ (times_text 0 c.args.timing.now.cycles) (bound_text c.args.timing.now.bound)
    (err_so c.in_err-write_cycles.was) c.from_residual.ensures.0
    (subst (λ cs. WritesText (g.K.Sink.taken c.args.out.now) (g.K.Sink.taken c.write_cycles.new.out) (g.K.Sink.faults c.args.out.now) (g.K.Sink.faults c.write_cycles.new.out)
    c.write_cycles.result (times_text 0 cs)) c.cycles.ensures c.write_cycles.ensures.written)

pub returns-clause-written : goal.returns-clause-written
returns-clause-written g c =
    wrote_second _ _ _ _ _ _ _ _ (times_text 0 c.args.timing.now.cycles) (bound_text c.args.timing.now.bound) (ok_so c.in_ok-write_cycles.was)
    (subst (λ cs. WritesText (g.K.Sink.taken c.args.out.now) (g.K.Sink.taken c.write_cycles.new.out) (g.K.Sink.faults c.args.out.now) (g.K.Sink.faults c.write_cycles.new.out)
    c.write_cycles.result (times_text 0 cs)) c.cycles.ensures c.write_cycles.ensures.written)
    (subst (λ (b : PlainBound). WritesText (g.K.Sink.taken c.write_cycles.new.out) (g.K.Sink.taken c.write_bound.new.out) (g.K.Sink.faults c.write_cycles.new.out)
    (g.K.Sink.faults c.write_bound.new.out) c.write_bound.result (bound_text b)) c.bound.ensures c.write_bound.ensures.written)
