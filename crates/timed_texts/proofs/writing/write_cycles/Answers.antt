-- A line that fails leaves the lines before it.
use Rattle.std.proofs.Common.{rules, sym, subst, take, arith}
use Rattle.std.specs.Io.KnownBytes.{Appends}
use Rattle.std.proofs.KnownBytes.{Appends-trans}
use Rattle.byte_ports.proofs.CallerLemmas.{err_so}
use Rattle.timed_texts.specs.Texts.{times_text}
use Rattle.timed_texts.proofs.TextLines.{times_failed, times_more}
use Rattle.timed_texts.proofs.writing.write_cycles.Goals as goal

pub returns-in_err-write_times-clause-written : goal.returns-in_err-write_times-clause-written
returns-in_err-write_times-clause-written g c =
    times_failed c.args.cycles.now c.loop-number.number _ _ _ _ _ _ _ _ _ (omega arith) c.loop-number.invariant.written c.loop-number.invariant.calm
    (err_so c.in_err-write_times.was) c.from_residual.ensures.0 c.write_times.ensures.written

pub loop-number-preserved : goal.loop-number-preserved
loop-number-preserved g c = record {
  written = subst (Appends (g.K.Sink.taken c.args.out.now) (g.K.Sink.taken c.write_times.new.out)) (sym (times_more c.args.cycles.now c.loop-number.number _ (omega arith)))
      (Appends-trans _ _ _ (times_text 0 (take c.loop-number.number c.args.cycles.now)) _ c.loop-number.invariant.written c.in_ok-write_times.ensures.written.whole);
  calm = search rules;
}
