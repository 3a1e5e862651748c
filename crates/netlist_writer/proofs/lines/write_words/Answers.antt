-- A piece that fails leaves the pieces before it.
use Rattle.std.proofs.Common.{arith}
use Rattle.netlist_writer.specs.Texts.{spaced}
use Rattle.byte_ports.proofs.CallerLemmas.{wrote_up_to, err_so}
use Rattle.netlist_writer.proofs.lines.write_words.Goals as goal

pub returns-in_err-write_spaced-clause-written : goal.returns-in_err-write_spaced-clause-written
returns-in_err-write_spaced-clause-written g c =
    wrote_up_to spaced c.args.words.now c.loop-word.word-index _ _ _ _ _ _ _ _ _ (omega arith) c.loop-word.invariant.written c.loop-word.invariant.calm
    (err_so c.in_err-write_spaced.was) c.from_residual.ensures.0 c.write_spaced.ensures.written
