-- A piece that fails leaves the pieces before it.
use Rattle.std.proofs.Common.{◌∷◌, []}
use Rattle.netlist_writer.specs.Texts.{word_text}
use Rattle.byte_ports.proofs.CallerLemmas.{wrote_first, wrote_second, ok_so, err_so}
use Rattle.netlist_writer.proofs.lines.write_spaced.Goals as goal

pub returns-in_err-write_all-clause-written : goal.returns-in_err-write_all-clause-written
returns-in_err-write_all-clause-written g c =
    wrote_first _ _ _ _ _ _ (32 ∷ []) (word_text c.args.word) (err_so c.in_err-write_all.was) c.from_residual.ensures.0 c.write_all.ensures.written

pub returns-clause-written : goal.returns-clause-written
returns-clause-written g c = wrote_second _ _ _ _ _ _ _ _ (32 ∷ []) (word_text c.args.word) (ok_so c.in_ok-write_all.was) c.write_all.ensures.written c.write_word.ensures.written
