-- A piece that fails leaves the pieces before it.
use Rattle.std.proofs.Common.{◌∷◌, [], ◌++◌}
use Rattle.std.specs.List.{flat_map}
use Rattle.netlist_writer.specs.Texts.{spaced}
use Rattle.byte_ports.proofs.CallerLemmas.{wrote_first, wrote_second, ok_so, err_so}
use Rattle.netlist_writer.proofs.TextLemmas.{line_in_pieces}
use Rattle.netlist_writer.proofs.lines.write_line.Goals as goal

pub returns-in_err-write_all-clause-written : goal.returns-in_err-write_all-clause-written
returns-in_err-write_all-clause-written g c = rw (line_in_pieces c.args.first.now c.args.words.now)
    (wrote_first _ _ _ _ _ _ c.args.first.now (flat_map spaced c.args.words.now ++ 10 ∷ [])
    (err_so c.in_err-write_all.was) c.from_residual.ensures.0 c.write_all.ensures.written)

pub returns-in_err-write_words-clause-written : goal.returns-in_err-write_words-clause-written
returns-in_err-write_words-clause-written g c = rw (line_in_pieces c.args.first.now c.args.words.now)
    (wrote_second _ _ _ _ _ _ _ _ c.args.first.now (flat_map spaced c.args.words.now ++ 10 ∷ []) (ok_so c.in_ok-write_all.was) c.write_all.ensures.written
    (wrote_first _ _ _ _ _ _ (flat_map spaced c.args.words.now) (10 ∷ [])
    (err_so c.in_err-write_words.was) c.from_residual-in_err-write_words.ensures.0 c.write_words.ensures.written))

pub returns-clause-written : goal.returns-clause-written
returns-clause-written g c = rw (line_in_pieces c.args.first.now c.args.words.now)
    (wrote_second _ _ _ _ _ _ _ _ c.args.first.now (flat_map spaced c.args.words.now ++ 10 ∷ []) (ok_so c.in_ok-write_all.was) c.write_all.ensures.written
    (wrote_second _ _ _ _ _ _ _ _ (flat_map spaced c.args.words.now) (10 ∷ []) (ok_so c.in_ok-write_words.was) c.write_words.ensures.written c.write_all-2.ensures.written))
