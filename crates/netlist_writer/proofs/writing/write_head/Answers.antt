-- A piece that fails leaves the pieces before it.
use Rattle.std.proofs.Common.{◌∷◌, [], codes, decimal}
use Rattle.cell_netlist.specs.Text.{line_of, version_word}
use Rattle.byte_ports.proofs.CallerLemmas.{wrote_first, wrote_second, ok_so, err_so}
use Rattle.netlist_writer.proofs.writing.write_head.Goals as goal

pub returns-in_err-write_version-clause-written : goal.returns-in_err-write_version-clause-written
returns-in_err-write_version-clause-written g c = rw (← c.version.ensures)
    (wrote_first _ _ _ _ _ _ (line_of (codes "xsfq" ∷ version_word c.version.result ∷ [])) (line_of (codes "ports" ∷ decimal c.args.net.now.inputs ∷ decimal c.args.net.now.outputs ∷ []))
    (err_so c.in_err-write_version.was) c.from_residual.ensures.0 c.write_version.ensures.written)

pub returns-clause-written : goal.returns-clause-written
returns-clause-written g c = rw (← c.version.ensures, ← c.inputs.ensures, ← c.outputs.ensures)
    (wrote_second _ _ _ _ _ _ _ _ (line_of (codes "xsfq" ∷ version_word c.version.result ∷ [])) (line_of (codes "ports" ∷ decimal c.inputs.result ∷ decimal c.outputs.result ∷ []))
    (ok_so c.in_ok-write_version.was) c.write_version.ensures.written c.write_line.ensures.written)
