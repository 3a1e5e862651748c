-- A piece that fails leaves the pieces before it.
use Rattle.std.proofs.Common.{◌∷◌, [], ◌++◌, codes}
use Rattle.std.specs.List.{flat_map}
use Rattle.byte_ports.proofs.CallerLemmas.{wrote_first, wrote_second, ok_so, err_so}
use Rattle.pulse_traces.specs.Pieces.{spaced_wire}
use Rattle.pulse_traces.proofs.Texts.{line-in-pieces}
use Rattle.pulse_traces.proofs.lines.write_deliveries.Goals as goal

pub returns-in_err-write_all : goal.returns-in_err-write_all
returns-in_err-write_all g c = rw (line-in-pieces (codes "deliver") c.args.wires.now)
    (wrote_first _ _ _ _ _ _ (codes "deliver") (flat_map spaced_wire c.args.wires.now ++ 10 ∷ [])
    (err_so c.in_err-write_all.was) c.from_residual.ensures.0 c.write_all.ensures.written)

pub returns-in_err-write_wires : goal.returns-in_err-write_wires
returns-in_err-write_wires g c = rw (line-in-pieces (codes "deliver") c.args.wires.now)
    (wrote_second _ _ _ _ _ _ _ _ (codes "deliver") (flat_map spaced_wire c.args.wires.now ++ 10 ∷ []) (ok_so c.in_ok-write_all.was) c.write_all.ensures.written
    (wrote_first _ _ _ _ _ _ (flat_map spaced_wire c.args.wires.now) (10 ∷ [])
    (err_so c.in_err-write_wires.was) c.from_residual-in_err-write_wires.ensures.0 c.write_wires.ensures))

pub returns : goal.returns
returns g c = rw (line-in-pieces (codes "deliver") c.args.wires.now)
    (wrote_second _ _ _ _ _ _ _ _ (codes "deliver") (flat_map spaced_wire c.args.wires.now ++ 10 ∷ []) (ok_so c.in_ok-write_all.was) c.write_all.ensures.written
    (wrote_second _ _ _ _ _ _ _ _ (flat_map spaced_wire c.args.wires.now) (10 ∷ []) (ok_so c.in_ok-write_wires.was) c.write_wires.ensures c.write_all-2.ensures.written))
