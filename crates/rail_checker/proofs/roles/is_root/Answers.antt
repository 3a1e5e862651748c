use Rattle.std.proofs.Common.{◌==◌, sym, ap, ◌∙◌}
use Rattle.std.proofs.lemmas.Option.{get_or_from_slice_get}
use Rattle.pulse_ids.specs.Ids.{WireId, numbered}
use Rattle.cell_netlist.specs.Decisions.{is_some_with, number_on}
use Rattle.rail_checker.proofs.roles.is_root.Goals as goal

pub returns : goal.returns
returns c =
    c.is_wire.ensures ∙ ap (λ (w : WireId). is_some_with (λ own. own == w.number) (number_on c.args.output))
    (sym (get_or_from_slice_get c.args.roots.now c.args.wire.number c.get.result.now (numbered 0) c.get.ensures))
