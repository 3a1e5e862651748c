use Rattle.std.proofs.Common.{Option, false, get_or, inl, refl, sym, ap, subst, ◌∙◌}
use Rattle.std.proofs.lemmas.Option.{get_or_from_slice_get}
use Rattle.pulse_ids.specs.Ids.{WireId}
use Rattle.pulse_ids.specs.Lists.{IsIn}
use Rattle.cell_netlist.specs.Netlists.{used}
use Rattle.cell_netlist.specs.Decisions.{is_some_with, number_on}
use Rattle.rail_checker.proofs.roles.feeds_back.Goals as goal

pub get-requires : goal.get-requires
get-requires c = c.requires c.in-Some.wire.number (subst (λ (o : Option WireId). IsIn c.in-Some.wire.number (used o)) (sym c.in-Some.is) (inl refl))

pub returns-in-Some : goal.returns-in-Some
returns-in-Some c =
    sym (get_or_from_slice_get c.args.backs.now c.in-Some.wire.number c.get.result false c.get.ensures)
    ∙ ap (λ (o : Option WireId). is_some_with (λ link. get_or c.args.backs.now link false) (number_on o)) (sym c.in-Some.is)
