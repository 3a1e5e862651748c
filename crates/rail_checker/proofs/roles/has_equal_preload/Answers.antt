use Rattle.std.proofs.Common.{ℕ, Bool, Option, None, not, get_or, sym, ap, ◌∙◌}
use Rattle.std.proofs.lemmas.Option.{get_or_from_slice_get}
use Rattle.cell_netlist.specs.Decisions.{is_some_with, differ}
use Rattle.cell_netlist.specs.RailEquations.{preload_of}
use Rattle.rail_checker.proofs.LinkTables.{feed_read}
use Rattle.rail_checker.proofs.roles.has_equal_preload.Goals as goal

pub get-requires : goal.get-requires
get-requires c = c.requires c.in-Some.link.number (feed_read c.args.cell c.in-Some.link.number (sym c.in-Some.ensures))

pub returns-in-Some : goal.returns-in-Some
returns-in-Some c =
    c.is_equal.ensures
    ∙ ap (λ (o : Option Bool). is_some_with (λ front. not (differ front c.preload.result)) o) (sym (get_or_from_slice_get c.args.fronts.now c.in-Some.link.number c.get.result.now None c.get.ensures))
    ∙ ap (λ (p : Bool). is_some_with (λ front. not (differ front p)) (get_or c.args.fronts.now c.in-Some.link.number None)) c.preload.ensures
    ∙ ap (λ (o : Option ℕ). is_some_with (λ link. is_some_with (λ front. not (differ front (preload_of c.args.cell))) (get_or c.args.fronts.now link None)) o) c.in-Some.ensures
