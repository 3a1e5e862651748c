use Rattle.std.proofs.Common.{None, is_some, sym, ap, ◌∙◌}
use Rattle.std.specs.Prelude.{Option, Bool}
use Rattle.std.proofs.lemmas.Option.{get_or_from_slice_get}
use Rattle.rail_checker.proofs.roles.has_front.Goals as goal

pub returns : goal.returns
returns c =
    c.is_some.ensures ∙ ap (λ (o : Option Bool). is_some o) (sym (get_or_from_slice_get c.args.fronts.now c.args.wire.number c.get.result.now None c.get.ensures))
