use Rattle.std.proofs.Common.{sym, subst, ◌∙◌}
use Rattle.source_machine.specs.LowestNets.{IsFirstTwice}
use Rattle.source_machine.proofs.LowestNets.{first_twice_is}
use Rattle.source_machine.proofs.lowest_nets.first_twice.Goals as goal

pub returns : goal.returns
returns c =
    subst (λ found. IsFirstTwice c.args.nets.now found) (sym (c.number.ensures ∙ c.first_at_two.ensures))
    (rw (c.as_slice.ensures.value) (first_twice_is c.args.count c.args.nets.now _ c.requires.fit c.in_ok-counts.ensures))
