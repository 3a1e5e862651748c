use Rattle.std.proofs.Common.{◌≡◌, length, map, get_or, refl, ◌∙◌, ap, arith}
use Rattle.std.proofs.lemmas.List.{length-map}
use Rattle.source_machine.specs.declared.machines.Equation.{Equation}
use Rattle.source_machine.proofs.Evaluating.{key_at, key_fits}
use Rattle.source_machine.proofs.LowestNets.{unknown_more}
use Rattle.source_machine.proofs.lowest_nets.first_unknown.Goals as goal

pub knows-requires : goal.knows-requires
knows-requires c =
    omega (
      arith,
      c.number-net.ensures,
      ap (λ (x : Equation). x.net.number) c.equation-item.is,
      key_fits (λ (x : Equation). x.net.number) c.args.equations.now
          c.loop-equation.equation-index c.equation-item.result (length c.args.order.now.known) (length c.args.order.now.known) c.loop-equation-test.true c.requires refl,
    )

pub loop-equation-preserved : goal.loop-equation-preserved
loop-equation-preserved c =
    let net : c.number-net.result ≡ get_or (map (λ (x : Equation). x.net.number) c.args.equations.now) c.loop-equation.equation-index 0 =
    c.number-net.ensures ∙ ap (λ (x : Equation). x.net.number) c.equation-item.is ∙ key_at (λ (x : Equation). x.net.number) c.args.equations.now
    c.loop-equation.equation-index c.equation-item.result c.loop-equation-test.true in
    rw (c.with_net-found.ensures, c.knows.ensures)
    (unknown_more (map (λ (x : Equation). x.net.number) c.args.equations.now) c.args.order.now.known c.loop-equation.found c.loop-equation.equation-index
    c.number-net.result (omega (arith, c.loop-equation-test.true, length-map c.args.equations.now (λ (x : Equation). x.net.number))) net c.loop-equation.invariant)
