use Rattle.std.proofs.Common.{◌<◌, All, length, map, sym, ◌∙◌, ap, subst}
use Rattle.pulse_ids.specs.Ids.{Lit}
use Rattle.source_machine.specs.declared.machines.Latch.{Latch}
use Rattle.source_machine.specs.Machines.{machine_of, literal_of}
use Rattle.graph_build.specs.Literals.{node_literal}
use Rattle.graph_build.specs.Orders.{IsBuildOrder}
use Rattle.graph_build.proofs.Results.{outputs_low, nexts_low, all_within, graph_of}
use Rattle.graph_build.proofs.building.graph_of.Goals as goal

pub output_literals-requires : goal.output_literals-requires
output_literals-requires c =
    subst (λ l. All (λ (output : Lit). output.id.number < length c.build_equations.new.literals) l) (sym c.as_slice-2.ensures.value)
    (outputs_low c.args.raw.now c.requires.fits (length c.build_equations.new.literals) c.in_ok-build_equations.ensures.has.width)

pub next_literals-requires : goal.next_literals-requires
next_literals-requires c =
    subst (λ l. All (λ (latch : Latch). latch.next.id.number < length c.build_equations.new.literals) l) (sym c.as_slice-3.ensures.value)
    (nexts_low c.args.raw.now c.requires.fits (length c.build_equations.new.literals) c.in_ok-build_equations.ensures.has.width)

pub invariant_of-result : goal.invariant_of-result
invariant_of-result c =
    all_within c.args.raw.now c.requires.fits c.build_equations.new.graph c.build_equations.new.literals c.as_slice.result.now c.requires.founded
    (subst (IsBuildOrder (machine_of c.args.raw.now))
    (sym c.as_slice.ensures.value) c.in_ok-order.ensures) c.in_ok-build_equations.ensures.has c.in_ok-outputs.outputs.items c.in_ok-nexts.nexts.items
    c.in_ok-inits.inits.items c.len-3.ensures.kept
    (c.in_ok-outputs.ensures ∙ ap (λ l. map (λ (literal : Lit). node_literal c.build_equations.new.literals (literal_of literal)) l) c.as_slice-2.ensures.value)
    (c.in_ok-nexts.ensures ∙ ap (λ l. map (λ (latch : Latch). node_literal c.build_equations.new.literals (literal_of latch.next)) l) c.as_slice-3.ensures.value)
    (c.in_ok-inits.ensures ∙ ap (λ l. map (λ (latch : Latch). latch.init) l) c.as_slice-4.ensures.value)

pub returns : goal.returns
returns c =
    graph_of c.args.raw.now c.requires.fits c.build_equations.new.graph c.build_equations.new.literals c.as_slice.result.now c.requires.founded
    (subst (IsBuildOrder (machine_of c.args.raw.now))
    (sym c.as_slice.ensures.value) c.in_ok-order.ensures) c.in_ok-build_equations.ensures.has c.in_ok-outputs.outputs.items c.in_ok-nexts.nexts.items
    c.in_ok-inits.inits.items c.len-3.ensures.kept c.in_ok-build_equations.ensures.small
    (c.in_ok-outputs.ensures ∙ ap (λ l. map (λ (literal : Lit). node_literal c.build_equations.new.literals (literal_of literal)) l) c.as_slice-2.ensures.value)
    (c.in_ok-nexts.ensures ∙ ap (λ l. map (λ (latch : Latch). node_literal c.build_equations.new.literals (literal_of latch.next)) l) c.as_slice-3.ensures.value)
    (c.in_ok-inits.ensures ∙ ap (λ l. map (λ (latch : Latch). latch.init) l) c.as_slice-4.ensures.value)
