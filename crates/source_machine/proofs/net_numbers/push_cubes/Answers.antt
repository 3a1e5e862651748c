use Rattle.std.proofs.Common.{ap, ◌∙◌, ◌++◌, sym, List, map, take}
use Rattle.std.specs.List.{flat_map}
use Rattle.std.proofs.lemmas.List.{append_assoc}
use Rattle.pulse_ids.specs.Ids.{Lit}
use Rattle.source_machine.proofs.NetNumbers.{flat_map_item}
use Rattle.source_machine.proofs.net_numbers.push_cubes.Goals as goal

pub loop-cube-preserved : goal.loop-cube-preserved
loop-cube-preserved c =
    let before = flat_map (λ (cube : List Lit). map (λ (literal : Lit). literal.id.number) cube) (take c.loop-cube.cube-index c.args.cubes.now) in
    c.in_ok-push_literals.ensures ∙ ap (λ l. l ++ map (λ (literal : Lit). literal.id.number) c.literals.result.now) c.loop-cube.invariant ∙ append_assoc
    c.args.nets.now.items before _ ∙ ap (λ l. c.args.nets.now.items ++ l)
    (ap (λ l. before ++ map (λ (literal : Lit). literal.id.number) l) c.literals.ensures ∙ sym
    (flat_map_item (λ (cube : List Lit). map (λ (literal : Lit). literal.id.number) cube) c.args.cubes.now c.loop-cube.cube-index c.cube-item.result c.loop-cube-test.true c.cube-item.is))
