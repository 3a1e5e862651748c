use Rattle.std.proofs.Common.{◌<◌, length, set, ◌∙◌, ap, arith}
use Rattle.std.proofs.lemmas.List.{length-map}
use Rattle.pulse_ids.specs.Ids.{NetId, NodeLit}
use Rattle.graph_build.proofs.NetLiterals.{input_numbered, input_goes_on}
use Rattle.graph_build.proofs.building.set_inputs.Goals as goal

pub set-requires : goal.set-requires
set-requires c =
    let low : c.loop-number.number < length c.args.raw.now.inputs.items = omega (arith, c.loop-number-test.true, c.len-number-end.ensures) in
    omega (arith, (input_numbered c.args.raw.now c.requires.fits c.loop-number.number c.index.result.now low).1, ap (λ (n : NetId). n.number) c.index.ensures, c.loop-number.invariant.width)

pub loop-number-preserved : goal.loop-number-preserved
loop-number-preserved c =
    let low : c.loop-number.number < length c.args.raw.now.inputs.items = omega (arith, c.loop-number-test.true, c.len-number-end.ensures) in
    input_goes_on c.args.raw.now c.requires.fits c.args.graph.now c.loop-number.literals c.set.new.self c.loop-number.number c.input.result c.index.result.now low c.loop-number.invariant
    (c.set.ensures ∙ ap (λ (n : NetId). set c.loop-number.literals n.number c.input.result) c.index.ensures)
    (omega (
      arith,
      low,
      ap (λ (l : NodeLit). l.id.number) c.input.ensures.literal,
      c.loop-number.invariant.inputs,
      length-map c.args.raw.now.inputs.items (λ (n : NetId). n.number),
    )) c.input.ensures.value
