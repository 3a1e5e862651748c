use Rattle.std.proofs.Common.{◌<◌, length, map, set, ◌∙◌, ap, arith}
use Rattle.std.proofs.lemmas.List.{length-map}
use Rattle.pulse_ids.specs.Ids.{NodeLit}
use Rattle.source_machine.specs.Machines.{latch_of, machine_of}
use Rattle.source_machine.specs.declared.machines.Latch.{Latch}
use Rattle.graph_build.proofs.NetLiterals.{latch_fits, latch_goes_on, latches_done}
use Rattle.graph_build.proofs.building.set_latches.Goals as goal

pub set-requires : goal.set-requires
set-requires c =
    let low : c.loop-number.number < length c.args.raw.now.latches.items = omega (arith, c.loop-number-test.true, c.len-number-end.ensures) in
    omega (arith, (latch_fits c.args.raw.now c.requires.fits c.loop-number.number c.index.result.now low).0.1, ap (λ (l : Latch). l.out.number) c.index.ensures, c.loop-number.invariant.width)

pub loop-number-preserved : goal.loop-number-preserved
loop-number-preserved c =
    let low : c.loop-number.number < length c.args.raw.now.latches.items = omega (arith, c.loop-number-test.true, c.len-number-end.ensures) in
    latch_goes_on c.args.raw.now c.requires.fits c.args.graph.now c.loop-number.literals c.set.new.self c.loop-number.number c.latch.result c.index.result.now low c.loop-number.invariant
    (c.set.ensures ∙ ap (λ (l : Latch). set c.loop-number.literals l.out.number c.latch.result) c.index.ensures)
    (omega (
      arith,
      low,
      ap (λ (l : NodeLit). l.id.number) c.latch.ensures.literal,
      c.loop-number.invariant.latches,
      length-map c.args.raw.now.latches.items latch_of,
    )) c.latch.ensures.value

pub returns : goal.returns
returns c =
    latches_done (machine_of c.args.raw.now) c.args.graph.now c.loop-number.literals c.loop-number.number
    (omega (
      arith,
      c.loop-number-test.false,
      c.len-number-end.ensures,
      length-map c.args.raw.now.latches.items latch_of,
      length-map (map latch_of c.args.raw.now.latches.items) (λ latch. latch.out),
    )) c.loop-number.invariant
