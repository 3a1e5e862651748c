use Rattle.std.proofs.Common.{◌∙◌, ap, sym, arith, map}
use Rattle.cell_netlist.specs.Asked.{signs_of}
use Rattle.rail_mapper.specs.Counts.{with_reads}
use Rattle.rail_mapper.specs.Drafts.{PlainDraft}
use Rattle.rail_mapper.specs.Labels.{literal_number}
use Rattle.rail_mapper.proofs.CountedReads.{reads_size, reads_total, reads-append, outputs_few, outputs_next, outputs_below}
use Rattle.rail_mapper.proofs.counting.count_outputs.Goals as goal

pub count_output-requires-clause-inside : goal.count_output-requires-clause-inside
count_output-requires-clause-inside c =
    omega (
      arith,
      reads_size c.args.draft.now c.loop-port.draft
          (outputs_below c.args.circuit.now.built.now.outputs c.args.circuit.now.ask c.loop-port.port) c.loop-port.invariant,
      c.requires.size,
      c.output.ensures.within,
    )

pub count_output-requires-clause-few : goal.count_output-requires-clause-few
count_output-requires-clause-few c =
    let t = reads_total c.args.draft.now c.loop-port.draft (outputs_below c.args.circuit.now.built.now.outputs c.args.circuit.now.ask c.loop-port.port) c.loop-port.invariant in
    let f = outputs_few c.args.circuit.now.built.now.outputs c.args.circuit.now.ask c.loop-port.port in
    omega (arith, c.requires.few, c.loop-port-test.true, c.outputs-port-end.ensures.count, c.outputs-port-end.ensures.within.outputs_fit)

pub loop-port-preserved : goal.loop-port-preserved
loop-port-preserved c =
    c.count_output.ensures ∙ ap (λ (d : PlainDraft). with_reads d (map (literal_number c.output.result) (signs_of c.args.circuit.now.ask))) c.loop-port.invariant
    ∙ sym (reads-append c.args.draft.now (outputs_below c.args.circuit.now.built.now.outputs c.args.circuit.now.ask c.loop-port.port)
    (map (literal_number c.output.result) (signs_of c.args.circuit.now.ask)))
    ∙ ap (with_reads c.args.draft.now) (sym (outputs_next c.args.circuit.now.built.now.outputs c.args.circuit.now.ask c.loop-port.port c.output.result c.output.ensures.literal))

pub returns-clause-few : goal.returns-clause-few
returns-clause-few c =
    let t = reads_total c.args.draft.now c.loop-port.draft (outputs_below c.args.circuit.now.built.now.outputs c.args.circuit.now.ask c.loop-port.port) c.loop-port.invariant in
    let f = outputs_few c.args.circuit.now.built.now.outputs c.args.circuit.now.ask c.loop-port.port in
    omega (arith, c.loop-port-test, c.loop-port.auto.port-end, c.outputs-port-end.ensures.count, c.outputs-port-end.ensures.within.outputs_fit)
