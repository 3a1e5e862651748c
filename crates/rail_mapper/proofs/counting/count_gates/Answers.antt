use Rattle.std.proofs.Common.{◌∙◌, ◌*◌, ◌+◌, ap, arith, ℕ}
use Rattle.aig_core.specs.Graphs.{count_of}
use Rattle.pulse_ids.specs.declared.literals.Sign.TheVariants.{Pos}
use Rattle.rail_mapper.specs.Counts.{with_reads}
use Rattle.rail_mapper.specs.Labels.{rail_number}
use Rattle.rail_mapper.specs.Plans.{rail_uses}
use Rattle.rail_mapper.proofs.CountedReads.{few_nodes, reads_size, reads_total, reads_few, rail_few, reads_below, both_counted}
use Rattle.rail_mapper.proofs.counting.count_gates.Goals as goal

pub count_gate-requires-clause-size : goal.count_gate-requires-clause-size
count_gate-requires-clause-size c =
    reads_size c.args.draft.now c.loop-number.draft (reads_below c.args.circuit.now.built.now c.args.circuit.now.demand.now (2 * c.loop-number.number)) c.loop-number.invariant ∙ c.requires.size

pub count_gate-requires-clause-few : goal.count_gate-requires-clause-few
count_gate-requires-clause-few c =
    let t = reads_total c.args.draft.now c.loop-number.draft (reads_below c.args.circuit.now.built.now c.args.circuit.now.demand.now (2 * c.loop-number.number)) c.loop-number.invariant in
    let f = reads_few c.args.circuit.now.built.now c.args.circuit.now.demand.now (2 * c.loop-number.number) in
    let n = few_nodes c.args.circuit.now.built.now.graph c.graph.ensures.within.kept in
    omega (arith, c.requires.few, c.loop-number-test.true, c.len-number-end.ensures.count, ap count_of c.graph.ensures.graph)

pub count_gate-requires-in-loop-number-clause-size : goal.count_gate-requires-in-loop-number-clause-size
count_gate-requires-in-loop-number-clause-size c =
    reads_size c.loop-number.draft c.count_gate.new.draft (rail_uses c.args.circuit.now.built.now c.args.circuit.now.demand.now (rail_number c.new-node.result.number Pos)) c.count_gate.ensures
    ∙ reads_size c.args.draft.now c.loop-number.draft (reads_below c.args.circuit.now.built.now c.args.circuit.now.demand.now (2 * c.loop-number.number)) c.loop-number.invariant ∙ c.requires.size

pub count_gate-requires-in-loop-number-clause-few : goal.count_gate-requires-in-loop-number-clause-few
count_gate-requires-in-loop-number-clause-few c =
    let t = reads_total c.args.draft.now c.loop-number.draft (reads_below c.args.circuit.now.built.now c.args.circuit.now.demand.now (2 * c.loop-number.number)) c.loop-number.invariant in
    let u = reads_total c.loop-number.draft c.count_gate.new.draft
    (rail_uses c.args.circuit.now.built.now c.args.circuit.now.demand.now (rail_number c.new-node.result.number Pos)) c.count_gate.ensures in
    let r = rail_few c.args.circuit.now.built.now c.args.circuit.now.demand.now (rail_number c.new-node.result.number Pos) in
    let f = reads_few c.args.circuit.now.built.now c.args.circuit.now.demand.now (2 * c.loop-number.number) in
    let n = few_nodes c.args.circuit.now.built.now.graph c.graph.ensures.within.kept in
    omega (arith, c.requires.few, c.loop-number-test.true, c.len-number-end.ensures.count, ap count_of c.graph.ensures.graph)

pub loop-number-preserved : goal.loop-number-preserved
loop-number-preserved c =
    both_counted c.args.circuit.now.built.now c.args.circuit.now.demand.now c.loop-number.number c.args.draft.now c.loop-number.draft c.count_gate.new.draft c.count_gate-in-loop-number.new.draft
    c.loop-number.invariant
    (c.count_gate.ensures ∙ ap (λ (n : ℕ). with_reads c.loop-number.draft (rail_uses c.args.circuit.now.built.now c.args.circuit.now.demand.now (2 * n))) c.new-node.ensures)
    (c.count_gate-in-loop-number.ensures ∙ ap (λ (n : ℕ). with_reads c.count_gate.new.draft (rail_uses c.args.circuit.now.built.now c.args.circuit.now.demand.now (2 * n + 1))) c.new-node.ensures)

pub returns-clause-few : goal.returns-clause-few
returns-clause-few c =
    let t = reads_total c.args.draft.now c.loop-number.draft (reads_below c.args.circuit.now.built.now c.args.circuit.now.demand.now (2 * c.loop-number.number)) c.loop-number.invariant in
    let f = reads_few c.args.circuit.now.built.now c.args.circuit.now.demand.now (2 * c.loop-number.number) in
    let n = few_nodes c.args.circuit.now.built.now.graph c.graph.ensures.within.kept in
    omega (arith, c.loop-number-test, c.loop-number.auto.number-end, c.len-number-end.ensures.count, ap count_of c.graph.ensures.graph)
