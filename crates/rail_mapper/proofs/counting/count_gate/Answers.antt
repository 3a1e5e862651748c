use Rattle.std.proofs.Common.{◌≡◌, ◌∙◌, ap, subst, arith, slice_get, Some, [], ◌∷◌}
use Rattle.aig_core.specs.Graphs.{PlainGraph, nodes_of}
use Rattle.rail_mapper.proofs.CountedReads.{and_within, few_nodes, reads_size, reads_total}
use Rattle.rail_mapper.proofs.Values.{rail_low}
use Rattle.pulse_ids.specs.Literals.{rail_sign}
use Rattle.rail_mapper.proofs.counting.count_gate.Goals as goal

pub literal_rail-requires : goal.literal_rail-requires
literal_rail-requires c = let w = and_within c.args.circuit.now.built.now.graph c.args.node.number c.in-And.low c.in-And.high c.graph.ensures.within.kept c.nodes_have_values.ensures.pairs
    (subst (λ (g : PlainGraph). slice_get (nodes_of g) c.args.node.number ≡ Some c.node.result) c.graph.ensures.graph c.node.ensures
    ∙ ap Some c.in-And.is) in let f = few_nodes c.args.circuit.now.built.now.graph c.graph.ensures.within.kept in omega arith

pub count_read-requires-clause-place : goal.count_read-requires-clause-place
count_read-requires-clause-place c =
    let w = and_within c.args.circuit.now.built.now.graph c.args.node.number c.in-And.low c.in-And.high c.graph.ensures.within.kept c.nodes_have_values.ensures.pairs
    (subst (λ (g : PlainGraph). slice_get (nodes_of g) c.args.node.number ≡ Some c.node.result) c.graph.ensures.graph c.node.ensures
    ∙ ap Some c.in-And.is) in let r = rail_low c.args.circuit.now.built.now c.in-And.low.id.number (rail_sign c.in-And.low c.args.sign) w.0 in
    omega (arith, c.literal_rail.ensures, c.requires.size)

pub literal_rail-requires-in-And : goal.literal_rail-requires-in-And
literal_rail-requires-in-And c = let w = and_within c.args.circuit.now.built.now.graph c.args.node.number c.in-And.low c.in-And.high c.graph.ensures.within.kept c.nodes_have_values.ensures.pairs
    (subst (λ (g : PlainGraph). slice_get (nodes_of g) c.args.node.number ≡ Some c.node.result) c.graph.ensures.graph c.node.ensures
    ∙ ap Some c.in-And.is) in let f = few_nodes c.args.circuit.now.built.now.graph c.graph.ensures.within.kept in omega arith

pub count_read-requires-in-And-clause-place : goal.count_read-requires-in-And-clause-place
count_read-requires-in-And-clause-place c =
    let w = and_within c.args.circuit.now.built.now.graph c.args.node.number c.in-And.low c.in-And.high c.graph.ensures.within.kept c.nodes_have_values.ensures.pairs
    (subst (λ (g : PlainGraph). slice_get (nodes_of g) c.args.node.number ≡ Some c.node.result) c.graph.ensures.graph c.node.ensures
    ∙ ap Some c.in-And.is) in let r = rail_low c.args.circuit.now.built.now c.in-And.high.id.number (rail_sign c.in-And.high c.args.sign) w.1 in
    omega (arith, c.literal_rail-in-And.ensures, c.requires.size, reads_size c.args.draft.now c.count_read.new.self (c.literal_rail.result ∷ []) c.count_read.ensures)

pub count_read-requires-in-And-clause-few : goal.count_read-requires-in-And-clause-few
count_read-requires-in-And-clause-few c = let t = reads_total c.args.draft.now c.count_read.new.self (c.literal_rail.result ∷ []) c.count_read.ensures in omega (arith, c.requires.few)
