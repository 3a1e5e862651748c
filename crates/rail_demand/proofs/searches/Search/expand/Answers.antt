use Rattle.std.proofs.Common.{◌≡◌, slice_get, Some, refl, ap, subst, ◌∙◌, arith}
use Rattle.pulse_ids.specs.declared.literals.Sign.TheVariants.{Pos}
use Rattle.aig_core.specs.declared.nodes.Node.TheVariants.{Latch, And}
use Rattle.aig_core.specs.Graphs.{PlainGraph, nodes_of}
use Rattle.rail_demand.specs.declared.rails.NodeRail.{NodeRail}
use Rattle.rail_demand.specs.Rails.{literal_rail}
use Rattle.rail_demand.specs.Searching.{Finds}
use Rattle.rail_demand.proofs.ExpandedRails.{literals_inside, conjunction_expands, latch_expands}
use Rattle.rail_demand.proofs.searches.Search.expand.Goals as goal

pub find_both-requires-clause-low : goal.find_both-requires-clause-low
find_both-requires-clause-low c =
    let node : slice_get (nodes_of c.args.built.now.graph) c.args.rail.node.number ≡ Some (And c.in-And.low c.in-And.high) =
    subst (λ (g : PlainGraph). slice_get (nodes_of g) c.args.rail.node.number ≡ Some c.node.result) c.graph.ensures.graph c.node.ensures ∙ ap Some c.in-And.is in
    omega (arith, c.requires.stage.nodes, (literals_inside c.nodes_have_values.ensures.pairs c.args.built.now c.graph.ensures.within c.args.rail.node.number c.in-And.low c.in-And.high node).0)

pub find_both-requires-clause-high : goal.find_both-requires-clause-high
find_both-requires-clause-high c =
    let node : slice_get (nodes_of c.args.built.now.graph) c.args.rail.node.number ≡ Some (And c.in-And.low c.in-And.high) =
    subst (λ (g : PlainGraph). slice_get (nodes_of g) c.args.rail.node.number ≡ Some c.node.result) c.graph.ensures.graph c.node.ensures ∙ ap Some c.in-And.is in
    omega (arith, c.requires.stage.nodes, (literals_inside c.nodes_have_values.ensures.pairs c.args.built.now c.graph.ensures.within c.args.rail.node.number c.in-And.low c.in-And.high node).1)

pub next-requires : goal.next-requires
next-requires c =
    let node : slice_get (nodes_of c.args.built.now.graph) c.args.rail.node.number ≡ Some (Latch c.in-Latch.latch) =
    subst (λ (g : PlainGraph). slice_get (nodes_of g) c.args.rail.node.number ≡ Some c.node.result) c.graph.ensures.graph c.node.ensures ∙ ap Some c.in-Latch.is in
    omega (arith, c.graph.ensures.within.one_next_each, ((c.nodes_have_places.ensures.latches c.args.built.now.graph c.args.rail.node.number c.in-Latch.latch).0 node).0)

pub returns-in-And : goal.returns-in-And
returns-in-And c =
    let node : slice_get (nodes_of c.args.built.now.graph) c.args.rail.node.number ≡ Some (And c.in-And.low c.in-And.high) =
    subst (λ (g : PlainGraph). slice_get (nodes_of g) c.args.rail.node.number ≡ Some c.node.result) c.graph.ensures.graph c.node.ensures ∙ ap Some c.in-And.is in
    let inside = literals_inside c.nodes_have_values.ensures.pairs c.args.built.now c.graph.ensures.within c.args.rail.node.number c.in-And.low c.in-And.high node in
    let all = conjunction_expands c.args.built.now c.args.rail c.args.self.now c.find_both.new.self c.requires.stage c.in-And.low c.in-And.high node inside.0 inside.1 c.find_both.ensures in
    record { steps = all.steps; closed = all.closed; needed = all.needed }

pub returns-in-Latch : goal.returns-in-Latch
returns-in-Latch c =
    let node : slice_get (nodes_of c.args.built.now.graph) c.args.rail.node.number ≡ Some (Latch c.in-Latch.latch) =
    subst (λ (g : PlainGraph). slice_get (nodes_of g) c.args.rail.node.number ≡ Some c.node.result) c.graph.ensures.graph c.node.ensures ∙ ap Some c.in-Latch.is in
    let finds : Finds (literal_rail c.next.result Pos) c.args.self.now c.find.new.self =
    subst (λ (r : NodeRail). Finds r c.args.self.now c.find.new.self) c.next_rail.ensures c.find.ensures.finds in
    let all = latch_expands c.args.built.now c.args.rail c.args.self.now c.find.new.self c.requires.stage c.in-Latch.latch c.next.result node c.next.ensures.literal
    c.next.ensures.within (c.find.new.self, finds, refl) in
    record { steps = all.steps; closed = all.closed; needed = all.needed }
