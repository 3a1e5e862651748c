use Rattle.std.proofs.Common.{◌≡◌, ◌-◌, ap, arith}
use Rattle.aig_core.proofs.NodeLemmas.{node-input-at, node-latch-at}
use Rattle.aig_core.proofs.graphs.Graph.node.Goals as goal

pub returns-then-number-self : goal.returns-then-number-self
returns-then-number-self c =
    let inputs : c.self.inside.inputs ≡ c.args.self.now.inputs = ap (λ graph. graph.inputs) c.self.view_is in
    node-input-at c.args.self.now c.args.id.number (c.number-number.result - 1) (omega (arith, inputs, c.if-number-self.true, c.if-number-eq0.false))
    (omega (arith, c.number-number.ensures, c.if-number-eq0.false))

pub returns-then-number-self-2 : goal.returns-then-number-self-2
returns-then-number-self-2 c =
    let inputs : c.self.inside.inputs ≡ c.args.self.now.inputs = ap (λ graph. graph.inputs) c.self.view_is in
    let latches : c.self.inside.latches ≡ c.args.self.now.latches = ap (λ graph. graph.latches) c.self.view_is in
    node-latch-at c.args.self.now c.args.id.number (c.number-number.result - 1 - c.self.inside.inputs)
    (omega (arith, inputs, latches, c.if-number-self.false, c.if-number-self-2.true)) (omega (arith, inputs, c.number-number.ensures, c.if-number-self.false))
