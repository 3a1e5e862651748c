use Rattle.std.proofs.Common.{◌≡◌, ◌+◌, ◌∙◌, ap}
use Rattle.aig_core.specs.Values.{value_of}
use Rattle.aig_core.proofs.NodeLemmas.{node-latch-at, positive_is}
use Rattle.aig_core.proofs.ValueLemmas.{value-latch}
use Rattle.aig_core.proofs.graphs.Graph.latch.Goals as goal

number_is : (c : goal.After-new-2) → c.new-2.result.id.number ≡ 1 + c.args.self.now.inputs + c.args.k
number_is c =
    ap (λ id. id.number) c.new-2.ensures.id ∙ c.new.ensures ∙ ap (λ graph. 1 + graph.inputs + c.args.k) c.self.view_is

pub returns-clause-node : goal.returns-clause-node
returns-clause-node c = node-latch-at c.args.self.now c.new-2.result.id.number c.args.k c.requires (number_is c)

pub returns-clause-value : goal.returns-clause-value
returns-clause-value c = λ state vector. ap (value_of c.args.self.now state vector)
    (positive_is c.new-2.result (1 + c.args.self.now.inputs + c.args.k) (number_is c) c.new-2.ensures.negated) ∙ value-latch state vector c.args.self.now c.args.k c.requires
