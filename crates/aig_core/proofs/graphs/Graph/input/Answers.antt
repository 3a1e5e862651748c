use Rattle.std.proofs.Common.{◌+◌, ◌∙◌, ap}
use Rattle.aig_core.specs.Values.{value_of}
use Rattle.aig_core.proofs.NodeLemmas.{node-input-at, positive_is}
use Rattle.aig_core.proofs.ValueLemmas.{value-input}
use Rattle.aig_core.proofs.graphs.Graph.input.Goals as goal

pub returns-clause-node : goal.returns-clause-node
returns-clause-node c = node-input-at c.args.self.now c.new-2.result.id.number c.args.k c.requires (ap (λ id. id.number) c.new-2.ensures.id ∙ c.new.ensures)

pub returns-clause-value : goal.returns-clause-value
returns-clause-value c = λ state vector. ap (value_of c.args.self.now state vector)
    (positive_is c.new-2.result (1 + c.args.k) (ap (λ id. id.number) c.new-2.ensures.id ∙ c.new.ensures) c.new-2.ensures.negated)
    ∙ value-input state vector c.args.self.now c.args.k c.requires
