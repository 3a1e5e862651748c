use Rattle.std.proofs.Common.{◌≡◌, ◌≤◌, ◌+◌, ◌^◌, ◌∙◌, [], ℕ, ap, subst, nat_lt}
use Rattle.droc_pairs.specs.Pairs.{wires_for}
use Rattle.rail_mapper.specs.Drafts.{readers_of, HasRoom}
use Rattle.rail_mapper.specs.Stages.{GrowsIf}
use Rattle.rail_mapper.proofs.LineSteps.{lines_on, grow_if_lines}
use Rattle.rail_mapper.proofs.Results.{on_ok}
use Rattle.rail_mapper.proofs.Turns.{if_three, first_tree, second_tree, first_root, second_root, first_tree_bare, second_tree_bare}
use Rattle.rail_mapper.proofs.input_loops.grow_port.Goals as goal

pub grow_input-requires-clause-root : goal.grow_input-requires-clause-root
grow_input-requires-clause-root c = λ some.
    first_root c.args.circuit.now.built.now c.args.circuit.now.demand.now c.args.circuit.now.ask c.args.port c.nodes_have_places.ensures.inputs c.graph.ensures.within c.requires.port c.args.wire
    c.args.draft.now c.requires.trees
    (subst (λ (r : ℕ). 1 ≤ readers_of c.args.draft.now r) c.rail_of.ensures some)

pub grow_input-requires-2-clause-root : goal.grow_input-requires-2-clause-root
grow_input-requires-2-clause-root c = λ some.
    second_root c.args.circuit.now.built.now c.args.circuit.now.demand.now c.args.circuit.now.ask c.args.port c.nodes_have_places.ensures.inputs c.graph.ensures.within c.requires.port
    c.in_ok-next.next c.grow_input.new.self
    (first_tree c.args.circuit.now.built.now c.args.circuit.now.demand.now c.args.circuit.now.ask c.args.port c.nodes_have_places.ensures.inputs c.graph.ensures.within c.requires.port c.args.wire
    c.in_ok-next.next c.args.draft.now c.grow_input.new.self
    (c.in_ok-next.ensures.next ∙ ap (λ (r : ℕ). c.args.wire + wires_for (nat_lt 0 (readers_of c.args.draft.now r))) c.rail_of.ensures) c.requires.trees
    (subst (λ (r : ℕ). GrowsIf r c.args.wire c.args.draft.now c.grow_input.new.self) c.rail_of.ensures c.in_ok-next.ensures.grows) c.in_ok-next.ensures.room)
    (subst (λ (r : ℕ). 1 ≤ readers_of c.grow_input.new.self r) c.rail_of-2.ensures some)

pub returns-clause-trees : goal.returns-clause-trees
returns-clause-trees c =
    let built = c.args.circuit.now.built.now in
    let first = first_tree built c.args.circuit.now.demand.now c.args.circuit.now.ask c.args.port c.nodes_have_places.ensures.inputs c.graph.ensures.within c.requires.port c.args.wire
    c.in_ok-next.next c.args.draft.now c.grow_input.new.self
    (c.in_ok-next.ensures.next ∙ ap (λ (r : ℕ). c.args.wire + wires_for (nat_lt 0 (readers_of c.args.draft.now r))) c.rail_of.ensures) c.requires.trees
    (subst (λ (r : ℕ). GrowsIf r c.args.wire c.args.draft.now c.grow_input.new.self) c.rail_of.ensures c.in_ok-next.ensures.grows) c.in_ok-next.ensures.room in
    if_three c.grow_input-2.result _ _ _ _
    (λ (next : ℕ) (grows : GrowsIf c.rail_of-2.result c.in_ok-next.next c.grow_input.new.self c.grow_input-2.new.self) (room : HasRoom (2 ^ 16) c.grow_input-2.new.self)
    (is : next ≡ c.in_ok-next.next + wires_for (nat_lt 0 (readers_of c.grow_input.new.self c.rail_of-2.result))).
    second_tree built c.args.circuit.now.demand.now c.args.circuit.now.ask c.args.port c.nodes_have_places.ensures.inputs c.graph.ensures.within c.requires.port c.in_ok-next.next next
    c.grow_input.new.self c.grow_input-2.new.self
    (is ∙ ap (λ (r : ℕ). c.in_ok-next.next + wires_for (nat_lt 0 (readers_of c.grow_input.new.self r))) c.rail_of-2.ensures) first
    (subst (λ (r : ℕ). GrowsIf r c.in_ok-next.next c.grow_input.new.self c.grow_input-2.new.self) c.rail_of-2.ensures grows) room)
    c.grow_input-2.ensures.grows c.grow_input-2.ensures.room c.grow_input-2.ensures.next

pub returns-clause-lines : goal.returns-clause-lines
returns-clause-lines c =
    let built = c.args.circuit.now.built.now in
    let demand = c.args.circuit.now.demand.now in
    let first = first_tree built demand c.args.circuit.now.ask c.args.port c.nodes_have_places.ensures.inputs c.graph.ensures.within c.requires.port c.args.wire c.in_ok-next.next c.args.draft.now
    c.grow_input.new.self (c.in_ok-next.ensures.next ∙ ap (λ (r : ℕ). c.args.wire + wires_for (nat_lt 0 (readers_of c.args.draft.now r))) c.rail_of.ensures) c.requires.trees
    (subst (λ (r : ℕ). GrowsIf r c.args.wire c.args.draft.now c.grow_input.new.self) c.rail_of.ensures c.in_ok-next.ensures.grows) c.in_ok-next.ensures.room in
    on_ok c.grow_input-2.result _ _
    (λ (grows : GrowsIf c.rail_of-2.result c.in_ok-next.next c.grow_input.new.self c.grow_input-2.new.self).
    lines_on [] [] [] [] c.args.draft.now c.grow_input.new.self c.grow_input-2.new.self
    (grow_if_lines c.rail_of.result c.args.wire c.args.draft.now c.grow_input.new.self c.in_ok-next.ensures.grows (λ some.
    first_tree_bare built demand c.args.circuit.now.ask c.args.port c.nodes_have_places.ensures.inputs c.graph.ensures.within c.requires.port c.args.wire c.args.draft.now c.requires.trees
    (subst (λ (r : ℕ). 1 ≤ readers_of c.args.draft.now r) c.rail_of.ensures some)))
    (grow_if_lines c.rail_of-2.result c.in_ok-next.next c.grow_input.new.self c.grow_input-2.new.self grows (λ some.
    second_tree_bare built demand c.args.circuit.now.ask c.args.port c.nodes_have_places.ensures.inputs c.graph.ensures.within c.requires.port c.in_ok-next.next c.grow_input.new.self first
    (subst (λ (r : ℕ). 1 ≤ readers_of c.grow_input.new.self r) c.rail_of-2.ensures some))))
    c.grow_input-2.ensures.grows
