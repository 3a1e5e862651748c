use Rattle.std.proofs.Common.{ℕ, subst, sym, arith}
use Rattle.rail_mapper.specs.FrontStages.{CanFinish, FinishesFirst}
use Rattle.rail_mapper.proofs.CountedReads.{few_nodes}
use Rattle.rail_mapper.proofs.FrontStageLemmas.{waits_low, fronts_ready, fronts_one, one_less}
use Rattle.rail_mapper.proofs.LineSteps.{front_lines}
use Rattle.rail_mapper.proofs.Results.{on_ok}
use Rattle.rail_mapper.proofs.latch_loops.finish_latch.Goals as goal

pub next-requires : goal.next-requires
next-requires c = waits_low c.args.circuit.now.built.now c.args.circuit.now.ask c.args.draft.now c.requires.fronts c.first_waiting-latch.result c.first_waiting-latch.ensures

pub init-init-requires : goal.init-init-requires
init-init-requires c = waits_low c.args.circuit.now.built.now c.args.circuit.now.ask c.args.draft.now c.requires.fronts c.first_waiting-latch.result c.first_waiting-latch.ensures

pub taken_rail-rail-requires : goal.taken_rail-rail-requires
taken_rail-rail-requires c = let f = few_nodes c.args.circuit.now.built.now.graph c.graph.ensures.within.kept in omega (arith, c.next.ensures.within)

pub put_front-requires : goal.put_front-requires
put_front-requires c =
    subst (λ (r : ℕ). CanFinish r c.init-init.result c.args.draft.now) (sym c.taken_rail-rail.ensures)
    (fronts_ready c.args.circuit.now.built.now c.args.circuit.now.ask c.args.draft.now c.requires.fronts c.first_waiting-latch.result c.first_waiting-latch.ensures c.init-init.result
    c.next.result c.next.ensures.literal c.init-init.ensures)

pub returns-clause-fronts : goal.returns-clause-fronts
returns-clause-fronts c =
    on_ok c.put_front.result _ _
    (λ (f : FinishesFirst c.taken_rail-rail.result c.init-init.result c.args.draft.now c.put_front.new.self).
    fronts_one c.args.circuit.now.built.now c.args.circuit.now.ask c.args.draft.now c.put_front.new.self c.first_waiting-latch.result c.init-init.result c.next.result c.graph.ensures.within
    c.requires.fronts c.first_waiting-latch.ensures
    c.next.ensures.literal c.init-init.ensures (subst (λ (r : ℕ). FinishesFirst r c.init-init.result c.args.draft.now c.put_front.new.self) c.taken_rail-rail.ensures f))
    c.put_front.ensures

pub returns-clause-less : goal.returns-clause-less
returns-clause-less c =
    on_ok c.put_front.result _ _
    (λ (f : FinishesFirst c.taken_rail-rail.result c.init-init.result c.args.draft.now c.put_front.new.self).
    one_less c.taken_rail-rail.result c.init-init.result c.args.draft.now c.put_front.new.self f)
    c.put_front.ensures

pub returns-clause-lines : goal.returns-clause-lines
returns-clause-lines c =
    on_ok c.put_front.result _ _
    (λ (f : FinishesFirst c.taken_rail-rail.result c.init-init.result c.args.draft.now c.put_front.new.self).
    front_lines c.taken_rail-rail.result c.init-init.result c.args.draft.now c.put_front.new.self f)
    c.put_front.ensures
