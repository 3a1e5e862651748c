use Rattle.std.proofs.Common.{◌≡◌, ◌*◌, ◌∙◌, [], ℕ, length, replicate, ap, sym, subst}
use Rattle.cell_netlist.specs.declared.kinds.Role.TheVariants.{Front}
use Rattle.rail_mapper.specs.LatchStages.{FrontsAt, AreApart, latches_of}
use Rattle.rail_mapper.specs.Lines.{AddsLines}
use Rattle.rail_mapper.specs.Stages.{IsStage}
use Rattle.rail_mapper.proofs.FrontStageLemmas.{fronts_begin}
use Rattle.rail_mapper.proofs.StageTurns.{backs_begin, cells_stand}
use Rattle.rail_mapper.proofs.Turns.{on_three}
use Rattle.rail_mapper.proofs.mapping.add_cells.Goals as goal

pub begin_latches-requires-clause-backs : goal.begin_latches-requires-clause-backs
begin_latches-requires-clause-backs c = backs_begin c.args.circuit.now.built.now c.args.circuit.now.demand.now c.args.circuit.now.ask c.args.draft.now c.requires.inputs

pub map_gates-requires-clause-stage : goal.map_gates-requires-clause-stage
map_gates-requires-clause-stage c =
    subst (λ (k : ℕ). IsStage c.args.circuit.now.built.now c.args.circuit.now.demand.now c.args.circuit.now.ask (2 * k) c.begin_latches.new.draft)
    (sym c.requires.first) c.in_ok-begin_latches.ensures.backs.stage

pub finish_latches-requires : goal.finish_latches-requires
finish_latches-requires c =
    fronts_begin c.args.circuit.now.built.now c.args.circuit.now.demand.now c.args.circuit.now.ask c.map_gates.new.draft c.outputs.ensures.within c.in_ok-map_gates.ensures.stage
    (ap latches_of c.in_ok-map_gates.ensures.pending ∙ c.in_ok-begin_latches.ensures.backs.waiting)
    (subst AreApart (sym c.in_ok-map_gates.ensures.pending) c.in_ok-begin_latches.ensures.backs.apart)

pub returns : goal.returns
returns c =
    on_three c.finish_latches.result _ _ _ _
    (λ (fronts : FrontsAt c.args.circuit.now.built.now c.args.circuit.now.ask c.finish_latches.new.draft) (none : c.finish_latches.new.draft.pending ≡ [])
    (lines : AddsLines [] (replicate (length c.map_gates.new.draft.pending) Front) c.map_gates.new.draft c.finish_latches.new.draft).
    cells_stand c.args.circuit.now.built.now c.args.circuit.now.demand.now c.args.circuit.now.ask c.args.draft.now c.begin_latches.new.draft c.map_gates.new.draft c.finish_latches.new.draft
    c.requires.inputs
    c.in_ok-begin_latches.ensures.backs c.in_ok-begin_latches.ensures.lines c.in_ok-map_gates.ensures.lines c.in_ok-map_gates.ensures.pending fronts none lines)
    c.finish_latches.ensures.fronts c.finish_latches.ensures.none c.finish_latches.ensures.lines
