use Rattle.std.proofs.Common.{◌∙◌, ap, sym, ◌++◌}
use Rattle.rail_mapper.specs.Counts.{with_reads}
use Rattle.rail_mapper.specs.Drafts.{PlainDraft}
use Rattle.rail_mapper.specs.Plans.{gate_uses, front_uses, output_uses}
use Rattle.rail_mapper.proofs.CountedReads.{reads_size, reads-append}
use Rattle.rail_mapper.proofs.counting.count_uses.Goals as goal

pub count_fronts-requires-clause-size : goal.count_fronts-requires-clause-size
count_fronts-requires-clause-size c = reads_size c.args.draft.now c.count_gates.new.draft (gate_uses c.args.circuit.now.built.now c.args.circuit.now.demand.now 0) c.count_gates.ensures.counted
    ∙ c.requires.size

pub count_outputs-requires-clause-size : goal.count_outputs-requires-clause-size
count_outputs-requires-clause-size c =
    reads_size c.count_gates.new.draft c.count_fronts.new.draft (front_uses c.args.circuit.now.built.now c.args.circuit.now.demand.now) c.count_fronts.ensures.counted
    ∙ reads_size c.args.draft.now c.count_gates.new.draft (gate_uses c.args.circuit.now.built.now c.args.circuit.now.demand.now 0) c.count_gates.ensures.counted ∙ c.requires.size

pub returns : goal.returns
returns c =
    c.count_outputs.ensures.counted ∙ ap (λ (d : PlainDraft). with_reads d (output_uses c.args.circuit.now.built.now c.args.circuit.now.ask)) (c.count_fronts.ensures.counted
    ∙ ap (λ (d : PlainDraft). with_reads d (front_uses c.args.circuit.now.built.now c.args.circuit.now.demand.now)) c.count_gates.ensures.counted)
    ∙ sym (reads-append (with_reads c.args.draft.now (gate_uses c.args.circuit.now.built.now c.args.circuit.now.demand.now 0))
    (front_uses c.args.circuit.now.built.now c.args.circuit.now.demand.now) (output_uses c.args.circuit.now.built.now c.args.circuit.now.ask))
    ∙ sym (reads-append c.args.draft.now (gate_uses c.args.circuit.now.built.now c.args.circuit.now.demand.now 0)
    (front_uses c.args.circuit.now.built.now c.args.circuit.now.demand.now ++ output_uses c.args.circuit.now.built.now c.args.circuit.now.ask))
