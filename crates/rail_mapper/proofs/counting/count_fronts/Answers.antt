use Rattle.std.proofs.Common.{◌∙◌, ap, sym, arith}
use Rattle.rail_mapper.specs.Counts.{with_reads}
use Rattle.rail_mapper.specs.Plans.{latch_uses}
use Rattle.rail_mapper.specs.Drafts.{PlainDraft}
use Rattle.rail_mapper.proofs.CountedReads.{reads_size, reads_total, reads-append, fronts_few, fronts_next, fronts_below}
use Rattle.rail_mapper.proofs.counting.count_fronts.Goals as goal

pub count_front-requires-clause-size : goal.count_front-requires-clause-size
count_front-requires-clause-size c =
    reads_size c.args.draft.now c.loop-latch.draft (fronts_below c.args.circuit.now.built.now c.args.circuit.now.demand.now c.loop-latch.latch) c.loop-latch.invariant ∙ c.requires.size

pub count_front-requires-clause-few : goal.count_front-requires-clause-few
count_front-requires-clause-few c =
    let t = reads_total c.args.draft.now c.loop-latch.draft (fronts_below c.args.circuit.now.built.now c.args.circuit.now.demand.now c.loop-latch.latch) c.loop-latch.invariant in
    let f = fronts_few c.args.circuit.now.built.now c.args.circuit.now.demand.now c.loop-latch.latch in
    omega (arith, c.requires.few, c.loop-latch-test.true, c.latches-latch-end.ensures.count, c.latches-latch-end.ensures.within.one_next_each, c.latches-latch-end.ensures.within.kept.latches_fit)

pub loop-latch-preserved : goal.loop-latch-preserved
loop-latch-preserved c =
    c.count_front.ensures ∙ ap (λ (d : PlainDraft). with_reads d (latch_uses c.args.circuit.now.built.now c.args.circuit.now.demand.now c.loop-latch.latch)) c.loop-latch.invariant
    ∙ sym (reads-append c.args.draft.now (fronts_below c.args.circuit.now.built.now c.args.circuit.now.demand.now c.loop-latch.latch)
    (latch_uses c.args.circuit.now.built.now c.args.circuit.now.demand.now c.loop-latch.latch))
    ∙ ap (with_reads c.args.draft.now) (sym (fronts_next c.args.circuit.now.built.now c.args.circuit.now.demand.now c.loop-latch.latch))

pub returns-clause-few : goal.returns-clause-few
returns-clause-few c =
    let t = reads_total c.args.draft.now c.loop-latch.draft (fronts_below c.args.circuit.now.built.now c.args.circuit.now.demand.now c.loop-latch.latch) c.loop-latch.invariant in
    let f = fronts_few c.args.circuit.now.built.now c.args.circuit.now.demand.now c.loop-latch.latch in
    omega (
      arith,
      c.loop-latch-test,
      c.loop-latch.auto.latch-end,
      c.latches-latch-end.ensures.count,
      c.latches-latch-end.ensures.within.one_next_each,
      c.latches-latch-end.ensures.within.kept.latches_fit,
    )
