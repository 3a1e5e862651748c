use Rattle.std.proofs.Common.{◌≡◌, ◌∙◌, ap, refl, inl}
use Rattle.droc_pairs.specs.Pairs.{IsPair}
use Rattle.rail_mapper.specs.Drafts.{PlainDraft}
use Rattle.rail_mapper.proofs.FrontStageLemmas.{front_finishes}
use Rattle.rail_mapper.proofs.Results.{on_ok}
use Rattle.rail_mapper.proofs.drafts.Draft.put_front.Goals as goal

pub finish_pair-requires-clause-next : goal.finish_pair-requires-clause-next
finish_pair-requires-clause-next c =
    let same : c.self.inside.net ≡ c.args.self.now.net = ap (λ (d : PlainDraft). d.net) c.self.view_is ∙ ap (λ (d : PlainDraft). d.net) c.take-next.ensures.taken in
    rw same (c.requires.inside c.args.rail c.take-next.result.number (rw c.take-next.ensures.first (inl refl)))

pub returns : goal.returns
returns c =
    on_ok c.finish_pair.result _ _
    (λ (pair : IsPair c.self.inside.net c.finish_pair.new.net c.take.result.1.back.number c.args.init c.take-next.result.number).
    front_finishes c.args.rail c.args.init c.args.self.now c.take-next.new.self _ c.take-next.result.number c.take.result.1.back.number c.take.result.0 c.take.new.self
    c.self.inside.net c.self.inside.pending
    c.take-next.ensures (ap (λ (d : PlainDraft). d.pending) c.self.view_is) c.take.ensures
    (ap (λ (d : PlainDraft). d.net) c.self.view_is) pair (ap (λ (d : PlainDraft). d.counts) c.self.view_is) (ap (λ (d : PlainDraft). d.stock) c.self.view_is) refl)
    c.finish_pair.ensures.pair
