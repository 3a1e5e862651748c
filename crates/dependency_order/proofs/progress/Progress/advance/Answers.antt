use Rattle.std.proofs.Common.{◌≡◌, set, true, false, refl, sym, subst, ◌∙◌, arith}
use Rattle.dependency_order.specs.Searches.{Stage, skipped, lacks, readies, IsReached}
use Rattle.dependency_order.proofs.progress.Progress.advance.Goals as goal

pub returns-then-has_been_ready : goal.returns-then-has_been_ready
returns-then-has_been_ready c = skipped false refl (sym c.has_been_ready.ensures ∙ c.if-has_been_ready.true) refl

pub returns-then-place-needs : goal.returns-then-place-needs
returns-then-place-needs c =
    lacks false refl c.reach-place.result (sym c.has_been_ready.ensures ∙ c.if-has_been_ready.false)
    (subst (λ n. IsReached c.args.needs.now c.args.self.now.known n c.reach-place.result) c.place.ensures c.reach-place.ensures)
    c.if-place-needs.true c.set_place.ensures

pub returns : goal.returns
returns c =
    let marked : Stage = record {
      known = c.args.self.now.known;
      places = set c.args.self.now.places c.args.item c.reach-place.result;
      queued = set c.args.self.now.queued c.args.item true;
      order = c.args.self.now.order;
    } in
    let after : c.mark_ready.new.self ≡ marked = subst
    (λ (s : Stage). c.mark_ready.new.self ≡ record { known = s.known; places = s.places; queued = set s.queued c.args.item true; order = s.order }) c.set_place.ensures c.mark_ready.ensures in
    readies true refl c.reach-place.result (sym c.has_been_ready.ensures ∙ c.if-has_been_ready.false)
    (subst (λ n. IsReached c.args.needs.now c.args.self.now.known n c.reach-place.result) c.place.ensures c.reach-place.ensures)
    (omega (arith, c.reach-place.ensures.high, c.if-place-needs.false)) after
