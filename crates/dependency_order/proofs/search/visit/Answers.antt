use Rattle.std.proofs.Common.{◌<◌, ◌^◌, [], length, List, ℕ, sym, subst}
use Rattle.dependency_order.specs.Dependencies.{AreBelow}
use Rattle.dependency_order.specs.Searches.{Advance}
use Rattle.dependency_order.proofs.Ranges.{few_needs_at}
use Rattle.dependency_order.proofs.Steps.{unready, readied}
use Rattle.dependency_order.proofs.search.visit.Goals as goal

pub advance-requires-clause-fit : goal.advance-requires-clause-fit
advance-requires-clause-fit g c =
    subst (λ (n : ℕ). AreBelow n c.needs.result.now) (sym c.requires.search.width) (subst (λ (l : List ℕ). AreBelow c.args.dependencies.now.count l) (sym c.needs.ensures)
    (c.requires.range.needs_fit c.args.item [] c.requires.item))

pub advance-requires-clause-few : goal.advance-requires-clause-few
advance-requires-clause-few g c =
    subst (λ (l : List ℕ). length l < 2 ^ 32) (sym c.needs.ensures) (few_needs_at c.args.dependencies.now c.args.item c.requires.range c.requires.item)

pub returns-then-advance-clause-steps : goal.returns-then-advance-clause-steps
returns-then-advance-clause-steps g c =
    (readied c.args.dependencies.now _ c.args.progress.now
    (g.A.Agenda.waiting c.args.agenda.now) c.requires.search c.args.item c.requires.item c.advance.new.self c.advance.result
    (g.A.Agenda.waiting c.insert.new.self) c.if-advance.true
    (subst (λ (l : List ℕ). Advance l c.args.item c.args.progress.now c.advance.new.self c.advance.result) c.needs.ensures c.advance.ensures) c.in_ok-insert.ensures.more).0

pub returns-then-advance-clause-settled : goal.returns-then-advance-clause-settled
returns-then-advance-clause-settled g c =
    (readied c.args.dependencies.now _ c.args.progress.now
    (g.A.Agenda.waiting c.args.agenda.now) c.requires.search c.args.item c.requires.item c.advance.new.self c.advance.result
    (g.A.Agenda.waiting c.insert.new.self) c.if-advance.true
    (subst (λ (l : List ℕ). Advance l c.args.item c.args.progress.now c.advance.new.self c.advance.result) c.needs.ensures c.advance.ensures) c.in_ok-insert.ensures.more).1

pub returns-clause-steps : goal.returns-clause-steps
returns-clause-steps g c =
    (unready c.args.dependencies.now _ c.args.progress.now
    (g.A.Agenda.waiting c.args.agenda.now) c.requires.search c.args.item c.requires.item c.advance.new.self c.advance.result c.if-advance.false
    (subst (λ (l : List ℕ). Advance l c.args.item c.args.progress.now c.advance.new.self c.advance.result) c.needs.ensures c.advance.ensures)).0

pub returns-clause-settled : goal.returns-clause-settled
returns-clause-settled g c =
    (unready c.args.dependencies.now _ c.args.progress.now
    (g.A.Agenda.waiting c.args.agenda.now) c.requires.search c.args.item c.requires.item c.advance.new.self c.advance.result c.if-advance.false
    (subst (λ (l : List ℕ). Advance l c.args.item c.args.progress.now c.advance.new.self c.advance.result) c.needs.ensures c.advance.ensures)).1
