use Rattle.std.proofs.Common.{◌≡◌, ◌∙◌, ap, sym, inl, refl, ℕ, []}
use Rattle.std.proofs.lemmas.List.{get_or-set_other}
use Rattle.rail_mapper.specs.Drafts.{PlainDraft, leaves_of, Takes, TakesBoth, AreInside, HasRoom}
use Rattle.rail_mapper.proofs.drafts.Draft.take_both.Goals as goal

-- the wires that are taken are inside
both_taken : (before one two : PlainDraft) (low high a b : ℕ) → AreInside before → (low ≡ high → ⊥) → Takes low a before one → Takes high b one two → TakesBoth low high a b before two
both_taken before one two low high a b inside other first second = record {
  one = one;
  low_taken = first;
  high_taken = second;
  low_inside = rw same_net (inside low a (rw first.first (inl refl)));
  high_inside = rw same_net (inside high b (rw (← same) (rw second.first (inl refl))));
}
  where
    same_net : two.net ≡ before.net
    same_net = ap (λ (d : PlainDraft). d.net) second.taken ∙ ap (λ (d : PlainDraft). d.net) first.taken

    same : leaves_of one high ≡ leaves_of before high
    same = ap (λ (d : PlainDraft). leaves_of d high) first.taken ∙ get_or-set_other before.stock low high first.rest [] (λ e. other (sym e))

same_room : (before after : PlainDraft) (more : ℕ) → after.net ≡ before.net → after.counts ≡ before.counts → HasRoom more before → HasRoom more after
same_room before after more net counts room = record { wires = let w = room.wires in rw (net, counts) w; cells = rw net room.cells }

pub returns-clause-taken : goal.returns-clause-taken
returns-clause-taken c =
    both_taken c.args.self.now c.take-a.new.self c.take-b.new.self c.args.low c.args.high c.take-a.result.number c.take-b.result.number
    c.requires.inside c.requires.other c.take-a.ensures c.take-b.ensures

pub returns-clause-room : goal.returns-clause-room
returns-clause-room c =
    λ more room.
    same_room c.args.self.now c.take-b.new.self more
    (ap (λ (d : PlainDraft). d.net) c.take-b.ensures.taken ∙ ap (λ (d : PlainDraft). d.net) c.take-a.ensures.taken)
    (ap (λ (d : PlainDraft). d.counts) c.take-b.ensures.taken ∙ ap (λ (d : PlainDraft). d.counts) c.take-a.ensures.taken) room
