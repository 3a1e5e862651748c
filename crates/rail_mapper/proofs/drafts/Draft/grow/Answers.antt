use Rattle.std.proofs.Common.{◌≡◌, ◌∙◌, sym, subst, ap, arith}
use Rattle.cell_netlist.specs.Netlists.{PlainNetlist}
use Rattle.splitter_trees.specs.Spreading.{IsSpread}
use Rattle.rail_mapper.specs.Drafts.{PlainDraft}
use Rattle.rail_mapper.proofs.Rooms.{room_to_spread, room_grown}
use Rattle.rail_mapper.proofs.Results.{on_ok}
use Rattle.rail_mapper.proofs.drafts.Draft.grow.Goals as goal

pub spread-requires-clause-wires : goal.spread-requires-clause-wires
spread-requires-clause-wires c =
    let same : c.self.inside.net ≡ c.args.self.now.net = ap (λ (d : PlainDraft). d.net) c.self.view_is ∙ ap (λ (d : PlainDraft). d.net) c.take_readers-readers.ensures.taken in
    rw (same, c.take_readers-readers.ensures.readers) (room_to_spread c.args.self.now c.args.rail c.requires.room)

pub spread-requires-clause-cells : goal.spread-requires-clause-cells
spread-requires-clause-cells c =
    let same : c.self.inside.net ≡ c.args.self.now.net = ap (λ (d : PlainDraft). d.net) c.self.view_is ∙ ap (λ (d : PlainDraft). d.net) c.take_readers-readers.ensures.taken in
    let room = room_to_spread c.args.self.now c.args.rail c.requires.room in
    let few = c.requires.room.cells in
    rw (same, c.take_readers-readers.ensures.readers) (omega arith)

pub returns-clause-room : goal.returns-clause-room
returns-clause-room c =
    on_ok c.put.result _ _
    (λ put more room.
    let same : c.self.inside.net ≡ c.args.self.now.net = ap (λ (d : PlainDraft). d.net) c.self.view_is ∙ ap (λ (d : PlainDraft). d.net) c.take_readers-readers.ensures.taken in
    let spread : IsSpread c.args.self.now.net c.spread.new.net c.args.root.number c.take_readers-readers.result c.in_ok-leaves.leaves =
    subst (λ (net : PlainNetlist). IsSpread net c.spread.new.net c.args.root.number c.take_readers-readers.result c.in_ok-leaves.leaves) same c.in_ok-leaves.ensures.spread in
    let after : IsSpread c.args.self.now.net c.put.new.self.net c.args.root.number c.take_readers-readers.result c.in_ok-leaves.leaves =
    subst (λ (net : PlainNetlist). IsSpread c.args.self.now.net net c.args.root.number c.take_readers-readers.result c.in_ok-leaves.leaves)
    (sym (ap (λ (d : PlainDraft). d.net) put)) spread in
    room_grown c.args.self.now c.put.new.self c.args.root.number c.args.rail c.take_readers-readers.result c.in_ok-leaves.leaves more room after
    c.take_readers-readers.ensures.readers (rw c.take_readers-readers.ensures.readers c.requires.readers)
    (ap (λ (d : PlainDraft). d.counts) put ∙ ap (λ (d : PlainDraft). d.counts) c.self.view_is ∙ ap (λ (d : PlainDraft). d.counts) c.take_readers-readers.ensures.taken))
    c.put.ensures
