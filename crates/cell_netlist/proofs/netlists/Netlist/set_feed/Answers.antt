use Rattle.std.proofs.Common.{◌≡◌, ◌+◌, ◌∙◌, max, sym, subst, ap, slice_get, slice_set}
use Rattle.cell_netlist.specs.Netlists.{PlainNetlist, number_of_wires, cells_with_feed, IsDrocUpTo}
use Rattle.cell_netlist.proofs.NetlistLemmas.{IsKept-fed, fed-is-set}
use Rattle.cell_netlist.proofs.WireBounds.{number_of_wires-fed}
use Rattle.cell_netlist.proofs.netlists.Netlist.set_feed.Goals as goal

pub invariant_of-self : goal.invariant_of-self
invariant_of-self c =
    let droc : IsDrocUpTo (slice_get c.self.inside.cells c.args.cell.number) c.args.feed.number =
    subst (λ (net : PlainNetlist). IsDrocUpTo (slice_get net.cells c.args.cell.number) c.args.feed.number) (sym c.self.view_is) c.requires.droc in
    let cells : c.set.new.self ≡ cells_with_feed c.args.cell.number c.args.feed c.self.inside.cells =
    c.set.ensures ∙ (ap (slice_set c.self.inside.cells c.args.cell.number) c.fed_by-fed.ensures ∙ fed-is-set _ _ _ _ c.get.ensures) in
    rw (c.max-self-inside.ensures, c.number.ensures, cells)
    (IsKept-fed _ _ c.args.cell.number c.args.feed c.self.invariant droc c.requires.wire)

pub returns-clause-fed : goal.returns-clause-fed
returns-clause-fed c =
    let cells : c.set.new.self ≡ cells_with_feed c.args.cell.number c.args.feed c.self.inside.cells =
    c.set.ensures ∙ (ap (slice_set c.self.inside.cells c.args.cell.number) c.fed_by-fed.ensures ∙ fed-is-set _ _ _ _ c.get.ensures) in
    rw cells (ap (λ (net : PlainNetlist). record net { cells = cells_with_feed c.args.cell.number c.args.feed net.cells }) c.self.view_is)

pub returns-clause-wires : goal.returns-clause-wires
returns-clause-wires c =
    let cells : c.set.new.self ≡ cells_with_feed c.args.cell.number c.args.feed c.self.inside.cells =
    c.set.ensures ∙ (ap (slice_set c.self.inside.cells c.args.cell.number) c.fed_by-fed.ensures ∙ fed-is-set _ _ _ _ c.get.ensures) in
    rw cells (
    subst (λ (net : PlainNetlist). number_of_wires (record net { cells = cells_with_feed c.args.cell.number c.args.feed net.cells })
    ≡ max (number_of_wires c.args.self.now) (c.args.feed.number + 1))
    (sym c.self.view_is) (number_of_wires-fed c.args.self.now c.args.cell.number c.args.feed c.requires.droc)
    )
