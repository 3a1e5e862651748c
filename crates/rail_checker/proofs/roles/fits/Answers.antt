use Rattle.std.proofs.Common.{inl, refl, sym, subst}
use Rattle.pulse_ids.specs.Lists.{IsIn}
use Rattle.pulse_ids.proofs.CallerLemmas.{IsIn-left}
use Rattle.cell_netlist.specs.declared.lines.Cell.{Cell}
use Rattle.cell_netlist.specs.Netlists.{outs, reads, used}
use Rattle.rail_checker.proofs.roles.fits.Goals as goal

pub feeds_back-requires : goal.feeds_back-requires
feeds_back-requires c wire i =
    let w = c.in-Droc-Front-default-default-default-default in
    c.requires.outs wire (subst (λ (x : Cell). IsIn wire (outs x)) (sym w.is) (IsIn-left wire (used w.q) (used w.n) i))

pub has_front-requires : goal.has_front-requires
has_front-requires c =
    let w = c.in-Droc-Back-default-default-default-default in
    c.requires.fronts w.feed.number (subst (λ (x : Cell). IsIn w.feed.number (reads x)) (sym w.is) (inl refl))

pub is_root-requires : goal.is_root-requires
is_root-requires c =
    let w = c.in-Droc-Const-default-default-default-default in
    c.requires.roots w.feed.number (subst (λ (x : Cell). IsIn w.feed.number (reads x)) (sym w.is) (inl refl))
