use Rattle.std.proofs.Common.{inl, inr, refl, sym, subst}
use Rattle.pulse_ids.specs.Lists.{IsIn}
use Rattle.cell_netlist.specs.declared.lines.Cell.{Cell}
use Rattle.cell_netlist.specs.Netlists.{reads}
use Rattle.junction_report.proofs.paths.cell_before.Goals as goal

pub deeper_port-requires-clause-a : goal.deeper_port-requires-clause-a
deeper_port-requires-clause-a c = c.requires.reads c.in-La.a.number (subst (λ (x : Cell). IsIn c.in-La.a.number (reads x)) (sym c.in-La.is) (inl refl))

pub deeper_port-requires-clause-b : goal.deeper_port-requires-clause-b
deeper_port-requires-clause-b c = c.requires.reads c.in-La.b.number (subst (λ (x : Cell). IsIn c.in-La.b.number (reads x)) (sym c.in-La.is) (inr (inl refl)))

pub deeper_port-requires-in-Fa-clause-a : goal.deeper_port-requires-in-Fa-clause-a
deeper_port-requires-in-Fa-clause-a c = c.requires.reads c.in-Fa.a.number (subst (λ (x : Cell). IsIn c.in-Fa.a.number (reads x)) (sym c.in-Fa.is) (inl refl))

pub deeper_port-requires-in-Fa-clause-b : goal.deeper_port-requires-in-Fa-clause-b
deeper_port-requires-in-Fa-clause-b c = c.requires.reads c.in-Fa.b.number (subst (λ (x : Cell). IsIn c.in-Fa.b.number (reads x)) (sym c.in-Fa.is) (inr (inl refl)))

pub driving_cell-requires-in-Split : goal.driving_cell-requires-in-Split
driving_cell-requires-in-Split c = c.requires.reads c.in-Split.from.number (subst (λ (x : Cell). IsIn c.in-Split.from.number (reads x)) (sym c.in-Split.is) (inl refl))

pub driving_cell-requires : goal.driving_cell-requires
driving_cell-requires c = c.deeper_port.ensures.below

pub driving_cell-requires-in-Fa : goal.driving_cell-requires-in-Fa
driving_cell-requires-in-Fa c = c.deeper_port-in-Fa.ensures.below
