use Rattle.std.proofs.Common.{inl, inr, refl, sym, subst}
use Rattle.pulse_ids.specs.Lists.{IsIn}
use Rattle.cell_netlist.specs.declared.lines.Cell.{Cell}
use Rattle.cell_netlist.specs.Netlists.{reads}
use Rattle.junction_report.proofs.depths.entry_depth.Goals as goal

pub greater_depth-requires-clause-a : goal.greater_depth-requires-clause-a
greater_depth-requires-clause-a c = c.requires.reads c.in-La.a.number (subst (λ (x : Cell). IsIn c.in-La.a.number (reads x)) (sym c.in-La.is) (inl refl))

pub greater_depth-requires-clause-b : goal.greater_depth-requires-clause-b
greater_depth-requires-clause-b c = c.requires.reads c.in-La.b.number (subst (λ (x : Cell). IsIn c.in-La.b.number (reads x)) (sym c.in-La.is) (inr (inl refl)))

pub greater_depth-requires-in-Fa-clause-a : goal.greater_depth-requires-in-Fa-clause-a
greater_depth-requires-in-Fa-clause-a c = c.requires.reads c.in-Fa.a.number (subst (λ (x : Cell). IsIn c.in-Fa.a.number (reads x)) (sym c.in-Fa.is) (inl refl))

pub greater_depth-requires-in-Fa-clause-b : goal.greater_depth-requires-in-Fa-clause-b
greater_depth-requires-in-Fa-clause-b c = c.requires.reads c.in-Fa.b.number (subst (λ (x : Cell). IsIn c.in-Fa.b.number (reads x)) (sym c.in-Fa.is) (inr (inl refl)))

pub depth_behind-requires-clause-wire : goal.depth_behind-requires-clause-wire
depth_behind-requires-clause-wire c = c.requires.reads c.in-Split.from.number (subst (λ (x : Cell). IsIn c.in-Split.from.number (reads x)) (sym c.in-Split.is) (inl refl))
