use Rattle.std.proofs.Common.{inl, inr, refl, sym, subst}
use Rattle.pulse_ids.specs.Lists.{IsIn}
use Rattle.cell_netlist.specs.declared.lines.Cell.{Cell}
use Rattle.cell_netlist.specs.Netlists.{reads}
use Rattle.cell_orders.proofs.order.push_needs.Goals as goal

pub push_drivers-requires-clause-a : goal.push_drivers-requires-clause-a
push_drivers-requires-clause-a c = c.requires c.in-La.a.number (subst (λ (x : Cell). IsIn c.in-La.a.number (reads x)) (sym c.in-La.is) (inl refl))

pub push_drivers-requires-clause-b : goal.push_drivers-requires-clause-b
push_drivers-requires-clause-b c = c.requires c.in-La.b.number (subst (λ (x : Cell). IsIn c.in-La.b.number (reads x)) (sym c.in-La.is) (inr (inl refl)))

pub push_drivers-requires-in-Fa-clause-a : goal.push_drivers-requires-in-Fa-clause-a
push_drivers-requires-in-Fa-clause-a c = c.requires c.in-Fa.a.number (subst (λ (x : Cell). IsIn c.in-Fa.a.number (reads x)) (sym c.in-Fa.is) (inl refl))

pub push_drivers-requires-in-Fa-clause-b : goal.push_drivers-requires-in-Fa-clause-b
push_drivers-requires-in-Fa-clause-b c = c.requires c.in-Fa.b.number (subst (λ (x : Cell). IsIn c.in-Fa.b.number (reads x)) (sym c.in-Fa.is) (inr (inl refl)))

pub push_driver-requires : goal.push_driver-requires
push_driver-requires c = c.requires c.in-Split.from.number (subst (λ (x : Cell). IsIn c.in-Split.from.number (reads x)) (sym c.in-Split.is) (inl refl))
