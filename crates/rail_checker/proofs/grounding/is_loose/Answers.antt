use Rattle.std.proofs.Common.{inl, inr, refl, sym, subst, arith}
use Rattle.pulse_ids.specs.Lists.{IsIn}
use Rattle.cell_netlist.specs.Netlists.{outs}
use Rattle.cell_netlist.specs.declared.lines.Cell.{Cell}
use Rattle.rail_checker.proofs.grounding.is_loose.Goals as goal

pub knows-requires : goal.knows-requires
knows-requires c =
    omega (arith, c.number.ensures, c.requires c.in-La.out.number (subst (λ (x : Cell). IsIn c.in-La.out.number (outs x)) (sym c.in-La.is) (inl refl)))

pub knows-requires-in-Fa : goal.knows-requires-in-Fa
knows-requires-in-Fa c =
    omega (arith, c.number-in-Fa.ensures, c.requires c.in-Fa.out.number (subst (λ (x : Cell). IsIn c.in-Fa.out.number (outs x)) (sym c.in-Fa.is) (inl refl)))

pub knows-requires-in-Split : goal.knows-requires-in-Split
knows-requires-in-Split c =
    omega (arith, c.number-in-Split.ensures, c.requires c.in-Split.left.number (subst (λ (x : Cell). IsIn c.in-Split.left.number (outs x)) (sym c.in-Split.is) (inl refl)))

pub knows-requires-then-knows : goal.knows-requires-then-knows
knows-requires-then-knows c =
    omega (arith, c.number-then-knows.ensures, c.requires c.in-Split.right.number (subst (λ (x : Cell). IsIn c.in-Split.right.number (outs x)) (sym c.in-Split.is) (inr (inl refl))))
