use Rattle.std.proofs.Common.{List, length, set, inl, inr, refl, sym, subst, ap, ◌∙◌, arith}
use Rattle.std.proofs.lemmas.List.{length-set}
use Rattle.std.proofs.lemmas.Option.{get_or_from_slice_get}
use Rattle.pulse_ids.specs.Ids.{WireId, numbered}
use Rattle.pulse_ids.specs.Lists.{IsIn}
use Rattle.cell_netlist.specs.declared.lines.Cell.{Cell}
use Rattle.cell_netlist.specs.Netlists.{outs, reads}
use Rattle.rail_checker.specs.Tables.{with_roots}
use Rattle.rail_checker.proofs.roots.put_roots.Goals as goal

pub get-root-requires : goal.get-root-requires
get-root-requires c = c.requires.reads c.in-Split.from.number (subst (λ (x : Cell). IsIn c.in-Split.from.number (reads x)) (sym c.in-Split.is) (inl refl))

pub set-requires : goal.set-requires
set-requires c = c.requires.outs c.in-Split.left.number (subst (λ (x : Cell). IsIn c.in-Split.left.number (outs x)) (sym c.in-Split.is) (inl refl))

pub set-requires-in-Split : goal.set-requires-in-Split
set-requires-in-Split c =
    omega (
      arith,
      ap (λ (l : List WireId). length l) c.set.ensures,
      length-set c.args.roots.now c.in-Split.left.number c.get-root.result.now,
      c.requires.outs c.in-Split.right.number (subst (λ (x : Cell). IsIn c.in-Split.right.number (outs x)) (sym c.in-Split.is) (inr (inl refl))),
    )

pub returns-in-Split : goal.returns-in-Split
returns-in-Split c =
    c.set-in-Split.ensures ∙ ap (λ (t : List WireId). set t c.in-Split.right.number c.get-root.result.now) c.set.ensures
    ∙ ap (λ (v : WireId). set (set c.args.roots.now c.in-Split.left.number v) c.in-Split.right.number v)
    (sym (get_or_from_slice_get c.args.roots.now c.in-Split.from.number c.get-root.result.now (numbered 0) c.get-root.ensures))
    ∙ ap (λ (x : Cell). with_roots c.args.roots.now x) (sym c.in-Split.is)
