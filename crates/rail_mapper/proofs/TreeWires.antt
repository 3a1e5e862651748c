-- Which wires a tree of splitters drives and reads.
use Rattle.std.proofs.Common.{◌≡◌, ◌≤◌, ◌<◌, ◌+◌, ◌*◌, ◌-◌, ◌⊎◌, inl, inr, ℕ, List, ◌∷◌, ap, subst, ◌∙◌, refl, arith}
use Rattle.std.specs.List.{flat_map}
use Rattle.std.proofs.lemmas.Bool.{cases_eq}
use Rattle.pulse_ids.specs.Lists.{IsIn, occurrences}
use Rattle.pulse_ids.proofs.CallerLemmas.{IsIn-flat_map}
use Rattle.pulse_ids.proofs.CallerLemmasOnCounts.{occurrences-head, occurrences-other, IsIn-occurrences, occurrences-IsIn}
use Rattle.cell_netlist.specs.declared.lines.Cell.{Cell}
use Rattle.cell_netlist.specs.declared.lines.Cell.TheVariants.{La, Fa, Split, Droc}
use Rattle.cell_netlist.specs.Netlists.{outs, reads, Splits}
use Rattle.cell_netlist.proofs.CallerLemmas.{Splits-out}
use Rattle.splitter_trees.specs.Spreading.{IsSplitter, Spreads}
use Rattle.splitter_trees.proofs.CallerLemmasOnRanges.{range-once, range-none_below}
use Rattle.wire_ledgers.proofs.CallerLemmasOnRanges.{in_range}

-- one of the cells splits a wire to another
abbrev pub IsSplitBy : List Cell → ℕ → ℕ → Type 0
IsSplitBy cells from to = (cell : Cell) × IsIn cell cells × Splits cell from to

-- a splitter splits what it reads
pub reading_splits : (cell : Cell) (wire : ℕ) → IsSplitter cell → IsIn wire (reads cell) → (to : ℕ) × Splits cell wire to
reading_splits (La a b out) wire s m = absurd s
reading_splits (Fa a b out) wire s m = absurd s
reading_splits (Split from left right) wire s (inl e) = (left.number, (e, inl refl))
reading_splits (Split from left right) wire s (inr m) = absurd m
reading_splits (Droc role preload feed q n) wire s m = absurd s

pub split_reads : (cell : Cell) (from to : ℕ) → Splits cell from to → IsIn from (reads cell)
split_reads (La a b out) from to s = absurd s
split_reads (Fa a b out) from to s = absurd s
split_reads (Split source left right) from to s = inl s.0
split_reads (Droc role preload feed q n) from to s = absurd s

module _ (next root readers : ℕ) (cells : List Cell) (leaves : List ℕ) (tree : Spreads next root readers cells leaves) where
  -- its splitters lead to new wires, from the root or new ones
  pub new_to : (from to : ℕ) → IsSplitBy cells from to → (next ≤ to) × (to < next + 2 * (readers - 1))
  new_to from to (cell, m, s) = in_range next (2 * (readers - 1)) to (subst (λ (l : List ℕ). IsIn to l) tree.drives (IsIn-flat_map outs to cell cells m (Splits-out cell from to s)))

  pub new_reads : (from to : ℕ) → IsSplitBy cells from to → 1 ≤ occurrences from (flat_map reads cells)
  new_reads from to (cell, m, s) = IsIn-occurrences from (flat_map reads cells) (IsIn-flat_map reads from cell cells m (split_reads cell from to s))

  -- the root or a new wire
  pub from_tree : (wire : ℕ) → 1 ≤ occurrences wire (root ∷ flat_map outs cells) → (root ≡ wire) ⊎ ((next ≤ wire) × (wire < next + 2 * (readers - 1)))
  from_tree wire some = by (occurrences-IsIn wire (root ∷ flat_map outs cells) some)
    where
      by : IsIn wire (root ∷ flat_map outs cells) → (root ≡ wire) ⊎ ((next ≤ wire) × (wire < next + 2 * (readers - 1)))
      by (inl e) = inl e
      by (inr m) = inr (in_range next (2 * (readers - 1)) wire (subst (λ (l : List ℕ). IsIn wire l) tree.drives m))

  pub new_from : (from to : ℕ) → IsSplitBy cells from to → (root ≡ from) ⊎ ((next ≤ from) × (from < next + 2 * (readers - 1)))
  new_from from to new = let o = tree.once from in let r = new_reads from to new in from_tree from (omega arith)

  pub leaf_from : (wire : ℕ) → IsIn wire leaves → (root ≡ wire) ⊎ ((next ≤ wire) × (wire < next + 2 * (readers - 1)))
  leaf_from wire m = let o = tree.once wire in let k = IsIn-occurrences wire leaves m in from_tree wire (omega arith)

  pub at_most_once : root < next → (wire : ℕ) → occurrences wire (root ∷ flat_map outs cells) ≤ 1
  at_most_once low wire = elim (cases_eq root wire) [
    | inl e ↦
        let h = occurrences-head wire root (flat_map outs cells) e in
        let none = ap (occurrences wire) tree.drives ∙ range-none_below next (2 * (readers - 1)) wire (omega arith) in omega arith
    | inr ne ↦
        let h = occurrences-other wire root (flat_map outs cells) ne in
        let few = range-once next (2 * (readers - 1)) wire in let e = ap (occurrences wire) tree.drives in omega arith
  ]
