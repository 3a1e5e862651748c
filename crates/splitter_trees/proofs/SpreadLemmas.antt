-- What a splitter and the trees of its two branches come to, and what is so of every balanced tree.
use Rattle.std.proofs.Common.{◌≡◌, ◌≤◌, ◌<◌, ◌+◌, ◌*◌, ◌-◌, ◌==◌, ◌⊎◌, inl, inr, ℕ, List, [], ◌∷◌, ◌++◌, length, ap, sym, subst, ◌∙◌, refl, arith, append_assoc, append-nil, length-append}
use Rattle.std.proofs.lemmas.Bool.{cases_eq}
use Rattle.std.specs.List.{flat_map, range_with_len}
use Rattle.pulse_ids.specs.Ids.{WireId, numbered}
use Rattle.pulse_ids.specs.Lists.{IsIn, occurrences, ceil_log2}
use Rattle.pulse_ids.proofs.CallerLemmas.{IsIn-append}
use Rattle.pulse_ids.proofs.CallerLemmasOnCounts.{one_if, test_same, test_other, IsIn-occurrences, occurrences-absent}
use Rattle.cell_netlist.specs.declared.lines.Cell.{Cell}
use Rattle.cell_netlist.specs.declared.lines.Cell.TheVariants.{Split}
use Rattle.cell_netlist.specs.Netlists.{PlainNetlist, outs, reads, number_of_wires}
use Rattle.splitter_trees.specs.Trees.{Tree, leaf, fork, leaves_in, wires_in, larger_half, smaller_half, IsBalanced, splitters_of, leaves_of, IsTree}
use Rattle.splitter_trees.specs.Spreading.{IsSplitter, Spreads, IsSpread, GainsSplitters, with_cells, only_cells}
use Rattle.splitter_trees.specs.Branches.{HasBranch}
use Rattle.splitter_trees.proofs.CallerLemmasOnRanges.{range-within, range-none_below, range-once}
use Rattle.splitter_trees.proofs.Numbers.{log_enough}
use Rattle.splitter_trees.proofs.TreeLemmas.{balanced_leaves, wires_and_leaves, cells_and_leaves, as_many_leaves, drives_range, reads_each_once, all_split, all_rise, no_deeper}

-- splitters added twice
pub gains_none : (net : PlainNetlist) → GainsSplitters net net
gains_none net = record { cells = []; added = sym (ap (λ (cs : List Cell). record net { cells = cs }) (append-nil net.cells)); all_split = λ cell m. absurd m }

pub gains_twice : (old middle new : PlainNetlist) → GainsSplitters old middle → GainsSplitters middle new → GainsSplitters old new
gains_twice old middle new a b = record {
  cells = a.cells ++ b.cells;
  added = b.added ∙ ap (λ net. with_cells net b.cells) a.added ∙ ap (λ (cs : List Cell). record old { cells = cs }) (append_assoc old.cells a.cells b.cells);
  all_split = λ cell m. elim (IsIn-append cell a.cells b.cells m) [ inl l ↦ a.all_split cell l | inr r ↦ b.all_split cell r ];
}

pub gains_one : (old new : PlainNetlist) (from left right : WireId) → new ≡ with_cells old (Split from left right ∷ []) → GainsSplitters old new
gains_one old new from left right added = record {
  cells = Split from left right ∷ [];
  added = added;
  all_split = λ cell m. elim m [ inl e ↦ subst IsSplitter e tt | inr nothing ↦ absurd nothing ];
}

pub gains_branch : (old new : PlainNetlist) (kept grown : List ℕ) (from readers : ℕ) → HasBranch old new kept grown from readers → GainsSplitters old new
gains_branch old new kept grown from readers branch = record {
  cells = branch.cells;
  added = branch.added;
  all_split = λ cell m. all_split branch.tree.tree (number_of_wires old) from cell (subst (λ (cs : List Cell). IsIn cell cs) branch.tree.splitters m);
}

pub one_leaf : (net : PlainNetlist) (kept grown : List ℕ) (from readers : ℕ) → readers ≡ 1 → grown ≡ kept ++ from ∷ [] → HasBranch net net kept grown from readers
one_leaf net kept grown from readers one behind = record {
  cells = [];
  leaves = from ∷ [];
  added = sym (ap (λ (cs : List Cell). record net { cells = cs }) (append-nil net.cells));
  behind = behind;
  tree = record { tree = leaf; balanced = one; splitters = refl; wires = refl };
  wires = omega arith;
  count = omega arith;
  length_grown = omega (arith, ap length behind, length-append kept (from ∷ []));
}

-- the first splitter of a tree
abbrev top_splitter : PlainNetlist → WireId → Cell
top_splitter old from = Split from (numbered (number_of_wires old)) (numbered (number_of_wires old + 1))

pub two_branches : (old one two three : PlainNetlist) (k0 k1 k2 : List ℕ) (from : WireId) (left right larger smaller readers : ℕ) → 2 ≤ readers
    → one ≡ with_cells old (Split from (numbered (number_of_wires old)) (numbered (number_of_wires old + 1)) ∷ []) → number_of_wires one ≡ number_of_wires old + 2
    → left ≡ number_of_wires old → larger ≡ larger_half readers → right ≡ number_of_wires old + 1 → smaller ≡ smaller_half readers
    → HasBranch one two k0 k1 left larger → HasBranch two three k1 k2 right smaller → HasBranch old three k0 k2 from.number readers
two_branches old one two three k0 k1 k2 from left right larger smaller readers many added wires l is_larger r is_smaller a b = record {
  cells = Split from (numbered (number_of_wires old)) (numbered (number_of_wires old + 1)) ∷ (a.cells ++ b.cells);
  leaves = a.leaves ++ b.leaves;
  added = b.added ∙ ap (λ net. with_cells net b.cells) (a.added ∙ ap (λ net. with_cells net a.cells) added)
      ∙ ap (λ (cs : List Cell). record old { cells = cs })
      (append_assoc (old.cells ++ top_splitter old from ∷ []) a.cells b.cells ∙ append_assoc old.cells (top_splitter old from ∷ []) (a.cells ++ b.cells));
  behind = b.behind ∙ ap (λ (ws : List ℕ). ws ++ b.leaves) a.behind ∙ append_assoc k0 a.leaves b.leaves;
  tree = record {
    tree = fork a.tree.tree b.tree.tree;
    balanced = (many, left_balanced, right_balanced);
    splitters = ap (λ (cs : List Cell). top_splitter old from ∷ cs)
        (ap (λ (cs : List Cell). cs ++ b.cells) left_cells
        ∙ ap (λ (cs : List Cell). splitters_of a.tree.tree (number_of_wires old + 2) (number_of_wires old) ++ cs) right_cells);
    wires = ap (λ (ws : List ℕ). ws ++ b.leaves) left_leaves ∙ ap (λ (ws : List ℕ). leaves_of a.tree.tree (number_of_wires old + 2) (number_of_wires old) ++ ws) right_leaves;
  };
  wires = omega (arith, a.wires, b.wires);
  count = omega (arith, a.count, b.count, ap (λ (net : PlainNetlist). length net.cells) added, length-append old.cells (top_splitter old from ∷ []));
  length_grown = omega (arith, a.length_grown, b.length_grown);
}
  where
    left_balanced : IsBalanced (larger_half readers) a.tree.tree
    left_balanced = subst (λ n. IsBalanced n a.tree.tree) is_larger a.tree.balanced

    right_balanced : IsBalanced (smaller_half readers) b.tree.tree
    right_balanced = subst (λ n. IsBalanced n b.tree.tree) is_smaller b.tree.balanced

    two_is : number_of_wires two ≡ number_of_wires old + 2 + wires_in a.tree.tree
    two_is = omega (arith, wires_and_leaves a.tree.tree, balanced_leaves a.tree.tree larger a.tree.balanced, a.wires)

    left_cells : a.cells ≡ splitters_of a.tree.tree (number_of_wires old + 2) (number_of_wires old)
    left_cells = a.tree.splitters ∙ ap (λ k. splitters_of a.tree.tree k left) wires ∙ ap (splitters_of a.tree.tree (number_of_wires old + 2)) l

    right_cells : b.cells ≡ splitters_of b.tree.tree (number_of_wires old + 2 + wires_in a.tree.tree) (number_of_wires old + 1)
    right_cells = b.tree.splitters ∙ ap (λ k. splitters_of b.tree.tree k right) two_is ∙ ap (splitters_of b.tree.tree (number_of_wires old + 2 + wires_in a.tree.tree)) r

    left_leaves : a.leaves ≡ leaves_of a.tree.tree (number_of_wires old + 2) (number_of_wires old)
    left_leaves = a.tree.wires ∙ ap (λ k. leaves_of a.tree.tree k left) wires ∙ ap (leaves_of a.tree.tree (number_of_wires old + 2)) l

    right_leaves : b.leaves ≡ leaves_of b.tree.tree (number_of_wires old + 2 + wires_in a.tree.tree) (number_of_wires old + 1)
    right_leaves = b.tree.wires ∙ ap (λ k. leaves_of b.tree.tree k right) two_is ∙ ap (leaves_of b.tree.tree (number_of_wires old + 2 + wires_in a.tree.tree)) r

-- the leaf of a tree for one reader
lone_leaf : (tree : Tree) (next from : ℕ) → IsBalanced 1 tree → leaves_of tree next from ≡ from ∷ []
lone_leaf leaf next from h = refl
lone_leaf (fork left right) next from h = absurd (omega (arith, h.0))

-- a leaf is the wire itself or a new one
low_leaf : (tree : Tree) (next from wire : ℕ) → IsIn wire (leaves_of tree next from) → (from ≡ wire) ⊎ (next ≤ wire)
low_leaf leaf next from wire (inl e) = inl e
low_leaf leaf next from wire (inr m) = absurd m
low_leaf (fork left right) next from wire m = elim (IsIn-append wire (leaves_of left (next + 2) next) (leaves_of right (next + 2 + wires_in left) (next + 1)) m) [
  | inl l ↦ elim (low_leaf left (next + 2) next wire l) [ inl e ↦ inr (omega arith) | inr above ↦ inr (omega arith) ]
  | inr r ↦ elim (low_leaf right (next + 2 + wires_in left) (next + 1) wire r) [ inl e ↦ inr (omega arith) | inr above ↦ inr (omega arith) ]
]

-- and a new one from two readers on
new_leaf : (tree : Tree) (readers next from wire : ℕ) → 2 ≤ readers → IsBalanced readers tree → IsIn wire (leaves_of tree next from) → next ≤ wire
new_leaf leaf readers next from wire more h m = absurd (omega arith)
new_leaf (fork left right) readers next from wire more h m = elim (IsIn-append wire (leaves_of left (next + 2) next) (leaves_of right (next + 2 + wires_in left) (next + 1)) m) [
  | inl l ↦ elim (low_leaf left (next + 2) next wire l) [ inl e ↦ omega arith | inr above ↦ omega arith ]
  | inr r ↦ elim (low_leaf right (next + 2 + wires_in left) (next + 1) wire r) [ inl e ↦ omega arith | inr above ↦ omega arith ]
]

module _ (next from readers : ℕ) (cells : List Cell) (leaves : List ℕ) (low : from < next) (it : IsTree next from readers cells leaves) where
  many : leaves_in it.tree ≡ readers
  many = balanced_leaves it.tree readers it.balanced

  drives : flat_map outs cells ≡ range_with_len next (2 * (readers - 1))
  drives =
      let new_wires : wires_in it.tree ≡ 2 * (readers - 1) = omega (arith, wires_and_leaves it.tree, many) in
      ap (flat_map outs) it.splitters ∙ drives_range it.tree next from ∙ ap (range_with_len next) new_wires

  once : (wire : ℕ) → occurrences wire (flat_map reads cells) + occurrences wire leaves ≡ occurrences wire (from ∷ flat_map outs cells)
  once wire = rw (it.splitters, it.wires) (reads_each_once it.tree next from wire)

  -- how often a wire is the spread one or a new one
  named : (wire : ℕ) → occurrences wire (flat_map reads cells) + occurrences wire leaves ≡ one_if (wire == from) + occurrences wire (range_with_len next (2 * (readers - 1)))
  named wire = once wire ∙ ap (λ ws. occurrences wire (from ∷ ws)) drives

  distinct : (wire : ℕ) → occurrences wire leaves ≤ 1
  distinct wire = elim (cases_eq wire from) [
    | inl e ↦ omega (arith, named wire, test_same wire from e, range-none_below next (2 * (readers - 1)) wire (omega arith))
    | inr ne ↦ omega (arith, named wire, test_other wire from ne, range-once next (2 * (readers - 1)) wire)
  ]

  above : 2 ≤ readers → (wire : ℕ) → IsIn wire leaves → next ≤ wire
  above more wire m = new_leaf it.tree readers next from wire more it.balanced (subst (λ (ws : List ℕ). IsIn wire ws) it.wires m)

  on_new : 2 ≤ readers → (wire : ℕ) → IsIn wire leaves → (next ≤ wire) × (wire < next + 2 * (readers - 1))
  on_new more wire m =
      let up = above more wire m in
      let within = range-within next (2 * (readers - 1)) wire (omega (arith, named wire, IsIn-occurrences wire leaves m, test_other wire from (λ e. absurd (omega arith)))) in
      (up, within.1)

  one_reads : 2 ≤ readers → occurrences from (flat_map reads cells) ≡ 1
  one_reads more =
      let none : occurrences from leaves ≡ 0 = occurrences-absent from leaves (λ m. absurd (omega (arith, above more from m))) in
      omega (arith, named from, test_same from from refl, range-none_below next (2 * (readers - 1)) from low)

  alone : readers ≡ 1 → leaves ≡ from ∷ []
  alone one = it.wires ∙ lone_leaf it.tree next from (subst (λ n. IsBalanced n it.tree) one it.balanced)

  pub tree_spreads : Spreads next from readers cells leaves
  tree_spreads = record {
    one_less = ap (λ (cs : List Cell). length cs + 1) it.splitters ∙ cells_and_leaves it.tree next from ∙ many;
    all_split = λ cell m. all_split it.tree next from cell (subst (λ (cs : List Cell). IsIn cell cs) it.splitters m);
    rise = λ cell m. all_rise it.tree next from low cell (subst (λ (cs : List Cell). IsIn cell cs) it.splitters m);
    drives = drives;
    one_each = ap length it.wires ∙ as_many_leaves it.tree next from ∙ many;
    distinct = distinct;
    alone = alone;
    one_reads = one_reads;
    on_new = on_new;
    once = once;
    below = λ wire m. no_deeper (only_cells cells) it.tree readers (ceil_log2 readers) next from it.balanced (log_enough readers)
        (λ cell k. subst (λ (cs : List Cell). IsIn cell cs) (sym it.splitters) k) wire (subst (λ (ws : List ℕ). IsIn wire ws) it.wires m);
  }

-- a branch with nothing kept is all that spreading asks for
pub whole_tree : (old new : PlainNetlist) (kept leaves : List ℕ) (from readers : ℕ) → from < number_of_wires old → 1 ≤ readers → kept ≡ []
    → HasBranch old new kept leaves from readers → IsSpread old new from readers leaves
whole_tree old new kept leaves from readers low some nothing branch = record {
  cells = branch.cells;
  added = branch.added;
  tree = tree;
  spreads = tree_spreads (number_of_wires old) from readers branch.cells leaves low tree;
  wires = omega (arith, branch.wires);
}
  where
    same : branch.leaves ≡ leaves
    same = sym (branch.behind ∙ ap (λ (ws : List ℕ). ws ++ branch.leaves) nothing)

    tree : IsTree (number_of_wires old) from readers branch.cells leaves
    tree = subst (λ (ws : List ℕ). IsTree (number_of_wires old) from readers branch.cells ws) same branch.tree
