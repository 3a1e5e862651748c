-- What spreading a wire makes of a netlist: the lemmas that the crates above may cite.
use Rattle.std.proofs.Common.{◌≡◌, ◌≤◌, ◌<◌, ◌+◌, ◌*◌, ◌-◌, inl, inr, ℕ, zero, suc, Some, List, [], ◌∷◌, ◌++◌, map, length, slice_get, ap, sym, subst, ◌∙◌, refl, arith}
use Rattle.std.specs.List.{flat_map, range_with_len}
use Rattle.std.proofs.lemmas.Bool.{cases_lt}
use Rattle.std.proofs.lemmas.Grind.{flat_map-append}
use Rattle.pulse_ids.specs.Lists.{IsIn, occurrences, ceil_log2}
use Rattle.pulse_ids.proofs.CallerLemmas.{IsIn-right}
use Rattle.pulse_ids.proofs.CallerLemmasOnCounts.{occurrences-append}
use Rattle.cell_netlist.specs.declared.lines.Cell.{Cell}
use Rattle.cell_netlist.specs.Netlists.{PlainNetlist, wire_of, outs, reads, driven, read, number_of_wires, SplittersBelow}
use Rattle.splitter_trees.specs.Trees.{Tree, leaf, fork, larger_half, smaller_half, IsBalanced, splitters_of, leaves_of, IsTree}
use Rattle.splitter_trees.specs.Spreading.{Spreads, IsSpread, with_cells, only_cells}
use Rattle.splitter_trees.proofs.Numbers as numbers
use Rattle.splitter_trees.proofs.SpreadLemmas as spreads

-- logarithms, rounded up, grow with their numbers
pub logs_grow : (a b : ℕ) → a ≤ b → ceil_log2 a ≤ ceil_log2 b
logs_grow = numbers.logs_grow

-- each balanced tree below a wire spreads it
pub tree_spreads : (next from readers : ℕ) (cells : List Cell) (leaves : List ℕ) → from < next → IsTree next from readers cells leaves → Spreads next from readers cells leaves
tree_spreads = spreads.tree_spreads

-- there is one balanced tree for each number of readers
one_tree : (a b : Tree) (readers : ℕ) → IsBalanced readers a → IsBalanced readers b → a ≡ b
one_tree leaf leaf readers h k = refl
one_tree leaf (fork left right) readers h k = absurd (omega (arith, k.0))
one_tree (fork left right) leaf readers h k = absurd (omega (arith, h.0))
one_tree (fork left right) (fork left2 right2) readers h k =
    ap (λ t. fork t right) (one_tree left left2 (larger_half readers) h.1 k.1) ∙ ap (λ t. fork left2 t) (one_tree right right2 (smaller_half readers) h.2 k.2)

-- so the cells and the leaves are fixed
pub same_tree : (next from readers : ℕ) (cells cells2 : List Cell) (leaves leaves2 : List ℕ) → IsTree next from readers cells leaves → IsTree next from readers cells2 leaves2
    → (cells ≡ cells2) × (leaves ≡ leaves2)
same_tree next from readers cells cells2 leaves leaves2 a b =
    let same = one_tree a.tree b.tree readers a.balanced b.balanced in
    (a.splitters ∙ ap (λ t. splitters_of t next from) same ∙ sym b.splitters, a.wires ∙ ap (λ t. leaves_of t next from) same ∙ sym b.wires)

-- a leaf is not below the wire, and below the wires that come after the tree
pub leaf_bounds : (next from readers : ℕ) (cells : List Cell) (leaves : List ℕ) → from < next → Spreads next from readers cells leaves
    → (wire : ℕ) → IsIn wire leaves → (from ≤ wire) × (wire < next + 2 * (readers - 1))
leaf_bounds next from readers cells leaves low s wire m = elim (cases_lt 1 readers) [
  | inl more ↦ let b = s.on_new (omega arith) wire m in (omega (arith, b.0), b.1)
  | inr few ↦ elim (subst (λ (ws : List ℕ). IsIn wire ws) (s.alone (omega (arith, s.one_less))) m) [
    | inl e ↦ (omega arith, omega arith)
    | inr nothing ↦ absurd nothing
  ]
]

-- a cell keeps its place where cells are added behind it
pub place_stays : (cells more : List Cell) (place : ℕ) (cell : Cell) → slice_get cells place ≡ Some cell → slice_get (cells ++ more) place ≡ Some cell
place_stays [] more place cell e = absurd cc
place_stays (c ∷ cells) more zero cell e = e
place_stays (c ∷ cells) more (suc place) cell e = place_stays cells more place cell e

-- the first cell behind others has their number as its place
pub place_behind : (cells more : List Cell) (cell : Cell) → slice_get (cells ++ cell ∷ more) (length cells) ≡ Some cell
place_behind [] more cell = refl
place_behind (c ∷ cells) more cell = place_behind cells more cell

pub place_within : (cells : List Cell) (place : ℕ) (cell : Cell) → slice_get cells place ≡ Some cell → place < length cells
place_within [] place cell e = absurd cc
place_within (c ∷ cells) zero cell e = omega arith
place_within (c ∷ cells) (suc place) cell e = let r = place_within cells place cell e in omega arith

-- a chain of splitters stands wherever its cells stand
pub chain_stands : (net wider : PlainNetlist) → ((cell : Cell) → IsIn cell net.cells → IsIn cell wider.cells)
    → (splitters from wire : ℕ) → SplittersBelow net splitters from wire → SplittersBelow wider splitters from wire
chain_stands net wider all zero from wire e = e
chain_stands net wider all (suc n) from wire (mid, (cell, m, s), rest) = (mid, (cell, all cell m, s), chain_stands net wider all n mid wire rest)

-- added cells drive their wires besides those that were driven, and read theirs
pub cells_driven : (net : PlainNetlist) (cells : List Cell) (wire : ℕ) → occurrences wire (driven (with_cells net cells)) ≡ occurrences wire (driven net) + occurrences wire (flat_map outs cells)
cells_driven net cells wire =
    let a = ap (λ (ws : List ℕ). occurrences wire (map wire_of net.input_rails ++ ws)) (flat_map-append outs net.cells cells) in
    let b = occurrences-append wire (map wire_of net.input_rails) (flat_map outs net.cells ++ flat_map outs cells) in
    let c = occurrences-append wire (flat_map outs net.cells) (flat_map outs cells) in
    let d = occurrences-append wire (map wire_of net.input_rails) (flat_map outs net.cells) in
    omega arith

pub cells_read : (net : PlainNetlist) (cells : List Cell) (wire : ℕ) → occurrences wire (read (with_cells net cells)) ≡ occurrences wire (read net) + occurrences wire (flat_map reads cells)
cells_read net cells wire =
    let a = ap (λ (ws : List ℕ). occurrences wire (ws ++ map wire_of net.output_rails)) (flat_map-append reads net.cells cells) in
    let b = occurrences-append wire (flat_map reads net.cells ++ flat_map reads cells) (map wire_of net.output_rails) in
    let c = occurrences-append wire (flat_map reads net.cells) (flat_map reads cells) in
    let d = occurrences-append wire (flat_map reads net.cells) (map wire_of net.output_rails) in
    omega arith

module _ (old new : PlainNetlist) (from readers : ℕ) (leaves : List ℕ) (it : IsSpread old new from readers leaves) where
  -- all cells stay at their places
  pub spread_stays : (place : ℕ) (cell : Cell) → slice_get old.cells place ≡ Some cell → slice_get new.cells place ≡ Some cell
  spread_stays place cell at = ap (λ (net : PlainNetlist). slice_get net.cells place) it.added ∙ place_stays old.cells it.cells place cell at

  -- the new wires are driven besides those that were
  pub spread_driven : (wire : ℕ) → occurrences wire (driven new) ≡ occurrences wire (driven old) + occurrences wire (range_with_len (number_of_wires old) (2 * (readers - 1)))
  spread_driven wire =
      ap (λ (net : PlainNetlist). occurrences wire (driven net)) it.added ∙ cells_driven old it.cells wire
      ∙ ap (λ (ws : List ℕ). occurrences wire (driven old) + occurrences wire ws) it.spreads.drives

  -- the wire and the new ones are read besides those that were, but for the leaves
  pub spread_read : (wire : ℕ) → occurrences wire (read new) + occurrences wire leaves
      ≡ occurrences wire (read old) + occurrences wire (from ∷ range_with_len (number_of_wires old) (2 * (readers - 1)))
  spread_read wire =
      let a = ap (λ (net : PlainNetlist). occurrences wire (read net)) it.added ∙ cells_read old it.cells wire in
      let b = it.spreads.once wire ∙ ap (λ (ws : List ℕ). occurrences wire (from ∷ ws)) it.spreads.drives in
      omega (arith, a, b)

  -- few splitters of the netlist lead from the wire to a leaf
  pub leaf_below : (wire : ℕ) → IsIn wire leaves → (splitters : ℕ) × (splitters ≤ ceil_log2 readers) × SplittersBelow new splitters from wire
  leaf_below wire m =
      let b = it.spreads.below wire m in
      (b.0, b.1, chain_stands (only_cells it.cells) new (λ cell k. subst (λ (net : PlainNetlist). IsIn cell net.cells) (sym it.added) (IsIn-right cell old.cells it.cells k)) b.0 from wire b.2)
