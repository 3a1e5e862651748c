-- How many cells, wires and leaves a tree has, what it drives and reads, and how deep its leaves stand.
use Rattle.std.proofs.Common.{◌≡◌, ◌≤◌, ◌<◌, ◌+◌, ◌*◌, ◌^◌, inl, inr, ℕ, zero, suc, List, [], ◌∷◌, ◌++◌, length, ap, sym, subst, ◌∙◌, refl, arith, length-append}
use Rattle.std.specs.List.{flat_map, range_with_len}
use Rattle.std.proofs.lemmas.Grind.{flat_map-append}
use Rattle.pulse_ids.specs.Ids.{numbered}
use Rattle.pulse_ids.specs.Lists.{IsIn, occurrences}
use Rattle.pulse_ids.proofs.CallerLemmas.{IsIn-append, IsIn-left, IsIn-right}
use Rattle.pulse_ids.proofs.CallerLemmasOnCounts.{occurrences-append}
use Rattle.cell_netlist.specs.declared.lines.Cell.{Cell}
use Rattle.cell_netlist.specs.declared.lines.Cell.TheVariants.{Split}
use Rattle.cell_netlist.specs.Netlists.{PlainNetlist, outs, reads, SplittersBelow}
use Rattle.splitter_trees.specs.Trees.{Tree, leaf, fork, leaves_in, wires_in, larger_half, smaller_half, IsBalanced, splitters_of, leaves_of}
use Rattle.splitter_trees.specs.Spreading.{IsSplitter, Rises}
use Rattle.splitter_trees.proofs.CallerLemmasOnRanges.{range-append}
use Rattle.splitter_trees.proofs.Numbers.{two_to}

pub balanced_leaves : (tree : Tree) (readers : ℕ) → IsBalanced readers tree → leaves_in tree ≡ readers
balanced_leaves leaf readers h = sym h
balanced_leaves (fork left right) readers h = omega (arith, balanced_leaves left (larger_half readers) h.1, balanced_leaves right (smaller_half readers) h.2)

pub wires_and_leaves : (tree : Tree) → wires_in tree + 2 ≡ 2 * leaves_in tree
wires_and_leaves leaf = refl
wires_and_leaves (fork left right) = omega (arith, wires_and_leaves left, wires_and_leaves right)

pub cells_and_leaves : (tree : Tree) (next from : ℕ) → length (splitters_of tree next from) + 1 ≡ leaves_in tree
cells_and_leaves leaf next from = refl
cells_and_leaves (fork left right) next from =
    omega (
      arith,
      cells_and_leaves left (next + 2) next,
      cells_and_leaves right (next + 2 + wires_in left) (next + 1),
      length-append (splitters_of left (next + 2) next) (splitters_of right (next + 2 + wires_in left) (next + 1)),
    )

pub as_many_leaves : (tree : Tree) (next from : ℕ) → length (leaves_of tree next from) ≡ leaves_in tree
as_many_leaves leaf next from = refl
as_many_leaves (fork left right) next from =
    omega (
      arith,
      as_many_leaves left (next + 2) next,
      as_many_leaves right (next + 2 + wires_in left) (next + 1),
      length-append (leaves_of left (next + 2) next) (leaves_of right (next + 2 + wires_in left) (next + 1)),
    )

pub drives_range : (tree : Tree) (next from : ℕ) → flat_map outs (splitters_of tree next from) ≡ range_with_len next (wires_in tree)
drives_range leaf next from = refl
drives_range (fork left right) next from =
    let a : 2 + (wires_in left + wires_in right) ≡ suc (suc (wires_in left + wires_in right)) = omega arith in
    let b : next + 1 + 1 ≡ next + 2 = omega arith in
    rw (a, b) (ap (λ (l : List ℕ). next ∷ (next + 1) ∷ l)
    (flat_map-append outs (splitters_of left (next + 2) next) (splitters_of right (next + 2 + wires_in left) (next + 1))
    ∙ ap (λ (l : List ℕ). l ++ flat_map outs (splitters_of right (next + 2 + wires_in left) (next + 1))) (drives_range left (next + 2) next)
    ∙ ap (λ (l : List ℕ). range_with_len (next + 2) (wires_in left) ++ l) (drives_range right (next + 2 + wires_in left) (next + 1))
    ∙ sym (range-append (next + 2) (wires_in left) (wires_in right))))

pub reads_each_once : (tree : Tree) (next from wire : ℕ)
    → occurrences wire (flat_map reads (splitters_of tree next from)) + occurrences wire (leaves_of tree next from)
    ≡ occurrences wire (from ∷ flat_map outs (splitters_of tree next from))
reads_each_once leaf next from wire = omega arith
reads_each_once (fork left right) next from wire =
    let l = reads_each_once left (next + 2) next wire in
    let r = reads_each_once right (next + 2 + wires_in left) (next + 1) wire in
    let reads_are = occurrences-append wire (flat_map reads (splitters_of left (next + 2) next)) (flat_map reads (splitters_of right (next + 2 + wires_in left) (next + 1))) in
    let outs_are = occurrences-append wire (flat_map outs (splitters_of left (next + 2) next)) (flat_map outs (splitters_of right (next + 2 + wires_in left) (next + 1))) in
    let leaves_are = occurrences-append wire (leaves_of left (next + 2) next) (leaves_of right (next + 2 + wires_in left) (next + 1)) in
    rw (
      flat_map-append reads (splitters_of left (next + 2) next) (splitters_of right (next + 2 + wires_in left) (next + 1)),
      flat_map-append outs (splitters_of left (next + 2) next) (splitters_of right (next + 2 + wires_in left) (next + 1)),
    ) (omega arith)

pub all_split : (tree : Tree) (next from : ℕ) (cell : Cell) → IsIn cell (splitters_of tree next from) → IsSplitter cell
all_split leaf next from cell m = absurd m
all_split (fork left right) next from cell (inl e) = subst IsSplitter e tt
all_split (fork left right) next from cell (inr m) = elim (IsIn-append cell (splitters_of left (next + 2) next) (splitters_of right (next + 2 + wires_in left) (next + 1)) m) [
  | inl l ↦ all_split left (next + 2) next cell l
  | inr r ↦ all_split right (next + 2 + wires_in left) (next + 1) cell r
]

fork_rises : (from next : ℕ) → from < next → Rises (Split (numbered from) (numbered next) (numbered (next + 1)))
fork_rises from next low port out (inl e) (inl f) = omega arith
fork_rises from next low port out (inl e) (inr (inl f)) = omega arith
fork_rises from next low port out (inl e) (inr (inr f)) = absurd f
fork_rises from next low port out (inr e) f = absurd e

pub all_rise : (tree : Tree) (next from : ℕ) → from < next → (cell : Cell) → IsIn cell (splitters_of tree next from) → Rises cell
all_rise leaf next from low cell m = absurd m
all_rise (fork left right) next from low cell (inl e) = subst (λ (c : Cell). Rises c) e (fork_rises from next low)
all_rise (fork left right) next from low cell (inr m) = elim (IsIn-append cell (splitters_of left (next + 2) next) (splitters_of right (next + 2 + wires_in left) (next + 1)) m) [
  | inl l ↦ all_rise left (next + 2) next (omega arith) cell l
  | inr r ↦ all_rise right (next + 2 + wires_in left) (next + 1) (omega arith) cell r
]

-- a wire stands at most this deep below another
abbrev pub StandsBelow : PlainNetlist → ℕ → ℕ → ℕ → Type 0
StandsBelow net depth from bottom = (splitters : ℕ) × (splitters ≤ depth) × SplittersBelow net splitters from bottom

module _ (net : PlainNetlist) where
  step_down : (from next depth side bottom : ℕ) → IsIn (Split (numbered from) (numbered next) (numbered (next + 1))) net.cells → IsIn side (next ∷ (next + 1) ∷ [])
      → StandsBelow net depth side bottom → StandsBelow net (suc depth) from bottom
  step_down from next depth side bottom m at below =
      (suc below.0, omega (arith, below.1), (side, (Split (numbered from) (numbered next) (numbered (next + 1)), m, (refl, at)), below.2))

  pub no_deeper : (tree : Tree) (readers depth next from : ℕ) → IsBalanced readers tree → readers ≤ 2 ^ depth
      → ((cell : Cell) → IsIn cell (splitters_of tree next from) → IsIn cell net.cells)
      → (bottom : ℕ) → IsIn bottom (leaves_of tree next from) → StandsBelow net depth from bottom
  no_deeper leaf readers depth next from h few sub bottom (inl e) = (0, omega arith, e)
  no_deeper leaf readers depth next from h few sub bottom (inr m) = absurd m
  no_deeper (fork left right) readers zero next from h few sub bottom m = absurd (omega (arith, h.0))
  no_deeper (fork left right) readers (suc depth) next from h few sub bottom m =
      elim (IsIn-append bottom (leaves_of left (next + 2) next) (leaves_of right (next + 2 + wires_in left) (next + 1)) m) [
        | inl l ↦ step_down from next depth next bottom (sub _ (inl refl)) (inl refl)
            (no_deeper left (larger_half readers) depth (next + 2) next h.1 (omega (arith, two_to depth))
            (λ cell k. sub cell (inr (IsIn-left cell (splitters_of left (next + 2) next) (splitters_of right (next + 2 + wires_in left) (next + 1)) k))) bottom l)
        | inr r ↦ step_down from next depth (next + 1) bottom (sub _ (inl refl)) (inr (inl refl))
            (no_deeper right (smaller_half readers) depth (next + 2 + wires_in left) (next + 1) h.2 (omega (arith, two_to depth))
            (λ cell k. sub cell (inr (IsIn-right cell (splitters_of left (next + 2) next) (splitters_of right (next + 2 + wires_in left) (next + 1)) k))) bottom r)
      ]
