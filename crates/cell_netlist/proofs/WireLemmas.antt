-- The wires that lines name, the cells that share them, and where they come from.
use Rattle.std.proofs.Common.{◌≡◌, ◌<◌, ◌≤◌, ℕ, zero, suc, Some, List, [], ◌∷◌, ◌++◌, map, slice_get, ap, sym, subst, inl, inr, arith, refl}
use Rattle.std.specs.List.{flat_map}
use Rattle.std.proofs.lemmas.Bool.{cases_eq}
use Rattle.cell_netlist.specs.declared.lines.Rail.{Rail}
use Rattle.cell_netlist.specs.declared.lines.Cell.{Cell}
use Rattle.cell_netlist.specs.declared.lines.Cell.TheVariants.{La, Fa, Split, Droc}
use Rattle.pulse_ids.specs.Lists.{IsIn, occurrences}
use Rattle.pulse_ids.proofs.CallerLemmas.{IsIn-append, IsIn-left, IsIn-right, IsIn-place, place_of, IsIn-map, IsIn-from_map, IsIn-flat_map, IsIn-from_flat_map}
use Rattle.pulse_ids.proofs.CallerLemmasOnCounts.{occurrences-append, IsIn-occurrences, occurrences-IsIn}
use Rattle.cell_netlist.specs.Netlists.{PlainNetlist, wire_of, outs, reads, driven, read, number_of_wires, Splits, HasSplitter, IsRoot, IsDroc, Grounded, of_rail, of_droc, of_gate}
use Rattle.cell_netlist.specs.Wired.{IsWired}
use Rattle.cell_netlist.specs.Sound.{IsSound}
use Rattle.cell_netlist.specs.WireLaws.{NamesWiresBelow}
use Rattle.cell_netlist.proofs.WireBounds.{wire_below, driven_within, read_within}
use Rattle.cell_netlist.proofs.SoundDecisions.{SplittersBelow-one_more}
use Rattle.cell_netlist.proofs.Roots.{Splits-out}

pub named_below : (net : PlainNetlist) → NamesWiresBelow net
named_below net = record {
  of_input = λ rail i. wire_below (wire_of rail) (driven net ++ read net)
      (IsIn-left _ (driven net) (read net) (IsIn-left _ (map wire_of net.input_rails) (flat_map outs net.cells) (IsIn-map wire_of rail net.input_rails i)));
  of_outs = λ cell i wire h. wire_below wire (driven net ++ read net)
      (IsIn-left _ (driven net) (read net) (IsIn-right _ (map wire_of net.input_rails) (flat_map outs net.cells) (IsIn-flat_map outs wire cell net.cells i h)));
  of_reads = λ cell i wire h. wire_below wire (driven net ++ read net)
      (IsIn-right _ (driven net) (read net) (IsIn-left _ (flat_map reads net.cells) (map wire_of net.output_rails) (IsIn-flat_map reads wire cell net.cells i h)));
  of_output = λ rail i. wire_below (wire_of rail) (driven net ++ read net)
      (IsIn-right _ (driven net) (read net) (IsIn-right _ (flat_map reads net.cells) (map wire_of net.output_rails) (IsIn-map wire_of rail net.output_rails i)));
}

-- two places of a list that give one number are one, where the number is given once
one_place-of : {X : Type 0} (f : X → List ℕ) (w : ℕ) (xs : List X) (i j : ℕ) (x y : X) → occurrences w (flat_map f xs) ≤ 1
    → slice_get xs i ≡ Some x → slice_get xs j ≡ Some y → IsIn w (f x) → IsIn w (f y) → i ≡ j
one_place-of f w [] i j x y once at_i at_j h g = absurd cc
one_place-of f w (z ∷ xs) zero zero x y once at_i at_j h g = refl
one_place-of f w (z ∷ xs) zero (suc j) x y once at_i at_j h g =
    let same : x ≡ z = cc in
    let here = IsIn-occurrences w (f z) (subst (λ v. IsIn w (f v)) same h) in
    let there = IsIn-occurrences w (flat_map f xs) (IsIn-flat_map f w y xs (IsIn-place y xs j at_j) g) in
    let total = occurrences-append w (f z) (flat_map f xs) in
    absurd (omega arith)
one_place-of f w (z ∷ xs) (suc i) zero x y once at_i at_j h g =
    let same : y ≡ z = cc in
    let here = IsIn-occurrences w (f z) (subst (λ v. IsIn w (f v)) same g) in
    let there = IsIn-occurrences w (flat_map f xs) (IsIn-flat_map f w x xs (IsIn-place x xs i at_i) h) in
    let total = occurrences-append w (f z) (flat_map f xs) in
    absurd (omega arith)
one_place-of f w (z ∷ xs) (suc i) (suc j) x y once at_i at_j h g =
    let total = occurrences-append w (f z) (flat_map f xs) in
    ap suc (one_place-of f w xs i j x y (omega arith) at_i at_j h g)

one_item-of : {X : Type 0} (f : X → List ℕ) (w : ℕ) (xs : List X) (i j : ℕ) (x y : X) → occurrences w (flat_map f xs) ≤ 1
    → slice_get xs i ≡ Some x → slice_get xs j ≡ Some y → IsIn w (f x) → IsIn w (f y) → (i ≡ j) × (x ≡ y)
one_item-of f w xs i j x y once at_i at_j h g =
    let same = one_place-of f w xs i j x y once at_i at_j h g in
    let there = subst (λ k. slice_get xs k ≡ Some y) (sym same) at_j in
    (same, cc)

-- a splitter is no DROC
pub no_splitter : (cell : Cell) → IsDroc cell → (from to : ℕ) → Splits cell from to → ⊥
no_splitter (La a b out) droc from to h = h
no_splitter (Fa a b out) droc from to h = h
no_splitter (Split source left right) droc from to h = droc
no_splitter (Droc role preload feed q n) droc from to h = h

module _ (net : PlainNetlist) (wired : IsWired net) where
  -- no wire at all is driven twice or read twice
  pub driven_once : (w : ℕ) → occurrences w (driven net) ≤ 1
  driven_once w = elim (cases_eq (occurrences w (driven net)) 0) [
    | inl none ↦ omega arith
    | inr some ↦ wired.none_driven_twice w (driven_within net w (omega arith))
  ]

  pub read_once : (w : ℕ) → occurrences w (read net) ≤ 1
  read_once w = elim (cases_eq (occurrences w (read net)) 0) [
    | inl none ↦ omega arith
    | inr some ↦ wired.none_read_twice w (read_within net w (omega arith))
  ]

  pub driving_cell-is : (wire c d : ℕ) (cell other : Cell) → slice_get net.cells c ≡ Some cell → slice_get net.cells d ≡ Some other
      → IsIn wire (outs cell) → IsIn wire (outs other) → (c ≡ d) × (cell ≡ other)
  driving_cell-is wire c d cell other at_c at_d h g =
      let total = occurrences-append wire (map wire_of net.input_rails) (flat_map outs net.cells) in
      let once = driven_once wire in
      one_item-of outs wire net.cells c d cell other (omega arith) at_c at_d h g

  pub reading_cell-is : (wire c d : ℕ) (cell other : Cell) → slice_get net.cells c ≡ Some cell → slice_get net.cells d ≡ Some other
      → IsIn wire (reads cell) → IsIn wire (reads other) → (c ≡ d) × (cell ≡ other)
  reading_cell-is wire c d cell other at_c at_d h g =
      let total = occurrences-append wire (flat_map reads net.cells) (map wire_of net.output_rails) in
      let once = read_once wire in
      one_item-of reads wire net.cells c d cell other (omega arith) at_c at_d h g

  -- a splitter that leads to an output of a cell is that cell
  splitter-is : (from w : ℕ) (cell : Cell) → IsIn cell net.cells → IsIn w (outs cell) → HasSplitter net from w → Splits cell from w
  splitter-is from w cell among out h =
      let its = place_of cell net.cells among in
      let splitter = place_of h.0 net.cells h.1 in
      let same = (driving_cell-is w splitter.0 its.0 h.0 cell splitter.1 its.1 (Splits-out h.0 from w h.2) out).1 in
      subst (λ c. Splits c from w) same h.2

  -- no splitter leads to the wire of an input rail
  no_splitter-to_rail : (from : ℕ) (rail : Rail) → IsIn rail net.input_rails → HasSplitter net from (wire_of rail) → ⊥
  no_splitter-to_rail from rail among h =
      let w = wire_of rail in
      let total = occurrences-append w (map wire_of net.input_rails) (flat_map outs net.cells) in
      let once = driven_once w in
      let one = IsIn-occurrences w (map wire_of net.input_rails) (IsIn-map wire_of rail net.input_rails among) in
      let other = IsIn-occurrences w (flat_map outs net.cells) (IsIn-flat_map outs w h.0 net.cells h.1 (Splits-out h.0 from w h.2)) in
      absurd (omega arith)

  -- a wire to which no splitter leads is its own root
  own_root : (w : ℕ) → ((from : ℕ) → HasSplitter net from w → ⊥) → (root : ℕ) × IsRoot net root w
  own_root w none = (w, record { splitters = 0; chain = refl; first = none })

  pub grounded_root : (w : ℕ) → Grounded net w → (root : ℕ) × IsRoot net root w
  grounded_root _ (of_rail w rail among e) = own_root w (λ from h. no_splitter-to_rail from rail among (subst (λ v. HasSplitter net from v) (sym e) h))
  grounded_root _ (of_droc w cell among droc out) = own_root w (λ from h. no_splitter cell droc from w (splitter-is from w cell among out h))
  grounded_root _ (of_gate w (La a b o) among gate out ports) = own_root w (λ from h. splitter-is from w (La a b o) among out h)
  grounded_root _ (of_gate w (Fa a b o) among gate out ports) = own_root w (λ from h. splitter-is from w (Fa a b o) among out h)
  grounded_root _ (of_gate w (Droc role preload feed q n) among gate out ports) = absurd (gate tt)
  grounded_root _ (of_gate w (Split source left right) among gate out ports) =
      let above = grounded_root source.number (ports source.number (inl refl)) in (
        above.0,
        record {
          splitters = suc above.1.splitters;
          chain = SplittersBelow-one_more net above.1.splitters above.0 source.number w above.1.chain (Split source left right, among, (refl, out));
          first = above.1.first;
        },
      )

module _ (net : PlainNetlist) (sound : IsSound net) where
  grounded_out : (cell : Cell) → IsIn cell net.cells → (w : ℕ) → IsIn w (outs cell) → Grounded net w
  grounded_out (La a b o) among w out = sound.grounded (La a b o) among (λ d. d) w out
  grounded_out (Fa a b o) among w out = sound.grounded (Fa a b o) among (λ d. d) w out
  grounded_out (Split source left right) among w out = sound.grounded (Split source left right) among (λ d. d) w out
  grounded_out (Droc role preload feed q n) among w out = of_droc w (Droc role preload feed q n) among tt out

  pub wire_grounded : (w : ℕ) → w < number_of_wires net → Grounded net w
  wire_grounded w below = elim (IsIn-append w (map wire_of net.input_rails) (flat_map outs net.cells) (occurrences-IsIn w (driven net) (sound.wired.all_driven w below))) [
    | inl rail ↦ let found = IsIn-from_map wire_of w net.input_rails rail in of_rail w found.0 found.1 found.2
    | inr cell ↦ let found = IsIn-from_flat_map outs w net.cells cell in grounded_out found.0 found.1 w found.2
  ]

  pub wire_root : (w : ℕ) → w < number_of_wires net → (root : ℕ) × IsRoot net root w
  wire_root w below = grounded_root net sound.wired w (wire_grounded w below)
