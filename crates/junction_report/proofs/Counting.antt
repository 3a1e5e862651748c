-- Cells that are counted by their kinds.
use Rattle.std.proofs.Common.{◌≡◌, ◌+◌, ◌*◌, ◌<◌, ℕ, Bool, true, false, cond, List, [], ◌∷◌, length, take, get_or, refl, sym, ap, ◌∙◌, arith}
use Rattle.std.specs.List.{count_by, sum_by}
use Rattle.std.proofs.lemmas.List.Sums.{sum_by-cons, count_by_more_yes, count_by_more_no}
use Rattle.cell_netlist.specs.declared.lines.Cell.{Cell}
use Rattle.cell_netlist.specs.declared.lines.Cell.TheVariants.{La, Fa, Split, Droc}
use Rattle.junction_report.specs.declared.counts.Counts.{Counts}
use Rattle.junction_report.specs.Counts.{is_la, is_fa, is_split, is_droc0, is_droc1, junctions_in, counts_of, with_cell, all_in, junctions_of}

-- 1 for a test that holds
abbrev one : (Cell → Bool) → Cell → ℕ
one test cell = cond (test cell) 1 0

counted : (test : Cell → Bool) (cell : Cell) (cells : List Cell) → count_by test (cell ∷ cells) ≡ one test cell + count_by test cells
counted test cell cells = sum_by-cons (one test) cell cells

one_kind : (cell : Cell) → one is_la cell + one is_fa cell + one is_split cell + one is_droc0 cell + one is_droc1 cell ≡ 1
one_kind (La a b out) = refl
one_kind (Fa a b out) = refl
one_kind (Split from left right) = refl
one_kind (Droc role false feed q n) = refl
one_kind (Droc role true feed q n) = refl

-- the cells of all kinds are all cells
pub all_counted : (cells : List Cell) → all_in (counts_of cells) ≡ length cells
all_counted [] = refl
all_counted (cell ∷ cells) =
    let r = all_counted cells in
    let k = one_kind cell in
    let a = counted is_la cell cells in
    let b = counted is_fa cell cells in
    let c = counted is_split cell cells in
    let d = counted is_droc0 cell cells in
    let e = counted is_droc1 cell cells in omega arith

weight : (cell : Cell)
    → junctions_in cell ≡ 4 * (one is_la cell + one is_fa cell) + 3 * one is_split cell + (13 * one is_droc0 cell + 22 * one is_droc1 cell)
weight (La a b out) = refl
weight (Fa a b out) = refl
weight (Split from left right) = refl
weight (Droc role false feed q n) = refl
weight (Droc role true feed q n) = refl

-- the junctions of cells by their counts
pub junctions_are : (cells : List Cell) → junctions_of (counts_of cells) ≡ sum_by junctions_in cells
junctions_are [] = refl
junctions_are (cell ∷ cells) =
    let r = junctions_are cells in
    let w = weight cell in
    let s = sum_by-cons junctions_in cell cells in
    let a = counted is_la cell cells in
    let b = counted is_fa cell cells in
    let c = counted is_split cell cells in
    let d = counted is_droc0 cell cells in
    let e = counted is_droc1 cell cells in omega arith

-- one cell more is counted
pub counted_more : (cells : List Cell) (i : ℕ) (d cell : Cell) → i < length cells → get_or cells i d ≡ cell
    → counts_of (take (i + 1) cells) ≡ with_cell (counts_of (take i cells)) cell
counted_more cells i d (La a b out) lt e =
    rw (
      count_by_more_yes is_la cells i d lt (ap is_la e),
      count_by_more_no is_fa cells i d lt (ap is_fa e),
      count_by_more_no is_split cells i d lt (ap is_split e),
      count_by_more_no is_droc0 cells i d lt (ap is_droc0 e),
      count_by_more_no is_droc1 cells i d lt (ap is_droc1 e),
    ) refl
counted_more cells i d (Fa a b out) lt e =
    rw (
      count_by_more_no is_la cells i d lt (ap is_la e),
      count_by_more_yes is_fa cells i d lt (ap is_fa e),
      count_by_more_no is_split cells i d lt (ap is_split e),
      count_by_more_no is_droc0 cells i d lt (ap is_droc0 e),
      count_by_more_no is_droc1 cells i d lt (ap is_droc1 e),
    ) refl
counted_more cells i d (Split from left right) lt e =
    rw (
      count_by_more_no is_la cells i d lt (ap is_la e),
      count_by_more_no is_fa cells i d lt (ap is_fa e),
      count_by_more_yes is_split cells i d lt (ap is_split e),
      count_by_more_no is_droc0 cells i d lt (ap is_droc0 e),
      count_by_more_no is_droc1 cells i d lt (ap is_droc1 e),
    ) refl
counted_more cells i d (Droc role false feed q n) lt e =
    rw (
      count_by_more_no is_la cells i d lt (ap is_la e),
      count_by_more_no is_fa cells i d lt (ap is_fa e),
      count_by_more_no is_split cells i d lt (ap is_split e),
      count_by_more_yes is_droc0 cells i d lt (ap is_droc0 e),
      count_by_more_no is_droc1 cells i d lt (ap is_droc1 e),
    ) refl
counted_more cells i d (Droc role true feed q n) lt e =
    rw (
      count_by_more_no is_la cells i d lt (ap is_la e),
      count_by_more_no is_fa cells i d lt (ap is_fa e),
      count_by_more_no is_split cells i d lt (ap is_split e),
      count_by_more_no is_droc0 cells i d lt (ap is_droc0 e),
      count_by_more_yes is_droc1 cells i d lt (ap is_droc1 e),
    ) refl

pub counted_step : (cells : List Cell) (i : ℕ) (d : Cell) (counts new : Counts) → i < length cells → counts ≡ counts_of (take i cells)
    → new ≡ with_cell counts (get_or cells i d) → new ≡ counts_of (take (i + 1) cells)
counted_step cells i d counts new lt e f =
    f ∙ ap (λ (k : Counts). with_cell k (get_or cells i d)) e ∙ sym (counted_more cells i d (get_or cells i d) lt refl)
