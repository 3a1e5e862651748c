-- Tables of fronts, backs and roots, and the tests of cells that read them.
use Rattle.std.specs.Prelude.{◌≡◌, ◌<◌, ◌↔◌, ℕ, Bool, true, false, not, ◌&&◌, Option, Some, None, List, [], ◌∷◌, length, get_or, set, is_none, is_some, ◌==◌}
use Rattle.pulse_ids.specs.Ids.{WireId, numbered}
use Rattle.cell_netlist.specs.declared.kinds.Role.TheVariants.{Front, Back, Const}
use Rattle.cell_netlist.specs.declared.lines.Cell.{Cell}
use Rattle.cell_netlist.specs.declared.lines.Cell.TheVariants.{La, Fa, Split, Droc}
use Rattle.cell_netlist.specs.Netlists.{PlainNetlist, number_of_wires, IsRoot}
use Rattle.cell_netlist.specs.Sound.{IsFrontTo, IsBackFrom}
use Rattle.cell_netlist.specs.RailEquations.{preload_of}
use Rattle.cell_netlist.specs.Decisions.{is_some_with, number_on, differ, link_of}

-- the feed of a back
abbrev pub back_feed : Cell → Option ℕ
back_feed (Droc Back preload feed q n) = Some feed.number
back_feed cell = None

-- the table with a value at a place, where there is one
abbrev pub with_at : {V : Type 0} → List V → Option ℕ → V → List V
with_at table None value = table
with_at table (Some place) value = set table place value

-- the table with the preload of a front at its `q`
abbrev pub with_front : List (Option Bool) → Cell → List (Option Bool)
with_front fronts cell = with_at fronts (link_of cell) (Some (preload_of cell))

-- the table with the feed of a back marked
abbrev pub with_back : List Bool → Cell → List Bool
with_back backs cell = with_at backs (back_feed cell) true

-- the table after a step for each cell
abbrev pub through : {T X : Type 0} → (T → X → T) → T → List X → T
through step table [] = table
through step table (x ∷ xs) = through step (step table x) xs

-- for each wire the preload of the front whose `q` it is
pub record AreFronts (net : PlainNetlist) (fronts : List (Option Bool)) : Type 0 where
  pub width : length fronts ≡ number_of_wires net
  pub front : (wire : ℕ) (preload : Bool) → wire < number_of_wires net → (get_or fronts wire None ≡ Some preload) ↔ IsFrontTo net wire preload

-- for each wire whether it is the feed of a back
pub record AreBacks (net : PlainNetlist) (backs : List Bool) : Type 0 where
  pub width : length backs ≡ number_of_wires net
  pub back : (wire : ℕ) → wire < number_of_wires net → (get_or backs wire false ≡ true) ↔ ((preload : Bool) × IsBackFrom net wire preload)

-- the wire that the table has for a wire
abbrev pub root_at : List WireId → ℕ → ℕ
root_at roots wire = (get_or roots wire (numbered 0)).number

-- each wire has itself in the table
pub record AreOwn (count : ℕ) (roots : List WireId) : Type 0 where
  pub width : length roots ≡ count
  pub own : (wire : ℕ) → wire < count → root_at roots wire ≡ wire

-- the table with the root of a splitter's input at both outputs
abbrev pub with_roots : List WireId → Cell → List WireId
with_roots roots (La a b out) = roots
with_roots roots (Fa a b out) = roots
with_roots roots (Split from left right) =
    set (set roots left.number (get_or roots from.number (numbered 0))) right.number (get_or roots from.number (numbered 0))
with_roots roots (Droc role preload feed q n) = roots

-- for each wire its root
pub record AreRoots (net : PlainNetlist) (roots : List WireId) : Type 0 where
  pub width : length roots ≡ number_of_wires net
  pub root : (wire : ℕ) → wire < number_of_wires net → IsRoot net (root_at roots wire) wire

-- Whether a cell that is a DROC fits its role, by the tables: a front has no `n`, and its `q` is the feed of a back;
-- a back's feed is the `q` of a front; a constant's feed has its own `n` as root.
abbrev pub fits_by : List (Option Bool) → List Bool → List WireId → Cell → Bool
fits_by fronts backs roots (Droc Front preload feed q n) = is_none n && is_some_with (λ link. get_or backs link false) (number_on q)
fits_by fronts backs roots (Droc Back preload feed q n) = is_some (get_or fronts feed.number None)
fits_by fronts backs roots (Droc Const preload feed q n) = is_some_with (λ own. own == root_at roots feed.number) (number_on n)
fits_by fronts backs roots cell = true

-- the cell is a back with the preload of its front
abbrev pub has_equal_preload : List (Option Bool) → Cell → Bool
has_equal_preload fronts cell = is_some_with (λ link. is_some_with (λ front. not (differ front (preload_of cell))) (get_or fronts link None)) (back_feed cell)
