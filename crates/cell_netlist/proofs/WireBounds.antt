-- The number of wires, and what lines make of it.
use Rattle.std.proofs.Common.{◌≡◌, ◌<◌, ◌≤◌, ◌+◌, ℕ, zero, suc, max, List, [], ◌∷◌, ◌++◌, map, slice_get, append-nil, ap, inl, inr, arith, refl}
use Rattle.pulse_ids.specs.Ids.{WireId}
use Rattle.cell_netlist.specs.declared.lines.Rail.{Rail}
use Rattle.cell_netlist.specs.declared.lines.Cell.{Cell}
use Rattle.cell_netlist.specs.declared.lines.Cell.TheVariants.{La, Fa, Split, Droc}
use Rattle.pulse_ids.specs.Lists.{IsIn}
use Rattle.std.proofs.lemmas.List.{map-append}
use Rattle.std.specs.List.{flat_map}
use Rattle.cell_netlist.specs.Netlists.{outs, reads, PlainNetlist, wire_of, wire_bound, number_of_wires, driven, read, cell_bound, with_feed, cells_with_feed, IsDrocUpTo}
use Rattle.std.proofs.lemmas.Bool.{cases_lt, ne_eqb}
use Rattle.pulse_ids.specs.Lists.{occurrences}

-- a number put behind a list counts as if it stood first
pub wire_bound-behind : (xs ys : List ℕ) (w : ℕ) → wire_bound (xs ++ w ∷ ys) ≡ max (wire_bound (xs ++ ys)) (w + 1)
wire_bound-behind [] ys w = omega arith
wire_bound-behind (x ∷ xs) ys w = let e = wire_bound-behind xs ys w in omega arith

pub wire_bound-swap : (xs ys zs : List ℕ) (w : ℕ) → wire_bound (((xs ++ w ∷ []) ++ ys) ++ zs) ≡ max (wire_bound ((xs ++ ys) ++ zs)) (w + 1)
wire_bound-swap [] ys zs w = omega arith
wire_bound-swap (x ∷ xs) ys zs w = let e = wire_bound-swap xs ys zs w in omega arith

pub wire_bound-last : (xs ys zs : List ℕ) (w : ℕ) → wire_bound (xs ++ (ys ++ (zs ++ w ∷ []))) ≡ max (wire_bound (xs ++ (ys ++ zs))) (w + 1)
wire_bound-last [] [] [] w = omega arith
wire_bound-last [] [] (z ∷ zs) w = let e = wire_bound-last [] [] zs w in omega arith
wire_bound-last [] (y ∷ ys) zs w = let e = wire_bound-last [] ys zs w in omega arith
wire_bound-last (x ∷ xs) ys zs w = let e = wire_bound-last xs ys zs w in omega arith

-- an input rail more
pub number_of_wires-input : (net : PlainNetlist) (rail : Rail)
    → number_of_wires (record net { input_rails = net.input_rails ++ rail ∷ [] }) ≡ max (number_of_wires net) (wire_of rail + 1)
number_of_wires-input net rail = rw (map-append wire_of net.input_rails (rail ∷ []))
    (wire_bound-swap (map wire_of net.input_rails) (flat_map outs net.cells) (read net) (wire_of rail))

-- an output rail more
pub number_of_wires-output : (net : PlainNetlist) (rail : Rail)
    → number_of_wires (record net { output_rails = net.output_rails ++ rail ∷ [] }) ≡ max (number_of_wires net) (wire_of rail + 1)
number_of_wires-output net rail = rw (map-append wire_of net.output_rails (rail ∷ []))
    (wire_bound-last (driven net) (flat_map reads net.cells) (map wire_of net.output_rails) (wire_of rail))

pub wire_bound-append : (xs ys : List ℕ) → wire_bound (xs ++ ys) ≡ max (wire_bound xs) (wire_bound ys)
wire_bound-append [] ys = omega arith
wire_bound-append (x ∷ xs) ys = let e = wire_bound-append xs ys in omega arith

-- the bound of a netlist is the greatest of those of its four lists of wires
pub number_of_wires-parts : (net : PlainNetlist) → number_of_wires net
    ≡ max (max (wire_bound (map wire_of net.input_rails)) (wire_bound (flat_map outs net.cells))) (max (wire_bound (flat_map reads net.cells)) (wire_bound (map wire_of net.output_rails)))
number_of_wires-parts net =
    let all = wire_bound-append (driven net) (read net) in
    let one = wire_bound-append (map wire_of net.input_rails) (flat_map outs net.cells) in
    let two = wire_bound-append (flat_map reads net.cells) (map wire_of net.output_rails) in
    omega arith

flat_bound-last : (wires : Cell → List ℕ) (cells : List Cell) (cell : Cell)
    → wire_bound (flat_map wires (cells ++ cell ∷ [])) ≡ max (wire_bound (flat_map wires cells)) (wire_bound (wires cell))
flat_bound-last wires [] cell = rw (append-nil (wires cell)) (omega arith)
flat_bound-last wires (first ∷ cells) cell =
    let e = flat_bound-last wires cells cell in
    let one = wire_bound-append (wires first) (flat_map wires (cells ++ cell ∷ [])) in
    let two = wire_bound-append (wires first) (flat_map wires cells) in
    omega arith

-- a cell more
pub number_of_wires-cell : (net : PlainNetlist) (cell : Cell)
    → number_of_wires (record net { cells = net.cells ++ cell ∷ [] }) ≡ max (number_of_wires net) (cell_bound cell)
number_of_wires-cell net cell =
    let after = number_of_wires-parts (record net { cells = net.cells ++ cell ∷ [] }) in
    let before = number_of_wires-parts net in
    let drives = flat_bound-last outs net.cells cell in
    let its = flat_bound-last reads net.cells cell in
    let own = wire_bound-append (outs cell) (reads cell) in
    omega arith

-- a cell drives the same wires whatever its feed
pub outs-fed : (wire : WireId) (cell : Cell) → outs (with_feed wire cell) ≡ outs cell
outs-fed wire (La a b out) = refl
outs-fed wire (Fa a b out) = refl
outs-fed wire (Split from left right) = refl
outs-fed wire (Droc role preload feed q n) = refl

pub all_outs-fed : (c : ℕ) (wire : WireId) (cells : List Cell) → flat_map outs (cells_with_feed c wire cells) ≡ flat_map outs cells
all_outs-fed c wire [] = refl
all_outs-fed zero wire (cell ∷ cells) = ap (λ ws. ws ++ flat_map outs cells) (outs-fed wire cell)
all_outs-fed (suc c) wire (cell ∷ cells) = ap (λ ws. outs cell ++ ws) (all_outs-fed c wire cells)

reads-fed : (c : ℕ) (wire : WireId) (cells : List Cell) → IsDrocUpTo (slice_get cells c) wire.number
    → wire_bound (flat_map reads (cells_with_feed c wire cells)) ≡ max (wire_bound (flat_map reads cells)) (wire.number + 1)
reads-fed zero wire [] h = absurd h
reads-fed (suc c) wire [] h = absurd h
reads-fed zero wire (La a b out ∷ cells) h = absurd h
reads-fed zero wire (Fa a b out ∷ cells) h = absurd h
reads-fed zero wire (Split from left right ∷ cells) h = absurd h
reads-fed zero wire (Droc role preload feed q n ∷ cells) h = omega arith
reads-fed (suc c) wire (cell ∷ cells) h =
    let e = reads-fed c wire cells h in
    let one = wire_bound-append (reads cell) (flat_map reads (cells_with_feed c wire cells)) in
    let two = wire_bound-append (reads cell) (flat_map reads cells) in
    omega arith

-- another feed
pub number_of_wires-fed : (net : PlainNetlist) (c : ℕ) (wire : WireId) → IsDrocUpTo (slice_get net.cells c) wire.number
    → number_of_wires (record net { cells = cells_with_feed c wire net.cells }) ≡ max (number_of_wires net) (wire.number + 1)
number_of_wires-fed net c wire droc =
    let after = number_of_wires-parts (record net { cells = cells_with_feed c wire net.cells }) in
    let before = number_of_wires-parts net in
    let drives = ap wire_bound (all_outs-fed c wire net.cells) in
    let its = reads-fed c wire net.cells droc in
    omega arith

-- a number past the greatest stands nowhere
pub occurrences-past : (n : ℕ) (xs : List ℕ) → wire_bound xs ≤ n → occurrences n xs ≡ 0
occurrences-past n [] le = refl
occurrences-past n (x ∷ xs) le =
    let r = occurrences-past n xs (omega arith) in
    let differ : n ≡ x → ⊥ = λ e. omega arith in
    let t = ne_eqb n x differ in
    rw t (omega arith)

-- a number of a list is below its bound
pub wire_below : (w : ℕ) (ws : List ℕ) → IsIn w ws → w < wire_bound ws
wire_below w [] h = absurd h
wire_below w (x ∷ ws) (inl e) = omega arith
wire_below w (x ∷ ws) (inr h) = let r = wire_below w ws h in omega arith

-- a number that a netlist drives or reads is one of its wires
pub driven_within : (net : PlainNetlist) (w : ℕ) → 1 ≤ occurrences w (driven net) → w < number_of_wires net
driven_within net w some = elim (cases_lt w (number_of_wires net)) [
  | inl lt ↦ lt
  | inr ge ↦
      let both = wire_bound-append (driven net) (read net) in
      let none = occurrences-past w (driven net) (omega arith) in absurd (omega arith)
]

pub read_within : (net : PlainNetlist) (w : ℕ) → 1 ≤ occurrences w (read net) → w < number_of_wires net
read_within net w some = elim (cases_lt w (number_of_wires net)) [
  | inl lt ↦ lt
  | inr ge ↦
      let both = wire_bound-append (driven net) (read net) in
      let none = occurrences-past w (read net) (omega arith) in absurd (omega arith)
]
