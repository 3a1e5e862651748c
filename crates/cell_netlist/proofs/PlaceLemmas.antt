-- Places on a wire, and what a pulse does at them.
use Rattle.std.proofs.Common.{◌≡◌, ◌+◌, ◌-◌, ◌⊎◌, ℕ, suc, ◌==◌, Option, Some, None, List, [], ◌∷◌, ◌++◌, map, length, slice_index, slice_set, append-nil, ap, sym, ◌∙◌, subst, inl, inr, arith}
use Rattle.std.proofs.Common.{refl, if◌then◌else◌}
use Rattle.std.specs.List.{flat_map}
use Rattle.std.proofs.lemmas.Bool.{cases_Bool, ne_eqb}
use Rattle.std.proofs.Math.Path.{fun_ext}
use Rattle.pulse_ids.specs.Ids.{WireId, numbered}
use Rattle.cell_netlist.specs.declared.lines.Rail.{Rail}
use Rattle.cell_netlist.specs.declared.lines.Cell.{Cell}
use Rattle.cell_netlist.specs.declared.lines.Cell.TheVariants.{La, Fa, Split, Droc}
use Rattle.cell_netlist.specs.declared.lines.Driver.{Driver}
use Rattle.cell_netlist.specs.declared.lines.Driver.TheVariants as drivers_of
use Rattle.cell_netlist.specs.declared.lines.Reader.{Reader}
use Rattle.cell_netlist.specs.declared.lines.Reader.TheVariants.{A, B, From, Feed, Output}
use Rattle.pulse_ids.specs.Lists.{occurrences}
use Rattle.cell_netlist.specs.Netlists.{PlainNetlist, wire_of, used, outs, reads, driven, read}
use Rattle.cell_netlist.specs.Places.{At, IsReaderOf, place_if_used, driving, reading, cell_places, rail_places, on_wire, drivers, readers}
use Rattle.cell_netlist.specs.declared.kinds.CellState.{CellState}
use Rattle.cell_netlist.specs.World.{State, Reaction, silent, reaction, Reactions, both, reactions, counted_after, Delivered, deliver, moved}
use Rattle.cell_netlist.specs.OneReader.{port_reaction, reaction_at, after_reaction, delivered_to}

module _ {Place : Type 0} (w : ℕ) where
  -- the places of two lists
  pub on_wire-append : (xs ys : List (At Place)) → on_wire w (xs ++ ys) ≡ on_wire w xs ++ on_wire w ys
  on_wire-append [] ys = refl
  on_wire-append (at ∷ xs) ys = elim (cases_Bool (w == at.0)) [
    | inl hit ↦ rw hit (ap (λ zs. at.1 ∷ zs) (on_wire-append xs ys))
    | inr miss ↦ rw miss (on_wire-append xs ys)
  ]

  -- as many places as the wire stands among the wires of the places
  pub on_wire-length : (xs : List (At Place)) → length (on_wire w xs) ≡ occurrences w (map (λ at. at.0) xs)
  on_wire-length [] = refl
  on_wire-length (at ∷ xs) = let r = on_wire-length xs in elim (cases_Bool (w == at.0)) [ inl hit ↦ rw hit (omega arith) | inr miss ↦ rw miss (omega arith) ]

  -- the wires of rails
  pub rail_places-wires : (place : ℕ → Place) (r : ℕ) (rails : List Rail) → map (λ at. at.0) (rail_places place r rails) ≡ map wire_of rails
  rail_places-wires place r [] = refl
  rail_places-wires place r (rail ∷ rails) = ap (λ ws. wire_of rail ∷ ws) (rail_places-wires place (r + 1) rails)

pub map-both : {X Y : Type 0} (f : X → Y) (xs ys : List X) → map f (xs ++ ys) ≡ map f xs ++ map f ys
map-both f [] ys = refl
map-both f (x ∷ xs) ys = ap (λ zs. f x ∷ zs) (map-both f xs ys)

-- the wires of cells
cell_places-wires : {Place : Type 0} (places : ℕ → Cell → List (At Place)) (wires : Cell → List ℕ)
    → ((c : ℕ) (cell : Cell) → map (λ at. at.0) (places c cell) ≡ wires cell) → (c : ℕ) (cells : List Cell)
    → map (λ at. at.0) (cell_places places c cells) ≡ flat_map wires cells
cell_places-wires places wires each c [] = refl
cell_places-wires places wires each c (cell ∷ cells) =
    let here = each c cell in
    let there = cell_places-wires places wires each (c + 1) cells in
    rw (map-both (λ at. at.0) (places c cell) (cell_places places (c + 1) cells), here, there) refl

if_used-wires : (o : Option WireId) (place : Driver) → map (λ at. at.0) (place_if_used o place) ≡ used o
if_used-wires None place = refl
if_used-wires (Some wire) place = refl

driving-wires : (c : ℕ) (cell : Cell) → map (λ at. at.0) (driving c cell) ≡ outs cell
driving-wires c (La a b out) = refl
driving-wires c (Fa a b out) = refl
driving-wires c (Split from left right) = refl
driving-wires c (Droc role preload feed None n) = if_used-wires n (drivers_of.N (numbered c))
driving-wires c (Droc role preload feed (Some q) n) = ap (λ ws. q.number ∷ ws) (if_used-wires n (drivers_of.N (numbered c)))

reading-wires : (c : ℕ) (cell : Cell) → map (λ at. at.0) (reading c cell) ≡ reads cell
reading-wires c (La a b out) = refl
reading-wires c (Fa a b out) = refl
reading-wires c (Split from left right) = refl
reading-wires c (Droc role preload feed q n) = refl

pub drivers-count : (net : PlainNetlist) (wire : ℕ) → length (drivers net wire) ≡ occurrences wire (driven net)
drivers-count net wire =
    let rails = rail_places (λ r. drivers_of.Input (numbered r)) 0 net.input_rails in
    let cells = cell_places driving 0 net.cells in
    let of_rails = rail_places-wires wire (λ r. drivers_of.Input (numbered r)) 0 net.input_rails in
    let of_cells = cell_places-wires driving outs driving-wires 0 net.cells in
    on_wire-length wire (rails ++ cells) ∙ ap (λ ws. occurrences wire ws) (rw (map-both (λ at. at.0) rails cells, of_rails, of_cells) refl)

pub readers-count : (net : PlainNetlist) (wire : ℕ) → length (readers net wire) ≡ occurrences wire (read net)
readers-count net wire =
    let cells = cell_places reading 0 net.cells in
    let rails = rail_places (λ r. Output (numbered r)) 0 net.output_rails in
    let of_cells = cell_places-wires reading reads reading-wires 0 net.cells in
    let of_rails = rail_places-wires wire (λ r. Output (numbered r)) 0 net.output_rails in
    on_wire-length wire (cells ++ rails) ∙ ap (λ ws. occurrences wire ws) (rw (map-both (λ at. at.0) cells rails, of_cells, of_rails) refl)

-- cell_states with one cell's reaction
abbrev in_place : List CellState → ℕ → Option Reaction → Option Reactions
in_place cell_states c None = None
in_place cell_states c (Some reacted) = Some (record { cell_states = slice_set cell_states c reacted.cell_state; emitted = reacted.emitted })

-- a list of one item is an empty list and it, or it and an empty list
one_of_two : {X : Type 0} (xs ys : List X) (x : X) → xs ++ ys ≡ x ∷ [] → ((xs ≡ []) × (ys ≡ x ∷ [])) ⊎ ((xs ≡ x ∷ []) × (ys ≡ []))
one_of_two [] ys x e = inl (refl, e)
one_of_two (y ∷ []) [] x e = inr (e, refl)
one_of_two (y ∷ []) (z ∷ ys) x e = absurd cc
one_of_two (y ∷ z ∷ xs) ys x e = absurd cc

none_of_two : {X : Type 0} (xs ys : List X) → xs ++ ys ≡ [] → (xs ≡ []) × (ys ≡ [])
none_of_two [] ys e = (refl, e)
none_of_two (x ∷ xs) ys e = absurd cc

module _ (w : ℕ) where
  -- a cell that does not read the wire does nothing
  silent-cell : (c : ℕ) (cell : Cell) (cell_state : CellState) → on_wire w (reading c cell) ≡ [] → reaction cell cell_state w ≡ silent cell_state
  silent-cell c (La a b out) cell_state e = elim (cases_Bool (w == a.number)) [
    | inl hit ↦ let g = rw hit at e in absurd cc
    | inr miss ↦ elim (cases_Bool (w == b.number)) [ inl hit ↦ let g = rw (miss, hit) at e in absurd cc | inr none ↦ rw (miss, none) refl ]
  ]
  silent-cell c (Fa a b out) cell_state e = elim (cases_Bool (w == a.number)) [
    | inl hit ↦ let g = rw hit at e in absurd cc
    | inr miss ↦ elim (cases_Bool (w == b.number)) [ inl hit ↦ let g = rw (miss, hit) at e in absurd cc | inr none ↦ rw (miss, none) refl ]
  ]
  silent-cell c (Split from left right) cell_state e =
      elim (cases_Bool (w == from.number)) [ inl hit ↦ let g = rw hit at e in absurd cc | inr miss ↦ rw miss refl ]
  silent-cell c (Droc role preload feed q n) cell_state e =
      elim (cases_Bool (w == feed.number)) [ inl hit ↦ let g = rw hit at e in absurd cc | inr miss ↦ rw miss refl ]

  -- a cell that reads the wire once does what its port says
  one-cell : (c : ℕ) (cell : Cell) (cell_state : CellState) (reader : Reader) → on_wire w (reading c cell) ≡ reader ∷ []
      → IsReaderOf reader c × (reaction cell cell_state w ≡ port_reaction cell cell_state reader)
  one-cell c (La a b out) cell_state reader e = elim (cases_Bool (w == a.number)) [
    | inl at_a ↦ elim (cases_Bool (w == b.number)) [
      | inl at_b ↦ let g = rw (at_a, at_b) at e in absurd cc
      | inr off_b ↦
          let g : A (numbered c) ∷ [] ≡ reader ∷ [] = rw (at_a, off_b) at e in
          let same : A (numbered c) ≡ reader = cc in
          subst (λ r. IsReaderOf r c × (reaction (La a b out) cell_state w ≡ port_reaction (La a b out) cell_state r)) same (refl, rw at_a refl)
    ]
    | inr off_a ↦ elim (cases_Bool (w == b.number)) [
      | inl at_b ↦
          let g : B (numbered c) ∷ [] ≡ reader ∷ [] = rw (off_a, at_b) at e in
          let same : B (numbered c) ≡ reader = cc in
          subst (λ r. IsReaderOf r c × (reaction (La a b out) cell_state w ≡ port_reaction (La a b out) cell_state r)) same (refl, rw (off_a, at_b) refl)
      | inr off_b ↦ let g = rw (off_a, off_b) at e in absurd cc
    ]
  ]
  one-cell c (Fa a b out) cell_state reader e = elim (cases_Bool (w == a.number)) [
    | inl at_a ↦ elim (cases_Bool (w == b.number)) [
      | inl at_b ↦ let g = rw (at_a, at_b) at e in absurd cc
      | inr off_b ↦
          let g : A (numbered c) ∷ [] ≡ reader ∷ [] = rw (at_a, off_b) at e in
          let same : A (numbered c) ≡ reader = cc in
          subst (λ r. IsReaderOf r c × (reaction (Fa a b out) cell_state w ≡ port_reaction (Fa a b out) cell_state r)) same (refl, rw at_a refl)
    ]
    | inr off_a ↦ elim (cases_Bool (w == b.number)) [
      | inl at_b ↦
          let g : B (numbered c) ∷ [] ≡ reader ∷ [] = rw (off_a, at_b) at e in
          let same : B (numbered c) ≡ reader = cc in
          subst (λ r. IsReaderOf r c × (reaction (Fa a b out) cell_state w ≡ port_reaction (Fa a b out) cell_state r)) same (refl, rw (off_a, at_b) refl)
      | inr off_b ↦ let g = rw (off_a, off_b) at e in absurd cc
    ]
  ]
  one-cell c (Split from left right) cell_state reader e = elim (cases_Bool (w == from.number)) [
    | inl hit ↦
        let g : From (numbered c) ∷ [] ≡ reader ∷ [] = rw hit at e in
        let same : From (numbered c) ≡ reader = cc in
        subst (λ r. IsReaderOf r c × (reaction (Split from left right) cell_state w ≡ port_reaction (Split from left right) cell_state r)) same (refl, rw hit refl)
    | inr miss ↦ let g = rw miss at e in absurd cc
  ]
  one-cell c (Droc role preload feed q n) cell_state reader e = elim (cases_Bool (w == feed.number)) [
    | inl hit ↦
        let g : Feed (numbered c) ∷ [] ≡ reader ∷ [] = rw hit at e in
        let same : Feed (numbered c) ≡ reader = cc in
        subst (λ r. IsReaderOf r c × (reaction (Droc role preload feed q n) cell_state w ≡ port_reaction (Droc role preload feed q n) cell_state r)) same (refl, rw hit refl)
    | inr miss ↦ let g = rw miss at e in absurd cc
  ]

  -- cells that do not read the wire do nothing
  silent-cells : (c : ℕ) (cells : List Cell) (cell_states : List CellState) → length cell_states ≡ length cells → on_wire w (cell_places reading c cells) ≡ []
      → reactions cells cell_states w ≡ Some (record { cell_states = cell_states; emitted = [] })
  silent-cells c [] [] len e = refl
  silent-cells c [] (cell_state ∷ cell_states) len e = absurd (omega arith)
  silent-cells c (cell ∷ cells) [] len e = absurd (omega arith)
  silent-cells c (cell ∷ cells) (cell_state ∷ cell_states) len e =
      let parts = none_of_two _ _ (sym (on_wire-append w (reading c cell) (cell_places reading (c + 1) cells)) ∙ e) in
      rw (silent-cell c cell cell_state parts.0, silent-cells (c + 1) cells cell_states (omega arith) parts.1) refl

  in_place-later : (cell_state : CellState) (cell_states : List CellState) (i : ℕ) (o : Option Reaction)
      → both (silent cell_state) (in_place cell_states i o) ≡ in_place (cell_state ∷ cell_states) (suc i) o
  in_place-later cell_state cell_states i None = refl
  in_place-later cell_state cell_states i (Some reacted) = refl

  in_place-first : (cell_state : CellState) (cell_states : List CellState) (o : Option Reaction)
      → both o (Some (record { cell_states = cell_states; emitted = [] })) ≡ in_place (cell_state ∷ cell_states) 0 o
  in_place-first cell_state cell_states None = refl
  in_place-first cell_state cell_states (Some reacted) = rw (append-nil reacted.emitted) refl

  moved-on : (reader : Reader) (c i : ℕ) → IsReaderOf reader ((c + 1) + i) → IsReaderOf reader (c + suc i)
  moved-on reader c i h = let e : (c + 1) + i ≡ c + suc i = omega arith in subst (IsReaderOf reader) e h

  -- of cells that read the wire once in all, one reacts
  one-of-cells : (c : ℕ) (cells : List Cell) (cell_states : List CellState) (reader : Reader) → length cell_states ≡ length cells
      → on_wire w (cell_places reading c cells) ≡ reader ∷ []
      → (i : ℕ) × IsReaderOf reader (c + i) × (reactions cells cell_states w ≡ in_place cell_states i (reaction_at cells cell_states i reader))
  one-of-cells c [] cell_states reader len e = absurd cc
  one-of-cells c (cell ∷ cells) [] reader len e = absurd (omega arith)
  one-of-cells c (cell ∷ cells) (cell_state ∷ cell_states) reader len e =
      elim (one_of_two (on_wire w (reading c cell)) (on_wire w (cell_places reading (c + 1) cells)) reader (sym (on_wire-append w (reading c cell) (cell_places reading (c + 1) cells)) ∙ e)) [
        | inl later ↦
            let found = one-of-cells (c + 1) cells cell_states reader (omega arith) later.1 in (
              suc found.0,
              moved-on reader c found.0 found.1,
              rw (silent-cell c cell cell_state later.0, found.2) (in_place-later cell_state cell_states found.0 (reaction_at cells cell_states found.0 reader)),
            )
        | inr here ↦
            let its = one-cell c cell cell_state reader here.0 in
            let none : c ≡ c + 0 = omega arith in (
              0,
              subst (IsReaderOf reader) none its.0,
              rw (its.1, silent-cells (c + 1) cells cell_states (omega arith) here.1) (in_place-first cell_state cell_states (port_reaction cell cell_state reader)),
            )
      ]

  -- output rails that do not read the wire count nothing
  silent-rails : (r : ℕ) (rails : List Rail) (counts : List ℕ) → length counts ≡ length rails → on_wire w (rail_places (λ k. Output (numbered k)) r rails) ≡ []
      → counted_after rails counts w ≡ counts
  silent-rails r [] [] len e = refl
  silent-rails r [] (count ∷ counts) len e = absurd (omega arith)
  silent-rails r (rail ∷ rails) [] len e = absurd (omega arith)
  silent-rails r (rail ∷ rails) (count ∷ counts) len e = elim (cases_Bool (w == wire_of rail)) [
    | inl hit ↦ let g = rw hit at e in absurd cc
    | inr miss ↦ let g = rw miss at e in rw miss (ap (λ cs. count ∷ cs) (silent-rails (r + 1) rails counts (omega arith) g))
  ]

  -- of output rails of which one reads the wire, that one counts
  one-of-rails : (r : ℕ) (rails : List Rail) (counts : List ℕ) (reader : Reader) → length counts ≡ length rails
      → on_wire w (rail_places (λ k. Output (numbered k)) r rails) ≡ reader ∷ []
      → (i : ℕ) × (reader ≡ Output (numbered (r + i))) × (counted_after rails counts w ≡ slice_set counts i (slice_index counts i + 1))
  one-of-rails r [] counts reader len e = absurd cc
  one-of-rails r (rail ∷ rails) [] reader len e = absurd (omega arith)
  one-of-rails r (rail ∷ rails) (count ∷ counts) reader len e = elim (cases_Bool (w == wire_of rail)) [
    | inl hit ↦
        let g : Output (numbered r) ∷ on_wire w (rail_places (λ k. Output (numbered k)) (r + 1) rails) ≡ reader ∷ [] = rw hit at e in
        let same : Output (numbered r) ≡ reader = cc in
        let none : on_wire w (rail_places (λ k. Output (numbered k)) (r + 1) rails) ≡ [] = cc in
        let start : r ≡ r + 0 = omega arith in
        let rest : counted_after rails counts w ≡ counts = silent-rails (r + 1) rails counts (omega arith) none in (
          0,
          sym same ∙ ap (λ k. Output (numbered k)) start,
          rw hit (ap (λ cs. (count + 1) ∷ cs) rest),
        )
    | inr miss ↦
        let g = rw miss at e in
        let found = one-of-rails (r + 1) rails counts reader (omega arith) g in
        let next : (r + 1) + found.0 ≡ r + suc found.0 = omega arith in
        let rest : counted_after rails counts w ≡ slice_set counts found.0 (slice_index counts found.0 + 1) = found.2 in (
          suc found.0,
          found.1 ∙ ap (λ k. Output (numbered k)) next,
          rw miss (ap (λ cs. count ∷ cs) rest),
        )
  ]

-- the outcome of one cell's reaction
moved-in_place : (net : PlainNetlist) (state : State) (w c : ℕ) (o : Option Reaction) → counted_after net.output_rails state.counted w ≡ state.counted
    → moved net state w (in_place state.cell_states c o) ≡ after_reaction state w c o
moved-in_place net state w c None e = refl
moved-in_place net state w c (Some reacted) e = rw e refl

at_reader : (net : PlainNetlist) (state : State) (w c : ℕ) (reader : Reader) → IsReaderOf reader c
    → after_reaction state w c (reaction_at net.cells state.cell_states c reader) ≡ delivered_to net state w reader
at_reader net state w c (A id) h = rw (← h) refl
at_reader net state w c (B id) h = rw (← h) refl
at_reader net state w c (From id) h = rw (← h) refl
at_reader net state w c (Feed id) h = rw (← h) refl
at_reader net state w c (Output id) h = absurd h

pub delivery-to : (net : PlainNetlist) (state : State) (w : ℕ) (reader : Reader) → readers net w ≡ reader ∷ [] → length state.cell_states ≡ length net.cells
    → length state.counted ≡ length net.output_rails → (state.pending w ≡ 0 → ⊥) → deliver net state w ≡ delivered_to net state w reader
delivery-to net state w reader e cell_states counts pending =
    let some = ne_eqb (state.pending w) 0 pending in
    let cells = cell_places reading 0 net.cells in
    let rails = rail_places (λ r. Output (numbered r)) 0 net.output_rails in
    elim (one_of_two (on_wire w cells) (on_wire w rails) reader (sym (on_wire-append w cells rails) ∙ e)) [
      | inl of_rails ↦
          let found = one-of-rails w 0 net.output_rails state.counted reader counts of_rails.1 in
          let start : 0 + found.0 ≡ found.0 = omega arith in
          let its : reader ≡ Output (numbered found.0) = found.1 ∙ ap (λ k. Output (numbered k)) start in
          rw (some, silent-cells w 0 net.cells state.cell_states cell_states of_rails.0, its, found.2)
          (ap (λ (pending : ℕ → ℕ). Delivered (record { cell_states = state.cell_states; pending = pending; counted = slice_set state.counted found.0 (slice_index state.counted found.0 + 1) }))
          (fun_ext (λ other. plus_none (state.pending other - (if w == other then 1 else 0)))))
      | inr of_cells ↦
          let found = one-of-cells w 0 net.cells state.cell_states reader cell_states of_cells.0 in
          let start : 0 + found.0 ≡ found.0 = omega arith in
          rw (some, found.2)
          (moved-in_place net state w found.0 _ (silent-rails w 0 net.output_rails state.counted counts of_cells.1)
          ∙ at_reader net state w found.0 reader (subst (IsReaderOf reader) start found.1))
    ]
  where
    plus_none : (n : ℕ) → n + 0 ≡ n
    plus_none n = omega arith
