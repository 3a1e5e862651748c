-- Tables of places: what is written stands there.
use Rattle.std.proofs.Common.{◌≡◌, ◌<◌, ◌+◌, ℕ, max, ◌==◌, false, Some, List, [], ◌∷◌, ◌++◌, map, length, drop, replicate, slice_get, slice_set, ap, sym, ◌∙◌, subst, inl, inr, arith, refl}
use Rattle.std.specs.List.{flat_map}
use Rattle.std.proofs.lemmas.Bool.{cases_Bool, eqb-true, eq-eqb}
use Rattle.std.proofs.lemmas.Option.{slice_get_within}
use Rattle.std.proofs.lemmas.List.{length-replicate}
use Rattle.pulse_ids.specs.Ids.{numbered}
use Rattle.pulse_ids.specs.declared.ids.Id.{Id}
use Rattle.cell_netlist.specs.declared.lines.Rail.{Rail}
use Rattle.cell_netlist.specs.declared.lines.Cell.{Cell}
use Rattle.cell_netlist.specs.declared.lines.Driver.{Driver}
use Rattle.cell_netlist.specs.declared.lines.Reader.{Reader}
use Rattle.cell_netlist.specs.Netlists.{PlainNetlist, wire_of, wire_bound, number_of_wires}
use Rattle.cell_netlist.specs.Places.{At, cell_places, rail_places, on_wire, driving_places, reading_places}
use Rattle.cell_netlist.specs.PlaceTables.{written, HasPlaceTables}
use Rattle.cell_netlist.specs.Wired.{IsWired}
use Rattle.cell_netlist.proofs.CallerLemmasOnLists.{drop-at, set-length, set-same, set-other}
use Rattle.cell_netlist.proofs.WireBounds.{wire_bound-append}
use Rattle.cell_netlist.proofs.PlaceLemmas.{drivers-count, readers-count}

-- the identifier of a number
pub numbered-is : {K : Type 0} (id : Id K) (n : ℕ) → id.number ≡ n → id ≡ numbered n
numbered-is id n e = ap (λ (m : ℕ). numbered m) e

module _ {Place : Type 0} where
  pub written-append : (xs ys : List (At Place)) (table : List Place) → written (xs ++ ys) table ≡ written ys (written xs table)
  written-append [] ys table = refl
  written-append (at ∷ xs) ys table = written-append xs ys (slice_set table at.0 at.1)

  pub written-length : (places : List (At Place)) (table : List Place) → length (written places table) ≡ length table
  written-length [] table = refl
  written-length (at ∷ places) table = written-length places (slice_set table at.0 at.1) ∙ set-length table at.0 at.1

  -- a wire with no place keeps what stood there
  written-none : (places : List (At Place)) (table : List Place) (wire : ℕ) → on_wire wire places ≡ [] → slice_get (written places table) wire ≡ slice_get table wire
  written-none [] table wire e = refl
  written-none (at ∷ places) table wire e = elim (cases_Bool (wire == at.0)) [
    | inl hit ↦ let g = rw hit at e in absurd cc
    | inr miss ↦
        let g = rw miss at e in
        written-none places (slice_set table at.0 at.1) wire g ∙ set-other table at.0 wire at.1 (λ same. apart wire at.0 same miss)
  ]
    where
      apart : (m n : ℕ) → m ≡ n → (m == n) ≡ false → ⊥
      apart m n same miss = let hit = eq-eqb m n same in cc

  -- a wire with one place holds it
  pub written-one : (places : List (At Place)) (table : List Place) (wire : ℕ) (place : Place) → on_wire wire places ≡ place ∷ [] → wire < length table
      → slice_get (written places table) wire ≡ Some place
  written-one [] table wire place e lt = absurd cc
  written-one (at ∷ places) table wire place e lt = elim (cases_Bool (wire == at.0)) [
    | inl hit ↦
        let g : at.1 ∷ on_wire wire places ≡ place ∷ [] = rw hit at e in
        let none : on_wire wire places ≡ [] = cc in
        let same : at.1 ≡ place = cc in
        let there : wire ≡ at.0 = eqb-true _ _ hit in
        written-none places (slice_set table at.0 at.1) wire none
        ∙ (ap (λ w. slice_get (slice_set table at.0 at.1) w) there ∙ (set-same table at.0 at.1 (subst (λ w. w < length table) there lt) ∙ ap (λ p. Some p) same))
    | inr miss ↦
        let g = rw miss at e in
        let count = set-length table at.0 at.1 in
        written-one places (slice_set table at.0 at.1) wire place g (omega arith)
  ]

  -- a list of one item
  one-item : (xs : List Place) → length xs ≡ 1 → (x : Place) × (xs ≡ x ∷ [])
  one-item [] e = absurd (omega arith)
  one-item (x ∷ []) e = (x, refl)
  one-item (x ∷ y ∷ xs) e = absurd (omega arith)

  -- where the wire has one place, the table holds no other
  pub written-is : (places : List (At Place)) (table : List Place) (wire : ℕ) (place : Place) → length (on_wire wire places) ≡ 1
      → slice_get (written places table) wire ≡ Some place → on_wire wire places ≡ place ∷ []
  written-is places table wire place count e =
      let one = one-item (on_wire wire places) count in
      let inside = slice_get_within (written places table) wire place e in
      let long = written-length places table in
      let its = written-one places table wire one.0 one.1 (omega arith) in
      let same : one.0 ≡ place = cc in
      one.1 ∙ ap (λ p. p ∷ []) same

  -- the rail of a number written, and then those behind it
  pub written_rail : (f : ℕ → Place) (rails : List Rail) (i : ℕ) (rail : Rail) (table : List Place) → slice_get rails i ≡ Some rail
      → written (rail_places f (i + 1) (drop (i + 1) rails)) (slice_set table (wire_of rail) (f i)) ≡ written (rail_places f i (drop i rails)) table
  written_rail f rails i rail table e = rw (drop-at rails i rail e) refl

  -- the cell of a number written, and then those behind it
  pub written_cell : (places : ℕ → Cell → List (At Place)) (cells : List Cell) (i : ℕ) (cell : Cell) (table : List Place) → slice_get cells i ≡ Some cell
      → written (cell_places places (i + 1) (drop (i + 1) cells)) (written (places i cell) table) ≡ written (cell_places places i (drop i cells)) table
  written_cell places cells i cell table e =
      rw (drop-at cells i cell e) (sym (written-append (places i cell) (cell_places places (i + 1) (drop (i + 1) cells)) table))

-- the wires of the lines from a number on are those of its line and of the lines behind it
pub rail_bound : (rails : List Rail) (i : ℕ) (rail : Rail) → slice_get rails i ≡ Some rail
    → wire_bound (map wire_of (drop i rails)) ≡ max (wire_of rail + 1) (wire_bound (map wire_of (drop (i + 1) rails)))
rail_bound rails i rail e = rw (drop-at rails i rail e) refl

pub cell_bounds : (wires : Cell → List ℕ) (cells : List Cell) (i : ℕ) (cell : Cell) → slice_get cells i ≡ Some cell
    → wire_bound (flat_map wires (drop i cells)) ≡ max (wire_bound (wires cell)) (wire_bound (flat_map wires (drop (i + 1) cells)))
cell_bounds wires cells i cell e = rw (drop-at cells i cell e) (wire_bound-append (wires cell) (flat_map wires (drop (i + 1) cells)))

-- the tables of a wired netlist
pub tables-of : (net : PlainNetlist) (drives : Driver) (reader : Reader) → IsWired net
    → HasPlaceTables net (written (driving_places net) (replicate (number_of_wires net) drives)) (written (reading_places net) (replicate (number_of_wires net) reader))
tables-of net drives reader wired = record {
  wired = wired;
  drivers_count = written-length (driving_places net) (replicate (number_of_wires net) drives) ∙ length-replicate (number_of_wires net) drives;
  readers_count = written-length (reading_places net) (replicate (number_of_wires net) reader) ∙ length-replicate (number_of_wires net) reader;
  driver_at = λ wire place e.
      let inside = slice_get_within _ wire place e in
      let long = written-length (driving_places net) (replicate (number_of_wires net) drives) in
      let many = length-replicate (number_of_wires net) drives in
      let below : wire < number_of_wires net = omega arith in
      let low = wired.all_driven wire below in
      let high = wired.none_driven_twice wire below in
      let count = drivers-count net wire in
      written-is (driving_places net) _ wire place (omega arith) e;
  reader_at = λ wire place e.
      let inside = slice_get_within _ wire place e in
      let long = written-length (reading_places net) (replicate (number_of_wires net) reader) in
      let many = length-replicate (number_of_wires net) reader in
      let below : wire < number_of_wires net = omega arith in
      let low = wired.all_read wire below in
      let high = wired.none_read_twice wire below in
      let count = readers-count net wire in
      written-is (reading_places net) _ wire place (omega arith) e;
}
