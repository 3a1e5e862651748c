-- What the places of a netlist's wires are.
use Rattle.std.proofs.Common.{◌≡◌, ◌↔◌, ◌≤◌, ◌∙◌, ℕ, Some, List, [], ◌∷◌, length, slice_get, ap, sym, subst, inl, inr, arith, refl}
use Rattle.pulse_ids.specs.Ids.{WireId, numbered}
use Rattle.cell_netlist.specs.declared.lines.Cell.{Cell}
use Rattle.cell_netlist.specs.declared.lines.Driver.{Driver}
use Rattle.cell_netlist.specs.declared.lines.Driver.TheVariants.{Input, Out, Left, Right, Q, N}
use Rattle.cell_netlist.specs.declared.lines.Reader.{Reader}
use Rattle.cell_netlist.specs.declared.lines.Reader.TheVariants.{A, B, From, Feed, Output}
use Rattle.pulse_ids.specs.Lists.{IsIn}
use Rattle.cell_netlist.specs.Netlists.{PlainNetlist, outs, reads}
use Rattle.cell_netlist.specs.Places.{driving, reading, cell_places, rail_places, drivers, readers, IsDriverOf, IsReaderOf, output_at, input_at, output_of, input_of, rail_wire, wire_driven_at}
use Rattle.cell_netlist.specs.Places.{wire_read_at}
use Rattle.cell_netlist.specs.Wired.{IsWired}
use Rattle.cell_netlist.proofs.PlaceLemmas.{drivers-count, readers-count}
use Rattle.cell_netlist.proofs.WireLemmas.{driven_once, read_once}
use Rattle.cell_netlist.proofs.PlaceWires.{same_wire, stepped-from, mapped-from, rail_place-at, rail_place-from, cell_place-at, cell_place-from, on_wire-parts, on_wire-left, on_wire-right}
use Rattle.cell_netlist.proofs.PlaceWires.{driving-at, reading-at, driving-from, reading-from, out-place, read-place}

-- two items of a list of at most one item are the same
only_item : {X : Type 0} (xs : List X) (x y : X) → length xs ≤ 1 → IsIn x xs → IsIn y xs → x ≡ y
only_item [] x y few h g = absurd h
only_item (z ∷ []) x y few (inl e) (inl f) = sym e ∙ f
only_item (z ∷ []) x y few (inl e) (inr none) = absurd none
only_item (z ∷ []) x y few (inr none) g = absurd none
only_item (z ∷ w ∷ xs) x y few h g = absurd (omega arith)

module _ (net : PlainNetlist) where
  -- a place of a cell is on the wire that the cell has there
  driven_at-cell : (c : ℕ) (cell : Cell) (place : Driver) → slice_get net.cells c ≡ Some cell → IsDriverOf place c → wire_driven_at net place ≡ output_at cell place
  driven_at-cell c cell (Input id) at own = absurd own
  driven_at-cell c cell (Out id) at own = rw (own, at) refl
  driven_at-cell c cell (Left id) at own = rw (own, at) refl
  driven_at-cell c cell (Right id) at own = rw (own, at) refl
  driven_at-cell c cell (Q id) at own = rw (own, at) refl
  driven_at-cell c cell (N id) at own = rw (own, at) refl

  read_at-cell : (c : ℕ) (cell : Cell) (place : Reader) → slice_get net.cells c ≡ Some cell → IsReaderOf place c → wire_read_at net place ≡ input_at cell place
  read_at-cell c cell (Output id) at own = absurd own
  read_at-cell c cell (A id) at own = rw (own, at) refl
  read_at-cell c cell (B id) at own = rw (own, at) refl
  read_at-cell c cell (From id) at own = rw (own, at) refl
  read_at-cell c cell (Feed id) at own = rw (own, at) refl

  module _ (wire : WireId) where
    driver-at : (place : Driver) → IsIn place (drivers net wire.number) → wire_driven_at net place ≡ Some wire
    driver-at place h =
        elim (on_wire-parts wire.number (rail_places (λ r. Input (numbered r)) 0 net.input_rails) (cell_places driving 0 net.cells) place h) [
          | inl of_rail ↦
              let found = rail_place-at wire.number (λ r. Input (numbered r)) 0 net.input_rails place of_rail in
              let number : found.0 ≡ found.1 = omega (arith, found.2) in
              let there : rail_wire net.input_rails found.0 ≡ Some wire = rw (number, found.4) (ap (λ z. Some z) (same_wire found.3.wire wire found.5)) in
              subst (λ x. wire_driven_at net x ≡ Some wire) found.6 there
          | inr of_cell ↦
              let found = cell_place-at wire.number driving 0 net.cells place of_cell in
              let number : found.0 ≡ found.1 = omega (arith, found.2) in
              let its = driving-at wire found.0 found.3 place found.5 in
              driven_at-cell found.0 found.3 place (subst (λ i. slice_get net.cells i ≡ Some found.3) (sym number) found.4) its.0 ∙ its.1
        ]

    reader-at : (place : Reader) → IsIn place (readers net wire.number) → wire_read_at net place ≡ Some wire
    reader-at place h =
        elim (on_wire-parts wire.number (cell_places reading 0 net.cells) (rail_places (λ r. Output (numbered r)) 0 net.output_rails) place h) [
          | inl of_cell ↦
              let found = cell_place-at wire.number reading 0 net.cells place of_cell in
              let number : found.0 ≡ found.1 = omega (arith, found.2) in
              let its = reading-at wire found.0 found.3 place found.5 in
              read_at-cell found.0 found.3 place (subst (λ i. slice_get net.cells i ≡ Some found.3) (sym number) found.4) its.0 ∙ its.1
          | inr of_rail ↦
              let found = rail_place-at wire.number (λ r. Output (numbered r)) 0 net.output_rails place of_rail in
              let number : found.0 ≡ found.1 = omega (arith, found.2) in
              let there : rail_wire net.output_rails found.0 ≡ Some wire = rw (number, found.4) (ap (λ z. Some z) (same_wire found.3.wire wire found.5)) in
              subst (λ x. wire_read_at net x ≡ Some wire) found.6 there
        ]

    -- a place of a cell among the drivers and readers
    cell_driver : (c : ℕ) (place : Driver) → IsDriverOf place c → output_of net.cells c place ≡ Some wire → IsIn place (drivers net wire.number)
    cell_driver c place own e =
        let its = stepped-from (λ cell. output_at cell place) (slice_get net.cells c) wire e in
        on_wire-right wire.number (rail_places (λ r. Input (numbered r)) 0 net.input_rails) (cell_places driving 0 net.cells) place
        (cell_place-from wire.number driving 0 c c net.cells its.0 place (omega arith) its.1 (driving-from wire c its.0 place own its.2))

    cell_reader : (c : ℕ) (place : Reader) → IsReaderOf place c → input_of net.cells c place ≡ Some wire → IsIn place (readers net wire.number)
    cell_reader c place own e =
        let its = stepped-from (λ cell. input_at cell place) (slice_get net.cells c) wire e in
        on_wire-left wire.number (cell_places reading 0 net.cells) (rail_places (λ r. Output (numbered r)) 0 net.output_rails) place
        (cell_place-from wire.number reading 0 c c net.cells its.0 place (omega arith) its.1 (reading-from wire c its.0 place own its.2))

    driver-from : (place : Driver) → wire_driven_at net place ≡ Some wire → IsIn place (drivers net wire.number)
    driver-from (Input id) e =
        let its = mapped-from (λ rail. rail.wire) (slice_get net.input_rails id.number) wire e in
        on_wire-left wire.number (rail_places (λ r. Input (numbered r)) 0 net.input_rails) (cell_places driving 0 net.cells) (Input id)
        (rail_place-from wire.number (λ r. Input (numbered r)) 0 id.number id.number net.input_rails its.0 (omega arith) its.1 (ap (λ z. z.number) its.2))
    driver-from (Out id) e = cell_driver id.number (Out id) refl e
    driver-from (Left id) e = cell_driver id.number (Left id) refl e
    driver-from (Right id) e = cell_driver id.number (Right id) refl e
    driver-from (Q id) e = cell_driver id.number (Q id) refl e
    driver-from (N id) e = cell_driver id.number (N id) refl e

    reader-from : (place : Reader) → wire_read_at net place ≡ Some wire → IsIn place (readers net wire.number)
    reader-from (Output id) e =
        let its = mapped-from (λ rail. rail.wire) (slice_get net.output_rails id.number) wire e in
        on_wire-right wire.number (cell_places reading 0 net.cells) (rail_places (λ r. Output (numbered r)) 0 net.output_rails) (Output id)
        (rail_place-from wire.number (λ r. Output (numbered r)) 0 id.number id.number net.output_rails its.0 (omega arith) its.1 (ap (λ z. z.number) its.2))
    reader-from (A id) e = cell_reader id.number (A id) refl e
    reader-from (B id) e = cell_reader id.number (B id) refl e
    reader-from (From id) e = cell_reader id.number (From id) refl e
    reader-from (Feed id) e = cell_reader id.number (Feed id) refl e

    pub driver-is : (place : Driver) → IsIn place (drivers net wire.number) ↔ (wire_driven_at net place ≡ Some wire)
    driver-is place = (driver-at place, driver-from place)

    pub reader-is : (place : Reader) → IsIn place (readers net wire.number) ↔ (wire_read_at net place ≡ Some wire)
    reader-is place = (reader-at place, reader-from place)

    pub out-driver : (c : ℕ) (cell : Cell) → slice_get net.cells c ≡ Some cell → IsIn wire.number (outs cell)
        → (place : Driver) × IsDriverOf place c × (wire_driven_at net place ≡ Some wire)
    out-driver c cell at h = let its = out-place wire c cell h in (its.0, its.1.0, driven_at-cell c cell its.0 at its.1.0 ∙ its.1.1)

    pub read-reader : (c : ℕ) (cell : Cell) → slice_get net.cells c ≡ Some cell → IsIn wire.number (reads cell)
        → (place : Reader) × IsReaderOf place c × (wire_read_at net place ≡ Some wire)
    read-reader c cell at h = let its = read-place wire c cell h in (its.0, its.1.0, read_at-cell c cell its.0 at its.1.0 ∙ its.1.1)

    module _ (wired : IsWired net) where
      pub driver-only : (one other : Driver) → wire_driven_at net one ≡ Some wire → wire_driven_at net other ≡ Some wire → one ≡ other
      driver-only one other e f =
          let count = drivers-count net wire.number in
          let few = driven_once net wired wire.number in
          only_item (drivers net wire.number) one other (omega arith) (driver-from one e) (driver-from other f)

      pub reader-only : (one other : Reader) → wire_read_at net one ≡ Some wire → wire_read_at net other ≡ Some wire → one ≡ other
      reader-only one other e f =
          let count = readers-count net wire.number in
          let few = read_once net wired wire.number in
          only_item (readers net wire.number) one other (omega arith) (reader-from one e) (reader-from other f)
