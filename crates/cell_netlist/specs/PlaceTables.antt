-- Tables of the places on wires.
use Rattle.std.specs.Prelude.{◌≡◌, ℕ, Some, List, [], ◌∷◌, length, slice_get, slice_set}
use Rattle.cell_netlist.specs.declared.lines.Driver.{Driver}
use Rattle.cell_netlist.specs.declared.lines.Reader.{Reader}
use Rattle.cell_netlist.specs.Netlists.{PlainNetlist, number_of_wires}
use Rattle.cell_netlist.specs.Places.{At, drivers, readers}
use Rattle.cell_netlist.specs.Wired.{IsWired}

-- the table with each place written at its wire, in order
abbrev pub written : {Place : Type 0} → List (At Place) → List Place → List Place
written [] table = table
written (at ∷ rest) table = written rest (slice_set table at.0 at.1)

-- A netlist whose wires have one driver and one reader each, with tables that hold them for each wire.
pub record HasPlaceTables (net : PlainNetlist) (drives : List Driver) (reads : List Reader) : Type 0 where
  pub wired : IsWired net
  pub drivers_count : length drives ≡ number_of_wires net
  pub readers_count : length reads ≡ number_of_wires net
  pub driver_at : (wire : ℕ) (place : Driver) → slice_get drives wire ≡ Some place → drivers net wire ≡ place ∷ []
  pub reader_at : (wire : ℕ) (place : Reader) → slice_get reads wire ≡ Some place → readers net wire ≡ place ∷ []
