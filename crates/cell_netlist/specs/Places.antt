-- The places that drive a wire and those that read it.
use Rattle.std.specs.Prelude.{◌≡◌, ◌+◌, ℕ, Option, Some, None, option_map, option_and_then, slice_get, List, [], ◌∷◌, ◌++◌, if◌then◌else◌, ◌==◌}
use Rattle.pulse_ids.specs.Ids.{WireId, numbered}
use Rattle.cell_netlist.specs.declared.lines.Rail.{Rail}
use Rattle.cell_netlist.specs.declared.lines.Cell.{Cell}
use Rattle.cell_netlist.specs.declared.lines.Cell.TheVariants as cells
use Rattle.cell_netlist.specs.declared.lines.Driver.{Driver}
use Rattle.cell_netlist.specs.declared.lines.Driver.TheVariants as drivers_of
use Rattle.cell_netlist.specs.declared.lines.Reader.{Reader}
use Rattle.cell_netlist.specs.declared.lines.Reader.TheVariants as readers_of
use Rattle.cell_netlist.specs.Netlists.{PlainNetlist, wire_of}

-- a place with its wire
abbrev pub At : Type 0 → Type 0
At Place = ℕ × Place

-- the place at an output that may be unused
abbrev pub place_if_used : Option WireId → Driver → List (At Driver)
place_if_used None place = []
place_if_used (Some wire) place = (wire.number, place) ∷ []

-- the places where the cell of this number drives
abbrev pub driving : ℕ → Cell → List (At Driver)
driving c (cells.La a b out) = (out.number, drivers_of.Out (numbered c)) ∷ []
driving c (cells.Fa a b out) = (out.number, drivers_of.Out (numbered c)) ∷ []
driving c (cells.Split from left right) = (left.number, drivers_of.Left (numbered c)) ∷ (right.number, drivers_of.Right (numbered c)) ∷ []
driving c (cells.Droc role preload feed q n) = place_if_used q (drivers_of.Q (numbered c)) ++ place_if_used n (drivers_of.N (numbered c))

-- the places where the cell of this number reads
abbrev pub reading : ℕ → Cell → List (At Reader)
reading c (cells.La a b out) = (a.number, readers_of.A (numbered c)) ∷ (b.number, readers_of.B (numbered c)) ∷ []
reading c (cells.Fa a b out) = (a.number, readers_of.A (numbered c)) ∷ (b.number, readers_of.B (numbered c)) ∷ []
reading c (cells.Split from left right) = (from.number, readers_of.From (numbered c)) ∷ []
reading c (cells.Droc role preload feed q n) = (feed.number, readers_of.Feed (numbered c)) ∷ []

-- the places of the cells, numbered on from c
abbrev pub cell_places : {Place : Type 0} → (ℕ → Cell → List (At Place)) → ℕ → List Cell → List (At Place)
cell_places places c [] = []
cell_places places c (cell ∷ rest) = places c cell ++ cell_places places (c + 1) rest

-- the places of the rails, numbered on from r
abbrev pub rail_places : {Place : Type 0} → (ℕ → Place) → ℕ → List Rail → List (At Place)
rail_places place r [] = []
rail_places place r (rail ∷ rest) = (wire_of rail, place r) ∷ rail_places place (r + 1) rest

-- the places on a wire
abbrev pub on_wire : {Place : Type 0} → ℕ → List (At Place) → List Place
on_wire wire [] = []
on_wire wire (at ∷ rest) = if wire == at.0 then at.1 ∷ on_wire wire rest else on_wire wire rest

-- all places that drive, input rails first, each with its wire
abbrev pub driving_places : PlainNetlist → List (At Driver)
driving_places net = rail_places (λ r. drivers_of.Input (numbered r)) 0 net.input_rails ++ cell_places driving 0 net.cells

-- all places that read, output rails last, each with its wire
abbrev pub reading_places : PlainNetlist → List (At Reader)
reading_places net = cell_places reading 0 net.cells ++ rail_places (λ r. readers_of.Output (numbered r)) 0 net.output_rails

-- the places that drive a wire
abbrev pub drivers : PlainNetlist → ℕ → List Driver
drivers net wire = on_wire wire (driving_places net)

-- the places that read a wire
abbrev pub readers : PlainNetlist → ℕ → List Reader
readers net wire = on_wire wire (reading_places net)

-- a driving place of the cell of a number
abbrev pub IsDriverOf : Driver → ℕ → Type 0
IsDriverOf (drivers_of.Input id) c = ⊥
IsDriverOf (drivers_of.Out id) c = id.number ≡ c
IsDriverOf (drivers_of.Left id) c = id.number ≡ c
IsDriverOf (drivers_of.Right id) c = id.number ≡ c
IsDriverOf (drivers_of.Q id) c = id.number ≡ c
IsDriverOf (drivers_of.N id) c = id.number ≡ c

-- a reading place of the cell of a number
abbrev pub IsReaderOf : Reader → ℕ → Type 0
IsReaderOf (readers_of.A id) c = id.number ≡ c
IsReaderOf (readers_of.B id) c = id.number ≡ c
IsReaderOf (readers_of.From id) c = id.number ≡ c
IsReaderOf (readers_of.Feed id) c = id.number ≡ c
IsReaderOf (readers_of.Output id) c = ⊥

-- the cell of the first of these readers, and 0 where that is an output rail or there is none
abbrev pub first_cell : List Reader → ℕ
first_cell [] = 0
first_cell (readers_of.A id ∷ rest) = id.number
first_cell (readers_of.B id ∷ rest) = id.number
first_cell (readers_of.From id ∷ rest) = id.number
first_cell (readers_of.Feed id ∷ rest) = id.number
first_cell (readers_of.Output id ∷ rest) = 0

-- the cell that reads a wire of one reader, and 0 where that is an output rail
abbrev pub reading_cell : PlainNetlist → ℕ → ℕ
reading_cell net wire = first_cell (readers net wire)

-- the wire on an output of a cell, where the cell has that output and it is used
abbrev pub output_at : Cell → Driver → Option WireId
output_at (cells.La a b out) (drivers_of.Out id) = Some out
output_at (cells.Fa a b out) (drivers_of.Out id) = Some out
output_at (cells.Split from left right) (drivers_of.Left id) = Some left
output_at (cells.Split from left right) (drivers_of.Right id) = Some right
output_at (cells.Droc role preload feed q n) (drivers_of.Q id) = q
output_at (cells.Droc role preload feed q n) (drivers_of.N id) = n
output_at cell place = None

-- the wire on an input of a cell, where the cell has that input
abbrev pub input_at : Cell → Reader → Option WireId
input_at (cells.La a b out) (readers_of.A id) = Some a
input_at (cells.La a b out) (readers_of.B id) = Some b
input_at (cells.Fa a b out) (readers_of.A id) = Some a
input_at (cells.Fa a b out) (readers_of.B id) = Some b
input_at (cells.Split from left right) (readers_of.From id) = Some from
input_at (cells.Droc role preload feed q n) (readers_of.Feed id) = Some feed
input_at cell place = None

-- the wire on an output of the cell of a number
abbrev pub output_of : List Cell → ℕ → Driver → Option WireId
output_of cells c place = option_and_then (λ cell. output_at cell place) (slice_get cells c)

-- the wire on an input of the cell of a number
abbrev pub input_of : List Cell → ℕ → Reader → Option WireId
input_of cells c place = option_and_then (λ cell. input_at cell place) (slice_get cells c)

-- the wire of the rail of a number
abbrev pub rail_wire : List Rail → ℕ → Option WireId
rail_wire rails r = option_map (λ rail. rail.wire) (slice_get rails r)

-- the wire on a driving place of a netlist: that output of that cell, or that input rail
abbrev pub wire_driven_at : PlainNetlist → Driver → Option WireId
wire_driven_at net (drivers_of.Input id) = rail_wire net.input_rails id.number
wire_driven_at net (drivers_of.Out id) = output_of net.cells id.number (drivers_of.Out id)
wire_driven_at net (drivers_of.Left id) = output_of net.cells id.number (drivers_of.Left id)
wire_driven_at net (drivers_of.Right id) = output_of net.cells id.number (drivers_of.Right id)
wire_driven_at net (drivers_of.Q id) = output_of net.cells id.number (drivers_of.Q id)
wire_driven_at net (drivers_of.N id) = output_of net.cells id.number (drivers_of.N id)

-- the wire on a reading place of a netlist: that input of that cell, or that output rail
abbrev pub wire_read_at : PlainNetlist → Reader → Option WireId
wire_read_at net (readers_of.A id) = input_of net.cells id.number (readers_of.A id)
wire_read_at net (readers_of.B id) = input_of net.cells id.number (readers_of.B id)
wire_read_at net (readers_of.From id) = input_of net.cells id.number (readers_of.From id)
wire_read_at net (readers_of.Feed id) = input_of net.cells id.number (readers_of.Feed id)
wire_read_at net (readers_of.Output id) = rail_wire net.output_rails id.number
