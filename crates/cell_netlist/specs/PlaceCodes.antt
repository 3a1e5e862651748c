-- Places on wires as numbers: eight times the line of the place, and its kind below that.
use Rattle.std.specs.Prelude.{ℕ, ◌/◌, ◌%◌, ◌==◌, if◌then◌else◌}
use Rattle.pulse_ids.specs.Ids.{numbered}
use Rattle.cell_netlist.specs.declared.lines.Driver.{Driver}
use Rattle.cell_netlist.specs.declared.lines.Driver.TheVariants as drivers_of
use Rattle.cell_netlist.specs.declared.lines.Reader.{Reader}
use Rattle.cell_netlist.specs.declared.lines.Reader.TheVariants as readers_of

-- the driving place of a kind, in the order of the variants, at a line
abbrev pub driver_of_kind : ℕ → ℕ → Driver
driver_of_kind kind line =
    if kind == 0 then drivers_of.Input (numbered line)
    else if kind == 1 then drivers_of.Out (numbered line)
    else if kind == 2 then drivers_of.Left (numbered line)
    else if kind == 3 then drivers_of.Right (numbered line)
    else if kind == 4 then drivers_of.Q (numbered line)
    else drivers_of.N (numbered line)

-- the reading place of a kind, in the order of the variants, at a line
abbrev pub reader_of_kind : ℕ → ℕ → Reader
reader_of_kind kind line =
    if kind == 0 then readers_of.A (numbered line)
    else if kind == 1 then readers_of.B (numbered line)
    else if kind == 2 then readers_of.From (numbered line)
    else if kind == 3 then readers_of.Feed (numbered line)
    else readers_of.Output (numbered line)

-- the driving place of a code
abbrev pub driver_by : ℕ → Driver
driver_by code = driver_of_kind (code % 8) (code / 8)

-- the reading place of a code
abbrev pub reader_by : ℕ → Reader
reader_by code = reader_of_kind (code % 8) (code / 8)

-- the line of a driving place, among the input rails or the cells
abbrev pub driver_line : Driver → ℕ
driver_line (drivers_of.Input id) = id.number
driver_line (drivers_of.Out id) = id.number
driver_line (drivers_of.Left id) = id.number
driver_line (drivers_of.Right id) = id.number
driver_line (drivers_of.Q id) = id.number
driver_line (drivers_of.N id) = id.number

-- the line of a reading place, among the cells or the output rails
abbrev pub reader_line : Reader → ℕ
reader_line (readers_of.A id) = id.number
reader_line (readers_of.B id) = id.number
reader_line (readers_of.From id) = id.number
reader_line (readers_of.Feed id) = id.number
reader_line (readers_of.Output id) = id.number
