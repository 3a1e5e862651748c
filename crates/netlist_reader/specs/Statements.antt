-- What a line says, by its form alone. The name in a line of a name is `name_in` of the line.
use Rattle.std.specs.Prelude.{ℕ, List, [], Option, Some, None, option_map, codes, if◌then◌else◌}
use Rattle.std.specs.Str.{bytes_eq}
use Rattle.pulse_ids.specs.Ids.{WireId, numbered}
use Rattle.cell_netlist.specs.declared.kinds.Version.TheVariants.{One, Two}
use Rattle.cell_netlist.specs.declared.lines.Rail.{Rail}
use Rattle.cell_netlist.specs.declared.lines.StateLine.{StateLine}
use Rattle.cell_netlist.specs.declared.lines.Cell.{Cell}
use Rattle.cell_netlist.specs.declared.lines.Cell.TheVariants.{La, Fa, Split, Droc}
use Rattle.word_scan.specs.Decimals.{plain_decimal_of}
use Rattle.netlist_reader.specs.declared.statements.Statement.{Statement}
use Rattle.netlist_reader.specs.declared.statements.Statement.TheVariants.{Version, Ports, Input, OneCell, Output, State, InputName, OutputName, End}
use Rattle.netlist_reader.specs.Words.{by_word, by_meaning, sign_of, role_of, bit_of, wire_in, output_in}

-- two numbers
abbrev pub ports_in : List ℕ → Option Statement
ports_in line =
    by_word line (λ inputs outputs.
    by_meaning (plain_decimal_of inputs) (λ inputs.
    by_meaning (plain_decimal_of outputs) (λ outputs.
    Some (Ports inputs outputs))))

-- a port, a sign and a wire
abbrev pub rail_in : List ℕ → Option Rail
rail_in line =
    by_word line (λ port rest.
    by_word rest (λ sign wire.
    by_meaning (plain_decimal_of port) (λ port.
    by_meaning (sign_of sign) (λ sign.
    by_meaning (wire_in wire) (λ wire.
    Some (record { port = port; sign = sign; wire = wire }))))))

-- a latch and a cell
abbrev pub state_in : List ℕ → Option StateLine
state_in line =
    by_word line (λ latch cell.
    by_meaning (plain_decimal_of latch) (λ latch.
    by_meaning (plain_decimal_of cell) (λ cell.
    Some (record { latch = latch; cell = numbered cell }))))

-- a port and a name of at least one byte, which may hold spaces
abbrev pub named_in : List ℕ → Option ℕ
named_in line = by_word line (λ port name. if bytes_eq name [] then None else plain_decimal_of port)

-- three wires
abbrev pub three_in : List ℕ → Option (WireId × WireId × WireId)
three_in line =
    by_word line (λ a rest.
    by_word rest (λ b c.
    by_meaning (wire_in a) (λ a.
    by_meaning (wire_in b) (λ b.
    by_meaning (wire_in c) (λ c.
    Some (a, b, c))))))

-- a role, a preload, a feed and two outputs
abbrev pub droc_in : List ℕ → Option Cell
droc_in line =
    by_word line (λ role rest.
    by_word rest (λ preload rest.
    by_word rest (λ feed rest.
    by_word rest (λ q n.
    by_meaning (role_of role) (λ role.
    by_meaning (bit_of preload) (λ preload.
    by_meaning (wire_in feed) (λ feed.
    by_meaning (output_in q) (λ q.
    by_meaning (output_in n) (λ n.
    Some (Droc role preload feed q n))))))))))

-- the cell of this word and the rest of its line
abbrev pub cell_in : List ℕ → List ℕ → Option Cell
cell_in word rest =
    if bytes_eq word (codes "la") then option_map (λ wires. La wires.0 wires.1 wires.2) (three_in rest) else
    (if bytes_eq word (codes "fa") then option_map (λ wires. Fa wires.0 wires.1 wires.2) (three_in rest) else
    (if bytes_eq word (codes "split") then option_map (λ wires. Split wires.0 wires.1 wires.2) (three_in rest) else
    (if bytes_eq word (codes "droc") then droc_in rest else None)))

-- what a first word and the rest of the line say
abbrev pub statement_by : List ℕ → List ℕ → Option Statement
statement_by word rest =
    if bytes_eq word (codes "ports") then ports_in rest else
    (if bytes_eq word (codes "input") then option_map Input (rail_in rest) else
    (if bytes_eq word (codes "output") then option_map Output (rail_in rest) else
    (if bytes_eq word (codes "state") then option_map State (state_in rest) else
    (if bytes_eq word (codes "iname") then option_map InputName (named_in rest) else
    (if bytes_eq word (codes "oname") then option_map OutputName (named_in rest) else
    option_map OneCell (cell_in word rest))))))

-- what a line says; none where it has no form of the text
abbrev pub statement_in : List ℕ → Option Statement
statement_in line =
    if bytes_eq line (codes "xsfq 1") then Some (Version One) else
    (if bytes_eq line (codes "xsfq 2") then Some (Version Two) else
    (if bytes_eq line (codes "end") then Some End else by_word line statement_by))
