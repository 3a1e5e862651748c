-- What lines tell of a netlist, and where a line may stand: the sections in order, and latches of state lines and named
-- ports rising.
use Rattle.std.specs.Prelude.{ℕ, ◌+◌, ◌==◌, Bool, true, false, ◌&&◌, List, [], ◌∷◌, ◌++◌, Option, Some, None, option_map, unwrap_or, length, nat_lt, nat_le, if◌then◌else◌}
use Rattle.std.specs.Option.{option_or}
use Rattle.std.specs.List.{flat_map, list_all, list_any}
use Rattle.cell_netlist.specs.declared.kinds.Version as kinds
use Rattle.cell_netlist.specs.declared.kinds.Version.TheVariants.{One, Two}
use Rattle.cell_netlist.specs.declared.lines.Rail.{Rail}
use Rattle.cell_netlist.specs.declared.lines.StateLine.{StateLine}
use Rattle.cell_netlist.specs.declared.lines.Cell.{Cell}
use Rattle.cell_netlist.specs.Netlists.{PlainNetlist, netlist_of, with_states}
use Rattle.netlist_reader.specs.declared.statements.Statement.{Statement}
use Rattle.netlist_reader.specs.declared.statements.Statement.TheVariants as statements
use Rattle.netlist_reader.specs.declared.places.Section.{Section}
use Rattle.netlist_reader.specs.declared.places.Section.TheVariants.{Version, Ports, InputRails, Cells, OutputRails, States, InputNames, OutputNames, End}
use Rattle.netlist_reader.specs.declared.refusals.NetRefusal.{NetRefusal}
use Rattle.netlist_reader.specs.declared.refusals.NetRefusal.TheVariants.{BadLine, Limit}
use Rattle.netlist_reader.specs.Words.{name_in}
use Rattle.netlist_reader.specs.Statements.{statement_in}
use Rattle.netlist_reader.specs.Limits.{limit_of}

-- the place of a section among them, from 0
abbrev pub rank : Section → ℕ
rank Version = 0
rank Ports = 1
rank InputRails = 2
rank Cells = 3
rank OutputRails = 4
rank States = 5
rank InputNames = 6
rank OutputNames = 7
rank End = 8

-- the section of a statement
abbrev pub section_of : Statement → Section
section_of (statements.Version version) = Version
section_of (statements.Ports inputs outputs) = Ports
section_of (statements.Input rail) = InputRails
section_of (statements.OneCell cell) = Cells
section_of (statements.Output rail) = OutputRails
section_of (statements.State state) = States
section_of (statements.InputName port) = InputNames
section_of (statements.OutputName port) = OutputNames
section_of statements.End = End

-- the place of a line's section
abbrev pub rank_by : Option Statement → ℕ
rank_by None = 0
rank_by (Some statement) = rank (section_of statement)

-- what a line adds to each list of a netlist
abbrev pub input_by : Option Statement → List Rail
input_by (Some (statements.Input rail)) = rail ∷ []
input_by said = []

abbrev pub cell_by : Option Statement → List Cell
cell_by (Some (statements.OneCell cell)) = cell ∷ []
cell_by said = []

abbrev pub output_by : Option Statement → List Rail
output_by (Some (statements.Output rail)) = rail ∷ []
output_by said = []

abbrev pub state_by : Option Statement → List StateLine
state_by (Some (statements.State state)) = state ∷ []
state_by said = []

abbrev pub input_name_by : List ℕ → Option Statement → List (ℕ × List ℕ)
input_name_by line (Some (statements.InputName port)) = (port, name_in line) ∷ []
input_name_by line said = []

abbrev pub output_name_by : List ℕ → Option Statement → List (ℕ × List ℕ)
output_name_by line (Some (statements.OutputName port)) = (port, name_in line) ∷ []
output_name_by line said = []

-- the version that a line says, and one where it says none
abbrev pub version_by : Option Statement → kinds.Version
version_by (Some (statements.Version version)) = version
version_by said = One

-- the first line is that of the version
abbrev pub version_of : List (List ℕ) → kinds.Version
version_of [] = One
version_of (version ∷ lines) = version_by (statement_in version)

-- the numbers of input and output ports
abbrev pub ports_by : Option Statement → Option (ℕ × ℕ)
ports_by (Some (statements.Ports inputs outputs)) = Some (inputs, outputs)
ports_by said = None

-- the second line is that of the ports
abbrev pub ports_of : List (List ℕ) → Option (ℕ × ℕ)
ports_of [] = None
ports_of (version ∷ []) = None
ports_of (version ∷ ports ∷ lines) = ports_by (statement_in ports)

-- the number of input ports, where the line of the ports is there
abbrev pub inputs_of : List (List ℕ) → Option ℕ
inputs_of lines = option_map (λ ports. ports.0) (ports_of lines)

abbrev pub outputs_of : List (List ℕ) → Option ℕ
outputs_of lines = option_map (λ ports. ports.1) (ports_of lines)

-- the netlist that lines tell: the version, the ports, and each list in the order of its lines
abbrev pub netlist_in : List (List ℕ) → PlainNetlist
netlist_in lines = with_states (version_of lines) (flat_map (λ line. state_by (statement_in line)) lines)
    (netlist_of (unwrap_or (inputs_of lines) 0) (unwrap_or (outputs_of lines) 0)
    (flat_map (λ line. input_by (statement_in line)) lines)
    (flat_map (λ line. cell_by (statement_in line)) lines)
    (flat_map (λ line. output_by (statement_in line)) lines)
    (flat_map (λ line. input_name_by line (statement_in line)) lines)
    (flat_map (λ line. output_name_by line (statement_in line)) lines))

-- a line of a section may stand after these lines: the first is the version and the second the ports, and then no
-- line of a later section stands before
abbrev pub follows_lines : List (List ℕ) → Section → Bool
follows_lines [] section = rank section == 0
follows_lines (version ∷ []) section = rank section == 1
follows_lines (version ∷ ports ∷ lines) section =
    nat_le 2 (rank section) && list_all (λ line. nat_le (rank_by (statement_in line)) (rank section)) lines

-- a port is above all that are named
abbrev pub is_above : ℕ → List (ℕ × List ℕ) → Bool
is_above port names = list_all (λ named. nat_lt named.0 port) names

-- a latch is above that of every state line
abbrev pub is_above_states : ℕ → List StateLine → Bool
is_above_states latch lines = list_all (λ line. nat_lt line.latch latch) lines

-- a state line stands in version two alone, and its latch is above those before
abbrev pub fits_version : kinds.Version → ℕ → List StateLine → Bool
fits_version One latch lines = false
fits_version Two latch lines = is_above_states latch lines

abbrev pub fits_state : PlainNetlist → ℕ → Bool
fits_state net latch = fits_version net.version latch net.states

-- what a statement says fits behind the lines so far: a state line, or a named port, which is in range and above all
-- that are named on its side
abbrev pub fits_behind : PlainNetlist → Statement → Bool
fits_behind net (statements.State state) = fits_state net state.latch
fits_behind net (statements.InputName port) = nat_lt port net.inputs && is_above port net.input_names
fits_behind net (statements.OutputName port) = nat_lt port net.outputs && is_above port net.output_names
fits_behind net statement = true

-- a statement stands in its place
abbrev pub stands_after : List (List ℕ) → Statement → Bool
stands_after before statement = follows_lines before (section_of statement) && fits_behind (netlist_in before) statement

-- the refusal of a line after those before it: its form and its place, and then the limits
abbrev pub refusal_by : List (List ℕ) → List ℕ → Option Statement → Option NetRefusal
refusal_by before line None = Some (BadLine (length before + 1))
refusal_by before line (Some statement) =
    if stands_after before statement then option_map (λ quantity. Limit quantity) (limit_of line statement)
    else Some (BadLine (length before + 1))

abbrev pub line_refusal : List (List ℕ) → List ℕ → Option NetRefusal
line_refusal before line = refusal_by before line (statement_in line)

-- the first refusal among lines that stand after others
abbrev pub first_refusal : List (List ℕ) → List (List ℕ) → Option NetRefusal
first_refusal before [] = None
first_refusal before (line ∷ lines) = option_or (line_refusal before line) (first_refusal (before ++ line ∷ []) lines)

-- a line is `end`
abbrev pub is_end_by : Option Statement → Bool
is_end_by (Some statements.End) = true
is_end_by said = false

abbrev pub is_end : List ℕ → Bool
is_end line = is_end_by (statement_in line)

-- the lines up to and with the first that is `end`
abbrev pub to_end : List (List ℕ) → List (List ℕ)
to_end [] = []
to_end (line ∷ lines) = if is_end line then line ∷ [] else line ∷ to_end lines

-- one of them is `end`
abbrev pub has_end : List (List ℕ) → Bool
has_end lines = list_any is_end lines
