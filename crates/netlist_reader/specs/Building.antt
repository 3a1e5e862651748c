-- What a reader keeps of the lines so far, and how each line changes it.
use Rattle.std.specs.Prelude.{◌≡◌, ◌≤◌, ◌<◌, ℕ, ◌+◌, ◌++◌, ◌==◌, Bool, true, false, ◌&&◌, List, [], ◌∷◌, Option, Some, None, Result, Ok, Err, length, nat_le, if◌then◌else◌, ⊤}
use Rattle.pulse_ids.specs.declared.quantities.Quantity.{Quantity}
use Rattle.cell_netlist.specs.Netlists.{PlainNetlist, empty_netlist, versioned, most_lines}
use Rattle.word_scan.specs.Reading.{read_on}
use Rattle.netlist_reader.specs.declared.statements.Statement.{Statement}
use Rattle.netlist_reader.specs.declared.statements.Statement.TheVariants as statements
use Rattle.netlist_reader.specs.declared.places.Section.{Section}
use Rattle.netlist_reader.specs.declared.places.Section.TheVariants.{Version, End}
use Rattle.netlist_reader.specs.declared.built.Built.{Built}
use Rattle.netlist_reader.specs.declared.refusals.NetRefusal.{NetRefusal}
use Rattle.netlist_reader.specs.declared.refusals.NetRefusal.TheVariants as refusals
use Rattle.netlist_reader.specs.Words.{name_in}
use Rattle.netlist_reader.specs.Statements.{statement_in}
use Rattle.netlist_reader.specs.Limits.{limit_of}
use Rattle.netlist_reader.specs.Places.{rank, section_of, fits_behind}

-- a line of a section may stand right behind one of the last section
abbrev pub follows : Option Section → Section → Bool
follows None section = rank section == 0
follows (Some Version) section = rank section == 1
follows (Some last) section = nat_le 2 (rank section) && nat_le (rank last) (rank section)

-- the number of input ports that is known after a statement
abbrev pub inputs_after : Option ℕ → Statement → Option ℕ
inputs_after inputs (statements.Ports these others) = Some these
inputs_after inputs statement = inputs

-- and after a line that is refused: of one that passes a limit, what it says is known
abbrev pub inputs_refused : NetRefusal → Option ℕ → Option Statement → Option ℕ
inputs_refused (refusals.Limit quantity) inputs (Some statement) = inputs_after inputs statement
inputs_refused refusal inputs said = inputs

-- a netlist with what a line says
abbrev pub with_statement : List ℕ → Statement → PlainNetlist → PlainNetlist
with_statement line (statements.Version version) net = versioned version 0 0
with_statement line (statements.Ports inputs outputs) net = versioned net.version inputs outputs
with_statement line (statements.Input rail) net = record net { input_rails = net.input_rails ++ rail ∷ [] }
with_statement line (statements.OneCell cell) net = record net { cells = net.cells ++ cell ∷ [] }
with_statement line (statements.Output rail) net = record net { output_rails = net.output_rails ++ rail ∷ [] }
with_statement line (statements.State state) net = record net { states = net.states ++ state ∷ [] }
with_statement line (statements.InputName port) net = record net { input_names = net.input_names ++ (port, name_in line) ∷ [] }
with_statement line (statements.OutputName port) net = record net { output_names = net.output_names ++ (port, name_in line) ∷ [] }
with_statement line statements.End net = net

-- the last line was `end`
abbrev pub has_ended_by : Option Section → Bool
has_ended_by (Some End) = true
has_ended_by last = false

abbrev pub has_ended : Built → Bool
has_ended built = has_ended_by built.last

-- before the first line
abbrev pub start : Built
start = record { last = None; lines = 0; inputs = None; net = empty_netlist 0 0 }

-- a statement stands in its place
abbrev pub allows : Built → Statement → Bool
allows built statement = follows built.last (section_of statement) && fits_behind built.net statement

abbrev pub after_statement : Built → List ℕ → Statement → Built
after_statement built line statement = record {
  last = Some (section_of statement);
  lines = built.lines + 1;
  inputs = inputs_after built.inputs statement;
  net = with_statement line statement built.net;
}

-- where no limit is passed
abbrev pub unless_over : Option Quantity → Built → Result Built NetRefusal
unless_over None next = Ok next
unless_over (Some quantity) next = Err (refusals.Limit quantity)

abbrev pub read_by : Built → List ℕ → Option Statement → Result Built NetRefusal
read_by built line None = Err (refusals.BadLine (built.lines + 1))
read_by built line (Some statement) =
    if allows built statement then unless_over (limit_of line statement) (after_statement built line statement)
    else Err (refusals.BadLine (built.lines + 1))

-- a further line is read; after `end` all lines are passed over
abbrev pub line_read : Built → List ℕ → Result Built NetRefusal
line_read built line = if has_ended built then Ok built else read_by built line (statement_in line)

-- few enough lines for a further one
pub record IsFew (net : PlainNetlist) : Type 0 where
  pub inputs : length net.input_rails < most_lines
  pub cells : length net.cells < most_lines
  pub outputs : length net.output_rails < most_lines

-- no more lines of a kind than lines
pub record IsBounded (built : Built) : Type 0 where
  pub inputs : length built.net.input_rails ≤ built.lines
  pub cells : length built.net.cells ≤ built.lines
  pub outputs : length built.net.output_rails ≤ built.lines

-- want of memory, or this is so
abbrev pub OrMemory : NetRefusal → Type 0 → Type 0
OrMemory refusals.NoMemory fact = ⊤
OrMemory _ fact = fact

-- the next of these lines is refused
abbrev pub RefusesNext : Built → List (List ℕ) → NetRefusal → Type 0
RefusesNext built [] refusal = ⊥
RefusesNext built (line ∷ lines) refusal = line_read built line ≡ Err refusal

abbrev pub inputs_behind : NetRefusal → Option ℕ → List (List ℕ) → Option ℕ
inputs_behind refusal inputs [] = inputs
inputs_behind refusal inputs (line ∷ lines) = inputs_refused refusal inputs (statement_in line)

-- where a refusal stops the reading of lines, and what is left then
pub record StopsReading (lines : List (List ℕ)) (refusal : NetRefusal) (left : Built) : Type 0 where
  pub before : List (List ℕ)
  pub after : List (List ℕ)
  pub state : Built
  pub lines_are : lines ≡ before ++ after
  pub reads : read_on line_read (Ok start) before ≡ Ok state
  pub unended : has_ended state ≡ false
  pub counted : left.lines ≡ state.lines
  pub refused : OrMemory refusal (RefusesNext state after refusal)
  pub known : left.inputs ≡ inputs_behind refusal state.inputs after
