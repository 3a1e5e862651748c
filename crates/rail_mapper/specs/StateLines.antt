-- The state lines of a netlist that is made, and the backs that they name.
use Rattle.std.specs.Prelude.{◌≡◌, ◌⊎◌, ◌+◌, ℕ, Bool, Some, Option, List, [], ◌∷◌, ◌++◌, map, slice_get, if◌then◌else◌}
use Rattle.pulse_ids.specs.Ids.{WireId, numbered}
use Rattle.pulse_ids.specs.Lists.{IsIn}
use Rattle.cell_netlist.specs.declared.kinds.Role.TheVariants.{Back}
use Rattle.cell_netlist.specs.declared.kinds.Version.{Version}
use Rattle.cell_netlist.specs.declared.kinds.Version.TheVariants.{One, Two}
use Rattle.cell_netlist.specs.declared.lines.Cell.{Cell}
use Rattle.cell_netlist.specs.declared.lines.Cell.TheVariants.{Droc}
use Rattle.cell_netlist.specs.declared.lines.StateLine.{StateLine}
use Rattle.cell_netlist.specs.Decisions.{is_back}
use Rattle.graph_build.specs.Built.{PlainBuilt}
use Rattle.rail_mapper.specs.Labels.{rails_in}

-- the state line of a latch, in version two alone
abbrev pub line_if : Version → ℕ → ℕ → List StateLine
line_if One latch cell = []
line_if Two latch cell = record { latch = latch; cell = numbered cell } ∷ []

-- those of pairs of a back's place and its latch
abbrev pub lines_of : Version → List (ℕ × ℕ) → List StateLine
lines_of One pairs = []
lines_of Two pairs = map (λ pair. record { latch = pair.1; cell = numbered pair.0 }) pairs

-- a list in version two, and nothing in version one
abbrev pub in_two : Version → List ℕ → List ℕ
in_two One numbers = []
in_two Two numbers = numbers

-- the places of the backs among cells, of which the first has this number
abbrev pub backs_from : ℕ → List Cell → List ℕ
backs_from place [] = []
backs_from place (cell ∷ cells) = (if is_back cell then place ∷ [] else []) ++ backs_from (place + 1) cells

-- a state line names a back whose front has come: the back's feed carries the latch
pub record IsLinked (built : PlainBuilt) (label : ℕ → ℕ) (pending : List (ℕ × ℕ)) (cells : List Cell) (line : StateLine) : Type 0 where
  pub done : (other : ℕ) → IsIn {X = ℕ × ℕ} (line.cell.number, other) pending → ⊥
  pub preload : Bool
  pub feed : WireId
  pub q : Option WireId
  pub n : Option WireId
  pub back : slice_get cells line.cell.number ≡ Some (Droc Back preload feed q n)
  pub feed_is : label feed.number ≡ rails_in built + line.latch

-- its back waits for its front with its latch, or has it
abbrev pub IsStateOf : PlainBuilt → (ℕ → ℕ) → List (ℕ × ℕ) → List Cell → StateLine → Type 0
IsStateOf built label pending cells line = IsIn {X = ℕ × ℕ} (line.cell.number, line.latch) pending ⊎ IsLinked built label pending cells line
