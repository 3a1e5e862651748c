-- Decisions that compute, one for each rule of soundness.
use Rattle.std.specs.Prelude.{◌≡◌, ◌↔◌, ◌≤◌, ◌<◌, ℕ, zero, suc, Bool, true, false, not, ◌&&◌, ◌||◌, Option, Some, None, List, [], ◌∷◌, ◌++◌, map, length, slice_get, is_none, option_map}
use Rattle.std.specs.Prelude.{unwrap_or, nat_lt, if◌then◌else◌, ◌==◌}
use Rattle.std.specs.List.{flat_map, list_any, list_all}
use Rattle.pulse_ids.specs.Ids.{WireId}
use Rattle.pulse_ids.specs.declared.literals.Sign.{Sign}
use Rattle.pulse_ids.specs.declared.literals.Sign.TheVariants.{Pos, Neg}
use Rattle.cell_netlist.specs.declared.kinds.Role.TheVariants.{Front, Back, Const}
use Rattle.cell_netlist.specs.declared.lines.Rail.{Rail}
use Rattle.cell_netlist.specs.declared.lines.StateLine.{StateLine}
use Rattle.cell_netlist.specs.declared.lines.Cell.{Cell}
use Rattle.cell_netlist.specs.declared.lines.Cell.TheVariants.{Droc}
use Rattle.pulse_ids.specs.Lists.{IsIn, occurrences}
use Rattle.cell_netlist.specs.Netlists.{PlainNetlist, wire_of, used, splitter_of, droc_of, outs, reads, driven, read, number_of_wires, IsDroc, Grounded}
use Rattle.cell_netlist.specs.RailEquations.{is_front_to, is_back_from, preload_of}
use Rattle.cell_netlist.specs.Sound.{FitsRole, IsFrontTo, IsBackFrom, AreStatesRight, IsSound}

-- every number below n has the test
abbrev pub all_below : (ℕ → Bool) → ℕ → Bool
all_below test zero = true
all_below test (suc n) = test n && all_below test n

-- every two items of a list, the earlier one first, have the test
abbrev pub all_pairs : {X : Type 0} → (X → X → Bool) → List X → Bool
all_pairs test [] = true
all_pairs test (x ∷ xs) = list_all (test x) xs && all_pairs test xs

-- a value that is there has the test
abbrev pub is_some_with : {X : Type 0} → (X → Bool) → Option X → Bool
is_some_with test None = false
is_some_with test (Some x) = test x

-- a number stands in a list
abbrev pub has : ℕ → List ℕ → Bool
has n xs = list_any (λ x. x == n) xs

-- every wire has a driver
abbrev pub is_all_driven : PlainNetlist → Bool
is_all_driven net = all_below (λ wire. nat_lt 0 (occurrences wire (driven net))) (number_of_wires net)

-- no wire has two drivers
abbrev pub is_none_driven_twice : PlainNetlist → Bool
is_none_driven_twice net = all_below (λ wire. nat_lt (occurrences wire (driven net)) 2) (number_of_wires net)

-- every wire has a reader
abbrev pub is_all_read : PlainNetlist → Bool
is_all_read net = all_below (λ wire. nat_lt 0 (occurrences wire (read net))) (number_of_wires net)

-- no wire has two readers
abbrev pub is_none_read_twice : PlainNetlist → Bool
is_none_read_twice net = all_below (λ wire. nat_lt (occurrences wire (read net)) 2) (number_of_wires net)

-- the ports of rails are below a number
abbrev pub are_ports_below : ℕ → List Rail → Bool
are_ports_below count rails = list_all (λ rail. nat_lt rail.port count) rails

-- the same sign
abbrev pub is_same_sign : Sign → Sign → Bool
is_same_sign Pos Pos = true
is_same_sign Pos Neg = false
is_same_sign Neg Pos = false
is_same_sign Neg Neg = true

-- two rails differ in port or sign
abbrev pub are_other_rails : Rail → Rail → Bool
are_other_rails rail other = not ((rail.port == other.port) && is_same_sign rail.sign other.sign)

-- no input rail stands twice
abbrev pub is_no_rail_twice : PlainNetlist → Bool
is_no_rail_twice net = all_pairs are_other_rails net.input_rails

-- the outputs of a DROC
abbrev pub droc_outs : Cell → List ℕ
droc_outs cell = unwrap_or (option_map (λ droc. used droc.q ++ used droc.n) (droc_of cell)) []

-- all inputs of a cell are known
abbrev pub is_ready : List ℕ → Cell → Bool
is_ready known cell = list_all (λ wire. has wire known) (reads cell)

-- the known wires after the cells of a list, in order: a cell whose inputs are known makes its outputs known
abbrev pub known_through : List Cell → List ℕ → List ℕ
known_through [] known = known
known_through (cell ∷ cells) known = known_through cells (if is_ready known cell then outs cell ++ known else known)

-- the known wires after some rounds through all cells, from the input rails and the outputs of DROCs
abbrev pub known_after : PlainNetlist → ℕ → List ℕ
known_after net zero = map wire_of net.input_rails ++ flat_map droc_outs net.cells
known_after net (suc n) = known_through net.cells (known_after net n)

-- all outputs of a cell are known
abbrev pub are_outs_known : List ℕ → Cell → Bool
are_outs_known known cell = list_all (λ wire. has wire known) (outs cell)

-- every output is known after as many rounds as there are cells
abbrev pub is_all_grounded : PlainNetlist → Bool
is_all_grounded net = list_all (are_outs_known (known_after net (length net.cells))) net.cells

-- a cell is a splitter with this wire among its outputs
abbrev pub splits_to : ℕ → Cell → Bool
splits_to wire cell = is_some_with (λ splitter. (splitter.left == wire) || (splitter.right == wire)) (splitter_of cell)

-- the input of a splitter (0 for other cells)
abbrev pub source_of : Cell → ℕ
source_of cell = unwrap_or (option_map (λ splitter. splitter.from) (splitter_of cell)) 0

-- the input of the first splitter that drives a wire
abbrev pub splitter_above : List Cell → ℕ → Option ℕ
splitter_above [] wire = None
splitter_above (cell ∷ cells) wire = if splits_to wire cell then Some (source_of cell) else splitter_above cells wire

-- a wire is another one, or at most n splitters below it
abbrev pub climbs_to : List Cell → ℕ → ℕ → ℕ → Bool
climbs_to cells own zero wire = own == wire
climbs_to cells own (suc n) wire = (own == wire) || is_some_with (climbs_to cells own n) (splitter_above cells wire)

-- the wire of an output that is used
abbrev pub number_on : Option WireId → Option ℕ
number_on None = None
number_on (Some wire) = Some wire.number

-- a cell fits its role
abbrev pub fits_role : List Cell → Cell → Bool
fits_role cells (Droc Front preload feed q n) = is_none n && is_some_with (λ link. list_any (is_back_from link) cells) (number_on q)
fits_role cells (Droc Back preload feed q n) = list_any (is_front_to feed.number) cells
fits_role cells (Droc Const preload feed q n) = is_some_with (λ own. climbs_to cells own (length cells) feed.number) (number_on n)
fits_role cells cell = true

-- each DROC fits its role
abbrev pub is_all_fitting : PlainNetlist → Bool
is_all_fitting net = list_all (fits_role net.cells) net.cells

-- the output `q` of a front
abbrev pub link_of : Cell → Option ℕ
link_of (Droc Front preload feed q n) = number_on q
link_of cell = None

-- two bits differ
abbrev pub differ : Bool → Bool → Bool
differ false false = false
differ false true = true
differ true false = true
differ true true = false

-- where the first cell is the front of the second one, their preloads differ
abbrev pub have_right_preloads : Cell → Cell → Bool
have_right_preloads front back =
    not (is_some_with (λ link. is_back_from link back) (link_of front)) || differ (preload_of front) (preload_of back)

-- each back's preload is the complement of its front's
abbrev pub is_all_complement : PlainNetlist → Bool
is_all_complement net = list_all (λ front. list_all (have_right_preloads front) net.cells) net.cells

-- a cell is a back
abbrev pub is_back : Cell → Bool
is_back (Droc Back preload feed q n) = true
is_back cell = false

-- a state line names a back
abbrev pub names_back : List Cell → StateLine → Bool
names_back cells line = is_some_with is_back (slice_get cells line.cell.number)

-- two state lines name two cells
abbrev pub name_other_cells : StateLine → StateLine → Bool
name_other_cells line other = not (line.cell.number == other.cell.number)

-- each state line names a back, and no two name one cell
abbrev pub are_states_right : PlainNetlist → Bool
are_states_right net = list_all (names_back net.cells) net.states && all_pairs name_other_cells net.states

-- all rules of soundness
abbrev pub is_sound : PlainNetlist → Bool
is_sound net = is_all_driven net && (is_none_driven_twice net && (is_all_read net && (is_none_read_twice net
    && (are_ports_below net.inputs net.input_rails && (are_ports_below net.outputs net.output_rails
    && (is_no_rail_twice net && (is_all_grounded net && (is_all_fitting net && (is_all_complement net && are_states_right net)))))))))

-- What the decisions tell of a netlist: each exactly its rule, where the rule on roles takes that no wire is driven twice.
pub record AreDecisionsOfRules (net : PlainNetlist) : Type 0 where
  pub all_driven : (is_all_driven net ≡ true) ↔ ((wire : ℕ) → wire < number_of_wires net → 1 ≤ occurrences wire (driven net))
  pub none_driven_twice : (is_none_driven_twice net ≡ true) ↔ ((wire : ℕ) → wire < number_of_wires net → occurrences wire (driven net) ≤ 1)
  pub all_read : (is_all_read net ≡ true) ↔ ((wire : ℕ) → wire < number_of_wires net → 1 ≤ occurrences wire (read net))
  pub none_read_twice : (is_none_read_twice net ≡ true) ↔ ((wire : ℕ) → wire < number_of_wires net → occurrences wire (read net) ≤ 1)
  pub input_ports : (are_ports_below net.inputs net.input_rails ≡ true) ↔ ((rail : Rail) → IsIn rail net.input_rails → rail.port < net.inputs)
  pub output_ports : (are_ports_below net.outputs net.output_rails ≡ true) ↔ ((rail : Rail) → IsIn rail net.output_rails → rail.port < net.outputs)
  pub none_twice : (is_no_rail_twice net ≡ true) ↔ ((first later : ℕ) (rail other : Rail) → first < later
      → slice_get net.input_rails first ≡ Some rail → slice_get net.input_rails later ≡ Some other → rail.port ≡ other.port → rail.sign ≡ other.sign → ⊥)
  pub grounded : (is_all_grounded net ≡ true)
      ↔ ((cell : Cell) → IsIn cell net.cells → (IsDroc cell → ⊥) → (wire : ℕ) → IsIn wire (outs cell) → Grounded net wire)
  pub roles : is_all_fitting net ≡ true → (cell : Cell) → IsIn cell net.cells → FitsRole net cell
  pub fitting : is_none_driven_twice net ≡ true → ((cell : Cell) → IsIn cell net.cells → FitsRole net cell) → is_all_fitting net ≡ true
  pub preloads : (is_all_complement net ≡ true)
      ↔ ((link : ℕ) (front back : Bool) → IsFrontTo net link front → IsBackFrom net link back → back ≡ not front)
  pub states : (are_states_right net ≡ true) ↔ AreStatesRight net

-- the decision on each rule is right on every netlist
abbrev pub DecisionsOfRulesAreRight : Type 0
DecisionsOfRulesAreRight = (net : PlainNetlist) → AreDecisionsOfRules net

-- a netlist that passes all decisions is sound
abbrev pub SoundDecisionIsRight : Type 0
SoundDecisionIsRight = (net : PlainNetlist) → is_sound net ≡ true → IsSound net

-- a sound netlist passes all decisions
abbrev pub SoundIsDecided : Type 0
SoundIsDecided = (net : PlainNetlist) → IsSound net → is_sound net ≡ true
