-- The parts of a netlist within the limits pass no limit, and what their lines say adds up to the netlist.
use Rattle.std.proofs.Common.{◌≡◌, ◌^◌, ℕ, ◌+◌, ◌<◌, List, [], ◌∷◌, ◌++◌, length, map, codes, Option, Some, None, refl, sym, ap, subst, ◌∙◌, append_assoc, append-nil, inl, inr, arith}
use Rattle.std.specs.Option.{option_or}
use Rattle.std.specs.List.{flat_map}
use Rattle.std.proofs.lemmas.Bool.{lt-ltb, le-ltb}
use Rattle.pulse_ids.specs.Ids.{WireId}
use Rattle.pulse_ids.specs.Lists.{IsIn}
use Rattle.pulse_ids.specs.Names.{IsPortName}
use Rattle.pulse_ids.specs.Quantities.{greatest_of}
use Rattle.pulse_ids.specs.declared.quantities.Quantity.TheVariants.{Latches, NameBytes}
use Rattle.pulse_ids.proofs.CallerLemmas.{IsIn-left, IsIn-right, IsIn-map, IsIn-flat_map}
use Rattle.cell_netlist.specs.declared.lines.Rail.{Rail}
use Rattle.cell_netlist.specs.declared.kinds.Version.{Version}
use Rattle.cell_netlist.specs.declared.kinds.Version.TheVariants.{One, Two}
use Rattle.cell_netlist.specs.declared.lines.StateLine.{StateLine}
use Rattle.cell_netlist.specs.declared.lines.Cell.{Cell}
use Rattle.cell_netlist.specs.declared.lines.Cell.TheVariants.{La, Fa, Split, Droc}
use Rattle.cell_netlist.specs.Netlists.{PlainNetlist, IsNetlist, wire_of, used, outs, reads, driven, read}
use Rattle.cell_netlist.specs.Names.{AreNamesFrom}
use Rattle.cell_netlist.specs.States.{AreStatesFrom, AreStatesOf}
use Rattle.cell_netlist.specs.Text.{rail_words, cell_words, state_words, name_words}
use Rattle.cell_netlist.proofs.CallerLemmas.{wire_below}
use Rattle.netlist_reader.specs.declared.statements.Statement.TheVariants.{Input, OneCell, Output, State, InputName, OutputName}
use Rattle.netlist_reader.specs.Words.{name_in}
use Rattle.netlist_reader.specs.Limits.{over, over_wire, over_output, over_cell}
use Rattle.netlist_reader.proofs.WrittenWords.{FitsOutput}
use Rattle.netlist_reader.proofs.WrittenLines.{spaced, FitsCell, input_read, output_line_read, cell_read, state_line_read, input_name_read, output_name_read, input_name_is, output_name_is}
use Rattle.netlist_reader.proofs.Sections.{all_added, IsWritten}

-- wires
over_none : (wire : WireId) → wire.number < 2 ^ 22 → over_wire wire ≡ None
over_none wire lt = rw (lt-ltb wire.number (2 ^ 22) lt) refl

over_outputs : (output : Option WireId) → ((w : ℕ) → IsIn w (used output) → w < 2 ^ 22) → (over_output output ≡ None) × FitsOutput output
over_outputs None f = (refl, tt)
over_outputs (Some wire) f = let lt = f wire.number (inl refl) in (over_none wire lt, omega (arith, lt))

three_none : (a b c : WireId) → a.number < 2 ^ 22 → b.number < 2 ^ 22 → c.number < 2 ^ 22 → option_or (over_wire a) (option_or (over_wire b) (over_wire c)) ≡ None
three_none a b c f g h = rw (over_none a f, over_none b g, over_none c h) refl

small_cell : (cell : Cell) → ((w : ℕ) → IsIn w (outs cell) → w < 2 ^ 22) → ((w : ℕ) → IsIn w (reads cell) → w < 2 ^ 22) → (over_cell cell ≡ None) × FitsCell cell
small_cell (La a b out) f g =
    let is_a = g a.number (inl refl) in let is_b = g b.number (inr (inl refl)) in let is_out = f out.number (inl refl) in
    (three_none a b out is_a is_b is_out, (omega (arith, is_a), omega (arith, is_b), omega (arith, is_out)))
small_cell (Fa a b out) f g =
    let is_a = g a.number (inl refl) in let is_b = g b.number (inr (inl refl)) in let is_out = f out.number (inl refl) in
    (three_none a b out is_a is_b is_out, (omega (arith, is_a), omega (arith, is_b), omega (arith, is_out)))
small_cell (Split from left right) f g =
    let is_from = g from.number (inl refl) in let is_left = f left.number (inl refl) in let is_right = f right.number (inr (inl refl)) in
    (three_none from left right is_from is_left is_right, (omega (arith, is_from), omega (arith, is_left), omega (arith, is_right)))
small_cell (Droc role preload feed q n) f g =
    let is_feed = g feed.number (inl refl) in
    let is_q = over_outputs q (λ w h. f w (IsIn-left w (used q) (used n) h)) in
    let is_n = over_outputs n (λ w h. f w (IsIn-right w (used q) (used n) h)) in
    (rw (over_none feed is_feed, is_q.0, is_n.0) refl, (omega (arith, is_feed), is_q.1, is_n.1))

-- names
name_small : (line name : List ℕ) → name_in line ≡ name → IsPortName name → over NameBytes (length (name_in line)) ≡ None
name_small line name e right = ap (λ (l : List ℕ). over NameBytes (length l)) e ∙ rw (le-ltb (greatest_of NameBytes) (length name) right.not_long) refl

-- the lines of a netlist
module _ (net : PlainNetlist) (shape : IsNetlist net) where
  wire_small : (w : ℕ) → IsIn w (driven net ++ read net) → w < 2 ^ 22
  wire_small w h = let below = wire_below w (driven net ++ read net) h in omega (arith, below, shape.wires)

  input_wire : (rail : Rail) → IsIn rail net.input_rails → rail.wire.number < 2 ^ 22
  input_wire rail h = wire_small (wire_of rail) (IsIn-left _ (driven net) (read net) (IsIn-left _ (map wire_of net.input_rails) (flat_map outs net.cells) (IsIn-map wire_of rail net.input_rails h)))

  pub input_written : (rail : Rail) → IsIn rail net.input_rails → IsWritten (rail_words (codes "input") rail) (Input rail)
  input_written rail h = record {
    line = input_read rail (record { port = shape.input_ports rail h; wire = omega (arith, input_wire rail h) });
    small = over_none rail.wire (input_wire rail h);
  }

  output_wire : (rail : Rail) → IsIn rail net.output_rails → rail.wire.number < 2 ^ 22
  output_wire rail h = wire_small (wire_of rail) (IsIn-right _ (driven net) (read net)
      (IsIn-right _ (flat_map reads net.cells) (map wire_of net.output_rails) (IsIn-map wire_of rail net.output_rails h)))

  pub output_written : (rail : Rail) → IsIn rail net.output_rails → IsWritten (rail_words (codes "output") rail) (Output rail)
  output_written rail h = record {
    line = output_line_read rail (record { port = shape.output_ports rail h; wire = omega (arith, output_wire rail h) });
    small = over_none rail.wire (output_wire rail h);
  }

  pub cell_written : (cell : Cell) → IsIn cell net.cells → IsWritten (cell_words cell) (OneCell cell)
  cell_written cell h =
      let small = small_cell cell
      (λ w i. wire_small w (IsIn-left w (driven net) (read net) (IsIn-right w (map wire_of net.input_rails) (flat_map outs net.cells) (IsIn-flat_map outs w cell net.cells h i))))
      (λ w i. wire_small w (IsIn-right w (driven net) (read net) (IsIn-left w (flat_map reads net.cells) (map wire_of net.output_rails) (IsIn-flat_map reads w cell net.cells h i)))) in
      record { line = cell_read cell small.1; small = small.0 }

-- a state line within the limits
state_written : (low : ℕ) (states : List StateLine) → AreStatesFrom low states → (state : StateLine) → IsIn state states → IsWritten (state_words state) (State state)
state_written low [] all state h = absurd h
state_written low (first ∷ states) all state (inl e) = subst (λ (s : StateLine). IsWritten (state_words s) (State s)) e (record {
  line = state_line_read first (omega (arith, all.1)) all.2;
  small = rw (lt-ltb first.latch (greatest_of Latches) all.1) refl;
})
state_written low (first ∷ states) all state (inr h) = state_written (first.latch + 1) states all.3 state h

pub states_written : (version : Version) (states : List StateLine) → AreStatesOf version states → (state : StateLine) → IsIn state states → IsWritten (state_words state) (State state)
states_written One states none state h = absurd (subst (λ (l : List StateLine). IsIn state l) none h)
states_written Two states all state h = state_written 0 states all state h

-- a named port is in range and its name is right
right_name : (low ports : ℕ) (names : List (ℕ × List ℕ)) → AreNamesFrom low ports names → (named : ℕ × List ℕ) → IsIn named names → (named.0 < ports) × IsPortName named.1
right_name low ports [] all named h = absurd h
right_name low ports (first ∷ names) all named (inl e) = subst (λ (n : ℕ × List ℕ). (n.0 < ports) × IsPortName n.1) e (all.1, all.2)
right_name low ports (first ∷ names) all named (inr h) = right_name (first.0 + 1) ports names all.3 named h

module _ (low ports : ℕ) (names : List (ℕ × List ℕ)) (all : AreNamesFrom low ports names) (few : ports < 2 ^ 32) where
  pub input_name_written : (named : ℕ × List ℕ) → IsIn named names → IsWritten (name_words (codes "iname") named) (InputName named.0)
  input_name_written named h =
      let right = right_name low ports names all named h in
      let fits : named.0 < 2 ^ 32 = omega (arith, right.0) in
      record { line = input_name_read named.0 named.1 fits right.1; small = name_small (spaced (name_words (codes "iname") named)) named.1 (input_name_is named.0 named.1 fits right.1) right.1 }

  pub output_name_written : (named : ℕ × List ℕ) → IsIn named names → IsWritten (name_words (codes "oname") named) (OutputName named.0)
  output_name_written named h =
      let right = right_name low ports names all named h in
      let fits : named.0 < 2 ^ 32 = omega (arith, right.0) in
      record { line = output_name_read named.0 named.1 fits right.1; small = name_small (spaced (name_words (codes "oname") named)) named.1 (output_name_is named.0 named.1 fits right.1) right.1 }

-- what the lines of each section say adds up
pub inputs_added : (rails : List Rail) (net : PlainNetlist) → all_added (rail_words (codes "input")) (λ x. Input x) rails net ≡ record net { input_rails = net.input_rails ++ rails }
inputs_added [] net = ap (λ (l : List Rail). record net { input_rails = l }) (sym (append-nil net.input_rails))
inputs_added (rail ∷ rails) net =
    inputs_added rails (record net { input_rails = net.input_rails ++ rail ∷ [] }) ∙ ap (λ (l : List Rail). record net { input_rails = l }) (append_assoc net.input_rails (rail ∷ []) rails)

pub cells_added : (cells : List Cell) (net : PlainNetlist) → all_added cell_words (λ x. OneCell x) cells net ≡ record net { cells = net.cells ++ cells }
cells_added [] net = ap (λ (l : List Cell). record net { cells = l }) (sym (append-nil net.cells))
cells_added (cell ∷ cells) net =
    cells_added cells (record net { cells = net.cells ++ cell ∷ [] }) ∙ ap (λ (l : List Cell). record net { cells = l }) (append_assoc net.cells (cell ∷ []) cells)

pub outputs_added : (rails : List Rail) (net : PlainNetlist) → all_added (rail_words (codes "output")) (λ x. Output x) rails net ≡ record net { output_rails = net.output_rails ++ rails }
outputs_added [] net = ap (λ (l : List Rail). record net { output_rails = l }) (sym (append-nil net.output_rails))
outputs_added (rail ∷ rails) net =
    outputs_added rails (record net { output_rails = net.output_rails ++ rail ∷ [] }) ∙ ap (λ (l : List Rail). record net { output_rails = l }) (append_assoc net.output_rails (rail ∷ []) rails)

pub states_added : (states : List StateLine) (net : PlainNetlist) → all_added state_words (λ x. State x) states net ≡ record net { states = net.states ++ states }
states_added [] net = ap (λ (l : List StateLine). record net { states = l }) (sym (append-nil net.states))
states_added (state ∷ states) net =
    states_added states (record net { states = net.states ++ state ∷ [] }) ∙ ap (λ (l : List StateLine). record net { states = l }) (append_assoc net.states (state ∷ []) states)

abbrev AreIn : (ℕ × List ℕ → List ℕ) → List (ℕ × List ℕ) → Type 0
AreIn name names = (named : ℕ × List ℕ) → IsIn named names → name named ≡ named.1

pub input_names_added : (names : List (ℕ × List ℕ)) (net : PlainNetlist) → AreIn (λ named. name_in (spaced (name_words (codes "iname") named))) names
    → all_added (name_words (codes "iname")) (λ x. InputName x.0) names net ≡ record net { input_names = net.input_names ++ names }
input_names_added [] net are = ap (λ (l : List (ℕ × List ℕ)). record net { input_names = l }) (sym (append-nil net.input_names))
input_names_added (named ∷ names) net are =
    ap (λ (name : List ℕ). all_added (name_words (codes "iname")) (λ x. InputName x.0) names (record net { input_names = net.input_names ++ (named.0, name) ∷ [] })) (are named (inl refl))
    ∙ input_names_added names (record net { input_names = net.input_names ++ named ∷ [] }) (λ n h. are n (inr h))
    ∙ ap (λ (l : List (ℕ × List ℕ)). record net { input_names = l }) (append_assoc net.input_names (named ∷ []) names)

pub output_names_added : (names : List (ℕ × List ℕ)) (net : PlainNetlist) → AreIn (λ named. name_in (spaced (name_words (codes "oname") named))) names
    → all_added (name_words (codes "oname")) (λ x. OutputName x.0) names net ≡ record net { output_names = net.output_names ++ names }
output_names_added [] net are = ap (λ (l : List (ℕ × List ℕ)). record net { output_names = l }) (sym (append-nil net.output_names))
output_names_added (named ∷ names) net are =
    ap (λ (name : List ℕ). all_added (name_words (codes "oname")) (λ x. OutputName x.0) names (record net { output_names = net.output_names ++ (named.0, name) ∷ [] })) (are named (inl refl))
    ∙ output_names_added names (record net { output_names = net.output_names ++ named ∷ [] }) (λ n h. are n (inr h))
    ∙ ap (λ (l : List (ℕ × List ℕ)). record net { output_names = l }) (append_assoc net.output_names (named ∷ []) names)

pub input_names_in : (low ports : ℕ) (names : List (ℕ × List ℕ)) → AreNamesFrom low ports names → ports < 2 ^ 32 → AreIn (λ named. name_in (spaced (name_words (codes "iname") named))) names
input_names_in low ports names all few named h = let right = right_name low ports names all named h in input_name_is named.0 named.1 (omega (arith, right.0)) right.1

pub output_names_in : (low ports : ℕ) (names : List (ℕ × List ℕ)) → AreNamesFrom low ports names → ports < 2 ^ 32 → AreIn (λ named. name_in (spaced (name_words (codes "oname") named))) names
output_names_in low ports names all few named h = let right = right_name low ports names all named h in output_name_is named.0 named.1 (omega (arith, right.0)) right.1
