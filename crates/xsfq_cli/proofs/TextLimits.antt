-- The text of a compiled netlist is within the limits of netlist texts.
use Rattle.std.proofs.Common.{◌≡◌, ◌<◌, ◌≤◌, ℕ, ◌+◌, ◌*◌, ◌^◌, ◌||◌, cond, eqb, Bool, true, false, List, [], ◌∷◌, ◌++◌, length, map, codes, decimal, refl, sym, ap, ◌∙◌, arith, zero-le}
use Rattle.std.specs.List.{flat_map, AllByRecursion, IsDistinct, list_any}
use Rattle.std.proofs.lemmas.Bool.{true≢false}
use Rattle.std.proofs.lemmas.Grind.{flat_map-append}
use Rattle.std.proofs.lemmas.List.{length-append, length-map}
use Rattle.std.proofs.lemmas.Map.Steps.{length-le_from_distinct_below}
use Rattle.pulse_ids.specs.Lists.{IsIn, occurrences, upto}
use Rattle.pulse_ids.proofs.CallerLemmas.{IsIn-left, IsIn-right, IsIn-map}
use Rattle.pulse_ids.proofs.CallerLemmasOnCounts.{length-upto, occurrences-IsIn, occurrences-head}
use Rattle.source_machine.specs.Machines.{PlainMachine}
use Rattle.source_machine.specs.Fitting as fitting
use Rattle.cell_netlist.specs.declared.kinds.Ask.{Ask}
use Rattle.cell_netlist.specs.declared.kinds.Ask.TheVariants.{Pos, Neg, Both}
use Rattle.pulse_ids.specs.declared.literals.Sign.{Sign}
use Rattle.cell_netlist.specs.declared.kinds.Gate.{Gate}
use Rattle.cell_netlist.specs.declared.kinds.Gate.TheVariants.{La, Fa}
use Rattle.cell_netlist.specs.declared.kinds.Version.{Version}
use Rattle.cell_netlist.specs.declared.kinds.Version.TheVariants.{One, Two}
use Rattle.cell_netlist.specs.declared.kinds.Role.{Role}
use Rattle.cell_netlist.specs.declared.kinds.Role.TheVariants.{Front, Back, Const}
use Rattle.cell_netlist.specs.Asked.{Asks, asked_rails, rail_of, signs_of}
use Rattle.cell_netlist.specs.Netlists.{PlainNetlist, IsNetlist, driven, number_of_wires, outs, read, reads, wire_of}
use Rattle.cell_netlist.specs.Sound.{IsSound}
use Rattle.cell_netlist.specs.Text.{cell_words, line_of, name_words, rail_words, state_words, text_of, version_word}
use Rattle.cell_netlist.proofs.CallerLemmas.{states_few, states_fit}
use Rattle.cell_netlist.proofs.CallerLemmasOnDrivers.{driven-below, driven-once, output-read, read-low}
use Rattle.netlist_reader.specs.Laws.{IsWithinLimits}
use Rattle.rail_mapper.specs.Cells.{gate_in, role_in}
use Rattle.rail_mapper.specs.Mapped.{HasFewCells, Named, gates_in, roles_in}
use Rattle.xsfq_cli.proofs.TextSizes.{cells_size, lines_size, names_size, port_size, rail_size, state_size, three_size}

-- numbers of which each stands in a list at most once are distinct
apart : (n : ℕ) (xs : List ℕ) → occurrences n xs ≡ 0 → AllByRecursion (λ x. eqb n x ≡ false) xs
apart n [] none = tt
apart n (x ∷ xs) none = go (eqb n x) refl none (apart n xs)
  where
    go : (b : Bool) → eqb n x ≡ b → cond b 1 0 + occurrences n xs ≡ 0 → (occurrences n xs ≡ 0 → AllByRecursion (λ x. eqb n x ≡ false) xs)
        → (eqb n x ≡ false) × AllByRecursion (λ x. eqb n x ≡ false) xs
    go true e none rest = absurd (omega (arith, none))
    go false e none rest = (e, rest (omega (arith, none)))

once_distinct : (xs : List ℕ) → ((n : ℕ) → occurrences n xs ≤ 1) → IsDistinct eqb xs
unfolding IsDistinct
once_distinct [] once = tt
once_distinct (x ∷ xs) once =
    (apart x xs (omega (arith, once x, occurrences-head x x xs refl)), once_distinct xs (λ n. omega (arith, once n)))

some_occurrence : (n : ℕ) (xs : List ℕ) → list_any (eqb n) xs ≡ true → 1 ≤ occurrences n xs
some_occurrence n [] some = absurd (true≢false (sym some))
some_occurrence n (x ∷ xs) some = go (eqb n x) some (some_occurrence n xs)
  where
    go : (b : Bool) → (b || list_any (eqb n) xs) ≡ true → (list_any (eqb n) xs ≡ true → 1 ≤ occurrences n xs) → 1 ≤ cond b 1 0 + occurrences n xs
    go true some rest = omega arith
    go false some rest = omega (arith, rest some)

-- a sound netlist drives no more wires than it has
driven_few : (net : PlainNetlist) → IsSound net → length (driven net) ≤ number_of_wires net
driven_few net sound =
    length-le_from_distinct_below (driven net) (number_of_wires net) (once_distinct (driven net) (driven-once net sound))
    (λ wire is. driven-below net wire (occurrences-IsIn wire (driven net) (some_occurrence wire (driven net) is)))

-- gates and DROCs by their kinds
gates_all : (all : List Gate) → length all ≡ gates_in La all + gates_in Fa all
gates_all [] = refl
gates_all (La ∷ all) = omega (arith, gates_all all)
gates_all (Fa ∷ all) = omega (arith, gates_all all)

roles_all : (all : List Role) → length all ≡ roles_in Front all + roles_in Back all + roles_in Const all
roles_all [] = refl
roles_all (Front ∷ all) = omega (arith, roles_all all)
roles_all (Back ∷ all) = omega (arith, roles_all all)
roles_all (Const ∷ all) = omega (arith, roles_all all)

-- at most two output rails a port are asked for
abbrev rails_at : Ask → ℕ → List (ℕ × Sign)
rails_at ask port = map (λ sign. (port, sign)) (signs_of ask)

asked_few : (ask : Ask) (ports : List ℕ) → length (flat_map (rails_at ask) ports) ≤ 2 * length ports
asked_few ask [] = omega arith
asked_few Pos (port ∷ ports) = omega (arith, asked_few Pos ports)
asked_few Neg (port ∷ ports) = omega (arith, asked_few Neg ports)
asked_few Both (port ∷ ports) = omega (arith, asked_few Both ports)

outputs_few : (ask : Ask) (count : ℕ) (net : PlainNetlist) → Asks ask count net → length net.output_rails ≤ 2 * count
outputs_few ask count net asked =
    let few : length (asked_rails ask count) ≤ 2 * length (upto count) = asked_few ask (upto count) in
    let same : length net.output_rails ≡ length (asked_rails ask count) = sym (length-map net.output_rails rail_of) ∙ ap length asked in
    omega (arith, few, same, length-upto count)

-- the first two lines of a text
abbrev head_words : Version → ℕ → ℕ → List (List (List ℕ))
head_words version inputs outputs = (codes "xsfq" ∷ version_word version ∷ []) ∷ (codes "ports" ∷ decimal inputs ∷ decimal outputs ∷ []) ∷ []

version_size : (version : Version) → length (line_of (codes "xsfq" ∷ version_word version ∷ [])) ≡ 7
version_size One = refl
version_size Two = refl

head_size : (version : Version) (inputs outputs : ℕ) → inputs ≤ 2 ^ 14 → outputs ≤ 2 ^ 14 → length (flat_map line_of (head_words version inputs outputs)) ≤ 25
head_size version inputs outputs few small =
    let first : List ℕ = line_of (codes "xsfq" ∷ version_word version ∷ []) in
    let ports : List ℕ = line_of (codes "ports" ∷ decimal inputs ∷ decimal outputs ∷ []) in
    let whole : length (flat_map line_of (head_words version inputs outputs)) ≡ length first + length (ports ++ []) = length-append first (ports ++ []) in
    let rest : length (ports ++ []) ≡ length ports + 0 = length-append ports [] in
    let seven : length first ≡ 7 = version_size version in
    let line : length ports ≡ 5 + length (decimal inputs) + length (decimal outputs) + 3 = three_size (codes "ports") (decimal inputs) (decimal outputs) in
    omega (arith, whole, rest, seven, line, port_size inputs few, port_size outputs small)

-- the words of a text, kind by kind
kinds_size : (a b c d e f g h : List (List (List ℕ))) → length (flat_map line_of (a ++ b ++ c ++ d ++ e ++ f ++ g ++ h))
    ≡ length (flat_map line_of a) + (length (flat_map line_of b) + (length (flat_map line_of c) + (length (flat_map line_of d)
    + (length (flat_map line_of e) + (length (flat_map line_of f) + (length (flat_map line_of g) + length (flat_map line_of h)))))))
kinds_size a b c d e f g h =
    omega (
      arith,
      joined (a ++ b ++ c ++ d ++ e ++ f ++ g) h,
      joined (a ++ b ++ c ++ d ++ e ++ f) g,
      joined (a ++ b ++ c ++ d ++ e) f,
      joined (a ++ b ++ c ++ d) e,
      joined (a ++ b ++ c) d,
      joined (a ++ b) c,
      joined a b,
    )
  where
    joined : (one other : List (List (List ℕ))) → length (flat_map line_of (one ++ other)) ≡ length (flat_map line_of one) + length (flat_map line_of other)
    joined one other = ap length (flat_map-append line_of one other) ∙ length-append (flat_map line_of one) (flat_map line_of other)

module _ (machine : PlainMachine) (ask : Ask) (net : PlainNetlist) (few : fitting.IsWithinLimits machine) (sound : IsSound net) (asked : Asks ask (length machine.outputs) net)
    (named : Named machine net) (cells : HasFewCells machine net) (netlist : IsNetlist net) where
  inputs_small : net.inputs ≤ 2 ^ 14
  inputs_small = omega (arith, named.inputs, few.few_inputs)

  outputs_small : net.outputs ≤ 2 ^ 14
  outputs_small = omega (arith, named.outputs, few.few_outputs)

  driven_small : (wire : ℕ) → IsIn wire (driven net) → wire < 2 ^ 22
  driven_small wire is = omega (arith, driven-below net wire is, netlist.wires)

  read_small : (wire : ℕ) → IsIn wire (read net) → wire < 2 ^ 22
  read_small wire is = omega (arith, read-low net wire is, netlist.wires)

  input_lines : length (flat_map line_of (map (rail_words (codes "input")) net.input_rails)) ≤ 22 * length net.input_rails
  input_lines =
      lines_size (rail_words (codes "input")) 22 net.input_rails
      (λ rail is. rail_size (codes "input") rail (omega (arith, sound.input_ports rail is, inputs_small))
      (driven_small (wire_of rail) (IsIn-left (wire_of rail) (map wire_of net.input_rails) (flat_map outs net.cells) (IsIn-map wire_of rail net.input_rails is))))

  output_lines : length (flat_map line_of (map (rail_words (codes "output")) net.output_rails)) ≤ 23 * length net.output_rails
  output_lines =
      lines_size (rail_words (codes "output")) 23 net.output_rails
      (λ rail is. rail_size (codes "output") rail (omega (arith, sound.output_ports rail is, outputs_small)) (read_small (wire_of rail) (output-read net rail is)))

  cell_lines : length (flat_map line_of (map cell_words net.cells))
      ≤ 22 * length (flat_map outs net.cells) + 5 * length (flat_map gate_in net.cells) + 33 * length (flat_map role_in net.cells)
  cell_lines =
      cells_size net.cells (λ wire is. driven_small wire (IsIn-right wire (map wire_of net.input_rails) (flat_map outs net.cells) is))
      (λ wire is. read_small wire (IsIn-left wire (flat_map reads net.cells) (map wire_of net.output_rails) is))

  state_lines : length (flat_map line_of (map state_words net.states)) ≤ 28 * length net.states
  state_lines = lines_size state_words 28 net.states (λ line is. state_size line (states_fit net.version net.states netlist.states line is))

  all_lines : length (text_of net)
      ≡ length (flat_map line_of (head_words net.version net.inputs net.outputs)) + (length (flat_map line_of (map (rail_words (codes "input")) net.input_rails))
      + (length (flat_map line_of (map cell_words net.cells)) + (length (flat_map line_of (map (rail_words (codes "output")) net.output_rails))
      + (length (flat_map line_of (map state_words net.states))
      + (length (flat_map line_of (map (name_words (codes "iname")) net.input_names)) + (length (flat_map line_of (map (name_words (codes "oname")) net.output_names)) + 4))))))
  all_lines =
      kinds_size (head_words net.version net.inputs net.outputs) (map (rail_words (codes "input")) net.input_rails) (map cell_words net.cells) (map (rail_words (codes "output")) net.output_rails)
      (map state_words net.states) (map (name_words (codes "iname")) net.input_names) (map (name_words (codes "oname")) net.output_names) ((codes "end" ∷ []) ∷ [])

  driven_lines : length net.input_rails + length (flat_map outs net.cells) ≤ 2 ^ 22
  driven_lines =
      omega (
        arith,
        driven_few net sound,
        netlist.wires,
        length-append (map wire_of net.input_rails) (flat_map outs net.cells),
        length-map net.input_rails wire_of,
      )

  text_small : length (text_of net) ≤ 2 ^ 27
  text_small =
      omega (
        arith,
        all_lines,
        head_size net.version net.inputs net.outputs inputs_small outputs_small,
        input_lines,
        cell_lines,
        output_lines,
        state_lines,
        states_few net.version net.states netlist.states,
        names_size (codes "iname") 0 net.inputs net.input_names refl zero-le inputs_small netlist.input_names,
        names_size (codes "oname") 0 net.outputs net.output_names refl zero-le outputs_small netlist.output_names,
        inputs_small,
        outputs_small,
        driven_lines,
        gates_all (flat_map gate_in net.cells),
        roles_all (flat_map role_in net.cells),
        cells.las,
        cells.fas,
        cells.constants,
        cells.backs,
        cells.fronts,
        few.small,
        few.few_latches,
        outputs_few ask (length machine.outputs) net asked,
        few.few_outputs,
      )

  -- the netlist's text is read back
  pub within_limits : IsWithinLimits net
  within_limits = record { inputs = inputs_small; outputs = outputs_small; bytes = text_small }
