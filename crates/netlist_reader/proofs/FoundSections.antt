-- Lines that stand in their places are the lines of the netlist that they tell.
use Rattle.std.proofs.Common.{◌≡◌, ◌<◌, ◌≤◌, ℕ, leb, true, Option, Some, None, List, [], ◌∷◌, ◌++◌, map, codes, refl, sym, ap, ◌∙◌, append-nil, append_assoc, arith}
use Rattle.std.specs.List.{flat_map, list_all}
use Rattle.std.proofs.lemmas.Bool.{leb-true}
use Rattle.std.proofs.lemmas.List.{map-append}
use Rattle.cell_netlist.specs.declared.kinds.Version as kinds
use Rattle.cell_netlist.specs.Netlists.{PlainNetlist, versioned}
use Rattle.cell_netlist.specs.Text.{rail_words, cell_words, state_words, name_words, netlist_words}
use Rattle.cell_netlist.specs.declared.lines.Rail.{Rail}
use Rattle.cell_netlist.specs.declared.lines.Cell.{Cell}
use Rattle.cell_netlist.specs.declared.lines.StateLine.{StateLine}
use Rattle.netlist_reader.specs.declared.statements.Statement.{Statement}
use Rattle.netlist_reader.specs.declared.statements.Statement.TheVariants as statements
use Rattle.netlist_reader.specs.Words.{name_in}
use Rattle.netlist_reader.specs.Statements.{statement_in}
use Rattle.netlist_reader.specs.Places.{rank, section_of, rank_by, cell_by, output_by, state_by, input_name_by, output_name_by, netlist_in, follows_lines}
use Rattle.netlist_reader.specs.Building.{with_statement}
use Rattle.netlist_reader.proofs.Bools.{and_parts}
use Rattle.netlist_reader.proofs.Steps.{first_is, second_is, behind_head, lists_next}
use Rattle.netlist_reader.proofs.WrittenLines.{spaced}
use Rattle.netlist_reader.proofs.WrittenTexts.{head_lines, all_lines}
use Rattle.netlist_reader.proofs.FoundLines.{words_by, line_found}

-- lines of no later section than this have nothing to say in later ones
module _ (n : ℕ) where
  abbrev NoneLater : List (List ℕ) → Type 0
  NoneLater lines = list_all (λ line. leb (rank_by (statement_in line)) n) lines ≡ true

  no_cell : (said : Option Statement) → rank_by said ≤ n → n < 3 → cell_by said ≡ []
  no_cell None le lt = refl
  no_cell (Some (statements.Version version)) le lt = refl
  no_cell (Some (statements.Ports inputs outputs)) le lt = refl
  no_cell (Some (statements.Input rail)) le lt = refl
  no_cell (Some (statements.OneCell cell)) le lt = absurd (omega arith)
  no_cell (Some (statements.Output rail)) le lt = refl
  no_cell (Some (statements.State state)) le lt = refl
  no_cell (Some (statements.InputName port)) le lt = refl
  no_cell (Some (statements.OutputName port)) le lt = refl
  no_cell (Some statements.End) le lt = refl

  no_output : (said : Option Statement) → rank_by said ≤ n → n < 4 → output_by said ≡ []
  no_output None le lt = refl
  no_output (Some (statements.Version version)) le lt = refl
  no_output (Some (statements.Ports inputs outputs)) le lt = refl
  no_output (Some (statements.Input rail)) le lt = refl
  no_output (Some (statements.OneCell cell)) le lt = refl
  no_output (Some (statements.Output rail)) le lt = absurd (omega arith)
  no_output (Some (statements.State state)) le lt = refl
  no_output (Some (statements.InputName port)) le lt = refl
  no_output (Some (statements.OutputName port)) le lt = refl
  no_output (Some statements.End) le lt = refl

  no_state : (said : Option Statement) → rank_by said ≤ n → n < 5 → state_by said ≡ []
  no_state None le lt = refl
  no_state (Some (statements.Version version)) le lt = refl
  no_state (Some (statements.Ports inputs outputs)) le lt = refl
  no_state (Some (statements.Input rail)) le lt = refl
  no_state (Some (statements.OneCell cell)) le lt = refl
  no_state (Some (statements.Output rail)) le lt = refl
  no_state (Some (statements.State state)) le lt = absurd (omega arith)
  no_state (Some (statements.InputName port)) le lt = refl
  no_state (Some (statements.OutputName port)) le lt = refl
  no_state (Some statements.End) le lt = refl

  no_input_name : (line : List ℕ) (said : Option Statement) → rank_by said ≤ n → n < 6 → input_name_by line said ≡ []
  no_input_name line None le lt = refl
  no_input_name line (Some (statements.Version version)) le lt = refl
  no_input_name line (Some (statements.Ports inputs outputs)) le lt = refl
  no_input_name line (Some (statements.Input rail)) le lt = refl
  no_input_name line (Some (statements.OneCell cell)) le lt = refl
  no_input_name line (Some (statements.Output rail)) le lt = refl
  no_input_name line (Some (statements.State state)) le lt = refl
  no_input_name line (Some (statements.InputName port)) le lt = absurd (omega arith)
  no_input_name line (Some (statements.OutputName port)) le lt = refl
  no_input_name line (Some statements.End) le lt = refl

  no_output_name : (line : List ℕ) (said : Option Statement) → rank_by said ≤ n → n < 7 → output_name_by line said ≡ []
  no_output_name line None le lt = refl
  no_output_name line (Some (statements.Version version)) le lt = refl
  no_output_name line (Some (statements.Ports inputs outputs)) le lt = refl
  no_output_name line (Some (statements.Input rail)) le lt = refl
  no_output_name line (Some (statements.OneCell cell)) le lt = refl
  no_output_name line (Some (statements.Output rail)) le lt = refl
  no_output_name line (Some (statements.State state)) le lt = refl
  no_output_name line (Some (statements.InputName port)) le lt = refl
  no_output_name line (Some (statements.OutputName port)) le lt = absurd (omega arith)
  no_output_name line (Some statements.End) le lt = refl

  none_of : {X : Type 0} (f : List ℕ → List X) → ((line : List ℕ) → rank_by (statement_in line) ≤ n → f line ≡ []) → (lines : List (List ℕ)) → NoneLater lines → flat_map f lines ≡ []
  none_of f each [] h = refl
  none_of f each (line ∷ lines) h =
      let parts = and_parts (leb (rank_by (statement_in line)) n) (list_all (λ line. leb (rank_by (statement_in line)) n) lines) h in
      rw (each line (leb-true _ _ parts.0), none_of f each lines parts.1) refl

-- one more item behind six lists, where the later ones are empty
abbrev six : {X : Type 0} → List X → List X → List X → List X → List X → List X → List X → List X
six h a b c s d e = (((((h ++ a) ++ b) ++ c) ++ s) ++ d) ++ e

behind_a : {X : Type 0} (h a b c s d e : List X) (x : X) → b ≡ [] → c ≡ [] → s ≡ [] → d ≡ [] → e ≡ [] → six h (a ++ x ∷ []) b c s d e ≡ six h a b c s d e ++ x ∷ []
behind_a h a b c s d e x p q t u v = rw (p, q, t, u, v) (simp (append-nil, append_assoc))

behind_b : {X : Type 0} (h a b c s d e : List X) (x : X) → c ≡ [] → s ≡ [] → d ≡ [] → e ≡ [] → six h a (b ++ x ∷ []) c s d e ≡ six h a b c s d e ++ x ∷ []
behind_b h a b c s d e x q t u v = rw (q, t, u, v) (simp (append-nil, append_assoc))

behind_c : {X : Type 0} (h a b c s d e : List X) (x : X) → s ≡ [] → d ≡ [] → e ≡ [] → six h a b (c ++ x ∷ []) s d e ≡ six h a b c s d e ++ x ∷ []
behind_c h a b c s d e x t u v = rw (t, u, v) (simp (append-nil, append_assoc))

behind_s : {X : Type 0} (h a b c s d e : List X) (x : X) → d ≡ [] → e ≡ [] → six h a b c (s ++ x ∷ []) d e ≡ six h a b c s d e ++ x ∷ []
behind_s h a b c s d e x u v = rw (u, v) (simp (append-nil, append_assoc))

behind_d : {X : Type 0} (h a b c s d e : List X) (x : X) → e ≡ [] → six h a b c s (d ++ x ∷ []) e ≡ six h a b c s d e ++ x ∷ []
behind_d h a b c s d e x v = rw v (simp (append-nil, append_assoc))

behind_e : {X : Type 0} (h a b c s d e : List X) (x : X) → six h a b c s d (e ++ x ∷ []) ≡ six h a b c s d e ++ x ∷ []
behind_e h a b c s d e x = sym (append_assoc (((((h ++ a) ++ b) ++ c) ++ s) ++ d) e (x ∷ []))

-- what a netlist lacks behind a section
record Lacks (n : ℕ) (net : PlainNetlist) : Type 0 where
  cells : n < 3 → net.cells ≡ []
  outputs : n < 4 → net.output_rails ≡ []
  states : n < 5 → net.states ≡ []
  input_names : n < 6 → net.input_names ≡ []
  output_names : n < 7 → net.output_names ≡ []

-- the words of the lines of each section
module _ (net : PlainNetlist) where
  abbrev in_rails : List (List (List ℕ))
  in_rails = map (rail_words (codes "input")) net.input_rails

  abbrev in_cells : List (List (List ℕ))
  in_cells = map cell_words net.cells

  abbrev in_outputs : List (List (List ℕ))
  in_outputs = map (rail_words (codes "output")) net.output_rails

  abbrev in_states : List (List (List ℕ))
  in_states = map state_words net.states

  abbrev in_input_names : List (List (List ℕ))
  in_input_names = map (name_words (codes "iname")) net.input_names

  abbrev in_output_names : List (List (List ℕ))
  in_output_names = map (name_words (codes "oname")) net.output_names

-- the lines of a netlist with what a statement adds
module _ (line : List ℕ) (net : PlainNetlist) where
  abbrev Grows : Statement → Type 0
  Grows statement = all_lines (with_statement line statement net) ≡ all_lines net ++ words_by line statement ∷ []

  grown_input : (rail : Rail) → Lacks 2 net → Grows (statements.Input rail)
  grown_input rail lacks =
      ap (λ (l : List (List (List ℕ))). six (head_lines net) l (in_cells net) (in_outputs net) (in_states net) (in_input_names net) (in_output_names net))
      (map-append (rail_words (codes "input")) net.input_rails (rail ∷ []))
      ∙ behind_a (head_lines net) (in_rails net) (in_cells net) (in_outputs net) (in_states net) (in_input_names net) (in_output_names net) (rail_words (codes "input") rail)
      (ap (map cell_words) (lacks.cells (omega arith))) (ap (map (rail_words (codes "output"))) (lacks.outputs (omega arith))) (ap (map state_words) (lacks.states (omega arith)))
      (ap (map (name_words (codes "iname"))) (lacks.input_names (omega arith))) (ap (map (name_words (codes "oname"))) (lacks.output_names (omega arith)))

  grown_cell : (cell : Cell) → Lacks 3 net → Grows (statements.OneCell cell)
  grown_cell cell lacks =
      ap (λ (l : List (List (List ℕ))). six (head_lines net) (in_rails net) l (in_outputs net) (in_states net) (in_input_names net) (in_output_names net)) (map-append cell_words net.cells (cell ∷ []))
      ∙ behind_b (head_lines net) (in_rails net) (in_cells net) (in_outputs net) (in_states net) (in_input_names net) (in_output_names net) (cell_words cell)
      (ap (map (rail_words (codes "output"))) (lacks.outputs (omega arith))) (ap (map state_words) (lacks.states (omega arith)))
      (ap (map (name_words (codes "iname"))) (lacks.input_names (omega arith))) (ap (map (name_words (codes "oname"))) (lacks.output_names (omega arith)))

  grown_output : (rail : Rail) → Lacks 4 net → Grows (statements.Output rail)
  grown_output rail lacks =
      ap (λ (l : List (List (List ℕ))). six (head_lines net) (in_rails net) (in_cells net) l (in_states net) (in_input_names net) (in_output_names net))
      (map-append (rail_words (codes "output")) net.output_rails (rail ∷ []))
      ∙ behind_c (head_lines net) (in_rails net) (in_cells net) (in_outputs net) (in_states net) (in_input_names net) (in_output_names net) (rail_words (codes "output") rail)
      (ap (map state_words) (lacks.states (omega arith)))
      (ap (map (name_words (codes "iname"))) (lacks.input_names (omega arith))) (ap (map (name_words (codes "oname"))) (lacks.output_names (omega arith)))

  grown_state : (state : StateLine) → Lacks 5 net → Grows (statements.State state)
  grown_state state lacks =
      ap (λ (l : List (List (List ℕ))). six (head_lines net) (in_rails net) (in_cells net) (in_outputs net) l (in_input_names net) (in_output_names net))
      (map-append state_words net.states (state ∷ []))
      ∙ behind_s (head_lines net) (in_rails net) (in_cells net) (in_outputs net) (in_states net) (in_input_names net) (in_output_names net) (state_words state)
      (ap (map (name_words (codes "iname"))) (lacks.input_names (omega arith))) (ap (map (name_words (codes "oname"))) (lacks.output_names (omega arith)))

  grown_input_name : (port : ℕ) → Lacks 6 net → Grows (statements.InputName port)
  grown_input_name port lacks =
      ap (λ (l : List (List (List ℕ))). six (head_lines net) (in_rails net) (in_cells net) (in_outputs net) (in_states net) l (in_output_names net))
      (map-append (name_words (codes "iname")) net.input_names ((port, name_in line) ∷ []))
      ∙ behind_d (head_lines net) (in_rails net) (in_cells net) (in_outputs net) (in_states net) (in_input_names net) (in_output_names net) (name_words (codes "iname") (port, name_in line))
      (ap (map (name_words (codes "oname"))) (lacks.output_names (omega arith)))

  grown_output_name : (port : ℕ) → Grows (statements.OutputName port)
  grown_output_name port =
      ap (λ (l : List (List (List ℕ))). six (head_lines net) (in_rails net) (in_cells net) (in_outputs net) (in_states net) (in_input_names net) l)
      (map-append (name_words (codes "oname")) net.output_names ((port, name_in line) ∷ []))
      ∙ behind_e (head_lines net) (in_rails net) (in_cells net) (in_outputs net) (in_states net) (in_input_names net) (in_output_names net) (name_words (codes "oname") (port, name_in line))

  grown : (statement : Statement) → 2 ≤ rank (section_of statement) → rank (section_of statement) < 8 → Lacks (rank (section_of statement)) net → Grows statement
  grown (statements.Version version) low high lacks = absurd (omega arith)
  grown (statements.Ports inputs outputs) low high lacks = absurd (omega arith)
  grown (statements.Input rail) low high lacks = grown_input rail lacks
  grown (statements.OneCell cell) low high lacks = grown_cell cell lacks
  grown (statements.Output rail) low high lacks = grown_output rail lacks
  grown (statements.State state) low high lacks = grown_state state lacks
  grown (statements.InputName port) low high lacks = grown_input_name port lacks
  grown (statements.OutputName port) low high lacks = grown_output_name port
  grown statements.End low high lacks = absurd (omega arith)

-- lines that are those of the netlist that they tell
abbrev IsVersion : List ℕ → Type 0
IsVersion line = (version : kinds.Version) × (statement_in line ≡ Some (statements.Version version))

abbrev pub AreItsLines : List (List ℕ) → Type 0
AreItsLines [] = Unit
AreItsLines (version ∷ []) = IsVersion version
AreItsLines (version ∷ ports ∷ lines) = IsVersion version
    × ((inputs : ℕ) × (outputs : ℕ) × (statement_in ports ≡ Some (statements.Ports inputs outputs)))
    × (version ∷ ports ∷ lines ≡ map spaced (all_lines (netlist_in (version ∷ ports ∷ lines))))

module _ (line : List ℕ) (statement : Statement) (says : statement_in line ≡ Some statement) where
  head_is : (first : List ℕ) → IsVersion first → (inputs outputs : ℕ) → statement ≡ statements.Ports inputs outputs
      → first ∷ line ∷ [] ≡ map spaced (all_lines (netlist_in (first ∷ line ∷ [])))
  head_is first (version, at_first) inputs outputs is =
      let now : statement_in line ≡ Some (statements.Ports inputs outputs) = says ∙ ap (λ (s : Statement). Some s) is in
      let net : netlist_in (first ∷ line ∷ []) ≡ versioned version inputs outputs = rw (at_first, now) refl in
      rw (line_found first (statements.Version version) at_first, line_found line (statements.Ports inputs outputs) now) refl
      ∙ sym (ap (λ (n : PlainNetlist). map spaced (all_lines n)) net)

  lacks : (version ports : List ℕ) (lines : List (List ℕ)) (its : kinds.Version) (inputs outputs : ℕ) → statement_in version ≡ Some (statements.Version its)
      → statement_in ports ≡ Some (statements.Ports inputs outputs)
      → NoneLater (rank (section_of statement)) lines → Lacks (rank (section_of statement)) (netlist_in (version ∷ ports ∷ lines))
  lacks version ports lines its inputs outputs first second none =
      let n = rank (section_of statement) in
      record {
        cells = λ lt. rw (first, second) (none_of n (λ l. cell_by (statement_in l)) (λ l le. no_cell n (statement_in l) le lt) lines none);
        outputs = λ lt. rw (first, second) (none_of n (λ l. output_by (statement_in l)) (λ l le. no_output n (statement_in l) le lt) lines none);
        states = λ lt. rw (first, second) (none_of n (λ l. state_by (statement_in l)) (λ l le. no_state n (statement_in l) le lt) lines none);
        input_names = λ lt. rw (first, second) (none_of n (λ l. input_name_by l (statement_in l)) (λ l le. no_input_name n l (statement_in l) le lt) lines none);
        output_names = λ lt. rw (first, second) (none_of n (λ l. output_name_by l (statement_in l)) (λ l le. no_output_name n l (statement_in l) le lt) lines none);
      }

  -- one more line
  pub its_next : (lines : List (List ℕ)) → AreItsLines lines → follows_lines lines (section_of statement) ≡ true → rank (section_of statement) < 8 → AreItsLines (lines ++ line ∷ [])
  its_next [] are stands high = let first = first_is statement stands in (first.0, says ∙ ap (λ (s : Statement). Some s) first.1)
  its_next (version ∷ []) are stands high =
      let ports = second_is statement stands in
      (are, (ports.0, ports.1, says ∙ ap (λ (s : Statement). Some s) ports.2), head_is version are ports.0 ports.1 ports.2)
  its_next (version ∷ ports ∷ lines) are stands high =
      let section = section_of statement in
      let before : List (List ℕ) = version ∷ ports ∷ lines in
      let parts = and_parts (leb 2 (rank section)) (list_all (λ line. leb (rank_by (statement_in line)) (rank section)) lines) stands in
      let low : 2 ≤ rank section = leb-true _ _ parts.0 in
      let net : netlist_in (before ++ line ∷ []) ≡ with_statement line statement (netlist_in before) = lists_next line statement says before ∙ behind_head line statement (netlist_in before) low in
      let more = grown line (netlist_in before) statement low high (lacks version ports lines are.0.0 are.1.0 are.1.1 are.0.1 are.1.2 parts.1) in (
        are.0,
        are.1,
        ap (λ (l : List (List ℕ)). l ++ line ∷ []) are.2
            ∙ ap (λ (l : List ℕ). map spaced (all_lines (netlist_in before)) ++ l ∷ []) (line_found line statement says)
            ∙ sym (map-append spaced (all_lines (netlist_in before)) (words_by line statement ∷ []))
            ∙ ap (map spaced) (sym more) ∙ ap (λ (n : PlainNetlist). map spaced (all_lines n)) (sym net),
      )

  -- the last line
  pub its_end : (lines : List (List ℕ)) → AreItsLines lines → follows_lines lines (section_of statement) ≡ true → statement ≡ statements.End
      → lines ++ line ∷ [] ≡ map spaced (netlist_words (netlist_in (lines ++ line ∷ [])))
  its_end [] are stands end = let its = first_is statement stands in absurd (let first : statements.Version its.0 ≡ statements.End = sym its.1 ∙ end in cc)
  its_end (version ∷ []) are stands end =
      let ports = second_is statement stands in absurd (let second : statements.Ports ports.0 ports.1 ≡ statements.End = sym ports.2 ∙ end in cc)
  its_end (version ∷ ports ∷ lines) are stands end =
      let before : List (List ℕ) = version ∷ ports ∷ lines in
      let now : statement_in line ≡ Some statements.End = says ∙ ap (λ (s : Statement). Some s) end in
      let net : netlist_in (before ++ line ∷ []) ≡ netlist_in before = lists_next line statements.End now before ∙ behind_head line statements.End (netlist_in before) (omega arith) in
      ap (λ (l : List (List ℕ)). l ++ line ∷ []) are.2
      ∙ ap (λ (l : List ℕ). map spaced (all_lines (netlist_in before)) ++ l ∷ []) (line_found line statements.End now)
      ∙ sym (map-append spaced (all_lines (netlist_in before)) ((codes "end" ∷ []) ∷ []))
      ∙ ap (λ (n : PlainNetlist). map spaced (netlist_words n)) (sym net)
