-- Each line that is read leads from what was built of the lines before it to what is built with it.
use Rattle.std.proofs.Common.{◌≡◌, ◌≤◌, ◌+◌, ◌&&◌, ◌||◌, ℕ, cond, eqb, leb, Bool, true, false, Option, Some, None, Result, Ok, Err, List, [], ◌∷◌, ◌++◌, length, refl, sym, ap, subst, ◌∙◌}
use Rattle.std.proofs.Common.{append-nil, arith}
use Rattle.std.specs.Prelude.{option_map, unwrap_or}
use Rattle.std.specs.List.{flat_map, list_all, list_any}
use Rattle.std.proofs.lemmas.Bool.{le-leb, leb-true, eqb-true}
use Rattle.std.proofs.lemmas.List.{length-append}
use Rattle.std.proofs.lemmas.List.Folds.{list_all-append, list_any-append}
use Rattle.std.proofs.lemmas.List.Concat.{flat_map-append}
use Rattle.pulse_ids.specs.declared.quantities.Quantity.{Quantity}
use Rattle.cell_netlist.specs.declared.kinds.Version as kinds
use Rattle.cell_netlist.specs.Netlists.{PlainNetlist, netlist_of, with_states}
use Rattle.netlist_reader.specs.declared.statements.Statement.{Statement}
use Rattle.netlist_reader.specs.declared.statements.Statement.TheVariants as statements
use Rattle.netlist_reader.specs.declared.places.Section.{Section}
use Rattle.netlist_reader.specs.declared.places.Section.TheVariants.{Version, Ports, InputRails, Cells, OutputRails, States, InputNames, OutputNames, End}
use Rattle.netlist_reader.specs.declared.built.Built.{Built}
use Rattle.netlist_reader.specs.declared.refusals.NetRefusal.{NetRefusal}
use Rattle.netlist_reader.specs.declared.refusals.NetRefusal.TheVariants as refusals
use Rattle.netlist_reader.specs.Statements.{statement_in}
use Rattle.netlist_reader.specs.Limits.{limit_of}
use Rattle.netlist_reader.specs.Places.{rank, section_of, rank_by, input_by, cell_by, output_by, state_by, input_name_by, output_name_by, version_of, ports_by, inputs_of, outputs_of, netlist_in}
use Rattle.netlist_reader.specs.Places.{follows_lines, fits_behind, stands_after, refusal_by, line_refusal, is_end_by, is_end, has_end}
use Rattle.netlist_reader.specs.Building.{follows, inputs_after, with_statement, has_ended_by, has_ended, start, allows, after_statement, unless_over, read_by, line_read}
use Rattle.netlist_reader.proofs.Bools.{and_parts, and_true, and_false}

abbrev pub going : Built → Result Built NetRefusal
going built = Ok built

abbrev pub refused : NetRefusal → Result Built NetRefusal
refused refusal = Err refusal

-- the section of the last line, by all lines
abbrev pub IsPlaced : List (List ℕ) → Option Section → Type 0
IsPlaced [] last = last ≡ None
IsPlaced (version ∷ []) last = (last ≡ Some Version) × (its : kinds.Version) × (statement_in version ≡ Some (statements.Version its))
IsPlaced (version ∷ ports ∷ lines) last = (section : Section) × (last ≡ Some section) × (1 ≤ rank section)
    × ((n : ℕ) → 2 ≤ n → list_all (λ line. leb (rank_by (statement_in line)) n) lines ≡ leb (rank section) n)

-- what these lines have built
pub record IsBuilt (lines : List (List ℕ)) (built : Built) : Type 0 where
  pub count : built.lines ≡ length lines
  pub net : built.net ≡ netlist_in lines
  pub inputs : built.inputs ≡ inputs_of lines
  pub placed : IsPlaced lines built.last
  pub ended : has_ended built ≡ has_end lines

pub nothing_built : IsBuilt [] start
nothing_built = record { count = refl; net = refl; inputs = refl; placed = refl; ended = refl }

-- where a section may follow
pub behind_ports : (last section : Section) → 1 ≤ rank last → follows (Some last) section ≡ (leb 2 (rank section) && leb (rank last) (rank section))
behind_ports Version section h = absurd (omega arith)
behind_ports Ports section h = refl
behind_ports InputRails section h = refl
behind_ports Cells section h = refl
behind_ports OutputRails section h = refl
behind_ports States section h = refl
behind_ports InputNames section h = refl
behind_ports OutputNames section h = refl
behind_ports End section h = refl

no_earlier : (n low : ℕ) (each : Bool) (b : Bool) → leb 2 n ≡ b → (2 ≤ n → each ≡ leb low n) → (leb 2 n && leb low n) ≡ (leb 2 n && each)
no_earlier n low each true e h = rw (e, h (leb-true _ _ e)) refl
no_earlier n low each false e h = rw e refl

place_is : (lines : List (List ℕ)) (last : Option Section) (section : Section) → IsPlaced lines last → follows last section ≡ follows_lines lines section
place_is [] last section placed = ap (λ (l : Option Section). follows l section) placed
place_is (version ∷ []) last section placed = ap (λ (l : Option Section). follows l section) placed.0
place_is (version ∷ ports ∷ lines) last section placed =
    ap (λ (l : Option Section). follows l section) placed.1 ∙ behind_ports placed.0 section placed.2
    ∙ no_earlier (rank section) (rank placed.0) (list_all (λ line. leb (rank_by (statement_in line)) (rank section)) lines) (leb 2 (rank section)) refl (placed.3 (rank section))

-- what is placed with one more line
pub first_is : (statement : Statement) → eqb (rank (section_of statement)) 0 ≡ true → (its : kinds.Version) × (statement ≡ statements.Version its)
first_is (statements.Version its) h = (its, refl)
first_is (statements.Ports inputs outputs) h = absurd cc
first_is (statements.Input rail) h = absurd cc
first_is (statements.OneCell cell) h = absurd cc
first_is (statements.Output rail) h = absurd cc
first_is (statements.State state) h = absurd cc
first_is (statements.InputName port) h = absurd cc
first_is (statements.OutputName port) h = absurd cc
first_is statements.End h = absurd cc

and_higher : (low high n : ℕ) (b : Bool) → low ≤ high → leb high n ≡ b → (leb low n && leb high n) ≡ leb high n
and_higher low high n true le e = let first : leb low n ≡ true = le-leb _ _ (omega (arith, leb-true _ _ e, le)) in rw (first, e) refl
and_higher low high n false le e = rw e (and_false (leb low n))

module _ (line : List ℕ) (statement : Statement) (says : statement_in line ≡ Some statement) where
  rank_is : rank_by (statement_in line) ≡ rank (section_of statement)
  rank_is = ap rank_by says

  placed_next : (lines : List (List ℕ)) (last : Option Section) → IsPlaced lines last → follows_lines lines (section_of statement) ≡ true → IsPlaced (lines ++ line ∷ []) (Some (section_of statement))
  placed_next [] last placed stands = let first = first_is statement stands in (ap (λ (s : Statement). Some (section_of s)) first.1, first.0, says ∙ ap (λ (s : Statement). Some s) first.1)
  placed_next (version ∷ []) last placed stands =
      (section_of statement, refl, omega (arith, eqb-true _ _ stands), λ n two. sym (le-leb (rank (section_of statement)) n (omega (arith, eqb-true _ _ stands))))
  placed_next (version ∷ ports ∷ lines) last placed stands =
      let section = section_of statement in
      let parts = and_parts (leb 2 (rank section)) (list_all (λ line. leb (rank_by (statement_in line)) (rank section)) lines) stands in
      let two = leb-true _ _ parts.0 in
      let higher : rank placed.0 ≤ rank section = leb-true _ _ (sym (placed.3 (rank section) two) ∙ parts.1) in (
        section,
        refl,
        omega (arith, two),
        λ n many. list_all-append (λ line. leb (rank_by (statement_in line)) n) lines (line ∷ [])
            ∙ ap (λ b. list_all (λ line. leb (rank_by (statement_in line)) n) lines && b) (and_true (leb (rank_by (statement_in line)) n) ∙ ap (λ r. leb r n) rank_is)
            ∙ ap (λ b. b && leb (rank section) n) (placed.3 n many) ∙ and_higher (rank placed.0) (rank section) n (leb (rank section) n) higher refl,
      )

  -- each list with one more line
  added : {X : Type 0} (f : List ℕ → List X) (lines : List (List ℕ)) (xs : List X) → f line ≡ xs → flat_map f (lines ++ line ∷ []) ≡ flat_map f lines ++ xs
  added {X = X} f lines xs e = flat_map-append f lines (line ∷ []) ∙ ap (λ (l : List X). flat_map f lines ++ l) (append-nil (f line) ∙ e)

  -- the netlist that lines tell with one more, but for the ports
  pub lists_next : (lines : List (List ℕ)) → netlist_in (lines ++ line ∷ [])
      ≡ with_states (version_of (lines ++ line ∷ [])) (flat_map (λ l. state_by (statement_in l)) lines ++ state_by (Some statement))
      (netlist_of (unwrap_or (inputs_of (lines ++ line ∷ [])) 0) (unwrap_or (outputs_of (lines ++ line ∷ [])) 0)
      (flat_map (λ l. input_by (statement_in l)) lines ++ input_by (Some statement))
      (flat_map (λ l. cell_by (statement_in l)) lines ++ cell_by (Some statement))
      (flat_map (λ l. output_by (statement_in l)) lines ++ output_by (Some statement))
      (flat_map (λ l. input_name_by l (statement_in l)) lines ++ input_name_by line (Some statement))
      (flat_map (λ l. output_name_by l (statement_in l)) lines ++ output_name_by line (Some statement)))
  lists_next lines = rw (
    added (λ l. input_by (statement_in l)) lines (input_by (Some statement)) (ap input_by says),
    added (λ l. cell_by (statement_in l)) lines (cell_by (Some statement)) (ap cell_by says),
    added (λ l. output_by (statement_in l)) lines (output_by (Some statement)) (ap output_by says),
    added (λ l. state_by (statement_in l)) lines (state_by (Some statement)) (ap state_by says),
    added (λ l. input_name_by l (statement_in l)) lines (input_name_by line (Some statement)) (ap (input_name_by line) says),
    added (λ l. output_name_by l (statement_in l)) lines (output_name_by line (Some statement)) (ap (output_name_by line) says),
  ) refl

-- a netlist with what a statement adds, behind the ports
pub behind_head : (line : List ℕ) (statement : Statement) (net : PlainNetlist) → 2 ≤ rank (section_of statement)
    → with_states net.version (net.states ++ state_by (Some statement))
    (netlist_of net.inputs net.outputs (net.input_rails ++ input_by (Some statement)) (net.cells ++ cell_by (Some statement)) (net.output_rails ++ output_by (Some statement))
    (net.input_names ++ input_name_by line (Some statement)) (net.output_names ++ output_name_by line (Some statement)))
    ≡ with_statement line statement net
behind_head line (statements.Version version) net h = absurd (omega arith)
behind_head line (statements.Ports inputs outputs) net h = absurd (omega arith)
behind_head line (statements.Input rail) net h = rw (append-nil net.cells, append-nil net.output_rails, append-nil net.states, append-nil net.input_names, append-nil net.output_names) refl
behind_head line (statements.OneCell cell) net h = rw (append-nil net.input_rails, append-nil net.output_rails, append-nil net.states, append-nil net.input_names, append-nil net.output_names) refl
behind_head line (statements.Output rail) net h = rw (append-nil net.input_rails, append-nil net.cells, append-nil net.states, append-nil net.input_names, append-nil net.output_names) refl
behind_head line (statements.State state) net h =
    rw (append-nil net.input_rails, append-nil net.cells, append-nil net.output_rails, append-nil net.input_names, append-nil net.output_names) refl
behind_head line (statements.InputName port) net h = rw (append-nil net.input_rails, append-nil net.cells, append-nil net.output_rails, append-nil net.states, append-nil net.output_names) refl
behind_head line (statements.OutputName port) net h = rw (append-nil net.input_rails, append-nil net.cells, append-nil net.output_rails, append-nil net.states, append-nil net.input_names) refl
behind_head line statements.End net h =
    rw (append-nil net.input_rails, append-nil net.cells, append-nil net.output_rails, append-nil net.states, append-nil net.input_names, append-nil net.output_names) refl

pub second_is : (statement : Statement) → eqb (rank (section_of statement)) 1 ≡ true → (inputs : ℕ) × (outputs : ℕ) × (statement ≡ statements.Ports inputs outputs)
second_is (statements.Version version) h = absurd cc
second_is (statements.Ports inputs outputs) h = (inputs, outputs, refl)
second_is (statements.Input rail) h = absurd cc
second_is (statements.OneCell cell) h = absurd cc
second_is (statements.Output rail) h = absurd cc
second_is (statements.State state) h = absurd cc
second_is (statements.InputName port) h = absurd cc
second_is (statements.OutputName port) h = absurd cc
second_is statements.End h = absurd cc

module _ (line : List ℕ) (statement : Statement) (says : statement_in line ≡ Some statement) where
  net_next : (lines : List (List ℕ)) (last : Option Section) → IsPlaced lines last → follows_lines lines (section_of statement) ≡ true
      → with_statement line statement (netlist_in lines) ≡ netlist_in (lines ++ line ∷ [])
  net_next [] last placed stands =
      let first = first_is statement stands in
      let now : statement_in line ≡ Some (statements.Version first.0) = says ∙ ap (λ (s : Statement). Some s) first.1 in
      ap (λ (s : Statement). with_statement line s (netlist_in [])) first.1 ∙ sym (rw now refl)
  net_next (version ∷ []) last placed stands =
      let ports = second_is statement stands in
      let now : statement_in line ≡ Some (statements.Ports ports.0 ports.1) = says ∙ ap (λ (s : Statement). Some s) ports.2 in
      let made : with_statement line (statements.Ports ports.0 ports.1) (netlist_in (version ∷ [])) ≡ netlist_in (version ∷ line ∷ []) = rw (placed.2, now) refl in
      ap (λ (s : Statement). with_statement line s (netlist_in (version ∷ []))) ports.2 ∙ made
  net_next (version ∷ ports ∷ lines) last placed stands =
      let two = leb-true _ _ (and_parts (leb 2 (rank (section_of statement))) (list_all (λ line. leb (rank_by (statement_in line)) (rank (section_of statement))) lines) stands).0 in
      sym (lists_next line statement says (version ∷ ports ∷ lines) ∙ behind_head line statement (netlist_in (version ∷ ports ∷ lines)) two)

  pub inputs_next : (lines : List (List ℕ)) (last : Option Section) → IsPlaced lines last → follows_lines lines (section_of statement) ≡ true
      → inputs_after (inputs_of lines) statement ≡ inputs_of (lines ++ line ∷ [])
  inputs_next [] last placed stands = ap (inputs_after None) (first_is statement stands).1
  inputs_next (version ∷ []) last placed stands =
      let ports = second_is statement stands in
      ap (inputs_after None) ports.2 ∙ sym (ap (λ (s : Option Statement). option_map (λ (p : ℕ × ℕ). p.0) (ports_by s)) (says ∙ ap (λ (s : Statement). Some s) ports.2))
  inputs_next (version ∷ ports ∷ lines) last placed stands =
      let two = leb-true _ _ (and_parts (leb 2 (rank (section_of statement))) (list_all (λ line. leb (rank_by (statement_in line)) (rank (section_of statement))) lines) stands).0 in
      others (inputs_of (version ∷ ports ∷ lines)) statement two
    where
      others : (inputs : Option ℕ) (statement : Statement) → 2 ≤ rank (section_of statement) → inputs_after inputs statement ≡ inputs
      others inputs (statements.Version version) h = refl
      others inputs (statements.Ports these those) h = absurd (omega arith)
      others inputs (statements.Input rail) h = refl
      others inputs (statements.OneCell cell) h = refl
      others inputs (statements.Output rail) h = refl
      others inputs (statements.State state) h = refl
      others inputs (statements.InputName port) h = refl
      others inputs (statements.OutputName port) h = refl
      others inputs statements.End h = refl

  end_is : (statement : Statement) → has_ended_by (Some (section_of statement)) ≡ is_end_by (Some statement)
  end_is (statements.Version version) = refl
  end_is (statements.Ports inputs outputs) = refl
  end_is (statements.Input rail) = refl
  end_is (statements.OneCell cell) = refl
  end_is (statements.Output rail) = refl
  end_is (statements.State state) = refl
  end_is (statements.InputName port) = refl
  end_is (statements.OutputName port) = refl
  end_is statements.End = refl

  or_false : (b : Bool) → (b || false) ≡ b
  or_false true = refl
  or_false false = refl

  ended_next : (lines : List (List ℕ)) → has_end lines ≡ false → has_ended_by (Some (section_of statement)) ≡ has_end (lines ++ line ∷ [])
  ended_next lines unended =
      end_is statement ∙ sym (ap is_end_by says)
      ∙ sym (list_any-append is_end lines (line ∷ []) ∙ ap (λ b. b || list_any is_end (line ∷ [])) unended ∙ or_false (is_end line))

  -- what is built with one more line
  built_next : (lines : List (List ℕ)) (built : Built) → IsBuilt lines built → has_ended built ≡ false → follows_lines lines (section_of statement) ≡ true
      → IsBuilt (lines ++ line ∷ []) (after_statement built line statement)
  built_next lines built is unended stands = record {
    count = omega (arith, is.count, length-append lines (line ∷ []));
    net = ap (with_statement line statement) is.net ∙ net_next lines built.last is.placed stands;
    inputs = ap (λ (i : Option ℕ). inputs_after i statement) is.inputs ∙ inputs_next lines built.last is.placed stands;
    placed = placed_next line statement says lines built.last is.placed stands;
    ended = ended_next lines (sym is.ended ∙ unended);
  }

  pub allowed_is : (lines : List (List ℕ)) (built : Built) → IsBuilt lines built → allows built statement ≡ stands_after lines statement
  allowed_is lines built is =
      ap (λ b. b && fits_behind built.net statement) (place_is lines built.last (section_of statement) is.placed)
      ∙ ap (λ (n : PlainNetlist). follows_lines lines (section_of statement) && fits_behind n statement) is.net

-- the refusal of a line is that of reading it
module _ (lines : List (List ℕ)) (built : Built) (is : IsBuilt lines built) (unended : has_ended built ≡ false) (line : List ℕ) where
  abbrev Right : Built → Type 0
  Right next = (line_refusal lines line ≡ None) × IsBuilt (lines ++ line ∷ []) next

  right_by : (statement : Statement) (b : Bool) (over : Option Quantity) (next : Built) → statement_in line ≡ Some statement → allows built statement ≡ b → limit_of line statement ≡ over
      → cond b (unless_over over (after_statement built line statement)) (refused (refusals.BadLine (built.lines + 1))) ≡ going next → Right next
  right_by statement true None next says allowed small read =
      let stands : stands_after lines statement ≡ true = sym (allowed_is line statement says lines built is) ∙ allowed in
      let same : after_statement built line statement ≡ next = cc in (
        ap (refusal_by lines line) says ∙ rw (stands, small) refl,
        subst (λ (b : Built). IsBuilt (lines ++ line ∷ []) b) same (built_next line statement says lines built is unended
            (and_parts (follows_lines lines (section_of statement)) (fits_behind (netlist_in lines) statement) stands).0),
      )
  right_by statement true (Some quantity) next says allowed small read = absurd cc
  right_by statement false over next says allowed small read = absurd cc

  right_said : (said : Option Statement) (next : Built) → statement_in line ≡ said → read_by built line said ≡ going next → Right next
  right_said None next says read = absurd cc
  right_said (Some statement) next says read = right_by statement (allows built statement) (limit_of line statement) next says refl refl read

  pub read_is : line_read built line ≡ read_by built line (statement_in line)
  read_is = rw unended refl

  pub line_right : (next : Built) → line_read built line ≡ going next → (line_refusal lines line ≡ None) × IsBuilt (lines ++ line ∷ []) next
  line_right next read = right_said (statement_in line) next refl (sym read_is ∙ read)

  number_is : (refusal : NetRefusal) → refused (refusals.BadLine (built.lines + 1)) ≡ refused refusal → Some (refusals.BadLine (length lines + 1)) ≡ Some refusal
  number_is refusal e =
      let same : refusals.BadLine (built.lines + 1) ≡ refusal = cc in
      ap (λ n. Some (refusals.BadLine (n + 1))) (sym is.count) ∙ ap (λ (r : NetRefusal). Some r) same

  wrong_by : (statement : Statement) (b : Bool) (over : Option Quantity) (refusal : NetRefusal) → statement_in line ≡ Some statement → allows built statement ≡ b → limit_of line statement ≡ over
      → cond b (unless_over over (after_statement built line statement)) (refused (refusals.BadLine (built.lines + 1))) ≡ refused refusal → line_refusal lines line ≡ Some refusal
  wrong_by statement true None refusal says allowed small read = absurd cc
  wrong_by statement true (Some quantity) refusal says allowed small read =
      let stands : stands_after lines statement ≡ true = sym (allowed_is line statement says lines built is) ∙ allowed in
      let same : refusals.Limit quantity ≡ refusal = cc in
      ap (refusal_by lines line) says ∙ rw (stands, small) (ap (λ (r : NetRefusal). Some r) same)
  wrong_by statement false over refusal says allowed small read =
      let stands : stands_after lines statement ≡ false = sym (allowed_is line statement says lines built is) ∙ allowed in
      ap (refusal_by lines line) says ∙ rw stands (number_is refusal read)

  wrong_said : (said : Option Statement) (refusal : NetRefusal) → statement_in line ≡ said → read_by built line said ≡ refused refusal → line_refusal lines line ≡ Some refusal
  wrong_said None refusal says read = ap (refusal_by lines line) says ∙ number_is refusal read
  wrong_said (Some statement) refusal says read = wrong_by statement (allows built statement) (limit_of line statement) refusal says refl refl read

  pub line_wrong : (refusal : NetRefusal) → line_read built line ≡ refused refusal → line_refusal lines line ≡ Some refusal
  line_wrong refusal read = wrong_said (statement_in line) refusal refl (sym read_is ∙ read)
