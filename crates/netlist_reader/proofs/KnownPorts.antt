-- The number of input ports that is known after a line that is refused is the one that the lines up to it tell.
use Rattle.std.proofs.Common.{◌≡◌, ◌&&◌, ℕ, ◌+◌, cond, Bool, true, false, Option, Some, None, List, [], ◌∷◌, ◌++◌, refl, sym, ap, ◌∙◌}
use Rattle.std.specs.Prelude.{option_map}
use Rattle.pulse_ids.specs.declared.quantities.Quantity.{Quantity}
use Rattle.netlist_reader.specs.declared.statements.Statement.{Statement}
use Rattle.netlist_reader.specs.declared.statements.Statement.TheVariants as statements
use Rattle.netlist_reader.specs.declared.places.Section.{Section}
use Rattle.netlist_reader.specs.declared.places.Section.TheVariants.{Version}
use Rattle.netlist_reader.specs.declared.built.Built.{Built}
use Rattle.netlist_reader.specs.declared.refusals.NetRefusal.{NetRefusal}
use Rattle.netlist_reader.specs.declared.refusals.NetRefusal.TheVariants as refusals
use Rattle.netlist_reader.specs.Statements.{statement_in}
use Rattle.netlist_reader.specs.Limits.{limit_of}
use Rattle.netlist_reader.specs.Places.{section_of, ports_by, inputs_of, netlist_in, follows_lines, fits_behind, stands_after}
use Rattle.netlist_reader.specs.Building.{inputs_after, inputs_refused, has_ended, allows, after_statement, unless_over, read_by, line_read}
use Rattle.netlist_reader.proofs.Bools.{and_parts}
use Rattle.netlist_reader.proofs.Steps.{refused, IsBuilt, IsPlaced, allowed_is, inputs_next, read_is}

-- a line that says no ports adds none
none_said : (lines : List (List ℕ)) (line : List ℕ) → ports_by (statement_in line) ≡ None → inputs_of lines ≡ inputs_of (lines ++ line ∷ [])
none_said [] line h = refl
none_said (version ∷ []) line h = sym (ap (option_map (λ (ports : ℕ × ℕ). ports.0)) h)
none_said (version ∷ ports ∷ lines) line h = refl

-- behind the version nothing but the ports is refused for its place
not_ports : (last : Option Section) (statement : Statement) (built : Built) → built.last ≡ last → last ≡ Some Version → allows built statement ≡ false → ports_by (Some statement) ≡ None
not_ports last (statements.Version its) built e is wrong = refl
not_ports last (statements.Ports inputs outputs) built e is wrong = absurd (let now : true ≡ false = sym (rw (e ∙ is) refl) ∙ wrong in cc)
not_ports last (statements.Input rail) built e is wrong = refl
not_ports last (statements.OneCell cell) built e is wrong = refl
not_ports last (statements.Output rail) built e is wrong = refl
not_ports last (statements.State state) built e is wrong = refl
not_ports last (statements.InputName port) built e is wrong = refl
not_ports last (statements.OutputName port) built e is wrong = refl
not_ports last statements.End built e is wrong = refl

module _ (lines : List (List ℕ)) (built : Built) (is : IsBuilt lines built) (unended : has_ended built ≡ false) (line : List ℕ) where
  out_of_place : (statement : Statement) (before : List (List ℕ)) → lines ≡ before → IsPlaced before built.last → statement_in line ≡ Some statement → allows built statement ≡ false
      → inputs_of before ≡ inputs_of (before ++ line ∷ [])
  out_of_place statement [] e placed says wrong = refl
  out_of_place statement (version ∷ []) e placed says wrong =
      none_said (version ∷ []) line (ap ports_by says ∙ not_ports built.last statement built refl placed.0 wrong)
  out_of_place statement (version ∷ ports ∷ before) e placed says wrong = refl

  same_refusal : (one refusal : NetRefusal) → refused one ≡ refused refusal → one ≡ refusal
  same_refusal one refusal e = cc

  told_by : (statement : Statement) (b : Bool) (over : Option Quantity) (refusal : NetRefusal) → statement_in line ≡ Some statement → allows built statement ≡ b → limit_of line statement ≡ over
      → cond b (unless_over over (after_statement built line statement)) (refused (refusals.BadLine (built.lines + 1))) ≡ refused refusal
      → inputs_refused refusal built.inputs (Some statement) ≡ inputs_of (lines ++ line ∷ [])
  told_by statement true None refusal says allowed small read = absurd cc
  told_by statement true (Some quantity) refusal says allowed small read =
      let stands : stands_after lines statement ≡ true = sym (allowed_is line statement says lines built is) ∙ allowed in
      let same = same_refusal (refusals.Limit quantity) refusal read in
      ap (λ (r : NetRefusal). inputs_refused r built.inputs (Some statement)) (sym same) ∙ ap (λ (i : Option ℕ). inputs_after i statement) is.inputs
      ∙ inputs_next line statement says lines built.last is.placed (and_parts (follows_lines lines (section_of statement)) (fits_behind (netlist_in lines) statement) stands).0
  told_by statement false over refusal says allowed small read =
      let same = same_refusal (refusals.BadLine (built.lines + 1)) refusal read in
      ap (λ (r : NetRefusal). inputs_refused r built.inputs (Some statement)) (sym same) ∙ is.inputs
      ∙ out_of_place statement lines refl is.placed says allowed

  told_said : (said : Option Statement) (refusal : NetRefusal) → statement_in line ≡ said → read_by built line said ≡ refused refusal
      → inputs_refused refusal built.inputs said ≡ inputs_of (lines ++ line ∷ [])
  told_said None refusal says read =
      let same = same_refusal (refusals.BadLine (built.lines + 1)) refusal read in
      ap (λ (r : NetRefusal). inputs_refused r built.inputs None) (sym same) ∙ is.inputs ∙ none_said lines line (ap ports_by says)
  told_said (Some statement) refusal says read = told_by statement (allows built statement) (limit_of line statement) refusal says refl refl read

  pub inputs_told : (refusal : NetRefusal) → line_read built line ≡ refused refusal → inputs_refused refusal built.inputs (statement_in line) ≡ inputs_of (lines ++ line ∷ [])
  inputs_told refusal read = told_said (statement_in line) refusal refl (sym (read_is lines built is unended line) ∙ read)
