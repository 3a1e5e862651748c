-- From one part of the lines to the next.
use Rattle.std.proofs.Common.{◌≡◌, ◌≤◌, ◌+◌, ◌*◌, ◌||◌, ◌∙◌, ◌⊎◌, inl, inr, ℕ, zero, suc, Bool, true, false, List, [], ◌∷◌, ◌++◌, map, length, replicate, ap, refl, sym, subst, arith, append-nil}
use Rattle.std.proofs.Common.{if◌then◌else◌}
use Rattle.std.specs.List.{flat_map}
use Rattle.std.proofs.lemmas.Bool.{or_left, or_right}
use Rattle.std.proofs.lemmas.List.{length-map}
use Rattle.pulse_ids.specs.Lists.{IsIn}
use Rattle.pulse_ids.specs.declared.literals.Sign.TheVariants.{Pos, Neg}
use Rattle.cell_netlist.specs.declared.kinds.Ask.{Ask}
use Rattle.cell_netlist.specs.declared.kinds.Gate.{Gate}
use Rattle.cell_netlist.specs.declared.kinds.Version.{Version}
use Rattle.cell_netlist.specs.declared.kinds.Version.TheVariants.{One, Two}
use Rattle.cell_netlist.specs.declared.lines.Cell.{Cell}
use Rattle.cell_netlist.specs.declared.lines.StateLine.{StateLine}
use Rattle.cell_netlist.specs.declared.kinds.Role.{Role}
use Rattle.cell_netlist.specs.declared.kinds.Role.TheVariants.{Front, Back, Const}
use Rattle.cell_netlist.specs.Netlists.{PlainNetlist}
use Rattle.graph_build.specs.Built.{PlainBuilt}
use Rattle.rail_demand.specs.Demands.{PlainDemand, is_needed}
use Rattle.rail_mapper.specs.Cells.{gate_in, role_in, gates_for, constant_for, pairs_for}
use Rattle.rail_mapper.specs.Drafts.{PlainDraft, readers_of}
use Rattle.rail_mapper.specs.InputStages.{InputsAt, AddsConstant, unread, added}
use Rattle.rail_mapper.specs.LatchStages.{BacksAt, FrontsAt, AreApart, latches_of, latches_needed}
use Rattle.rail_mapper.specs.Lines.{AddsLines, KeepsCells, KeepsStates}
use Rattle.rail_mapper.specs.Makings.{InputsStand, CellsStand, LinesStand}
use Rattle.rail_mapper.specs.OutputStages.{OutputsAt}
use Rattle.rail_mapper.specs.Stages.{IsPlan, IsStage}
use Rattle.rail_mapper.specs.StateLines.{lines_of, in_two, backs_from}
use Rattle.rail_mapper.proofs.BackPlaces.{backs_none, lines_latches, lines_cells}
use Rattle.rail_mapper.proofs.FanOutCells.{bare_fanned_out, kept_fanned_out}
use Rattle.rail_mapper.proofs.LineSteps.{lines_same, lines_on, constant_lines}
use Rattle.rail_mapper.proofs.MadeNets.{frame_kept}
use Rattle.rail_mapper.proofs.NeededInputs.{inputs_are}
use Rattle.rail_mapper.proofs.NodeTurns.{needed_so, unneeded_so}

-- a constant is no back, and no front is
no_const_back : (needed : Bool) → IsIn Back (if needed then Const ∷ [] else []) → ⊥
no_const_back true (inl e) = let its : Const ≡ Back = e in absurd cc
no_const_back true (inr m) = m
no_const_back false m = m

no_front_back : (count : ℕ) → IsIn Back (replicate count Front) → ⊥
no_front_back zero m = m
no_front_back (suc count) (inl e) = let its : Front ≡ Back = e in absurd cc
no_front_back (suc count) (inr m) = no_front_back count m

no_lines : (version : Version) → lines_of version [] ≡ []
no_lines One = refl
no_lines Two = refl

module _ (built : PlainBuilt) (demand : PlainDemand) (ask : Ask) (plan : IsPlan built demand ask) where
  -- the constant stands where it is needed
  constant_needed : {version : Version} (before after : PlainDraft) → InputsAt built demand ask version (2 * built.graph.inputs) before → AddsConstant before after
      → AddsLines [] (constant_for demand) before after
  constant_needed before after h (unread no_zeros no_ones e) =
      subst (λ (b : Bool). AddsLines [] (if b then Const ∷ [] else []) before after) (sym neither) (subst (λ (d : PlainDraft). AddsLines [] [] before d) (sym e) (lines_same before))
    where
      neither : (is_needed demand 0 Pos || is_needed demand 0 Neg) ≡ false
      neither = ap (λ (b : Bool). b || is_needed demand 0 Neg) (unneeded_so built demand ask plan 0 Pos (omega arith) (sym (h.held.planned 0 (omega arith)) ∙ no_zeros))
          ∙ unneeded_so built demand ask plan 0 Neg (omega arith) (sym (h.held.planned 1 (omega arith)) ∙ no_ones)
  constant_needed before after h (added c) =
      subst (λ (b : Bool). AddsLines [] (if b then Const ∷ [] else []) before after) (sym (either c.some)) (constant_lines before after c)
    where
      either : (1 ≤ readers_of before 1) ⊎ (1 ≤ readers_of before 0) → (is_needed demand 0 Pos || is_needed demand 0 Neg) ≡ true
      either (inl ones) = or_right (is_needed demand 0 Pos) (is_needed demand 0 Neg) (needed_so built demand ask plan 0 Neg (omega arith) (let p = h.held.planned 1 (omega arith) in omega arith))
      either (inr zeros) = or_left (is_needed demand 0 Pos) (is_needed demand 0 Neg) (needed_so built demand ask plan 0 Pos (omega arith) (let p = h.held.planned 0 (omega arith) in omega arith))

  pub inputs_stand : {version : Version} (first second third : PlainDraft) → InputsAt built demand ask version (2 * built.graph.inputs) first → AddsConstant first second
      → IsStage built demand ask (2 * (1 + built.graph.inputs)) third → third.pending ≡ []
      → AddsLines [] [] second third → InputsStand built demand ask version third
  inputs_stand first second third h adds stage none lines = record {
    stage = stage;
    no_pending = none;
    frame = frame_kept built demand first third (record {
      inputs = ap (λ (n : PlainNetlist). n.inputs) h.frame;
      outputs = ap (λ (n : PlainNetlist). n.outputs) h.frame;
      input_rails = h.rails ∙ inputs_are built demand ask plan built.graph.inputs (omega arith);
      no_input_names = ap (λ (n : PlainNetlist). n.input_names) h.frame;
      no_output_names = ap (λ (n : PlainNetlist). n.output_names) h.frame;
      of_version = ap (λ (n : PlainNetlist). n.version) h.frame;
    }) all.ports.others;
    no_outputs = all.ports.output_rails ∙ ap (λ (n : PlainNetlist). n.output_rails) h.frame;
    no_states = (all.states_kept (λ m. no_const_back (is_needed demand 0 Pos || is_needed demand 0 Neg) (subst (λ (l : List Role). IsIn Back l) (append-nil (constant_for demand)) m))).states
        ∙ ap (λ (n : PlainNetlist). n.states) h.frame;
    no_gates = all.gates_added ∙ ap (λ (n : PlainNetlist). flat_map gate_in n.cells ++ []) h.frame;
    roles = all.roles_added ∙ ap (λ (n : PlainNetlist). flat_map role_in n.cells ++ (constant_for demand ++ [])) h.frame ∙ append-nil (constant_for demand);
    fanned_out = all.fanned_out (bare_fanned_out first.net (ap (λ (n : PlainNetlist). n.cells) h.frame));
  }
    where
      all : AddsLines [] (constant_for demand ++ []) first third
      all = lines_on [] [] (constant_for demand) [] first second third (constant_needed first second h adds) lines

-- the backs begin
pub backs_begin : {version : Version} (built : PlainBuilt) (demand : PlainDemand) (ask : Ask) (draft : PlainDraft) → InputsStand built demand ask version draft → BacksAt built demand ask 0 draft
backs_begin built demand ask draft h = record {
  stage = subst (λ (r : ℕ). IsStage built demand ask r draft) (let z : 2 * (1 + built.graph.inputs) ≡ 2 * (1 + built.graph.inputs + 0) = omega arith in z) h.stage;
  waiting = ap latches_of h.no_pending;
  apart = subst AreApart (sym h.no_pending) tt;
  lines = h.no_states ∙ sym (ap (lines_of draft.net.version) h.no_pending ∙ no_lines draft.net.version);
  places = backs_none 0 draft.net.cells (λ m. no_const_back (is_needed demand 0 Pos || is_needed demand 0 Neg) (subst (λ (l : List Role). IsIn Back l) h.roles m))
      ∙ sym (ap (map (λ (pair : ℕ × ℕ). pair.0)) h.no_pending);
}

-- all cells stand after the backs, the gates and the fronts
pub cells_stand : {version : Version} (built : PlainBuilt) (demand : PlainDemand) (ask : Ask) (start backs gates fronts : PlainDraft) → InputsStand built demand ask version start
    → BacksAt built demand ask built.graph.latches backs
    → AddsLines [] (replicate (length backs.pending) Back) start backs → AddsLines (gates_for built demand) [] backs gates → gates.pending ≡ backs.pending
    → FrontsAt built ask fronts → fronts.pending ≡ [] → AddsLines [] (replicate (length gates.pending) Front) gates fronts → CellsStand built demand ask version fronts
cells_stand {version = version} built demand ask start backs gates fronts h back_stage back_lines gate_lines same front_stage none front_lines = record {
  fronts = front_stage;
  no_pending = none;
  frame = frame_kept built demand start fronts h.frame all.ports.others;
  no_outputs = all.ports.output_rails ∙ h.no_outputs;
  gates = all.gates_added ∙ ap (λ (l : List Gate). l ++ (gates_for built demand ++ [])) h.no_gates ∙ append-nil (gates_for built demand);
  roles = all.roles_added ∙ ap (λ (l : List Role). l ++ (replicate (length backs.pending) Back ++ replicate (length gates.pending) Front)) h.roles
      ∙ ap (λ (k : ℕ). constant_for demand ++ (replicate k Back ++ replicate (length gates.pending) Front)) pairs
      ∙ ap (λ (k : ℕ). constant_for demand ++ (replicate (pairs_for built demand) Back ++ replicate k Front)) (ap (λ (l : List (ℕ × ℕ)). length l) same ∙ pairs);
  states = record {
    latches = ap (map (λ (line : StateLine). line.latch)) (kept.states ∙ back_stage.lines) ∙ lines_latches backs.net.version backs.pending
        ∙ ap (in_two backs.net.version) back_stage.waiting ∙ ap (λ (v : Version). in_two v (latches_needed built demand built.graph.latches)) its_version;
    cells = ap (map (λ (line : StateLine). line.cell.number)) (kept.states ∙ back_stage.lines) ∙ lines_cells backs.net.version backs.pending
        ∙ ap (in_two backs.net.version) (sym back_stage.places ∙ sym kept.backs) ∙ ap (λ (v : Version). in_two v (backs_from 0 fronts.net.cells)) its_version;
  };
  fanned_out = all.fanned_out h.fanned_out;
}
  where
    its_version : backs.net.version ≡ version
    its_version = back_lines.ports.others.version ∙ h.frame.of_version

    kept : KeepsStates backs fronts
    kept = (lines_on (gates_for built demand) [] [] (replicate (length gates.pending) Front) backs gates fronts gate_lines front_lines).states_kept (λ m. no_front_back (length gates.pending) m)

    pairs : length backs.pending ≡ pairs_for built demand
    pairs = sym (length-map backs.pending (λ (p : ℕ × ℕ). p.1)) ∙ ap (λ (l : List ℕ). length l) back_stage.waiting

    all : AddsLines (gates_for built demand ++ []) (replicate (length backs.pending) Back ++ replicate (length gates.pending) Front) start fronts
    all = lines_on [] (gates_for built demand ++ []) (replicate (length backs.pending) Back) (replicate (length gates.pending) Front) start backs fronts back_lines
        (lines_on (gates_for built demand) [] [] (replicate (length gates.pending) Front) backs gates fronts gate_lines front_lines)

-- and all lines after the output rails
pub lines_stand : {version : Version} (built : PlainBuilt) (demand : PlainDemand) (ask : Ask) (before after : PlainDraft) → CellsStand built demand ask version before
    → OutputsAt built ask (length built.outputs) after
    → KeepsCells before after → LinesStand built demand ask version after
lines_stand {version = version} built demand ask before after h outputs kept = record {
  outputs = outputs;
  frame = frame_kept built demand before after h.frame kept.ports;
  gates = ap (flat_map gate_in) kept.cells ∙ h.gates;
  roles = ap (flat_map role_in) kept.cells ∙ h.roles;
  states = record {
    latches = ap (map (λ (line : StateLine). line.latch)) kept.states ∙ h.states.latches;
    cells = ap (map (λ (line : StateLine). line.cell.number)) kept.states ∙ h.states.cells ∙ ap (λ (cells : List Cell). in_two version (backs_from 0 cells)) (sym kept.cells);
  };
  fanned_out = kept_fanned_out before.net after.net kept.cells kept.ports.input_rails h.fanned_out;
}
