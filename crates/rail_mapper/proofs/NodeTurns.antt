-- Turns of the loop over conjunctions.
use Rattle.std.proofs.Common.{◌≡◌, ◌≤◌, ◌<◌, ◌+◌, ◌-◌, ◌/◌, ℕ, Bool, true, false, List, [], ◌∷◌, ◌++◌, map, ap, sym, subst, ◌∙◌, refl, arith, append-nil}
use Rattle.std.specs.List.{flat_map, range_with_len}
use Rattle.std.proofs.lemmas.Grind.{flat_map-append}
use Rattle.std.proofs.lemmas.List.{map-append}
use Rattle.pulse_ids.specs.Lists.{occurrences}
use Rattle.pulse_ids.specs.declared.literals.Sign.{Sign}
use Rattle.pulse_ids.specs.declared.literals.Sign.TheVariants.{Pos, Neg}
use Rattle.cell_netlist.specs.declared.kinds.Ask.{Ask}
use Rattle.cell_netlist.specs.declared.kinds.Gate.{Gate}
use Rattle.cell_netlist.specs.declared.kinds.Gate.TheVariants.{La, Fa}
use Rattle.splitter_trees.proofs.CallerLemmasOnRanges.{range-append}
use Rattle.aig_core.specs.Graphs.{count_of}
use Rattle.graph_build.specs.Built.{PlainBuilt}
use Rattle.rail_demand.specs.Demands.{PlainDemand, is_needed}
use Rattle.rail_mapper.specs.Cells.{sign_if, needed_signs, gates_from}
use Rattle.rail_mapper.specs.Drafts.{PlainDraft, readers_of}
use Rattle.rail_mapper.specs.Labels.{rail_number, sign_in, rails_in}
use Rattle.rail_mapper.specs.Lines.{AddsLines}
use Rattle.rail_mapper.specs.Plans.{uses}
use Rattle.rail_mapper.specs.Stages.{MapsRail, skipped, made, IsStage, IsPlan}
use Rattle.rail_mapper.specs.Tracks.{sign_gate, gate_sign}
use Rattle.rail_mapper.proofs.LineSteps.{lines_same, lines_on, gate_lines}
use Rattle.rail_mapper.proofs.StageSteps.{node_of, sign_of, stage_mapped}
use Rattle.rail_mapper.proofs.Values.{rail_low}

-- a node's rail is needed just where it is read
module _ (built : PlainBuilt) (demand : PlainDemand) (ask : Ask) (plan : IsPlan built demand ask) (node : ℕ) (sign : Sign) (inside : node < count_of built.graph) where
  its_rail : is_needed demand (rail_number node sign / 2) (sign_in (rail_number node sign)) ≡ is_needed demand node sign
  its_rail = ap (λ (k : ℕ). is_needed demand k (sign_in (rail_number node sign))) (node_of node sign) ∙ ap (is_needed demand node) (sign_of node sign)

  pub needed_so : 1 ≤ occurrences (rail_number node sign) (uses built demand ask) → is_needed demand node sign ≡ true
  needed_so some = sym its_rail ∙ (plan (rail_number node sign) (rail_low built node sign inside)).1 some

  pub unneeded_so : occurrences (rail_number node sign) (uses built demand ask) ≡ 0 → is_needed demand node sign ≡ false
  unneeded_so none = by (is_needed demand node sign) refl
    where
      by : (b : Bool) → is_needed demand node sign ≡ b → b ≡ false
      by false e = refl
      by true e = let some = (plan (rail_number node sign) (rail_low built node sign inside)).0 (its_rail ∙ e) in absurd (omega arith)

gate_of_sign : (gate : Gate) → sign_gate (gate_sign gate) ≡ gate
gate_of_sign La = refl
gate_of_sign Fa = refl

module _ (built : PlainBuilt) (demand : PlainDemand) (ask : Ask) (plan : IsPlan built demand ask) (node : ℕ) (inside : node < count_of built.graph) (sign : Sign) (before after : PlainDraft)
    (h : IsStage built demand ask (rail_number node sign) before) (maps : MapsRail built (rail_number node sign) before after) where
  low : rail_number node sign < rails_in built
  low = rail_low built node sign inside

  pub rail_stage : IsStage built demand ask (rail_number node sign + 1) after
  rail_stage = stage_mapped built demand ask (rail_number node sign) low (plan (rail_number node sign) low).0 (plan (rail_number node sign) low).1 before after h maps

  planned : readers_of before (rail_number node sign) ≡ occurrences (rail_number node sign) (uses built demand ask)
  planned = h.planned (rail_number node sign) (omega arith)

  pub rail_lines : AddsLines (map sign_gate (sign_if (is_needed demand node sign) sign)) [] before after
  rail_lines = by maps
    where
      by : MapsRail built (rail_number node sign) before after → AddsLines (map sign_gate (sign_if (is_needed demand node sign) sign)) [] before after
      by (skipped none e) =
          subst (λ (b : Bool). AddsLines (map sign_gate (sign_if b sign)) [] before after) (sym (unneeded_so built demand ask plan node sign inside (sym planned ∙ none)))
          (subst (λ (d : PlainDraft). AddsLines [] [] before d) (sym e) (lines_same before))
      by (made gate low_rail high_rail some its gated room) =
          let same : gate_sign gate ≡ sign = sym (sign_of its.node (gate_sign gate)) ∙ ap sign_in (sym its.rail_is) ∙ sign_of node sign in
          let is : gate ≡ sign_gate sign = sym (gate_of_sign gate) ∙ ap sign_gate same in
          subst (λ (b : Bool). AddsLines (map sign_gate (sign_if b sign)) [] before after) (sym (needed_so built demand ask plan node sign inside (omega (arith, planned, some))))
          (subst (λ (g : Gate). AddsLines (g ∷ []) [] before after) is (gate_lines gate low_rail high_rail (rail_number node sign) before after gated))

  pub rail_pending : after.pending ≡ before.pending
  rail_pending = by maps
    where
      by : MapsRail built (rail_number node sign) before after → after.pending ≡ before.pending
      by (skipped none e) = ap (λ (d : PlainDraft). d.pending) e
      by (made gate low_rail high_rail some its gated room) =
          gated.grown.same_pending ∙ ap (λ (d : PlainDraft). d.pending) gated.high_taken.taken ∙ ap (λ (d : PlainDraft). d.pending) gated.low_taken.taken

-- both rails of a node
pub node_lines : (demand : PlainDemand) (node : ℕ) (before middle after : PlainDraft) → AddsLines (map sign_gate (sign_if (is_needed demand node Pos) Pos)) [] before middle
    → AddsLines (map sign_gate (sign_if (is_needed demand node Neg) Neg)) [] middle after → AddsLines (map sign_gate (needed_signs demand node)) [] before after
node_lines demand node before middle after a b =
    subst (λ (l : List Gate). AddsLines l [] before after) (sym (map-append sign_gate (sign_if (is_needed demand node Pos) Pos) (sign_if (is_needed demand node Neg) Neg)))
    (lines_on (map sign_gate (sign_if (is_needed demand node Pos) Pos)) (map sign_gate (sign_if (is_needed demand node Neg) Neg)) [] [] before middle after a b)

-- the gates of a node
abbrev node_gates : PlainDemand → ℕ → List Gate
node_gates demand node = map sign_gate (needed_signs demand node)

-- one node more
pub gates_next : (demand : PlainDemand) (first node : ℕ) → first ≤ node
    → gates_from demand first (node - first) ++ map sign_gate (needed_signs demand node) ≡ gates_from demand first (node + 1 - first)
gates_next demand first node low =
    sym ((let z : node + 1 - first ≡ (node - first) + 1 = omega arith in ap (gates_from demand first) z)
    ∙ ap (flat_map (node_gates demand)) (range-append first (node - first) 1) ∙ flat_map-append (node_gates demand) (range_with_len first (node - first)) ((first + (node - first)) ∷ [])
    ∙ (let z : first + (node - first) ≡ node = omega arith in ap (λ (k : ℕ). gates_from demand first (node - first) ++ (node_gates demand k ++ [])) z)
    ∙ ap (λ (l : List Gate). gates_from demand first (node - first) ++ l) (append-nil (node_gates demand node)))
