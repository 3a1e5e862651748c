-- Each step keeps the ports, the names and the rails that it does not add.
use Rattle.std.proofs.Common.{◌≡◌, ℕ, Bool, List, [], ◌∷◌, ◌++◌, ap, ◌∙◌, refl}
use Rattle.pulse_ids.specs.Ids.{NodeLit}
use Rattle.pulse_ids.specs.declared.literals.Sign.{Sign}
use Rattle.cell_netlist.specs.declared.kinds.Gate.{Gate}
use Rattle.cell_netlist.specs.declared.lines.Cell.{Cell}
use Rattle.cell_netlist.specs.Netlists.{PlainNetlist, number_of_wires}
use Rattle.graph_build.specs.Built.{PlainBuilt}
use Rattle.rail_mapper.specs.Drafts.{PlainDraft, Takes, Grows, Gated, gate_cell, with_cell}
use Rattle.rail_mapper.specs.FrontStages.{FinishesFirst}
use Rattle.rail_mapper.specs.InputStages.{AddsConstant, unread, added}
use Rattle.rail_mapper.specs.OutputStages.{PutsOutputs}
use Rattle.rail_mapper.specs.Ports.{KeepsInputs, KeepsPorts}
use Rattle.rail_mapper.specs.Stages.{GrowsIf, grown, bare, MapsRail, skipped, made, Finishes, Outputs, begun_draft, HasBegun, BeginsLatch}
use Rattle.rail_mapper.specs.Stages as stages

-- a draft keeps its own ports, and one step after another keeps them
pub inputs_same : (draft : PlainDraft) → KeepsInputs draft draft
inputs_same draft = record { inputs = refl; outputs = refl; input_rails = refl; input_names = refl; output_names = refl; version = refl }

pub inputs_on : (one two three : PlainDraft) → KeepsInputs one two → KeepsInputs two three → KeepsInputs one three
inputs_on one two three a b = record {
  inputs = b.inputs ∙ a.inputs;
  outputs = b.outputs ∙ a.outputs;
  input_rails = b.input_rails ∙ a.input_rails;
  input_names = b.input_names ∙ a.input_names;
  output_names = b.output_names ∙ a.output_names;
  version = b.version ∙ a.version;
}

pub ports_same : (draft : PlainDraft) → KeepsPorts draft draft
ports_same draft = record { others = inputs_same draft; output_rails = refl }

pub ports_on : (one two three : PlainDraft) → KeepsPorts one two → KeepsPorts two three → KeepsPorts one three
ports_on one two three a b = record { others = inputs_on one two three a.others b.others; output_rails = b.output_rails ∙ a.output_rails }

-- other cells leave the ports
pub cells_keep : (before after : PlainDraft) (cells : List Cell) → after.net ≡ record before.net { cells = cells } → KeepsPorts before after
cells_keep before after cells e = record {
  others = record {
    inputs = ap (λ (net : PlainNetlist). net.inputs) e;
    outputs = ap (λ (net : PlainNetlist). net.outputs) e;
    input_rails = ap (λ (net : PlainNetlist). net.input_rails) e;
    input_names = ap (λ (net : PlainNetlist). net.input_names) e;
    output_names = ap (λ (net : PlainNetlist). net.output_names) e;
    version = ap (λ (net : PlainNetlist). net.version) e;
  };
  output_rails = ap (λ (net : PlainNetlist). net.output_rails) e;
}

equal_keep : (before after : PlainDraft) → after ≡ before → KeepsPorts before after
equal_keep before after e = cells_keep before after before.net.cells (ap (λ (d : PlainDraft). d.net) e)

pub take_keeps : (rail wire : ℕ) (before after : PlainDraft) → Takes rail wire before after → KeepsPorts before after
take_keeps rail wire before after take = cells_keep before after before.net.cells (ap (λ (d : PlainDraft). d.net) take.taken)

pub grow_keeps : (rail root : ℕ) (before after : PlainDraft) → Grows rail root before after → KeepsPorts before after
grow_keeps rail root before after grow = cells_keep before after (before.net.cells ++ grow.spread.cells) grow.spread.added

pub grow_if_keeps : (rail root : ℕ) (before after : PlainDraft) → GrowsIf rail root before after → KeepsPorts before after
grow_if_keeps rail root before after (grown some grow) = grow_keeps rail root before after grow
grow_if_keeps rail root before after (bare none e) = equal_keep before after e

pub gate_keeps : (gate : Gate) (low high rail : ℕ) (before after : PlainDraft) → Gated gate low high rail before after → KeepsPorts before after
gate_keeps gate low high rail before after gated =
    let cell = gate_cell gate gated.a gated.b (number_of_wires before.net) in
    ports_on before gated.one after (take_keeps low gated.a before gated.one gated.low_taken)
    (ports_on gated.one gated.two after (take_keeps high gated.b gated.one gated.two gated.high_taken)
    (ports_on gated.two (with_cell gated.two cell) after (cells_keep gated.two (with_cell gated.two cell) (gated.two.net.cells ++ cell ∷ []) refl)
    (grow_keeps rail (number_of_wires before.net) (with_cell gated.two cell) after gated.grown)))

pub maps_keeps : (built : PlainBuilt) (rail : ℕ) (before after : PlainDraft) → MapsRail built rail before after → KeepsPorts before after
maps_keeps built rail before after (skipped none e) = equal_keep before after e
maps_keeps built rail before after (made gate low high some node gated room) = gate_keeps gate low high rail before after gated

pub constant_keeps : (before after : PlainDraft) → AddsConstant before after → KeepsPorts before after
constant_keeps before after (unread none_zero none_one e) = equal_keep before after e
constant_keeps before after (added c) = cells_keep before after _ c.constant.added

-- a back leaves the ports
pub begun_keeps : (draft : PlainDraft) (latch : ℕ) (init q n : Bool) → KeepsPorts draft (begun_draft draft latch init q n)
begun_keeps draft latch init q n = record {
  others = record { inputs = refl; outputs = refl; input_rails = refl; input_names = refl; output_names = refl; version = refl };
  output_rails = refl;
}

pub finish_keeps : (rail : ℕ) (init : Bool) (before after : PlainDraft) → FinishesFirst rail init before after → KeepsPorts before after
finish_keeps rail init before after f =
    ports_on before f.finishes.middle after (take_keeps rail f.finishes.next before f.finishes.middle f.finishes.taken)
    (cells_keep f.finishes.middle after _ (ap (λ (d : PlainDraft). d.net) f.finishes.finished))

pub output_keeps : (rail port : ℕ) (sign : Sign) (before after : PlainDraft) → Outputs rail port sign before after → KeepsInputs before after
output_keeps rail port sign before after out =
    inputs_on before out.middle after (take_keeps rail out.wire before out.middle out.taken).others (record {
      inputs = ap (λ (d : PlainDraft). d.net.inputs) out.added;
      outputs = ap (λ (d : PlainDraft). d.net.outputs) out.added;
      input_rails = ap (λ (d : PlainDraft). d.net.input_rails) out.added;
      input_names = ap (λ (d : PlainDraft). d.net.input_names) out.added;
      output_names = ap (λ (d : PlainDraft). d.net.output_names) out.added;
      version = ap (λ (d : PlainDraft). d.net.version) out.added;
    })

pub puts_keep : (literal : NodeLit) (port : ℕ) (signs : List Sign) (before after : PlainDraft) → PutsOutputs literal port signs before after → KeepsInputs before after
puts_keep literal port [] before after e = (equal_keep before after e).others
puts_keep literal port (sign ∷ signs) before after (middle, one, more) =
    inputs_on before middle after (output_keeps _ port sign before middle one) (puts_keep literal port signs middle after more)
