-- Turns of the loops over input ports.
use Rattle.std.proofs.Common.{◌≡◌, ◌≤◌, ◌<◌, ◌+◌, ◌*◌, ◌^◌, ℕ, Some, slice_get, subst, arith, refl, Result, Ok, Err, OnOk, IfOk, nat_lt}
use Rattle.cell_netlist.specs.Netlists.{number_of_wires}
use Rattle.pulse_ids.specs.declared.literals.Sign.TheVariants.{Pos, Neg}
use Rattle.cell_netlist.specs.declared.kinds.Ask.{Ask}
use Rattle.cell_netlist.specs.declared.kinds.Version.{Version}
use Rattle.aig_core.specs.declared.nodes.Node.TheVariants.{Input}
use Rattle.aig_core.specs.Graphs.{nodes_of}
use Rattle.aig_core.specs.Laws.{InputsFollow}
use Rattle.droc_pairs.specs.Pairs.{wires_for}
use Rattle.graph_build.specs.Built.{PlainBuilt, IsWithinGraph}
use Rattle.rail_demand.specs.Demands.{PlainDemand}
use Rattle.rail_mapper.specs.Drafts.{PlainDraft, readers_of, HasRoom}
use Rattle.rail_mapper.specs.InputStages.{InputsAt, AddsInput, TreesAt}
use Rattle.rail_mapper.specs.Labels.{rail_number}
use Rattle.rail_mapper.specs.Stages.{GrowsIf}
use Rattle.rail_mapper.proofs.FanOuts.{IsBare}
use Rattle.rail_mapper.proofs.InputFanOuts.{tree_bare}
use Rattle.rail_mapper.proofs.InputStageLemmas.{input_one, tree_one, tree_root}

-- a fact of a result from three
pub on_three : {A E : Type 0} (r : Result A E) (P Q R S : Type 0) → (P → Q → R → S) → OnOk r P → OnOk r Q → OnOk r R → OnOk r S
on_three (Ok a) P Q R S f p q x = f p q x
on_three (Err e) P Q R S f p q x = tt

pub if_three : {A E : Type 0} (r : Result A E) (P Q : Type 0) (R S : A → Type 0) → ((a : A) → P → Q → R a → S a) → OnOk r P → OnOk r Q → IfOk r R → IfOk r S
if_three (Ok a) P Q R S f p q x = f a p q x
if_three (Err e) P Q R S f p q x = tt

module _ (built : PlainBuilt) (demand : PlainDemand) (ask : Ask) (port : ℕ) (law : InputsFollow) (within : IsWithinGraph built) (low : port < built.graph.inputs) where
  stands : slice_get (nodes_of built.graph) (1 + port) ≡ Some (Input port)
  stands = (law built.graph (1 + port) port).1 (low, refl)

  pub first_input : {version : Version} (before after : PlainDraft) → InputsAt built demand ask version (2 * port) before → AddsInput port Pos before after
      → InputsAt built demand ask version (2 * port + 1) after
  first_input before after h adds = input_one built demand ask (2 * port) port Pos before after (omega arith) stands (omega (arith, low, within.kept.inputs_fit)) h adds

  pub second_input : {version : Version} (before after : PlainDraft) → InputsAt built demand ask version (2 * port + 1) before → AddsInput port Neg before after
      → InputsAt built demand ask version (2 * (port + 1)) after
  second_input {version = version} before after h adds =
      subst (λ (k : ℕ). InputsAt built demand ask version k after) (let z : 2 * port + 1 + 1 ≡ 2 * (port + 1) = omega arith in z)
      (input_one built demand ask (2 * port + 1) port Neg before after (omega arith) stands (omega (arith, low, within.kept.inputs_fit)) h adds)

  pub first_tree : (wire next : ℕ) (before after : PlainDraft) → next ≡ wire + wires_for (nat_lt 0 (readers_of before (rail_number (1 + port) Pos)))
      → TreesAt built demand ask (2 * port) wire before → GrowsIf (rail_number (1 + port) Pos) wire before after → HasRoom (2 ^ 16) after → TreesAt built demand ask (2 * port + 1) next after
  first_tree wire next before after e h grows room = tree_one built demand ask (2 * port) port wire next Pos before after (omega arith) stands (omega (arith, low)) e h grows room

  pub second_tree : (wire next : ℕ) (before after : PlainDraft) → next ≡ wire + wires_for (nat_lt 0 (readers_of before (rail_number (1 + port) Neg)))
      → TreesAt built demand ask (2 * port + 1) wire before → GrowsIf (rail_number (1 + port) Neg) wire before after → HasRoom (2 ^ 16) after → TreesAt built demand ask (2 * (port + 1)) next after
  second_tree wire next before after e h grows room =
      subst (λ (k : ℕ). TreesAt built demand ask k next after) (let z : 2 * port + 1 + 1 ≡ 2 * (port + 1) = omega arith in z)
      (tree_one built demand ask (2 * port + 1) port wire next Neg before after (omega arith) stands (omega (arith, low)) e h grows room)

  pub first_root : (wire : ℕ) (draft : PlainDraft) → TreesAt built demand ask (2 * port) wire draft → 1 ≤ readers_of draft (rail_number (1 + port) Pos) → wire < number_of_wires draft.net
  first_root wire draft h some = tree_root built demand ask (2 * port) port wire Pos draft (omega arith) (omega (arith, low)) h some

  pub second_root : (wire : ℕ) (draft : PlainDraft) → TreesAt built demand ask (2 * port + 1) wire draft → 1 ≤ readers_of draft (rail_number (1 + port) Neg) → wire < number_of_wires draft.net
  second_root wire draft h some = tree_root built demand ask (2 * port + 1) port wire Neg draft (omega arith) (omega (arith, low)) h some

  pub first_tree_bare : (wire : ℕ) (draft : PlainDraft) → TreesAt built demand ask (2 * port) wire draft → 1 ≤ readers_of draft (rail_number (1 + port) Pos) → IsBare draft.net wire
  first_tree_bare wire draft h some = tree_bare built demand ask (2 * port) port wire Pos draft (omega arith) (omega (arith, low)) h some

  pub second_tree_bare : (wire : ℕ) (draft : PlainDraft) → TreesAt built demand ask (2 * port + 1) wire draft → 1 ≤ readers_of draft (rail_number (1 + port) Neg) → IsBare draft.net wire
  second_tree_bare wire draft h some = tree_bare built demand ask (2 * port + 1) port wire Neg draft (omega arith) (omega (arith, low)) h some
