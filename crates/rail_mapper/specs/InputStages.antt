-- How far a draft has come with its input rails, its constant and the trees of both.
use Rattle.std.specs.Prelude.{◌⊎◌, ◌≡◌, ◌≤◌, ◌+◌, ◌-◌, ◌*◌, ◌/◌, ◌^◌, ℕ, Bool, List, [], ◌∷◌, ◌++◌, map, length, nat_lt, if◌then◌else◌, slice_set}
use Rattle.std.specs.List.{flat_map, range_with_len}
use Rattle.pulse_ids.specs.Ids.{numbered}
use Rattle.pulse_ids.specs.Lists.{occurrences}
use Rattle.pulse_ids.specs.declared.literals.Sign.{Sign}
use Rattle.cell_netlist.specs.declared.kinds.Ask.{Ask}
use Rattle.cell_netlist.specs.declared.kinds.Version.{Version}
use Rattle.cell_netlist.specs.declared.lines.Rail.{Rail}
use Rattle.cell_netlist.specs.Asked.{rail_of}
use Rattle.cell_netlist.specs.Netlists.{netlist_of, with_states, number_of_wires}
use Rattle.graph_build.specs.Built.{PlainBuilt}
use Rattle.rail_demand.specs.Demands.{PlainDemand}
use Rattle.droc_pairs.specs.Pairs.{wires_for}
use Rattle.droc_pairs.specs.Constants.{IsConstant}
use Rattle.rail_mapper.specs.Drafts.{PlainDraft, readers_of, HasRoom}
use Rattle.rail_mapper.specs.Labels.{rail_number, sign_in}
use Rattle.rail_mapper.specs.Plans.{uses}
use Rattle.rail_mapper.specs.Stages.{IsHeld}

-- a port's rail on the next wire
abbrev pub next_rail : PlainDraft → ℕ → Sign → Rail
next_rail draft port sign = record { port = port; sign = sign; wire = numbered (number_of_wires draft.net) }

-- the draft with an input rail more
abbrev pub with_input : PlainDraft → Rail → PlainDraft
with_input draft rail = record draft { net = record draft.net { input_rails = draft.net.input_rails ++ rail ∷ [] } }

-- a port's rail is added, where it is to be read
pub data AddsInput (port : ℕ) (sign : Sign) (before after : PlainDraft) : Type 0 where
  unread : readers_of before (rail_number (1 + port) sign) ≡ 0 → after ≡ before → AddsInput port sign before after
  added : 1 ≤ readers_of before (rail_number (1 + port) sign) → after ≡ with_input before (next_rail before port sign) → AddsInput port sign before after

-- whether a rail is read
abbrev pub is_read : List ℕ → ℕ → Bool
is_read reads rail = nat_lt 0 (occurrences rail reads)

-- a wire and its rail, where it is asked for
abbrev pub held_if : Bool → ℕ → ℕ → List (ℕ × ℕ)
held_if asked wire rail = if asked then (let held : ℕ × ℕ = (wire, rail) in held) ∷ [] else []

-- those of the rails that are read, on wires from one on
abbrev pub held_from : List ℕ → ℕ → List ℕ → List (ℕ × ℕ)
held_from reads wire [] = []
held_from reads wire (rail ∷ rails) = held_if (is_read reads rail) wire rail ++ held_from reads (wire + wires_for (is_read reads rail)) rails

-- the port and sign of an input's rail, where it is read
abbrev pub input_if : List ℕ → ℕ → List (ℕ × Sign)
input_if reads rail = if is_read reads rail then (let its : ℕ × Sign = (rail / 2 - 1, sign_in rail) in its) ∷ [] else []

-- those of the first rails of inputs
abbrev pub inputs_read : List ℕ → ℕ → List (ℕ × Sign)
inputs_read reads count = flat_map (input_if reads) (range_with_len 2 count)

-- the first rails of inputs are added, where they are to be read, and there is nothing else
pub record InputsAt (built : PlainBuilt) (demand : PlainDemand) (ask : Ask) (version : Version) (count : ℕ) (draft : PlainDraft) : Type 0 where
  pub held : IsHeld built demand ask 0 (held_from (uses built demand ask) 0 (range_with_len 2 count)) draft
  pub wires : number_of_wires draft.net ≡ length (held_from (uses built demand ask) 0 (range_with_len 2 count))
  pub each : length draft.net.input_rails ≡ number_of_wires draft.net
  pub rails : map rail_of draft.net.input_rails ≡ inputs_read (uses built demand ask) count
  pub frame : draft.net ≡ with_states version [] (netlist_of built.graph.inputs (length built.outputs) draft.net.input_rails [] [] [] [])
  pub no_pending : draft.pending ≡ []
  pub room : HasRoom (2 ^ 17 - count) draft

-- a constant is added for the readers of the first two rails, of which there are some
pub record HasConstant (before after : PlainDraft) : Type 0 where
  pub some : (1 ≤ readers_of before 1) ⊎ (1 ≤ readers_of before 0)
  pub one : List ℕ
  pub none : List ℕ
  pub constant : IsConstant before.net after.net (readers_of before 1) (readers_of before 0) one none
  pub stocked : after.stock ≡ slice_set (slice_set before.stock 1 one) 0 none
  pub counted : after.counts ≡ slice_set (slice_set before.counts 1 0) 0 0
  pub same_pending : after.pending ≡ before.pending

-- where one of them is to be read
pub data AddsConstant (before after : PlainDraft) : Type 0 where
  unread : readers_of before 0 ≡ 0 → readers_of before 1 ≡ 0 → after ≡ before → AddsConstant before after
  added : HasConstant before after → AddsConstant before after

-- the trees of the first rails of inputs stand; the wires of the others are in hand, from one on, which are the last wires of input rails
pub record TreesAt (built : PlainBuilt) (demand : PlainDemand) (ask : Ask) (count wire : ℕ) (draft : PlainDraft) : Type 0 where
  pub held : IsHeld built demand ask (2 + count) (held_from (uses built demand ask) wire (range_with_len (2 + count) (2 * built.graph.inputs - count))) draft
  pub all_inputs : wire + length (held_from (uses built demand ask) wire (range_with_len (2 + count) (2 * built.graph.inputs - count))) ≡ length draft.net.input_rails
  pub no_pending : draft.pending ≡ []
  pub room : HasRoom (2 ^ 16) draft
