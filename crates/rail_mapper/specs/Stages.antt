-- How far a draft has come.
use Rattle.std.specs.Prelude.{◌≡◌, ◌≤◌, ◌<◌, ◌⊎◌, nat_lt, ◌+◌, ◌/◌, ◌^◌, ◌↔◌, true, ℕ, Bool, List, [], ◌∷◌, ◌++◌, Some, map, length, slice_get, slice_index_or}
use Rattle.pulse_ids.specs.Ids.{NodeLit, numbered}
use Rattle.pulse_ids.specs.declared.literals.Sign.{Sign}
use Rattle.aig_core.specs.Graphs.{nodes_of, count_of}
use Rattle.cell_netlist.specs.declared.kinds.Ask.{Ask}
use Rattle.cell_netlist.specs.declared.kinds.Gate.{Gate}
use Rattle.pulse_ids.specs.Lists.{IsIn, occurrences}
use Rattle.cell_netlist.specs.Netlists.{number_of_wires}
use Rattle.graph_build.specs.Built.{PlainBuilt}
use Rattle.rail_demand.specs.Demands.{PlainDemand, is_needed}
use Rattle.droc_pairs.specs.Pairs.{with_front, begun_back, wires_for}
use Rattle.rail_mapper.specs.Drafts.{PlainDraft, leaves_of, readers_of, Takes, Grows, Gated, IsDraft, IsAt, HasRoom, spare, AreInside}
use Rattle.rail_mapper.specs.Labels.{rail_number, literal_number, sign_in, rails_in}
use Rattle.rail_mapper.specs.Plans.{left_from, uses}
use Rattle.rail_mapper.specs.StateLines.{line_if}
use Rattle.rail_mapper.specs.Tracks.{IsNodeGate, IsTracked}
use Rattle.aig_core.specs.declared.nodes.Node.TheVariants as nodes

-- a label for each wire begins as the list
abbrev pub Follows : List ℕ → (ℕ → ℕ) → Type 0
Follows labels label = (wire : ℕ) → wire < length labels → label wire ≡ slice_index_or labels wire 0

-- The trees of all rails below this one stand, and the gates of these rails have taken what they read.
pub record IsStage (built : PlainBuilt) (demand : PlainDemand) (ask : Ask) (rail : ℕ) (draft : PlainDraft) : Type 0 where
  pub is_draft : IsDraft draft [] (map (λ _. 0) draft.pending) (left_from built demand ask rail)
  pub is_at : IsAt draft rail
  pub planned : (other : ℕ) → rail ≤ other → readers_of draft other ≡ occurrences other (uses built demand ask)
  pub stock_size : length draft.stock ≡ rails_in built
  pub counts_size : length draft.counts ≡ rails_in built
  pub room : HasRoom spare draft
  pub labels : List ℕ
  pub one_each : length labels ≡ number_of_wires draft.net
  pub tracked : (label : ℕ → ℕ) → Follows labels label → IsTracked built label draft.pending draft

-- the rail of a conjunction is made, where it is to be read
pub data MapsRail (built : PlainBuilt) (rail : ℕ) (before after : PlainDraft) : Type 0 where
  skipped : readers_of before rail ≡ 0 → after ≡ before → MapsRail built rail before after
  made : (gate : Gate) (low high : ℕ) → 1 ≤ readers_of before rail → IsNodeGate built gate low high rail → Gated gate low high rail before after → HasRoom spare after
      → MapsRail built rail before after

-- the gate of a conjunction's rail can be made, if the rail is to be read
pub record IsReady (built : PlainBuilt) (node : ℕ) (sign : Sign) (draft : PlainDraft) : Type 0 where
  pub low : NodeLit
  pub high : NodeLit
  pub stands : slice_get (nodes_of built.graph) node ≡ Some (nodes.And low high)
  pub low_before : low.id.number < node
  pub high_before : high.id.number < node
  pub apart : literal_number low sign ≡ literal_number high sign → ⊥
  pub inside : AreInside draft
  pub room : HasRoom spare draft
  pub place : rail_number node sign < length draft.stock
  pub counter : rail_number node sign < length draft.counts
  pub few : count_of built.graph ≤ 2 ^ 30
  pub low_leaf : 1 ≤ readers_of draft (rail_number node sign) → 1 ≤ length (leaves_of draft (literal_number low sign))
  pub high_leaf : 1 ≤ readers_of draft (rail_number node sign) → 1 ≤ length (leaves_of draft (literal_number high sign))

-- a rail is needed just where it is to be read
abbrev pub IsPlan : PlainBuilt → PlainDemand → Ask → Type 0
IsPlan built demand ask =
    (rail : ℕ) → rail < rails_in built → (is_needed demand (rail / 2) (sign_in rail) ≡ true) ↔ (1 ≤ occurrences rail (uses built demand ask))

-- The same as `IsStage` with wires in hand, each with the rail that it carries, and no word on room.
pub record IsHeld (built : PlainBuilt) (demand : PlainDemand) (ask : Ask) (rail : ℕ) (hand : List (ℕ × ℕ)) (draft : PlainDraft) : Type 0 where
  pub is_draft : IsDraft draft (map (λ held. held.0) hand) (map (λ _. 0) draft.pending) (left_from built demand ask rail)
  pub is_at : IsAt draft rail
  pub planned : (other : ℕ) → rail ≤ other → readers_of draft other ≡ occurrences other (uses built demand ask)
  pub stock_size : length draft.stock ≡ rails_in built
  pub counts_size : length draft.counts ≡ rails_in built
  pub labels : List ℕ
  pub one_each : length labels ≡ number_of_wires draft.net
  pub tracked : (label : ℕ → ℕ) → Follows labels label → IsTracked built label draft.pending draft × ((wire its : ℕ) → IsIn {X = ℕ × ℕ} (wire, its) hand → label wire ≡ its)

-- a rail is spread, where it is asked for
pub data GrowsIf (rail root : ℕ) (before after : PlainDraft) : Type 0 where
  grown : 1 ≤ readers_of before rail → Grows rail root before after → GrowsIf rail root before after
  bare : readers_of before rail ≡ 0 → after ≡ before → GrowsIf rail root before after

-- All rails were spread, and these reads are left: those of the fronts of the pending pairs, and those of the output rails.
pub record IsClosing (built : PlainBuilt) (left : List ℕ) (draft : PlainDraft) : Type 0 where
  pub is_draft : IsDraft draft [] (map (λ _. 0) draft.pending) left
  pub spread : (rail : ℕ) → rail < rails_in built → readers_of draft rail ≡ 0
  pub labels : List ℕ
  pub one_each : length labels ≡ number_of_wires draft.net
  pub tracked : (label : ℕ → ℕ) → Follows labels label → IsTracked built label draft.pending draft

-- the front of the first pending pair is added
pub record Finishes (rail place latch : ℕ) (init : Bool) (rest : List (ℕ × ℕ)) (before after : PlainDraft) : Type 0 where
  pub next : ℕ
  pub middle : PlainDraft
  pub taken : Takes rail next before middle
  pub finished : after ≡ record middle { net = with_front middle.net place init next; pending = rest }

-- an output rail takes the next leaf of a rail
pub record Outputs (rail port : ℕ) (sign : Sign) (before after : PlainDraft) : Type 0 where
  pub wire : ℕ
  pub middle : PlainDraft
  pub taken : Takes rail wire before middle
  pub added : after ≡ record middle { net = record middle.net { output_rails = middle.net.output_rails ++ record { port = port; sign = sign; wire = numbered wire } ∷ [] } }

-- a draft with a back more, and in version two its state line
abbrev pub begun_draft : PlainDraft → ℕ → Bool → Bool → Bool → PlainDraft
begun_draft draft latch init q n = record draft {
  net = record draft.net {
    cells = draft.net.cells ++ begun_back (number_of_wires draft.net) init q n ∷ [];
    states = draft.net.states ++ line_if draft.net.version latch (length draft.net.cells);
  };
  pending = draft.pending ++ (let half : ℕ × ℕ = (length draft.net.cells, latch) in half) ∷ [];
}

-- a latch's back is added, and its rails are spread where they are to be read, which one of them is
pub record HasBegun (latch : ℕ) (init : Bool) (pos neg : ℕ) (before after : PlainDraft) : Type 0 where
  pub some : (1 ≤ readers_of before pos) ⊎ (1 ≤ readers_of before neg)
  pub middle : PlainDraft
  pub first : GrowsIf pos (number_of_wires before.net) (begun_draft before latch init (nat_lt 0 (readers_of before pos)) (nat_lt 0 (readers_of before neg))) middle
  pub second : GrowsIf neg (number_of_wires before.net + wires_for (nat_lt 0 (readers_of before pos))) middle after

-- the same where one of its rails is to be read
pub data BeginsLatch (latch : ℕ) (init : Bool) (pos neg : ℕ) (before after : PlainDraft) : Type 0 where
  unread : readers_of before pos ≡ 0 → readers_of before neg ≡ 0 → after ≡ before → BeginsLatch latch init pos neg before after
  started : HasBegun latch init pos neg before after → BeginsLatch latch init pos neg before after
