-- Which rail each wire of a draft carries, where latch pairs may still want their fronts.
use Rattle.std.specs.Prelude.{◌≡◌, ◌⊎◌, ◌≤◌, ◌<◌, ◌+◌, ℕ, Bool, true, not, Option, Some, None, List, slice_get}
use Rattle.pulse_ids.specs.Ids.{NodeLit, WireId, numbered}
use Rattle.pulse_ids.specs.declared.literals.Sign.{Sign}
use Rattle.pulse_ids.specs.declared.literals.Sign.TheVariants.{Pos, Neg}
use Rattle.cell_netlist.specs.declared.kinds.Gate.{Gate}
use Rattle.cell_netlist.specs.declared.kinds.Role.TheVariants.{Front, Back, Const}
use Rattle.cell_netlist.specs.declared.lines.Rail.{Rail}
use Rattle.cell_netlist.specs.declared.lines.StateLine.{StateLine}
use Rattle.cell_netlist.specs.declared.lines.Cell.{Cell}
use Rattle.cell_netlist.specs.declared.lines.Cell.TheVariants.{La, Fa, Split, Droc}
use Rattle.pulse_ids.specs.Lists.{IsIn}
use Rattle.cell_netlist.specs.Netlists.{PlainNetlist, SplittersBelow}
use Rattle.cell_netlist.specs.Sound.{IsOn, IsDrocOf, HasQ}
use Rattle.aig_core.specs.Graphs.{nodes_of, count_of}
use Rattle.graph_build.specs.Built.{PlainBuilt}
use Rattle.rail_mapper.specs.Drafts.{PlainDraft, leaves_of}
use Rattle.rail_mapper.specs.Labels.{rail_number, literal_number, rails_in, IsGateOfNode, IsLabelledIfUsed, IsRailOfInput, IsRailOfOutput}
use Rattle.rail_mapper.specs.StateLines.{IsStateOf}
use Rattle.cell_netlist.specs.declared.kinds.Gate.TheVariants as gates
use Rattle.aig_core.specs.declared.nodes.Node.TheVariants as nodes

-- a gate or a splitter does what its wires' labels say
abbrev pub FitsGate : PlainBuilt → (ℕ → ℕ) → Cell → Type 0
FitsGate built label (La a b out) = IsGateOfNode built label Pos a.number b.number out.number
FitsGate built label (Fa a b out) = IsGateOfNode built label Neg a.number b.number out.number
FitsGate built label (Split from left right) = (label left.number ≡ label from.number) × (label right.number ≡ label from.number)
FitsGate built label (Droc role preload feed q n) = Unit

-- the sign of the rails that a gate of this kind makes
abbrev pub gate_sign : Gate → Sign
gate_sign gates.La = Pos
gate_sign gates.Fa = Neg

-- the gate that makes the rails of a sign
abbrev pub sign_gate : Sign → Gate
sign_gate Pos = gates.La
sign_gate Neg = gates.Fa

-- the rail of a conjunction is made by this gate of the rails of its two literals
pub record IsNodeGate (built : PlainBuilt) (gate : Gate) (low high rail : ℕ) : Type 0 where
  pub node : ℕ
  pub low_literal : NodeLit
  pub high_literal : NodeLit
  pub stands : slice_get (nodes_of built.graph) node ≡ Some (nodes.And low_literal high_literal)
  pub inside : node < count_of built.graph
  pub low_before : low_literal.id.number < node
  pub high_before : high_literal.id.number < node
  pub rail_is : rail ≡ rail_number node (gate_sign gate)
  pub low_is : low ≡ literal_number low_literal (gate_sign gate)
  pub high_is : high ≡ literal_number high_literal (gate_sign gate)

-- a back of a latch drives the latch's rails, and holds its first bit
pub record IsBegunFor (built : PlainBuilt) (label : ℕ → ℕ) (latch : ℕ) (preload : Bool) (q n : Option WireId) : Type 0 where
  pub node : ℕ
  pub stands : slice_get (nodes_of built.graph) node ≡ Some (nodes.Latch latch)
  pub first : slice_get built.inits latch ≡ Some preload
  pub q_is : IsLabelledIfUsed label q (rail_number node Pos)
  pub n_is : IsLabelledIfUsed label n (rail_number node Neg)

-- its front takes the positive rail of what the latch holds next
pub record HasFront (built : PlainBuilt) (label : ℕ → ℕ) (cells : List Cell) (latch : ℕ) (preload : Bool) (link : ℕ) : Type 0 where
  pub link_is : label link ≡ rails_in built + latch
  pub next : NodeLit
  pub holds : slice_get built.nexts latch ≡ Some next
  pub within : next.id.number < count_of built.graph
  pub front : Cell
  pub feed : ℕ
  pub among : IsIn front cells
  pub role : IsDrocOf front Front (not preload) feed
  pub joined : HasQ front link
  pub feed_is : label feed ≡ literal_number next Pos

-- a back, whose front is still to come where the back's place and its latch are pending
pub record IsPaired (built : PlainBuilt) (label : ℕ → ℕ) (pending : List (ℕ × ℕ)) (cells : List Cell) (place : ℕ) (preload : Bool) (feed : WireId) (q n : Option WireId) : Type 0 where
  pub latch : ℕ
  pub begun : IsBegunFor built label latch preload q n
  pub front : IsIn {X = ℕ × ℕ} (place, latch) pending ⊎ (((other : ℕ) → IsIn {X = ℕ × ℕ} (place, other) pending → ⊥) × HasFront built label cells latch preload feed.number)

-- a front, whose back is at a place where none is pending
pub record IsJoined (built : PlainBuilt) (label : ℕ → ℕ) (pending : List (ℕ × ℕ)) (cells : List Cell) (preload : Bool) (q n : Option WireId) : Type 0 where
  pub no_n : n ≡ None
  pub link : ℕ
  pub on : IsOn q link
  pub high : rails_in built ≤ label link
  pub place : ℕ
  pub done : (latch : ℕ) → IsIn {X = ℕ × ℕ} (place, latch) pending → ⊥
  pub back_feed : WireId
  pub back_q : Option WireId
  pub back_n : Option WireId
  pub back : slice_get cells place ≡ Some (Droc Back (not preload) back_feed back_q back_n)
  pub feed_is : back_feed.number ≡ link

-- a back that waits for its front stands at the place, with the latch's first bit
pub record IsWaiting (built : PlainBuilt) (cells : List Cell) (place latch : ℕ) : Type 0 where
  pub init : Bool
  pub first : slice_get built.inits latch ≡ Some init
  pub q : Option WireId
  pub n : Option WireId
  pub is : slice_get cells place ≡ Some (Droc Back init (numbered 0) q n)

-- a constant 1 whose feed stands below its own `n`
pub record FitsConst (label : ℕ → ℕ) (net : PlainNetlist) (preload : Bool) (feed : WireId) (q n : Option WireId) : Type 0 where
  pub one : preload ≡ true
  pub q_is : IsLabelledIfUsed label q (rail_number 0 Neg)
  pub n_is : IsLabelledIfUsed label n (rail_number 0 Pos)
  pub own : ℕ
  pub on_own : IsOn n own
  pub splitters : ℕ
  pub chain : SplittersBelow net splitters own feed.number

-- Every line does what the labels of its wires say, and the leaves of each rail carry it.
pub record IsTracked (built : PlainBuilt) (label : ℕ → ℕ) (pending : List (ℕ × ℕ)) (draft : PlainDraft) : Type 0 where
  pub stocked : (rail wire : ℕ) → IsIn wire (leaves_of draft rail) → label wire ≡ rail
  pub inputs : (rail : Rail) → IsIn rail draft.net.input_rails → IsRailOfInput built label rail
  pub gates : (cell : Cell) → IsIn cell draft.net.cells → FitsGate built label cell
  pub backs : (place : ℕ) (preload : Bool) (feed : WireId) (q n : Option WireId) → slice_get draft.net.cells place ≡ Some (Droc Back preload feed q n)
      → IsPaired built label pending draft.net.cells place preload feed q n
  pub fronts : (preload : Bool) (feed : WireId) (q n : Option WireId) → IsIn (Droc Front preload feed q n) draft.net.cells → IsJoined built label pending draft.net.cells preload q n
  pub waits : (place latch : ℕ) → IsIn {X = ℕ × ℕ} (place, latch) pending → IsWaiting built draft.net.cells place latch
  pub constants : (preload : Bool) (feed : WireId) (q n : Option WireId) → IsIn (Droc Const preload feed q n) draft.net.cells → FitsConst label draft.net preload feed q n
  pub outputs : (rail : Rail) → IsIn rail draft.net.output_rails → IsRailOfOutput built label rail
  pub states : (line : StateLine) → IsIn line draft.net.states → IsStateOf built label pending draft.net.cells line
