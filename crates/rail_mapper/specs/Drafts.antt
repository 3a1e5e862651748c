-- A netlist that is being made, with the leaves of each rail that are not read yet, and of how many readers each rail is still to be spread over.
use Rattle.std.specs.Prelude.{◌≡◌, ◌≤◌, ◌<◌, ◌+◌, ◌*◌, ◌^◌, ℕ, List, [], ◌∷◌, ◌++◌, length, slice_index_or, slice_set}
use Rattle.std.specs.List.{flat_map}
use Rattle.pulse_ids.specs.Ids.{numbered}
use Rattle.cell_netlist.specs.declared.kinds.Gate.{Gate}
use Rattle.cell_netlist.specs.declared.lines.Cell.{Cell}
use Rattle.cell_netlist.specs.declared.lines.Cell.TheVariants.{La, Fa}
use Rattle.pulse_ids.specs.Lists.{IsIn, occurrences}
use Rattle.cell_netlist.specs.Netlists.{PlainNetlist, number_of_wires}
use Rattle.splitter_trees.specs.Spreading.{IsSpread, with_cells}
use Rattle.wire_ledgers.specs.Ledgers.{IsLedger}
use Rattle.cell_netlist.specs.declared.kinds.Gate.TheVariants as gates

-- rails are numbers; the pending pairs are the places of backs without a front, with their latches
pub record PlainDraft : Type 0 where
  pub net : PlainNetlist
  pub counts : List ℕ
  pub stock : List (List ℕ)
  pub pending : List (ℕ × ℕ)

abbrev pub leaves_of : PlainDraft → ℕ → List ℕ
leaves_of draft rail = slice_index_or draft.stock rail []

abbrev pub readers_of : PlainDraft → ℕ → ℕ
readers_of draft rail = slice_index_or draft.counts rail 0

-- all leaves that are not read yet
abbrev pub open_in : PlainDraft → List ℕ
open_in draft = flat_map (λ wires. wires) draft.stock

-- the next leaf of a rail is taken
pub record Takes (rail wire : ℕ) (before after : PlainDraft) : Type 0 where
  pub rest : List ℕ
  pub first : leaves_of before rail ≡ wire ∷ rest
  pub taken : after ≡ record before { stock = slice_set before.stock rail rest }

-- the next leaves of two rails are taken, which are wires of the netlist
pub record TakesBoth (low high a b : ℕ) (before after : PlainDraft) : Type 0 where
  pub one : PlainDraft
  pub low_taken : Takes low a before one
  pub high_taken : Takes high b one after
  pub low_inside : a < number_of_wires after.net
  pub high_inside : b < number_of_wires after.net

-- a rail is spread over its readers from a wire on
pub record Grows (rail root : ℕ) (before after : PlainDraft) : Type 0 where
  pub leaves : List ℕ
  pub spread : IsSpread before.net after.net root (readers_of before rail) leaves
  pub counted : after.counts ≡ slice_set before.counts rail 0
  pub stocked : after.stock ≡ slice_set before.stock rail leaves
  pub same_pending : after.pending ≡ before.pending

abbrev pub gate_cell : Gate → ℕ → ℕ → ℕ → Cell
gate_cell gates.La a b out = La (numbered a) (numbered b) (numbered out)
gate_cell gates.Fa a b out = Fa (numbered a) (numbered b) (numbered out)

-- a cell more
abbrev pub with_cell : PlainDraft → Cell → PlainDraft
with_cell draft cell = record draft { net = with_cells draft.net (cell ∷ []) }

-- a gate on the next leaves of two rails, spread over the readers of its own rail
pub record Gated (gate : Gate) (low high rail : ℕ) (before after : PlainDraft) : Type 0 where
  pub a : ℕ
  pub b : ℕ
  pub one : PlainDraft
  pub two : PlainDraft
  pub low_taken : Takes low a before one
  pub high_taken : Takes high b one two
  pub grown : Grows rail (number_of_wires before.net) (with_cell two (gate_cell gate a b (number_of_wires before.net))) after

-- The draft is right: its open wires are the leaves that are not read yet and the wires in hand; and each rail has as many leaves, or will have,
-- as there are reads of it left.
pub record IsDraft (draft : PlainDraft) (hand debts left : List ℕ) : Type 0 where
  pub ledger : IsLedger draft.net (open_in draft ++ hand) debts
  pub exact : (rail : ℕ) → length (leaves_of draft rail) + readers_of draft rail ≡ occurrences rail left

-- the rails below a number were spread, and no other was
pub record IsAt (draft : PlainDraft) (rail : ℕ) : Type 0 where
  pub spread : (below : ℕ) → below < rail → readers_of draft below ≡ 0
  pub bare : (above : ℕ) → rail ≤ above → leaves_of draft above ≡ []

-- the sum of the numbers
abbrev pub total : List ℕ → ℕ
total [] = 0
total (n ∷ ns) = n + total ns

-- there is room for the wires that are still to come and for some more, and each cell drives a wire
pub record HasRoom (more : ℕ) (draft : PlainDraft) : Type 0 where
  pub wires : number_of_wires draft.net + 2 * total draft.counts + more ≤ 2 ^ 22
  pub cells : length draft.net.cells ≤ number_of_wires draft.net

-- the room that is kept free for the fronts, and while a step is made
abbrev pub spare : ℕ
spare = 2 ^ 16

-- each leaf is a wire of the netlist
abbrev pub AreInside : PlainDraft → Type 0
AreInside draft = (rail wire : ℕ) → IsIn wire (leaves_of draft rail) → wire < number_of_wires draft.net
