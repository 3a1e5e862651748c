-- How deep wires stand below splitters.
use Rattle.std.specs.Prelude.{◌≤◌, ℕ, List, length}
use Rattle.pulse_ids.specs.Lists.{IsIn, occurrences, ceil_log2}
use Rattle.cell_netlist.specs.Netlists.{PlainNetlist, driven, HasSplitter, SplittersBelow}

-- no splitter drives the wire
abbrev pub IsTop : PlainNetlist → ℕ → Type 0
IsTop net wire = (from : ℕ) → HasSplitter net from wire → ⊥

-- no splitter reads the wire
abbrev pub IsEnd : PlainNetlist → ℕ → Type 0
IsEnd net wire = (to : ℕ) → HasSplitter net wire to → ⊥

-- These wires are distinct, driven, and read by no splitter; and each stands below one root, no deeper than the logarithm of
-- their number, rounded up.
pub record IsFanOut (net : PlainNetlist) (root : ℕ) (ends : List ℕ) : Type 0 where
  pub top : IsTop net root
  pub root_driven : IsIn root (driven net)
  pub distinct : (wire : ℕ) → occurrences wire ends ≤ 1
  pub all_driven : (wire : ℕ) → IsIn wire ends → IsIn wire (driven net)
  pub all_ends : (wire : ℕ) → IsIn wire ends → IsEnd net wire
  pub below : (wire : ℕ) → IsIn wire ends → (splitters : ℕ) × (splitters ≤ ceil_log2 (length ends)) × SplittersBelow net splitters root wire

-- the wire is one of these
pub record IsFannedOut (net : PlainNetlist) (wire : ℕ) : Type 0 where
  pub root : ℕ
  pub ends : List ℕ
  pub fan_out : IsFanOut net root ends
  pub among : IsIn wire ends

-- every driven wire that no splitter reads is
abbrev pub AreFannedOut : PlainNetlist → Type 0
AreFannedOut net = (wire : ℕ) → IsIn wire (driven net) → IsEnd net wire → IsFannedOut net wire
