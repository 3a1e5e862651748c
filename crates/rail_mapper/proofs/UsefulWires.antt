-- Where each cell but for the splitters drives a useful wire, every wire is useful.
use Rattle.std.proofs.Common.{◌≤◌, ◌<◌, ◌+◌, inl, inr, ℕ, zero, suc, map, refl, arith}
use Rattle.std.specs.List.{flat_map}
use Rattle.pulse_ids.specs.Lists.{IsIn}
use Rattle.pulse_ids.proofs.CallerLemmas.{IsIn-append, IsIn-from_map, IsIn-from_flat_map}
use Rattle.pulse_ids.proofs.CallerLemmasOnCounts.{occurrences-IsIn}
use Rattle.cell_netlist.specs.declared.lines.Cell.{Cell}
use Rattle.cell_netlist.specs.declared.lines.Cell.TheVariants.{La, Fa, Split, Droc}
use Rattle.cell_netlist.specs.Lean.{Useful, of_output, of_cell}
use Rattle.cell_netlist.specs.Netlists.{PlainNetlist, wire_of, outs, reads, read, number_of_wires, IsDroc}
use Rattle.cell_netlist.specs.Sound.{IsSound}
use Rattle.cell_netlist.proofs.CallerLemmas.{named_below}
use Rattle.splitter_trees.specs.Spreading.{IsSplitter, Rises}

-- the cell drives a useful wire
abbrev pub HasUse : PlainNetlist → Cell → Type 0
HasUse net cell = (out : ℕ) × IsIn out (outs cell) × Useful net out

module _ (net : PlainNetlist) (sound : IsSound net) (rise : (cell : Cell) → IsIn cell net.cells → (IsDroc cell → ⊥) → Rises cell)
    (cells : (cell : Cell) → IsIn cell net.cells → (IsSplitter cell → ⊥) → HasUse net cell) where
  by_cell : (wire : ℕ) (cell : Cell) → IsIn cell net.cells → IsIn wire (reads cell) → HasUse net cell → Useful net wire
  by_cell wire cell m r its_use = of_cell wire cell m r its_use.0 its_use.1 its_use.2

  -- a wire by its reader, where all later wires are useful
  by_reader : (wire : ℕ) (cell : Cell) → IsIn cell net.cells → IsIn wire (reads cell) → ((later : ℕ) → wire < later → later < number_of_wires net → Useful net later) → Useful net wire
  by_reader wire (La a b out) m r later = by_cell wire (La a b out) m r (cells (La a b out) m (λ s. s))
  by_reader wire (Fa a b out) m r later = by_cell wire (Fa a b out) m r (cells (Fa a b out) m (λ s. s))
  by_reader wire (Droc role preload feed q n) m r later = by_cell wire (Droc role preload feed q n) m r (cells (Droc role preload feed q n) m (λ s. s))
  by_reader wire (Split from left right) m r later =
      of_cell wire (Split from left right) m r left.number (inl refl)
      (later left.number (rise (Split from left right) m (λ d. d) wire left.number r (inl refl)) ((named_below net).of_outs (Split from left right) m left.number (inl refl)))

  useful_from : (more wire : ℕ) → number_of_wires net ≤ wire + more → wire < number_of_wires net → Useful net wire
  useful_from zero wire far low = absurd (omega arith)
  useful_from (suc more) wire far low =
      elim (IsIn-append wire (flat_map reads net.cells) (map wire_of net.output_rails) (occurrences-IsIn wire (read net) (sound.wired.all_read wire low))) [
        | inl k ↦ let c = IsIn-from_flat_map reads wire net.cells k in by_reader wire c.0 c.1 c.2 (λ later above inside. useful_from more later (omega arith) inside)
        | inr k ↦ let r = IsIn-from_map wire_of wire net.output_rails k in of_output wire r.0 r.1 r.2
      ]

  pub all_useful : (wire : ℕ) → wire < number_of_wires net → Useful net wire
  all_useful wire low = useful_from (number_of_wires net) wire (omega arith) low
