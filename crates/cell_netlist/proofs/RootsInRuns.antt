-- A wire carries the bit of its root.
use Rattle.std.proofs.Common.{◌≡◌, ◌∙◌, ℕ, zero, suc, inl, inr, List, [], ◌∷◌, Bool, refl, sym, ap}
use Rattle.cell_netlist.specs.declared.lines.Cell.{Cell}
use Rattle.cell_netlist.specs.declared.lines.Cell.TheVariants.{La, Fa, Split, Droc}
use Rattle.pulse_ids.specs.Lists.{bit_at}
use Rattle.cell_netlist.specs.Netlists.{PlainNetlist, Splits, SplittersBelow}
use Rattle.cell_netlist.specs.RailEquations.{LatchState, CellEquation, IsRails, IsNetRunFrom, first_state, next_state}
use Rattle.cell_netlist.specs.NetRuns.{bits_in}
use Rattle.cell_netlist.specs.RootBits.{WiresCarryRootBits}

-- a splitter copies its input's bit
split-same : (state : LatchState) (bit : ℕ → Bool) (cell : Cell) (from to : ℕ) → CellEquation state bit cell → Splits cell from to → bit to ≡ bit from
split-same state bit (La a b out) from to h s = absurd s
split-same state bit (Fa a b out) from to h s = absurd s
split-same state bit (Droc role preload feed q n) from to h s = absurd s
split-same state bit (Split source left right) from to h (e, inl left_is) = ap bit (sym left_is) ∙ (h.0 ∙ ap bit e)
split-same state bit (Split source left right) from to h (e, inr (inl right_is)) = ap bit (sym right_is) ∙ (h.1 ∙ ap bit e)
split-same state bit (Split source left right) from to h (e, inr (inr none)) = absurd none

module _ (net : PlainNetlist) where
  chain-same : (state : LatchState) (vector bits : List Bool) → IsRails net state vector bits → (n from to : ℕ) → SplittersBelow net n from to
      → bit_at bits to ≡ bit_at bits from
  chain-same state vector bits rails zero from to e = ap (bit_at bits) (sym e)
  chain-same state vector bits rails (suc n) from to (mid, splitter, rest) =
      chain-same state vector bits rails n mid to rest
      ∙ split-same state (bit_at bits) splitter.0 from mid (rails.cells splitter.0 splitter.1) splitter.2

  run-same : (state : LatchState) (vectors run : List (List Bool)) → IsNetRunFrom net state vectors run → (cycle n from to : ℕ) → SplittersBelow net n from to
      → bit_at (bits_in run cycle) to ≡ bit_at (bits_in run cycle) from
  run-same state [] [] h cycle n from to chain = refl
  run-same state [] (bits ∷ run) h cycle n from to chain = absurd h
  run-same state (v ∷ vectors) [] h cycle n from to chain = absurd h
  run-same state (v ∷ vectors) (bits ∷ run) h zero n from to chain = chain-same state v bits h.0 n from to chain
  run-same state (v ∷ vectors) (bits ∷ run) h (suc cycle) n from to chain = run-same (next_state net bits) vectors run h.1 cycle n from to chain

pub wires_carry_root_bits : WiresCarryRootBits
wires_carry_root_bits net vectors run is_net_run cycle root wire below =
    run-same net (first_state net) vectors run is_net_run cycle below.splitters root wire below.chain
