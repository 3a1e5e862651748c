-- What the engine's reaction is in the words of the world.
use Rattle.std.proofs.Common.{◌≡◌, ◌∙◌, ap, sym, refl, ℕ, Option, Some, None, [], ◌∷◌, slice_get, slice_set, option_and_then}
use Rattle.pulse_ids.specs.Ids.{CellId, WireId}
use Rattle.cell_netlist.specs.declared.kinds.CellState.{CellState}
use Rattle.cell_netlist.specs.declared.lines.Cell.{Cell}
use Rattle.cell_netlist.specs.declared.lines.Cell.TheVariants.{Split}
use Rattle.cell_netlist.specs.declared.lines.Reader.{Reader}
use Rattle.cell_netlist.specs.declared.lines.Reader.TheVariants.{From}
use Rattle.cell_netlist.specs.OneReader.{port_reaction, reaction_at}
use Rattle.cell_netlist.specs.World.{Reaction}
use Rattle.pulse_world.specs.PackedStates.{PlainStates}
use Rattle.pulse_world.specs.declared.reacting.Emitted.TheVariants.{Two}
use Rattle.pulse_world.specs.Reacting.{Reacts, HasReacted}
use Rattle.pulse_world.proofs.StateBits.{set-here}

-- a cell with its state, and what it does at a pulse at a reader
pub record Reacting (kept : PlainStates) (c : ℕ) (reader : Reader) (reacted : Reaction) : Type 0 where
  pub cell : Cell
  pub state : CellState
  pub at_cell : slice_get kept.cells c ≡ Some cell
  pub at_state : slice_get kept.states c ≡ Some state
  pub reacts : port_reaction cell state reader ≡ Some reacted

pub reacting : (kept : PlainStates) (c : ℕ) (reader : Reader) (reacted : Reaction) → reaction_at kept.cells kept.states c reader ≡ Some reacted
    → Reacting kept c reader reacted
reacting kept c reader reacted e = go (slice_get kept.cells c) (slice_get kept.states c) refl refl e
  where
    go : (cell : Option Cell) (state : Option CellState) → slice_get kept.cells c ≡ cell → slice_get kept.states c ≡ state
        → option_and_then (λ k. option_and_then (λ s. port_reaction k s reader) state) cell ≡ Some reacted → Reacting kept c reader reacted
    go None state f g h = absurd cc
    go (Some cell) None f g h = absurd cc
    go (Some cell) (Some state) f g h = record { cell = cell; state = state; at_cell = f; at_state = g; reacts = h }

-- a cell and its state react by their table
pub reacts-at : (kept : PlainStates) (c : ℕ) (reader : Reader) (cell : Cell) (state : CellState) (reacted : Option Reaction)
    → slice_get kept.cells c ≡ Some cell → slice_get kept.states c ≡ Some state → port_reaction cell state reader ≡ reacted
    → reaction_at kept.cells kept.states c reader ≡ reacted
reacts-at kept c reader cell state reacted at_cell at_state e = rw (at_cell, at_state) e

-- the state set where it stands
states-stay : (kept : PlainStates) (c : ℕ) (state : CellState) → slice_get kept.states c ≡ Some state → kept ≡ record kept { states = slice_set kept.states c state }
states-stay kept c state at = ap (λ states. record kept { states = states }) (sym (set-here kept.states c state at))

module _ (kept : PlainStates) (c : ℕ) (id : CellId) (cell : Cell) (at_cell : slice_get kept.cells c ≡ Some cell) where
  -- a splitter emits on both outputs
  pub split-reacted : Reacts kept c (From id) → (from left right : WireId) → cell ≡ Split from left right → HasReacted kept kept c (From id) (Two left right)
  split-reacted (reacted, e) from left right is =
      let here = reacting kept c (From id) reacted e in record {
        reacted = record { cell_state = here.state; emitted = left.number ∷ right.number ∷ [] };
        by_table = reacts-at kept c (From id) (Split from left right) here.state _ (at_cell ∙ ap (λ k. Some k) is) here.at_state refl;
        keeps = states-stay kept c here.state here.at_state;
        emits = refl;
      }
