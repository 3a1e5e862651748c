-- The backs that state lines name keep the latches of the machine.
use Rattle.std.proofs.Common.{◌≡◌, ◌∷◌, ◌≤◌, inl, inr, ℕ, zero, suc, Bool, false, Option, Some, List, [], map, length, slice_get, ap, sym, subst, ◌∙◌, refl, arith}
use Rattle.std.specs.Prelude.{option_map, unwrap_or}
use Rattle.std.proofs.lemmas.Option.{slice_get_within}
use Rattle.pulse_ids.specs.Lists.{IsIn, bit_at}
use Rattle.source_machine.specs.Laws.{AreVectors}
use Rattle.source_machine.specs.Machines.{PlainMachine}
use Rattle.source_machine.specs.Runs.{IsRun}
use Rattle.cell_netlist.specs.declared.kinds.CellState.{CellState}
use Rattle.cell_netlist.specs.declared.kinds.Role.TheVariants.{Front, Back, Const}
use Rattle.cell_netlist.specs.declared.lines.Cell.{Cell}
use Rattle.cell_netlist.specs.declared.lines.Cell.TheVariants.{La, Fa, Split, Droc}
use Rattle.cell_netlist.specs.declared.lines.StateLine.{StateLine}
use Rattle.cell_netlist.specs.Netlists.{PlainNetlist}
use Rattle.cell_netlist.specs.NetRuns.{bits_in, latches_from}
use Rattle.cell_netlist.specs.RailEquations.{LatchState, IsNetRun, feed_of, first_state, next_state}
use Rattle.cell_netlist.specs.Sound.{IsBack, IsSound}
use Rattle.cell_netlist.specs.World.{preloaded}
use Rattle.pulse_world.specs.DuePulses.{resting}
use Rattle.pulse_world.specs.RailPulses.{RailLaw}
use Rattle.pulse_world.proofs.CallerLemmas.{vector_of, starts_at_rest}
use Rattle.rail_mapper.specs.Mapped.{StatesFollow, kept_bit}
use Rattle.xsfq_cli.specs.LatchBits.{KeepsLatches}

mapped_at : {X Y : Type 0} (f : X → Y) (xs : List X) (k : ℕ) (x : X) → slice_get xs k ≡ Some x → slice_get (map f xs) k ≡ Some (f x)
mapped_at f [] k x e = absurd cc
mapped_at f (y ∷ xs) zero x e = let same : y ≡ x = cc in ap (λ z. Some (f z)) same
mapped_at f (y ∷ xs) (suc k) x e = mapped_at f xs k x e

-- what a back keeps at rest is the bit of its feed
back_rests : (latches : LatchState) (cell : Cell) → IsBack cell → (resting latches cell).bit ≡ latches (feed_of cell)
back_rests latches (La a b out) back = absurd back
back_rests latches (Fa a b out) back = absurd back
back_rests latches (Split from left right) back = absurd back
back_rests latches (Droc Front preload feed q n) back = absurd back
back_rests latches (Droc Back preload feed q n) back = refl
back_rests latches (Droc Const preload feed q n) back = absurd back

module _ (rails : RailLaw) (machine : PlainMachine) (net : PlainNetlist) (sound : IsSound net)
    (follows : (vectors valuations run : List (List Bool)) → AreVectors machine vectors → IsRun machine vectors valuations → IsNetRun net vectors run
    → StatesFollow machine net vectors valuations run) where
  -- the cell of a state line at rest
  held_at_rest : (states : List CellState) (latches : LatchState) (line : StateLine) → IsIn line net.states → states ≡ map (resting latches) net.cells
      → unwrap_or (option_map (λ (kept : CellState). kept.bit) (slice_get states line.cell.number)) false ≡ kept_bit net latches line
  held_at_rest states latches line among rest =
      let back = sound.states.backs line among in
      ap (λ (l : List CellState). unwrap_or (option_map (λ (kept : CellState). kept.bit) (slice_get l line.cell.number)) false) rest
      ∙ ap (λ (o : Option CellState). unwrap_or (option_map (λ (kept : CellState). kept.bit) o) false) (mapped_at (resting latches) net.cells line.cell.number back.0 back.1)
      ∙ back_rests latches back.0 back.2
      ∙ sym (ap (λ (o : Option Cell). unwrap_or (option_map (λ (cell : Cell). latches (feed_of cell)) o) false) back.1)

  mapped_same : (cells : List Cell) → ((cell : Cell) → IsIn cell cells → preloaded cell ≡ resting (first_state net) cell) → map preloaded cells ≡ map (resting (first_state net)) cells
  mapped_same [] same = refl
  mapped_same (cell ∷ cells) same = rw (same cell (inl refl), mapped_same cells (λ other m. same other (inr m))) refl

  no_vectors : AreVectors machine []
  no_vectors = λ k d lt. absurd (omega arith)

  pub keeps_latches : KeepsLatches machine net
  keeps_latches = record {
    first = λ line among.
        held_at_rest (map preloaded net.cells) (first_state net) line among (mapped_same net.cells (starts_at_rest net sound))
        ∙ follows [] [] [] no_vectors tt tt line among 0 (omega arith);
    later = λ vectors valuations are run moment is stage at relax settled line among.
        let its = (rails net sound).some_run vectors in
        let kept = ((rails net sound).as_run vectors its.0 its.1).follows.kept moment is stage at relax settled in
        let vector = vector_of net vectors is.0 moment is.1 stage at in
        let within = slice_get_within vectors stage.cycle vector.0 vector.1 in
        held_at_rest moment.state.cell_states (next_state net (bits_in its.0 stage.cycle)) line among kept
        ∙ follows vectors valuations its.0 are run its.1 line among (suc stage.cycle) (omega (arith, within));
  }
