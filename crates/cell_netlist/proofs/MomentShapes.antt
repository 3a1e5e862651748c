-- Every moment has one cell_state a cell and one count an output rail.
use Rattle.std.proofs.Common.{◌≡◌, ◌+◌, ℕ, Bool, ◌==◌, Option, Some, None, List, [], ◌∷◌, ◌++◌, length, sym, ◌∙◌, subst, inl, inr, arith, refl}
use Rattle.std.proofs.lemmas.List.{length-map}
use Rattle.std.proofs.lemmas.Bool.{cases_Bool}
use Rattle.cell_netlist.specs.declared.lines.Rail.{Rail}
use Rattle.cell_netlist.specs.declared.lines.Cell.{Cell}
use Rattle.cell_netlist.specs.Netlists.{PlainNetlist}
use Rattle.cell_netlist.specs.declared.kinds.CellState.{CellState}
use Rattle.cell_netlist.specs.World.{State, preloaded, cleared, Reaction, reaction, Reactions, both, reactions, counted_after, Delivered, deliver, moved}
use Rattle.cell_netlist.specs.Runs.{Moment, Event, Opens, Delivers, IsRun}

both-length : (n : ℕ) (o : Option Reaction) (p : Option Reactions) → ((r : Reactions) → p ≡ Some r → length r.cell_states ≡ n)
    → (r : Reactions) → both o p ≡ Some r → length r.cell_states ≡ n + 1
both-length n None p rest r e = absurd cc
both-length n (Some first) None rest r e = absurd cc
both-length n (Some first) (Some others) rest r e =
    let count = rest others refl in
    let same : record { cell_states = first.cell_state ∷ others.cell_states; emitted = first.emitted ++ others.emitted } ≡ r = cc in
    subst (λ (x : Reactions). length x.cell_states ≡ n + 1) same (omega arith)

reactions-length : (cells : List Cell) (cell_states : List CellState) (w : ℕ) (r : Reactions) → reactions cells cell_states w ≡ Some r → length r.cell_states ≡ length cells
reactions-length [] cell_states w r e =
    let same : record { cell_states = []; emitted = [] } ≡ r = cc in
    subst (λ (x : Reactions). length x.cell_states ≡ 0) same refl
reactions-length (cell ∷ cells) [] w r e = absurd cc
reactions-length (cell ∷ cells) (cell_state ∷ cell_states) w r e =
    let more = both-length (length cells) (reaction cell cell_state w) (reactions cells cell_states w) (λ s g. reactions-length cells cell_states w s g) r e in
    omega arith

counted-length : (rails : List Rail) (counts : List ℕ) (w : ℕ) → length counts ≡ length rails → length (counted_after rails counts w) ≡ length rails
counted-length [] counts w e = refl
counted-length (rail ∷ rails) [] w e = absurd (omega arith)
counted-length (rail ∷ rails) (count ∷ counts) w e = let r = counted-length rails counts w (omega arith) in omega arith

module _ (net : PlainNetlist) where
  abbrev HasShape : State → Type 0
  HasShape state = (length state.cell_states ≡ length net.cells) × (length state.counted ≡ length net.output_rails)

  moved-shape : (state after : State) (w : ℕ) → HasShape state → (o : Option Reactions) → reactions net.cells state.cell_states w ≡ o
      → moved net state w o ≡ Delivered after → HasShape after
  moved-shape state after w shape None is e = absurd cc
  moved-shape state after w shape (Some reacted) is e =
      let cell_states = reactions-length net.cells state.cell_states w reacted is in
      let counted = counted-length net.output_rails state.counted w shape.1 in
      subst HasShape (delivered-same _ after e) (cell_states, counted)
    where
      delivered-same : (s t : State) → Delivered s ≡ Delivered t → s ≡ t
      delivered-same s t e = cc

  deliver-shape : (state after : State) (w : ℕ) → HasShape state → deliver net state w ≡ Delivered after → HasShape after
  deliver-shape state after w shape e = elim (cases_Bool (state.pending w == 0)) [
    | inl none ↦ let g = rw none at e in absurd cc
    | inr some ↦ moved-shape state after w shape (reactions net.cells state.cell_states w) refl (rw some at e)
  ]

  pub moments_keep_shape : (vectors : List (List Bool)) (events : List Event) (moment : Moment) → IsRun net vectors events moment → HasShape moment.state
  moments_keep_shape vectors [] moment run =
      subst (λ (m : Moment). HasShape m.state) (sym run) (length-map net.cells preloaded, length-map net.output_rails (λ _. 0))
  moments_keep_shape vectors (Opens ∷ events) moment run =
      let before = moments_keep_shape vectors events run.0 run.1 in
      subst HasShape (sym run.2.state) (length-map run.0.state.cell_states cleared ∙ before.0, length-map net.output_rails (λ _. 0))
  moments_keep_shape vectors (Delivers wire ∷ events) moment run =
      deliver-shape run.0.state moment.state wire (moments_keep_shape vectors events run.0 run.1) run.2.state
