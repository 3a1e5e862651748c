-- The times of a timed phase are at most the arrivals of the wires.
use Rattle.std.proofs.Common.{◌≡◌, ◌+◌, ◌-◌, ◌<◌, ◌≤◌, ℕ, Bool, true, false, Option, Some, None, inl, inr, List, [], ◌∷◌, refl, sym, ap, subst, arith, ◌==◌, if◌then◌else◌}
use Rattle.pulse_ids.specs.Lists.{IsIn, occurrences}
use Rattle.pulse_ids.proofs.CallerLemmas.{IsIn-append, IsIn-place, place_of}
use Rattle.pulse_ids.proofs.CallerLemmasOnCounts.{occurrences-IsIn}
use Rattle.cell_netlist.specs.declared.kinds.CellState.{CellState}
use Rattle.cell_netlist.specs.declared.kinds.Held.{Held}
use Rattle.cell_netlist.specs.declared.kinds.Port.TheVariants as ports
use Rattle.cell_netlist.specs.declared.kinds.Gate.{Gate}
use Rattle.cell_netlist.specs.declared.kinds.Gate.TheVariants as gates
use Rattle.cell_netlist.specs.declared.lines.Cell.{Cell}
use Rattle.cell_netlist.specs.declared.lines.Cell.TheVariants.{La, Fa, Split, Droc}
use Rattle.cell_netlist.specs.Netlists.{PlainNetlist, outs, reads, IsDroc, number_of_wires}
use Rattle.cell_netlist.specs.Sound.{IsSound}
use Rattle.cell_netlist.specs.Tables.{arrival, fed}
use Rattle.cell_netlist.specs.WireLaws.{DrivingCellsAreUnique}
use Rattle.cell_netlist.specs.World.{State, Reaction, Reactions, gate_step, droc_step, gate_reaction, reaction, both, reactions, Delivered, NotPending, moved, deliver, counted_after}
use Rattle.cell_netlist.proofs.CallerLemmas.{named_below}
use Rattle.timed_world.specs.Bounds.{PlainBound, entry_of, AreArrivals, IsLatestPath}
use Rattle.timed_world.specs.Delays.{PlainDelays, lag}
use Rattle.timed_world.specs.Laws.{TimesWithinBound}
use Rattle.timed_world.specs.TimedPhases.{emitted_in, emitted, due_after, IsNext, IsTimedFrom}
use Rattle.timed_world.proofs.LagLemmas.{zero_or_found, lag_of_driver}

-- an LA, FA or splitter that reads the one wire and drives the other
pub record Passes (cells : List Cell) (wire other : ℕ) : Type 0 where
  pub cell : Cell
  pub among : IsIn cell cells
  pub kind : IsDroc cell → ⊥
  pub read : IsIn wire (reads cell)
  pub out : IsIn other (outs cell)

-- what a gate emits stands on its output
gate_emits : (out : ℕ) (cell_state : CellState) (line : Option (Held × Bool)) (reacted : Reaction) (other : ℕ) → gate_step out cell_state line ≡ Some reacted
    → IsIn other reacted.emitted → out ≡ other
gate_emits out cell_state None reacted other e i = absurd cc
gate_emits out cell_state (Some (held, true)) reacted other e i =
    let is : reacted.emitted ≡ out ∷ [] = cc in only (subst (λ l. IsIn other l) is i)
  where
    only : IsIn other (out ∷ []) → out ≡ other
    only (inl s) = s
    only (inr none) = absurd none
gate_emits out cell_state (Some (held, false)) reacted other e i =
    let is : reacted.emitted ≡ [] = cc in absurd (subst (λ l. IsIn other l) is i)

silent_emits : (cell_state : CellState) (reacted : Reaction) (other : ℕ) → Some (record { cell_state = cell_state; emitted = [] }) ≡ Some reacted → IsIn other reacted.emitted → ⊥
silent_emits cell_state reacted other e i = let is : reacted.emitted ≡ [] = cc in subst (λ l. IsIn other l) is i

gate_passes : (gate : Gate) (a b out : ℕ) (cell_state : CellState) (wire other : ℕ) (reacted : Reaction) → gate_reaction gate a b out cell_state wire ≡ Some reacted
    → IsIn other reacted.emitted → IsIn wire (a ∷ b ∷ []) × IsIn other (out ∷ [])
gate_passes gate a b out cell_state wire other reacted e i = go (wire == a) refl (wire == b) refl e
  where
    go : (p : Bool) → (wire == a) ≡ p → (q : Bool) → (wire == b) ≡ q
        → (if p then gate_step out cell_state (arrival gate cell_state.held ports.A)
        else if q then gate_step out cell_state (arrival gate cell_state.held ports.B)
        else Some (record { cell_state = cell_state; emitted = [] })) ≡ Some reacted
        → IsIn wire (a ∷ b ∷ []) × IsIn other (out ∷ [])
    go true f q g h = let s : a ≡ wire = grind (arith) in (inl s, inl (gate_emits out cell_state (arrival gate cell_state.held ports.A) reacted other h i))
    go false f true g h = let s : b ≡ wire = grind (arith) in (inr (inl s), inl (gate_emits out cell_state (arrival gate cell_state.held ports.B) reacted other h i))
    go false f false g h = absurd (silent_emits cell_state reacted other h i)

-- what a cell emits at a pulse it drives, and it reads the pulse's wire and is no DROC
cell_passes : (cell : Cell) (cell_state : CellState) (wire other : ℕ) (reacted : Reaction) → reaction cell cell_state wire ≡ Some reacted → IsIn other reacted.emitted
    → (IsDroc cell → ⊥) × IsIn wire (reads cell) × IsIn other (outs cell)
cell_passes (La a b out) cell_state wire other reacted e i =
    let g = gate_passes gates.La a.number b.number out.number cell_state wire other reacted e i in (λ d. d, g.0, g.1)
cell_passes (Fa a b out) cell_state wire other reacted e i =
    let g = gate_passes gates.Fa a.number b.number out.number cell_state wire other reacted e i in (λ d. d, g.0, g.1)
cell_passes (Split from left right) cell_state wire other reacted e i = go (wire == from.number) refl e
  where
    go : (p : Bool) → (wire == from.number) ≡ p
        → (if p then Some (record { cell_state = cell_state; emitted = left.number ∷ right.number ∷ [] }) else Some (record { cell_state = cell_state; emitted = [] })) ≡ Some reacted
        → (IsDroc (Split from left right) → ⊥) × IsIn wire (reads (Split from left right)) × IsIn other (outs (Split from left right))
    go true f h =
        let s : from.number ≡ wire = grind (arith) in
        let is : reacted.emitted ≡ left.number ∷ right.number ∷ [] = cc in (λ d. d, inl s, subst (λ l. IsIn other l) is i)
    go false f h = absurd (silent_emits cell_state reacted other h i)
cell_passes (Droc role preload feed q n) cell_state wire other reacted e i = go (wire == feed.number) refl (fed cell_state.bit) e
  where
    go : (p : Bool) → (wire == feed.number) ≡ p → (line : Option Bool)
        → (if p then droc_step cell_state line else Some (record { cell_state = cell_state; emitted = [] })) ≡ Some reacted
        → (IsDroc (Droc role preload feed q n) → ⊥) × IsIn wire (reads (Droc role preload feed q n)) × IsIn other (outs (Droc role preload feed q n))
    go true f None h = absurd cc
    go true f (Some bit) h = let is : reacted.emitted ≡ [] = cc in absurd (subst (λ l. IsIn other l) is i)
    go false f line h = absurd (silent_emits cell_state reacted other h i)

-- what the cells emit at a pulse one of them passes on
pub cells_pass : (cells : List Cell) (cell_states : List CellState) (wire other : ℕ) → IsIn other (emitted_in (reactions cells cell_states wire)) → Passes cells wire other
cells_pass [] cell_states wire other i = absurd i
cells_pass (cell ∷ cells) [] wire other i = absurd i
cells_pass (cell ∷ cells) (cell_state ∷ cell_states) wire other i =
    go (reaction cell cell_state wire) refl (reactions cells cell_states wire) (cells_pass cells cell_states wire other) i
  where
    go : (first : Option Reaction) → reaction cell cell_state wire ≡ first → (rest : Option Reactions) → (IsIn other (emitted_in rest) → Passes cells wire other)
        → IsIn other (emitted_in (both first rest)) → Passes (cell ∷ cells) wire other
    go None e rest more j = absurd j
    go (Some first) e None more j = absurd j
    go (Some first) e (Some rest) more j = elim (IsIn-append other first.emitted rest.emitted j) [
      | inl here ↦
          let p = cell_passes cell cell_state wire other first e here in
          record { cell = cell; among = inl refl; kind = p.0; read = p.1; out = p.2 }
      | inr there ↦
          let p = more there in
          record { cell = p.cell; among = inr p.among; kind = p.kind; read = p.read; out = p.out }
    ]

-- what a cell reads arrives no later than its entry
entry_most : (value : ℕ → ℕ) (cell : Cell) (wire : ℕ) → (IsDroc cell → ⊥) → IsIn wire (reads cell) → value wire ≤ entry_of value cell
entry_most value (La a b out) wire kind (inl e) = let s = ap value e in omega arith
entry_most value (La a b out) wire kind (inr (inl e)) = let s = ap value e in omega arith
entry_most value (La a b out) wire kind (inr (inr i)) = absurd i
entry_most value (Fa a b out) wire kind (inl e) = let s = ap value e in omega arith
entry_most value (Fa a b out) wire kind (inr (inl e)) = let s = ap value e in omega arith
entry_most value (Fa a b out) wire kind (inr (inr i)) = absurd i
entry_most value (Split from left right) wire kind (inl e) = let s = ap value e in omega arith
entry_most value (Split from left right) wire kind (inr i) = absurd i
entry_most value (Droc role preload feed q n) wire kind i = absurd (kind tt)

-- what was emitted at a delivery that was made, and what is pending then
pub record Moved (net : PlainNetlist) (state after : State) (wire : ℕ) : Type 0 where
  pub emits : List ℕ
  pub is : emitted net state wire ≡ emits
  pub pending : (other : ℕ) → after.pending other ≡ (state.pending other - (if wire == other then 1 else 0)) + occurrences other emits

pub delivered_moves : (net : PlainNetlist) (state after : State) (wire : ℕ) → deliver net state wire ≡ Delivered after → Moved net state after wire
delivered_moves net state after wire e = go (state.pending wire == 0) (reactions net.cells state.cell_states wire) refl e
  where
    go : (p : Bool) (reacted : Option Reactions) → reactions net.cells state.cell_states wire ≡ reacted
        → (if p then NotPending else moved net state wire reacted) ≡ Delivered after → Moved net state after wire
    go true reacted f g = absurd cc
    go false None f g = absurd cc
    go false (Some reacted) f g =
        let is : record {
          cell_states = reacted.cell_states;
          pending = λ other. (state.pending other - (if wire == other then 1 else 0)) + occurrences other reacted.emitted;
          counted = counted_after net.output_rails state.counted wire;
        } ≡ after = cc in
        record { emits = reacted.emitted; is = ap emitted_in f; pending = λ other. sym (ap (λ (s : State). s.pending other) is) }

module _ (unique : DrivingCellsAreUnique) (net : PlainNetlist) (sound : IsSound net) (delays : PlainDelays) (arrive : ℕ → ℕ) (are : AreArrivals delays net arrive) where
  -- the lag of a wire is at most its arrival
  lag_early : (wire : ℕ) → lag delays net wire ≤ arrive wire
  lag_early wire = elim (zero_or_found delays net.cells wire) [
    | inl none ↦ omega (arith, none.1)
    | inr found ↦ omega (arith, found.is, are.of_cell found.cell (IsIn-place found.cell net.cells found.place found.at) wire found.out)
  ]

  -- what is emitted arrives later than the pulse by its lag
  emitted_early : (state : State) (wire other : ℕ) → 1 ≤ occurrences other (emitted net state wire)
      → (arrive wire + lag delays net other ≤ arrive other) × (other < number_of_wires net)
  emitted_early state wire other some =
      let p = cells_pass net.cells state.cell_states wire other (occurrences-IsIn other (emitted net state wire) some) in
      let at = place_of p.cell net.cells p.among in
      let its = lag_of_driver unique delays net sound.wired other at.0 p.cell at.1 p.out in
      let when = are.of_cell p.cell p.among other p.out in
      let entry = entry_most arrive p.cell wire p.kind p.read in
      (omega (arith, its, when, entry), (named_below net).of_outs p.cell p.among other p.out)

  -- each pending pulse is due no later than its wire's arrival
  abbrev AreEarly : (ℕ → ℕ) → State → Type 0
  AreEarly due state = (wire : ℕ) → (state.pending wire ≡ 0 → ⊥) → (due wire ≤ arrive wire) × (wire < number_of_wires net)

  after_early : (due : ℕ → ℕ) (state after : State) (wire : ℕ) → AreEarly due state → IsNext state due wire → deliver net state wire ≡ Delivered after
      → AreEarly (due_after delays net state due wire) after
  after_early due state after wire early next e other some = go (occurrences other (emitted net state wire) == 0) refl
    where
      m : Moved net state after wire
      m = delivered_moves net state after wire e

      go : (b : Bool) → (occurrences other (emitted net state wire) == 0) ≡ b
          → ((if b then due other else due wire + lag delays net other) ≤ arrive other) × (other < number_of_wires net)
      go true f = early other (λ none.
          let is = m.pending other in
          let z : occurrences other (emitted net state wire) ≡ 0 = grind (arith) in
          let same = ap (occurrences other) m.is in some (omega arith))
      go false f =
          let one : 1 ≤ occurrences other (emitted net state wire) = grind (arith) in
          let late = emitted_early state wire other one in
          let first = (early wire next.pending).0 in
          let p = late.0 in (omega arith, late.1)

  pub within_from : (most : ℕ) → ((wire : ℕ) → wire < number_of_wires net → arrive wire ≤ most) → (due : ℕ → ℕ) (now : ℕ) (state : State) (wires : List ℕ) (time : ℕ) (last : State)
      → now ≤ most → AreEarly due state → IsTimedFrom delays net due now state wires time last → time ≤ most
  within_from most all due now state [] time last low early h = let e = h.1 in omega arith
  within_from most all due now state (wire ∷ wires) time last low early (next, after, e, rest) =
      let here = early wire next.pending in
      let less = all wire here.1 in
      let first = here.0 in
      within_from most all (due_after delays net state due wire) (due wire) after wires time last (omega arith) (after_early due state after wire early next e) rest

-- no arrival is above the bound
bound_most : (net : PlainNetlist) (arrive : ℕ → ℕ) (latest : Option ℕ) (bound : PlainBound) → IsLatestPath net arrive latest bound
    → (wire : ℕ) → wire < number_of_wires net → arrive wire ≤ bound.time
bound_most net arrive None bound h wire lt = let none = h.0 in absurd (omega arith)
bound_most net arrive (Some last) bound h wire lt = let most = h.0.most wire lt in let is = h.1 in omega arith

pub times_within_bound : DrivingCellsAreUnique → TimesWithinBound
times_within_bound unique net sound delays bound is state below wires time last h =
    within_from unique net sound delays is.arrival is.arrivals bound.time (bound_most net is.arrival is.latest bound is.is) _ 0 state wires time last (omega arith)
    (λ wire some. (lag_early unique net sound delays is.arrival is.arrivals wire, below wire some)) h
