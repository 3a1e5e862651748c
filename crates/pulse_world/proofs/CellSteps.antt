-- What a cell keeps and has emitted, by which wires were taken; a delivery keeps it so.
use Rattle.std.proofs.Common.{◌≡◌, ℕ, ◌+◌, ◌≤◌, inl, inr, Some, List, [], ◌∷◌, ◌++◌, map, Bool, true, false, ◌&&◌, ◌||◌, ◌==◌, if◌then◌else◌, refl, sym, subst, arith}
use Rattle.std.proofs.lemmas.Bool.{eqb-true}
use Rattle.cell_netlist.specs.declared.kinds.Gate.TheVariants as gates
use Rattle.cell_netlist.specs.declared.kinds.Held.{Held}
use Rattle.cell_netlist.specs.declared.kinds.Held.TheVariants.{Rest, HasA, HasB}
use Rattle.cell_netlist.specs.declared.kinds.Port.TheVariants as ports
use Rattle.cell_netlist.specs.declared.lines.Cell.{Cell}
use Rattle.cell_netlist.specs.declared.lines.Cell.TheVariants.{La, Fa, Split, Droc}
use Rattle.pulse_ids.specs.Lists.{IsIn, occurrences}
use Rattle.cell_netlist.specs.Netlists.{reads, IsDroc}
use Rattle.cell_netlist.specs.Tables.{arrival, fed}
use Rattle.cell_netlist.specs.World.{silent, gate_step, droc_step, reaction, reactions}
use Rattle.cell_netlist.specs.declared.kinds.CellState.{CellState}
use Rattle.pulse_ids.proofs.CallerLemmasOnCounts.{occurrences-append, test_same}
use Rattle.cell_netlist.proofs.CallerLemmasOnSums.{sum_over}

-- what a gate holds, by whether its ports were taken
abbrev pub held_of : Bool → Bool → Held
held_of false false = Rest
held_of false true = HasB
held_of true false = HasA
held_of true true = Rest

-- what a cell keeps, by which wires were taken in this cycle and which in this phase
abbrev pub keeps : (ℕ → Bool) → (ℕ → Bool) → Cell → CellState
keeps was now (La a b out) = record { held = held_of (was a.number) (was b.number); bit = false }
keeps was now (Fa a b out) = record { held = held_of (was a.number) (was b.number); bit = false }
keeps was now (Split from left right) = record { held = Rest; bit = false }
keeps was now (Droc role preload feed q n) = record { held = Rest; bit = now feed.number }

-- the wires on which a cell has emitted at pulses of this cycle
abbrev pub made : (ℕ → Bool) → Cell → List ℕ
made was (La a b out) = if was a.number && was b.number then out.number ∷ [] else []
made was (Fa a b out) = if was a.number || was b.number then out.number ∷ [] else []
made was (Split from left right) = if was from.number then left.number ∷ right.number ∷ [] else []
made was (Droc role preload feed q n) = []

-- one more wire taken
abbrev pub with_wire : (ℕ → Bool) → ℕ → ℕ → Bool
with_wire was wire other = if wire == other then true else was other

-- a cell's step at a wire
pub record CellSteps (was now : ℕ → Bool) (wire : ℕ) (cell : Cell) : Type 0 where
  pub emitted : List ℕ
  pub reacts : reaction cell (keeps was now cell) wire ≡ Some (record { cell_state = keeps (with_wire was wire) (with_wire now wire) cell; emitted = emitted })
  pub makes : (w : ℕ) → occurrences w (made (with_wire was wire) cell) ≡ occurrences w (made was cell) + occurrences w emitted

-- a gate's step, by whether the wire is on its ports and whether they were taken
la-step : (x y p q : Bool) (out : ℕ) → (x ≡ true → p ≡ false) → (y ≡ true → q ≡ false) → (x ≡ true → y ≡ true → ⊥)
    → (emitted : List ℕ)
    × ((if x then gate_step out (record { held = held_of p q; bit = false }) (arrival gates.La (held_of p q) ports.A)
    else if y then gate_step out (record { held = held_of p q; bit = false }) (arrival gates.La (held_of p q) ports.B)
    else silent (record { held = held_of p q; bit = false }))
    ≡ Some (record { cell_state = record { held = held_of (if x then true else p) (if y then true else q); bit = false }; emitted = emitted }))
    × ((w : ℕ) → occurrences w (if (if x then true else p) && (if y then true else q) then out ∷ [] else []) ≡ occurrences w (if p && q then out ∷ [] else []) + occurrences w emitted)
la-step true true p q out fresh_a fresh_b one = absurd (one refl refl)
la-step true false true q out fresh_a fresh_b one = let e = fresh_a refl in absurd (cc)
la-step true false false true out fresh_a fresh_b one = (out ∷ [], refl, λ w. omega arith)
la-step true false false false out fresh_a fresh_b one = ([], refl, λ w. omega arith)
la-step false true p true out fresh_a fresh_b one = let e = fresh_b refl in absurd (cc)
la-step false true true false out fresh_a fresh_b one = (out ∷ [], refl, λ w. omega arith)
la-step false true false false out fresh_a fresh_b one = ([], refl, λ w. omega arith)
la-step false false true true out fresh_a fresh_b one = ([], refl, λ w. omega arith)
la-step false false true false out fresh_a fresh_b one = ([], refl, λ w. omega arith)
la-step false false false true out fresh_a fresh_b one = ([], refl, λ w. omega arith)
la-step false false false false out fresh_a fresh_b one = ([], refl, λ w. omega arith)

fa-step : (x y p q : Bool) (out : ℕ) → (x ≡ true → p ≡ false) → (y ≡ true → q ≡ false) → (x ≡ true → y ≡ true → ⊥)
    → (emitted : List ℕ)
    × ((if x then gate_step out (record { held = held_of p q; bit = false }) (arrival gates.Fa (held_of p q) ports.A)
    else if y then gate_step out (record { held = held_of p q; bit = false }) (arrival gates.Fa (held_of p q) ports.B)
    else silent (record { held = held_of p q; bit = false }))
    ≡ Some (record { cell_state = record { held = held_of (if x then true else p) (if y then true else q); bit = false }; emitted = emitted }))
    × ((w : ℕ) → occurrences w (if (if x then true else p) || (if y then true else q) then out ∷ [] else []) ≡ occurrences w (if p || q then out ∷ [] else []) + occurrences w emitted)
fa-step true true p q out fresh_a fresh_b one = absurd (one refl refl)
fa-step true false true q out fresh_a fresh_b one = let e = fresh_a refl in absurd (cc)
fa-step true false false true out fresh_a fresh_b one = ([], refl, λ w. omega arith)
fa-step true false false false out fresh_a fresh_b one = (out ∷ [], refl, λ w. omega arith)
fa-step false true p true out fresh_a fresh_b one = let e = fresh_b refl in absurd (cc)
fa-step false true true false out fresh_a fresh_b one = ([], refl, λ w. omega arith)
fa-step false true false false out fresh_a fresh_b one = (out ∷ [], refl, λ w. omega arith)
fa-step false false true true out fresh_a fresh_b one = ([], refl, λ w. omega arith)
fa-step false false true false out fresh_a fresh_b one = ([], refl, λ w. omega arith)
fa-step false false false true out fresh_a fresh_b one = ([], refl, λ w. omega arith)
fa-step false false false false out fresh_a fresh_b one = ([], refl, λ w. omega arith)

split-step : (x p : Bool) (left right : ℕ) → (x ≡ true → p ≡ false)
    → (emitted : List ℕ)
    × ((if x then Some (record { cell_state = record { held = Rest; bit = false }; emitted = left ∷ right ∷ [] }) else silent (record { held = Rest; bit = false }))
    ≡ Some (record { cell_state = record { held = Rest; bit = false }; emitted = emitted }))
    × ((w : ℕ) → occurrences w (if (if x then true else p) then left ∷ right ∷ [] else []) ≡ occurrences w (if p then left ∷ right ∷ [] else []) + occurrences w emitted)
split-step true true left right fresh = let e = fresh refl in absurd (cc)
split-step true false left right fresh = (left ∷ right ∷ [], refl, λ w. omega arith)
split-step false true left right fresh = ([], refl, λ w. omega arith)
split-step false false left right fresh = ([], refl, λ w. omega arith)

droc-step : (x p : Bool) → (x ≡ true → p ≡ false)
    → (if x then droc_step (record { held = Rest; bit = p }) (fed p) else silent (record { held = Rest; bit = p }))
    ≡ Some (record { cell_state = record { held = Rest; bit = if x then true else p }; emitted = [] })
droc-step true true fresh = let e = fresh refl in absurd (cc)
droc-step true false fresh = refl
droc-step false p fresh = refl

-- a wire that a test finds is the wire
found : (was : ℕ → Bool) (wire port : ℕ) → was wire ≡ false → (wire == port) ≡ true → was port ≡ false
found was wire port fresh e = subst (λ w. was w ≡ false) (eqb-true wire port e) fresh

-- two ports on one wire
twice : (wire a b : ℕ) → occurrences wire (a ∷ b ∷ []) ≤ 1 → (wire == a) ≡ true → (wire == b) ≡ true → ⊥
twice wire a b once p q =
    let x = test_same wire a (eqb-true wire a p) in let y = test_same wire b (eqb-true wire b q) in absurd (omega arith)

-- a cell's step, where the gates that read the wire are fresh and so is the feed
pub cell-steps : (was now : ℕ → Bool) (wire : ℕ) (cell : Cell) → occurrences wire (reads cell) ≤ 1 → ((IsDroc cell → ⊥) → IsIn wire (reads cell) → was wire ≡ false)
    → now wire ≡ false → CellSteps was now wire cell
cell-steps was now wire (La a b out) once fresh free =
    let r = la-step (wire == a.number) (wire == b.number) (was a.number) (was b.number) out.number
    (λ e. found was wire a.number (fresh (λ h. h) (inl (sym (eqb-true wire a.number e)))) e)
    (λ e. found was wire b.number (fresh (λ h. h) (inr (inl (sym (eqb-true wire b.number e))))) e)
    (twice wire a.number b.number once) in
    record { emitted = r.0; reacts = r.1; makes = r.2 }
cell-steps was now wire (Fa a b out) once fresh free =
    let r = fa-step (wire == a.number) (wire == b.number) (was a.number) (was b.number) out.number
    (λ e. found was wire a.number (fresh (λ h. h) (inl (sym (eqb-true wire a.number e)))) e)
    (λ e. found was wire b.number (fresh (λ h. h) (inr (inl (sym (eqb-true wire b.number e))))) e)
    (twice wire a.number b.number once) in
    record { emitted = r.0; reacts = r.1; makes = r.2 }
cell-steps was now wire (Split from left right) once fresh free =
    let r = split-step (wire == from.number) (was from.number) left.number right.number
    (λ e. found was wire from.number (fresh (λ h. h) (inl (sym (eqb-true wire from.number e)))) e) in
    record { emitted = r.0; reacts = r.1; makes = r.2 }
cell-steps was now wire (Droc role preload feed q n) once fresh free = record {
  emitted = [];
  reacts = droc-step (wire == feed.number) (now feed.number) (found now wire feed.number free);
  makes = λ w. omega arith;
}

-- the step of all cells
pub record CellsStep (was now : ℕ → Bool) (wire : ℕ) (cells : List Cell) : Type 0 where
  pub emitted : List ℕ
  pub reacts : reactions cells (map (keeps was now) cells) wire ≡ Some (record { cell_states = map (keeps (with_wire was wire) (with_wire now wire)) cells; emitted = emitted })
  pub makes : (w : ℕ) → sum_over (λ cell. occurrences w (made (with_wire was wire) cell)) cells ≡ sum_over (λ cell. occurrences w (made was cell)) cells + occurrences w emitted

pub cells-step : (was now : ℕ → Bool) (wire : ℕ) (cells : List Cell) → ((cell : Cell) → IsIn cell cells → CellSteps was now wire cell) → CellsStep was now wire cells
cells-step was now wire [] steps = record { emitted = []; reacts = refl; makes = λ w. omega arith }
cells-step was now wire (cell ∷ cells) steps =
    let s = steps cell (inl refl) in
    let r = cells-step was now wire cells (λ c i. steps c (inr i)) in
    record {
      emitted = s.emitted ++ r.emitted;
      reacts = rw (s.reacts, r.reacts) refl;
      makes = λ w. let a = occurrences-append w s.emitted r.emitted in let m = s.makes w in let n = r.makes w in omega arith;
    }

-- what a cell keeps and has emitted depends on the wires taken alone
pub keeps-same : (was also now still : ℕ → Bool) → ((w : ℕ) → was w ≡ also w) → ((w : ℕ) → now w ≡ still w) → (cell : Cell) → keeps was now cell ≡ keeps also still cell
keeps-same was also now still e f (La a b out) = let x = e a.number in let y = e b.number in cc
keeps-same was also now still e f (Fa a b out) = let x = e a.number in let y = e b.number in cc
keeps-same was also now still e f (Split from left right) = refl
keeps-same was also now still e f (Droc role preload feed q n) = let x = f feed.number in cc

pub made-same : (was also : ℕ → Bool) → ((w : ℕ) → was w ≡ also w) → (cell : Cell) → made was cell ≡ made also cell
made-same was also e (La a b out) = let x = e a.number in let y = e b.number in cc
made-same was also e (Fa a b out) = let x = e a.number in let y = e b.number in cc
made-same was also e (Split from left right) = let x = e from.number in cc
made-same was also e (Droc role preload feed q n) = refl
