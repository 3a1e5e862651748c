-- Rows that take more wires, one after the other.
use Rattle.std.proofs.Common.{◌≡◌, ◌+◌, ◌≤◌, ◌<◌, ℕ, zero, suc, Bool, false, Some, List, [], ◌∷◌, ◌++◌, length, drop, slice_get, slice_set, map, replicate, ap, sym, ◌∙◌, subst, inl, arith, refl}
use Rattle.std.proofs.lemmas.List.{append_assoc}
use Rattle.pulse_ids.specs.Lists.{occurrences}
use Rattle.cell_netlist.specs.declared.lines.Cell.{Cell}
use Rattle.cell_netlist.specs.World.{cleared, clocked, clock_pulses}
use Rattle.cell_netlist.specs.declared.kinds.CellState.{CellState}
use Rattle.pulse_ids.proofs.CallerLemmasOnCounts.{occurrences-append, test_same}
use Rattle.pulse_ids.proofs.CallerLemmas.{IsIn-left, IsIn-right}
use Rattle.cell_netlist.proofs.CallerLemmasOnLists.{drop-at}
use Rattle.pulse_world.specs.PackedStates.{PlainStates, counts_by}
use Rattle.pulse_world.specs.PendingQueues.{PlainQueue, HasRoomFor}

module _ (queue : PlainQueue) where
  -- one wire can be appended
  pub room-one : (wire : ℕ) → HasRoomFor queue (wire ∷ []) → (wire < queue.bound) × (occurrences wire queue.wires ≡ 0)
  room-one wire room =
      let once = room.once wire in
      let parts = occurrences-append wire queue.wires (wire ∷ []) in
      let here = test_same wire wire refl in
      (room.below wire (inl refl), omega arith)

  -- the first of more wires can be appended, and then the rest
  pub room-split : (xs ys : List ℕ) → HasRoomFor queue (xs ++ ys) → HasRoomFor queue xs × HasRoomFor (record queue { wires = queue.wires ++ xs }) ys
  room-split xs ys room = (
    record {
      once = λ w.
          let once = room.once w in
          let all = occurrences-append w queue.wires (xs ++ ys) in
          let parts = occurrences-append w xs ys in
          let left = occurrences-append w queue.wires xs in omega arith;
      below = λ w i. room.below w (IsIn-left w xs ys i);
    },
    record {
      once = λ w. subst (λ ws. occurrences w ws ≤ 1) (sym (append_assoc queue.wires xs ys)) (room.once w);
      below = λ w i. room.below w (IsIn-right w xs ys i);
    },
  )

  -- a queue with the wires of a step, and those behind it
  pub queue-step : (step rest all : List ℕ) → all ≡ step ++ rest → (queue.wires ++ step) ++ rest ≡ queue.wires ++ all
  queue-step step rest all e = append_assoc queue.wires step rest ∙ ap (λ ws. queue.wires ++ ws) (sym e)

-- the first so many states cleared
abbrev pub cleared_to : ℕ → List CellState → List CellState
cleared_to n [] = []
cleared_to zero (x ∷ xs) = x ∷ xs
cleared_to (suc n) (x ∷ xs) = cleared x ∷ cleared_to n xs

pub cleared-none : (xs : List CellState) → cleared_to 0 xs ≡ xs
cleared-none [] = refl
cleared-none (x ∷ xs) = refl

pub cleared-get : (xs : List CellState) (i : ℕ) → slice_get (cleared_to i xs) i ≡ slice_get xs i
cleared-get [] zero = refl
cleared-get [] (suc i) = refl
cleared-get (x ∷ xs) zero = refl
cleared-get (x ∷ xs) (suc i) = cleared-get xs i

pub cleared-set : (xs : List CellState) (i : ℕ) (x : CellState) → slice_get xs i ≡ Some x → slice_set (cleared_to i xs) i (cleared x) ≡ cleared_to (i + 1) xs
cleared-set [] zero x e = absurd cc
cleared-set [] (suc i) x e = absurd cc
cleared-set (y ∷ xs) zero x e =
    let same : y ≡ x = cc in
    let one : 0 + 1 ≡ suc 0 = omega arith in
    subst (λ k. slice_set (y ∷ xs) 0 (cleared x) ≡ cleared_to k (y ∷ xs)) (sym one)
    (ap (λ z. cleared z ∷ xs) (sym same) ∙ ap (λ zs. cleared y ∷ zs) (sym (cleared-none xs)))
cleared-set (y ∷ xs) (suc i) x e =
    let next : suc (i + 1) ≡ suc i + 1 = omega arith in
    subst (λ k. cleared y ∷ slice_set (cleared_to i xs) i (cleared x) ≡ cleared_to k (y ∷ xs)) next (ap (λ zs. cleared y ∷ zs) (cleared-set xs i x e))

pub cleared-all : (xs : List CellState) (n : ℕ) → n ≡ length xs → cleared_to n xs ≡ map cleared xs
cleared-all [] n e = refl
cleared-all (x ∷ xs) zero e = absurd (omega arith)
cleared-all (x ∷ xs) (suc n) e = ap (λ zs. cleared x ∷ zs) (cleared-all xs n (omega arith))

-- the state that the engine keeps at a place that isn't cleared yet
pub cell_state-at : (kept : List CellState) (cell_states : List CellState) (i : ℕ) (its : CellState) → kept ≡ cleared_to i cell_states → slice_get kept i ≡ Some its
    → slice_get cell_states i ≡ Some its
cell_state-at kept cell_states i its e at =
    sym (cleared-get cell_states i) ∙ (ap (λ cs. slice_get cs i) (sym e) ∙ at)

-- clock pulses of a cell and of those behind it
pub clock-step : (cells : List Cell) (cell_states : List CellState) (i : ℕ) (cell : Cell) (cell_state : CellState) → slice_get cells i ≡ Some cell → slice_get cell_states i ≡ Some cell_state
    → clock_pulses (drop i cells) (drop i cell_states) ≡ clocked cell cell_state.bit ++ clock_pulses (drop (i + 1) cells) (drop (i + 1) cell_states)
clock-step cells cell_states i cell cell_state at_cell at_content = rw (drop-at cells i cell at_cell, drop-at cell_states i cell_state at_content) refl

pub cleared-length : (xs : List CellState) (n : ℕ) → length (cleared_to n xs) ≡ length xs
cleared-length [] n = refl
cleared-length (x ∷ xs) zero = refl
cleared-length (x ∷ xs) (suc n) = ap (λ k. suc k) (cleared-length xs n)

-- what one more cell emits at the phase clock, and what the cells keep then
pub record ClockedNext (first next : PlainStates) (i : ℕ) (output : List ℕ) : Type 0 where
  pub pulses : clock_pulses (drop i first.cells) (drop i first.states) ≡ output ++ clock_pulses (drop (i + 1) first.cells) (drop (i + 1) first.states)
  pub kept : next ≡ record first { states = cleared_to (i + 1) first.states }

pub clocked-next : (first now next : PlainStates) (i id : ℕ) (output : List ℕ) → now ≡ record first { states = cleared_to i first.states } → id ≡ i
    → ((cell : Cell) × (before : CellState) × (slice_get now.cells id ≡ Some cell) × (slice_get now.states id ≡ Some before) × (output ≡ clocked cell before.bit)
    × (next ≡ record now { states = slice_set now.states id (cleared before) })) → ClockedNext first next i output
clocked-next first now next i id output is same (cell, before, at_cell, at_state, emits, sets) =
    let cell_here = subst (λ k. slice_get k.cells i ≡ Some cell) is (subst (λ k. slice_get now.cells k ≡ Some cell) same at_cell) in
    let state_here = cell_state-at now.states first.states i before (ap (λ (k : PlainStates). k.states) is) (subst (λ k. slice_get now.states k ≡ Some before) same at_state) in
    record {
      pulses = clock-step first.cells first.states i cell before cell_here state_here
          ∙ ap (λ ws. ws ++ clock_pulses (drop (i + 1) first.cells) (drop (i + 1) first.states)) (sym emits);
      kept = sets ∙ rw (is, same) (ap (λ states. record first { states = states }) (cleared-set first.states i before state_here));
    }

-- where no states are left, no cell emits
pub pulses-none : (cells : List Cell) → clock_pulses cells [] ≡ []
pulses-none [] = refl
pulses-none (cell ∷ cells) = refl

pub queue-is : (queue : PlainQueue) (wires : List ℕ) (bound : ℕ) → queue.wires ≡ wires → queue.bound ≡ bound → queue ≡ record { wires = wires; bound = bound }
queue-is queue wires bound same below = rw (sym same, sym below) refl

-- the first so many bits set to 0
abbrev pub cleared_bits : ℕ → List Bool → List Bool
cleared_bits n [] = []
cleared_bits zero (x ∷ xs) = x ∷ xs
cleared_bits (suc n) (x ∷ xs) = false ∷ cleared_bits n xs

pub cleared_bits-none : (xs : List Bool) → cleared_bits 0 xs ≡ xs
cleared_bits-none [] = refl
cleared_bits-none (x ∷ xs) = refl

pub cleared_bits-length : (xs : List Bool) (n : ℕ) → length (cleared_bits n xs) ≡ length xs
cleared_bits-length [] n = refl
cleared_bits-length (x ∷ xs) zero = refl
cleared_bits-length (x ∷ xs) (suc n) = ap (λ k. suc k) (cleared_bits-length xs n)

pub cleared_bits-set : (xs : List Bool) (i : ℕ) → i < length xs → slice_set (cleared_bits i xs) i false ≡ cleared_bits (i + 1) xs
cleared_bits-set [] i lt = absurd (omega arith)
cleared_bits-set (y ∷ xs) zero lt =
    let one : 0 + 1 ≡ suc 0 = omega arith in
    subst (λ k. slice_set (y ∷ xs) 0 false ≡ cleared_bits k (y ∷ xs)) (sym one) (ap (λ bs. false ∷ bs) (sym (cleared_bits-none xs)))
cleared_bits-set (y ∷ xs) (suc i) lt =
    let next : suc (i + 1) ≡ suc i + 1 = omega arith in
    subst (λ k. false ∷ slice_set (cleared_bits i xs) i false ≡ cleared_bits k (y ∷ xs)) next (ap (λ bs. false ∷ bs) (cleared_bits-set xs i (omega arith)))

pub cleared_bits-all : (xs : List Bool) (n : ℕ) → n ≡ length xs → cleared_bits n xs ≡ replicate (length xs) false
cleared_bits-all [] n e = refl
cleared_bits-all (x ∷ xs) zero e = absurd (omega arith)
cleared_bits-all (x ∷ xs) (suc n) e = ap (λ bs. false ∷ bs) (cleared_bits-all xs n (omega arith))

-- counts by bits that are all 0
pub counts-zero : (n : ℕ) → counts_by (replicate n false) ≡ replicate n 0
counts-zero zero = refl
counts-zero (suc n) = ap (λ cs. 0 ∷ cs) (counts-zero n)

-- as many zeros as a list has items
pub zeros-of : {X : Type 0} (xs : List X) (n : ℕ) → n ≡ length xs → replicate {A = ℕ} n 0 ≡ map (λ x. 0) xs
zeros-of [] zero e = refl
zeros-of [] (suc n) e = absurd (omega arith)
zeros-of (x ∷ xs) zero e = absurd (omega arith)
zeros-of (x ∷ xs) (suc n) e = ap (λ zs. 0 ∷ zs) (zeros-of xs n (omega arith))
