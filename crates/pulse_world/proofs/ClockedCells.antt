-- The DROCs among the cells: what a list of them says of the cells between.
use Rattle.std.proofs.Common.{◌≡◌, ◌∙◌, ◌+◌, ◌≤◌, ℕ, zero, suc, Bool, true, false, Some, List, [], ◌∷◌, ◌++◌, map, length, drop, slice_get, slice_set, get_or, append-nil, ap, sym, subst, refl, inl, inr, arith}
use Rattle.std.proofs.lemmas.Bool.{cases_Bool}
use Rattle.std.proofs.lemmas.List.{append_assoc, map-append, length-drop, drop_all}
use Rattle.std.proofs.lemmas.Option.{slice_get_within, slice_get-get_or}
use Rattle.pulse_ids.specs.Ids.{CellId}
use Rattle.cell_netlist.specs.declared.kinds.Held.TheVariants.{Rest}
use Rattle.cell_netlist.specs.declared.kinds.CellState.{CellState}
use Rattle.cell_netlist.specs.declared.lines.Cell.{Cell}
use Rattle.cell_netlist.specs.declared.lines.Cell.TheVariants.{La, Fa, Split, Droc}
use Rattle.cell_netlist.specs.World.{cleared, clocked, clock_pulses}
use Rattle.cell_netlist.proofs.CallerLemmasOnLists.{drop-at}
use Rattle.pulse_world.specs.PackedStates.{PlainStates, IsStateOf, AreStatesOf, is_droc, IsDrocAt, drocs_from, numbers_in}
use Rattle.pulse_world.specs.PendingQueues.{PlainQueue, HasRoomFor}
use Rattle.pulse_world.proofs.StateBits.{clear-stays}
use Rattle.pulse_world.proofs.QueueRoom.{cleared_to, cleared-get, cleared-set, cleared-none, cleared-all, clock-step, ClockedNext, clocked-next, pulses-none, queue-is, queue-step, room-split}

-- one more cell of a list of DROCs that is being built
pub droc-found : (cells : List Cell) (i : ℕ) (cell : Cell) → slice_get cells i ≡ Some cell → is_droc cell ≡ true
    → drocs_from i (drop i cells) ≡ i ∷ drocs_from (i + 1) (drop (i + 1) cells)
droc-found cells i cell at droc = ap (drocs_from i) (drop-at cells i cell at) ∙ rw droc refl

pub droc-passed : (cells : List Cell) (i : ℕ) (cell : Cell) → slice_get cells i ≡ Some cell → is_droc cell ≡ false
    → drocs_from i (drop i cells) ≡ drocs_from (i + 1) (drop (i + 1) cells)
droc-passed cells i cell at plain = ap (drocs_from i) (drop-at cells i cell at) ∙ rw plain refl

pub numbers-last : (ids : List CellId) (id : CellId) (i : ℕ) (rest whole : List ℕ) → id.number ≡ i → numbers_in ids ++ i ∷ rest ≡ whole
    → numbers_in (ids ++ id ∷ []) ++ rest ≡ whole
numbers-last ids id i rest whole same e =
    ap (λ ns. ns ++ rest) (map-append (λ (id : CellId). id.number) ids (id ∷ []))
    ∙ (append_assoc (numbers_in ids) (id.number ∷ []) rest ∙ (ap (λ n. numbers_in ids ++ n ∷ rest) same ∙ e))

-- a cell that is no DROC emits nothing at the phase clock, and its bit is 0
plain-silent : (cell : Cell) (bit : Bool) → is_droc cell ≡ false → clocked cell bit ≡ []
plain-silent (La a b out) bit plain = refl
plain-silent (Fa a b out) bit plain = refl
plain-silent (Split from left right) bit plain = refl
plain-silent (Droc role preload feed q n) bit plain = absurd cc

plain-clear : (cell : Cell) (state : CellState) → IsStateOf cell state → is_droc cell ≡ false → state.bit ≡ false
plain-clear (La a b out) state fits plain = fits
plain-clear (Fa a b out) state fits plain = fits
plain-clear (Split from left right) state fits plain = fits.1
plain-clear (Droc role preload feed q n) state fits plain = absurd cc

-- what stands at the head of a list's rest, and the rest behind it
at-drop : {X : Type 0} (xs : List X) (i : ℕ) (x : X) (ys : List X) → drop i xs ≡ x ∷ ys → slice_get xs i ≡ Some x
at-drop [] zero x ys e = absurd cc
at-drop [] (suc i) x ys e = absurd cc
at-drop (y ∷ xs) zero x ys e = cc
at-drop (y ∷ xs) (suc i) x ys e = at-drop xs i x ys e

drop-behind : {X : Type 0} (xs : List X) (i : ℕ) (x : X) (ys : List X) → drop i xs ≡ x ∷ ys → drop (i + 1) xs ≡ ys
drop-behind xs i x ys e = let all = drop-at xs i x (at-drop xs i x ys e) in cc

module _ (kept : PlainStates) (fit : AreStatesOf kept) where
  -- between two places no cell does anything at the phase clock
  pub record Passed (from to : ℕ) : Type 0 where
    pub pulses : clock_pulses (drop from kept.cells) (drop from kept.states) ≡ clock_pulses (drop to kept.cells) (drop to kept.states)
    pub clear : cleared_to from kept.states ≡ cleared_to to kept.states

  pass-none : (i : ℕ) → Passed i i
  pass-none i = record { pulses = refl; clear = refl }

  pass-one : (i : ℕ) (cell : Cell) → slice_get kept.cells i ≡ Some cell → is_droc cell ≡ false → Passed i (i + 1)
  pass-one i cell at plain =
      let state = get_or kept.states i (record { held = Rest; bit = false }) in
      let inside = slice_get_within kept.cells i cell at in
      let long = fit.one_each in
      let there = slice_get-get_or kept.states i (record { held = Rest; bit = false }) (omega arith) in
      let is_clear = plain-clear cell state (fit.fits i cell state at there) plain in record {
        pulses = clock-step kept.cells kept.states i cell state at there
            ∙ ap (λ ws. ws ++ clock_pulses (drop (i + 1) kept.cells) (drop (i + 1) kept.states)) (plain-silent cell state.bit plain);
        clear = sym (clear-stays (cleared_to i kept.states) i state (cleared-get kept.states i ∙ there) is_clear) ∙ cleared-set kept.states i state there;
      }

  pass-more : (i j k : ℕ) → Passed i j → Passed j k → Passed i k
  pass-more i j k one more = record { pulses = one.pulses ∙ more.pulses; clear = one.clear ∙ more.clear }

  -- the next DROC behind a place
  pub record NextDroc (from id : ℕ) (ids : List ℕ) : Type 0 where
    pub passed : Passed from id
    pub droc : IsDrocAt kept id
    pub rest : ids ≡ drocs_from (id + 1) (drop (id + 1) kept.cells)

  pub next-droc : (cells : List Cell) (i : ℕ) → drop i kept.cells ≡ cells → (id : ℕ) (ids : List ℕ) → drocs_from i cells ≡ id ∷ ids → NextDroc i id ids
  next-droc [] i e id ids f = absurd cc
  next-droc (cell ∷ cells) i e id ids f = elim (cases_Bool (is_droc cell)) [
    | inl droc ↦
        let found : i ∷ drocs_from (i + 1) cells ≡ id ∷ ids = rw droc at f in
        let same : i ≡ id = cc in
        let others : drocs_from (i + 1) cells ≡ ids = cc in
        let at = at-drop kept.cells i cell cells e in
        subst (λ k. NextDroc i k ids) same (record {
          passed = pass-none i;
          droc = (cell, at, droc);
          rest = sym others ∙ ap (drocs_from (i + 1)) (sym (drop-behind kept.cells i cell cells e));
        })
    | inr plain ↦
        let later : drocs_from (i + 1) cells ≡ id ∷ ids = rw plain at f in
        let at = at-drop kept.cells i cell cells e in
        let next = next-droc cells (i + 1) (drop-behind kept.cells i cell cells e) id ids later in
        record { passed = pass-more i (i + 1) id (pass-one i cell at plain) next.passed; droc = next.droc; rest = next.rest }
  ]

  -- behind the last one
  pub last-droc : (cells : List Cell) (i : ℕ) → drop i kept.cells ≡ cells → drocs_from i cells ≡ [] → Passed i (i + length cells)
  last-droc [] i e f = let same : i ≡ i + 0 = omega arith in subst (Passed i) same (pass-none i)
  last-droc (cell ∷ cells) i e f = elim (cases_Bool (is_droc cell)) [
    | inl droc ↦ let found : i ∷ drocs_from (i + 1) cells ≡ [] = rw droc at f in absurd cc
    | inr plain ↦
        let later : drocs_from (i + 1) cells ≡ [] = rw plain at f in
        let at = at-drop kept.cells i cell cells e in
        let next = last-droc cells (i + 1) (drop-behind kept.cells i cell cells e) later in
        let same : i + 1 + length cells ≡ i + suc (length cells) = omega arith in
        subst (Passed i) same (pass-more i (i + 1) (i + 1 + length cells) (pass-one i cell at plain) next)
  ]

-- how far the phase clock has come: all DROCs before a place in their list are read, and the cells below a number cleared
pub record ClockedTo (first now : PlainStates) (before queue : PlainQueue) (place at : ℕ) : Type 0 where
  pub left : drop place (drocs_from 0 first.cells) ≡ drocs_from at (drop at first.cells)
  pub inside : at ≤ length first.cells
  pub room : HasRoomFor queue (clock_pulses (drop at first.cells) (drop at first.states))
  pub bound : queue.bound ≡ before.bound
  pub wires : queue.wires ++ clock_pulses (drop at first.cells) (drop at first.states) ≡ before.wires ++ clock_pulses first.cells first.states
  pub kept : now ≡ record first { states = cleared_to at first.states }

pub clocked-none : (first : PlainStates) (queue : PlainQueue) → HasRoomFor queue (clock_pulses first.cells first.states) → ClockedTo first first queue queue 0 0
clocked-none first queue room = record {
  left = refl;
  inside = omega arith;
  room = room;
  bound = refl;
  wires = refl;
  kept = ap (λ states. record first { states = states }) (sym (cleared-none first.states));
}

module _ (first now : PlainStates) (before queue : PlainQueue) (place at : ℕ) (fit : AreStatesOf first) (to : ClockedTo first now before queue place at) where
  module _ (id : ℕ) (here : slice_get (drocs_from 0 now.cells) place ≡ Some id) where
    abbrev next : NextDroc first fit at id (drop (place + 1) (drocs_from 0 first.cells))
    next =
        let same = ap (λ (k : PlainStates). k.cells) to.kept in
        let there = subst (λ cells. slice_get (drocs_from 0 cells) place ≡ Some id) same here in
        next-droc first fit (drop at first.cells) at refl id _ (sym to.left ∙ drop-at (drocs_from 0 first.cells) place id there)

    -- the next in the list is a DROC
    pub clocked-droc : IsDrocAt now id
    clocked-droc = subst (λ cells. (cell : Cell) × (slice_get cells id ≡ Some cell) × (is_droc cell ≡ true)) (sym (ap (λ (k : PlainStates). k.cells) to.kept)) next.droc

    module _ (after : PlainStates) (output : List ℕ)
        (did : (cell : Cell) × (was : CellState) × (slice_get now.cells id ≡ Some cell) × (slice_get now.states id ≡ Some was) × (output ≡ clocked cell was.bit)
        × (after ≡ record now { states = slice_set now.states id (cleared was) })) where
      step : ClockedNext first after id output
      step = clocked-next first now after id id output (to.kept ∙ ap (λ states. record first { states = states }) next.passed.clear) refl did

      abbrev rest : List ℕ
      rest = clock_pulses (drop (id + 1) first.cells) (drop (id + 1) first.states)

      all-are : clock_pulses (drop at first.cells) (drop at first.states) ≡ output ++ rest
      all-are = next.passed.pulses ∙ step.pulses

      parts : HasRoomFor queue output × HasRoomFor (record queue { wires = queue.wires ++ output }) rest
      parts = room-split queue output rest (subst (HasRoomFor queue) all-are to.room)

      -- there is room for what it emits
      pub clocked-room : HasRoomFor queue output
      clocked-room = parts.0

      -- and then the clock has come past it
      pub clocked-more : (queue_then : PlainQueue) → queue_then ≡ record queue { wires = queue.wires ++ output } → ClockedTo first after before queue_then (place + 1) (id + 1)
      clocked-more queue_then e = record {
        left = next.rest;
        inside = let within = slice_get_within first.cells id next.droc.0 next.droc.1 in omega arith;
        room = subst (λ q. HasRoomFor q rest) (sym e) parts.1;
        bound = ap (λ (q : PlainQueue). q.bound) e ∙ to.bound;
        wires = ap (λ (q : PlainQueue). q.wires ++ rest) e ∙ (queue-step queue output rest _ all-are ∙ to.wires);
        kept = step.kept;
      }

  module _ (past : length (drocs_from 0 first.cells) ≤ place) where
    behind : Passed first fit at (at + length (drop at first.cells))
    behind = last-droc first fit (drop at first.cells) at refl (sym to.left ∙ drop_all place (drocs_from 0 first.cells) past)

    end : at + length (drop at first.cells) ≡ length first.states
    end = let long = fit.one_each in let inside = to.inside in omega (arith, length-drop at first.cells)

    -- behind the last one all states are cleared, and all pulses are in the queue
    pub clocked-states : now ≡ record first { states = map cleared first.states }
    clocked-states = to.kept ∙ ap (λ states. record first { states = states }) (behind.clear ∙ cleared-all first.states _ end)

    pub clocked-wires : queue ≡ record before { wires = before.wires ++ clock_pulses first.cells first.states }
    clocked-wires =
        let none : clock_pulses (drop at first.cells) (drop at first.states) ≡ [] =
        behind.pulses ∙ (ap (clock_pulses (drop (at + length (drop at first.cells)) first.cells)) (drop_all (at + length (drop at first.cells)) first.states (omega (arith, end))) ∙ pulses-none _) in
        queue-is queue _ before.bound (sym (append-nil queue.wires) ∙ (ap (λ ws. queue.wires ++ ws) (sym none) ∙ to.wires)) to.bound
