-- What the opening of a phase puts on each wire, and what holds then.
use Rattle.std.proofs.Common.{◌≡◌, ℕ, ◌+◌, ◌≤◌, Option, List, [], ◌∷◌, ◌++◌, map, Bool, true, false, ◌&&◌, ◌||◌, if◌then◌else◌, refl, ◌∙◌, ap, arith}
use Rattle.pulse_ids.specs.Ids.{WireId}
use Rattle.cell_netlist.specs.declared.kinds.Phase.{Phase}
use Rattle.cell_netlist.specs.declared.kinds.Phase.TheVariants.{Excite, Relax}
use Rattle.cell_netlist.specs.declared.kinds.Role.TheVariants.{Front, Back, Const}
use Rattle.cell_netlist.specs.declared.lines.Rail.{Rail}
use Rattle.cell_netlist.specs.declared.lines.Cell.{Cell}
use Rattle.cell_netlist.specs.declared.lines.Cell.TheVariants.{La, Fa, Split, Droc}
use Rattle.pulse_ids.specs.Lists.{IsIn, occurrences, bit_at}
use Rattle.cell_netlist.specs.Netlists.{PlainNetlist, wire_of, driven, outs, used}
use Rattle.cell_netlist.specs.declared.kinds.CellState.{CellState}
use Rattle.cell_netlist.specs.World.{State, IsSettled, rail_pulses, clocked, clock_pulses, cleared, opening_pulses, opened, has_sign, pulses_in}
use Rattle.cell_netlist.specs.RailEquations.{LatchState}
use Rattle.cell_netlist.specs.Sound.{IsSound}
use Rattle.pulse_ids.proofs.CallerLemmasOnCounts.{occurrences-append, one_if}
use Rattle.cell_netlist.proofs.CallerLemmasOnSums.{sum_over, sum_over-less, sum_over-same, sum_over-sum, sum_over-zero, map-on, some}
use Rattle.cell_netlist.proofs.CallerLemmasOnDrivers.{driven-sums, at_cell, at_cell-rails, at_rail, at_rail-cells}
use Rattle.pulse_world.specs.DuePulses.{resting}
use Rattle.pulse_world.proofs.RunMoments.{rail_given, rail_given-less, rail_given-is, occurrences-rail_pulses}
use Rattle.pulse_world.proofs.CellSteps.{keeps, made, keeps-same, made-same}
use Rattle.pulse_world.proofs.PulseBalance.{was_taken, now_taken, total, Room, Holds}

-- what an opening puts on a wire
abbrev pub opening_put : PlainNetlist → Phase → List Bool → (Cell → CellState) → ℕ → ℕ
opening_put net phase vector cell_state wire =
    sum_over (λ rail. occurrences wire (rail_given phase vector rail)) net.input_rails
    + sum_over (λ cell. occurrences wire (clocked cell (cell_state cell).bit)) net.cells

clock_pulses-sum : (cell_state : Cell → CellState) (wire : ℕ) (cells : List Cell)
    → occurrences wire (clock_pulses cells (map cell_state cells)) ≡ sum_over (λ cell. occurrences wire (clocked cell (cell_state cell).bit)) cells
clock_pulses-sum cell_state wire [] = refl
clock_pulses-sum cell_state wire (cell ∷ cells) =
    let a = occurrences-append wire (clocked cell (cell_state cell).bit) (clock_pulses cells (map cell_state cells)) in
    let r = clock_pulses-sum cell_state wire cells in omega arith

pub opening-is : (net : PlainNetlist) (phase : Phase) (vector : List Bool) (cell_state : Cell → CellState) (state : State) → state.cell_states ≡ map cell_state net.cells
    → (wire : ℕ) → occurrences wire (opening_pulses net phase vector state) ≡ opening_put net phase vector cell_state wire
opening-is net phase vector cell_state state e wire =
    let a = occurrences-append wire (rail_pulses phase vector net.input_rails) (clock_pulses net.cells state.cell_states) in
    let b = occurrences-rail_pulses phase vector wire net.input_rails in
    let c = ap (λ cell_states. occurrences wire (clock_pulses net.cells cell_states)) e in
    let d = clock_pulses-sum cell_state wire net.cells in omega arith

-- a cell emits at most once on each output, by the clock or by pulses
used-less : (test : Bool) (q n : Option WireId) (wire : ℕ) → occurrences wire (used (if test then q else n)) ≤ occurrences wire (used q ++ used n)
used-less true q n wire = let a = occurrences-append wire (used q) (used n) in omega arith
used-less false q n wire = let a = occurrences-append wire (used q) (used n) in omega arith

pub if-less : (test : Bool) (wires : List ℕ) (wire : ℕ) → occurrences wire (if test then wires else []) ≤ occurrences wire wires
if-less true wires wire = omega arith
if-less false wires wire = omega arith

pub made-less : (was : ℕ → Bool) (cell : Cell) (wire : ℕ) → occurrences wire (made was cell) ≤ occurrences wire (outs cell)
made-less was (La a b out) wire = if-less (was a.number && was b.number) (out.number ∷ []) wire
made-less was (Fa a b out) wire = if-less (was a.number || was b.number) (out.number ∷ []) wire
made-less was (Split from left right) wire = if-less (was from.number) (left.number ∷ right.number ∷ []) wire
made-less was (Droc role preload feed q n) wire = omega arith

pub clocked-less : (bit : Bool) (cell : Cell) (wire : ℕ) → occurrences wire (clocked cell bit) ≤ occurrences wire (outs cell)
clocked-less bit (La a b out) wire = omega arith
clocked-less bit (Fa a b out) wire = omega arith
clocked-less bit (Split from left right) wire = omega arith
clocked-less bit (Droc role preload feed q n) wire = used-less bit q n wire

emits-less : (bit : Bool) (was : ℕ → Bool) (cell : Cell) (wire : ℕ) → occurrences wire (clocked cell bit) + occurrences wire (made was cell) ≤ occurrences wire (outs cell)
emits-less bit was (La a b out) wire = let l = made-less was (La a b out) wire in omega arith
emits-less bit was (Fa a b out) wire = let l = made-less was (Fa a b out) wire in omega arith
emits-less bit was (Split from left right) wire = let l = made-less was (Split from left right) wire in omega arith
emits-less bit was (Droc role preload feed q n) wire = let l = used-less bit q n wire in omega arith

-- the pulses of one opening, and those that come of them, are at most one a driver
pub opening-room : (net : PlainNetlist) → IsSound net → (phase : Phase) (vector : List Bool) (cell_state : Cell → CellState) (was : ℕ → Bool) (wire : ℕ)
    → total net (opening_put net phase vector cell_state) was wire ≤ occurrences wire (driven net)
opening-room net sound phase vector cell_state was wire =
    let d = driven-sums net sound wire in
    let r = sum_over-less (λ rail. occurrences wire (rail_given phase vector rail)) (λ rail. occurrences wire (wire_of rail ∷ [])) net.input_rails (λ rail i. rail_given-less phase vector wire rail) in
    let c = sum_over-less (λ cell. occurrences wire (clocked cell (cell_state cell).bit) + occurrences wire (made was cell))
    (λ cell. occurrences wire (outs cell)) net.cells (λ cell i. emits-less (cell_state cell).bit was cell wire) in
    let s = sum_over-sum (λ cell. occurrences wire (clocked cell (cell_state cell).bit)) (λ cell. occurrences wire (made was cell)) net.cells in
    omega arith

pub excite-room : (net : PlainNetlist) → IsSound net → (vector : List Bool) (cell_state : Cell → CellState) → Room net (opening_put net Excite vector cell_state) (λ w. 0)
excite-room net sound vector cell_state = record {
  any = λ was wire. let o = opening-room net sound Excite vector cell_state was wire in omega arith;
  plain = λ was wire p. opening-room net sound Excite vector cell_state was wire;
}

-- What the first phase puts.

map-map : {X Y Z : Type 0} (f : Y → Z) (g : X → Y) (xs : List X) → map f (map g xs) ≡ map (λ x. f (g x)) xs
map-map f g [] = refl
map-map f g (x ∷ xs) = let r = map-map f g xs in cc

nothing-made : (was : ℕ → Bool) → ((w : ℕ) → was w ≡ false) → (wire : ℕ) (cell : Cell) → occurrences wire (made was cell) ≡ 0
nothing-made was e wire cell = ap (occurrences wire) (made-same was (λ w. false) e cell) ∙ go cell
  where
    go : (cell : Cell) → occurrences wire (made (λ w. false) cell) ≡ 0
    go (La a b out) = refl
    go (Fa a b out) = refl
    go (Split from left right) = refl
    go (Droc role preload feed q n) = refl

cleared-resting : (state : LatchState) (cell : Cell) → cleared (resting state cell) ≡ keeps (was_taken (λ w. 0) []) (now_taken []) cell
cleared-resting state (La a b out) = refl
cleared-resting state (Fa a b out) = refl
cleared-resting state (Split from left right) = refl
cleared-resting state (Droc Front preload feed q n) = refl
cleared-resting state (Droc Back preload feed q n) = refl
cleared-resting state (Droc Const preload feed q n) = refl

-- what holds after the opening of excite
pub excite-opens : (net : PlainNetlist) (latches : LatchState) (vector : List Bool) (before after : State) → before.cell_states ≡ map (resting latches) net.cells
    → after ≡ opened net Excite vector before → Holds net (opening_put net Excite vector (resting latches)) (λ w. 0) after []
excite-opens net latches vector before after e is = record { cell_states = cell_states; waits = waits }
  where
    cell_states : after.cell_states ≡ map (keeps (was_taken (λ w. 0) []) (now_taken [])) net.cells
    cell_states =
        ap (λ (s : State). s.cell_states) is
        ∙ (ap (map cleared) e ∙ (map-map cleared (resting latches) net.cells
        ∙ map-on (λ cell. cleared (resting latches cell)) (keeps (was_taken (λ w. 0) []) (now_taken [])) net.cells (λ cell i. cleared-resting latches cell)))

    waits : (wire : ℕ) → after.pending wire + (0 + occurrences wire []) ≡ total net (opening_put net Excite vector (resting latches)) (was_taken (λ w. 0) []) wire
    waits wire =
        let p = ap (λ (s : State). s.pending wire) is in
        let o = opening-is net Excite vector (resting latches) before e wire in
        let z : sum_over (λ cell. occurrences wire (made (was_taken (λ w. 0) []) cell)) net.cells ≡ 0 = sum_over-same
        (λ cell. occurrences wire (made (was_taken (λ w. 0) []) cell)) (λ cell. 0) net.cells
        (λ cell i. nothing-made (was_taken (λ w. 0) []) (λ w. refl) wire cell) ∙ sum_over-zero net.cells in
        omega arith

-- What the second phase puts.

cleared-keeps : (was also now : ℕ → Bool) → ((w : ℕ) → was w ≡ also w) → (cell : Cell) → cleared (keeps was now cell) ≡ keeps also (now_taken []) cell
cleared-keeps was also now e (La a b out) = let x = e a.number in let y = e b.number in cc
cleared-keeps was also now e (Fa a b out) = let x = e a.number in let y = e b.number in cc
cleared-keeps was also now e (Split from left right) = refl
cleared-keeps was also now e (Droc role preload feed q n) = refl

-- what both phases put
abbrev pub cycle_put : PlainNetlist → LatchState → List Bool → List ℕ → ℕ → ℕ
cycle_put net latches vector excited wire =
    opening_put net Excite vector (resting latches) wire + opening_put net Relax vector (keeps (now_taken excited) (now_taken excited)) wire

-- at the end of excite each wire was taken as often as it got a pulse
abbrev pub IsExcited : PlainNetlist → LatchState → List Bool → List ℕ → Type 0
IsExcited net latches vector excited =
    (wire : ℕ) → occurrences wire excited ≡ total net (opening_put net Excite vector (resting latches)) (now_taken excited) wire

was-now : (taken : List ℕ) (w : ℕ) → was_taken (λ w. 0) taken w ≡ now_taken taken w
was-now taken w = let e : 0 + occurrences w taken ≡ occurrences w taken = omega arith in ap some e

pub excite-settles : (net : PlainNetlist) (latches : LatchState) (vector : List Bool) (state : State) (excited : List ℕ)
    → Holds net (opening_put net Excite vector (resting latches)) (λ w. 0) state excited → IsSettled state → IsExcited net latches vector excited
excite-settles net latches vector state excited holds settled wire =
    let w = holds.waits wire in
    let s = settled wire in
    let m : sum_over (λ cell. occurrences wire (made (was_taken (λ w. 0) excited) cell)) net.cells ≡ sum_over
    (λ cell. occurrences wire (made (now_taken excited) cell)) net.cells = sum_over-same
    (λ cell. occurrences wire (made (was_taken (λ w. 0) excited) cell)) (λ cell. occurrences wire (made (now_taken excited) cell)) net.cells
    (λ cell i. ap (occurrences wire) (made-same (was_taken (λ w. 0) excited) (now_taken excited) (was-now excited) cell)) in
    omega arith

-- what holds after the opening of relax
pub relax-opens : (net : PlainNetlist) (latches : LatchState) (vector : List Bool) (before after : State) (excited : List ℕ)
    → Holds net (opening_put net Excite vector (resting latches)) (λ w. 0) before excited → IsSettled before
    → after ≡ opened net Relax vector before → Holds net (cycle_put net latches vector excited) (λ w. occurrences w excited) after []
relax-opens net latches vector before after excited holds settled is = record { cell_states = cell_states; waits = waits }
  where
    now : ℕ → Bool
    now = now_taken excited

    cell_state : before.cell_states ≡ map (keeps (now_taken excited) (now_taken excited)) net.cells
    cell_state = holds.cell_states ∙ map-on (keeps (was_taken (λ w. 0) excited) (now_taken excited)) (keeps (now_taken excited) (now_taken excited)) net.cells (λ cell i.
        keeps-same (was_taken (λ w. 0) excited) (now_taken excited) (now_taken excited) (now_taken excited) (was-now excited) (λ w. refl) cell)

    was-still : (w : ℕ) → now_taken excited w ≡ was_taken (λ w. occurrences w excited) [] w
    was-still w = let e : occurrences w excited ≡ occurrences w excited + occurrences w [] = omega arith in ap some e

    cell_states : after.cell_states ≡ map (keeps (was_taken (λ w. occurrences w excited) []) (now_taken [])) net.cells
    cell_states =
        ap (λ (s : State). s.cell_states) is
        ∙ (ap (map cleared) cell_state ∙ (map-map cleared (keeps (now_taken excited) (now_taken excited)) net.cells
        ∙ map-on (λ cell. cleared (keeps (now_taken excited) (now_taken excited) cell)) (keeps (was_taken (λ w. occurrences w excited) []) (now_taken [])) net.cells (λ cell i.
        cleared-keeps (now_taken excited) (was_taken (λ w. occurrences w excited) []) (now_taken excited) was-still cell)))

    waits : (wire : ℕ) → after.pending wire + (occurrences wire excited + occurrences wire []) ≡ total net (cycle_put net latches vector excited) (was_taken (λ w. occurrences w excited) []) wire
    waits wire =
        let p = ap (λ (s : State). s.pending wire) is in
        let o = opening-is net Relax vector (keeps (now_taken excited) (now_taken excited)) before cell_state wire in
        let x = excite-settles net latches vector before excited holds settled wire in
        let m : sum_over (λ cell. occurrences wire (made (now_taken excited) cell)) net.cells ≡ sum_over
        (λ cell. occurrences wire (made (was_taken (λ w. occurrences w excited) []) cell)) net.cells = sum_over-same
        (λ cell. occurrences wire (made (now_taken excited) cell))
        (λ cell. occurrences wire (made (was_taken (λ w. occurrences w excited) []) cell)) net.cells
        (λ cell i. ap (occurrences wire) (made-same (now_taken excited) (was_taken (λ w. occurrences w excited) []) was-still cell)) in
        omega arith

-- What an opening puts at the wire of one driver.

module _ (net : PlainNetlist) (sound : IsSound net) (phase : Phase) (vector : List Bool) (cell_state : Cell → CellState) where
  pub opening-at_rail : (rail : Rail) → IsIn rail net.input_rails
      → opening_put net phase vector cell_state (wire_of rail) ≡ one_if (pulses_in phase (has_sign (bit_at vector rail.port) rail.sign))
  opening-at_rail rail i =
      let w = wire_of rail in
      let r = at_rail net sound rail (λ other. occurrences w (rail_given phase vector other)) i (rail_given-less phase vector w) in
      let c = at_rail-cells net sound rail (λ cell. occurrences w (clocked cell (cell_state cell).bit)) i (λ cell j. clocked-less (cell_state cell).bit cell w) in
      let g = rail_given-is phase vector rail in omega arith

  pub opening-at_cell : (wire : ℕ) (cell : Cell) → IsIn cell net.cells → IsIn wire (outs cell)
      → opening_put net phase vector cell_state wire ≡ occurrences wire (clocked cell (cell_state cell).bit)
  opening-at_cell wire cell i j =
      let r = at_cell-rails net sound wire cell (λ rail. occurrences wire (rail_given phase vector rail)) i j (rail_given-less phase vector wire) in
      let c = at_cell net sound wire cell (λ cell. occurrences wire (clocked cell (cell_state cell).bit)) i j (λ cell k. clocked-less (cell_state cell).bit cell wire) in
      omega arith

pub made-at_rail : (net : PlainNetlist) → IsSound net → (was : ℕ → Bool) (rail : Rail) → IsIn rail net.input_rails
    → sum_over (λ cell. occurrences (wire_of rail) (made was cell)) net.cells ≡ 0
made-at_rail net sound was rail i =
    at_rail-cells net sound rail (λ cell. occurrences (wire_of rail) (made was cell)) i (λ cell j. made-less was cell (wire_of rail))

pub made-at_cell : (net : PlainNetlist) → IsSound net → (was : ℕ → Bool) (wire : ℕ) (cell : Cell) → IsIn cell net.cells → IsIn wire (outs cell)
    → sum_over (λ cell. occurrences wire (made was cell)) net.cells ≡ occurrences wire (made was cell)
made-at_cell net sound was wire cell i j =
    at_cell net sound wire cell (λ cell. occurrences wire (made was cell)) i j (λ cell k. made-less was cell wire)
