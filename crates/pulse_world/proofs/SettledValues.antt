-- Where a phase is settled, each plain wire was taken in the phase of its bit, and each link as its back needs.
use Rattle.std.proofs.Common.{◌≡◌, ℕ, ◌+◌, ◌≤◌, ◌⊎◌, inl, inr, Option, Some, None, List, [], ◌∷◌, ◌++◌, Bool, true, false, not, ◌&&◌, ◌||◌, if◌then◌else◌, refl, sym, ◌∙◌, ap, subst, arith}
use Rattle.pulse_ids.specs.Ids.{WireId}
use Rattle.cell_netlist.specs.declared.kinds.Phase.TheVariants.{Excite, Relax}
use Rattle.cell_netlist.specs.declared.kinds.Role.TheVariants.{Front, Back, Const}
use Rattle.cell_netlist.specs.declared.lines.Rail.{Rail}
use Rattle.cell_netlist.specs.declared.lines.Cell.{Cell}
use Rattle.cell_netlist.specs.declared.lines.Cell.TheVariants.{La, Fa, Split, Droc}
use Rattle.pulse_ids.specs.Lists.{IsIn, occurrences, bit_at}
use Rattle.cell_netlist.specs.Netlists.{PlainNetlist, wire_of, outs, reads, used, IsDroc, Grounded, of_rail, of_droc, of_gate}
use Rattle.cell_netlist.specs.World.{State, IsSettled, clocked, has_sign, pulses_in}
use Rattle.cell_netlist.specs.RailEquations.{LatchState, IsRails, CellEquation, CarriesIfUsed}
use Rattle.cell_netlist.specs.Sound.{IsSound}
use Rattle.pulse_ids.proofs.CallerLemmasOnCounts.{occurrences-append, IsIn-occurrences, one_if}
use Rattle.pulse_ids.proofs.CallerLemmas.{IsIn-append}
use Rattle.cell_netlist.proofs.CallerLemmasOnLinks.{IsFrontOn, IsPlain, front-outs, read-plain, not-front}
use Rattle.cell_netlist.proofs.CallerLemmasOnDrivers.{outs-once, is-droc}
use Rattle.cell_netlist.proofs.CallerLemmasOnSums.{some, some-is}
use Rattle.pulse_world.specs.DuePulses.{resting}
use Rattle.pulse_world.proofs.CellSteps.{keeps, made}
use Rattle.pulse_world.proofs.PulseBalance.{was_taken, now_taken, total, Holds}
use Rattle.pulse_world.proofs.OpeningPulses.{opening_put, cycle_put, IsExcited, opening-at_rail, opening-at_cell, made-at_rail, made-at_cell}
use Rattle.pulse_world.proofs.SettledDrocs.{both-outputs, flips, front-value, front-made}

-- the equation of a gate or splitter
abbrev GateEquation : (ℕ → Bool) → Cell → Type 0
GateEquation bit (La a b out) = bit out.number ≡ (bit a.number && bit b.number)
GateEquation bit (Fa a b out) = bit out.number ≡ (bit a.number || bit b.number)
GateEquation bit (Split from left right) = (bit left.number ≡ bit from.number) × (bit right.number ≡ bit from.number)
GateEquation bit (Droc role preload feed q n) = Unit

if-once : (test : Bool) (wires : List ℕ) (wire : ℕ) → occurrences wire wires ≡ 1 → occurrences wire (if test then wires else []) ≡ one_if test
if-once true wires wire e = e
if-once false wires wire e = refl

-- what a gate or splitter has emitted, where its ports were taken by their bits
made-value : (bit was : ℕ → Bool) (cell : Cell) (wire : ℕ) → (IsDroc cell → ⊥) → GateEquation bit cell → IsIn wire (outs cell) → occurrences wire (outs cell) ≡ 1
    → ((port : ℕ) → IsIn port (reads cell) → was port ≡ bit port) → occurrences wire (made was cell) ≡ one_if (bit wire)
made-value bit was (La a b out) wire gate equation i once ports = go i
  where
    go : (out.number ≡ wire) ⊎ ⊥ → occurrences wire (made was (La a b out)) ≡ one_if (bit wire)
    go (inl e) =
        let x = ports a.number (inl refl) in
        let y = ports b.number (inr (inl refl)) in
        let z : (was a.number && was b.number) ≡ bit wire = let f = ap bit e in cc in
        if-once (was a.number && was b.number) (out.number ∷ []) wire once ∙ ap one_if z
    go (inr h) = absurd h
made-value bit was (Fa a b out) wire gate equation i once ports = go i
  where
    go : (out.number ≡ wire) ⊎ ⊥ → occurrences wire (made was (Fa a b out)) ≡ one_if (bit wire)
    go (inl e) =
        let x = ports a.number (inl refl) in
        let y = ports b.number (inr (inl refl)) in
        let z : (was a.number || was b.number) ≡ bit wire = let f = ap bit e in cc in
        if-once (was a.number || was b.number) (out.number ∷ []) wire once ∙ ap one_if z
    go (inr h) = absurd h
made-value bit was (Split from left right) wire gate equation i once ports = if-once (was from.number) (left.number ∷ right.number ∷ []) wire once ∙ ap one_if (go i)
  where
    go : (left.number ≡ wire) ⊎ ((right.number ≡ wire) ⊎ ⊥) → was from.number ≡ bit wire
    go (inl e) = let x = ports from.number (inl refl) in let f = ap bit e in let g = equation.0 in cc
    go (inr (inl e)) = let x = ports from.number (inl refl) in let f = ap bit e in let g = equation.1 in cc
    go (inr (inr h)) = absurd h
made-value bit was (Droc role preload feed q n) wire gate equation i once ports = absurd (gate tt)

droc-made : (was : ℕ → Bool) (cell : Cell) (wire : ℕ) → IsDroc cell → occurrences wire (made was cell) ≡ 0
droc-made was (La a b out) wire h = absurd h
droc-made was (Fa a b out) wire h = absurd h
droc-made was (Split from left right) wire h = absurd h
droc-made was (Droc role preload feed q n) wire h = refl

gate-clocked : (bit : Bool) (cell : Cell) (wire : ℕ) → (IsDroc cell → ⊥) → occurrences wire (clocked cell bit) ≡ 0
gate-clocked bit (La a b out) wire h = refl
gate-clocked bit (Fa a b out) wire h = refl
gate-clocked bit (Split from left right) wire h = refl
gate-clocked bit (Droc role preload feed q n) wire h = absurd (h tt)

-- For any bits that meet the gates' equations, and that the openings meet at rails and DROCs, a settled plain wire
-- was taken by its bit.
module _ (net : PlainNetlist) (sound : IsSound net) (put taken : ℕ → ℕ)
    (settles : (wire : ℕ) → taken wire ≡ total net put (λ w. some (taken w)) wire) (bit : ℕ → Bool)
    (put_rail : (rail : Rail) → IsIn rail net.input_rails → put (wire_of rail) ≡ one_if (bit (wire_of rail)))
    (put_droc : (wire : ℕ) (cell : Cell) → IsIn cell net.cells → IsDroc cell → IsIn wire (outs cell) → IsPlain net wire
    → put wire ≡ one_if (bit wire)) (put_gate : (wire : ℕ) (cell : Cell) → IsIn cell net.cells → (IsDroc cell → ⊥) → IsIn wire (outs cell)
    → put wire ≡ 0) (gates : (cell : Cell) → IsIn cell net.cells → GateEquation bit cell) where
  settled-value : (wire : ℕ) → Grounded net wire → IsPlain net wire → taken wire ≡ one_if (bit wire)
  settled-value _ (of_rail wire rail i e) plain =
      subst (λ w. taken w ≡ one_if (bit w)) e (
      let s = settles (wire_of rail) in
      let p = put_rail rail i in
      let m = made-at_rail net sound (λ w. some (taken w)) rail i in omega arith)
  settled-value _ (of_droc wire cell i d j) plain =
      let s = settles wire in
      let p = put_droc wire cell i d j plain in
      let m = made-at_cell net sound (λ w. some (taken w)) wire cell i j in
      let z = droc-made (λ w. some (taken w)) cell wire d in omega arith
  settled-value _ (of_gate wire cell i d j ports) plain =
      let s = settles wire in
      let p = put_gate wire cell i d j in
      let m = made-at_cell net sound (λ w. some (taken w)) wire cell i j in
      let o = outs-once net sound wire cell i in
      let q = IsIn-occurrences wire (outs cell) j in
      let once : occurrences wire (outs cell) ≡ 1 = omega arith in
      let v = made-value bit (λ w. some (taken w)) cell wire d (gates cell i) j once (λ port k.
      some-is (taken port) (bit port) (settled-value port (ports port k) (read-plain net sound port cell i k (λ preload back. d (is-droc cell Back preload port back))))) in
      omega arith

-- an output of a DROC that pulses by the DROC's bit
droc-value : (value : Bool) (q n : Option WireId) (bit : ℕ → Bool) (wire : ℕ) → CarriesIfUsed bit q value → CarriesIfUsed bit n (not value) → IsIn wire (used q ++ used n)
    → occurrences wire (used q ++ used n) ≤ 1 → occurrences wire (used (if value then q else n)) ≡ one_if (bit wire)
droc-value value q n bit wire on_q on_n i once = go (IsIn-append wire (used q) (used n) i) (occurrences-append wire (used q) (used n)) once
  where
    carries : (output : Option WireId) (v : Bool) → CarriesIfUsed bit output v → IsIn wire (used output) → bit wire ≡ v
    carries None v h i = absurd i
    carries (Some w) v h (inl e) = ap bit (sym e) ∙ h
    carries (Some w) v h (inr i) = absurd i

    by_q : (value : Bool) → bit wire ≡ value → 1 ≤ occurrences wire (used q) → occurrences wire (used q) + occurrences wire (used n) ≤ 1
        → occurrences wire (used (if value then q else n)) ≡ one_if value
    by_q true e o m = omega arith
    by_q false e o m = omega arith

    by_n : (value : Bool) → 1 ≤ occurrences wire (used n) → occurrences wire (used q) + occurrences wire (used n) ≤ 1
        → occurrences wire (used (if value then q else n)) ≡ one_if (not value)
    by_n true o m = omega arith
    by_n false o m = omega arith

    go : IsIn wire (used q) ⊎ IsIn wire (used n) → occurrences wire (used q ++ used n) ≡ occurrences wire (used q) + occurrences wire (used n)
        → occurrences wire (used q ++ used n) ≤ 1 → occurrences wire (used (if value then q else n)) ≡ one_if (bit wire)
    go (inl j) a m = by_q value (carries q value on_q j) (IsIn-occurrences wire (used q) j) (omega arith) ∙ ap one_if (sym (carries q value on_q j))
    go (inr j) a m = by_n value (IsIn-occurrences wire (used n) j) (omega arith) ∙ ap one_if (sym (carries n (not value) on_n j))

gate-equation : (latches : LatchState) (bit : ℕ → Bool) (cell : Cell) → CellEquation latches bit cell → GateEquation bit cell
gate-equation latches bit (La a b out) e = e
gate-equation latches bit (Fa a b out) e = e
gate-equation latches bit (Split from left right) e = e
gate-equation latches bit (Droc role preload feed q n) e = tt

all-true : (cell : Cell) → GateEquation (λ w. true) cell
all-true (La a b out) = refl
all-true (Fa a b out) = refl
all-true (Split from left right) = (refl, refl)
all-true (Droc role preload feed q n) = tt

module _ (net : PlainNetlist) (sound : IsSound net) (latches : LatchState) (vector bits : List Bool) (rails : IsRails net latches vector bits)
    (excited : List ℕ) (is_excited : IsExcited net latches vector excited) where
  first-droc : (wire : ℕ) (cell : Cell) → IsIn cell net.cells → IsDroc cell → IsIn wire (outs cell) → IsPlain net wire → CellEquation latches (bit_at bits) cell
      → occurrences wire (clocked cell (resting latches cell).bit) ≡ one_if (bit_at bits wire)
  first-droc wire (La a b out) i d j plain e = absurd d
  first-droc wire (Fa a b out) i d j plain e = absurd d
  first-droc wire (Split from left right) i d j plain e = absurd d
  first-droc wire (Droc Front preload feed q n) i d j plain e =
      absurd (not-front net preload feed q n wire (sound.roles (Droc Front preload feed q n) i) j (plain (Droc Front preload feed q n) i))
  first-droc wire (Droc Back preload feed q n) i d j plain e =
      droc-value (latches feed.number) q n (bit_at bits) wire e.0 e.1 j (outs-once net sound wire (Droc Back preload feed q n) i)
  first-droc wire (Droc Const preload feed q n) i d j plain e =
      droc-value preload q n (bit_at bits) wire e.0 e.1 j (outs-once net sound wire (Droc Const preload feed q n) i)

  -- at the end of excite a plain wire was taken where its bit is 1
  pub excited-value : (wire : ℕ) → Grounded net wire → IsPlain net wire → occurrences wire excited ≡ one_if (bit_at bits wire)
  excited-value = settled-value net sound (opening_put net Excite vector (resting latches)) (λ w. occurrences w excited) is_excited (bit_at bits)
      (λ rail i. opening-at_rail net sound Excite vector (resting latches) rail i ∙ ap one_if (sym (rails.rails rail i)))
      (λ wire cell i d j plain. opening-at_cell net sound Excite vector (resting latches) wire cell i j ∙ first-droc wire cell i d j plain (rails.cells cell i))
      (λ wire cell i d j. opening-at_cell net sound Excite vector (resting latches) wire cell i j ∙ gate-clocked (resting latches cell).bit cell wire d)
      (λ cell i. gate-equation latches (bit_at bits) cell (rails.cells cell i))

module _ (net : PlainNetlist) (sound : IsSound net) (latches : LatchState) (vector : List Bool) (excited : List ℕ)
    (is_excited : IsExcited net latches vector excited) (state : State) (taken : List ℕ)
    (holds : Holds net (cycle_put net latches vector excited) (λ w. occurrences w excited) state taken) (settled : IsSettled state) where
  abbrev second : Cell → Bool
  second cell = (keeps (now_taken excited) (now_taken excited) cell).bit

  whole-settles : (wire : ℕ) → occurrences wire excited + occurrences wire taken ≡ total net (cycle_put net latches vector excited) (was_taken (λ w. occurrences w excited) taken) wire
  whole-settles wire = let w = holds.waits wire in let s = settled wire in omega arith

  rail-both : (test : Bool) → one_if (pulses_in Excite test) + one_if (pulses_in Relax test) ≡ 1
  rail-both true = refl
  rail-both false = refl

  both-droc : (wire : ℕ) (cell : Cell) → IsIn cell net.cells → IsDroc cell → IsIn wire (outs cell) → IsPlain net wire
      → occurrences wire (clocked cell (resting latches cell).bit) + occurrences wire (clocked cell (second cell)) ≡ occurrences wire (outs cell)
  both-droc wire (La a b out) i d j plain = absurd d
  both-droc wire (Fa a b out) i d j plain = absurd d
  both-droc wire (Split from left right) i d j plain = absurd d
  both-droc wire (Droc Front preload feed q n) i d j plain =
      absurd (not-front net preload feed q n wire (sound.roles (Droc Front preload feed q n) i) j (plain (Droc Front preload feed q n) i))
  both-droc wire (Droc Back preload feed q n) i d j plain =
      both-outputs (latches feed.number) (now_taken excited feed.number) q n wire (flips net sound latches vector excited is_excited (Droc Back preload feed q n) i)
  both-droc wire (Droc Const preload feed q n) i d j plain =
      both-outputs preload (now_taken excited feed.number) q n wire (flips net sound latches vector excited is_excited (Droc Const preload feed q n) i)

  -- at the end of relax a plain wire was taken once in the cycle
  pub whole-value : (wire : ℕ) → Grounded net wire → IsPlain net wire → occurrences wire excited + occurrences wire taken ≡ 1
  whole-value = settled-value net sound (cycle_put net latches vector excited) (λ w. occurrences w excited + occurrences w taken) whole-settles (λ w. true)
      (λ rail i.
      let a = opening-at_rail net sound Excite vector (resting latches) rail i in
      let b = opening-at_rail net sound Relax vector (keeps (now_taken excited) (now_taken excited)) rail i in
      let c = rail-both (has_sign (bit_at vector rail.port) rail.sign) in omega arith)
      (λ wire cell i d j plain.
      let a = opening-at_cell net sound Excite vector (resting latches) wire cell i j in
      let b = opening-at_cell net sound Relax vector (keeps (now_taken excited) (now_taken excited)) wire cell i j in
      let c = both-droc wire cell i d j plain in
      let o = outs-once net sound wire cell i in
      let p = IsIn-occurrences wire (outs cell) j in omega arith)
      (λ wire cell i d j.
      let a = opening-at_cell net sound Excite vector (resting latches) wire cell i j in
      let b = opening-at_cell net sound Relax vector (keeps (now_taken excited) (now_taken excited)) wire cell i j in
      let c = gate-clocked (resting latches cell).bit cell wire d in
      let e = gate-clocked (second cell) cell wire d in omega arith)
      (λ cell i. all-true cell)

  -- and a front's wire was taken in relax where the front's feed was taken in excite
  pub link-relaxed : (wire : ℕ) (cell : Cell) → IsIn cell net.cells → IsFrontOn cell wire → occurrences wire taken ≡ one_if (second cell)
  link-relaxed wire cell i h =
      let j = front-outs cell wire h in
      let w = whole-settles wire in
      let x = is_excited wire in
      let b = opening-at_cell net sound Relax vector (keeps (now_taken excited) (now_taken excited)) wire cell i j in
      let m = made-at_cell net sound (was_taken (λ w. occurrences w excited) taken) wire cell i j in
      let n = made-at_cell net sound (now_taken excited) wire cell i j in
      let y = front-made (was_taken (λ w. occurrences w excited) taken) cell wire h in
      let z = front-made (now_taken excited) cell wire h in
      let v = front-value net cell wire (sound.roles cell i) h (second cell) in omega arith
