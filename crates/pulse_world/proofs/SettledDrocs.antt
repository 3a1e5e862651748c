-- Where a phase is settled, each wire was taken as its equation says.
use Rattle.std.proofs.Common.{◌≡◌, ℕ, zero, suc, ◌+◌, ◌≤◌, Option, Some, None, List, [], ◌∷◌, ◌++◌, Bool, true, false, not, ◌&&◌, ◌||◌, if◌then◌else◌, refl, sym, ◌∙◌, ap, subst, arith}
use Rattle.pulse_ids.specs.Ids.{WireId}
use Rattle.cell_netlist.specs.declared.kinds.Phase.TheVariants.{Excite, Relax}
use Rattle.cell_netlist.specs.declared.kinds.Role.TheVariants.{Front, Back, Const}
use Rattle.cell_netlist.specs.declared.lines.Cell.{Cell}
use Rattle.cell_netlist.specs.declared.lines.Cell.TheVariants.{La, Fa, Split, Droc}
use Rattle.pulse_ids.specs.Lists.{IsIn, occurrences, bit_at}
use Rattle.cell_netlist.specs.Netlists.{PlainNetlist, wire_of, driven, outs, used, Splits, SplittersBelow}
use Rattle.cell_netlist.specs.World.{clocked, has_sign, pulses_in}
use Rattle.cell_netlist.specs.RailEquations.{LatchState}
use Rattle.cell_netlist.specs.Sound.{IsSound, IsOn, FitsRole}
use Rattle.pulse_ids.proofs.CallerLemmasOnCounts.{occurrences-append, IsIn-occurrences, one_if, test_other}
use Rattle.pulse_ids.proofs.CallerLemmas.{IsIn-right}
use Rattle.cell_netlist.proofs.CallerLemmasOnSums.{sum_over-less, sum_over-sum, some, some-is, some-positive}
use Rattle.cell_netlist.proofs.CallerLemmasOnLinks.{IsFrontOn, IsPlain, front-outs, front-on, none-used, on-used}
use Rattle.cell_netlist.proofs.CallerLemmasOnDrivers.{IsOn-used, driven-sums, outs-once}
use Rattle.pulse_world.specs.DuePulses.{front_bit, resting}
use Rattle.pulse_world.proofs.RunMoments.{rail_given}
use Rattle.pulse_world.proofs.CellSteps.{keeps, made}
use Rattle.pulse_world.proofs.PulseBalance.{now_taken, total, Room}
use Rattle.pulse_world.proofs.OpeningPulses.{if-less, cycle_put, IsExcited, opening-room, opening-at_cell, made-at_cell}

-- Outputs that are used, and fronts.

off-used : (q : Option WireId) (wire : ℕ) → (IsOn q wire → ⊥) → occurrences wire (used q) ≡ 0
off-used None wire h = refl
off-used (Some w) wire h = let t = test_other wire w.number (λ e. h (sym e)) in omega arith

-- the clock makes a front emit on its `q` where its bit is 1
pub front-value : (net : PlainNetlist) (cell : Cell) (wire : ℕ) → FitsRole net cell → IsFrontOn cell wire → (bit : Bool) → occurrences wire (clocked cell bit) ≡ one_if bit
front-value net (La a b out) wire fits h bit = absurd h
front-value net (Fa a b out) wire fits h bit = absurd h
front-value net (Split from left right) wire fits h bit = absurd h
front-value net (Droc Front preload feed q n) wire fits h true = on-used q wire h
front-value net (Droc Front preload feed q n) wire fits h false = none-used n wire fits.0
front-value net (Droc Back preload feed q n) wire fits h bit = absurd h
front-value net (Droc Const preload feed q n) wire fits h bit = absurd h

pub front-made : (was : ℕ → Bool) (cell : Cell) (wire : ℕ) → IsFrontOn cell wire → occurrences wire (made was cell) ≡ 0
front-made was (La a b out) wire h = absurd h
front-made was (Fa a b out) wire h = absurd h
front-made was (Split from left right) wire h = absurd h
front-made was (Droc role preload feed q n) wire h = refl

pub front_bit-is : (latches : LatchState) (q : Option WireId) (wire : ℕ) → IsOn q wire → front_bit latches q ≡ not (latches wire)
front_bit-is latches None wire h = absurd h
front_bit-is latches (Some w) wire h = ap (λ w. not (latches w)) h

front-rests : (latches : LatchState) (cell : Cell) (wire : ℕ) → IsFrontOn cell wire → (resting latches cell).bit ≡ not (latches wire)
front-rests latches (La a b out) wire h = absurd h
front-rests latches (Fa a b out) wire h = absurd h
front-rests latches (Split from left right) wire h = absurd h
front-rests latches (Droc Front preload feed q n) wire h = front_bit-is latches q wire h
front-rests latches (Droc Back preload feed q n) wire h = absurd h
front-rests latches (Droc Const preload feed q n) wire h = absurd h

-- The second half of a cycle, by what was taken in the first.

-- a back or a constant has the complement of its first bit
abbrev pub Flips : Bool → Bool → Cell → Type 0
Flips first second (La a b out) = Unit
Flips first second (Fa a b out) = Unit
Flips first second (Split from left right) = Unit
Flips first second (Droc Front preload feed q n) = Unit
Flips first second (Droc Back preload feed q n) = second ≡ not first
Flips first second (Droc Const preload feed q n) = second ≡ not first

rail-twice : (bit : Bool) (wire w : ℕ)
    → occurrences w (if pulses_in Excite bit then wire ∷ [] else []) + occurrences w (if pulses_in Relax bit then wire ∷ [] else []) ≤ occurrences w (wire ∷ [])
rail-twice true wire w = omega arith
rail-twice false wire w = omega arith

pub both-outputs : (first second : Bool) (q n : Option WireId) (wire : ℕ) → second ≡ not first
    → occurrences wire (used (if first then q else n)) + occurrences wire (used (if second then q else n)) ≡ occurrences wire (used q ++ used n)
both-outputs true second q n wire e =
    let a = occurrences-append wire (used q) (used n) in
    let s = ap (λ t. occurrences wire (used (if t then q else n))) e in omega arith
both-outputs false second q n wire e =
    let a = occurrences-append wire (used q) (used n) in
    let s = ap (λ t. occurrences wire (used (if t then q else n))) e in omega arith

front-silent : (bit : Bool) (q n : Option WireId) (wire : ℕ) → n ≡ None → (IsOn q wire → ⊥) → occurrences wire (used (if bit then q else n)) ≡ 0
front-silent true q n wire e h = off-used q wire h
front-silent false q n wire e h = none-used n wire e

emits-twice : (net : PlainNetlist) (was : ℕ → Bool) (cell : Cell) (wire : ℕ) (first second : Bool) → FitsRole net cell → (IsFrontOn cell wire → ⊥) → Flips first second cell
    → (occurrences wire (clocked cell first) + occurrences wire (clocked cell second)) + occurrences wire (made was cell) ≤ occurrences wire (outs cell)
emits-twice net was (La a b out) wire first second fits h flips = let l = if-less (was a.number && was b.number) (out.number ∷ []) wire in omega arith
emits-twice net was (Fa a b out) wire first second fits h flips = let l = if-less (was a.number || was b.number) (out.number ∷ []) wire in omega arith
emits-twice net was (Split from left right) wire first second fits h flips = let l = if-less (was from.number) (left.number ∷ right.number ∷ []) wire in omega arith
emits-twice net was (Droc Front preload feed q n) wire first second fits h flips =
    let a = front-silent first q n wire fits.0 h in let b = front-silent second q n wire fits.0 h in omega arith
emits-twice net was (Droc Back preload feed q n) wire first second fits h flips = let b = both-outputs first second q n wire flips in omega arith
emits-twice net was (Droc Const preload feed q n) wire first second fits h flips = let b = both-outputs first second q n wire flips in omega arith

module _ (net : PlainNetlist) (sound : IsSound net) (latches : LatchState) (vector : List Bool) (excited : List ℕ) (is_excited : IsExcited net latches vector excited) where
  -- what was taken at a cell's output
  excited-at : (wire : ℕ) (cell : Cell) → IsIn cell net.cells → IsIn wire (outs cell)
      → occurrences wire excited ≡ occurrences wire (clocked cell (resting latches cell).bit) + occurrences wire (made (now_taken excited) cell)
  excited-at wire cell i j =
      let x = is_excited wire in
      let o = opening-at_cell net sound Excite vector (resting latches) wire cell i j in
      let m = made-at_cell net sound (now_taken excited) wire cell i j in omega arith

  -- a front's wire was taken where its back's state is 0
  pub link-taken : (wire : ℕ) (cell : Cell) → IsIn cell net.cells → IsFrontOn cell wire → occurrences wire excited ≡ one_if (not (latches wire))
  link-taken wire cell i h =
      let x = excited-at wire cell i (front-outs cell wire h) in
      let v = front-value net cell wire (sound.roles cell i) h (resting latches cell).bit in
      let m = front-made (now_taken excited) cell wire h in
      let n : occurrences wire excited ≡ one_if (resting latches cell).bit = omega arith in
      n ∙ ap one_if (front-rests latches cell wire h)

  pub link-excited : (wire : ℕ) (cell : Cell) → IsIn cell net.cells → IsFrontOn cell wire → now_taken excited wire ≡ not (latches wire)
  link-excited wire cell i h = some-is (occurrences wire excited) (not (latches wire)) (link-taken wire cell i h)

  -- a splitter's outputs were taken where its input was
  split-excited : (from mid : ℕ) (cell : Cell) → IsIn cell net.cells → Splits cell from mid → now_taken excited from ≡ now_taken excited mid
  split-excited from mid (La a b out) i h = absurd h
  split-excited from mid (Fa a b out) i h = absurd h
  split-excited from mid (Split source left right) i h =
      let x = excited-at mid (Split source left right) i h.1 in
      let o = IsIn-occurrences mid (left.number ∷ right.number ∷ []) h.1 in
      subst (λ f. now_taken excited f ≡ now_taken excited mid) h.0 (go (now_taken excited source.number) (occurrences mid excited) x o)
    where
      go : (test : Bool) (n : ℕ) → n ≡ 0 + occurrences mid (if test then left.number ∷ right.number ∷ [] else []) → 1 ≤ occurrences mid (left.number ∷ right.number ∷ []) → test ≡ some n
      go true n e o = sym (some-positive n (omega arith))
      go false n e o = let z : n ≡ 0 = omega arith in sym (ap some z)
  split-excited from mid (Droc role preload feed q n) i h = absurd h

  chain-excited : (splitters : ℕ) (from to : ℕ) → SplittersBelow net splitters from to → now_taken excited from ≡ now_taken excited to
  chain-excited zero from to h = ap (now_taken excited) h
  chain-excited (suc k) from to (mid, one, rest) = split-excited from mid one.0 one.1 one.2 ∙ chain-excited k mid to rest

  -- a constant's own output was taken where its preload is 0
  own-excited : (preload : Bool) (feed : WireId) (q n : Option WireId) (own : ℕ) → IsIn (Droc Const preload feed q n) net.cells → IsOn n own → now_taken excited own ≡ not preload
  own-excited true feed q n own i h =
      let a = occurrences-append own (used q) (used n) in
      let b = on-used n own h in
      let c = outs-once net sound own (Droc Const true feed q n) i in
      let x = excited-at own (Droc Const true feed q n) i (IsIn-right own (used q) (used n) (IsOn-used n own h)) in
      let z : occurrences own excited ≡ 0 = omega arith in ap some z
  own-excited false feed q n own i h =
      let b = on-used n own h in
      let x = excited-at own (Droc Const false feed q n) i (IsIn-right own (used q) (used n) (IsOn-used n own h)) in
      some-positive (occurrences own excited) (omega arith)

  -- at relax each back and constant has the complement of its first bit
  pub flips : (cell : Cell) → IsIn cell net.cells → Flips (resting latches cell).bit (keeps (now_taken excited) (now_taken excited) cell).bit cell
  flips (La a b out) i = tt
  flips (Fa a b out) i = tt
  flips (Split from left right) i = tt
  flips (Droc Front preload feed q n) i = tt
  flips (Droc Back preload feed q n) i =
      let f = (sound.roles (Droc Back preload feed q n) i).1 in
      link-excited feed.number f.front f.among (front-on f.front _ f.feed feed.number f.role f.q)
  flips (Droc Const preload feed q n) i =
      let f = sound.roles (Droc Const preload feed q n) i in
      sym (chain-excited f.2 f.0 feed.number f.3) ∙ own-excited preload feed q n f.0 i f.1

  -- so a plain wire gets at most one pulse in the cycle, and each wire at most one in relax
  pub relax-room : Room net (cycle_put net latches vector excited) (λ w. occurrences w excited)
  relax-room = record { any = any; plain = plain }
    where
      any : (was : ℕ → Bool) (wire : ℕ) → total net (cycle_put net latches vector excited) was wire ≤ occurrences wire excited + occurrences wire (driven net)
      any was wire =
          let x = is_excited wire in
          let o = opening-room net sound Relax vector (keeps (now_taken excited) (now_taken excited)) was wire in omega arith

      plain : (was : ℕ → Bool) (wire : ℕ) → IsPlain net wire → total net (cycle_put net latches vector excited) was wire ≤ occurrences wire (driven net)
      plain was wire p =
          let d = driven-sums net sound wire in
          let r = sum_over-less (λ rail. occurrences wire (rail_given Excite vector rail) + occurrences wire (rail_given Relax vector rail))
          (λ rail. occurrences wire (wire_of rail ∷ [])) net.input_rails (λ rail i. rail-twice (has_sign (bit_at vector rail.port) rail.sign) (wire_of rail) wire) in
          let s = sum_over-sum (λ rail. occurrences wire (rail_given Excite vector rail)) (λ rail. occurrences wire (rail_given Relax vector rail)) net.input_rails in
          let c = sum_over-less (λ cell. (occurrences wire (clocked cell (resting latches cell).bit) + occurrences wire
          (clocked cell (keeps (now_taken excited) (now_taken excited) cell).bit)) + occurrences wire (made was cell)) (λ cell. occurrences wire (outs cell)) net.cells (λ cell i.
          emits-twice net was cell wire (resting latches cell).bit (keeps (now_taken excited) (now_taken excited) cell).bit (sound.roles cell i) (p cell i) (flips cell i)) in
          let t = sum_over-sum (λ cell. occurrences wire (clocked cell (resting latches cell).bit) + occurrences wire
          (clocked cell (keeps (now_taken excited) (now_taken excited) cell).bit)) (λ cell. occurrences wire (made was cell)) net.cells in
          let u = sum_over-sum (λ cell. occurrences wire (clocked cell (resting latches cell).bit))
          (λ cell. occurrences wire (clocked cell (keeps (now_taken excited) (now_taken excited) cell).bit)) net.cells in
          omega arith
