-- From cycle to cycle: what the cells keep at the start of a run and at the end of relax.
use Rattle.std.proofs.Common.{◌≡◌, ℕ, ◌+◌, inl, inr, List, Bool, true, false, not, refl, sym, ◌∙◌, ap}
use Rattle.cell_netlist.specs.declared.kinds.Role.TheVariants.{Front, Back, Const}
use Rattle.cell_netlist.specs.declared.kinds.Held.TheVariants.{Rest}
use Rattle.cell_netlist.specs.declared.lines.Cell.{Cell}
use Rattle.cell_netlist.specs.declared.lines.Cell.TheVariants.{La, Fa, Split, Droc}
use Rattle.pulse_ids.specs.Lists.{IsIn, occurrences, bit_at}
use Rattle.cell_netlist.specs.Netlists.{PlainNetlist, reads, IsDroc}
use Rattle.cell_netlist.specs.World.{State, IsSettled, preloaded}
use Rattle.cell_netlist.specs.RailEquations.{LatchState, IsRails, feed_of, first_state, next_state}
use Rattle.cell_netlist.specs.Sound.{IsSound, IsDrocOf, IsFrontTo}
use Rattle.cell_netlist.proofs.CallerLemmasOnLinks.{IsFrontOn, read-plain, front-on, first_state-is, front-no-back, front-reads, next_state-is}
use Rattle.cell_netlist.proofs.CallerLemmasOnDrivers.{read-grounded, is-droc}
use Rattle.cell_netlist.proofs.CallerLemmasOnSums.{some-is}
use Rattle.pulse_world.specs.DuePulses.{front_bit, resting}
use Rattle.pulse_world.proofs.Counts.{one_if-other}
use Rattle.pulse_world.proofs.CellSteps.{keeps, held_of}
use Rattle.pulse_world.proofs.PulseBalance.{was_taken, now_taken, Holds}
use Rattle.pulse_world.proofs.OpeningPulses.{cycle_put, IsExcited}
use Rattle.pulse_world.proofs.SettledDrocs.{front_bit-is, flips}
use Rattle.pulse_world.proofs.SettledValues.{excited-value, whole-value, link-relaxed}

front-second : (was now : ℕ → Bool) (cell : Cell) (wire : ℕ) → IsFrontOn cell wire → (keeps was now cell).bit ≡ now (feed_of cell)
front-second was now (La a b out) wire h = absurd h
front-second was now (Fa a b out) wire h = absurd h
front-second was now (Split from left right) wire h = absurd h
front-second was now (Droc role preload feed q n) wire h = refl

module _ (net : PlainNetlist) (sound : IsSound net) where
  -- at the start of a run each cell keeps what the first state says
  pub starts : (cell : Cell) → IsIn cell net.cells → preloaded cell ≡ resting (first_state net) cell
  starts (La a b out) i = refl
  starts (Fa a b out) i = refl
  starts (Split from left right) i = refl
  starts (Droc Front preload feed q n) i =
      let f = sound.roles (Droc Front preload feed q n) i in
      let b = f.4 in
      let state : first_state net f.1 ≡ f.3 = first_state-is net sound f.1 b.back f.3 b.among b.role in
      let front : IsFrontTo net f.1 preload = record { front = Droc Front preload feed q n; among = i; feed = feed.number; role = (refl, refl, refl); q = f.2 } in
      let c : f.3 ≡ not preload = sound.preloads f.1 preload f.3 front b in
      let o = front_bit-is (first_state net) q f.1 f.2 in
      let d : preload ≡ front_bit (first_state net) q = twice-not preload ∙ (ap not (sym (state ∙ c)) ∙ sym o) in
      ap (λ bit. record { held = Rest; bit = bit }) d
    where
      twice-not : (b : Bool) → b ≡ not (not b)
      twice-not true = refl
      twice-not false = refl
  starts (Droc Back preload feed q n) i =
      ap (λ bit. record { held = Rest; bit = bit }) (sym (first_state-is net sound feed.number (Droc Back preload feed q n) preload i (refl, refl, refl)))
  starts (Droc Const preload feed q n) i = refl

  module _ (latches : LatchState) (vector bits : List Bool) (rails : IsRails net latches vector bits) (excited : List ℕ)
      (is_excited : IsExcited net latches vector excited) (state : State) (taken : List ℕ)
      (holds : Holds net (cycle_put net latches vector excited) (λ w. occurrences w excited) state taken) (settled : IsSettled state) where
    -- what a cell other than a back reads was taken in excite by its bit, and in relax otherwise
    first-value : (wire : ℕ) (cell : Cell) → IsIn cell net.cells → IsIn wire (reads cell) → ((preload : Bool) → IsDrocOf cell Back preload wire → ⊥) → now_taken excited wire ≡ bit_at bits wire
    first-value wire cell i j other =
        some-is (occurrences wire excited) (bit_at bits wire)
        (excited-value net sound latches vector bits rails excited is_excited wire (read-grounded net sound wire cell i j) (read-plain net sound wire cell i j other))

    pub plain-relaxed : (wire : ℕ) (cell : Cell) → IsIn cell net.cells → IsIn wire (reads cell)
        → ((preload : Bool) → IsDrocOf cell Back preload wire → ⊥) → now_taken taken wire ≡ not (bit_at bits wire)
    plain-relaxed wire cell i j other =
        let g = read-grounded net sound wire cell i j in
        let p = read-plain net sound wire cell i j other in
        some-is (occurrences wire taken) (not (bit_at bits wire))
        (one_if-other (bit_at bits wire) (occurrences wire excited) (occurrences wire taken)
        (excited-value net sound latches vector bits rails excited is_excited wire g p) (whole-value net sound latches vector excited is_excited state taken holds settled wire g p))

    whole : (wire : ℕ) (cell : Cell) → IsIn cell net.cells → IsIn wire (reads cell) → (IsDroc cell → ⊥) → was_taken (λ w. occurrences w excited) taken wire ≡ true
    whole wire cell i j d =
        let g = read-grounded net sound wire cell i j in
        let p = read-plain net sound wire cell i j (λ preload back. d (is-droc cell Back preload wire back)) in
        some-is (occurrences wire excited + occurrences wire taken) true (whole-value net sound latches vector excited is_excited state taken holds settled wire g p)

    both-taken : (p q : Bool) → p ≡ true → q ≡ true → held_of p q ≡ Rest
    both-taken true true e f = refl
    both-taken true false e f = absurd (cc)
    both-taken false q e f = absurd (cc)

    -- a front has at relax the next state of its link
    pub link-next : (wire : ℕ) (front : Cell) → IsIn front net.cells → IsFrontOn front wire → (keeps (now_taken excited) (now_taken excited) front).bit ≡ next_state net bits wire
    link-next wire front i on =
        front-second (now_taken excited) (now_taken excited) front wire on
        ∙ (first-value (feed_of front) front i (front-reads front wire on) (λ p h. front-no-back front wire on p (feed_of front) h) ∙ sym (next_state-is net sound bits wire front i on))

    -- each gate rests
    pub rests : (cell : Cell) → IsIn cell net.cells → (keeps (was_taken (λ w. occurrences w excited) taken) (now_taken taken) cell).held ≡ Rest
    rests (La a b out) i =
        both-taken (was_taken (λ w. occurrences w excited) taken a.number) (was_taken (λ w. occurrences w excited) taken b.number)
        (whole a.number (La a b out) i (inl refl) (λ d. d)) (whole b.number (La a b out) i (inr (inl refl)) (λ d. d))
    rests (Fa a b out) i =
        both-taken (was_taken (λ w. occurrences w excited) taken a.number) (was_taken (λ w. occurrences w excited) taken b.number)
        (whole a.number (Fa a b out) i (inl refl) (λ d. d)) (whole b.number (Fa a b out) i (inr (inl refl)) (λ d. d))
    rests (Split from left right) i = refl
    rests (Droc role preload feed q n) i = refl

    -- and each cell keeps what the next state says
    pub ends : (cell : Cell) → IsIn cell net.cells → keeps (was_taken (λ w. occurrences w excited) taken) (now_taken taken) cell ≡ resting (next_state net bits) cell
    ends (La a b out) i = ap (λ held. record { held = held; bit = false }) (rests (La a b out) i)
    ends (Fa a b out) i = ap (λ held. record { held = held; bit = false }) (rests (Fa a b out) i)
    ends (Split from left right) i = refl
    ends (Droc Front preload feed q n) i =
        let f = sound.roles (Droc Front preload feed q n) i in
        let v = plain-relaxed feed.number (Droc Front preload feed q n) i (inl refl) (λ p h. let e = h.0 in cc) in
        let s = next_state-is net sound bits f.1 (Droc Front preload feed q n) i f.2 in
        let o = front_bit-is (next_state net bits) q f.1 f.2 in
        ap (λ bit. record { held = Rest; bit = bit }) (v ∙ (ap not (sym s) ∙ sym o))
    ends (Droc Back preload feed q n) i =
        let f = (sound.roles (Droc Back preload feed q n) i).1 in
        let on = front-on f.front _ f.feed feed.number f.role f.q in
        let l = link-relaxed net sound latches vector excited is_excited state taken holds settled feed.number f.front f.among on in
        let t = some-is (occurrences feed.number taken) (keeps (now_taken excited) (now_taken excited) f.front).bit l in
        ap (λ bit. record { held = Rest; bit = bit }) (t ∙ link-next feed.number f.front f.among on)
    ends (Droc Const preload feed q n) i =
        let other : (p : Bool) → IsDrocOf (Droc Const preload feed q n) Back p feed.number → ⊥ = λ p h. let e = h.0 in cc in
        let v = plain-relaxed feed.number (Droc Const preload feed q n) i (inl refl) other in
        let u = first-value feed.number (Droc Const preload feed q n) i (inl refl) other in
        let f = flips net sound latches vector excited is_excited (Droc Const preload feed q n) i in
        ap (λ bit. record { held = Rest; bit = bit }) (v ∙ (ap not (sym u ∙ f) ∙ not-twice preload))
      where
        not-twice : (b : Bool) → not (not b) ≡ b
        not-twice true = refl
        not-twice false = refl
