-- A netlist, vectors and delays have one timing.
use Rattle.std.proofs.Common.{◌≡◌, ℕ, Bool, List, [], ◌∷◌, ◌++◌, map, decimal, codes, refl, sym, ap, subst, ◌∙◌}
use Rattle.cell_netlist.specs.declared.kinds.Phase.TheVariants.{Excite, Relax}
use Rattle.cell_netlist.specs.Netlists.{PlainNetlist}
use Rattle.cell_netlist.specs.Text.{line_of}
use Rattle.cell_netlist.specs.World.{State, start, opened}
use Rattle.timed_texts.specs.declared.cycles.PhaseTimes.{PhaseTimes}
use Rattle.timed_texts.specs.Laws.{AreSame, OneTiming as OnlyTiming, OneTimedText}
use Rattle.timed_texts.specs.Texts.{times_text, timing_text}
use Rattle.timed_texts.specs.TimedCycles.{TimesCycle, TimesCycles}
use Rattle.timed_texts.specs.Timings.{PlainTiming}
use Rattle.timed_world.specs.Bounding.{numbers_of}
use Rattle.timed_world.specs.Delays.{PlainDelays}
use Rattle.timed_world.specs.Laws.{OneTimedPhase, OneBound}
use Rattle.timed_world.specs.TimedPhases.{IsTimedPhase}

times-eq : (one other : PhaseTimes) → one.excite ≡ other.excite → one.relax ≡ other.relax → one ≡ other
times-eq one other e r = go one.excite other.excite one.relax other.relax e r
  where
    times_of : ℕ → ℕ → PhaseTimes
    times_of excite relax = record { excite = excite; relax = relax }

    go : (a b c d : ℕ) → a ≡ b → c ≡ d → times_of a c ≡ times_of b d
    go a b c d e f = rw (e, f) refl

module _ (one_phase : OneTimedPhase) (net : PlainNetlist) (delays : PlainDelays) where
  one_cycle : (before : State) (vector : List Bool) (times others : PhaseTimes) (after also : State) → TimesCycle delays net before vector times after
      → TimesCycle delays net before vector others also → (times ≡ others) × (after ≡ also)
  one_cycle before vector times others after also a b =
      let first = one_phase net delays (opened net Excite vector before) a.excited b.excited times.excite others.excite a.middle b.middle a.excites b.excites in
      let moved = subst (λ m. IsTimedPhase delays net (opened net Relax vector m) b.relaxed others.relax also) (sym first.2) b.relaxes in
      let second = one_phase net delays (opened net Relax vector a.middle) a.relaxed b.relaxed times.relax others.relax after also a.relaxes moved in
      (times-eq times others first.1 second.1, second.2)

  one_list : (vectors : List (List Bool)) (before : State) (cycles others : List PhaseTimes) (after also : State) → TimesCycles delays net before vectors cycles after
      → TimesCycles delays net before vectors others also → cycles ≡ others
  one_list [] before [] [] after also a b = refl
  one_list [] before [] (u ∷ others) after also a b = absurd b
  one_list [] before (t ∷ cycles) others after also a b = absurd a
  one_list (v ∷ vectors) before [] others after also a b = absurd a
  one_list (v ∷ vectors) before (t ∷ cycles) [] after also a b = absurd b
  one_list (v ∷ vectors) before (t ∷ cycles) (u ∷ others) after also (mid, one, rest) (next, other, more) =
      let same = one_cycle before v t u mid next one other in
      cons t u cycles others same.0 (one_list vectors mid cycles others after also rest (subst (λ s. TimesCycles delays net s vectors others also) (sym same.1) more))
    where
      cons : (t u : PhaseTimes) (ts us : List PhaseTimes) → t ≡ u → ts ≡ us → t ∷ ts ≡ u ∷ us
      cons t u ts us e f = rw (e, f) refl

pub one_timing : OneTimedPhase → OneBound → OnlyTiming
one_timing one_phase one_bound net sound delays vectors one other a b =
    let bounds = one_bound net sound delays one.bound other.bound a.bounds b.bounds in
    record { cycles = one_list one_phase net delays vectors (start net) one.cycles other.cycles a.last b.last a.times b.times; time = bounds.0; path = bounds.1 }

same_text : (one other : PlainTiming) → AreSame one other → timing_text one ≡ timing_text other
same_text one other same =
    ap (λ cycles. times_text 0 cycles ++ (line_of (codes "bound" ∷ decimal one.bound.time ∷ []) ++ line_of (codes "path" ∷ map decimal (numbers_of one.bound.path)))) same.cycles
    ∙ (ap (λ time. times_text 0 other.cycles ++ (line_of (codes "bound" ∷ decimal time ∷ []) ++ line_of (codes "path" ∷ map decimal (numbers_of one.bound.path)))) same.time
    ∙ ap (λ path. times_text 0 other.cycles ++ (line_of (codes "bound" ∷ decimal other.bound.time ∷ []) ++ line_of (codes "path" ∷ map decimal path))) same.path)

pub one_text : OneTimedPhase → OneBound → OneTimedText
one_text one_phase one_bound net sound delays vectors text other a b =
    a.text_is ∙ (same_text a.timing b.timing (one_timing one_phase one_bound net sound delays vectors a.timing b.timing a.is b.is) ∙ sym b.text_is)
