-- Each phase is settled by the bound.
use Rattle.std.proofs.Common.{◌≡◌, ◌≤◌, ℕ, zero, suc, Bool, true, false, if◌then◌else◌, Option, Some, None, List, [], ◌∷◌, map, inl, inr, refl, ap, subst, ◌∙◌, arith}
use Rattle.std.specs.List.{flat_map}
use Rattle.pulse_ids.proofs.CallerLemmas.{IsIn-left, IsIn-right, IsIn-map, IsIn-flat_map, IsIn-place}
use Rattle.pulse_ids.proofs.CallerLemmasOnCounts.{occurrences-IsIn}
use Rattle.pulse_ids.specs.Ids.{WireId}
use Rattle.pulse_ids.specs.Lists.{IsIn, occurrences}
use Rattle.cell_netlist.proofs.CallerLemmasOnDrivers.{driven-below}
use Rattle.cell_netlist.specs.declared.kinds.Phase.{Phase}
use Rattle.cell_netlist.specs.declared.kinds.Phase.TheVariants.{Excite, Relax}
use Rattle.cell_netlist.specs.declared.lines.Cell.{Cell}
use Rattle.cell_netlist.specs.declared.lines.Cell.TheVariants.{La, Fa, Split, Droc}
use Rattle.cell_netlist.specs.Netlists.{PlainNetlist, PlainDroc, wire_of, used, droc_of, outs, driven}
use Rattle.cell_netlist.specs.Sound.{IsSound}
use Rattle.cell_netlist.specs.World.{State, start, opened, opening_pulses}
use Rattle.pulse_world.specs.WirePulses.{OpeningsPulse}
use Rattle.timed_texts.specs.declared.cycles.PhaseTimes.{PhaseTimes}
use Rattle.timed_texts.specs.Laws.{PhasesWithinBound}
use Rattle.timed_texts.specs.TimedCycles.{TimesCycles}
use Rattle.timed_texts.specs.Timings.{AreSettledBy}
use Rattle.timed_world.specs.Bounds.{PlainBound, IsBound}
use Rattle.timed_world.specs.Delays.{PlainDelays}
use Rattle.timed_world.specs.Laws.{TimesWithinBound}
use Rattle.timed_world.specs.TimedPhases.{IsTimedPhase}

positive : (n : ℕ) → (n ≡ 0 → ⊥) → 1 ≤ n
positive zero some = absurd (some refl)
positive (suc n) some = omega arith

in-used : (output : Option WireId) (wire : WireId) → output ≡ Some wire → IsIn wire.number (used output)
in-used None wire e = cc
in-used (Some other) wire e = let same : other ≡ wire = cc in inl (ap (λ (w : WireId). w.number) same)

-- the output of a DROC that pulses is one of its outputs
output-among : (cell : Cell) (droc : PlainDroc) → droc_of cell ≡ Some droc → (bit : Bool) (output : WireId) → (if bit then droc.q else droc.n) ≡ Some output
    → IsIn output.number (outs cell)
output-among (La a b out) droc e bit output f = cc
output-among (Fa a b out) droc e bit output f = cc
output-among (Split from left right) droc e bit output f = cc
output-among (Droc role preload feed q n) droc e true output f =
    let same : q ≡ droc.q = cc in IsIn-left output.number (used q) (used n) (in-used q output (same ∙ f))
output-among (Droc role preload feed q n) droc e false output f =
    let same : n ≡ droc.n = cc in IsIn-right output.number (used q) (used n) (in-used n output (same ∙ f))

-- where an opening puts a pulse on a wire, something drives it
pulses_driven : OpeningsPulse → (net : PlainNetlist) (phase : Phase) (vector : List Bool) (state : State) (wire : ℕ)
    → IsIn wire (opening_pulses net phase vector state) → IsIn wire (driven net)
pulses_driven pulse net phase vector state wire i =
    elim ((pulse net phase vector state wire).0 i) [
      | inl rail ↦ IsIn-left wire (map wire_of net.input_rails) (flat_map outs net.cells)
          (subst (λ w. IsIn w (map wire_of net.input_rails)) rail.on (IsIn-map wire_of rail.rail net.input_rails rail.among))
      | inr droc ↦ IsIn-right wire (map wire_of net.input_rails) (flat_map outs net.cells)
          (IsIn-flat_map outs wire droc.cell net.cells (IsIn-place droc.cell net.cells droc.number droc.at)
          (subst (λ w. IsIn w (outs droc.cell)) droc.on (output-among droc.cell droc.droc droc.is_droc droc.kept.bit droc.output droc.pulses)))
    ]

module _ (within : TimesWithinBound) (pulse : OpeningsPulse) (net : PlainNetlist) (sound : IsSound net) (delays : PlainDelays) (bound : PlainBound) (is : IsBound delays net bound) where
  phase-within : (phase : Phase) (vector : List Bool) (state last : State) (wires : List ℕ) (time : ℕ) → IsTimedPhase delays net (opened net phase vector state) wires time last
      → time ≤ bound.time
  phase-within phase vector state last wires time timed =
      within net sound delays bound is (opened net phase vector state)
      (λ wire some. driven-below net wire (pulses_driven pulse net phase vector state wire
      (occurrences-IsIn wire (opening_pulses net phase vector state) (positive (occurrences wire (opening_pulses net phase vector state)) some)))) wires time last timed

  pub cycles_within : (vectors : List (List Bool)) (cycles : List PhaseTimes) (before after : State) → TimesCycles delays net before vectors cycles after
      → AreSettledBy bound.time cycles
  cycles_within [] [] before after h times i = absurd i
  cycles_within [] (t ∷ cycles) before after h times i = absurd h
  cycles_within (v ∷ vectors) [] before after h times i = absurd h
  cycles_within (v ∷ vectors) (t ∷ cycles) before after (mid, one, rest) times (inl e) = subst (λ (p : PhaseTimes). (p.excite ≤ bound.time) × (p.relax ≤ bound.time)) e (
    phase-within Excite v before one.middle one.excited t.excite one.excites,
    phase-within Relax v one.middle mid one.relaxed t.relax one.relaxes,
  )
  cycles_within (v ∷ vectors) (t ∷ cycles) before after (mid, one, rest) times (inr i) = cycles_within vectors cycles mid after rest times i

pub phases_within_bound : TimesWithinBound → OpeningsPulse → PhasesWithinBound
phases_within_bound within pulse net sound delays vectors timing is =
    cycles_within within pulse net sound delays timing.bound is.bounds vectors timing.cycles (start net) is.last is.times
