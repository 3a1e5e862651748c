-- What holds at each moment of a phase, and that a delivery keeps it.
use Rattle.std.proofs.Common.{◌≡◌, ◌≢◌, ℕ, ◌+◌, ◌≤◌, ◌⊎◌, inl, inr, Some, List, [], ◌∷◌, ◌++◌, length, map, Bool, true, false, ◌==◌, if◌then◌else◌, refl, sym, ◌∙◌, ap, arith, eq-eqb}
use Rattle.std.proofs.lemmas.Bool.{eqb-true, cases_eq}
use Rattle.cell_netlist.specs.declared.kinds.Role.TheVariants.{Back}
use Rattle.cell_netlist.specs.declared.lines.Cell.{Cell}
use Rattle.pulse_ids.specs.Lists.{IsIn, occurrences}
use Rattle.cell_netlist.specs.Netlists.{PlainNetlist, number_of_wires, driven, reads, IsDroc}
use Rattle.cell_netlist.specs.World.{State, Reactions, reactions, Delivered, deliver}
use Rattle.cell_netlist.specs.Sound.{IsSound}
use Rattle.pulse_ids.proofs.CallerLemmasOnCounts.{occurrences-append, one_if, test_same, test_other}
use Rattle.cell_netlist.proofs.CallerLemmasOnSums.{some-positive, sum_over, map-on, sum_over-same, some}
use Rattle.cell_netlist.proofs.CallerLemmasOnDrivers.{driven-once, driven-low, reads-once, is-droc}
use Rattle.cell_netlist.proofs.CallerLemmasOnLinks.{IsPlain, read-plain}
use Rattle.pulse_world.proofs.Counts.{few}
use Rattle.pulse_world.proofs.RunMoments.{Moves, moves, moved-balance, delivered}
use Rattle.pulse_world.proofs.CellSteps.{keeps, made, with_wire, CellsStep, cells-step, cell-steps, keeps-same, made-same}

-- whether a wire was taken in this cycle, by how often it was taken before the phase, and in this phase
abbrev pub was_taken : (ℕ → ℕ) → List ℕ → ℕ → Bool
was_taken earlier taken wire = some (earlier wire + occurrences wire taken)

abbrev pub now_taken : List ℕ → ℕ → Bool
now_taken taken wire = some (occurrences wire taken)

was-more : (earlier : ℕ → ℕ) (taken : List ℕ) (wire w : ℕ) → was_taken earlier (taken ++ wire ∷ []) w ≡ with_wire (was_taken earlier taken) wire w
was-more earlier taken wire w = go (cases_eq wire w)
  where
    a : occurrences w (taken ++ wire ∷ []) ≡ occurrences w taken + (one_if (w == wire) + 0)
    a = occurrences-append w taken (wire ∷ [])

    other : wire ≢ w → (wire == w) ≡ false
    other ne = elim (wire == w) as (λ t. (wire == w) ≡ t → (wire == w) ≡ false) [ false ↦ λ e. e | true ↦ λ e. absurd (ne (eqb-true wire w e)) ] refl

    go : (wire ≡ w) ⊎ (wire ≢ w) → was_taken earlier (taken ++ wire ∷ []) w ≡ with_wire (was_taken earlier taken) wire w
    go (inl e) =
        let t = test_same w wire (sym e) in
        let b = a in
        some-positive (earlier w + occurrences w (taken ++ wire ∷ [])) (omega arith) ∙ sym (ap (λ t. if t then true else was_taken earlier taken w) (eq-eqb wire w e))
    go (inr ne) =
        let t = test_other w wire (λ e. ne (sym e)) in
        let b = a in
        let same : earlier w + occurrences w (taken ++ wire ∷ []) ≡ earlier w + occurrences w taken = omega arith in
        ap some same ∙ sym (ap (λ t. if t then true else was_taken earlier taken w) (other ne))

now-more : (taken : List ℕ) (wire w : ℕ) → now_taken (taken ++ wire ∷ []) w ≡ with_wire (now_taken taken) wire w
now-more taken wire w =
    let a : 0 + occurrences w (taken ++ wire ∷ []) ≡ occurrences w (taken ++ wire ∷ []) = omega arith in
    let b : 0 + occurrences w taken ≡ occurrences w taken = omega arith in
    sym (ap some a) ∙ (was-more (λ w. 0) taken wire w ∙ ap (λ n. if wire == w then true else some n) b)

-- all that a wire got in this cycle: what the openings put and what the cells emitted
abbrev pub total : PlainNetlist → (ℕ → ℕ) → (ℕ → Bool) → ℕ → ℕ
total net put was wire = put wire + sum_over (λ cell. occurrences wire (made was cell)) net.cells

-- A wire gets at most one pulse a phase, and only where it is driven; a plain wire one a cycle.
pub record Room (net : PlainNetlist) (put earlier : ℕ → ℕ) : Type 0 where
  pub any : (was : ℕ → Bool) (wire : ℕ) → total net put was wire ≤ earlier wire + occurrences wire (driven net)
  pub plain : (was : ℕ → Bool) (wire : ℕ) → IsPlain net wire → total net put was wire ≤ occurrences wire (driven net)

-- what the cells keep is fixed by the wires taken, and what a wire got is pending or taken
pub record Holds (net : PlainNetlist) (put earlier : ℕ → ℕ) (state : State) (taken : List ℕ) : Type 0 where
  pub cell_states : state.cell_states ≡ map (keeps (was_taken earlier taken) (now_taken taken)) net.cells
  pub waits : (wire : ℕ) → state.pending wire + (earlier wire + occurrences wire taken) ≡ total net put (was_taken earlier taken) wire

module _ (net : PlainNetlist) (sound : IsSound net) (put earlier : ℕ → ℕ) (room : Room net put earlier) (state : State) (taken : List ℕ) (holds : Holds net put earlier state taken) where
  -- no wire is taken twice in a phase
  pub taken-once : (wire : ℕ) → occurrences wire taken ≤ 1
  taken-once wire =
      let w = holds.waits wire in
      let r = room.any (was_taken earlier taken) wire in let d = driven-once net sound wire in omega arith

  -- no wire has two pulses pending
  pub waits-once : (wire : ℕ) → state.pending wire ≤ 1
  waits-once wire =
      let w = holds.waits wire in
      let r = room.any (was_taken earlier taken) wire in let d = driven-once net sound wire in omega arith

  pub taken-few : length taken ≤ number_of_wires net
  taken-few = few taken (number_of_wires net) taken-once (λ wire le.
      let w = holds.waits wire in
      let r = room.any (was_taken earlier taken) wire in let d = driven-low net wire le in omega arith)

  -- a wire from the number of wires on is neither pending nor taken
  pub low : (wire : ℕ) → number_of_wires net ≤ wire → (state.pending wire ≡ 0) × (occurrences wire taken ≡ 0)
  low wire le =
      let w = holds.waits wire in
      let r = room.any (was_taken earlier taken) wire in let d = driven-low net wire le in (omega arith, omega arith)

  -- where a wire is pending, all tables have a queue
  pub steps : (wire : ℕ) → 1 ≤ state.pending wire → CellsStep (was_taken earlier taken) (now_taken taken) wire net.cells
  steps wire pending = cells-step (was_taken earlier taken) (now_taken taken) wire net.cells (λ cell i.
      cell-steps (was_taken earlier taken) (now_taken taken) wire cell (reads-once net sound wire cell i) (fresh cell i) free)
    where
      free : now_taken taken wire ≡ false
      free =
          let w = holds.waits wire in
          let r = room.any (was_taken earlier taken) wire in
          let d = driven-once net sound wire in
          let none : occurrences wire taken ≡ 0 = omega arith in ap some none

      fresh : (cell : Cell) → IsIn cell net.cells → (IsDroc cell → ⊥) → IsIn wire (reads cell) → was_taken earlier taken wire ≡ false
      fresh cell i gate j =
          let p = read-plain net sound wire cell i j (λ preload back. gate (is-droc cell Back preload wire back)) in
          let w = holds.waits wire in
          let r = room.plain (was_taken earlier taken) wire p in
          let d = driven-once net sound wire in
          let none : earlier wire + occurrences wire taken ≡ 0 = omega arith in ap some none

  reacts : (wire : ℕ) → (pending : 1 ≤ state.pending wire) → reactions net.cells state.cell_states wire ≡ Some (record {
    cell_states = map (keeps (with_wire (was_taken earlier taken) wire) (with_wire (now_taken taken) wire)) net.cells;
    emitted = (steps wire pending).emitted;
  })
  reacts wire pending = ap (λ cell_states. reactions net.cells cell_states wire) holds.cell_states ∙ (steps wire pending).reacts

  -- each pending pulse can be delivered
  pub live : (wire : ℕ) → (state.pending wire ≡ 0 → ⊥) → (after : State) × (deliver net state wire ≡ Delivered after)
  live wire pending =
      let p : 1 ≤ state.pending wire = omega arith in
      delivered net state wire _ pending (reacts wire p)

  -- and then the same holds
  pub goes-on : (wire : ℕ) (after : State) → deliver net state wire ≡ Delivered after → Holds net put earlier after (taken ++ wire ∷ [])
  goes-on wire after e = record { cell_states = cell_states; waits = waits }
    where
      m : Moves net state wire after
      m = moves net state wire after e

      s : CellsStep (was_taken earlier taken) (now_taken taken) wire net.cells
      s = steps wire m.pending

      reacted : m.reacted ≡ record {
        cell_states = map (keeps (with_wire (was_taken earlier taken) wire) (with_wire (now_taken taken) wire)) net.cells;
        emitted = s.emitted;
      }
      reacted = let a = reacts wire m.pending in let b = m.reacts in cc

      cell_states : after.cell_states ≡ map (keeps (was_taken earlier (taken ++ wire ∷ [])) (now_taken (taken ++ wire ∷ []))) net.cells
      cell_states = m.cell_states ∙ (ap (λ (r : Reactions). r.cell_states) reacted
          ∙ map-on (keeps (with_wire (was_taken earlier taken) wire) (with_wire (now_taken taken) wire))
          (keeps (was_taken earlier (taken ++ wire ∷ [])) (now_taken (taken ++ wire ∷ []))) net.cells (λ cell i.
          keeps-same (with_wire (was_taken earlier taken) wire) (was_taken earlier (taken ++ wire ∷ [])) (with_wire (now_taken taken) wire)
          (now_taken (taken ++ wire ∷ [])) (λ w. sym (was-more earlier taken wire w)) (λ w. sym (now-more taken wire w)) cell))

      waits : (other : ℕ) → after.pending other + (earlier other + occurrences other (taken ++ wire ∷ [])) ≡ total net put (was_taken earlier (taken ++ wire ∷ [])) other
      waits other =
          let b = moved-balance net state wire after m other taken in
          let f = ap (λ (r : Reactions). occurrences other r.emitted) reacted in
          let n = s.makes other in
          let w = holds.waits other in
          let same : sum_over (λ cell. occurrences other (made (was_taken earlier (taken ++ wire ∷ [])) cell)) net.cells ≡ sum_over
          (λ cell. occurrences other (made (with_wire (was_taken earlier taken) wire) cell)) net.cells = sum_over-same
          (λ cell. occurrences other (made (was_taken earlier (taken ++ wire ∷ [])) cell))
          (λ cell. occurrences other (made (with_wire (was_taken earlier taken) wire) cell)) net.cells (λ cell i.
          ap (occurrences other) (made-same (was_taken earlier (taken ++ wire ∷ [])) (with_wire (was_taken earlier taken) wire) (was-more earlier taken wire) cell)) in
          omega arith
