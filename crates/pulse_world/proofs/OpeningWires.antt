-- The wires of the pulses of an opening.
use Rattle.std.proofs.Common.{◌≡◌, ◌≤◌, ℕ, zero, suc, Bool, true, false, Option, Some, None, List, [], ◌∷◌, slice_get, option_map, unwrap_or, if◌then◌else◌, ap, sym, ◌∙◌, subst, inl, inr, arith, refl}
use Rattle.pulse_ids.specs.Ids.{WireId}
use Rattle.pulse_ids.specs.Lists.{IsIn, occurrences, bit_at}
use Rattle.pulse_ids.proofs.CallerLemmas.{IsIn-append, IsIn-left, IsIn-right}
use Rattle.pulse_ids.proofs.CallerLemmasOnCounts.{occurrences-IsIn, IsIn-occurrences}
use Rattle.cell_netlist.specs.declared.kinds.CellState.{CellState}
use Rattle.cell_netlist.specs.declared.kinds.Phase.{Phase}
use Rattle.cell_netlist.specs.declared.lines.Cell.{Cell}
use Rattle.cell_netlist.specs.declared.lines.Rail.{Rail}
use Rattle.cell_netlist.specs.Netlists.{PlainNetlist, PlainDroc, droc_of, used, wire_of}
use Rattle.cell_netlist.specs.Runs.{next_stage}
use Rattle.cell_netlist.specs.World.{State, has_sign, pulses_in, rail_pulses, clocked, clock_pulses, opening_pulses}
use Rattle.pulse_world.specs.WirePulses.{DrocPulsesOn, OpeningsPulse, OpeningsArePending}

-- The pulses of rails.

abbrev Pulses : Phase → List Bool → Rail → Bool
Pulses phase vector rail = pulses_in phase (has_sign (bit_at vector rail.port) rail.sign)

pub one-in : (test : Bool) (wire other : ℕ) → IsIn wire (if test then other ∷ [] else []) → (test ≡ true) × (other ≡ wire)
one-in true wire other (inl e) = (refl, e)
one-in true wire other (inr none) = absurd none
one-in false wire other none = absurd none

in-one : (test : Bool) (wire other : ℕ) → test ≡ true → other ≡ wire → IsIn wire (if test then other ∷ [] else [])
in-one true wire other t e = inl e
in-one false wire other t e = absurd cc

rails-from : (phase : Phase) (vector : List Bool) (rails : List Rail) (wire : ℕ) → IsIn wire (rail_pulses phase vector rails)
    → (rail : Rail) × IsIn rail rails × (wire_of rail ≡ wire) × (Pulses phase vector rail ≡ true)
rails-from phase vector [] wire i = absurd i
rails-from phase vector (rail ∷ rails) wire i =
    elim (IsIn-append wire (if Pulses phase vector rail then wire_of rail ∷ [] else []) (rail_pulses phase vector rails) i) [
      | inl here ↦ let o = one-in (Pulses phase vector rail) wire (wire_of rail) here in (rail, inl refl, o.1, o.0)
      | inr later ↦ let r = rails-from phase vector rails wire later in (r.0, inr r.1, r.2, r.3)
    ]

rails-to : (phase : Phase) (vector : List Bool) (rails : List Rail) (wire : ℕ) (rail : Rail) → IsIn rail rails → wire_of rail ≡ wire
    → Pulses phase vector rail ≡ true → IsIn wire (rail_pulses phase vector rails)
rails-to phase vector [] wire rail none on pulses = absurd none
rails-to phase vector (first ∷ rails) wire rail (inl e) on pulses =
    IsIn-left wire (if Pulses phase vector first then wire_of first ∷ [] else []) (rail_pulses phase vector rails)
    (in-one (Pulses phase vector first) wire (wire_of first) (ap (Pulses phase vector) e ∙ pulses) (ap wire_of e ∙ on))
rails-to phase vector (first ∷ rails) wire rail (inr i) on pulses =
    IsIn-right wire (if Pulses phase vector first then wire_of first ∷ [] else []) (rail_pulses phase vector rails) (rails-to phase vector rails wire rail i on pulses)

-- The pulses of DROCs.

record ClockedAt (cells : List Cell) (cell_states : List CellState) (wire : ℕ) : Type 0 where
  pub number : ℕ
  pub cell : Cell
  pub kept : CellState
  pub at : slice_get cells number ≡ Some cell
  pub keeps : slice_get cell_states number ≡ Some kept
  pub emits : IsIn wire (clocked cell kept.bit)

clocks-from : (cells : List Cell) (cell_states : List CellState) (wire : ℕ) → IsIn wire (clock_pulses cells cell_states) → ClockedAt cells cell_states wire
clocks-from [] cell_states wire i = absurd i
clocks-from (cell ∷ cells) [] wire i = absurd i
clocks-from (cell ∷ cells) (kept ∷ cell_states) wire i = elim (IsIn-append wire (clocked cell kept.bit) (clock_pulses cells cell_states) i) [
  | inl here ↦ record { number = 0; cell = cell; kept = kept; at = refl; keeps = refl; emits = here }
  | inr later ↦
      let r = clocks-from cells cell_states wire later in
      record { number = suc r.number; cell = r.cell; kept = r.kept; at = r.at; keeps = r.keeps; emits = r.emits }
]

clocks-to : (cells : List Cell) (cell_states : List CellState) (wire number : ℕ) (cell : Cell) (kept : CellState) → slice_get cells number ≡ Some cell
    → slice_get cell_states number ≡ Some kept → IsIn wire (clocked cell kept.bit) → IsIn wire (clock_pulses cells cell_states)
clocks-to [] cell_states wire number cell kept at keeps i = absurd cc
clocks-to (first ∷ cells) [] wire number cell kept at keeps i = absurd cc
clocks-to (first ∷ cells) (its ∷ cell_states) wire zero cell kept at keeps i =
    let same : cell ≡ first = cc in
    let kept_is : kept ≡ its = cc in
    IsIn-left wire (clocked first its.bit) (clock_pulses cells cell_states)
    (subst (λ (c : Cell). IsIn wire (clocked c its.bit)) same (subst (λ (k : CellState). IsIn wire (clocked cell k.bit)) kept_is i))
clocks-to (first ∷ cells) (its ∷ cell_states) wire (suc number) cell kept at keeps i =
    IsIn-right wire (clocked first its.bit) (clock_pulses cells cell_states) (clocks-to cells cell_states wire number cell kept at keeps i)

used-from : (output : Option WireId) (wire : ℕ) → IsIn wire (used output) → (id : WireId) × (output ≡ Some id) × (id.number ≡ wire)
used-from None wire i = absurd i
used-from (Some id) wire (inl e) = (id, refl, e)
used-from (Some id) wire (inr none) = absurd none

used-to : (output : Option WireId) (wire : ℕ) (id : WireId) → output ≡ Some id → id.number ≡ wire → IsIn wire (used output)
used-to output wire id e on = subst (λ o. IsIn wire (used o)) (sym e) (inl on)

-- a DROC that the clock makes emit on a wire
droc-from : (net : PlainNetlist) (cell_states : List CellState) (wire : ℕ) → ClockedAt net.cells cell_states wire → DrocPulsesOn net cell_states wire
droc-from net cell_states wire c = go (droc_of c.cell) refl c.emits
  where
    go : (droc : Option PlainDroc) → droc_of c.cell ≡ droc
        → IsIn wire (unwrap_or (option_map (λ (d : PlainDroc). used (if c.kept.bit then d.q else d.n)) droc) []) → DrocPulsesOn net cell_states wire
    go None e i = absurd i
    go (Some droc) e i =
        let u = used-from (if c.kept.bit then droc.q else droc.n) wire i in
        record { number = c.number; cell = c.cell; droc = droc; kept = c.kept; output = u.0; at = c.at; is_droc = e; keeps = c.keeps; pulses = u.1; on = u.2 }

droc-to : (net : PlainNetlist) (cell_states : List CellState) (wire : ℕ) → DrocPulsesOn net cell_states wire → IsIn wire (clock_pulses net.cells cell_states)
droc-to net cell_states wire d =
    clocks-to net.cells cell_states wire d.number d.cell d.kept d.at d.keeps
    (subst (λ (o : Option PlainDroc). IsIn wire (unwrap_or (option_map (λ (x : PlainDroc). used (if d.kept.bit then x.q else x.n)) o) []))
    (sym d.is_droc) (used-to (if d.kept.bit then d.droc.q else d.droc.n) wire d.output d.pulses d.on))

pub openings_pulse : OpeningsPulse
openings_pulse net phase vector state wire = (
  λ i. elim (IsIn-append wire (rail_pulses phase vector net.input_rails) (clock_pulses net.cells state.cell_states) i) [
    | inl rails ↦
        let r = rails-from phase vector net.input_rails wire rails in inl (record { rail = r.0; among = r.1; on = r.2; pulses = r.3 })
    | inr clocks ↦ inr (droc-from net state.cell_states wire (clocks-from net.cells state.cell_states wire clocks))
  ],
  λ pulses. elim pulses [
    | inl r ↦
        IsIn-left wire (rail_pulses phase vector net.input_rails) (clock_pulses net.cells state.cell_states)
        (rails-to phase vector net.input_rails wire r.rail r.among r.on r.pulses)
    | inr d ↦
        IsIn-right wire (rail_pulses phase vector net.input_rails) (clock_pulses net.cells state.cell_states) (droc-to net state.cell_states wire d)
  ],
)

pub openings_are_pending : OpeningsArePending
openings_are_pending net vectors before after opens wire =
    let list = opening_pulses net (next_stage before.stage).phase opens.vector before.state in
    let is : after.state.pending wire ≡ occurrences wire list = ap (λ (s : State). s.pending wire) opens.state in
    let both = openings_pulse net (next_stage before.stage).phase opens.vector before.state wire in (
      λ pending. both.0 (occurrences-IsIn wire list (least (after.state.pending wire) (occurrences wire list) is pending)),
      λ pulses none. let i = IsIn-occurrences wire list (both.1 pulses) in absurd (omega arith),
    )
  where
    least : (n m : ℕ) → n ≡ m → (n ≡ 0 → ⊥) → 1 ≤ m
    least zero m e some = absurd (some refl)
    least (suc n) m e some = omega arith
