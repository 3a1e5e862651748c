-- The equations of the toggle flip-flop, and the texts of three netlists.
use Rattle.std.proofs.Common.{◌≡◌, Bool, true, false, not, List, [], ◌∷◌, map, length, refl, ap, inl, inr, arith, ◌∙◌}
use Rattle.std.proofs.lemmas.Fmt.{decimal_digit}
use Rattle.pulse_ids.specs.Lists.{bit_at}
use Rattle.cell_netlist.specs.RailEquations.{LatchState, CellEquation, IsRails, first_state, next_state, IsNetRun}
use Rattle.cell_netlist.specs.ExampleNetlists.{toggle}
use Rattle.cell_netlist.specs.ExampleRuns.{two_empty, ToggleBits}
use Rattle.cell_netlist.specs.ExampleTexts.{TextsAreThese}
use Rattle.cell_netlist.proofs.CallerLemmasOnLists.{Each, each-at}

-- bits that meet the equations of the toggle
toggle_rails : (state : LatchState) (bits : List Bool) → length bits ≡ 5 → Each (CellEquation state (bit_at bits)) toggle.cells → IsRails toggle state [] bits
toggle_rails state bits e cells = record { length_is = e; rails = λ rail h. absurd h; cells = each-at (CellEquation state (bit_at bits)) toggle.cells cells }

-- what a run's first bits tell of its next ones
toggle_told : (state : LatchState) (bits : List Bool) → IsRails toggle state [] bits
    → (bit_at bits 0 ≡ state 4) × (bit_at bits 3 ≡ not (state 4)) × (next_state toggle bits 4 ≡ not (state 4))
toggle_told state bits its =
    let back = its.cells _ (inl refl) in
    let copies = its.cells _ (inr (inl refl)) in
    (back.0, copies.1 ∙ back.1, copies.0 ∙ back.1)

toggle_all : (run : List (List Bool)) → IsNetRun toggle two_empty run
    → (map (λ bits. bit_at bits 0) run ≡ false ∷ true ∷ []) × (map (λ bits. bit_at bits 3) run ≡ true ∷ false ∷ [])
toggle_all [] h = absurd h
toggle_all (first ∷ []) h = absurd h.1
toggle_all (first ∷ second ∷ []) h =
    let one = toggle_told (first_state toggle) first h.0 in
    let two = toggle_told (next_state toggle first) second h.1.0 in
    let now : next_state toggle first 4 ≡ true = one.2 in
    let a : bit_at first 0 ≡ false = one.0 in
    let b : bit_at second 0 ≡ true = two.0 ∙ now in
    let c : bit_at first 3 ≡ true = one.1 in
    let d : bit_at second 3 ≡ false = two.1 ∙ ap not now in
    (rw (a, b) refl, rw (c, d) refl)
toggle_all (first ∷ second ∷ third ∷ rest) h = absurd h.1.1

pub toggle_bits : ToggleBits
toggle_bits = (
  (toggle_rails _ _ refl ((refl, refl), ((refl, refl), (tt, tt))), (toggle_rails _ _ refl ((refl, refl), ((refl, refl), (tt, tt))), tt)),
  toggle_all,
)

pub texts_are_these : TextsAreThese
texts_are_these =
    let d0 = decimal_digit 0 (omega arith) in
    let d1 = decimal_digit 1 (omega arith) in
    let d2 = decimal_digit 2 (omega arith) in
    let d3 = decimal_digit 3 (omega arith) in
    let d4 = decimal_digit 4 (omega arith) in
    let d5 = decimal_digit 5 (omega arith) in
    let d6 = decimal_digit 6 (omega arith) in
    let d7 = decimal_digit 7 (omega arith) in
    let d8 = decimal_digit 8 (omega arith) in
    (simp (d0, d1), simp (d0, d1, d2, d3, d4, d5, d6, d7, d8), simp (d0, d1, d2, d3, d4, d5, d6, d7, d8))
