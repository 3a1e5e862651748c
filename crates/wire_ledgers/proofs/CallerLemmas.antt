-- What rails and cells do to the ledger of open wires: the lemmas that the crates above may cite.
use Rattle.std.proofs.Common.{◌≡◌, ◌≤◌, ◌<◌, ◌+◌, ◌⊎◌, inl, inr, ℕ, zero, suc, List, [], ◌∷◌, ◌++◌, map, ap, sym, subst, ◌∙◌, refl, arith, append_assoc, append-nil}
use Rattle.std.specs.List.{flat_map, range_with_len}
use Rattle.std.proofs.lemmas.Grind.{flat_map-append}
use Rattle.std.proofs.lemmas.List.{map-append}
use Rattle.pulse_ids.specs.Lists.{IsIn, occurrences}
use Rattle.pulse_ids.proofs.CallerLemmas.{IsIn-append}
use Rattle.pulse_ids.proofs.CallerLemmasOnCounts.{occurrences-append, occurrences-head, occurrences-IsIn, IsIn-occurrences}
use Rattle.cell_netlist.specs.declared.lines.Cell.{Cell}
use Rattle.cell_netlist.specs.Netlists.{PlainNetlist, wire_of, outs, reads, driven, read, number_of_wires}
use Rattle.cell_netlist.proofs.CallerLemmas.{number_of_wires-input, number_of_wires-output}
use Rattle.wire_ledgers.specs.Ledgers.{IsLedger}
use Rattle.splitter_trees.specs.Spreading.{with_cells}
use Rattle.wire_ledgers.specs.Laws.{LedgersBegin, DebtsAreSettled, InputsOpen, OutputsClose, CellsMoveOn}
use Rattle.splitter_trees.proofs.CallerLemmasOnRanges.{range-append}
use Rattle.wire_ledgers.proofs.CallerLemmasOnRanges.{in_range}

pub begin_ledger : LedgersBegin
begin_ledger inputs outputs = record { in_order = refl; once = λ wire. refl; inside = λ wire some. absurd (omega arith); rise = λ cell m gate. absurd m }

pub settle_step : DebtsAreSettled
settle_step net before after debts left ledger few same = record {
  in_order = ledger.in_order;
  once = λ wire. let o = ledger.once wire in let s = same wire in omega arith;
  inside = λ wire some. let f = few wire in ledger.inside wire (omega arith);
  rise = ledger.rise;
}

-- which wires are open is a matter of counts alone
pub same_open : (net : PlainNetlist) (before after debts : List ℕ) → IsLedger net before debts → ((wire : ℕ) → occurrences wire after ≡ occurrences wire before) → IsLedger net after debts
same_open net before after debts ledger same =
    settle_step net before after debts debts ledger (λ wire. let s = same wire in omega arith) (λ wire. let s = same wire in omega arith)

-- the first of the open wires is one of the netlist's
pub first_inside : (net : PlainNetlist) (wire : ℕ) (before after debts : List ℕ) → IsLedger net before debts
    → ((other : ℕ) → occurrences other (wire ∷ after) ≡ occurrences other before) → wire < number_of_wires net
first_inside net wire before after debts ledger opened =
    let p = opened wire in let h = occurrences-head wire wire after refl in ledger.inside wire (omega arith)

-- an input rail on the next wire
pub input_step : InputsOpen
input_step net rail open_wires debts ledger none next = record {
  in_order = order ∙ ap (range_with_len 0) (sym wires);
  once = λ wire.
      let d = ap (occurrences wire) appended ∙ occurrences-append wire (driven net) (wire_of rail ∷ []) in
      let o = ledger.once wire in omega arith;
  inside = λ wire some. inside wire some;
  rise = λ cell m gate. ledger.rise cell m gate;
}
  where
    wires : number_of_wires (record net { input_rails = net.input_rails ++ rail ∷ [] }) ≡ number_of_wires net + 1
    wires = number_of_wires-input net rail ∙ omega arith

    appended : driven (record net { input_rails = net.input_rails ++ rail ∷ [] }) ≡ driven net ++ wire_of rail ∷ []
    appended = ap (λ (cells : List Cell). map wire_of (net.input_rails ++ rail ∷ []) ++ flat_map outs cells) none
        ∙ append-nil (map wire_of (net.input_rails ++ rail ∷ [])) ∙ map-append wire_of net.input_rails (rail ∷ [])
        ∙ ap (λ (l : List ℕ). l ++ wire_of rail ∷ []) (sym (ap (λ (cells : List Cell). map wire_of net.input_rails ++ flat_map outs cells) none ∙ append-nil (map wire_of net.input_rails)))

    order : driven (record net { input_rails = net.input_rails ++ rail ∷ [] }) ≡ range_with_len 0 (number_of_wires net + 1)
    order = appended ∙ ap (λ (l : List ℕ). l ++ wire_of rail ∷ []) ledger.in_order
        ∙ (let z : wire_of rail ≡ 0 + number_of_wires net = omega arith in ap (λ (k : ℕ). range_with_len 0 (number_of_wires net) ++ k ∷ []) z)
        ∙ sym (range-append 0 (number_of_wires net) 1)

    inside : (wire : ℕ) → 1 ≤ occurrences wire (wire_of rail ∷ open_wires) → wire < number_of_wires (record net { input_rails = net.input_rails ++ rail ∷ [] })
    inside wire some = elim (occurrences-IsIn wire (wire_of rail ∷ open_wires) some) [
      | inl e ↦ omega (arith, wires)
      | inr m ↦ let i = ledger.inside wire (IsIn-occurrences wire open_wires m) in omega (arith, wires)
    ]

-- an output rail on an open wire
pub output_step : OutputsClose
output_step net rail before after debts ledger opened = record {
  in_order = ledger.in_order ∙ ap (range_with_len 0) (sym wires);
  once = λ wire.
      let r = ap (λ (l : List ℕ). occurrences wire (flat_map reads net.cells ++ l)) (map-append wire_of net.output_rails (rail ∷ [])) in
      let a = occurrences-append wire (flat_map reads net.cells) (map wire_of net.output_rails ++ wire_of rail ∷ []) in
      let b = occurrences-append wire (map wire_of net.output_rails) (wire_of rail ∷ []) in
      let c = occurrences-append wire (flat_map reads net.cells) (map wire_of net.output_rails) in
      let o = ledger.once wire in let p = opened wire in omega arith;
  inside = λ wire some. let p = opened wire in let i = ledger.inside wire (omega arith) in omega (arith, wires);
  rise = ledger.rise;
}
  where
    wires : number_of_wires (record net { output_rails = net.output_rails ++ rail ∷ [] }) ≡ number_of_wires net
    wires = number_of_wires-output net rail ∙ omega (arith, first_inside net (wire_of rail) before after debts ledger opened)

-- cells behind
pub driven_behind : (net : PlainNetlist) (cells : List Cell) → driven (with_cells net cells) ≡ driven net ++ flat_map outs cells
driven_behind net cells = ap (λ (l : List ℕ). map wire_of net.input_rails ++ l) (flat_map-append outs net.cells cells)
    ∙ sym (append_assoc (map wire_of net.input_rails) (flat_map outs net.cells) (flat_map outs cells))

pub reads_behind : (net : PlainNetlist) (cells : List Cell) (wire : ℕ) → occurrences wire (read (with_cells net cells)) ≡ occurrences wire (read net) + occurrences wire (flat_map reads cells)
reads_behind net cells wire =
    let all = occurrences-append wire (flat_map reads (net.cells ++ cells)) (map wire_of net.output_rails) in
    let old = occurrences-append wire (flat_map reads net.cells) (map wire_of net.output_rails) in
    let both = occurrences-append wire (flat_map reads net.cells) (flat_map reads cells) in
    let e = ap (occurrences wire) (flat_map-append reads net.cells cells) in
    omega arith

-- cells that drive the next wires, read open ones or their own, and leave others open
pub cells_step : CellsMoveOn
cells_step old new before after debts_before debts_after ledger adds = record {
  in_order = ap driven adds.added ∙ driven_behind old adds.cells ∙ ap (λ (l : List ℕ). l ++ flat_map outs adds.cells) ledger.in_order
      ∙ ap (λ (l : List ℕ). range_with_len 0 (number_of_wires old) ++ l) adds.drives
      ∙ (let z : number_of_wires old ≡ 0 + number_of_wires old = omega arith in ap (λ (k : ℕ). range_with_len 0 (number_of_wires old) ++ range_with_len k adds.more) z)
      ∙ sym (range-append 0 (number_of_wires old) adds.more) ∙ ap (range_with_len 0) (sym adds.wires);
  once = λ wire.
      let r = ap (λ (net : PlainNetlist). occurrences wire (read net)) adds.added ∙ reads_behind old adds.cells wire in
      let d = ap (λ (net : PlainNetlist). occurrences wire (driven net)) adds.added
      ∙ ap (occurrences wire) (driven_behind old adds.cells) ∙ occurrences-append wire (driven old) (flat_map outs adds.cells) in
      let b = adds.balance wire in let o = ledger.once wire in omega arith;
  inside = λ wire some. elim (open_or_new wire some) [
    | inl h ↦ let i = ledger.inside wire h in omega (arith, adds.wires)
    | inr h ↦ let k = new_inside wire h in omega (arith, adds.wires)
  ];
  rise = λ cell m gate. elim (IsIn-append cell old.cells adds.cells (subst (λ (net : PlainNetlist). IsIn cell net.cells) adds.added m)) [
    | inl h ↦ ledger.rise cell h gate
    | inr h ↦ adds.rise cell h gate
  ];
}
  where
    open_or_new : (wire : ℕ) → 1 ≤ occurrences wire after → (1 ≤ occurrences wire before) ⊎ (1 ≤ occurrences wire (flat_map outs adds.cells))
    open_or_new wire some = by (occurrences wire before) refl
      where
        by : (n : ℕ) → occurrences wire before ≡ n → (1 ≤ occurrences wire before) ⊎ (1 ≤ occurrences wire (flat_map outs adds.cells))
        by zero e = inr (let f = adds.opens wire in omega arith)
        by (suc n) e = inl (omega arith)

    new_inside : (wire : ℕ) → 1 ≤ occurrences wire (flat_map outs adds.cells) → wire < number_of_wires old + adds.more
    new_inside wire some = (in_range (number_of_wires old) adds.more wire
        (occurrences-IsIn wire (range_with_len (number_of_wires old) adds.more) (omega (arith, ap (occurrences wire) adds.drives)))).1
