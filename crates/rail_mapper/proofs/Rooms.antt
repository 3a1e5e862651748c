-- There is room for the wires that are still to come.
use Rattle.std.proofs.Common.{◌≡◌, ◌≤◌, ◌<◌, ◌+◌, ◌-◌, ◌*◌, ◌^◌, nat_lt, true, ℕ, zero, suc, List, [], ◌∷◌, ◌++◌, length, set, ap, ◌∙◌, arith}
use Rattle.std.proofs.lemmas.Bool.{lt-ltb}
use Rattle.std.proofs.lemmas.List.{length-append, length-set, get_or-set_other}
use Rattle.cell_netlist.specs.declared.kinds.Gate.{Gate}
use Rattle.cell_netlist.specs.Netlists.{PlainNetlist, number_of_wires}
use Rattle.splitter_trees.specs.Spreading.{IsSpread, with_cells}
use Rattle.cell_netlist.specs.declared.lines.Cell.{Cell}
use Rattle.droc_pairs.specs.Pairs.{wires_for}
use Rattle.droc_pairs.specs.Constants.{constant_cell, ones_from, HasTreeIfRead, with_tree, without}
use Rattle.rail_mapper.specs.InputStages.{HasConstant}
use Rattle.rail_mapper.specs.Drafts.{PlainDraft, readers_of, gate_cell, HasRoom, total}
use Rattle.rail_mapper.proofs.DraftLedgers.{gate_wires}
use Rattle.rail_mapper.proofs.Stocks.{sum-set_zero, counted_place, at_most_total}

pub room_to_spread : (draft : PlainDraft) (rail : ℕ) → HasRoom 0 draft → number_of_wires draft.net + 2 * readers_of draft rail ≤ 2 ^ 22
room_to_spread draft rail room = let t = at_most_total draft.counts rail in let w = room.wires in omega arith

pub room_grown : (before after : PlainDraft) (root rail readers : ℕ) (leaves : List ℕ) (more : ℕ) → HasRoom more before → IsSpread before.net after.net root readers leaves
    → readers ≡ readers_of before rail → 1 ≤ readers → after.counts ≡ set before.counts rail 0 → HasRoom (more + 2) after
room_grown before after root rail readers leaves more room spread e some counted =
    let t = sum-set_zero before.counts rail (counted_place before.counts rail (omega arith)) in
    let u = ap total counted in
    let w = room.wires in let k = room.cells in let n = spread.wires in let o = spread.spreads.one_less in
    let l = ap (λ (net : PlainNetlist). length net.cells) spread.added ∙ length-append before.net.cells spread.cells in
    record { wires = omega arith; cells = omega arith }

pub room_gated : (before : PlainDraft) (after : PlainDraft) (gate : Gate) (a b more : ℕ) → HasRoom (more + 1) before → a < number_of_wires before.net → b < number_of_wires before.net
    → after.net ≡ with_cells before.net (gate_cell gate a b (number_of_wires before.net) ∷ []) → after.counts ≡ before.counts
    → HasRoom more after × (number_of_wires after.net ≡ number_of_wires before.net + 1)
room_gated before after gate a b more room la lb e same =
    let n = ap number_of_wires e ∙ gate_wires gate before.net a b la lb in
    let t = ap total same in
    let l = ap (λ (net : PlainNetlist). length net.cells) e ∙ length-append before.net.cells (gate_cell gate a b (number_of_wires before.net) ∷ []) in
    let w = room.wires in let k = room.cells in
    (record { wires = omega arith; cells = omega arith }, n)

pub less_room : (draft : PlainDraft) (less more : ℕ) → less ≤ more → HasRoom more draft → HasRoom less draft
less_room draft less more low room = let w = room.wires in record { wires = omega arith; cells = room.cells }

-- a constant takes at most one wire more than its readers had room for
pub constant_room : (before after : PlainDraft) (more : ℕ) → HasConstant before after → 2 ≤ length before.counts → HasRoom (more + 1) before → HasRoom more after
constant_room before after more c size room = record {
  wires = omega (arith, room.wires, c.constant.wires, counted, ones_wires (readers_of before 1));
  cells = omega (arith, room.cells, c.constant.wires, cells, one_cells c.constant.one_tree, c.constant.zero_spreads.one_less);
}
  where
    counted : total after.counts + readers_of before 1 + readers_of before 0 ≡ total before.counts
    counted =
        let a = sum-set_zero before.counts 1 (omega arith) in
        let b = sum-set_zero (set before.counts 1 0) 0 (omega (arith, length-set before.counts 1 0)) in
        let d = get_or-set_other before.counts 1 0 0 0 (λ e. absurd (omega arith)) in
        omega (arith, a, b, d, ap total c.counted)

    ones_wires : (ones : ℕ) → wires_for (nat_lt 0 ones) + 2 * (ones - 1) ≤ 2 * ones
    ones_wires zero = omega arith
    ones_wires (suc ones) = let some : nat_lt 0 (suc ones) ≡ true = lt-ltb 0 (suc ones) (omega arith) in omega (arith, ap wires_for some)

    cells : length after.net.cells ≡ length before.net.cells + (1 + (length c.constant.one_cells + length c.constant.zero_cells))
    cells =
        ap (λ (net : PlainNetlist). length net.cells) c.constant.added
        ∙ omega (
          arith,
          length-append before.net.cells (constant_cell (number_of_wires before.net) (nat_lt 0 (readers_of before 1))
              c.constant.back ∷ (c.constant.one_cells ++ c.constant.zero_cells)),
          length-append c.constant.one_cells c.constant.zero_cells,
        )

    one_cells : HasTreeIfRead (ones_from (number_of_wires before.net) (readers_of before 1)) (number_of_wires before.net) (readers_of before 1) c.constant.one_cells c.one
        → length c.constant.one_cells ≤ readers_of before 1 - 1
    one_cells (with_tree some t s) = let o = s.one_less in omega arith
    one_cells (without idle e l) = let o = ap (λ (k : List Cell). length k) e in omega arith
