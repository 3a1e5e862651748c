-- What taking, growing and gates do to a draft.
use Rattle.std.proofs.Common.{◌≡◌, ◌≤◌, ◌<◌, ◌+◌, inl, inr, ℕ, true, false, List, [], ◌∷◌, ◌++◌, length, get_or, set, ap, sym, subst, ◌∙◌, refl, arith, ◌==◌}
use Rattle.std.proofs.Math.ListN.{length-set}
use Rattle.std.proofs.lemmas.Bool.{eq-eqb, ne_eqb, cases_eq}
use Rattle.std.proofs.lemmas.List.{get_or-set_same, get_or-set_other}
use Rattle.cell_netlist.specs.declared.kinds.Gate.{Gate}
use Rattle.pulse_ids.specs.Lists.{occurrences}
use Rattle.cell_netlist.specs.Netlists.{number_of_wires}
use Rattle.splitter_trees.specs.Spreading.{with_cells}
use Rattle.pulse_ids.proofs.CallerLemmasOnCounts.{occurrences-append}
use Rattle.wire_ledgers.specs.Ledgers.{IsLedger}
use Rattle.rail_mapper.specs.Drafts.{PlainDraft, leaves_of, readers_of, open_in, Takes, Grows, gate_cell, with_cell, Gated, IsDraft}
use Rattle.wire_ledgers.proofs.CallerLemmas.{same_open}
use Rattle.rail_mapper.proofs.DraftLedgers.{gate_step, spread_step}
use Rattle.rail_mapper.proofs.Stocks.{all_of-set, has_place}

-- a rail that was spread and is still to be read has a leaf
pub can_take : (draft : PlainDraft) (hand debts left : List ℕ) (rail : ℕ) → IsDraft draft hand debts (rail ∷ left) → readers_of draft rail ≡ 0 → 1 ≤ length (leaves_of draft rail)
can_take draft hand debts left rail h spread =
    let e = h.exact rail in let k : (rail == rail) ≡ true = eq-eqb rail rail refl in
    let f : occurrences rail (rail ∷ left) ≡ 1 + occurrences rail left = rw k refl in omega arith

abbrev with_leaves : PlainDraft → ℕ → List ℕ → PlainDraft
with_leaves draft rail leaves = record draft { stock = set draft.stock rail leaves }

pub take_step : (before after : PlainDraft) (hand debts left : List ℕ) (rail wire : ℕ) → IsDraft before hand debts (rail ∷ left) → Takes rail wire before after
    → IsDraft after (wire ∷ hand) debts left
take_step before after hand debts left rail wire h take = subst (λ (d : PlainDraft). IsDraft d (wire ∷ hand) debts left) (sym take.taken) (record {
  ledger = same_open before.net (open_in before ++ hand) (open_in (with_leaves before rail take.rest) ++ wire ∷ hand) debts h.ledger opened;
  exact = counted;
})
  where
    place : rail < length before.stock
    place = has_place before.stock rail wire take.rest take.first

    opened : (other : ℕ) → occurrences other (open_in (with_leaves before rail take.rest) ++ wire ∷ hand) ≡ occurrences other (open_in before ++ hand)
    opened other =
        let a = occurrences-append other (open_in (with_leaves before rail take.rest)) (wire ∷ hand) in
        let b = occurrences-append other (open_in before) hand in
        let c = all_of-set before.stock rail take.rest other place in
        let d = ap (occurrences other) take.first in omega arith

    counted : (other : ℕ) → length (leaves_of (with_leaves before rail take.rest) other) + readers_of (with_leaves before rail take.rest) other ≡ occurrences other left
    counted other = elim (cases_eq other rail) [
      | inl e ↦
          let g = h.exact other in
          let k : (other == rail) ≡ true = eq-eqb other rail e in
          let f : occurrences other (rail ∷ left) ≡ 1 + occurrences other left = rw k refl in
          let s : get_or (set before.stock rail take.rest) other [] ≡ take.rest = ap (λ (r : ℕ). get_or (set before.stock rail take.rest) r []) e
          ∙ get_or-set_same before.stock rail take.rest [] place in
          let t : get_or before.stock other [] ≡ wire ∷ take.rest = ap (λ (r : ℕ). get_or before.stock r []) e ∙ take.first in
          let u = ap (λ (l : List ℕ). length l) s in let v = ap (λ (l : List ℕ). length l) t in omega arith
      | inr ne ↦
          let g = h.exact other in
          let k : (other == rail) ≡ false = ne_eqb other rail ne in
          let f : occurrences other (rail ∷ left) ≡ 0 + occurrences other left = rw k refl in
          let s = ap (λ (l : List ℕ). length l) (get_or-set_other before.stock rail other take.rest [] ne) in omega arith
    ]

-- a rail is spread from a wire in hand
pub grow_step : (before after : PlainDraft) (hand debts left : List ℕ) (rail root : ℕ) → IsDraft before (root ∷ hand) debts left → leaves_of before rail ≡ []
    → rail < length before.stock → rail < length before.counts → Grows rail root before after → IsDraft after hand debts left
grow_step before after hand debts left rail root h bare place counter grow = record {
  ledger = spread_step before.net after.net root (readers_of before rail) grow.leaves (open_in before ++ root ∷ hand) (open_in after ++ hand) debts h.ledger grow.spread opened;
  exact = counted;
}
  where
    opened : (wire : ℕ) → occurrences wire (open_in after ++ hand) + occurrences wire (root ∷ []) ≡ occurrences wire (open_in before ++ root ∷ hand) + occurrences wire grow.leaves
    opened wire =
        let a = occurrences-append wire (open_in after) hand in
        let b = occurrences-append wire (open_in before) (root ∷ hand) in
        let c = all_of-set before.stock rail grow.leaves wire place in
        let d = ap (occurrences wire) bare in
        let e = ap (λ (s : List (List ℕ)). occurrences wire (open_in (record before { stock = s }))) grow.stocked in omega arith

    counted : (other : ℕ) → length (leaves_of after other) + readers_of after other ≡ occurrences other left
    counted other = elim (cases_eq other rail) [
      | inl e ↦
          let g = h.exact other in
          let s = ap (λ (l : List ℕ). length l) (ap (λ (t : List (List ℕ)). get_or t other []) grow.stocked ∙ ap (λ (r : ℕ). get_or (set before.stock rail grow.leaves) r []) e
          ∙ get_or-set_same before.stock rail grow.leaves [] place) in
          let t = ap (λ (t : List ℕ). get_or t other 0) grow.counted ∙ ap (λ (r : ℕ). get_or (set before.counts rail 0) r 0) e ∙ get_or-set_same before.counts rail 0 0 counter in
          let u = ap (λ (l : List ℕ). length l) (ap (λ (r : ℕ). get_or before.stock r []) e ∙ bare) in
          let v = ap (λ (r : ℕ). get_or before.counts r 0) e in
          let w = grow.spread.spreads.one_each in omega arith
      | inr ne ↦
          let g = h.exact other in
          let s = ap (λ (l : List ℕ). length l) (ap (λ (t : List (List ℕ)). get_or t other []) grow.stocked ∙ get_or-set_other before.stock rail other grow.leaves [] ne) in
          let t = ap (λ (t : List ℕ). get_or t other 0) grow.counted ∙ get_or-set_other before.counts rail other 0 0 ne in omega arith
    ]

-- a gate with its tree
pub gated_step : (before after : PlainDraft) (hand debts left : List ℕ) (gate : Gate) (low high rail : ℕ) → IsDraft before hand debts (low ∷ high ∷ left)
    → leaves_of before rail ≡ [] → (rail ≡ low → ⊥) → (rail ≡ high → ⊥) → rail < length before.stock → rail < length before.counts
    → Gated gate low high rail before after → IsDraft after hand debts left
gated_step before after hand debts left gate low high rail h bare not_low not_high place counter gated =
    grow_step (with_cell gated.two (gate_cell gate gated.a gated.b (number_of_wires before.net))) after hand debts left rail (number_of_wires before.net)
    with_gate still_bare still_place still_counter gated.grown
  where
    h1 : IsDraft gated.one (gated.a ∷ hand) debts (high ∷ left)
    h1 = take_step before gated.one hand debts (high ∷ left) low gated.a h gated.low_taken

    h2 : IsDraft gated.two (gated.b ∷ gated.a ∷ hand) debts left
    h2 = take_step gated.one gated.two (gated.a ∷ hand) debts left high gated.b h1 gated.high_taken

    same_net : gated.two.net ≡ before.net
    same_net = ap (λ (d : PlainDraft). d.net) gated.high_taken.taken ∙ ap (λ (d : PlainDraft). d.net) gated.low_taken.taken

    with_gate : IsDraft (with_cell gated.two (gate_cell gate gated.a gated.b (number_of_wires before.net))) (number_of_wires before.net ∷ hand) debts left
    with_gate = record {
      ledger = subst (λ (n : ℕ). IsLedger (with_cells gated.two.net (gate_cell gate gated.a gated.b n ∷ [])) (open_in gated.two ++ n ∷ hand) debts) (ap number_of_wires same_net)
          (same_open (with_cells gated.two.net (gate_cell gate gated.a gated.b (number_of_wires gated.two.net) ∷ [])) (number_of_wires gated.two.net ∷ (open_in gated.two ++ hand))
          (open_in gated.two ++ number_of_wires gated.two.net ∷ hand) debts
          (gate_step gate gated.two.net gated.a gated.b (open_in gated.two ++ gated.b ∷ gated.a ∷ hand) (open_in gated.two ++ hand) debts h2.ledger
          (λ wire. let a = occurrences-append wire (open_in gated.two) (gated.b ∷ gated.a ∷ hand) in let b = occurrences-append wire (open_in gated.two) hand in omega arith))
          (λ wire. let a = occurrences-append wire (open_in gated.two) (number_of_wires gated.two.net ∷ hand) in let b = occurrences-append wire (open_in gated.two) hand in omega arith));
      exact = h2.exact;
    }

    stock_one : gated.one.stock ≡ set before.stock low gated.low_taken.rest
    stock_one = ap (λ (d : PlainDraft). d.stock) gated.low_taken.taken

    stock_two : gated.two.stock ≡ set gated.one.stock high gated.high_taken.rest
    stock_two = ap (λ (d : PlainDraft). d.stock) gated.high_taken.taken

    still_place : rail < length gated.two.stock
    still_place = omega (
      arith,
      ap (λ (l : List (List ℕ)). length l) stock_two,
      length-set gated.one.stock high gated.high_taken.rest,
      ap (λ (l : List (List ℕ)). length l)
          stock_one,
      length-set before.stock low gated.low_taken.rest,
    )

    still_counter : rail < length gated.two.counts
    still_counter = omega (arith, ap (λ (d : PlainDraft). length d.counts) gated.high_taken.taken, ap (λ (d : PlainDraft). length d.counts) gated.low_taken.taken)

    still_bare : leaves_of gated.two rail ≡ []
    still_bare = ap (λ (t : List (List ℕ)). get_or t rail []) stock_two ∙ get_or-set_other gated.one.stock high rail gated.high_taken.rest [] not_high
        ∙ ap (λ (t : List (List ℕ)). get_or t rail []) stock_one ∙ get_or-set_other before.stock low rail gated.low_taken.rest [] not_low ∙ bare
