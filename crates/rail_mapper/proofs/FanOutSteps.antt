-- Gates and backs with their trees leave wires no deeper below splitters than they may stand.
use Rattle.std.proofs.Common.{◌≡◌, ◌≤◌, ◌<◌, ◌+◌, inl, inr, ℕ, Bool, List, [], ◌∷◌, nat_lt, get_or, ap, sym, subst, ◌∙◌, refl, arith}
use Rattle.std.proofs.lemmas.Bool.{lt-ltb}
use Rattle.std.proofs.lemmas.List.{get_or-set_other}
use Rattle.pulse_ids.specs.Lists.{IsIn}
use Rattle.cell_netlist.specs.declared.kinds.Gate.{Gate}
use Rattle.cell_netlist.specs.declared.kinds.Gate.TheVariants as gates
use Rattle.cell_netlist.specs.declared.lines.Cell.{Cell}
use Rattle.cell_netlist.specs.Netlists.{outs, number_of_wires, Splits}
use Rattle.wire_ledgers.proofs.CallerLemmasOnRanges.{in_range, range_has}
use Rattle.droc_pairs.specs.Pairs.{wires_for, begun_back}
use Rattle.splitter_trees.specs.Spreading.{with_cells}
use Rattle.droc_pairs.proofs.CallerLemmas.{begun_drives}
use Rattle.rail_mapper.specs.Drafts.{PlainDraft, readers_of, Grows, gate_cell, with_cell}
use Rattle.rail_mapper.specs.FanOuts.{AreFannedOut}
use Rattle.rail_mapper.specs.Stages.{GrowsIf, grown, bare, begun_draft, HasBegun}
use Rattle.rail_mapper.proofs.FanOuts.{cell_fanned_out, IsBare}
use Rattle.rail_mapper.proofs.FanOutCells.{new_bare, spread_fanned_out, spread_bare, kept_fanned_out}

pub grow_fanned_out : (rail root : ℕ) (before after : PlainDraft) → Grows rail root before after → IsBare before.net root → AreFannedOut before.net → AreFannedOut after.net
grow_fanned_out rail root before after grow is h = spread_fanned_out before.net after.net root (readers_of before rail) grow.leaves grow.spread is h

grow_if_bare : (rail root : ℕ) (before after : PlainDraft) → GrowsIf rail root before after → (1 ≤ readers_of before rail → IsBare before.net root) → (wire : ℕ) → IsBare before.net wire
    → (1 ≤ readers_of before rail → root ≡ wire → ⊥) → IsBare after.net wire
grow_if_bare rail root before after (grown some grow) is wire its other =
    spread_bare before.net after.net root (readers_of before rail) grow.leaves grow.spread (is some) wire its (other some)
grow_if_bare rail root before after (bare none e) is wire its other = subst (λ (d : PlainDraft). IsBare d.net wire) (sym e) its

-- a gate
gate_none : (gate : Gate) (a b out from to : ℕ) → Splits (gate_cell gate a b out) from to → ⊥
gate_none gates.La a b out from to s = s
gate_none gates.Fa a b out from to s = s

gate_out : (gate : Gate) (a b out : ℕ) → outs (gate_cell gate a b out) ≡ out ∷ []
gate_out gates.La a b out = refl
gate_out gates.Fa a b out = refl

module _ (gate : Gate) (a b out : ℕ) (draft : PlainDraft) (is : out ≡ number_of_wires draft.net) where
  abbrev cell : Cell
  cell = gate_cell gate a b out

  far : (wire : ℕ) → IsIn wire (outs cell) → number_of_wires draft.net ≤ wire
  far wire m = by (subst (λ (l : List ℕ). IsIn wire l) (gate_out gate a b out) m)
    where
      by : IsIn wire (out ∷ []) → number_of_wires draft.net ≤ wire
      by (inl e) = omega arith
      by (inr k) = absurd k

  its_out : IsIn out (outs cell)
  its_out = subst (λ (l : List ℕ). IsIn out l) (sym (gate_out gate a b out)) (inl refl)

  pub gate_line_fanned_out : AreFannedOut draft.net → AreFannedOut (with_cell draft cell).net
  gate_line_fanned_out h = cell_fanned_out draft.net cell (gate_none gate a b out) far h

  pub gate_bare : IsBare (with_cell draft cell).net out
  gate_bare = new_bare draft.net cell (gate_none gate a b out) out its_out (omega arith)

-- a back with the trees of its outputs
module _ (latch : ℕ) (init : Bool) (pos neg : ℕ) (before after : PlainDraft) (b : HasBegun latch init pos neg before after) (other_rail : pos ≡ neg → ⊥) where
  abbrev q : Bool
  q = nat_lt 0 (readers_of before pos)

  abbrev n : Bool
  n = nat_lt 0 (readers_of before neg)

  abbrev next : ℕ
  next = number_of_wires before.net

  abbrev back : Cell
  back = begun_back next init q n

  abbrev begun : PlainDraft
  begun = begun_draft before latch init q n

  back_bare : (wire : ℕ) → next ≤ wire → wire < next + (wires_for q + wires_for n) → IsBare begun.net wire
  back_bare wire low high =
      let its = new_bare before.net back (λ from to s. s) wire
      (subst (λ (l : List ℕ). IsIn wire l) (sym (begun_drives next init q n)) (range_has next (wires_for q + wires_for n) wire low high)) low in
      record { there = its.there; top = its.top; end = its.end }

  pub first_bare : 1 ≤ readers_of begun pos → IsBare begun.net next
  first_bare some = let one : wires_for q ≡ 1 = ap wires_for (lt-ltb 0 (readers_of before pos) some) in back_bare next (omega arith) (omega arith)

  same_readers : readers_of b.middle neg ≡ readers_of before neg
  same_readers = by b.first
    where
      by : GrowsIf pos next begun b.middle → readers_of b.middle neg ≡ readers_of before neg
      by (bare none e) = ap (λ (d : PlainDraft). readers_of d neg) e
      by (grown some grow) = ap (λ (l : List ℕ). get_or l neg 0) grow.counted ∙ get_or-set_other before.counts pos neg 0 0 (λ e. other_rail (sym e))

  pub second_bare : 1 ≤ readers_of b.middle neg → IsBare b.middle.net (next + wires_for q)
  second_bare some =
      let one : wires_for n ≡ 1 = ap wires_for (lt-ltb 0 (readers_of before neg) (omega (arith, same_readers))) in
      grow_if_bare pos next begun b.middle b.first first_bare (next + wires_for q) (back_bare (next + wires_for q) (omega arith) (omega arith))
      (λ has e. let two : wires_for q ≡ 1 = ap wires_for (lt-ltb 0 (readers_of before pos) has) in absurd (omega arith))

  pub back_fanned_out : AreFannedOut before.net → AreFannedOut begun.net
  back_fanned_out h = kept_fanned_out (with_cells before.net (back ∷ [])) begun.net refl refl (cell_fanned_out before.net back (λ from to s. s)
      (λ wire m. (in_range next (wires_for q + wires_for n) wire (subst (λ (l : List ℕ). IsIn wire l) (begun_drives next init q n) m)).0) h)
