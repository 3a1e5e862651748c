-- What gates, trees of splitters and DROCs do to the ledger of open wires: the lemmas that the crates above may cite.
use Rattle.std.proofs.Common.{◌≡◌, ◌≤◌, ◌<◌, ◌+◌, inl, inr, ℕ, zero, suc, max, Bool, Option, Some, List, [], ◌∷◌, ◌++◌, slice_get, ap, sym, subst, ◌∙◌, refl, arith, append-nil}
use Rattle.std.specs.List.{flat_map, range_with_len}
use Rattle.pulse_ids.specs.Ids.{WireId}
use Rattle.pulse_ids.specs.Lists.{IsIn, occurrences}
use Rattle.pulse_ids.proofs.CallerLemmasOnCounts.{occurrences-append}
use Rattle.cell_netlist.specs.declared.kinds.Role.{Role}
use Rattle.cell_netlist.specs.declared.lines.Cell.{Cell}
use Rattle.cell_netlist.specs.declared.lines.Cell.TheVariants.{La, Fa, Split, Droc}
use Rattle.cell_netlist.specs.Netlists.{PlainNetlist, used, outs, reads, wire_bound, number_of_wires, IsDroc, IsDrocUpTo, cells_with_feed}
use Rattle.cell_netlist.specs.WireLaws.{LeavesRest}
use Rattle.cell_netlist.proofs.CallerLemmas.{wire_bound-append, number_of_wires-cell, number_of_wires-fed, leaves_rest}
use Rattle.wire_ledgers.specs.Ledgers.{IsGateOn, IsLedger}
use Rattle.splitter_trees.specs.Spreading.{Rises, with_cells}
use Rattle.wire_ledgers.specs.Laws.{DrocsOpen, FeedsTakeOver}
use Rattle.wire_ledgers.proofs.CallerLemmasOnRanges.{range_bound}
use Rattle.wire_ledgers.proofs.CallerLemmas.{cells_step, first_inside}

-- a cell that reads two wires and drives the next one, and rises
two_rise : (cell : Cell) (a b out : ℕ) → reads cell ≡ a ∷ b ∷ [] → outs cell ≡ out ∷ [] → a < out → b < out → Rises cell
two_rise cell a b out r o la lb port wire i j = below (subst (λ (l : List ℕ). IsIn port l) r i) (subst (λ (l : List ℕ). IsIn wire l) o j)
  where
    below : IsIn port (a ∷ b ∷ []) → IsIn wire (out ∷ []) → port < wire
    below (inl e) (inl f) = omega arith
    below (inr (inl e)) (inl f) = omega arith
    below (inr (inr e)) f = absurd e
    below e (inr f) = absurd f

-- the number of wires with a gate more
pub gate_wires : (net : PlainNetlist) (cell : Cell) (a b : ℕ) → IsGateOn cell a b (number_of_wires net) → a < number_of_wires net → b < number_of_wires net
    → number_of_wires (with_cells net (cell ∷ [])) ≡ number_of_wires net + 1
gate_wires net cell a b gate la lb = number_of_wires-cell net cell ∙ ap (λ (l : List ℕ). max (number_of_wires net) (wire_bound (l ++ reads cell))) gate.one
    ∙ ap (λ (l : List ℕ). max (number_of_wires net) (wire_bound (number_of_wires net ∷ l))) gate.two ∙ omega arith

-- a gate on two open wires
pub gate_step : (net : PlainNetlist) (cell : Cell) (a b : ℕ) (before after debts : List ℕ) → IsLedger net before debts → IsGateOn cell a b (number_of_wires net)
    → ((wire : ℕ) → occurrences wire (a ∷ b ∷ after) ≡ occurrences wire before)
    → IsLedger (with_cells net (cell ∷ [])) (number_of_wires net ∷ after) debts
gate_step net cell a b before after debts ledger gate opened =
    cells_step net (with_cells net (cell ∷ [])) before (number_of_wires net ∷ after) debts debts ledger (record {
      cells = cell ∷ [];
      added = refl;
      more = 1;
      wires = gate_wires net cell a b gate low_a low_b;
      drives = drives;
      balance = λ wire. let p = opened wire in let d = ap (occurrences wire) drives in let r = ap (occurrences wire) read_two in omega arith;
      opens = λ wire. let p = opened wire in let d = ap (occurrences wire) drives in omega arith;
      rise = λ other m droc. only other m;
    })
  where
    drives : flat_map outs (cell ∷ []) ≡ number_of_wires net ∷ []
    drives = append-nil (outs cell) ∙ gate.one

    read_two : flat_map reads (cell ∷ []) ≡ a ∷ b ∷ []
    read_two = append-nil (reads cell) ∙ gate.two

    low_a : a < number_of_wires net
    low_a = first_inside net a before (b ∷ after) debts ledger opened

    low_b : b < number_of_wires net
    low_b = first_inside net b before (a ∷ after) debts ledger (λ wire. let p = opened wire in omega arith)

    only : (other : Cell) → IsIn other (cell ∷ []) → Rises other
    only other (inl e) = subst (λ (c : Cell). Rises c) e (two_rise cell a b (number_of_wires net) gate.two gate.one low_a low_b)
    only other (inr m) = absurd m

-- an open wire is spread by cells that rise over leaves: the wire and each new one is read by one of them or is a leaf
pub tree_step : (old new : PlainNetlist) (root more : ℕ) (cells : List Cell) (leaves before after debts : List ℕ) → IsLedger old before debts → new ≡ with_cells old cells
    → number_of_wires new ≡ number_of_wires old + more → flat_map outs cells ≡ range_with_len (number_of_wires old) more → ((cell : Cell) → IsIn cell cells → Rises cell)
    → ((wire : ℕ) → occurrences wire (flat_map reads cells) + occurrences wire leaves ≡ occurrences wire (root ∷ flat_map outs cells))
    → ((wire : ℕ) → occurrences wire after + occurrences wire (root ∷ []) ≡ occurrences wire before + occurrences wire leaves) → IsLedger new after debts
tree_step old new root more cells leaves before after debts ledger added wires drives rise once opened =
    cells_step old new before after debts debts ledger (record {
      cells = cells;
      added = added;
      more = more;
      wires = wires;
      drives = drives;
      balance = λ wire. let p = opened wire in let r = once wire in omega arith;
      opens = λ wire. let p = opened wire in let r = once wire in omega arith;
      rise = λ cell m droc. rise cell m;
    })

no_gate : (role : Role) (preload : Bool) (feed : WireId) (q n : Option WireId) (cell : Cell) → IsIn cell (Droc role preload feed q n ∷ []) → (IsDroc cell → ⊥) → Rises cell
no_gate role preload feed q n cell (inl e) gate = absurd (gate (subst (λ (c : Cell). IsDroc c) e tt))
no_gate role preload feed q n cell (inr m) gate = absurd m

-- the number of wires with a DROC more, whose outputs are the next wires
pub droc_wires : (net : PlainNetlist) (role : Role) (preload : Bool) (feed : WireId) (q n : Option WireId) (more : ℕ) → used q ++ used n ≡ range_with_len (number_of_wires net) more
    → feed.number < number_of_wires net + more → number_of_wires (with_cells net (Droc role preload feed q n ∷ [])) ≡ number_of_wires net + more
droc_wires net role preload feed q n more next low = number_of_wires-cell net (Droc role preload feed q n)
    ∙ ap (λ (l : List ℕ). max (number_of_wires net) (wire_bound (l ++ feed.number ∷ []))) next
    ∙ ap (max (number_of_wires net)) (wire_bound-append (range_with_len (number_of_wires net) more) (feed.number ∷ []))
    ∙ omega (arith, range_bound (number_of_wires net) more)

-- a DROC at the debt of its feed
pub droc_step : DrocsOpen
droc_step net role preload feed q n more open_wires debts ledger next low =
    cells_step net (with_cells net (Droc role preload feed q n ∷ [])) open_wires ((used q ++ used n) ++ open_wires) debts (feed.number ∷ debts) ledger (record {
      cells = Droc role preload feed q n ∷ [];
      added = refl;
      more = more;
      wires = droc_wires net role preload feed q n more next low;
      drives = append-nil (used q ++ used n) ∙ next;
      balance = λ wire. let a = occurrences-append wire (used q ++ used n) open_wires in let d = ap (occurrences wire) (append-nil (used q ++ used n)) in omega arith;
      opens = λ wire. let a = occurrences-append wire (used q ++ used n) open_wires in let d = ap (occurrences wire) (append-nil (used q ++ used n)) in omega arith;
      rise = no_gate role preload feed q n;
    })

still_gate : (place : ℕ) (wire : WireId) (cells : List Cell) (cell : Cell) → IsIn cell (cells_with_feed place wire cells) → (IsDroc cell → ⊥) → IsIn cell cells
still_gate place wire [] cell m gate = absurd m
still_gate zero wire (La a b out ∷ cells) cell m gate = m
still_gate zero wire (Fa a b out ∷ cells) cell m gate = m
still_gate zero wire (Split from left right ∷ cells) cell m gate = m
still_gate zero wire (Droc role preload feed q n ∷ cells) cell (inl e) gate = absurd (gate (subst (λ (c : Cell). IsDroc c) e tt))
still_gate zero wire (Droc role preload feed q n ∷ cells) cell (inr m) gate = inr m
still_gate (suc place) wire (first ∷ cells) cell (inl e) gate = inl e
still_gate (suc place) wire (first ∷ cells) cell (inr m) gate = inr (still_gate place wire cells cell m gate)

-- the number of wires where a DROC has another feed
pub fed_wires : (net : PlainNetlist) (place : ℕ) (role : Role) (preload : Bool) (feed wire : WireId) (q n : Option WireId) → slice_get net.cells place ≡ Some (Droc role preload feed q n)
    → feed.number ≤ wire.number → wire.number < number_of_wires net → number_of_wires (record net { cells = cells_with_feed place wire net.cells }) ≡ number_of_wires net
fed_wires net place role preload feed wire q n stands low inside =
    number_of_wires-fed net place wire (subst (λ (c : Option Cell). IsDrocUpTo c wire.number) (sym stands) low) ∙ omega arith

-- another feed
pub feed_step : FeedsTakeOver
feed_step net place role preload feed wire q n open_wires debts ledger stands low inside = record {
  in_order = rest.same_driven ∙ ledger.in_order ∙ ap (range_with_len 0) (sym wires);
  once = λ other.
      let d = ap (occurrences other) rest.same_driven in
      let m = rest.read_moved role preload feed q n stands other in
      let o = ledger.once other in omega arith;
  inside = λ other some. let i = ledger.inside other some in omega (arith, wires);
  rise = λ cell m gate. ledger.rise cell (still_gate place wire net.cells cell m gate) gate;
}
  where
    rest : LeavesRest net (record net { cells = cells_with_feed place wire net.cells }) place wire
    rest = leaves_rest wire net place

    wires : number_of_wires (record net { cells = cells_with_feed place wire net.cells }) ≡ number_of_wires net
    wires = fed_wires net place role preload feed wire q n stands low inside
