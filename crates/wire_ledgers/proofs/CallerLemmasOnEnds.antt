-- What a ledger of open wires comes to: the lemmas that the crates above may cite.
use Rattle.std.proofs.Common.{◌≡◌, ◌<◌, inl, inr, ℕ, zero, suc, List, [], map, ap, sym, subst, ◌∙◌, arith}
use Rattle.std.specs.List.{flat_map}
use Rattle.pulse_ids.specs.Lists.{IsIn, occurrences}
use Rattle.pulse_ids.proofs.CallerLemmas.{IsIn-append, IsIn-right, IsIn-flat_map, IsIn-from_map, IsIn-from_flat_map}
use Rattle.cell_netlist.specs.declared.lines.Cell.{Cell}
use Rattle.cell_netlist.specs.declared.lines.Cell.TheVariants.{La, Fa, Split, Droc}
use Rattle.cell_netlist.specs.Netlists.{PlainNetlist, wire_of, outs, reads, driven, number_of_wires, Grounded, of_rail, of_droc, of_gate}
use Rattle.wire_ledgers.specs.Ledgers.{IsLedger}
use Rattle.wire_ledgers.specs.Laws.{ClosedLedgersAreWired, LedgersAreGrounded, ClosedLedgersAreSound}
use Rattle.splitter_trees.proofs.CallerLemmasOnRanges.{range-holds}
use Rattle.wire_ledgers.proofs.CallerLemmasOnRanges.{in_range, range_has}

-- each wire is driven once
pub ledger_driven : (net : PlainNetlist) (open_wires debts : List ℕ) → IsLedger net open_wires debts → (wire : ℕ) → wire < number_of_wires net → occurrences wire (driven net) ≡ 1
ledger_driven net open_wires debts ledger wire low = ap (occurrences wire) ledger.in_order ∙ range-holds 0 (number_of_wires net) wire (omega arith) (omega arith)

-- a ledger with nothing open and no debts
pub closed_wired : ClosedLedgersAreWired
closed_wired net ledger = record {
  all_driven = λ wire low. let e = ledger_driven net [] [] ledger wire low in omega arith;
  none_driven_twice = λ wire low. let e = ledger_driven net [] [] ledger wire low in omega arith;
  all_read = λ wire low. let e = ledger_driven net [] [] ledger wire low in let o = ledger.once wire in omega arith;
  none_read_twice = λ wire low. let e = ledger_driven net [] [] ledger wire low in let o = ledger.once wire in omega arith;
}

module _ (net : PlainNetlist) (open_wires debts : List ℕ) (ledger : IsLedger net open_wires debts) where
  by_cell : (wire : ℕ) (cell : Cell) → IsIn cell net.cells → IsIn wire (outs cell) → ((port : ℕ) → IsIn port (reads cell) → port < wire → Grounded net port) → Grounded net wire
  by_cell wire (La a b out) m o below = of_gate wire (La a b out) m (λ d. absurd d) o (λ port r. below port r (ledger.rise (La a b out) m (λ d. absurd d) port wire r o))
  by_cell wire (Fa a b out) m o below = of_gate wire (Fa a b out) m (λ d. absurd d) o (λ port r. below port r (ledger.rise (Fa a b out) m (λ d. absurd d) port wire r o))
  by_cell wire (Split from left right) m o below =
      of_gate wire (Split from left right) m (λ d. absurd d) o (λ port r. below port r (ledger.rise (Split from left right) m (λ d. absurd d) port wire r o))
  by_cell wire (Droc role preload feed q n) m o below = of_droc wire (Droc role preload feed q n) m tt o

  grounded_below : (bound wire : ℕ) → wire < bound → wire < number_of_wires net → Grounded net wire
  grounded_below zero wire low inside = absurd (omega arith)
  grounded_below (suc bound) wire low inside =
      let m : IsIn wire (driven net) = subst (λ (l : List ℕ). IsIn wire l) (sym ledger.in_order) (range_has 0 (number_of_wires net) wire (omega arith) (omega arith)) in
      elim (IsIn-append wire (map wire_of net.input_rails) (flat_map outs net.cells) m) [
        | inl h ↦ let r = IsIn-from_map wire_of wire net.input_rails h in of_rail wire r.0 r.1 r.2
        | inr h ↦ let c = IsIn-from_flat_map outs wire net.cells h in
            by_cell wire c.0 c.1 c.2 (λ port r below. grounded_below bound port (omega arith) (omega arith))
      ]

  -- what a cell drives is one of the netlist's wires
  pub driven_inside : (cell : Cell) → IsIn cell net.cells → (wire : ℕ) → IsIn wire (outs cell) → wire < number_of_wires net
  driven_inside cell m wire o =
      let d : IsIn wire (driven net) = IsIn-right wire (map wire_of net.input_rails) (flat_map outs net.cells) (IsIn-flat_map outs wire cell net.cells m o) in
      let r = in_range 0 (number_of_wires net) wire (subst (λ (l : List ℕ). IsIn wire l) ledger.in_order d) in omega arith

-- every wire is grounded
pub all_grounded : LedgersAreGrounded
all_grounded net open_wires debts ledger wire low = grounded_below net open_wires debts ledger (suc wire) wire (omega arith) low

pub closed_sound : ClosedLedgersAreSound
closed_sound net ledger rules = record {
  wired = closed_wired net ledger;
  input_ports = rules.input_ports;
  output_ports = rules.output_ports;
  none_twice = rules.none_twice;
  grounded = λ cell m gate wire o. all_grounded net [] [] ledger wire (driven_inside net [] [] ledger cell m wire o);
  roles = rules.roles;
  preloads = rules.preloads;
  states = rules.states;
}
