-- Each wire has the value of the rail that it carries.
use Rattle.std.proofs.Common.{◌≡◌, ◌≤◌, ◌<◌, ◌+◌, ◌*◌, ◌/◌, ◌%◌, ◌==◌, inl, inr, ℕ, zero, suc, Bool, true, false, not, ◌&&◌, ◌||◌, Option, Some, None, List, [], ◌∷◌, map, ap, sym, subst, ◌∙◌}
use Rattle.std.proofs.Common.{refl, arith, if◌then◌else◌}
use Rattle.std.specs.List.{flat_map}
use Rattle.std.proofs.lemmas.Bool.{eq-eqb, ne_eqb}
use Rattle.pulse_ids.specs.Ids.{NodeLit, WireId}
use Rattle.pulse_ids.specs.Literals.{flipped, rail_sign}
use Rattle.pulse_ids.specs.declared.literals.Sign.{Sign}
use Rattle.pulse_ids.specs.declared.literals.Sign.TheVariants.{Pos, Neg}
use Rattle.cell_netlist.specs.declared.kinds.Role.TheVariants.{Front, Back, Const}
use Rattle.cell_netlist.specs.declared.lines.Rail.{Rail}
use Rattle.cell_netlist.specs.declared.lines.Cell.{Cell}
use Rattle.cell_netlist.specs.declared.lines.Cell.TheVariants.{La, Fa, Split, Droc}
use Rattle.pulse_ids.specs.Lists.{IsIn, bit_at}
use Rattle.cell_netlist.specs.Netlists.{PlainNetlist, wire_of, used, outs, reads, number_of_wires}
use Rattle.cell_netlist.specs.RailEquations.{LatchState, CarriesIfUsed, IsRails}
use Rattle.cell_netlist.specs.Sound.{IsBackFrom}
use Rattle.cell_netlist.specs.World.{has_sign}
use Rattle.pulse_ids.proofs.CallerLemmas.{IsIn-append, IsIn-from_map, IsIn-from_flat_map}
use Rattle.aig_core.specs.Graphs.{count_of}
use Rattle.aig_core.specs.Tidy.{IsTidy}
use Rattle.aig_core.specs.Values.{literal_bit, bits_of}
use Rattle.aig_core.specs.Laws.{NodesHaveTheirBits}
use Rattle.graph_build.specs.Built.{PlainBuilt}
use Rattle.wire_ledgers.specs.Ledgers.{IsLedger}
use Rattle.rail_mapper.specs.Labels.{rail_number, literal_number, rail_bit, rails_in, IsGateOfNode, IsLabelledIfUsed, IsBackOf, IsLabelled}
use Rattle.wire_ledgers.proofs.CallerLemmasOnRanges.{range_has}
use Rattle.aig_core.specs.declared.nodes.Node.TheVariants as nodes

-- the value of a rail by its number
pub rail_bit_is : (bits : List Bool) (node : ℕ) (sign : Sign) → rail_bit bits (rail_number node sign) ≡ has_sign (bit_at bits node) sign
rail_bit_is bits node Pos =
    let half : 2 * node / 2 ≡ node = omega arith in
    let even : (2 * node % 2 == 0) ≡ true = eq-eqb (2 * node % 2) 0 (omega arith) in
    rw (half, even) refl
rail_bit_is bits node Neg =
    let half : (2 * node + 1) / 2 ≡ node = omega arith in
    let odd : ((2 * node + 1) % 2 == 0) ≡ false = ne_eqb ((2 * node + 1) % 2) 0 (omega arith) in
    rw (half, odd) refl

pub rail_low : (built : PlainBuilt) (node : ℕ) (sign : Sign) → node < count_of built.graph → rail_number node sign < rails_in built
rail_low built node Pos low = omega arith
rail_low built node Neg low = omega arith

-- the value of a literal's rail
pub literal_rail_bit : (bits : List Bool) (literal : NodeLit) (sign : Sign) → rail_bit bits (literal_number literal sign) ≡ has_sign (literal_bit bits literal) sign
literal_rail_bit bits literal sign = rail_bit_is bits literal.id.number (rail_sign literal sign) ∙ by literal.negated sign (bit_at bits literal.id.number)
  where
    by : (negated : Bool) (sign : Sign) (bit : Bool) → has_sign bit (if negated then flipped sign else sign) ≡ has_sign (if negated then not bit else bit) sign
    by true Pos bit = refl
    by true Neg true = refl
    by true Neg false = refl
    by false sign bit = refl

not_and : (a b : Bool) → (not a || not b) ≡ not (a && b)
not_and true b = refl
not_and false b = refl

module _ (built : PlainBuilt) (label : ℕ → ℕ) (net : PlainNetlist) (open_wires debts : List ℕ) (ledger : IsLedger net open_wires debts)
    (labelled : IsLabelled built label net) (tidy : IsTidy built.graph) (law : NodesHaveTheirBits)
    (state vector : List Bool) (latches : LatchState) (bits : List Bool) (rails : IsRails net latches vector bits)
    (matches : (link latch : ℕ) (preload : Bool) → IsBackFrom net link preload → label link ≡ rails_in built + latch → latches link ≡ bit_at state latch) where
  abbrev node_bits : List Bool
  node_bits = bits_of built.graph state vector

  abbrev HasValue : ℕ → Type 0
  HasValue wire = label wire < rails_in built → bit_at bits wire ≡ rail_bit node_bits (label wire)

  carried : (out : Option WireId) (value : Bool) (rail wire : ℕ) → CarriesIfUsed (bit_at bits) out value → IsLabelledIfUsed label out rail → IsIn wire (used out)
      → rail_bit node_bits rail ≡ value → bit_at bits wire ≡ rail_bit node_bits (label wire)
  carried None value rail wire c l m e = absurd m
  carried (Some out) value rail wire c l (inl same) e = subst (λ (w : ℕ). bit_at bits w ≡ rail_bit node_bits (label w)) same (c ∙ sym e ∙ ap (rail_bit node_bits) (sym l))
  carried (Some out) value rail wire c l (inr m) e = absurd m

  port_value : (sign : Sign) (port node : ℕ) (literal : NodeLit) → label port ≡ literal_number literal sign → literal.id.number < node → node < count_of built.graph → HasValue port
      → bit_at bits port ≡ has_sign (literal_bit node_bits literal) sign
  port_value sign port node literal e low inside has =
      has (rw e (rail_low built literal.id.number (rail_sign literal sign) (omega arith))) ∙ ap (rail_bit node_bits) e ∙ literal_rail_bit node_bits literal sign

  by_cell : (wire : ℕ) (cell : Cell) → IsIn cell net.cells → IsIn wire (outs cell) → ((port : ℕ) → IsIn port (reads cell) → port < wire → HasValue port) → HasValue wire
  by_cell wire (La a b out) m (inl same) below low =
      let gate : IsGateOfNode built label Pos a.number b.number out.number = labelled.cells (La a b out) m in
      let va = port_value Pos a.number gate.node gate.low gate.a_is gate.low_before gate.inside
      (below a.number (inl refl) (ledger.rise (La a b out) m (λ d. absurd d) a.number wire (inl refl) (inl same))) in
      let vb = port_value Pos b.number gate.node gate.high gate.b_is gate.high_before gate.inside
      (below b.number (inr (inl refl)) (ledger.rise (La a b out) m (λ d. absurd d) b.number wire (inr (inl refl)) (inl same))) in
      let eq : bit_at bits out.number ≡ (bit_at bits a.number && bit_at bits b.number) = rails.cells (La a b out) m in
      let node = law built.graph tidy state vector gate.node (nodes.And gate.low gate.high) gate.stands in
      subst (λ (w : ℕ). bit_at bits w ≡ rail_bit node_bits (label w)) same
      (eq ∙ ap (λ (x : Bool). x && bit_at bits b.number) va ∙ ap (λ (x : Bool). literal_bit node_bits gate.low && x) vb ∙ sym node ∙ sym (rail_bit_is node_bits gate.node Pos)
      ∙ ap (rail_bit node_bits) (sym gate.out_is))
  by_cell wire (La a b out) m (inr o) below low = absurd o
  by_cell wire (Fa a b out) m (inl same) below low =
      let gate : IsGateOfNode built label Neg a.number b.number out.number = labelled.cells (Fa a b out) m in
      let va = port_value Neg a.number gate.node gate.low gate.a_is gate.low_before gate.inside
      (below a.number (inl refl) (ledger.rise (Fa a b out) m (λ d. absurd d) a.number wire (inl refl) (inl same))) in
      let vb = port_value Neg b.number gate.node gate.high gate.b_is gate.high_before gate.inside
      (below b.number (inr (inl refl)) (ledger.rise (Fa a b out) m (λ d. absurd d) b.number wire (inr (inl refl)) (inl same))) in
      let eq : bit_at bits out.number ≡ (bit_at bits a.number || bit_at bits b.number) = rails.cells (Fa a b out) m in
      let node = law built.graph tidy state vector gate.node (nodes.And gate.low gate.high) gate.stands in
      subst (λ (w : ℕ). bit_at bits w ≡ rail_bit node_bits (label w)) same
      (eq ∙ ap (λ (x : Bool). x || bit_at bits b.number) va ∙ ap (λ (x : Bool). not (literal_bit node_bits gate.low) || x) vb
      ∙ not_and (literal_bit node_bits gate.low) (literal_bit node_bits gate.high) ∙ ap not (sym node) ∙ sym (rail_bit_is node_bits gate.node Neg) ∙ ap (rail_bit node_bits) (sym gate.out_is))
  by_cell wire (Fa a b out) m (inr o) below low = absurd o
  by_cell wire (Split from left right) m o below low =
      let same : (label left.number ≡ label from.number) × (label right.number ≡ label from.number) = labelled.cells (Split from left right) m in
      let eq : (bit_at bits left.number ≡ bit_at bits from.number) × (bit_at bits right.number ≡ bit_at bits from.number) = rails.cells (Split from left right) m in
      let above = below from.number (inl refl) (ledger.rise (Split from left right) m (λ d. absurd d) from.number wire (inl refl) o) in
      copied o same eq above
    where
      copied : IsIn wire (left.number ∷ right.number ∷ []) → (label left.number ≡ label from.number) × (label right.number ≡ label from.number)
          → (bit_at bits left.number ≡ bit_at bits from.number) × (bit_at bits right.number ≡ bit_at bits from.number) → HasValue from.number → bit_at bits wire ≡ rail_bit node_bits (label wire)
      copied (inl e) same eq above =
          let l : label wire ≡ label from.number = ap label (sym e) ∙ same.0 in
          ap (bit_at bits) (sym e) ∙ eq.0 ∙ above (rw (← l) low) ∙ ap (rail_bit node_bits) (sym l)
      copied (inr (inl e)) same eq above =
          let l : label wire ≡ label from.number = ap label (sym e) ∙ same.1 in
          ap (bit_at bits) (sym e) ∙ eq.1 ∙ above (rw (← l) low) ∙ ap (rail_bit node_bits) (sym l)
      copied (inr (inr n)) same eq above = absurd n
  by_cell wire (Droc Front preload feed q (Some n)) m o below low =
      let none : Some n ≡ None = (labelled.cells (Droc Front preload feed q (Some n)) m).0 in absurd cc
  by_cell wire (Droc Front preload feed None None) m o below low = absurd o
  by_cell wire (Droc Front preload feed (Some q) None) m (inr o) below low = absurd o
  by_cell wire (Droc Front preload feed (Some q) None) m (inl same) below low =
      let fits = labelled.cells (Droc Front preload feed (Some q) None) m in
      let link : q.number ≡ fits.1 = fits.2 in
      let high : rails_in built ≤ label fits.1 = fits.3 in
      let e : label wire ≡ label fits.1 = ap label (sym same ∙ link) in absurd (omega arith)
  by_cell wire (Droc Back preload feed q n) m o below low =
      let back : IsBackOf built label net preload feed.number q n = labelled.cells (Droc Back preload feed q n) m in
      let eq : CarriesIfUsed (bit_at bits) q (latches feed.number) × CarriesIfUsed (bit_at bits) n (not (latches feed.number)) = rails.cells (Droc Back preload feed q n) m in
      let held : latches feed.number ≡ bit_at state back.latch =
      matches feed.number back.latch preload (record { back = Droc Back preload feed q n; among = m; role = (refl, refl, refl) }) back.link_is in
      let node = law built.graph tidy state vector back.node (nodes.Latch back.latch) back.stands in
      elim (IsIn-append wire (used q) (used n) o) [
        | inl h ↦ carried q (latches feed.number) (rail_number back.node Pos) wire eq.0 back.q_is h (rail_bit_is node_bits back.node Pos ∙ node ∙ sym held)
        | inr h ↦ carried n (not (latches feed.number)) (rail_number back.node Neg) wire eq.1 back.n_is h (rail_bit_is node_bits back.node Neg ∙ ap not (node ∙ sym held))
      ]
  by_cell wire (Droc Const preload feed q n) m o below low =
      let fits : (preload ≡ true) × IsLabelledIfUsed label q (rail_number 0 Neg) × IsLabelledIfUsed label n (rail_number 0 Pos) =
      ((labelled.cells (Droc Const preload feed q n) m).0, (labelled.cells (Droc Const preload feed q n) m).1, (labelled.cells (Droc Const preload feed q n) m).2) in
      let eq : CarriesIfUsed (bit_at bits) q preload × CarriesIfUsed (bit_at bits) n (not preload) = rails.cells (Droc Const preload feed q n) m in
      let node = law built.graph tidy state vector 0 nodes.False refl in
      elim (IsIn-append wire (used q) (used n) o) [
        | inl h ↦ carried q preload (rail_number 0 Neg) wire eq.0 fits.1 h (rail_bit_is node_bits 0 Neg ∙ ap not node ∙ sym fits.0)
        | inr h ↦ carried n (not preload) (rail_number 0 Pos) wire eq.1 fits.2 h (rail_bit_is node_bits 0 Pos ∙ node ∙ ap not (sym fits.0))
      ]

  by_rail : (wire : ℕ) (rail : Rail) → IsIn rail net.input_rails → wire_of rail ≡ wire → bit_at bits wire ≡ rail_bit node_bits (label wire)
  by_rail wire rail m same =
      let input = labelled.inputs rail m in
      let node = law built.graph tidy state vector input.node (nodes.Input rail.port) input.stands in
      subst (λ (w : ℕ). bit_at bits w ≡ rail_bit node_bits (label w)) same
      (rails.rails rail m ∙ ap (λ (b : Bool). has_sign b rail.sign) (sym node) ∙ sym (rail_bit_is node_bits input.node rail.sign) ∙ ap (rail_bit node_bits) (sym input.wire_is))

  valued_below : (bound wire : ℕ) → wire < bound → wire < number_of_wires net → HasValue wire
  valued_below zero wire low inside labelled_low = absurd (omega arith)
  valued_below (suc bound) wire low inside labelled_low =
      let m = subst (λ (l : List ℕ). IsIn wire l) (sym ledger.in_order) (range_has 0 (number_of_wires net) wire (omega arith) (omega arith)) in
      elim (IsIn-append wire (map wire_of net.input_rails) (flat_map outs net.cells) m) [
        | inl h ↦ let r = IsIn-from_map wire_of wire net.input_rails h in by_rail wire r.0 r.1 r.2
        | inr h ↦ let c = IsIn-from_flat_map outs wire net.cells h in
            by_cell wire c.0 c.1 c.2 (λ port r below. valued_below bound port (omega arith) (omega arith)) labelled_low
      ]

  -- every wire that carries a rail has its value
  pub wires_have_values : (wire : ℕ) → wire < number_of_wires net → HasValue wire
  wires_have_values wire inside = valued_below (suc wire) wire (omega arith) inside
