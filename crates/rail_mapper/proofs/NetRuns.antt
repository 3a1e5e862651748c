-- The netlist's runs follow those of the machine.
use Rattle.std.proofs.Common.{◌≡◌, ◌≤◌, ◌<◌, ◌+◌, inl, inr, ℕ, zero, suc, Bool, true, not, Option, Some, None, List, [], ◌∷◌, length, map, slice_get, ap, sym, subst, ◌∙◌, arith}
use Rattle.std.specs.List.{flat_map}
use Rattle.std.proofs.lemmas.Bool.{eq-eqb, eqb-true}
use Rattle.pulse_ids.specs.Ids.{NodeLit, WireId}
use Rattle.pulse_ids.specs.declared.literals.Sign.{Sign}
use Rattle.pulse_ids.specs.declared.literals.Sign.TheVariants.{Pos}
use Rattle.cell_netlist.specs.declared.kinds.Role.TheVariants.{Front, Back, Const}
use Rattle.cell_netlist.specs.declared.lines.Rail.{Rail}
use Rattle.cell_netlist.specs.declared.lines.Cell.{Cell}
use Rattle.cell_netlist.specs.declared.lines.Cell.TheVariants.{La, Fa, Split, Droc}
use Rattle.pulse_ids.specs.Lists.{IsIn, occurrences, bit_at}
use Rattle.cell_netlist.specs.Netlists.{PlainNetlist, wire_of, used, outs, reads, driven, read, number_of_wires}
use Rattle.cell_netlist.specs.RailEquations.{LatchState, IsRails, is_on, is_front_to, is_back_from, feed_of, preload_of, first_state, next_state, IsNetRunFrom}
use Rattle.cell_netlist.proofs.CallerLemmasOnLinks.{of_the-is}
use Rattle.cell_netlist.specs.Sound.{IsDrocOf, HasQ}
use Rattle.cell_netlist.specs.World.{has_sign}
use Rattle.pulse_ids.proofs.CallerLemmas.{IsIn-flat_map, IsIn-map, IsIn-left, IsIn-right}
use Rattle.aig_core.specs.Graphs.{count_of}
use Rattle.aig_core.specs.Tidy.{IsTidy}
use Rattle.aig_core.specs.Values.{bits_of, value_of}
use Rattle.aig_core.specs.Laws.{NodesHaveTheirBits}
use Rattle.source_machine.specs.Machines.{PlainMachine}
use Rattle.source_machine.specs.Runs.{IsRunFrom, bit_of, next_state as next_bits}
use Rattle.graph_build.specs.Built.{PlainBuilt, IsGraphOf}
use Rattle.cell_netlist.specs.NetRuns.{bits_in, latches_from}
use Rattle.rail_mapper.specs.Mapped.{state_from}
use Rattle.pulse_ids.specs.Literals.{rail_sign}
use Rattle.wire_ledgers.specs.Ledgers.{IsLedger}
use Rattle.rail_mapper.specs.Labels.{literal_number, rail_bit, rails_in, IsBackOf, IsLabelled, Matches}
use Rattle.pulse_ids.proofs.CallerLemmasOnCounts.{IsIn-occurrences, occurrences-IsIn, occurrences-append}
use Rattle.splitter_trees.proofs.CallerLemmasOnRanges.{range-once}
use Rattle.wire_ledgers.proofs.CallerLemmasOnRanges.{in_range}
use Rattle.rail_mapper.proofs.Values.{literal_rail_bit, rail_low, wires_have_values}

-- of two cells with a wire that stands once among theirs, one is the other
pub same_cell : (wires : Cell → List ℕ) (cells : List Cell) (wire : ℕ) (one other : Cell) → occurrences wire (flat_map wires cells) ≤ 1
    → IsIn one cells → IsIn other cells → IsIn wire (wires one) → IsIn wire (wires other) → one ≡ other
same_cell wires [] wire one other few m n i j = absurd m
same_cell wires (cell ∷ cells) wire one other few (inl e) (inl f) i j = sym e ∙ f
same_cell wires (cell ∷ cells) wire one other few (inl e) (inr n) i j =
    let a = occurrences-append wire (wires cell) (flat_map wires cells) in
    let b = IsIn-occurrences wire (wires cell) (subst (λ (c : Cell). IsIn wire (wires c)) (sym e) i) in
    let c = IsIn-occurrences wire (flat_map wires cells) (IsIn-flat_map wires wire other cells n j) in absurd (omega arith)
same_cell wires (cell ∷ cells) wire one other few (inr m) (inl f) i j =
    let a = occurrences-append wire (wires cell) (flat_map wires cells) in
    let b = IsIn-occurrences wire (wires cell) (subst (λ (c : Cell). IsIn wire (wires c)) (sym f) j) in
    let c = IsIn-occurrences wire (flat_map wires cells) (IsIn-flat_map wires wire one cells m i) in absurd (omega arith)
same_cell wires (cell ∷ cells) wire one other few (inr m) (inr n) i j =
    let a = occurrences-append wire (wires cell) (flat_map wires cells) in same_cell wires cells wire one other (omega arith) m n i j

on_used : (out : Option WireId) (link : ℕ) → is_on out link ≡ true → IsIn link (used out)
on_used None link e = absurd cc
on_used (Some wire) link e = inl (sym (eqb-true link wire.number e))

front_drives : (link : ℕ) (cell : Cell) → is_front_to link cell ≡ true → IsIn link (outs cell)
front_drives link (La a b out) e = absurd cc
front_drives link (Fa a b out) e = absurd cc
front_drives link (Split from left right) e = absurd cc
front_drives link (Droc Front preload feed q n) e = IsIn-left link (used q) (used n) (on_used q link e)
front_drives link (Droc Back preload feed q n) e = absurd cc
front_drives link (Droc Const preload feed q n) e = absurd cc

front_is : (link feed : ℕ) (preload : Bool) (cell : Cell) → IsDrocOf cell Front preload feed → HasQ cell link → (is_front_to link cell ≡ true) × (feed_of cell ≡ feed)
front_is link feed preload (La a b out) d q = absurd d
front_is link feed preload (Fa a b out) d q = absurd d
front_is link feed preload (Split from left right) d q = absurd d
front_is link feed preload (Droc Front p f None n) d q = absurd q
front_is link feed preload (Droc Front p f (Some w) n) d q = (eq-eqb link w.number (sym q), d.2)
front_is link feed preload (Droc Back p f q n) d h = let e : Back ≡ Front = d.0 in absurd cc
front_is link feed preload (Droc Const p f q n) d h = let e : Const ≡ Front = d.0 in absurd cc

back_reads : (link : ℕ) (cell : Cell) → is_back_from link cell ≡ true → IsIn link (reads cell)
back_reads link (La a b out) e = absurd cc
back_reads link (Fa a b out) e = absurd cc
back_reads link (Split from left right) e = absurd cc
back_reads link (Droc Front preload feed q n) e = absurd cc
back_reads link (Droc Back preload feed q n) e = inl (sym (eqb-true link feed.number e))
back_reads link (Droc Const preload feed q n) e = absurd cc

back_is : (link : ℕ) (preload : Bool) (cell : Cell) → IsDrocOf cell Back preload link → (is_back_from link cell ≡ true) × (preload_of cell ≡ preload)
back_is link preload (La a b out) d = absurd d
back_is link preload (Fa a b out) d = absurd d
back_is link preload (Split from left right) d = absurd d
back_is link preload (Droc Front p f q n) d = let e : Front ≡ Back = d.0 in absurd cc
back_is link preload (Droc Back p f q n) d = (eq-eqb link f.number (sym d.2), d.1)
back_is link preload (Droc Const p f q n) d = let e : Const ≡ Back = d.0 in absurd cc

-- a bit by its place
bit_of_item : (bits : List Bool) (place : ℕ) (bit : Bool) → slice_get bits place ≡ Some bit → bit_at bits place ≡ bit
bit_of_item [] place bit e = absurd cc
bit_of_item (b ∷ bits) zero bit e = cc
bit_of_item (b ∷ bits) (suc place) bit e = bit_of_item bits place bit e

bit_of_mapped : {X : Type 0} (f : X → Bool) (xs : List X) (place : ℕ) (x : X) → slice_get xs place ≡ Some x → bit_at (map f xs) place ≡ f x
bit_of_mapped f [] place x e = absurd cc
bit_of_mapped f (y ∷ xs) zero x e = let same : y ≡ x = cc in ap f same
bit_of_mapped f (y ∷ xs) (suc place) x e = bit_of_mapped f xs place x e

module _ (net : PlainNetlist) (ledger : IsLedger net [] []) where
  pub driven_few : (wire : ℕ) → occurrences wire (driven net) ≤ 1
  driven_few wire = rw ledger.in_order (range-once 0 (number_of_wires net) wire)

  pub cells_few : (wire : ℕ) → occurrences wire (flat_map outs net.cells) ≤ 1
  cells_few wire = let d = driven_few wire in let a = occurrences-append wire (map wire_of net.input_rails) (flat_map outs net.cells) in omega arith

  pub reads_few : (wire : ℕ) → occurrences wire (flat_map reads net.cells) ≤ 1
  reads_few wire = let d = driven_few wire in let o = ledger.once wire in let a = occurrences-append wire (flat_map reads net.cells) (map wire_of net.output_rails) in omega arith

module _ (built : PlainBuilt) (label : ℕ → ℕ) (net : PlainNetlist) (ledger : IsLedger net [] [])
    (labelled : IsLabelled built label net) (tidy : IsTidy built.graph) (law : NodesHaveTheirBits) where
  -- the back of a link with its record
  back_of : (link : ℕ) (preload : Bool) (cell : Cell) → IsIn cell net.cells → IsDrocOf cell Back preload link → (q : Option WireId) × (n : Option WireId) × IsBackOf built label net preload link q n
  back_of link preload (La a b out) m d = absurd d
  back_of link preload (Fa a b out) m d = absurd d
  back_of link preload (Split from left right) m d = absurd d
  back_of link preload (Droc Front p f q n) m d = let e : Front ≡ Back = d.0 in absurd cc
  back_of link preload (Droc Const p f q n) m d = let e : Const ≡ Back = d.0 in absurd cc
  back_of link preload (Droc Back p f q n) m d =
      (q, n, subst (λ (k : ℕ). IsBackOf built label net preload k q n) d.2 (subst (λ (b : Bool). IsBackOf built label net b f.number q n) d.1 (labelled.cells (Droc Back p f q n) m)))

  latch_is : (latch other : ℕ) → rails_in built + latch ≡ rails_in built + other → latch ≡ other
  latch_is latch other e = omega arith

  read_inside : (wire : ℕ) → IsIn wire (read net) → wire < number_of_wires net
  read_inside wire m =
      let o = ledger.once wire in let k = IsIn-occurrences wire (read net) m in
      let r = in_range 0 (number_of_wires net) wire (subst (λ (l : List ℕ). IsIn wire l) ledger.in_order (occurrences-IsIn wire (driven net) (omega arith))) in omega arith

  fed_inside : (feed : ℕ) (preload : Bool) (cell : Cell) → IsIn cell net.cells → IsDrocOf cell Front preload feed → feed < number_of_wires net
  fed_inside feed preload cell m d = read_inside feed (IsIn-left feed (flat_map reads net.cells) (map wire_of net.output_rails) (IsIn-flat_map reads feed cell net.cells m (its_feed cell d)))
    where
      its_feed : (cell : Cell) → IsDrocOf cell Front preload feed → IsIn feed (reads cell)
      its_feed (La a b out) d = absurd d
      its_feed (Fa a b out) d = absurd d
      its_feed (Split from left right) d = absurd d
      its_feed (Droc role p f q n) d = inl d.2

  pub starts : Matches built label net built.inits (first_state net)
  starts link latch preload back e =
      let b = back_of link preload back.back back.among back.role in
      let same : b.2.latch ≡ latch = latch_is b.2.latch latch (sym b.2.link_is ∙ e) in
      let is = back_is link preload back.back back.role in
      of_the-is (is_back_from link) preload_of back.back net.cells back.among is.0
      (λ other k t. same_cell reads net.cells link other back.back (reads_few net ledger link) k back.among (back_reads link other t) (back_reads link back.back is.0))
      ∙ is.1 ∙ sym (bit_of_item built.inits b.2.latch preload b.2.first) ∙ ap (bit_at built.inits) same

  module _ (state vector : List Bool) (latches : LatchState) (bits : List Bool) (rails : IsRails net latches vector bits) (matches : Matches built label net state latches) where
    -- the bit of a wire that carries a rail of a literal
    literal_wire : (wire : ℕ) (literal : NodeLit) (sign : Sign) → wire < number_of_wires net → label wire ≡ literal_number literal sign → literal.id.number < count_of built.graph
        → bit_at bits wire ≡ has_sign (value_of built.graph state vector literal) sign
    literal_wire wire literal sign inside e low =
        wires_have_values built label net [] [] ledger labelled tidy law state vector latches bits rails matches wire inside (rw e (rail_low built literal.id.number (rail_sign literal sign) low))
        ∙ ap (rail_bit (bits_of built.graph state vector)) e ∙ literal_rail_bit (bits_of built.graph state vector) literal sign

    pub goes_on : Matches built label net (map (value_of built.graph state vector) built.nexts) (next_state net bits)
    goes_on link latch preload back e =
        let b = back_of link preload back.back back.among back.role in
        let same : b.2.latch ≡ latch = latch_is b.2.latch latch (sym b.2.link_is ∙ e) in
        let is = front_is link b.2.feed (not preload) b.2.front b.2.role b.2.joined in
        of_the-is (is_front_to link) (λ cell. bit_at bits (feed_of cell)) b.2.front net.cells b.2.among is.0
        (λ other k t. same_cell outs net.cells link other b.2.front (cells_few net ledger link) k b.2.among (front_drives link other t) (front_drives link b.2.front is.0))
        ∙ ap (bit_at bits) is.1 ∙ literal_wire b.2.feed b.2.next Pos (fed_inside b.2.feed (not preload) b.2.front b.2.among b.2.role) b.2.feed_is b.2.within
        ∙ sym (bit_of_mapped (value_of built.graph state vector) built.nexts b.2.latch b.2.next b.2.holds) ∙ ap (bit_at (map (value_of built.graph state vector) built.nexts)) same

    pub outputs_carry : (rail : Rail) → IsIn rail net.output_rails → bit_at bits (wire_of rail) ≡ has_sign (bit_at (map (value_of built.graph state vector) built.outputs) rail.port) rail.sign
    outputs_carry rail m =
        let out = labelled.outputs rail m in
        literal_wire (wire_of rail) out.literal rail.sign (read_inside (wire_of rail)
        (IsIn-right (wire_of rail) (flat_map reads net.cells) (map wire_of net.output_rails) (IsIn-map wire_of rail net.output_rails m))) out.wire_is out.within
        ∙ ap (λ (b : Bool). has_sign b rail.sign) (sym (bit_of_mapped (value_of built.graph state vector) built.outputs rail.port out.literal out.stands))

  -- the netlist's run and the machine's
  module _ (machine : PlainMachine) (graph : IsGraphOf machine built) where
    pub runs_agree : (vectors run valuations : List (List Bool)) (state : List Bool) (latches : LatchState) → Matches built label net state latches
        → IsNetRunFrom net latches vectors run → IsRunFrom machine state vectors valuations
        → (cycle : ℕ) (vector : List Bool) → slice_get vectors cycle ≡ Some vector → (rail : Rail) → IsIn rail net.output_rails
        → bit_at (bits_in run cycle) (wire_of rail) ≡ has_sign (bit_of machine valuations cycle rail.port) rail.sign
    runs_agree [] run valuations state latches matches r v cycle vector e rail m = absurd cc
    runs_agree (first ∷ vectors) [] valuations state latches matches r v cycle vector e rail m = absurd r
    runs_agree (first ∷ vectors) (bits ∷ run) [] state latches matches r v cycle vector e rail m = absurd v
    runs_agree (first ∷ vectors) (bits ∷ run) (valuation ∷ valuations) state latches matches r v zero vector e rail m =
        outputs_carry state first latches bits r.0 matches rail m
        ∙ ap (λ (l : List Bool). has_sign (bit_at l rail.port) rail.sign) (graph.output_values state first valuation v.0)
    runs_agree (first ∷ vectors) (bits ∷ run) (valuation ∷ valuations) state latches matches r v (suc cycle) vector e rail m =
        runs_agree vectors run valuations (next_bits machine valuation) (next_state net bits)
        (subst (λ (s : List Bool). Matches built label net s (next_state net bits)) (graph.next_values state first valuation v.0) (goes_on state first latches bits r.0 matches))
        r.1 v.1 cycle vector e rail m

    -- and their states
    pub states_agree : (vectors run valuations : List (List Bool)) (state : List Bool) (latches : LatchState) → Matches built label net state latches
        → IsNetRunFrom net latches vectors run → IsRunFrom machine state vectors valuations
        → (cycle : ℕ) → cycle ≤ length vectors → Matches built label net (state_from machine state valuations cycle) (latches_from net latches run cycle)
    states_agree vectors run valuations state latches matches r v zero le = matches
    states_agree [] run valuations state latches matches r v (suc cycle) le = absurd (omega arith)
    states_agree (first ∷ vectors) [] valuations state latches matches r v (suc cycle) le = absurd r
    states_agree (first ∷ vectors) (bits ∷ run) [] state latches matches r v (suc cycle) le = absurd v
    states_agree (first ∷ vectors) (bits ∷ run) (valuation ∷ valuations) state latches matches r v (suc cycle) le =
        later cycle (states_agree vectors run valuations (next_bits machine valuation) (next_state net bits)
        (subst (λ (s : List Bool). Matches built label net s (next_state net bits)) (graph.next_values state first valuation v.0) (goes_on state first latches bits r.0 matches))
        r.1 v.1 cycle (omega (arith, le)))
      where
        later : (cycle : ℕ) → Matches built label net (state_from machine (next_bits machine valuation) valuations cycle) (latches_from net (next_state net bits) run cycle)
            → Matches built label net (state_from machine state (valuation ∷ valuations) (suc cycle)) (latches_from net latches (bits ∷ run) (suc cycle))
        later zero m = m
        later (suc cycle) m = m
