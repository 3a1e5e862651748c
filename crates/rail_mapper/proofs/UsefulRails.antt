-- Each needed rail is carried by a useful wire that no splitter drives.
use Rattle.std.proofs.Common.{◌≡◌, ◌<◌, inl, ℕ, zero, suc, not, Some, slice_get, ap, sym, subst, ◌∙◌, refl, arith, Contains}
use Rattle.pulse_ids.specs.Ids.{NodeLit}
use Rattle.pulse_ids.specs.Lists.{IsIn}
use Rattle.pulse_ids.specs.Literals.{rail_sign}
use Rattle.pulse_ids.specs.declared.literals.Sign.{Sign}
use Rattle.pulse_ids.specs.declared.literals.Sign.TheVariants.{Pos}
use Rattle.cell_netlist.specs.declared.kinds.Ask.{Ask}
use Rattle.cell_netlist.specs.declared.kinds.Role.TheVariants.{Front, Back}
use Rattle.cell_netlist.specs.declared.lines.Rail.{Rail}
use Rattle.cell_netlist.specs.declared.lines.Cell.{Cell}
use Rattle.cell_netlist.specs.declared.lines.Cell.TheVariants.{La, Fa, Split, Droc}
use Rattle.cell_netlist.specs.Asked.{signs_of}
use Rattle.cell_netlist.specs.Lean.{Useful, of_output, of_cell}
use Rattle.cell_netlist.specs.Netlists.{PlainNetlist, wire_of, reads, number_of_wires, Splits, SplittersBelow}
use Rattle.cell_netlist.specs.Sound.{IsSound}
use Rattle.cell_netlist.proofs.CallerLemmas.{named_below, wire_root}
use Rattle.cell_netlist.proofs.CallerLemmasOnDrivers.{droc-reads}
use Rattle.aig_core.specs.declared.nodes.Node.TheVariants as nodes
use Rattle.aig_core.specs.Graphs.{nodes_of}
use Rattle.graph_build.specs.Built.{PlainBuilt}
use Rattle.rail_demand.specs.Demands.{IsRailOf, of_low, of_high, of_next, Needed, of_user}
use Rattle.rail_demand.specs.Demands.{of_output as needed_output}
use Rattle.rail_mapper.specs.FanOuts.{IsTop}
use Rattle.rail_mapper.specs.Labels.{rail_number, literal_number, rails_in, IsLabelled}
use Rattle.rail_mapper.proofs.FanOuts.{split_from_below}
use Rattle.rail_mapper.proofs.RailDrivers.{q_drives, chain_label, IsDrivenFor, of_input, of_gate, of_back, of_constant, driven_for}

-- a splitter's input is useful where an output is, and so is the root of a useful wire
up_split : (net : PlainNetlist) (cell : Cell) (from to : ℕ) → IsIn cell net.cells → Splits cell from to → Useful net to → Useful net from
up_split net (La a b out) from to m s u = absurd s
up_split net (Fa a b out) from to m s u = absurd s
up_split net (Droc role preload feed q n) from to m s u = absurd s
up_split net (Split source left right) from to m s u = of_cell from (Split source left right) m (inl s.0) to s.1 u

up_chain : (net : PlainNetlist) (n from to : ℕ) → SplittersBelow net n from to → Useful net to → Useful net from
up_chain net zero from to c u = subst (λ (w : ℕ). Useful net w) (sym c) u
up_chain net (suc n) from to c u = up_split net c.1.0 from c.0 c.1.1 c.1.2 (up_chain net n c.0 to c.2 u)

-- a useful wire that no splitter drives carries the rail
pub record HasUsefulTop (label : ℕ → ℕ) (net : PlainNetlist) (rail : ℕ) : Type 0 where
  pub top : ℕ
  pub is_top : IsTop net top
  pub inside : top < number_of_wires net
  pub carries : label top ≡ rail
  pub useful : Useful net top

module _ (built : PlainBuilt) (ask : Ask) (label : ℕ → ℕ) (net : PlainNetlist) (labelled : IsLabelled built label net) (sound : IsSound net)
    (asked : (port : ℕ) (literal : NodeLit) (sign : Sign) → slice_get built.outputs port ≡ Some literal → Contains (signs_of ask) sign
    → (rail : Rail) × IsIn rail net.output_rails × (label (wire_of rail) ≡ literal_number literal sign))
    (low_rails : (node : ℕ) (sign : Sign) → Needed built ask node sign → rail_number node sign < rails_in built) where
  root_inside : (n root wire : ℕ) → wire < number_of_wires net → SplittersBelow net n root wire → root < number_of_wires net
  root_inside zero root wire low c = omega (arith, c)
  root_inside (suc n) root wire low c = split_from_below net root c.0 c.1

  climbed : (rail wire : ℕ) → wire < number_of_wires net → label wire ≡ rail → Useful net wire → HasUsefulTop label net rail
  climbed rail wire low e u =
      let r = wire_root net sound wire low in
      record {
        top = r.0;
        is_top = r.1.first;
        inside = root_inside r.1.splitters r.0 wire low r.1.chain;
        carries = sym (chain_label built label net labelled r.1.splitters r.0 wire r.1.chain) ∙ e;
        useful = up_chain net r.1.splitters r.0 wire r.1.chain u;
      }

  read_low : (cell : Cell) (wire : ℕ) → IsIn cell net.cells → IsIn wire (reads cell) → wire < number_of_wires net
  read_low cell wire m r = (named_below net).of_reads cell m wire r

  -- so do then the rails that a conjunction reads
  and_step : (user : ℕ) (side : Sign) (low high : NodeLit) → slice_get (nodes_of built.graph) user ≡ Some (nodes.And low high) → (h : HasUsefulTop label net (rail_number user side))
      → IsDrivenFor built label net h.top user side → HasUsefulTop label net (literal_number low side) × HasUsefulTop label net (literal_number high side)
  and_step user side low high stands h (of_input port is) = absurd cc
  and_step user side low high stands h (of_constant preload feed q n m o is) =
      let none : slice_get (nodes_of built.graph) 0 ≡ Some (nodes.And low high) = subst (λ (k : ℕ). slice_get (nodes_of built.graph) k ≡ Some (nodes.And low high)) (sym is) stands in absurd cc
  and_step user side low high stands h (of_back preload feed q n m o b is) =
      let t : slice_get (nodes_of built.graph) user ≡ Some (nodes.Latch b.latch) = subst (λ (k : ℕ). slice_get (nodes_of built.graph) k ≡ Some (nodes.Latch b.latch)) is b.stands in absurd cc
  and_step user side low high stands h (of_gate cell sign a b out m ra rb o go g e same is) =
      let u : Useful net out = subst (λ (w : ℕ). Useful net w) (sym e) h.useful in
      let pair : nodes.And g.low g.high ≡ nodes.And low high = cc (g.stands, stands, ap (λ (k : ℕ). slice_get (nodes_of built.graph) k) is) in
      let l : g.low ≡ low = cc in let k : g.high ≡ high = cc in (
        climbed (literal_number low side) a (read_low cell a m ra) (g.a_is ∙ ap (λ (x : NodeLit). literal_number x sign) l ∙ ap (literal_number low) same) (of_cell a cell m ra out o u),
        climbed (literal_number high side) b (read_low cell b m rb) (g.b_is ∙ ap (λ (x : NodeLit). literal_number x sign) k ∙ ap (literal_number high) same) (of_cell b cell m rb out o u),
      )

  -- and the rail that a latch's front reads
  latch_step : (user : ℕ) (side : Sign) (latch : ℕ) (next : NodeLit) → slice_get (nodes_of built.graph) user ≡ Some (nodes.Latch latch) → slice_get built.nexts latch ≡ Some next
      → (h : HasUsefulTop label net (rail_number user side)) → IsDrivenFor built label net h.top user side → HasUsefulTop label net (literal_number next Pos)
  latch_step user side latch next stands holds h (of_input port is) = absurd cc
  latch_step user side latch next stands holds h (of_constant preload feed q n m o is) =
      let none : slice_get (nodes_of built.graph) 0 ≡ Some (nodes.Latch latch) = subst (λ (k : ℕ). slice_get (nodes_of built.graph) k ≡ Some (nodes.Latch latch)) (sym is) stands in absurd cc
  latch_step user side latch next stands holds h (of_gate cell sign a b out m ra rb o go g e same is) =
      let t : slice_get (nodes_of built.graph) user ≡ Some (nodes.And g.low g.high) = subst (λ (k : ℕ). slice_get (nodes_of built.graph) k ≡ Some (nodes.And g.low g.high)) is g.stands in
      absurd cc
  latch_step user side latch next stands holds h (of_back preload feed q n m o b is) =
      let t : slice_get (nodes_of built.graph) user ≡ Some (nodes.Latch b.latch) = subst (λ (k : ℕ). slice_get (nodes_of built.graph) k ≡ Some (nodes.Latch b.latch)) is b.stands in
      let l : b.latch ≡ latch = cc in
      let same_next : b.next ≡ next = cc (b.holds, holds, ap (λ (k : ℕ). slice_get built.nexts k) l) in
      let link : Useful net feed.number = of_cell feed.number (Droc Back preload feed q n) m (inl refl) h.top o h.useful in
      let fed : IsIn b.feed (reads b.front) = droc-reads b.front Front (not preload) b.feed b.role in
      climbed (literal_number next Pos) b.feed (read_low b.front b.feed b.among fed) (b.feed_is ∙ ap (λ (x : NodeLit). literal_number x Pos) same_next)
      (of_cell b.feed b.front b.among fed feed.number (q_drives b.front feed.number b.joined) link)

  rail_of : (literal : NodeLit) (sign : Sign) (node : ℕ) (side : Sign) → IsRailOf literal sign node side → literal_number literal sign ≡ rail_number node side
  rail_of literal sign node side h = ap (λ (k : ℕ). rail_number k (rail_sign literal sign)) h.0 ∙ ap (rail_number node) h.1

  driver : (user : ℕ) (sign : Sign) → Needed built ask user sign → (h : HasUsefulTop label net (rail_number user sign)) → IsDrivenFor built label net h.top user sign
  driver user sign n h = driven_for built label net labelled sound h.top user sign h.is_top h.carries (low_rails user sign n) h.inside

  pub needed_useful : (node : ℕ) (side : Sign) → Needed built ask node side → HasUsefulTop label net (rail_number node side)
  needed_useful _ _ (needed_output node side port literal sign e c r) =
      let a = asked port literal sign e c in
      climbed (rail_number node side) (wire_of a.0) ((named_below net).of_output a.0 a.1) (a.2 ∙ rail_of literal sign node side r) (of_output (wire_of a.0) a.0 a.1 refl)
  needed_useful _ _ (of_user node side user sign n (of_low low high e r)) =
      let h = needed_useful user sign n in subst (HasUsefulTop label net) (rail_of low sign node side r) (and_step user sign low high e h (driver user sign n h)).0
  needed_useful _ _ (of_user node side user sign n (of_high low high e r)) =
      let h = needed_useful user sign n in subst (HasUsefulTop label net) (rail_of high sign node side r) (and_step user sign low high e h (driver user sign n h)).1
  needed_useful _ _ (of_user node side user sign n (of_next latch next e k r)) =
      let h = needed_useful user sign n in subst (HasUsefulTop label net) (rail_of next Pos node side r) (latch_step user sign latch next e k h (driver user sign n h))
