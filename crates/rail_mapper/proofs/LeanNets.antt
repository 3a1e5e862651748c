-- A netlist with exactly the cells of the needed rails is lean.
use Rattle.std.proofs.Common.{◌≡◌, ◌<◌, ◌∙◌, inl, ℕ, Bool, not, Option, Some, None, List, [], map, length, slice_get, ap, sym, subst, refl, Contains}
use Rattle.std.specs.List.{flat_map}
use Rattle.pulse_ids.specs.Ids.{NodeLit, WireId}
use Rattle.pulse_ids.specs.Lists.{IsIn, upto}
use Rattle.pulse_ids.specs.declared.literals.Sign.{Sign}
use Rattle.pulse_ids.proofs.CallerLemmas.{IsIn-map, IsIn-from_map, IsIn-flat_map, IsIn-left, IsIn-place, IsIn-contained}
use Rattle.pulse_ids.proofs.CallerLemmasOnCounts.{slice_get-upto}
use Rattle.aig_core.proofs.CallerLemmas.{slice_get_bound}
use Rattle.cell_netlist.specs.declared.kinds.Ask.{Ask}
use Rattle.cell_netlist.specs.declared.kinds.Role.TheVariants.{Front, Back, Const}
use Rattle.cell_netlist.specs.declared.lines.Rail.{Rail}
use Rattle.cell_netlist.specs.declared.lines.Cell.{Cell}
use Rattle.cell_netlist.specs.declared.lines.Cell.TheVariants.{La, Fa, Split, Droc}
use Rattle.cell_netlist.specs.Asked.{rail_of, signs_of, Asks}
use Rattle.cell_netlist.specs.Lean.{Useful, of_cell, IsLean}
use Rattle.cell_netlist.specs.Netlists.{PlainNetlist, wire_of, outs, used}
use Rattle.cell_netlist.specs.Sound.{IsOn, IsDrocOf, IsBackFrom, IsSound}
use Rattle.splitter_trees.specs.Spreading.{IsSplitter}
use Rattle.wire_ledgers.specs.Ledgers.{IsLedger}
use Rattle.aig_core.specs.Laws.{ConjunctionsArePairs, InputsFollow, LatchesFollow, ConjunctionsAreLast}
use Rattle.graph_build.specs.Built.{PlainBuilt, IsWithinGraph}
use Rattle.rail_demand.specs.Demands.{PlainDemand, IsDemand, Needed}
use Rattle.rail_demand.specs.Laws.{NeededAreInside}
use Rattle.rail_mapper.specs.FanOuts.{AreFannedOut}
use Rattle.rail_mapper.specs.Labels.{rail_number, literal_number, IsLabelled}
use Rattle.rail_mapper.specs.Mapped.{HasCells}
use Rattle.rail_mapper.proofs.BalancedNets.{all_balanced}
use Rattle.rail_mapper.proofs.MadeDrocs.{back_useful, const_useful}
use Rattle.rail_mapper.proofs.MadeGates.{gates_apart, gate_useful}
use Rattle.rail_mapper.proofs.RailDrivers.{gate_outs}
use Rattle.rail_mapper.proofs.ReadRoots.{none_twice, no_root_twice, no_port_twice, no_droc_twice, no_constant}
use Rattle.rail_mapper.proofs.UsefulRails.{HasUsefulTop, needed_useful}
use Rattle.rail_mapper.proofs.UsefulWires.{HasUse, all_useful}
use Rattle.rail_mapper.proofs.Values.{rail_low}

-- a port below a number stands among the first
in_upto : (count port : ℕ) → port < count → IsIn port (upto count)
in_upto count port low = IsIn-place port (upto count) port (slice_get-upto count port low)

-- the laws on nodes and needed rails that the proof cites
pub record HasNodeLaws : Type 0 where
  pub pairs : ConjunctionsArePairs
  pub inputs : InputsFollow
  pub latches : LatchesFollow
  pub ands : ConjunctionsAreLast
  pub inside : NeededAreInside

module _ (laws : HasNodeLaws) (built : PlainBuilt) (demand : PlainDemand) (ask : Ask) (label : ℕ → ℕ) (net : PlainNetlist) (labelled : IsLabelled built label net) (sound : IsSound net)
    (ledger : IsLedger net [] []) (within : IsWithinGraph built) (exact : IsDemand built ask demand) (asks : Asks ask (length built.outputs) net) (cells : HasCells built demand net)
    (fanned_out : AreFannedOut net) where
  -- the asked output rails are there
  asked : (port : ℕ) (literal : NodeLit) (sign : Sign) → slice_get built.outputs port ≡ Some literal → Contains (signs_of ask) sign
      → (rail : Rail) × IsIn rail net.output_rails × (label (wire_of rail) ≡ literal_number literal sign)
  asked port literal sign e c =
      let low = slice_get_bound built.outputs port literal e in
      let m = IsIn-map (λ (s : Sign). let its : ℕ × Sign = (port, s) in its) sign (signs_of ask) (IsIn-contained (signs_of ask) sign c) in
      let k = IsIn-flat_map (λ (p : ℕ). map (λ (s : Sign). let its : ℕ × Sign = (p, s) in its) (signs_of ask)) (let its : ℕ × Sign = (port, sign) in its) port (upto (length built.outputs))
      (in_upto (length built.outputs) port low) m in
      let r = IsIn-from_map rail_of (let its : ℕ × Sign = (port, sign) in its) net.output_rails (subst (λ (l : List (ℕ × Sign)). IsIn (let its : ℕ × Sign = (port, sign) in its) l) (sym asks) k) in
      let o = labelled.outputs r.0 r.1 in
      let same_port : r.0.port ≡ port = ap (λ (p : ℕ × Sign). p.0) r.2 in
      let same_sign : r.0.sign ≡ sign = ap (λ (p : ℕ × Sign). p.1) r.2 in
      let same : o.literal ≡ literal = cc (o.stands, e, ap (λ (p : ℕ). slice_get built.outputs p) same_port) in
      (r.0, r.1, o.wire_is ∙ ap (λ (l : NodeLit). literal_number l r.0.sign) same ∙ ap (literal_number literal) same_sign)

  tops : (node : ℕ) (side : Sign) → Needed built ask node side → HasUsefulTop label net (rail_number node side)
  tops = needed_useful built ask label net labelled sound asked (λ node sign n. rail_low built node sign (laws.inside built ask within node sign n))

  gate_use : (cell : Cell) (out : ℕ) → IsIn cell net.cells → IsIn out (outs cell) → IsIn out (gate_outs cell) → HasUse net cell
  gate_use cell out m o k =
      (out, o, gate_useful built demand ask label net labelled sound exact tops laws.inputs laws.latches cells.gates out (IsIn-flat_map gate_outs out cell net.cells m k))

  -- the back behind a front
  linked : (link : ℕ) (preload : Bool) → IsBackFrom net link preload → Useful net link
  linked link preload b = by b.back b.among b.role
    where
      by : (cell : Cell) → IsIn cell net.cells → IsDrocOf cell Back preload link → Useful net link
      by (La x y out) m d = absurd d
      by (Fa x y out) m d = absurd d
      by (Split from left right) m d = absurd d
      by (Droc role p feed q n) m d =
          let k : IsIn (Droc Back p feed q n) net.cells = subst (λ r. IsIn (Droc r p feed q n) net.cells) d.0 m in
          let its_use = back_useful built demand ask label net labelled sound exact tops laws.inputs laws.latches laws.ands cells.drocs p feed q n k in
          of_cell link (Droc Back p feed q n) k (inl d.2) its_use.0 its_use.1 its_use.2

  on_link : (q : Option WireId) (link : ℕ) → IsOn q link → IsIn link (used q)
  on_link None link on = absurd on
  on_link (Some wire) link on = inl on

  -- each cell but for the splitters drives a useful wire
  cell_use : (cell : Cell) → IsIn cell net.cells → (IsSplitter cell → ⊥) → HasUse net cell
  cell_use (La a b out) m other = gate_use (La a b out) out.number m (inl refl) (inl refl)
  cell_use (Fa a b out) m other = gate_use (Fa a b out) out.number m (inl refl) (inl refl)
  cell_use (Split from left right) m other = absurd (other tt)
  cell_use (Droc Back preload feed q n) m other =
      back_useful built demand ask label net labelled sound exact tops laws.inputs laws.latches laws.ands cells.drocs preload feed q n m
  cell_use (Droc Const preload feed q n) m other =
      const_useful built demand ask label net labelled sound exact tops laws.inputs laws.latches laws.ands cells.drocs preload feed q n m
  cell_use (Droc Front preload feed q n) m other =
      let f = labelled.cells (Droc Front preload feed q n) m in
      (f.1, IsIn-left f.1 (used q) (used n) (on_link q f.1 f.2), linked f.1 (not preload) f.4)

  apart : (one other : ℕ) → IsIn one (flat_map gate_outs net.cells) → IsIn other (flat_map gate_outs net.cells) → label one ≡ label other → one ≡ other
  apart = gates_apart built demand ask label net labelled sound exact tops laws.inputs laws.latches cells.gates

  pub net_lean : IsLean net
  net_lean = record {
    useful = all_useful net sound ledger.rise cell_use;
    once = none_twice built label net labelled sound within.kept.tidy laws.pairs laws.inputs apart;
    no_root_twice = no_root_twice built label net labelled sound within.kept.tidy laws.pairs laws.inputs apart;
    no_port_twice = no_port_twice built label net labelled sound within.kept.tidy laws.pairs laws.inputs apart;
    no_droc_twice = no_droc_twice built label net labelled sound within.kept.tidy laws.pairs laws.inputs apart;
    no_constant = no_constant built label net labelled sound within.kept.tidy laws.pairs laws.inputs apart;
    balanced = all_balanced net sound fanned_out;
  }
