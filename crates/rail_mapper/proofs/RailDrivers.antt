-- What drives the wires of rails, by their labels.
use Rattle.std.proofs.Common.{◌≡◌, ◌≤◌, ◌<◌, ◌/◌, inl, inr, ℕ, zero, suc, Bool, Option, Some, None, List, [], ◌∷◌, ◌++◌, slice_get, ap, sym, subst, ◌∙◌, refl, arith}
use Rattle.pulse_ids.specs.Ids.{WireId}
use Rattle.pulse_ids.specs.Lists.{IsIn}
use Rattle.pulse_ids.specs.declared.literals.Sign.{Sign}
use Rattle.pulse_ids.specs.declared.literals.Sign.TheVariants.{Pos, Neg}
use Rattle.pulse_ids.proofs.CallerLemmas.{IsIn-append, IsIn-from_map, IsIn-from_flat_map}
use Rattle.cell_netlist.specs.declared.kinds.Role.TheVariants.{Front, Back, Const}
use Rattle.cell_netlist.specs.declared.lines.Rail.{Rail}
use Rattle.cell_netlist.specs.declared.lines.Cell.{Cell}
use Rattle.cell_netlist.specs.declared.lines.Cell.TheVariants.{La, Fa, Split, Droc}
use Rattle.cell_netlist.specs.Netlists.{PlainNetlist, wire_of, outs, reads, number_of_wires, used, Splits, SplittersBelow}
use Rattle.cell_netlist.specs.Sound.{IsOn, HasQ, IsSound}
use Rattle.cell_netlist.proofs.CallerLemmasOnDrivers.{driven-IsIn}
use Rattle.aig_core.specs.declared.nodes.Node.TheVariants as nodes
use Rattle.aig_core.specs.Graphs.{nodes_of}
use Rattle.graph_build.specs.Built.{PlainBuilt}
use Rattle.rail_mapper.specs.FanOuts.{IsTop}
use Rattle.rail_mapper.specs.Labels.{rail_number, sign_in, rails_in, IsGateOfNode, IsLabelledIfUsed, IsBackOf, IsLabelled}
use Rattle.rail_mapper.proofs.StageSteps.{node_of, sign_of}

-- the same rail number tells the node and the sign
pub one_number : (node other : ℕ) (sign side : Sign) → rail_number node sign ≡ rail_number other side → (node ≡ other) × (sign ≡ side)
one_number node other sign side e = (sym (node_of node sign) ∙ ap (λ (r : ℕ). r / 2) e ∙ node_of other side, sym (sign_of node sign) ∙ ap sign_in e ∙ sign_of other side)

pub on_output : (label : ℕ → ℕ) (o : Option WireId) (rail wire : ℕ) → IsLabelledIfUsed label o rail → IsIn wire (used o) → label wire ≡ rail
on_output label None rail wire l m = absurd m
on_output label (Some w) rail wire l (inl e) = ap label (sym e) ∙ l
on_output label (Some w) rail wire l (inr m) = absurd m

pub q_drives : (cell : Cell) (link : ℕ) → HasQ cell link → IsIn link (outs cell)
q_drives (La a b out) link q = absurd q
q_drives (Fa a b out) link q = absurd q
q_drives (Split from left right) link q = absurd q
q_drives (Droc role preload feed None n) link q = absurd q
q_drives (Droc role preload feed (Some w) n) link q = inl q

-- the wire that a gate drives
abbrev pub gate_outs : Cell → List ℕ
gate_outs (La a b out) = out.number ∷ []
gate_outs (Fa a b out) = out.number ∷ []
gate_outs cell = []

-- What drives a wire that carries a rail of this node and sign, and that no splitter drives: the line of the node.
pub data IsDrivenFor (built : PlainBuilt) (label : ℕ → ℕ) (net : PlainNetlist) (top node : ℕ) (sign : Sign) : Type 0 where
  of_input : (port : ℕ) → slice_get (nodes_of built.graph) node ≡ Some (nodes.Input port) → IsDrivenFor built label net top node sign
  of_gate : (cell : Cell) (side : Sign) (a b out : ℕ) → IsIn cell net.cells → IsIn a (reads cell) → IsIn b (reads cell) → IsIn out (outs cell) → IsIn out (gate_outs cell)
      → (gate : IsGateOfNode built label side a b out) → out ≡ top → side ≡ sign → gate.node ≡ node → IsDrivenFor built label net top node sign
  of_back : (preload : Bool) (feed : WireId) (q n : Option WireId) → IsIn (Droc Back preload feed q n) net.cells → IsIn top (used q ++ used n)
      → (back : IsBackOf built label net preload feed.number q n) → back.node ≡ node → IsDrivenFor built label net top node sign
  of_constant : (preload : Bool) (feed : WireId) (q n : Option WireId) → IsIn (Droc Const preload feed q n) net.cells → IsIn top (used q ++ used n) → 0 ≡ node
      → IsDrivenFor built label net top node sign

module _ (built : PlainBuilt) (label : ℕ → ℕ) (net : PlainNetlist) (labelled : IsLabelled built label net) where
  -- a splitter hands the label on
  split_label : (cell : Cell) (from to : ℕ) → IsIn cell net.cells → Splits cell from to → label to ≡ label from
  split_label (La a b out) from to m s = absurd s
  split_label (Fa a b out) from to m s = absurd s
  split_label (Droc role preload feed q n) from to m s = absurd s
  split_label (Split source left right) from to m s =
      let e : (label left.number ≡ label source.number) × (label right.number ≡ label source.number) = labelled.cells (Split source left right) m in by s.1 e
    where
      by : IsIn to (left.number ∷ right.number ∷ []) → (label left.number ≡ label source.number) × (label right.number ≡ label source.number) → label to ≡ label from
      by (inl t) e = ap label (sym t) ∙ e.0 ∙ ap label s.0
      by (inr (inl t)) e = ap label (sym t) ∙ e.1 ∙ ap label s.0
      by (inr (inr t)) e = absurd t

  pub chain_label : (n from to : ℕ) → SplittersBelow net n from to → label to ≡ label from
  chain_label zero from to c = ap label (sym c)
  chain_label (suc n) from to c = chain_label n c.0 to c.2 ∙ split_label c.1.0 from c.0 c.1.1 c.1.2

  -- the wires of fronts are links
  pub front_high : (preload : Bool) (feed : WireId) (q n : Option WireId) (wire : ℕ) → IsIn (Droc Front preload feed q n) net.cells → IsIn wire (used q ++ used n) → rails_in built ≤ label wire
  front_high preload feed q n wire m o =
      by q n (labelled.cells (Droc Front preload feed q n) m).0 (labelled.cells (Droc Front preload feed q n) m).1 (labelled.cells (Droc Front preload feed q n) m).2
      (labelled.cells (Droc Front preload feed q n) m).3 o
    where
      by : (q n : Option WireId) → n ≡ None → (link : ℕ) → IsOn q link → rails_in built ≤ label link → IsIn wire (used q ++ used n) → rails_in built ≤ label wire
      by q (Some n) e link on high o = absurd cc
      by None None e link on high o = absurd on
      by (Some q) None e link on high (inl s) = let k : label wire ≡ label link = ap label (sym s ∙ on) in omega arith
      by (Some q) None e link on high (inr s) = absurd s

  module _ (sound : IsSound net) (top node : ℕ) (sign : Sign) (is_top : IsTop net top) (carries : label top ≡ rail_number node sign) (small : rail_number node sign < rails_in built) where
    by_input : (rail : Rail) → IsIn rail net.input_rails → wire_of rail ≡ top → IsDrivenFor built label net top node sign
    by_input rail m e =
        let i = labelled.inputs rail m in
        let same = one_number i.node node rail.sign sign (sym i.wire_is ∙ ap label e ∙ carries) in
        of_input rail.port (subst (λ (k : ℕ). slice_get (nodes_of built.graph) k ≡ Some (nodes.Input rail.port)) same.0 i.stands)

    by_gate : (cell : Cell) (side : Sign) (a b out : ℕ) → IsIn cell net.cells → IsIn a (reads cell) → IsIn b (reads cell) → IsIn out (outs cell) → IsIn out (gate_outs cell)
        → IsGateOfNode built label side a b out → out ≡ top → IsDrivenFor built label net top node sign
    by_gate cell side a b out m ra rb o go g e =
        let same = one_number g.node node side sign (sym g.out_is ∙ ap label e ∙ carries) in of_gate cell side a b out m ra rb o go g e same.1 same.0

    by_cell : (cell : Cell) → IsIn cell net.cells → IsIn top (outs cell) → IsDrivenFor built label net top node sign
    by_cell (La a b out) m (inl o) =
        by_gate (La a b out) Pos a.number b.number out.number m (inl refl) (inr (inl refl)) (inl refl) (inl refl) (labelled.cells (La a b out) m) o
    by_cell (La a b out) m (inr o) = absurd o
    by_cell (Fa a b out) m (inl o) =
        by_gate (Fa a b out) Neg a.number b.number out.number m (inl refl) (inr (inl refl)) (inl refl) (inl refl) (labelled.cells (Fa a b out) m) o
    by_cell (Fa a b out) m (inr o) = absurd o
    by_cell (Split from left right) m o = absurd (is_top from.number (Split from left right, m, (refl, o)))
    by_cell (Droc Front preload feed q n) m o = let k = front_high preload feed q n top m o in absurd (omega arith)
    by_cell (Droc Back preload feed q n) m o =
        let b : IsBackOf built label net preload feed.number q n = labelled.cells (Droc Back preload feed q n) m in
        of_back preload feed q n m o b (elim (IsIn-append top (used q) (used n) o) [
          | inl k ↦ (one_number b.node node Pos sign (sym (on_output label q (rail_number b.node Pos) top b.q_is k) ∙ carries)).0
          | inr k ↦ (one_number b.node node Neg sign (sym (on_output label n (rail_number b.node Neg) top b.n_is k) ∙ carries)).0
        ])
    by_cell (Droc Const preload feed q n) m o =
        let b = labelled.cells (Droc Const preload feed q n) m in
        of_constant preload feed q n m o (elim (IsIn-append top (used q) (used n) o) [
          | inl k ↦ (one_number 0 node Neg sign (sym (on_output label q (rail_number 0 Neg) top b.1 k) ∙ carries)).0
          | inr k ↦ (one_number 0 node Pos sign (sym (on_output label n (rail_number 0 Pos) top b.2 k) ∙ carries)).0
        ])

    pub driven_for : top < number_of_wires net → IsDrivenFor built label net top node sign
    driven_for inside = elim (driven-IsIn net sound top inside) [
      | inl h ↦ let r = IsIn-from_map wire_of top net.input_rails h in by_input r.0 r.1 r.2
      | inr h ↦ let c = IsIn-from_flat_map outs top net.cells h in by_cell c.0 c.1 c.2
    ]
