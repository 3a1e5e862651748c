-- No gate folds, and no two gates of a kind read the same roots.
use Rattle.std.proofs.Common.{◌≡◌, ◌≤◌, ◌<◌, ◌+◌, ◌⊎◌, inl, inr, ℕ, zero, suc, Some, List, [], ◌∷◌, map, slice_get, ap, sym, subst, ◌∙◌, refl, arith}
use Rattle.std.specs.List.{flat_map}
use Rattle.pulse_ids.specs.Ids.{NodeLit}
use Rattle.pulse_ids.specs.Lists.{IsIn, occurrences}
use Rattle.pulse_ids.specs.Literals.{rail_sign}
use Rattle.pulse_ids.specs.declared.literals.Sign.{Sign}
use Rattle.pulse_ids.specs.declared.literals.Sign.TheVariants.{Pos, Neg}
use Rattle.pulse_ids.proofs.CallerLemmas.{IsIn-append, IsIn-flat_map, IsIn-place}
use Rattle.pulse_ids.proofs.CallerLemmasOnCounts.{occurrences-append, IsIn-occurrences}
use Rattle.cell_netlist.specs.declared.kinds.Gate.{Gate}
use Rattle.cell_netlist.specs.declared.kinds.Role.TheVariants.{Front, Back, Const}
use Rattle.cell_netlist.specs.declared.lines.Cell.{Cell}
use Rattle.cell_netlist.specs.declared.lines.Cell.TheVariants.{La, Fa, Split, Droc}
use Rattle.cell_netlist.specs.Lean.{ReadsRoots, IsSamePair, AreRailsOfOnePort, AreOutputsOfOneDroc, IsConstant, IsOutputOfConstant}
use Rattle.cell_netlist.specs.Netlists.{PlainNetlist, wire_of, outs, used, IsRoot, IsDroc}
use Rattle.cell_netlist.specs.Sound.{IsSound}
use Rattle.cell_netlist.proofs.CallerLemmasOnDrivers.{driven-once}
use Rattle.aig_core.specs.Folds.{IsFoldable}
use Rattle.aig_core.specs.Graphs.{count_of, first_conjunction}
use Rattle.aig_core.specs.Laws.{ConjunctionsArePairs, InputsFollow}
use Rattle.aig_core.specs.Pairs.{literal_code}
use Rattle.aig_core.specs.Tidy.{IsTidy}
use Rattle.graph_build.specs.Built.{PlainBuilt}
use Rattle.rail_mapper.specs.Labels.{rail_number, literal_number, rails_in, IsGateOfNode, IsLabelled}
use Rattle.rail_mapper.specs.Tracks.{gate_sign}
use Rattle.rail_mapper.proofs.Folding.{one_node_folds, zero_node_folds, second_zero_folds, one_code, its_node}
use Rattle.rail_mapper.proofs.RailDrivers.{gate_outs, on_output, chain_label, front_high}
use Rattle.rail_mapper.proofs.Readiness.{one_rail}
use Rattle.rail_mapper.proofs.Values.{rail_low}

-- what a gate drives is its wire
gate_drives : (cell : Cell) (wire : ℕ) → IsIn wire (gate_outs cell) → IsIn wire (outs cell)
gate_drives (La a b out) wire m = m
gate_drives (Fa a b out) wire m = m
gate_drives (Split from left right) wire m = absurd m
gate_drives (Droc role preload feed q n) wire m = absurd m

module _ (built : PlainBuilt) (label : ℕ → ℕ) (net : PlainNetlist) (labelled : IsLabelled built label net) (sound : IsSound net) (tidy : IsTidy built.graph) (pairs : ConjunctionsArePairs)
    (inputs_follow : InputsFollow) (apart : (one other : ℕ) → IsIn one (flat_map gate_outs net.cells) → IsIn other (flat_map gate_outs net.cells) → label one ≡ label other → one ≡ other) where
  -- a gate with the conjunction that it is of
  record GateFacts (gate : Gate) (cell : Cell) (root_a root_b : ℕ) : Type 0 where
    node : ℕ
    place : ℕ
    low : NodeLit
    high : NodeLit
    there : slice_get built.graph.pairs place ≡ Some (record { low = low; high = high })
    node_is : node ≡ first_conjunction built.graph + place
    low_in : low.id.number < count_of built.graph
    high_in : high.id.number < count_of built.graph
    ordered : literal_code low < literal_code high
    never : IsFoldable low high → ⊥
    out : ℕ
    drives : IsIn out (gate_outs cell)
    out_is : label out ≡ rail_number node (gate_sign gate)
    a_is : label root_a ≡ literal_number low (gate_sign gate)
    b_is : label root_b ≡ literal_number high (gate_sign gate)

  facts_of : (gate : Gate) (cell : Cell) (root_a root_b : ℕ) (sign : Sign) (a b out : ℕ) → sign ≡ gate_sign gate → IsIn out (gate_outs cell) → IsGateOfNode built label sign a b out
      → label root_a ≡ label a → label root_b ≡ label b → GateFacts gate cell root_a root_b
  facts_of gate cell root_a root_b sign a b out s o g of_a of_b =
      let p = pairs built.graph g.node g.low g.high g.stands in
      let t = tidy.each p.0 (record { low = g.low; high = g.high }) p.2 in
      record {
        node = g.node;
        place = p.0;
        low = g.low;
        high = g.high;
        there = p.2;
        node_is = p.1;
        low_in = let b = g.low_before in let i = g.inside in omega arith;
        high_in = let b = g.high_before in let i = g.inside in omega arith;
        ordered = t.ordered;
        never = t.never_folds;
        out = out;
        drives = o;
        out_is = g.out_is ∙ ap (rail_number g.node) s;
        a_is = of_a ∙ g.a_is ∙ ap (literal_number g.low) s;
        b_is = of_b ∙ g.b_is ∙ ap (literal_number g.high) s;
      }

  -- a wire carries what its root does
  at_root : (root wire port : ℕ) → (below : IsRoot net root wire) → port ≡ wire → label root ≡ label port
  at_root root wire port below e = sym (chain_label built label net labelled below.splitters root wire below.chain) ∙ ap label (sym e)

  facts : (gate : Gate) (cell : Cell) (root_a root_b : ℕ) → IsIn cell net.cells → ReadsRoots net cell gate root_a root_b → GateFacts gate cell root_a root_b
  facts gate (Split from left right) root_a root_b m r = absurd r.ports
  facts gate (Droc role preload feed q n) root_a root_b m r = absurd r.ports
  facts gate (La a b out) root_a root_b m r =
      facts_of gate (La a b out) root_a root_b Pos a.number b.number out.number (ap gate_sign (sym (r.ports.0))) (inl refl) (labelled.cells (La a b out) m)
      (at_root root_a r.a a.number r.of_a r.ports.1) (at_root root_b r.b b.number r.of_b r.ports.2)
  facts gate (Fa a b out) root_a root_b m r =
      facts_of gate (Fa a b out) root_a root_b Neg a.number b.number out.number (ap gate_sign (sym (r.ports.0))) (inl refl) (labelled.cells (Fa a b out) m)
      (at_root root_a r.a a.number r.of_a r.ports.1) (at_root root_b r.b b.number r.of_b r.ports.2)

  pub no_root_twice : (cell : Cell) (gate : Gate) (a b : ℕ) → IsIn cell net.cells → ReadsRoots net cell gate a b → a ≡ b → ⊥
  no_root_twice cell gate a b m r e =
      let f = facts gate cell a b m r in
      let k = one_rail f.low f.high (gate_sign gate) (sym f.a_is ∙ ap label e ∙ f.b_is) in let o = f.ordered in omega arith

  one_node_twice : (cell : Cell) (gate : Gate) (a b node : ℕ) (s t : Sign) → IsIn cell net.cells → ReadsRoots net cell gate a b → label a ≡ rail_number node s → label b ≡ rail_number node t → ⊥
  one_node_twice cell gate a b node s t m r e f =
      let g = facts gate cell a b m r in
      g.never (one_node_folds g.low g.high (its_node g.low (gate_sign gate) node s (sym g.a_is ∙ e) ∙ sym (its_node g.high (gate_sign gate) node t (sym g.b_is ∙ f))))

  pub no_port_twice : (cell : Cell) (gate : Gate) (a b : ℕ) → IsIn cell net.cells → ReadsRoots net cell gate a b → AreRailsOfOnePort net a b → ⊥
  no_port_twice cell gate a b m r p =
      let one = labelled.inputs p.rail p.among in
      let other = labelled.inputs p.other_rail p.other_among in
      let same_node : other.node ≡ one.node = ((inputs_follow built.graph other.node p.other_rail.port).0 other.stands).1 ∙ ap (λ (k : ℕ). 1 + k) (sym p.port)
      ∙ sym ((inputs_follow built.graph one.node p.rail.port).0 one.stands).1 in
      one_node_twice cell gate a b one.node p.rail.sign p.other_rail.sign m r (ap label (sym p.wire) ∙ one.wire_is)
      (ap label (sym p.other_wire) ∙ other.wire_is ∙ ap (λ (k : ℕ). rail_number k p.other_rail.sign) same_node)

  -- the outputs of a DROC are of one node, where they carry rails
  droc_node : (cell : Cell) → IsIn cell net.cells → IsDroc cell
      → (node : ℕ) × ((wire : ℕ) → IsIn wire (outs cell) → label wire < rails_in built → (sign : Sign) × (label wire ≡ rail_number node sign))
  droc_node (La a b out) m d = absurd d
  droc_node (Fa a b out) m d = absurd d
  droc_node (Split from left right) m d = absurd d
  droc_node (Droc Front preload feed q n) m d = (0, λ wire o low. let k = front_high built label net labelled preload feed q n wire m o in absurd (omega arith))
  droc_node (Droc Back preload feed q n) m d =
      let b = labelled.cells (Droc Back preload feed q n) m in (
        b.node,
        λ wire o low. elim (IsIn-append wire (used q) (used n) o) [
          | inl k ↦ (Pos, on_output label q (rail_number b.node Pos) wire b.q_is k)
          | inr k ↦ (Neg, on_output label n (rail_number b.node Neg) wire b.n_is k)
        ],
      )
  droc_node (Droc Const preload feed q n) m d =
      let b = labelled.cells (Droc Const preload feed q n) m in (
        0,
        λ wire o low. elim (IsIn-append wire (used q) (used n) o) [
          | inl k ↦ (Neg, on_output label q (rail_number 0 Neg) wire b.1 k)
          | inr k ↦ (Pos, on_output label n (rail_number 0 Pos) wire b.2 k)
        ],
      )

  literal_low : (literal : NodeLit) (sign : Sign) → literal.id.number < count_of built.graph → literal_number literal sign < rails_in built
  literal_low literal sign low = rail_low built literal.id.number (rail_sign literal sign) low

  pub no_droc_twice : (cell : Cell) (gate : Gate) (a b : ℕ) → IsIn cell net.cells → ReadsRoots net cell gate a b → AreOutputsOfOneDroc net a b → ⊥
  no_droc_twice cell gate a b m r d =
      let f = facts gate cell a b m r in
      let n = droc_node d.cell d.among d.droc in
      let one = n.1 a d.out (rw f.a_is (literal_low f.low (gate_sign gate) f.low_in)) in
      let other = n.1 b d.other_out (rw f.b_is (literal_low f.high (gate_sign gate) f.high_in)) in
      one_node_twice cell gate a b n.0 one.0 other.0 m r one.1 other.1

  -- two gates of one kind on the same roots are of one conjunction
  same_conjunction : (gate : Gate) (cell other : Cell) (a b c d : ℕ) → IsIn cell net.cells → IsIn other net.cells → GateFacts gate cell a b → GateFacts gate other c d
      → IsSamePair a b c d → (out : ℕ) × IsIn out (gate_outs cell) × IsIn out (gate_outs other)
  same_conjunction gate cell other a b c d m k f g (inl p) =
      let low : literal_code f.low ≡ literal_code g.low = one_rail f.low g.low (gate_sign gate) (sym f.a_is ∙ ap label p.0 ∙ g.a_is) in
      let high : literal_code f.high ≡ literal_code g.high = one_rail f.high g.high (gate_sign gate) (sym f.b_is ∙ ap label p.1 ∙ g.b_is) in
      let pair : slice_get built.graph.pairs g.place ≡ Some (record { low = f.low; high = f.high }) =
      subst (λ (h : NodeLit). slice_get built.graph.pairs g.place ≡ Some (record { low = f.low; high = h })) (sym (one_code f.high g.high high))
      (subst (λ (l : NodeLit). slice_get built.graph.pairs g.place ≡ Some (record { low = l; high = g.high })) (sym (one_code f.low g.low low)) g.there) in
      let place : f.place ≡ g.place = tidy.once f.place g.place (record { low = f.low; high = f.high }) f.there pair in
      let node : f.node ≡ g.node = f.node_is ∙ ap (λ (k : ℕ). first_conjunction built.graph + k) place ∙ sym g.node_is in
      let out : f.out ≡ g.out = apart f.out g.out (IsIn-flat_map gate_outs f.out cell net.cells m f.drives) (IsIn-flat_map gate_outs g.out other net.cells k g.drives)
      (f.out_is ∙ ap (λ (k : ℕ). rail_number k (gate_sign gate)) node ∙ sym g.out_is) in
      (f.out, f.drives, subst (λ (w : ℕ). IsIn w (gate_outs other)) (sym out) g.drives)
  same_conjunction gate cell other a b c d m k f g (inr p) =
      let one : literal_code f.low ≡ literal_code g.high = one_rail f.low g.high (gate_sign gate) (sym f.a_is ∙ ap label p.0 ∙ g.b_is) in
      let two : literal_code f.high ≡ literal_code g.low = one_rail f.high g.low (gate_sign gate) (sym f.b_is ∙ ap label p.1 ∙ g.a_is) in
      let o = f.ordered in let q = g.ordered in absurd (omega arith)

  -- a wire that two cells at different places drive is driven twice
  twice_driven : (cells : List Cell) (first later wire : ℕ) (cell other : Cell) → first < later → slice_get cells first ≡ Some cell → slice_get cells later ≡ Some other
      → IsIn wire (outs cell) → IsIn wire (outs other) → 2 ≤ occurrences wire (flat_map outs cells)
  twice_driven [] first later wire cell other low e f o p = absurd cc
  twice_driven (c ∷ cells) first zero wire cell other low e f o p = absurd (omega arith)
  twice_driven (c ∷ cells) zero (suc later) wire cell other low e f o p =
      let s : c ≡ cell = cc in
      let a = occurrences-append wire (outs c) (flat_map outs cells) in
      let b = IsIn-occurrences wire (outs c) (subst (λ (x : Cell). IsIn wire (outs x)) (sym s) o) in
      let d = IsIn-occurrences wire (flat_map outs cells) (IsIn-flat_map outs wire other cells (IsIn-place other cells later f) p) in omega arith
  twice_driven (c ∷ cells) (suc first) (suc later) wire cell other low e f o p =
      let a = occurrences-append wire (outs c) (flat_map outs cells) in let r = twice_driven cells first later wire cell other (omega arith) e f o p in omega arith

  pub none_twice : (first later : ℕ) (cell other : Cell) (gate : Gate) (a b c d : ℕ) → first < later → slice_get net.cells first ≡ Some cell → slice_get net.cells later ≡ Some other
      → ReadsRoots net cell gate a b → ReadsRoots net other gate c d → IsSamePair a b c d → ⊥
  none_twice first later cell other gate a b c d low e f r q p =
      let m = IsIn-place cell net.cells first e in let k = IsIn-place other net.cells later f in
      let w = same_conjunction gate cell other a b c d m k (facts gate cell a b m r) (facts gate other c d k q) p in
      let t = twice_driven net.cells first later w.0 cell other low e f (gate_drives cell w.0 w.1) (gate_drives other w.0 w.2) in
      let all = occurrences-append w.0 (map wire_of net.input_rails) (flat_map outs net.cells) in
      let few = driven-once net sound w.0 in omega arith

  -- no gate reads a constant
  const_node : (cell : Cell) (wire : ℕ) → IsIn cell net.cells → IsConstant cell → IsIn wire (outs cell) → (sign : Sign) × (label wire ≡ rail_number 0 sign)
  const_node (La a b out) wire m c o = absurd c
  const_node (Fa a b out) wire m c o = absurd c
  const_node (Split from left right) wire m c o = absurd c
  const_node (Droc Front preload feed q n) wire m c o = absurd c
  const_node (Droc Back preload feed q n) wire m c o = absurd c
  const_node (Droc Const preload feed q n) wire m c o =
      let b = labelled.cells (Droc Const preload feed q n) m in
      elim (IsIn-append wire (used q) (used n) o) [ inl k ↦ (Neg, on_output label q (rail_number 0 Neg) wire b.1 k) | inr k ↦ (Pos, on_output label n (rail_number 0 Pos) wire b.2 k) ]

  pub no_constant : (cell : Cell) (gate : Gate) (a b : ℕ) → IsIn cell net.cells → ReadsRoots net cell gate a b → (IsOutputOfConstant net a ⊎ IsOutputOfConstant net b) → ⊥
  no_constant cell gate a b m r (inl k) =
      let f = facts gate cell a b m r in let c = const_node k.cell a k.among k.constant k.out in
      f.never (zero_node_folds f.low f.high (its_node f.low (gate_sign gate) 0 c.0 (sym f.a_is ∙ c.1)))
  no_constant cell gate a b m r (inr k) =
      let f = facts gate cell a b m r in let c = const_node k.cell b k.among k.constant k.out in
      f.never (second_zero_folds f.low f.high (its_node f.high (gate_sign gate) 0 c.0 (sym f.b_is ∙ c.1)))
