-- The gates are those of the needed rails of conjunctions, each made once, and what they drive is useful.
use Rattle.std.proofs.Common.{◌≡◌, ◌≤◌, ◌<◌, ◌+◌, ◌*◌, ◌⊎◌, inl, inr, ℕ, zero, suc, Bool, true, false, List, [], ◌∷◌, ◌++◌, map, length, ap, sym, subst, ◌∙◌, refl, arith}
use Rattle.std.specs.List.{flat_map, range_with_len}
use Rattle.std.proofs.lemmas.Bool.{cases_eq}
use Rattle.std.proofs.lemmas.List.{length-append, length-map}
use Rattle.pulse_ids.specs.Lists.{IsIn, occurrences}
use Rattle.pulse_ids.specs.declared.literals.Sign.{Sign}
use Rattle.pulse_ids.specs.declared.literals.Sign.TheVariants.{Pos, Neg}
use Rattle.pulse_ids.proofs.CallerLemmas.{IsIn-map, IsIn-from_map, IsIn-flat_map, IsIn-from_flat_map, is_in}
use Rattle.pulse_ids.proofs.CallerLemmasOnCounts.{occurrences-append, occurrences-head, occurrences-other, occurrences-absent, IsIn-occurrences, occurrences-IsIn, same_item}
use Rattle.cell_netlist.specs.declared.kinds.Ask.{Ask}
use Rattle.cell_netlist.specs.declared.kinds.Gate.{Gate}
use Rattle.cell_netlist.specs.declared.lines.Cell.{Cell}
use Rattle.cell_netlist.specs.declared.lines.Cell.TheVariants.{La, Fa, Split, Droc}
use Rattle.cell_netlist.specs.Lean.{Useful}
use Rattle.cell_netlist.specs.Netlists.{PlainNetlist}
use Rattle.cell_netlist.specs.Sound.{IsSound}
use Rattle.aig_core.specs.Graphs.{first_conjunction}
use Rattle.aig_core.specs.Laws.{InputsFollow, LatchesFollow}
use Rattle.graph_build.specs.Built.{PlainBuilt}
use Rattle.rail_demand.specs.Demands.{PlainDemand, is_needed, IsDemand, Needed}
use Rattle.wire_ledgers.proofs.CallerLemmasOnRanges.{in_range}
use Rattle.rail_mapper.specs.Cells.{gate_in, sign_if, needed_signs, gates_from, gates_for}
use Rattle.rail_mapper.specs.Labels.{rail_number, IsLabelled}
use Rattle.rail_mapper.specs.Tracks.{sign_gate}
use Rattle.rail_mapper.proofs.ListCounts.{same_counts}
use Rattle.rail_mapper.proofs.RailDrivers.{gate_outs, IsDrivenFor, of_input, of_gate, of_back, of_constant, driven_for}
use Rattle.rail_mapper.proofs.UsefulRails.{HasUsefulTop}
use Rattle.rail_mapper.proofs.Values.{rail_low}

-- the needed rails of so many nodes from one on
abbrev pub rails_from : PlainDemand → ℕ → ℕ → List ℕ
rails_from demand node count = flat_map (λ its. map (rail_number its) (needed_signs demand its)) (range_with_len node count)

as_many_rails : (demand : PlainDemand) (node count : ℕ) → length (gates_from demand node count) ≡ length (rails_from demand node count)
as_many_rails demand node zero = refl
as_many_rails demand node (suc count) =
    let r = as_many_rails demand (node + 1) count in
    let a = length-append (map sign_gate (needed_signs demand node)) (gates_from demand (node + 1) count) in
    let b = length-append (map (rail_number node) (needed_signs demand node)) (rails_from demand (node + 1) count) in
    let c = length-map (needed_signs demand node) sign_gate in
    let d = length-map (needed_signs demand node) (rail_number node) in omega arith

as_many_outs : (cells : List Cell) → length (flat_map gate_outs cells) ≡ length (flat_map gate_in cells)
as_many_outs [] = refl
as_many_outs ((La a b out) ∷ cells) = let r = as_many_outs cells in omega arith
as_many_outs ((Fa a b out) ∷ cells) = let r = as_many_outs cells in omega arith
as_many_outs ((Split from left right) ∷ cells) = as_many_outs cells
as_many_outs ((Droc role preload feed q n) ∷ cells) = as_many_outs cells

-- a needed sign
sign_needed : (p q : Bool) (sign : Sign) → IsIn sign (sign_if p Pos ++ sign_if q Neg) → ((sign ≡ Pos) × (p ≡ true)) ⊎ ((sign ≡ Neg) × (q ≡ true))
sign_needed true q sign (inl e) = inl (sym e, refl)
sign_needed true true sign (inr (inl e)) = inr (sym e, refl)
sign_needed true true sign (inr (inr m)) = absurd m
sign_needed true false sign (inr m) = absurd m
sign_needed false true sign (inl e) = inr (sym e, refl)
sign_needed false true sign (inr m) = absurd m
sign_needed false false sign m = absurd m

its_need : (demand : PlainDemand) (node : ℕ) (sign : Sign) → IsIn sign (needed_signs demand node) → is_needed demand node sign ≡ true
its_need demand node sign m = elim (sign_needed (is_needed demand node Pos) (is_needed demand node Neg) sign m) [
  | inl k ↦ ap (is_needed demand node) k.0 ∙ k.1
  | inr k ↦ ap (is_needed demand node) k.0 ∙ k.1
]

-- a needed rail of one of the nodes
pub record IsNeededRail (demand : PlainDemand) (first count rail : ℕ) : Type 0 where
  pub node : ℕ
  pub sign : Sign
  pub low : first ≤ node
  pub high : node < first + count
  pub is : rail ≡ rail_number node sign
  pub need : is_needed demand node sign ≡ true

rail_there : (demand : PlainDemand) (node count rail : ℕ) → IsIn rail (rails_from demand node count) → IsNeededRail demand node count rail
rail_there demand node count rail m =
    let f = IsIn-from_flat_map (λ its. map (rail_number its) (needed_signs demand its)) rail (range_with_len node count) m in
    let s = IsIn-from_map (rail_number f.0) rail (needed_signs demand f.0) f.2 in
    let r = in_range node count f.0 f.1 in
    record { node = f.0; sign = s.0; low = r.0; high = r.1; is = sym s.2; need = its_need demand f.0 s.0 s.1 }

-- each stands once
one_once : (rail x : ℕ) → occurrences rail (x ∷ []) ≤ 1
one_once rail x = elim (cases_eq x rail) [ inl e ↦ let h = occurrences-head rail x [] e in omega arith | inr ne ↦ let h = occurrences-other rail x [] ne in omega arith ]

node_once : (node : ℕ) (p q : Bool) (rail : ℕ) → occurrences rail (map (rail_number node) (sign_if p Pos ++ sign_if q Neg)) ≤ 1
node_once node true true rail = elim (cases_eq (2 * node) rail) [
  | inl e ↦
      let h = occurrences-head rail (2 * node) ((2 * node + 1) ∷ []) e in
      let o = occurrences-other rail (2 * node + 1) [] (λ f. absurd (omega arith)) in omega arith
  | inr ne ↦ let h = occurrences-other rail (2 * node) ((2 * node + 1) ∷ []) ne in let o = one_once rail (2 * node + 1) in omega arith
]
node_once node true false rail = one_once rail (2 * node)
node_once node false true rail = one_once rail (2 * node + 1)
node_once node false false rail = omega arith

number_bounds : (node : ℕ) (sign : Sign) → (2 * node ≤ rail_number node sign) × (rail_number node sign < 2 * (node + 1))
number_bounds node Pos = (omega arith, omega arith)
number_bounds node Neg = (omega arith, omega arith)

rails_once : (demand : PlainDemand) (node count rail : ℕ) → occurrences rail (rails_from demand node count) ≤ 1
rails_once demand node zero rail = omega arith
rails_once demand node (suc count) rail =
    let a = occurrences-append rail (map (rail_number node) (needed_signs demand node)) (rails_from demand (node + 1) count) in
    let one = node_once node (is_needed demand node Pos) (is_needed demand node Neg) rail in
    let more = rails_once demand (node + 1) count rail in
    elim (is_in rail (map (rail_number node) (needed_signs demand node))) [
      | inl m ↦
          let s = IsIn-from_map (rail_number node) rail (needed_signs demand node) m in
          let b = number_bounds node s.0 in
          let none = occurrences-absent rail (rails_from demand (node + 1) count) (λ k.
          let t = rail_there demand (node + 1) count rail k in
          let c = number_bounds t.node t.sign in let e = s.2 in let i = t.is in let l = t.low in let b1 = b.1 in let c0 = c.0 in absurd (omega arith)) in omega arith
      | inr none ↦ let z = occurrences-absent rail (map (rail_number node) (needed_signs demand node)) none in omega arith
    ]

module _ (built : PlainBuilt) (demand : PlainDemand) (ask : Ask) (label : ℕ → ℕ) (net : PlainNetlist) (labelled : IsLabelled built label net) (sound : IsSound net)
    (exact : IsDemand built ask demand) (useful : (node : ℕ) (side : Sign) → Needed built ask node side → HasUsefulTop label net (rail_number node side))
    (inputs_follow : InputsFollow) (latches_follow : LatchesFollow) (gates : flat_map gate_in net.cells ≡ gates_for built demand) where
  abbrev wanted : List ℕ
  wanted = rails_from demand (first_conjunction built.graph) (length built.graph.pairs)

  abbrev made : List ℕ
  made = flat_map gate_outs net.cells

  -- the gate of a needed rail, whose wire is useful
  record HasUsefulGate (rail : ℕ) : Type 0 where
    out : ℕ
    among : IsIn out made
    carries : label out ≡ rail
    its_use : Useful net out

  its_gate : (rail : ℕ) → IsNeededRail demand (first_conjunction built.graph) (length built.graph.pairs) rail → HasUsefulGate rail
  its_gate rail r =
      by (driven_for built label net labelled sound top.top r.node r.sign top.is_top top.carries (rail_low built r.node r.sign (omega (arith, r.high))) top.inside)
    where
      top : HasUsefulTop label net (rail_number r.node r.sign)
      top = useful r.node r.sign ((exact.exact r.node (omega (arith, r.high)) r.sign).0 r.need)

      by : IsDrivenFor built label net top.top r.node r.sign → HasUsefulGate rail
      by (of_input port is) = let at = (inputs_follow built.graph r.node port).0 is in let low = r.low in let a = at.0 in let b = at.1 in absurd (omega arith)
      by (of_back preload feed q n m o b is) =
          let at = (latches_follow built.graph b.node b.latch).0 b.stands in let low = r.low in let a = at.0 in let c = at.1 in absurd (omega arith)
      by (of_constant preload feed q n m o is) = let low = r.low in absurd (omega arith)
      by (of_gate cell side a b out m ra rb o go g e same is) = record {
        out = out;
        among = IsIn-flat_map gate_outs out cell net.cells m go;
        carries = ap label e ∙ top.carries ∙ sym r.is;
        its_use = subst (λ (w : ℕ). Useful net w) (sym e) top.useful;
      }

  counts : (rail : ℕ) → occurrences rail (map label made) ≡ occurrences rail wanted
  counts = same_counts wanted (map label made) (rails_once demand (first_conjunction built.graph) (length built.graph.pairs))
      (λ rail m. let g = its_gate rail (rail_there demand (first_conjunction built.graph) (length built.graph.pairs) rail m) in
      subst (λ (r : ℕ). IsIn r (map label made)) g.carries (IsIn-map label g.out made g.among))
      (let l = length-map made label in let o = as_many_outs net.cells in let g = ap (λ (l : List Gate). length l) gates in
      let r = as_many_rails demand (first_conjunction built.graph) (length built.graph.pairs) in omega arith)

  at_most_one : (rail : ℕ) → occurrences rail (map label made) ≤ 1
  at_most_one rail = let c = counts rail in let o = rails_once demand (first_conjunction built.graph) (length built.graph.pairs) rail in omega arith

  -- two gates do not drive the same rail
  pub gates_apart : (one other : ℕ) → IsIn one made → IsIn other made → label one ≡ label other → one ≡ other
  gates_apart one other m k e = same_item label (label other) made one other (at_most_one (label other)) m k e refl

  -- and what a gate drives is useful
  pub gate_useful : (out : ℕ) → IsIn out made → Useful net out
  gate_useful out m =
      let some = IsIn-occurrences (label out) (map label made) (IsIn-map label out made m) in let c = counts (label out) in
      let g = its_gate (label out) (rail_there demand (first_conjunction built.graph) (length built.graph.pairs) (label out) (occurrences-IsIn (label out) wanted (omega arith))) in
      subst (λ (w : ℕ). Useful net w) (gates_apart g.out out g.among m g.carries) g.its_use
