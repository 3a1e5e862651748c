-- What more lines leave of how deep wires stand below splitters.
use Rattle.std.proofs.Common.{◌≡◌, ◌≤◌, ◌<◌, ◌⊎◌, inl, inr, ℕ, zero, suc, List, [], ◌∷◌, ap, sym, subst, refl, arith}
use Rattle.std.specs.List.{flat_map}
use Rattle.std.proofs.lemmas.Bool.{cases_eq}
use Rattle.pulse_ids.specs.Lists.{IsIn, ceil_log2}
use Rattle.pulse_ids.proofs.CallerLemmas.{IsIn-append, IsIn-left, IsIn-right, IsIn-from_flat_map}
use Rattle.pulse_ids.proofs.CallerLemmasOnCounts.{occurrences-head, occurrences-other, occurrences-absent, IsIn-occurrences, occurrences-IsIn}
use Rattle.cell_netlist.specs.declared.lines.Cell.{Cell}
use Rattle.cell_netlist.specs.declared.lines.Cell.TheVariants.{La, Fa, Split, Droc}
use Rattle.cell_netlist.specs.Netlists.{PlainNetlist, outs, reads, driven, number_of_wires, Splits, HasSplitter, SplittersBelow}
use Rattle.cell_netlist.specs.MoreLines.{AddsCells}
use Rattle.cell_netlist.proofs.CallerLemmas.{cells_add, named_below, Splits-out}
use Rattle.splitter_trees.specs.Spreading.{Spreads, with_cells, only_cells}
use Rattle.splitter_trees.proofs.CallerLemmas.{chain_stands}
use Rattle.rail_mapper.specs.FanOuts.{IsTop, IsEnd, IsFanOut, IsFannedOut, AreFannedOut}
use Rattle.rail_mapper.proofs.TreeWires.{IsSplitBy, reading_splits, new_to, new_reads, new_from, leaf_from, at_most_once}

-- chains of splitters go where all splitters do
pub chain_same : (net after : PlainNetlist) → ((from to : ℕ) → HasSplitter net from to → HasSplitter after from to) → (splitters from to : ℕ) → SplittersBelow net splitters from to
    → SplittersBelow after splitters from to
chain_same net after move zero from to chain = chain
chain_same net after move (suc n) from to (mid, first, rest) = (mid, move from mid first, chain_same net after move n mid to rest)

-- the last splitter of a chain
last_splitter : (net : PlainNetlist) (n from to : ℕ) → SplittersBelow net (suc n) from to → (mid : ℕ) × HasSplitter net mid to
last_splitter net zero from to chain = (from, subst (λ (wire : ℕ). HasSplitter net from wire) chain.2 chain.1)
last_splitter net (suc n) from to chain = last_splitter net n chain.0 to chain.2

-- a chain to a wire that no splitter drives has no splitter, and so has one from a wire that no splitter reads
pub top_alone : (net : PlainNetlist) (n from to : ℕ) → IsTop net to → SplittersBelow net n from to → from ≡ to
top_alone net zero from to top chain = chain
top_alone net (suc n) from to top chain = let last = last_splitter net n from to chain in absurd (top last.0 last.1)

end_alone : (net : PlainNetlist) (n from to : ℕ) → IsEnd net from → SplittersBelow net n from to → from ≡ to
end_alone net zero from to end chain = chain
end_alone net (suc n) from to end chain = absurd (end chain.0 chain.1)

-- what a splitter reads and drives is a number of the netlist's
pub split_from_below : (net : PlainNetlist) (from to : ℕ) → HasSplitter net from to → from < number_of_wires net
split_from_below net from to (Split source left right, m, s) = (named_below net).of_reads (Split source left right) m from (inl s.0)
split_from_below net from to (La a b out, m, s) = absurd s
split_from_below net from to (Fa a b out, m, s) = absurd s
split_from_below net from to (Droc role preload feed q n, m, s) = absurd s

pub split_to_below : (net : PlainNetlist) (from to : ℕ) → HasSplitter net from to → to < number_of_wires net
split_to_below net from to (cell, m, s) = (named_below net).of_outs cell m to (Splits-out cell from to s)

-- a wire that is to come is driven and read by no splitter
pub fresh_top : (net : PlainNetlist) (wire : ℕ) → number_of_wires net ≤ wire → IsTop net wire
fresh_top net wire far from s = let b = split_to_below net from wire s in absurd (omega arith)

pub fresh_end : (net : PlainNetlist) (wire : ℕ) → number_of_wires net ≤ wire → IsEnd net wire
fresh_end net wire far to s = let b = split_from_below net wire to s in absurd (omega arith)

-- a wire by itself
pub alone : (net : PlainNetlist) (wire : ℕ) → IsIn wire (driven net) → IsTop net wire → IsEnd net wire → IsFannedOut net wire
alone net wire d top end = record {
  root = wire;
  ends = wire ∷ [];
  among = inl refl;
  fan_out = record {
    top = top;
    root_driven = d;
    distinct = λ other. elim (cases_eq wire other) [
      | inl e ↦ let h = occurrences-head other wire [] e in omega arith
      | inr ne ↦ let h = occurrences-other other wire [] ne in omega arith
    ];
    all_driven = λ other m. subst (λ (w : ℕ). IsIn w (driven net)) (only other m) d;
    all_ends = λ other m. subst (IsEnd net) (only other m) end;
    below = λ other m. (0, omega arith, only other m);
  };
}
  where
    only : (other : ℕ) → IsIn other (wire ∷ []) → wire ≡ other
    only other (inl e) = e
    only other (inr m) = absurd m

-- where the splitters stay and each new driven wire is by itself, all stand as deep as they did
pub same_fanned_out : (net after : PlainNetlist) → ((from to : ℕ) → HasSplitter net from to → HasSplitter after from to)
    → ((from to : ℕ) → HasSplitter after from to → HasSplitter net from to) → ((wire : ℕ) → IsIn wire (driven net) → IsIn wire (driven after))
    → ((wire : ℕ) → IsIn wire (driven after) → IsIn wire (driven net) ⊎ (IsTop after wire × IsEnd after wire)) → AreFannedOut net → AreFannedOut after
same_fanned_out net after move back kept split h wire d end = elim (split wire d) [
  | inl old ↦
      let its = h wire old (λ to s. end to (move wire to s)) in
      record {
        root = its.root;
        ends = its.ends;
        among = its.among;
        fan_out = record {
          top = λ from s. its.fan_out.top from (back from its.root s);
          root_driven = kept its.root its.fan_out.root_driven;
          distinct = its.fan_out.distinct;
          all_driven = λ other m. kept other (its.fan_out.all_driven other m);
          all_ends = λ other m to s. its.fan_out.all_ends other m to (back other to s);
          below = λ other m. let b = its.fan_out.below other m in (b.0, b.1, chain_same net after move b.0 its.root other b.2);
        };
      }
  | inr bare ↦ alone after wire d bare.0 bare.1
]

-- a cell that is no splitter and drives wires that are to come
pub cell_fanned_out : (net : PlainNetlist) (cell : Cell) → ((from to : ℕ) → Splits cell from to → ⊥) → ((wire : ℕ) → IsIn wire (outs cell) → number_of_wires net ≤ wire)
    → AreFannedOut net → AreFannedOut (with_cells net (cell ∷ []))
cell_fanned_out net cell none new h =
    same_fanned_out net (with_cells net (cell ∷ []))
    (λ from to s. (more.splitters from to).1 (inl s))
    back
    (λ wire m. subst (λ (l : List ℕ). IsIn wire l) (sym more.driven_behind) (IsIn-left wire (driven net) (flat_map outs (cell ∷ [])) m))
    (λ wire m. elim (IsIn-append wire (driven net) (flat_map outs (cell ∷ [])) (subst (λ (l : List ℕ). IsIn wire l) more.driven_behind m)) [
      | inl old ↦ inl old
      | inr later ↦
          let c = IsIn-from_flat_map outs wire (cell ∷ []) later in
          let far = new wire (its c.0 wire c.1 c.2) in
          inr (λ from s. fresh_top net wire far from (back from wire s), λ to s. fresh_end net wire far to (back wire to s))
    ]) h
  where
    more : AddsCells net (with_cells net (cell ∷ [])) (cell ∷ [])
    more = cells_add net (cell ∷ [])

    its : (other : Cell) (wire : ℕ) → IsIn other (cell ∷ []) → IsIn wire (outs other) → IsIn wire (outs cell)
    its other wire (inl e) m = subst (λ (c : Cell). IsIn wire (outs c)) (sym e) m
    its other wire (inr k) m = absurd k

    back : (from to : ℕ) → HasSplitter (with_cells net (cell ∷ [])) from to → HasSplitter net from to
    back from to s = elim ((more.splitters from to).0 s) [
      | inl old ↦ old
      | inr (other, inl e, k) ↦ absurd (none from to (subst (λ (c : Cell). Splits c from to) (sym e) k))
      | inr (other, inr m, k) ↦ absurd m
    ]

-- the wire is driven, and no splitter drives or reads it
pub record IsBare (net : PlainNetlist) (wire : ℕ) : Type 0 where
  pub there : IsIn wire (driven net)
  pub top : IsTop net wire
  pub end : IsEnd net wire

-- the tree of a bare wire
module _ (net : PlainNetlist) (next root readers : ℕ) (cells : List Cell) (leaves : List ℕ) (tree : Spreads next root readers cells leaves)
    (driven_low : (wire : ℕ) → IsIn wire (driven net) → wire < next) (split_low : (from to : ℕ) → HasSplitter net from to → from < next) (is : IsBare net root) where
  abbrev after : PlainNetlist
  after = with_cells net cells

  more : AddsCells net after cells
  more = cells_add net cells

  move : (from to : ℕ) → HasSplitter net from to → HasSplitter after from to
  move from to s = (more.splitters from to).1 (inl s)

  kept : (wire : ℕ) → IsIn wire (driven net) → IsIn wire (driven after)
  kept wire m = subst (λ (l : List ℕ). IsIn wire l) (sym more.driven_behind) (IsIn-left wire (driven net) (flat_map outs cells) m)

  to_new : (from to : ℕ) → IsSplitBy cells from to → next ≤ to
  to_new from to new = (new_to next root readers cells leaves tree from to new).0

  leaf_end : (wire : ℕ) → IsIn wire leaves → IsEnd after wire
  leaf_end wire m to s = elim ((more.splitters wire to).0 s) [
    | inl old ↦ elim (leaf_from next root readers cells leaves tree wire m) [
      | inl e ↦ is.end to (subst (λ (w : ℕ). HasSplitter net w to) (sym e) old)
      | inr far ↦ let l = split_low wire to old in let f = far.0 in absurd (omega arith)
    ]
    | inr new ↦
        let o = tree.once wire in let k = IsIn-occurrences wire leaves m in let r = new_reads next root readers cells leaves tree wire to new in
        let few = at_most_once next root readers cells leaves tree (driven_low root is.there) wire in absurd (omega arith)
  ]

  leaves_fan_out : IsFanOut after root leaves
  leaves_fan_out = record {
    top = λ from s. elim ((more.splitters from root).0 s) [
      | inl old ↦ is.top from old
      | inr new ↦ let far = to_new from root new in let low = driven_low root is.there in absurd (omega arith)
    ];
    root_driven = kept root is.there;
    distinct = tree.distinct;
    all_driven = λ wire m. leaf_driven wire (let o = tree.once wire in let k = IsIn-occurrences wire leaves m in occurrences-IsIn wire (root ∷ flat_map outs cells) (omega arith));
    all_ends = leaf_end;
    below = λ wire m. let b = tree.below wire m in (
      b.0,
      omega (arith, b.1, ap ceil_log2 tree.one_each),
      chain_stands (only_cells cells) after (λ cell k. IsIn-right cell net.cells cells k) b.0 root wire b.2,
    );
  }
    where
      leaf_driven : (wire : ℕ) → IsIn wire (root ∷ flat_map outs cells) → IsIn wire (driven after)
      leaf_driven wire (inl e) = subst (λ (w : ℕ). IsIn w (driven after)) e (kept root is.there)
      leaf_driven wire (inr m) = subst (λ (l : List ℕ). IsIn wire l) (sym more.driven_behind) (IsIn-right wire (driven net) (flat_map outs cells) m)

  -- a wire that stood below another root still does
  old_fan_out : (wire : ℕ) → IsEnd after wire → IsFannedOut net wire → IsFannedOut after wire
  old_fan_out wire end its = record {
    root = its.root;
    ends = its.ends;
    among = its.among;
    fan_out = record {
      top = λ from s. elim ((more.splitters from its.root).0 s) [
        | inl old ↦ its.fan_out.top from old
        | inr new ↦ let far = to_new from its.root new in let low = driven_low its.root its.fan_out.root_driven in absurd (omega arith)
      ];
      root_driven = kept its.root its.fan_out.root_driven;
      distinct = its.fan_out.distinct;
      all_driven = λ other m. kept other (its.fan_out.all_driven other m);
      all_ends = λ other m to s. elim ((more.splitters other to).0 s) [
        | inl old ↦ its.fan_out.all_ends other m to old
        | inr new ↦ elim (new_from next root readers cells leaves tree other to new) [
          | inl e ↦ absurd (not_root (subst (λ (w : ℕ). IsIn w its.ends) (sym e) m) to (subst (λ (w : ℕ). IsSplitBy cells w to) (sym e) new))
          | inr far ↦ let low = driven_low other (its.fan_out.all_driven other m) in let f = far.0 in absurd (omega arith)
        ]
      ];
      below = λ other m. let b = its.fan_out.below other m in (b.0, b.1, chain_same net after move b.0 its.root other b.2);
    };
  }
    where
      not_root : IsIn root its.ends → (to : ℕ) → IsSplitBy cells root to → ⊥
      not_root m to new =
          let b = its.fan_out.below root m in
          let same : its.root ≡ root = top_alone net b.0 its.root root is.top b.2 in
          let c = its.fan_out.below wire its.among in
          let same_wire : root ≡ wire = end_alone net c.0 root wire is.end (subst (λ (w : ℕ). SplittersBelow net c.0 w wire) same c.2) in
          end to ((more.splitters wire to).1 (inr (subst (λ (w : ℕ). IsSplitBy cells w to) same_wire new)))

  pub tree_fanned_out : AreFannedOut net → AreFannedOut after
  tree_fanned_out h wire d end = elim (IsIn-append wire (driven net) (flat_map outs cells) (subst (λ (l : List ℕ). IsIn wire l) more.driven_behind d)) [
    | inl old ↦ old_fan_out wire end (h wire old (λ to s. end to (move wire to s)))
    | inr new ↦ record { root = root; ends = leaves; fan_out = leaves_fan_out; among = leaf_so new }
  ]
    where
      unread : IsIn wire (flat_map reads cells) → ⊥
      unread m =
          let c = IsIn-from_flat_map reads wire cells m in
          let s = reading_splits c.0 wire (tree.all_split c.0 c.1) c.2 in
          end s.0 ((more.splitters wire s.0).1 (inr (c.0, c.1, s.1)))

      leaf_so : IsIn wire (flat_map outs cells) → IsIn wire leaves
      leaf_so m =
          let o = tree.once wire in let none = occurrences-absent wire (flat_map reads cells) unread in
          let some = IsIn-occurrences wire (root ∷ flat_map outs cells) (inr m) in occurrences-IsIn wire leaves (omega arith)

  -- other bare wires stay bare
  pub bare_kept : (wire : ℕ) → IsBare net wire → (root ≡ wire → ⊥) → IsBare after wire
  bare_kept wire its other = record {
    there = kept wire its.there;
    top = λ from s. elim ((more.splitters from wire).0 s) [
      | inl old ↦ its.top from old
      | inr new ↦ let far = to_new from wire new in let low = driven_low wire its.there in absurd (omega arith)
    ];
    end = λ to s. elim ((more.splitters wire to).0 s) [
      | inl old ↦ its.end to old
      | inr new ↦ elim (new_from next root readers cells leaves tree wire to new) [
        | inl e ↦ other e
        | inr far ↦ let low = driven_low wire its.there in let f = far.0 in absurd (omega arith)
      ]
    ];
  }
