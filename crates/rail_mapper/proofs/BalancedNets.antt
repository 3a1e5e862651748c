-- In a sound netlist whose wires stand no deeper than they may, each reader that is no splitter does.
use Rattle.std.proofs.Common.{◌≡◌, ◌≤◌, ◌<◌, inl, inr, ℕ, zero, suc, Bool, true, nat_lt, length, map, sym, subst, refl, arith}
use Rattle.std.specs.List.{flat_map}
use Rattle.std.proofs.lemmas.Bool.{and_from, lt-ltb}
use Rattle.pulse_ids.specs.Lists.{IsIn, occurrences, HowManyHave, ceil_log2}
use Rattle.pulse_ids.proofs.CallerLemmas.{IsIn-append, IsIn-left, IsIn-right, IsIn-flat_map, IsIn-from_flat_map}
use Rattle.pulse_ids.proofs.CallerLemmasOnCounts.{occurrences-append, IsIn-occurrences, occurrences-IsIn}
use Rattle.cell_netlist.specs.declared.lines.Cell.{Cell}
use Rattle.cell_netlist.specs.declared.lines.Cell.TheVariants.{La, Fa, Split, Droc}
use Rattle.cell_netlist.specs.Lean.{reads_of_leaf, leaves}
use Rattle.cell_netlist.specs.Netlists.{PlainNetlist, wire_of, reads, driven, read, number_of_wires, Splits, IsRoot}
use Rattle.cell_netlist.specs.Sound.{IsSound}
use Rattle.cell_netlist.proofs.CallerLemmas.{root_unique}
use Rattle.cell_netlist.proofs.CallerLemmasOnDrivers.{driven-once, driven-below, read-low, read-once, same_reader}
use Rattle.cell_netlist.specs.Decisions.{all_below, is_none_driven_twice}
use Rattle.splitter_trees.proofs.CallerLemmas.{logs_grow}
use Rattle.rail_mapper.specs.FanOuts.{IsEnd, AreFannedOut}
use Rattle.rail_mapper.proofs.ListCounts.{distinct_few}
use Rattle.rail_mapper.proofs.TreeWires.{split_reads}

-- a reader that is no splitter
leaf_reads : (cell : Cell) (wire : ℕ) → IsIn wire (reads_of_leaf cell) → IsIn wire (reads cell)
leaf_reads (La a b out) wire m = m
leaf_reads (Fa a b out) wire m = m
leaf_reads (Split from left right) wire m = absurd m
leaf_reads (Droc role preload feed q n) wire m = m

leaf_splits_none : (cell : Cell) (wire from to : ℕ) → IsIn wire (reads_of_leaf cell) → Splits cell from to → ⊥
leaf_splits_none (La a b out) wire from to m s = s
leaf_splits_none (Fa a b out) wire from to m s = s
leaf_splits_none (Split source left right) wire from to m s = m
leaf_splits_none (Droc role preload feed q n) wire from to m s = s

end_reads : (net : PlainNetlist) (wire : ℕ) (cell : Cell) → IsEnd net wire → IsIn cell net.cells → IsIn wire (reads cell) → IsIn wire (reads_of_leaf cell)
end_reads net wire (La a b out) end m r = r
end_reads net wire (Fa a b out) end m r = r
end_reads net wire (Split from left right) end m (inl e) = absurd (end left.number (Split from left right, m, (e, inl refl)))
end_reads net wire (Split from left right) end m (inr k) = absurd k
end_reads net wire (Droc role preload feed q n) end m r = r

-- a test that each number below n has
all_below-so : (test : ℕ → Bool) (n : ℕ) → ((k : ℕ) → k < n → test k ≡ true) → all_below test n ≡ true
all_below-so test zero all = refl
all_below-so test (suc n) all = and_from (test n) (all_below test n) (all n (omega arith)) (all_below-so test n (λ k low. all k (omega arith)))

once_so : (net : PlainNetlist) → IsSound net → is_none_driven_twice net ≡ true
once_so net sound = all_below-so (λ wire. nat_lt (occurrences wire (driven net)) 2) (number_of_wires net) (λ wire low.
    let few = driven-once net sound wire in lt-ltb (occurrences wire (driven net)) 2 (omega arith))

module _ (net : PlainNetlist) (sound : IsSound net) (fanned_out : AreFannedOut net) where
  leaf_read : (wire : ℕ) → IsIn wire (leaves net) → IsIn wire (read net)
  leaf_read wire m = elim (IsIn-append wire (flat_map reads_of_leaf net.cells) (map wire_of net.output_rails) m) [
    | inl k ↦ let c = IsIn-from_flat_map reads_of_leaf wire net.cells k in
        IsIn-left wire (flat_map reads net.cells) (map wire_of net.output_rails) (IsIn-flat_map reads wire c.0 net.cells c.1 (leaf_reads c.0 wire c.2))
    | inr k ↦ IsIn-right wire (flat_map reads net.cells) (map wire_of net.output_rails) k
  ]

  -- no splitter reads what such a reader reads
  leaf_end : (wire : ℕ) → IsIn wire (leaves net) → IsEnd net wire
  leaf_end wire m to (cell, among, s) = elim (IsIn-append wire (flat_map reads_of_leaf net.cells) (map wire_of net.output_rails) m) [
    | inl k ↦
        let c = IsIn-from_flat_map reads_of_leaf wire net.cells k in
        let same = same_reader net sound wire cell c.0 among c.1 (split_reads cell wire to s) (leaf_reads c.0 wire c.2) in
        leaf_splits_none c.0 wire wire to c.2 (subst (λ (x : Cell). Splits x wire to) same s)
    | inr k ↦
        let one = IsIn-occurrences wire (flat_map reads net.cells) (IsIn-flat_map reads wire cell net.cells among (split_reads cell wire to s)) in
        let two = IsIn-occurrences wire (map wire_of net.output_rails) k in
        let both = occurrences-append wire (flat_map reads net.cells) (map wire_of net.output_rails) in
        let few = read-once net sound wire in absurd (omega arith)
  ]

  -- and what no splitter reads such a reader does
  end_leaf : (wire : ℕ) → IsIn wire (driven net) → IsEnd net wire → IsIn wire (leaves net)
  end_leaf wire d end =
      elim (IsIn-append wire (flat_map reads net.cells) (map wire_of net.output_rails) (occurrences-IsIn wire (read net) (sound.wired.all_read wire (driven-below net wire d)))) [
        | inl k ↦ let c = IsIn-from_flat_map reads wire net.cells k in
            IsIn-left wire (flat_map reads_of_leaf net.cells) (map wire_of net.output_rails)
            (IsIn-flat_map reads_of_leaf wire c.0 net.cells c.1 (end_reads net wire c.0 end c.1 c.2))
        | inr k ↦ IsIn-right wire (flat_map reads_of_leaf net.cells) (map wire_of net.output_rails) k
      ]

  pub all_balanced : (root wire k : ℕ) → IsIn wire (leaves net) → HowManyHave (λ leaf. IsRoot net root leaf) (leaves net) k → (below : IsRoot net root wire) → below.splitters ≤ ceil_log2 k
  all_balanced root wire k m many below =
      let its = fanned_out wire (occurrences-IsIn wire (driven net) (sound.wired.all_driven wire (read-low net wire (leaf_read wire m)))) (leaf_end wire m) in
      let b = its.fan_out.below wire its.among in
      let same = root_unique net (once_so net sound) wire root its.root below (record { splitters = b.0; chain = b.2; first = its.fan_out.top }) in
      let few = distinct_few (λ leaf. IsRoot net root leaf) (leaves net) k many its.ends its.fan_out.distinct (λ leaf i. (
        end_leaf leaf (its.fan_out.all_driven leaf i) (its.fan_out.all_ends leaf i),
        let c = its.fan_out.below leaf i in subst (λ (r : ℕ). IsRoot net r leaf) (sym same.0) (record { splitters = c.0; chain = c.2; first = its.fan_out.top }),
      )) in
      let grow = logs_grow (length its.ends) k few in
      let depth = same.1 in omega (arith, b.1, depth, grow)
