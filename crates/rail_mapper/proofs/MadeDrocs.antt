-- The DROCs are those of the needed rails, each made once, and each drives a useful wire.
use Rattle.std.proofs.Common.{◌≡◌, ◌≤◌, ◌<◌, ◌+◌, ◌-◌, ◌||◌, inl, inr, ℕ, Bool, true, false, Option, List, [], ◌∷◌, ◌++◌, map, length, ap, sym, subst, ◌∙◌, refl, arith, if◌then◌else◌}
use Rattle.std.specs.List.{flat_map, range_with_len}
use Rattle.std.proofs.lemmas.Bool.{cases_eq, or_cases}
use Rattle.std.proofs.lemmas.List.{length-map}
use Rattle.pulse_ids.specs.Ids.{WireId}
use Rattle.pulse_ids.specs.Lists.{IsIn, occurrences}
use Rattle.pulse_ids.specs.declared.literals.Sign.{Sign}
use Rattle.pulse_ids.specs.declared.literals.Sign.TheVariants.{Pos, Neg}
use Rattle.pulse_ids.proofs.CallerLemmas.{IsIn-map, IsIn-from_map, IsIn-flat_map, IsIn-from_flat_map}
use Rattle.pulse_ids.proofs.CallerLemmasOnCounts.{occurrences-head, occurrences-other, IsIn-occurrences, occurrences-IsIn, same_item}
use Rattle.cell_netlist.specs.declared.kinds.Ask.{Ask}
use Rattle.cell_netlist.specs.declared.kinds.Role.TheVariants.{Front, Back, Const}
use Rattle.cell_netlist.specs.declared.lines.Cell.{Cell}
use Rattle.cell_netlist.specs.declared.lines.Cell.TheVariants.{La, Fa, Split, Droc}
use Rattle.cell_netlist.specs.Netlists.{PlainNetlist}
use Rattle.cell_netlist.specs.Sound.{IsSound}
use Rattle.cell_netlist.proofs.CallerLemmasOnDrivers.{same_reader}
use Rattle.splitter_trees.proofs.CallerLemmasOnRanges.{range-once}
use Rattle.wire_ledgers.proofs.CallerLemmasOnRanges.{in_range}
use Rattle.aig_core.specs.Graphs.{count_of}
use Rattle.aig_core.specs.Laws.{InputsFollow, LatchesFollow, ConjunctionsAreLast}
use Rattle.graph_build.specs.Built.{PlainBuilt}
use Rattle.rail_demand.specs.Demands.{PlainDemand, is_needed, IsDemand, Needed}
use Rattle.rail_mapper.specs.Cells.{role_in, roles_for}
use Rattle.rail_mapper.specs.Labels.{rail_number, rails_in, IsLabelled}
use Rattle.rail_mapper.specs.LatchStages.{latches_needed}
use Rattle.rail_mapper.specs.Mapped.{roles_in}
use Rattle.rail_mapper.proofs.FewCells.{role_counts}
use Rattle.rail_mapper.proofs.ListCounts.{same_counts}
use Rattle.rail_mapper.proofs.RailDrivers.{IsDrivenFor, of_input, of_gate, of_back, of_constant, driven_for}
use Rattle.rail_mapper.proofs.UsefulRails.{HasUsefulTop}
use Rattle.rail_mapper.proofs.UsefulWires.{HasUse}
use Rattle.rail_mapper.proofs.Values.{rail_low}

-- the feed of a back, and that of a constant
abbrev pub back_feeds : Cell → List ℕ
back_feeds (Droc Back preload feed q n) = feed.number ∷ []
back_feeds cell = []

abbrev pub const_feeds : Cell → List ℕ
const_feeds (Droc Const preload feed q n) = feed.number ∷ []
const_feeds cell = []

as_many_backs : (cells : List Cell) → length (flat_map back_feeds cells) ≡ roles_in Back (flat_map role_in cells)
as_many_backs [] = refl
as_many_backs ((La a b out) ∷ cells) = as_many_backs cells
as_many_backs ((Fa a b out) ∷ cells) = as_many_backs cells
as_many_backs ((Split from left right) ∷ cells) = as_many_backs cells
as_many_backs ((Droc Front preload feed q n) ∷ cells) = let r = as_many_backs cells in omega arith
as_many_backs ((Droc Back preload feed q n) ∷ cells) = let r = as_many_backs cells in omega arith
as_many_backs ((Droc Const preload feed q n) ∷ cells) = let r = as_many_backs cells in omega arith

as_many_consts : (cells : List Cell) → length (flat_map const_feeds cells) ≡ roles_in Const (flat_map role_in cells)
as_many_consts [] = refl
as_many_consts ((La a b out) ∷ cells) = as_many_consts cells
as_many_consts ((Fa a b out) ∷ cells) = as_many_consts cells
as_many_consts ((Split from left right) ∷ cells) = as_many_consts cells
as_many_consts ((Droc Front preload feed q n) ∷ cells) = let r = as_many_consts cells in omega arith
as_many_consts ((Droc Back preload feed q n) ∷ cells) = let r = as_many_consts cells in omega arith
as_many_consts ((Droc Const preload feed q n) ∷ cells) = let r = as_many_consts cells in omega arith

-- picked numbers of a range stand once
module _ (pick : ℕ → Bool) where
  abbrev picked : ℕ → List ℕ
  picked latch = if pick latch then latch ∷ [] else []

  picked_less : (xs : List ℕ) (n : ℕ) → occurrences n (flat_map picked xs) ≤ occurrences n xs
  picked_less [] n = omega arith
  picked_less (x ∷ xs) n = by (pick x) (picked_less xs n)
    where
      by : (b : Bool) → occurrences n (flat_map picked xs) ≤ occurrences n xs → occurrences n ((if b then x ∷ [] else []) ++ flat_map picked xs) ≤ occurrences n (x ∷ xs)
      by true r = omega arith
      by false r = omega arith

  picked_there : (xs : List ℕ) (n : ℕ) → IsIn n (flat_map picked xs) → IsIn n xs × (pick n ≡ true)
  picked_there xs n m = let f = IsIn-from_flat_map picked n xs m in by f.0 f.1 (pick f.0) refl f.2
    where
      by : (x : ℕ) → IsIn x xs → (b : Bool) → pick x ≡ b → IsIn n (if b then x ∷ [] else []) → IsIn n xs × (pick n ≡ true)
      by x k true e (inl s) = (subst (λ (y : ℕ). IsIn y xs) s k, ap pick (sym s) ∙ e)
      by x k true e (inr i) = absurd i
      by x k false e i = absurd i

-- numbers moved up by the same stand as often
moved_few : (by_much : ℕ) (xs : List ℕ) (n : ℕ) → occurrences n (map (λ k. by_much + k) xs) ≤ occurrences (n - by_much) xs
moved_few by_much [] n = omega arith
moved_few by_much (x ∷ xs) n =
    let r = moved_few by_much xs n in
    elim (cases_eq (by_much + x) n) [
      | inl e ↦
          let h = occurrences-head n (by_much + x) (map (λ k. by_much + k) xs) e in let k = occurrences-head (n - by_much) x xs (omega arith) in omega arith
      | inr ne ↦ let h = occurrences-other n (by_much + x) (map (λ k. by_much + k) xs) ne in omega arith
    ]

-- two items of a list with one item
one_item : (xs : List ℕ) (a b : ℕ) → length xs ≤ 1 → IsIn a xs → IsIn b xs → a ≡ b
one_item [] a b few m k = absurd m
one_item (x ∷ []) a b few (inl e) (inl f) = sym e ∙ f
one_item (x ∷ []) a b few (inr m) k = absurd m
one_item (x ∷ []) a b few (inl e) (inr k) = absurd k
one_item (x ∷ y ∷ xs) a b few m k = absurd (omega arith)

module _ (built : PlainBuilt) (demand : PlainDemand) (ask : Ask) (label : ℕ → ℕ) (net : PlainNetlist) (labelled : IsLabelled built label net) (sound : IsSound net)
    (exact : IsDemand built ask demand) (useful : (node : ℕ) (side : Sign) → Needed built ask node side → HasUsefulTop label net (rail_number node side))
    (inputs_follow : InputsFollow) (latches_follow : LatchesFollow) (ands_last : ConjunctionsAreLast) (drocs : flat_map role_in net.cells ≡ roles_for built demand) where
  top_of : (node : ℕ) (sign : Sign) → node < count_of built.graph → is_needed demand node sign ≡ true → HasUsefulTop label net (rail_number node sign)
  top_of node sign low need = useful node sign ((exact.exact node low sign).0 need)

  its_driver : (node : ℕ) (sign : Sign) → node < count_of built.graph → (top : HasUsefulTop label net (rail_number node sign)) → IsDrivenFor built label net top.top node sign
  its_driver node sign low top = driven_for built label net labelled sound top.top node sign top.is_top top.carries (rail_low built node sign low) top.inside

  abbrev links : List ℕ
  links = flat_map back_feeds net.cells

  abbrev need_of : ℕ → Bool
  need_of latch = is_needed demand (1 + built.graph.inputs + latch) Pos || is_needed demand (1 + built.graph.inputs + latch) Neg

  abbrev wanted : List ℕ
  wanted = map (λ latch. rails_in built + latch) (latches_needed built demand built.graph.latches)

  -- the back of a needed latch, which drives a useful wire
  record HasUsefulBack (latch : ℕ) : Type 0 where
    preload : Bool
    feed : WireId
    q : Option WireId
    n : Option WireId
    among : IsIn (Droc Back preload feed q n) net.cells
    its_use : HasUse net (Droc Back preload feed q n)
    link : label feed.number ≡ rails_in built + latch

  its_back : (latch : ℕ) (sign : Sign) → latch < built.graph.latches → is_needed demand (1 + built.graph.inputs + latch) sign ≡ true → HasUsefulBack latch
  its_back latch sign low need = by (its_driver (1 + built.graph.inputs + latch) sign (omega arith) top)
    where
      top : HasUsefulTop label net (rail_number (1 + built.graph.inputs + latch) sign)
      top = top_of (1 + built.graph.inputs + latch) sign (omega arith) need

      by : IsDrivenFor built label net top.top (1 + built.graph.inputs + latch) sign → HasUsefulBack latch
      by (of_input port is) = let at = (inputs_follow built.graph (1 + built.graph.inputs + latch) port).0 is in let a = at.0 in let b = at.1 in absurd (omega arith)
      by (of_gate cell side a b out m ra rb o go g e same is) =
          let at = (ands_last built.graph g.node g.low g.high).0 g.stands in let k = at.1 in absurd (omega arith)
      by (of_constant preload feed q n m o is) = absurd (omega arith)
      by (of_back preload feed q n m o b is) =
          let at = (latches_follow built.graph b.node b.latch).0 b.stands in let k = at.1 in
          record { preload = preload; feed = feed; q = q; n = n; among = m; its_use = (top.top, o, top.useful); link = b.link_is ∙ ap (λ (l : ℕ). rails_in built + l) (omega arith) }

  latch_back : (latch : ℕ) → IsIn latch (latches_needed built demand built.graph.latches) → HasUsefulBack latch
  latch_back latch m =
      let p = picked_there need_of (range_with_len 0 built.graph.latches) latch m in
      let r = in_range 0 built.graph.latches latch p.0 in
      let low = r.1 in
      elim (or_cases (is_needed demand (1 + built.graph.inputs + latch) Pos) (is_needed demand (1 + built.graph.inputs + latch) Neg) p.1) [
        | inl need ↦ its_back latch Pos (omega arith) need
        | inr need ↦ its_back latch Neg (omega arith) need
      ]

  wanted_once : (n : ℕ) → occurrences n wanted ≤ 1
  wanted_once n =
      let a = moved_few (rails_in built) (latches_needed built demand built.graph.latches) n in
      let b = picked_less need_of (range_with_len 0 built.graph.latches) (n - rails_in built) in
      let c = range-once 0 built.graph.latches (n - rails_in built) in omega arith

  counts : (n : ℕ) → occurrences n (map label links) ≡ occurrences n wanted
  counts = same_counts wanted (map label links) wanted_once
      (λ n m.
      let f = IsIn-from_map (λ latch. rails_in built + latch) n (latches_needed built demand built.graph.latches) m in
      let b = latch_back f.0 f.1 in
      subst (λ (k : ℕ). IsIn k (map label links)) (b.link ∙ f.2)
      (IsIn-map label b.feed.number links (IsIn-flat_map back_feeds b.feed.number (Droc Back b.preload b.feed b.q b.n) net.cells b.among (inl refl))))
      (let l = length-map links label in let o = as_many_backs net.cells in let d = ap (roles_in Back) drocs in
      let w = length-map (latches_needed built demand built.graph.latches) (λ latch. rails_in built + latch) in
      let r = (role_counts built demand).1 in omega arith)

  at_most_one : (n : ℕ) → occurrences n (map label links) ≤ 1
  at_most_one n = let c = counts n in let o = wanted_once n in omega arith

  -- the back of a latch is the one that was made for it
  same_back : (preload : Bool) (feed : WireId) (q n : Option WireId) (latch : ℕ) → IsIn (Droc Back preload feed q n) net.cells → label feed.number ≡ rails_in built + latch → HasUsefulBack latch
      → HasUse net (Droc Back preload feed q n)
  same_back preload feed q n latch m link b =
      let there = IsIn-flat_map back_feeds feed.number (Droc Back preload feed q n) net.cells m (inl refl) in
      let other = IsIn-flat_map back_feeds b.feed.number (Droc Back b.preload b.feed b.q b.n) net.cells b.among (inl refl) in
      let same = same_item label (rails_in built + latch) links b.feed.number feed.number (at_most_one (rails_in built + latch)) other there b.link link in
      subst (HasUse net) (same_reader net sound feed.number (Droc Back b.preload b.feed b.q b.n) (Droc Back preload feed q n) b.among m (inl same) (inl refl)) b.its_use

  pub back_useful : (preload : Bool) (feed : WireId) (q n : Option WireId) → IsIn (Droc Back preload feed q n) net.cells → HasUse net (Droc Back preload feed q n)
  back_useful preload feed q n m =
      let there = IsIn-flat_map back_feeds feed.number (Droc Back preload feed q n) net.cells m (inl refl) in
      let some = IsIn-occurrences (label feed.number) (map label links) (IsIn-map label feed.number links there) in
      let c = counts (label feed.number) in
      let f = IsIn-from_map (λ latch. rails_in built + latch) (label feed.number) (latches_needed built demand built.graph.latches) (occurrences-IsIn (label feed.number) wanted (omega arith)) in
      same_back preload feed q n f.0 m (sym f.2) (latch_back f.0 f.1)

  -- the constant
  abbrev consts : List ℕ
  consts = flat_map const_feeds net.cells

  record HasUsefulConst : Type 0 where
    preload : Bool
    feed : WireId
    q : Option WireId
    n : Option WireId
    among : IsIn (Droc Const preload feed q n) net.cells
    its_use : HasUse net (Droc Const preload feed q n)

  its_const : (sign : Sign) → is_needed demand 0 sign ≡ true → HasUsefulConst
  its_const sign need = by (its_driver 0 sign (omega arith) top)
    where
      top : HasUsefulTop label net (rail_number 0 sign)
      top = top_of 0 sign (omega arith) need

      by : IsDrivenFor built label net top.top 0 sign → HasUsefulConst
      by (of_input port is) = let at = (inputs_follow built.graph 0 port).0 is in let b = at.1 in absurd (omega arith)
      by (of_gate cell side a b out m ra rb o go g e same is) = let at = (ands_last built.graph g.node g.low g.high).0 g.stands in let k = at.1 in absurd (omega arith)
      by (of_back preload feed q n m o b is) = let at = (latches_follow built.graph b.node b.latch).0 b.stands in let k = at.1 in absurd (omega arith)
      by (of_constant preload feed q n m o is) = record { preload = preload; feed = feed; q = q; n = n; among = m; its_use = (top.top, o, top.useful) }

  const_count : length consts ≡ (if is_needed demand 0 Pos || is_needed demand 0 Neg then 1 else 0)
  const_count = as_many_consts net.cells ∙ ap (roles_in Const) drocs ∙ (role_counts built demand).0

  pub const_useful : (preload : Bool) (feed : WireId) (q n : Option WireId) → IsIn (Droc Const preload feed q n) net.cells → HasUse net (Droc Const preload feed q n)
  const_useful preload feed q n m = by (is_needed demand 0 Pos || is_needed demand 0 Neg) refl
    where
      there : IsIn feed.number consts
      there = IsIn-flat_map const_feeds feed.number (Droc Const preload feed q n) net.cells m (inl refl)

      some : (xs : List ℕ) → IsIn feed.number xs → 1 ≤ length xs
      some [] k = absurd k
      some (x ∷ xs) k = omega arith

      moved : length consts ≤ 1 → HasUsefulConst → HasUse net (Droc Const preload feed q n)
      moved few c =
          let k = IsIn-flat_map const_feeds c.feed.number (Droc Const c.preload c.feed c.q c.n) net.cells c.among (inl refl) in
          let same : c.feed.number ≡ feed.number = one_item consts c.feed.number feed.number few k there in
          subst (HasUse net) (same_reader net sound feed.number (Droc Const c.preload c.feed c.q c.n) (Droc Const preload feed q n) c.among m (inl same) (inl refl)) c.its_use

      by : (b : Bool) → (is_needed demand 0 Pos || is_needed demand 0 Neg) ≡ b → HasUse net (Droc Const preload feed q n)
      by true e =
          let few : length consts ≤ 1 = let c = const_count ∙ ap (λ (t : Bool). if t then 1 else 0) e in omega arith in
          elim (or_cases (is_needed demand 0 Pos) (is_needed demand 0 Neg) e) [ inl need ↦ moved few (its_const Pos need) | inr need ↦ moved few (its_const Neg need) ]
      by false e = let c = const_count ∙ ap (λ (t : Bool). if t then 1 else 0) e in let s = some consts there in absurd (omega arith)
