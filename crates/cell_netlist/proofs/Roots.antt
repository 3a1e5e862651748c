-- A wire has one root, which the climb finds.
use Rattle.std.proofs.Common.{◌≡◌, ◌<◌, ◌≤◌, ◌+◌, ℕ, zero, suc, true, nat_lt, Option, Some, None, is_some, option_map, unwrap_or, List, [], ◌∷◌, map, length, ap, sym, ◌∙◌, subst, inl, inr}
use Rattle.std.proofs.Common.{arith, refl}
use Rattle.std.specs.List.{flat_map}
use Rattle.std.proofs.lemmas.Bool.{or_left, or_right, eq-eqb, cases_eq, cases_lt, cases_Bool, ltb-true}
use Rattle.cell_netlist.specs.declared.lines.Cell.{Cell}
use Rattle.cell_netlist.specs.declared.lines.Cell.TheVariants.{La, Fa, Split, Droc}
use Rattle.pulse_ids.specs.Lists.{IsIn, occurrences}
use Rattle.cell_netlist.specs.Netlists.{PlainNetlist, wire_of, outs, driven, read, number_of_wires, Splits, HasSplitter, SplittersBelow, IsRoot}
use Rattle.cell_netlist.specs.Decisions.{splits_to, source_of, splitter_above, is_none_driven_twice}
use Rattle.cell_netlist.specs.LeanDecisions.{climb_on, climb, climbed, root_of, depth_of}
use Rattle.pulse_ids.proofs.CallerLemmas.{IsIn-flat_map}
use Rattle.pulse_ids.proofs.CallerLemmasOnCounts.{occurrences-append, IsIn-occurrences}
use Rattle.cell_netlist.proofs.ListLemmas.{all_below-at}
use Rattle.cell_netlist.proofs.SoundDecisions.{SplittersBelow-one_more, splits_to-at, splitter_above-at}
use Rattle.cell_netlist.proofs.WireBounds.{occurrences-past, wire_bound-append}

-- a wire that a splitter leads to is one of its outputs
pub Splits-out : (cell : Cell) (from to : ℕ) → Splits cell from to → IsIn to (outs cell)
Splits-out (La a b out) from to h = absurd h
Splits-out (Fa a b out) from to h = absurd h
Splits-out (Split source left right) from to h = h.1
Splits-out (Droc role preload feed q n) from to h = absurd h

pub Splits-test : (cell : Cell) (from to : ℕ) → Splits cell from to → (splits_to to cell ≡ true) × (source_of cell ≡ from)
Splits-test (La a b out) from to h = absurd h
Splits-test (Fa a b out) from to h = absurd h
Splits-test (Split source left right) from to h = (
  elim h.1 [
    | inl e ↦ or_left _ _ (eq-eqb _ _ e)
    | inr later ↦ elim later [ inl e ↦ or_right _ _ (eq-eqb _ _ e) | inr none ↦ absurd none ]
  ],
  h.0,
)
Splits-test (Droc role preload feed q n) from to h = absurd h

-- the splitter above is the only one, where nothing else drives the wire
above-only : (cells : List Cell) (from w : ℕ) (cell : Cell) → occurrences w (flat_map outs cells) ≤ 1 → IsIn cell cells → Splits cell from w → splitter_above cells w ≡ Some from
above-only [] from w cell few among h = absurd among
above-only (c ∷ cells) from w cell few (inl same) h =
    let its = Splits-test c from w (subst (λ x. Splits x from w) (sym same) h) in
    rw (its.0, its.1) refl
above-only (c ∷ cells) from w cell few (inr later) h = elim (cases_Bool (splits_to w c)) [
  | inl hit ↦
      let here = IsIn-occurrences w (outs c) (Splits-out c (source_of c) w (splits_to-at c w hit)) in
      let there = IsIn-occurrences w (flat_map outs cells) (IsIn-flat_map outs w cell cells later (Splits-out cell from w h)) in
      let total = occurrences-append w (outs c) (flat_map outs cells) in
      absurd (omega arith)
  | inr miss ↦
      let total = occurrences-append w (outs c) (flat_map outs cells) in
      rw miss (above-only cells from w cell (omega arith) later h)
]

-- a list without one of its items
abbrev without_one : {X : Type 0} (x : X) (xs : List X) → IsIn x xs → List X
without_one x [] h = absurd h
without_one x (y ∷ xs) (inl e) = xs
without_one x (y ∷ xs) (inr h) = y ∷ without_one x xs h

length-without_one : {X : Type 0} (x : X) (xs : List X) (h : IsIn x xs) → length xs ≡ length (without_one x xs h) + 1
length-without_one x [] h = absurd h
length-without_one x (y ∷ xs) (inl e) = omega arith
length-without_one x (y ∷ xs) (inr h) = let r = length-without_one x xs h in omega arith

still-in : {X : Type 0} (x y : X) (xs : List X) (h : IsIn x xs) → IsIn y xs → (y ≡ x → ⊥) → IsIn y (without_one x xs h)
still-in x y [] h g other = absurd h
still-in x y (z ∷ xs) (inl e) (inl g) other = absurd (other (sym g ∙ e))
still-in x y (z ∷ xs) (inl e) (inr g) other = g
still-in x y (z ∷ xs) (inr h) (inl g) other = inl g
still-in x y (z ∷ xs) (inr h) (inr g) other = inr (still-in x y xs h g other)

-- where each number below m is met by an item, and no item meets two numbers, there are m items
pub enough : {X : Type 0} (Meets : ℕ → X → Type 0) → ((d e : ℕ) (x : X) → Meets d x → Meets e x → d ≡ e) → (m : ℕ) (xs : List X)
    → ((d : ℕ) → d < m → (x : X) × IsIn x xs × Meets d x) → m ≤ length xs
enough Meets one zero xs all = omega arith
enough Meets one (suc m) xs all =
    let top = all m (omega arith) in
    let fewer = enough Meets one m (without_one top.0 xs top.1) (λ d lt.
    let its = all d (omega arith) in (
      its.0,
      still-in top.0 its.0 xs top.1 its.1 (λ same. let e = one d m top.0 (subst (λ x. Meets d x) same its.2) top.2 in omega arith),
      its.2,
    )) in
    let count = length-without_one top.0 xs top.1 in
    omega arith

module _ (net : PlainNetlist) (once : is_none_driven_twice net ≡ true) where
  -- no wire at all is driven twice
  driven_once : (w : ℕ) → occurrences w (driven net) ≤ 1
  driven_once w = elim (cases_lt w (number_of_wires net)) [
    | inl lt ↦ let t = ltb-true _ _ (all_below-at (λ v. nat_lt (occurrences v (driven net)) 2) _ once w lt) in omega arith
    | inr ge ↦
        let bound = wire_bound-append (driven net) (read net) in
        let none = occurrences-past w (driven net) (omega arith) in omega arith
  ]

  pub above_is : (from w : ℕ) → HasSplitter net from w → splitter_above net.cells w ≡ Some from
  above_is from w h =
      let total = occurrences-append w (map wire_of net.input_rails) (flat_map outs net.cells) in
      let all = driven_once w in
      above-only net.cells from w h.0 (omega arith) h.1 h.2

  -- the last splitter of a chain
  pub last_of : (n from to : ℕ) → SplittersBelow net (suc n) from to → (mid : ℕ) × SplittersBelow net n from mid × HasSplitter net mid to
  last_of zero from to h = (from, refl, subst (λ w. HasSplitter net from w) h.2 h.1)
  last_of (suc n) from to h = let rest = last_of n h.0 to h.2 in (rest.0, (h.0, h.1, rest.1), rest.2)

  -- two chains from roots to one wire are one chain
  one_chain : (n m one other w : ℕ) → SplittersBelow net n one w → ((from : ℕ) → HasSplitter net from one → ⊥)
      → SplittersBelow net m other w → ((from : ℕ) → HasSplitter net from other → ⊥) → (one ≡ other) × (n ≡ m)
  one_chain zero zero one other w h first g its_first = (h ∙ sym g, refl)
  one_chain zero (suc m) one other w h first g its_first =
      let last = last_of m other w g in absurd (first last.0 (subst (λ v. HasSplitter net last.0 v) (sym h) last.2))
  one_chain (suc n) zero one other w h first g its_first =
      let last = last_of n one w h in absurd (its_first last.0 (subst (λ v. HasSplitter net last.0 v) (sym g) last.2))
  one_chain (suc n) (suc m) one other w h first g its_first =
      let last = last_of n one w h in
      let its_last = last_of m other w g in
      let a = above_is last.0 w last.2 in
      let b = above_is its_last.0 w its_last.2 in
      let same : its_last.0 ≡ last.0 = cc in
      let r = one_chain n m one other last.0 last.1 first (subst (λ v. SplittersBelow net m other v) same its_last.1) its_first in
      (r.0, ap suc r.1)

  pub root_unique : (wire one other : ℕ) → (of_one : IsRoot net one wire) → (of_other : IsRoot net other wire) → (one ≡ other) × (of_one.splitters ≡ of_other.splitters)
  root_unique wire one other of_one of_other =
      one_chain of_one.splitters of_other.splitters one other wire of_one.chain of_one.first of_other.chain of_other.first

  -- a wire's root and depth
  abbrev IsClimb : ℕ → ℕ × ℕ → Type 0
  IsClimb w found = SplittersBelow net found.1 found.0 w × ((from : ℕ) → HasSplitter net from found.0 → ⊥)

  climb-up : (w from : ℕ) → splitter_above net.cells w ≡ Some from → (o : Option (ℕ × ℕ)) → ((above : ℕ × ℕ) → o ≡ Some above → IsClimb from above)
      → (found : ℕ × ℕ) → option_map (λ (f : ℕ × ℕ). (f.0, f.1 + 1)) o ≡ Some found → IsClimb w found
  climb-up w from is None up found e = absurd cc
  climb-up w from is (Some above) up found e =
      let r = up above refl in
      let same : (above.0, above.1 + 1) ≡ found = cc in
      let more : suc above.1 ≡ above.1 + 1 = omega arith in
      let P : ℕ × ℕ → Type 0 = λ f. IsClimb w f in
      subst P same (
        subst (λ k. SplittersBelow net k above.0 w) more (SplittersBelow-one_more net above.1 above.0 from w r.0 (splitter_above-at net net.cells w from is)),
        r.1,
      )

  climb-step : (w : ℕ) (up : ℕ → Option (ℕ × ℕ)) → ((from : ℕ) (above : ℕ × ℕ) → up from ≡ Some above → IsClimb from above)
      → (o : Option ℕ) → splitter_above net.cells w ≡ o → (found : ℕ × ℕ) → climb_on w up o ≡ Some found → IsClimb w found
  climb-step w up rise None is found e =
      let same : (w, 0) ≡ found = cc in
      let P : ℕ × ℕ → Type 0 = λ f. IsClimb w f in
      subst P same (refl, λ from h. let a = above_is from w h in absurd cc)
  climb-step w up rise (Some from) is found e = climb-up w from is (up from) (rise from) found e

  -- a climb that ends leads to a root
  climb-root : (n w : ℕ) (found : ℕ × ℕ) → climb net.cells n w ≡ Some found → IsClimb w found
  climb-root zero w found e = absurd cc
  climb-root (suc n) w found e = climb-step w (climb net.cells n) (λ from above g. climb-root n from above g) (splitter_above net.cells w) refl found e

  unwrapped : (o : Option (ℕ × ℕ)) (d : ℕ × ℕ) → is_some o ≡ true → o ≡ Some (unwrap_or o d)
  unwrapped None d e = absurd cc
  unwrapped (Some x) d e = refl

  pub root_climbed : (wire : ℕ) → is_some (climbed net wire) ≡ true → (below : IsRoot net (root_of net wire) wire) × (below.splitters ≡ depth_of net wire)
  root_climbed wire e =
      let found = climb-root (suc (length net.cells)) wire _ (unwrapped (climbed net wire) (wire, 0) e) in
      (record { splitters = depth_of net wire; chain = found.0; first = found.1 }, refl)

  -- a root of a wire whose climb ends is the climbed one
  pub root_is : (wire : ℕ) → is_some (climbed net wire) ≡ true → (root : ℕ) → (below : IsRoot net root wire) → (root ≡ root_of net wire) × (below.splitters ≡ depth_of net wire)
  root_is wire e root below =
      let its = root_climbed wire e in
      let same = root_unique wire root (root_of net wire) below its.0 in
      (same.0, same.1 ∙ its.1)

  -- each step of a chain has a splitter of its own
  steps : (root m w : ℕ) → SplittersBelow net m root w → (d : ℕ) → d < m → (cell : Cell) × IsIn cell net.cells × SplittersBelow net d root (source_of cell)
  steps root zero w h d lt = absurd (omega arith)
  steps root (suc m) w h d lt =
      let last = last_of m root w h in
      let splitter = last.2 in
      let source = (Splits-test splitter.0 last.0 w splitter.2).1 in
      elim (cases_eq d m) [
        | inl same ↦ (splitter.0, splitter.1, subst (λ k. SplittersBelow net k root (source_of splitter.0)) (sym same) (subst (λ v. SplittersBelow net m root v) (sym source) last.1))
        | inr other ↦ steps root m last.0 last.1 d (omega arith)
      ]

  pub few_splitters : (root m w : ℕ) → SplittersBelow net m root w → ((from : ℕ) → HasSplitter net from root → ⊥) → m ≤ length net.cells
  few_splitters root m w h first = enough (λ d cell. SplittersBelow net d root (source_of cell))
      (λ d e cell one other. (one_chain d e root root (source_of cell) one first other first).1) m net.cells (steps root m w h)

  above-none : (w : ℕ) → ((from : ℕ) → HasSplitter net from w → ⊥) → (o : Option ℕ) → splitter_above net.cells w ≡ o → o ≡ None
  above-none w first None e = refl
  above-none w first (Some from) e = absurd (first from (splitter_above-at net net.cells w from e))

  -- a climb that goes far enough ends at the root
  pub climb-ends : (n m root w : ℕ) → SplittersBelow net m root w → ((from : ℕ) → HasSplitter net from root → ⊥) → m < n → climb net.cells n w ≡ Some (root, m)
  climb-ends zero m root w h first lt = absurd (omega arith)
  climb-ends (suc n) zero root w h first lt =
      let none = above-none root first (splitter_above net.cells root) refl in
      subst (λ v. climb net.cells (suc n) v ≡ Some (root, 0)) h (rw none refl)
  climb-ends (suc n) (suc m) root w h first lt =
      let last = last_of m root w h in
      let above = above_is last.0 w last.2 in
      let rest = climb-ends n m root last.0 last.1 first (omega arith) in
      let more : m + 1 ≡ suc m = omega arith in
      rw (above, rest) (ap (λ k. Some (root, k)) more)

  pub root_found : (wire root : ℕ) → (below : IsRoot net root wire) → (root ≡ root_of net wire) × (below.splitters ≡ depth_of net wire)
  root_found wire root below =
      let few = few_splitters root below.splitters wire below.chain below.first in
      let ends : climbed net wire ≡ Some (root, below.splitters) = climb-ends (suc (length net.cells)) below.splitters root wire below.chain below.first (omega arith) in (
        subst (λ (o : Option (ℕ × ℕ)). root ≡ (unwrap_or {T = ℕ × ℕ} o (wire, 0)).0) (sym ends) refl,
        subst (λ (o : Option (ℕ × ℕ)). below.splitters ≡ (unwrap_or {T = ℕ × ℕ} o (wire, 0)).1) (sym ends) refl,
      )
