-- The grounded wires are known after as many rounds as there are cells.
use Rattle.std.proofs.Common.{◌≡◌, ◌≤◌, ◌+◌, ◌⊎◌, ℕ, zero, suc, Bool, true, false, not, ◌||◌, List, [], ◌∷◌, ◌++◌, length, ap, sym, ◌∙◌, subst, inl, inr, arith, refl, if◌then◌else◌}
use Rattle.std.specs.List.{list_all}
use Rattle.std.proofs.lemmas.Bool.{and_from, and_cases, or_right, or_parts, cases_Bool, true≢false}
use Rattle.cell_netlist.specs.declared.lines.Cell.{Cell}
use Rattle.cell_netlist.specs.declared.lines.Cell.TheVariants.{La, Fa, Split, Droc}
use Rattle.pulse_ids.specs.Lists.{IsIn}
use Rattle.cell_netlist.specs.Netlists.{PlainNetlist, outs, reads, IsDroc, Grounded, of_droc}
use Rattle.cell_netlist.specs.Decisions as decisions
use Rattle.cell_netlist.specs.Decisions.{is_some_with, has, is_ready, known_through, known_after, are_outs_known, source_of, splitter_above, climbs_to, number_on, fits_role, link_of, differ}
use Rattle.cell_netlist.specs.Decisions.{have_right_preloads, is_none_driven_twice, is_sound, AreDecisionsOfRules}
use Rattle.cell_netlist.specs.LeanDecisions.{how_many}
use Rattle.pulse_ids.proofs.CallerLemmas.{IsIn-left, IsIn-right}
use Rattle.cell_netlist.proofs.ListLemmas.{list_all-at, list_all-from, has-at, has-from}
use Rattle.cell_netlist.proofs.Refusals.{is_closed, grounded-known}

module _ {X : Type 0} where
  -- an item without the test, where not all have it
  pub list_all-not : (test : X → Bool) (xs : List X) → list_all test xs ≡ false → (x : X) × IsIn x xs × (test x ≡ false)
  list_all-not test [] e = absurd cc
  list_all-not test (y ∷ xs) e = elim (and_cases _ _ e) [
    | inl here ↦ (y, inl refl, here)
    | inr later ↦ let found = list_all-not test xs later in (found.0, inr found.1, found.2)
  ]

  -- a test that tells more is met by no fewer items
  how_many-le : (f g : X → Bool) (xs : List X) → ((x : X) → IsIn x xs → f x ≡ true → g x ≡ true) → how_many f xs ≤ how_many g xs
  how_many-le f g [] more = omega arith
  how_many-le f g (x ∷ xs) more =
      let r = how_many-le f g xs (λ y h. more y (inr h)) in
      elim (cases_Bool (f x)) [
        | inl hit ↦ let t = more x (inl refl) hit in rw (hit, t) (omega arith)
        | inr miss ↦ rw miss (omega arith)
      ]

  -- and by more items, where one is new
  pub how_many-lt : (f g : X → Bool) (xs : List X) → ((x : X) → IsIn x xs → f x ≡ true → g x ≡ true)
      → (new : X) → IsIn new xs → f new ≡ false → g new ≡ true → how_many f xs + 1 ≤ how_many g xs
  how_many-lt f g [] more new h miss hit = absurd h
  how_many-lt f g (x ∷ xs) more new (inl same) miss hit =
      let r = how_many-le f g xs (λ y h. more y (inr h)) in
      let its_no : f x ≡ false = subst (λ z. f z ≡ false) (sym same) miss in
      let its_yes : g x ≡ true = subst (λ z. g z ≡ true) (sym same) hit in
      rw (its_no, its_yes) (omega arith)
  how_many-lt f g (x ∷ xs) more new (inr h) old fresh =
      let r = how_many-lt f g xs (λ y i. more y (inr i)) new h old fresh in
      elim (cases_Bool (f x)) [
        | inl hit ↦ let t = more x (inl refl) hit in rw (hit, t) (omega arith)
        | inr miss ↦ rw miss (omega arith)
      ]

  pub how_many-most : (f : X → Bool) (xs : List X) → how_many f xs ≤ length xs
  how_many-most f [] = omega arith
  how_many-most f (x ∷ xs) = let r = how_many-most f xs in elim (cases_Bool (f x)) [ inl hit ↦ rw hit (omega arith) | inr miss ↦ rw miss (omega arith) ]

  -- where as many items as there are have the test, all have it
  how_many-all : (f : X → Bool) (xs : List X) → length xs ≤ how_many f xs → (x : X) → IsIn x xs → f x ≡ true
  how_many-all f xs all x h = elim (cases_Bool (f x)) [
    | inl hit ↦ hit
    | inr miss ↦
        let fewer = how_many-lt f (λ y. true) xs (λ y i e. refl) x h miss refl in
        let most = how_many-most (λ y. true) xs in
        absurd (omega arith)
  ]

-- a cell is ready where more wires are known
is_ready-more : (cell : Cell) (known more : List ℕ) → ((w : ℕ) → IsIn w known → IsIn w more) → is_ready known cell ≡ true → is_ready more cell ≡ true
is_ready-more cell known more sub e = list_all-from (λ w. has w more) (reads cell)
    (λ w h. has-from w more (sub w (has-at w known (list_all-at (λ v. has v known) (reads cell) e w h))))

outs_known-more : (cell : Cell) (known more : List ℕ) → ((w : ℕ) → IsIn w known → IsIn w more) → are_outs_known known cell ≡ true → are_outs_known more cell ≡ true
outs_known-more cell known more sub e = list_all-from (λ w. has w more) (outs cell)
    (λ w h. has-from w more (sub w (has-at w known (list_all-at (λ v. has v known) (outs cell) e w h))))

-- a cell makes known what was known
still_known : (cell : Cell) (known : List ℕ) (w : ℕ) → IsIn w known → IsIn w (if is_ready known cell then outs cell ++ known else known)
still_known cell known w h = elim (cases_Bool (is_ready known cell)) [
  | inl ready ↦ rw ready (IsIn-right w (outs cell) known h)
  | inr blocked ↦ rw blocked h
]

known_through-old : (cells : List Cell) (known : List ℕ) (w : ℕ) → IsIn w known → IsIn w (known_through cells known)
known_through-old [] known w h = h
known_through-old (cell ∷ cells) known w h = known_through-old cells (if is_ready known cell then outs cell ++ known else known) w (still_known cell known w h)

-- and the outputs of a cell that was ready
known_through-new : (cells : List Cell) (known : List ℕ) (cell : Cell) → IsIn cell cells → is_ready known cell ≡ true
    → (w : ℕ) → IsIn w (outs cell) → IsIn w (known_through cells known)
known_through-new [] known cell among ready w h = absurd among
known_through-new (c ∷ cells) known cell (inl same) ready w h =
    let its : is_ready known c ≡ true = subst (λ x. is_ready known x ≡ true) (sym same) ready in
    let here : IsIn w (outs c ++ known) = IsIn-left w (outs c) known (subst (λ x. IsIn w (outs x)) (sym same) h) in
    known_through-old cells (if is_ready known c then outs c ++ known else known) w (rw its here)
known_through-new (c ∷ cells) known cell (inr later) ready w h =
    let next = if is_ready known c then outs c ++ known else known in
    known_through-new cells next cell later (is_ready-more cell known next (still_known c known) ready) w h

module _ (net : PlainNetlist) where
  -- later rounds know what earlier ones did
  known_after-first : (n w : ℕ) → IsIn w (known_after net 0) → IsIn w (known_after net n)
  known_after-first zero w h = h
  known_after-first (suc n) w h = known_through-old net.cells (known_after net n) w (known_after-first n w h)

  -- the step of one round
  new_cell : (n : ℕ) (cell : Cell) → IsIn cell net.cells → is_ready (known_after net n) cell ≡ true → are_outs_known (known_after net (suc n)) cell ≡ true
  new_cell n cell among ready = list_all-from (λ w. has w (known_after net (suc n))) (outs cell)
      (λ w h. has-from w (known_after net (suc n)) (known_through-new net.cells (known_after net n) cell among ready w h))

  -- how many cells have known outputs after some rounds
  abbrev reached : ℕ → ℕ
  reached n = how_many (are_outs_known (known_after net n)) net.cells

  -- a round reaches one more cell, where the known wires are not closed
  reaches_more : (n : ℕ) → is_closed net (known_after net n) ≡ false → reached n + 1 ≤ reached (suc n)
  reaches_more n e = elim (and_cases _ _ e) [
    | inl lost ↦
        let kept = list_all-from (λ w. has w (known_after net n)) (known_after net 0) (λ w h. has-from w (known_after net n) (known_after-first n w h)) in
        absurd (true≢false (sym kept ∙ lost))
    | inr unclosed ↦
        let found = list_all-not (λ cell. not (is_ready (known_after net n) cell) || are_outs_known (known_after net n) cell) net.cells unclosed in
        let parts = or_parts (not (is_ready (known_after net n) found.0)) (are_outs_known (known_after net n) found.0) found.2 in
        let ready : is_ready (known_after net n) found.0 ≡ true =
        elim (cases_Bool (is_ready (known_after net n) found.0)) [ inl hit ↦ hit | inr miss ↦ absurd (true≢false (sym (ap not miss) ∙ parts.0)) ] in
        how_many-lt (are_outs_known (known_after net n)) (are_outs_known (known_after net (suc n))) net.cells
        (λ cell h. outs_known-more cell (known_after net n) (known_after net (suc n)) (known_through-old net.cells (known_after net n)))
        found.0 found.1 parts.1 (new_cell n found.0 found.1 ready)
  ]

  -- after n rounds all grounded wires are known, or n cells are reached
  known_or_reached : (n : ℕ) → ((w : ℕ) → Grounded net w → IsIn w (known_after net n)) ⊎ (n ≤ reached n)
  known_or_reached zero = inr (omega arith)
  known_or_reached (suc n) = elim (known_or_reached n) [
    | inl all ↦ inl (λ w g. known_through-old net.cells (known_after net n) w (all w g))
    | inr many ↦ elim (cases_Bool (is_closed net (known_after net n))) [
      | inl closed ↦ inl (λ w g. known_through-old net.cells (known_after net n) w (grounded-known net (known_after net n) closed w g))
      | inr unclosed ↦ let more = reaches_more n unclosed in inr (omega arith)
    ]
  ]

  -- every grounded wire is known after as many rounds as there are cells
  pub grounded_known : (w : ℕ) → Grounded net w → IsIn w (known_after net (length net.cells))
  grounded_known w g = elim (known_or_reached (length net.cells)) [
    | inl all ↦ all w g
    | inr many ↦
        let known = known_after net (length net.cells) in
        let every = how_many-all (are_outs_known known) net.cells many in
        let closed : is_closed net known ≡ true = and_from _ _
        (list_all-from (λ v. has v known) (known_after net 0) (λ v h. has-from v known (known_after-first (length net.cells) v h)))
        (list_all-from (λ cell. not (is_ready known cell) || are_outs_known known cell) net.cells (λ cell h. or_right _ _ (every cell h))) in
        grounded-known net known closed w g
  ]

  -- the outputs of a cell are grounded, where those of gates and splitters are
  outs_grounded : ((cell : Cell) → IsIn cell net.cells → (IsDroc cell → ⊥) → (wire : ℕ) → IsIn wire (outs cell) → Grounded net wire)
      → (cell : Cell) → IsIn cell net.cells → (wire : ℕ) → IsIn wire (outs cell) → Grounded net wire
  outs_grounded all (La a b out) among wire h = all (La a b out) among (λ d. d) wire h
  outs_grounded all (Fa a b out) among wire h = all (Fa a b out) among (λ d. d) wire h
  outs_grounded all (Split from left right) among wire h = all (Split from left right) among (λ d. d) wire h
  outs_grounded all (Droc role preload feed q n) among wire h = of_droc wire (Droc role preload feed q n) among tt h

  pub grounded-from : ((cell : Cell) → IsIn cell net.cells → (IsDroc cell → ⊥) → (wire : ℕ) → IsIn wire (outs cell) → Grounded net wire) → decisions.is_all_grounded net ≡ true
  grounded-from all = list_all-from (are_outs_known (known_after net (length net.cells))) net.cells
      (λ cell among. list_all-from (λ w. has w (known_after net (length net.cells))) (outs cell)
      (λ w h. has-from w (known_after net (length net.cells)) (grounded_known w (outs_grounded all cell among w h))))
