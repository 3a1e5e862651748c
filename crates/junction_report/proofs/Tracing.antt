-- The path that is traced back by a table of depths.
use Rattle.std.proofs.Common.{◌≡◌, ◌≤◌, ◌<◌, ◌+◌, ℕ, zero, suc, inl, inr, max, Bool, true, false, if◌then◌else◌, Option, Some, None, List, [], ◌∷◌, ◌++◌, length, map, get_or, slice_get, reverse, refl, sym, ap, subst, ◌∙◌, arith, append_assoc}
use Rattle.std.specs.Prelude.{nat_lt, IfSome}
use Rattle.std.proofs.lemmas.Bool.{ltb-true, ltb-false, cases_lt}
use Rattle.std.proofs.lemmas.List.{reverse-append, map-append, get_or_past}
use Rattle.pulse_ids.specs.Ids.{CellId}
use Rattle.pulse_ids.specs.Lists.{IsIn}
use Rattle.cell_netlist.specs.declared.lines.Cell.{Cell}
use Rattle.cell_netlist.specs.declared.lines.Cell.TheVariants.{La, Fa, Split, Droc}
use Rattle.cell_netlist.specs.Netlists.{PlainNetlist, IsDroc}
use Rattle.cell_netlist.specs.Sound.{IsSound}
use Rattle.junction_report.specs.declared.depths.Measured.TheVariants.{Cells}
use Rattle.junction_report.specs.Walks.{IsPassing, EndsIn, IsDepth}
use Rattle.junction_report.specs.Paths.{IsDeeperPort, ComesBy, StandsBefore, IsTraced, IsLowestDeepest, IsPath}
use Rattle.cell_orders.specs.Needs.{feeding, listed}
use Rattle.junction_report.specs.Depths.{depth_behind, entry_depth, most, AreDepths}
use Rattle.junction_report.specs.Reports.{numbers_of}
use Rattle.junction_report.specs.Traces.{IsLast, before, IsBackTo}
use Rattle.cell_orders.proofs.CallerLemmas.{same_cell, feeding_drives, cell_at}
use Rattle.junction_report.proofs.Greatest.{IsGreatestInto, entry_is}
use Rattle.junction_report.proofs.Levels.{into_by}
use Rattle.junction_report.proofs.DepthsOfCells.{depth_of_measure, depth_of_into, depth_unique, deep_passes, depth_next}

-- lists that are turned round
reverse_cons : (x : ℕ) (xs ys : List ℕ) → reverse (x ∷ xs) ++ ys ≡ reverse xs ++ x ∷ ys
reverse_cons x xs ys = ap (λ l. l ++ ys) (reverse-append (x ∷ []) xs) ∙ append_assoc (reverse xs) (x ∷ []) ys

pub numbers_reversed : (cells : List CellId) → numbers_of (reverse cells) ≡ reverse (numbers_of cells)
numbers_reversed [] = refl
numbers_reversed (cell ∷ cells) =
    ap numbers_of (reverse-append (cell ∷ []) cells) ∙ map-append (λ (c : CellId). c.number) (reverse cells) (cell ∷ [])
    ∙ ap (λ l. l ++ cell.number ∷ []) (numbers_reversed cells) ∙ sym (reverse-append (cell.number ∷ []) (numbers_of cells))

pub numbers_more : (cells : List CellId) (cell : CellId) → numbers_of (cells ++ cell ∷ []) ≡ numbers_of cells ++ cell.number ∷ []
numbers_more cells cell = map-append (λ (c : CellId). c.number) cells (cell ∷ [])

not_empty : (xs : List ℕ) (y : ℕ) → xs ++ y ∷ [] ≡ [] → ⊥
not_empty [] y e = cc
not_empty (x ∷ xs) y e = cc

ends_behind : (xs : List ℕ) (y c : ℕ) → EndsIn (xs ++ y ∷ []) c → y ≡ c
ends_behind [] y c h = h
ends_behind (x ∷ []) y c h = h
ends_behind (x ∷ z ∷ xs) y c h = ends_behind (z ∷ xs) y c h

-- a depth is no greater than the greatest
pub most_at : (table : List ℕ) (c : ℕ) → get_or table c 0 ≤ most table
most_at [] c = omega arith
most_at (x ∷ table) zero = omega arith
most_at (x ∷ table) (suc c) = let r = most_at table c in omega arith

-- the depth of the next cell, where there is one
abbrev pub depth_left : List ℕ → Option CellId → ℕ
depth_left table None = 0
depth_left table (Some cell) = get_or table cell.number 0

module _ (net : PlainNetlist) (table : List ℕ) where
  -- one cell more
  pub back_more : (start xs : List ℕ) (c : ℕ) (cell : Cell) → IsBackTo net table start xs (c ∷ []) → slice_get net.cells c ≡ Some cell
      → IsBackTo net table start (xs ++ c ∷ []) (before net table cell)
  back_more start [] c cell b at = (sym b, cell, at, refl)
  back_more start (x ∷ xs) c cell b at = (b.0, b.1, b.2, back_more (before net table b.1) xs c cell b.3 at)

  module _ (sound : IsSound net) (d : AreDepths net Cells table) where
    pub depth_is : (c : ℕ) → IsPassing net c → IsDepth net c (get_or table c 0)
    depth_is c p = depth_of_measure net c (get_or table c 0) (d.passing c p)

    into : (wire : ℕ) → IsGreatestInto net Cells wire (depth_behind net table wire)
    into wire = into_by net sound.wired Cells table wire (λ b fed p. d.passing b p)

    table_next : (c : ℕ) (cell : Cell) → slice_get net.cells c ≡ Some cell → (IsDroc cell → ⊥) → get_or table c 0 ≡ entry_depth (depth_behind net table) cell + 1
    table_next c cell at kind =
        let next = depth_next net sound.wired c cell at kind (entry_depth (depth_behind net table) cell)
        (entry_is net Cells (depth_behind net table) cell kind (λ wire i. into wire)) in
        depth_unique net c (get_or table c 0) (entry_depth (depth_behind net table) cell + 1) (depth_is c (record { cell = cell; at = at; kind = kind })) next

    -- the wire by which the path comes to a cell
    record IsChosen (cell : Cell) : Type 0 where
      wire : ℕ
      comes : ComesBy net cell wire
      fed : before net table cell ≡ feeding net wire
      deepest : entry_depth (depth_behind net table) cell ≡ depth_behind net table wire

    port_a : (a b : ℕ) → depth_behind net table b ≤ depth_behind net table a → IsDeeperPort net a b a
    port_a a b le = record {
      depth_a = depth_behind net table a;
      depth_b = depth_behind net table b;
      of_a = depth_of_into net a (depth_behind net table a) (into a);
      of_b = depth_of_into net b (depth_behind net table b) (into b);
      choice = inl (le, refl);
    }

    port_b : (a b : ℕ) → depth_behind net table a < depth_behind net table b → IsDeeperPort net a b b
    port_b a b lt = record {
      depth_a = depth_behind net table a;
      depth_b = depth_behind net table b;
      of_a = depth_of_into net a (depth_behind net table a) (into a);
      of_b = depth_of_into net b (depth_behind net table b) (into b);
      choice = inr (lt, refl);
    }

    two_ports : (cell : Cell) (a b : ℕ) → ((wire : ℕ) → IsDeeperPort net a b wire → ComesBy net cell wire)
        → before net table cell ≡ (if nat_lt (depth_behind net table a) (depth_behind net table b) then feeding net b else feeding net a)
        → entry_depth (depth_behind net table) cell ≡ max (depth_behind net table a) (depth_behind net table b) → IsChosen cell
    two_ports cell a b comes fed deepest = go (nat_lt (depth_behind net table a) (depth_behind net table b)) refl
      where
        go : (t : Bool) → nat_lt (depth_behind net table a) (depth_behind net table b) ≡ t → IsChosen cell
        go true e =
            let lt = ltb-true (depth_behind net table a) (depth_behind net table b) e in
            record { wire = b; comes = comes b (port_b a b lt); fed = fed ∙ ap (λ t. if t then feeding net b else feeding net a) e; deepest = deepest ∙ omega arith }
        go false e =
            let ge = ltb-false (depth_behind net table a) (depth_behind net table b) e in
            record { wire = a; comes = comes a (port_a a b ge); fed = fed ∙ ap (λ t. if t then feeding net b else feeding net a) e; deepest = deepest ∙ omega arith }

    chosen : (cell : Cell) → (IsDroc cell → ⊥) → IsChosen cell
    chosen (La a b out) kind = two_ports (La a b out) a.number b.number (λ wire h. h) refl refl
    chosen (Fa a b out) kind = two_ports (Fa a b out) a.number b.number (λ wire h. h) refl refl
    chosen (Split from left right) kind = record { wire = from.number; comes = refl; fed = refl; deepest = refl }
    chosen (Droc role preload feed q n) kind = absurd (kind tt)

    -- the cell before a cell, and its depth
    pub step_back : (c : ℕ) (cell : Cell) → slice_get net.cells c ≡ Some cell → (IsDroc cell → ⊥) → (b : ℕ) → before net table cell ≡ b ∷ []
        → (_ : StandsBefore net b c) × (get_or table c 0 ≡ get_or table b 0 + 1)
    step_back c cell at kind b e =
        let by = chosen cell kind in
        let fed : feeding net by.wire ≡ b ∷ [] = sym by.fed ∙ e in
        let next = table_next c cell at kind in
        let deep = by.deepest in
        let behind = ap (λ l. most (map (λ x. get_or table x 0) l)) fed in (
          record { cell = cell; at = at; wire = by.wire; comes = by.comes; drives = feeding_drives net b by.wire (subst (λ l. IsIn b l) (sym fed) (inl refl)) },
          omega arith,
        )

    pub first_back : (c : ℕ) (cell : Cell) → slice_get net.cells c ≡ Some cell → (IsDroc cell → ⊥) → before net table cell ≡ [] → get_or table c 0 ≡ 1
    first_back c cell at kind e =
        let by = chosen cell kind in
        let fed : feeding net by.wire ≡ [] = sym by.fed ∙ e in
        let next = table_next c cell at kind in
        let deep = by.deepest in
        let behind = ap (λ l. most (map (λ x. get_or table x 0) l)) fed in omega arith

    -- what the cells back from one come to
    record IsTrace (c : ℕ) (more rest : List ℕ) : Type 0 where
      traced : IsTraced net (reverse rest ++ c ∷ more)
      first : (x : ℕ) → slice_get (reverse rest ++ c ∷ more) 0 ≡ Some x → IsDepth net x 1
      long : length rest + 1 ≡ get_or table c 0

    trace : (c : ℕ) (cell : Cell) → slice_get net.cells c ≡ Some cell → (IsDroc cell → ⊥) → (more : List ℕ) → IsTraced net (c ∷ more) → (rest : List ℕ)
        → IsBackTo net table (before net table cell) rest [] → IsTrace c more rest
    trace c cell at kind more t [] b =
        let one = first_back c cell at kind (sym b) in
        record {
          traced = t;
          first = λ x e. let same : c ≡ x = cc in subst (λ y. IsDepth net y 1) same (subst (IsDepth net c) one (depth_is c (record { cell = cell; at = at; kind = kind })));
          long = omega arith;
        }
    trace c cell at kind more t (e ∷ rest) b =
        let step = step_back c cell at kind e b.0 in
        let passing = step.0.drives.passing in
        let kind_here : IsDroc b.1 → ⊥ = λ k. passing.kind (subst IsDroc (same_cell net e b.2 passing.at) k) in
        let r = trace e b.1 b.2 kind_here (c ∷ more) (step.0, t) rest b.3 in
        let turned = sym (reverse_cons e rest (c ∷ more)) in
        let one = r.long in
        let next = step.1 in
        record {
          traced = subst (IsTraced net) turned r.traced;
          first = λ x k. r.first x (subst (λ l. slice_get l 0 ≡ Some x) (sym turned) k);
          long = omega arith;
        }

    -- the lowest of the deepest cells is an LA, FA or splitter
    pub last_passing : (cell : CellId) → IsLast table (Some cell) → IsPassing net cell.number
    last_passing cell h = elim (cases_lt cell.number (length net.cells)) [
      | inl lt ↦
          let at = cell_at net.cells cell.number lt in
          record { cell = at.0; at = at.1; kind = λ k. let z = d.droc cell.number at.0 at.1 k in let s = h.1 in let p = h.0 in absurd (omega arith) }
      | inr ge ↦ let z = get_or_past table cell.number 0 (omega (arith, d.width, ge)) in let s = h.1 in let p = h.0 in absurd (omega arith)
    ]

    passes_below : (c : ℕ) → IsPassing net c → 1 ≤ most table
    passes_below c p =
        let next = table_next c p.cell p.at p.kind in let m = most_at table c in omega arith

    lowest_deepest : (cell : CellId) → IsLast table (Some cell) → IsLowestDeepest net cell.number
    lowest_deepest cell h = record {
      depth = get_or table cell.number 0;
      is = depth_is cell.number (last_passing cell h);
      deepest = λ e other k.
          let same = depth_unique net e other (get_or table e 0) k (depth_is e (deep_passes net e other k)) in
          let m = most_at table e in let s = h.1 in omega arith;
      lowest = λ e k.
          let same = depth_unique net e (get_or table cell.number 0) (get_or table e 0) k (depth_is e (deep_passes net e (get_or table cell.number 0) k)) in
          h.2 e (sym same ∙ h.1);
    }

    -- the cells back from the lowest of the deepest ones are the path, turned round, and as many as it is deep
    pub path_found : (last : Option CellId) → IsLast table last → (cells : List ℕ) → IsBackTo net table (listed last) cells []
        → (_ : IsPath net (reverse cells)) × (length cells ≤ length net.cells)
    path_found None h [] b = (
      record {
        traced = tt;
        first = λ c e. absurd cc;
        last = λ c e. absurd e;
        empty = λ e c p. let m = passes_below c p in absurd (omega arith);
      },
      omega arith,
    )
    path_found None h (c ∷ rest) b = let e = b.0 in absurd cc
    path_found (Some cell) h [] b = absurd cc
    path_found (Some cell) h (c ∷ rest) b =
        let e = b.0 in
        let same : cell.number ≡ c = cc in
        let deepest = subst (IsLowestDeepest net) same (lowest_deepest cell h) in
        let passing = subst (IsPassing net) same (last_passing cell h) in
        let kind : IsDroc b.1 → ⊥ = λ k. passing.kind (subst IsDroc (same_cell net c b.2 passing.at) k) in
        let r = trace c b.1 b.2 kind [] (tt, tt) rest b.3 in
        let turned : reverse (c ∷ rest) ≡ reverse rest ++ c ∷ [] = reverse-append (c ∷ []) rest in
        let long = r.long in
        let small = d.small c in (
          record {
            traced = subst (IsTraced net) (sym turned) r.traced;
            first = λ x k. r.first x (subst (λ l. slice_get l 0 ≡ Some x) turned k);
            last = λ x k. subst (IsLowestDeepest net) (ends_behind (reverse rest) c x (subst (λ l. EndsIn l x) turned k)) deepest;
            empty = λ k. absurd (not_empty (reverse rest) c (sym turned ∙ k));
          },
          omega arith,
        )

    -- The steps of the loop that finds the cells back.
    module _ (c : CellId) (its : Cell) (at : slice_get net.cells c.number ≡ Some its) (p : IsPassing net c.number) (after : Option CellId) (found : before net table its ≡ listed after) where
      kind_of : IsDroc its → ⊥
      kind_of k = p.kind (subst IsDroc (same_cell net c.number at p.at) k)

      -- the depth falls
      pub left_falls : depth_left table after < get_or table c.number 0
      left_falls = go after found
        where
          go : (next : Option CellId) → before net table its ≡ listed next → depth_left table next < get_or table c.number 0
          go None e = let one = first_back c.number its at kind_of e in omega arith
          go (Some b) e = let step = (step_back c.number its at kind_of b.number e).1 in omega arith

      -- the next cell is an LA, FA or splitter
      pub after_passing : IfSome after (λ cell. IsPassing net cell.number)
      after_passing = go after found
        where
          go : (next : Option CellId) → before net table its ≡ listed next → IfSome next (λ cell. IsPassing net cell.number)
          go None e = tt
          go (Some b) e = (step_back c.number its at kind_of b.number e).0.drives.passing

      -- the cell is one more
      pub trace_more : (start : List ℕ) (cells more : List CellId) → more ≡ cells ++ c ∷ [] → IsBackTo net table start (numbers_of cells) (c.number ∷ [])
          → IsBackTo net table start (numbers_of more) (listed after)
      trace_more start cells more e b =
          subst (λ l. IsBackTo net table start l (listed after)) (sym (ap numbers_of e ∙ numbers_more cells c))
          (subst (IsBackTo net table start (numbers_of cells ++ c.number ∷ [])) found (back_more start (numbers_of cells) c.number its b at))
