-- Paths are walks, none is longer, and there is one path only.
use Rattle.std.proofs.Common.{◌≡◌, ◌≤◌, ◌<◌, ◌+◌, ◌⊎◌, ℕ, suc, inl, inr, List, [], ◌∷◌, length, refl, sym, ap, subst, ◌∙◌, arith}
use Rattle.pulse_ids.specs.Lists.{IsIn}
use Rattle.cell_netlist.specs.declared.lines.Cell.{Cell}
use Rattle.cell_netlist.specs.declared.lines.Cell.TheVariants.{La, Fa, Split, Droc}
use Rattle.cell_netlist.specs.Netlists.{PlainNetlist, reads, IsDroc}
use Rattle.cell_netlist.specs.Sound.{IsSound}
use Rattle.junction_report.specs.declared.depths.Measured.TheVariants.{Cells}
use Rattle.junction_report.specs.Walks.{Drives, Feeds, IsWalk, EndsIn, IsGreatest, IsDepth}
use Rattle.junction_report.specs.Paths.{IsWireDepth, IsDeeperPort, ComesBy, StandsBefore, IsTraced, IsPath}
use Rattle.cell_orders.proofs.CallerLemmas.{same_cell, one_drives}
use Rattle.junction_report.proofs.Walking.{has_last, last_passes, greatest_unique}
use Rattle.junction_report.proofs.Greatest.{IsGreatestInto, IsEntry}
use Rattle.junction_report.proofs.DepthsOfCells.{into_of_depth, depth_unique, wire_depth_unique, deep_passes, depth_next, depth_exists}

module _ (net : PlainNetlist) (sound : IsSound net) where
  -- a path comes by a wire that the cell reads, to an LA, FA or splitter
  comes_read : (cell : Cell) (wire : ℕ) → ComesBy net cell wire → (_ : IsDroc cell → ⊥) × IsIn wire (reads cell)
  comes_read (La a b out) wire h = (λ k. k, port h.choice)
    where
      port : ((h.depth_b ≤ h.depth_a) × (wire ≡ a.number)) ⊎ ((h.depth_a < h.depth_b) × (wire ≡ b.number)) → IsIn wire (a.number ∷ b.number ∷ [])
      port (inl e) = inl (sym e.1)
      port (inr e) = inr (inl (sym e.1))
  comes_read (Fa a b out) wire h = (λ k. k, port h.choice)
    where
      port : ((h.depth_b ≤ h.depth_a) × (wire ≡ a.number)) ⊎ ((h.depth_a < h.depth_b) × (wire ≡ b.number)) → IsIn wire (a.number ∷ b.number ∷ [])
      port (inl e) = inl (sym e.1)
      port (inr e) = inr (inl (sym e.1))
  comes_read (Split from left right) wire h = (λ k. k, inl (sym h))
  comes_read (Droc role preload feed q n) wire h = absurd h

  feeds_next : (c d : ℕ) → StandsBefore net c d → Feeds net c d
  feeds_next c d s =
      let read = comes_read s.cell s.wire s.comes in
      record { reader = record { cell = s.cell; at = s.at; kind = read.0 }; wire = s.wire; read = read.1; drives = s.drives }

  -- the wire by which the path comes has the greatest depth of those that the cell reads
  module _ (cell : Cell) (a b wire n : ℕ) (h : IsDeeperPort net a b wire) (w : IsWireDepth net wire n) (ia : IsIn a (reads cell)) (ib : IsIn b (reads cell))
      (only : (other : ℕ) → IsIn other (reads cell) → IsIn other (a ∷ b ∷ [])) where
    below : h.depth_a ≤ n → h.depth_b ≤ n → (other : ℕ) → IsIn other (reads cell) → (m : ℕ) × (_ : IsGreatestInto net Cells other m) × (m ≤ n)
    below la lb other i = go (only other i)
      where
        go : IsIn other (a ∷ b ∷ []) → (m : ℕ) × (_ : IsGreatestInto net Cells other m) × (m ≤ n)
        go (inl e) = (h.depth_a, subst (λ x. IsGreatestInto net Cells x h.depth_a) e (into_of_depth net a h.depth_a h.of_a), la)
        go (inr (inl e)) = (h.depth_b, subst (λ x. IsGreatestInto net Cells x h.depth_b) e (into_of_depth net b h.depth_b h.of_b), lb)
        go (inr (inr none)) = absurd none

    ports_entry : ((h.depth_b ≤ h.depth_a) × (wire ≡ a)) ⊎ ((h.depth_a < h.depth_b) × (wire ≡ b)) → IsEntry net Cells cell n
    ports_entry (inl e) =
        let its = subst (λ x. IsWireDepth net x n) e.1 w in
        let same = wire_depth_unique net sound.wired a n h.depth_a its h.of_a in
        let le = e.0 in
        record { wire = a; read = ia; reached = into_of_depth net a n its; most = below (omega arith) (omega arith) }
    ports_entry (inr e) =
        let its = subst (λ x. IsWireDepth net x n) e.1 w in
        let same = wire_depth_unique net sound.wired b n h.depth_b its h.of_b in
        let lt = e.0 in
        record { wire = b; read = ib; reached = into_of_depth net b n its; most = below (omega arith) (omega arith) }

  entry_of : (cell : Cell) (wire n : ℕ) → ComesBy net cell wire → IsWireDepth net wire n → IsEntry net Cells cell n
  entry_of (La a b out) wire n h w =
      ports_entry (La a b out) a.number b.number wire n h w (inl refl) (inr (inl refl)) (λ other i. i) h.choice
  entry_of (Fa a b out) wire n h w =
      ports_entry (Fa a b out) a.number b.number wire n h w (inl refl) (inr (inl refl)) (λ other i. i) h.choice
  entry_of (Split from left right) wire n h w = record {
    wire = wire;
    read = inl (sym h);
    reached = into_of_depth net wire n w;
    most = λ other i. (n, into_of_depth net other n (subst (λ x. IsWireDepth net x n) (one other i) w), omega arith);
  }
    where
      one : (other : ℕ) → IsIn other (from.number ∷ []) → wire ≡ other
      one other (inl e) = h ∙ e
      one other (inr none) = absurd none
  entry_of (Droc role preload feed q k) wire n h w = absurd h

  -- each cell of a path is one deeper than the one before
  next_deeper : (c d n : ℕ) → StandsBefore net c d → IsDepth net c n → IsDepth net d (n + 1)
  next_deeper c d n s h =
      depth_next net sound.wired d s.cell s.at (comes_read s.cell s.wire s.comes).0 n (entry_of s.cell s.wire n s.comes (inl (c, s.drives, h)))

  along : (c : ℕ) (rest : List ℕ) (n : ℕ) → IsTraced net (c ∷ rest) → IsDepth net c n → (x : ℕ) → EndsIn (c ∷ rest) x
      → (_ : IsWalk net (c ∷ rest)) × IsDepth net x (n + length rest)
  along c [] n t h x e =
      let none : n ≡ n + 0 = omega arith in ((deep_passes net c n h, tt, tt), subst (λ k. IsDepth net x k) none (subst (λ y. IsDepth net y n) e h))
  along c (d ∷ rest) n t h x e =
      let r = along d rest (n + 1) t.1 (next_deeper c d n t.0 h) x e in
      let sum : n + 1 + length rest ≡ n + suc (length rest) = omega arith in
      ((deep_passes net c n h, feeds_next c d t.0, r.0), subst (IsDepth net x) sum r.1)

  no_longer : (m : ℕ) → ((c other : ℕ) → IsDepth net c other → other ≤ m) → (walk : List ℕ) → IsWalk net walk → length walk ≤ m
  no_longer m deepest [] w = omega arith
  no_longer m deepest (y ∷ rest) w =
      let last = has_last net y rest in
      let depth = depth_exists net sound last.0 (last_passes net (y ∷ rest) last.0 (w, last.1)) in
      let its = depth.1.most (y ∷ rest) (w, last.1) in
      let le = deepest last.0 depth.0 depth.1 in omega arith

  -- the path is a walk, and none is longer
  pub path_is_walk : (path : List ℕ) → IsPath net path → (_ : IsWalk net path) × IsGreatest (IsWalk net) length (length path)
  path_is_walk [] h = (tt, record { walk = []; taken = tt; reached = refl; most = none })
    where
      none : (walk : List ℕ) → IsWalk net walk → length walk ≤ 0
      none [] w = omega arith
      none (y ∷ rest) w = absurd (h.empty refl y w.0)
  path_is_walk (c ∷ rest) h =
      let last = has_last net c rest in
      let a = along c rest 1 h.traced (h.first c refl) last.0 last.1 in
      let lowest = h.last last.0 last.1 in
      let same = depth_unique net last.0 (1 + length rest) lowest.depth a.1 lowest.is in (
        a.0,
        record {
          walk = c ∷ rest;
          taken = a.0;
          reached = refl;
          most = λ walk w. let le = no_longer lowest.depth lowest.deepest walk w in omega arith;
        },
      )

  -- a path comes to a cell by one wire, from one cell
  one_port : (a b w v : ℕ) → IsDeeperPort net a b w → IsDeeperPort net a b v → w ≡ v
  one_port a b w v h k = go h.choice k.choice
    where
      same_a : h.depth_a ≡ k.depth_a
      same_a = wire_depth_unique net sound.wired a h.depth_a k.depth_a h.of_a k.of_a

      same_b : h.depth_b ≡ k.depth_b
      same_b = wire_depth_unique net sound.wired b h.depth_b k.depth_b h.of_b k.of_b

      go : ((h.depth_b ≤ h.depth_a) × (w ≡ a)) ⊎ ((h.depth_a < h.depth_b) × (w ≡ b))
          → ((k.depth_b ≤ k.depth_a) × (v ≡ a)) ⊎ ((k.depth_a < k.depth_b) × (v ≡ b)) → w ≡ v
      go (inl p) (inl q) = p.1 ∙ sym q.1
      go (inl p) (inr q) = absurd (omega (arith, same_a, same_b, p.0, q.0))
      go (inr p) (inl q) = absurd (omega (arith, same_a, same_b, p.0, q.0))
      go (inr p) (inr q) = p.1 ∙ sym q.1

  one_wire : (cell : Cell) (w v : ℕ) → ComesBy net cell w → ComesBy net cell v → w ≡ v
  one_wire (La a b out) w v h k = one_port a.number b.number w v h k
  one_wire (Fa a b out) w v h k = one_port a.number b.number w v h k
  one_wire (Split from left right) w v h k = h ∙ sym k
  one_wire (Droc role preload feed q n) w v h k = absurd h

  one_before : (b c d : ℕ) → StandsBefore net b d → StandsBefore net c d → b ≡ c
  one_before b c d s t =
      let same = same_cell net d t.at s.at in
      let wire = one_wire s.cell s.wire t.wire s.comes (subst (λ x. ComesBy net x t.wire) same t.comes) in
      one_drives net sound.wired s.wire b c s.drives (subst (λ w. Drives net c w) (sym wire) t.drives)

  same_traced : (xs ys : List ℕ) (x : ℕ) → length xs ≡ length ys → IsTraced net xs → IsTraced net ys → EndsIn xs x → EndsIn ys x → xs ≡ ys
  same_traced [] ys x l t u e f = absurd e
  same_traced (a ∷ xs) [] x l t u e f = absurd f
  same_traced (a ∷ []) (b ∷ []) x l t u e f = ap (λ z. z ∷ []) (e ∙ sym f)
  same_traced (a ∷ []) (b ∷ d ∷ ys) x l t u e f = absurd (omega arith)
  same_traced (a ∷ c ∷ xs) (b ∷ []) x l t u e f = absurd (omega arith)
  same_traced (a ∷ c ∷ xs) (b ∷ d ∷ ys) x l t u e f =
      let rest = same_traced (c ∷ xs) (d ∷ ys) x (omega arith) t.1 u.1 e f in
      let same : c ≡ d = cc in
      let first = one_before a b d (subst (λ z. StandsBefore net a z) same t.0) u.0 in
      ap (λ z. z ∷ c ∷ xs) first ∙ ap (λ l. b ∷ l) rest

  -- there is one path only
  pub one_path : (path other : List ℕ) → IsPath net path → IsPath net other → path ≡ other
  one_path [] [] h k = refl
  one_path [] (d ∷ ys) h k = absurd (h.empty refl d (deep_passes net d 1 (k.first d refl)))
  one_path (c ∷ xs) [] h k = absurd (k.empty refl c (deep_passes net c 1 (h.first c refl)))
  one_path (c ∷ xs) (d ∷ ys) h k =
      let x = has_last net c xs in
      let y = has_last net d ys in
      let p = h.last x.0 x.1 in
      let q = k.last y.0 y.1 in
      let below = p.deepest y.0 q.depth q.is in
      let above = q.deepest x.0 p.depth p.is in
      let same : p.depth ≡ q.depth = omega arith in
      let left = p.lowest y.0 (subst (IsDepth net y.0) (sym same) q.is) in
      let right = q.lowest x.0 (subst (IsDepth net x.0) same p.is) in
      let one : y.0 ≡ x.0 = omega arith in
      let long = greatest_unique (IsWalk net) length (length (c ∷ xs)) (length (d ∷ ys)) (path_is_walk (c ∷ xs) h).1 (path_is_walk (d ∷ ys) k).1 in
      same_traced (c ∷ xs) (d ∷ ys) x.0 long h.traced k.traced x.1 (subst (EndsIn (d ∷ ys)) one y.1)
