-- Depths of cells and wires: they are unique, and in a sound netlist they exist.
use Rattle.std.proofs.Common.{◌≡◌, ◌+◌, ◌⊎◌, ℕ, inl, inr, [], ◌∷◌, length, slice_get, Some, refl, sym, subst, ◌∙◌, arith}
use Rattle.std.proofs.lemmas.Bool.{cases_lt}
use Rattle.pulse_ids.specs.Lists.{IsIn}
use Rattle.pulse_ids.proofs.CallerLemmas.{IsIn-place, place_of}
use Rattle.cell_netlist.specs.declared.lines.Cell.{Cell}
use Rattle.cell_netlist.specs.declared.lines.Cell.TheVariants.{La, Fa, Split, Droc}
use Rattle.cell_netlist.specs.Netlists.{PlainNetlist, reads, IsDroc, Grounded, of_rail, of_droc, of_gate}
use Rattle.cell_netlist.specs.Sound.{IsSound}
use Rattle.cell_netlist.specs.Wired.{IsWired}
use Rattle.cell_netlist.proofs.CallerLemmasOnDrivers.{read-grounded}
use Rattle.junction_report.specs.declared.depths.Measured.TheVariants.{Cells}
use Rattle.junction_report.specs.Walks.{IsPassing, Drives, IsWalkTo, IsDepth}
use Rattle.junction_report.specs.Paths.{IsWireDepth}
use Rattle.junction_report.specs.Depths.{share_of, measure_of, IsGreatestTo}
use Rattle.cell_orders.proofs.CallerLemmas.{same_cell, one_drives, its_cell, rail_apart}
use Rattle.junction_report.proofs.Walking.{last_passes, one_share, length_is, greatest_by, greatest_unique}
use Rattle.junction_report.proofs.Greatest.{IsGreatestInto, IsEntry, greatest_next}

module _ (net : PlainNetlist) where
  -- a depth is a greatest measure in cells
  pub depth_of_measure : (c n : ℕ) → IsGreatestTo net Cells c n → IsDepth net c n
  depth_of_measure c n h = greatest_by (IsWalkTo net c) (measure_of net Cells) length n (λ walk w. length_is net walk w.0) h

  pub measure_of_depth : (c n : ℕ) → IsDepth net c n → IsGreatestTo net Cells c n
  measure_of_depth c n h = greatest_by (IsWalkTo net c) length (measure_of net Cells) n (λ walk w. sym (length_is net walk w.0)) h

  pub depth_of_into : (wire n : ℕ) → IsGreatestInto net Cells wire n → IsWireDepth net wire n
  depth_of_into wire n (inl r) = inl (r.0, r.1, depth_of_measure r.0 n r.2)
  depth_of_into wire n (inr none) = inr none

  pub into_of_depth : (wire n : ℕ) → IsWireDepth net wire n → IsGreatestInto net Cells wire n
  into_of_depth wire n (inl r) = inl (r.0, r.1, measure_of_depth r.0 n r.2)
  into_of_depth wire n (inr none) = inr none

  -- what has a depth is an LA, FA or splitter
  pub deep_passes : (c n : ℕ) → IsDepth net c n → IsPassing net c
  deep_passes c n h = last_passes net h.walk c h.taken

  pub depth_unique : (c n m : ℕ) → IsDepth net c n → IsDepth net c m → n ≡ m
  depth_unique c n m h k = greatest_unique (IsWalkTo net c) length n m h k

  -- a cell is one deeper than the deepest wire that it reads
  pub depth_next : IsWired net → (c : ℕ) (cell : Cell) → slice_get net.cells c ≡ Some cell → (IsDroc cell → ⊥) → (n : ℕ) → IsEntry net Cells cell n → IsDepth net c (n + 1)
  depth_next wired c cell at kind n entry =
      let p : IsPassing net c = record { cell = cell; at = at; kind = kind } in
      let one = one_share net cell kind in
      subst (IsDepth net c) (omega arith) (depth_of_measure c (share_of Cells cell + n) (greatest_next net wired Cells c p n entry))

  module _ (wired : IsWired net) where
    pub wire_depth_unique : (wire n m : ℕ) → IsWireDepth net wire n → IsWireDepth net wire m → n ≡ m
    wire_depth_unique wire n m (inl r) (inl s) =
        depth_unique s.0 n m (subst (λ c. IsDepth net c n) (one_drives net wired wire r.0 s.0 r.1 s.1) r.2) s.2
    wire_depth_unique wire n m (inl r) (inr none) = absurd (none.0 r.0 r.1)
    wire_depth_unique wire n m (inr none) (inl s) = absurd (none.0 s.0 s.1)
    wire_depth_unique wire n m (inr a) (inr b) = a.1 ∙ sym b.1

    -- the deeper of two wires
    two_entry : (cell : Cell) (a b : ℕ) → IsIn a (reads cell) → IsIn b (reads cell) → ((wire : ℕ) → IsIn wire (reads cell) → (a ≡ wire) ⊎ (b ≡ wire))
        → (n m : ℕ) → IsGreatestInto net Cells a n → IsGreatestInto net Cells b m → (k : ℕ) × IsEntry net Cells cell k
    two_entry cell a b ia ib only n m ga gb = elim (cases_lt n m) [
      | inl lt ↦ (
        m,
        record {
          wire = b;
          read = ib;
          reached = gb;
          most = λ other i. elim (only other i) [
            | inl e ↦ (n, subst (λ w. IsGreatestInto net Cells w n) e ga, omega arith)
            | inr e ↦ (m, subst (λ w. IsGreatestInto net Cells w m) e gb, omega arith)
          ];
        },
      )
      | inr ge ↦ (
        n,
        record {
          wire = a;
          read = ia;
          reached = ga;
          most = λ other i. elim (only other i) [
            | inl e ↦ (n, subst (λ w. IsGreatestInto net Cells w n) e ga, omega arith)
            | inr e ↦ (m, subst (λ w. IsGreatestInto net Cells w m) e gb, ge)
          ];
        },
      )
    ]

    port_is : (a b wire : ℕ) → IsIn wire (a ∷ b ∷ []) → (a ≡ wire) ⊎ (b ≡ wire)
    port_is a b wire (inl e) = inl e
    port_is a b wire (inr (inl e)) = inr e
    port_is a b wire (inr (inr i)) = absurd i

    -- where the walks into each wire that a cell reads have a greatest measure, those into the cell have one
    pub entry_exists : (cell : Cell) → (IsDroc cell → ⊥) → ((wire : ℕ) → IsIn wire (reads cell) → (n : ℕ) × IsGreatestInto net Cells wire n) → (k : ℕ) × IsEntry net Cells cell k
    entry_exists (La a b out) kind into =
        let p = into a.number (inl refl) in
        let q = into b.number (inr (inl refl)) in
        two_entry (La a b out) a.number b.number (inl refl) (inr (inl refl)) (port_is a.number b.number) p.0 q.0 p.1 q.1
    entry_exists (Fa a b out) kind into =
        let p = into a.number (inl refl) in
        let q = into b.number (inr (inl refl)) in
        two_entry (Fa a b out) a.number b.number (inl refl) (inr (inl refl)) (port_is a.number b.number) p.0 q.0 p.1 q.1
    entry_exists (Split from left right) kind into =
        let p = into from.number (inl refl) in
        two_entry (Split from left right) from.number from.number (inl refl) (inl refl) only p.0 p.0 p.1 p.1
      where
        only : (wire : ℕ) → IsIn wire (from.number ∷ []) → (from.number ≡ wire) ⊎ (from.number ≡ wire)
        only wire (inl e) = inl e
        only wire (inr i) = absurd i
    entry_exists (Droc role preload feed q n) kind into = absurd (kind tt)

  module _ (sound : IsSound net) where
    -- the walks into a grounded wire have a greatest measure
    into_grounded : (wire : ℕ) → Grounded net wire → (n : ℕ) × IsGreatestInto net Cells wire n
    into_grounded _ (of_rail wire rail i e) =
        (0, inr (λ c d. rail_apart net sound rail i c (subst (λ w. Drives net c w) (sym e) d), refl))
    into_grounded _ (of_droc wire cell i droc o) =
        (0, inr (λ c d. d.passing.kind (subst IsDroc (same_cell net c (its_cell net sound wire c cell d i o) d.passing.at) droc), refl))
    into_grounded _ (of_gate wire cell i other o all) =
        let entry = entry_exists sound.wired cell other (λ port j. into_grounded port (all port j)) in
        let at = place_of cell net.cells i in
        let depth = depth_next sound.wired at.0 cell at.1 other entry.0 entry.1 in
        (entry.0 + 1, inl (at.0, record { passing = record { cell = cell; at = at.1; kind = other }; out = o }, measure_of_depth at.0 (entry.0 + 1) depth))

    -- each LA, FA and splitter has a depth
    pub depth_exists : (c : ℕ) → IsPassing net c → (n : ℕ) × IsDepth net c n
    depth_exists c p =
        let among = IsIn-place p.cell net.cells c p.at in
        let entry = entry_exists sound.wired p.cell p.kind (λ port j. into_grounded port (read-grounded net sound port p.cell among j)) in
        (entry.0 + 1, depth_next sound.wired c p.cell p.at p.kind entry.0 entry.1)
