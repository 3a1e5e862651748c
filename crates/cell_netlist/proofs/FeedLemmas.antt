-- What another feed of a DROC leaves as it is.
use Rattle.std.proofs.Common.{◌≡◌, ◌+◌, ℕ, zero, suc, Bool, ◌==◌, Option, Some, option_and_then, List, [], ◌∷◌, ◌++◌, map, slice_get, ap, subst, arith, refl, if◌then◌else◌, ◌⊎◌, inl, inr, sym}
use Rattle.std.specs.List.{flat_map}
use Rattle.pulse_ids.specs.Ids.{WireId, numbered}
use Rattle.cell_netlist.specs.declared.kinds.Role.{Role}
use Rattle.cell_netlist.specs.declared.lines.Cell.{Cell}
use Rattle.cell_netlist.specs.declared.lines.Cell.TheVariants.{La, Fa, Split, Droc}
use Rattle.cell_netlist.specs.declared.lines.Driver.TheVariants as drivers_of
use Rattle.cell_netlist.specs.declared.lines.Reader.{Reader}
use Rattle.cell_netlist.specs.declared.lines.Reader.TheVariants.{A, B, From, Feed, Output}
use Rattle.pulse_ids.specs.Lists.{IsIn, occurrences}
use Rattle.pulse_ids.proofs.CallerLemmasOnCounts.{occurrences-append}
use Rattle.cell_netlist.specs.Netlists.{PlainNetlist, wire_of, reads, Splits, HasSplitter, IsDroc, Grounded, of_rail, of_droc, of_gate, with_feed, cells_with_feed}
use Rattle.cell_netlist.specs.Places.{driving, cell_places, rail_places, on_wire, input_at, input_of, wire_read_at}
use Rattle.cell_netlist.specs.WireLaws.{LeavesRest}
use Rattle.cell_netlist.proofs.NetlistLemmas.{length-fed}
use Rattle.cell_netlist.proofs.WireLemmas.{no_splitter}
use Rattle.cell_netlist.proofs.WireBounds.{outs-fed, all_outs-fed}
use Rattle.cell_netlist.proofs.TableLemmas.{numbered-is}

module _ (feed : WireId) where
  fed-at : (c : ℕ) (cells : List Cell) (cell : Cell) → slice_get cells c ≡ Some cell → slice_get (cells_with_feed c feed cells) c ≡ Some (with_feed feed cell)
  fed-at zero [] cell e = absurd cc
  fed-at (suc c) [] cell e = absurd cc
  fed-at zero (first ∷ cells) cell e = let same : first ≡ cell = cc in ap (λ x. Some (with_feed feed x)) same
  fed-at (suc c) (first ∷ cells) cell e = fed-at c cells cell e

  fed-others : (c : ℕ) (cells : List Cell) (d : ℕ) → (d ≡ c → ⊥) → slice_get (cells_with_feed c feed cells) d ≡ slice_get cells d
  fed-others c [] d other = refl
  fed-others zero (cell ∷ cells) zero other = absurd (other refl)
  fed-others zero (cell ∷ cells) (suc d) other = refl
  fed-others (suc c) (cell ∷ cells) zero other = refl
  fed-others (suc c) (cell ∷ cells) (suc d) other = fed-others c cells d (λ e. other (ap suc e))

  driving-fed : (c : ℕ) (cell : Cell) → driving c (with_feed feed cell) ≡ driving c cell
  driving-fed c (La a b out) = refl
  driving-fed c (Fa a b out) = refl
  driving-fed c (Split from left right) = refl
  driving-fed c (Droc role preload old q n) = refl

  driving_places-fed : (c k : ℕ) (cells : List Cell) → cell_places driving k (cells_with_feed c feed cells) ≡ cell_places driving k cells
  driving_places-fed c k [] = refl
  driving_places-fed zero k (cell ∷ cells) = ap (λ ps. ps ++ cell_places driving (k + 1) cells) (driving-fed k cell)
  driving_places-fed (suc c) k (cell ∷ cells) = ap (λ ps. driving k cell ++ ps) (driving_places-fed c (k + 1) cells)

  -- a cell reads the same at its other ports
  input-fed : (cell : Cell) (place : Reader) → ((id : _) → place ≡ Feed id → ⊥) → input_at (with_feed feed cell) place ≡ input_at cell place
  input-fed (La a b out) place other = refl
  input-fed (Fa a b out) place other = refl
  input-fed (Split from left right) place other = refl
  input-fed (Droc role preload old q n) (A id) other = refl
  input-fed (Droc role preload old q n) (B id) other = refl
  input-fed (Droc role preload old q n) (From id) other = refl
  input-fed (Droc role preload old q n) (Output id) other = refl
  input-fed (Droc role preload old q n) (Feed id) other = absurd (other id refl)

  input_of-fed : (c d : ℕ) (cells : List Cell) (place : Reader) → ((cell : Cell) → input_at (with_feed feed cell) place ≡ input_at cell place)
      → input_of (cells_with_feed c feed cells) d place ≡ input_of cells d place
  input_of-fed c d [] place same = refl
  input_of-fed zero zero (cell ∷ cells) place same = same cell
  input_of-fed zero (suc d) (cell ∷ cells) place same = refl
  input_of-fed (suc c) zero (cell ∷ cells) place same = refl
  input_of-fed (suc c) (suc d) (cell ∷ cells) place same = input_of-fed c d cells place same

  input-there : (cell : Cell) → IsDroc cell → (c : ℕ) → input_at (with_feed feed cell) (Feed (numbered c)) ≡ Some feed
  input-there (La a b out) droc c = absurd droc
  input-there (Fa a b out) droc c = absurd droc
  input-there (Split from left right) droc c = absurd droc
  input-there (Droc role preload old q n) droc c = refl

  -- the old feed is read once less, and the new one once more
  reads-moved : (c : ℕ) (cells : List Cell) (role : Role) (preload : Bool) (old : WireId) (q n : Option WireId) → slice_get cells c ≡ Some (Droc role preload old q n)
      → (wire : ℕ) → occurrences wire (flat_map reads (cells_with_feed c feed cells)) + (if wire == old.number then 1 else 0)
      ≡ occurrences wire (flat_map reads cells) + (if wire == feed.number then 1 else 0)
  reads-moved zero [] role preload old q n at wire = absurd cc
  reads-moved (suc c) [] role preload old q n at wire = absurd cc
  reads-moved zero (cell ∷ cells) role preload old q n at wire =
      let same : Droc role preload old q n ≡ cell = cc in
      subst (λ (x : Cell). occurrences wire (reads (with_feed feed x) ++ flat_map reads cells) + (if wire == old.number then 1 else 0)
      ≡ occurrences wire (reads x ++ flat_map reads cells) + (if wire == feed.number then 1 else 0)) same (omega arith)
  reads-moved (suc c) (cell ∷ cells) role preload old q n at wire =
      let rest = reads-moved c cells role preload old q n at wire in
      let one = occurrences-append wire (reads cell) (flat_map reads (cells_with_feed c feed cells)) in
      let two = occurrences-append wire (reads cell) (flat_map reads cells) in
      omega arith

  -- each cell stays, or stands there with the feed
  fed-among : (c : ℕ) (cells : List Cell) (cell : Cell) → IsIn cell cells → IsIn cell (cells_with_feed c feed cells) ⊎ IsIn (with_feed feed cell) (cells_with_feed c feed cells)
  fed-among c [] cell h = absurd h
  fed-among zero (first ∷ cells) cell (inl e) = inr (inl (ap (with_feed feed) e))
  fed-among zero (first ∷ cells) cell (inr h) = inl (inr h)
  fed-among (suc c) (first ∷ cells) cell (inl e) = inl (inl e)
  fed-among (suc c) (first ∷ cells) cell (inr h) = elim (fed-among c cells cell h) [ inl i ↦ inl (inr i) | inr i ↦ inr (inr i) ]

  fed-from : (c : ℕ) (cells : List Cell) (x : Cell) → IsIn x (cells_with_feed c feed cells)
      → IsIn x cells ⊎ ((cell : Cell) × IsIn cell cells × (with_feed feed cell ≡ x))
  fed-from c [] x h = absurd h
  fed-from zero (first ∷ cells) x (inl e) = inr (first, inl refl, e)
  fed-from zero (first ∷ cells) x (inr h) = inl (inr h)
  fed-from (suc c) (first ∷ cells) x (inl e) = inl (inl e)
  fed-from (suc c) (first ∷ cells) x (inr h) = elim (fed-from c cells x h) [ inl i ↦ inl (inr i) | inr found ↦ inr (found.0, inr found.1, found.2) ]

  -- a cell that is no DROC is the same with another feed
  gate-fed : (cell : Cell) → (IsDroc cell → ⊥) → with_feed feed cell ≡ cell
  gate-fed (La a b out) gate = refl
  gate-fed (Fa a b out) gate = refl
  gate-fed (Split from left right) gate = refl
  gate-fed (Droc role preload old q n) gate = absurd (gate tt)

  droc-fed : (cell : Cell) → IsDroc cell → IsDroc (with_feed feed cell)
  droc-fed (La a b out) droc = absurd droc
  droc-fed (Fa a b out) droc = absurd droc
  droc-fed (Split from left right) droc = absurd droc
  droc-fed (Droc role preload old q n) droc = tt

  splits-unfed : (cell : Cell) (from to : ℕ) → Splits (with_feed feed cell) from to → Splits cell from to
  splits-unfed (La a b out) from to h = h
  splits-unfed (Fa a b out) from to h = h
  splits-unfed (Split source left right) from to h = h
  splits-unfed (Droc role preload old q n) from to h = h

  module _ (net : PlainNetlist) (c : ℕ) where
    abbrev after : PlainNetlist
    after = record net { cells = cells_with_feed c feed net.cells }

    read_elsewhere : (place : Reader) → (place ≡ Feed (numbered c) → ⊥) → wire_read_at after place ≡ wire_read_at net place
    read_elsewhere (A id) other = input_of-fed c id.number net.cells (A id) (λ cell. input-fed cell (A id) (λ i e. absurd cc))
    read_elsewhere (B id) other = input_of-fed c id.number net.cells (B id) (λ cell. input-fed cell (B id) (λ i e. absurd cc))
    read_elsewhere (From id) other = input_of-fed c id.number net.cells (From id) (λ cell. input-fed cell (From id) (λ i e. absurd cc))
    read_elsewhere (Feed id) other =
        ap (λ o. option_and_then (λ cell. input_at cell (Feed id)) o)
        (fed-others c net.cells id.number (λ same. other (ap (λ i. Feed i) (numbered-is id c same))))
    read_elsewhere (Output id) other = refl

    splitter-at : (from to : ℕ) → HasSplitter after from to → HasSplitter net from to
    splitter-at from to h = elim (fed-from c net.cells h.0 h.1) [
      | inl i ↦ (h.0, i, h.2)
      | inr found ↦ (found.0, found.1, splits-unfed found.0 from to (subst (λ x. Splits x from to) (sym found.2) h.2))
    ]

    splitter-from : (from to : ℕ) → HasSplitter net from to → HasSplitter after from to
    splitter-from from to h = elim (fed-among c net.cells h.0 h.1) [
      | inl i ↦ (h.0, i, h.2)
      | inr i ↦ (h.0, subst (λ x. IsIn x after.cells) (gate-fed h.0 (λ droc. no_splitter h.0 droc from to h.2)) i, h.2)
    ]

    grounded-fed : (w : ℕ) → Grounded net w → Grounded after w
    grounded-fed _ (of_rail w rail among e) = of_rail w rail among e
    grounded-fed _ (of_droc w cell among droc out) = elim (fed-among c net.cells cell among) [
      | inl i ↦ of_droc w cell i droc out
      | inr i ↦ of_droc w (with_feed feed cell) i (droc-fed cell droc) (subst (λ ws. IsIn w ws) (sym (outs-fed feed cell)) out)
    ]
    grounded-fed _ (of_gate w cell among gate out ports) =
        let there : IsIn cell after.cells = elim (fed-among c net.cells cell among) [
          | inl i ↦ i
          | inr i ↦ subst (λ x. IsIn x after.cells) (gate-fed cell gate) i
        ] in
        of_gate w cell there gate out (λ port i. grounded-fed port (ports port i))

    pub leaves_rest : LeavesRest net after c feed
    leaves_rest = record {
      count = length-fed c feed net.cells;
      fed = fed-at c net.cells;
      others = fed-others c net.cells;
      same_driven = ap (λ ws. map wire_of net.input_rails ++ ws) (all_outs-fed c feed net.cells);
      same_drivers = λ wire. ap (λ ps. on_wire wire (rail_places (λ r. drivers_of.Input (numbered r)) 0 net.input_rails ++ ps)) (driving_places-fed c 0 net.cells);
      read_elsewhere = read_elsewhere;
      read_there = λ cell at droc. rw (fed-at c net.cells cell at) (input-there cell droc c);
      read_moved = λ role preload old q n at wire.
          let cells = reads-moved c net.cells role preload old q n at wire in
          let one = occurrences-append wire (flat_map reads (cells_with_feed c feed net.cells)) (map wire_of net.output_rails) in
          let two = occurrences-append wire (flat_map reads net.cells) (map wire_of net.output_rails) in
          omega arith;
      same_splitters = λ from to. (splitter-at from to, splitter-from from to);
      grounded = grounded-fed;
    }
