-- What lines add to a netlist, and what it keeps.
use Rattle.std.proofs.Common.{◌≡◌, ◌⊎◌, ℕ, zero, suc, Some, option_map, option_and_then, List, [], ◌∷◌, ◌++◌, map, slice_get, append_assoc, ap, sym, ◌∙◌, inl, inr, arith, refl}
use Rattle.std.specs.List.{flat_map}
use Rattle.std.proofs.lemmas.List.{map-append}
use Rattle.pulse_ids.specs.Ids.{WireId}
use Rattle.cell_netlist.specs.declared.lines.Rail.{Rail}
use Rattle.cell_netlist.specs.declared.lines.Cell.{Cell}
use Rattle.cell_netlist.specs.declared.lines.Driver.{Driver}
use Rattle.cell_netlist.specs.declared.lines.Driver.TheVariants.{Input, Out, Left, Right, Q, N}
use Rattle.cell_netlist.specs.declared.lines.Reader.{Reader}
use Rattle.cell_netlist.specs.declared.lines.Reader.TheVariants.{A, B, From, Feed, Output}
use Rattle.pulse_ids.specs.Lists.{IsIn, occurrences}
use Rattle.pulse_ids.proofs.CallerLemmas.{IsIn-append, IsIn-left, IsIn-right, IsIn-place, place_of}
use Rattle.pulse_ids.proofs.CallerLemmasOnCounts.{occurrences-append}
use Rattle.cell_netlist.specs.Netlists.{PlainNetlist, wire_of, outs, reads, wire_bound, Splits, HasSplitter, SplittersBelow, Grounded, of_rail, of_droc, of_gate}
use Rattle.cell_netlist.specs.Places.{output_at, input_at, output_of, input_of, rail_wire, wire_driven_at, wire_read_at}
use Rattle.cell_netlist.specs.MoreLines.{KeepsLines, AddsCells, AddsInput, AddsOutput}
use Rattle.cell_netlist.proofs.WireBounds.{wire_bound-append, number_of_wires-parts}
use Rattle.cell_netlist.proofs.PlaceWires.{stepped-from, mapped-from}

flat_map-append : {X Y : Type 0} (f : X → List Y) (xs ys : List X) → flat_map f (xs ++ ys) ≡ flat_map f xs ++ flat_map f ys
flat_map-append f [] ys = refl
flat_map-append f (x ∷ xs) ys = ap (λ zs. f x ++ zs) (flat_map-append f xs ys) ∙ sym (append_assoc (f x) (flat_map f xs) (flat_map f ys))

still_at : {X : Type 0} (xs ys : List X) (i : ℕ) (x : X) → slice_get xs i ≡ Some x → slice_get (xs ++ ys) i ≡ Some x
still_at [] ys i x e = absurd cc
still_at (z ∷ xs) ys zero x e = e
still_at (z ∷ xs) ys (suc i) x e = still_at xs ys i x e

-- each item stays at its place
abbrev Stays : {X : Type 0} → List X → List X → Type 0
Stays {X} xs ys = (i : ℕ) (x : X) → slice_get xs i ≡ Some x → slice_get ys i ≡ Some x

stays-among : {X : Type 0} (xs ys : List X) → Stays xs ys → (x : X) → IsIn x xs → IsIn x ys
stays-among xs ys stay x h = let at = place_of x xs h in IsIn-place x ys at.0 (stay at.0 x at.1)

-- the wire of an output, of an input and of a rail stays
output-stays : (cells more : List Cell) → Stays cells more → (c : ℕ) (place : Driver) (wire : WireId) → output_of cells c place ≡ Some wire → output_of more c place ≡ Some wire
output-stays cells more stay c place wire e =
    let its = stepped-from (λ cell. output_at cell place) (slice_get cells c) wire e in
    ap (λ o. option_and_then (λ cell. output_at cell place) o) (stay c its.0 its.1) ∙ its.2

input-stays : (cells more : List Cell) → Stays cells more → (c : ℕ) (place : Reader) (wire : WireId) → input_of cells c place ≡ Some wire → input_of more c place ≡ Some wire
input-stays cells more stay c place wire e =
    let its = stepped-from (λ cell. input_at cell place) (slice_get cells c) wire e in
    ap (λ o. option_and_then (λ cell. input_at cell place) o) (stay c its.0 its.1) ∙ its.2

rail-stays : (rails more : List Rail) → Stays rails more → (r : ℕ) (wire : WireId) → rail_wire rails r ≡ Some wire → rail_wire more r ≡ Some wire
rail-stays rails more stay r wire e =
    let its = mapped-from (λ rail. rail.wire) (slice_get rails r) wire e in
    ap (λ o. option_map (λ rail. rail.wire) o) (stay r its.0 its.1) ∙ ap (λ w. Some w) its.2

-- where splitters stay, chains do
pub chain-stays : (net after : PlainNetlist) → ((from to : ℕ) → HasSplitter net from to → HasSplitter after from to)
    → (n from to : ℕ) → SplittersBelow net n from to → SplittersBelow after n from to
chain-stays net after stay zero from to same = same
chain-stays net after stay (suc n) from to chain = (chain.0, stay from chain.0 chain.1, chain-stays net after stay n chain.0 to chain.2)

-- where input rails and cells stay, grounded wires do
grounded-stays : (net after : PlainNetlist) → ((rail : Rail) → IsIn rail net.input_rails → IsIn rail after.input_rails)
    → ((cell : Cell) → IsIn cell net.cells → IsIn cell after.cells) → (w : ℕ) → Grounded net w → Grounded after w
grounded-stays net after rails cells _ (of_rail w rail among e) = of_rail w rail (rails rail among) e
grounded-stays net after rails cells _ (of_droc w cell among droc out) = of_droc w cell (cells cell among) droc out
grounded-stays net after rails cells _ (of_gate w cell among gate out ports) =
    of_gate w cell (cells cell among) gate out (λ port i. grounded-stays net after rails cells port (ports port i))

-- where each line stays at its place, all is kept
keeps : (net after : PlainNetlist) → Stays net.input_rails after.input_rails → Stays net.cells after.cells → Stays net.output_rails after.output_rails → KeepsLines net after
keeps net after inputs cells outputs = record {
  drivers = driver;
  readers = reader;
  chains = chain-stays net after (λ from to h. (h.0, stays-among net.cells after.cells cells h.0 h.1, h.2));
  grounded = grounded-stays net after (stays-among net.input_rails after.input_rails inputs) (stays-among net.cells after.cells cells);
}
  where
    driver : (place : Driver) (wire : WireId) → wire_driven_at net place ≡ Some wire → wire_driven_at after place ≡ Some wire
    driver (Input id) wire e = rail-stays net.input_rails after.input_rails inputs id.number wire e
    driver (Out id) wire e = output-stays net.cells after.cells cells id.number (Out id) wire e
    driver (Left id) wire e = output-stays net.cells after.cells cells id.number (Left id) wire e
    driver (Right id) wire e = output-stays net.cells after.cells cells id.number (Right id) wire e
    driver (Q id) wire e = output-stays net.cells after.cells cells id.number (Q id) wire e
    driver (N id) wire e = output-stays net.cells after.cells cells id.number (N id) wire e

    reader : (place : Reader) (wire : WireId) → wire_read_at net place ≡ Some wire → wire_read_at after place ≡ Some wire
    reader (A id) wire e = input-stays net.cells after.cells cells id.number (A id) wire e
    reader (B id) wire e = input-stays net.cells after.cells cells id.number (B id) wire e
    reader (From id) wire e = input-stays net.cells after.cells cells id.number (From id) wire e
    reader (Feed id) wire e = input-stays net.cells after.cells cells id.number (Feed id) wire e
    reader (Output id) wire e = rail-stays net.output_rails after.output_rails outputs id.number wire e

-- more cells
pub cells_add : (net : PlainNetlist) (added : List Cell) → AddsCells net (record net { cells = net.cells ++ added }) added
cells_add net added = record {
  kept = keeps net after (λ i x e. e) (still_at net.cells added) (λ i x e. e);
  driven_behind = ap (λ ws. map wire_of net.input_rails ++ ws) (flat_map-append outs net.cells added)
      ∙ sym (append_assoc (map wire_of net.input_rails) (flat_map outs net.cells) (flat_map outs added));
  read_more = λ wire.
      let all = occurrences-append wire (flat_map reads (net.cells ++ added)) (map wire_of net.output_rails) in
      let parts = ap (occurrences wire) (flat_map-append reads net.cells added) in
      let both = occurrences-append wire (flat_map reads net.cells) (flat_map reads added) in
      let old = occurrences-append wire (flat_map reads net.cells) (map wire_of net.output_rails) in
      omega arith;
  wires =
      let new = number_of_wires-parts after in
      let old = number_of_wires-parts net in
      let drives = ap wire_bound (flat_map-append outs net.cells added) in
      let drives_both = wire_bound-append (flat_map outs net.cells) (flat_map outs added) in
      let its = ap wire_bound (flat_map-append reads net.cells added) in
      let its_both = wire_bound-append (flat_map reads net.cells) (flat_map reads added) in
      let own = wire_bound-append (flat_map outs added) (flat_map reads added) in
      omega arith;
  splitters = λ from to. (splitter-at from to, splitter-from from to);
}
  where
    after : PlainNetlist
    after = record net { cells = net.cells ++ added }

    splitter-at : (from to : ℕ) → HasSplitter after from to → HasSplitter net from to ⊎ ((cell : Cell) × IsIn cell added × Splits cell from to)
    splitter-at from to h = elim (IsIn-append h.0 net.cells added h.1) [ inl old ↦ inl (h.0, old, h.2) | inr new ↦ inr (h.0, new, h.2) ]

    splitter-from : (from to : ℕ) → HasSplitter net from to ⊎ ((cell : Cell) × IsIn cell added × Splits cell from to) → HasSplitter after from to
    splitter-from from to (inl h) = (h.0, IsIn-left h.0 net.cells added h.1, h.2)
    splitter-from from to (inr h) = (h.0, IsIn-right h.0 net.cells added h.1, h.2)

-- one more input rail
pub input_adds : (net : PlainNetlist) (rail : Rail) → AddsInput net (record net { input_rails = net.input_rails ++ rail ∷ [] }) rail
input_adds net rail = record {
  kept = keeps net (record net { input_rails = net.input_rails ++ rail ∷ [] }) (still_at net.input_rails (rail ∷ [])) (λ i x e. e) (λ i x e. e);
  driven_more = λ wire.
      let all = occurrences-append wire (map wire_of (net.input_rails ++ rail ∷ [])) (flat_map outs net.cells) in
      let parts = ap (occurrences wire) (map-append wire_of net.input_rails (rail ∷ [])) in
      let both = occurrences-append wire (map wire_of net.input_rails) (wire_of rail ∷ []) in
      let old = occurrences-append wire (map wire_of net.input_rails) (flat_map outs net.cells) in
      omega arith;
  same_read = refl;
}

-- one more output rail
pub output_adds : (net : PlainNetlist) (rail : Rail) → AddsOutput net (record net { output_rails = net.output_rails ++ rail ∷ [] }) rail
output_adds net rail = record {
  kept = keeps net (record net { output_rails = net.output_rails ++ rail ∷ [] }) (λ i x e. e) (λ i x e. e) (still_at net.output_rails (rail ∷ []));
  same_driven = refl;
  read_behind = ap (λ ws. flat_map reads net.cells ++ ws) (map-append wire_of net.output_rails (rail ∷ []))
      ∙ sym (append_assoc (flat_map reads net.cells) (map wire_of net.output_rails) (wire_of rail ∷ []));
}
