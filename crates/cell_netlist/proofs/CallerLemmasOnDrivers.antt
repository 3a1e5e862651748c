-- In a sound netlist each wire has one driver and one reader: the lemmas that the crates above may cite.
use Rattle.std.proofs.Common.{◌≡◌, ℕ, ◌+◌, ◌≤◌, ◌<◌, ◌⊎◌, inl, inr, Option, Some, None, [], ◌∷◌, ◌++◌, map, Bool, refl, arith}
use Rattle.std.specs.List.{flat_map}
use Rattle.pulse_ids.specs.Ids.{WireId}
use Rattle.cell_netlist.specs.declared.kinds.Role.{Role}
use Rattle.cell_netlist.specs.declared.lines.Rail.{Rail}
use Rattle.cell_netlist.specs.declared.lines.Cell.{Cell}
use Rattle.cell_netlist.specs.declared.lines.Cell.TheVariants.{La, Fa, Split, Droc}
use Rattle.pulse_ids.specs.Lists.{IsIn, occurrences}
use Rattle.cell_netlist.specs.Netlists.{PlainNetlist, wire_of, number_of_wires, driven, read, outs, reads, used, IsDroc, Grounded}
use Rattle.cell_netlist.specs.Sound.{IsSound, IsOn, IsDrocOf}
use Rattle.pulse_ids.proofs.CallerLemmas.{IsIn-append, IsIn-left, IsIn-right, IsIn-map, IsIn-flat_map}
use Rattle.pulse_ids.proofs.CallerLemmasOnCounts.{test_same, occurrences-append, IsIn-occurrences, occurrences-IsIn}
use Rattle.cell_netlist.proofs.WireBounds.{occurrences-past, driven_within, read_within}
use Rattle.cell_netlist.proofs.WireLemmas.{driven_once, read_once, wire_grounded}
use Rattle.cell_netlist.proofs.CallerLemmasOnSums.{sum_over, sum_over-less, sum_over-share, only_one, same_share, occurrences-flat_map, occurrences-map}

-- no wire is driven twice, nor any from the number of wires on
pub driven-once : (net : PlainNetlist) → IsSound net → (wire : ℕ) → occurrences wire (driven net) ≤ 1
driven-once net sound wire = driven_once net sound.wired wire

pub driven-low : (net : PlainNetlist) (wire : ℕ) → number_of_wires net ≤ wire → occurrences wire (driven net) ≡ 0
driven-low net wire le =
    let z = occurrences-past wire (driven net ++ read net) le in let s = occurrences-append wire (driven net) (read net) in omega arith

-- what is read or driven has a number below the number of wires
pub read-low : (net : PlainNetlist) (wire : ℕ) → IsIn wire (read net) → wire < number_of_wires net
read-low net wire i = read_within net wire (IsIn-occurrences wire (read net) i)

pub driven-below : (net : PlainNetlist) (wire : ℕ) → IsIn wire (driven net) → wire < number_of_wires net
driven-below net wire i = driven_within net wire (IsIn-occurrences wire (driven net) i)

pub driven-IsIn : (net : PlainNetlist) → IsSound net → (wire : ℕ) → wire < number_of_wires net
    → IsIn wire (map wire_of net.input_rails) ⊎ IsIn wire (flat_map outs net.cells)
driven-IsIn net sound wire low =
    IsIn-append wire (map wire_of net.input_rails) (flat_map outs net.cells) (occurrences-IsIn wire (driven net) (sound.wired.all_driven wire low))

-- an output rail's wire is read
pub output-read : (net : PlainNetlist) (rail : Rail) → IsIn rail net.output_rails → IsIn (wire_of rail) (read net)
output-read net rail i =
    IsIn-right (wire_of rail) (flat_map reads net.cells) (map wire_of net.output_rails) (IsIn-map wire_of rail net.output_rails i)

-- a DROC of a role is a DROC
pub is-droc : (cell : Cell) (role : Role) (preload : Bool) (wire : ℕ) → IsDrocOf cell role preload wire → IsDroc cell
is-droc (La a b out) role preload wire h = absurd h
is-droc (Fa a b out) role preload wire h = absurd h
is-droc (Split from left right) role preload wire h = absurd h
is-droc (Droc r p feed q n) role preload wire h = tt

pub IsOn-used : (output : Option WireId) (wire : ℕ) → IsOn output wire → IsIn wire (used output)
IsOn-used None wire h = absurd h
IsOn-used (Some w) wire h = inl h

pub used-on : (q : Option WireId) (wire : ℕ) → IsIn wire (used q) → IsOn q wire
used-on None wire h = absurd h
used-on (Some w) wire (inl e) = e
used-on (Some w) wire (inr h) = absurd h

pub droc-reads : (cell : Cell) (role : Role) (preload : Bool) (wire : ℕ) → IsDrocOf cell role preload wire → IsIn wire (reads cell)
droc-reads (La a b out) role preload wire h = absurd h
droc-reads (Fa a b out) role preload wire h = absurd h
droc-reads (Split from left right) role preload wire h = absurd h
droc-reads (Droc r p feed q n) role preload wire h = inl h.2

module _ (net : PlainNetlist) (sound : IsSound net) where
  -- what drives a wire, as a sum over rails and cells
  pub driven-sums : (wire : ℕ)
      → occurrences wire (driven net) ≡ sum_over (λ rail. occurrences wire (wire_of rail ∷ [])) net.input_rails + sum_over (λ cell. occurrences wire (outs cell)) net.cells
  driven-sums wire =
      let a = occurrences-append wire (map wire_of net.input_rails) (flat_map outs net.cells) in
      let b = occurrences-map wire_of wire net.input_rails in
      let c = occurrences-flat_map outs wire net.cells in omega arith

  pub read-sums : (wire : ℕ)
      → occurrences wire (read net) ≡ sum_over (λ cell. occurrences wire (reads cell)) net.cells + sum_over (λ rail. occurrences wire (wire_of rail ∷ [])) net.output_rails
  read-sums wire =
      let a = occurrences-append wire (flat_map reads net.cells) (map wire_of net.output_rails) in
      let b = occurrences-map wire_of wire net.output_rails in
      let c = occurrences-flat_map reads wire net.cells in omega arith

  pub read-once : (wire : ℕ) → occurrences wire (read net) ≤ 1
  read-once wire = read_once net sound.wired wire

  -- at a wire that a cell drives, a sum over the cells is that cell's share
  pub at_cell : (wire : ℕ) (cell : Cell) (f : Cell → ℕ) → IsIn cell net.cells → IsIn wire (outs cell)
      → ((other : Cell) → IsIn other net.cells → f other ≤ occurrences wire (outs other)) → sum_over f net.cells ≡ f cell
  at_cell wire cell f i j less =
      let s = driven-sums wire in
      let o = driven-once net sound wire in
      only_one f (λ cell. occurrences wire (outs cell)) cell net.cells less i (IsIn-occurrences wire (outs cell) j) (omega arith)

  -- and rails give nothing
  pub at_cell-rails : (wire : ℕ) (cell : Cell) (f : Rail → ℕ) → IsIn cell net.cells → IsIn wire (outs cell)
      → ((rail : Rail) → f rail ≤ occurrences wire (wire_of rail ∷ [])) → sum_over f net.input_rails ≡ 0
  at_cell-rails wire cell f i j less =
      let s = driven-sums wire in
      let o = driven-once net sound wire in
      let l = sum_over-less f (λ rail. occurrences wire (wire_of rail ∷ [])) net.input_rails (λ rail k. less rail) in
      let c = sum_over-share (λ cell. occurrences wire (outs cell)) cell net.cells i in
      let p = IsIn-occurrences wire (outs cell) j in omega arith

  -- at a wire that a rail drives, a sum over the rails is that rail's share
  pub at_rail : (rail : Rail) (f : Rail → ℕ) → IsIn rail net.input_rails
      → ((other : Rail) → f other ≤ occurrences (wire_of rail) (wire_of other ∷ [])) → sum_over f net.input_rails ≡ f rail
  at_rail rail f i less =
      let s = driven-sums (wire_of rail) in
      let o = driven-once net sound (wire_of rail) in
      let t = test_same (wire_of rail) (wire_of rail) refl in
      only_one f (λ other. occurrences (wire_of rail) (wire_of other ∷ [])) rail net.input_rails (λ other k. less other) i (omega arith) (omega arith)

  -- and cells give nothing
  pub at_rail-cells : (rail : Rail) (f : Cell → ℕ) → IsIn rail net.input_rails
      → ((other : Cell) → IsIn other net.cells → f other ≤ occurrences (wire_of rail) (outs other)) → sum_over f net.cells ≡ 0
  at_rail-cells rail f i less =
      let s = driven-sums (wire_of rail) in
      let o = driven-once net sound (wire_of rail) in
      let t = test_same (wire_of rail) (wire_of rail) refl in
      let l = sum_over-less f (λ cell. occurrences (wire_of rail) (outs cell)) net.cells less in
      let c = sum_over-share (λ other. occurrences (wire_of rail) (wire_of other ∷ [])) rail net.input_rails i in omega arith

  pub same_driver : (wire : ℕ) (one other : Cell) → IsIn one net.cells → IsIn other net.cells → IsIn wire (outs one) → IsIn wire (outs other) → one ≡ other
  same_driver wire one other i j p q =
      let s = driven-sums wire in
      let o = driven-once net sound wire in
      same_share (λ cell. occurrences wire (outs cell)) one other net.cells (omega arith) i j (IsIn-occurrences wire (outs one) p) (IsIn-occurrences wire (outs other) q)

  pub same_reader : (wire : ℕ) (one other : Cell) → IsIn one net.cells → IsIn other net.cells → IsIn wire (reads one) → IsIn wire (reads other) → one ≡ other
  same_reader wire one other i j p q =
      let s = read-sums wire in
      let o = read-once wire in
      same_share (λ cell. occurrences wire (reads cell)) one other net.cells (omega arith) i j (IsIn-occurrences wire (reads one) p) (IsIn-occurrences wire (reads other) q)

  pub outs-once : (wire : ℕ) (cell : Cell) → IsIn cell net.cells → occurrences wire (outs cell) ≤ 1
  outs-once wire cell i =
      let s = driven-sums wire in
      let o = driven-once net sound wire in
      let c = sum_over-share (λ cell. occurrences wire (outs cell)) cell net.cells i in omega arith

  pub reads-once : (wire : ℕ) (cell : Cell) → IsIn cell net.cells → occurrences wire (reads cell) ≤ 1
  reads-once wire cell i =
      let s = read-sums wire in
      let o = read-once wire in
      let c = sum_over-share (λ cell. occurrences wire (reads cell)) cell net.cells i in omega arith

  -- every wire is grounded
  pub all-grounded : (wire : ℕ) → wire < number_of_wires net → Grounded net wire
  all-grounded wire low = wire_grounded net sound wire low

  pub read-grounded : (wire : ℕ) (cell : Cell) → IsIn cell net.cells → IsIn wire (reads cell) → Grounded net wire
  read-grounded wire cell i j =
      all-grounded wire (read-low net wire (IsIn-left wire (flat_map reads net.cells) (map wire_of net.output_rails) (IsIn-flat_map reads wire cell net.cells i j)))
