-- No literal is above the variables.
use Rattle.std.proofs.Common.{◌≡◌, ◌≤◌, ◌+◌, ℕ, Bool, true, false, not, Option, Some, None, map, take, slice_get, refl, sym, ap, subst, inl, inr, arith}
use Rattle.pulse_ids.specs.Ids.{WireId, Lit}
use Rattle.pulse_ids.specs.Lists.{IsIn}
use Rattle.pulse_ids.specs.declared.literals.Sign.{Sign}
use Rattle.pulse_ids.specs.declared.literals.Sign.TheVariants.{Pos, Neg}
use Rattle.pulse_ids.proofs.CallerLemmas.{IsIn-append, IsIn-from_map}
use Rattle.cell_netlist.specs.declared.kinds.Role.TheVariants.{Front, Back, Const}
use Rattle.cell_netlist.specs.declared.lines.Rail.{Rail}
use Rattle.cell_netlist.specs.declared.lines.Cell.{Cell}
use Rattle.cell_netlist.specs.declared.lines.Cell.TheVariants.{La, Fa, Split, Droc}
use Rattle.cell_netlist.specs.LeanDecisions.{how_many}
use Rattle.cell_netlist.specs.Netlists.{PlainNetlist, wire_of}
use Rattle.cell_netlist.specs.Places.{on_wire, cell_places}
use Rattle.cell_netlist.specs.Sound.{IsSound}
use Rattle.netlist_extract.specs.declared.outlines.LatchPart.{LatchPart}
use Rattle.netlist_extract.specs.declared.outlines.AndPart.{AndPart}
use Rattle.netlist_extract.specs.Outlines.{is_back, is_gate, plain, inverse, constant, signed, rail_literal, back_variable, gate_variable, literal_if_used, literals_at, root_literals}
use Rattle.netlist_extract.specs.Outlines.{wire_literal, listed, latch_of, latches_of, and_of, ands_of}
use Rattle.netlist_extract.proofs.CallerLemmas.{count_take, count_take-few}
use Rattle.extracted_machines.proofs.Variables.{most, listed-is, by_cell-first, cell_places-first, on_wire-from, first_of}

pub signed-number : (rail : Rail) → (rail_literal rail).id.number ≡ rail.port + 1
signed-number rail = go rail.sign
  where
    go : (sign : Sign) → (signed sign (rail.port + 1)).id.number ≡ rail.port + 1
    go Pos = refl
    go Neg = refl

module _ (net : PlainNetlist) (sound : IsSound net) where
  -- no literal is above the variables
  kind-below : (kind : Cell → Bool) (c : ℕ) (cell : Cell) → slice_get net.cells c ≡ Some cell → kind cell ≡ true → how_many kind (take c net.cells) + 1 ≤ how_many kind net.cells
  kind-below kind c cell at hit =
      let more : how_many kind (take (c + 1) net.cells) ≡ how_many kind (take c net.cells) + 1 = rw hit at (count_take kind net.cells c cell at) in
      let all = count_take-few kind net.cells (c + 1) in
      omega arith

  used-number : (output : Option WireId) (given literal : Lit) (w : ℕ) → IsIn (w, literal) (literal_if_used output given) → literal.id.number ≡ given.id.number
  used-number None given literal w h = absurd h
  used-number (Some wire) given literal w (inl e) = sym (ap (λ (p : ℕ × Lit). p.1.id.number) e)
  used-number (Some wire) given literal w (inr h) = absurd h

  cell-number : (c : ℕ) (cell : Cell) → slice_get net.cells c ≡ Some cell → (w : ℕ) (literal : Lit) → IsIn (w, literal) (literals_at net c cell) → literal.id.number ≤ (most net)
  cell-number c (La a b out) at w literal (inl e) = let k = kind-below is_gate c (La a b out) at refl in let n = ap (λ (p : ℕ × Lit). p.1.id.number) e in omega arith
  cell-number c (La a b out) at w literal (inr h) = absurd h
  cell-number c (Fa a b out) at w literal (inl e) = let k = kind-below is_gate c (Fa a b out) at refl in let n = ap (λ (p : ℕ × Lit). p.1.id.number) e in omega arith
  cell-number c (Fa a b out) at w literal (inr h) = absurd h
  cell-number c (Split from left right) at w literal h = absurd h
  cell-number c (Droc Front preload feed q n) at w literal h = absurd h
  cell-number c (Droc Back preload feed q n) at w literal h =
      let k = kind-below is_back c (Droc Back preload feed q n) at refl in
      elim (IsIn-append (w, literal) (literal_if_used q (plain (back_variable net c))) (literal_if_used n (inverse (back_variable net c))) h) [
        | inl i ↦ let s = used-number q (plain (back_variable net c)) literal w i in omega arith
        | inr i ↦ let s = used-number n (inverse (back_variable net c)) literal w i in omega arith
      ]
  cell-number c (Droc Const preload feed q n) at w literal h =
      elim (IsIn-append (w, literal) (literal_if_used q (constant preload)) (literal_if_used n (constant (not preload))) h) [
        | inl i ↦ let s = used-number q (constant preload) literal w i in omega arith
        | inr i ↦ let s = used-number n (constant (not preload)) literal w i in omega arith
      ]

  pub literal-number : (w : ℕ) → (wire_literal net w).id.number ≤ (most net)
  literal-number w = elim (first_of (on_wire _ (root_literals net)) (constant false)) [
    | inl i ↦
        let from = on_wire-from _ (wire_literal net w) (root_literals net) i in
        elim (IsIn-append (from.0, wire_literal net w) (map (λ (rail : Rail). (wire_of rail, rail_literal rail)) net.input_rails) (cell_places (literals_at net) 0 net.cells) from.1) [
          | inl r ↦
              let rail = IsIn-from_map (λ (rail : Rail). (wire_of rail, rail_literal rail)) _ net.input_rails r in
              let n = ap (λ (p : ℕ × Lit). p.1.id.number) rail.2 in
              let s = signed-number rail.0 in
              let lt = sound.input_ports rail.0 rail.1 in
              omega arith
          | inr r ↦
              let cell = cell_places-first (literals_at net) net.cells _ r in
              cell-number cell.0 cell.1 cell.2 from.0 (wire_literal net w) cell.3
        ]
    | inr e ↦ let n = ap (λ (l : Lit). l.id.number) e in omega arith
  ]

  -- what a machine uses are literals of wires
  cube-number : (c : ℕ) (cell : Cell) (part : AndPart) → and_of net (gate_variable net c) cell ≡ Some part → (part.left.id.number ≤ (most net)) × (part.right.id.number ≤ (most net))
  cube-number c (La a b out) part e = let one = literal-number a.number in let two = literal-number b.number in
      (subst (λ (p : AndPart). p.left.id.number ≤ (most net)) (same e) one, subst (λ (p : AndPart). p.right.id.number ≤ (most net)) (same e) two)
    where
      same : {x y : AndPart} → Some x ≡ Some y → x ≡ y
      same e = cc
  cube-number c (Fa a b out) part e = let one = literal-number a.number in let two = literal-number b.number in
      (subst (λ (p : AndPart). p.left.id.number ≤ (most net)) (same e) one, subst (λ (p : AndPart). p.right.id.number ≤ (most net)) (same e) two)
    where
      same : {x y : AndPart} → Some x ≡ Some y → x ≡ y
      same e = cc
  cube-number c (Split from left right) part e = absurd cc
  cube-number c (Droc role preload feed q n) part e = absurd cc

  pub and-numbers : (part : AndPart) → IsIn part (ands_of net) → (part.left.id.number ≤ (most net)) × (part.right.id.number ≤ (most net))
  and-numbers part i =
      let from = by_cell-first (λ c cell. listed (and_of net (gate_variable net c) cell)) net.cells part i in
      cube-number from.0 from.1 part (listed-is (and_of net (gate_variable net from.0) from.1) part from.3)

  latch-number : (c : ℕ) (cell : Cell) (part : LatchPart) → latch_of net (back_variable net c) cell ≡ Some part → part.next.id.number ≤ (most net)
  latch-number c (La a b out) part e = absurd cc
  latch-number c (Fa a b out) part e = absurd cc
  latch-number c (Split from left right) part e = absurd cc
  latch-number c (Droc Front preload feed q n) part e = absurd cc
  latch-number c (Droc Back preload feed q n) part e = subst (λ (p : LatchPart). p.next.id.number ≤ (most net)) (same e) (literal-number _)
    where
      same : {x y : LatchPart} → Some x ≡ Some y → x ≡ y
      same e = cc
  latch-number c (Droc Const preload feed q n) part e = absurd cc

  pub latch-numbers : (part : LatchPart) → IsIn part (latches_of net) → part.next.id.number ≤ (most net)
  latch-numbers part i =
      let from = by_cell-first (λ c cell. listed (latch_of net (back_variable net c) cell)) net.cells part i in
      latch-number from.0 from.1 part (listed-is (latch_of net (back_variable net from.0) from.1) part from.3)
