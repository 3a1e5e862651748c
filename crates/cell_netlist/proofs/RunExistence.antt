-- A sound netlist has a run by its equations on any vectors: the bits are found by steps from all 0.
use Rattle.std.proofs.Common.{◌≡◌, ℕ, zero, suc, max, ◌+◌, ◌≤◌, ◌<◌, inl, inr, Option, Some, None, List, [], ◌∷◌, ◌++◌, map, length, Bool, true, false, not, ◌&&◌, ◌||◌, ◌==◌, if◌then◌else◌}
use Rattle.std.proofs.Common.{refl, sym, ◌∙◌, ap, subst, arith, eq-eqb}
use Rattle.std.proofs.lemmas.Bool.{eqb-true, cases_lt}
use Rattle.std.specs.List.{flat_map}
use Rattle.pulse_ids.specs.Ids.{WireId}
use Rattle.cell_netlist.specs.declared.kinds.Role.TheVariants.{Front, Back, Const}
use Rattle.cell_netlist.specs.declared.lines.Rail.{Rail}
use Rattle.cell_netlist.specs.declared.lines.Cell.{Cell}
use Rattle.cell_netlist.specs.declared.lines.Cell.TheVariants.{La, Fa, Split, Droc}
use Rattle.pulse_ids.specs.Lists.{IsIn, occurrences, upto, bit_at}
use Rattle.cell_netlist.specs.Netlists.{PlainNetlist, wire_of, number_of_wires, outs, reads, used, IsDroc, Grounded, of_rail, of_droc, of_gate}
use Rattle.cell_netlist.specs.World.{has_sign}
use Rattle.cell_netlist.specs.RailEquations.{LatchState, CarriesIfUsed, CellEquation, IsRails, IsNetRunFrom, is_on, of_the, first_state, next_state}
use Rattle.cell_netlist.specs.Sound.{IsSound}
use Rattle.cell_netlist.specs.NetRuns.{RunExists}
use Rattle.std.specs.Prelude.{option_map}
use Rattle.std.proofs.lemmas.List.{length-map}
use Rattle.std.proofs.lemmas.Option.{slice_get-map, get_or_from_slice_get}
use Rattle.pulse_ids.proofs.CallerLemmas.{IsIn-left, IsIn-right, IsIn-map, IsIn-flat_map}
use Rattle.pulse_ids.proofs.CallerLemmasOnCounts.{one_if, test_same, occurrences-append, IsIn-occurrences, occurrences-IsIn, length-upto, slice_get-upto}
use Rattle.cell_netlist.proofs.CallerLemmasOnSums.{some, some-positive, occurrences-map}
use Rattle.cell_netlist.proofs.CallerLemmasOnDrivers.{driven-once, driven-below, read-low, at_cell-rails, same_driver, all-grounded, outs-once}
use Rattle.cell_netlist.proofs.CallerLemmasOnLinks.{of_the-is}

-- the bits of a function for the numbers below one
abbrev pub bits_below : (ℕ → Bool) → ℕ → List Bool
bits_below bit n = map bit (upto n)

pub length-bits_below : (bit : ℕ → Bool) (n : ℕ) → length (bits_below bit n) ≡ n
length-bits_below bit n = length-map (upto n) bit ∙ length-upto n

pub bits_below-is : (bit : ℕ → Bool) (n k : ℕ) → k < n → bit_at (bits_below bit n) k ≡ bit k
bits_below-is bit n k h =
    get_or_from_slice_get (map bit (upto n)) k (bit k) false (slice_get-map bit (upto n) k ∙ ap (option_map bit) (slice_get-upto n k h))

-- the bit of the first rail on a wire, and 0 where there is none
abbrev bit_on : List Bool → List Rail → ℕ → Bool
bit_on vector [] wire = false
bit_on vector (rail ∷ rails) wire = if wire == wire_of rail then has_sign (bit_at vector rail.port) rail.sign else bit_on vector rails wire

-- the rail on a wire that no other rail is on has the wire's bit
bit_on-is : (vector : List Bool) (rails : List Rail) (rail : Rail) → IsIn rail rails → occurrences (wire_of rail) (map wire_of rails) ≤ 1
    → bit_on vector rails (wire_of rail) ≡ has_sign (bit_at vector rail.port) rail.sign
bit_on-is vector [] rail i once = absurd i
bit_on-is vector (first ∷ rails) rail (inl e) once =
    subst (λ r. (if wire_of r == wire_of first then has_sign (bit_at vector first.port) first.sign else bit_on vector rails (wire_of r)) ≡ has_sign (bit_at vector r.port) r.sign) e
    (ap (λ t. if t then has_sign (bit_at vector first.port) first.sign else bit_on vector rails (wire_of first)) (eq-eqb (wire_of first) (wire_of first) refl))
bit_on-is vector (first ∷ rails) rail (inr i) once =
    let o = IsIn-occurrences (wire_of rail) (map wire_of rails) (IsIn-map wire_of rail rails i) in
    let r = bit_on-is vector rails rail i (omega arith) in go (wire_of rail == wire_of first) refl r o once
  where
    go : (test : Bool) → (wire_of rail == wire_of first) ≡ test → bit_on vector rails (wire_of rail) ≡ has_sign (bit_at vector rail.port) rail.sign
        → 1 ≤ occurrences (wire_of rail) (map wire_of rails) → one_if (wire_of rail == wire_of first) + occurrences (wire_of rail) (map wire_of rails) ≤ 1
        → (if test then has_sign (bit_at vector first.port) first.sign else bit_on vector rails (wire_of rail)) ≡ has_sign (bit_at vector rail.port) rail.sign
    go true t r o once = let one = ap one_if t in absurd (omega arith)
    go false t r o once = r

-- the bit that a cell's equation gives an output, by bits of its inputs
abbrev cell_bit : LatchState → (ℕ → Bool) → ℕ → Cell → Bool
cell_bit latches bit wire (La a b out) = bit a.number && bit b.number
cell_bit latches bit wire (Fa a b out) = bit a.number || bit b.number
cell_bit latches bit wire (Split from left right) = bit from.number
cell_bit latches bit wire (Droc Front preload feed q n) = false
cell_bit latches bit wire (Droc Back preload feed q n) = if is_on q wire then latches feed.number else not (latches feed.number)
cell_bit latches bit wire (Droc Const preload feed q n) = if is_on q wire then preload else not preload

-- the bit that the driver of a wire gives it
abbrev step : PlainNetlist → LatchState → List Bool → (ℕ → Bool) → ℕ → Bool
step net latches vector bit wire =
    if some (occurrences wire (map wire_of net.input_rails)) then bit_on vector net.input_rails wire
    else of_the (λ cell. some (occurrences wire (outs cell))) (cell_bit latches bit wire) net.cells

-- the bits after so many steps
abbrev after_steps : PlainNetlist → LatchState → List Bool → ℕ → ℕ → Bool
after_steps net latches vector zero wire = false
after_steps net latches vector (suc k) wire = step net latches vector (after_steps net latches vector k) wire

some-least : (n : ℕ) → some n ≡ true → 1 ≤ n
some-least zero e = absurd (cc)
some-least (suc n) e = omega arith

-- a bit that stays from some step on
record Stays (bits : ℕ → ℕ → Bool) (wire : ℕ) : Type 0 where
  step_of : ℕ
  bit : Bool
  stays : (k : ℕ) → step_of ≤ k → bits k wire ≡ bit

module _ (net : PlainNetlist) (sound : IsSound net) (latches : LatchState) (vector : List Bool) where
  step-rail : (bit : ℕ → Bool) (rail : Rail) → IsIn rail net.input_rails → step net latches vector bit (wire_of rail) ≡ has_sign (bit_at vector rail.port) rail.sign
  step-rail bit rail i =
      let o = IsIn-occurrences (wire_of rail) (map wire_of net.input_rails) (IsIn-map wire_of rail net.input_rails i) in
      let a = occurrences-append (wire_of rail) (map wire_of net.input_rails) (flat_map outs net.cells) in
      let d = driven-once net sound (wire_of rail) in
      ap (λ t. if t then bit_on vector net.input_rails (wire_of rail) else of_the (λ cell. some (occurrences (wire_of rail) (outs cell))) (cell_bit latches bit (wire_of rail)) net.cells)
      (some-positive (occurrences (wire_of rail) (map wire_of net.input_rails)) o)
      ∙ bit_on-is vector net.input_rails rail i (omega arith)

  step-cell : (bit : ℕ → Bool) (wire : ℕ) (cell : Cell) → IsIn cell net.cells → IsIn wire (outs cell) → step net latches vector bit wire ≡ cell_bit latches bit wire cell
  step-cell bit wire cell i j =
      let z : occurrences wire (map wire_of net.input_rails) ≡ 0 =
      occurrences-map wire_of wire net.input_rails ∙ at_cell-rails net sound wire cell (λ rail. occurrences wire (wire_of rail ∷ [])) i j (λ rail. omega arith) in
      ap (λ n. if some n then bit_on vector net.input_rails wire else of_the (λ cell. some (occurrences wire (outs cell))) (cell_bit latches bit wire) net.cells) z
      ∙ of_the-is (λ cell. some (occurrences wire (outs cell))) (cell_bit latches bit wire) cell net.cells i
      (some-positive (occurrences wire (outs cell)) (IsIn-occurrences wire (outs cell) j)) (λ other k t.
      same_driver net sound wire other cell k i (occurrences-IsIn wire (outs other) (some-least (occurrences wire (outs other)) t)) j)

  -- where the inputs of a cell stay, its outputs do
  abbrev steps : ℕ → ℕ → Bool
  steps = after_steps net latches vector

  cell-stays : (wire : ℕ) (cell : Cell) → IsIn cell net.cells → IsIn wire (outs cell) → ((port : ℕ) → IsIn port (reads cell) → Stays steps port)
      → (k : ℕ) × (value : Bool) × ((j : ℕ) → k ≤ j → cell_bit latches (steps j) wire cell ≡ value)
  cell-stays wire (La a b out) i j ports =
      let p = ports a.number (inl refl) in
      let q = ports b.number (inr (inl refl)) in (
        max p.step_of q.step_of,
        p.bit && q.bit,
        λ k le.
            let x = p.stays k (omega arith) in let y = q.stays k (omega arith) in cc,
      )
  cell-stays wire (Fa a b out) i j ports =
      let p = ports a.number (inl refl) in
      let q = ports b.number (inr (inl refl)) in (
        max p.step_of q.step_of,
        p.bit || q.bit,
        λ k le.
            let x = p.stays k (omega arith) in let y = q.stays k (omega arith) in cc,
      )
  cell-stays wire (Split from left right) i j ports =
      let p = ports from.number (inl refl) in (p.step_of, p.bit, p.stays)
  cell-stays wire (Droc Front preload feed q n) i j ports = (0, false, λ k le. refl)
  cell-stays wire (Droc Back preload feed q n) i j ports = (0, if is_on q wire then latches feed.number else not (latches feed.number), λ k le. refl)
  cell-stays wire (Droc Const preload feed q n) i j ports = (0, if is_on q wire then preload else not preload, λ k le. refl)

  droc-stays : (wire : ℕ) (cell : Cell) → IsDroc cell → (one other : ℕ → Bool) → cell_bit latches one wire cell ≡ cell_bit latches other wire cell
  droc-stays wire (La a b out) d one other = absurd d
  droc-stays wire (Fa a b out) d one other = absurd d
  droc-stays wire (Split from left right) d one other = absurd d
  droc-stays wire (Droc Front preload feed q n) d one other = refl
  droc-stays wire (Droc Back preload feed q n) d one other = refl
  droc-stays wire (Droc Const preload feed q n) d one other = refl

  later : (wire k : ℕ) (value : Bool) → ((j : ℕ) → k ≤ j → step net latches vector (steps j) wire ≡ value) → (j : ℕ) → suc k ≤ j → steps j wire ≡ value
  later wire k value h zero le = absurd (omega arith)
  later wire k value h (suc j) le = h j (omega arith)

  -- every grounded wire's bit stays
  grounded-stays : (wire : ℕ) → Grounded net wire → Stays steps wire
  grounded-stays _ (of_rail wire rail i e) = record {
    step_of = 1;
    bit = has_sign (bit_at vector rail.port) rail.sign;
    stays = later wire 0 (has_sign (bit_at vector rail.port) rail.sign) (λ j le.
        subst (λ w. step net latches vector (steps j) w ≡ has_sign (bit_at vector rail.port) rail.sign) e (step-rail (steps j) rail i));
  }
  grounded-stays _ (of_droc wire cell i d j) = record {
    step_of = 1;
    bit = cell_bit latches (steps 0) wire cell;
    stays = later wire 0 (cell_bit latches (steps 0) wire cell) (λ k le.
        step-cell (steps k) wire cell i j ∙ droc-stays wire cell d (steps k) (steps 0));
  }
  grounded-stays _ (of_gate wire cell i d j ports) =
      let s = cell-stays wire cell i j (λ port k. grounded-stays port (ports port k)) in
      record {
        step_of = suc s.0;
        bit = s.1;
        stays = later wire s.0 s.1 (λ k le. step-cell (steps k) wire cell i j ∙ s.2 k le);
      }

  -- after enough steps all bits stay
  enough : (n : ℕ) → ((wire : ℕ) → wire < n → Stays steps wire) → (k : ℕ) × ((wire : ℕ) → wire < n → (s : Stays steps wire) × (s.step_of ≤ k))
  enough zero each = (0, λ wire lt. absurd (omega arith))
  enough (suc n) each =
      let r = enough n (λ wire lt. each wire (omega arith)) in
      let s = each n (omega arith) in (
        max r.0 s.step_of,
        λ wire lt. elim (cases_lt wire n) [
          | inl low ↦ let t = r.1 wire low in let le = t.1 in (t.0, omega arith)
          | inr le ↦
              let e : n ≡ wire = omega arith in
              subst (λ w. (t : Stays steps w) × (t.step_of ≤ max r.0 s.step_of)) e (s, omega arith)
        ],
      )

  all-stay : (n : ℕ) → ((wire : ℕ) → wire < n → Stays steps wire) → (k : ℕ) × ((wire : ℕ) → wire < n → steps (suc k) wire ≡ steps k wire)
  all-stay n each =
      let e = enough n each in
      (e.0, λ wire lt. let s = e.1 wire lt in let le = s.1 in s.0.stays (suc e.0) (omega arith) ∙ sym (s.0.stays e.0 (omega arith)))

  last : ℕ
  last = (all-stay (number_of_wires net) (λ wire low. grounded-stays wire (all-grounded net sound wire low))).0

  last-stays : (wire : ℕ) → wire < number_of_wires net → step net latches vector (steps last) wire ≡ steps last wire
  unfolding last
  last-stays = (all-stay (number_of_wires net) (λ wire low. grounded-stays wire (all-grounded net sound wire low))).1

  -- the bits of the last step
  pub last_bits : List Bool
  last_bits = bits_below (steps last) (number_of_wires net)

  last_bits-is : (wire : ℕ) → wire < number_of_wires net → bit_at last_bits wire ≡ steps last wire
  unfolding last_bits
  last_bits-is wire low = bits_below-is (steps last) (number_of_wires net) wire low

  rail-low : (rail : Rail) → IsIn rail net.input_rails → wire_of rail < number_of_wires net
  rail-low rail i =
      driven-below net (wire_of rail) (IsIn-left (wire_of rail) (map wire_of net.input_rails) (flat_map outs net.cells) (IsIn-map wire_of rail net.input_rails i))

  out-low : (wire : ℕ) (cell : Cell) → IsIn cell net.cells → IsIn wire (outs cell) → wire < number_of_wires net
  out-low wire cell i j =
      driven-below net wire (IsIn-right wire (map wire_of net.input_rails) (flat_map outs net.cells) (IsIn-flat_map outs wire cell net.cells i j))

  in-low : (wire : ℕ) (cell : Cell) → IsIn cell net.cells → IsIn wire (reads cell) → wire < number_of_wires net
  in-low wire cell i j =
      read-low net wire (IsIn-left wire (flat_map reads net.cells) (map wire_of net.output_rails) (IsIn-flat_map reads wire cell net.cells i j))

  -- the bits of an output and of an input of a cell
  out-bit : (wire : ℕ) (cell : Cell) → IsIn cell net.cells → IsIn wire (outs cell) → bit_at last_bits wire ≡ cell_bit latches (steps last) wire cell
  out-bit wire cell i j =
      let low = out-low wire cell i j in
      last_bits-is wire low ∙ (sym (last-stays wire low) ∙ step-cell (steps last) wire cell i j)

  in-bit : (wire : ℕ) (cell : Cell) → IsIn cell net.cells → IsIn wire (reads cell) → bit_at last_bits wire ≡ steps last wire
  in-bit wire cell i j = last_bits-is wire (in-low wire cell i j)

  carries-q : (bit : ℕ → Bool) (value : Bool) (q : Option WireId) → ((wire : ℕ) → IsIn wire (used q) → bit wire ≡ (if is_on q wire then value else not value))
      → CarriesIfUsed bit q value
  carries-q bit value None h = tt
  carries-q bit value (Some w) h =
      h w.number (inl refl) ∙ ap (λ t. if t then value else not value) (eq-eqb w.number w.number refl)

  carries-n : (bit : ℕ → Bool) (value : Bool) (q n : Option WireId) → ((wire : ℕ) → occurrences wire (used q ++ used n) ≤ 1)
      → ((wire : ℕ) → IsIn wire (used n) → bit wire ≡ (if is_on q wire then value else not value)) → CarriesIfUsed bit n (not value)
  carries-n bit value q None once h = tt
  carries-n bit value None (Some w) once h = h w.number (inl refl)
  carries-n bit value (Some u) (Some w) once h =
      h w.number (inl refl) ∙ ap (λ t. if t then value else not value) (off (w.number == u.number) refl)
    where
      off : (test : Bool) → (w.number == u.number) ≡ test → (w.number == u.number) ≡ false
      off true e =
          let o = once w.number in
          let x = test_same w.number u.number (eqb-true w.number u.number e) in
          let y = test_same w.number w.number refl in absurd (omega arith)
      off false e = e

  equations : (cell : Cell) → IsIn cell net.cells → CellEquation latches (bit_at last_bits) cell
  equations (La a b out) i =
      let x = in-bit a.number (La a b out) i (inl refl) in
      let y = in-bit b.number (La a b out) i (inr (inl refl)) in
      let z = out-bit out.number (La a b out) i (inl refl) in cc
  equations (Fa a b out) i =
      let x = in-bit a.number (Fa a b out) i (inl refl) in
      let y = in-bit b.number (Fa a b out) i (inr (inl refl)) in
      let z = out-bit out.number (Fa a b out) i (inl refl) in cc
  equations (Split from left right) i =
      let x = in-bit from.number (Split from left right) i (inl refl) in
      (out-bit left.number (Split from left right) i (inl refl) ∙ sym x, out-bit right.number (Split from left right) i (inr (inl refl)) ∙ sym x)
  equations (Droc Front preload feed q n) i = tt
  equations (Droc Back preload feed q n) i = (
    carries-q (bit_at last_bits) (latches feed.number) q (λ wire j. out-bit wire (Droc Back preload feed q n) i (IsIn-left wire (used q) (used n) j)),
    carries-n (bit_at last_bits) (latches feed.number) q n (λ wire. outs-once net sound wire (Droc Back preload feed q n) i)
        (λ wire j. out-bit wire (Droc Back preload feed q n) i (IsIn-right wire (used q) (used n) j)),
  )
  equations (Droc Const preload feed q n) i = (
    carries-q (bit_at last_bits) preload q (λ wire j. out-bit wire (Droc Const preload feed q n) i (IsIn-left wire (used q) (used n) j)),
    carries-n (bit_at last_bits) preload q n (λ wire. outs-once net sound wire (Droc Const preload feed q n) i)
        (λ wire j. out-bit wire (Droc Const preload feed q n) i (IsIn-right wire (used q) (used n) j)),
  )

  last-rails : IsRails net latches vector last_bits
  unfolding last_bits
  last-rails = record {
    length_is = length-bits_below (steps last) (number_of_wires net);
    rails = λ rail i. last_bits-is (wire_of rail) (rail-low rail i) ∙ (sym (last-stays (wire_of rail) (rail-low rail i)) ∙ step-rail (steps last) rail i);
    cells = equations;
  }

run-from : (net : PlainNetlist) (sound : IsSound net) (latches : LatchState) (vectors : List (List Bool)) → (run : List (List Bool)) × IsNetRunFrom net latches vectors run
run-from net sound latches [] = ([], tt)
run-from net sound latches (vector ∷ vectors) =
    let bits = last_bits net sound latches vector in
    let rest = run-from net sound (next_state net bits) vectors in
    (bits ∷ rest.0, (last-rails net sound latches vector, rest.1))

pub run_exists : RunExists
run_exists net sound vectors = run-from net sound (first_state net) vectors
