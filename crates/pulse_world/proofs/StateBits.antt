-- What cells keep, by two bits a cell.
use Rattle.std.proofs.Common.{◌≡◌, ◌∙◌, ◌+◌, ◌*◌, ◌<◌, ◌^◌, ℕ, zero, suc, Bool, true, false, Some, List, [], ◌∷◌, map, length, replicate, slice_get, slice_set, get_or, ap, sym, subst, refl, inl, inr, arith}
use Rattle.std.proofs.lemmas.Bool.{cases_eq}
use Rattle.std.proofs.lemmas.Option.{slice_get_within, slice_get-get_or}
use Rattle.cell_netlist.specs.declared.kinds.Port.TheVariants.{A, B}
use Rattle.cell_netlist.specs.declared.kinds.CellState.{CellState}
use Rattle.cell_netlist.specs.declared.lines.Cell.{Cell}
use Rattle.cell_netlist.specs.declared.lines.Cell.TheVariants.{La, Fa, Split, Droc}
use Rattle.cell_netlist.specs.World.{cleared}
use Rattle.cell_netlist.proofs.CallerLemmasOnLists.{set-length, set-same, set-other}
use Rattle.pulse_world.specs.PackedStates.{IsStateOf, state_by, bit_place, states_by, packed_states, ArePacked, AreStatesOf, nothing_kept, is_droc}

-- a state set where it stands
pub set-here : (xs : List CellState) (i : ℕ) (x : CellState) → slice_get xs i ≡ Some x → slice_set xs i x ≡ xs
set-here [] zero x e = refl
set-here [] (suc i) x e = refl
set-here (y ∷ xs) zero x e = let same : x ≡ y = cc in ap (λ z. z ∷ xs) same
set-here (y ∷ xs) (suc i) x e = ap (λ ys. y ∷ ys) (set-here xs i x e)

-- the place of a cell's first bit, as a list counts it
abbrev twice : ℕ → ℕ
twice zero = zero
twice (suc n) = suc (suc (twice n))

twice-is : (n : ℕ) → twice n ≡ 2 * n
twice-is zero = refl
twice-is (suc n) = let less = twice-is n in omega arith

behind-is : (n : ℕ) → suc (twice n) ≡ 2 * n + 1
behind-is n = let same = twice-is n in omega arith

-- one state a cell
pub states-length : (cells : List Cell) (bits : List Bool) → length bits ≡ 2 * length cells → length (states_by cells bits) ≡ length cells
states-length [] bits e = refl
states-length (cell ∷ cells) [] e = absurd (omega arith)
states-length (cell ∷ cells) (first ∷ []) e = absurd (omega arith)
states-length (cell ∷ cells) (first ∷ second ∷ bits) e = ap (λ n. suc n) (states-length cells bits (omega arith))

-- the state at a place is that of the cell and its two bits
state-at : (cells : List Cell) (bits : List Bool) (i : ℕ) (cell : Cell) (first second : Bool) → slice_get cells i ≡ Some cell
    → slice_get bits (twice i) ≡ Some first → slice_get bits (suc (twice i)) ≡ Some second → slice_get (states_by cells bits) i ≡ Some (state_by cell first second)
state-at [] bits zero cell first second c f s = absurd cc
state-at [] bits (suc i) cell first second c f s = absurd cc
state-at (x ∷ cells) [] zero cell first second c f s = absurd cc
state-at (x ∷ cells) [] (suc i) cell first second c f s = absurd cc
state-at (x ∷ cells) (y ∷ []) zero cell first second c f s = absurd cc
state-at (x ∷ cells) (y ∷ []) (suc i) cell first second c f s = absurd cc
state-at (x ∷ cells) (y ∷ z ∷ bits) zero cell first second c f s =
    let same : x ≡ cell = cc in let one : y ≡ first = cc in let two : z ≡ second = cc in rw (same, one, two) refl
state-at (x ∷ cells) (y ∷ z ∷ bits) (suc i) cell first second c f s = state-at cells bits i cell first second c f s

pub state-read : (cells : List Cell) (bits : List Bool) (i : ℕ) (cell : Cell) (first second : Bool) → slice_get cells i ≡ Some cell
    → slice_get bits (bit_place i A) ≡ Some first → slice_get bits (bit_place i B) ≡ Some second → slice_get (states_by cells bits) i ≡ Some (state_by cell first second)
state-read cells bits i cell first second at f s =
    state-at cells bits i cell first second at (subst (λ k. slice_get bits k ≡ Some first) (sym (twice-is i)) f) (subst (λ k. slice_get bits k ≡ Some second) (sym (behind-is i)) s)

-- another first bit
first-set : (cells : List Cell) (bits : List Bool) (i : ℕ) (cell : Cell) (bit second : Bool) → slice_get cells i ≡ Some cell
    → slice_get bits (suc (twice i)) ≡ Some second
    → states_by cells (slice_set bits (twice i) bit) ≡ slice_set (states_by cells bits) i (state_by cell bit second)
first-set [] bits zero cell bit second c s = absurd cc
first-set [] bits (suc i) cell bit second c s = absurd cc
first-set (x ∷ cells) [] zero cell bit second c s = absurd cc
first-set (x ∷ cells) [] (suc i) cell bit second c s = absurd cc
first-set (x ∷ cells) (y ∷ []) zero cell bit second c s = absurd cc
first-set (x ∷ cells) (y ∷ []) (suc i) cell bit second c s = absurd cc
first-set (x ∷ cells) (y ∷ z ∷ bits) zero cell bit second c s =
    let same : x ≡ cell = cc in let two : z ≡ second = cc in rw (same, two) refl
first-set (x ∷ cells) (y ∷ z ∷ bits) (suc i) cell bit second c s = ap (λ ss. state_by x y z ∷ ss) (first-set cells bits i cell bit second c s)

-- another second bit
second-set : (cells : List Cell) (bits : List Bool) (i : ℕ) (cell : Cell) (first bit : Bool) → slice_get cells i ≡ Some cell
    → slice_get bits (twice i) ≡ Some first → slice_get bits (suc (twice i)) ≡ Some (get_or bits (suc (twice i)) false)
    → states_by cells (slice_set bits (suc (twice i)) bit) ≡ slice_set (states_by cells bits) i (state_by cell first bit)
second-set [] bits zero cell first bit c f s = absurd cc
second-set [] bits (suc i) cell first bit c f s = absurd cc
second-set (x ∷ cells) [] zero cell first bit c f s = absurd cc
second-set (x ∷ cells) [] (suc i) cell first bit c f s = absurd cc
second-set (x ∷ cells) (y ∷ []) zero cell first bit c f s = absurd cc
second-set (x ∷ cells) (y ∷ []) (suc i) cell first bit c f s = absurd cc
second-set (x ∷ cells) (y ∷ z ∷ bits) zero cell first bit c f s =
    let same : x ≡ cell = cc in let one : y ≡ first = cc in rw (same, one) refl
second-set (x ∷ cells) (y ∷ z ∷ bits) (suc i) cell first bit c f s = ap (λ ss. state_by x y z ∷ ss) (second-set cells bits i cell first bit c f s)

module _ (cells : List Cell) (bits : List Bool) (packed : ArePacked cells bits) (i : ℕ) (cell : Cell) (at : slice_get cells i ≡ Some cell) where
  abbrev first_bit : Bool
  first_bit = get_or bits (bit_place i A) false

  abbrev second_bit : Bool
  second_bit = get_or bits (bit_place i B) false

  pub first-there : slice_get bits (bit_place i A) ≡ Some first_bit
  first-there = let inside = slice_get_within cells i cell at in let long = packed.two_each in slice_get-get_or bits (bit_place i A) false (omega arith)

  pub second-there : slice_get bits (bit_place i B) ≡ Some second_bit
  second-there = let inside = slice_get_within cells i cell at in let long = packed.two_each in slice_get-get_or bits (bit_place i B) false (omega arith)

  pub state-there : slice_get (states_by cells bits) i ≡ Some (state_by cell first_bit second_bit)
  state-there = state-read cells bits i cell first_bit second_bit at first-there second-there

  pub first-put : (bit : Bool) → states_by cells (slice_set bits (bit_place i A) bit) ≡ slice_set (states_by cells bits) i (state_by cell bit second_bit)
  first-put bit = subst (λ k. states_by cells (slice_set bits k bit) ≡ slice_set (states_by cells bits) i (state_by cell bit second_bit)) (twice-is i)
      (first-set cells bits i cell bit second_bit at (subst (λ k. slice_get bits k ≡ Some second_bit) (sym (behind-is i)) second-there))

  pub second-put : (bit : Bool) → states_by cells (slice_set bits (bit_place i B) bit) ≡ slice_set (states_by cells bits) i (state_by cell first_bit bit)
  second-put bit = subst (λ k. states_by cells (slice_set bits k bit) ≡ slice_set (states_by cells bits) i (state_by cell first_bit bit)) (behind-is i)
      (second-set cells bits i cell first_bit bit at (subst (λ k. slice_get bits k ≡ Some first_bit) (sym (twice-is i)) first-there)
      (subst (λ k. slice_get bits k ≡ Some (get_or bits k false)) (sym (behind-is i)) second-there))

  -- a bit is put where not both are 1 then
  pub packed-first : (bit : Bool) → (is_droc cell ≡ false → bit ≡ true → second_bit ≡ true → ⊥) → ArePacked cells (slice_set bits (bit_place i A) bit)
  packed-first bit ok = record {
    two_each = set-length bits (bit_place i A) bit ∙ packed.two_each;
    few = packed.few;
    apart = λ c other there plain a b. elim (cases_eq c i) [
      | inl same ↦
          let its : slice_get cells i ≡ Some other = subst (λ k. slice_get cells k ≡ Some other) same there in
          let is : other ≡ cell = let e = at in cc in
          let a_here : slice_get (slice_set bits (bit_place i A) bit) (bit_place i A) ≡ Some true =
          subst (λ k. slice_get (slice_set bits (bit_place i A) bit) (bit_place k A) ≡ Some true) same a in
          let b_here : slice_get (slice_set bits (bit_place i A) bit) (bit_place i B) ≡ Some true =
          subst (λ k. slice_get (slice_set bits (bit_place i A) bit) (bit_place k B) ≡ Some true) same b in
          let one = set-same bits (bit_place i A) bit (slice_get_within bits (bit_place i A) first_bit first-there) in
          let two = set-other bits (bit_place i A) (bit_place i B) bit (λ e. absurd (omega arith)) in
          let two_there = second-there in
          let bit_is : bit ≡ true = cc in
          let other_is : second_bit ≡ true = cc in
          ok (subst (λ k. is_droc k ≡ false) is plain) bit_is other_is
      | inr ne ↦
          let one = set-other bits (bit_place i A) (bit_place c A) bit (λ e. ne (omega arith)) in
          let two = set-other bits (bit_place i A) (bit_place c B) bit (λ e. absurd (omega arith)) in
          packed.apart c other there plain (sym one ∙ a) (sym two ∙ b)
    ];
  }

  pub packed-second : (bit : Bool) → (is_droc cell ≡ false → first_bit ≡ true → bit ≡ true → ⊥) → ArePacked cells (slice_set bits (bit_place i B) bit)
  packed-second bit ok = record {
    two_each = set-length bits (bit_place i B) bit ∙ packed.two_each;
    few = packed.few;
    apart = λ c other there plain a b. elim (cases_eq c i) [
      | inl same ↦
          let its : slice_get cells i ≡ Some other = subst (λ k. slice_get cells k ≡ Some other) same there in
          let is : other ≡ cell = let e = at in cc in
          let a_here : slice_get (slice_set bits (bit_place i B) bit) (bit_place i A) ≡ Some true =
          subst (λ k. slice_get (slice_set bits (bit_place i B) bit) (bit_place k A) ≡ Some true) same a in
          let b_here : slice_get (slice_set bits (bit_place i B) bit) (bit_place i B) ≡ Some true =
          subst (λ k. slice_get (slice_set bits (bit_place i B) bit) (bit_place k B) ≡ Some true) same b in
          let one = set-other bits (bit_place i B) (bit_place i A) bit (λ e. absurd (omega arith)) in
          let two = set-same bits (bit_place i B) bit (slice_get_within bits (bit_place i B) second_bit second-there) in
          let one_there = first-there in
          let other_is : first_bit ≡ true = cc in
          let bit_is : bit ≡ true = cc in
          ok (subst (λ k. is_droc k ≡ false) is plain) other_is bit_is
      | inr ne ↦
          let one = set-other bits (bit_place i B) (bit_place c A) bit (λ e. absurd (omega arith)) in
          let two = set-other bits (bit_place i B) (bit_place c B) bit (λ e. ne (omega arith)) in
          packed.apart c other there plain (sym one ∙ a) (sym two ∙ b)
    ];
  }

-- the state that bits say is one that the cell can keep
by-fits : (cell : Cell) (first second : Bool) → IsStateOf cell (state_by cell first second)
by-fits (La a b out) first second = refl
by-fits (Fa a b out) first second = refl
by-fits (Split from left right) first second = (refl, refl)
by-fits (Droc role preload feed q n) first second = refl

pub states-fit : (cells : List Cell) (bits : List Bool) → ArePacked cells bits → AreStatesOf (packed_states cells bits)
states-fit cells bits packed = record {
  one_each = states-length cells bits packed.two_each;
  fits = λ c cell state at there.
      let is = state-there cells bits packed c cell at in
      let same : state_by cell (get_or bits (bit_place c A) false) (get_or bits (bit_place c B) false) ≡ state = cc in
      subst (IsStateOf cell) same (by-fits cell (get_or bits (bit_place c A) false) (get_or bits (bit_place c B) false));
}

-- where all bits are 0, no cell keeps anything
zeros-keep : (cell : Cell) → state_by cell false false ≡ nothing_kept cell
zeros-keep (La a b out) = refl
zeros-keep (Fa a b out) = refl
zeros-keep (Split from left right) = refl
zeros-keep (Droc role preload feed q n) = refl

none-kept : (cells : List Cell) → states_by cells (replicate (twice (length cells)) false) ≡ map nothing_kept cells
none-kept [] = refl
none-kept (cell ∷ cells) = rw (zeros-keep cell, none-kept cells) refl

pub states-empty : (cells : List Cell) (n : ℕ) → n ≡ 2 * length cells → states_by cells (replicate n false) ≡ map nothing_kept cells
states-empty cells n e = subst (λ k. states_by cells (replicate k false) ≡ map nothing_kept cells) (twice-is (length cells) ∙ sym e) (none-kept cells)

zeros-long : (n : ℕ) → length (replicate n false) ≡ n
zeros-long zero = refl
zeros-long (suc n) = ap (λ k. suc k) (zeros-long n)

zeros-get : (n i : ℕ) → slice_get (replicate n false) i ≡ Some true → ⊥
zeros-get zero zero e = absurd cc
zeros-get zero (suc i) e = absurd cc
zeros-get (suc n) zero e = absurd cc
zeros-get (suc n) (suc i) e = zeros-get n i e

pub packed-empty : (cells : List Cell) (n : ℕ) → n ≡ 2 * length cells → length cells < 2 ^ 31 → ArePacked cells (replicate n false)
packed-empty cells n e few = record { two_each = zeros-long n ∙ e; few = few; apart = λ c cell at plain a b. zeros-get n (bit_place c A) a }

-- a state whose bit is 0 stays as it is where it is cleared
pub clear-stays : (xs : List CellState) (i : ℕ) (x : CellState) → slice_get xs i ≡ Some x → x.bit ≡ false → slice_set xs i (cleared x) ≡ xs
clear-stays xs i x e clear =
    let same : cleared x ≡ x = ap (λ bit. record x { bit = bit }) (sym clear) in ap (slice_set xs i) same ∙ set-here xs i x e
