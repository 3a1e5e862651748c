-- The variables of latches and conjunctions rise by one.
use Rattle.std.proofs.Common.{◌≡◌, ◌⊎◌, ◌+◌, ℕ, suc, Bool, true, false, if◌then◌else◌, ◌==◌, Option, Some, None, List, [], ◌∷◌, ◌++◌, map, length, length-append, take, slice_get, refl, sym, ◌∙◌}
use Rattle.std.proofs.Common.{ap, subst, inl, inr, arith}
use Rattle.std.specs.Prelude.{get_or}
use Rattle.std.proofs.lemmas.Bool.{cases_Bool}
use Rattle.std.proofs.lemmas.List.{append_assoc, map-append}
use Rattle.pulse_ids.specs.Ids.{Lit}
use Rattle.pulse_ids.specs.Lists.{IsIn}
use Rattle.pulse_ids.proofs.CallerLemmas.{IsIn-append}
use Rattle.source_machine.specs.Machines.{PlainLatch, PlainEquation}
use Rattle.source_machine.specs.Runs.{driven_nets}
use Rattle.cell_netlist.specs.declared.kinds.Role.TheVariants.{Front, Back, Const}
use Rattle.cell_netlist.specs.declared.lines.Cell.{Cell}
use Rattle.cell_netlist.specs.declared.lines.Cell.TheVariants.{La, Fa, Split, Droc}
use Rattle.cell_netlist.specs.LeanDecisions.{how_many}
use Rattle.cell_netlist.specs.Netlists.{PlainNetlist}
use Rattle.cell_netlist.specs.Places.{At, on_wire, cell_places}
use Rattle.netlist_extract.specs.declared.outlines.LatchPart.{LatchPart}
use Rattle.netlist_extract.specs.declared.outlines.AndPart.{AndPart}
use Rattle.netlist_extract.specs.Outlines.{is_back, is_gate, back_variable, gate_variable, listed, by_cell, latch_of, latches_of, and_of, ands_of}
use Rattle.netlist_extract.proofs.CallerLemmas.{one_if}
use Rattle.extracted_machines.specs.Machines.{numbers_from, latch_machine, and_machine, extracted}
use Rattle.extracted_machines.proofs.RisingNumbers.{numbers-append}

take-front : {X : Type 0} (xs ys : List X) → take (length xs) (xs ++ ys) ≡ xs
take-front [] ys = refl
take-front (x ∷ xs) ys = ap (λ l. x ∷ l) (take-front xs ys)

how_many-last : (test : Cell → Bool) (xs : List Cell) (x : Cell) → how_many test (xs ++ x ∷ []) ≡ how_many test xs + (if test x then 1 else 0)
how_many-last test [] x = omega arith
how_many-last test (y ∷ xs) x = let r = how_many-last test xs x in omega arith

-- the variables of the parts of one kind rise by one
module _ {X : Type 0} (kind : Cell → Bool) (part : ℕ → Cell → Option X) (out : X → ℕ) (number : ℕ → ℕ) (base : ℕ)
    (some : (c : ℕ) (cell : Cell) → kind cell ≡ true → map out (listed (part c cell)) ≡ number c ∷ [])
    (none : (c : ℕ) (cell : Cell) → kind cell ≡ false → map out (listed (part c cell)) ≡ []) where
  numbers-are : (pre cells : List Cell) → ((c : ℕ) → number c ≡ base + how_many kind (take c (pre ++ cells)))
      → map out (by_cell (λ c cell. listed (part c cell)) (length pre) cells) ≡ numbers_from (base + how_many kind pre) (how_many kind cells)
  numbers-are pre [] is = refl
  numbers-are pre (cell ∷ cells) is =
      let longer : length (pre ++ cell ∷ []) ≡ length pre + 1 = length-append pre (cell ∷ []) in
      let assoc : (pre ++ cell ∷ []) ++ cells ≡ pre ++ cell ∷ cells = append_assoc pre (cell ∷ []) cells in
      let rest = numbers-are (pre ++ cell ∷ []) cells (λ c. is c ∙ ap (λ l. base + how_many kind (take c l)) (sym assoc)) in
      let rest_at : map out (by_cell (λ c cell. listed (part c cell)) (length pre + 1) cells) ≡ numbers_from (base + how_many kind (pre ++ cell ∷ [])) (how_many kind cells) =
      ap (λ n. map out (by_cell (λ c cell. listed (part c cell)) n cells)) (sym longer) ∙ rest in
      let split = map-append out (listed (part (length pre) cell)) (by_cell (λ c cell. listed (part c cell)) (length pre + 1) cells) in
      let more = how_many-last kind pre cell in
      let here : number (length pre) ≡ base + how_many kind pre = is (length pre) ∙ ap (λ l. base + how_many kind l) (take-front pre (cell ∷ cells)) in
      split ∙ ap (λ l. map out (listed (part (length pre) cell)) ++ l) rest_at ∙ elim (cases_Bool (kind cell)) [
        | inl hit ↦
            let one : how_many kind (pre ++ cell ∷ []) ≡ how_many kind pre + 1 = rw hit at more in
            let test : one_if (kind cell) ≡ 1 = ap one_if hit in
            let more_cells : suc (how_many kind cells) ≡ how_many kind (cell ∷ cells) = omega (arith, test) in
            let next : base + how_many kind (pre ++ cell ∷ []) ≡ (base + how_many kind pre) + 1 = omega (arith, one) in
            ap (λ l. l ++ numbers_from (base + how_many kind (pre ++ cell ∷ [])) (how_many kind cells)) (some (length pre) cell hit)
            ∙ ap (λ n. n ∷ numbers_from (base + how_many kind (pre ++ cell ∷ [])) (how_many kind cells)) here
            ∙ ap (λ n. (base + how_many kind pre) ∷ numbers_from n (how_many kind cells)) next
            ∙ ap (numbers_from (base + how_many kind pre)) more_cells
        | inr miss ↦
            let test : one_if (kind cell) ≡ 0 = ap one_if miss in
            let same_cells : how_many kind cells ≡ how_many kind (cell ∷ cells) = omega (arith, test) in
            let same : how_many kind (pre ++ cell ∷ []) ≡ how_many kind pre = (rw miss at more) ∙ omega arith in
            ap (λ l. l ++ numbers_from (base + how_many kind (pre ++ cell ∷ [])) (how_many kind cells)) (none (length pre) cell miss)
            ∙ ap (λ n. numbers_from (base + n) (how_many kind cells)) same ∙ ap (numbers_from (base + how_many kind pre)) same_cells
      ]

-- what a cell gives comes from a cell of a number
pub by_cell-from : {X : Type 0} (items : ℕ → Cell → List X) (c : ℕ) (cells : List Cell) (x : X) → IsIn x (by_cell items c cells)
    → (i : ℕ) × (cell : Cell) × (slice_get cells i ≡ Some cell) × IsIn x (items (c + i) cell)
by_cell-from items c [] x h = absurd h
by_cell-from items c (cell ∷ cells) x h = elim (IsIn-append x (items c cell) (by_cell items (c + 1) cells) h) [
  | inl i ↦ (0, cell, refl, subst (λ n. IsIn x (items n cell)) (omega arith) i)
  | inr i ↦ let r = by_cell-from items (c + 1) cells x i in (suc r.0, r.1, r.2, subst (λ n. IsIn x (items n r.1)) (omega arith) r.3)
]

cell_places-from : (items : ℕ → Cell → List (At Lit)) (c : ℕ) (cells : List Cell) (x : At Lit) → IsIn x (cell_places items c cells)
    → (i : ℕ) × (cell : Cell) × (slice_get cells i ≡ Some cell) × IsIn x (items (c + i) cell)
cell_places-from items c [] x h = absurd h
cell_places-from items c (cell ∷ cells) x h = elim (IsIn-append x (items c cell) (cell_places items (c + 1) cells) h) [
  | inl i ↦ (0, cell, refl, subst (λ n. IsIn x (items n cell)) (omega arith) i)
  | inr i ↦ let r = cell_places-from items (c + 1) cells x i in (suc r.0, r.1, r.2, subst (λ n. IsIn x (items n r.1)) (omega arith) r.3)
]

-- the same of all cells
pub by_cell-first : {X : Type 0} (items : ℕ → Cell → List X) (cells : List Cell) (x : X) → IsIn x (by_cell items 0 cells)
    → (i : ℕ) × (cell : Cell) × (slice_get cells i ≡ Some cell) × IsIn x (items i cell)
by_cell-first items cells x h =
    let r = by_cell-from items 0 cells x h in
    let e : 0 + r.0 ≡ r.0 = omega arith in
    (r.0, r.1, r.2, subst (λ n. IsIn x (items n r.1)) e r.3)

pub cell_places-first : (items : ℕ → Cell → List (At Lit)) (cells : List Cell) (x : At Lit) → IsIn x (cell_places items 0 cells)
    → (i : ℕ) × (cell : Cell) × (slice_get cells i ≡ Some cell) × IsIn x (items i cell)
cell_places-first items cells x h =
    let r = cell_places-from items 0 cells x h in
    let e : 0 + r.0 ≡ r.0 = omega arith in
    (r.0, r.1, r.2, subst (λ n. IsIn x (items n r.1)) e r.3)

front_or : (x : Lit) (at : At Lit) (xs : List (At Lit)) (rest : List Lit) → (IsIn x rest → (n : ℕ) × IsIn (n, x) xs) → IsIn x (at.1 ∷ rest) → (n : ℕ) × IsIn (n, x) (at ∷ xs)
front_or x at xs rest more (inl e) = (at.0, inl (ap (λ l. (at.0, l)) e))
front_or x at xs rest more (inr i) = let r = more i in (r.0, inr r.1)

pub on_wire-from : (w : ℕ) (x : Lit) (xs : List (At Lit)) → IsIn x (on_wire w xs) → (n : ℕ) × IsIn (n, x) xs
on_wire-from w x [] h = absurd h
on_wire-from w x (at ∷ xs) h = elim (cases_Bool (w == at.0)) [
  | inl hit ↦ let g : IsIn x (at.1 ∷ on_wire w xs) = rw hit at h in front_or x at xs (on_wire w xs) (on_wire-from w x xs) g
  | inr miss ↦ let g : IsIn x (on_wire w xs) = rw miss at h in let r = on_wire-from w x xs g in (r.0, inr r.1)
]

pub first_of : (xs : List Lit) (d : Lit) → IsIn (get_or xs 0 d) xs ⊎ (get_or xs 0 d ≡ d)
first_of [] d = inr refl
first_of (x ∷ xs) d = inl (inl refl)

-- an item that is there
pub listed-is : {X : Type 0} (o : Option X) (x : X) → IsIn x (listed o) → o ≡ Some x
listed-is None x h = absurd h
listed-is (Some y) x (inl e) = ap Some e
listed-is (Some y) x (inr h) = absurd h

-- how many variables there are
abbrev pub most : PlainNetlist → ℕ
most net = net.inputs + how_many is_back net.cells + how_many is_gate net.cells

module _ (net : PlainNetlist) where
  back-part : (c : ℕ) (cell : Cell) → is_back cell ≡ true → map (λ (latch : LatchPart). latch.variable.number) (listed (latch_of net (back_variable net c) cell)) ≡ back_variable net c ∷ []
  back-part c (La a b out) e = absurd cc
  back-part c (Fa a b out) e = absurd cc
  back-part c (Split from left right) e = absurd cc
  back-part c (Droc Front preload feed q n) e = absurd cc
  back-part c (Droc Back preload feed q n) e = refl
  back-part c (Droc Const preload feed q n) e = absurd cc

  no_back-part : (c : ℕ) (cell : Cell) → is_back cell ≡ false → map (λ (latch : LatchPart). latch.variable.number) (listed (latch_of net (back_variable net c) cell)) ≡ []
  no_back-part c (La a b out) e = refl
  no_back-part c (Fa a b out) e = refl
  no_back-part c (Split from left right) e = refl
  no_back-part c (Droc Front preload feed q n) e = refl
  no_back-part c (Droc Back preload feed q n) e = absurd cc
  no_back-part c (Droc Const preload feed q n) e = refl

  gate-part : (c : ℕ) (cell : Cell) → is_gate cell ≡ true → map (λ (and : AndPart). and.variable.number) (listed (and_of net (gate_variable net c) cell)) ≡ gate_variable net c ∷ []
  gate-part c (La a b out) e = refl
  gate-part c (Fa a b out) e = refl
  gate-part c (Split from left right) e = absurd cc
  gate-part c (Droc role preload feed q n) e = absurd cc

  no_gate-part : (c : ℕ) (cell : Cell) → is_gate cell ≡ false → map (λ (and : AndPart). and.variable.number) (listed (and_of net (gate_variable net c) cell)) ≡ []
  no_gate-part c (La a b out) e = absurd cc
  no_gate-part c (Fa a b out) e = absurd cc
  no_gate-part c (Split from left right) e = refl
  no_gate-part c (Droc role preload feed q n) e = refl

  pub latch-variables : map (λ (latch : LatchPart). latch.variable.number) (latches_of net) ≡ numbers_from (net.inputs + 1) (how_many is_back net.cells)
  latch-variables =
      numbers-are is_back (λ c cell. latch_of net (back_variable net c) cell) (λ (latch : LatchPart). latch.variable.number) (back_variable net) (net.inputs + 1) back-part no_back-part
      [] net.cells (λ c. refl) ∙ ap (λ n. numbers_from n (how_many is_back net.cells)) (omega arith)

  pub and-variables : map (λ (and : AndPart). and.variable.number) (ands_of net) ≡ numbers_from (net.inputs + 1 + how_many is_back net.cells) (how_many is_gate net.cells)
  and-variables =
      numbers-are is_gate (λ c cell. and_of net (gate_variable net c) cell) (λ (and : AndPart). and.variable.number)
      (gate_variable net) (net.inputs + 1 + how_many is_back net.cells) gate-part no_gate-part
      [] net.cells (λ c. refl) ∙ ap (λ n. numbers_from n (how_many is_gate net.cells)) (omega arith)

  map-map : {X Y Z : Type 0} (f : Y → Z) (g : X → Y) (xs : List X) → map f (map g xs) ≡ map (λ x. f (g x)) xs
  map-map f g [] = refl
  map-map f g (x ∷ xs) = ap (λ l. f (g x) ∷ l) (map-map f g xs)

  -- every variable is driven once
  pub driven-are : driven_nets (extracted net) ≡ numbers_from 1 (most net)
  driven-are =
      ap (λ l. numbers_from 1 net.inputs ++ (l ++ map (λ (equation : PlainEquation). equation.net) (map and_machine (ands_of net))))
      (map-map (λ (latch : PlainLatch). latch.out) latch_machine (latches_of net) ∙ latch-variables)
      ∙ ap (λ l. numbers_from 1 net.inputs ++ (numbers_from (net.inputs + 1) (how_many is_back net.cells) ++ l))
      (map-map (λ (equation : PlainEquation). equation.net) and_machine (ands_of net) ∙ and-variables)
      ∙ ap (λ l. numbers_from 1 net.inputs ++ l) (numbers-append (net.inputs + 1) (how_many is_back net.cells) (how_many is_gate net.cells))
      ∙ ap (λ n. numbers_from 1 net.inputs ++ numbers_from n (how_many is_back net.cells + how_many is_gate net.cells)) (omega arith)
      ∙ numbers-append 1 net.inputs (how_many is_back net.cells + how_many is_gate net.cells) ∙ ap (numbers_from 1) (omega arith)
