-- Leaves are taken from the table, and put into it.
use Rattle.std.proofs.Common.{◌≡◌, ◌≤◌, ◌<◌, ◌+◌, ◌-◌, ◌⊎◌, inl, inr, ℕ, zero, suc, Some, List, [], ◌∷◌, ◌++◌, map, take, drop, length, get_or, set, slice_get, replicate, ap, sym, subst, ◌∙◌}
use Rattle.std.proofs.Common.{refl, arith, append_assoc}
use Rattle.std.proofs.lemmas.List.{get_or-map, map-set, map-append, length-map, length-append}
use Rattle.pulse_ids.specs.Ids.{WireId}
use Rattle.pulse_ids.specs.Lists.{IsIn}
use Rattle.rail_mapper.specs.declared.shelves.Shelf.{Shelf}
use Rattle.rail_mapper.specs.Shelves.{bare_shelf, shelf_after, numbers_of, leaves_on, AreInTable, TakesFirst}

pub replicate_last : {X : Type 0} (n : ℕ) (x : X) → replicate n x ++ x ∷ [] ≡ replicate (n + 1) x
replicate_last zero x = refl
replicate_last (suc n) x = let one : suc n + 1 ≡ suc (n + 1) = omega arith in rw one (ap (λ xs. x ∷ xs) (replicate_last n x))

-- the item of a number, as an index reads it
item_at : {X : Type 0} (xs : List X) (k : ℕ) (x : X) → k < length xs → x ≡ get_or xs k x → slice_get xs k ≡ Some x
item_at [] k x low e = absurd (omega arith)
item_at (y ∷ xs) zero x low e = ap Some (sym e)
item_at (y ∷ xs) (suc k) x low e = item_at xs k x (omega arith) e

-- a list of the number that has an item
has_list : (lists : List (List ℕ)) (k : ℕ) → 1 ≤ length (get_or lists k []) → k < length lists
has_list [] k some = absurd (omega arith)
has_list (l ∷ lists) zero some = omega arith
has_list (l ∷ lists) (suc k) some = let r = has_list lists k some in omega arith

abbrev nothing_in : (X : Type 0) → List X
nothing_in X = []

no_part : (first count : ℕ) → 1 ≤ length (take count (drop first (nothing_in ℕ))) → ⊥
no_part zero zero some = absurd (omega arith)
no_part zero (suc count) some = absurd (omega arith)
no_part (suc first) zero some = absurd (omega arith)
no_part (suc first) (suc count) some = absurd (omega arith)

-- a part of a list that begins with an item
part_begins : (wires : List ℕ) (first count : ℕ) → 1 ≤ length (take count (drop first wires)) → (1 ≤ count) × (first < length wires)
part_begins [] first count some = absurd (no_part first count some)
part_begins (w ∷ wires) zero zero some = absurd (omega arith)
part_begins (w ∷ wires) zero (suc count) some = (omega arith, omega arith)
part_begins (w ∷ wires) (suc first) count some = let r = part_begins wires first count some in (r.0, let low = r.1 in omega arith)

part_next : (wires : List ℕ) (first count wire : ℕ) → slice_get wires first ≡ Some wire → take (count + 1) (drop first wires) ≡ wire ∷ take count (drop (first + 1) wires)
part_next [] first count wire e = absurd cc
part_next (w ∷ wires) zero count wire e = let same : w ≡ wire = cc in let one : count + 1 ≡ suc count = omega arith in rw one (ap (λ x. x ∷ take count wires) same)
part_next (w ∷ wires) (suc first) count wire e = let one : suc first + 1 ≡ suc (first + 1) = omega arith in rw one (part_next wires first count wire e)

-- a part that ends within a list is the same in a longer one
part_stays : (wires more : List ℕ) (first end : ℕ) → end ≤ length wires → take (end - first) (drop first (wires ++ more)) ≡ take (end - first) (drop first wires)
part_stays wires more zero zero low = refl
part_stays [] more zero (suc end) low = absurd (omega arith)
part_stays (w ∷ wires) more zero (suc end) low =
    let a : suc end - 0 ≡ suc end = omega arith in let b : end - 0 ≡ end = omega arith in
    let r = part_stays wires more zero end (omega arith) in
    let g = rw b at r in rw a (ap (λ xs. w ∷ xs) g)
part_stays wires more (suc first) zero low = let a : 0 - suc first ≡ 0 = omega arith in rw a refl
part_stays [] more (suc first) (suc end) low = absurd (omega arith)
part_stays (w ∷ wires) more (suc first) (suc end) low = let a : suc end - suc first ≡ end - first = omega arith in rw a (part_stays wires more first end (omega arith))

-- what is behind a list
part_behind : (wires more : List ℕ) (end : ℕ) → end ≡ length wires + length more → take (end - length wires) (drop (length wires) (wires ++ more)) ≡ more
part_behind [] more end e = let a : end - 0 ≡ length more = omega arith in rw a (all more)
  where
    all : (xs : List ℕ) → take (length xs) xs ≡ xs
    all [] = refl
    all (x ∷ xs) = ap (λ ys. x ∷ ys) (all xs)
part_behind (w ∷ wires) more zero e = absurd (omega arith)
part_behind (w ∷ wires) more (suc end) e = let a : suc end - suc (length wires) ≡ end - length wires = omega arith in rw a (part_behind wires more end (omega arith))

-- an item of a list with another in one place
set_in : {X : Type 0} (xs : List X) (k : ℕ) (x y : X) → IsIn y (set xs k x) → (x ≡ y) ⊎ IsIn y xs
set_in [] k x y m = absurd m
set_in (z ∷ xs) zero x y (inl e) = inl e
set_in (z ∷ xs) zero x y (inr m) = inr (inr m)
set_in (z ∷ xs) (suc k) x y (inl e) = inr (inl e)
set_in (z ∷ xs) (suc k) x y (inr m) = elim (set_in xs k x y m) [ inl e ↦ inl e | inr k ↦ inr (inr k) ]

item_in : {X : Type 0} (xs : List X) (k : ℕ) (x : X) → slice_get xs k ≡ Some x → IsIn x xs
item_in [] k x e = absurd cc
item_in (y ∷ xs) zero x e = inl cc
item_in (y ∷ xs) (suc k) x e = inr (item_in xs k x e)

mapped_item : {X Y : Type 0} (f : X → Y) (xs : List X) (k : ℕ) (x : X) → slice_get xs k ≡ Some x → slice_get (map f xs) k ≡ Some (f x)
mapped_item f [] k x e = absurd cc
mapped_item f (y ∷ xs) zero x e = let same : y ≡ x = cc in ap (λ z. Some (f z)) same
mapped_item f (y ∷ xs) (suc k) x e = mapped_item f xs k x e

map_on : {X Y : Type 0} (f g : X → Y) (xs : List X) → ((x : X) → IsIn x xs → f x ≡ g x) → map f xs ≡ map g xs
map_on f g [] same = refl
map_on f g (x ∷ xs) same = rw (same x (inl refl)) (ap (λ ys. g x ∷ ys) (map_on f g xs (λ y m. same y (inr m))))

module _ (wires : List WireId) (shelves : List Shelf) (rail : ℕ) (old : Shelf) (before : List (List ℕ)) (same : map (leaves_on (numbers_of wires)) shelves ≡ before)
    (some : 1 ≤ length (get_or before rail [])) (at : old ≡ get_or shelves rail old) where
  low : rail < length shelves
  low = omega (arith, has_list before rail some, ap (λ (l : List (List ℕ)). length l) same, length-map shelves (leaves_on (numbers_of wires)))

  pub taken_in_table : AreInTable (length wires) shelves → AreInTable (length wires) (set shelves rail (shelf_after old))
  taken_in_table inside shelf m = elim (set_in shelves rail (shelf_after old) shelf m) [
    | inl e ↦ subst (λ (s : Shelf). s.end ≤ length wires) e (inside old (item_in shelves rail old (item_at shelves rail old low at)))
    | inr k ↦ inside shelf k
  ]

  is_old : get_or before rail [] ≡ leaves_on (numbers_of wires) old
  is_old = ap (λ (l : List (List ℕ)). get_or l rail []) (sym same)
      ∙ get_or-map (leaves_on (numbers_of wires)) shelves rail old [] low ∙ ap (leaves_on (numbers_of wires)) (sym at)

  pub begins : (1 ≤ old.end - old.first) × (old.first < length (numbers_of wires))
  begins = part_begins (numbers_of wires) old.first (old.end - old.first) (omega (arith, some, ap (λ (l : List ℕ). length l) is_old))

  pub taken_first : (wire : WireId) → wire ≡ get_or wires old.first wire
      → TakesFirst rail wire.number before (map (leaves_on (numbers_of wires)) (set shelves rail (shelf_after old)))
  taken_first wire item = record {
    rest = leaves_on (numbers_of wires) (shelf_after old);
    first = is_old ∙ ap (λ (k : ℕ). take k (drop old.first (numbers_of wires))) count
        ∙ part_next (numbers_of wires) old.first (old.end - (old.first + 1)) wire.number
        (mapped_item (λ (w : WireId). w.number) wires old.first wire (item_at wires old.first wire (let b = begins.1 in omega (arith, b, length-map wires (λ (w : WireId). w.number))) item));
    taken = map-set (leaves_on (numbers_of wires)) shelves rail (shelf_after old) ∙ ap (λ (l : List (List ℕ)). set l rail (leaves_on (numbers_of wires) (shelf_after old))) same;
  }
    where
      count : old.end - old.first ≡ old.end - (old.first + 1) + 1
      count = let b = begins.0 in omega (arith, b)

pub put_in_table : (size more : ℕ) (shelves : List Shelf) (rail first end : ℕ) → AreInTable size shelves → size ≤ more → end ≡ more
    → AreInTable more (set shelves rail (record { first = first; end = end }))
put_in_table size more shelves rail first end inside low at shelf m = elim (set_in shelves rail (record { first = first; end = end }) shelf m) [
  | inl same ↦ let e : end ≡ shelf.end = ap (λ (s : Shelf). s.end) same in omega (arith, e, at)
  | inr k ↦ let i = inside shelf k in omega (arith, i, low)
]

pub put_leaves : (wires more : List WireId) (shelves : List Shelf) (rail first end : ℕ) (leaves : List ℕ) (before : List (List ℕ)) → AreInTable (length wires) shelves
    → map (leaves_on (numbers_of wires)) shelves ≡ before → numbers_of more ≡ numbers_of wires ++ leaves → first ≡ length wires → end ≡ length more
    → map (leaves_on (numbers_of more)) (set shelves rail (record { first = first; end = end })) ≡ set before rail leaves
put_leaves wires more shelves rail first end leaves before inside same added at_first at_end =
    ap (λ (k : ℕ). map (leaves_on (numbers_of more)) (set shelves rail (record { first = k; end = end }))) at_first
    ∙ ap (λ (k : ℕ). map (leaves_on (numbers_of more)) (set shelves rail (record { first = length wires; end = k }))) at_end
    ∙ map-set (leaves_on (numbers_of more)) shelves rail (record { first = length wires; end = length more })
    ∙ ap (λ (l : List ℕ). set (map (leaves_on (numbers_of more)) shelves) rail l) new
    ∙ ap (λ (l : List (List ℕ)). set l rail leaves) (map_on (leaves_on (numbers_of more)) (leaves_on (numbers_of wires)) shelves stays ∙ same)
  where
    size : length (numbers_of wires) ≡ length wires
    size = length-map wires (λ (w : WireId). w.number)

    total : length more ≡ length (numbers_of wires) + length leaves
    total = sym (length-map more (λ (w : WireId). w.number)) ∙ ap (λ (l : List ℕ). length l) added ∙ length-append (numbers_of wires) leaves

    new : leaves_on (numbers_of more) (record { first = length wires; end = length more }) ≡ leaves
    new = ap (λ (l : List ℕ). take (length more - length wires) (drop (length wires) l)) added
        ∙ ap (λ (k : ℕ). take (length more - k) (drop k (numbers_of wires ++ leaves))) (sym size)
        ∙ part_behind (numbers_of wires) leaves (length more) total

    stays : (shelf : Shelf) → IsIn shelf shelves → leaves_on (numbers_of more) shelf ≡ leaves_on (numbers_of wires) shelf
    stays shelf m = ap (λ (l : List ℕ). take (shelf.end - shelf.first) (drop shelf.first l)) added
        ∙ part_stays (numbers_of wires) leaves shelf.first shelf.end (let i = inside shelf m in omega (arith, i, size))

take_next : (xs : List ℕ) (k x : ℕ) → slice_get xs k ≡ Some x → take (k + 1) xs ≡ take k xs ++ x ∷ []
take_next [] k x e = absurd cc
take_next (y ∷ xs) zero x e = let same : y ≡ x = cc in ap (λ z. z ∷ []) same
take_next (y ∷ xs) (suc k) x e = let one : suc k + 1 ≡ suc (k + 1) = omega arith in rw one (ap (λ zs. y ∷ zs) (take_next xs k x e))

pub one_added : (wires : List WireId) (wire : WireId) (more : List WireId) (before leaves : List ℕ) (k : ℕ) → numbers_of wires ≡ before ++ take k leaves → slice_get leaves k ≡ Some wire.number
    → more ≡ wires ++ wire ∷ [] → numbers_of more ≡ before ++ take (k + 1) leaves
one_added wires wire more before leaves k so at e =
    ap numbers_of e ∙ map-append (λ (w : WireId). w.number) wires (wire ∷ []) ∙ ap (λ (l : List ℕ). l ++ wire.number ∷ []) so
    ∙ append_assoc before (take k leaves) (wire.number ∷ []) ∙ ap (λ (l : List ℕ). before ++ l) (sym (take_next leaves k wire.number at))

-- shelves with no leaf
pub bare_in_table : (size n : ℕ) (shelves : List Shelf) → shelves ≡ replicate n bare_shelf → AreInTable size shelves
bare_in_table size n shelves e shelf m = by n (subst (λ (l : List Shelf). IsIn shelf l) e m)
  where
    by : (n : ℕ) → IsIn shelf (replicate n bare_shelf) → shelf.end ≤ size
    by zero m = absurd m
    by (suc n) (inl e) = let z : 0 ≡ shelf.end = ap (λ (s : Shelf). s.end) e in omega arith
    by (suc n) (inr m) = by n m

pub bare_leaves : (wires : List ℕ) (n : ℕ) (shelves : List Shelf) → shelves ≡ replicate n bare_shelf → map (leaves_on wires) shelves ≡ replicate n (nothing_in ℕ)
bare_leaves wires n shelves e = ap (map (leaves_on wires)) e ∙ by n
  where
    by : (n : ℕ) → map (leaves_on wires) (replicate n bare_shelf) ≡ replicate n (nothing_in ℕ)
    by zero = refl
    by (suc n) = ap (λ (l : List (List ℕ)). [] ∷ l) (by n)
