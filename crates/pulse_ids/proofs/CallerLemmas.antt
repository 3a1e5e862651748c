-- Members of lists: the lemmas that the crates above may cite.
use Rattle.std.proofs.Common.{◌≡◌, ◌≢◌, ℕ, zero, suc, ◌+◌, ◌<◌, ◌⊎◌, inl, inr, List, [], ◌∷◌, ◌++◌, length, map, take, get_or, Some, slice_get, refl, sym, ap, subst, arith, All, Contains}
use Rattle.std.proofs.lemmas.Bool.{cases_eq}
use Rattle.std.proofs.lemmas.List.{take_more}
use Rattle.std.proofs.lemmas.List.Elements.{All-head, All-tail}
use Rattle.std.specs.List.{flat_map}
use Rattle.pulse_ids.specs.Lists.{IsIn}

pub IsIn-append : {X : Type 0} (x : X) (xs ys : List X) → IsIn x (xs ++ ys) → IsIn x xs ⊎ IsIn x ys
IsIn-append x [] ys h = inr h
IsIn-append x (y ∷ xs) ys (inl e) = inl (inl e)
IsIn-append x (y ∷ xs) ys (inr h) = elim (IsIn-append x xs ys h) [ inl i ↦ inl (inr i) | inr i ↦ inr i ]

pub IsIn-left : {X : Type 0} (x : X) (xs ys : List X) → IsIn x xs → IsIn x (xs ++ ys)
IsIn-left x [] ys h = absurd h
IsIn-left x (y ∷ xs) ys (inl e) = inl e
IsIn-left x (y ∷ xs) ys (inr h) = inr (IsIn-left x xs ys h)

pub IsIn-right : {X : Type 0} (x : X) (xs ys : List X) → IsIn x ys → IsIn x (xs ++ ys)
IsIn-right x [] ys h = h
IsIn-right x (y ∷ xs) ys h = inr (IsIn-right x xs ys h)

-- an item of a longer list is one of the list or the last one
pub IsIn-behind : {X : Type 0} (x y : X) (xs : List X) → IsIn x (xs ++ y ∷ []) → IsIn x xs ⊎ (y ≡ x)
IsIn-behind x y [] (inl e) = inr e
IsIn-behind x y [] (inr h) = absurd h
IsIn-behind x y (z ∷ xs) (inl e) = inl (inl e)
IsIn-behind x y (z ∷ xs) (inr h) = elim (IsIn-behind x y xs h) [ inl g ↦ inl (inr g) | inr e ↦ inr e ]

pub IsIn-map : {X Y : Type 0} (f : X → Y) (x : X) (xs : List X) → IsIn x xs → IsIn (f x) (map f xs)
IsIn-map f x [] h = absurd h
IsIn-map f x (y ∷ xs) (inl e) = inl (ap f e)
IsIn-map f x (y ∷ xs) (inr h) = inr (IsIn-map f x xs h)

pub IsIn-from_map : {X Y : Type 0} (f : X → Y) (y : Y) (xs : List X) → IsIn y (map f xs) → (x : X) × IsIn x xs × (f x ≡ y)
IsIn-from_map f y [] h = absurd h
IsIn-from_map f y (x ∷ xs) (inl e) = (x, inl refl, e)
IsIn-from_map f y (x ∷ xs) (inr h) = let r = IsIn-from_map f y xs h in (r.0, inr r.1, r.2)

pub IsIn-flat_map : {X Y : Type 0} (f : X → List Y) (y : Y) (x : X) (xs : List X) → IsIn x xs → IsIn y (f x) → IsIn y (flat_map f xs)
IsIn-flat_map f y x [] i j = absurd i
IsIn-flat_map f y x (z ∷ xs) (inl e) j = IsIn-left y (f z) (flat_map f xs) (subst (λ w. IsIn y (f w)) (sym e) j)
IsIn-flat_map f y x (z ∷ xs) (inr i) j = IsIn-right y (f z) (flat_map f xs) (IsIn-flat_map f y x xs i j)

pub IsIn-from_flat_map : {X Y : Type 0} (f : X → List Y) (y : Y) (xs : List X) → IsIn y (flat_map f xs) → (x : X) × IsIn x xs × IsIn y (f x)
IsIn-from_flat_map f y [] h = absurd h
IsIn-from_flat_map f y (x ∷ xs) h = elim (IsIn-append y (f x) (flat_map f xs) h) [
  | inl i ↦ (x, inl refl, i)
  | inr i ↦ let r = IsIn-from_flat_map f y xs i in (r.0, inr r.1, r.2)
]

-- an item within the list, read with any default, is in it
pub IsIn-at : {X : Type 0} (xs : List X) (i : ℕ) (d : X) → i < length xs → IsIn (get_or xs i d) xs
IsIn-at [] i d lt = absurd (omega arith)
IsIn-at (x ∷ xs) zero d lt = inl refl
IsIn-at (x ∷ xs) (suc i) d lt = inr (IsIn-at xs i d (omega arith))

-- an item at a place is in the list
pub IsIn-place : {X : Type 0} (x : X) (xs : List X) (i : ℕ) → slice_get xs i ≡ Some x → IsIn x xs
IsIn-place x [] i e = absurd cc
IsIn-place x (y ∷ xs) zero e = inl cc
IsIn-place x (y ∷ xs) (suc i) e = inr (IsIn-place x xs i e)

-- what is in a list has a place in it
pub place_of : {X : Type 0} (x : X) (xs : List X) → IsIn x xs → (i : ℕ) × (slice_get xs i ≡ Some x)
place_of x [] h = absurd h
place_of x (y ∷ xs) (inl e) = (0, ap (λ z. Some z) e)
place_of x (y ∷ xs) (inr h) = let found = place_of x xs h in (suc found.0, found.1)

-- the same by the item that is read with a default
pub index_of : {X : Type 0} (x : X) (xs : List X) (d : X) → IsIn x xs → (i : ℕ) × (i < length xs) × (get_or xs i d ≡ x)
index_of x [] d h = absurd h
index_of x (y ∷ xs) d (inl e) = (0, omega arith, e)
index_of x (y ∷ xs) d (inr h) = let r = index_of x xs d h in (suc r.0, omega (arith, r.1), r.2)

pub IsIn-take : {X : Type 0} (x : X) (i : ℕ) (xs : List X) → IsIn x (take i xs) → IsIn x xs
IsIn-take x zero xs h = absurd h
IsIn-take x (suc i) [] h = absurd h
IsIn-take x (suc i) (y ∷ xs) (inl e) = inl e
IsIn-take x (suc i) (y ∷ xs) (inr h) = inr (IsIn-take x i xs h)

-- one item more is taken
pub IsIn-taken : {X : Type 0} (x : X) (xs : List X) (i : ℕ) (d : X) → i < length xs → IsIn x (take (i + 1) xs)
    → IsIn x (take i xs) ⊎ (get_or xs i d ≡ x)
IsIn-taken x xs i d lt h = IsIn-behind x (get_or xs i d) (take i xs) (subst (λ l. IsIn x l) (take_more xs i d lt) h)

pub All-IsIn : {X : Type 0} (P : X → Type 0) (x : X) (xs : List X) → All P xs → IsIn x xs → P x
All-IsIn P x [] all h = absurd h
All-IsIn P x (y ∷ xs) all (inl e) = subst P e (All-head P y xs all)
All-IsIn P x (y ∷ xs) all (inr h) = All-IsIn P x xs (All-tail P y xs all) h

-- from std's word for the same, and back
pub IsIn-contained : {X : Type 0} (xs : List X) (x : X) → Contains xs x → IsIn x xs
IsIn-contained xs x c = subst (λ y. IsIn y xs) c.2 (IsIn-at xs c.0 x c.1)

pub contained-IsIn : {X : Type 0} (xs : List X) (x : X) → IsIn x xs → Contains xs x
contained-IsIn xs x h = index_of x xs x h

-- a number stands in a list or doesn't
pub is_in : (n : ℕ) (xs : List ℕ) → IsIn n xs ⊎ (IsIn n xs → ⊥)
is_in n [] = inr (λ h. h)
is_in n (x ∷ xs) = go (cases_eq x n) (is_in n xs)
  where
    go : (x ≡ n) ⊎ (x ≢ n) → IsIn n xs ⊎ (IsIn n xs → ⊥) → IsIn n (x ∷ xs) ⊎ (IsIn n (x ∷ xs) → ⊥)
    go (inl e) r = inl (inl e)
    go (inr ne) (inl h) = inl (inr h)
    go (inr ne) (inr out) = inr (λ h. elim h [ inl e ↦ ne e | inr i ↦ out i ])
