-- Parts of lists, and lists that are made item by item.
use Rattle.std.proofs.Common.{◌≡◌, ℕ, zero, suc, List, [], ◌∷◌, ◌++◌, length, map, take, drop, refl, ◌∙◌, ap, inl, inr, arith}
use Rattle.pulse_ids.specs.Lists.{IsIn}

pub take_front : {X : Type 0} (xs ys : List X) (n : ℕ) → length xs ≡ n → take n (xs ++ ys) ≡ xs
take_front [] ys zero e = refl
take_front [] ys (suc n) e = absurd (omega (arith, e))
take_front (x ∷ xs) ys zero e = absurd (omega (arith, e))
take_front (x ∷ xs) ys (suc n) e = ap (λ l. x ∷ l) (take_front xs ys n (omega (arith, e)))

pub drop_front : {X : Type 0} (xs ys : List X) (n : ℕ) → length xs ≡ n → drop n (xs ++ ys) ≡ ys
drop_front [] ys zero e = refl
drop_front [] ys (suc n) e = absurd (omega (arith, e))
drop_front (x ∷ xs) ys zero e = absurd (omega (arith, e))
drop_front (x ∷ xs) ys (suc n) e = drop_front xs ys n (omega (arith, e))

-- the part between two others
pub middle : {X : Type 0} (before xs behind all : List X) (m n : ℕ) → length before ≡ m → length xs ≡ n → all ≡ before ++ (xs ++ behind)
    → take n (drop m all) ≡ xs
middle before xs behind all m n a b e =
    ap (λ l. take n (drop m l)) e ∙ ap (take n) (drop_front before (xs ++ behind) m a) ∙ take_front xs behind n b

module _ {X Y Z : Type 0} (f : Y → Z) (g : X → Y) (h : X → Z) where
  -- two steps that are one for each item
  pub map_both : (xs : List X) → ((x : X) → IsIn x xs → f (g x) ≡ h x) → map f (map g xs) ≡ map h xs
  map_both [] each = refl
  map_both (x ∷ xs) each = ap (λ z. z ∷ map f (map g xs)) (each x (inl refl)) ∙ ap (λ l. h x ∷ l) (map_both xs (λ y i. each y (inr i)))

-- two steps that lead back
pub map_back : {X Y : Type 0} (f : Y → X) (g : X → Y) (xs : List X) → ((x : X) → IsIn x xs → f (g x) ≡ x) → map f (map g xs) ≡ xs
map_back f g [] each = refl
map_back f g (x ∷ xs) each = ap (λ z. z ∷ map f (map g xs)) (each x (inl refl)) ∙ ap (λ l. x ∷ l) (map_back f g xs (λ y i. each y (inr i)))

pub map_same : {X Y : Type 0} (f g : X → Y) (xs : List X) → ((x : X) → f x ≡ g x) → map f xs ≡ map g xs
map_same f g [] each = refl
map_same f g (x ∷ xs) each = ap (λ z. z ∷ map f xs) (each x) ∙ ap (λ l. g x ∷ l) (map_same f g xs each)

-- the first of several parts is made in two steps
pub map_part : {X Y Z : Type 0} (f : Y → Z) (g : X → Y) (xs : List X) (ys : List Y) → map f (map g xs ++ ys) ≡ map (λ x. f (g x)) xs ++ map f ys
map_part f g [] ys = refl
map_part f g (x ∷ xs) ys = ap (λ l. f (g x) ∷ l) (map_part f g xs ys)

pub map_map : {X Y Z : Type 0} (f : Y → Z) (g : X → Y) (xs : List X) → map f (map g xs) ≡ map (λ x. f (g x)) xs
map_map f g [] = refl
map_map f g (x ∷ xs) = ap (λ l. f (g x) ∷ l) (map_map f g xs)
