-- For callers: a piece that is taken part by part, and the bytes within a limit.
use Rattle.std.proofs.Common.{◌≡◌, ℕ, ◌-◌, false, List, [], ◌∷◌, ◌++◌, length, zero, suc, ◌<◌, ◌≤◌, ◌==◌, min, inl, inr, arith, take, drop, refl, sym, ap, ◌∙◌, append_assoc}
use Rattle.std.proofs.lemmas.List.{take-append-drop, take_rest, take_all}
use Rattle.std.proofs.lemmas.Bool.{cases_lt}

-- what is left of a piece after one more part of it
pub part_taken : (piece prefix rest : List ℕ) (used : ℕ) → piece ≡ prefix ++ rest → piece ≡ (prefix ++ take used rest) ++ take (length rest - used) (drop used rest)
part_taken piece prefix rest used e =
    e ∙ ap (λ (r : List ℕ). prefix ++ r) (sym (take-append-drop used rest)) ∙ sym (append_assoc prefix (take used rest) (drop used rest))
    ∙ ap (λ (r : List ℕ). (prefix ++ take used rest) ++ r) (sym (take_rest rest used))

pub all_taken : (text piece prefix rest : List ℕ) → piece ≡ prefix ++ rest → (text ++ prefix) ++ rest ≡ text ++ piece
all_taken text piece prefix rest e = append_assoc text prefix rest ∙ ap (λ (p : List ℕ). text ++ p) (sym e)

pub not_zero : (n : ℕ) → false ≡ (n == 0) → 0 < n
not_zero zero h = absurd cc
not_zero (suc n) h = omega arith

pub take_joined : (n : ℕ) (xs ys : List ℕ) → take n (xs ++ ys) ≡ take n xs ++ take (n - length xs) ys
take_joined zero [] ys = let e : 0 ≡ 0 - length {A = ℕ} [] = omega arith in ap (λ k. take k ys) e
take_joined (suc n) [] ys = let e : suc n ≡ suc n - length {A = ℕ} [] = omega arith in ap (λ k. take k ys) e
take_joined zero (x ∷ xs) ys = let e : 0 ≡ 0 - length (x ∷ xs) = omega arith in ap (λ k. take k ys) e
take_joined (suc n) (x ∷ xs) ys = let e : n - length xs ≡ suc n - length (x ∷ xs) = omega arith in ap (λ (l : List ℕ). x ∷ l) (take_joined n xs ys ∙ ap (λ k. take n xs ++ take k ys) e)

-- the bytes of a text within the limit, where so many bytes may still come
pub prefix_within : (limit : ℕ) (text piece : List ℕ) (room : ℕ) → room ≤ limit → length text ≡ limit - room → take limit (text ++ piece) ≡ text ++ take room piece
prefix_within limit text piece room within e =
    let left : limit - length text ≡ room = omega arith in
    take_joined limit text piece ∙ ap (λ (l : List ℕ). l ++ take (limit - length text) piece) (take_all limit text (omega arith)) ∙ ap (λ k. text ++ take k piece) left

pub take_prefix : (piece : List ℕ) (n room used : ℕ) → n ≡ min (length piece) room → used ≤ n → take used (take n piece) ≡ take used piece
take_prefix piece n room used e le = take_take used n piece le
  where
    take_take : (k n : ℕ) (xs : List ℕ) → k ≤ n → take k (take n xs) ≡ take k xs
    take_take zero n xs le = refl
    take_take (suc k) zero xs le = absurd (omega arith)
    take_take (suc k) (suc n) [] le = refl
    take_take (suc k) (suc n) (x ∷ xs) le = ap (λ (l : List ℕ). x ∷ l) (take_take k n xs (omega arith))

pub taken_prefix : (piece : List ℕ) (n room : ℕ) → n ≡ min (length piece) room → take n piece ≡ take room piece
taken_prefix piece n room e =
    elim (cases_lt room (length piece)) [
      | inl lt ↦ let k : n ≡ room = omega arith in ap (λ j. take j piece) k
      | inr le ↦ take_all n piece (omega arith) ∙ sym (take_all room piece le)
    ]
