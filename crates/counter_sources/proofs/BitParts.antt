-- Lists that are made bit by bit.
use Rattle.std.proofs.Common.{◌≡◌, ℕ, zero, suc, ◌<◌, List, [], ◌∷◌, ◌++◌, map, refl, sym, ◌∙◌, ap, inl, inr, arith}
use Rattle.std.specs.List.{flat_map}
use Rattle.std.proofs.lemmas.List.{append-nil, map-append}
use Rattle.std.proofs.lemmas.Grind.{flat_map-append}
use Rattle.pulse_ids.specs.Lists.{IsIn, upto}
use Rattle.pulse_ids.proofs.CallerLemmas.{IsIn-append}

pub in_upto : (bit bits : ℕ) → IsIn bit (upto bits) → bit < bits
in_upto bit zero i = absurd i
in_upto bit (suc bits) i = elim (IsIn-append bit (upto bits) (bits ∷ []) i) [
  | inl j ↦ let lt = in_upto bit bits j in omega arith
  | inr j ↦ last j
]
  where
    last : IsIn bit (bits ∷ []) → bit < suc bits
    last (inl e) = omega (arith, e)
    last (inr h) = absurd h

-- parts of bits that are made in one step more
pub parts_alike : {X Y : Type 0} (h : X → Y) (f : ℕ → List X) (g : ℕ → List Y) (count : ℕ) → ((bit : ℕ) → map h (f bit) ≡ g bit)
    → map h (flat_map f (upto count)) ≡ flat_map g (upto count)
parts_alike h f g zero each = refl
parts_alike h f g (suc count) each =
    ap (map h) (flat_map-append f (upto count) (count ∷ [])) ∙ map-append h (flat_map f (upto count)) (f count ++ [])
    ∙ ap (λ l. l ++ map h (f count ++ [])) (parts_alike h f g count each)
    ∙ ap (λ l. flat_map g (upto count) ++ map h l) (append-nil (f count))
    ∙ ap (λ l. flat_map g (upto count) ++ l) (each count ∙ sym (append-nil (g count)))
    ∙ sym (flat_map-append g (upto count) (count ∷ []))
