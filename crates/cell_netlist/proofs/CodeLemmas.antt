-- Lists of codes and the places that they stand for.
use Rattle.std.proofs.Common.{◌≡◌, ◌∙◌, ℕ, zero, suc, Some, List, ◌∷◌, map, length, replicate, slice_get, slice_set, ap, refl}
use Rattle.std.proofs.lemmas.List.{length-map, map-set}
use Rattle.std.proofs.lemmas.Option.{slice_get-map}

module _ {Place : Type 0} (place_by : ℕ → Place) where
  map-replicate : (count code : ℕ) → map place_by (replicate count code) ≡ replicate count (place_by code)
  map-replicate zero code = refl
  map-replicate (suc count) code = ap (λ places. place_by code ∷ places) (map-replicate count code)

  pub codes_replicate : (codes : List ℕ) (count code : ℕ) (place : Place) → codes ≡ replicate count code → place_by code ≡ place
      → map place_by codes ≡ replicate count place
  codes_replicate codes count code place all e = ap (map place_by) all ∙ (map-replicate count code ∙ ap (replicate count) e)

  pub codes_at : (codes : List ℕ) (k code : ℕ) (place : Place) → slice_get codes k ≡ Some code → place ≡ place_by code
      → slice_get (map place_by codes) k ≡ Some place
  codes_at codes k code place e its = slice_get-map place_by codes k ∙ (rw (e, its) refl)

  pub codes_set : (old codes : List ℕ) (k code : ℕ) (place : Place) → codes ≡ slice_set old k code → place_by code ≡ place
      → map place_by codes ≡ slice_set (map place_by old) k place
  codes_set old codes k code place put e = ap (map place_by) put ∙ (map-set place_by old k code ∙ ap (slice_set (map place_by old) k) e)

  pub codes_length : (codes : List ℕ) → length (map place_by codes) ≡ length codes
  codes_length codes = length-map codes place_by
