-- What the index of the pairs does to their list.
use Rattle.std.proofs.Common.{◌≡◌, ℕ, zero, suc, ◌+◌, ◌<◌, ◌&&◌, ◌==◌, ◌⊎◌, inl, inr, List, [], ◌∷◌, ◌++◌, length, take, get_or, slice_get, Some, Bool, true, false, if◌then◌else◌, refl, sym, ◌∙◌, ap, arith, true≢false, eq-eqb}
use Rattle.std.specs.List.{list_any}
use Rattle.std.proofs.lemmas.List.{take_more}
use Rattle.std.proofs.lemmas.Bool.{eqb-true}
use Rattle.std.proofs.lemmas.Option.{slice_get-get_or}
use Rattle.std.proofs.lemmas.Map.Keys.{any_passes_from_place}
use Rattle.std.proofs.lemmas.List.Folds.{Any-from_list_any}
use Rattle.indexmap.specs.IndexSet.{insert_key}
use Rattle.aig_core.specs.declared.pairs.Pair.{Pair}
use Rattle.aig_core.specs.KeptPairs.{IsOnce, IsMissing, IsPlaced, found, added}
use Rattle.aig_core.specs.Pairs.{literal_code}
use Rattle.aig_core.proofs.FoldLemmas.{code_exact, and_left, and_right}
use Rattle.aig_core.proofs.TidyLemmas.{item_of_more}

-- the item that passes a test, at its place
item_of_any : {X : Type 0} (test : X → Bool) (xs : List X) → list_any test xs ≡ true → (k : ℕ) × (x : X) × (slice_get xs k ≡ Some x) × (test x ≡ true)
item_of_any test xs h =
    let r = Any-from_list_any test xs h in
    (r.0, r.1, slice_get-get_or xs r.0 r.1 r.2 ∙ ap Some r.3, r.4)

-- whether two pairs are the same, as the derived `==` tells by their codes
abbrev pub pair_same : Pair → Pair → Bool
pair_same a b = (literal_code a.low == literal_code b.low) && (literal_code a.high == literal_code b.high)

pub pair_exact : (a b : Pair) → pair_same a b ≡ true → a ≡ b
pair_exact a b e =
    let lows = literal_code a.low == literal_code b.low in
    let highs = literal_code a.high == literal_code b.high in
    let low : a.low ≡ b.low = code_exact a.low b.low (eqb-true (literal_code a.low) (literal_code b.low) (and_left lows highs e)) in
    let high : a.high ≡ b.high = code_exact a.high b.high (eqb-true (literal_code a.high) (literal_code b.high) (and_right lows highs e)) in
    λ i. record { low = low i; high = high i }

pub pair_self : (a : Pair) → pair_same a a ≡ true
pair_self a =
    ap (λ t. t && (literal_code a.high == literal_code a.high)) (eq-eqb (literal_code a.low) (literal_code a.low) refl) ∙ eq-eqb (literal_code a.high) (literal_code a.high) refl

module _ (pairs : List Pair) (pair : Pair) where
  found_any : (place : ℕ) → slice_get pairs place ≡ Some pair → list_any (pair_same pair) pairs ≡ true
  found_any place e = any_passes_from_place (pair_same pair) pairs place pair e (pair_self pair)

  pub missing_from_any : list_any (pair_same pair) pairs ≡ false → IsMissing pairs pair
  missing_from_any e = λ place at. true≢false (sym (found_any place at) ∙ e)

  -- the pair is at some place or at none
  pub placed_or_missing : ((place : ℕ) × (slice_get pairs place ≡ Some pair)) ⊎ IsMissing pairs pair
  placed_or_missing = go (list_any (pair_same pair) pairs) refl
    where
      go : (t : Bool) → list_any (pair_same pair) pairs ≡ t → ((place : ℕ) × (slice_get pairs place ≡ Some pair)) ⊎ IsMissing pairs pair
      go true e =
          let r = item_of_any (pair_same pair) pairs e in
          inl (r.0, r.2 ∙ ap Some (sym (pair_exact pair r.1 r.3)))
      go false e = inr (missing_from_any e)

  -- inserting a pair into the index places it
  pub inserted_placed : (keys : List Pair) (place : ℕ) → keys ≡ insert_key pair_same pairs pair → (key : Pair) × (slice_get keys place ≡ Some key) × (pair_same pair key ≡ true)
      → IsPlaced pairs pair place keys
  inserted_placed keys place inserted stored = go (list_any (pair_same pair) pairs) refl
    where
      at_place : slice_get keys place ≡ Some pair
      at_place = stored.1 ∙ ap Some (sym (pair_exact pair stored.0 stored.2))

      go : (t : Bool) → list_any (pair_same pair) pairs ≡ t → IsPlaced pairs pair place keys
      go true e =
          let same : keys ≡ pairs = inserted ∙ ap (λ t. if t then pairs else pairs ++ pair ∷ []) e in
          found (ap (λ list. slice_get list place) (sym same) ∙ at_place) same
      go false e =
          let more : keys ≡ pairs ++ pair ∷ [] = inserted ∙ ap (λ t. if t then pairs else pairs ++ pair ∷ []) e in
          let missing : IsMissing pairs pair = missing_from_any e in
          added missing (elim (item_of_more pairs pair place pair (ap (λ list. slice_get list place) (sym more) ∙ at_place)) [
            | inl there ↦ absurd (missing place there)
            | inr last ↦ last.0
          ]) more

take-get : {X : Type 0} (xs : List X) (n k : ℕ) (x : X) → slice_get (take n xs) k ≡ Some x → (k < n) × (slice_get xs k ≡ Some x)
take-get [] zero k x e = absurd cc
take-get [] (suc n) k x e = absurd cc
take-get (y ∷ xs) zero k x e = absurd cc
take-get (y ∷ xs) (suc n) zero x e = (omega arith, e)
take-get (y ∷ xs) (suc n) (suc k) x e =
    let r = take-get xs n k x e in (omega (arith, r.0), r.1)

-- the next pair of a list in which none stands twice is added last
pub indexed_goes_on : (list : List Pair) (count place : ℕ) (default : Pair) (keys new : List Pair) → IsOnce list → count < length list → keys ≡ take count list
    → IsPlaced keys (get_or list count default) place new → new ≡ take (count + 1) list
indexed_goes_on list count place default keys new once lt e (found at same) =
    let r = take-get list count place (get_or list count default) (ap (λ l. slice_get l place) (sym e) ∙ at) in
    absurd (omega (arith, r.0, once place count (get_or list count default) r.1 (slice_get-get_or list count default lt)))
indexed_goes_on list count place default keys new once lt e (added missing last more) =
    more ∙ ap (λ l. l ++ get_or list count default ∷ []) e ∙ sym (take_more list count default lt)
