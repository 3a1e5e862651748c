-- The options of pairs of words, pair by pair.
use Rattle.std.proofs.Common.{◌≡◌, ◌<◌, ◌≤◌, ℕ, zero, suc, ◌+◌, List, [], ◌∷◌, length, map, drop, get_or, Some, None, refl, sym, ap, ◌∙◌, arith}
use Rattle.xsfq_cli.specs.declared.orders.Options.{Options}
use Rattle.xsfq_cli.specs.Orders.{with_option, options_with}

-- one pair
pub pair_step : {X : Type 0} (f : X → List ℕ) (words : List X) (at : ℕ) (name value : X) (options : Options) → at + 1 < length words
    → name ≡ get_or words at name → value ≡ get_or words (at + 1) value
    → options_with (Some options) (map f (drop at words)) ≡ options_with (with_option options (f name) (f value)) (map f (drop (at + 2) words))
pair_step f [] at name value options h e d = absurd (omega arith)
pair_step f (a ∷ []) at name value options h e d = absurd (omega (arith, h))
pair_step f (a ∷ b ∷ words) zero name value options h e d = rw (e, d) refl
pair_step f (a ∷ words) (suc at) name value options h e d =
    let next : suc at + 1 ≡ suc (at + 1) = omega arith in
    let after : suc at + 2 ≡ suc (at + 2) = omega arith in
    let there : value ≡ get_or words (at + 1) value = d ∙ ap (λ n. get_or (a ∷ words) n value) next in
    pair_step f words at name value options (omega (arith, h)) e there ∙ ap (λ n. options_with (with_option options (f name) (f value)) (map f (drop n (a ∷ words)))) (sym after)

-- a word without a value
pub last_step : {X : Type 0} (f : X → List ℕ) (words : List X) (at : ℕ) (options : Options) → at < length words → length words ≤ at + 1
    → options_with (Some options) (map f (drop at words)) ≡ None
last_step f [] at options h l = absurd (omega arith)
last_step f (a ∷ []) zero options h l = refl
last_step f (a ∷ b ∷ words) zero options h l = absurd (omega (arith, l))
last_step f (a ∷ words) (suc at) options h l = last_step f words at options (omega (arith, h)) (omega (arith, l))

-- the same words
pub with_words : (options : Options) {name same value equal : List ℕ} → name ≡ same → value ≡ equal → with_option options name value ≡ with_option options same equal
with_words options {name} {same} {value} {equal} e d = rw (e, d) refl
