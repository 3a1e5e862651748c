-- Values depend on the bits of the nets that stand in them.
use Rattle.std.proofs.Common.{◌≡◌, ℕ, suc, inl, inr, List, [], ◌∷◌, length, map, Bool, not, ◌&&◌, ◌||◌, if◌then◌else◌, refl, ◌∙◌, ap, subst, arith}
use Rattle.std.specs.List.{list_any, flat_map}
use Rattle.pulse_ids.specs.Lists.{IsIn, bit_at}
use Rattle.pulse_ids.proofs.CallerLemmas.{IsIn-left, IsIn-right}
use Rattle.source_machine.specs.Machines.{PlainLiteral, PlainEquation}
use Rattle.source_machine.specs.Runs.{literal_value, cube_value, equation_value}
use Rattle.source_machine.specs.Grounding.{cube_nets}

abbrev pub SameOn : List ℕ → (ℕ → Bool) → (ℕ → Bool) → Type 0
SameOn nets f g = (n : ℕ) → IsIn n nets → f n ≡ g n

literal_value-same : (f g : ℕ → Bool) (literal : PlainLiteral) → f literal.net ≡ g literal.net → literal_value f literal ≡ literal_value g literal
literal_value-same f g literal e = ap (λ b. if literal.negated then not b else b) e

cube_value-same : (f g : ℕ → Bool) (cube : List PlainLiteral) → SameOn (map (λ literal. literal.net) cube) f g → cube_value f cube ≡ cube_value g cube
cube_value-same f g [] same = refl
cube_value-same f g (literal ∷ cube) same =
    ap (λ b. b && cube_value f cube) (literal_value-same f g literal (same literal.net (inl refl))) ∙ ap (λ b. literal_value g literal && b) (cube_value-same f g cube (λ n i. same n (inr i)))

cubes-same : (f g : ℕ → Bool) (cubes : List (List PlainLiteral)) → SameOn (flat_map (map (λ literal. literal.net)) cubes) f g → list_any (cube_value f) cubes ≡ list_any (cube_value g) cubes
cubes-same f g [] same = refl
cubes-same f g (cube ∷ cubes) same =
    ap (λ b. b || list_any (cube_value f) cubes) (cube_value-same f g cube (λ n i. same n (IsIn-left n _ _ i))) ∙ ap (λ b. cube_value g cube || b)
    (cubes-same f g cubes (λ n i. same n (IsIn-right n (map (λ literal. literal.net) cube) _ i)))

pub equation_value-same : (f g : ℕ → Bool) (equation : PlainEquation) → SameOn (cube_nets equation) f g → equation_value f equation ≡ equation_value g equation
equation_value-same f g equation same =
    ap (λ b. if b then equation.on else not equation.on) (cubes-same f g equation.cubes same)

-- two functions with one list of values agree on its arguments
pub map-same_at : {X : Type 0} (key : X → ℕ) (f g : ℕ → Bool) (xs : List X) → map (λ x. f (key x)) xs ≡ map (λ x. g (key x)) xs → SameOn (map key xs) f g
map-same_at key f g [] same n i = absurd i
map-same_at key f g (x ∷ xs) same n (inl e) =
    let head : f (key x) ≡ g (key x) = cc in subst (λ m. f m ≡ g m) e head
map-same_at key f g (x ∷ xs) same n (inr i) = map-same_at key f g xs (cc) n i

pub map-same_on : (f g : ℕ → Bool) (xs : List ℕ) → map f xs ≡ map g xs → SameOn xs f g
map-same_on f g [] same n i = absurd i
map-same_on f g (x ∷ xs) same n (inl e) =
    let head : f x ≡ g x = cc in subst (λ m. f m ≡ g m) e head
map-same_on f g (x ∷ xs) same n (inr i) = map-same_on f g xs (cc) n i

-- lists of one length with the same bits are the same
pub same_bits : (v w : List Bool) → length v ≡ length w → ((n : ℕ) → bit_at v n ≡ bit_at w n) → v ≡ w
same_bits [] [] long same = refl
same_bits [] (y ∷ w) long same = absurd (omega arith)
same_bits (x ∷ v) [] long same = absurd (omega arith)
same_bits (x ∷ v) (y ∷ w) long same =
    let head : x ≡ y = same 0 in let tail : v ≡ w = same_bits v w (omega arith) (λ n. same (suc n)) in cc
