-- The value of an equation depends on the bits of the nets that its cubes read.
use Rattle.std.proofs.Common.{◌≡◌, ℕ, inl, inr, List, [], ◌∷◌, map, Bool, not, ◌&&◌, ◌||◌, if◌then◌else◌, refl, ◌∙◌, ap}
use Rattle.std.specs.List.{list_any, flat_map}
use Rattle.source_machine.specs.Machines.{PlainLiteral, PlainEquation}
use Rattle.pulse_ids.specs.Lists.{IsIn}
use Rattle.source_machine.specs.Runs.{literal_value, cube_value, equation_value}
use Rattle.source_machine.specs.Grounding.{cube_nets}
use Rattle.pulse_ids.proofs.CallerLemmas.{IsIn-left, IsIn-right}

abbrev pub SameOn : List ℕ → (ℕ → Bool) → (ℕ → Bool) → Type 0
SameOn nets f g = (n : ℕ) → IsIn n nets → f n ≡ g n

cube_value_same : (f g : ℕ → Bool) (cube : List PlainLiteral) → SameOn (map (λ literal. literal.net) cube) f g → cube_value f cube ≡ cube_value g cube
cube_value_same f g [] same = refl
cube_value_same f g (literal ∷ cube) same =
    ap (λ b. (if literal.negated then not b else b) && cube_value f cube) (same literal.net (inl refl)) ∙ ap (λ b. literal_value g literal && b) (cube_value_same f g cube (λ n i. same n (inr i)))

cubes_same : (f g : ℕ → Bool) (cubes : List (List PlainLiteral)) → SameOn (flat_map (map (λ literal. literal.net)) cubes) f g → list_any (cube_value f) cubes ≡ list_any (cube_value g) cubes
cubes_same f g [] same = refl
cubes_same f g (cube ∷ cubes) same =
    ap (λ b. b || list_any (cube_value f) cubes) (cube_value_same f g cube (λ n i. same n (IsIn-left n _ _ i)))
    ∙ ap (λ b. cube_value g cube || b) (cubes_same f g cubes (λ n i. same n (IsIn-right n (map (λ literal. literal.net) cube) _ i)))

pub equation_value_same : (f g : ℕ → Bool) (equation : PlainEquation) → SameOn (cube_nets equation) f g → equation_value f equation ≡ equation_value g equation
equation_value_same f g equation same =
    ap (λ b. if b then equation.on else not equation.on) (cubes_same f g equation.cubes same)
