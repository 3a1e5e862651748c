-- Units of which none is refused.
use Rattle.std.proofs.Common.{◌≡◌, ℕ, ◌+◌, ◌≤◌, ◌<◌, List, [], ◌∷◌, ◌++◌, length, length-append, map, None, refl, sym, subst, inl, inr, arith}
use Rattle.std.proofs.lemmas.List.{append_assoc, append-nil}
use Rattle.pulse_ids.specs.Lists.{IsIn}
use Rattle.source_machine.specs.declared.unset.Unset.{Unset}
use Rattle.aiger_reader.specs.Sections.{unit_refusal}
use Rattle.aiger_reader.specs.Sources.{first_refusal}

-- no unit is refused behind these ones
abbrev pub Accepted : Unset → List (List ℕ) → List (List ℕ) → Type 0
Accepted unset before [] = Unit
Accepted unset before (unit ∷ units) = (unit_refusal unset before unit ≡ None) × Accepted unset (before ++ unit ∷ []) units

pub accepted_is : (unset : Unset) (before units : List (List ℕ)) → Accepted unset before units → first_refusal unset before units ≡ None
accepted_is unset before [] right = refl
accepted_is unset before (unit ∷ units) right =
    let first : unit_refusal unset before unit ≡ None = right.0 in
    let rest : first_refusal unset (before ++ unit ∷ []) units ≡ None = accepted_is unset (before ++ unit ∷ []) units right.1 in
    rw (first, rest) refl

pub accepted-append : (unset : Unset) (before xs ys : List (List ℕ)) → Accepted unset before xs → Accepted unset (before ++ xs) ys → Accepted unset before (xs ++ ys)
accepted-append unset before [] ys one other = subst (λ (l : List (List ℕ)). Accepted unset l ys) (append-nil before) other
accepted-append unset before (x ∷ xs) ys one other =
    (one.0, accepted-append unset (before ++ x ∷ []) xs ys one.1 (subst (λ (l : List (List ℕ)). Accepted unset l ys) (sym (append_assoc before (x ∷ []) xs)) other))

-- the lines of a section, of which each stands at a place of the section
pub accepted_each : {X : Type 0} (unset : Unset) (header : List ℕ) (unit_of : X → List ℕ) (before : List (List ℕ)) (xs : List X) (low : ℕ) → length before ≡ low
    → ((x : X) → IsIn x xs → (more : List (List ℕ)) → low ≤ length more → length more < low + length xs → unit_refusal unset (header ∷ more) (unit_of x) ≡ None)
    → Accepted unset (header ∷ before) (map unit_of xs)
accepted_each unset header unit_of before [] low long each = tt
accepted_each unset header unit_of before (x ∷ xs) low long each = (
  each x (inl refl) before (omega (arith, long)) (omega (arith, long)),
  accepted_each unset header unit_of (before ++ unit_of x ∷ []) xs (low + 1) (omega (arith, long, length-append before (unit_of x ∷ [])))
      (λ y i more l h. each y (inr i) more (omega arith) (omega arith)),
)
