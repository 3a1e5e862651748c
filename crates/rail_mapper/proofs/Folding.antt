-- Literals of one node fold.
use Rattle.std.proofs.Common.{◌≡◌, ◌/◌, ◌⊎◌, inl, inr, ℕ, Bool, true, false, not, ap, sym, ◌∙◌, refl, arith}
use Rattle.pulse_ids.specs.Ids.{NodeLit}
use Rattle.pulse_ids.specs.Literals.{code_of, rail_sign}
use Rattle.pulse_ids.specs.declared.literals.Sign.{Sign}
use Rattle.aig_core.specs.Folds.{complement, zero_literal, zero_first, zero_second, one_first, one_second, same, opposite, IsFoldable}
use Rattle.aig_core.specs.Pairs.{literal_code}
use Rattle.rail_mapper.specs.Labels.{rail_number, literal_number}
use Rattle.rail_mapper.proofs.StageSteps.{node_of}

-- literals of one node fold
one_node : (a b : NodeLit) → a.id.number ≡ b.id.number → (a ≡ b) ⊎ (a ≡ complement b)
one_node a b e = by a.negated b.negated refl refl
  where
    rebuild : (n : Bool) → a.negated ≡ n → a ≡ record { id = b.id; negated = n }
    rebuild n h = ap (λ (k : ℕ). let l : NodeLit = record { id = record { number = k; kind = a.id.kind }; negated = a.negated } in l) e
        ∙ ap (λ (m : Bool). let l : NodeLit = record { id = b.id; negated = m } in l) h

    by : (p q : Bool) → a.negated ≡ p → b.negated ≡ q → (a ≡ b) ⊎ (a ≡ complement b)
    by true true f g = inl (rebuild b.negated (f ∙ sym g))
    by false false f g = inl (rebuild b.negated (f ∙ sym g))
    by true false f g = inr (rebuild (not b.negated) (f ∙ ap not (sym g)))
    by false true f g = inr (rebuild (not b.negated) (f ∙ ap not (sym g)))

pub one_node_folds : (a b : NodeLit) → a.id.number ≡ b.id.number → IsFoldable a b
one_node_folds a b e = elim (one_node a b e) [ inl s ↦ (a, same s refl) | inr c ↦ (zero_literal, opposite c refl) ]

pub zero_node_folds : (a b : NodeLit) → a.id.number ≡ 0 → IsFoldable a b
zero_node_folds a b e = elim (one_node a zero_literal e) [ inl s ↦ (zero_literal, zero_first s refl) | inr c ↦ (b, one_first c refl) ]

pub second_zero_folds : (a b : NodeLit) → b.id.number ≡ 0 → IsFoldable a b
second_zero_folds a b e = elim (one_node b zero_literal e) [ inl s ↦ (zero_literal, zero_second s refl) | inr c ↦ (a, one_second c refl) ]

-- a literal by its code
pub one_code : (a b : NodeLit) → literal_code a ≡ literal_code b → a ≡ b
one_code a b e = by a.negated b.negated refl refl e
  where
    by : (p q : Bool) → a.negated ≡ p → b.negated ≡ q → code_of a.id.number a.negated ≡ code_of b.id.number b.negated → a ≡ b
    by p q f g e = whole (numbers p q (rw (← f, ← g) e)) (f ∙ signs p q (rw (← f, ← g) e) ∙ sym g)
      where
        numbers : (p q : Bool) → code_of a.id.number p ≡ code_of b.id.number q → a.id.number ≡ b.id.number
        numbers true true e = omega arith
        numbers false false e = omega arith
        numbers true false e = absurd (omega arith)
        numbers false true e = absurd (omega arith)

        signs : (p q : Bool) → code_of a.id.number p ≡ code_of b.id.number q → p ≡ q
        signs true true e = refl
        signs false false e = refl
        signs true false e = absurd (omega arith)
        signs false true e = absurd (omega arith)

        whole : a.id.number ≡ b.id.number → a.negated ≡ b.negated → a ≡ b
        whole n h = ap (λ (k : ℕ). let l : NodeLit = record { id = record { number = k; kind = a.id.kind }; negated = a.negated } in l) n
            ∙ ap (λ (m : Bool). let l : NodeLit = record { id = b.id; negated = m } in l) h

-- the node in a rail's number
pub its_node : (literal : NodeLit) (sign : Sign) (node : ℕ) (side : Sign) → literal_number literal sign ≡ rail_number node side → literal.id.number ≡ node
its_node literal sign node side e = sym (node_of literal.id.number (rail_sign literal sign)) ∙ ap (λ (r : ℕ). r / 2) e ∙ node_of node side
