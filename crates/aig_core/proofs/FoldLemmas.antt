-- The four folds by tests, their values, and literals that are the same.
use Rattle.std.proofs.Common.{◌≡◌, ◌+◌, ◌*◌, Bool, true, false, not, ◌&&◌, ◌||◌, ◌==◌, if◌then◌else◌, Option, Some, None, List, refl, sym, ◌∙◌, ap, arith, true≢false, eq-eqb}
use Rattle.std.proofs.lemmas.Bool.{eqb-true}
use Rattle.std.specs.Bool.{beq}
use Rattle.pulse_ids.specs.Ids.{NodeLit, numbered}
use Rattle.pulse_ids.specs.Literals.{code_of}
use Rattle.aig_core.specs.Folds.{complement, zero_literal, one_literal, FoldsTo, zero_first, zero_second, one_first, one_second, same, opposite, IsFoldable, is_same, fold_of}
use Rattle.aig_core.specs.Graphs.{PlainGraph}
use Rattle.aig_core.specs.Pairs.{literal_code}
use Rattle.aig_core.specs.Values.{value_of}
use Rattle.aig_core.proofs.ValueLemmas.{value-zero}

-- literals of one number and one sign are the same
pub literal_exact : (a b : NodeLit) → a.id.number ≡ b.id.number → a.negated ≡ b.negated → a ≡ b
literal_exact a b number sign = λ i. record { id = numbered (number i); negated = sign i }

beq_exact : (p q : Bool) → beq p q ≡ true → p ≡ q
beq_exact true true e = refl
beq_exact true false e = absurd cc
beq_exact false true e = absurd cc
beq_exact false false e = refl

beq_self : (p : Bool) → beq p p ≡ true
beq_self true = refl
beq_self false = refl

pub and_left : (p q : Bool) → (p && q) ≡ true → p ≡ true
and_left true q e = refl
and_left false q e = absurd cc

pub and_right : (p q : Bool) → (p && q) ≡ true → q ≡ true
and_right true q e = e
and_right false q e = absurd cc

pub same_exact : (a b : NodeLit) → is_same a b ≡ true → a ≡ b
same_exact a b e =
    literal_exact a b (eqb-true a.id.number b.id.number (and_left (a.id.number == b.id.number) (beq a.negated b.negated) e))
    (beq_exact a.negated b.negated (and_right (a.id.number == b.id.number) (beq a.negated b.negated) e))

pub same_self : (a : NodeLit) → is_same a a ≡ true
same_self a = ap (λ t. t && beq a.negated a.negated) (eq-eqb a.id.number a.id.number refl) ∙ beq_self a.negated

same_as : (a b : NodeLit) → a ≡ b → is_same a b ≡ true
same_as a b e = sym (ap (is_same a) e) ∙ same_self a

not_twice : (p : Bool) → not (not p) ≡ p
not_twice true = refl
not_twice false = refl

complement_twice : (a : NodeLit) → complement (complement a) ≡ a
complement_twice a = literal_exact (complement (complement a)) a refl (not_twice a.negated)

differs : (p : Bool) → p ≡ not p → ⊥
differs true e = true≢false e
differs false e = true≢false (sym e)

never_complement : (a : NodeLit) → a ≡ complement a → ⊥
never_complement a e = differs a.negated (ap (λ l. l.negated) e)

-- what the tests give
abbrev chosen : NodeLit → NodeLit → Bool → Bool → Bool → Bool → Bool → Bool → Option NodeLit
chosen a b p q s t u v =
    if p || q || s then Some zero_literal else if t || u then Some b else if v then Some a else None

pub fold_folds : (a b result : NodeLit) → fold_of a b ≡ Some result → FoldsTo a b result
fold_folds a b result e =
    go (is_same a zero_literal) (is_same b zero_literal) (is_same a (complement b)) (is_same a one_literal) (is_same a b) (is_same b one_literal) refl refl refl refl refl refl e
  where
    go : (p q s t u v : Bool) → is_same a zero_literal ≡ p → is_same b zero_literal ≡ q → is_same a (complement b) ≡ s → is_same a one_literal ≡ t → is_same a b ≡ u
        → is_same b one_literal ≡ v → chosen a b p q s t u v ≡ Some result → FoldsTo a b result
    go true q s t u v ep eq es et eu ev e = zero_first (same_exact a zero_literal ep) cc
    go false true s t u v ep eq es et eu ev e = zero_second (same_exact b zero_literal eq) cc
    go false false true t u v ep eq es et eu ev e = opposite (same_exact a (complement b) es) cc
    go false false false true u v ep eq es et eu ev e = one_first (same_exact a one_literal et) cc
    go false false false false true v ep eq es et eu ev e =
        let result_is : result ≡ b = cc in same (same_exact a b eu) (result_is ∙ sym (same_exact a b eu))
    go false false false false false true ep eq es et eu ev e = one_second (same_exact b one_literal ev) cc
    go false false false false false false ep eq es et eu ev e = absurd cc

-- the tests find each fold
folds_to : (a b : NodeLit) (result : NodeLit) (p q s t u v : Bool) → is_same a zero_literal ≡ p → is_same b zero_literal ≡ q → is_same a (complement b) ≡ s
    → is_same a one_literal ≡ t → is_same a b ≡ u → is_same b one_literal ≡ v → FoldsTo a b result → chosen a b p q s t u v ≡ Some result
folds_to a b result p q s t u v ep eq es et eu ev (zero_first e r) =
    let on : true ≡ p = sym (same_as a zero_literal e) ∙ ep in
    sym (ap (λ p. chosen a b p q s t u v) on) ∙ ap Some (sym r)
folds_to a b result true q s t u v ep eq es et eu ev (zero_second e r) = ap Some (sym r)
folds_to a b result false q s t u v ep eq es et eu ev (zero_second e r) =
    let on : true ≡ q = sym (same_as b zero_literal e) ∙ eq in
    sym (ap (λ q. chosen a b false q s t u v) on) ∙ ap Some (sym r)
folds_to a b result true q s t u v ep eq es et eu ev (opposite e r) = ap Some (sym r)
folds_to a b result false true s t u v ep eq es et eu ev (opposite e r) = ap Some (sym r)
folds_to a b result false false s t u v ep eq es et eu ev (opposite e r) =
    let on : true ≡ s = sym (same_as a (complement b) e) ∙ es in
    sym (ap (λ s. chosen a b false false s t u v) on) ∙ ap Some (sym r)
folds_to a b result true q s t u v ep eq es et eu ev (one_first e r) =
    absurd (never_complement zero_literal (sym (same_exact a zero_literal ep) ∙ e))
folds_to a b result false true s t u v ep eq es et eu ev (one_first e r) =
    ap Some (sym (same_exact b zero_literal eq) ∙ sym r)
folds_to a b result false false true t u v ep eq es et eu ev (one_first e r) =
    let b_is : complement b ≡ one_literal = sym (same_exact a (complement b) es) ∙ e in
    ap Some (sym (sym (complement_twice b) ∙ ap complement b_is) ∙ sym r)
folds_to a b result false false false t u v ep eq es et eu ev (one_first e r) =
    let on : true ≡ t = sym (same_as a one_literal e) ∙ et in
    sym (ap (λ t. chosen a b false false false t u v) on) ∙ ap Some (sym r)
folds_to a b result true q s t u v ep eq es et eu ev (one_second e r) =
    ap Some (sym (same_exact a zero_literal ep) ∙ sym r)
folds_to a b result false true s t u v ep eq es et eu ev (one_second e r) =
    absurd (never_complement zero_literal (sym (same_exact b zero_literal eq) ∙ e))
folds_to a b result false false true t u v ep eq es et eu ev (one_second e r) =
    ap Some (sym (same_exact a (complement b) es ∙ ap complement e) ∙ sym r)
folds_to a b result false false false true u v ep eq es et eu ev (one_second e r) =
    ap Some (e ∙ sym (same_exact a one_literal et) ∙ sym r)
folds_to a b result false false false false true v ep eq es et eu ev (one_second e r) =
    ap Some (sym (same_exact a b eu) ∙ sym r)
folds_to a b result false false false false false v ep eq es et eu ev (one_second e r) =
    let on : true ≡ v = sym (same_as b one_literal e) ∙ ev in
    sym (ap (λ v. chosen a b false false false false false v) on) ∙ ap Some (sym r)
folds_to a b result true q s t u v ep eq es et eu ev (same e r) =
    ap Some (sym (same_exact a zero_literal ep) ∙ sym r)
folds_to a b result false true s t u v ep eq es et eu ev (same e r) =
    ap Some (sym (same_exact b zero_literal eq) ∙ sym e ∙ sym r)
folds_to a b result false false true t u v ep eq es et eu ev (same e r) =
    absurd (never_complement b (sym e ∙ same_exact a (complement b) es))
folds_to a b result false false false true u v ep eq es et eu ev (same e r) = ap Some (sym e ∙ sym r)
folds_to a b result false false false false u v ep eq es et eu ev (same e r) =
    let on : true ≡ u = sym (same_as a b e) ∙ eu in
    sym (ap (λ u. chosen a b false false false false u v) on) ∙ ap Some (sym e ∙ sym r)

pub folds_fold : (a b result : NodeLit) → FoldsTo a b result → fold_of a b ≡ Some result
folds_fold a b result folds =
    folds_to a b result (is_same a zero_literal) (is_same b zero_literal) (is_same a (complement b)) (is_same a one_literal) (is_same a b)
    (is_same b one_literal) refl refl refl refl refl refl folds

pub never_folds : (a b : NodeLit) → fold_of a b ≡ None → IsFoldable a b → ⊥
never_folds a b e foldable = let found = folds_fold a b foldable.0 foldable.1 in absurd cc

-- the order of the literals doesn't matter
pub folds_swapped : (a b : NodeLit) → IsFoldable a b → IsFoldable b a
folds_swapped a b (result, zero_first e r) = (result, zero_second e r)
folds_swapped a b (result, zero_second e r) = (result, zero_first e r)
folds_swapped a b (result, one_first e r) = (result, one_second e r)
folds_swapped a b (result, one_second e r) = (result, one_first e r)
folds_swapped a b (result, same e r) = (result, same (sym e) (r ∙ e))
folds_swapped a b (result, opposite e r) =
    (result, opposite (sym (ap complement e ∙ complement_twice b)) r)

-- literals of one code are the same
pub code_exact : (a b : NodeLit) → literal_code a ≡ literal_code b → a ≡ b
code_exact a b e = go a.negated b.negated refl refl
  where
    go : (p q : Bool) → a.negated ≡ p → b.negated ≡ q → a ≡ b
    go true true ep eq =
        let code : 2 * a.id.number + 1 ≡ 2 * b.id.number + 1 = sym (ap (code_of a.id.number) ep) ∙ e ∙ ap (code_of b.id.number) eq in
        literal_exact a b (omega (arith, code)) (ep ∙ sym eq)
    go true false ep eq =
        let code : 2 * a.id.number + 1 ≡ 2 * b.id.number = sym (ap (code_of a.id.number) ep) ∙ e ∙ ap (code_of b.id.number) eq in
        absurd (omega (arith, code))
    go false true ep eq =
        let code : 2 * a.id.number ≡ 2 * b.id.number + 1 = sym (ap (code_of a.id.number) ep) ∙ e ∙ ap (code_of b.id.number) eq in
        absurd (omega (arith, code))
    go false false ep eq =
        let code : 2 * a.id.number ≡ 2 * b.id.number = sym (ap (code_of a.id.number) ep) ∙ e ∙ ap (code_of b.id.number) eq in
        literal_exact a b (omega (arith, code)) (ep ∙ sym eq)

pub and_swapped : (p q : Bool) → (p && q) ≡ (q && p)
and_swapped true true = refl
and_swapped true false = refl
and_swapped false true = refl
and_swapped false false = refl

and_twice : (p : Bool) → p ≡ (p && p)
and_twice true = refl
and_twice false = refl

and_opposite : (p : Bool) → false ≡ (not p && p)
and_opposite true = refl
and_opposite false = refl

module _ (state vector : List Bool) (graph : PlainGraph) where
  value-one : value_of graph state vector one_literal ≡ true
  value-one = ap not (value-zero state vector graph)

  not_if : (negated bit : Bool) → (if not negated then not bit else bit) ≡ not (if negated then not bit else bit)
  not_if true true = refl
  not_if true false = refl
  not_if false bit = refl

  value-complement : (a : NodeLit) → value_of graph state vector (complement a) ≡ not (value_of graph state vector a)
  value-complement a = not_if a.negated (value_of graph state vector (record { id = a.id; negated = false }))

  -- a fold has the conjunction of both values
  pub value-folded : (a b result : NodeLit) → FoldsTo a b result → value_of graph state vector result ≡ (value_of graph state vector a && value_of graph state vector b)
  value-folded a b result (zero_first e r) =
      ap (value_of graph state vector) r ∙ value-zero state vector graph ∙ sym
      (ap (λ bit. bit && value_of graph state vector b) (ap (value_of graph state vector) e ∙ value-zero state vector graph))
  value-folded a b result (zero_second e r) =
      ap (value_of graph state vector) r ∙ value-zero state vector graph ∙ sym
      (ap (λ bit. bit && value_of graph state vector a) (ap (value_of graph state vector) e ∙ value-zero state vector graph)) ∙ and_swapped
      (value_of graph state vector b) (value_of graph state vector a)
  value-folded a b result (one_first e r) =
      ap (value_of graph state vector) r ∙ sym (ap (λ bit. bit && value_of graph state vector b) (ap (value_of graph state vector) e ∙ value-one))
  value-folded a b result (one_second e r) =
      ap (value_of graph state vector) r ∙ sym (ap (λ bit. bit && value_of graph state vector a) (ap (value_of graph state vector) e ∙ value-one)) ∙ and_swapped
      (value_of graph state vector b) (value_of graph state vector a)
  value-folded a b result (same e r) =
      ap (value_of graph state vector) r ∙ and_twice (value_of graph state vector a) ∙ ap (λ bit. value_of graph state vector a && bit) (ap (value_of graph state vector) e)
  value-folded a b result (opposite e r) =
      ap (value_of graph state vector) r ∙ value-zero state vector graph ∙ and_opposite (value_of graph state vector b) ∙ sym
      (ap (λ bit. bit && value_of graph state vector b) (ap (value_of graph state vector) e ∙ value-complement b))
