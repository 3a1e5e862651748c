-- Names of ports that are given one after the other.
use Rattle.std.proofs.Common.{◌≡◌, ◌≤◌, ◌<◌, ◌+◌, ◌==◌, inl, inr, ℕ, zero, suc, Bool, true, false, Option, Some, None, List, [], ◌∷◌, ◌++◌, length, ap, sym, subst, ◌∙◌, refl, arith, if◌then◌else◌}
use Rattle.std.specs.Prelude.{slice_index_or}
use Rattle.std.proofs.lemmas.Bool.{eq-eqb, ne_eqb, cases_lt}
use Rattle.pulse_ids.specs.Lists.{IsIn}
use Rattle.pulse_ids.proofs.CallerLemmas.{IsIn-append}
use Rattle.cell_netlist.specs.Names.{name_at, IsAboveAll}
use Rattle.cell_netlist.specs.Netlists.{PlainNetlist}
use Rattle.rail_mapper.specs.Naming.{NamesOne, unnamed, named, AreNamed, HasNames, NamesInputs, NamesOutputs, NamesPorts}

abbrev pair : ℕ → List ℕ → ℕ × List ℕ
pair port name = (port, name)

-- a port has no name among names of lower ports
none_above : (names : List (ℕ × List ℕ)) (count port : ℕ) → IsAboveAll count names → count ≤ port → name_at names port ≡ None
none_above [] count port above far = refl
none_above (first ∷ names) count port above far =
    let low = above first (inl refl) in
    let e : (port == first.0) ≡ false = ne_eqb port first.0 (λ same. absurd (omega arith)) in
    ap (λ (b : Bool). if b then Some first.1 else name_at names port) e ∙ none_above names count port (λ other m. above other (inr m)) far

-- one name more behind
name_before : (names : List (ℕ × List ℕ)) (count port : ℕ) (name : List ℕ) → (port ≡ count → ⊥) → name_at (names ++ pair count name ∷ []) port ≡ name_at names port
name_before [] count port name other = let e : (port == count) ≡ false = ne_eqb port count other in ap (λ (b : Bool). if b then Some name else None) e
name_before (first ∷ names) count port name other = ap (λ (o : Option (List ℕ)). if port == first.0 then Some first.1 else o) (name_before names count port name other)

name_last : (names : List (ℕ × List ℕ)) (count : ℕ) (name : List ℕ) → IsAboveAll count names → name_at (names ++ pair count name ∷ []) count ≡ Some name
name_last [] count name above = let e : (count == count) ≡ true = eq-eqb count count refl in ap (λ (b : Bool). if b then Some name else None) e
name_last (first ∷ names) count name above =
    let low = above first (inl refl) in
    let e : (count == first.0) ≡ false = ne_eqb count first.0 (λ same. absurd (omega arith)) in
    ap (λ (b : Bool). if b then Some first.1 else name_at (names ++ pair count name ∷ []) count) e ∙ name_last names count name (λ other m. above other (inr m))

-- one port further
pub named_one : (names : List (Option (List ℕ))) (count : ℕ) (name : Option (List ℕ)) (before after : List (ℕ × List ℕ)) → slice_index_or names count None ≡ name
    → AreNamed names count before → NamesOne count name before after → AreNamed names (count + 1) after
named_one names count name before after item h (unnamed none e) = subst (AreNamed names (count + 1)) (sym e) (record {
  each = λ port low. elim (cases_lt port count) [
    | inl less ↦ h.each port less
    | inr same ↦
        let z : count ≡ port = omega arith in
        subst (λ (k : ℕ). name_at before k ≡ slice_index_or names k None) z (none_above before count count h.below (omega arith) ∙ sym none ∙ sym item)
  ];
  below = λ other m. let l = h.below other m in omega arith;
})
named_one names count name before after item h (named its is e) = subst (AreNamed names (count + 1)) (sym e) (record {
  each = λ port low. elim (cases_lt port count) [
    | inl less ↦ name_before before count port its (λ same. absurd (omega arith)) ∙ h.each port less
    | inr same ↦
        let z : count ≡ port = omega arith in
        subst (λ (k : ℕ). name_at (before ++ pair count its ∷ []) k ≡ slice_index_or names k None) z (name_last before count its h.below ∙ sym is ∙ sym item)
  ];
  below = λ other m. elim (IsIn-append other before (pair count its ∷ []) m) [
    | inl k ↦ let l = h.below other k in omega arith
    | inr k ↦ last other k
  ];
})
  where
    last : (other : ℕ × List ℕ) → IsIn other (pair count its ∷ []) → other.0 < count + 1
    last other (inl same) = let z : count ≡ other.0 = ap (λ (p : ℕ × List ℕ). p.0) same in omega arith
    last other (inr m) = absurd m

-- none, and all
pub named_none : (names : List (Option (List ℕ))) (before : List (ℕ × List ℕ)) → before ≡ [] → AreNamed names 0 before
named_none names before bare = subst (AreNamed names 0) (sym bare) (record { each = λ port low. absurd (omega arith); below = λ other m. absurd m })

past_end : (names : List (Option (List ℕ))) (port : ℕ) → length names ≤ port → slice_index_or names port None ≡ None
past_end [] port far = refl
past_end (name ∷ names) zero far = absurd (omega arith)
past_end (name ∷ names) (suc port) far = past_end names port (omega arith)

pub named_all : (names : List (Option (List ℕ))) (after : List (ℕ × List ℕ)) → AreNamed names (length names) after → HasNames names after
named_all names after h port = elim (cases_lt port (length names)) [
  | inl low ↦ h.each port low
  | inr far ↦ none_above after (length names) port h.below far ∙ sym (past_end names port far)
]

-- the names of both sides
pub names_ports : (ins outs : List (Option (List ℕ))) (before middle after : PlainNetlist) → NamesInputs ins before middle → NamesOutputs outs middle after → NamesPorts ins outs before after
names_ports ins outs before middle after a b = record {
  added = b.added ∙ ap (λ (n : PlainNetlist). record n { output_names = after.output_names }) a.added
      ∙ ap (λ (l : List (ℕ × List ℕ)). record before { input_names = l; output_names = after.output_names }) (sym same);
  inputs = subst (HasNames ins) (sym same) a.each;
  outputs = b.each;
}
  where
    same : after.input_names ≡ middle.input_names
    same = ap (λ (n : PlainNetlist). n.input_names) b.added
