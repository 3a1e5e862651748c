-- A text of whole lines: its units are its lines.
use Rattle.std.proofs.Common.{◌≡◌, ℕ, Bool, true, false, cond, List, [], ◌∷◌, ◌++◌, length, map, refl, sym, ◌∙◌, ap, inl, inr}
use Rattle.std.specs.List.{flat_map}
use Rattle.std.proofs.lemmas.List.{append_assoc, append-nil}
use Rattle.pulse_ids.specs.Lists.{IsIn}
use Rattle.word_scan.proofs.CallerLemmasDecimals.{IsFree}
use Rattle.aiger_reader.specs.declared.units.UnitKind.{UnitKind}
use Rattle.aiger_reader.specs.declared.units.UnitKind.TheVariants.{Line, Delta}
use Rattle.aiger_reader.specs.Units.{ends_with, units_after, begun_after}
use Rattle.aiger_reader.specs.Sources.{last_unit}
use Rattle.source_texts.specs.Texts.{spaced, line}

module _ (kind : List (List ℕ) → UnitKind) (before : List (List ℕ)) (is : kind before ≡ Line) where
  -- a line that has begun goes on to its end
  pub units_on : (begun body rest : List ℕ) → IsFree 10 body
      → units_after kind before begun (body ++ 10 ∷ rest)
      ≡ ((begun ++ body) ++ 10 ∷ []) ∷ units_after kind (before ++ ((begun ++ body) ++ 10 ∷ []) ∷ []) [] rest
  units_on begun [] rest free =
      (let ends : ends_with (kind before) (length begun) 10 ≡ true = ap (λ (k : UnitKind). ends_with k (length begun) 10) is in
      ap (λ (t : Bool). cond t ((begun ++ 10 ∷ []) ∷ units_after kind (before ++ (begun ++ 10 ∷ []) ∷ []) [] rest) (units_after kind before (begun ++ 10 ∷ []) rest)) ends)
      ∙ ap (λ (l : List ℕ). (l ++ 10 ∷ []) ∷ units_after kind (before ++ (l ++ 10 ∷ []) ∷ []) [] rest) (sym (append-nil begun))
  units_on begun (byte ∷ body) rest free =
      (let goes : ends_with (kind before) (length begun) byte ≡ false = ap (λ (k : UnitKind). ends_with k (length begun) byte) is ∙ free.0 in
      let more : List ℕ = begun ++ byte ∷ [] in
      let left : List ℕ = body ++ 10 ∷ rest in
      ap (λ (t : Bool). cond t (more ∷ units_after kind (before ++ more ∷ []) [] left) (units_after kind before more left)) goes)
      ∙ units_on (begun ++ byte ∷ []) body rest free.1
      ∙ ap (λ (l : List ℕ). (l ++ 10 ∷ []) ∷ units_after kind (before ++ (l ++ 10 ∷ []) ∷ []) [] rest) (append_assoc begun (byte ∷ []) body)

  pub begun_on : (begun body rest : List ℕ) → IsFree 10 body
      → begun_after kind before begun (body ++ 10 ∷ rest) ≡ begun_after kind (before ++ ((begun ++ body) ++ 10 ∷ []) ∷ []) [] rest
  begun_on begun [] rest free =
      (let ends : ends_with (kind before) (length begun) 10 ≡ true = ap (λ (k : UnitKind). ends_with k (length begun) 10) is in
      ap (λ (t : Bool). cond t (begun_after kind (before ++ (begun ++ 10 ∷ []) ∷ []) [] rest) (begun_after kind before (begun ++ 10 ∷ []) rest)) ends)
      ∙ ap (λ (l : List ℕ). begun_after kind (before ++ (l ++ 10 ∷ []) ∷ []) [] rest) (sym (append-nil begun))
  begun_on begun (byte ∷ body) rest free =
      (let goes : ends_with (kind before) (length begun) byte ≡ false = ap (λ (k : UnitKind). ends_with k (length begun) byte) is ∙ free.0 in
      let more : List ℕ = begun ++ byte ∷ [] in
      let left : List ℕ = body ++ 10 ∷ rest in
      ap (λ (t : Bool). cond t (begun_after kind (before ++ more ∷ []) [] left) (begun_after kind before more left)) goes)
      ∙ begun_on (begun ++ byte ∷ []) body rest free.1
      ∙ ap (λ (l : List ℕ). begun_after kind (before ++ (l ++ 10 ∷ []) ∷ []) [] rest) (append_assoc begun (byte ∷ []) body)

-- no word of these lines ends a line
abbrev pub AreWhole : List (List (List ℕ)) → Type 0
AreWhole lines = (words : List (List ℕ)) → IsIn words lines → IsFree 10 (spaced words)

-- lines behind a header
module _ (kind : List (List ℕ) → UnitKind) (header : List ℕ) (is : (more : List (List ℕ)) → kind (header ∷ more) ≡ Line) where
  pub units_are : (lines : List (List (List ℕ))) (more : List (List ℕ)) → AreWhole lines → units_after kind (header ∷ more) [] (flat_map line lines) ≡ map line lines
  units_are [] more whole = refl
  units_are (words ∷ lines) more whole =
      ap (units_after kind (header ∷ more) []) (append_assoc (spaced words) (10 ∷ []) (flat_map line lines))
      ∙ units_on kind (header ∷ more) (is more) [] (spaced words) (flat_map line lines) (whole words (inl refl))
      ∙ ap (λ (units : List (List ℕ)). line words ∷ units) (units_are lines (more ++ line words ∷ []) (λ w i. whole w (inr i)))

  pub begun_is : (lines : List (List (List ℕ))) (more : List (List ℕ)) → AreWhole lines → begun_after kind (header ∷ more) [] (flat_map line lines) ≡ []
  begun_is [] more whole = refl
  begun_is (words ∷ lines) more whole =
      ap (begun_after kind (header ∷ more) []) (append_assoc (spaced words) (10 ∷ []) (flat_map line lines))
      ∙ begun_on kind (header ∷ more) (is more) [] (spaced words) (flat_map line lines) (whole words (inl refl))
      ∙ begun_is lines (more ++ line words ∷ []) (λ w i. whole w (inr i))

pub nothing_begun : (kind : UnitKind) → last_unit kind [] ≡ []
nothing_begun Line = refl
nothing_begun Delta = refl
