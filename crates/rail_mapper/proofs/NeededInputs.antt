-- The needed rails of inputs: those that are read, in range, and none twice.
use Rattle.std.proofs.Common.{◌≡◌, ◌≤◌, ◌<◌, ◌+◌, ◌*◌, ◌-◌, ◌/◌, inl, inr, ℕ, zero, suc, Bool, true, false, Some, List, [], ◌∷◌, ◌++◌, map, slice_get, ap, sym, subst, ◌∙◌, refl, arith}
use Rattle.std.proofs.Common.{append_assoc, append-nil, if◌then◌else◌}
use Rattle.std.proofs.lemmas.Bool.{cases_lt}
use Rattle.std.proofs.lemmas.Grind.{flat_map-append}
use Rattle.std.proofs.lemmas.List.{map-append}
use Rattle.pulse_ids.specs.Lists.{IsIn, occurrences, upto}
use Rattle.pulse_ids.specs.declared.literals.Sign.{Sign}
use Rattle.pulse_ids.specs.declared.literals.Sign.TheVariants.{Pos, Neg}
use Rattle.pulse_ids.proofs.CallerLemmas.{IsIn-append, IsIn-from_map, IsIn-place}
use Rattle.pulse_ids.proofs.CallerLemmasOnCounts.{occurrences-append, occurrences-head, occurrences-other, occurrences-absent, IsIn-occurrences}
use Rattle.cell_netlist.specs.declared.kinds.Ask.{Ask}
use Rattle.aig_core.specs.Graphs.{count_of}
use Rattle.graph_build.specs.Built.{PlainBuilt}
use Rattle.rail_demand.specs.Demands.{PlainDemand, is_needed}
use Rattle.rail_mapper.specs.Cells.{sign_if, needed_signs, inputs_for}
use Rattle.rail_mapper.specs.InputStages.{is_read, input_if, inputs_read}
use Rattle.rail_mapper.specs.Labels.{rail_number, sign_in}
use Rattle.rail_mapper.specs.Plans.{uses}
use Rattle.rail_mapper.specs.Stages.{IsPlan}
use Rattle.rail_mapper.proofs.InputStageLemmas.{read_so, unread_so, inputs_next}
use Rattle.rail_mapper.proofs.NodeTurns.{needed_so, unneeded_so}
use Rattle.rail_mapper.proofs.StageSteps.{node_of, sign_of}

abbrev rail_at : ℕ → Sign → ℕ × Sign
rail_at port sign = (port, sign)

abbrev port_rails : PlainDemand → ℕ → List (ℕ × Sign)
port_rails demand port = map (rail_at port) (needed_signs demand (1 + port))

inputs_more : (demand : PlainDemand) (count : ℕ) → inputs_for demand (suc count) ≡ inputs_for demand count ++ port_rails demand count
inputs_more demand count = flat_map-append (port_rails demand) (upto count) (count ∷ []) ∙ ap (λ (l : List (ℕ × Sign)). inputs_for demand count ++ l) (append-nil (port_rails demand count))

-- those that are read are those that are needed
module _ (built : PlainBuilt) (demand : PlainDemand) (ask : Ask) (plan : IsPlan built demand ask) where
  abbrev reads : List ℕ
  reads = uses built demand ask

  read_needed : (port : ℕ) (sign : Sign) → 1 + port < count_of built.graph → is_read reads (rail_number (1 + port) sign) ≡ is_needed demand (1 + port) sign
  read_needed port sign inside = elim (cases_lt 0 (occurrences (rail_number (1 + port) sign) reads)) [
    | inl some ↦ read_so reads (rail_number (1 + port) sign) (omega arith) ∙ sym (needed_so built demand ask plan (1 + port) sign inside (omega arith))
    | inr none ↦ unread_so reads (rail_number (1 + port) sign) (omega arith) ∙ sym (unneeded_so built demand ask plan (1 + port) sign inside (omega arith))
  ]

  one_input : (port : ℕ) (sign : Sign) → 1 + port < count_of built.graph → input_if reads (rail_number (1 + port) sign) ≡ map (rail_at port) (sign_if (is_needed demand (1 + port) sign) sign)
  one_input port sign inside =
      ap (λ (b : Bool). if b then rail_at (rail_number (1 + port) sign / 2 - 1) (sign_in (rail_number (1 + port) sign)) ∷ [] else []) (read_needed port sign inside)
      ∙ ap (λ (k : ℕ). if is_needed demand (1 + port) sign then rail_at (k - 1) (sign_in (rail_number (1 + port) sign)) ∷ [] else []) (node_of (1 + port) sign)
      ∙ (let z : 1 + port - 1 ≡ port = omega arith in ap (λ (k : ℕ). if is_needed demand (1 + port) sign then rail_at k (sign_in (rail_number (1 + port) sign)) ∷ [] else []) z)
      ∙ ap (λ (s : Sign). if is_needed demand (1 + port) sign then rail_at port s ∷ [] else []) (sign_of (1 + port) sign)
      ∙ by (is_needed demand (1 + port) sign)
    where
      by : (b : Bool) → (if b then rail_at port sign ∷ [] else []) ≡ map (rail_at port) (sign_if b sign)
      by true = refl
      by false = refl

  pub inputs_are : (count : ℕ) → count < count_of built.graph → inputs_read reads (2 * count) ≡ inputs_for demand count
  inputs_are zero low = refl
  inputs_are (suc count) low =
      (let z : 2 * suc count ≡ (2 * count + 1) + 1 = omega arith in ap (inputs_read reads) z) ∙ inputs_next reads (2 * count + 1)
      ∙ ap (λ (l : List (ℕ × Sign)). l ++ input_if reads (2 + (2 * count + 1))) (inputs_next reads (2 * count))
      ∙ append_assoc (inputs_read reads (2 * count)) (input_if reads (2 + 2 * count)) (input_if reads (2 + (2 * count + 1)))
      ∙ ap (λ (l : List (ℕ × Sign)). l ++ (input_if reads (2 + 2 * count) ++ input_if reads (2 + (2 * count + 1)))) (inputs_are count (omega arith))
      ∙ ap (λ (l : List (ℕ × Sign)). inputs_for demand count ++ l) both ∙ sym (inputs_more demand count)
    where
      inside : 1 + count < count_of built.graph
      inside = omega arith

      both : input_if reads (2 + 2 * count) ++ input_if reads (2 + (2 * count + 1)) ≡ port_rails demand count
      both =
          (let z : 2 + 2 * count ≡ rail_number (1 + count) Pos = omega arith in ap (λ (r : ℕ). input_if reads r ++ input_if reads (2 + (2 * count + 1))) z)
          ∙ (let z : 2 + (2 * count + 1) ≡ rail_number (1 + count) Neg = omega arith in ap (λ (r : ℕ). input_if reads (rail_number (1 + count) Pos) ++ input_if reads r) z)
          ∙ ap (λ (l : List (ℕ × Sign)). l ++ input_if reads (rail_number (1 + count) Neg)) (one_input count Pos inside)
          ∙ ap (λ (l : List (ℕ × Sign)). map (rail_at count) (sign_if (is_needed demand (1 + count) Pos) Pos) ++ l) (one_input count Neg inside)
          ∙ sym (map-append (rail_at count) (sign_if (is_needed demand (1 + count) Pos) Pos) (sign_if (is_needed demand (1 + count) Neg) Neg))

-- the ports are in range
pub inputs_within : (demand : PlainDemand) (count : ℕ) (rail : ℕ × Sign) → IsIn rail (inputs_for demand count) → rail.0 < count
inputs_within demand zero rail m = absurd m
inputs_within demand (suc count) rail m = elim (IsIn-append rail (inputs_for demand count) (port_rails demand count) (subst (λ (l : List (ℕ × Sign)). IsIn rail l) (inputs_more demand count) m)) [
  | inl k ↦ let r = inputs_within demand count rail k in omega arith
  | inr k ↦ let f = IsIn-from_map (rail_at count) rail (needed_signs demand (1 + count)) k in let e : count ≡ rail.0 = ap (λ (p : ℕ × Sign). p.0) f.2 in omega arith
]

-- no port and sign stand twice
abbrev code : ℕ × Sign → ℕ
code rail = rail_number rail.0 rail.1

code_bounds : (port : ℕ) (sign : Sign) → (2 * port ≤ rail_number port sign) × (rail_number port sign ≤ 2 * port + 1)
code_bounds port Pos = (omega arith, omega arith)
code_bounds port Neg = (omega arith, omega arith)

one_at : (wire first : ℕ) (rest : List ℕ) → occurrences wire rest ≤ 1 → (first ≡ wire → occurrences wire rest ≡ 0) → occurrences wire (first ∷ rest) ≤ 1
one_at wire first rest few none = elim (cases_lt first wire) [
  | inl less ↦ let e = occurrences-other wire first rest (λ same. absurd (omega arith)) in omega arith
  | inr more ↦ elim (cases_lt wire first) [
    | inl less ↦ let e = occurrences-other wire first rest (λ same. absurd (omega arith)) in omega arith
    | inr less ↦ let same : first ≡ wire = omega arith in let e = occurrences-head wire first rest same in let z = none same in omega arith
  ]
]

port_once : (demand : PlainDemand) (port wire : ℕ) → occurrences wire (map code (port_rails demand port)) ≤ 1
port_once demand port wire = by (is_needed demand (1 + port) Pos) (is_needed demand (1 + port) Neg)
  where
    by : (p q : Bool) → occurrences wire (map code (map (rail_at port) (sign_if p Pos ++ sign_if q Neg))) ≤ 1
    by true true = one_at wire (2 * port) ((2 * port + 1) ∷ []) (one_at wire (2 * port + 1) [] (omega arith) (λ same. refl))
        (λ same. occurrences-other wire (2 * port + 1) [] (λ e. absurd (omega arith)))
    by true false = one_at wire (2 * port) [] (omega arith) (λ same. refl)
    by false true = one_at wire (2 * port + 1) [] (omega arith) (λ same. refl)
    by false false = omega arith

inputs_once : (demand : PlainDemand) (count wire : ℕ) → occurrences wire (map code (inputs_for demand count)) ≤ 1
inputs_once demand zero wire = omega arith
inputs_once demand (suc count) wire =
    let a = ap (occurrences wire) (ap (map code) (inputs_more demand count) ∙ map-append code (inputs_for demand count) (port_rails demand count)) in
    let b = occurrences-append wire (map code (inputs_for demand count)) (map code (port_rails demand count)) in
    let r = inputs_once demand count wire in
    let p = port_once demand count wire in
    elim (cases_lt wire (2 * count)) [
      | inl low ↦
          let none = occurrences-absent wire (map code (port_rails demand count)) (λ m.
          let f = IsIn-from_map code wire (port_rails demand count) m in let g = IsIn-from_map (rail_at count) f.0 (needed_signs demand (1 + count)) f.1 in
          let e : rail_number count g.0 ≡ wire = ap code g.2 ∙ f.2 in let k = code_bounds count g.0 in absurd (omega arith)) in
          omega arith
      | inr far ↦
          let none = occurrences-absent wire (map code (inputs_for demand count)) (λ m.
          let f = IsIn-from_map code wire (inputs_for demand count) m in let low = inputs_within demand count f.0 f.1 in let k = code_bounds f.0.0 f.0.1 in let e = f.2 in absurd (omega arith)) in
          omega arith
    ]

stands_twice : (xs : List ℕ) (wire i j : ℕ) → i < j → slice_get xs i ≡ Some wire → slice_get xs j ≡ Some wire → 2 ≤ occurrences wire xs
stands_twice [] wire i j less e f = absurd cc
stands_twice (x ∷ xs) wire i zero less e f = absurd (omega arith)
stands_twice (x ∷ xs) wire zero (suc j) less e f =
    let same : x ≡ wire = cc in let h = occurrences-head wire x xs same in let k = IsIn-occurrences wire xs (IsIn-place wire xs j f) in omega arith
stands_twice (x ∷ xs) wire (suc i) (suc j) less e f = let r = stands_twice xs wire i j (omega arith) e f in let k = occurrences-append wire (x ∷ []) xs in omega arith

mapped_place : {X : Type 0} (f : X → ℕ) (xs : List X) (i : ℕ) (x : X) → slice_get xs i ≡ Some x → slice_get (map f xs) i ≡ Some (f x)
mapped_place f [] i x e = absurd cc
mapped_place f (y ∷ xs) zero x e = let same : y ≡ x = cc in ap (λ z. Some (f z)) same
mapped_place f (y ∷ xs) (suc i) x e = mapped_place f xs i x e

pub inputs_none_twice : {X : Type 0} (rail_of : X → ℕ × Sign) (demand : PlainDemand) (count : ℕ) (rails : List X) → map rail_of rails ≡ inputs_for demand count
    → (first later : ℕ) (rail other : X) → first < later
    → slice_get rails first ≡ Some rail → slice_get rails later ≡ Some other → (rail_of rail).0 ≡ (rail_of other).0 → (rail_of rail).1 ≡ (rail_of other).1 → ⊥
inputs_none_twice {X = X} rail_of demand count rails is first later rail other less e f ports signs =
    let same : code (rail_of other) ≡ code (rail_of rail) = ap (λ (k : ℕ). rail_number k (rail_of other).1) (sym ports) ∙ ap (rail_number (rail_of rail).0) (sym signs) in
    let two = stands_twice (map (λ x. code (rail_of x)) rails) (code (rail_of rail)) first later less (mapped_place (λ x. code (rail_of x)) rails first rail e)
    (mapped_place (λ x. code (rail_of x)) rails later other f ∙ ap Some same) in
    let one = inputs_once demand count (code (rail_of rail)) in
    let all = ap (occurrences (code (rail_of rail))) (codes rails ∙ ap (map code) is) in absurd (omega arith)
  where
    codes : (xs : List X) → map (λ x. code (rail_of x)) xs ≡ map code (map rail_of xs)
    codes [] = refl
    codes (x ∷ xs) = ap (λ (l : List ℕ). code (rail_of x) ∷ l) (codes xs)
