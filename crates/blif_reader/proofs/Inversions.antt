-- What is known where nothing is refused.
use Rattle.std.proofs.Common.{◌≡◌, ℕ, ◌+◌, ◌≤◌, Bool, true, false, cond, ltb, List, [], ◌∷◌, ◌++◌, length, length-append, Option, Some, None, Result, Ok, Err, refl, ap, subst, ◌∙◌, arith}
use Rattle.std.specs.Option.{is_some}
use Rattle.std.specs.Str.{bytes_eq}
use Rattle.std.proofs.lemmas.Bool.{ltb-false}
use Rattle.pulse_ids.specs.Quantities.{greatest_of}
use Rattle.pulse_ids.specs.declared.quantities.Quantity.{Quantity}
use Rattle.pulse_ids.specs.declared.quantities.Quantity.TheVariants as quantities
use Rattle.numbered_names.specs.Names.{number_from, number_in, names_with, number_for}
use Rattle.numbered_names.proofs.CallerLemmas.{number_bound}
use Rattle.blif_reader.specs.declared.refusals.LineRefusal.{LineRefusal}
use Rattle.blif_reader.specs.declared.refusals.LineRefusal.TheVariants.{Limit}
use Rattle.blif_reader.specs.Refusing.{after, over}
use Rattle.blif_reader.specs.Latches.{net_read}

-- one of two, by a test
pub either : {A : Type 0} (Q : Type 0) (b : Bool) (x y : Result A LineRefusal) (value : A) → cond b x y ≡ Ok value → (x ≡ Ok value → Q) → (y ≡ Ok value → Q) → Q
either Q true x y value h f g = f h
either Q false x y value h f g = g h

refused_not : {A : Type 0} (Q : Type 0) (refusal : LineRefusal) (value : A) → ◌≡◌ {A = Result A LineRefusal} (Err refusal) (Ok value) → Q
refused_not Q refusal value h = absurd cc

-- the second of two, where the first refuses
pub allowed : {A : Type 0} (b : Bool) (refusal : LineRefusal) (next : Result A LineRefusal) (value : A) → cond b (Err refusal) next ≡ Ok value → (b ≡ false) × (next ≡ Ok value)
allowed true refusal next value h = absurd cc
allowed false refusal next value h = (refl, h)

pub over_ok : {A : Type 0} (quantity : Quantity) (count : ℕ) (next : Result A LineRefusal) (value : A) → over quantity count next ≡ Ok value → (count ≤ greatest_of quantity) × (next ≡ Ok value)
over_ok quantity count next value h =
    let k = allowed (ltb (greatest_of quantity) count) (Limit quantity) next value h in (ltb-false _ _ k.0, k.1)

pub after_ok : {A B : Type 0} (first : Result A LineRefusal) (next : A → Result B LineRefusal) (value : B) → after first next ≡ Ok value → (middle : A) × (first ≡ Ok middle) × (next middle ≡ Ok value)
after_ok (Ok middle) next value h = (middle, refl, h)
after_ok (Err refusal) next value h = absurd cc

-- a net among the nets with it
pub record NetRead (nets new : List (List ℕ)) (name : List ℕ) : Type 0 where
  pub grows : length nets ≤ length new
  pub few : length new ≤ greatest_of quantities.Nets
  pub least : 1 ≤ number_for nets name
  pub most : number_for nets name ≤ length new
  pub is : new ≡ names_with nets name

least_from : (first number : ℕ) (later : Option ℕ) (b : Bool) → (later ≡ Some number → first + 1 ≤ number) → cond b (Some first) later ≡ Some number → first ≤ number
least_from first number later true rest e = let same : first ≡ number = cc in omega arith
least_from first number later false rest e = let r = rest e in omega (arith, r)

number_least : (first : ℕ) (names : List (List ℕ)) (name : List ℕ) (number : ℕ) → number_from first names name ≡ Some number → first ≤ number
number_least first [] name number h = absurd cc
number_least first (other ∷ names) name number h =
    least_from first number (number_from (first + 1) names name) (bytes_eq name other) (number_least (first + 1) names name number) h

abbrev for_by : Option ℕ → List (List ℕ) → ℕ
for_by None nets = length nets + 1
for_by (Some number) nets = number

abbrev with_by : Option ℕ → List (List ℕ) → List ℕ → List (List ℕ)
with_by None nets name = nets ++ name ∷ []
with_by (Some number) nets name = nets

read_by : (nets new : List (List ℕ)) (name : List ℕ) → length nets ≤ greatest_of quantities.Nets → (found : Option ℕ) → number_in nets name ≡ found
    → cond (is_some (number_in nets name)) (Ok nets) (over quantities.Nets (length nets + 1) (Ok (names_with nets name))) ≡ Ok new → NetRead nets new name
read_by nets new name few (Some number) e h =
    let same : nets ≡ new = let k : ◌≡◌ {A = Result (List (List ℕ)) LineRefusal} (Ok nets) (Ok new) =
    subst (λ (o : Option ℕ). cond (is_some o) (Ok nets) (over quantities.Nets (length nets + 1) (Ok (names_with nets name))) ≡ Ok new) e h in cc in
    subst (λ (n : List (List ℕ)). NetRead nets n name) same (record {
      grows = omega arith;
      few = few;
      least = rw e (number_least 1 nets name number e);
      most = rw e (number_bound nets name number e);
      is = rw e refl;
    })
read_by nets new name few None e h =
    let k : over quantities.Nets (length nets + 1) (Ok (names_with nets name)) ≡ Ok new =
    subst (λ (o : Option ℕ). cond (is_some o) (Ok nets) (over quantities.Nets (length nets + 1) (Ok (names_with nets name))) ≡ Ok new) e h in
    let o = over_ok quantities.Nets (length nets + 1) (Ok (names_with nets name)) new k in
    let same : names_with nets name ≡ new = let j = o.1 in cc in
    let last : names_with nets name ≡ nets ++ name ∷ [] = rw e refl in
    let size : length (names_with nets name) ≡ length nets + 1 = ap length last ∙ length-append nets (name ∷ []) in
    subst (λ (n : List (List ℕ)). NetRead nets n name) same (record {
      grows = omega (arith, size);
      few = omega (arith, size, o.0);
      least = rw e (omega arith);
      most = let f : number_for nets name ≡ length nets + 1 = rw e refl in omega (arith, size, f);
      is = refl;
    })

pub net_is_read : (nets new : List (List ℕ)) (name : List ℕ) → length nets ≤ greatest_of quantities.Nets → net_read nets name ≡ Ok new → NetRead nets new name
net_is_read nets new name few h = read_by nets new name few (number_in nets name) refl h
