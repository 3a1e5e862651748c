-- Nets are the names in the order in which they first appear.
use Rattle.std.proofs.Common.{◌≡◌, ℕ, ◌+◌, Bool, true, false, not, ◌||◌, ◌&&◌, cond, List, [], ◌∷◌, ◌++◌, length, Option, Some, None, refl, sym, ap, ◌∙◌, append_assoc, arith}
use Rattle.std.specs.Prelude.{filter, unwrap_or}
use Rattle.std.specs.Option.{is_some}
use Rattle.std.specs.Str.{bytes_eq}
use Rattle.std.proofs.lemmas.List.{append-nil}
use Rattle.std.proofs.lemmas.Slice.Eq.{bytes_eq-Decides}
use Rattle.numbered_names.specs.Names.{number_from, number_in, names_with, number_for}
use Rattle.blif_reader.specs.Tellings.{firsts, net_of}

-- names, of which each one that isn't there yet joins behind
abbrev pub joined : List (List ℕ) → List (List ℕ) → List (List ℕ)
joined nets [] = nets
joined nets (name ∷ names) = joined (names_with nets name) names

pub joined_on : (nets names more : List (List ℕ)) → joined nets (names ++ more) ≡ joined (joined nets names) more
joined_on nets [] more = refl
joined_on nets (name ∷ names) more = joined_on (names_with nets name) names more

-- the first names of a longer list
pub record Extends (small big : List (List ℕ)) : Type 0 where
  pub more : List (List ℕ)
  pub is : big ≡ small ++ more

pub extends_same : (nets : List (List ℕ)) → Extends nets nets
extends_same nets = record { more = []; is = sym (append-nil nets) }

pub extends_on : (small middle big : List (List ℕ)) → Extends small middle → Extends middle big → Extends small big
extends_on small middle big a b = record {
  more = a.more ++ b.more;
  is = b.is ∙ ap (λ (l : List (List ℕ)). l ++ b.more) a.is ∙ append_assoc small a.more b.more;
}

with_by : (there : Bool) (nets : List (List ℕ)) (name : List ℕ) → Extends nets (cond there nets (nets ++ name ∷ []))
with_by true nets name = extends_same nets
with_by false nets name = record { more = name ∷ []; is = refl }

pub extends_with : (nets : List (List ℕ)) (name : List ℕ) → Extends nets (names_with nets name)
extends_with nets name = with_by (is_some (number_in nets name)) nets name

pub extends_joined : (nets names : List (List ℕ)) → Extends nets (joined nets names)
extends_joined nets [] = extends_same nets
extends_joined nets (name ∷ names) = extends_on nets (names_with nets name) (joined nets (name ∷ names)) (extends_with nets name) (extends_joined (names_with nets name) names)

more_by : (b : Bool) (first number : ℕ) (later longer : Option ℕ) → (later ≡ Some number → longer ≡ Some number) → cond b (Some first) later ≡ Some number → cond b (Some first) longer ≡ Some number
more_by true first number later longer rest h = h
more_by false first number later longer rest h = rest h

-- further names leave the numbers of those before them
number_more : (first : ℕ) (names more : List (List ℕ)) (name : List ℕ) (number : ℕ) → number_from first names name ≡ Some number → number_from first (names ++ more) name ≡ Some number
number_more first [] more name number h = absurd cc
number_more first (other ∷ names) more name number h =
    more_by (bytes_eq name other) first number (number_from (first + 1) names name) (number_from (first + 1) (names ++ more) name) (number_more (first + 1) names more name number) h

new_by : (b : Bool) (first n m : ℕ) (later longer : Option ℕ) → n ≡ m → (later ≡ None → longer ≡ Some n) → cond b (Some first) later ≡ None → cond b (Some first) longer ≡ Some m
new_by true first n m later longer e rest h = absurd cc
new_by false first n m later longer e rest h = rest h ∙ ap (λ k. Some k) e

alone_by : (b : Bool) (first : ℕ) → b ≡ true → cond b (Some first) None ≡ Some (first + 0)
alone_by true first e = ap (λ k. Some k) (let s : first ≡ first + 0 = omega arith in s)
alone_by false first e = absurd cc

-- a name that isn't there gets the next number
number_new : (first : ℕ) (names : List (List ℕ)) (name : List ℕ) → number_from first names name ≡ None → number_from first (names ++ name ∷ []) name ≡ Some (first + length names)
number_new first [] name h = alone_by (bytes_eq name name) first ((bytes_eq-Decides name name).1 refl)
number_new first (other ∷ names) name h =
    new_by (bytes_eq name other) first (first + 1 + length names) (first + length (other ∷ names)) (number_from (first + 1) names name) (number_from (first + 1) (names ++ name ∷ []) name)
    (omega arith) (number_new (first + 1) names name) h

numbered_by : (nets : List (List ℕ)) (name : List ℕ) (found : Option ℕ) → number_in nets name ≡ found → number_in (names_with nets name) name ≡ Some (number_for nets name)
numbered_by nets name (Some number) e = rw e e
numbered_by nets name None e = rw e (number_new 1 nets name e ∙ ap (λ k. Some k) (let s : 1 + length nets ≡ length nets + 1 = omega arith in s))

-- a name has the same number in all longer lists
pub net_kept : (nets big : List (List ℕ)) (name : List ℕ) → Extends (names_with nets name) big → net_of big name ≡ number_for nets name
net_kept nets big name x =
    ap (λ (b : List (List ℕ)). net_of b name) x.is
    ∙ ap (λ (o : Option ℕ). unwrap_or o 0) (number_more 1 (names_with nets name) x.more name (number_for nets name) (numbered_by nets name (number_in nets name) refl))

module _ (p q : List ℕ → Bool) where
  both_by : (a b : Bool) (name : List ℕ) (xs ys : List (List ℕ)) → p name ≡ a → (a ≡ true → b ≡ true) → filter p xs ≡ ys → filter p (cond b (name ∷ xs) xs) ≡ cond a (name ∷ ys) ys
  both_by true true name xs ys e f h = rw e (ap (λ (l : List (List ℕ)). name ∷ l) h)
  both_by true false name xs ys e f h = absurd (let k = f refl in cc)
  both_by false true name xs ys e f h = rw e h
  both_by false false name xs ys e f h = h

  -- two tests, the second of which the first one implies
  filter_both : (names : List (List ℕ)) → ((name : List ℕ) → p name ≡ true → q name ≡ true) → filter p (filter q names) ≡ filter p names
  filter_both [] f = refl
  filter_both (name ∷ names) f = both_by (p name) (q name) name (filter q names) (filter p names) refl (f name) (filter_both names f)

module _ (r p q : List ℕ → Bool) where
  split_by : (a b c : Bool) (name : List ℕ) (xs ys : List (List ℕ)) → p name ≡ a → c ≡ (b && a) → filter p xs ≡ ys → cond c (name ∷ ys) ys ≡ filter p (cond b (name ∷ xs) xs)
  split_by true true c name xs ys e f h = rw (e, f) (ap (λ (l : List (List ℕ)). name ∷ l) (sym h))
  split_by true false c name xs ys e f h = rw f (sym h)
  split_by false true c name xs ys e f h = rw (e, f) (sym h)
  split_by false false c name xs ys e f h = rw f (sym h)

  -- a test that is two tests
  filter_split : (names : List (List ℕ)) → ((name : List ℕ) → r name ≡ (q name && p name)) → filter r names ≡ filter p (filter q names)
  filter_split [] f = refl
  filter_split (name ∷ names) f =
      ap (λ (l : List (List ℕ)). cond (r name) (name ∷ l) l) (filter_split names f)
      ∙ split_by (p name) (q name) (r name) name (filter q names) (filter p (filter q names)) refl (f name) refl

filter_true : (names : List (List ℕ)) → filter (λ name. true) names ≡ names
filter_true [] = refl
filter_true (name ∷ names) = ap (λ (l : List (List ℕ)). name ∷ l) (filter_true names)

-- whether a name isn't there yet
abbrev is_new : List (List ℕ) → List ℕ → Bool
is_new nets name = not (is_some (number_in nets name))

abbrev is_other : List ℕ → List ℕ → Bool
is_other name other = not (bytes_eq other name)

some_by : (b c : Bool) (first : ℕ) (later longer : Option ℕ) → is_some longer ≡ (c || is_some later) → is_some (cond b (Some first) longer) ≡ (c || is_some (cond b (Some first) later))
some_by true true first later longer e = refl
some_by true false first later longer e = refl
some_by false c first later longer e = e

last_by : (b : Bool) (first : ℕ) → is_some (cond b (Some first) None) ≡ (b || false)
last_by true first = refl
last_by false first = refl

some_more : (first : ℕ) (nets : List (List ℕ)) (name other : List ℕ) → is_some (number_from first (nets ++ name ∷ []) other) ≡ (bytes_eq other name || is_some (number_from first nets other))
some_more first [] name other = last_by (bytes_eq other name) first
some_more first (net ∷ nets) name other =
    some_by (bytes_eq other net) (bytes_eq other name) first (number_from (first + 1) nets other) (number_from (first + 1) (nets ++ name ∷ []) other) (some_more (first + 1) nets name other)

neither : (a b c : Bool) → c ≡ (a || b) → not c ≡ (not a && not b)
neither true b c e = rw e refl
neither false b c e = rw e refl

other_by : (nets : List (List ℕ)) (name other : List ℕ) (number : ℕ) (same : Bool) → number_in nets name ≡ Some number → bytes_eq other name ≡ same → is_new nets other ≡ true → not same ≡ true
other_by nets name other number false e f h = refl
other_by nets name other number true e f h =
    let is : other ≡ name = (bytes_eq-Decides other name).0 f in
    let k : is_new nets other ≡ false = ap (λ (n : List ℕ). is_new nets n) is ∙ ap (λ (o : Option ℕ). not (is_some o)) e in
    absurd cc

joined_by : (nets names rest : List (List ℕ)) (name : List ℕ) (found : Option ℕ) → number_in nets name ≡ found
    → ((first : List (List ℕ)) → joined first names ≡ first ++ filter (is_new first) rest)
    → joined (names_with nets name) names ≡ nets ++ filter (is_new nets) (name ∷ filter (is_other name) rest)
joined_by nets names rest name (Some number) e f =
    let there : names_with nets name ≡ nets = rw e refl in
    let old : is_new nets name ≡ false = rw e refl in
    let same : filter (is_new nets) (filter (is_other name) rest) ≡ filter (is_new nets) rest =
    filter_both (is_new nets) (is_other name) rest (λ other h. other_by nets name other number (bytes_eq other name) e refl h) in
    ap (λ (l : List (List ℕ)). joined l names) there ∙ f nets ∙ ap (λ (l : List (List ℕ)). nets ++ l) (sym same)
    ∙ ap (λ b. nets ++ cond b (name ∷ filter (is_new nets) (filter (is_other name) rest)) (filter (is_new nets) (filter (is_other name) rest))) (sym old)
joined_by nets names rest name None e f =
    let there : names_with nets name ≡ nets ++ name ∷ [] = rw e refl in
    let new : is_new nets name ≡ true = rw e refl in
    let same : filter (is_new (nets ++ name ∷ [])) rest ≡ filter (is_new nets) (filter (is_other name) rest) =
    filter_split (is_new (nets ++ name ∷ [])) (is_new nets) (is_other name) rest (λ other. neither (bytes_eq other name) (is_some (number_in nets other)) _ (some_more 1 nets name other)) in
    ap (λ (l : List (List ℕ)). joined l names) there ∙ f (nets ++ name ∷ []) ∙ append_assoc nets (name ∷ []) (filter (is_new (nets ++ name ∷ [])) rest)
    ∙ ap (λ (l : List (List ℕ)). nets ++ (name ∷ l)) same
    ∙ ap (λ b. nets ++ cond b (name ∷ filter (is_new nets) (filter (is_other name) rest)) (filter (is_new nets) (filter (is_other name) rest))) (sym new)

joined_new : (names nets : List (List ℕ)) → joined nets names ≡ nets ++ filter (is_new nets) (firsts names)
joined_new [] nets = sym (append-nil nets)
joined_new (name ∷ names) nets = joined_by nets names (firsts names) name (number_in nets name) refl (λ first. joined_new names first)

-- names that join one after the other
pub joined_firsts : (names : List (List ℕ)) → joined [] names ≡ firsts names
joined_firsts names = joined_new names [] ∙ filter_true (firsts names)
