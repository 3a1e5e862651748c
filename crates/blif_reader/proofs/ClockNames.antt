-- Where the clock stands among the names of lines, and where its net in their machine.
use Rattle.std.proofs.Common.{◌≡◌, ℕ, suc, ◌+◌, ◌≤◌, Bool, true, false, not, ◌||◌, ◌&&◌, ◌==◌, cond, List, [], ◌∷◌, ◌++◌, Option, Some, None, refl, sym, ap, subst, ◌∙◌, append_assoc, arith}
use Rattle.std.specs.Prelude.{⊤, unwrap_or}
use Rattle.std.specs.Option.{is_some}
use Rattle.std.specs.Str.{bytes_eq}
use Rattle.std.specs.List.{flat_map, list_any}
use Rattle.std.proofs.lemmas.Slice.Eq.{bytes_eq-Decides}
use Rattle.std.proofs.lemmas.Bool.{eqb-true, eq-eqb}
use Rattle.std.proofs.lemmas.List.Folds.{list_any-append}
use Rattle.numbered_names.specs.Names.{number_from, number_in}
use Rattle.blif_reader.specs.Tellings.{firsts, net_of}
use Rattle.blif_reader.proofs.NewNets.{stands_in, numbered, firsts_stand}

-- a name has a number
abbrev pub Stands : List (List ℕ) → List (List ℕ) → Type 0
Stands nets [] = ⊤
Stands nets (name ∷ names) = (is_some (number_in nets name) ≡ true) × Stands nets names

least_by : (b : Bool) (first number : ℕ) (later : Option ℕ) → (later ≡ Some number → first + 1 ≤ number) → cond b (Some first) later ≡ Some number → first ≤ number
least_by true first number later rest e = let same : first ≡ number = cc in omega (arith, same)
least_by false first number later rest e = let r = rest e in omega (arith, r)

number_least : (first : ℕ) (names : List (List ℕ)) (name : List ℕ) (number : ℕ) → number_from first names name ≡ Some number → first ≤ number
number_least first [] name number h = absurd cc
number_least first (other ∷ names) name number h =
    least_by (bytes_eq name other) first number (number_from (first + 1) names name) (number_least (first + 1) names name number) h

same_by : (a b : Bool) (first number : ℕ) (one other name : List ℕ) (x y : Option ℕ) → bytes_eq one name ≡ a → bytes_eq other name ≡ b
    → (x ≡ Some number → first + 1 ≤ number) → (y ≡ Some number → first + 1 ≤ number) → (x ≡ Some number → y ≡ Some number → one ≡ other)
    → cond a (Some first) x ≡ Some number → cond b (Some first) y ≡ Some number → one ≡ other
same_by true true first number one other name x y e f p q rest h k = (bytes_eq-Decides one name).0 e ∙ sym ((bytes_eq-Decides other name).0 f)
same_by true false first number one other name x y e f p q rest h k = let same : first ≡ number = cc in absurd (let r = q k in omega (arith, same, r))
same_by false true first number one other name x y e f p q rest h k = let same : first ≡ number = cc in absurd (let r = p h in omega (arith, same, r))
same_by false false first number one other name x y e f p q rest h k = rest h k

-- names of one number are one
same_name : (first : ℕ) (names : List (List ℕ)) (one other : List ℕ) (number : ℕ) → number_from first names one ≡ Some number → number_from first names other ≡ Some number → one ≡ other
same_name first [] one other number h k = absurd cc
same_name first (name ∷ names) one other number h k =
    same_by (bytes_eq one name) (bytes_eq other name) first number one other name (number_from (first + 1) names one) (number_from (first + 1) names other) refl refl
    (number_least (first + 1) names one number) (number_least (first + 1) names other number) (same_name (first + 1) names one other number) h k

module _ (nets : List (List ℕ)) (clock : List ℕ) (number : ℕ) (is : number_in nets clock ≡ Some number) where
  net_by : (name : List ℕ) (found : Option ℕ) → number_in nets name ≡ found → is_some found ≡ true → (same : Bool) → bytes_eq name clock ≡ same → (unwrap_or found 0 == number) ≡ same
  net_by name None e h same f = absurd cc
  net_by name (Some other) e h true f =
      let a : name ≡ clock = (bytes_eq-Decides name clock).0 f in
      let k : ◌≡◌ {A = Option ℕ} (Some other) (Some number) = sym e ∙ ap (number_in nets) a ∙ is in
      eq-eqb other number (let same : other ≡ number = cc in same)
  net_by name (Some other) e h false f = differs (other == number) refl
    where
      differs : (b : Bool) → (other == number) ≡ b → b ≡ false
      differs false k = refl
      differs true k =
          let a : other ≡ number = eqb-true other number k in
          let one : name ≡ clock = same_name 1 nets name clock number (e ∙ ap (λ n. Some n) a) is in
          let j : true ≡ false = sym ((bytes_eq-Decides name clock).1 one) ∙ f in j

  -- a name's net is the clock's where the name is the clock's
  pub net_is : (name : List ℕ) → is_some (number_in nets name) ≡ true → (net_of nets name == number) ≡ bytes_eq name clock
  net_is name h = net_by name (number_in nets name) refl h (bytes_eq name clock) refl

-- each name of a list has a number among its first appearances
stand_behind : (before names : List (List ℕ)) → Stands (firsts (before ++ names)) names
stand_behind before [] = tt
stand_behind before (name ∷ names) =
    let all : List (List ℕ) = before ++ name ∷ names in
    let there : stands_in name all ≡ true = list_any-append (λ other. bytes_eq name other) before (name ∷ names)
    ∙ or_here (stands_in name before) (bytes_eq name name) (stands_in name names) ((bytes_eq-Decides name name).1 refl) in (
      numbered 1 (firsts all) name ∙ firsts_stand name all ∙ there,
      subst (λ (l : List (List ℕ)). Stands (firsts l) names) (append_assoc before (name ∷ []) names) (stand_behind (before ++ name ∷ []) names),
    )
  where
    or_here : (a b c : Bool) → b ≡ true → (a || (b || c)) ≡ true
    or_here true b c h = refl
    or_here false b c h = rw h refl

pub firsts_have_numbers : (names : List (List ℕ)) → Stands (firsts names) names
firsts_have_numbers names = stand_behind [] names

-- parts of a list of names that stand
pub stand_apart : (nets xs ys : List (List ℕ)) → Stands nets (xs ++ ys) → Stands nets xs × Stands nets ys
stand_apart nets [] ys h = (tt, h)
stand_apart nets (x ∷ xs) ys h = let rest = stand_apart nets xs ys h.1 in ((h.0, rest.0), rest.1)
