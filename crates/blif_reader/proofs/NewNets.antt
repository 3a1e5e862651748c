-- Whether a name is a new net, by the names before it.
use Rattle.std.proofs.Common.{◌≡◌, ℕ, ◌+◌, Bool, true, false, not, ◌||◌, cond, ltb, List, [], ◌∷◌, ◌++◌, length, Option, Some, None, Result, Ok, Err, refl, sym, ap, subst, ◌∙◌}
use Rattle.std.specs.Prelude.{filter}
use Rattle.std.specs.Option.{option_or, is_some}
use Rattle.std.specs.List.{list_any}
use Rattle.std.specs.Str.{bytes_eq}
use Rattle.std.proofs.lemmas.Slice.Eq.{bytes_eq-Decides}
use Rattle.pulse_ids.specs.Quantities.{greatest_of}
use Rattle.pulse_ids.specs.declared.quantities.Quantity.TheVariants as quantities
use Rattle.numbered_names.specs.Names.{number_from, number_in, names_with}
use Rattle.blif_reader.specs.declared.refusals.LineRefusal.{LineRefusal}
use Rattle.blif_reader.specs.declared.refusals.LineRefusal.TheVariants.{Limit}
use Rattle.blif_reader.specs.Refusing.{after, over}
use Rattle.blif_reader.specs.Latches.{net_read}
use Rattle.blif_reader.specs.Tellings.{firsts}
use Rattle.blif_reader.specs.LineRefusals.{above, net_above}
use Rattle.blif_reader.proofs.Checking.{Meets}
use Rattle.blif_reader.proofs.FirstNames.{joined_on, joined_firsts}

-- a name is one of these
abbrev pub stands_in : List ℕ → List (List ℕ) → Bool
stands_in name names = list_any (λ other. bytes_eq name other) names

numbered_by : (b : Bool) (first : ℕ) (later : Option ℕ) (there : Bool) → is_some later ≡ there → is_some (cond b (Some first) later) ≡ (b || there)
numbered_by true first later there e = refl
numbered_by false first later there e = e

-- the names that have a number are those that stand there
pub numbered : (first : ℕ) (nets : List (List ℕ)) (name : List ℕ) → is_some (number_from first nets name) ≡ stands_in name nets
numbered first [] name = refl
numbered first (other ∷ nets) name =
    numbered_by (bytes_eq name other) first (number_from (first + 1) nets name) (stands_in name nets) (numbered (first + 1) nets name)

module _ (name first : List ℕ) (differs : bytes_eq name first ≡ false) where
  other_by : (same : Bool) (other : List ℕ) (kept rest : Bool) → bytes_eq name other ≡ same → kept ≡ rest → (b : Bool) → bytes_eq other first ≡ b → (names : List (List ℕ))
      → stands_in name names ≡ kept → stands_in name (cond (not b) (other ∷ names) names) ≡ (same || rest)
  other_by same other kept rest e h false f names k = rw (e, k, h) refl
  other_by false other kept rest e h true f names k = k ∙ h
  other_by true other kept rest e h true f names k =
      let a : name ≡ other = (bytes_eq-Decides name other).0 e in
      let no : true ≡ false = sym f ∙ ap (λ (n : List ℕ). bytes_eq n first) (sym a) ∙ differs in absurd cc

  -- leaving out another name leaves whether this one stands there
  kept : (names : List (List ℕ)) → stands_in name (filter (λ other. not (bytes_eq other first)) names) ≡ stands_in name names
  kept [] = refl
  kept (other ∷ names) =
      other_by (bytes_eq name other) other (stands_in name (filter (λ o. not (bytes_eq o first)) names)) (stands_in name names) refl (kept names) (bytes_eq other first) refl
      (filter (λ o. not (bytes_eq o first)) names) refl

first_by : (name first : List ℕ) (names : List (List ℕ)) (same : Bool) → bytes_eq name first ≡ same → stands_in name (firsts names) ≡ stands_in name names
    → (same || stands_in name (filter (λ other. not (bytes_eq other first)) (firsts names))) ≡ (same || stands_in name names)
first_by name first names true e h = refl
first_by name first names false e h = kept name first e (firsts names) ∙ h

-- the first appearances are of all names
pub firsts_stand : (name : List ℕ) (names : List (List ℕ)) → stands_in name (firsts names) ≡ stands_in name names
firsts_stand name [] = refl
firsts_stand name (first ∷ names) = first_by name first names (bytes_eq name first) refl (firsts_stand name names)

-- one name more
pub firsts_with : (nets names : List (List ℕ)) (name : List ℕ) → nets ≡ firsts names → names_with nets name ≡ firsts (names ++ name ∷ [])
firsts_with nets names name e =
    ap (λ (l : List (List ℕ)). names_with l name) (e ∙ sym (joined_firsts names)) ∙ sym (joined_on [] names (name ∷ [])) ∙ joined_firsts (names ++ name ∷ [])

net_by : {A : Type 0} (After : A → Type 0) (there : Bool) (nets more : List (List ℕ)) (count : ℕ) (next : List (List ℕ) → Result A LineRefusal) (rest : Option LineRefusal)
    → Meets (next (cond there nets more)) rest After
    → Meets (after (cond there (Ok nets) (over quantities.Nets count (Ok (cond there nets more)))) next) (option_or (cond there None (above quantities.Nets count)) rest) After
net_by After true nets more count next rest m = m
net_by After false nets more count next rest m = limited (ltb (greatest_of quantities.Nets) count)
  where
    limited : (b : Bool) → Meets (after (cond b (Err (Limit quantities.Nets)) (Ok more)) next) (option_or (cond b (Some (Limit quantities.Nets)) None) rest) After
    limited true = refl
    limited false = m

module _ {A : Type 0} (After : A → Type 0) (nets names : List (List ℕ)) (is : nets ≡ firsts names) (name : List ℕ) where
  -- a net is read
  pub meets_net : (next : List (List ℕ) → Result A LineRefusal) (rest : Option LineRefusal) → Meets (next (names_with nets name)) rest After
      → Meets (after (net_read nets name) next) (option_or (net_above names name) rest) After
  meets_net next rest m =
      let there : is_some (number_in nets name) ≡ stands_in name names = numbered 1 nets name ∙ ap (λ (l : List (List ℕ)). stands_in name l) is ∙ firsts_stand name names in
      subst (λ (o : Option LineRefusal). Meets (after (net_read nets name) next) (option_or o rest) After)
      (ap (λ b. cond b None (above quantities.Nets (length nets + 1))) there
      ∙ ap (λ (l : List (List ℕ)). cond (stands_in name names) None (above quantities.Nets (length l + 1))) is)
      (net_by After (is_some (number_in nets name)) nets (nets ++ name ∷ []) (length nets + 1) next rest m)
