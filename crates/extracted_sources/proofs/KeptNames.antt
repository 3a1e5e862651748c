-- The names that a text keeps are printable names of ports, each at the number of an input port or of an output rail.
use Rattle.std.proofs.Common.{◌≡◌, ◌==◌, ◌≢◌, ℕ, ◌+◌, ◌<◌, ◌≤◌, Bool, true, false, ◌&&◌, leb, List, [], ◌∷◌, length, length-append, Option, Some, None, All, refl, sym, subst, inl, inr, arith}
use Rattle.std.specs.List.{flat_map}
use Rattle.std.proofs.lemmas.Bool.{cases_Bool, leb-true}
use Rattle.std.proofs.lemmas.List.Elements.{All-nil, All-cons}
use Rattle.pulse_ids.specs.Lists.{IsIn}
use Rattle.pulse_ids.specs.Names.{IsPortName}
use Rattle.pulse_ids.specs.declared.literals.Sign.{Sign}
use Rattle.pulse_ids.specs.declared.literals.Sign.TheVariants.{Pos, Neg}
use Rattle.pulse_ids.proofs.CallerLemmas.{IsIn-append, IsIn-from_flat_map}
use Rattle.cell_netlist.specs.declared.lines.Rail.{Rail}
use Rattle.cell_netlist.specs.Names.{AreNamesFrom, name_at}
use Rattle.netlist_extract.specs.Outlines.{is_printable, symbol, symbol_if, input_symbol, signed_symbol, output_symbol, by_rail}

-- a printable name of a port
pub record IsKept (named : ℕ × List ℕ) : Type 0 where
  pub name : IsPortName named.1
  pub printable : is_printable named.1 ≡ true

-- the names of a side: each is of a port, and there are no more than ports
pub names_in : (low ports : ℕ) (names : List (ℕ × List ℕ)) → AreNamesFrom low ports names → (named : ℕ × List ℕ) → IsIn named names → (named.0 < ports) × IsPortName named.1
names_in low ports [] are named i = absurd i
names_in low ports (first ∷ names) are named (inl e) = subst (λ (n : ℕ × List ℕ). (n.0 < ports) × IsPortName n.1) e (are.1, are.2)
names_in low ports (first ∷ names) are named (inr i) = names_in (first.0 + 1) ports names are.3 named i

few_names : (low ports : ℕ) (names : List (ℕ × List ℕ)) → low ≤ ports → AreNamesFrom low ports names → low + length names ≤ ports
few_names low ports [] le are = omega arith
few_names low ports (first ∷ names) le are =
    let lt = are.1 in
    let rest = few_names (first.0 + 1) ports names (omega arith) are.3 in
    let above = are.0 in
    omega arith

symbol-is : (number : ℕ) (name : List ℕ) (named : ℕ × List ℕ) → IsIn named (symbol number name) → (named ≡ (number, name)) × (is_printable name ≡ true)
symbol-is number name named i = elim (cases_Bool (is_printable name)) [
  | inl is ↦ let j : IsIn named ((number, name) ∷ []) = rw is at i in (one j, is)
  | inr not ↦ let j : IsIn named [] = rw not at i in absurd j
]
  where
    one : IsIn named ((number, name) ∷ []) → named ≡ (number, name)
    one (inl e) = sym e
    one (inr h) = absurd h

symbol-few : (number : ℕ) (name : List ℕ) → length (symbol number name) ≤ 1
symbol-few number name = elim (cases_Bool (is_printable name)) [
  | inl is ↦ rw is (omega arith)
  | inr not ↦ rw not (omega arith)
]

-- the inputs' names
pub input_kept : (ports : ℕ) (names : List (ℕ × List ℕ)) → AreNamesFrom 0 ports names → (named : ℕ × List ℕ) → IsIn named (flat_map input_symbol names) → (named.0 < ports) × IsKept named
input_kept ports names are named i =
    let from = IsIn-from_flat_map input_symbol named names i in
    let is = symbol-is from.0.0 from.0.1 named from.2 in
    let given = names_in 0 ports names are from.0 from.1 in
    subst (λ (n : ℕ × List ℕ). (n.0 < ports) × IsKept n) (sym is.0) (given.0, record { name = given.1; printable = is.1 })

input_fewer : (names : List (ℕ × List ℕ)) → length (flat_map input_symbol names) ≤ length names
input_fewer [] = omega arith
input_fewer (named ∷ names) =
    let rest = input_fewer names in
    let one = symbol-few named.0 named.1 in
    omega (arith, length-append (input_symbol named) (flat_map input_symbol names))

pub input_few : (ports : ℕ) (names : List (ℕ × List ℕ)) → AreNamesFrom 0 ports names → length (flat_map input_symbol names) ≤ ports
input_few ports names are =
    let all = few_names 0 ports names (omega arith) are in
    let kept = input_fewer names in
    omega arith

-- the outputs' names
name_at-in : (names : List (ℕ × List ℕ)) (port : ℕ) (name : List ℕ) → name_at names port ≡ Some name → (named : ℕ × List ℕ) × IsIn named names × (named.1 ≡ name)
name_at-in [] port name e = absurd cc
name_at-in (first ∷ names) port name e = elim (cases_Bool (port == first.0)) [
  | inl hit ↦ let same : Some first.1 ≡ Some name = rw hit at e in (first, inl refl, inner same)
  | inr miss ↦
      let later : name_at names port ≡ Some name = rw miss at e in
      let r = name_at-in names port name later in
      (r.0, inr r.1, r.2)
]
  where
    inner : {x y : List ℕ} → Some x ≡ Some y → x ≡ y
    inner e = cc

module _ (ports : ℕ) (names : List (ℕ × List ℕ)) (are : AreNamesFrom 0 ports names) where
  if-kept : (number : ℕ) (name : Option (List ℕ)) → ((bytes : List ℕ) → name ≡ Some bytes → IsPortName bytes) → (named : ℕ × List ℕ) → IsIn named (symbol_if number name)
      → (named.0 ≡ number) × IsKept named
  if-kept number None fine named i = absurd i
  if-kept number (Some bytes) fine named i =
      let is = symbol-is number bytes named i in
      subst (λ (n : ℕ × List ℕ). (n.0 ≡ number) × IsKept n) (sym is.0) (refl, record { name = fine bytes refl; printable = is.1 })

  rail-kept : (number port : ℕ) (sign : Sign) (named : ℕ × List ℕ) → IsIn named (signed_symbol names number port sign) → (named.0 ≡ number) × IsKept named
  rail-kept number port Pos named i =
      if-kept number (name_at names port) (λ bytes e. let from = name_at-in names port bytes e in subst IsPortName from.2 (names_in 0 ports names are from.0 from.1).1) named i
  rail-kept number port Neg named i = absurd i

  if-few : (number : ℕ) (name : Option (List ℕ)) → length (symbol_if number name) ≤ 1
  if-few number None = omega arith
  if-few number (Some bytes) = symbol-few number bytes

  rail-few : (number port : ℕ) (sign : Sign) → length (signed_symbol names number port sign) ≤ 1
  rail-few number port Pos = if-few number (name_at names port)
  rail-few number port Neg = omega arith

  outputs-kept : (first : ℕ) (rails : List Rail) (named : ℕ × List ℕ) → IsIn named (by_rail (output_symbol names) first rails) → (named.0 < first + length rails) × IsKept named
  outputs-kept first [] named i = absurd i
  outputs-kept first (rail ∷ rails) named i = elim (IsIn-append named (output_symbol names first rail) (by_rail (output_symbol names) (first + 1) rails) i) [
    | inl here ↦ let is = rail-kept first rail.port rail.sign named here in (omega (arith, is.0), is.1)
    | inr later ↦ let is = outputs-kept (first + 1) rails named later in (omega (arith, is.0), is.1)
  ]

  pub output_kept : (rails : List Rail) (named : ℕ × List ℕ) → IsIn named (by_rail (output_symbol names) 0 rails) → (named.0 < length rails) × IsKept named
  output_kept rails named i = let is = outputs-kept 0 rails named i in (omega (arith, is.0), is.1)

  pub output_few : (first : ℕ) (rails : List Rail) → length (by_rail (output_symbol names) first rails) ≤ length rails
  output_few first [] = omega arith
  output_few first (rail ∷ rails) =
      let rest = output_few (first + 1) rails in
      let one = rail-few first rail.port rail.sign in
      omega (arith, length-append (output_symbol names first rail) (by_rail (output_symbol names) (first + 1) rails))

-- a byte below the printable ones stands in no printable name
pub printable_lacks : (byte : ℕ) → byte < 33 → (name : List ℕ) → is_printable name ≡ true → All (λ b. b ≢ byte) name
printable_lacks byte low [] is = All-nil (λ b. b ≢ byte)
printable_lacks byte low (first ∷ name) is =
    let both = parts (leb 33 first && leb first 126) (is_printable name) is in
    let least = leb-true 33 first (parts (leb 33 first) (leb first 126) both.0).0 in
    All-cons (λ b. b ≢ byte) first name (λ e. omega (arith, least, e, low)) (printable_lacks byte low name both.1)
  where
    parts : (a b : Bool) → (a && b) ≡ true → (a ≡ true) × (b ≡ true)
    parts true true e = (refl, refl)
    parts true false e = absurd cc
    parts false true e = absurd cc
    parts false false e = absurd cc
