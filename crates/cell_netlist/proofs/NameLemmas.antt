-- What a search among names of rising ports finds.
use Rattle.std.proofs.Common.{◌≡◌, ◌<◌, ◌≤◌, ◌+◌, ℕ, zero, suc, Some, None, Ok, Err, List, [], ◌∷◌, ◌++◌, length, get_or, ap, sym, inl, inr, arith, refl}
use Rattle.std.proofs.lemmas.Bool.{cases_lt}
use Rattle.std.specs.List.Sorted.{IsBinarySearchResult, IsNonDecreasingBy}
use Rattle.std.specs.Ordering.{nat_cmp, ordering_index}
use Rattle.std.proofs.lemmas.Cmp.{ranked}
use Rattle.std.proofs.lemmas.List.Sorted.{IsNonDecreasingBy-from_default}
use Rattle.std.proofs.lemmas.Bool.Decides.{nat_tests}
use Rattle.std.proofs.lemmas.Grind.{common_steps}
use Rattle.pulse_ids.specs.Names.{IsPortName}
use Rattle.cell_netlist.specs.Names.{IsAboveAll, AreNamesFrom, name_at}

-- a higher port named too
pub AreNamesFrom-behind : (low ports port : ℕ) (names : List (ℕ × List ℕ)) (bytes : List ℕ) → AreNamesFrom low ports names → low ≤ port → IsAboveAll port names
    → port < ports → IsPortName bytes → AreNamesFrom low ports (names ++ (port, bytes) ∷ [])
AreNamesFrom-behind low ports port [] bytes h least above range name = (least, range, name, tt)
AreNamesFrom-behind low ports port (named ∷ rest) bytes h least above range name =
    (h.0, h.1, h.2, AreNamesFrom-behind (named.0 + 1) ports port rest bytes h.3 (omega (arith, above named (inl refl))) (λ n i. above n (inr i)) range name)

module _ (d : ℕ × List ℕ) where
  -- no port is below the lowest one
  pub low_is_least : (low ports : ℕ) (names : List (ℕ × List ℕ)) → AreNamesFrom low ports names → (k : ℕ) → k < length names → low ≤ (get_or names k d).0
  low_is_least low ports [] h k lt = omega arith
  low_is_least low ports (named ∷ rest) h zero lt = h.0
  low_is_least low ports (named ∷ rest) h (suc k) lt = let r = low_is_least (named.0 + 1) ports rest h.3 k (omega arith) in omega (arith, h.0)

  -- the ports rise
  pub ports_rise : (low ports : ℕ) (names : List (ℕ × List ℕ)) → AreNamesFrom low ports names → (i j : ℕ) → i < j → j < length names → (get_or names i d).0 < (get_or names j d).0
  ports_rise low ports [] h i j lt in_range = omega arith
  ports_rise low ports (named ∷ rest) h i zero lt in_range = omega arith
  ports_rise low ports (named ∷ rest) h zero (suc j) lt in_range = let r = low_is_least (named.0 + 1) ports rest h.3 j (omega arith) in omega arith
  ports_rise low ports (named ∷ rest) h (suc i) (suc j) lt in_range = ports_rise (named.0 + 1) ports rest h.3 i j (omega arith) (omega arith)

  -- the name of a port that stands at a place
  pub name_at-found : (low ports : ℕ) (names : List (ℕ × List ℕ)) → AreNamesFrom low ports names → (port i : ℕ) → i < length names → (get_or names i d).0 ≡ port
      → name_at names port ≡ Some (get_or names i d).1
  name_at-found low ports [] h port i lt e = absurd (omega arith)
  name_at-found low ports (named ∷ rest) h port zero lt e = grind (arith, common_steps)
  name_at-found low ports (named ∷ rest) h port (suc i) lt e =
      let r = name_at-found (named.0 + 1) ports rest h.3 port i (omega arith) e in
      let above = low_is_least (named.0 + 1) ports rest h.3 i (omega arith) in
      grind (arith, common_steps)

  -- no name where the port stands nowhere
  pub name_at-absent : (names : List (ℕ × List ℕ)) (port : ℕ) → ((k : ℕ) → k < length names → (get_or names k d).0 ≡ port → ⊥) → name_at names port ≡ None
  name_at-absent [] port none = refl
  name_at-absent (named ∷ rest) port none =
      let r = name_at-absent rest port (λ k lt e. none (suc k) (omega arith) e) in
      let here = none 0 (omega arith) in
      grind (arith, common_steps)

module _ (ports : ℕ) (names : List (ℕ × List ℕ)) (rises : AreNamesFrom 0 ports names) (port : ℕ) where
  -- the comparisons with the port rise along the names
  comparisons_rise : IsNonDecreasingBy (λ named. ordering_index (nat_cmp named.0 port)) names
  comparisons_rise = IsNonDecreasingBy-from_default (λ named. ordering_index (nat_cmp named.0 port)) names (0, []) (λ i j le in_range.
      let up : (get_or names i (0, [])).0 ≤ (get_or names j (0, [])).0 = grind (arith, ports_rise (0, []) 0 ports names rises i j, λ (same : i ≡ j). ap (λ k. (get_or names k (0, [])).0) same) in
      grind (arith, nat_tests))

  -- a search that ends at a place has found the port's name
  pub name_at-searched : (i : ℕ) (d : ℕ × List ℕ) → i < length names → IsBinarySearchResult (λ named. nat_cmp named.0 port) names (Ok i)
      → Some (get_or names i d).1 ≡ name_at names port
  name_at-searched i d lt equal = sym (name_at-found d 0 ports names rises port i lt (ranked _ port _ (sym (equal d))))

  -- a search that ends in a gap tells that the port has no name
  pub name_at-gap : (i : ℕ) → IsBinarySearchResult (λ named. nat_cmp named.0 port) names (Err i) → None ≡ name_at names port
  name_at-gap i parted = sym (name_at-absent (0, []) names port (λ k lt same. elim (cases_lt k i) [
    | inl below ↦ omega (arith, ranked _ port _ (sym ((parted comparisons_rise).0 k (0, []) (omega arith) below)))
    | inr at_least ↦ omega (arith, ranked _ port _ (sym ((parted comparisons_rise).1 k (0, []) at_least lt)))
  ]))
