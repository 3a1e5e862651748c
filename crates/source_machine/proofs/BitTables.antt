-- A table of nets and their bits, and lists of the values of a function.
use Rattle.std.proofs.Common.{◌≡◌, ℕ, zero, suc, ◌≤◌, ◌<◌, inl, inr, List, [], ◌∷◌, ◌++◌, length, map, Bool, false, ◌==◌, if◌then◌else◌, refl, ◌∙◌, ap, arith, eq-eqb, ne_eqb}
use Rattle.pulse_ids.specs.Lists.{IsIn, bit_at, occurrences}
use Rattle.pulse_ids.proofs.CallerLemmasOnCounts.{occurrences-head, IsIn-occurrences}
use Rattle.source_machine.proofs.CubeValues.{SameOn}

-- the bit beside the net's first place in the list, and 0 where it has none
abbrev pub bit_beside : List ℕ → List Bool → ℕ → Bool
bit_beside [] bits net = false
bit_beside (first ∷ rest) [] net = false
bit_beside (first ∷ rest) (bit ∷ bits) net = if first == net then bit else bit_beside rest bits net

pub bit_beside-absent : (nets : List ℕ) (bits : List Bool) (net : ℕ) → (IsIn net nets → ⊥) → bit_beside nets bits net ≡ false
bit_beside-absent [] bits net out = refl
bit_beside-absent (first ∷ rest) [] net out = refl
bit_beside-absent (first ∷ rest) (bit ∷ bits) net out =
    ap (λ t. if t then bit else bit_beside rest bits net) (ne_eqb first net (λ e. out (inl e))) ∙ bit_beside-absent rest bits net (λ i. out (inr i))

pub map-on : (f g : ℕ → Bool) (nets : List ℕ) → SameOn nets f g → map f nets ≡ map g nets
map-on f g [] same = refl
map-on f g (net ∷ nets) same =
    let head : f net ≡ g net = same net (inl refl) in
    let tail : map f nets ≡ map g nets = map-on f g nets (λ n i. same n (inr i)) in cc

-- a table of nets that stand once gives back its bits
pub map-bit_beside : (nets : List ℕ) (bits : List Bool) → length nets ≡ length bits → ((net : ℕ) → occurrences net nets ≤ 1) → map (bit_beside nets bits) nets ≡ bits
map-bit_beside [] [] long once = refl
map-bit_beside [] (bit ∷ bits) long once = absurd (omega arith)
map-bit_beside (first ∷ rest) [] long once = absurd (omega arith)
map-bit_beside (first ∷ rest) (bit ∷ bits) long once =
    let head : bit_beside (first ∷ rest) (bit ∷ bits) first ≡ bit = ap (λ t. if t then bit else bit_beside rest bits first) (eq-eqb first first refl) in
    let tail : map (bit_beside (first ∷ rest) (bit ∷ bits)) rest ≡ bits = map-on (bit_beside (first ∷ rest) (bit ∷ bits)) (bit_beside rest bits) rest
    (λ n i. ap (λ t. if t then bit else bit_beside rest bits n)
    (ne_eqb first n (λ e. omega (arith, once n, occurrences-head n first rest e, IsIn-occurrences n rest i)))) ∙ map-bit_beside rest bits (omega arith)
    (λ n. omega (arith, once n)) in ap (λ b. b ∷ map (bit_beside (first ∷ rest) (bit ∷ bits)) rest) head ∙ ap (λ l. bit ∷ l) tail

pub append-split : (a b c d : List Bool) → length a ≡ length c → a ++ b ≡ c ++ d → (a ≡ c) × (b ≡ d)
append-split [] b [] d long same = (refl, same)
append-split [] b (y ∷ c) d long same = absurd (omega arith)
append-split (x ∷ a) b [] d long same = absurd (omega arith)
append-split (x ∷ a) b (y ∷ c) d long same =
    let head : x ≡ y = cc in
    let rest : a ++ b ≡ c ++ d = cc in let r = append-split a b c d (omega arith) rest in (ap (λ z. z ∷ a) head ∙ ap (λ l. y ∷ l) r.0, r.1)

-- the values of a function at 0 to n - 1
abbrev pub values_below : (ℕ → Bool) → ℕ → List Bool
values_below f zero = []
values_below f (suc n) = f 0 ∷ values_below (λ k. f (suc k)) n

pub length-values_below : (f : ℕ → Bool) (n : ℕ) → length (values_below f n) ≡ n
length-values_below f zero = refl
length-values_below f (suc n) = ap suc (length-values_below (λ k. f (suc k)) n)

pub bit_at-values_below : (f : ℕ → Bool) (n k : ℕ) → k < n → bit_at (values_below f n) k ≡ f k
bit_at-values_below f zero k lt = absurd (omega arith)
bit_at-values_below f (suc n) zero lt = refl
bit_at-values_below f (suc n) (suc k) lt = bit_at-values_below (λ j. f (suc j)) n k (omega arith)

pub bit_at-values_past : (f : ℕ → Bool) (n k : ℕ) → n ≤ k → bit_at (values_below f n) k ≡ false
bit_at-values_past f zero k le = refl
bit_at-values_past f (suc n) zero le = absurd (omega arith)
bit_at-values_past f (suc n) (suc k) le = bit_at-values_past (λ j. f (suc j)) n k (omega arith)
