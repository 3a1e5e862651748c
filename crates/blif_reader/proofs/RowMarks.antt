-- Marks read from the left.
use Rattle.std.proofs.Common.{◌≡◌, ℕ, zero, suc, ◌+◌, ◌<◌, ◌≤◌, ◌==◌, ◌||◌, cond, Bool, true, false, List, [], ◌∷◌, length, map, get_or, drop, refl, ap, ◌∙◌, arith}
use Rattle.pulse_ids.specs.Ids.{NetId}
use Rattle.source_machine.specs.Machines.{PlainLiteral}
use Rattle.blif_reader.specs.Rows.{is_care, cares_in, marked, literals_of}

-- one mark more is counted
pub cares_step : (marks : List ℕ) (place m : ℕ) → place < length marks
    → cares_in (drop place marks) ≡ cond (is_care (get_or marks place m)) 1 0 + cares_in (drop (place + 1) marks)
cares_step [] place m lt = absurd (omega arith)
cares_step (mark ∷ marks) zero m lt = refl
cares_step (mark ∷ marks) (suc place) m lt = cares_step marks place m (omega arith)
    ∙ ap (λ k. cond (is_care (get_or marks place m)) 1 0 + cares_in (drop k (mark ∷ marks))) (let e : suc (place + 1) ≡ suc place + 1 = omega arith in e)

pub cares_all : (marks : List ℕ) → cares_in (drop (length marks) marks) ≡ 0
cares_all [] = refl
cares_all (mark ∷ marks) = cares_all marks

pub cares_few : (marks : List ℕ) → cares_in marks ≤ length marks
cares_few [] = omega arith
cares_few (mark ∷ marks) = one (is_care mark) (cares_few marks)
  where
    one : (b : Bool) → cares_in marks ≤ length marks → cond b 1 0 + cares_in marks ≤ length (mark ∷ marks)
    one true few = omega (arith, few)
    one false few = omega (arith, few)

-- one mark more is read
pub literals_step : (columns : List NetId) (marks : List ℕ) (place : ℕ) (d : NetId) (m : ℕ) → place < length columns → place < length marks
    → literals_of (drop place (map (λ net. net.number) columns)) (drop place marks)
    ≡ marked (get_or columns place d).number (get_or marks place m) (literals_of (drop (place + 1) (map (λ net. net.number) columns)) (drop (place + 1) marks))
literals_step [] marks place d m p q = absurd (omega arith)
literals_step (net ∷ columns) [] place d m p q = absurd (omega arith)
literals_step (net ∷ columns) (mark ∷ marks) zero d m p q = refl
literals_step (net ∷ columns) (mark ∷ marks) (suc place) d m p q =
    let e : suc (place + 1) ≡ suc place + 1 = omega arith in
    literals_step columns marks place d m (omega arith) (omega arith)
    ∙ ap (λ k. marked (get_or columns place d).number (get_or marks place m) (literals_of (drop k (map (λ n. n.number) (net ∷ columns))) (drop k (mark ∷ marks)))) e

pub literals_none : (nets marks : List ℕ) (place : ℕ) → length marks ≤ place → length nets ≡ length marks → literals_of (drop place nets) (drop place marks) ≡ []
literals_none [] [] zero le e = refl
literals_none [] [] (suc place) le e = refl
literals_none [] (mark ∷ marks) place le e = absurd (omega arith)
literals_none (net ∷ nets) [] place le e = absurd (omega arith)
literals_none (net ∷ nets) (mark ∷ marks) zero le e = absurd (omega arith)
literals_none (net ∷ nets) (mark ∷ marks) (suc place) le e = literals_none nets marks place (omega arith) (omega arith)

one_more : (a b : Bool) (net cares : ℕ) (more : List PlainLiteral) → length more ≤ cares
    → length (cond a (record { net = net; negated = false } ∷ more) (cond b (record { net = net; negated = true } ∷ more) more)) ≤ cond (b || a) 1 0 + cares
one_more true true net cares more few = omega (arith, few)
one_more true false net cares more few = omega (arith, few)
one_more false true net cares more few = omega (arith, few)
one_more false false net cares more few = omega (arith, few)

-- no more literals than marks that give them
pub literals_few : (nets marks : List ℕ) → length (literals_of nets marks) ≤ cares_in marks
literals_few [] marks = omega arith
literals_few (net ∷ nets) [] = omega arith
literals_few (net ∷ nets) (mark ∷ marks) = one_more (mark == 49) (mark == 48) net (cares_in marks) (literals_of nets marks) (literals_few nets marks)
