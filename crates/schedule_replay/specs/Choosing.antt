-- What is asked of a function that names places.
use Rattle.std.specs.Prelude.{ℕ, ◌≤◌, ◌<◌, ◌^◌}

-- For every step below 2^63 and every count from 1 to 4,194,304 it may be called, and answers less than the count.
pub record AnswersBelow (takes : ℕ → ℕ → Type 0) (names : ℕ → ℕ → ℕ → Type 0) : Type 0 where
  pub callable : (step count : ℕ) → step < 2 ^ 63 → 1 ≤ count → count ≤ 2 ^ 22 → takes step count
  pub below : (step count place : ℕ) → step < 2 ^ 63 → 1 ≤ count → count ≤ 2 ^ 22 → names step count place → place < count
