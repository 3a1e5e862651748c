-- How a port's count of faults goes with what a call of it answers.
use Rattle.std.specs.Prelude.{◌≡◌, ℕ, ◌+◌, ◌-◌, ◌^◌, ◌≤◌, min, Result, OnOk, OnErr}

-- one more than a count, which stops at 2^64 - 1
abbrev pub one_more : ℕ → ℕ
one_more count = min (count + 1) (2 ^ 64 - 1)

-- a number as a count, which stops at 2^64 - 1
abbrev pub as_count : ℕ → ℕ
as_count number = min number (2 ^ 64 - 1)

-- a count is greater now than before, or stood at 2^64 - 1 before and hasn't fallen
abbrev pub Rose : ℕ → ℕ → Type 0
Rose before now = one_more before ≤ now

-- a count never falls in a call, rises where the call fails, and stays where it succeeds
pub record HasCause {T E : Type 0} (before now : ℕ) (result : Result T E) : Type 0 where
  pub later : before ≤ now
  pub failed : OnErr result (Rose before now)
  pub kept : OnOk result (now ≡ before)
