-- The first refusal of a netlist, rule by rule.
use Rattle.std.specs.Prelude.{◌≡◌, ◌≤◌, ◌<◌, ℕ, Bool, true, Option, Some, None, List, slice_get}
use Rattle.cell_netlist.specs.declared.unsound.Unsound.{Unsound}
use Rattle.cell_netlist.specs.Netlists.{PlainNetlist}
use Rattle.cell_netlist.specs.Sound.{IsSound, Breaks, rule_of, IsFirstUnsound}

-- the lowest number that is so, or none where no number is so
abbrev pub IsFirst : (ℕ → Type 0) → Option ℕ → Type 0
IsFirst P None = (number : ℕ) → P number → ⊥
IsFirst P (Some number) = P number × ((lower : ℕ) → lower < number → P lower → ⊥)

-- the item at a place passes the test
abbrev pub PassesAt : {X : Type 0} → (X → Bool) → List X → ℕ → Type 0
PassesAt {X} test xs place = (x : X) × (slice_get xs place ≡ Some x) × (test x ≡ true)

-- the netlist breaks none of the first rules
abbrev pub IsClear : PlainNetlist → ℕ → Type 0
IsClear net rules = (other : Unsound) → Breaks net other → rule_of other ≤ rules → ⊥

-- the netlist breaks none of the first rules, or this is its first refusal, which is by one of them
abbrev pub IsJudged : PlainNetlist → ℕ → Option Unsound → Type 0
IsJudged net rules None = IsClear net rules
IsJudged net rules (Some unsound) = IsFirstUnsound net unsound × (rule_of unsound ≤ rules)

-- the netlist is sound, or this is its first refusal
abbrev pub IsVerdict : PlainNetlist → Option Unsound → Type 0
IsVerdict net None = IsSound net
IsVerdict net (Some unsound) = IsFirstUnsound net unsound
