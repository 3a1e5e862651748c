-- Literals of nodes, and the conjunctions that fold.
use Rattle.std.specs.Prelude.{◌≡◌, ℕ, Bool, false, not, ◌&&◌, ◌||◌, ◌==◌, if◌then◌else◌, Option, Some, None}
use Rattle.std.specs.Bool.{beq}
use Rattle.pulse_ids.specs.Ids.{NodeLit, numbered}

-- the literal of the node of this number
abbrev pub positive : ℕ → NodeLit
positive number = record { id = numbered number; negated = false }

-- the complement of a literal
abbrev pub complement : NodeLit → NodeLit
complement literal = record { id = literal.id; negated = not literal.negated }

-- the constant 0
abbrev pub zero_literal : NodeLit
zero_literal = positive 0

-- the constant 1
abbrev pub one_literal : NodeLit
one_literal = complement zero_literal

-- the conjunction of both literals is this literal, by one of the four folds: `x and 0 = 0`, `x and 1 = x`, `x and x = x` and `x and not x = 0`
pub data FoldsTo (a b result : NodeLit) : Type 0 where
  zero_first : a ≡ zero_literal → result ≡ zero_literal → FoldsTo a b result
  zero_second : b ≡ zero_literal → result ≡ zero_literal → FoldsTo a b result
  one_first : a ≡ one_literal → result ≡ b → FoldsTo a b result
  one_second : b ≡ one_literal → result ≡ a → FoldsTo a b result
  same : a ≡ b → result ≡ a → FoldsTo a b result
  opposite : a ≡ complement b → result ≡ zero_literal → FoldsTo a b result

-- one of the four folds applies
abbrev pub IsFoldable : NodeLit → NodeLit → Type 0
IsFoldable a b = (result : NodeLit) × FoldsTo a b result

-- whether two literals are the same
abbrev pub is_same : NodeLit → NodeLit → Bool
is_same a b = (a.id.number == b.id.number) && beq a.negated b.negated

-- the literal to which the conjunction folds, where it folds
abbrev pub fold_of : NodeLit → NodeLit → Option NodeLit
fold_of a b =
    if is_same a zero_literal || is_same b zero_literal || is_same a
    (complement b) then Some zero_literal else if is_same a one_literal || is_same a b then Some b else if is_same b one_literal then Some a else None
