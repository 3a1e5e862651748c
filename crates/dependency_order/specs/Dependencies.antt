-- Items, each with the numbers that it needs and the numbers that it yields.
use Rattle.std.specs.Prelude.{◌≡◌, ◌<◌, ◌+◌, ◌^◌, ◌++◌, ℕ, List, [], ◌∷◌, length, take, get_or, All}
use Rattle.dependency_order.specs.Lists.{total}

-- the numbers below a count, those known at the start, and for each item the numbers that it needs and yields
pub record PlainDependencies : Type 0 where
  pub count : ℕ
  pub starts : List ℕ
  pub needs : List (List ℕ)
  pub yields : List (List ℕ)

-- the numbers that an item needs
abbrev pub needs_of : PlainDependencies → ℕ → List ℕ
needs_of d item = get_or d.needs item []

-- the numbers that an item yields
abbrev pub yields_of : PlainDependencies → ℕ → List ℕ
yields_of d item = get_or d.yields item []

-- all of these are below the count
abbrev pub AreBelow : ℕ → List ℕ → Type 0
AreBelow count numbers = All (λ number. number < count) numbers

-- each item needs and yields numbers below the count, and there are fewer than 2^32 of each kind
pub record AreInRange (d : PlainDependencies) : Type 0 where
  pub paired : length d.yields ≡ length d.needs
  pub few_items : length d.needs < 2 ^ 32
  pub few_needs : total d.needs < 2 ^ 32
  pub few_yields : total d.yields < 2 ^ 32
  pub starts_fit : AreBelow d.count d.starts
  pub needs_fit : All (AreBelow d.count) d.needs
  pub yields_fit : All (AreBelow d.count) d.yields

-- with one item more, of these needs and yields, there are still fewer than 2^32 items, needs and yields
pub record StaysSmall (d : PlainDependencies) (needs yields : List ℕ) : Type 0 where
  pub items : length d.needs + 1 < 2 ^ 32
  pub more_needs : total d.needs + length needs < 2 ^ 32
  pub more_yields : total d.yields + length yields < 2 ^ 32

-- no item yet, and nothing is known
abbrev pub no_items : ℕ → PlainDependencies
no_items count = record { count = count; starts = []; needs = []; yields = [] }

-- these numbers are known at the start too
abbrev pub with_starts : PlainDependencies → List ℕ → PlainDependencies
with_starts d numbers = record { count = d.count; starts = d.starts ++ numbers; needs = d.needs; yields = d.yields }

-- one more item
abbrev pub with_item : PlainDependencies → List ℕ → List ℕ → PlainDependencies
with_item d needs yields = record {
  count = d.count;
  starts = d.starts;
  needs = d.needs ++ needs ∷ [];
  yields = d.yields ++ yields ∷ [];
}

-- the first so many items
abbrev pub first_items : PlainDependencies → ℕ → PlainDependencies
first_items d n = record { count = d.count; starts = d.starts; needs = take n d.needs; yields = take n d.yields }
