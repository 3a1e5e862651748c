-- How an order is found: each item waits for its turn, or lacks one number that isn't known.
use Rattle.std.specs.Prelude.{◌≡◌, ℕ, ◌+◌, ◌≤◌, ◌<◌, ◌⊎◌, List, [], ◌∷◌, Bool, true, false, length, replicate, take, get_or, set, slice_index, if◌then◌else◌, Contains, count_by, ◌==◌}
use Rattle.dependency_order.specs.Dependencies.{PlainDependencies, needs_of, yields_of}
use Rattle.dependency_order.specs.Orders.{IsKnown, IsReady, IsChosen}
use Rattle.dependency_order.specs.Readers.{Links, Linked, AllLinked}

-- known numbers, how far each item's needs are known, the items that have been ready, and those that have come
pub record Stage : Type 0 where
  pub known : List Bool
  pub places : List ℕ
  pub queued : List Bool
  pub order : List ℕ

-- how often the number stands in the list
abbrev pub times_in : ℕ → List ℕ → ℕ
times_in number numbers = count_by (λ other. other == number) numbers

-- how many bits are 0
abbrev pub clear_in : List Bool → ℕ
clear_in [] = 0
clear_in (bit ∷ bits) = (if bit then 0 else 1) + clear_in bits

-- the first place from one place on whose number isn't known, or how many there are
pub record IsReached (needs : List ℕ) (known : List Bool) (place reached : ℕ) : Type 0 where
  pub low : place ≤ reached
  pub high : reached ≤ length needs
  pub passed : (p : ℕ) → place ≤ p → p < reached → get_or known (slice_index needs p) false ≡ true
  pub stopped : reached < length needs → get_or known (slice_index needs reached) false ≡ false

-- one item goes on: it has been ready before, or it lacks a number, or it is ready now
pub data Advance (needs : List ℕ) (item : ℕ) (before after : Stage) : Bool → Type 0 where
  skipped : (answer : Bool) → answer ≡ false → get_or before.queued item false ≡ true → after ≡ before → Advance needs item before after answer
  lacks : (answer : Bool) → answer ≡ false → (place : ℕ) → get_or before.queued item false ≡ false → IsReached needs before.known (slice_index before.places item) place
      → place < length needs
      → after ≡ record { known = before.known; places = set before.places item place; queued = before.queued; order = before.order } → Advance needs item before after answer
  readies : (answer : Bool) → answer ≡ true → (place : ℕ) → get_or before.queued item false ≡ false → IsReached needs before.known (slice_index before.places item) place
      → place ≡ length needs
      → after ≡ record { known = before.known; places = set before.places item place; queued = set before.queued item true; order = before.order } → Advance needs item before after answer

-- the item has been ready, or it lacks a number
pub data IsSettled (d : PlainDependencies) (stage : Stage) (item : ℕ) : Type 0 where
  has_been_ready : get_or stage.queued item false ≡ true → IsSettled d stage item
  lacks_one : slice_index stage.places item < length (needs_of d item) → get_or stage.known (slice_index (needs_of d item) (slice_index stage.places item)) false ≡ false
      → IsSettled d stage item

-- so are all items
abbrev pub AllSettled : PlainDependencies → Stage → Type 0
AllSettled d stage = (item : ℕ) → item < length d.needs → IsSettled d stage item

-- what the items of the order yield is known, or is one of these numbers
abbrev pub AreYielded : PlainDependencies → List ℕ → Stage → Type 0
AreYielded d left stage =
    (item : ℕ) → Contains stage.order item → (number : ℕ) → Contains (yields_of d item) number → (get_or stage.known number false ≡ true) ⊎ Contains left number

-- what holds after each step
pub record IsSearch (d : PlainDependencies) (allows : ℕ → ℕ → Type 0) (stage : Stage) (waiting : List ℕ) : Type 0 where
  pub width : length stage.known ≡ d.count
  pub wide : length stage.places ≡ length d.needs
  pub marked : length stage.queued ≡ length d.needs
  pub within : (item : ℕ) → item < length d.needs → slice_index stage.places item ≤ length (needs_of d item)
  pub passed : (item : ℕ) → item < length d.needs → (place : ℕ) → place < slice_index stage.places item → get_or stage.known (slice_index (needs_of d item) place) false ≡ true
  pub full : (item : ℕ) → get_or stage.queued item false ≡ true → slice_index stage.places item ≡ length (needs_of d item)
  pub times : (item : ℕ) → times_in item stage.order + times_in item waiting ≡ (if get_or stage.queued item false then 1 else 0)
  pub few : length stage.order + (length waiting + clear_in stage.queued) ≡ length d.needs
  pub knows : (number : ℕ) → get_or stage.known number false ≡ true → IsKnown d stage.order number
  pub started : (number : ℕ) → Contains d.starts number → get_or stage.known number false ≡ true
  pub ready : (place : ℕ) → place < length stage.order → IsReady d (take place stage.order) (slice_index stage.order place)
  pub chosen : IsChosen allows d stage.order

-- no number gets known and no item comes, and what is settled stays so
pub record Steps (d : PlainDependencies) (allows : ℕ → ℕ → Type 0) (before after : Stage) (waiting : List ℕ) : Type 0 where
  pub search : IsSearch d allows after waiting
  pub known : after.known ≡ before.known
  pub order : after.order ≡ before.order
  pub others : (other : ℕ) → IsSettled d before other → IsSettled d after other

-- the list with this head leads to the item
abbrev pub IsReader : Links → ℕ → ℕ → Type 0
IsReader links head item = Linked links.owners links.nexts head item

-- the lists of all numbers
abbrev pub AreReaders : PlainDependencies → Links → Type 0
AreReaders d links = AllLinked d.needs (length d.needs) d.count links

-- the bits of these numbers are set, and all others are as before
pub record MarksAll (before : List Bool) (numbers : List ℕ) (bits : List Bool) : Type 0 where
  pub width : length bits ≡ length before
  pub marked : (number : ℕ) → Contains numbers number → get_or bits number false ≡ true
  pub kept : (number : ℕ) → (Contains numbers number → ⊥) → get_or bits number false ≡ get_or before number false

-- the start numbers are known and no others, and no item has been looked at
pub record IsBegun (d : PlainDependencies) (stage : Stage) : Type 0 where
  pub known : MarksAll (replicate d.count false) d.starts stage.known
  pub places : stage.places ≡ replicate (length d.needs) 0
  pub queued : stage.queued ≡ replicate (length d.needs) false
  pub order : stage.order ≡ []

-- one number is known, and what was known is
pub record LearnsOne (before : List Bool) (number : ℕ) (after : List Bool) : Type 0 where
  pub here : get_or after number false ≡ true
  pub kept : (other : ℕ) → get_or before other false ≡ true → get_or after other false ≡ true

-- the search is over: nothing waits
pub record IsDone (d : PlainDependencies) (allows : ℕ → ℕ → Type 0) (stage : Stage) : Type 0 where
  pub search : IsSearch d allows stage []
  pub settled : AllSettled d stage
  pub yielded : AreYielded d [] stage
