-- For each number the items that need it, as linked lists that only grow.
use Rattle.std.specs.Prelude.{◌≡◌, ℕ, ◌+◌, ◌≤◌, ◌<◌, List, [], ◌∷◌, ◌++◌, length, drop, get_or, set, slice_index, Contains}
use Rattle.dependency_order.specs.Lists.{total}

-- linked lists of the items that need each number
pub record Links : Type 0 where
  pub heads : List ℕ
  pub owners : List ℕ
  pub nexts : List ℕ

-- one item more is at the head of one number's list
pub record LinksMore (before : Links) (number item : ℕ) (after : Links) : Type 0 where
  pub heads : after.heads ≡ set before.heads number (length before.owners + 1)
  pub owners : after.owners ≡ before.owners ++ item ∷ []
  pub nexts : after.nexts ≡ before.nexts ++ slice_index before.heads number ∷ []

-- the item is in the list with this head
pub data Linked (owners nexts : List ℕ) : ℕ → ℕ → Type 0 where
  at_head : (head item place : ℕ) → head ≡ place + 1 → place < length owners → slice_index owners place ≡ item → Linked owners nexts head item
  further : (head item place : ℕ) → head ≡ place + 1 → place < length owners → Linked owners nexts (slice_index nexts place) item → Linked owners nexts head item

-- the lists lead back, and end
pub record AreLinks (links : Links) : Type 0 where
  pub paired : length links.owners ≡ length links.nexts
  pub back : (place : ℕ) → place < length links.nexts → slice_index links.nexts place ≤ place
  pub low : (number : ℕ) → slice_index links.heads number ≤ length links.owners

-- one item more needs each of these numbers
pub record LinksAdded (before : Links) (numbers : List ℕ) (item : ℕ) (after : Links) : Type 0 where
  pub links : AreLinks after
  pub width : length after.heads ≡ length before.heads
  pub longer : length after.owners ≡ length before.owners + length numbers
  pub owned : (bound : ℕ) → item < bound → ((place : ℕ) → place < length before.owners → slice_index before.owners place < bound) → (place : ℕ)
      → place < length after.owners → slice_index after.owners place < bound
  pub kept : (number other : ℕ) → Linked before.owners before.nexts (slice_index before.heads number) other → Linked after.owners after.nexts (slice_index after.heads number) other
  pub added : (number : ℕ) → Contains numbers number → Linked after.owners after.nexts (slice_index after.heads number) item

-- each number's list leads to those of so many items that need the number
pub record AllLinked (needs : List (List ℕ)) (done count : ℕ) (lists : Links) : Type 0 where
  pub links : AreLinks lists
  pub width : length lists.heads ≡ count
  pub size : length lists.owners + total (drop done needs) ≡ total needs
  pub owned : (place : ℕ) → place < length lists.owners → slice_index lists.owners place < length needs
  pub all : (item : ℕ) → item < done → (number : ℕ) → Contains (get_or needs item []) number → Linked lists.owners lists.nexts (slice_index lists.heads number) item
