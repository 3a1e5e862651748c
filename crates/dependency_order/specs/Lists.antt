-- Lists that lie one behind the other in one table.
use Rattle.std.specs.Prelude.{◌≡◌, ◌+◌, ◌≤◌, ◌<◌, ◌-◌, ℕ, List, [], ◌∷◌, length, take, drop, sum_by, vec_len, vec_capacity}
use Rattle.dependency_order.specs.declared.lists.Lists.{Lists}

-- the lists that end at these places, the first of which begins at a place
abbrev pub lists_from : ℕ → List ℕ → List ℕ → List (List ℕ)
lists_from begin [] values = []
lists_from begin (end ∷ ends) values = take (end - begin) (drop begin values) ∷ lists_from end ends values

-- the ends rise, and the last one is the end of the table
abbrev pub AreEnds : ℕ → List ℕ → List ℕ → Type 0
AreEnds begin [] values = begin ≡ length values
AreEnds begin (end ∷ ends) values = (begin ≤ end) × (end ≤ length values) × AreEnds end ends values

-- how many values the lists have
abbrev pub total : List (List ℕ) → ℕ
total lists = sum_by length lists

-- the lists of the table
abbrev pub lists_of : Lists → List (List ℕ)
lists_of lists = lists_from 0 lists.ends.items lists.values.items

-- the places where the lists end are those of the table
abbrev pub IsTable : Lists → Type 0
IsTable lists = AreEnds 0 lists.ends.items lists.values.items

-- one list more, of so many values, takes no memory
abbrev pub HasRoom : Lists → ℕ → Type 0
HasRoom lists count =
    (vec_len lists.values + count ≤ vec_capacity lists.values) × (vec_len lists.ends < vec_capacity lists.ends)
