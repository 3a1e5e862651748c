-- What is added to flat lists where there is something to add.
use Rattle.std.specs.Prelude.{◌≡◌, ◌++◌, Bool, true, false, Option, Some, None, List, [], ◌∷◌}
use Rattle.flat_lists.specs.FlatLists.{PlainLists}

-- the item was added to the list that has begun, where there is one
abbrev pub AddsItem : {X : Type 0} → Bool → Option X → PlainLists X → PlainLists X → Type 0
AddsItem added None old new = added ≡ false
AddsItem added (Some item) old new = (added ≡ true) × (new ≡ record old { begun = old.begun ++ item ∷ [] })

-- the items were added to it, where there are any
abbrev pub Adds : {X : Type 0} → Bool → Option (List X) → PlainLists X → PlainLists X → Type 0
Adds added None old new = added ≡ false
Adds added (Some items) old new = (added ≡ true) × (new ≡ record old { begun = old.begun ++ items })

-- the list was added, where there is one
abbrev pub AddsList : {X : Type 0} → Bool → Option (List X) → PlainLists X → PlainLists X → Type 0
AddsList kept None old new = kept ≡ false
AddsList kept (Some list) old new = (kept ≡ true) × (new ≡ record { lists = old.lists ++ list ∷ []; begun = [] })
