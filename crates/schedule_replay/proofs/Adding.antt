-- Items that are added one after the other, as long as each is there.
use Rattle.std.proofs.Common.{◌≡◌, Bool, true, false, cond, List, [], ◌∷◌, ◌++◌, Option, Some, None, refl, sym, ap, ◌∙◌, append_assoc, append-nil}
use Rattle.std.specs.Prelude.{option_map, Result, Ok, Err, IfOk}
use Rattle.flat_lists.specs.FlatLists.{PlainLists}
use Rattle.schedule_replay.specs.AddedItems.{AddsItem, Adds, AddsList}
use Rattle.schedule_replay.specs.VectorLines.{each}

module _ {X Y : Type 0} (f : X → Option Y) where
  -- items that were added, and those to come
  abbrev pub onto : List Y → List X → Option (List Y)
  onto begun xs = option_map (λ ys. begun ++ ys) (each f xs)

  pub each_stops : (begun : List Y) (x : X) (xs : List X) → f x ≡ None → onto begun (x ∷ xs) ≡ None
  each_stops begun x xs e = rw e refl

  pub each_goes : (begun : List Y) (x : X) (xs : List X) (y : Y) → f x ≡ Some y → onto begun (x ∷ xs) ≡ onto (begun ++ y ∷ []) xs
  each_goes begun x xs y e = rw e (go (each f xs))
    where
      go : (o : Option (List Y)) → option_map (λ ys. begun ++ ys) (option_map (λ ys. y ∷ ys) o) ≡ option_map (λ ys. (begun ++ y ∷ []) ++ ys) o
      go None = refl
      go (Some ys) = ap (λ (l : List Y). Some l) (sym (append_assoc begun (y ∷ []) ys))

  -- what was added so far
  pub record AddsUpTo (xs rest : List X) (first now : PlainLists Y) : Type 0 where
    pub lists : now.lists ≡ first.lists
    pub read : onto now.begun rest ≡ onto first.begun xs

  pub one_added : (xs : List X) (x : X) (rest : List X) (first now next : PlainLists Y) (added : Bool) → added ≡ true → AddsItem added (f x) now next
      → AddsUpTo xs (x ∷ rest) first now → AddsUpTo xs rest first next
  one_added xs x rest first now next added is adds so_far = go (f x) refl adds
    where
      go : (o : Option Y) → f x ≡ o → AddsItem added o now next → AddsUpTo xs rest first next
      go None e h = let f : true ≡ false = sym is ∙ h in absurd cc
      go (Some y) e (_, h) = record {
        lists = ap (λ (l : PlainLists Y). l.lists) h ∙ so_far.lists;
        read = ap (λ (l : PlainLists Y). onto l.begun rest) h ∙ sym (each_goes now.begun x rest y e) ∙ so_far.read;
      }

  pub none_added : (xs : List X) (x : X) (rest : List X) (first now next : PlainLists Y) (added : Bool) → added ≡ false → AddsItem added (f x) now next
      → AddsUpTo xs (x ∷ rest) first now → (last : PlainLists Y) → Adds false (each f xs) first last
  none_added xs x rest first now next added is adds so_far last = go (f x) refl adds
    where
      nothing : (o : Option (List Y)) → option_map (λ ys. first.begun ++ ys) o ≡ None → Adds false o first last
      nothing None e = refl
      nothing (Some ys) e = absurd cc

      go : (o : Option Y) → f x ≡ o → AddsItem added o now next → Adds false (each f xs) first last
      go None e h = nothing (each f xs) (sym so_far.read ∙ each_stops now.begun x rest e)
      go (Some y) e (h, _) = let f : true ≡ false = sym h ∙ is in absurd cc

  pub all_added : (xs : List X) (first now : PlainLists Y) → AddsUpTo xs [] first now → Adds true (each f xs) first now
  all_added xs first now so_far = go (each f xs) so_far.read
    where
      same : (lists : List (List Y)) (begun more : List Y) → lists ≡ first.lists → begun ≡ first.begun ++ more
          → ◌≡◌ {A = PlainLists Y} (record { lists = lists; begun = begun }) (record first { begun = first.begun ++ more })
      same lists begun more e g = rw (e, g) refl

      go : (o : Option (List Y)) → ◌≡◌ {A = Option (List Y)} (Some (now.begun ++ [])) (option_map (λ ys. first.begun ++ ys) o) → Adds true o first now
      go None e = absurd cc
      go (Some ys) e =
          let f : now.begun ++ [] ≡ first.begun ++ ys = cc in
          (refl, same now.lists now.begun ys so_far.lists (sym (append-nil now.begun) ∙ f))

  -- the last one
  pub last_added : (xs : List X) (x : X) (first now next : PlainLists Y) (added : Bool) → AddsItem added (f x) now next
      → AddsUpTo xs (x ∷ []) first now → Adds added (each f xs) first next
  last_added xs x first now next true adds so_far = all_added xs first next (one_added xs x [] first now next true refl adds so_far)
  last_added xs x first now next false adds so_far = none_added xs x [] first now next false refl adds so_far next

pub last_if : {X Y E : Type 0} (f : X → Option Y) (xs : List X) (x : X) (first now next : PlainLists Y) (result : Result Bool E)
    → IfOk result (λ added. AddsItem added (f x) now next) → AddsUpTo f xs (x ∷ []) first now → IfOk result (λ added. Adds added (each f xs) first next)
last_if f xs x first now next (Ok added) adds so_far = last_added f xs x first now next added adds so_far
last_if f xs x first now next (Err e) adds so_far = tt

-- a script without wires, or none
pub nothing_added : {Y : Type 0} (b : Bool) (lists : PlainLists Y) → Adds b (cond b (Some []) None) lists lists
nothing_added {Y = Y} true lists = (refl, ap (λ (l : List Y). record lists { begun = l }) (sym (append-nil lists.begun)))
nothing_added false lists = refl

pub nothing_yet : {X Y : Type 0} (f : X → Option Y) (xs : List X) (first : PlainLists Y) → AddsUpTo f xs xs first first
nothing_yet f xs first = record { lists = refl; read = refl }

-- a list that was added and ended
pub ended : {Y : Type 0} (o : Option (List Y)) (added : Bool) (old mid new : PlainLists Y) → added ≡ true → old.begun ≡ [] → Adds added o old mid
    → new ≡ record { lists = mid.lists ++ mid.begun ∷ []; begun = [] } → AddsList true o old new
ended None added old mid new is none h e = let f : true ≡ false = sym is ∙ h in absurd cc
ended (Some ys) added old mid new is none (_, h) e = (refl, e ∙ (rw h (rw none refl)))

pub not_ended : {Y : Type 0} (o : Option (List Y)) (added : Bool) (old mid new : PlainLists Y) → added ≡ false → Adds added o old mid → AddsList false o old new
not_ended None added old mid new is h = refl
not_ended (Some ys) added old mid new is (h, _) = let f : true ≡ false = sym h ∙ is in absurd cc
