-- Lists of lists in one flat table.
use Rattle.std.proofs.Common.{◌≡◌, ◌≤◌, ◌<◌, ◌+◌, ◌-◌, ◌++◌, ℕ, zero, suc, List, [], ◌∷◌, length, take, drop, refl, sym, ap, ◌∙◌, subst, arith}
use Rattle.std.specs.Prelude.{get_or}
use Rattle.std.proofs.lemmas.List.{length-drop, take_all, length-append}
use Rattle.flat_lists.specs.FlatLists.{PlainLists, ended_from, begun_from, AreEnds, lists_of}

module _ {X : Type 0} where
  pub length_lists : (start : ℕ) (ends : List ℕ) (items : List X) → length (ended_from start ends items) ≡ length ends
  length_lists start [] items = refl
  length_lists start (end ∷ ends) items = ap suc (length_lists end ends (drop (end - start) items))

  take-within : (n : ℕ) (xs ys : List X) → n ≤ length xs → take n (xs ++ ys) ≡ take n xs
  take-within zero xs ys le = zero-take xs ys
    where
      zero-take : (xs ys : List X) → take 0 (xs ++ ys) ≡ take 0 xs
      zero-take [] ys = zero-of ys
        where
          zero-of : (ys : List X) → take 0 ys ≡ []
          zero-of [] = refl
          zero-of (y ∷ ys) = refl
      zero-take (x ∷ xs) ys = refl
  take-within (suc n) [] ys le = absurd (omega arith)
  take-within (suc n) (x ∷ xs) ys le = ap (λ (l : List X). x ∷ l) (take-within n xs ys (omega arith))

  drop-within : (n : ℕ) (xs ys : List X) → n ≤ length xs → drop n (xs ++ ys) ≡ drop n xs ++ ys
  drop-within zero xs ys le = zero-drop xs ys
    where
      zero-drop : (xs ys : List X) → drop 0 (xs ++ ys) ≡ drop 0 xs ++ ys
      zero-drop [] ys = zero-of ys
        where
          zero-of : (ys : List X) → drop 0 ys ≡ ys
          zero-of [] = refl
          zero-of (y ∷ ys) = refl
      zero-drop (x ∷ xs) ys = refl
  drop-within (suc n) [] ys le = absurd (omega arith)
  drop-within (suc n) (x ∷ xs) ys le = drop-within n xs ys (omega arith)

  -- more items
  pub ends-stay : (start : ℕ) (ends : List ℕ) (items more : List X) → AreEnds start ends items → AreEnds start ends (items ++ more)
  ends-stay start [] items more are = tt
  ends-stay start (end ∷ ends) items more (rise, within, rest) =
      let longer = length-append items more in
      (rise, omega arith, subst (AreEnds end ends) (sym (drop-within (end - start) items more within)) (ends-stay end ends (drop (end - start) items) more rest))

  pub lists-stay : (start : ℕ) (ends : List ℕ) (items more : List X) → AreEnds start ends items → ended_from start ends (items ++ more) ≡ ended_from start ends items
  lists-stay start [] items more are = refl
  lists-stay start (end ∷ ends) items more (rise, within, rest) =
      let first = take-within (end - start) items more within in
      let later = ap (ended_from end ends) (drop-within (end - start) items more within) ∙ lists-stay end ends (drop (end - start) items) more rest in
      cc

  pub begun-grows : (start : ℕ) (ends : List ℕ) (items more : List X) → AreEnds start ends items → begun_from start ends (items ++ more) ≡ begun_from start ends items ++ more
  begun-grows start [] items more are = refl
  begun-grows start (end ∷ ends) items more (rise, within, rest) =
      ap (begun_from end ends) (drop-within (end - start) items more within) ∙ begun-grows end ends (drop (end - start) items) more rest

  drop-all : (n : ℕ) (xs : List X) → n ≡ length xs → drop n xs ≡ []
  drop-all zero [] e = refl
  drop-all zero (x ∷ xs) e = absurd (omega arith)
  drop-all (suc n) [] e = absurd (omega arith)
  drop-all (suc n) (x ∷ xs) e = drop-all n xs (omega arith)

  -- one end more, after all items
  pub end-added : (start : ℕ) (ends : List ℕ) (items : List X) (all : ℕ) → all ≡ start + length items → AreEnds start ends items → AreEnds start (ends ++ all ∷ []) items
  end-added start [] items all e are = (omega arith, omega arith, tt)
  end-added start (end ∷ ends) items all e (rise, within, rest) =
      let left = length-drop (end - start) items in
      (rise, within, end-added end ends (drop (end - start) items) all (omega arith) rest)

  pub list-added : (start : ℕ) (ends : List ℕ) (items : List X) (all : ℕ) → all ≡ start + length items → AreEnds start ends items
      → ended_from start (ends ++ all ∷ []) items ≡ ended_from start ends items ++ begun_from start ends items ∷ []
  list-added start [] items all e are = let whole = take_all (all - start) items (omega arith) in cc
  list-added start (end ∷ ends) items all e (rise, within, rest) =
      let left = length-drop (end - start) items in
      ap (λ (l : List (List X)). take (end - start) items ∷ l) (list-added end ends (drop (end - start) items) all (omega arith) rest)

  pub begun-anew : (start : ℕ) (ends : List ℕ) (items : List X) (all : ℕ) → all ≡ start + length items → AreEnds start ends items
      → begun_from start (ends ++ all ∷ []) items ≡ []
  begun-anew start [] items all e are = drop-all (all - start) items (omega arith)
  begun-anew start (end ∷ ends) items all e (rise, within, rest) =
      let left = length-drop (end - start) items in
      begun-anew end ends (drop (end - start) items) all (omega arith) rest

  -- no list
  pub past-lists : (k : ℕ) (xs : List (List X)) → length xs ≤ k → get_or xs k [] ≡ []
  past-lists k [] le = refl
  past-lists zero (x ∷ xs) le = absurd (omega arith)
  past-lists (suc k) (x ∷ xs) le = past-lists k xs (omega arith)

  drop-drop : (a b : ℕ) (xs : List X) → drop b (drop a xs) ≡ drop (a + b) xs
  drop-drop zero b xs = let e : b ≡ 0 + b = omega arith in ap (λ n. drop n xs) e
  drop-drop (suc a) b [] = nothing b ∙ sym (nothing (suc a + b))
    where
      nothing : (n : ℕ) → ◌≡◌ {A = List X} (drop n []) []
      nothing zero = refl
      nothing (suc n) = refl
  drop-drop (suc a) b (x ∷ xs) = let e : suc a + b ≡ suc (a + b) = omega arith in drop-drop a b xs ∙ ap (λ n. drop n (x ∷ xs)) (sym e)

  -- where the list of a number lies
  pub record LiesAt (start : ℕ) (ends : List ℕ) (items : List X) (k : ℕ) : Type 0 where
    pub after : start ≤ get_or (start ∷ ends) k 0
    pub rise : get_or (start ∷ ends) k 0 ≤ get_or ends k 0
    pub within : get_or ends k 0 - start ≤ length items
    pub is : get_or (ended_from start ends items) k [] ≡ take (get_or ends k 0 - get_or (start ∷ ends) k 0) (drop (get_or (start ∷ ends) k 0 - start) items)

  pub lies_at : (start : ℕ) (ends : List ℕ) (items : List X) (k : ℕ) → AreEnds start ends items → k < length ends → LiesAt start ends items k
  lies_at start [] items k are less = absurd (omega arith)
  lies_at start (end ∷ ends) items zero (rise, within, rest) less =
      let none : 0 ≡ start - start = omega arith in
      record { after = omega arith; rise = rise; within = within; is = ap (λ n. take (end - start) (drop n items)) none }
  lies_at start (end ∷ ends) items (suc k) (rise, within, rest) less =
      let r = lies_at end ends (drop (end - start) items) k rest (omega arith) in
      let left = length-drop (end - start) items in
      let from = get_or (end ∷ ends) k 0 in
      let both : (end - start) + (from - end) ≡ from - start = omega (arith, r.after) in
      record {
        after = omega (arith, r.after);
        rise = r.rise;
        within = omega (arith, r.within, r.rise, r.after);
        is = r.is ∙ ap (λ l. take (get_or ends k 0 - from) l) (drop-drop (end - start) (from - end) items ∙ ap (λ n. drop n items) both);
      }

  pub pushed : (ends : List ℕ) (items : List X) (item : X) → AreEnds 0 ends items
      → lists_of ends (items ++ item ∷ []) ≡ record (lists_of ends items) { begun = (lists_of ends items).begun ++ item ∷ [] }
  pushed ends items item are =
      let lists = lists-stay 0 ends items (item ∷ []) are in
      let begun = begun-grows 0 ends items (item ∷ []) are in
      made _ _ _ _ lists begun
    where
      made : (a b : List (List X)) (c d : List X) → a ≡ b → c ≡ d → ◌≡◌ {A = PlainLists X} (record { lists = a; begun = c }) (record { lists = b; begun = d })
      made a b c d e f = rw (e, f) refl

  pub ended_at : (ends : List ℕ) (items : List X) (all : ℕ) → all ≡ length items → AreEnds 0 ends items
      → lists_of (ends ++ all ∷ []) items ≡ record { lists = (lists_of ends items).lists ++ (lists_of ends items).begun ∷ []; begun = [] }
  ended_at ends items all e are =
      let lists = list-added 0 ends items all (omega arith) are in
      let begun = begun-anew 0 ends items all (omega arith) are in
      made _ _ _ _ lists begun
    where
      made : (a b : List (List X)) (c d : List X) → a ≡ b → c ≡ d → ◌≡◌ {A = PlainLists X} (record { lists = a; begun = c }) (record { lists = b; begun = d })
      made a b c d e f = rw (e, f) refl

  -- items and one end more, after all of them
  pub ended_with : (ends : List ℕ) (items more : List X) (all : ℕ) → all ≡ length (items ++ more) → AreEnds 0 ends items
      → lists_of (ends ++ all ∷ []) (items ++ more) ≡ record { lists = (lists_of ends items).lists ++ ((lists_of ends items).begun ++ more) ∷ []; begun = [] }
  ended_with ends items more all e are =
      let lists = lists-stay 0 ends items more are in
      let begun = begun-grows 0 ends items more are in
      ended_at ends (items ++ more) all e (ends-stay 0 ends items more are) ∙ made _ _ _ _ lists begun
    where
      made : (a b : List (List X)) (c d : List X) → a ≡ b → c ≡ d
          → ◌≡◌ {A = PlainLists X} (record { lists = a ++ c ∷ []; begun = [] }) (record { lists = b ++ d ∷ []; begun = [] })
      made a b c d e f = rw (e, f) refl
