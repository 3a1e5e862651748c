-- A place of a wire is the place that the wire is on.
use Rattle.std.proofs.Common.{◌≡◌, ◌+◌, ◌⊎◌, ℕ, zero, suc, ◌==◌, Option, Some, None, option_map, option_and_then, List, [], ◌∷◌, ◌++◌, slice_get, ap, sym, subst, inl, inr, arith, refl}
use Rattle.std.proofs.lemmas.Bool.{cases_Bool, eqb-true, eq-eqb}
use Rattle.pulse_ids.specs.Ids.{WireId, numbered}
use Rattle.cell_netlist.specs.declared.lines.Rail.{Rail}
use Rattle.cell_netlist.specs.declared.lines.Cell.{Cell}
use Rattle.cell_netlist.specs.declared.lines.Cell.TheVariants.{La, Fa, Split, Droc}
use Rattle.cell_netlist.specs.declared.lines.Driver.{Driver}
use Rattle.cell_netlist.specs.declared.lines.Driver.TheVariants.{Input, Out, Left, Right, Q, N}
use Rattle.cell_netlist.specs.declared.lines.Reader.{Reader}
use Rattle.cell_netlist.specs.declared.lines.Reader.TheVariants.{A, B, From, Feed, Output}
use Rattle.pulse_ids.specs.Lists.{IsIn}
use Rattle.pulse_ids.proofs.CallerLemmas.{IsIn-append, IsIn-left, IsIn-right}
use Rattle.cell_netlist.specs.Netlists.{wire_of, outs, reads}
use Rattle.cell_netlist.specs.Places.{At, place_if_used, driving, reading, cell_places, rail_places, on_wire, IsDriverOf, IsReaderOf, output_at, input_at}
use Rattle.cell_netlist.proofs.PlaceLemmas.{on_wire-append}
use Rattle.cell_netlist.proofs.TableLemmas.{numbered-is}

-- two wires of one number are one
pub same_wire : (v w : WireId) → v.number ≡ w.number → v ≡ w
same_wire v w e = ap (λ (n : ℕ). numbered n) e

module _ {Place : Type 0} (w : ℕ) where
  -- the place on a wire, alone
  on_wire-hit : (at : At Place) → at.0 ≡ w → on_wire w (at ∷ []) ≡ at.1 ∷ []
  on_wire-hit at e = let hit = eq-eqb w at.0 (sym e) in rw hit refl

  on_wire-at : (v : ℕ) (place x : Place) → IsIn x (on_wire w ((v, place) ∷ [])) → (v ≡ w) × (place ≡ x)
  on_wire-at v place x h = elim (cases_Bool (w == v)) [
    | inl hit ↦ let g : IsIn x (place ∷ []) = rw hit at h in elim g [ inl e ↦ (sym (eqb-true w v hit), e) | inr none ↦ absurd none ]
    | inr miss ↦ let g = rw miss at h in absurd g
  ]

  on_wire-from : (v : ℕ) (place x : Place) → v ≡ w → place ≡ x → IsIn x (on_wire w ((v, place) ∷ []))
  on_wire-from v place x e same = let hit = eq-eqb w v (sym e) in rw hit (inl same)

  -- a place among two lists of places
  pub on_wire-parts : (xs ys : List (At Place)) (x : Place) → IsIn x (on_wire w (xs ++ ys)) → IsIn x (on_wire w xs) ⊎ IsIn x (on_wire w ys)
  on_wire-parts xs ys x h = IsIn-append x (on_wire w xs) (on_wire w ys) (subst (λ l. IsIn x l) (on_wire-append w xs ys) h)

  pub on_wire-left : (xs ys : List (At Place)) (x : Place) → IsIn x (on_wire w xs) → IsIn x (on_wire w (xs ++ ys))
  on_wire-left xs ys x h = subst (λ l. IsIn x l) (sym (on_wire-append w xs ys)) (IsIn-left x (on_wire w xs) (on_wire w ys) h)

  pub on_wire-right : (xs ys : List (At Place)) (x : Place) → IsIn x (on_wire w ys) → IsIn x (on_wire w (xs ++ ys))
  on_wire-right xs ys x h = subst (λ l. IsIn x l) (sym (on_wire-append w xs ys)) (IsIn-right x (on_wire w xs) (on_wire w ys) h)

  -- a place among those of rails is that of a rail
  pub rail_place-at : (f : ℕ → Place) (r : ℕ) (rails : List Rail) (x : Place) → IsIn x (on_wire w (rail_places f r rails))
      → (k : ℕ) × (i : ℕ) × (k ≡ r + i) × (rail : Rail) × (slice_get rails i ≡ Some rail) × (wire_of rail ≡ w) × (f k ≡ x)
  rail_place-at f r [] x h = absurd h
  rail_place-at f r (rail ∷ rails) x h = elim (on_wire-parts ((wire_of rail, f r) ∷ []) (rail_places f (r + 1) rails) x h) [
    | inl here ↦ let its = on_wire-at (wire_of rail) (f r) x here in (r, 0, omega arith, rail, refl, its.0, its.1)
    | inr later ↦ let found = rail_place-at f (r + 1) rails x later in (found.0, suc found.1, omega (arith, found.2), found.3, found.4, found.5, found.6)
  ]

  pub rail_place-from : (f : ℕ → Place) (r i k : ℕ) (rails : List Rail) (rail : Rail) → k ≡ r + i → slice_get rails i ≡ Some rail → wire_of rail ≡ w
      → IsIn (f k) (on_wire w (rail_places f r rails))
  rail_place-from f r i k [] rail sum at e = absurd cc
  rail_place-from f r zero k (first ∷ rails) rail sum at e =
      let same : rail ≡ first = cc in
      let number : r ≡ k = omega arith in
      on_wire-left ((wire_of first, f r) ∷ []) (rail_places f (r + 1) rails) (f k)
      (on_wire-from (wire_of first) (f r) (f k) (subst (λ x. wire_of x ≡ w) same e) (ap f number))
  rail_place-from f r (suc i) k (first ∷ rails) rail sum at e =
      on_wire-right ((wire_of first, f r) ∷ []) (rail_places f (r + 1) rails) (f k) (rail_place-from f (r + 1) i k rails rail (omega arith) at e)

  -- a place among those of cells is that of a cell
  pub cell_place-at : (places : ℕ → Cell → List (At Place)) (c : ℕ) (cells : List Cell) (x : Place) → IsIn x (on_wire w (cell_places places c cells))
      → (k : ℕ) × (i : ℕ) × (k ≡ c + i) × (cell : Cell) × (slice_get cells i ≡ Some cell) × IsIn x (on_wire w (places k cell))
  cell_place-at places c [] x h = absurd h
  cell_place-at places c (cell ∷ cells) x h = elim (on_wire-parts (places c cell) (cell_places places (c + 1) cells) x h) [
    | inl here ↦ (c, 0, omega arith, cell, refl, here)
    | inr later ↦ let found = cell_place-at places (c + 1) cells x later in (found.0, suc found.1, omega (arith, found.2), found.3, found.4, found.5)
  ]

  pub cell_place-from : (places : ℕ → Cell → List (At Place)) (c i k : ℕ) (cells : List Cell) (cell : Cell) (x : Place) → k ≡ c + i → slice_get cells i ≡ Some cell
      → IsIn x (on_wire w (places k cell)) → IsIn x (on_wire w (cell_places places c cells))
  cell_place-from places c i k [] cell x sum at h = absurd cc
  cell_place-from places c zero k (first ∷ cells) cell x sum at h =
      let same : cell ≡ first = cc in
      let number : k ≡ c = omega arith in
      on_wire-left (places c first) (cell_places places (c + 1) cells) x
      (subst (λ (d : Cell). IsIn x (on_wire w (places c d))) same (subst (λ n. IsIn x (on_wire w (places n cell))) number h))
  cell_place-from places c (suc i) k (first ∷ cells) cell x sum at h =
      on_wire-right (places c first) (cell_places places (c + 1) cells) x (cell_place-from places (c + 1) i k cells cell x (omega arith) at h)

-- what an option that was stepped on from was
pub stepped-from : {X Y : Type 0} (f : X → Option Y) (o : Option X) (y : Y) → option_and_then f o ≡ Some y → (x : X) × (o ≡ Some x) × (f x ≡ Some y)
stepped-from f None y e = absurd cc
stepped-from f (Some x) y e = (x, refl, e)

pub mapped-from : {X Y : Type 0} (f : X → Y) (o : Option X) (y : Y) → option_map f o ≡ Some y → (x : X) × (o ≡ Some x) × (f x ≡ y)
mapped-from f None y e = absurd cc
mapped-from f (Some x) y e = (x, refl, cc)

module _ (wire : WireId) where
  -- a driving place of a cell
  output-at : (c : ℕ) (o : Option WireId) (place x : Driver) → IsIn x (on_wire wire.number (place_if_used o place)) → (o ≡ Some wire) × (place ≡ x)
  output-at c None place x h = absurd h
  output-at c (Some v) place x h = let its = on_wire-at wire.number v.number place x h in (ap (λ z. Some z) (same_wire v wire its.0), its.1)

  output-from : (o : Option WireId) (place x : Driver) → o ≡ Some wire → place ≡ x → IsIn x (on_wire wire.number (place_if_used o place))
  output-from None place x e same = absurd cc
  output-from (Some v) place x e same = let its : v ≡ wire = cc in on_wire-from wire.number v.number place x (ap (λ z. z.number) its) same

  -- the place with what is so of it
  abbrev IsOutput : ℕ → Cell → Driver → Type 0
  IsOutput c cell x = IsDriverOf x c × (output_at cell x ≡ Some wire)

  abbrev IsInput : ℕ → Cell → Reader → Type 0
  IsInput c cell x = IsReaderOf x c × (input_at cell x ≡ Some wire)

  pub driving-at : (c : ℕ) (cell : Cell) (x : Driver) → IsIn x (on_wire wire.number (driving c cell)) → IsOutput c cell x
  driving-at c (La a b out) x h =
      let its = on_wire-at wire.number out.number (Out (numbered c)) x h in
      subst (IsOutput c (La a b out)) its.1 (refl, ap (λ z. Some z) (same_wire out wire its.0))
  driving-at c (Fa a b out) x h =
      let its = on_wire-at wire.number out.number (Out (numbered c)) x h in
      subst (IsOutput c (Fa a b out)) its.1 (refl, ap (λ z. Some z) (same_wire out wire its.0))
  driving-at c (Split from left right) x h =
      elim (on_wire-parts wire.number ((left.number, Left (numbered c)) ∷ []) ((right.number, Right (numbered c)) ∷ []) x h) [
        | inl l ↦
            let its = on_wire-at wire.number left.number (Left (numbered c)) x l in
            subst (IsOutput c (Split from left right)) its.1 (refl, ap (λ z. Some z) (same_wire left wire its.0))
        | inr r ↦
            let its = on_wire-at wire.number right.number (Right (numbered c)) x r in
            subst (IsOutput c (Split from left right)) its.1 (refl, ap (λ z. Some z) (same_wire right wire its.0))
      ]
  driving-at c (Droc role preload feed q n) x h =
      elim (on_wire-parts wire.number (place_if_used q (Q (numbered c))) (place_if_used n (N (numbered c))) x h) [
        | inl l ↦ let its = output-at c q (Q (numbered c)) x l in subst (IsOutput c (Droc role preload feed q n)) its.1 (refl, its.0)
        | inr r ↦ let its = output-at c n (N (numbered c)) x r in subst (IsOutput c (Droc role preload feed q n)) its.1 (refl, its.0)
      ]

  pub reading-at : (c : ℕ) (cell : Cell) (x : Reader) → IsIn x (on_wire wire.number (reading c cell)) → IsInput c cell x
  reading-at c (La a b out) x h =
      elim (on_wire-parts wire.number ((a.number, A (numbered c)) ∷ []) ((b.number, B (numbered c)) ∷ []) x h) [
        | inl l ↦
            let its = on_wire-at wire.number a.number (A (numbered c)) x l in
            subst (IsInput c (La a b out)) its.1 (refl, ap (λ z. Some z) (same_wire a wire its.0))
        | inr r ↦
            let its = on_wire-at wire.number b.number (B (numbered c)) x r in
            subst (IsInput c (La a b out)) its.1 (refl, ap (λ z. Some z) (same_wire b wire its.0))
      ]
  reading-at c (Fa a b out) x h =
      elim (on_wire-parts wire.number ((a.number, A (numbered c)) ∷ []) ((b.number, B (numbered c)) ∷ []) x h) [
        | inl l ↦
            let its = on_wire-at wire.number a.number (A (numbered c)) x l in
            subst (IsInput c (Fa a b out)) its.1 (refl, ap (λ z. Some z) (same_wire a wire its.0))
        | inr r ↦
            let its = on_wire-at wire.number b.number (B (numbered c)) x r in
            subst (IsInput c (Fa a b out)) its.1 (refl, ap (λ z. Some z) (same_wire b wire its.0))
      ]
  reading-at c (Split from left right) x h =
      let its = on_wire-at wire.number from.number (From (numbered c)) x h in
      subst (IsInput c (Split from left right)) its.1 (refl, ap (λ z. Some z) (same_wire from wire its.0))
  reading-at c (Droc role preload feed q n) x h =
      let its = on_wire-at wire.number feed.number (Feed (numbered c)) x h in
      subst (IsInput c (Droc role preload feed q n)) its.1 (refl, ap (λ z. Some z) (same_wire feed wire its.0))

  -- the number of a wire that is there
  number_of : (v : WireId) → Some v ≡ Some wire → v.number ≡ wire.number
  number_of v e = let same : v ≡ wire = cc in ap (λ z. z.number) same

  pub driving-from : (c : ℕ) (cell : Cell) (x : Driver) → IsDriverOf x c → output_at cell x ≡ Some wire → IsIn x (on_wire wire.number (driving c cell))
  driving-from c cell (Input id) own e = absurd own
  driving-from c (La a b out) (Out id) own e =
      on_wire-from wire.number out.number (Out (numbered c)) (Out id) (number_of out e) (ap (λ i. Out i) (sym (numbered-is id c own)))
  driving-from c (Fa a b out) (Out id) own e =
      on_wire-from wire.number out.number (Out (numbered c)) (Out id) (number_of out e) (ap (λ i. Out i) (sym (numbered-is id c own)))
  driving-from c (Split from left right) (Left id) own e =
      on_wire-left wire.number ((left.number, Left (numbered c)) ∷ []) ((right.number, Right (numbered c)) ∷ []) (Left id)
      (on_wire-from wire.number left.number (Left (numbered c)) (Left id) (number_of left e) (ap (λ i. Left i) (sym (numbered-is id c own))))
  driving-from c (Split from left right) (Right id) own e =
      on_wire-right wire.number ((left.number, Left (numbered c)) ∷ []) ((right.number, Right (numbered c)) ∷ []) (Right id)
      (on_wire-from wire.number right.number (Right (numbered c)) (Right id) (number_of right e) (ap (λ i. Right i) (sym (numbered-is id c own))))
  driving-from c (Droc role preload feed q n) (Q id) own e =
      on_wire-left wire.number (place_if_used q (Q (numbered c))) (place_if_used n (N (numbered c))) (Q id)
      (output-from q (Q (numbered c)) (Q id) e (ap (λ i. Q i) (sym (numbered-is id c own))))
  driving-from c (Droc role preload feed q n) (N id) own e =
      on_wire-right wire.number (place_if_used q (Q (numbered c))) (place_if_used n (N (numbered c))) (N id)
      (output-from n (N (numbered c)) (N id) e (ap (λ i. N i) (sym (numbered-is id c own))))
  driving-from c (La a b out) (Left id) own e = absurd cc
  driving-from c (La a b out) (Right id) own e = absurd cc
  driving-from c (La a b out) (Q id) own e = absurd cc
  driving-from c (La a b out) (N id) own e = absurd cc
  driving-from c (Fa a b out) (Left id) own e = absurd cc
  driving-from c (Fa a b out) (Right id) own e = absurd cc
  driving-from c (Fa a b out) (Q id) own e = absurd cc
  driving-from c (Fa a b out) (N id) own e = absurd cc
  driving-from c (Split from left right) (Out id) own e = absurd cc
  driving-from c (Split from left right) (Q id) own e = absurd cc
  driving-from c (Split from left right) (N id) own e = absurd cc
  driving-from c (Droc role preload feed q n) (Out id) own e = absurd cc
  driving-from c (Droc role preload feed q n) (Left id) own e = absurd cc
  driving-from c (Droc role preload feed q n) (Right id) own e = absurd cc

  pub reading-from : (c : ℕ) (cell : Cell) (x : Reader) → IsReaderOf x c → input_at cell x ≡ Some wire → IsIn x (on_wire wire.number (reading c cell))
  reading-from c cell (Output id) own e = absurd own
  reading-from c (La a b out) (A id) own e =
      on_wire-left wire.number ((a.number, A (numbered c)) ∷ []) ((b.number, B (numbered c)) ∷ []) (A id)
      (on_wire-from wire.number a.number (A (numbered c)) (A id) (number_of a e) (ap (λ i. A i) (sym (numbered-is id c own))))
  reading-from c (La a b out) (B id) own e =
      on_wire-right wire.number ((a.number, A (numbered c)) ∷ []) ((b.number, B (numbered c)) ∷ []) (B id)
      (on_wire-from wire.number b.number (B (numbered c)) (B id) (number_of b e) (ap (λ i. B i) (sym (numbered-is id c own))))
  reading-from c (Fa a b out) (A id) own e =
      on_wire-left wire.number ((a.number, A (numbered c)) ∷ []) ((b.number, B (numbered c)) ∷ []) (A id)
      (on_wire-from wire.number a.number (A (numbered c)) (A id) (number_of a e) (ap (λ i. A i) (sym (numbered-is id c own))))
  reading-from c (Fa a b out) (B id) own e =
      on_wire-right wire.number ((a.number, A (numbered c)) ∷ []) ((b.number, B (numbered c)) ∷ []) (B id)
      (on_wire-from wire.number b.number (B (numbered c)) (B id) (number_of b e) (ap (λ i. B i) (sym (numbered-is id c own))))
  reading-from c (Split from left right) (From id) own e =
      on_wire-from wire.number from.number (From (numbered c)) (From id) (number_of from e) (ap (λ i. From i) (sym (numbered-is id c own)))
  reading-from c (Droc role preload feed q n) (Feed id) own e =
      on_wire-from wire.number feed.number (Feed (numbered c)) (Feed id) (number_of feed e) (ap (λ i. Feed i) (sym (numbered-is id c own)))
  reading-from c (La a b out) (From id) own e = absurd cc
  reading-from c (La a b out) (Feed id) own e = absurd cc
  reading-from c (Fa a b out) (From id) own e = absurd cc
  reading-from c (Fa a b out) (Feed id) own e = absurd cc
  reading-from c (Split from left right) (A id) own e = absurd cc
  reading-from c (Split from left right) (B id) own e = absurd cc
  reading-from c (Split from left right) (Feed id) own e = absurd cc
  reading-from c (Droc role preload feed q n) (A id) own e = absurd cc
  reading-from c (Droc role preload feed q n) (B id) own e = absurd cc
  reading-from c (Droc role preload feed q n) (From id) own e = absurd cc

  -- an output of a cell is one of its driving places
  pub out-place : (c : ℕ) (cell : Cell) → IsIn wire.number (outs cell) → (x : Driver) × IsOutput c cell x
  out-place c (La a b out) (inl e) = (Out (numbered c), (refl, ap (λ z. Some z) (same_wire out wire e)))
  out-place c (La a b out) (inr none) = absurd none
  out-place c (Fa a b out) (inl e) = (Out (numbered c), (refl, ap (λ z. Some z) (same_wire out wire e)))
  out-place c (Fa a b out) (inr none) = absurd none
  out-place c (Split from left right) (inl e) = (Left (numbered c), (refl, ap (λ z. Some z) (same_wire left wire e)))
  out-place c (Split from left right) (inr (inl e)) = (Right (numbered c), (refl, ap (λ z. Some z) (same_wire right wire e)))
  out-place c (Split from left right) (inr (inr none)) = absurd none
  out-place c (Droc role preload feed None None) h = absurd h
  out-place c (Droc role preload feed (Some q) n) (inl e) = (Q (numbered c), (refl, ap (λ z. Some z) (same_wire q wire e)))
  out-place c (Droc role preload feed (Some q) None) (inr none) = absurd none
  out-place c (Droc role preload feed (Some q) (Some n)) (inr (inl e)) = (N (numbered c), (refl, ap (λ z. Some z) (same_wire n wire e)))
  out-place c (Droc role preload feed (Some q) (Some n)) (inr (inr none)) = absurd none
  out-place c (Droc role preload feed None (Some n)) (inl e) = (N (numbered c), (refl, ap (λ z. Some z) (same_wire n wire e)))
  out-place c (Droc role preload feed None (Some n)) (inr none) = absurd none

  pub read-place : (c : ℕ) (cell : Cell) → IsIn wire.number (reads cell) → (x : Reader) × IsInput c cell x
  read-place c (La a b out) (inl e) = (A (numbered c), (refl, ap (λ z. Some z) (same_wire a wire e)))
  read-place c (La a b out) (inr (inl e)) = (B (numbered c), (refl, ap (λ z. Some z) (same_wire b wire e)))
  read-place c (La a b out) (inr (inr none)) = absurd none
  read-place c (Fa a b out) (inl e) = (A (numbered c), (refl, ap (λ z. Some z) (same_wire a wire e)))
  read-place c (Fa a b out) (inr (inl e)) = (B (numbered c), (refl, ap (λ z. Some z) (same_wire b wire e)))
  read-place c (Fa a b out) (inr (inr none)) = absurd none
  read-place c (Split from left right) (inl e) = (From (numbered c), (refl, ap (λ z. Some z) (same_wire from wire e)))
  read-place c (Split from left right) (inr none) = absurd none
  read-place c (Droc role preload feed q n) (inl e) = (Feed (numbered c), (refl, ap (λ z. Some z) (same_wire feed wire e)))
  read-place c (Droc role preload feed q n) (inr none) = absurd none
