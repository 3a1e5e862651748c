-- Linked lists that only grow.
use Rattle.std.proofs.Common.{◌≡◌, ◌≢◌, ℕ, zero, suc, ◌+◌, ◌-◌, ◌≤◌, ◌<◌, ◌⊎◌, inl, inr, List, [], ◌∷◌, ◌++◌, length, take, get_or, replicate, refl, sym, ◌∙◌, ap, subst, arith, Contains, ◌^◌}
use Rattle.std.specs.Prelude.{slice_index}
use Rattle.std.proofs.lemmas.List.{take_more, get_or-set_same, get_or-set_other, length-set, length-append, get_or_append_left, length-replicate}
use Rattle.std.proofs.Math.Seq.{get_or-append_seam}
use Rattle.std.proofs.lemmas.List.Elements.{Contains-push_cases}
use Rattle.std.proofs.lemmas.List.Sums.{sum_by-drop_more}
use Rattle.dependency_order.specs.Lists.{total}
use Rattle.dependency_order.specs.Readers.{Links, LinksMore, Linked, at_head, further, AreLinks, LinksAdded, AllLinked}
use Rattle.dependency_order.proofs.Members.{same_or_not, lower_or_not, Contains-nil}

Linked-more : (owners nexts : List ℕ) (a b head x : ℕ) → length owners ≡ length nexts → Linked owners nexts head x → Linked (owners ++ a ∷ []) (nexts ++ b ∷ []) head x
Linked-more owners nexts a b head x same (at_head _ _ place e lt o) =
    at_head head x place e (omega (arith, length-append owners (a ∷ []))) (get_or_append_left owners (a ∷ []) 0 place lt ∙ o)
Linked-more owners nexts a b head x same (further _ _ place e lt rest) =
    further head x place e (omega (arith, length-append owners (a ∷ []))) (subst (λ h. Linked (owners ++ a ∷ []) (nexts ++ b ∷ []) h x)
    (sym (get_or_append_left nexts (b ∷ []) 0 place (omega arith))) (Linked-more owners nexts a b (slice_index nexts place) x same rest))

-- no list begins at 0
pub Linked-none : (owners nexts : List ℕ) (head x : ℕ) → head ≡ 0 → Linked owners nexts head x → ⊥
Linked-none owners nexts head x z (at_head _ _ place e lt o) = omega arith
Linked-none owners nexts head x z (further _ _ place e lt rest) = omega arith

-- the item is the first of the list, or in the rest
pub Linked-step : (owners nexts : List ℕ) (head x : ℕ) → Linked owners nexts head x → (slice_index owners (head - 1) ≡ x) ⊎ Linked owners nexts (slice_index nexts (head - 1)) x
Linked-step owners nexts head x (at_head _ _ place e lt o) =
    let p : head - 1 ≡ place = omega arith in inl (ap (λ q. slice_index owners q) p ∙ o)
Linked-step owners nexts head x (further _ _ place e lt rest) =
    let p : head - 1 ≡ place = omega arith in inr (subst (λ q. Linked owners nexts (slice_index nexts q) x) (sym p) rest)

module _ (before after : Links) (number item : ℕ) (links : AreLinks before) (fits : number < length before.heads) (more : LinksMore before number item after) where
  long : length after.owners ≡ length before.owners + 1
  long = ap (λ l. length l) more.owners ∙ length-append before.owners (item ∷ [])

  long_nexts : length after.nexts ≡ length before.nexts + 1
  long_nexts = ap (λ l. length l) more.nexts ∙ length-append before.nexts (slice_index before.heads number ∷ [])

  head_same : slice_index after.heads number ≡ length before.owners + 1
  head_same = ap (λ l. slice_index l number) more.heads ∙ get_or-set_same before.heads number (length before.owners + 1) 0 fits

  head_other : (other : ℕ) → other ≢ number → slice_index after.heads other ≡ slice_index before.heads other
  head_other other ne = ap (λ l. slice_index l other) more.heads ∙ get_or-set_other before.heads number other (length before.owners + 1) 0 ne

  linked_before : (head x : ℕ) → Linked before.owners before.nexts head x → Linked after.owners after.nexts head x
  linked_before head x l =
      subst (λ o. Linked o after.nexts head x) (sym more.owners) (subst (λ n. Linked (before.owners ++ item ∷ []) n head x) (sym more.nexts)
      (Linked-more before.owners before.nexts item (slice_index before.heads number) head x links.paired l))

  last_owner : slice_index after.owners (length before.owners) ≡ item
  last_owner = ap (λ l. slice_index l (length before.owners)) more.owners ∙ get_or-append_seam before.owners item [] 0

  last_next : slice_index after.nexts (length before.owners) ≡ slice_index before.heads number
  last_next = ap (λ l. slice_index l (length before.owners)) more.nexts ∙ ap (λ p. slice_index (before.nexts ++ slice_index before.heads number ∷ []) p) links.paired
      ∙ get_or-append_seam before.nexts (slice_index before.heads number) [] 0

  next_before : (place : ℕ) → place < length before.nexts → slice_index after.nexts place ≡ slice_index before.nexts place
  next_before place lt = ap (λ l. slice_index l place) more.nexts ∙ get_or_append_left before.nexts (slice_index before.heads number ∷ []) 0 place lt

  owner_before : (place : ℕ) → place < length before.owners → slice_index after.owners place ≡ slice_index before.owners place
  owner_before place lt = ap (λ l. slice_index l place) more.owners ∙ get_or_append_left before.owners (item ∷ []) 0 place lt

  more_links : AreLinks after
  more_links = record {
    paired = omega (arith, long, long_nexts, links.paired);
    back = λ place lt. back place lt (lower_or_not place (length before.nexts));
    low = λ other. low other (same_or_not other number);
  }
    where
      back : (place : ℕ) → place < length after.nexts → (place < length before.nexts) ⊎ (length before.nexts ≤ place) → slice_index after.nexts place ≤ place
      back place lt (inl l) = omega (arith, next_before place l, links.back place l)
      back place lt (inr g) =
          let p : place ≡ length before.owners = omega (arith, long_nexts, links.paired) in
          omega (arith, ap (λ q. slice_index after.nexts q) p, last_next, links.low number)

      low : (other : ℕ) → (other ≡ number) ⊎ (other ≢ number) → slice_index after.heads other ≤ length after.owners
      low other (inl e) = omega (arith, ap (λ q. slice_index after.heads q) e, head_same, long)
      low other (inr ne) = omega (arith, head_other other ne, links.low other, long)

  more_kept : (other x : ℕ) → Linked before.owners before.nexts (slice_index before.heads other) x → Linked after.owners after.nexts (slice_index after.heads other) x
  more_kept other x l = go (same_or_not other number)
    where
      go : (other ≡ number) ⊎ (other ≢ number) → Linked after.owners after.nexts (slice_index after.heads other) x
      go (inl e) = further _ x (length before.owners) (ap (λ q. slice_index after.heads q) e ∙ head_same) (omega (arith, long))
          (subst (λ h. Linked after.owners after.nexts h x) (ap (λ q. slice_index before.heads q) e ∙ sym last_next) (linked_before _ x l))
      go (inr ne) = subst (λ h. Linked after.owners after.nexts h x) (sym (head_other other ne)) (linked_before _ x l)

  more_added : Linked after.owners after.nexts (slice_index after.heads number) item
  more_added = at_head _ item (length before.owners) head_same (omega (arith, long)) last_owner

  more_owned : (bound : ℕ) → item < bound → ((place : ℕ) → place < length before.owners → slice_index before.owners place < bound) → (place : ℕ)
      → place < length after.owners → slice_index after.owners place < bound
  more_owned bound lt all place l = go (lower_or_not place (length before.owners))
    where
      go : (place < length before.owners) ⊎ (length before.owners ≤ place) → slice_index after.owners place < bound
      go (inl low) = omega (arith, owner_before place low, all place low)
      go (inr high) = let p : place ≡ length before.owners = omega (arith, long) in omega (arith, ap (λ q. slice_index after.owners q) p, last_owner)

  more_width : length after.heads ≡ length before.heads
  more_width = ap (λ l. length l) more.heads ∙ length-set before.heads number (length before.owners + 1)

pub LinksAdded-none : (before : Links) (item : ℕ) → AreLinks before → LinksAdded before [] item before
LinksAdded-none before item links =
    record { links = links; width = refl; longer = omega arith; owned = λ bound lt all. all; kept = λ number other l. l; added = λ number i. absurd (Contains-nil number i) }

pub LinksAdded-more : (start before after : Links) (numbers : List ℕ) (i item : ℕ) → i < length numbers → get_or numbers i 0 < length start.heads → LinksAdded start
    (take i numbers) item before → LinksMore before (get_or numbers i 0) item after → LinksAdded start (take (i + 1) numbers) item after
LinksAdded-more start before after numbers i item lt fits h more = rw (take_more numbers i 0 lt) (record {
  links = more_links before after (get_or numbers i 0) item h.links inside more;
  width = more_width before after (get_or numbers i 0) item h.links inside more ∙ h.width;
  longer = omega (arith, long before after (get_or numbers i 0) item h.links inside more, h.longer, length-append (take i numbers) (get_or numbers i 0 ∷ []));
  owned = λ bound l all. more_owned before after (get_or numbers i 0) item h.links inside more bound l (h.owned bound l all);
  kept = λ number other l. more_kept before after (get_or numbers i 0) item h.links inside more number other (h.kept number other l);
  added = λ number j. elim (Contains-push_cases (take i numbers) (get_or numbers i 0) number j) [
    | inl k ↦ more_kept before after (get_or numbers i 0) item h.links inside more number item (h.added number k)
    | inr e ↦ subst (λ n. Linked after.owners after.nexts (slice_index after.heads n) item) e (more_added before after (get_or numbers i 0) item h.links inside more)
  ];
})
  where
    inside : get_or numbers i 0 < length before.heads
    inside = omega (arith, h.width)

replicate_zero : (count number : ℕ) → slice_index (replicate count 0) number ≡ 0
replicate_zero zero number = refl
replicate_zero (suc count) zero = refl
replicate_zero (suc count) (suc number) = replicate_zero count number

pub AllLinked-none : (needs : List (List ℕ)) (count : ℕ) → AllLinked needs 0 count (record { heads = replicate count 0; owners = []; nexts = [] })
AllLinked-none needs count = record {
  links = record { paired = refl; back = λ place lt. absurd (omega arith); low = λ number. omega (arith, replicate_zero count number) };
  width = length-replicate count 0;
  size = omega arith;
  owned = λ place lt. absurd (omega arith);
  all = λ item lt. absurd (omega arith);
}

pub AllLinked-more : (needs : List (List ℕ)) (done count : ℕ) (numbers : List ℕ) (before after : Links) → done < length needs → numbers ≡ get_or needs done []
    → AllLinked needs done count before → LinksAdded before numbers done after → AllLinked needs (done + 1) count after
AllLinked-more needs done count numbers before after lt e h added = record {
  links = added.links;
  width = added.width ∙ h.width;
  size = omega (arith, added.longer, h.size, sum_by-drop_more length needs done [] lt, ap (λ l. length l) e);
  owned = added.owned (length needs) lt h.owned;
  all = λ item l number i. here_or_before item number i (same_or_not item done) l;
}
  where
    here_or_before : (item number : ℕ) → Contains (get_or needs item []) number → (item ≡ done) ⊎ (item ≢ done) → item < done + 1 → Linked after.owners after.nexts
        (slice_index after.heads number) item
    here_or_before item number i (inl same) l =
        subst (λ q. Linked after.owners after.nexts (slice_index after.heads number) q) (sym same)
        (added.added number (subst (λ ns. Contains ns number) (ap (λ q. get_or needs q []) same ∙ sym e) i))
    here_or_before item number i (inr ne) l = added.kept number item (h.all item (omega arith) number i)

-- the numbers that one item needs

-- what the rest of the items need fits beside what is linked
pub room_left : (needs : List (List ℕ)) (done count : ℕ) (numbers : List ℕ) (links : Links) → done < length needs → numbers ≡ get_or needs done [] → total needs < 2 ^ 32
    → AllLinked needs done count links → length links.owners + length numbers < 2 ^ 32
room_left needs done count numbers links lt e few h =
    omega (arith, few, h.size, sum_by-drop_more length needs done [] lt, ap (λ l. length l) e)
