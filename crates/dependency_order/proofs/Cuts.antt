-- Lists that lie one behind the other in one table.
use Rattle.std.proofs.Common.{◌≡◌, ℕ, zero, suc, ◌+◌, ◌-◌, ◌≤◌, ◌<◌, List, [], ◌∷◌, ◌++◌, length, take, drop, get_or, refl, sym, ◌∙◌, ap, arith, length-append, length-drop}
use Rattle.std.specs.Prelude.{slice_index}
use Rattle.std.proofs.lemmas.List.{length-take, take-append-le, drop-append-le, take_all}
use Rattle.std.proofs.lemmas.List.Sums.{sum_by-cons}
use Rattle.dependency_order.specs.Lists.{lists_from, AreEnds, total}

pub lists_count : (begin : ℕ) (ends values : List ℕ) → length (lists_from begin ends values) ≡ length ends
lists_count begin [] values = refl
lists_count begin (end ∷ ends) values = ap suc (lists_count end ends values)

pub list_at : (begin : ℕ) (ends values : List ℕ) (i : ℕ) → i < length ends → get_or (lists_from begin ends values) i [] ≡ take
    (slice_index ends i - slice_index (begin ∷ ends) i) (drop (slice_index (begin ∷ ends) i) values)
list_at begin [] values i lt = absurd (omega arith)
list_at begin (end ∷ ends) values zero lt = refl
list_at begin (end ∷ ends) values (suc i) lt = list_at end ends values i (omega arith)

-- each list lies within the table
pub rise_at : (begin : ℕ) (ends values : List ℕ) (i : ℕ) → AreEnds begin ends values → i < length ends → (slice_index (begin ∷ ends) i ≤ slice_index ends i) ×
    (slice_index ends i ≤ length values)
rise_at begin [] values i h lt = absurd (omega arith)
rise_at begin (end ∷ ends) values zero h lt = (h.0, h.1)
rise_at begin (end ∷ ends) values (suc i) h lt = rise_at end ends values i h.2 (omega arith)

pub ends_low : (begin : ℕ) (ends values : List ℕ) → AreEnds begin ends values → begin ≤ length values
ends_low begin [] values h = omega arith
ends_low begin (end ∷ ends) values h = omega (arith, h.0, h.1)

drop_whole : (xs ys : List ℕ) → drop (length xs) (xs ++ ys) ≡ ys
drop_whole [] ys = refl
drop_whole (x ∷ xs) ys = drop_whole xs ys

pub take_append : (xs ys : List ℕ) → take (length xs) (xs ++ ys) ≡ xs
take_append xs ys = take-append-le (length xs) xs ys (omega arith) ∙ take_all (length xs) xs (omega arith)

-- one list more, behind the others
pub list_more : (begin : ℕ) (ends values list : List ℕ) (end : ℕ) → AreEnds begin ends values → end ≡ length values + length list → lists_from begin (ends ++ end ∷ [])
    (values ++ list) ≡ lists_from begin ends values ++ list ∷ []
list_more begin [] values list end h e =
    let size : end - begin ≡ length list = omega (arith, h, e) in
    ap (λ l. l ∷ []) (ap (λ n. take n (drop begin (values ++ list))) size ∙ ap (λ b. take (length list) (drop b (values ++ list))) h ∙ ap (λ l. take (length list) l)
    (drop_whole values list) ∙ take_all (length list) list (omega arith))
list_more begin (first ∷ ends) values list end h e =
    let low : begin ≤ length values = omega (arith, h.0, h.1) in
    let short : first - begin ≤ length (drop begin values) = omega (arith, length-drop begin values, h.0, h.1) in
    ap (λ l. l ∷ lists_from first (ends ++ end ∷ []) (values ++ list)) (ap (λ l. take (first - begin) l) (drop-append-le begin values list low) ∙ take-append-le (first - begin)
    (drop begin values) list short) ∙ ap (λ l. take (first - begin) (drop begin values) ∷ l) (list_more first ends values list end h.2 e)

pub ends_more : (begin : ℕ) (ends values list : List ℕ) (end : ℕ) → AreEnds begin ends values → end ≡ length values + length list → AreEnds begin (ends ++ end ∷ []) (values ++ list)
ends_more begin [] values list end h e =
    (omega (arith, h, e), omega (arith, length-append values list, e), e ∙ sym (length-append values list))
ends_more begin (first ∷ ends) values list end h e =
    (h.0, omega (arith, length-append values list, h.1), ends_more first ends values list end h.2 e)

length_cut : (begin end : ℕ) (values : List ℕ) → begin ≤ end → end ≤ length values → length (take (end - begin) (drop begin values)) ≡ end - begin
length_cut begin end values low high =
    omega (arith, length-take (end - begin) (drop begin values), length-drop begin values)

-- the lists have the values of the table from where they begin
pub lists_total : (begin : ℕ) (ends values : List ℕ) → AreEnds begin ends values → begin + total (lists_from begin ends values) ≡ length values
lists_total begin [] values h = omega (arith, h)
lists_total begin (end ∷ ends) values h =
    let cut : length (take (end - begin) (drop begin values)) ≡ end - begin = length_cut begin end values h.0 h.1 in
    omega (arith, h.0, h.1, cut, sum_by-cons length (take (end - begin) (drop begin values)) (lists_from end ends values), lists_total end ends values h.2)
