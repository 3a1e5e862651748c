-- Parts of lists of units that grow at their end.
use Rattle.std.proofs.Common.{◌≡◌, ℕ, zero, suc, ◌+◌, ◌*◌, ◌<◌, ◌≤◌, Bool, true, false, cond, eqb, ◌&&◌, List, [], ◌∷◌, ◌++◌, length, take, drop, get_or, set, map, Option, Some, None, refl, sym, ap, ◌∙◌, arith}
use Rattle.std.specs.Option.{option_or, is_some}
use Rattle.std.proofs.lemmas.Bool.{ne_eqb, eq-eqb}
use Rattle.std.proofs.lemmas.List.{length_push, length-drop, take-append-le, take_all, drop-append-le, drop_all, map_push}
use Rattle.source_machine.specs.declared.unset.Unset.{Unset}
use Rattle.source_machine.specs.Machines.{PlainLatch, PlainEquation}
use Rattle.aiger_reader.specs.declared.headers.Header.{Header}
use Rattle.aiger_reader.specs.Units.{line_of}
use Rattle.aiger_reader.specs.Deltas.{delta_value}
use Rattle.aiger_reader.specs.Symbols.{begins_comment, symbol_in, name_by, name_in, with_name, named_by}
use Rattle.aiger_reader.specs.Sections.{any_comment, and_left}
use Rattle.aiger_reader.specs.Machines.{numbers_from, part, latch_in, latches_in, and_by, ands_by, uncommented, names_in}

pub part_more : (from count : ℕ) (units : List (List ℕ)) (unit : List ℕ) → from ≤ length units → length units < from + count
    → part from count (units ++ unit ∷ []) ≡ part from count units ++ unit ∷ []
part_more from count units unit le lt =
    let e : drop from (units ++ unit ∷ []) ≡ drop from units ++ unit ∷ [] = drop-append-le from units (unit ∷ []) le in
    let short : length (drop from units) + 1 ≤ count = omega (arith, length-drop from units) in
    ap (take count) e ∙ take_all count (drop from units ++ unit ∷ []) (omega (arith, length_push (drop from units) unit))
    ∙ ap (λ (ls : List (List ℕ)). ls ++ unit ∷ []) (sym (take_all count (drop from units) (omega arith)))

pub part_before : (from count : ℕ) (units : List (List ℕ)) (unit : List ℕ) → length units < from → part from count (units ++ unit ∷ []) ≡ part from count units
part_before from count units unit lt =
    ap (take count) (drop_all from (units ++ unit ∷ []) (omega (arith, length_push units unit)) ∙ sym (drop_all from units (omega arith)))

pub part_past : (from count : ℕ) (units : List (List ℕ)) (unit : List ℕ) → from + count ≤ length units → part from count (units ++ unit ∷ []) ≡ part from count units
part_past from count units unit le =
    ap (take count) (drop-append-le from units (unit ∷ []) (omega arith)) ∙ take-append-le count (drop from units) (unit ∷ []) (omega (arith, length-drop from units))

-- one more latch
pub latches_more : (unset : Unset) (header : Header) (place : ℕ) (units : List (List ℕ)) (unit : List ℕ)
    → latches_in unset header place (units ++ unit ∷ []) ≡ latches_in unset header place units ++ latch_in unset header (place + length units) unit ∷ []
latches_more unset header place [] unit =
    let e : place ≡ place + length {A = List ℕ} [] = omega arith in ap (λ p. latch_in unset header p unit ∷ []) e
latches_more unset header place (first ∷ units) unit =
    let e : (place + 1) + length units ≡ place + length (first ∷ units) = omega arith in
    ap (λ (ls : List PlainLatch). latch_in unset header place first ∷ ls)
    (latches_more unset header (place + 1) units unit ∙ ap (λ p. latches_in unset header (place + 1) units ++ latch_in unset header p unit ∷ []) e)

-- one more delta adds no conjunction where it is a first one
pub ands_first : (header : Header) (gate half : ℕ) (units : List (List ℕ)) (unit : List ℕ) → length units ≡ 2 * half → ands_by header gate (units ++ unit ∷ []) ≡ ands_by header gate units
ands_first header gate half [] unit even = refl
ands_first header gate half (first ∷ []) unit even = absurd (omega (arith, even))
ands_first header gate zero (first ∷ second ∷ units) unit even = absurd (omega (arith, even))
ands_first header gate (suc half) (first ∷ second ∷ units) unit even =
    ap (λ (es : List PlainEquation). and_by (and_left header gate) (delta_value first) (delta_value second) ∷ es) (ands_first header (gate + 1) half units unit (omega (arith, even)))

-- and one where it is a second one
pub ands_second : (header : Header) (gate half : ℕ) (units : List (List ℕ)) (before unit : List ℕ) → length units ≡ 2 * half
    → ands_by header gate ((units ++ before ∷ []) ++ unit ∷ []) ≡ ands_by header gate (units ++ before ∷ []) ++ and_by (and_left header (gate + half)) (delta_value before) (delta_value unit) ∷ []
ands_second header gate zero [] before unit even =
    let e : gate ≡ gate + 0 = omega arith in ap (λ g. and_by (and_left header g) (delta_value before) (delta_value unit) ∷ []) e
ands_second header gate (suc half) [] before unit even = absurd (omega (arith, even))
ands_second header gate half (first ∷ []) before unit even = absurd (omega (arith, even))
ands_second header gate zero (first ∷ second ∷ units) before unit even = absurd (omega (arith, even))
ands_second header gate (suc half) (first ∷ second ∷ units) before unit even =
    let e : (gate + 1) + half ≡ gate + suc half = omega arith in
    ap (λ (es : List PlainEquation). and_by (and_left header gate) (delta_value first) (delta_value second) ∷ es)
    (ands_second header (gate + 1) half units before unit (omega (arith, even))
    ∙ ap (λ g. ands_by header (gate + 1) (units ++ before ∷ []) ++ and_by (and_left header g) (delta_value before) (delta_value unit) ∷ []) e)

-- one more line, before or behind a comment
pub comment_more : (units : List (List ℕ)) (unit : List ℕ) → any_comment (units ++ unit ∷ []) ≡ cond (any_comment units) true (begins_comment (line_of unit))
comment_more [] unit = same (begins_comment (line_of unit))
  where
    same : (b : Bool) → cond b true false ≡ b
    same true = refl
    same false = refl
comment_more (first ∷ units) unit =
    elim (begins_comment (line_of first)) as (λ b. cond b true (any_comment (units ++ unit ∷ [])) ≡ cond (cond b true (any_comment units)) true (begins_comment (line_of unit))) [
      | true ↦ refl
      | false ↦ comment_more units unit
    ]

pub uncommented_more : (units : List (List ℕ)) (unit : List ℕ) → uncommented (units ++ unit ∷ []) ≡ cond (any_comment units) (uncommented units) (cond (begins_comment (line_of unit))
    (uncommented units) (uncommented units ++ line_of unit ∷ []))
uncommented_more [] unit = refl
uncommented_more (first ∷ units) unit =
    elim (begins_comment (line_of first)) as (λ b. cond b [] (line_of first ∷ uncommented (units ++ unit ∷ []))
    ≡ cond (cond b true (any_comment units)) (cond b [] (line_of first ∷ uncommented units))
    (cond (begins_comment (line_of unit)) (cond b [] (line_of first ∷ uncommented units)) (cond b [] (line_of first ∷ uncommented units) ++ line_of unit ∷ []))) [
      | true ↦ refl
      | false ↦ ap (λ (ls : List (List ℕ)). line_of first ∷ ls) (uncommented_more units unit)
          ∙ inside (any_comment units) (begins_comment (line_of unit)) (line_of first) (uncommented units) (uncommented units ++ line_of unit ∷ [])
    ]
  where
    inside : (a b : Bool) (x : List ℕ) (xs ys : List (List ℕ)) → x ∷ cond a xs (cond b xs ys) ≡ cond a (x ∷ xs) (cond b (x ∷ xs) (x ∷ ys))
    inside true b x xs ys = refl
    inside false true x xs ys = refl
    inside false false x xs ys = refl

-- one more number
pub numbers_more : (first count : ℕ) → numbers_from first (count + 1) ≡ numbers_from first count ++ (first + count) ∷ []
numbers_more first zero = let e : first ≡ first + 0 = omega arith in ap (λ n. n ∷ []) e
numbers_more first (suc count) =
    let one : suc count + 1 ≡ suc (count + 1) = omega arith in
    let last : (first + 1) + count ≡ first + suc count = omega arith in
    ap (numbers_from first) one ∙ ap (λ (ns : List ℕ). first ∷ ns) (numbers_more (first + 1) count ∙ ap (λ n. numbers_from (first + 1) count ++ n ∷ []) last)

-- one more position without a name
pub names_more : (letter count : ℕ) → names_in letter (count + 1) [] ≡ names_in letter count [] ++ None ∷ []
names_more letter count =
    ap (map (λ place. name_in letter place [])) (numbers_more 0 count) ∙ map_push (λ place. name_in letter place []) (numbers_from 0 count) (0 + count)

or_nothing : (o : Option (List ℕ)) → option_or o None ≡ o
or_nothing None = refl
or_nothing (Some x) = refl

or_joined : (a b c : Option (List ℕ)) → option_or a (option_or b c) ≡ option_or (option_or a b) c
or_joined None b c = refl
or_joined (Some x) b c = refl

name_more : (letter place : ℕ) (lines : List (List ℕ)) (line : List ℕ) → name_in letter place (lines ++ line ∷ []) ≡ option_or (name_in letter place lines) (name_by letter place (symbol_in line))
name_more letter place [] line = or_nothing (name_by letter place (symbol_in line))
name_more letter place (first ∷ lines) line =
    ap (option_or (name_by letter place (symbol_in first))) (name_more letter place lines line)
    ∙ or_joined (name_by letter place (symbol_in first)) (name_in letter place lines) (name_by letter place (symbol_in line))

map_same : (f g : ℕ → Option (List ℕ)) (first count : ℕ) → ((place : ℕ) → first ≤ place → f place ≡ g place) → map f (numbers_from first count) ≡ map g (numbers_from first count)
map_same f g first zero same = refl
map_same f g first (suc count) same =
    ap (λ (x : Option (List ℕ)). x ∷ map f (numbers_from (first + 1) count)) (same first (omega arith))
    ∙ ap (λ (xs : List (Option (List ℕ))). g first ∷ xs) (map_same f g (first + 1) count (λ place le. same place (omega arith)))

-- a name at one place, where there is none
placed : (f : ℕ → Option (List ℕ)) (name : List ℕ) (first count at : ℕ)
    → map (λ place. option_or (f place) (cond (eqb (first + at) place) (Some name) None)) (numbers_from first count)
    ≡ cond (is_some (get_or (map f (numbers_from first count)) at None)) (map f (numbers_from first count)) (set (map f (numbers_from first count)) at (Some name))
placed f name first zero at = refl
placed f name first (suc count) zero =
    let here : eqb (first + 0) first ≡ true = eq-eqb (first + 0) first (omega arith) in
    let rest = map_same (λ place. option_or (f place) (cond (eqb (first + 0) place) (Some name) None)) f (first + 1) count
    (λ place le. let other : eqb (first + 0) place ≡ false = ne_eqb (first + 0) place (λ e. omega arith) in ap (λ b. option_or (f place) (cond b (Some name) None)) other ∙ or_nothing (f place)) in
    ap (λ b. option_or (f first) (cond b (Some name) None) ∷ map (λ place. option_or (f place) (cond (eqb (first + 0) place) (Some name) None)) (numbers_from (first + 1) count)) here
    ∙ ap (λ (xs : List (Option (List ℕ))). option_or (f first) (Some name) ∷ xs) rest ∙ chosen (f first) (map f (numbers_from (first + 1) count))
  where
    chosen : (x : Option (List ℕ)) (xs : List (Option (List ℕ))) → option_or x (Some name) ∷ xs ≡ cond (is_some x) (x ∷ xs) (Some name ∷ xs)
    chosen None xs = refl
    chosen (Some y) xs = refl
placed f name first (suc count) (suc at) =
    let shift : first + suc at ≡ (first + 1) + at = omega arith in
    let other : eqb (first + suc at) first ≡ false = ne_eqb (first + suc at) first (λ e. omega arith) in
    let rest : List (Option (List ℕ)) = map f (numbers_from (first + 1) count) in
    ap (λ b. option_or (f first) (cond b (Some name) None) ∷ map (λ place. option_or (f place) (cond (eqb (first + suc at) place) (Some name) None)) (numbers_from (first + 1) count)) other
    ∙ ap (λ (x : Option (List ℕ)). x ∷ map (λ place. option_or (f place) (cond (eqb (first + suc at) place) (Some name) None)) (numbers_from (first + 1) count)) (or_nothing (f first))
    ∙ ap (λ n. f first ∷ map (λ place. option_or (f place) (cond (eqb n place) (Some name) None)) (numbers_from (first + 1) count)) shift
    ∙ ap (λ (xs : List (Option (List ℕ))). f first ∷ xs) (placed f name (first + 1) count at)
    ∙ outside (is_some (get_or rest at None)) (f first) rest (set rest at (Some name))
  where
    outside : (b : Bool) (x : Option (List ℕ)) (xs ys : List (Option (List ℕ))) → x ∷ cond b xs ys ≡ cond b (x ∷ xs) (x ∷ ys)
    outside true x xs ys = refl
    outside false x xs ys = refl

-- the names with one more line
pub names_line : (letter count : ℕ) (lines : List (List ℕ)) (line : List ℕ) → names_in letter count (lines ++ line ∷ []) ≡ named_by letter (symbol_in line) (names_in letter count lines)
names_line letter count lines line =
    map_same (λ place. name_in letter place (lines ++ line ∷ [])) (λ place. option_or (name_in letter place lines) (name_by letter place (symbol_in line))) 0 count
    (λ place le. name_more letter place lines line)
    ∙ by_symbol (symbol_in line)
  where
    f : ℕ → Option (List ℕ)
    f place = name_in letter place lines

    unnamed : map (λ place. option_or (f place) None) (numbers_from 0 count) ≡ map f (numbers_from 0 count)
    unnamed = map_same (λ place. option_or (f place) None) f 0 count (λ place le. or_nothing (f place))

    by_letter : (symbol : ℕ × ℕ × List ℕ) (this : Bool) → map (λ place. option_or (f place) (cond (this && eqb symbol.1 place) (Some symbol.2) None)) (numbers_from 0 count)
        ≡ cond this (with_name symbol.1 symbol.2 (map f (numbers_from 0 count))) (map f (numbers_from 0 count))
    by_letter symbol true =
        let e : symbol.1 ≡ 0 + symbol.1 = omega arith in
        ap (λ n. map (λ place. option_or (f place) (cond (eqb n place) (Some symbol.2) None)) (numbers_from 0 count)) e ∙ placed f symbol.2 0 count symbol.1
    by_letter symbol false = unnamed

    by_symbol : (symbol : Option (ℕ × ℕ × List ℕ)) → map (λ place. option_or (f place) (name_by letter place symbol)) (numbers_from 0 count) ≡ named_by letter symbol (map f (numbers_from 0 count))
    by_symbol None = unnamed
    by_symbol (Some symbol) = by_letter symbol (eqb symbol.0 letter)
