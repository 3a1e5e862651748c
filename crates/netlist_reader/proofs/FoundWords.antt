-- Words that are read are those that are written.
use Rattle.std.proofs.Common.{◌≡◌, ◌^◌, ℕ, zero, suc, ◌+◌, ◌<◌, ◌==◌, ◌&&◌, eqb, ltb, cond, Bool, true, false, List, [], ◌∷◌, ◌++◌, length, take, drop, get_or, slice_index, codes, decimal}
use Rattle.std.proofs.Common.{Option, Some, None, refl, sym, ap, ◌∙◌, add-one, arith}
use Rattle.std.specs.Prelude.{option_map, option_and_then, position}
use Rattle.std.specs.Str.{bytes_eq, all_ascii_digits}
use Rattle.std.specs.Str.Parse.{digits_value}
use Rattle.std.proofs.lemmas.Bool.{eqb-true, ltb-true, ltb-false, eq-eqb, true≢false}
use Rattle.std.proofs.lemmas.List.Quantifiers.{position-Some}
use Rattle.std.proofs.lemmas.Fmt.{decimal-digits_value}
use Rattle.std.proofs.lemmas.Str.Parse.{tells_all_ascii_digits, numerals_by_value}
use Rattle.pulse_ids.specs.Ids.{WireId, numbered}
use Rattle.pulse_ids.specs.declared.literals.Sign.{Sign}
use Rattle.pulse_ids.specs.declared.literals.Sign.TheVariants.{Pos, Neg}
use Rattle.cell_netlist.specs.declared.kinds.Role.{Role}
use Rattle.cell_netlist.specs.declared.kinds.Role.TheVariants.{Front, Back, Const}
use Rattle.cell_netlist.specs.Text.{sign_word, role_word, bit_word, wire_word, output_word}
use Rattle.word_scan.specs.Words.{parted}
use Rattle.word_scan.specs.Decimals.{is_decimal, decimal_of, plain_decimal_of}
use Rattle.netlist_reader.specs.Words.{by_word, by_meaning, sign_of, role_of, bit_of, wire_in, output_in}
use Rattle.netlist_reader.proofs.Bools.{and_parts}

pub same_bytes : (xs ys : List ℕ) → bytes_eq xs ys ≡ true → xs ≡ ys
same_bytes [] [] e = refl
same_bytes [] (y ∷ ys) e = absurd cc
same_bytes (x ∷ xs) [] e = absurd cc
same_bytes (x ∷ xs) (y ∷ ys) e = let parts = and_parts (eqb x y) (bytes_eq xs ys) e in rw (eqb-true _ _ parts.0, same_bytes xs ys parts.1) refl

-- a line that a space parts, and what its parts say
pub record IsParted {A : Type 0} (line : List ℕ) (says : List ℕ → List ℕ → Option A) (x : A) : Type 0 where
  pub word : List ℕ
  pub rest : List ℕ
  pub is : line ≡ word ++ 32 ∷ rest
  pub parts : parted 32 line ≡ Some (word, rest)
  pub said : says word rest ≡ Some x

cut : (line : List ℕ) (i : ℕ) → i < length line → line ≡ take i line ++ get_or line i 0 ∷ drop (suc i) line
cut [] i lt = absurd (omega arith)
cut (b ∷ line) zero lt = refl
cut (b ∷ line) (suc i) lt = ap (λ (l : List ℕ). b ∷ l) (cut line i (omega arith))

abbrev cut_at : List ℕ → ℕ → List ℕ × List ℕ
cut_at line end = (take end line, drop (end + 1) line)

parted_by : {A : Type 0} (line : List ℕ) (says : List ℕ → List ℕ → Option A) (x : A) (place : Option ℕ) → position (λ b. b == 32) line ≡ place
    → option_and_then (λ parts. says parts.0 parts.1) (option_map (cut_at line) place) ≡ Some x → IsParted line says x
parted_by line says x None e h = absurd cc
parted_by line says x (Some i) e h =
    let found = position-Some (λ b. eqb b 32) line i 0 e in
    let space : get_or line i 0 ≡ 32 = eqb-true _ _ found.1 in
    record {
      word = take i line;
      rest = drop (i + 1) line;
      is = cut line i found.0 ∙ rw (space, add-one i) refl;
      parts = ap (option_map (cut_at line)) e;
      said = h;
    }

pub word_found : {A : Type 0} (line : List ℕ) (says : List ℕ → List ℕ → Option A) (x : A) → by_word line says ≡ Some x → IsParted line says x
word_found line says x h = parted_by line says x (position (λ b. b == 32) line) refl h

pub meaning_found : {A B : Type 0} (meaning : Option A) (says : A → Option B) (x : B) → by_meaning meaning says ≡ Some x → (y : A) × (meaning ≡ Some y) × (says y ≡ Some x)
meaning_found None says x h = absurd cc
meaning_found (Some y) says x h = (y, refl, h)

pub some_same : {A : Type 0} (x y : A) → Some x ≡ Some y → x ≡ y
some_same x y e = cc

-- decimals
not_led : (b : Bool) (x : Option ℕ) (n : ℕ) → cond b None x ≡ Some n → (b ≡ false) × (x ≡ Some n)
not_led true x n e = absurd cc
not_led false x n e = (refl, e)

is_kept : (b : Bool) (v n : ℕ) → ◌≡◌ {A = Option ℕ} (cond b (Some v) None) (Some n) → (b ≡ true) × (v ≡ n)
is_kept true v n e = (refl, cc)
is_kept false v n e = absurd cc

one_digit : (word : List ℕ) (long : Bool) → ltb 1 (length word) ≡ long → 0 < length word → (long && eqb (slice_index word 0) 48) ≡ false → get_or word 0 0 ≡ 48 → length word ≡ 1
one_digit word true e some led first = absurd (true≢false (sym (eq-eqb (slice_index word 0) 48 first) ∙ led))
one_digit word false e some led first = omega (arith, ltb-false _ _ e, some)

pub number_found : (word : List ℕ) (n : ℕ) → plain_decimal_of word ≡ Some n → word ≡ decimal n
number_found word n e =
    let plain = not_led (ltb 1 (length word) && eqb (slice_index word 0) 48) (decimal_of word) n e in
    let kept = is_kept (is_decimal word) (digits_value 10 word) n plain.1 in
    let p = and_parts (ltb 0 (length word)) (all_ascii_digits word && ltb (digits_value 10 word) (2 ^ 32)) kept.0 in
    let q = and_parts (all_ascii_digits word) (ltb (digits_value 10 word) (2 ^ 32)) p.1 in
    let some : 0 < length word = ltb-true _ _ p.0 in
    let small : digits_value 10 word < 2 ^ 32 = ltb-true _ _ q.1 in
    sym (decimal-digits_value (numerals_by_value (λ ds. all_ascii_digits ds ≡ true) tells_all_ascii_digits) word q.0 some (one_digit word (ltb 1 (length word)) refl some plain.0)
    (omega (arith, small)))
    ∙ ap decimal kept.1

-- the other words
sign_by : (word : List ℕ) (s : Sign) (p n : Bool) → bytes_eq word (codes "p") ≡ p → bytes_eq word (codes "n") ≡ n → cond p (Some Pos) (cond n (Some Neg) None) ≡ Some s → word ≡ sign_word s
sign_by word s true n e f h = let is : Pos ≡ s = cc in same_bytes word (codes "p") e ∙ ap sign_word is
sign_by word s false true e f h = let is : Neg ≡ s = cc in same_bytes word (codes "n") f ∙ ap sign_word is
sign_by word s false false e f h = absurd cc

pub sign_found : (word : List ℕ) (s : Sign) → sign_of word ≡ Some s → word ≡ sign_word s
sign_found word s h = sign_by word s (bytes_eq word (codes "p")) (bytes_eq word (codes "n")) refl refl h

role_by : (word : List ℕ) (r : Role) (f b c : Bool) → bytes_eq word (codes "f") ≡ f → bytes_eq word (codes "b") ≡ b → bytes_eq word (codes "c") ≡ c
    → cond f (Some Front) (cond b (Some Back) (cond c (Some Const) None)) ≡ Some r → word ≡ role_word r
role_by word r true b c e g i h = let is : Front ≡ r = cc in same_bytes word (codes "f") e ∙ ap role_word is
role_by word r false true c e g i h = let is : Back ≡ r = cc in same_bytes word (codes "b") g ∙ ap role_word is
role_by word r false false true e g i h = let is : Const ≡ r = cc in same_bytes word (codes "c") i ∙ ap role_word is
role_by word r false false false e g i h = absurd cc

pub role_found : (word : List ℕ) (r : Role) → role_of word ≡ Some r → word ≡ role_word r
role_found word r h = role_by word r (bytes_eq word (codes "f")) (bytes_eq word (codes "b")) (bytes_eq word (codes "c")) refl refl refl h

bit_by : (word : List ℕ) (bit o i : Bool) → bytes_eq word (codes "0") ≡ o → bytes_eq word (codes "1") ≡ i → cond o (Some false) (cond i (Some true) None) ≡ Some bit → word ≡ bit_word bit
bit_by word bit true one e f h = let is : false ≡ bit = cc in same_bytes word (codes "0") e ∙ ap bit_word is
bit_by word bit false true e f h = let is : true ≡ bit = cc in same_bytes word (codes "1") f ∙ ap bit_word is
bit_by word bit false false e f h = absurd cc

pub bit_found : (word : List ℕ) (bit : Bool) → bit_of word ≡ Some bit → word ≡ bit_word bit
bit_found word bit h = bit_by word bit (bytes_eq word (codes "0")) (bytes_eq word (codes "1")) refl refl h

wire_by : (word : List ℕ) (wire : WireId) (number : Option ℕ) → plain_decimal_of word ≡ number → option_map (λ n. numbered n) number ≡ Some wire → word ≡ wire_word wire
wire_by word wire None e h = absurd cc
wire_by word wire (Some n) e h = let is : numbered n ≡ wire = cc in number_found word n e ∙ ap wire_word is

pub wire_found : (word : List ℕ) (wire : WireId) → wire_in word ≡ Some wire → word ≡ wire_word wire
wire_found word wire h = wire_by word wire (plain_decimal_of word) refl h

output_by : (word : List ℕ) (output : Option WireId) (dash : Bool) (wire : Option WireId) → bytes_eq word (codes "-") ≡ dash → wire_in word ≡ wire
    → cond dash (Some None) (option_map (λ w. Some w) wire) ≡ Some output → word ≡ output_word output
output_by word output true wire e f h = let is : None ≡ output = cc in same_bytes word (codes "-") e ∙ ap output_word is
output_by word output false None e f h = absurd cc
output_by word output false (Some wire) e f h = let is : Some wire ≡ output = cc in wire_found word wire f ∙ ap output_word is

pub output_found : (word : List ℕ) (output : Option WireId) → output_in word ≡ Some output → word ≡ output_word output
output_found word output h = output_by word output (bytes_eq word (codes "-")) (wire_in word) refl refl h
