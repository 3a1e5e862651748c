-- Which `.names` line is open after one more line, and which words have strange bytes.
use Rattle.std.proofs.Common.{◌≡◌, ℕ, Bool, true, false, ◌||◌, ◌==◌, cond, List, [], ◌∷◌, ◌++◌, Option, Some, None, codes, refl, sym, ap, ◌∙◌}
use Rattle.std.specs.Prelude.{slice_index, filter}
use Rattle.std.specs.List.{list_any, slice_split, onto_first}
use Rattle.std.proofs.Math.Bool.{or-true, or-false, or_assoc}
use Rattle.word_scan.specs.Words.{is_word}
use Rattle.word_scan.specs.Logical.{is_white, is_strange, has_strange, dark_words}
use Rattle.blif_reader.specs.Tellings.{words_after, rows_under}
use Rattle.blif_reader.specs.LineRefusals.{begins_with, is_dotted, OpenNames, opened, open_names}
use Rattle.blif_reader.proofs.TiedStates.{any_on}

dotted_by : (b : Bool) (x y z : Option OpenNames) → b ≡ true → x ≡ z → cond b x y ≡ z
dotted_by true x y z e h = h
dotted_by false x y z e h = absurd cc

pub open_dotted : (lines : List (List (List ℕ))) (line : List (List ℕ)) → is_dotted line ≡ true → open_names (lines ++ line ∷ []) ≡ opened line []
open_dotted [] line dot = refl
open_dotted (first ∷ lines) line dot =
    dotted_by (list_any is_dotted (lines ++ line ∷ [])) (open_names (lines ++ line ∷ [])) (opened first (rows_under (lines ++ line ∷ []))) (opened line [])
    (any_on is_dotted lines line ∙ ap (λ b. list_any is_dotted lines || b) dot ∙ or-true (list_any is_dotted lines)) (open_dotted lines line dot)

empty_under : (lines : List (List (List ℕ))) → rows_under (lines ++ [] ∷ []) ≡ rows_under lines
empty_under [] = refl
empty_under ([] ∷ lines) = empty_under lines
empty_under ((first ∷ words) ∷ lines) = ap (λ (l : List (List (List ℕ))). cond (slice_index first 0 == 46) [] ((first ∷ words) ∷ l)) (empty_under lines)

pub open_empty : (lines : List (List (List ℕ))) → open_names (lines ++ [] ∷ []) ≡ open_names lines
open_empty [] = refl
open_empty (first ∷ lines) =
    ap (λ b. cond b (open_names (lines ++ [] ∷ [])) (opened first (rows_under (lines ++ [] ∷ [])))) (any_on is_dotted lines [] ∙ or-false (list_any is_dotted lines))
    ∙ ap (λ (o : Option OpenNames). cond (list_any is_dotted lines) o (opened first (rows_under (lines ++ [] ∷ [])))) (open_empty lines)
    ∙ ap (λ (l : List (List (List ℕ))). cond (list_any is_dotted lines) (open_names lines) (opened first l)) (empty_under lines)

both_false : (a b : Bool) → (a || b) ≡ false → (a ≡ false) × (b ≡ false)
both_false true b h = absurd cc
both_false false b h = (refl, h)

module _ (row : List (List ℕ)) (one : rows_under (row ∷ []) ≡ row ∷ []) (plain : is_dotted row ≡ false) where
  row_under : (lines : List (List (List ℕ))) → list_any is_dotted lines ≡ false → rows_under (lines ++ row ∷ []) ≡ rows_under lines ++ row ∷ []
  row_under [] h = one
  row_under ([] ∷ lines) h = row_under lines h
  row_under ((first ∷ words) ∷ lines) h =
      let both = both_false (slice_index first 0 == 46) (list_any is_dotted lines) h in
      rw both.0 (ap (λ (l : List (List (List ℕ))). (first ∷ words) ∷ l) (row_under lines both.1))

  opened_by : (b : Bool) (names : List (List ℕ)) (rows : List (List (List ℕ))) (told : OpenNames) → ◌≡◌ {A = Option OpenNames} (cond b (Some (record { names = names; rows = rows })) None) (Some told)
      → ◌≡◌ {A = Option OpenNames} (cond b (Some (record { names = names; rows = rows ++ row ∷ [] })) None) (Some (record told { rows = told.rows ++ row ∷ [] }))
  opened_by true names rows told h =
      let is : ◌≡◌ {A = OpenNames} (record { names = names; rows = rows }) told = cc in
      ap (λ (t : OpenNames). Some (record t { rows = t.rows ++ row ∷ [] })) is
  opened_by false names rows told h = absurd cc

  row_by : (b : Bool) (first : List (List ℕ)) (lines : List (List (List ℕ))) (told : OpenNames) → list_any is_dotted lines ≡ b
      → (open_names lines ≡ Some told → open_names (lines ++ row ∷ []) ≡ Some (record told { rows = told.rows ++ row ∷ [] }))
      → cond b (open_names lines) (opened first (rows_under lines)) ≡ Some told
      → cond b (open_names (lines ++ row ∷ [])) (opened first (rows_under (lines ++ row ∷ []))) ≡ Some (record told { rows = told.rows ++ row ∷ [] })
  row_by true first lines told e f h = f h
  row_by false first lines told e f h =
      ap (λ (l : List (List (List ℕ))). opened first l) (row_under lines e)
      ∙ opened_by (begins_with (codes ".names") first) (words_after (codes ".names") first) (rows_under lines) told h

  pub open_row : (lines : List (List (List ℕ))) (told : OpenNames) → open_names lines ≡ Some told → open_names (lines ++ row ∷ []) ≡ Some (record told { rows = told.rows ++ row ∷ [] })
  open_row [] told h = absurd cc
  open_row (first ∷ lines) told h =
      ap (λ b. cond b (open_names (lines ++ row ∷ [])) (opened first (rows_under (lines ++ row ∷ []))))
      (any_on is_dotted lines row ∙ ap (λ b. list_any is_dotted lines || b) plain ∙ or-false (list_any is_dotted lines))
      ∙ row_by (list_any is_dotted lines) first lines told refl (open_row lines told) h

onto_strange : (byte : ℕ) (parts : List (List ℕ)) → list_any has_strange (onto_first byte parts) ≡ (is_strange byte || list_any has_strange parts)
onto_strange byte [] = or-false (is_strange byte || false)
onto_strange byte (part ∷ parts) = (or_assoc (is_strange byte) (has_strange part) (list_any has_strange parts))

byte_by : (byte : ℕ) (parts : List (List ℕ)) (rest white : Bool) → is_white byte ≡ white → list_any has_strange parts ≡ rest
    → list_any has_strange (cond white ([] ∷ parts) (onto_first byte parts)) ≡ (is_strange byte || rest)
byte_by byte parts rest true e h = rw e h
byte_by byte parts rest false e h = onto_strange byte parts ∙ ap (λ b. is_strange byte || b) h

parts_strange : (line : List ℕ) → list_any has_strange (slice_split (λ b. is_white b) line) ≡ has_strange line
parts_strange [] = refl
parts_strange (byte ∷ line) = byte_by byte (slice_split (λ b. is_white b) line) (has_strange line) (is_white byte) refl (parts_strange line)

kept_strange : (parts : List (List ℕ)) → list_any has_strange (filter is_word parts) ≡ list_any has_strange parts
kept_strange [] = refl
kept_strange ([] ∷ parts) = kept_strange parts
kept_strange ((byte ∷ part) ∷ parts) = ap (λ b. has_strange (byte ∷ part) || b) (kept_strange parts)

-- a strange byte of a line stands in one of its words
pub strange_words : (line : List ℕ) → has_strange line ≡ list_any has_strange (dark_words line)
strange_words line = sym (kept_strange (slice_split (λ b. is_white b) line) ∙ parts_strange line)
