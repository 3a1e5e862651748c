-- For callers: the logical lines of physical lines that are cut in two.
use Rattle.std.proofs.Common.{◌≡◌, ◌≢◌, ℕ, ◌+◌, ◌≤◌, Bool, true, false, ◌||◌, cond, List, [], ◌∷◌, ◌++◌, length, Option, Some, None, refl, ap, subst, arith}
use Rattle.std.specs.Prelude.{⊤, filter}
use Rattle.std.specs.List.{slice_split, onto_first}
use Rattle.std.proofs.lemmas.List.Elements.{All-nil, All-cons}
use Rattle.word_scan.specs.Words.{is_word}
use Rattle.word_scan.specs.Lines.{HasNoFeed}
use Rattle.word_scan.specs.Logical.{is_white, is_strange, has_strange, dark_words, LogicalLine, PlainLogical, continues, going_on, logical_after, logical_begun, present_line, begun_line, with_line}

-- what further lines leave of the last logical line
pub begun_on : (begun : Option LogicalLine) (number : ℕ) (xs ys : List (List ℕ))
    → logical_begun begun number (xs ++ ys) ≡ logical_begun (logical_begun begun number xs) (number + length xs) ys
begun_on begun number [] ys = let n : number ≡ number + 0 = omega arith in ap (λ k. logical_begun begun k ys) n
begun_on begun number (x ∷ xs) ys =
    let n : number + 1 + length xs ≡ number + length (x ∷ xs) = omega arith in
    subst (λ k. logical_begun begun number ((x ∷ xs) ++ ys) ≡ logical_begun (logical_begun begun number (x ∷ xs)) k ys) n
    (elim (continues x) as (λ b. cond b (logical_begun (Some (going_on begun number x)) (number + 1) (xs ++ ys)) (logical_begun None (number + 1) (xs ++ ys))
    ≡ logical_begun (cond b (logical_begun (Some (going_on begun number x)) (number + 1) xs) (logical_begun None (number + 1) xs)) (number + 1 + length xs) ys) [
      | true ↦ begun_on (Some (going_on begun number x)) (number + 1) xs ys
      | false ↦ begun_on None (number + 1) xs ys
    ])

-- the logical lines of two parts are those of the first, and then those of the second
pub logical_on : (begun : Option LogicalLine) (number : ℕ) (xs ys : List (List ℕ))
    → logical_after begun number (xs ++ ys) ≡ logical_after begun number xs ++ logical_after (logical_begun begun number xs) (number + length xs) ys
logical_on begun number [] ys = let n : number ≡ number + 0 = omega arith in ap (λ k. logical_after begun k ys) n
logical_on begun number (x ∷ xs) ys =
    let n : number + 1 + length xs ≡ number + length (x ∷ xs) = omega arith in
    subst (λ k. logical_after begun number ((x ∷ xs) ++ ys) ≡ logical_after begun number (x ∷ xs) ++ logical_after (logical_begun begun number (x ∷ xs)) k ys) n
    (elim (continues x) as (λ b. cond b (logical_after (Some (going_on begun number x)) (number + 1) (xs ++ ys)) (going_on begun number x ∷ logical_after None (number + 1) (xs ++ ys))
    ≡ cond b (logical_after (Some (going_on begun number x)) (number + 1) xs) (going_on begun number x ∷ logical_after None (number + 1) xs)
    ++ logical_after (cond b (logical_begun (Some (going_on begun number x)) (number + 1) xs) (logical_begun None (number + 1) xs)) (number + 1 + length xs) ys) [
      | true ↦ logical_on (Some (going_on begun number x)) (number + 1) xs ys
      | false ↦ ap (λ (ls : List LogicalLine). going_on begun number x ∷ ls) (logical_on None (number + 1) xs ys)
    ])

-- a line that is continued completes nothing, and another completes a logical line and leaves nothing
pub continued : (begun : Option LogicalLine) (number : ℕ) (line : List ℕ) → continues line ≡ true
    → (logical_after begun number (line ∷ []) ≡ []) × (logical_begun begun number (line ∷ []) ≡ Some (going_on begun number line))
continued begun number line on = (rw on refl, rw on refl)

pub completed : (begun : Option LogicalLine) (number : ℕ) (line : List ℕ) → continues line ≡ false
    → (logical_after begun number (line ∷ []) ≡ going_on begun number line ∷ []) × (logical_begun begun number (line ∷ []) ≡ None)
completed begun number line ends = (rw ends refl, rw ends refl)

-- the present line is what it goes on to
pub present_is : (logical : PlainLogical) (number : ℕ) (line : List ℕ) → present_line (with_line logical number line) ≡ going_on (begun_line logical) number line
present_is logical number line = refl

-- a word has a byte, and none of them is LF
abbrev pub IsPlainWord : List ℕ → Type 0
IsPlainWord word = (1 ≤ length word) × HasNoFeed word

abbrev pub ArePlainWords : List (List ℕ) → Type 0
ArePlainWords [] = ⊤
ArePlainWords (word ∷ words) = IsPlainWord word × ArePlainWords words

abbrev HaveNoFeed : List (List ℕ) → Type 0
HaveNoFeed [] = ⊤
HaveNoFeed (part ∷ parts) = HasNoFeed part × HaveNoFeed parts

no_bytes : HasNoFeed []
no_bytes = All-nil (λ byte. byte ≢ 10)

with_byte : (byte : ℕ) (bytes : List ℕ) → is_strange byte ≡ false → HasNoFeed bytes → HasNoFeed (byte ∷ bytes)
with_byte byte bytes plain rest = All-cons (λ b. b ≢ 10) byte bytes (λ e. not_feed (subst (λ b. is_strange b ≡ false) e plain)) rest
  where
    not_feed : true ≡ false → ⊥
    not_feed h = cc

onto : (byte : ℕ) (parts : List (List ℕ)) → is_strange byte ≡ false → HaveNoFeed parts → HaveNoFeed (onto_first byte parts)
onto byte [] plain have = (with_byte byte [] plain no_bytes, tt)
onto byte (part ∷ parts) plain have = (with_byte byte part plain have.0, have.1)

both_false : (a b : Bool) → (a || b) ≡ false → (a ≡ false) × (b ≡ false)
both_false true b h = absurd cc
both_false false b h = (refl, h)

parts_plain : (line : List ℕ) → has_strange line ≡ false → HaveNoFeed (slice_split (λ b. is_white b) line)
parts_plain [] h = (no_bytes, tt)
parts_plain (byte ∷ line) h =
    let both = both_false (is_strange byte) (has_strange line) h in
    elim (is_white byte) as (λ b. HaveNoFeed (cond b ([] ∷ slice_split (λ b. is_white b) line) (onto_first byte (slice_split (λ b. is_white b) line)))) [
      | true ↦ (no_bytes, parts_plain line both.1)
      | false ↦ onto byte (slice_split (λ b. is_white b) line) both.0 (parts_plain line both.1)
    ]

kept_plain : (parts : List (List ℕ)) → HaveNoFeed parts → ArePlainWords (filter is_word parts)
kept_plain [] have = tt
kept_plain ([] ∷ parts) have = kept_plain parts have.1
kept_plain ((byte ∷ part) ∷ parts) have = ((omega arith, have.0), kept_plain parts have.1)

-- the words of a line without strange bytes
pub words_plain : (line : List ℕ) → has_strange line ≡ false → ArePlainWords (dark_words line)
words_plain line h = kept_plain (slice_split (λ b. is_white b) line) (parts_plain line h)
