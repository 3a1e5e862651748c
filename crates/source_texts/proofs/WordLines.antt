-- The words and the numbers of a line are read back.
use Rattle.std.proofs.Common.{◌≡◌, ℕ, zero, suc, ◌-◌, ◌^◌, ◌<◌, true, false, cond, eqb, List, [], ◌∷◌, ◌++◌, length, length-append, map, filter, take, slice_index, decimal, All, Some}
use Rattle.std.proofs.Common.{refl, ◌∙◌, ap, subst, inl, inr, arith}
use Rattle.std.specs.List.{slice_split}
use Rattle.std.proofs.lemmas.Bool.{ne_eqb}
use Rattle.std.proofs.lemmas.List.Elements.{All-nil, All-cons}
use Rattle.std.proofs.lemmas.List.Splits.{slice_split_at, slice_split_none}
use Rattle.pulse_ids.specs.Lists.{IsIn}
use Rattle.pulse_ids.proofs.CallerLemmas.{IsIn-from_map}
use Rattle.word_scan.specs.Words.{is_blank, is_word, words_of}
use Rattle.word_scan.specs.Decimals.{decimal_of}
use Rattle.word_scan.proofs.CallerLemmasDecimals.{IsFree, free_joined, decimal_free, decimal_begins, decimal_read}
use Rattle.aiger_reader.specs.Numbers.{numbers_in, numbers_of}
use Rattle.aiger_reader.specs.Units.{line_of, without_last}
use Rattle.source_texts.specs.Texts.{spaced, line}

-- a word: it has a byte, and no byte parts it
pub record IsWord (word : List ℕ) : Type 0 where
  pub not_empty : is_word word ≡ true
  pub unparted : All (λ byte. is_blank byte ≡ false) word

abbrev pub AreWords : List (List ℕ) → Type 0
AreWords words = (word : List ℕ) → IsIn word words → IsWord word

-- numbers of 32 bits
abbrev pub AreSmall : List ℕ → Type 0
AreSmall numbers = (number : ℕ) → IsIn number numbers → number < 2 ^ 32

unparted_by : (w : List ℕ) → IsFree 32 w → IsFree 9 w → All (λ byte. is_blank byte ≡ false) w
unparted_by [] f g = All-nil (λ byte. is_blank byte ≡ false)
unparted_by (byte ∷ w) f g = All-cons (λ byte. is_blank byte ≡ false) byte w (rw (f.0, g.0) refl) (unparted_by w f.1 g.1)

decimal_word : (n : ℕ) → n < 2 ^ 32 → IsWord (decimal n)
decimal_word n lt = record {
  not_empty = ap is_word (decimal_begins n (omega arith)).is;
  unparted = unparted_by (decimal n) (decimal_free 32 n (omega arith) (omega arith)) (decimal_free 9 n (omega arith) (omega arith));
}

pub numbers_words : (numbers : List ℕ) → AreSmall numbers → AreWords (map decimal numbers)
numbers_words numbers small word i =
    let n = IsIn-from_map decimal word numbers i in
    subst IsWord n.2 (decimal_word n.0 (small n.0 n.1))

one_more_word : (w : List ℕ) (words : List (List ℕ)) → is_word w ≡ true → filter is_word (w ∷ words) ≡ w ∷ filter is_word words
one_more_word w words test = rw test refl

pub words_spaced : (words : List (List ℕ)) → AreWords words → words_of (spaced words) ≡ words
words_spaced [] are = refl
words_spaced (w ∷ []) are =
    let one = are w (inl refl) in
    ap (filter is_word) (slice_split_none is_blank w one.unparted) ∙ one_more_word w [] one.not_empty
words_spaced (w ∷ v ∷ words) are =
    let one = are w (inl refl) in
    ap (filter is_word) (slice_split_at is_blank w 32 (spaced (v ∷ words)) one.unparted refl)
    ∙ one_more_word w (slice_split is_blank (spaced (v ∷ words))) one.not_empty
    ∙ ap (λ (l : List (List ℕ)). w ∷ l) (words_spaced (v ∷ words) (λ word i. are word (inr i)))

pub numbers_back : (numbers : List ℕ) → AreSmall numbers → numbers_in (map decimal numbers) ≡ Some numbers
numbers_back [] small = refl
numbers_back (n ∷ numbers) small =
    let first : decimal_of (decimal n) ≡ Some n = decimal_read n (small n (inl refl)) in
    let rest : numbers_in (map decimal numbers) ≡ Some numbers = numbers_back numbers (λ number i. small number (inr i)) in
    rw (first, rest) refl

-- a byte other than a space stands in a line only where it stands in a word
pub spaced_free : (t : ℕ) → eqb 32 t ≡ false → (words : List (List ℕ)) → ((word : List ℕ) → IsIn word words → IsFree t word) → IsFree t (spaced words)
spaced_free t other [] each = tt
spaced_free t other (w ∷ []) each = each w (inl refl)
spaced_free t other (w ∷ v ∷ words) each =
    free_joined t w (32 ∷ spaced (v ∷ words)) (each w (inl refl)) (other, spaced_free t other (v ∷ words) (λ word i. each word (inr i)))

pub numbers_free : (t : ℕ) → t < 32 → (numbers : List ℕ) → AreSmall numbers → IsFree t (spaced (map decimal numbers))
numbers_free t lt numbers small = spaced_free t (ne_eqb 32 t (λ e. omega arith)) (map decimal numbers) each
  where
    each : (word : List ℕ) → IsIn word (map decimal numbers) → IsFree t word
    each word i =
        let n = IsIn-from_map decimal word numbers i in
        let fits = small n.0 n.1 in
        subst (IsFree t) n.2 (decimal_free t n.0 (omega arith) (omega arith))

free_index : (t : ℕ) → eqb 0 t ≡ false → (w : List ℕ) → IsFree t w → (k : ℕ) → eqb (slice_index w k) t ≡ false
free_index t none [] f k = none
free_index t none (b ∷ w) f zero = f.0
free_index t none (b ∷ w) f (suc k) = free_index t none w f.1 k

last_byte : (w : List ℕ) (b : ℕ) → slice_index (w ++ b ∷ []) (length w) ≡ b
last_byte [] b = refl
last_byte (c ∷ w) b = last_byte w b

front_bytes : (w : List ℕ) (b : ℕ) → take (length w) (w ++ b ∷ []) ≡ w
front_bytes [] b = refl
front_bytes (c ∷ w) b = ap (λ (l : List ℕ). c ∷ l) (front_bytes w b)

-- a line without its last byte
pub line_is : (body : List ℕ) → IsFree 13 body → line_of (body ++ 10 ∷ []) ≡ body
line_is body free =
    let at : length (body ++ 10 ∷ []) - 1 ≡ length body = omega (arith, length-append body (10 ∷ [])) in
    let feed : eqb (slice_index (body ++ 10 ∷ []) (length (body ++ 10 ∷ []) - 1)) 10 ≡ true =
    ap (λ k. eqb (slice_index (body ++ 10 ∷ []) k) 10) at ∙ ap (λ b. eqb b 10) (last_byte body 10) in
    let cut : without_last 10 (body ++ 10 ∷ []) ≡ body =
    ap (λ b. cond b (take (length (body ++ 10 ∷ []) - 1) (body ++ 10 ∷ [])) (body ++ 10 ∷ [])) feed
    ∙ ap (λ k. take k (body ++ 10 ∷ [])) at ∙ front_bytes body 10 in
    ap (without_last 13) cut ∙ ap (λ b. cond b (take (length body - 1) body) body) (free_index 13 refl body free (length body - 1))

pub line_numbers : (numbers : List ℕ) → AreSmall numbers → numbers_of (line_of (line (map decimal numbers))) ≡ Some numbers
line_numbers numbers small =
    ap numbers_of (line_is (spaced (map decimal numbers)) (numbers_free 13 (omega arith) numbers small))
    ∙ ap numbers_in (words_spaced (map decimal numbers) (numbers_words numbers small)) ∙ numbers_back numbers small
