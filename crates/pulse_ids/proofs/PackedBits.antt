-- The bits of lists of words.
use Rattle.std.proofs.Common.{◌≡◌, ◌≢◌, ℕ, ◌*◌, ◌/◌, ◌%◌, ◌<◌, ◌⊎◌, inl, inr, Bool, false, ◌==◌, if◌then◌else◌, List, length, replicate, get_or, set, slice_get, slice_index, Some, refl, sym, ◌∙◌, ap, subst, arith, eq-eqb, ne_eqb}
use Rattle.std.proofs.lemmas.Bool.{cases_eq, cases_lt}
use Rattle.std.proofs.lemmas.List.{ext_get_or, get_or-set_same, get_or-set_other, length-set, length-replicate, get_or-replicate, get_or_past}
use Rattle.std.proofs.lemmas.List.FromFn.{length-map-range_with_len, get_or-map-range_with_len}
use Rattle.std.proofs.lemmas.Option.{slice_get-get_or}
use Rattle.pulse_ids.specs.Bits.{bit_of_word, bit_in_words, bits_of, HasBitPut}

pub length_bits_of : (words : List ℕ) (count : ℕ) → length (bits_of words count) ≡ count
length_bits_of words count = length-map-range_with_len (bit_in_words words) 0 count

bit_of : (words : List ℕ) (count number : ℕ) (d : Bool) → number < count → get_or (bits_of words count) number d ≡ bit_in_words words number
bit_of words count number d lt = get_or-map-range_with_len (bit_in_words words) 0 count number number d lt (omega arith)

-- the bit that a word gives is the one of the list
pub bits_of_at : (words : List ℕ) (count number : ℕ) (bit : Bool) → bit ≡ bit_in_words words number → number < count
    → slice_get (bits_of words count) number ≡ Some bit
bits_of_at words count number bit e lt =
    slice_get-get_or (bits_of words count) number false (omega (arith, length_bits_of words count))
    ∙ ap (λ b. Some b) (bit_of words count number false lt ∙ sym e)

-- all words are 0
bits_of-zeros : (words count : ℕ) → bits_of (replicate words 0) count ≡ replicate count false
bits_of-zeros words count = ext_get_or false _ _ (length_bits_of (replicate words 0) count ∙ sym (length-replicate count false)) each
  where
    zero_word : (k : ℕ) → slice_index (replicate words 0) k ≡ 0
    zero_word k = elim (cases_lt k words) [
      | inl lt ↦ get_or-replicate words k 0 0 lt
      | inr le ↦ get_or_past (replicate words 0) k 0 (omega (arith, length-replicate {A = ℕ} words 0))
    ]

    each : (k : ℕ) → k < length (bits_of (replicate words 0) count)
        → get_or (bits_of (replicate words 0) count) k false ≡ get_or (replicate count false) k false
    each k lt =
        let within : k < count = omega (arith, length_bits_of (replicate words 0) count) in
        bit_of (replicate words 0) count k false within
        ∙ ap (λ word. bit_of_word word (k % 64)) (zero_word (k / 64))
        ∙ sym (get_or-replicate count k false false within)

pub bits_of_zeros_from : (list : List ℕ) (words count : ℕ) → list ≡ replicate words 0 → bits_of list count ≡ replicate count false
bits_of_zeros_from list words count e = ap (λ l. bits_of l count) e ∙ bits_of-zeros words count

-- one bit is put
pub bits_of_set : (before after : List ℕ) (count number : ℕ) (bit : Bool) → HasBitPut before number bit after → number < count
    → bits_of after count ≡ set (bits_of before count) number bit
bits_of_set before after count number bit put lt =
    ext_get_or false _ _ (length_bits_of after count ∙ sym (length-set (bits_of before count) number bit ∙ length_bits_of before count)) each
  where
    here : (k : ℕ) → k < count → (number ≡ k) ⊎ (number ≢ k)
        → get_or (bits_of after count) k false ≡ get_or (set (bits_of before count) number bit) k false
    here k within (inl e) =
        bit_of after count k false within ∙ put k ∙ ap (λ t. if t then bit else bit_in_words before k) (eq-eqb number k e)
        ∙ sym (ap (λ j. get_or (set (bits_of before count) number bit) j false) (sym e)
        ∙ get_or-set_same (bits_of before count) number bit false (omega (arith, length_bits_of before count)))
    here k within (inr ne) =
        bit_of after count k false within ∙ put k ∙ ap (λ t. if t then bit else bit_in_words before k) (ne_eqb number k ne)
        ∙ sym (get_or-set_other (bits_of before count) number k bit false (λ e. ne (sym e)) ∙ bit_of before count k false within)

    each : (k : ℕ) → k < length (bits_of after count)
        → get_or (bits_of after count) k false ≡ get_or (set (bits_of before count) number bit) k false
    each k lt = here k (omega (arith, length_bits_of after count)) (cases_eq number k)

-- one word is written, whose bits but for one are those of the word before
pub word_put : (words : List ℕ) (number word old : ℕ) (bit : Bool) → number < 64 * length words → slice_index words (number / 64) ≡ old
    → ((place : ℕ) → place < 64 → bit_of_word word place
    ≡ (if number % 64 == place then bit else bit_of_word old place))
    → HasBitPut words number bit (set words (number / 64) word)
word_put words number word old bit lt read puts_old other = elim (cases_eq number other) [
  | inl same ↦ subst (λ n. bit_in_words (set words (number / 64) word) n ≡ (if number == n then bit else bit_in_words words n)) same
      (here number (omega arith) ∙ ap (λ t. if t then bit else bit_of_word (slice_index words (number / 64)) (number % 64)) (eq-eqb (number % 64) (number % 64) refl)
      ∙ sym (ap (λ t. if t then bit else bit_in_words words number) (eq-eqb number number refl)))
  | inr differ ↦ elim (cases_eq (number / 64) (other / 64)) [
    | inl row ↦
        let apart : number % 64 ≢ other % 64 = λ e. differ (omega arith) in
        here other (sym row) ∙ ap (λ t. if t then bit else bit_of_word (slice_index words (number / 64)) (other % 64)) (ne_eqb (number % 64) (other % 64) apart)
        ∙ ap (λ q. bit_of_word (slice_index words q) (other % 64)) row
        ∙ sym (ap (λ t. if t then bit else bit_in_words words other) (ne_eqb number other differ))
    | inr row ↦
        ap (λ w. bit_of_word w (other % 64)) (get_or-set_other words (number / 64) (other / 64) word 0 (λ e. row (sym e)))
        ∙ sym (ap (λ t. if t then bit else bit_in_words words other) (ne_eqb number other differ))
  ]
]
  where
    puts : (place : ℕ) → place < 64 → bit_of_word word place
        ≡ (if number % 64 == place then bit else bit_of_word (slice_index words (number / 64)) place)
    puts place small = puts_old place small ∙ ap (λ w. if number % 64 == place then bit else bit_of_word w place) (sym read)

    here : (n : ℕ) → n / 64 ≡ number / 64 → bit_in_words (set words (number / 64) word) n
        ≡ (if number % 64 == n % 64 then bit else bit_of_word (slice_index words (number / 64)) (n % 64))
    here n e =
        ap (λ w. bit_of_word w (n % 64)) (ap (λ q. slice_index (set words (number / 64) word) q) e ∙ get_or-set_same words (number / 64) word 0 (omega (arith, lt)))
        ∙ puts (n % 64) (omega arith)
