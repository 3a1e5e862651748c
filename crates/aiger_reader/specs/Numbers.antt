-- The numbers of a line.
use Rattle.std.specs.Prelude.{ℕ, List, [], ◌∷◌, Option, Some, None, option_and_then, option_map}
use Rattle.word_scan.specs.Decimals.{decimal_of}
use Rattle.word_scan.specs.Words.{words_of}

-- the numbers that the words write, where each word is a decimal
abbrev pub numbers_in : List (List ℕ) → Option (List ℕ)
numbers_in [] = Some []
numbers_in (word ∷ words) =
    option_and_then (λ number. option_map (λ numbers. number ∷ numbers) (numbers_in words)) (decimal_of word)

-- the numbers of a line, where each of its words is a decimal
abbrev pub numbers_of : List ℕ → Option (List ℕ)
numbers_of line = numbers_in (words_of line)

-- just one number
abbrev pub one_of : Option (List ℕ) → Option ℕ
one_of (Some (a ∷ [])) = Some a
one_of _ = None

-- one number, and a second one or 0
abbrev pub one_or_two_of : Option (List ℕ) → Option (ℕ × ℕ)
one_or_two_of (Some (a ∷ [])) = Some (a, 0)
one_or_two_of (Some (a ∷ b ∷ [])) = Some (a, b)
one_or_two_of _ = None

-- two numbers, and a third one or 0
abbrev pub two_or_three_of : Option (List ℕ) → Option (ℕ × ℕ × ℕ)
two_or_three_of (Some (a ∷ b ∷ [])) = Some (a, b, 0)
two_or_three_of (Some (a ∷ b ∷ c ∷ [])) = Some (a, b, c)
two_or_three_of _ = None

-- just three numbers
abbrev pub three_of : Option (List ℕ) → Option (ℕ × ℕ × ℕ)
three_of (Some (a ∷ b ∷ c ∷ [])) = Some (a, b, c)
three_of _ = None
