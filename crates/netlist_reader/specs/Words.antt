-- The words of a line, which single spaces part, and what they mean.
use Rattle.std.specs.Prelude.{List, ℕ, [], Option, Some, None, Bool, true, false, option_map, option_and_then, unwrap_or, codes, if◌then◌else◌}
use Rattle.std.specs.Str.{bytes_eq}
use Rattle.pulse_ids.specs.Ids.{WireId, numbered}
use Rattle.pulse_ids.specs.declared.literals.Sign.{Sign}
use Rattle.pulse_ids.specs.declared.literals.Sign.TheVariants.{Pos, Neg}
use Rattle.cell_netlist.specs.declared.kinds.Role.{Role}
use Rattle.cell_netlist.specs.declared.kinds.Role.TheVariants.{Front, Back, Const}
use Rattle.word_scan.specs.Words.{parted}
use Rattle.word_scan.specs.Decimals.{plain_decimal_of}

-- where a line has a space, what is said by the word before it and the rest
abbrev pub by_word : {A : Type 0} → List ℕ → (List ℕ → List ℕ → Option A) → Option A
by_word line says = option_and_then (λ parts. says parts.0 parts.1) (parted 32 line)

-- where a word has a meaning, what is said by it
abbrev pub by_meaning : {A B : Type 0} → Option A → (A → Option B) → Option B
by_meaning meaning says = option_and_then says meaning

-- what stands after the first space of a line
abbrev pub after_space : List ℕ → List ℕ
after_space line = unwrap_or (option_map (λ parts. parts.1) (parted 32 line)) []

-- the name in a line of a name: what stands after its second space
abbrev pub name_in : List ℕ → List ℕ
name_in line = after_space (after_space line)

-- `p` is positive and `n` negative
abbrev pub sign_of : List ℕ → Option Sign
sign_of word = if bytes_eq word (codes "p") then Some Pos else (if bytes_eq word (codes "n") then Some Neg else None)

-- `f` is a front, `b` a back and `c` a constant
abbrev pub role_of : List ℕ → Option Role
role_of word =
    if bytes_eq word (codes "f") then Some Front else
    (if bytes_eq word (codes "b") then Some Back else
    (if bytes_eq word (codes "c") then Some Const else None))

abbrev pub bit_of : List ℕ → Option Bool
bit_of word = if bytes_eq word (codes "0") then Some false else (if bytes_eq word (codes "1") then Some true else None)

-- the wire of a plain decimal
abbrev pub wire_in : List ℕ → Option WireId
wire_in word = option_map (λ number. numbered number) (plain_decimal_of word)

-- a wire, or `-` for an unused output
abbrev pub output_in : List ℕ → Option (Option WireId)
output_in word = if bytes_eq word (codes "-") then Some None else option_map (λ wire. Some wire) (wire_in word)
