-- Symbols and comments. (AIGER 1.9, section 2.)
use Rattle.std.specs.Prelude.{ℕ, Bool, false, not, ◌&&◌, List, [], ◌∷◌, Option, Some, None, option_and_then, length, nat_lt, slice_set, slice_index_or, if◌then◌else◌, ◌==◌}
use Rattle.std.specs.Option.{is_some, option_or}
use Rattle.std.specs.List.{before_first, after_first}
use Rattle.std.specs.Char.{is_ascii_digit}
use Rattle.pulse_ids.specs.declared.quantities.Quantity.TheVariants as quantities
use Rattle.word_scan.specs.Decimals.{decimal_of}
use Rattle.aiger_reader.specs.declared.headers.Header.{Header}
use Rattle.aiger_reader.specs.declared.refusals.UnitRefusal.{UnitRefusal}
use Rattle.aiger_reader.specs.declared.refusals.UnitRefusal.TheVariants.{BadLine, SymbolRange}
use Rattle.aiger_reader.specs.Headers.{over}

-- the letter, the position and the name, which isn't empty
abbrev pub symbol_named : ℕ → List ℕ → ℕ → Option (ℕ × ℕ × List ℕ)
symbol_named letter [] place = None
symbol_named letter (byte ∷ bytes) place = Some (letter, place, byte ∷ bytes)

-- a letter, a decimal, one space and a name
abbrev pub symbol_in : List ℕ → Option (ℕ × ℕ × List ℕ)
symbol_in [] = None
symbol_in (letter ∷ rest) =
    option_and_then (symbol_named letter (after_first (λ b. b == 32) rest)) (decimal_of (before_first (λ b. b == 32) rest))

-- `c` alone, or `c` and then a byte that is no digit
abbrev pub begins_comment : List ℕ → Bool
begins_comment [] = false
begins_comment (letter ∷ []) = letter == 99
begins_comment (letter ∷ next ∷ bytes) = letter == 99 && not (is_ascii_digit next)

-- how many positions a letter names
abbrev pub positions_of : Header → ℕ → Option ℕ
positions_of header letter =
    if letter == 105 then Some header.inputs else
    (if letter == 108 then Some header.latches else
    (if letter == 111 then Some header.outputs else
    (if letter == 98 then Some header.bad else
    (if letter == 99 then Some header.constraints else
    (if letter == 106 then Some header.justice else
    (if letter == 102 then Some header.fairness else None))))))

-- the refusal of a symbol whose letter names so many positions
abbrev pub position_refusal : ℕ → List ℕ → Option ℕ → Option UnitRefusal
position_refusal place name None = Some BadLine
position_refusal place name (Some positions) =
    if nat_lt place positions then over quantities.NameBytes (length name) else Some SymbolRange

abbrev pub symbol_refusal : Header → Option (ℕ × ℕ × List ℕ) → Option UnitRefusal
symbol_refusal header None = Some BadLine
symbol_refusal header (Some symbol) = position_refusal symbol.1 symbol.2 (positions_of header symbol.0)

-- the refusal of a line behind the sections, where no comment has begun: an empty line and one that begins a
-- comment are right
abbrev pub behind_refusal : Header → List ℕ → Option UnitRefusal
behind_refusal header [] = None
behind_refusal header (byte ∷ bytes) =
    if begins_comment (byte ∷ bytes) then None else symbol_refusal header (symbol_in (byte ∷ bytes))

-- the same, where a comment may have begun, which has no refusal
abbrev pub line_refusal : Header → Bool → List ℕ → Option UnitRefusal
line_refusal header commented line = if commented then None else behind_refusal header line

-- the name that a symbol gives to this position of this letter
abbrev pub name_by : ℕ → ℕ → Option (ℕ × ℕ × List ℕ) → Option (List ℕ)
name_by letter place None = None
name_by letter place (Some symbol) = if symbol.0 == letter && symbol.1 == place then Some symbol.2 else None

-- the first name that lines give to it
abbrev pub name_in : ℕ → ℕ → List (List ℕ) → Option (List ℕ)
name_in letter place [] = None
name_in letter place (line ∷ lines) = option_or (name_by letter place (symbol_in line)) (name_in letter place lines)

-- the names with one more, where the port has none
abbrev pub with_name : ℕ → List ℕ → List (Option (List ℕ)) → List (Option (List ℕ))
with_name place name names = if is_some (slice_index_or names place None) then names else slice_set names place (Some name)

-- the names after one more symbol; a letter that isn't this one gives no name
abbrev pub named_by : ℕ → Option (ℕ × ℕ × List ℕ) → List (Option (List ℕ)) → List (Option (List ℕ))
named_by letter None names = names
named_by letter (Some symbol) names = if symbol.0 == letter then with_name symbol.1 symbol.2 names else names
