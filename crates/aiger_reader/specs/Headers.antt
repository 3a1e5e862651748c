-- The first line of a source. (AIGER 1.9, section 2.)
use Rattle.std.specs.Prelude.{ℕ, ◌+◌, ◌*◌, Bool, ◌&&◌, ◌==◌, List, [], ◌∷◌, Option, Some, None, length, take, slice_index, codes, nat_lt, nat_le, if◌then◌else◌}
use Rattle.std.specs.Option.{option_or}
use Rattle.std.specs.Str.{bytes_eq}
use Rattle.pulse_ids.specs.Quantities.{greatest_of}
use Rattle.pulse_ids.specs.declared.quantities.Quantity.{Quantity}
use Rattle.pulse_ids.specs.declared.quantities.Quantity.TheVariants as quantities
use Rattle.word_scan.specs.Words.{words_of}
use Rattle.aiger_reader.specs.Numbers.{numbers_in}
use Rattle.aiger_reader.specs.Units.{line_of}
use Rattle.aiger_reader.specs.declared.headers.Spelling.{Spelling}
use Rattle.aiger_reader.specs.declared.headers.Spelling.TheVariants.{Ascii, Binary}
use Rattle.aiger_reader.specs.declared.headers.Header.{Header}
use Rattle.aiger_reader.specs.declared.refusals.UnitRefusal.{UnitRefusal}
use Rattle.aiger_reader.specs.declared.refusals.UnitRefusal.TheVariants.{BadHeader, Property, Limit}

-- a source that begins with `aig ` is binary, and any other is ASCII
abbrev pub spelling_of : List ℕ → Spelling
spelling_of unit = if bytes_eq (take 4 unit) (codes "aig ") then Binary else Ascii

-- the first word of each spelling
abbrev pub format_word : Spelling → List ℕ
format_word Ascii = codes "aag"
format_word Binary = codes "aig"

-- the counts M I L O A B C J F in the order of a header, where missing ones are 0
abbrev pub header_with : Spelling → List ℕ → Header
header_with spelling numbers = record {
  spelling = spelling;
  variables = slice_index numbers 0;
  inputs = slice_index numbers 1;
  latches = slice_index numbers 2;
  outputs = slice_index numbers 3;
  ands = slice_index numbers 4;
  bad = slice_index numbers 5;
  constraints = slice_index numbers 6;
  justice = slice_index numbers 7;
  fairness = slice_index numbers 8;
}

-- five to nine numbers
abbrev pub header_of_numbers : Spelling → Option (List ℕ) → Option Header
header_of_numbers spelling None = None
header_of_numbers spelling (Some numbers) =
    if nat_le 5 (length numbers) && nat_le (length numbers) 9 then Some (header_with spelling numbers) else None

-- the spelling's word and five to nine numbers
abbrev pub header_of_words : Spelling → List (List ℕ) → Option Header
header_of_words spelling [] = None
header_of_words spelling (word ∷ words) =
    if bytes_eq word (format_word spelling) then header_of_numbers spelling (numbers_in words) else None

-- the header of a source's first unit, where it has the form of one
abbrev pub header_in : List ℕ → Option Header
header_in unit = header_of_words (spelling_of unit) (words_of (line_of unit))

abbrev pub over : Quantity → ℕ → Option UnitRefusal
over quantity count = if nat_lt (greatest_of quantity) count then Some (Limit quantity) else None

abbrev pub property : ℕ → ℕ → Option UnitRefusal
property letter count = if nat_lt 0 count then Some (Property letter) else None

-- M is at least the sum of I, L and A, and in the binary spelling it is the sum
abbrev pub has_sum : Spelling → ℕ → ℕ → Bool
has_sum Ascii variables sum = nat_le sum variables
has_sum Binary variables sum = variables == sum

abbrev pub unequal : Header → Option UnitRefusal
unequal header =
    if has_sum header.spelling header.variables (header.inputs + header.latches + header.ands) then None else Some BadHeader

-- the first quantity above its limit
abbrev pub over_limits : Header → Option UnitRefusal
over_limits header =
    option_or (over quantities.Nets header.variables)
    (option_or (over quantities.Inputs header.inputs)
    (option_or (over quantities.Latches header.latches)
    (option_or (over quantities.Outputs header.outputs) (over quantities.Size (3 * header.ands)))))

-- the first kind of property, by its letter
abbrev pub properties : Header → Option UnitRefusal
properties header =
    option_or (property 98 header.bad)
    (option_or (property 99 header.constraints)
    (option_or (property 106 header.justice) (property 102 header.fairness)))

-- the refusal of a header
abbrev pub counts_refusal : Header → Option UnitRefusal
counts_refusal header = option_or (unequal header) (option_or (over_limits header) (properties header))

-- the refusal of a first unit
abbrev pub header_refusal : Option Header → Option UnitRefusal
header_refusal None = Some BadHeader
header_refusal (Some header) = counts_refusal header
