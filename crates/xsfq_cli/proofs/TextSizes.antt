-- How long a netlist's text is, by its lines.
use Rattle.std.proofs.Common.{◌≡◌, ◌<◌, ◌≤◌, inl, inr, ℕ, ◌+◌, ◌*◌, ◌^◌, Bool, true, false, List, [], ◌∷◌, length, map, codes, decimal, Some, None, refl, arith}
use Rattle.std.specs.List.{flat_map}
use Rattle.std.specs.declared.option.Option.{Option}
use Rattle.std.proofs.lemmas.Fmt.{length-decimal-le}
use Rattle.std.proofs.lemmas.List.{length-append}
use Rattle.pulse_ids.specs.Ids.{WireId}
use Rattle.pulse_ids.specs.declared.literals.Sign.{Sign}
use Rattle.pulse_ids.specs.declared.literals.Sign.TheVariants.{Pos, Neg}
use Rattle.pulse_ids.specs.Lists.{IsIn}
use Rattle.pulse_ids.proofs.CallerLemmas.{IsIn-left, IsIn-right}
use Rattle.cell_netlist.specs.declared.kinds.Role.{Role}
use Rattle.cell_netlist.specs.declared.kinds.Role.TheVariants.{Front, Back, Const}
use Rattle.cell_netlist.specs.declared.lines.Cell.{Cell}
use Rattle.cell_netlist.specs.declared.lines.Cell.TheVariants.{La, Fa, Split, Droc}
use Rattle.cell_netlist.specs.declared.lines.Rail.{Rail}
use Rattle.cell_netlist.specs.declared.lines.StateLine.{StateLine}
use Rattle.cell_netlist.specs.Names.{AreNamesFrom}
use Rattle.cell_netlist.specs.Netlists.{outs, reads, used, wire_of}
use Rattle.cell_netlist.specs.Text.{bit_word, cell_words, line_of, name_words, output_word, rail_words, role_word, sign_word, state_words, wire_word}
use Rattle.cell_netlist.proofs.CallerLemmas.{StateFits}
use Rattle.rail_mapper.specs.Cells.{gate_in, role_in}

-- small numbers
wire_size : (wire : WireId) → wire.number < 2 ^ 22 → length (wire_word wire) ≤ 7
wire_size wire small = length-decimal-le 7 wire.number (omega arith) (omega (arith, small)) (omega (arith, small))

pub port_size : (port : ℕ) → port ≤ 2 ^ 14 → length (decimal port) ≤ 5
port_size port small = length-decimal-le 5 port (omega arith) (omega (arith, small)) (omega (arith, small))

-- the words of a line, with the byte after each
words_size : (word : List ℕ) (words : List (List ℕ)) (next : List ℕ) → length (line_of (word ∷ next ∷ words)) ≡ length word + 1 + length (line_of (next ∷ words))
words_size word words next = omega (arith, length-append word (32 ∷ line_of (next ∷ words)))

word_size : (word : List ℕ) → length (line_of (word ∷ [])) ≡ length word + 1
word_size word = length-append word (10 ∷ [])

pub two_size : (a b : List ℕ) → length (line_of (a ∷ b ∷ [])) ≡ length a + length b + 2
two_size a b = omega (arith, words_size a [] b, word_size b)

pub three_size : (a b c : List ℕ) → length (line_of (a ∷ b ∷ c ∷ [])) ≡ length a + length b + length c + 3
three_size a b c = omega (arith, words_size a (c ∷ []) b, two_size b c)

four_size : (a b c d : List ℕ) → length (line_of (a ∷ b ∷ c ∷ d ∷ [])) ≡ length a + length b + length c + length d + 4
four_size a b c d = omega (arith, words_size a (c ∷ d ∷ []) b, three_size b c d)

six_size : (a b c d e f : List ℕ) → length (line_of (a ∷ b ∷ c ∷ d ∷ e ∷ f ∷ [])) ≡ length a + length b + length c + length d + length e + length f + 6
six_size a b c d e f =
    omega (arith, words_size a (c ∷ d ∷ e ∷ f ∷ []) b, words_size b (d ∷ e ∷ f ∷ []) c, four_size c d e f)

-- a line of a rail
sign_size : (sign : Sign) → length (sign_word sign) ≡ 1
sign_size Pos = refl
sign_size Neg = refl

pub rail_size : (side : List ℕ) (rail : Rail) → rail.port ≤ 2 ^ 14 → wire_of rail < 2 ^ 22 → length (line_of (rail_words side rail)) ≤ length side + 17
rail_size side rail port wire =
    omega (
      arith,
      four_size side (decimal rail.port) (sign_word rail.sign) (wire_word rail.wire),
      port_size rail.port port,
      sign_size rail.sign,
      wire_size rail.wire wire,
    )

-- a state line
number_size : (n : ℕ) → n < 2 ^ 32 → length (decimal n) ≤ 10
number_size n small = length-decimal-le 10 n (omega arith) (omega (arith, small)) (omega (arith, small))

pub state_size : (line : StateLine) → StateFits line → length (line_of (state_words line)) ≤ 28
state_size line fits =
    omega (
      arith,
      three_size (codes "state") (decimal line.latch) (decimal line.cell.number),
      number_size line.latch fits.latch,
      number_size line.cell.number fits.cell,
    )

-- lines of one kind, none longer than this
pub lines_size : {X : Type 0} (words : X → List (List ℕ)) (most : ℕ) (xs : List X) → ((x : X) → IsIn x xs → length (line_of (words x)) ≤ most)
    → length (flat_map line_of (map words xs)) ≤ most * length xs
lines_size words most [] short = omega arith
lines_size words most (x ∷ xs) short =
    let rest = lines_size words most xs (λ y is. short y (inr is)) in
    let sums = length-append (line_of (words x)) (flat_map line_of (map words xs)) in
    omega (arith, rest, sums, short x (inl refl))

-- a line of a cell: by what it drives, and what it is
role_size : (role : Role) → length (role_word role) ≡ 1
role_size Front = refl
role_size Back = refl
role_size Const = refl

bit_size : (bit : Bool) → length (bit_word bit) ≡ 1
bit_size true = refl
bit_size false = refl

output_size : (output : Option WireId) → ((wire : ℕ) → IsIn wire (used output) → wire < 2 ^ 22) → length (output_word output) ≤ 7
output_size None small = omega arith
output_size (Some wire) small = wire_size wire (small wire.number (inl refl))

abbrev cell_room : Cell → ℕ
cell_room cell = 22 * length (outs cell) + 5 * length (gate_in cell) + 33 * length (role_in cell)

cell_size : (cell : Cell) → ((wire : ℕ) → IsIn wire (outs cell) → wire < 2 ^ 22) → ((wire : ℕ) → IsIn wire (reads cell) → wire < 2 ^ 22)
    → length (line_of (cell_words cell)) ≤ cell_room cell
cell_size (La a b out) driven read =
    omega (
      arith,
      four_size (codes "la") (wire_word a) (wire_word b) (wire_word out),
      wire_size a (read a.number (inl refl)),
      wire_size b (read b.number (inr (inl refl))),
      wire_size out (driven out.number (inl refl)),
    )
cell_size (Fa a b out) driven read =
    omega (
      arith,
      four_size (codes "fa") (wire_word a) (wire_word b) (wire_word out),
      wire_size a (read a.number (inl refl)),
      wire_size b (read b.number (inr (inl refl))),
      wire_size out (driven out.number (inl refl)),
    )
cell_size (Split from left right) driven read =
    omega (
      arith,
      four_size (codes "split") (wire_word from) (wire_word left) (wire_word right),
      wire_size from (read from.number (inl refl)),
      wire_size left (driven left.number (inl refl)),
      wire_size right (driven right.number (inr (inl refl))),
    )
cell_size (Droc role preload feed q n) driven read =
    omega (
      arith,
      six_size (codes "droc") (role_word role) (bit_word preload) (wire_word feed) (output_word q) (output_word n),
      role_size role,
      bit_size preload,
      wire_size feed (read feed.number (inl refl)),
      output_size q (λ wire is. driven wire (IsIn-left wire (used q) (used n) is)),
      output_size n (λ wire is. driven wire (IsIn-right wire (used q) (used n) is)),
    )

-- the lines of cells
pub cells_size : (cells : List Cell) → ((wire : ℕ) → IsIn wire (flat_map outs cells) → wire < 2 ^ 22) → ((wire : ℕ) → IsIn wire (flat_map reads cells) → wire < 2 ^ 22)
    → length (flat_map line_of (map cell_words cells)) ≤ 22 * length (flat_map outs cells) + 5 * length (flat_map gate_in cells) + 33 * length (flat_map role_in cells)
cells_size [] driven read = omega arith
cells_size (cell ∷ cells) driven read =
    let first = cell_size cell (λ wire is. driven wire (IsIn-left wire (outs cell) (flat_map outs cells) is)) (λ wire is. read wire (IsIn-left wire (reads cell) (flat_map reads cells) is)) in
    let rest = cells_size cells (λ wire is. driven wire (IsIn-right wire (outs cell) (flat_map outs cells) is)) (λ wire is. read wire (IsIn-right wire (reads cell) (flat_map reads cells) is)) in
    omega (
      arith,
      first,
      rest,
      length-append (line_of (cell_words cell)) (flat_map line_of (map cell_words cells)),
      length-append (outs cell) (flat_map outs cells),
      length-append (gate_in cell) (flat_map gate_in cells),
      length-append (role_in cell) (flat_map role_in cells),
    )

-- the lines of names
pub names_size : (side : List ℕ) (low ports : ℕ) (names : List (ℕ × List ℕ)) → length side ≡ 5 → low ≤ ports → ports ≤ 2 ^ 14 → AreNamesFrom low ports names
    → length (flat_map line_of (map (name_words side) names)) + 1036 * low ≤ 1036 * ports
names_size side low ports [] five within small are = omega (arith, within)
names_size side low ports (named ∷ names) five within small (above, below, is, are) =
    let line = three_size side (decimal named.0) named.1 in
    let rest = names_size side (named.0 + 1) ports names five (omega (arith, below)) small are in
    omega (
      arith,
      above,
      below,
      five,
      line,
      rest,
      port_size named.0 (omega (arith, below, small)),
      is.not_long,
      length-append (line_of (name_words side named)) (flat_map line_of (map (name_words side) names)),
    )
