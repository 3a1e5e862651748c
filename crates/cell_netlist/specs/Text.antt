-- The one text of a netlist.
use Rattle.std.specs.Prelude.{◌≡◌, ℕ, Bool, true, false, Option, Some, None, List, [], ◌∷◌, ◌++◌, map, codes, decimal}
use Rattle.std.specs.List.{flat_map}
use Rattle.pulse_ids.specs.Ids.{WireId}
use Rattle.pulse_ids.specs.declared.literals.Sign.{Sign}
use Rattle.pulse_ids.specs.declared.literals.Sign.TheVariants.{Pos, Neg}
use Rattle.cell_netlist.specs.declared.kinds.Role.{Role}
use Rattle.cell_netlist.specs.declared.kinds.Role.TheVariants.{Front, Back, Const}
use Rattle.cell_netlist.specs.declared.kinds.Version.{Version}
use Rattle.cell_netlist.specs.declared.kinds.Version.TheVariants.{One, Two}
use Rattle.cell_netlist.specs.declared.lines.Rail.{Rail}
use Rattle.cell_netlist.specs.declared.lines.StateLine.{StateLine}
use Rattle.cell_netlist.specs.declared.lines.Cell.{Cell}
use Rattle.cell_netlist.specs.declared.lines.Cell.TheVariants.{La, Fa, Split, Droc}
use Rattle.cell_netlist.specs.Netlists.{PlainNetlist, IsNetlist}

-- words parted by one space, and then LF
abbrev pub line_of : List (List ℕ) → List ℕ
line_of [] = 10 ∷ []
line_of (word ∷ []) = word ++ 10 ∷ []
line_of (word ∷ next ∷ words) = word ++ 32 ∷ line_of (next ∷ words)

abbrev pub version_word : Version → List ℕ
version_word One = codes "1"
version_word Two = codes "2"

abbrev pub sign_word : Sign → List ℕ
sign_word Pos = codes "p"
sign_word Neg = codes "n"

abbrev pub role_word : Role → List ℕ
role_word Front = codes "f"
role_word Back = codes "b"
role_word Const = codes "c"

abbrev pub bit_word : Bool → List ℕ
bit_word false = codes "0"
bit_word true = codes "1"

abbrev pub wire_word : WireId → List ℕ
wire_word wire = decimal wire.number

-- the wire of a DROC's output, or `-` for an unused one
abbrev pub output_word : Option WireId → List ℕ
output_word None = codes "-"
output_word (Some wire) = wire_word wire

-- `input` or `output`, port, sign, wire
abbrev pub rail_words : List ℕ → Rail → List (List ℕ)
rail_words side rail = side ∷ decimal rail.port ∷ sign_word rail.sign ∷ wire_word rail.wire ∷ []

abbrev pub cell_words : Cell → List (List ℕ)
cell_words (La a b out) = codes "la" ∷ wire_word a ∷ wire_word b ∷ wire_word out ∷ []
cell_words (Fa a b out) = codes "fa" ∷ wire_word a ∷ wire_word b ∷ wire_word out ∷ []
cell_words (Split from left right) = codes "split" ∷ wire_word from ∷ wire_word left ∷ wire_word right ∷ []
cell_words (Droc role preload feed q n) =
    codes "droc" ∷ role_word role ∷ bit_word preload ∷ wire_word feed ∷ output_word q ∷ output_word n ∷ []

-- `state`, latch, cell
abbrev pub state_words : StateLine → List (List ℕ)
state_words line = codes "state" ∷ decimal line.latch ∷ decimal line.cell.number ∷ []

-- `iname` or `oname`, port, name
abbrev pub name_words : List ℕ → ℕ × List ℕ → List (List ℕ)
name_words side named = side ∷ decimal named.0 ∷ named.1 ∷ []

-- the words of each line of a netlist
abbrev pub netlist_words : PlainNetlist → List (List (List ℕ))
netlist_words net = (codes "xsfq" ∷ version_word net.version ∷ []) ∷ (codes "ports" ∷ decimal net.inputs ∷ decimal net.outputs ∷ []) ∷ []
    ++ map (rail_words (codes "input")) net.input_rails
    ++ map cell_words net.cells
    ++ map (rail_words (codes "output")) net.output_rails
    ++ map state_words net.states
    ++ map (name_words (codes "iname")) net.input_names
    ++ map (name_words (codes "oname")) net.output_names
    ++ (codes "end" ∷ []) ∷ []

-- the text of a netlist
abbrev pub text_of : PlainNetlist → List ℕ
text_of net = flat_map line_of (netlist_words net)

-- no text of a netlist is a prefix of another's, so two netlists with one text are the same
abbrev pub TextsAreNoPrefixes : Type 0
TextsAreNoPrefixes = (first other : PlainNetlist) → IsNetlist first → IsNetlist other → (rest : List ℕ) → text_of first ++ rest ≡ text_of other
    → (first ≡ other) × (rest ≡ [])
