-- A line that is read is the line of what it says.
use Rattle.std.proofs.Common.{◌≡◌, ℕ, cond, Bool, true, false, List, [], ◌∷◌, ◌++◌, codes, decimal, Option, Some, None, refl, sym, ap, ◌∙◌}
use Rattle.std.specs.Prelude.{option_map, option_and_then, unwrap_or}
use Rattle.std.specs.Str.{bytes_eq}
use Rattle.pulse_ids.specs.Ids.{WireId, numbered}
use Rattle.cell_netlist.specs.declared.kinds.Version.TheVariants.{One, Two}
use Rattle.cell_netlist.specs.declared.lines.Rail.{Rail}
use Rattle.cell_netlist.specs.declared.lines.StateLine.{StateLine}
use Rattle.cell_netlist.specs.declared.lines.Cell.{Cell}
use Rattle.cell_netlist.specs.declared.lines.Cell.TheVariants.{La, Fa, Split, Droc}
use Rattle.cell_netlist.specs.Text.{sign_word, role_word, bit_word, wire_word, output_word, version_word, rail_words, cell_words, state_words, name_words}
use Rattle.word_scan.specs.Words.{parted}
use Rattle.word_scan.specs.Decimals.{plain_decimal_of}
use Rattle.netlist_reader.specs.declared.statements.Statement.{Statement}
use Rattle.netlist_reader.specs.declared.statements.Statement.TheVariants.{Version, Ports, Input, OneCell, Output, State, InputName, OutputName, End}
use Rattle.netlist_reader.specs.Words.{after_space, name_in}
use Rattle.netlist_reader.specs.Statements.{ports_in, rail_in, state_in, named_in, three_in, droc_in, cell_in, statement_by, statement_in}
use Rattle.netlist_reader.proofs.FoundWords.{some_same, same_bytes, word_found, meaning_found, number_found, sign_found, role_found, bit_found, wire_found, output_found}
use Rattle.netlist_reader.proofs.WrittenLines.{spaced}

-- the words of what a line says
abbrev pub words_by : List ℕ → Statement → List (List ℕ)
words_by line (Version version) = codes "xsfq" ∷ version_word version ∷ []
words_by line (Ports inputs outputs) = codes "ports" ∷ decimal inputs ∷ decimal outputs ∷ []
words_by line (Input rail) = rail_words (codes "input") rail
words_by line (OneCell cell) = cell_words cell
words_by line (Output rail) = rail_words (codes "output") rail
words_by line (State state) = state_words state
words_by line (InputName port) = name_words (codes "iname") (port, name_in line)
words_by line (OutputName port) = name_words (codes "oname") (port, name_in line)
words_by line End = codes "end" ∷ []

joined : (w v r s : List ℕ) → w ≡ v → r ≡ s → w ++ 32 ∷ r ≡ v ++ 32 ∷ s
joined w v r s e f = rw (e, f) refl

abbrev IsPorts : List ℕ → Statement → Type 0
IsPorts line statement = (inputs : ℕ) × (outputs : ℕ) × (statement ≡ Ports inputs outputs) × (line ≡ spaced (decimal inputs ∷ decimal outputs ∷ []))

ports_found : (line : List ℕ) (statement : Statement) → ports_in line ≡ Some statement → IsPorts line statement
ports_found line statement h =
    let a = word_found line _ statement h in
    let i = meaning_found (plain_decimal_of a.word) _ statement a.said in
    let o = meaning_found (plain_decimal_of a.rest) _ statement i.2 in
    let same : Ports i.0 o.0 ≡ statement = cc in
    (i.0, o.0, sym same, a.is ∙ joined a.word (decimal i.0) a.rest (decimal o.0) (number_found a.word i.0 i.1) (number_found a.rest o.0 o.1))

rail_found : (line : List ℕ) (rail : Rail) → rail_in line ≡ Some rail → line ≡ spaced (decimal rail.port ∷ sign_word rail.sign ∷ wire_word rail.wire ∷ [])
rail_found line rail h =
    let a = word_found line _ rail h in
    let b = word_found a.rest _ rail a.said in
    let p = meaning_found (plain_decimal_of a.word) _ rail b.said in
    let s = meaning_found _ _ rail p.2 in
    let w = meaning_found _ _ rail s.2 in
    let made : Rail = record { port = p.0; sign = s.0; wire = w.0 } in
    let same : made ≡ rail = cc in
    a.is ∙ joined a.word (decimal p.0) a.rest _ (number_found a.word p.0 p.1)
    (b.is ∙ joined b.word (sign_word s.0) b.rest (wire_word w.0) (sign_found b.word s.0 s.1) (wire_found b.rest w.0 w.1))
    ∙ ap (λ (r : Rail). spaced (decimal r.port ∷ sign_word r.sign ∷ wire_word r.wire ∷ [])) same

state_found : (line : List ℕ) (state : StateLine) → state_in line ≡ Some state → line ≡ spaced (decimal state.latch ∷ decimal state.cell.number ∷ [])
state_found line state h =
    let a = word_found line _ state h in
    let l = meaning_found (plain_decimal_of a.word) _ state a.said in
    let c = meaning_found (plain_decimal_of a.rest) _ state l.2 in
    let made : StateLine = record { latch = l.0; cell = numbered c.0 } in
    let same : made ≡ state = some_same made state c.2 in
    a.is ∙ joined a.word (decimal l.0) a.rest (decimal c.0) (number_found a.word l.0 l.1) (number_found a.rest c.0 c.1)
    ∙ ap (λ (s : StateLine). spaced (decimal s.latch ∷ decimal s.cell.number ∷ [])) same

three_found : (line : List ℕ) (wires : WireId × WireId × WireId) → three_in line ≡ Some wires → line ≡ spaced (wire_word wires.0 ∷ wire_word wires.1 ∷ wire_word wires.2 ∷ [])
three_found line wires h =
    let a = word_found line _ wires h in
    let b = word_found a.rest _ wires a.said in
    let x = meaning_found _ _ wires b.said in
    let y = meaning_found _ _ wires x.2 in
    let z = meaning_found _ _ wires y.2 in
    let made : WireId × WireId × WireId = (x.0, y.0, z.0) in
    let same : made ≡ wires = cc in
    a.is ∙ joined a.word (wire_word x.0) a.rest _ (wire_found a.word x.0 x.1)
    (b.is ∙ joined b.word (wire_word y.0) b.rest (wire_word z.0) (wire_found b.word y.0 y.1) (wire_found b.rest z.0 z.1))
    ∙ ap (λ (w : WireId × WireId × WireId). spaced (wire_word w.0 ∷ wire_word w.1 ∷ wire_word w.2 ∷ [])) same

droc_found : (line : List ℕ) (cell : Cell) → droc_in line ≡ Some cell → codes "droc" ++ 32 ∷ line ≡ spaced (cell_words cell)
droc_found line cell h =
    let a = word_found line _ cell h in
    let b = word_found a.rest _ cell a.said in
    let c = word_found b.rest _ cell b.said in
    let d = word_found c.rest _ cell c.said in
    let r = meaning_found _ _ cell d.said in
    let p = meaning_found _ _ cell r.2 in
    let f = meaning_found _ _ cell p.2 in
    let q = meaning_found _ _ cell f.2 in
    let n = meaning_found _ _ cell q.2 in
    let made : Cell = Droc r.0 p.0 f.0 q.0 n.0 in
    let same : made ≡ cell = some_same made cell n.2 in
    ap (λ (l : List ℕ). codes "droc" ++ 32 ∷ l)
    (a.is ∙ joined a.word (role_word r.0) a.rest _ (role_found a.word r.0 r.1)
    (b.is ∙ joined b.word (bit_word p.0) b.rest _ (bit_found b.word p.0 p.1)
    (c.is ∙ joined c.word (wire_word f.0) c.rest _ (wire_found c.word f.0 f.1)
    (d.is ∙ joined d.word (output_word q.0) d.rest (output_word n.0) (output_found d.word q.0 q.1) (output_found d.rest n.0 n.1)))))
    ∙ ap (λ (c : Cell). spaced (cell_words c)) same

-- a cell of three wires
cell_of_three : (word line : List ℕ) (made : WireId × WireId × WireId → Cell) (cell : Cell) (wires : Option (WireId × WireId × WireId)) → three_in line ≡ wires
    → ((w : WireId × WireId × WireId) → spaced (cell_words (made w)) ≡ word ++ 32 ∷ spaced (wire_word w.0 ∷ wire_word w.1 ∷ wire_word w.2 ∷ []))
    → option_map made wires ≡ Some cell → word ++ 32 ∷ line ≡ spaced (cell_words cell)
cell_of_three word line made cell None e text h = absurd cc
cell_of_three word line made cell (Some wires) e text h =
    let same : made wires ≡ cell = cc in
    ap (λ (l : List ℕ). word ++ 32 ∷ l) (three_found line wires e) ∙ sym (text wires) ∙ ap (λ (c : Cell). spaced (cell_words c)) same

cell_by : (word rest : List ℕ) (cell : Cell) (l f s d : Bool) → bytes_eq word (codes "la") ≡ l → bytes_eq word (codes "fa") ≡ f → bytes_eq word (codes "split") ≡ s → bytes_eq word (codes "droc") ≡ d
    → cond l (option_map (λ wires. La wires.0 wires.1 wires.2) (three_in rest)) (cond f (option_map (λ wires. Fa wires.0 wires.1 wires.2) (three_in rest))
    (cond s (option_map (λ wires. Split wires.0 wires.1 wires.2) (three_in rest)) (cond d (droc_in rest) None))) ≡ Some cell
    → word ++ 32 ∷ rest ≡ spaced (cell_words cell)
cell_by word rest cell true f s d el ef es ed h =
    ap (λ (w : List ℕ). w ++ 32 ∷ rest) (same_bytes word (codes "la") el) ∙ cell_of_three (codes "la") rest (λ wires. La wires.0 wires.1 wires.2) cell (three_in rest) refl (λ w. refl) h
cell_by word rest cell false true s d el ef es ed h =
    ap (λ (w : List ℕ). w ++ 32 ∷ rest) (same_bytes word (codes "fa") ef) ∙ cell_of_three (codes "fa") rest (λ wires. Fa wires.0 wires.1 wires.2) cell (three_in rest) refl (λ w. refl) h
cell_by word rest cell false false true d el ef es ed h =
    ap (λ (w : List ℕ). w ++ 32 ∷ rest) (same_bytes word (codes "split") es) ∙ cell_of_three (codes "split") rest (λ wires. Split wires.0 wires.1 wires.2) cell (three_in rest) refl (λ w. refl) h
cell_by word rest cell false false false true el ef es ed h = ap (λ (w : List ℕ). w ++ 32 ∷ rest) (same_bytes word (codes "droc") ed) ∙ droc_found rest cell h
cell_by word rest cell false false false false el ef es ed h = absurd cc

cell_found : (word rest : List ℕ) (cell : Cell) → cell_in word rest ≡ Some cell → word ++ 32 ∷ rest ≡ spaced (cell_words cell)
cell_found word rest cell h = cell_by word rest cell (bytes_eq word (codes "la")) (bytes_eq word (codes "fa")) (bytes_eq word (codes "split")) (bytes_eq word (codes "droc")) refl refl refl refl h

-- a named port, and its name
not_empty : (empty : Bool) (port : Option ℕ) (n : ℕ) → cond empty None port ≡ Some n → port ≡ Some n
not_empty true port n h = absurd cc
not_empty false port n h = h

rest_is : (line word rest : List ℕ) → parted 32 line ≡ Some (word, rest) → after_space line ≡ rest
rest_is line word rest e = ap (λ (o : Option (List ℕ × List ℕ)). unwrap_or (option_map (λ (parts : List ℕ × List ℕ). parts.1) o) []) e

named_found : (line : List ℕ) (port : ℕ) → named_in line ≡ Some port → line ≡ spaced (decimal port ∷ after_space line ∷ [])
named_found line port h =
    let a = word_found line _ port h in
    let number = not_empty (bytes_eq a.rest []) (plain_decimal_of a.word) port a.said in
    a.is ∙ joined a.word (decimal port) a.rest (after_space line) (number_found a.word port number) (sym (rest_is line a.word a.rest a.parts))

-- what a first word and the rest say, where the line is these
module _ (line word rest : List ℕ) (is : line ≡ word ++ 32 ∷ rest) (parts : parted 32 line ≡ Some (word, rest)) where
  rest_named : name_in line ≡ after_space rest
  rest_named = ap after_space (rest_is line word rest parts)

  headed : (first : List ℕ) → bytes_eq word first ≡ true → line ≡ first ++ 32 ∷ rest
  headed first e = is ∙ ap (λ (w : List ℕ). w ++ 32 ∷ rest) (same_bytes word first e)

  ports_line : (statement : Statement) → IsPorts rest statement → bytes_eq word (codes "ports") ≡ true → line ≡ spaced (words_by line statement)
  ports_line statement p e = headed (codes "ports") e ∙ ap (λ (l : List ℕ). codes "ports" ++ 32 ∷ l) p.3 ∙ sym (ap (λ (s : Statement). spaced (words_by line s)) p.2)

  input_line : (rail : Option Rail) (statement : Statement) → rail_in rest ≡ rail → option_map Input rail ≡ Some statement → bytes_eq word (codes "input") ≡ true
      → line ≡ spaced (words_by line statement)
  input_line None statement e h w = absurd cc
  input_line (Some rail) statement e h w =
      let same : Input rail ≡ statement = cc in
      headed (codes "input") w ∙ ap (λ (l : List ℕ). codes "input" ++ 32 ∷ l) (rail_found rest rail e) ∙ ap (λ (s : Statement). spaced (words_by line s)) same

  output_line : (rail : Option Rail) (statement : Statement) → rail_in rest ≡ rail → option_map Output rail ≡ Some statement → bytes_eq word (codes "output") ≡ true
      → line ≡ spaced (words_by line statement)
  output_line None statement e h w = absurd cc
  output_line (Some rail) statement e h w =
      let same : Output rail ≡ statement = cc in
      headed (codes "output") w ∙ ap (λ (l : List ℕ). codes "output" ++ 32 ∷ l) (rail_found rest rail e) ∙ ap (λ (s : Statement). spaced (words_by line s)) same

  state_line : (state : Option StateLine) (statement : Statement) → state_in rest ≡ state → option_map State state ≡ Some statement → bytes_eq word (codes "state") ≡ true
      → line ≡ spaced (words_by line statement)
  state_line None statement e h w = absurd cc
  state_line (Some state) statement e h w =
      let same : State state ≡ statement = cc in
      headed (codes "state") w ∙ ap (λ (l : List ℕ). codes "state" ++ 32 ∷ l) (state_found rest state e) ∙ ap (λ (s : Statement). spaced (words_by line s)) same

  input_name_line : (port : Option ℕ) (statement : Statement) → named_in rest ≡ port → option_map InputName port ≡ Some statement → bytes_eq word (codes "iname") ≡ true
      → line ≡ spaced (words_by line statement)
  input_name_line None statement e h w = absurd cc
  input_name_line (Some port) statement e h w =
      let same : InputName port ≡ statement = cc in
      headed (codes "iname") w ∙ ap (λ (l : List ℕ). codes "iname" ++ 32 ∷ l) (named_found rest port e)
      ∙ ap (λ (name : List ℕ). spaced (name_words (codes "iname") (port, name))) (sym rest_named) ∙ ap (λ (s : Statement). spaced (words_by line s)) same

  output_name_line : (port : Option ℕ) (statement : Statement) → named_in rest ≡ port → option_map OutputName port ≡ Some statement → bytes_eq word (codes "oname") ≡ true
      → line ≡ spaced (words_by line statement)
  output_name_line None statement e h w = absurd cc
  output_name_line (Some port) statement e h w =
      let same : OutputName port ≡ statement = cc in
      headed (codes "oname") w ∙ ap (λ (l : List ℕ). codes "oname" ++ 32 ∷ l) (named_found rest port e)
      ∙ ap (λ (name : List ℕ). spaced (name_words (codes "oname") (port, name))) (sym rest_named) ∙ ap (λ (s : Statement). spaced (words_by line s)) same

  cell_line : (cell : Option Cell) (statement : Statement) → cell_in word rest ≡ cell → option_map OneCell cell ≡ Some statement → line ≡ spaced (words_by line statement)
  cell_line None statement e h = absurd cc
  cell_line (Some cell) statement e h = let same : OneCell cell ≡ statement = cc in is ∙ cell_found word rest cell e ∙ ap (λ (s : Statement). spaced (words_by line s)) same

  parts_by : (statement : Statement) (p i o s n m : Bool) → bytes_eq word (codes "ports") ≡ p → bytes_eq word (codes "input") ≡ i → bytes_eq word (codes "output") ≡ o
      → bytes_eq word (codes "state") ≡ s → bytes_eq word (codes "iname") ≡ n
      → bytes_eq word (codes "oname") ≡ m
      → cond p (ports_in rest) (cond i (option_map Input (rail_in rest))
      (cond o (option_map Output (rail_in rest)) (cond s (option_map State (state_in rest))
      (cond n (option_map InputName (named_in rest)) (cond m (option_map OutputName (named_in rest))
      (option_map OneCell (cell_in word rest))))))) ≡ Some statement
      → line ≡ spaced (words_by line statement)
  parts_by statement true i o s n m ep ei eo es en em h = ports_line statement (ports_found rest statement h) ep
  parts_by statement false true o s n m ep ei eo es en em h = input_line (rail_in rest) statement refl h ei
  parts_by statement false false true s n m ep ei eo es en em h = output_line (rail_in rest) statement refl h eo
  parts_by statement false false false true n m ep ei eo es en em h = state_line (state_in rest) statement refl h es
  parts_by statement false false false false true m ep ei eo es en em h = input_name_line (named_in rest) statement refl h en
  parts_by statement false false false false false true ep ei eo es en em h = output_name_line (named_in rest) statement refl h em
  parts_by statement false false false false false false ep ei eo es en em h = cell_line (cell_in word rest) statement refl h

  parts_found : (statement : Statement) → statement_by word rest ≡ Some statement → line ≡ spaced (words_by line statement)
  parts_found statement h =
      parts_by statement (bytes_eq word (codes "ports")) (bytes_eq word (codes "input")) (bytes_eq word (codes "output")) (bytes_eq word (codes "state"))
      (bytes_eq word (codes "iname"))
      (bytes_eq word (codes "oname")) refl refl refl refl refl refl h

line_by : (line : List ℕ) (statement : Statement) (one two end : Bool) → bytes_eq line (codes "xsfq 1") ≡ one → bytes_eq line (codes "xsfq 2") ≡ two → bytes_eq line (codes "end") ≡ end
    → cond one (Some (Version One)) (cond two (Some (Version Two)) (cond end (Some End) (option_and_then (λ parts. statement_by parts.0 parts.1) (parted 32 line)))) ≡ Some statement
    → line ≡ spaced (words_by line statement)
line_by line statement true two end d e f h = let same : Version One ≡ statement = cc in same_bytes line (codes "xsfq 1") d ∙ ap (λ (s : Statement). spaced (words_by line s)) same
line_by line statement false true end d e f h = let same : Version Two ≡ statement = cc in same_bytes line (codes "xsfq 2") e ∙ ap (λ (s : Statement). spaced (words_by line s)) same
line_by line statement false false true d e f h = let same : End ≡ statement = cc in same_bytes line (codes "end") f ∙ ap (λ (s : Statement). spaced (words_by line s)) same
line_by line statement false false false d e f h = let a = word_found line statement_by statement h in parts_found line a.word a.rest a.is a.parts statement a.said

pub line_found : (line : List ℕ) (statement : Statement) → statement_in line ≡ Some statement → line ≡ spaced (words_by line statement)
line_found line statement h = line_by line statement (bytes_eq line (codes "xsfq 1")) (bytes_eq line (codes "xsfq 2")) (bytes_eq line (codes "end")) refl refl refl h
