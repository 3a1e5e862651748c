-- No text of a netlist is a prefix of another's.
use Rattle.std.proofs.Common.{◌≡◌, ◌≢◌, ◌<◌, ◌≤◌, ◌+◌, ◌^◌, ℕ, ◌==◌, List, [], ◌∷◌, ◌++◌, map, drop, codes, decimal, append-nil, append_assoc, ap, sym, ◌∙◌, subst, inl, inr, arith, refl}
use Rattle.std.proofs.Common.{if◌then◌else◌}
use Rattle.std.specs.List.{flat_map}
use Rattle.std.proofs.lemmas.Grind.{flat_map-append}
use Rattle.cell_netlist.specs.declared.lines.Rail.{Rail}
use Rattle.cell_netlist.specs.declared.lines.Cell.{Cell}
use Rattle.cell_netlist.specs.declared.lines.Cell.TheVariants.{La, Fa, Split, Droc}
use Rattle.pulse_ids.specs.Lists.{IsIn}
use Rattle.cell_netlist.specs.Names.{AreNamesFrom}
use Rattle.cell_netlist.specs.Netlists.{PlainNetlist, wire_of, outs, reads, driven, read, IsNetlist}
use Rattle.cell_netlist.specs.Text.{line_of, version_word, rail_words, cell_words, state_words, name_words, text_of}
use Rattle.pulse_ids.proofs.CallerLemmas.{IsIn-left, IsIn-right, IsIn-map, IsIn-flat_map}
use Rattle.cell_netlist.proofs.WireBounds.{wire_below}
use Rattle.pulse_ids.proofs.CallerLemmas.{All-IsIn}
use Rattle.cell_netlist.proofs.LineTexts.{without, field, number, same_version, version-word, rail_code, cell_code, state_code, name_code, RailFits, CellFits, NameFits}
use Rattle.cell_netlist.proofs.StateLemmas.{StateFits, states_fit}

-- which section a line belongs to, by its first bytes: input rails, cells, output rails, state lines, input names,
-- output names, the end
abbrev rank_by : ℕ → ℕ → ℕ → ℕ
rank_by a b c = if a == 105 then (if c == 112 then 0 else 4) else if a == 111 then (if b == 117 then 2 else 5)
    else if a == 115 then (if b == 116 then 3 else 1) else if a == 101 then 6 else 1

abbrev rank : List ℕ → ℕ
rank [] = 0
rank (a ∷ []) = 0
rank (a ∷ b ∷ []) = 0
rank (a ∷ b ∷ c ∷ rest) = rank_by a b c

cell_rank : (cell : Cell) (xs : List ℕ) → rank (line_of (cell_words cell) ++ xs) ≡ 1
cell_rank (La a b out) xs = refl
cell_rank (Fa a b out) xs = refl
cell_rank (Split from left right) xs = refl
cell_rank (Droc role preload feed q n) xs = refl

module _ {X : Type 0} (line : X → List ℕ) (Fits : X → Type 0) (k : ℕ) (ranked : (x : X) (xs : List ℕ) → rank (line x ++ xs) ≡ k)
    (code : (x y : X) (xs ys : List ℕ) → Fits x → Fits y → line x ++ xs ≡ line y ++ ys → (x ≡ y) × (xs ≡ ys)) where
  -- a section and what follows it rank no lower than the section, or what follows
  section_rank : (items : List X) (xs : List ℕ) (low : ℕ) → low ≤ k → low ≤ rank xs → low ≤ rank (flat_map line items ++ xs)
  section_rank [] xs low le after = after
  section_rank (x ∷ items) xs low le after =
      let e = ranked x (flat_map line items ++ xs) in
      subst (λ w. low ≤ rank w) (sym (append_assoc (line x) (flat_map line items) xs)) (subst (λ n. low ≤ n) (sym e) le)

  -- a section tells its items and where it ends
  section_code : (items others : List X) → ((x : X) → IsIn x items → Fits x) → ((x : X) → IsIn x others → Fits x) → (xs ys : List ℕ) → k < rank xs → k < rank ys
      → flat_map line items ++ xs ≡ flat_map line others ++ ys → (items ≡ others) × (xs ≡ ys)
  section_code [] [] f g xs ys p q e = (refl, e)
  section_code [] (y ∷ others) f g xs ys p q e =
      let r = ranked y (flat_map line others ++ ys) in
      let same : xs ≡ line y ++ (flat_map line others ++ ys) = e ∙ append_assoc (line y) (flat_map line others) ys in
      let p' : k < rank (line y ++ (flat_map line others ++ ys)) = subst (λ w. k < rank w) same p in
      let p'' : k < k = subst (λ n. k < n) r p' in
      absurd (omega arith)
  section_code (x ∷ items) [] f g xs ys p q e =
      let r = ranked x (flat_map line items ++ xs) in
      let same : ys ≡ line x ++ (flat_map line items ++ xs) = sym e ∙ append_assoc (line x) (flat_map line items) xs in
      let q' : k < rank (line x ++ (flat_map line items ++ xs)) = subst (λ w. k < rank w) same q in
      let q'' : k < k = subst (λ n. k < n) r q' in
      absurd (omega arith)
  section_code (x ∷ items) (y ∷ others) f g xs ys p q e =
      let first = code x y (flat_map line items ++ xs) (flat_map line others ++ ys) (f x (inl refl)) (g y (inl refl))
      (sym (append_assoc (line x) (flat_map line items) xs) ∙ e ∙ append_assoc (line y) (flat_map line others) ys) in
      let rest = section_code items others (λ z h. f z (inr h)) (λ z h. g z (inr h)) xs ys p q first.1 in
      (rw (first.0, rest.0) refl, rest.1)

flat_map-map : {X Y Z : Type 0} (f : Y → List Z) (g : X → Y) (xs : List X) → flat_map f (map g xs) ≡ flat_map (λ x. f (g x)) xs
flat_map-map f g [] = refl
flat_map-map f g (x ∷ xs) = ap (λ zs. f (g x) ++ zs) (flat_map-map f g xs)

-- the parts of a text, from the sections on
abbrev pub from_end : List ℕ → List ℕ
from_end rest = line_of (codes "end" ∷ []) ++ rest

abbrev pub from_output_names : PlainNetlist → List ℕ → List ℕ
from_output_names net rest = flat_map (λ x. line_of (name_words (codes "oname") x)) net.output_names ++ from_end rest

abbrev pub from_input_names : PlainNetlist → List ℕ → List ℕ
from_input_names net rest = flat_map (λ x. line_of (name_words (codes "iname") x)) net.input_names ++ from_output_names net rest

abbrev pub from_states : PlainNetlist → List ℕ → List ℕ
from_states net rest = flat_map (λ x. line_of (state_words x)) net.states ++ from_input_names net rest

abbrev pub from_output_rails : PlainNetlist → List ℕ → List ℕ
from_output_rails net rest = flat_map (λ x. line_of (rail_words (codes "output") x)) net.output_rails ++ from_states net rest

abbrev pub from_cells : PlainNetlist → List ℕ → List ℕ
from_cells net rest = flat_map (λ x. line_of (cell_words x)) net.cells ++ from_output_rails net rest

abbrev pub from_input_rails : PlainNetlist → List ℕ → List ℕ
from_input_rails net rest = flat_map (λ x. line_of (rail_words (codes "input") x)) net.input_rails ++ from_cells net rest

abbrev pub ports_line : PlainNetlist → List ℕ
ports_line net = line_of (codes "ports" ∷ decimal net.inputs ∷ decimal net.outputs ∷ [])

spread : {X : Type 0} (f : X → List ℕ) (p q last : X) (b c d s e g : List X) (rest : List ℕ)
    → flat_map f ((((((((p ∷ q ∷ []) ++ b) ++ c) ++ d) ++ s) ++ e) ++ g) ++ last ∷ []) ++ rest
    ≡ f p ++ (f q ++ (flat_map f b ++ (flat_map f c ++ (flat_map f d ++ (flat_map f s ++ (flat_map f e ++ (flat_map f g ++ (f last ++ rest))))))))
spread f p q last b c d s e g rest = simp (flat_map-append, append_assoc, append-nil)

-- a netlist's text and more bytes, line by line and section by section
pub text_spread : (net : PlainNetlist) (rest : List ℕ) → text_of net ++ rest ≡ line_of (codes "xsfq" ∷ version_word net.version ∷ []) ++ (ports_line net ++ from_input_rails net rest)
text_spread net rest =
    spread line_of (codes "xsfq" ∷ version_word net.version ∷ []) (codes "ports" ∷ decimal net.inputs ∷ decimal net.outputs ∷ []) (codes "end" ∷ [])
    (map (rail_words (codes "input")) net.input_rails)
    (map cell_words net.cells)
    (map (rail_words (codes "output")) net.output_rails)
    (map state_words net.states)
    (map (name_words (codes "iname")) net.input_names)
    (map (name_words (codes "oname")) net.output_names)
    rest
    ∙ rw (
      flat_map-map line_of (rail_words (codes "input")) net.input_rails,
      flat_map-map line_of cell_words net.cells,
      flat_map-map line_of (rail_words (codes "output")) net.output_rails,
      flat_map-map line_of state_words net.states,
      flat_map-map line_of (name_words (codes "iname")) net.input_names,
      flat_map-map line_of (name_words (codes "oname")) net.output_names,
    ) refl

name-fits : (low ports : ℕ) (names : List (ℕ × List ℕ)) → AreNamesFrom low ports names → ports < 2 ^ 32 → (named : ℕ × List ℕ) → IsIn named names → NameFits named
name-fits low ports [] all lt named h = absurd h
name-fits low ports (first ∷ names) all lt named (inl e) =
    subst NameFits e (record { port = omega (arith, all.1); name = λ b h. All-IsIn (λ byte. byte ≢ 10) b first.1 all.2.no_line_feed h })
name-fits low ports (first ∷ names) all lt named (inr h) = name-fits (first.0 + 1) ports names all.3 lt named h

module _ (net : PlainNetlist) (shape : IsNetlist net) where
  wire_fits : (w : ℕ) → IsIn w (driven net ++ read net) → w < 2 ^ 32
  wire_fits w h = let below = wire_below w (driven net ++ read net) h in omega (arith, shape.wires)

  input_fits : (rail : Rail) → IsIn rail net.input_rails → RailFits rail
  input_fits rail h = record {
    port = shape.input_ports rail h;
    wire = wire_fits (wire_of rail) (IsIn-left _ (driven net) (read net) (IsIn-left _ (map wire_of net.input_rails) (flat_map outs net.cells) (IsIn-map wire_of rail net.input_rails h)));
  }

  output_fits : (rail : Rail) → IsIn rail net.output_rails → RailFits rail
  output_fits rail h = record {
    port = shape.output_ports rail h;
    wire = wire_fits (wire_of rail) (IsIn-right _ (driven net) (read net) (IsIn-right _ (flat_map reads net.cells) (map wire_of net.output_rails) (IsIn-map wire_of rail net.output_rails h)));
  }

  cell_fits : (cell : Cell) → IsIn cell net.cells → CellFits cell
  cell_fits cell h = record {
    out = λ w o. wire_fits w (IsIn-left w (driven net) (read net) (IsIn-right w (map wire_of net.input_rails) (flat_map outs net.cells) (IsIn-flat_map outs w cell net.cells h o)));
    ins = λ w i. wire_fits w (IsIn-right w (driven net) (read net) (IsIn-left w (flat_map reads net.cells) (map wire_of net.output_rails) (IsIn-flat_map reads w cell net.cells h i)));
  }

same_netlist : (m n : PlainNetlist) → m.inputs ≡ n.inputs → m.outputs ≡ n.outputs → m.input_rails ≡ n.input_rails → m.cells ≡ n.cells
    → m.output_rails ≡ n.output_rails → m.input_names ≡ n.input_names → m.output_names ≡ n.output_names → m.version ≡ n.version → m.states ≡ n.states → m ≡ n
same_netlist m n e1 e2 e3 e4 e5 e6 e7 e8 e9 =
    ap (λ x. record m { inputs = x }) e1
    ∙ ap (λ x. record m { inputs = n.inputs; outputs = x }) e2
    ∙ ap (λ x. record m { inputs = n.inputs; outputs = n.outputs; input_rails = x }) e3
    ∙ ap (λ x. record n { cells = x; output_rails = m.output_rails; input_names = m.input_names; output_names = m.output_names; version = m.version; states = m.states }) e4
    ∙ ap (λ x. record n { output_rails = x; input_names = m.input_names; output_names = m.output_names; version = m.version; states = m.states }) e5
    ∙ ap (λ x. record n { input_names = x; output_names = m.output_names; version = m.version; states = m.states }) e6
    ∙ ap (λ x. record n { output_names = x; version = m.version; states = m.states }) e7
    ∙ ap (λ x. record n { version = x; states = m.states }) e8
    ∙ ap (λ x. record n { states = x }) e9

-- where each section's tail ranks
module _ (net : PlainNetlist) (rest : List ℕ) where
  after_output_names : 6 ≤ rank (from_end rest)
  after_output_names = omega arith

  output_names_rank : (low : ℕ) → low ≤ 5 → low ≤ rank (from_output_names net rest)
  output_names_rank low le =
      section_rank (λ x. line_of (name_words (codes "oname") x)) NameFits 5 (λ x xs. refl) (name_code (codes "oname") (without 32 (codes "oname") refl))
      net.output_names (from_end rest) low le (omega (arith, after_output_names))

  input_names_rank : (low : ℕ) → low ≤ 4 → low ≤ rank (from_input_names net rest)
  input_names_rank low le =
      section_rank (λ x. line_of (name_words (codes "iname") x)) NameFits 4 (λ x xs. refl) (name_code (codes "iname") (without 32 (codes "iname") refl))
      net.input_names (from_output_names net rest) low le (output_names_rank low (omega arith))

  states_rank : (low : ℕ) → low ≤ 3 → low ≤ rank (from_states net rest)
  states_rank low le =
      section_rank (λ x. line_of (state_words x)) StateFits 3 (λ x xs. refl) state_code
      net.states (from_input_names net rest) low le (input_names_rank low (omega arith))

  output_rails_rank : (low : ℕ) → low ≤ 2 → low ≤ rank (from_output_rails net rest)
  output_rails_rank low le =
      section_rank (λ x. line_of (rail_words (codes "output") x)) RailFits 2 (λ x xs. refl) (rail_code (codes "output") (without 32 (codes "output") refl))
      net.output_rails (from_states net rest) low le (states_rank low (omega arith))

  cells_rank : (low : ℕ) → low ≤ 1 → low ≤ rank (from_cells net rest)
  cells_rank low le =
      section_rank (λ x. line_of (cell_words x)) CellFits 1 cell_rank cell_code
      net.cells (from_output_rails net rest) low le (output_rails_rank low (omega arith))

pub texts_are_no_prefixes : (m n : PlainNetlist) → IsNetlist m → IsNetlist n → (rest : List ℕ) → text_of m ++ rest ≡ text_of n → (m ≡ n) × (rest ≡ [])
texts_are_no_prefixes m n f g rest e =
    let name = field 32 (codes "xsfq") (codes "xsfq") _ _ (ports_line m ++ from_input_rails m rest) (ports_line n ++ from_input_rails n [])
    (without 32 (codes "xsfq") refl) (without 32 (codes "xsfq") refl) (sym (text_spread m rest) ∙ e ∙ sym (append-nil (text_of n)) ∙ text_spread n []) in
    let version = field 10 (version_word m.version) (version_word n.version) [] [] (ports_line m ++ from_input_rails m rest) (ports_line n ++ from_input_rails n [])
    (version-word 10 m.version (omega arith)) (version-word 10 n.version (omega arith)) name.1 in
    let e1 = field 32 (codes "ports") (codes "ports") _ _ (from_input_rails m rest) (from_input_rails n []) (without 32 (codes "ports") refl) (without 32 (codes "ports") refl) version.1 in
    let inputs = number 32 (omega arith) m.inputs n.inputs f.inputs g.inputs _ _ (from_input_rails m rest) (from_input_rails n []) e1.1 in
    let outputs = number 10 (omega arith) m.outputs n.outputs f.outputs g.outputs [] [] (from_input_rails m rest) (from_input_rails n []) inputs.1 in
    let input_rails =
    section_code (λ x. line_of (rail_words (codes "input") x)) RailFits 0 (λ x xs. refl) (rail_code (codes "input") (without 32 (codes "input") refl))
    m.input_rails n.input_rails (input_fits m f) (input_fits n g) (from_cells m rest) (from_cells n [])
    (cells_rank m rest 1 (omega arith)) (cells_rank n [] 1 (omega arith)) outputs.1 in
    let cells =
    section_code (λ x. line_of (cell_words x)) CellFits 1 cell_rank cell_code
    m.cells n.cells (cell_fits m f) (cell_fits n g) (from_output_rails m rest) (from_output_rails n [])
    (output_rails_rank m rest 2 (omega arith)) (output_rails_rank n [] 2 (omega arith)) input_rails.1 in
    let output_rails =
    section_code (λ x. line_of (rail_words (codes "output") x)) RailFits 2 (λ x xs. refl) (rail_code (codes "output") (without 32 (codes "output") refl))
    m.output_rails n.output_rails (output_fits m f) (output_fits n g) (from_states m rest) (from_states n [])
    (states_rank m rest 3 (omega arith)) (states_rank n [] 3 (omega arith)) cells.1 in
    let states =
    section_code (λ x. line_of (state_words x)) StateFits 3 (λ x xs. refl) state_code
    m.states n.states (states_fit m.version m.states f.states) (states_fit n.version n.states g.states) (from_input_names m rest) (from_input_names n [])
    (input_names_rank m rest 4 (omega arith)) (input_names_rank n [] 4 (omega arith)) output_rails.1 in
    let input_names =
    section_code (λ x. line_of (name_words (codes "iname") x)) NameFits 4 (λ x xs. refl) (name_code (codes "iname") (without 32 (codes "iname") refl))
    m.input_names n.input_names (name-fits 0 m.inputs m.input_names f.input_names f.inputs) (name-fits 0 n.inputs n.input_names g.input_names g.inputs)
    (from_output_names m rest) (from_output_names n [])
    (output_names_rank m rest 5 (omega arith)) (output_names_rank n [] 5 (omega arith)) states.1 in
    let output_names =
    section_code (λ x. line_of (name_words (codes "oname") x)) NameFits 5 (λ x xs. refl) (name_code (codes "oname") (without 32 (codes "oname") refl))
    m.output_names n.output_names (name-fits 0 m.outputs m.output_names f.output_names f.outputs) (name-fits 0 n.outputs n.output_names g.output_names g.outputs)
    (from_end rest) (from_end [])
    (after_output_names m rest) (after_output_names n []) input_names.1 in
    (same_netlist m n inputs.0 outputs.0 input_rails.0 cells.0 output_rails.0 input_names.0 output_names.0 (same_version m.version n.version version.0) states.0, ap (drop 4) output_names.1)
