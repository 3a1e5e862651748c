-- Where the machine of lines reads and drives the clock's net, their words name it.
use Rattle.std.proofs.Common.{◌≡◌, ℕ, Bool, true, false, ◌||◌, ◌==◌, cond, List, [], ◌∷◌, ◌++◌, map, refl, sym, ap, ◌∙◌}
use Rattle.std.specs.Option.{is_some}
use Rattle.std.specs.Str.{bytes_eq}
use Rattle.std.specs.List.{flat_map, list_any}
use Rattle.std.proofs.lemmas.List.Folds.{list_any-append}
use Rattle.numbered_names.specs.Names.{number_in}
use Rattle.source_machine.specs.declared.unset.Unset.{Unset}
use Rattle.source_machine.specs.Machines.{PlainLiteral, PlainLatch, PlainEquation, PlainMachine}
use Rattle.blif_reader.specs.Rows.{literals_of}
use Rattle.blif_reader.specs.Tellings.{input_words, output_words, equation_words, latch_words, ends_of, names_in, net_of, literal_told, latch_told, last_or, first_word, all_but_last, rows_under}
use Rattle.blif_reader.specs.Tellings.{cube_told, equation_told, equations_told, machine_told, nets_told}
use Rattle.blif_reader.specs.ToldVerdicts.{is_among, cares_of, literals_under, row_literals, last_name, latch_input, latch_output, is_read_in, is_made_in}
use Rattle.blif_reader.proofs.ClockNames.{Stands, stand_apart, firsts_have_numbers}

-- the uses of the nets that pass a test
abbrev pub reads_by : (ℕ → Bool) → PlainMachine → Bool
reads_by test machine =
    list_any (λ equation. list_any (λ cube. list_any (λ literal. test literal.net) cube) equation.cubes) machine.equations
    || (list_any (λ latch. test latch.next.net) machine.latches || list_any (λ literal. test literal.net) machine.outputs)

abbrev pub makes_by : (ℕ → Bool) → PlainMachine → Bool
makes_by test machine = list_any (λ equation. test equation.net) machine.equations || list_any (λ latch. test latch.out) machine.latches

-- a test that no net passes
pub none_passes : {A : Type 0} (xs : List A) → list_any (λ x. false) xs ≡ false
none_passes [] = refl
none_passes (x ∷ xs) = none_passes xs

any_same : {A : Type 0} (f g : A → Bool) (xs : List A) → ((x : A) → f x ≡ g x) → list_any f xs ≡ list_any g xs
any_same f g [] same = refl
any_same f g (x ∷ xs) same = ap (λ b. b || list_any f xs) (same x) ∙ ap (λ b. g x || b) (any_same f g xs same)

pub none_read : (machine : PlainMachine) → reads_by (λ net. false) machine ≡ false
none_read machine =
    ap (λ b. b || (list_any (λ (l : PlainLatch). false) machine.latches || list_any (λ (l : PlainLiteral). false) machine.outputs))
    (any_same (λ (e : PlainEquation). list_any (λ cube. list_any (λ (l : PlainLiteral). false) cube) e.cubes) (λ e. false) machine.equations
    (λ e. any_same (λ (cube : List PlainLiteral). list_any (λ (l : PlainLiteral). false) cube) (λ cube. false) e.cubes (λ cube. none_passes cube) ∙ none_passes e.cubes)
    ∙ none_passes machine.equations)
    ∙ ap (λ b. b || list_any (λ (l : PlainLiteral). false) machine.outputs) (none_passes machine.latches) ∙ none_passes machine.outputs

pub none_made : (machine : PlainMachine) → makes_by (λ net. false) machine ≡ false
none_made machine = ap (λ b. b || list_any (λ (l : PlainLatch). false) machine.latches) (none_passes machine.equations) ∙ none_passes machine.latches

both : (a b c d : Bool) → a ≡ b → c ≡ d → (a || c) ≡ (b || d)
both a b c d e f = ap (λ x. x || c) e ∙ ap (λ x. b || x) f

-- a test that the nets of the clock's name pass, and no others
module _ (nets : List (List ℕ)) (clock : List ℕ) (test : ℕ → Bool) (same : (name : List ℕ) → is_some (number_in nets name) ≡ true → test (net_of nets name) ≡ bytes_eq name clock) where
  pub nets_named : (names : List (List ℕ)) → Stands nets names → list_any test (map (net_of nets) names) ≡ is_among clock names
  nets_named [] h = refl
  nets_named (name ∷ names) h = both _ _ _ _ (same name h.0) (nets_named names h.1)

  literals_named : (names : List (List ℕ)) → Stands nets names → list_any (λ literal. test literal.net) (map (literal_told nets) names) ≡ is_among clock names
  literals_named [] h = refl
  literals_named (name ∷ names) h = both _ _ _ _ (same name h.0) (literals_named names h.1)

  latch_made : (unset : Unset) (words : List (List ℕ)) → Stands nets (ends_of words) → list_any (λ latch. test latch.out) (latch_told unset nets words) ≡ is_among clock (latch_output words)
  latch_made unset [] h = refl
  latch_made unset (input ∷ []) h = refl
  latch_made unset (input ∷ output ∷ words) h = both _ _ _ _ (same output h.1.0) refl

  latch_read : (unset : Unset) (words : List (List ℕ)) → Stands nets (ends_of words) → list_any (λ latch. test latch.next.net) (latch_told unset nets words) ≡ is_among clock (latch_input words)
  latch_read unset [] h = refl
  latch_read unset (input ∷ []) h = refl
  latch_read unset (input ∷ output ∷ words) h = both _ _ _ _ (same input h.0) refl

  -- what each line adds, and so what all add
  lines_named : {A : Type 0} (passes : A → Bool) (made : List (List ℕ) → List A) (named : List (List ℕ) → List (List ℕ))
      → ((line : List (List ℕ)) → Stands nets (names_in line) → list_any passes (made line) ≡ is_among clock (named line))
      → (lines : List (List (List ℕ))) → Stands nets (flat_map names_in lines) → list_any passes (flat_map made lines) ≡ is_among clock (flat_map named lines)
  lines_named passes made named each [] h = refl
  lines_named passes made named each (line ∷ lines) h =
      let parts = stand_apart nets (names_in line) (flat_map names_in lines) h in
      list_any-append passes (made line) (flat_map made lines) ∙ both _ _ _ _ (each line parts.0) (lines_named passes made named each lines parts.1)
      ∙ sym (list_any-append (λ other. bytes_eq other clock) (named line) (flat_map named lines))

  -- the names of a line by what they are
  outputs_stand : (line : List (List ℕ)) → Stands nets (names_in line) → Stands nets (output_words line) × Stands nets (equation_words line ++ ends_of (latch_words line))
  outputs_stand line h =
      let behind = (stand_apart nets (input_words line) (output_words line ++ (equation_words line ++ ends_of (latch_words line))) h).1 in
      stand_apart nets (output_words line) (equation_words line ++ ends_of (latch_words line)) behind

  equation_stands : (line : List (List ℕ)) → Stands nets (names_in line) → Stands nets (equation_words line) × Stands nets (ends_of (latch_words line))
  equation_stands line h = stand_apart nets (equation_words line) (ends_of (latch_words line)) (outputs_stand line h).1

  -- the words of lines of ports, of which each line's stand
  pub words_stand : (words : List (List ℕ) → List (List ℕ)) → ((line : List (List ℕ)) → Stands nets (names_in line) → Stands nets (words line))
      → (lines : List (List (List ℕ))) → Stands nets (flat_map names_in lines) → Stands nets (flat_map words lines)
  words_stand words each [] h = tt
  words_stand words each (line ∷ lines) h =
      let parts = stand_apart nets (names_in line) (flat_map names_in lines) h in
      joined_stand (words line) (flat_map words lines) (each line parts.0) (words_stand words each lines parts.1)
    where
      joined_stand : (xs ys : List (List ℕ)) → Stands nets xs → Stands nets ys → Stands nets (xs ++ ys)
      joined_stand [] ys f g = g
      joined_stand (x ∷ xs) ys f g = (f.0, joined_stand xs ys f.1 g)

  pub inputs_stand : (line : List (List ℕ)) → Stands nets (names_in line) → Stands nets (input_words line)
  inputs_stand line h = (stand_apart nets (input_words line) (output_words line ++ (equation_words line ++ ends_of (latch_words line))) h).0

  -- equations: the last name, and the columns
  last_net : (name : List ℕ) (names : List (List ℕ)) → last_or (net_of nets name) (map (net_of nets) names) ≡ net_of nets (last_or name names)
  last_net name [] = refl
  last_net name (next ∷ names) = last_net next names

  last_stands : (name : List ℕ) (names : List (List ℕ)) → Stands nets (name ∷ names) → is_some (number_in nets (last_or name names)) ≡ true
  last_stands name [] h = h.0
  last_stands name (next ∷ names) h = last_stands next names h.1

  columns_are : (name : List ℕ) (names : List (List ℕ)) → all_but_last (net_of nets name) (map (net_of nets) names) ≡ map (net_of nets) (all_but_last name names)
  columns_are name [] = refl
  columns_are name (next ∷ names) = ap (λ (l : List ℕ). net_of nets name ∷ l) (columns_are next names)

  columns_stand : (name : List ℕ) (names : List (List ℕ)) → Stands nets (name ∷ names) → Stands nets (all_but_last name names)
  columns_stand name [] h = tt
  columns_stand name (next ∷ names) h = (h.0, columns_stand next names h.1)

  mark_named : (zero one : Bool) (net : ℕ) (name : List ℕ) (more : List PlainLiteral) (names : List (List ℕ)) → test net ≡ bytes_eq name clock
      → list_any (λ literal. test literal.net) more ≡ is_among clock names
      → list_any (λ literal. test literal.net) (cond one (record { net = net; negated = false } ∷ more) (cond zero (record { net = net; negated = true } ∷ more) more))
      ≡ is_among clock (cond (zero || one) (name ∷ names) names)
  mark_named true true net name more names e f = both _ _ _ _ e f
  mark_named true false net name more names e f = both _ _ _ _ e f
  mark_named false true net name more names e f = both _ _ _ _ e f
  mark_named false false net name more names e f = f

  cube_named : (columns : List (List ℕ)) (marks : List ℕ) → Stands nets columns
      → list_any (λ literal. test literal.net) (literals_of (map (net_of nets) columns) marks) ≡ is_among clock (cares_of columns marks)
  cube_named [] marks h = refl
  cube_named (name ∷ names) [] h = refl
  cube_named (name ∷ names) (mark ∷ marks) h =
      mark_named (mark == 48) (mark == 49) (net_of nets name) name (literals_of (map (net_of nets) names) marks) (cares_of names marks) (same name h.0) (cube_named names marks h.1)

  rows_named : (columns : List (List ℕ)) (rows : List (List (List ℕ))) → Stands nets columns
      → list_any (λ cube. list_any (λ literal. test literal.net) cube) (map (cube_told (map (net_of nets) columns)) rows) ≡ is_among clock (flat_map (λ row. cares_of columns (first_word row)) rows)
  rows_named columns [] h = refl
  rows_named columns (row ∷ rows) h =
      both _ _ _ _ (cube_named columns (first_word row) h) (rows_named columns rows h)
      ∙ sym (list_any-append (λ other. bytes_eq other clock) (cares_of columns (first_word row)) (flat_map (λ row. cares_of columns (first_word row)) rows))

  or_none : (b : Bool) → (b || false) ≡ b
  or_none true = refl
  or_none false = refl

  equation_read : (words : List (List ℕ)) (rows : List (List (List ℕ))) → Stands nets words
      → list_any (λ equation. list_any (λ cube. list_any (λ literal. test literal.net) cube) equation.cubes) (equation_told nets words rows) ≡ is_among clock (literals_under words rows)
  equation_read [] rows h = refl
  equation_read (name ∷ names) rows h =
      or_none _ ∙ ap (λ (columns : List ℕ). list_any (λ cube. list_any (λ literal. test literal.net) cube) (map (cube_told columns) rows)) (columns_are name names)
      ∙ rows_named (all_but_last name names) rows (columns_stand name names h)

  equation_made : (words : List (List ℕ)) (rows : List (List (List ℕ))) → Stands nets words
      → list_any (λ equation. test equation.net) (equation_told nets words rows) ≡ is_among clock (last_name words)
  equation_made [] rows h = refl
  equation_made (name ∷ names) rows h = both _ _ _ _ (ap test (last_net name names) ∙ same (last_or name names) (last_stands name names h)) refl

  equations_read : (lines : List (List (List ℕ))) → Stands nets (flat_map names_in lines)
      → list_any (λ equation. list_any (λ cube. list_any (λ literal. test literal.net) cube) equation.cubes) (equations_told nets lines) ≡ is_among clock (row_literals lines)
  equations_read [] h = refl
  equations_read (line ∷ lines) h =
      let parts = stand_apart nets (names_in line) (flat_map names_in lines) h in
      list_any-append (λ equation. list_any (λ cube. list_any (λ literal. test literal.net) cube) equation.cubes) (equation_told nets (equation_words line) (rows_under lines))
      (equations_told nets lines)
      ∙ both _ _ _ _ (equation_read (equation_words line) (rows_under lines) (equation_stands line parts.0).0) (equations_read lines parts.1)
      ∙ sym (list_any-append (λ other. bytes_eq other clock) (literals_under (equation_words line) (rows_under lines)) (row_literals lines))

  equations_made : (lines : List (List (List ℕ))) → Stands nets (flat_map names_in lines)
      → list_any (λ equation. test equation.net) (equations_told nets lines) ≡ is_among clock (flat_map (λ line. last_name (equation_words line)) lines)
  equations_made [] h = refl
  equations_made (line ∷ lines) h =
      let parts = stand_apart nets (names_in line) (flat_map names_in lines) h in
      list_any-append (λ equation. test equation.net) (equation_told nets (equation_words line) (rows_under lines)) (equations_told nets lines)
      ∙ both _ _ _ _ (equation_made (equation_words line) (rows_under lines) (equation_stands line parts.0).0) (equations_made lines parts.1)
      ∙ sym (list_any-append (λ other. bytes_eq other clock) (last_name (equation_words line)) (flat_map (λ line. last_name (equation_words line)) lines))

-- the machine that lines tell
module _ (unset : Unset) (lines : List (List (List ℕ))) (clock : List ℕ) (test : ℕ → Bool)
    (same : (name : List ℕ) → is_some (number_in (nets_told lines) name) ≡ true → test (net_of (nets_told lines) name) ≡ bytes_eq name clock) where
  abbrev all : List (List ℕ)
  all = nets_told lines

  stand : Stands (nets_told lines) (flat_map names_in lines)
  stand = firsts_have_numbers (flat_map names_in lines)

  pub read_named : reads_by test (machine_told unset lines) ≡ is_read_in lines clock
  read_named =
      both _ _ _ _ (equations_read all clock test same lines stand) (both _ _ _ _
      (lines_named all clock test same (λ latch. test latch.next.net) (λ line. latch_told unset all (latch_words line)) (λ line. latch_input (latch_words line))
      (λ line h. latch_read all clock test same unset (latch_words line) (equation_stands all clock test same line h).1) lines stand)
      (literals_named all clock test same (flat_map output_words lines) (words_stand all clock test same output_words (λ line h. (outputs_stand all clock test same line h).0) lines stand)))

  pub made_named : makes_by test (machine_told unset lines) ≡ is_made_in lines clock
  made_named =
      both _ _ _ _ (equations_made all clock test same lines stand)
      (lines_named all clock test same (λ latch. test latch.out) (λ line. latch_told unset all (latch_words line)) (λ line. latch_output (latch_words line))
      (λ line h. latch_made all clock test same unset (latch_words line) (equation_stands all clock test same line h).1) lines stand)

  pub input_named : list_any test (machine_told unset lines).inputs ≡ is_among clock (flat_map input_words lines)
  input_named = nets_named all clock test same (flat_map input_words lines) (words_stand all clock test same input_words (λ line h. inputs_stand all clock test same line h) lines stand)
