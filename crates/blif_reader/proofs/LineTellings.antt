-- What each logical line adds.
use Rattle.std.proofs.Common.{◌≡◌, ℕ, Bool, true, false, ◌||◌, cond, List, [], ◌∷◌, ◌++◌, length, map, Option, Some, None, Result, Ok, Err, codes, refl, sym, ap, subst, ◌∙◌}
use Rattle.std.specs.Prelude.{⊤}
use Rattle.std.specs.Str.{bytes_eq}
use Rattle.std.proofs.lemmas.List.{append-nil}
use Rattle.std.proofs.lemmas.List.Elements.{All-nil}
use Rattle.std.proofs.lemmas.Slice.Eq.{bytes_eq-Decides}
use Rattle.pulse_ids.specs.declared.quantities.Quantity.TheVariants as quantities
use Rattle.numbered_names.specs.Names.{names_with, number_for}
use Rattle.source_machine.specs.declared.unset.Unset.{Unset}
use Rattle.source_machine.specs.Machines.{PlainMachine, PlainEquation, PlainLiteral}
use Rattle.blif_reader.specs.declared.refusals.LineRefusal.{LineRefusal}
use Rattle.blif_reader.specs.declared.refusals.LineRefusal.TheVariants as line_refusals
use Rattle.blif_reader.specs.declared.refusals.BlifCause.TheVariants as causes
use Rattle.blif_reader.specs.Rows.{bit_of}
use Rattle.blif_reader.specs.States.{BlifState, OpenEquation, closed, with_open, begun_equation}
use Rattle.blif_reader.specs.Statements.{model_read, column_read, names_read, end_read, is_passed_over, statement_read, has_rows}
use Rattle.blif_reader.specs.Tellings.{net_of, equation_words, last_or, rows_under, bit_told, RowsEndIn, RowsAgree, cube_told, equation_told, equations_told, has_words}
use Rattle.blif_reader.proofs.Inversions.{allowed, over_ok}
use Rattle.blif_reader.proofs.LineBounds.{goes_by}
use Rattle.blif_reader.proofs.FirstNames.{Extends, extends_same, extends_on, extends_joined, net_kept}
use Rattle.blif_reader.proofs.Sayings.{Said, nothing_said, said_in, Tells, tells_on, tells_nothing}
use Rattle.blif_reader.proofs.WordTellings.{Keeps, says_input, says_output, says_columns, says_clock, inputs_tell, outputs_tell, clocks_tell, column_tells, columns_tell, grown}
use Rattle.blif_reader.proofs.LatchTellings.{says_latch, latch_tells}

-- the open equation with further rows
abbrev pub open_told : Option OpenEquation → List (List (List ℕ)) → List PlainEquation
open_told None rows = []
open_told (Some unended) rows = record {
  net = unended.equation.net;
  on = bit_told unended.equation.on rows;
  cubes = unended.equation.cubes ++ map (cube_told unended.columns) rows;
} ∷ []

-- closing the last equation ends its rows
pub closed_equations : (machine : PlainMachine) (unended : Option OpenEquation) → (with_open unended machine).equations ≡ machine.equations ++ open_told unended []
closed_equations machine None = sym (append-nil machine.equations)
closed_equations machine (Some unended) =
    ap (λ (l : List (List PlainLiteral)). machine.equations ++ (record { net = unended.equation.net; on = unended.equation.on; cubes = l }) ∷ []) (sym (append-nil unended.equation.cubes))

-- the rows that come to the open equation end in its bit, and in that of the rows before them
abbrev pub OpenAgrees : Option OpenEquation → List (List (List ℕ)) → Type 0
OpenAgrees None rows = ⊤
OpenAgrees (Some unended) rows =
    RowsEndIn (bit_told unended.equation.on rows) rows × (has_rows unended.equation.cubes ≡ true → bit_told unended.equation.on rows ≡ unended.equation.on)

pub none_agree : (unended : Option OpenEquation) → OpenAgrees unended []
none_agree None = tt
none_agree (Some unended) = (All-nil (λ row. bit_of (last_or [] row) ≡ Some unended.equation.on), λ h. refl)

-- what a line says after others
pub record LineTells (unset : Unset) (state next : BlifState) (line : List (List ℕ)) : Type 0 where
  pub tells : Tells state next (said_in unset line)
  pub equations : (big : List (List ℕ)) → Extends next.nets big → (lines : List (List (List ℕ)))
      → next.machine.equations ++ (open_told next.unended (rows_under lines) ++ equations_told big lines)
      ≡ state.machine.equations ++ (open_told state.unended (rows_under (line ∷ lines)) ++ equations_told big (line ∷ lines))
  pub modelled : next.modelled ≡ (state.modelled || has_words line)
  pub agrees : (lines : List (List (List ℕ))) → OpenAgrees next.unended (rows_under lines) → OpenAgrees state.unended (rows_under (line ∷ lines)) × RowsAgree (equation_words line) (rows_under lines)

-- what a line that begins with a dot says: the equation that it ends, and the one that it begins
pub record DotTells (unset : Unset) (state next : BlifState) (line : List (List ℕ)) : Type 0 where
  pub tells : Tells (closed state) next (said_in unset line)
  pub equations : (big : List (List ℕ)) → Extends next.nets big → (rows : List (List (List ℕ)))
      → next.machine.equations ++ open_told next.unended rows ≡ (closed state).machine.equations ++ equation_told big (equation_words line) rows
  pub modelled : next.modelled ≡ true
  pub agrees : (rows : List (List (List ℕ))) → OpenAgrees next.unended rows → RowsAgree (equation_words line) rows

-- two tests, of which one is known
pub either_known : {A : Type 0} (Q : Type 0) (b : Bool) (x y : Result A LineRefusal) (value : A) → cond b x y ≡ Ok value → (b ≡ true → x ≡ Ok value → Q) → (b ≡ false → y ≡ Ok value → Q) → Q
either_known Q true x y value h f g = f refl h
either_known Q false x y value h f g = g refl h

pub is_keyword : (first keyword : List ℕ) → bytes_eq first keyword ≡ true → first ≡ keyword
is_keyword first keyword h = (bytes_eq-Decides first keyword).0 h

-- says_input and its like as what a line says
input_said : (unset : Unset) (words : List (List ℕ)) → says_input words ≡ said_in unset (codes ".inputs" ∷ words)
input_said unset words = ap (λ (names : List (List ℕ)). record nothing_said { names = names; inputs = words }) (sym (append-nil words))

output_said : (unset : Unset) (words : List (List ℕ)) → says_output words ≡ said_in unset (codes ".outputs" ∷ words)
output_said unset words = ap (λ (names : List (List ℕ)). record nothing_said { names = names; outputs = words }) (sym (append-nil words))

columns_said : (unset : Unset) (words : List (List ℕ)) → says_columns words ≡ said_in unset (codes ".names" ∷ words)
columns_said unset words = ap (λ (names : List (List ℕ)). record nothing_said { names = names }) (sym (append-nil words))

clock_said : (unset : Unset) (words : List (List ℕ)) → says_clock words ≡ said_in unset (codes ".clock" ∷ words)
clock_said unset words = ap (λ (names : List (List ℕ)). record nothing_said { clocks = names; declared = words }) (sym (append-nil words))

-- a line that begins with another word says nothing
pub unsaid : (unset : Unset) (first : List ℕ) (words : List (List ℕ)) → bytes_eq first (codes ".inputs") ≡ false → bytes_eq first (codes ".outputs") ≡ false → bytes_eq first (codes ".names") ≡ false
    → bytes_eq first (codes ".latch") ≡ false → bytes_eq first (codes ".clock") ≡ false → nothing_said ≡ said_in unset (first ∷ words)
unsaid unset first words inputs outputs names latch clock = rw (inputs, outputs, names, latch, clock) refl

module _ (unset : Unset) (state : BlifState) where
  -- a statement that leaves the equations as they are
  kept_tells : (next : BlifState) (line : List (List ℕ)) → equation_words line ≡ [] → Tells (closed state) next (said_in unset line) → next.machine.equations ≡ (closed state).machine.equations
      → next.unended ≡ None → next.modelled ≡ true → DotTells unset state next line
  kept_tells next line none tells equations unended modelled = record {
    tells = tells;
    equations = λ big x rows. ap (λ (o : Option OpenEquation). next.machine.equations ++ open_told o rows) unended ∙ append-nil next.machine.equations ∙ equations
        ∙ sym (append-nil (closed state).machine.equations) ∙ ap (λ (l : List (List ℕ)). (closed state).machine.equations ++ equation_told big l rows) (sym none);
    modelled = modelled;
    agrees = λ rows h. subst (λ (l : List (List ℕ)). RowsAgree l rows) (sym none) tt;
  }

  modelled_tells : (next : BlifState) (words : List (List ℕ)) → ◌≡◌ {A = Result BlifState LineRefusal} (Ok (record (closed state) { modelled = true })) (Ok next)
      → DotTells unset state next (codes ".model" ∷ words)
  modelled_tells next words h =
      let new : BlifState = record (closed state) { modelled = true } in
      let is : new ≡ next = cc in
      subst (λ (s : BlifState). DotTells unset state s (codes ".model" ∷ words)) is
      (kept_tells new (codes ".model" ∷ words) refl (tells_nothing (closed state) new refl refl refl refl) refl refl refl)

  model_tells : (next : BlifState) (words : List (List ℕ)) → model_read (closed state) words ≡ Ok next → DotTells unset state next (codes ".model" ∷ words)
  model_tells next [] h =
      let right = allowed state.modelled (line_refusals.Cause causes.SecondModel) (Ok (record (closed state) { modelled = true })) next h in modelled_tells next [] right.1
  model_tells next (name ∷ []) h =
      let right = allowed state.modelled (line_refusals.Cause causes.SecondModel) _ next h in
      let short = over_ok quantities.NameBytes (length name) (Ok (record (closed state) { modelled = true })) next right.1 in
      modelled_tells next (name ∷ []) short.1
  model_tells next (name ∷ word ∷ words) h =
      let right = allowed state.modelled (line_refusals.Cause causes.SecondModel) (Err (line_refusals.Cause causes.BadWord)) next h in let k = right.1 in absurd cc

  module _ (begun : state.modelled ≡ true) where
    -- a statement whose words are read one after the other
    by_words : (next : BlifState) (line : List (List ℕ)) (says : Said) → equation_words line ≡ [] → says ≡ said_in unset line → Tells (closed state) next says
        × Keeps (closed state) next → DotTells unset state next line
    by_words next line says none e t =
        kept_tells next line none (subst (λ (d : Said). Tells (closed state) next d) e t.0) t.1.equations t.1.unended (t.1.modelled ∙ begun)

    ended_tells : (next : BlifState) (words : List (List ℕ)) → end_read (closed state) words ≡ Ok next → DotTells unset state next (codes ".end" ∷ words)
    ended_tells next (word ∷ words) h = absurd cc
    ended_tells next [] h =
        let new : BlifState = record (closed state) { ended = true } in
        let is : new ≡ next = cc in
        subst (λ (s : BlifState). DotTells unset state s (codes ".end" ∷ [])) is
        (kept_tells new (codes ".end" ∷ []) refl (tells_nothing (closed state) new refl refl refl refl) refl refl begun)

    -- a line that begins an equation
    names_tell : (next : BlifState) (words : List (List ℕ)) → names_read (closed state) words ≡ Ok next → DotTells unset state next (codes ".names" ∷ words)
    names_tell next [] h = absurd cc
    names_tell next (name ∷ names) h =
        goes_by column_read (DotTells unset state next (codes ".names" ∷ name ∷ names)) (column_read (closed state) name) names next h (λ middle is rest.
        let one = column_tells (closed state) middle name is in
        let first : OpenEquation = begun_equation (number_for state.nets name) in
        let more = columns_tell names middle next first one.unended rest in
        let grows : Extends (names_with state.nets name) next.nets = subst (λ (l : List (List ℕ)). Extends l next.nets) one.nets
        (subst (λ (l : List (List ℕ)). Extends middle.nets l) (sym more.tells.nets) (extends_joined middle.nets names)) in
        record {
          tells = subst (λ (d : Said). Tells (closed state) next d) (columns_said unset (name ∷ names))
              (tells_on (closed state) middle next (says_columns (name ∷ [])) (says_columns names) one.tells more.tells);
          equations = λ big x rows.
              ap (λ (l : List PlainEquation). l ++ open_told next.unended rows) (more.equations ∙ one.equations)
              ∙ ap (λ (o : Option OpenEquation). (closed state).machine.equations ++ open_told o rows) (more.opened big x)
              ∙ ap (λ n. (closed state).machine.equations ++ open_told (Some (grown (begun_equation n) (map (net_of big) names))) rows)
              (sym (net_kept state.nets big name (extends_on (names_with state.nets name) next.nets big grows x)));
          modelled = more.modelled ∙ one.modelled ∙ begun;
          agrees = λ rows h. (subst (λ (o : Option OpenEquation). OpenAgrees o rows) (more.opened next.nets (extends_same next.nets)) h).0;
        })

  same_tells : (next : BlifState) (line : List (List ℕ)) → state.modelled ≡ true → nothing_said ≡ said_in unset line → equation_words line ≡ []
      → ◌≡◌ {A = Result BlifState LineRefusal} (Ok (closed state)) (Ok next) → DotTells unset state next line
  same_tells next line begun none equation h =
      let is : closed state ≡ next = cc in
      subst (λ (s : BlifState). DotTells unset state s line) is
      (kept_tells (closed state) line equation (subst (λ (d : Said). Tells (closed state) (closed state) d) none (tells_nothing (closed state) (closed state) refl refl refl refl)) refl refl begun)

  on_keyword : (next : BlifState) (first keyword : List ℕ) (words : List (List ℕ)) → bytes_eq first keyword ≡ true → DotTells unset state next (keyword ∷ words)
      → DotTells unset state next (first ∷ words)
  on_keyword next first keyword words is t = subst (λ (k : List ℕ). DotTells unset state next (k ∷ words)) (sym (is_keyword first keyword is)) t

  pub statement_tells : (next : BlifState) (first : List ℕ) (words : List (List ℕ)) → (bytes_eq first (codes ".model") ≡ false → state.modelled ≡ true)
      → statement_read unset (closed state) first words ≡ Ok next → DotTells unset state next (first ∷ words)
  statement_tells next first words begun h =
      let Q : Type 0 = DotTells unset state next (first ∷ words) in
      either_known Q (bytes_eq first (codes ".model")) _ _ next h (λ e k. on_keyword next first (codes ".model") words e (model_tells next words k)) (λ model h.
      let b : state.modelled ≡ true = begun model in
      either_known Q (bytes_eq first (codes ".inputs")) _ _ next h (λ e k. on_keyword next first (codes ".inputs") words e
      (by_words b next (codes ".inputs" ∷ words) (says_input words) refl (input_said unset words) (inputs_tell words (closed state) next k))) (λ inputs h.
      either_known Q (bytes_eq first (codes ".outputs")) _ _ next h (λ e k. on_keyword next first (codes ".outputs") words e
      (by_words b next (codes ".outputs" ∷ words) (says_output words) refl (output_said unset words) (outputs_tell words (closed state) next k))) (λ outputs h.
      either_known Q (bytes_eq first (codes ".clock")) _ _ next h (λ e k. on_keyword next first (codes ".clock") words e
      (by_words b next (codes ".clock" ∷ words) (says_clock words) refl (clock_said unset words) (clocks_tell words (closed state) next k))) (λ clock h.
      either_known Q (bytes_eq first (codes ".names")) _ _ next h (λ e k. on_keyword next first (codes ".names") words e (names_tell b next words k)) (λ names h.
      either_known Q (bytes_eq first (codes ".latch")) _ _ next h (λ e k. on_keyword next first (codes ".latch") words e
      (by_words b next (codes ".latch" ∷ words) (says_latch unset words) refl refl (latch_tells unset words (closed state) next k))) (λ latch h.
      either_known Q (bytes_eq first (codes ".end")) _ _ next h (λ e k. on_keyword next first (codes ".end") words e (ended_tells b next words k)) (λ end h.
      either_known Q (is_passed_over first) _ _ next h (λ e k. same_tells next (first ∷ words) b (unsaid unset first words inputs outputs names latch clock) (rw names refl) k)
      (λ e k. absurd cc))))))))
