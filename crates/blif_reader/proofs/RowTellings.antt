-- What a row adds, and any line.
use Rattle.std.proofs.Common.{◌≡◌, ℕ, ◌+◌, Bool, true, false, not, ◌&&◌, ◌==◌, cond, List, [], ◌∷◌, ◌++◌, length, map, Option, Some, None, Ok, Err, codes, refl, sym, ap, subst, ◌∙◌}
use Rattle.std.proofs.Common.{append_assoc, arith}
use Rattle.std.specs.Prelude.{slice_index, unwrap_or}
use Rattle.std.specs.Bool.{beq}
use Rattle.std.specs.Str.{bytes_eq}
use Rattle.std.proofs.Math.Bool.{or-true, or-false}
use Rattle.std.proofs.lemmas.Bool.{eqb-true}
use Rattle.std.specs.List.{All}
use Rattle.std.proofs.lemmas.List.Elements.{All-cons}
use Rattle.std.proofs.lemmas.Slice.Eq.{bytes_eq-Decides}
use Rattle.pulse_ids.specs.declared.quantities.Quantity.TheVariants as quantities
use Rattle.word_scan.specs.Logical.{dark_words, has_strange}
use Rattle.source_machine.specs.declared.unset.Unset.{Unset}
use Rattle.source_machine.specs.Machines.{PlainEquation, PlainLiteral}
use Rattle.blif_reader.specs.declared.refusals.LineRefusal.TheVariants as line_refusals
use Rattle.blif_reader.specs.declared.refusals.BlifCause.TheVariants as causes
use Rattle.blif_reader.specs.Rows.{row_words, are_marks, bit_of, literals_of, cares_in}
use Rattle.blif_reader.specs.States.{BlifState, OpenEquation, closed}
use Rattle.blif_reader.specs.Statements.{bit_added, with_row, has_rows, row_added, row_read_by, words_read, text_line_read}
use Rattle.blif_reader.specs.Refusing.{over}
use Rattle.blif_reader.specs.Tellings.{equation_words, last_or, rows_under, bit_told, RowsAgree, cube_told, equation_told, equations_told}
use Rattle.blif_reader.proofs.Inversions.{allowed, over_ok}
use Rattle.blif_reader.proofs.Sayings.{Said, nothing_said, said_in, Tells, tells_nothing, after_closing}
use Rattle.blif_reader.proofs.LineTellings.{open_told, OpenAgrees, none_agree, closed_equations, LineTells, DotTells, either_known, unsaid, statement_tells}

-- a word that begins with no dot is none that begins with one
pub not_keyword : (first keyword : List ℕ) → (slice_index first 0 == 46) ≡ false → (slice_index keyword 0 == 46) ≡ true → bytes_eq first keyword ≡ false
not_keyword first keyword e f = by_same (bytes_eq first keyword) refl
  where
    by_same : (same : Bool) → bytes_eq first keyword ≡ same → same ≡ false
    by_same false h = refl
    by_same true h =
        let is : first ≡ keyword = (bytes_eq-Decides first keyword).0 h in
        let k : true ≡ false = sym f ∙ ap (λ (w : List ℕ). slice_index w 0 == 46) (sym is) ∙ e in k

rows_pushed : (cubes : List (List PlainLiteral)) (cube : List PlainLiteral) → has_rows (cubes ++ cube ∷ []) ≡ true
rows_pushed [] cube = refl
rows_pushed (first ∷ cubes) cube = refl

same_bit : (some on bit : Bool) → some ≡ true → (some && not (beq on bit)) ≡ false → on ≡ bit
same_bit true true true h e = refl
same_bit true true false h e = absurd cc
same_bit true false true h e = absurd cc
same_bit true false false h e = refl
same_bit false on bit h e = absurd cc

no_columns : (columns marks : List ℕ) → (length columns == 0) ≡ true → literals_of columns [] ≡ literals_of columns marks
no_columns [] marks e = refl
no_columns (net ∷ columns) marks e = absurd (let k : length (net ∷ columns) ≡ 0 = eqb-true _ _ e in omega (arith, k))

module _ (unset : Unset) (state next : BlifState) (first : List ℕ) (words : List (List ℕ)) (plain : (slice_index first 0 == 46) ≡ false) (begun : state.modelled ≡ true) where
  abbrev row : List (List ℕ)
  row = first ∷ words

  module _ (unended : OpenEquation) (is : state.unended ≡ Some unended) (marks bit_word : List ℕ) (cube : literals_of unended.columns marks ≡ cube_told unended.columns row)
      (last : last_or [] row ≡ bit_word) where
    grows : (bit : Bool) → bit_of bit_word ≡ Some bit → (rows : List (List (List ℕ))) → open_told (Some (with_row unended bit marks)) rows ≡ open_told (Some unended) (row ∷ rows)
    grows bit e rows =
        let made : Bool → List (List PlainLiteral) → List PlainEquation = λ on cubes. (record { net = unended.equation.net; on = on; cubes = cubes }) ∷ [] in
        let more : List (List PlainLiteral) = map (cube_told unended.columns) rows in
        let given : bit ≡ unwrap_or (bit_of (last_or [] row)) unended.equation.on =
        sym (ap (λ (w : List ℕ). unwrap_or (bit_of w) unended.equation.on) last ∙ ap (λ (o : Option Bool). unwrap_or o unended.equation.on) e) in
        ap (λ b. made (bit_told b rows) ((unended.equation.cubes ++ literals_of unended.columns marks ∷ []) ++ more)) given
        ∙ ap (λ (l : List (List PlainLiteral)). made (bit_told unended.equation.on (row ∷ rows)) l) (append_assoc unended.equation.cubes (literals_of unended.columns marks ∷ []) more)
        ∙ ap (λ (c : List PlainLiteral). made (bit_told unended.equation.on (row ∷ rows)) (unended.equation.cubes ++ (c ∷ more))) cube

    -- a row in the bit of those before it
    agreeing : (bit : Bool) → bit_of bit_word ≡ Some bit → (has_rows unended.equation.cubes && not (beq unended.equation.on bit)) ≡ false
        → (rows : List (List (List ℕ))) → OpenAgrees (Some (with_row unended bit marks)) rows → OpenAgrees (Some unended) (row ∷ rows)
    agreeing bit e right rows h =
        let word : bit_of (last_or [] row) ≡ Some bit = ap bit_of last ∙ e in
        let given : unwrap_or (bit_of (last_or [] row)) unended.equation.on ≡ bit = ap (λ (o : Option Bool). unwrap_or o unended.equation.on) word in
        let told : bit_told unended.equation.on (row ∷ rows) ≡ bit_told bit rows = ap (λ b. bit_told b rows) given in
        let is_bit : bit_told bit rows ≡ bit = h.1 (rows_pushed unended.equation.cubes (literals_of unended.columns marks)) in
        let all : bit_told unended.equation.on (row ∷ rows) ≡ bit = told ∙ is_bit in (
          All-cons (λ r. bit_of (last_or [] r) ≡ Some (bit_told unended.equation.on (row ∷ rows))) row rows (word ∙ ap (λ b. Some b) (sym all))
              (subst (λ b. All (λ r. bit_of (last_or [] r) ≡ Some b) rows) (sym told) h.0),
          λ some. all ∙ sym (same_bit (has_rows unended.equation.cubes) unended.equation.on bit some right),
        )

    added_tells : (found : Option Bool) → bit_of bit_word ≡ found → bit_added state unended marks found ≡ Ok next → LineTells unset state next row
    added_tells None e h = absurd cc
    added_tells (Some bit) e h =
        let new : BlifState = record state { size = state.size + (1 + cares_in marks); unended = Some (with_row unended bit marks) } in
        let right = allowed (has_rows unended.equation.cubes && not (beq unended.equation.on bit)) (line_refusals.Cause causes.MixedCover)
        (over quantities.Size (state.size + (1 + cares_in marks)) (Ok new)) next h in
        let size = over_ok quantities.Size (state.size + (1 + cares_in marks)) (Ok new) next right.1 in
        let same : new ≡ next = let k = size.1 in cc in
        let names : bytes_eq first (codes ".names") ≡ false = not_keyword first (codes ".names") plain refl in
        let nothing : nothing_said ≡ said_in unset row =
        unsaid unset first words (not_keyword first (codes ".inputs") plain refl) (not_keyword first (codes ".outputs") plain refl) names
        (not_keyword first (codes ".latch") plain refl) (not_keyword first (codes ".clock") plain refl) in
        subst (λ (s : BlifState). LineTells unset state s row) same (record {
          tells = subst (λ (d : Said). Tells state new d) nothing (tells_nothing state new refl refl refl refl);
          equations = λ big x lines.
              ap (λ (l : List PlainEquation). state.machine.equations ++ (l ++ equations_told big lines)) (grows bit e (rows_under lines))
              ∙ ap (λ b. state.machine.equations ++ (open_told (Some unended) (cond b [] (row ∷ rows_under lines)) ++ equations_told big lines)) (sym plain)
              ∙ ap (λ (o : Option OpenEquation). state.machine.equations ++ (open_told o (rows_under (row ∷ lines)) ++ equations_told big lines)) (sym is)
              ∙ ap (λ b. state.machine.equations ++ (open_told state.unended (rows_under (row ∷ lines)) ++ (equation_told big (cond b words []) (rows_under lines) ++ equations_told big lines)))
              (sym names);
          modelled = begun ∙ sym (or-true state.modelled);
          agrees = λ lines h. (
            subst (λ (o : Option OpenEquation). OpenAgrees o (rows_under (row ∷ lines))) (sym is)
                (subst (λ b. OpenAgrees (Some unended) (cond b [] (row ∷ rows_under lines))) (sym plain) (agreeing bit e right.0 (rows_under lines) h)),
            subst (λ b. RowsAgree (cond b words []) (rows_under lines)) (sym names) tt,
          );
        })

    marks_tell : row_added state unended (Some (marks, bit_word)) ≡ Ok next → LineTells unset state next row
    marks_tell h =
        either_known (LineTells unset state next row) (are_marks (length unended.columns) marks) (bit_added state unended marks (bit_of bit_word)) (Err (line_refusals.Cause causes.RowShape)) next h
        (λ e k. added_tells (bit_of bit_word) refl k) (λ e k. absurd cc)

  row_by : (unended : OpenEquation) → state.unended ≡ Some unended → (constant : Bool) → (length unended.columns == 0) ≡ constant → (more : List (List ℕ)) → words ≡ more
      → row_added state unended (row_words constant (first ∷ more)) ≡ Ok next → LineTells unset state next row
  row_by unended is true e [] f h =
      marks_tell unended is [] first (no_columns unended.columns first e) (ap (λ (l : List (List ℕ)). last_or [] (first ∷ l)) f) h
  row_by unended is true e (word ∷ more) f h = absurd cc
  row_by unended is false e [] f h = absurd cc
  row_by unended is false e (bit ∷ []) f h = marks_tell unended is first bit refl (ap (λ (l : List (List ℕ)). last_or [] (first ∷ l)) f) h
  row_by unended is false e (bit ∷ word ∷ more) f h = absurd cc

  row_tells : (unended : Option OpenEquation) → state.unended ≡ unended → row_read_by state unended row ≡ Ok next → LineTells unset state next row
  row_tells None is h = absurd cc
  row_tells (Some unended) is h = row_by unended is (length unended.columns == 0) refl words refl h

-- a line that begins with a dot
dot_tells : (unset : Unset) (state next : BlifState) (first : List ℕ) (words : List (List ℕ)) → (slice_index first 0 == 46) ≡ true
    → DotTells unset state next (first ∷ words) → LineTells unset state next (first ∷ words)
dot_tells unset state next first words dot t = record {
  tells = after_closing state next (said_in unset (first ∷ words)) t.tells;
  equations = λ big x lines.
      let rest : List PlainEquation = equations_told big lines in
      let told : List PlainEquation = equation_told big (equation_words (first ∷ words)) (rows_under lines) in
      sym (append_assoc next.machine.equations (open_told next.unended (rows_under lines)) rest)
      ∙ ap (λ (l : List PlainEquation). l ++ rest) (t.equations big x (rows_under lines))
      ∙ append_assoc (closed state).machine.equations told rest
      ∙ ap (λ (l : List PlainEquation). l ++ (told ++ rest)) (closed_equations state.machine state.unended)
      ∙ append_assoc state.machine.equations (open_told state.unended []) (told ++ rest)
      ∙ ap (λ b. state.machine.equations ++ (open_told state.unended (cond b [] ((first ∷ words) ∷ rows_under lines)) ++ (told ++ rest))) (sym dot);
  modelled = t.modelled ∙ sym (or-true state.modelled);
  agrees = λ lines h. (
    subst (λ b. OpenAgrees state.unended (cond b [] ((first ∷ words) ∷ rows_under lines))) (sym dot) (none_agree state.unended),
    t.agrees (rows_under lines) h,
  );
}

begun_by : (a b : Bool) → (not a && not b) ≡ false → b ≡ false → a ≡ true
begun_by true b h e = refl
begun_by false true h e = absurd cc
begun_by false false h e = absurd cc

words_tell : (unset : Unset) (state next : BlifState) (text : List ℕ) (line : List (List ℕ)) → words_read unset state text line ≡ Ok next → LineTells unset state next line
words_tell unset state next text [] h =
    let is : state ≡ next = cc in
    subst (λ (s : BlifState). LineTells unset state s []) is
    (record { tells = tells_nothing state state refl refl refl refl; equations = λ big x lines. refl; modelled = sym (or-false state.modelled); agrees = λ lines h. (h, tt) })
words_tell unset state next text (first ∷ words) h =
    let strange = allowed (has_strange text) (line_refusals.Cause causes.BadWord) _ next h in
    let model = allowed (not state.modelled && not (bytes_eq first (codes ".model"))) (line_refusals.Cause causes.NoModel) _ next strange.1 in
    let ended = allowed state.ended _ _ next model.1 in
    let begun : bytes_eq first (codes ".model") ≡ false → state.modelled ≡ true = λ e. begun_by state.modelled (bytes_eq first (codes ".model")) model.0 e in
    either_known (LineTells unset state next (first ∷ words)) (slice_index first 0 == 46) _ _ next ended.1
    (λ dot k. let short = over_ok quantities.NameBytes (length first) _ next k in dot_tells unset state next first words dot (statement_tells unset state next first words begun short.1))
    (λ plain k. row_tells unset state next first words plain (begun (not_keyword first (codes ".model") plain refl)) state.unended refl k)

-- a logical line
pub line_tells : (unset : Unset) (state next : BlifState) (text : List ℕ) → text_line_read unset state text ≡ Ok next → LineTells unset state next (dark_words text)
line_tells unset state next text h = words_tell unset state next text (dark_words text) h
