-- What all logical lines tell.
use Rattle.std.proofs.Common.{◌≡◌, ℕ, Bool, true, false, ◌||◌, cond, ltb, List, [], ◌∷◌, ◌++◌, length, Option, Some, None, Result, Ok, Err, refl, sym, ap, subst, ◌∙◌}
use Rattle.std.specs.Prelude.{unwrap_or}
use Rattle.std.specs.List.{flat_map, list_any}
use Rattle.std.proofs.Math.Bool.{or-false, or_assoc}
use Rattle.std.proofs.lemmas.List.{append-nil}
use Rattle.word_scan.specs.Logical.{LogicalLine, dark_words}
use Rattle.source_machine.specs.declared.unset.Unset.{Unset}
use Rattle.source_machine.specs.Machines.{PlainLatch, PlainLiteral, PlainEquation, PlainMachine}
use Rattle.source_machine.specs.Additions.{with_nets}
use Rattle.blif_reader.specs.declared.refusals.LineRefusal.{LineRefusal}
use Rattle.blif_reader.specs.declared.refusals.BlifCause.{BlifCause}
use Rattle.blif_reader.specs.declared.refusals.BlifCause.TheVariants as causes
use Rattle.blif_reader.specs.declared.refusals.BlifRefusal.{BlifRefusal}
use Rattle.blif_reader.specs.declared.refusals.BlifRefusal.TheVariants as refusals
use Rattle.pulse_ids.specs.declared.quantities.Quantity.TheVariants as quantities
use Rattle.source_machine.specs.declared.places.Place.TheVariants.{Whole}
use Rattle.blif_reader.specs.States.{BlifState, OpenEquation, nothing_read, closed, with_open}
use Rattle.blif_reader.specs.Statements.{text_line_read}
use Rattle.blif_reader.specs.Sources.{PlainSource, source_of, shown_as, refusal_at, line_read, lines_read, all_logical_lines, limit, fault_at, clock_cause, unless_clocked, source_read, early}
use Rattle.blif_reader.specs.Sources.{judgement}
use Rattle.blif_reader.specs.Tellings.{names_in, nets_told, rows_under, equations_told, clock_told, clock_words, has_words, AllRowsAgree, machine_told, source_told, words_of}
use Rattle.blif_reader.specs.Laws.{FirstRefused}
use Rattle.blif_reader.proofs.Taking.{read_refused}
use Rattle.blif_reader.proofs.FirstNames.{joined_firsts, Extends, extends_on, extends_joined}
use Rattle.blif_reader.proofs.Sayings.{said_in, said_by, Tells, tells_on, tells_nothing}
use Rattle.blif_reader.proofs.LineTellings.{open_told, OpenAgrees, none_agree, closed_equations}
use Rattle.blif_reader.proofs.RowTellings.{line_tells}

abbrev made : ℕ → List ℕ → List PlainLatch → List PlainEquation → List PlainLiteral → List (Option (List ℕ)) → List (Option (List ℕ)) → PlainMachine
made nets inputs latches equations outputs input_names output_names = record {
  nets = nets;
  inputs = inputs;
  latches = latches;
  equations = equations;
  outputs = outputs;
  input_names = input_names;
  output_names = output_names;
}

pub record LinesTell (unset : Unset) (state next : BlifState) (lines : List (List (List ℕ))) : Type 0 where
  pub tells : Tells state next (said_by unset lines)
  equations : (big : List (List ℕ)) → Extends next.nets big
      → next.machine.equations ++ open_told next.unended [] ≡ state.machine.equations ++ (open_told state.unended (rows_under lines) ++ equations_told big lines)
  pub modelled : next.modelled ≡ (state.modelled || list_any (λ line. has_words line) lines)
  agrees : OpenAgrees state.unended (rows_under lines) × AllRowsAgree lines

-- what was built of lines, and how their rows agree
pub record IsBuilt (unset : Unset) (lines : List (List (List ℕ))) (state : BlifState) : Type 0 where
  pub nets : state.nets ≡ nets_told lines
  pub source : source_of (closed state) ≡ source_told unset lines
  pub rows : AllRowsAgree lines
  pub clock : state.clock ≡ clock_told lines
  pub clocked : state.clocked ≡ has_words (flat_map clock_words lines)
  pub modelled : state.modelled ≡ list_any (λ line. has_words line) lines

module _ (unset : Unset) where
  -- a line's result is read on, where the lines are
  goes_on : (Q : Type 0) (number : ℕ) (result : Result BlifState LineRefusal) (lines : List LogicalLine) (next : BlifState) → lines_read unset (shown_as number result) lines ≡ Ok next
      → ((middle : BlifState) → result ≡ Ok middle → lines_read unset (Ok middle) lines ≡ Ok next → Q) → Q
  goes_on Q number (Ok middle) lines next h f = f middle refl h
  goes_on Q number (Err refusal) lines next h f =
      let k : ◌≡◌ {A = Result BlifState BlifRefusal} (Err (refusal_at number refusal)) (Ok next) = sym (read_refused unset (refusal_at number refusal) lines) ∙ h in absurd cc

  pub lines_tell : (lines : List LogicalLine) (state next : BlifState) → lines_read unset (Ok state) lines ≡ Ok next → LinesTell unset state next (words_of lines)
  lines_tell [] state next h =
      let is : state ≡ next = cc in
      subst (λ (s : BlifState). LinesTell unset state s []) is (record {
        tells = tells_nothing state state refl refl refl refl;
        equations = λ big x. ap (λ (l : List PlainEquation). state.machine.equations ++ l) (sym (append-nil (open_told state.unended [])));
        modelled = sym (or-false state.modelled);
        agrees = (none_agree state.unended, tt);
      })
  lines_tell (line ∷ lines) state next h =
      goes_on (LinesTell unset state next (words_of (line ∷ lines))) line.first (text_line_read unset state line.text) lines next h (λ middle is rest.
      let one = line_tells unset state middle line.text is in
      let more = lines_tell lines middle next rest in
      let grows : Extends middle.nets next.nets = subst (λ (l : List (List ℕ)). Extends middle.nets l) (sym more.tells.nets) (extends_joined middle.nets (flat_map names_in (words_of lines))) in
      record {
        tells = tells_on state middle next (said_in unset (dark_words line.text)) (said_by unset (words_of lines)) one.tells more.tells;
        equations = λ big x. more.equations big x ∙ one.equations big (extends_on middle.nets next.nets big grows x) (words_of lines);
        modelled = more.modelled ∙ ap (λ b. b || list_any (λ l. has_words l) (words_of lines)) one.modelled
            ∙ or_assoc state.modelled (has_words (dark_words line.text)) (list_any (λ l. has_words l) (words_of lines));
        agrees = (let a = one.agrees (words_of lines) more.agrees.0 in (a.0, (a.1, more.agrees.1)));
      })

  -- the machine of a state, with the last equation's rows ended
  whole_machine : (nets : ℕ) (machine : PlainMachine) (unended : Option OpenEquation)
      → with_nets (with_open unended machine) nets ≡ record machine { nets = nets; equations = machine.equations ++ open_told unended [] }
  whole_machine nets machine None = ap (λ (l : List PlainEquation). record machine { nets = nets; equations = l }) (closed_equations machine None)
  whole_machine nets machine (Some unended) = ap (λ (l : List PlainEquation). record machine { nets = nets; equations = l }) (closed_equations machine (Some unended))

  pub lines_told : (lines : List LogicalLine) (state : BlifState) → lines_read unset (Ok nothing_read) lines ≡ Ok state → IsBuilt unset (words_of lines) state
  lines_told lines state h =
      let all : List (List (List ℕ)) = words_of lines in
      let t = lines_tell lines nothing_read state h in
      let nets : state.nets ≡ nets_told all = t.tells.nets ∙ joined_firsts (flat_map names_in all) in
      let x : Extends state.nets (nets_told all) = record { more = []; is = sym nets ∙ sym (append-nil state.nets) } in
      let m : PlainMachine = state.machine in
      let eqs : List PlainEquation = m.equations ++ open_told state.unended [] in
      let told : PlainMachine = machine_told unset all in
      let machine : with_nets (with_open state.unended m) (length state.nets) ≡ told =
      whole_machine (length state.nets) m state.unended
      ∙ ap (λ (n : List (List ℕ)). made (length n) m.inputs m.latches eqs m.outputs m.input_names m.output_names) nets
      ∙ ap (λ (l : List ℕ). made told.nets l m.latches eqs m.outputs m.input_names m.output_names) (t.tells.inputs (nets_told all) x)
      ∙ ap (λ (l : List PlainLatch). made told.nets told.inputs l eqs m.outputs m.input_names m.output_names) (t.tells.latches (nets_told all) x)
      ∙ ap (λ (l : List PlainEquation). made told.nets told.inputs told.latches l m.outputs m.input_names m.output_names) (t.equations (nets_told all) x)
      ∙ ap (λ (l : List PlainLiteral). made told.nets told.inputs told.latches told.equations l m.input_names m.output_names) (t.tells.outputs (nets_told all) x)
      ∙ ap (λ (l : List (Option (List ℕ))). made told.nets told.inputs told.latches told.equations told.outputs l m.output_names) t.tells.input_names
      ∙ ap (λ (l : List (Option (List ℕ))). made told.nets told.inputs told.latches told.equations told.outputs told.input_names l) t.tells.output_names in
      record {
        nets = nets;
        source = ap (λ (n : List (List ℕ)). record { nets = n; machine = with_nets (with_open state.unended m) (length state.nets) }) nets
            ∙ ap (λ (k : PlainMachine). record { nets = nets_told all; machine = k }) machine;
        rows = t.agrees.1;
        clock = t.tells.clock;
        clocked = t.tells.clocked;
        modelled = t.modelled;
      }

  refused_by : (refusal : BlifRefusal) (lines : List LogicalLine) (line : LogicalLine) (state : BlifState) (read : Result BlifState BlifRefusal) → line_read unset state line ≡ read
      → lines_read unset read lines ≡ Err refusal → ((next : BlifState) → lines_read unset (Ok next) lines ≡ Err refusal → FirstRefused unset next lines refusal)
      → FirstRefused unset state (line ∷ lines) refusal
  refused_by refusal lines line state (Err other) e h f =
      let same : other ≡ refusal = let k : ◌≡◌ {A = Result BlifState BlifRefusal} (Err other) (Err refusal) = sym (read_refused unset other lines) ∙ h in cc in
      record { before = []; line = line; after = lines; state = state; lines_are = refl; reads = refl; refuses = e ∙ ap (λ (r : BlifRefusal). Err r) same }
  refused_by refusal lines line state (Ok next) e h f =
      let r = f next h in
      record {
        before = line ∷ r.before;
        line = r.line;
        after = r.after;
        state = r.state;
        lines_are = ap (λ (l : List LogicalLine). line ∷ l) r.lines_are;
        reads = ap (λ (s : Result BlifState BlifRefusal). lines_read unset s r.before) e ∙ r.reads;
        refuses = r.refuses;
      }

  pub first_refused : (lines : List LogicalLine) (state : BlifState) (refusal : BlifRefusal) → lines_read unset (Ok state) lines ≡ Err refusal → FirstRefused unset state lines refusal
  first_refused [] state refusal h = absurd cc
  first_refused (line ∷ lines) state refusal h =
      refused_by refusal lines line state (line_read unset state line) refl h (λ next k. first_refused lines next refusal k)

  -- a source that is judged to be one is what its lines tell
  clocked_by : (cause : Option BlifCause) (found source : PlainSource) → unless_clocked cause found ≡ Ok source → found ≡ source
  clocked_by None found source h = cc
  clocked_by (Some cause) found source h = absurd cc

  whole_by : (modelled : Bool) (state : BlifState) (source : PlainSource)
      → cond modelled (unless_clocked (clock_cause (closed state) state.clock) (source_of (closed state))) (Err (fault_at Whole causes.NoModel)) ≡ Ok source → source_of (closed state) ≡ source
  whole_by true state source h = clocked_by (clock_cause (closed state) state.clock) (source_of (closed state)) source h
  whole_by false state source h = absurd cc

  pub read_by : (lines : List LogicalLine) (source : PlainSource) (read : Result BlifState BlifRefusal) → lines_read unset (Ok nothing_read) lines ≡ read
      → source_read read ≡ Ok source → source ≡ source_told unset (words_of lines)
  read_by lines source (Ok state) e h = sym (whole_by state.modelled state source h) ∙ (lines_told lines state e).source
  read_by lines source (Err refusal) e h = absurd cc

  judged_by : (long : Bool) (text : List ℕ) (source : PlainSource)
      → cond long (Err (unwrap_or (early unset text) (refusals.Limit quantities.SourceBytes))) (source_read (lines_read unset (Ok nothing_read) (all_logical_lines text))) ≡ Ok source
      → source ≡ source_told unset (words_of (all_logical_lines text))
  judged_by true text source h = absurd cc
  judged_by false text source h = read_by (all_logical_lines text) source (lines_read unset (Ok nothing_read) (all_logical_lines text)) refl h

  pub judged_told : (text : List ℕ) (source : PlainSource) → judgement unset text ≡ Ok source → source ≡ source_told unset (words_of (all_logical_lines text))
  judged_told text source h = judged_by (ltb limit (length text)) text source h
