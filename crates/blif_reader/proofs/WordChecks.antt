-- The checks of the names of a line, from the left.
use Rattle.std.proofs.Common.{◌≡◌, ℕ, ◌+◌, true, false, List, [], ◌∷◌, ◌++◌, length, Option, Some, None, Ok, codes, refl, sym, ap, subst, ◌∙◌, append_assoc}
use Rattle.std.specs.Option.{option_or}
use Rattle.std.specs.List.{flat_map}
use Rattle.std.proofs.lemmas.List.{append-nil, length_push}
use Rattle.pulse_ids.specs.declared.quantities.Quantity.TheVariants as quantities
use Rattle.numbered_names.specs.Names.{names_with, number_for}
use Rattle.word_scan.specs.Reading.{read_on}
use Rattle.source_machine.specs.Additions.{with_input, with_output}
use Rattle.blif_reader.specs.declared.refusals.BlifCause.TheVariants as causes
use Rattle.blif_reader.specs.declared.refusals.LineRefusal.{LineRefusal}
use Rattle.blif_reader.specs.States.{BlifState, OpenEquation, with_column}
use Rattle.blif_reader.specs.Refusing.{over}
use Rattle.blif_reader.specs.Latches.{clock_read, differs_in_clock}
use Rattle.blif_reader.specs.Statements.{input_read, output_read, column_read, names_read}
use Rattle.blif_reader.specs.Tellings.{input_words, output_words, names_in, firsts, clocks_in, first_of}
use Rattle.blif_reader.specs.LineRefusals.{above, differs_from_first, each_name, input_refused, output_refused, clock_refused, column_refused, names_refused}
use Rattle.blif_reader.proofs.Checking.{Meets, meets_over, meets_where, meets_on, meets_last, words_meet}
use Rattle.blif_reader.proofs.NewNets.{firsts_with, meets_net}
use Rattle.blif_reader.proofs.TiedStates.{HasTold, Same, Adds, same_adds, OpenIs}

pub differs_as : (names : List (List ℕ)) (name : List ℕ) → differs_in_clock (first_of names) name ≡ differs_from_first names name
differs_as [] name = refl
differs_as (first ∷ names) name = refl

first_on : (names : List (List ℕ)) (name : List ℕ) → option_or (first_of names) (Some name) ≡ first_of (names ++ name ∷ [])
first_on [] name = refl
first_on (first ∷ names) name = refl

-- the open equation after some names of its line
abbrev BegunIs : Option OpenEquation → List (List ℕ) → Type 0
BegunIs None names = names ≡ []
BegunIs (Some unended) names = (length names ≡ length unended.columns + 1) × (unended.equation.cubes ≡ [])

begun_on : (unended : Option OpenEquation) (names : List (List ℕ)) (name : List ℕ) (net : ℕ) → BegunIs unended names → BegunIs (Some (with_column unended net)) (names ++ name ∷ [])
begun_on None names name net h = (length_push names name ∙ ap (λ (l : List (List ℕ)). length l + 1) h, refl)
begun_on (Some unended) names name net h =
    (length_push names name ∙ ap (λ k. k + 1) (h.0 ∙ sym (length_push unended.columns unended.equation.net)), h.1)

opens : (unended : Option OpenEquation) (name : List ℕ) (names : List (List ℕ)) → BegunIs unended (name ∷ names) → OpenIs unended (Some (record { names = name ∷ names; rows = [] }))
opens None name names h = absurd (let k : ◌≡◌ {A = List (List ℕ)} (name ∷ names) [] = h in cc)
opens (Some unended) name names h = record { columns = h.0; rows = ap length h.1; bits = tt }

module _ (lines : List (List (List ℕ))) (start : BlifState) (told : HasTold lines start) where
  -- the state after some names of a line
  record After (ports : List (List ℕ)) (count : BlifState → ℕ) (before : List (List ℕ)) (state : BlifState) : Type 0 where
    nets : state.nets ≡ firsts (flat_map names_in lines ++ before)
    ports_are : count state ≡ length (ports ++ before)
    same : Same start state
    unended : state.unended ≡ start.unended

  nets_on : (state : BlifState) (before : List (List ℕ)) (name : List ℕ) → state.nets ≡ firsts (flat_map names_in lines ++ before)
      → names_with state.nets name ≡ firsts (flat_map names_in lines ++ (before ++ name ∷ []))
  nets_on state before name is =
      firsts_with state.nets (flat_map names_in lines ++ before) name is ∙ ap firsts (append_assoc (flat_map names_in lines) before (name ∷ []))

  count_on : (ports before : List (List ℕ)) (name : List ℕ) → length (ports ++ before) + 1 ≡ length (ports ++ (before ++ name ∷ []))
  count_on ports before name = sym (length_push (ports ++ before) name) ∙ ap length (append_assoc ports before (name ∷ []))

  abbrev Inputs : List (List ℕ) → BlifState → Type 0
  Inputs before state = After (flat_map input_words lines) (λ s. length s.machine.inputs) before state

  abbrev Outputs : List (List ℕ) → BlifState → Type 0
  Outputs before state = After (flat_map output_words lines) (λ s. length s.machine.outputs) before state

  input_meets : (before : List (List ℕ)) (state : BlifState) (name : List ℕ) → Inputs before state → Meets (input_read state name) (input_refused lines before name) (Inputs (before ++ name ∷ []))
  input_meets before state name h =
      let Then : BlifState → Type 0 = Inputs (before ++ name ∷ []) in
      let new : BlifState = record state { nets = names_with state.nets name; machine = with_input state.machine (number_for state.nets name) (Some name) } in
      let count : ℕ → Option LineRefusal = λ k. option_or (above quantities.Inputs (k + 1)) None in
      meets_over Then quantities.NameBytes (length name) _ _
      (meets_net Then state.nets (flat_map names_in lines ++ before) h.nets name _ (count (length (flat_map input_words lines ++ before)))
      (subst (λ k. Meets (over quantities.Inputs (length state.machine.inputs + 1) (Ok new)) (count k) Then) h.ports_are
      (meets_over Then quantities.Inputs (length state.machine.inputs + 1) (Ok new) None (
        refl,
        record {
          nets = nets_on state before name h.nets;
          ports_are = length_push state.machine.inputs (number_for state.nets name) ∙ ap (λ k. k + 1) h.ports_are ∙ count_on (flat_map input_words lines) before name;
          same = record { typed = h.same.typed; ended = h.same.ended; model = h.same.model; size = h.same.size; latches = h.same.latches };
          unended = h.unended;
        },
      ))))

  output_meets : (before : List (List ℕ)) (state : BlifState) (name : List ℕ) → Outputs before state → Meets (output_read state name) (output_refused lines before name) (Outputs (before ++ name ∷ []))
  output_meets before state name h =
      let Then : BlifState → Type 0 = Outputs (before ++ name ∷ []) in
      let new : BlifState = record state { nets = names_with state.nets name; machine = with_output state.machine (record { net = number_for state.nets name; negated = false }) (Some name) } in
      let count : ℕ → Option LineRefusal = λ k. option_or (above quantities.Outputs (k + 1)) None in
      meets_over Then quantities.NameBytes (length name) _ _
      (meets_net Then state.nets (flat_map names_in lines ++ before) h.nets name _ (count (length (flat_map output_words lines ++ before)))
      (subst (λ k. Meets (over quantities.Outputs (length state.machine.outputs + 1) (Ok new)) (count k) Then) h.ports_are
      (meets_over Then quantities.Outputs (length state.machine.outputs + 1) (Ok new) None (
        refl,
        record {
          nets = nets_on state before name h.nets;
          ports_are = length_push state.machine.outputs (record { net = number_for state.nets name; negated = false }) ∙ ap (λ k. k + 1) h.ports_are
              ∙ count_on (flat_map output_words lines) before name;
          same = record { typed = h.same.typed; ended = h.same.ended; model = h.same.model; size = h.same.size; latches = h.same.latches };
          unended = h.unended;
        },
      ))))

  record Clocked (before : List (List ℕ)) (state : BlifState) : Type 0 where
    clock : state.clock ≡ first_of (flat_map clocks_in lines ++ before)
    same : Same start state
    unended : state.unended ≡ start.unended

  clock_meets : (before : List (List ℕ)) (state : BlifState) (name : List ℕ) → Clocked before state → Meets (clock_read state name) (clock_refused lines before name) (Clocked (before ++ name ∷ []))
  clock_meets before state name h =
      let Then : BlifState → Type 0 = Clocked (before ++ name ∷ []) in
      let new : BlifState = record state { clock = option_or state.clock (Some name); clocked = true } in
      meets_over Then quantities.NameBytes (length name) _ _
      (meets_where Then (differs_in_clock state.clock name) (differs_from_first (flat_map clocks_in lines ++ before) name) causes.MixedClock (Ok new) None
      (ap (λ (o : Option (List ℕ)). differs_in_clock o name) h.clock ∙ differs_as (flat_map clocks_in lines ++ before) name) (λ e. (
        refl,
        record {
          clock = ap (λ (o : Option (List ℕ)). option_or o (Some name)) h.clock ∙ first_on (flat_map clocks_in lines ++ before) name
              ∙ ap first_of (append_assoc (flat_map clocks_in lines) before (name ∷ []));
          same = record { typed = h.same.typed; ended = h.same.ended; model = h.same.model; size = h.same.size; latches = h.same.latches };
          unended = h.unended;
        },
      )))

  record Columned (before : List (List ℕ)) (state : BlifState) : Type 0 where
    nets : state.nets ≡ firsts (flat_map names_in lines ++ before)
    same : Same start state
    begun : BegunIs state.unended before

  column_meets : (before : List (List ℕ)) (state : BlifState) (name : List ℕ) → Columned before state
      → Meets (column_read state name) (column_refused lines before name) (Columned (before ++ name ∷ []))
  column_meets before state name h =
      let Then : BlifState → Type 0 = Columned (before ++ name ∷ []) in
      meets_over Then quantities.NameBytes (length name) _ _
      (meets_net Then state.nets (flat_map names_in lines ++ before) h.nets name _ None (
        refl,
        record {
          nets = nets_on state before name h.nets;
          same = record { typed = h.same.typed; ended = h.same.ended; model = h.same.model; size = h.same.size; latches = h.same.latches };
          begun = begun_on state.unended before name (number_for state.nets name) h.begun;
        },
      ))

  nothing_changed : Same start start
  nothing_changed = record { typed = refl; ended = refl; model = refl; size = refl; latches = refl }

  nets_first : start.nets ≡ firsts (flat_map names_in lines ++ [])
  nets_first = told.nets ∙ ap firsts (sym (append-nil (flat_map names_in lines)))

  module _ (ended : start.unended ≡ None) where
    -- what a line of words that is no `.names` line leaves
    abbrev Leaves : List (List ℕ) → BlifState → Type 0
    Leaves line next = Adds start next line × OpenIs next.unended None

    none_open : (next : BlifState) → next.unended ≡ start.unended → OpenIs next.unended None
    none_open next e = subst (λ (o : Option OpenEquation). OpenIs o None) (sym (e ∙ ended)) tt

    pub inputs_meet : (words : List (List ℕ)) → Meets (read_on input_read (Ok start) words) (each_name (λ before name. input_refused lines before name) words) (Leaves (codes ".inputs" ∷ words))
    inputs_meet words =
        meets_on (Inputs words) (Leaves (codes ".inputs" ∷ words)) (read_on input_read (Ok start) words) (each_name (λ before name. input_refused lines before name) words)
        (words_meet input_read (λ before name. input_refused lines before name) Inputs input_meets words [] start (record {
          nets = nets_first;
          ports_are = told.inputs ∙ ap length (sym (append-nil (flat_map input_words lines)));
          same = nothing_changed;
          unended = refl;
        })) (λ next h. (same_adds start next (codes ".inputs" ∷ words) h.same refl refl refl refl refl refl, none_open next h.unended))

    pub outputs_meet : (words : List (List ℕ)) → Meets (read_on output_read (Ok start) words) (each_name (λ before name. output_refused lines before name) words) (Leaves (codes ".outputs" ∷ words))
    outputs_meet words =
        meets_on (Outputs words) (Leaves (codes ".outputs" ∷ words)) (read_on output_read (Ok start) words) (each_name (λ before name. output_refused lines before name) words)
        (words_meet output_read (λ before name. output_refused lines before name) Outputs output_meets words [] start (record {
          nets = nets_first;
          ports_are = told.outputs ∙ ap length (sym (append-nil (flat_map output_words lines)));
          same = nothing_changed;
          unended = refl;
        })) (λ next h. (same_adds start next (codes ".outputs" ∷ words) h.same refl refl refl refl refl refl, none_open next h.unended))

    pub clocks_meet : (words : List (List ℕ)) → Meets (read_on clock_read (Ok start) words) (each_name (λ before name. clock_refused lines before name) words) (Leaves (codes ".clock" ∷ words))
    clocks_meet words =
        meets_on (Clocked words) (Leaves (codes ".clock" ∷ words)) (read_on clock_read (Ok start) words) (each_name (λ before name. clock_refused lines before name) words)
        (words_meet clock_read (λ before name. clock_refused lines before name) Clocked clock_meets words [] start (record {
          clock = told.clock ∙ ap first_of (sym (append-nil (flat_map clocks_in lines)));
          same = nothing_changed;
          unended = refl;
        })) (λ next h. (same_adds start next (codes ".clock" ∷ words) h.same refl refl refl refl refl refl, none_open next h.unended))

    abbrev Opens : List (List ℕ) → BlifState → Type 0
    Opens words next = Adds start next (codes ".names" ∷ words) × OpenIs next.unended (Some (record { names = words; rows = [] }))

    pub names_meet : (words : List (List ℕ)) → Meets (names_read start words) (names_refused lines words) (Opens words)
    names_meet [] = refl
    names_meet (name ∷ names) =
        meets_last (Opens (name ∷ names)) _ _
        (meets_on (Columned (name ∷ names)) (Opens (name ∷ names)) (read_on column_read (Ok start) (name ∷ names)) (each_name (λ before name. column_refused lines before name) (name ∷ names))
        (words_meet column_read (λ before name. column_refused lines before name) Columned column_meets (name ∷ names) [] start (record {
          nets = nets_first;
          same = nothing_changed;
          begun = subst (λ (o : Option OpenEquation). BegunIs o []) (sym ended) refl;
        })) (λ next h. (same_adds start next (codes ".names" ∷ name ∷ names) h.same refl refl refl refl refl refl, opens next.unended name names h.begun)))
