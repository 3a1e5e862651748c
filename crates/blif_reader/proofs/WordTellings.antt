-- What each word of a line adds.
use Rattle.std.proofs.Common.{◌≡◌, ℕ, ◌+◌, Bool, true, false, cond, List, [], ◌∷◌, ◌++◌, length, map, Option, Some, Result, Ok, Err, refl, sym, ap, subst, ◌∙◌, append_assoc}
use Rattle.std.specs.Option.{option_or, is_some}
use Rattle.std.proofs.lemmas.List.{append-nil}
use Rattle.std.proofs.Math.Bool.{or-true, or-false}
use Rattle.pulse_ids.specs.declared.quantities.Quantity.{Quantity}
use Rattle.pulse_ids.specs.declared.quantities.Quantity.TheVariants as quantities
use Rattle.numbered_names.specs.Names.{number_in, names_with, number_for}
use Rattle.word_scan.specs.Reading.{read_on}
use Rattle.source_machine.specs.Machines.{PlainLiteral}
use Rattle.source_machine.specs.Additions.{with_input, with_output}
use Rattle.blif_reader.specs.declared.refusals.LineRefusal.{LineRefusal}
use Rattle.blif_reader.specs.declared.refusals.LineRefusal.TheVariants as line_refusals
use Rattle.blif_reader.specs.declared.refusals.BlifCause.TheVariants as causes
use Rattle.blif_reader.specs.States.{BlifState, OpenEquation, with_column}
use Rattle.blif_reader.specs.Latches.{net_read, clock_read, differs_in_clock}
use Rattle.blif_reader.specs.Statements.{input_read, output_read, column_read}
use Rattle.blif_reader.specs.Refusing.{over}
use Rattle.blif_reader.specs.Tellings.{net_of, last_or, all_but_last}
use Rattle.blif_reader.proofs.Inversions.{allowed, over_ok, after_ok}
use Rattle.blif_reader.proofs.LineBounds.{goes_by}
use Rattle.blif_reader.proofs.FirstNames.{Extends, extends_on, extends_joined, net_kept}
use Rattle.blif_reader.proofs.Sayings.{Said, nothing_said, and_then, Tells, tells_on, tells_nothing, or_none}

-- what no word touches
pub record Keeps (state next : BlifState) : Type 0 where
  pub equations : next.machine.equations ≡ state.machine.equations
  pub unended : next.unended ≡ state.unended
  pub modelled : next.modelled ≡ state.modelled

pub keeps_on : (state middle next : BlifState) → Keeps state middle → Keeps middle next → Keeps state next
keeps_on state middle next a b = record { equations = b.equations ∙ a.equations; unended = b.unended ∙ a.unended; modelled = b.modelled ∙ a.modelled }

named_by : (there : Bool) (nets more new : List (List ℕ)) (quantity : Quantity) (count : ℕ) → cond there (Ok nets) (over quantity count (Ok (cond there nets more))) ≡ Ok new
    → new ≡ cond there nets more
named_by true nets more new quantity count h = cc
named_by false nets more new quantity count h = let k = (over_ok quantity count (Ok more) new h).1 in cc

-- the nets after a name
pub net_named : (nets new : List (List ℕ)) (name : List ℕ) → net_read nets name ≡ Ok new → names_with nets name ≡ new
net_named nets new name h = sym (named_by (is_some (number_in nets name)) nets (nets ++ name ∷ []) new quantities.Nets (length nets + 1) h)

abbrev pub says_input : List (List ℕ) → Said
says_input words = record nothing_said { names = words; inputs = words }

abbrev pub says_output : List (List ℕ) → Said
says_output words = record nothing_said { names = words; outputs = words }

abbrev pub says_columns : List (List ℕ) → Said
says_columns words = record nothing_said { names = words }

abbrev pub says_clock : List (List ℕ) → Said
says_clock words = record nothing_said { clocks = words; declared = words }

input_tells : (state next : BlifState) (name : List ℕ) → input_read state name ≡ Ok next → Tells state next (says_input (name ∷ [])) × Keeps state next
input_tells state next name h =
    let short = over_ok quantities.NameBytes (length name) _ next h in
    let net = after_ok (net_read state.nets name) _ next short.1 in
    let port = over_ok quantities.Inputs (length state.machine.inputs + 1) _ next net.2 in
    let nets = net_named state.nets net.0 name net.1 in
    let new : BlifState = record state { nets = names_with state.nets name; machine = with_input state.machine (number_for state.nets name) (Some name) } in
    let is : new ≡ next = ap (λ (l : List (List ℕ)). record state { nets = l; machine = with_input state.machine (number_for state.nets name) (Some name) }) nets ∙ (let k = port.1 in cc) in
    subst (λ (s : BlifState). Tells state s (says_input (name ∷ [])) × Keeps state s) is (
      record {
        nets = refl;
        inputs = λ big x. ap (λ n. state.machine.inputs ++ n ∷ []) (sym (net_kept state.nets big name x));
        input_names = refl;
        outputs = λ big x. sym (append-nil state.machine.outputs);
        output_names = sym (append-nil state.machine.output_names);
        latches = λ big x. sym (append-nil state.machine.latches);
        clock = sym (or_none state.clock);
        clocked = sym (or-false state.clocked);
      },
      record { equations = refl; unended = refl; modelled = refl },
    )

output_tells : (state next : BlifState) (name : List ℕ) → output_read state name ≡ Ok next → Tells state next (says_output (name ∷ [])) × Keeps state next
output_tells state next name h =
    let short = over_ok quantities.NameBytes (length name) _ next h in
    let net = after_ok (net_read state.nets name) _ next short.1 in
    let port = over_ok quantities.Outputs (length state.machine.outputs + 1) _ next net.2 in
    let nets = net_named state.nets net.0 name net.1 in
    let literal : PlainLiteral = record { net = number_for state.nets name; negated = false } in
    let new : BlifState = record state { nets = names_with state.nets name; machine = with_output state.machine literal (Some name) } in
    let is : new ≡ next = ap (λ (l : List (List ℕ)). record state { nets = l; machine = with_output state.machine literal (Some name) }) nets ∙ (let k = port.1 in cc) in
    subst (λ (s : BlifState). Tells state s (says_output (name ∷ [])) × Keeps state s) is (
      record {
        nets = refl;
        inputs = λ big x. sym (append-nil state.machine.inputs);
        input_names = sym (append-nil state.machine.input_names);
        outputs = λ big x. ap (λ n. state.machine.outputs ++ (record { net = n; negated = false }) ∷ []) (sym (net_kept state.nets big name x));
        output_names = refl;
        latches = λ big x. sym (append-nil state.machine.latches);
        clock = sym (or_none state.clock);
        clocked = sym (or-false state.clocked);
      },
      record { equations = refl; unended = refl; modelled = refl },
    )

clock_tells : (state next : BlifState) (name : List ℕ) → clock_read state name ≡ Ok next → Tells state next (says_clock (name ∷ [])) × Keeps state next
clock_tells state next name h =
    let new : BlifState = record state { clock = option_or state.clock (Some name); clocked = true } in
    let short = over_ok quantities.NameBytes (length name) (cond (differs_in_clock state.clock name) (Err (line_refusals.Cause causes.MixedClock)) (Ok new)) next h in
    let right = allowed (differs_in_clock state.clock name) (line_refusals.Cause causes.MixedClock) (Ok new) next short.1 in
    let is : new ≡ next = let k = right.1 in cc in
    subst (λ (s : BlifState). Tells state s (says_clock (name ∷ [])) × Keeps state s) is (
      record {
        nets = refl;
        inputs = λ big x. sym (append-nil state.machine.inputs);
        input_names = sym (append-nil state.machine.input_names);
        outputs = λ big x. sym (append-nil state.machine.outputs);
        output_names = sym (append-nil state.machine.output_names);
        latches = λ big x. sym (append-nil state.machine.latches);
        clock = refl;
        clocked = sym (or-true state.clocked);
      },
      record { equations = refl; unended = refl; modelled = refl },
    )

module _ (read : BlifState → List ℕ → Result BlifState LineRefusal) (says : List (List ℕ) → Said) (none : says [] ≡ nothing_said)
    (join : (word : List ℕ) (words : List (List ℕ)) → says (word ∷ words) ≡ and_then (says (word ∷ [])) (says words))
    (each : (state next : BlifState) (word : List ℕ) → read state word ≡ Ok next → Tells state next (says (word ∷ [])) × Keeps state next) where
  -- words that are read one after the other
  words_tell : (words : List (List ℕ)) (state next : BlifState) → read_on read (Ok state) words ≡ Ok next → Tells state next (says words) × Keeps state next
  words_tell [] state next h =
      let is : state ≡ next = cc in
      subst (λ (s : BlifState). Tells state s (says []) × Keeps state s) is
      (subst (λ (d : Said). Tells state state d) (sym none) (tells_nothing state state refl refl refl refl), record { equations = refl; unended = refl; modelled = refl })
  words_tell (word ∷ words) state next h =
      goes_by read (Tells state next (says (word ∷ words)) × Keeps state next) (read state word) words next h (λ middle is rest.
      let one = each state middle word is in
      let more = words_tell words middle next rest in
      (subst (λ (d : Said). Tells state next d) (sym (join word words)) (tells_on state middle next (says (word ∷ [])) (says words) one.0 more.0), keeps_on state middle next one.1 more.1))

pub inputs_tell : (words : List (List ℕ)) (state next : BlifState) → read_on input_read (Ok state) words ≡ Ok next → Tells state next (says_input words) × Keeps state next
inputs_tell words state next h = words_tell input_read says_input refl (λ word words. refl) input_tells words state next h

pub outputs_tell : (words : List (List ℕ)) (state next : BlifState) → read_on output_read (Ok state) words ≡ Ok next → Tells state next (says_output words) × Keeps state next
outputs_tell words state next h = words_tell output_read says_output refl (λ word words. refl) output_tells words state next h

pub clocks_tell : (words : List (List ℕ)) (state next : BlifState) → read_on clock_read (Ok state) words ≡ Ok next → Tells state next (says_clock words) × Keeps state next
clocks_tell words state next h = words_tell clock_read says_clock refl (λ word words. refl) clock_tells words state next h

-- a column, before its equation is told
pub record Column (state next : BlifState) (name : List ℕ) : Type 0 where
  pub tells : Tells state next (says_columns (name ∷ []))
  pub nets : next.nets ≡ names_with state.nets name
  pub equations : next.machine.equations ≡ state.machine.equations
  pub modelled : next.modelled ≡ state.modelled
  pub unended : next.unended ≡ Some (with_column state.unended (number_for state.nets name))

pub column_tells : (state next : BlifState) (name : List ℕ) → column_read state name ≡ Ok next → Column state next name
column_tells state next name h =
    let short = over_ok quantities.NameBytes (length name) _ next h in
    let net = after_ok (net_read state.nets name) _ next short.1 in
    let nets = net_named state.nets net.0 name net.1 in
    let new : BlifState = record state { nets = names_with state.nets name; unended = Some (with_column state.unended (number_for state.nets name)) } in
    let is : new ≡ next = ap (λ (l : List (List ℕ)). record state { nets = l; unended = Some (with_column state.unended (number_for state.nets name)) }) nets ∙ (let k = net.2 in cc) in
    subst (λ (s : BlifState). Column state s name) is (record {
      tells = record {
        nets = refl;
        inputs = λ big x. sym (append-nil state.machine.inputs);
        input_names = sym (append-nil state.machine.input_names);
        outputs = λ big x. sym (append-nil state.machine.outputs);
        output_names = sym (append-nil state.machine.output_names);
        latches = λ big x. sym (append-nil state.machine.latches);
        clock = sym (or_none state.clock);
        clocked = sym (or-false state.clocked);
      };
      nets = refl;
      equations = refl;
      modelled = refl;
      unended = refl;
    })

-- an equation whose net becomes a column for each further one
abbrev pub grown : OpenEquation → List ℕ → OpenEquation
grown unended numbers = record {
  equation = record unended.equation { net = last_or unended.equation.net numbers };
  columns = unended.columns ++ all_but_last unended.equation.net numbers;
}

pub record Columns (state next : BlifState) (unended : OpenEquation) (names : List (List ℕ)) : Type 0 where
  pub tells : Tells state next (says_columns names)
  pub equations : next.machine.equations ≡ state.machine.equations
  pub modelled : next.modelled ≡ state.modelled
  pub opened : (big : List (List ℕ)) → Extends next.nets big → next.unended ≡ Some (grown unended (map (net_of big) names))

pub columns_tell : (names : List (List ℕ)) (state next : BlifState) (unended : OpenEquation) → state.unended ≡ Some unended → read_on column_read (Ok state) names ≡ Ok next
    → Columns state next unended names
columns_tell [] state next unended e h =
    let is : state ≡ next = cc in
    subst (λ (s : BlifState). Columns state s unended []) is (record {
      tells = tells_nothing state state refl refl refl refl;
      equations = refl;
      modelled = refl;
      opened = λ big x. e ∙ ap (λ (l : List ℕ). Some (record { equation = unended.equation; columns = l })) (sym (append-nil unended.columns));
    })
columns_tell (name ∷ names) state next unended e h =
    goes_by column_read (Columns state next unended (name ∷ names)) (column_read state name) names next h (λ middle is rest.
    let one = column_tells state middle name is in
    let number : ℕ = number_for state.nets name in
    let later : OpenEquation = with_column (Some unended) number in
    let more = columns_tell names middle next later (one.unended ∙ ap (λ (o : Option OpenEquation). Some (with_column o number)) e) rest in
    let grows : Extends (names_with state.nets name) next.nets = subst (λ (l : List (List ℕ)). Extends l next.nets) one.nets
    (subst (λ (l : List (List ℕ)). Extends middle.nets l) (sym more.tells.nets) (extends_joined middle.nets names)) in
    record {
      tells = tells_on state middle next (says_columns (name ∷ [])) (says_columns names) one.tells more.tells;
      equations = more.equations ∙ one.equations;
      modelled = more.modelled ∙ one.modelled;
      opened = λ big x. more.opened big x
          ∙ ap (λ n. Some (grown (with_column (Some unended) n) (map (net_of big) names))) (sym (net_kept state.nets big name (extends_on (names_with state.nets name) next.nets big grows x)))
          ∙ ap (λ (l : List ℕ). Some (record { equation = record unended.equation { net = last_or (net_of big name) (map (net_of big) names) }; columns = l }))
          (append_assoc unended.columns (unended.equation.net ∷ []) (all_but_last (net_of big name) (map (net_of big) names)));
    })
