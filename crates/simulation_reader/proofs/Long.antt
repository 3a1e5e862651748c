-- An input beyond the limits of both of its texts shows a refusal.
use Rattle.std.proofs.Common.{◌≡◌, ◌≤◌, ◌<◌, ◌+◌, ◌++◌, ℕ, Bool, true, false, List, [], length, take, drop, Option, Some, None, sym, ap, ◌∙◌, arith, refl, append-nil}
use Rattle.std.specs.Prelude.{option_map}
use Rattle.std.specs.Option.{option_or}
use Rattle.std.proofs.lemmas.Bool.{lt-ltb}
use Rattle.std.proofs.lemmas.List.{length-append, length-take, take-append-drop, take_all}
use Rattle.word_scan.specs.Lines.{whole_lines, last_line}
use Rattle.netlist_reader.specs.declared.refusals.NetRefusal.{NetRefusal}
use Rattle.netlist_reader.specs.Places.{netlist_in, to_end, has_end}
use Rattle.netlist_reader.specs.Verdicts as nets
use Rattle.netlist_reader.proofs.CallerLemmas.{after_end_joined, long_has_rest}
use Rattle.schedule_replay.specs.declared.refusals.VectorRefusal.{VectorRefusal}
use Rattle.schedule_replay.specs.declared.vector_lines.Due.{Due}
use Rattle.schedule_replay.specs.declared.vector_lines.Due.TheVariants.{Head, Vector, Excite, Relax, Nothing}
use Rattle.schedule_replay.specs.declared.vector_lines.Form.{Form}
use Rattle.schedule_replay.specs.VectorTexts as vectors
use Rattle.simulation_reader.specs.InputTexts as inputs
use Rattle.simulation_reader.specs.Laws.{LongShows}
use Rattle.simulation_reader.proofs.Inputs.{more-early, net-early}

-- bytes beyond the limit show a refusal of vectors
some-or : (shown : Option VectorRefusal) (number : ℕ) (due : Due) (left : List ℕ) → option_or shown (vectors.end_refusal number due left true) ≡ None → ⊥
some-or (Some x) number due left h = cc
some-or None number Head left h = cc
some-or None number Vector left h = cc
some-or None number Excite left h = cc
some-or None number Relax left h = cc
some-or None number Nothing left h = cc

long-vectors : (form : Form) (rest : List ℕ) → vectors.limit < length rest → vectors.early form rest ≡ None → ⊥
long-vectors form rest long quiet =
    let first = take vectors.limit rest in
    some-or (vectors.first_refusal form [] (whole_lines first)) (vectors.number_after form (whole_lines first)) (vectors.due_after form (whole_lines first)) (last_line first)
    (rw (lt-ltb _ _ long) at quiet)

-- what stands after the `end` line is all that is beyond the limit of netlists
long-after : (text : List ℕ) → has_end (nets.lines_in text) ≡ true → length text ≤ nets.limit + length (nets.after_end text)
long-after text ended =
    let first : List ℕ = take nets.limit text in
    let rest : List ℕ = drop nets.limit text in
    let same : nets.lines_in first ≡ nets.lines_in text = ap (λ l. to_end (whole_lines l)) (take_all nets.limit first (omega (arith, length-take nets.limit text))) in
    let sums : length first + length rest ≡ length text = sym (length-append first rest) ∙ ap length (take-append-drop nets.limit text) in
    let joined : nets.after_end text ≡ nets.after_end first ++ rest = ap nets.after_end (sym (take-append-drop nets.limit text)) ∙ after_end_joined first rest (ap has_end same ∙ ended) in
    omega (arith, sums, length-take nets.limit text, ap length joined, length-append (nets.after_end first) rest)

none-of : (shown : Option VectorRefusal) → option_map inputs.of_vectors shown ≡ None → shown ≡ None
none-of None e = refl
none-of (Some x) e = cc

abbrev form_in : Bool → List ℕ → Form
form_in scripted text = inputs.form_of scripted (netlist_in (nets.lines_in text)) (length (nets.lines_in text))

pub long-shows : LongShows
long-shows scripted text long quiet = by-early (nets.early text) refl
  where
    by-end : (b : Bool) → has_end (nets.lines_in text) ≡ b → nets.early text ≡ None → ⊥
    by-end true ended none =
        let now : inputs.early scripted text ≡ option_map inputs.of_vectors (vectors.early (form_in scripted text) (nets.after_end text)) =
        ap (inputs.early scripted) (sym (append-nil text)) ∙ more-early text none ended scripted []
        ∙ ap (λ l. option_map inputs.of_vectors (vectors.early (form_in scripted text) l)) (append-nil (nets.after_end text)) in
        long-vectors (form_in scripted text) (nets.after_end text) (omega (arith, long, long-after text ended)) (none-of _ (sym now ∙ quiet))
    by-end false unended none = long_has_rest text (omega (arith, long)) none (rw unended refl)

    by-early : (shown : Option NetRefusal) → nets.early text ≡ shown → ⊥
    by-early (Some refusal) e = let some = net-early scripted text refusal e in absurd cc
    by-early None e = by-end (has_end (nets.lines_in text)) refl e
