-- A refusal of an input comes of its bytes.
use Rattle.std.proofs.Common.{ℕ, ◌+◌, ◌||◌, Bool, true, false, cond, List, [], ◌∷◌, ◌++◌, length, take, Some, None, Ok, Err, subst}
use Rattle.std.specs.Prelude.{nat_lt, codes}
use Rattle.std.specs.Option.{option_or}
use Rattle.std.specs.Str.{bytes_eq}
use Rattle.std.specs.declared.option.Option.{Option}
use Rattle.std.specs.declared.result.Result.{Result}
use Rattle.pulse_ids.specs.Ids.{WireId}
use Rattle.pulse_ids.specs.Quantities.{greatest_of}
use Rattle.pulse_ids.specs.declared.quantities.Quantity.TheVariants as quantities
use Rattle.word_scan.specs.Lines.{whole_lines, last_line}
use Rattle.cell_netlist.specs.Netlists.{PlainNetlist}
use Rattle.netlist_reader.specs.declared.refusals.NetRefusal.{NetRefusal}
use Rattle.netlist_reader.specs.declared.refusals.NetRefusal.TheVariants as net_refusals
use Rattle.netlist_reader.specs.Places as places
use Rattle.netlist_reader.specs.Verdicts as nets
use Rattle.netlist_reader.proofs.CallerLemmasOnRefusals.{early_of_bytes, IsOfBytes as IsOfNet}
use Rattle.schedule_replay.specs.declared.refusals.VectorRefusal.{VectorRefusal}
use Rattle.schedule_replay.specs.declared.refusals.VectorRefusal.TheVariants as vector_refusals
use Rattle.schedule_replay.specs.declared.vector_lines.Due.{Due}
use Rattle.schedule_replay.specs.declared.vector_lines.Due.TheVariants.{Head, Vector, Excite, Relax, Nothing}
use Rattle.schedule_replay.specs.declared.vector_lines.Form.{Form}
use Rattle.schedule_replay.specs.PlainVectors.{PlainVectors}
use Rattle.schedule_replay.specs.VectorLines.{vector_of, script_in}
use Rattle.schedule_replay.specs.VectorTexts as vectors
use Rattle.simulation_reader.specs.declared.readers.SimulationInput.{SimulationInput}
use Rattle.simulation_reader.specs.declared.refusals.InputRefusal.{InputRefusal}
use Rattle.simulation_reader.specs.InputTexts as inputs
use Rattle.simulation_reader.specs.Laws.{IsOfBytes, RefusalsAreOfBytes}

-- what is shown of vectors
abbrev VectorShown : Option VectorRefusal → Type 0
VectorShown (Some vector_refusals.NoMemory) = ⊥
VectorShown shown = Unit

or_vector : (one other : Option VectorRefusal) → VectorShown one → VectorShown other → VectorShown (option_or one other)
or_vector None other is are = are
or_vector (Some refusal) other is are = is

by_vector : (number count : ℕ) (vector : Option (List Bool)) → VectorShown (vectors.vector_refusal number count vector)
by_vector number count None = tt
by_vector number count (Some vector) = go (nat_lt count (greatest_of quantities.Vectors))
  where
    go : (b : Bool) → VectorShown (cond b None (Some (vector_refusals.Limit quantities.Vectors)))
    go true = tt
    go false = tt

by_script : (number : ℕ) (script : Option (List WireId)) → VectorShown (vectors.script_refusal number script)
by_script number None = tt
by_script number (Some script) = tt

by_due : (inputs number : ℕ) (due : Due) (count : ℕ) (line : List ℕ) → VectorShown (vectors.refusal_at inputs number due count line)
by_due inputs number Head count line = go (bytes_eq line (codes "vectors"))
  where
    go : (b : Bool) → VectorShown (cond b None (Some (vector_refusals.BadLine number)))
    go true = tt
    go false = tt
by_due inputs number Vector count line = go (bytes_eq line (codes "stop"))
  where
    go : (b : Bool) → VectorShown (cond b None (vectors.vector_refusal number count (vector_of inputs line)))
    go true = tt
    go false = by_vector number count (vector_of inputs line)
by_due inputs number Excite count line = by_script number (script_in line)
by_due inputs number Relax count line = by_script number (script_in line)
by_due inputs number Nothing count line = tt

first_vector : (form : Form) (before lines : List (List ℕ)) → VectorShown (vectors.first_refusal form before lines)
first_vector form before [] = tt
first_vector form before (line ∷ lines) =
    or_vector (vectors.line_refusal form before line) (vectors.first_refusal form (before ++ line ∷ []) lines)
    (by_due form.inputs (vectors.number_after form before) (vectors.due_after form before) (length (vectors.vectors_in form.inputs before)) line)
    (first_vector form (before ++ line ∷ []) lines)

at_stop : (number : ℕ) (b : Bool) → VectorShown (cond b (Some (vector_refusals.BadLine number)) None)
at_stop number true = tt
at_stop number false = tt

over : (b : Bool) → VectorShown (cond b (Some (vector_refusals.Limit quantities.TailBytes)) None)
over true = tt
over false = tt

at_end : (number : ℕ) (due : Due) (left : List ℕ) (more : Bool) → VectorShown (vectors.end_refusal number due left more)
at_end number Nothing left more = at_stop number (more || nat_lt 0 (length left))
at_end number Head left more = over more
at_end number Vector left more = over more
at_end number Excite left more = over more
at_end number Relax left more = over more

vectors_shown : (form : Form) (text : List ℕ) (more : Bool) → VectorShown (vectors.shown_by form text more)
vectors_shown form text more =
    or_vector (vectors.first_refusal form [] (whole_lines text))
    (vectors.end_refusal (vectors.number_after form (whole_lines text)) (vectors.due_after form (whole_lines text)) (last_line text) more)
    (first_vector form [] (whole_lines text)) (at_end (vectors.number_after form (whole_lines text)) (vectors.due_after form (whole_lines text)) (last_line text) more)

-- where a judgement is a refusal, it is one of the bytes
abbrev RefusesBytes : Result SimulationInput InputRefusal → Type 0
RefusesBytes (Ok input) = Unit
RefusesBytes (Err refusal) = IsOfBytes refusal

of_net : (refusal : NetRefusal) → IsOfNet (Some refusal) → IsOfBytes (inputs.of_net refusal)
of_net (net_refusals.BadLine line) is = tt
of_net net_refusals.Truncated is = tt
of_net (net_refusals.Limit quantity) is = tt
of_net net_refusals.NoMemory is = absurd is

of_vectors : (refusal : VectorRefusal) → VectorShown (Some refusal) → IsOfBytes (inputs.of_vectors refusal)
of_vectors (vector_refusals.BadLine line) is = tt
of_vectors vector_refusals.Truncated is = tt
of_vectors (vector_refusals.Limit quantity) is = tt
of_vectors vector_refusals.NoMemory is = absurd is

said : (net : PlainNetlist) (due : Due) (read : PlainVectors) → RefusesBytes (inputs.both_of net (vectors.said_by due read))
said net Nothing read = tt
said net Head read = tt
said net Vector read = tt
said net Excite read = tt
said net Relax read = tt

both : (net : PlainNetlist) (due : Due) (read : PlainVectors) (shown : Option VectorRefusal) → VectorShown shown
    → RefusesBytes (inputs.both_of net (vectors.unless_shown shown (vectors.said_by due read)))
both net due read None is = said net due read
both net due read (Some refusal) is = of_vectors refusal is

judged_bytes : (scripted : Bool) (text : List ℕ) (shown : Option NetRefusal) → IsOfNet shown
    → RefusesBytes (inputs.judged_by scripted (length (nets.lines_in text)) (nets.judged shown text))
judged_bytes scripted text (Some refusal) is = of_net refusal is
judged_bytes scripted text None is = go (places.has_end (nets.lines_in text))
  where
    go : (b : Bool)
        → RefusesBytes (inputs.judged_by scripted (length (nets.lines_in text)) (cond b (Ok (places.netlist_in (nets.lines_in text), nets.after_end text)) (Err net_refusals.Truncated)))
    go true =
        let form = inputs.form_of scripted (places.netlist_in (nets.lines_in text)) (length (nets.lines_in text)) in
        both (places.netlist_in (nets.lines_in text)) (vectors.due_after form (whole_lines (nets.after_end text))) (vectors.vectors_of form (whole_lines (nets.after_end text)))
        (vectors.early form (nets.after_end text)) (vectors_shown form (take vectors.limit (nets.after_end text)) (nat_lt vectors.limit (length (nets.after_end text))))
    go false = tt

pub of_bytes : RefusalsAreOfBytes
of_bytes scripted text refusal e = subst RefusesBytes e (judged_bytes scripted text (nets.early text) (early_of_bytes text))
