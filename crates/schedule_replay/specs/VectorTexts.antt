-- Texts of vectors: what may stand where, what they say, and their refusals.
use Rattle.std.specs.Prelude.{ℕ, ◌+◌, ◌++◌, ◌||◌, Bool, List, [], ◌∷◌, Option, Some, None, Result, Ok, Err, length, take, codes, nat_lt, if◌then◌else◌}
use Rattle.std.specs.Option.{option_or}
use Rattle.std.specs.Str.{bytes_eq}
use Rattle.pulse_ids.specs.Ids.{WireId}
use Rattle.pulse_ids.specs.Quantities.{greatest_of}
use Rattle.pulse_ids.specs.declared.quantities.Quantity.TheVariants as quantities
use Rattle.word_scan.specs.Lines.{whole_lines, last_line}
use Rattle.schedule_replay.specs.declared.refusals.VectorRefusal.{VectorRefusal}
use Rattle.schedule_replay.specs.declared.refusals.VectorRefusal.TheVariants as refusals
use Rattle.schedule_replay.specs.declared.vector_lines.Form.{Form}
use Rattle.schedule_replay.specs.declared.vector_lines.Due.{Due}
use Rattle.schedule_replay.specs.declared.vector_lines.Due.TheVariants.{Head, Vector, Excite, Relax, Nothing}
use Rattle.schedule_replay.specs.PlainVectors.{PlainVectors}
use Rattle.schedule_replay.specs.VectorLines.{vector_of, script_in}

-- what comes after a right line: first vectors or `stop`, after `stop` nothing, and after a vector its two scripts,
-- where there are scripts
abbrev pub due_next : Bool → Due → List ℕ → Due
due_next scripted Head line = Vector
due_next scripted Vector line = if bytes_eq line (codes "stop") then Nothing else if scripted then Excite else Vector
due_next scripted Excite line = Relax
due_next scripted Relax line = Vector
due_next scripted Nothing line = Nothing

-- what comes after right lines
abbrev pub due_from : Bool → Due → List (List ℕ) → Due
due_from scripted due [] = due
due_from scripted due (line ∷ lines) = due_from scripted (due_next scripted due line) lines

abbrev pub due_after : Form → List (List ℕ) → Due
due_after form lines = due_from form.scripted Head lines

abbrev pub items_of : {X : Type 0} → Option X → List X
items_of None = []
items_of (Some x) = x ∷ []

-- the vectors among lines
abbrev pub vectors_in : ℕ → List (List ℕ) → List (List Bool)
vectors_in inputs [] = []
vectors_in inputs (line ∷ lines) = items_of (vector_of inputs line) ++ vectors_in inputs lines

-- the scripts among lines
abbrev pub scripts_in : List (List ℕ) → List (List WireId)
scripts_in [] = []
scripts_in (line ∷ lines) = items_of (script_in line) ++ scripts_in lines

-- why a line of this number is refused where a vector or `stop` is due and so many vectors came before
abbrev pub vector_refusal : ℕ → ℕ → Option (List Bool) → Option VectorRefusal
vector_refusal number count None = Some (refusals.BadLine number)
vector_refusal number count (Some vector) =
    if nat_lt count (greatest_of quantities.Vectors) then None else Some (refusals.Limit quantities.Vectors)

-- and where a script is due
abbrev pub script_refusal : ℕ → Option (List WireId) → Option VectorRefusal
script_refusal number None = Some (refusals.BadLine number)
script_refusal number (Some script) = None

-- why a line of this number is refused where this is due and so many vectors came before
abbrev pub refusal_at : ℕ → ℕ → Due → ℕ → List ℕ → Option VectorRefusal
refusal_at inputs number Head count line = if bytes_eq line (codes "vectors") then None else Some (refusals.BadLine number)
refusal_at inputs number Vector count line = if bytes_eq line (codes "stop") then None else vector_refusal number count (vector_of inputs line)
refusal_at inputs number Excite count line = script_refusal number (script_in line)
refusal_at inputs number Relax count line = script_refusal number (script_in line)
refusal_at inputs number Nothing count line = Some (refusals.BadLine number)

-- the number of the line after these
abbrev pub number_after : Form → List (List ℕ) → ℕ
number_after form lines = form.before + length lines + 1

-- why a line after others is refused
abbrev pub line_refusal : Form → List (List ℕ) → List ℕ → Option VectorRefusal
line_refusal form before line =
    refusal_at form.inputs (number_after form before) (due_after form before) (length (vectors_in form.inputs before)) line

-- the first refusal among lines that stand after others
abbrev pub first_refusal : Form → List (List ℕ) → List (List ℕ) → Option VectorRefusal
first_refusal form before [] = None
first_refusal form before (line ∷ lines) = option_or (line_refusal form before line) (first_refusal form (before ++ line ∷ []) lines)

-- the greatest number of bytes
abbrev pub limit : ℕ
limit = greatest_of quantities.TailBytes

-- what shows at the end of right lines, where these bytes are left of the next one and perhaps more bytes follow
-- above the limit: a byte after `stop`, or the limit
abbrev pub end_refusal : ℕ → Due → List ℕ → Bool → Option VectorRefusal
end_refusal number Nothing left more = if more || nat_lt 0 (length left) then Some (refusals.BadLine number) else None
end_refusal number due left more = if more then Some (refusals.Limit quantities.TailBytes) else None

-- what bytes within the limit show, where perhaps more follow above it
abbrev pub shown_by : Form → List ℕ → Bool → Option VectorRefusal
shown_by form text more =
    option_or (first_refusal form [] (whole_lines text))
    (end_refusal (number_after form (whole_lines text)) (due_after form (whole_lines text)) (last_line text) more)

-- the refusal that the bytes so far show: the first one of a whole line within the limit, or else a byte after `stop`
-- or the limit
abbrev pub early : Form → List ℕ → Option VectorRefusal
early form text = shown_by form (take limit text) (nat_lt limit (length text))

-- what right lines say, where `stop` is the last of them
abbrev pub said_by : Due → PlainVectors → Result PlainVectors VectorRefusal
said_by Nothing vectors = Ok vectors
said_by due vectors = Err refusals.Truncated

abbrev pub vectors_of : Form → List (List ℕ) → PlainVectors
vectors_of form lines = record { vectors = vectors_in form.inputs lines; scripts = scripts_in lines }

abbrev pub unless_shown : {A : Type 0} → Option VectorRefusal → Result A VectorRefusal → Result A VectorRefusal
unless_shown None others = others
unless_shown (Some refusal) others = Err refusal

-- the judgement of a text: its first refusal, else that its end is missing, else its vectors and scripts
abbrev pub judgement : Form → List ℕ → Result PlainVectors VectorRefusal
judgement form text =
    unless_shown (early form text) (said_by (due_after form (whole_lines text)) (vectors_of form (whole_lines text)))
