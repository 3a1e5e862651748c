-- What a reader of vectors keeps of the lines so far, and what each line makes of it.
use Rattle.std.specs.Prelude.{◌≡◌, ◌≤◌, ℕ, ◌+◌, ◌++◌, ◌^◌, Bool, List, [], ◌∷◌, Option, Some, None, Result, Ok, Err, length, codes, nat_lt, if◌then◌else◌, ⊤}
use Rattle.std.specs.Str.{bytes_eq}
use Rattle.pulse_ids.specs.Ids.{WireId}
use Rattle.pulse_ids.specs.Quantities.{greatest_of}
use Rattle.pulse_ids.specs.declared.quantities.Quantity.TheVariants as quantities
use Rattle.schedule_replay.specs.declared.refusals.VectorRefusal.{VectorRefusal}
use Rattle.schedule_replay.specs.declared.refusals.VectorRefusal.TheVariants as refusals
use Rattle.schedule_replay.specs.declared.vector_lines.Form.{Form}
use Rattle.schedule_replay.specs.declared.vector_lines.Due.{Due}
use Rattle.schedule_replay.specs.declared.vector_lines.Due.TheVariants.{Head, Vector, Excite, Relax, Nothing}
use Rattle.schedule_replay.specs.declared.tables.Table.{Table}
use Rattle.flat_lists.specs.FlatLists.{PlainLists}
use Rattle.schedule_replay.specs.VectorLines.{vector_of, script_in}
use Rattle.schedule_replay.specs.VectorTexts.{due_after, vectors_in, scripts_in}

abbrev pub whole : {X : Type 0} → List (List X) → PlainLists X
whole lists = record { lists = lists; begun = [] }

abbrev pub first_table : Table
first_table = record { due = Head; place = 0; vectors = whole []; scripts = whole [] }

-- what is kept of these lines
abbrev pub table_of : Form → List (List ℕ) → Table
table_of form lines = record {
  due = due_after form lines;
  place = length lines;
  vectors = whole (vectors_in form.inputs lines);
  scripts = whole (scripts_in lines);
}

abbrev pub table_bad : Form → Table → VectorRefusal
table_bad form table = refusals.BadLine (form.before + table.place + 1)

abbrev pub passed_by : Due → Table → Table
passed_by due table = record table { due = due; place = table.place + 1 }

abbrev pub after_vector : Bool → Due
after_vector scripted = if scripted then Excite else Vector

-- what a first line makes of the table
abbrev pub head_read : Form → Table → List ℕ → Result Table VectorRefusal
head_read form table line = if bytes_eq line (codes "vectors") then Ok (passed_by Vector table) else Err (table_bad form table)

-- what a vector does
abbrev pub added_read : Form → Table → Option (List Bool) → Result Table VectorRefusal
added_read form table None = Err (table_bad form table)
added_read form table (Some vector) =
    if nat_lt (length table.vectors.lists) (greatest_of quantities.Vectors)
    then Ok (passed_by (after_vector form.scripted) (record table { vectors = whole (table.vectors.lists ++ vector ∷ []) }))
    else Err (refusals.Limit quantities.Vectors)

-- what a line does where a vector or `stop` is due
abbrev pub vector_read : Form → Table → List ℕ → Result Table VectorRefusal
vector_read form table line =
    if bytes_eq line (codes "stop") then Ok (passed_by Nothing table) else added_read form table (vector_of form.inputs line)

-- what a script does, after which this is due
abbrev pub script_read : Form → Due → Table → Option (List WireId) → Result Table VectorRefusal
script_read form next table None = Err (table_bad form table)
script_read form next table (Some script) = Ok (passed_by next (record table { scripts = whole (table.scripts.lists ++ script ∷ []) }))

-- what a line does where this is due
abbrev pub due_read : Form → Due → Table → List ℕ → Result Table VectorRefusal
due_read form Head table line = head_read form table line
due_read form Vector table line = vector_read form table line
due_read form Excite table line = script_read form Relax table (script_in line)
due_read form Relax table line = script_read form Vector table (script_in line)
due_read form Nothing table line = Err (table_bad form table)

abbrev pub line_read : Form → Table → List ℕ → Result Table VectorRefusal
line_read form table line = due_read form table.due table line

-- the table is within its bounds, and no list in it has begun
pub record IsBounded (form : Form) (table : Table) : Type 0 where
  pub before : form.before ≤ 2 ^ 27
  pub few : length table.vectors.lists ≤ greatest_of quantities.Vectors
  pub vector_begun : table.vectors.begun ≡ []
  pub script_begun : table.scripts.begun ≡ []

-- want of memory, or this is so
abbrev pub OrMemory : VectorRefusal → Type 0 → Type 0
OrMemory refusals.NoMemory fact = ⊤
OrMemory refusal fact = fact
