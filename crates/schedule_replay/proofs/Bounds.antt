-- A line that is read keeps the table within its bounds, and is counted.
use Rattle.std.proofs.Common.{◌≡◌, ℕ, ◌+◌, Bool, true, false, cond, ltb, List, [], ◌∷◌, ◌++◌, length, Option, Some, None, Result, Ok, Err, refl, arith, subst, codes}
use Rattle.std.specs.Str.{bytes_eq}
use Rattle.std.proofs.lemmas.Bool.{ltb-true}
use Rattle.std.proofs.lemmas.List.{length-append}
use Rattle.pulse_ids.specs.Ids.{WireId}
use Rattle.pulse_ids.specs.Quantities.{greatest_of}
use Rattle.pulse_ids.specs.declared.quantities.Quantity.TheVariants as quantities
use Rattle.schedule_replay.specs.declared.refusals.VectorRefusal.{VectorRefusal}
use Rattle.schedule_replay.specs.declared.refusals.VectorRefusal.TheVariants as refusals
use Rattle.schedule_replay.specs.declared.vector_lines.Form.{Form}
use Rattle.schedule_replay.specs.declared.vector_lines.Due.{Due}
use Rattle.schedule_replay.specs.declared.vector_lines.Due.TheVariants.{Head, Vector, Excite, Relax, Nothing}
use Rattle.schedule_replay.specs.declared.tables.Table.{Table}
use Rattle.schedule_replay.specs.VectorLines.{vector_of, script_in}
use Rattle.schedule_replay.specs.Tables.{whole, table_bad, passed_by, after_vector, added_read, script_read, due_read, line_read, IsBounded}

pub record Counts (form : Form) (old new : Table) : Type 0 where
  pub bounded : IsBounded form new
  pub place : new.place ≡ old.place + 1

module _ (form : Form) (old : Table) (line : List ℕ) (is : IsBounded form old) where
  passed : (due : Due) → Counts form old (passed_by due old)
  passed due = record {
    bounded = record { before = is.before; few = is.few; vector_begun = is.vector_begun; script_begun = is.script_begun };
    place = refl;
  }

  abbrev IsCounted : Result Table VectorRefusal → Type 0
  IsCounted result = (new : Table) → result ≡ Ok new → Counts form old new

  counted : (table : Table) → Counts form old table → IsCounted (Ok table)
  counted table c new e = let same : table ≡ new = cc in subst (Counts form old) same c

  either : (b : Bool) (table : Table) (refusal : VectorRefusal) → Counts form old table → IsCounted (cond b (Ok table) (Err refusal))
  either true table refusal c = counted table c
  either false table refusal c = λ new e. absurd cc

  added : (room : Bool) (vector : List Bool) → ltb (length old.vectors.lists) (greatest_of quantities.Vectors) ≡ room
      → IsCounted (cond room (Ok (passed_by (after_vector form.scripted) (record old { vectors = whole (old.vectors.lists ++ vector ∷ []) }))) (Err (refusals.Limit quantities.Vectors)))
  added false vector e = λ new e. absurd cc
  added true vector e = counted _ (record {
    bounded = record {
      before = is.before;
      few = let less = ltb-true _ _ e in omega (arith, less, length-append old.vectors.lists (vector ∷ []));
      vector_begun = refl;
      script_begun = is.script_begun;
    };
    place = refl;
  })

  by_vector : (o : Option (List Bool)) → IsCounted (added_read form old o)
  by_vector None = λ new e. absurd cc
  by_vector (Some vector) = added (ltb (length old.vectors.lists) (greatest_of quantities.Vectors)) vector refl

  by_stop : (b : Bool) → IsCounted (cond b (Ok (passed_by Nothing old)) (added_read form old (vector_of form.inputs line)))
  by_stop true = counted _ (passed Nothing)
  by_stop false = by_vector (vector_of form.inputs line)

  by_script : (due : Due) (o : Option (List WireId)) → IsCounted (script_read form due old o)
  by_script due None = λ new e. absurd cc
  by_script due (Some script) = counted _ (record {
    bounded = record { before = is.before; few = is.few; vector_begun = is.vector_begun; script_begun = refl };
    place = refl;
  })

  by_due : (due : Due) → IsCounted (due_read form due old line)
  by_due Head = either (bytes_eq line (codes "vectors")) (passed_by Vector old) (table_bad form old) (passed Vector)
  by_due Vector = by_stop (bytes_eq line (codes "stop"))
  by_due Excite = by_script Relax (script_in line)
  by_due Relax = by_script Vector (script_in line)
  by_due Nothing = λ new e. absurd cc

  pub line_counts : (new : Table) → line_read form old line ≡ Ok new → Counts form old new
  line_counts new e = by_due old.due new e
