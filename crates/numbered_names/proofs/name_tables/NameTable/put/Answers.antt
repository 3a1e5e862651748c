-- A number in the overflow.
use Rattle.std.proofs.Common.{◌≡◌, ◌≤◌, ◌∙◌, List, ℕ, length, ap, arith, subst}
use Rattle.numbered_names.specs.NameTables.{AreTaken, end_of, start_of}
use Rattle.numbered_names.proofs.NameTables.{Updates, put_in_overflow, kept_by_overflow}
use Rattle.numbered_names.proofs.name_tables.NameTable.put.Goals as goal

pub returns-clause-put : goal.returns-clause-put
returns-clause-put c least =
    let old = c.args.self.now in
    let updates = subst (λ (name : List ℕ). Updates old.overflow name c.insert.new.self c.args.number) c.in_ok-key.ensures.items c.in_ok-insert.ensures.updates in
    let slots = old.slots.items in
    let name = c.args.name.now in
    let start = c.start_of-start.result in
    let begins : start ≡ start_of (length slots) name = c.start_of-start.ensures.is ∙ ap (λ n. start_of n name) (c.len.ensures ∙ old.slots.ok.0) in
    let taken = subst (λ (l : List ℕ). AreTaken l start c.taken_end-end.result) c.deref.ensures.value c.taken_end-end.ensures.taken in
    let full : end_of (length slots) start ≤ c.taken_end-end.result = omega (arith, c.if-end-end_of.false, c.end_of.ensures, c.len-2.ensures, old.slots.ok.0) in
    put_in_overflow slots old.overflow c.insert.new.self start c.taken_end-end.result c.args.number name begins full taken updates

pub returns-clause-kept : goal.returns-clause-kept
returns-clause-kept c known other apart least kept =
    let old = c.args.self.now in
    let updates = subst (λ (name : List ℕ). Updates old.overflow name c.insert.new.self c.args.number) c.in_ok-key.ensures.items c.in_ok-insert.ensures.updates in
    kept_by_overflow old.slots.items old.overflow c.insert.new.self c.args.number known c.args.name.now other apart least updates kept
