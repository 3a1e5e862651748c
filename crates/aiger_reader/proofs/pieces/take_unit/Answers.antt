-- A part of a piece.
use Rattle.std.proofs.Common.{◌++◌, ◌+◌, List, ℕ, length, take, sym, subst, arith}
use Rattle.std.proofs.lemmas.List.{take_all}
use Rattle.std.proofs.lemmas.Result.{err_from_is_err_and}
use Rattle.aiger_reader.specs.Units.{HasNoEnd, IsFirstEnd}
use Rattle.aiger_reader.specs.Sections.{kind_at}
use Rattle.aiger_reader.specs.Readings.{HasRead}
use Rattle.aiger_reader.proofs.PlainLines.{unit_plain}
use Rattle.aiger_reader.proofs.Taking.{open_step, whole_step, whole_stops}
use Rattle.aiger_reader.proofs.pieces.take_unit.Goals as goal

pub read_whole-requires-clause-plain : goal.read_whole-requires-clause-plain
read_whole-requires-clause-plain c kind =
    unit_plain _ c.args.begun.now.items c.args.piece.now c.in-Some.end kind c.requires.fine.unended
    (subst (λ (b : List ℕ). IsFirstEnd (kind_at c.args.built.now.header c.args.built.now.place) (length b) c.args.piece.now c.in-Some.end) c.as_slice.ensures.value c.in-Some.ensures.found)

pub returns-in_err-read_whole-in-Some-clause-err : goal.returns-in_err-read_whole-in-Some-clause-err
returns-in_err-read_whole-in-Some-clause-err c =
    let p = err_from_is_err_and c.from_residual-in_err-read_whole-in-Some.result c.from_residual-in_err-read_whole-in-Some.ensures.1 in
    let found = subst (λ (b : List ℕ). IsFirstEnd (kind_at c.args.built.now.header c.args.built.now.place)
    (length b) c.args.piece.now c.in-Some.end) c.as_slice.ensures.value c.in-Some.ensures.found in
    rw (p.1, p.2) (λ text has. whole_stops c.args.unset text c.args.begun.now.items c.args.piece.now c.args.built.now has
    c.in-Some.end found c.in_err-read_whole-in-Some.field-0.0 c.in_err-read_whole-in-Some.ensures.err)

pub returns-in_ok-extend_from_slice-in-None-clause-ok : goal.returns-in_ok-extend_from_slice-in-None-clause-ok
returns-in_ok-extend_from_slice-in-None-clause-ok c =
    let piece = c.args.piece.now in
    let none = subst (λ (b : List ℕ). HasNoEnd (kind_at c.args.built.now.header c.args.built.now.place) (length b) piece) c.as_slice.ensures.value c.in-None.ensures.none in
    λ text has. subst (λ (p : List ℕ). HasRead c.args.unset (text ++ p) c.extend_from_slice.new.self.items c.args.built.now) (sym (take_all (length piece) piece (omega arith)))
    (subst (λ (b : List ℕ). HasRead c.args.unset (text ++ piece) b c.args.built.now) (sym c.in_ok-extend_from_slice-in-None.ensures.items)
    (open_step c.args.unset text c.args.begun.now.items piece c.args.built.now has none))

pub returns-in_ok-read_whole-in-Some-clause-ok : goal.returns-in_ok-read_whole-in-Some-clause-ok
returns-in_ok-read_whole-in-Some-clause-ok c =
    let found = subst (λ (b : List ℕ). IsFirstEnd (kind_at c.args.built.now.header c.args.built.now.place)
    (length b) c.args.piece.now c.in-Some.end) c.as_slice.ensures.value c.in-Some.ensures.found in
    λ text has. subst (λ (b : List ℕ). HasRead c.args.unset (text ++ take (c.in-Some.end + 1) c.args.piece.now) b c.read_whole.new.built) (sym c.in_ok-read_whole-in-Some.ensures.empty)
    (whole_step c.args.unset text c.args.begun.now.items c.args.piece.now c.args.built.now has c.in-Some.end found c.read_whole.new.built c.in_ok-read_whole-in-Some.ensures.ok)
