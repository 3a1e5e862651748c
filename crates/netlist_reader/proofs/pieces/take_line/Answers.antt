-- A part of a piece, which a line ends.
use Rattle.std.proofs.Common.{refl}
use Rattle.std.proofs.lemmas.Result.{err_from_is_err_and}
use Rattle.word_scan.specs.Lines.{whole_part}
use Rattle.word_scan.proofs.CallerLemmasReading.{open_step, whole_step, whole_stops}
use Rattle.netlist_reader.specs.Building.{line_read, start}
use Rattle.netlist_reader.proofs.Memory.{or_memory_then}
use Rattle.netlist_reader.proofs.Stopping.{stopped_line, stopped_taking}
use Rattle.netlist_reader.proofs.pieces.take_line.Goals as goal

pub returns-in_err-read-clause-err : goal.returns-in_err-read-clause-err
returns-in_err-read-clause-err c =
    let p = err_from_is_err_and c.from_residual.result c.from_residual.ensures.1 in
    let refusal = c.in_err-read.field-0.0 in
    let line = c.in-Some.line.now in
    rw (p.1, p.2) (λ text has. or_memory_then refusal _ _
    (λ wrong. whole_stops line_read start text c.args.piece.now line c.args.lines.now c.args.built.now refusal (whole_part line) c.in-Some.ensures.whole.part refl has wrong)
    c.in_err-read.ensures.err)

pub returns-in-Some-clause-ok : goal.returns-in-Some-clause-ok
returns-in-Some-clause-ok c =
    let line = c.in-Some.line.now in
    λ text has. whole_step line_read start text c.args.piece.now line c.args.lines.now c.take_whole.new.self c.args.built.now c.read.new.self (whole_part line) c.in-Some.ensures.whole.part refl
    (c.in-Some.ensures.at text has.at) has c.in_ok-read.ensures.ok

pub returns-in_err-read-2-clause-err : goal.returns-in_err-read-2-clause-err
returns-in_err-read-2-clause-err c =
    let p = err_from_is_err_and c.from_residual-in_err-read-2.result c.from_residual-in_err-read-2.ensures.1 in
    let refusal = c.in_err-read-2.field-0.0 in
    let kept = c.in_default.ensures.none in
    rw (p.1, p.2) (λ text has. or_memory_then refusal _ _
    (λ wrong. whole_stops line_read start text c.args.piece.now c.take.new.self.line c.args.lines.now c.args.built.now refusal c.in_ok-taken.taken
    (rw kept at c.in_ok-taken.ensures.part) c.if-taken.true has wrong)
    (rw (c.line.ensures.line) at c.in_err-read-2.ensures.err))

pub returns-in_ok-read-2-clause-ok : goal.returns-in_ok-read-2-clause-ok
returns-in_ok-read-2-clause-ok c =
    let kept = c.in_default.ensures.none in
    λ text has. whole_step line_read start text c.args.piece.now c.take.new.self.line c.args.lines.now c.take.new.self c.args.built.now c.read-then-taken.new.self c.in_ok-taken.taken
    (rw kept at c.in_ok-taken.ensures.part) c.if-taken.true (c.in_ok-taken.ensures.at text (rw kept has.at)) has (rw (c.line.ensures.line) at c.in_ok-read-2.ensures.ok)

pub returns-else-taken-clause-ok : goal.returns-else-taken-clause-ok
returns-else-taken-clause-ok c =
    let kept = c.in_default.ensures.none in
    λ text has. open_step line_read start text c.args.piece.now c.take.new.self.line c.args.lines.now c.take.new.self c.args.built.now c.in_ok-taken.taken (rw kept at c.in_ok-taken.ensures.part)
    c.if-taken.false (c.in_ok-taken.ensures.at text (rw kept has.at)) has

pub returns-in_err-read-clause-stops : goal.returns-in_err-read-clause-stops
returns-in_err-read-clause-stops c =
    let p = err_from_is_err_and c.from_residual.result c.from_residual.ensures.1 in
    let refusal = c.in_err-read.field-0.0 in
    let line = c.in-Some.line.now in
    rw (p.1, p.2) (λ text has. stopped_line text c.args.piece.now line c.args.lines.now c.args.built.now c.read.new.self
    (whole_part line) refusal c.in-Some.ensures.whole.part refl has c.requires.going
    c.in_err-read.ensures.err c.in_err-read.ensures.counted c.in_err-read.ensures.known)

pub returns-in_err-taken-clause-stops : goal.returns-in_err-taken-clause-stops
returns-in_err-taken-clause-stops c =
    let p = err_from_is_err_and c.from_residual-in_err-taken.result c.from_residual-in_err-taken.ensures.1 in
    rw (p.1, p.2) (λ text has. stopped_taking text c.args.piece.now c.args.lines.now c.args.built.now has c.requires.going)

pub returns-in_err-read-2-clause-stops : goal.returns-in_err-read-2-clause-stops
returns-in_err-read-2-clause-stops c =
    let p = err_from_is_err_and c.from_residual-in_err-read-2.result c.from_residual-in_err-read-2.ensures.1 in
    let refusal = c.in_err-read-2.field-0.0 in
    let kept = c.in_default.ensures.none in
    rw (p.1, p.2) (λ text has. stopped_line text c.args.piece.now c.take.new.self.line c.args.lines.now c.args.built.now c.read-then-taken.new.self c.in_ok-taken.taken refusal
    (rw kept at c.in_ok-taken.ensures.part) c.if-taken.true has c.requires.going (rw (c.line.ensures.line) at c.in_err-read-2.ensures.err) c.in_err-read-2.ensures.counted
    (rw (c.line.ensures.line) at c.in_err-read-2.ensures.known))
