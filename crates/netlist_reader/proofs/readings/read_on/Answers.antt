-- A piece, up to the limit.
use Rattle.std.proofs.Common.{◌≡◌, ◌++◌, Err, List, ℕ, take, length, subst, sym, ◌∙◌, arith}
use Rattle.std.proofs.lemmas.Result.{err_from_is_err_and}
use Rattle.std.proofs.lemmas.List.{take_all}
use Rattle.word_scan.specs.Reading.{HasRead, text_read}
use Rattle.word_scan.proofs.CallerLemmasPieces.{taken_prefix}
use Rattle.word_scan.specs.Lines.{whole_lines}
use Rattle.netlist_reader.specs.Building.{line_read, start, OrMemory, StopsReading}
use Rattle.netlist_reader.proofs.Memory.{or_memory_then}
use Rattle.netlist_reader.proofs.Texts.{shown_by_line, shown_by_length}
use Rattle.netlist_reader.proofs.Stopping.{stops_by_line, stops_by_length}
use Rattle.netlist_reader.proofs.readings.read_on.Goals as goal

pub returns-in_err-used-clause-err : goal.returns-in_err-used-clause-err
returns-in_err-used-clause-err c =
    let p = err_from_is_err_and c.from_residual.result c.from_residual.ensures.1 in
    let refusal = c.in_err-used.field-0.0 in
    let piece = c.args.piece.now in
    let prefix = taken_prefix piece c.min-within.result c.args.room c.min-within.ensures in
    rw (p.1, p.2) (λ text e has. or_memory_then refusal _ _ (shown_by_line text piece c.args.room refusal c.requires.room e)
    (subst (λ (part : List ℕ). OrMemory refusal (text_read line_read start (text ++ part) ≡ Err refusal)) prefix (c.in_err-used.ensures.err text has)))

pub returns-then-not-has_ended-clause-err : goal.returns-then-not-has_ended-clause-err
returns-then-not-has_ended-clause-err c =
    let piece = c.args.piece.now in
    let prefix = taken_prefix piece c.min-within.result c.args.room c.min-within.ensures in
    let ended = sym c.has_ended.ensures ∙ c.if-not-has_ended.true in
    let used = c.in_ok-used.used in
    let all : used ≡ length (take c.min-within.result piece) = c.in_ok-used.ensures.all ended in
    let whole : take used (take c.min-within.result piece) ≡ take c.args.room piece = take_all used (take c.min-within.result piece) (omega (arith, all)) ∙ prefix in
    λ text e has. shown_by_length text piece c.args.room c.take_piece.new.lines c.take_piece.new.built c.requires.room e c.if-room-piece.true ended
    (subst (λ (part : List ℕ). HasRead line_read start (text ++ part) c.take_piece.new.lines c.take_piece.new.built) whole (c.in_ok-used.ensures.ok text has))

pub returns-in_err-used-clause-stops : goal.returns-in_err-used-clause-stops
returns-in_err-used-clause-stops c =
    let p = err_from_is_err_and c.from_residual.result c.from_residual.ensures.1 in
    let refusal = c.in_err-used.field-0.0 in
    let piece = c.args.piece.now in
    let left = c.take_piece.new.built in
    let prefix = taken_prefix piece c.min-within.result c.args.room c.min-within.ensures in
    rw (p.1, p.2) (λ text e has. stops_by_line text piece c.args.room refusal left c.requires.room e
    (subst (λ (part : List ℕ). StopsReading (whole_lines (text ++ part)) refusal left) prefix (c.in_err-used.ensures.stops text has)))

pub returns-then-not-has_ended-clause-stops : goal.returns-then-not-has_ended-clause-stops
returns-then-not-has_ended-clause-stops c =
    let piece = c.args.piece.now in
    let prefix = taken_prefix piece c.min-within.result c.args.room c.min-within.ensures in
    let ended = sym c.has_ended.ensures ∙ c.if-not-has_ended.true in
    let used = c.in_ok-used.used in
    let all : used ≡ length (take c.min-within.result piece) = c.in_ok-used.ensures.all ended in
    let whole : take used (take c.min-within.result piece) ≡ take c.args.room piece = take_all used (take c.min-within.result piece) (omega (arith, all)) ∙ prefix in
    λ text e has. stops_by_length text piece c.args.room c.take_piece.new.lines c.take_piece.new.built c.requires.room e c.if-room-piece.true ended
    (subst (λ (part : List ℕ). HasRead line_read start (text ++ part) c.take_piece.new.lines c.take_piece.new.built) whole (c.in_ok-used.ensures.ok text has))
