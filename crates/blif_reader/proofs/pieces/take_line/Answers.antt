-- A part of a piece.
use Rattle.std.proofs.Common.{◌≡◌, ◌+◌, ◌-◌, Bool, true, false, not, cond, ◌∷◌, [], ℕ, List, length, take, refl, sym, ap, subst, ◌∙◌, arith}
use Rattle.std.proofs.lemmas.Result.{err_from_is_err_and}
use Rattle.word_scan.specs.Lines.{PlainLines, next_number}
use Rattle.blif_reader.specs.declared.refusals.BlifRefusal.{BlifRefusal}
use Rattle.blif_reader.specs.Readings.{HasRead}
use Rattle.blif_reader.proofs.Taking.{or_memory_then, open_step, line_step, line_stops}
use Rattle.blif_reader.proofs.pieces.take_line.Goals as goal

pub returns-in_err-read_line-clause-err : goal.returns-in_err-read_line-clause-err
returns-in_err-read_line-clause-err c =
    let p = err_from_is_err_and c.from_residual.result c.from_residual.ensures.1 in
    let whole = c.in-Some.ensures.whole in
    let refusal : BlifRefusal = c.in_err-read_line.field-0.0 in
    let number : c.number-number.result - 1 ≡ next_number c.args.lines.now = omega (arith, c.number-number.ensures, ap (λ (l : PlainLines). l.number) whole.next) in
    rw (p.1, p.2) (λ text has. or_memory_then refusal _ _ (λ h. line_stops c.args.unset text c.args.lines.now c.args.logical.now c.args.state.now has c.args.piece.now
    c.in-Some.line.now (length c.in-Some.line.now + 1) _ refusal whole.part.lines number h) c.in_err-read_line.ensures.err)

pub returns-in-Some-clause-ok : goal.returns-in-Some-clause-ok
returns-in-Some-clause-ok c =
    let whole = c.in-Some.ensures.whole in
    let number : c.number-number.result - 1 ≡ next_number c.args.lines.now = omega (arith, c.number-number.ensures, ap (λ (l : PlainLines). l.number) whole.next) in
    λ text has. line_step c.args.unset text c.args.lines.now c.args.logical.now c.args.state.now has (take (length c.in-Some.line.now + 1) c.args.piece.now) c.in-Some.line.now _
    c.take_whole.new.self c.read_line.new.logical c.read_line.new.state whole.part.lines number (c.in-Some.ensures.at text has.at) c.in_ok-read_line.ensures.begun c.in_ok-read_line.ensures.ok

is_false : (b : Bool) → not b ≡ true → b ≡ false
is_false true h = absurd cc
is_false false h = refl

is_true : (b : Bool) → not b ≡ false → b ≡ true
is_true true h = refl
is_true false h = absurd cc

pub returns-then-not-taken-clause-ok : goal.returns-then-not-taken-clause-ok
returns-then-not-taken-clause-ok c =
    let none = c.in_ok-taken.ensures.part.lines ∙ ap (λ b. cond b (c.take.new.self.line ∷ []) []) (is_false c.in_ok-taken.taken.whole c.if-not-taken.true) in
    λ text known. let has = subst (λ (l : PlainLines). HasRead c.args.unset text l c.args.logical.now c.args.state.now)
    (sym c.in_default.ensures.none) known in open_step c.args.unset text c.take_whole.new.self c.args.logical.now c.args.state.now has
    (take c.in_ok-taken.taken.used c.args.piece.now) c.take.new.self none
    (c.in_ok-taken.ensures.at text has.at)

pub returns-in_err-read_line-2-clause-err : goal.returns-in_err-read_line-2-clause-err
returns-in_err-read_line-2-clause-err c =
    let p = err_from_is_err_and c.from_residual-in_err-read_line-2.result c.from_residual-in_err-read_line-2.ensures.1 in
    let refusal : BlifRefusal = c.in_err-read_line-2.field-0.0 in
    let one = c.in_ok-taken.ensures.part.lines ∙ ap (λ b. cond b (c.take.new.self.line ∷ []) []) (is_true c.in_ok-taken.taken.whole c.if-not-taken.false)
    ∙ ap (λ (l : List ℕ). l ∷ []) (sym c.line.ensures.line) in
    let number : c.number.result ≡ next_number c.take_whole.new.self = c.number.ensures ∙ c.in_ok-taken.ensures.number in
    rw (p.1, p.2) (λ text known. let has = subst (λ (l : PlainLines). HasRead c.args.unset text l c.args.logical.now c.args.state.now)
    (sym c.in_default.ensures.none) known in or_memory_then refusal _ _ (λ h. line_stops c.args.unset text c.take_whole.new.self c.args.logical.now c.args.state.now has c.args.piece.now
    c.line.result.now c.in_ok-taken.taken.used _ refusal one number h) c.in_err-read_line-2.ensures.err)

pub returns-clause-ok : goal.returns-clause-ok
returns-clause-ok c =
    let one = c.in_ok-taken.ensures.part.lines ∙ ap (λ b. cond b (c.take.new.self.line ∷ []) []) (is_true c.in_ok-taken.taken.whole c.if-not-taken.false)
    ∙ ap (λ (l : List ℕ). l ∷ []) (sym c.line.ensures.line) in
    let number : c.number.result ≡ next_number c.take_whole.new.self = c.number.ensures ∙ c.in_ok-taken.ensures.number in
    λ text known. let has = subst (λ (l : PlainLines). HasRead c.args.unset text l c.args.logical.now c.args.state.now)
    (sym c.in_default.ensures.none) known in line_step c.args.unset text c.take_whole.new.self c.args.logical.now c.args.state.now has
    (take c.in_ok-taken.taken.used c.args.piece.now) c.line.result.now _
    c.take.new.self c.read_line-2.new.logical c.read_line-2.new.state one number (c.in_ok-taken.ensures.at text has.at) c.in_ok-read_line-2.ensures.begun c.in_ok-read_line-2.ensures.ok
