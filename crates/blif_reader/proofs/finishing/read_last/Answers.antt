-- The last physical line, where there is one.
use Rattle.std.proofs.Common.{◌≡◌, ◌∷◌, [], ℕ, List, sym, ap, subst, ◌∙◌, Result, Ok, Err}
use Rattle.std.specs.Prelude.{OnOk, IfErr}
use Rattle.word_scan.specs.Lines.{next_number}
use Rattle.word_scan.specs.Logical.{begun_line}
use Rattle.blif_reader.specs.declared.refusals.BlifRefusal.{BlifRefusal}
use Rattle.blif_reader.specs.States.{BlifState}
use Rattle.blif_reader.specs.Sources.{lines_closed, lines_read}
use Rattle.blif_reader.specs.Readings.{OrMemory}
use Rattle.blif_reader.proofs.finishing.read_last.Goals as goal

pub returns-in-None-clause-ok : goal.returns-in-None-clause-ok
returns-in-None-clause-ok c =
    subst (λ (r : Result BlifState BlifRefusal). OnOk c.read_begun.result (r ≡ Ok c.read_begun.new.state))
    (sym (ap (λ (ls : List (List ℕ)). lines_read c.args.unset (Ok c.args.state.now)
    (lines_closed ls (next_number c.args.lines.now) (begun_line c.args.logical.now))) c.in-None.ensures.none)) c.read_begun.ensures.ok

pub returns-in-None-clause-err : goal.returns-in-None-clause-err
returns-in-None-clause-err c =
    subst (λ (r : Result BlifState BlifRefusal). IfErr c.read_begun.result (λ refusal. OrMemory refusal (r ≡ Err refusal)))
    (sym (ap (λ (ls : List (List ℕ)). lines_read c.args.unset (Ok c.args.state.now)
    (lines_closed ls (next_number c.args.lines.now) (begun_line c.args.logical.now))) c.in-None.ensures.none)) c.read_begun.ensures.err

pub returns-in-Some-clause-ok : goal.returns-in-Some-clause-ok
returns-in-Some-clause-ok c =
    let number : c.number.result ≡ next_number c.args.lines.now = c.number.ensures ∙ c.in-Some.ensures.number in
    subst (λ (r : Result BlifState BlifRefusal). OnOk c.read_closed.result (r ≡ Ok c.read_closed.new.state))
    (sym (ap (λ (ls : List (List ℕ)). lines_read c.args.unset (Ok c.args.state.now) (lines_closed ls (next_number c.args.lines.now) (begun_line c.args.logical.now))) c.in-Some.ensures.some
    ∙ ap (λ n. lines_read c.args.unset (Ok c.args.state.now) (lines_closed (c.in-Some.line.now ∷ []) n (begun_line c.args.logical.now))) (sym number))) c.read_closed.ensures.ok

pub returns-in-Some-clause-err : goal.returns-in-Some-clause-err
returns-in-Some-clause-err c =
    let number : c.number.result ≡ next_number c.args.lines.now = c.number.ensures ∙ c.in-Some.ensures.number in
    subst (λ (r : Result BlifState BlifRefusal). IfErr c.read_closed.result (λ refusal. OrMemory refusal (r ≡ Err refusal)))
    (sym (ap (λ (ls : List (List ℕ)). lines_read c.args.unset (Ok c.args.state.now) (lines_closed ls (next_number c.args.lines.now) (begun_line c.args.logical.now))) c.in-Some.ensures.some
    ∙ ap (λ n. lines_read c.args.unset (Ok c.args.state.now) (lines_closed (c.in-Some.line.now ∷ []) n (begun_line c.args.logical.now))) (sym number))) c.read_closed.ensures.err
