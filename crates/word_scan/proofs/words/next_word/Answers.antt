-- The first word of a line.
use Rattle.std.proofs.Common.{◌-◌, take, drop, length, sym}
use Rattle.std.proofs.lemmas.List.{take_rest}
use Rattle.word_scan.specs.Words.{is_blank}
use Rattle.word_scan.proofs.WordLemmas.{no_words, word_from, word_alone}
use Rattle.word_scan.proofs.words.next_word.Goals as goal

pub returns-in_err-start-clause-none : goal.returns-in_err-start-clause-none
returns-in_err-start-clause-none c = rw c.from_residual.ensures (no_words is_blank c.args.line.now (sym c.in_err-start.ensures))

pub returns-in-Some-clause-found : goal.returns-in-Some-clause-found
returns-in-Some-clause-found c =
    let line = c.args.line.now in
    let start = c.in_ok-start.start in
    word_from is_blank line (take (length line - start) (drop start line)) start c.in-Some.end (sym c.in_ok-start.ensures) (take_rest line start) (sym c.in-Some.ensures)

pub returns-in-None-clause-found : goal.returns-in-None-clause-found
returns-in-None-clause-found c =
    let line = c.args.line.now in
    let start = c.in_ok-start.start in
    word_alone is_blank line (take (length line - start) (drop start line)) start (sym c.in_ok-start.ensures) (take_rest line start) (sym c.in-None.ensures)
