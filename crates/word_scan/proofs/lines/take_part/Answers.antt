-- A part of a piece.
use Rattle.std.proofs.Common.{take, subst, sym, ◌∙◌, ap, ◌++◌, List, ℕ, ◌+◌, true, false, length}
use Rattle.word_scan.specs.Lines.{TakesPart, HasNoFeed, unless_whole}
use Rattle.word_scan.proofs.CutLemmas.{part_with_end, part_without_end, plain_begun, plain_with_end, plain_without_end}
use Rattle.word_scan.proofs.lines.take_part.Goals as goal

pub returns-in_ok-put-in-Some-clause-taken : goal.returns-in_ok-put-in-Some-clause-taken
returns-in_ok-put-in-Some-clause-taken c =
    let begun = unless_whole c.args.whole c.args.line.now.items in
    subst (λ (l : List ℕ). TakesPart begun c.args.piece.now (record { used = c.in-Some.end + 1; whole = true }) l) (sym c.in_ok-put-in-Some.ensures.ok)
    (part_with_end begun c.args.piece.now c.in-Some.end (sym c.in-Some.ensures))

pub returns-in_ok-put-in-None-clause-taken : goal.returns-in_ok-put-in-None-clause-taken
returns-in_ok-put-in-None-clause-taken c =
    let begun = unless_whole c.args.whole c.args.line.now.items in
    subst (λ (l : List ℕ). TakesPart begun c.args.piece.now (record { used = length c.args.piece.now; whole = false }) l) (sym c.in_ok-put-in-None.ensures.ok)
    (part_without_end begun c.args.piece.now (sym c.in-None.ensures))

pub returns-in_ok-put-in-Some-clause-plain : goal.returns-in_ok-put-in-Some-clause-plain
returns-in_ok-put-in-Some-clause-plain c =
    let begun = unless_whole c.args.whole c.args.line.now.items in
    subst HasNoFeed (sym c.in_ok-put-in-Some.ensures.ok)
    (plain_with_end begun c.args.piece.now c.in-Some.end (sym c.in-Some.ensures) (plain_begun c.args.whole c.args.line.now.items c.requires))

pub returns-in_ok-put-in-None-clause-plain : goal.returns-in_ok-put-in-None-clause-plain
returns-in_ok-put-in-None-clause-plain c =
    let begun = unless_whole c.args.whole c.args.line.now.items in
    subst HasNoFeed (sym c.in_ok-put-in-None.ensures.ok)
    (plain_without_end begun c.args.piece.now (sym c.in-None.ensures) (plain_begun c.args.whole c.args.line.now.items c.requires))
