-- Each mark adds its literal.
use Rattle.std.proofs.Common.{◌+◌, ◌++◌, ℕ, List, length, map, drop, sym, ap, ◌∙◌, arith, length-append}
use Rattle.std.proofs.lemmas.List.{length-map}
use Rattle.source_machine.specs.Machines.{PlainLiteral, literal_of}
use Rattle.blif_reader.specs.Rows.{literals_of}
use Rattle.blif_reader.proofs.RowMarks.{literals_step, literals_few}
use Rattle.blif_reader.proofs.rows.read_row.Goals as goal

pub add_mark-requires-clause-few : goal.add_mark-requires-clause-few
add_mark-requires-clause-few c =
    let nets : List ℕ = map (λ net. net.number) c.args.columns.now in
    let marks = c.args.marks.now in
    let cube = c.loop-place.cube in
    let rest : List PlainLiteral = literals_of (drop c.loop-place.place nets) (drop c.loop-place.place marks) in
    omega (arith, ap length c.loop-place.invariant, length-append (map literal_of cube) rest, length-map cube literal_of, literals_few nets marks, c.requires.few)

pub loop-place-preserved : goal.loop-place-preserved
loop-place-preserved c =
    let nets : List ℕ = map (λ net. net.number) c.args.columns.now in
    let marks = c.args.marks.now in
    let place = c.loop-place.place in
    let more : List PlainLiteral = literals_of (drop (place + 1) nets) (drop (place + 1) marks) in
    let step = literals_step c.args.columns.now marks place _ _ (omega (arith, c.requires.same, c.loop-place-test.true)) c.loop-place-test.true in
    sym (c.in_ok-add_mark.ensures more) ∙ ap (λ (l : List PlainLiteral). map literal_of c.loop-place.cube ++ l) (sym step) ∙ c.loop-place.invariant
