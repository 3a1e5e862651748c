-- A piece after which nothing stands, or of which something stands after the `end` line.
use Rattle.std.proofs.Common.{◌≡◌, ◌<◌, ◌≤◌, ◌++◌, inr, true, take, length, ltb-true, ltb-false, sym, ◌∙◌, arith}
use Rattle.netlist_reader.specs.Places.{has_end}
use Rattle.netlist_reader.specs.Verdicts.{lines_in}
use Rattle.netlist_reader.proofs.CallerLemmas.{lines_of_ended}
use Rattle.xsfq_cli.proofs.NetReading.{ended_by, quiet_net, quiet_of, shown_rest}
use Rattle.xsfq_cli.proofs.netlists.NetTextReaderConsumer.feed.Goals as goal

pub returns-then-leaves_bytes-clause-early : goal.returns-then-leaves_bytes-clause-early
returns-then-leaves_bytes-clause-early c = λ text is.
    let fed = c.in-Ok.fed in
    let piece = c.args.piece.now in
    let short : fed.used < length piece = ltb-true _ _ (sym c.leaves_bytes.ensures ∙ c.if-leaves_bytes.true) in
    let ended : has_end (lines_in (text ++ take fed.used piece)) ≡ true =
    sym (c.in-Ok.ensures.ended text is) ∙ ended_by fed.ended fed.used (length piece) c.in-Ok.ensures.all short in
    let none = c.in-Ok.ensures.nothing_after text is in
    let count = c.lines.ensures.lines (text ++ take fed.used piece) (c.in-Ok.ensures.ok text is) c.in-Ok.ensures.goes_on
    ∙ lines_of_ended (text ++ take fed.used piece) ended none in
    inr (shown_rest text piece fed.used c.lines.result short ended none (quiet_of c.feed.result fed _ c.in-Ok.is (c.feed.ensures.early text is)) count)

pub returns-else-leaves_bytes-clause-early : goal.returns-else-leaves_bytes-clause-early
returns-else-leaves_bytes-clause-early c = λ text is.
    let fed = c.in-Ok.fed in
    let whole : length c.args.piece.now ≤ fed.used = ltb-false _ _ (sym c.leaves_bytes.ensures ∙ c.if-leaves_bytes.false) in
    quiet_net text c.args.piece.now fed.used (omega (arith, whole)) (quiet_of c.feed.result fed _ c.in-Ok.is (c.feed.ensures.early text is))
    (c.in-Ok.ensures.nothing_after text is)
