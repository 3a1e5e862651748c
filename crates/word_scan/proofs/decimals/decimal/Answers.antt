-- The digits of a decimal.
use Rattle.std.proofs.Common.{◌≡◌, ◌+◌, drop, get_or, None, sym, ◌∙◌}
use Rattle.std.proofs.lemmas.List.{at_drop_more, at_drop_all}
use Rattle.word_scan.specs.Decimals.{digit_more}
use Rattle.word_scan.proofs.DigitLemmas.{value_from, value_stops, decimal_is}
use Rattle.word_scan.proofs.decimals.decimal.Goals as goal

pub returns-in_err-value : goal.returns-in_err-value
returns-in_err-value c =
    let bytes = c.args.bytes.now in
    let i = c.loop-byte.byte-index in
    let h : digit_more c.loop-byte.value (get_or bytes i 0) ≡ None = sym c.in_err-value.ensures in
    let stop = at_drop_more (value_from c.loop-byte.value) bytes i 0 c.loop-byte-test.true ∙ value_stops c.loop-byte.value (get_or bytes i 0) (drop (i + 1) bytes) h in
    rw c.from_residual.ensures (sym stop ∙ c.loop-byte.invariant ∙ decimal_is bytes (sym c.if-is_empty.ensures))

pub returns : goal.returns
returns c =
    let bytes = c.args.bytes.now in
    sym (at_drop_all (value_from c.loop-byte.value) bytes c.loop-byte.byte-index c.loop-byte-test.false) ∙ c.loop-byte.invariant ∙ decimal_is bytes (sym c.if-is_empty.ensures)
