-- One pair of words more, or a word alone.
use Rattle.std.proofs.Common.{◌+◌, ap, sym, ◌∙◌, arith, map, drop}
use Rattle.std.specs.String.{string_bytes}
use Rattle.xsfq_cli.specs.Orders.{options_with}
use Rattle.xsfq_cli.proofs.OptionPairs.{pair_step, last_step, with_words}
use Rattle.xsfq_cli.proofs.orders.Options.from_pairs.Goals as goal

pub returns-in-None : goal.returns-in-None
returns-in-None c =
    let step = pair_step string_bytes c.args.words.now c.loop-at.at c.index-words-at.result c.index-words-at-in-loop-at.result c.loop-at.options c.loop-at-test.true
    c.index-words-at.is c.index-words-at-in-loop-at.is in
    let given = with_words c.loop-at.options c.as_str.ensures.value c.as_str-in-loop-at.ensures.value in
    ap (λ next. options_with next (map string_bytes (drop (c.loop-at.at + 2) c.args.words.now))) (sym c.in-None.is ∙ c.with.ensures ∙ given) ∙ sym step ∙ c.loop-at.invariant.same

pub loop-at-preserved : goal.loop-at-preserved
loop-at-preserved c =
    let step = pair_step string_bytes c.args.words.now c.loop-at.at c.index-words-at.result c.index-words-at-in-loop-at.result c.loop-at.options c.loop-at-test.true
    c.index-words-at.is c.index-words-at-in-loop-at.is in
    let given = with_words c.loop-at.options c.as_str.ensures.value c.as_str-in-loop-at.ensures.value in
    record {
      within = omega (arith, c.loop-at-test.true);
      same = ap (λ next. options_with next (map string_bytes (drop (c.loop-at.at + 2) c.args.words.now))) (sym c.in-Some.is ∙ c.with.ensures ∙ given) ∙ sym step
          ∙ c.loop-at.invariant.same;
    }

pub returns-then-at-words : goal.returns-then-at-words
returns-then-at-words c =
    sym (last_step string_bytes c.args.words.now c.loop-at.at c.loop-at.options c.if-at-words.true (omega (arith, c.loop-at-test.false))) ∙ c.loop-at.invariant.same
