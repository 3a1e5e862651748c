use Rattle.std.proofs.Common.{◌∙◌, ◌/◌, sym, arith}
use Rattle.std.proofs.lemmas.List.{get_or_default}
use Rattle.pulse_ids.proofs.PackedBits.{word_put}
use Rattle.pulse_ids.proofs.bits.write_bit.Goals as goal

pub returns-clause-bits : goal.returns-clause-bits
returns-clause-bits c = word_put _ _ _ _ _ c.requires
    (get_or_default c.args.words.now.items (c.args.number / 64) 0 c.index.result.now (omega (arith, c.requires)) ∙ sym c.index.ensures) c.with_bit.ensures
