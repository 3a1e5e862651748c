-- Fewer than four bytes are fed at the end, and of more the reader has all.
use Rattle.std.proofs.Common.{ℕ, List, leb-false, leb-true, sym, subst, ◌∙◌}
use Rattle.source_machine.specs.declared.unset.Unset.TheVariants.{Refuse}
use Rattle.blif_reader.specs.Readings.{IsReading}
use Rattle.xsfq_cli.specs.Reading.{unheld, JudgesBlif}
use Rattle.xsfq_cli.proofs.BlifReading.{blif_judged, unheld_few, unheld_many}
use Rattle.xsfq_cli.proofs.sources.finish_blif.Goals as goal

pub returns-then-not-is_full : goal.returns-then-not-is_full
returns-then-not-is_full c = λ text read e.
    subst (λ (l : List ℕ). JudgesBlif l c.finish_held.result)
    (unheld_few text c.args.head.now c.bytes.result.now e c.bytes.ensures (leb-false _ _ (sym c.is_full.ensures ∙ c.if-not-is_full.true))) (c.finish_held.ensures (unheld text) read)

pub returns : goal.returns
returns c = λ text read e.
    blif_judged c.args.blif c.finish.result c.finish.ensures.machine c.finish.ensures.refusal text
    (subst (λ (l : List ℕ). IsReading Refuse l c.args.blif) (unheld_many text c.args.head.now e (leb-true _ _ (sym c.is_full.ensures ∙ c.if-not-is_full.false))) read)
