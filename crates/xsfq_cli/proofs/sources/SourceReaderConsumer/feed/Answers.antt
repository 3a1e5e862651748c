-- A piece of a source.
use Rattle.std.proofs.Common.{rules, ◌++◌, ℕ, List, Ok, Err, leb-false, leb-true, length, sym, ap, subst, ◌∙◌}
use Rattle.std.specs.Prelude.{nat_le}
use Rattle.std.specs.declared.result.Result.{Result}
use Rattle.source_machine.specs.declared.unset.Unset.TheVariants.{Refuse}
use Rattle.aiger_reader.specs.declared.refusals.AigerRefusal.{AigerRefusal}
use Rattle.aiger_reader.specs.Sources.{early}
use Rattle.aiger_reader.specs.Readings.{Answers, IsReading}
use Rattle.blif_reader.specs.Sources as blif_sources
use Rattle.blif_reader.specs.Readings as blif_readings
use Rattle.xsfq_cli.proofs.AigerAnswers.{IsAnswer}
use Rattle.xsfq_cli.proofs.BlifReading.{blif_more, blif_told, few_more, few_told, on_any}
use Rattle.xsfq_cli.proofs.SourceReading.{fed_bytes, fed_more, told_more}
use Rattle.xsfq_cli.proofs.sources.SourceReaderConsumer.feed.Goals as goal

pub returns-in-Ok-clause-read : goal.returns-in-Ok-clause-read
returns-in-Ok-clause-read c = λ text has.
    fed_more text c.args.self.now.head c.args.piece.now c.feed_aiger.new.self.head c.take-count.result _ c.feed_aiger.new.self.aiger _ c.feed_aiger.new.self.blif has c.feed_aiger.ensures.blif
    (c.feed_aiger.ensures.head ∙ c.take-count.ensures.head) (search rules) (search rules)
    (λ before is. subst (λ (l : List ℕ). IsReading Refuse (before ++ l) c.feed_aiger.new.self.aiger)
    (fed_bytes c.bytes-held.result.now c.args.self.now.head c.take-count.new.self c.feed_aiger.new.self.head c.args.piece.now c.take-count.result c.bytes-held.ensures (sym c.feed_aiger.ensures.head))
    (c.feed_aiger.ensures.read before is))

pub returns-in-Ok-clause-early : goal.returns-in-Ok-clause-early
returns-in-Ok-clause-early c = λ text has.
    told_more text c.args.self.now.head c.args.piece.now c.feed_aiger.new.self.head c.take-count.result _ _ c.feed_aiger.result (Ok tt) has
    (c.feed_aiger.ensures.head ∙ c.take-count.ensures.head) (search rules) (search rules)
    (λ before is. subst (λ (l : List ℕ). Answers c.feed_aiger.result (early Refuse (before ++ l)))
    (fed_bytes c.bytes-held.result.now c.args.self.now.head c.take-count.new.self c.feed_aiger.new.self.head c.args.piece.now c.take-count.result c.bytes-held.ensures (sym c.feed_aiger.ensures.head))
    (c.feed_aiger.ensures.early before is))
    (subst (λ (result : Result Unit AigerRefusal). IsAnswer result (Ok tt)) (sym c.in-Ok.is) tt)

pub returns-in-Err-clause-early : goal.returns-in-Err-clause-early
returns-in-Err-clause-early c = λ text has.
    told_more text c.args.self.now.head c.args.piece.now c.feed_aiger.new.self.head c.take-count.result _ _ c.feed_aiger.result (Err c.from.result) has
    (c.feed_aiger.ensures.head ∙ c.take-count.ensures.head) (search rules) (search rules)
    (λ before is. subst (λ (l : List ℕ). Answers c.feed_aiger.result (early Refuse (before ++ l)))
    (fed_bytes c.bytes-held.result.now c.args.self.now.head c.take-count.new.self c.feed_aiger.new.self.head c.args.piece.now c.take-count.result c.bytes-held.ensures (sym c.feed_aiger.ensures.head))
    (c.feed_aiger.ensures.early before is))
    (subst (λ (result : Result Unit AigerRefusal). IsAnswer result (Err c.from.result)) (sym c.in-Err.is) c.from.ensures)

pub returns-then-not-is_full-clause-read : goal.returns-then-not-is_full-clause-read
returns-then-not-is_full-clause-read c = λ text has.
    few_more text c.args.self.now.head c.args.piece.now c.take-count.new.self _ _ has c.take-count.ensures.head (leb-false _ _ (sym c.is_full.ensures ∙ c.if-not-is_full.true))

pub returns-then-not-is_full-clause-early : goal.returns-then-not-is_full-clause-early
returns-then-not-is_full-clause-early c = λ text has.
    few_told text c.args.self.now.head c.args.piece.now c.take-count.new.self _ _ has c.take-count.ensures.head (leb-false _ _ (sym c.is_full.ensures ∙ c.if-not-is_full.true))

pub returns-then-not-begins_aiger-clause-read : goal.returns-then-not-begins_aiger-clause-read
returns-then-not-begins_aiger-clause-read c = on_any c.blif_answer.result (λ text has.
    blif_more text c.args.self.now.head c.args.piece.now c.feed_blif.new.self.head c.take-count.result _ _ has (c.feed_blif.ensures.head ∙ c.take-count.ensures.head)
    (leb-true _ _ (ap (λ (l : List ℕ). nat_le 4 (length l)) c.feed_blif.ensures.head ∙ sym c.is_full.ensures ∙ c.if-not-is_full.false)) (search rules) (search rules)
    c.feed_blif.new.self.blif c.feed_blif.new.self.aiger c.feed_blif.ensures.aiger
    (λ before is. subst (λ (l : List ℕ). blif_readings.IsReading Refuse (before ++ l) c.feed_blif.new.self.blif)
    (fed_bytes c.bytes-held.result.now c.args.self.now.head c.take-count.new.self c.feed_blif.new.self.head c.args.piece.now c.take-count.result c.bytes-held.ensures (sym c.feed_blif.ensures.head))
    (c.feed_blif.ensures.read before is)))

pub returns-then-not-begins_aiger-clause-early : goal.returns-then-not-begins_aiger-clause-early
returns-then-not-begins_aiger-clause-early c = λ text has.
    blif_told text c.args.self.now.head c.args.piece.now c.feed_blif.new.self.head c.take-count.result _ _ has (c.feed_blif.ensures.head ∙ c.take-count.ensures.head)
    (leb-true _ _ (ap (λ (l : List ℕ). nat_le 4 (length l)) c.feed_blif.ensures.head ∙ sym c.is_full.ensures ∙ c.if-not-is_full.false)) (search rules) (search rules)
    c.feed_blif.result c.blif_answer.result
    (λ before is. subst (λ (l : List ℕ). blif_readings.Answers c.feed_blif.result (blif_sources.early Refuse (before ++ l)))
    (fed_bytes c.bytes-held.result.now c.args.self.now.head c.take-count.new.self c.feed_blif.new.self.head c.args.piece.now c.take-count.result c.bytes-held.ensures (sym c.feed_blif.ensures.head))
    (c.feed_blif.ensures.early before is))
    c.blif_answer.ensures
