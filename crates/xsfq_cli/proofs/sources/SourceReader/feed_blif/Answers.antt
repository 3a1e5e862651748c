-- The four bytes are fed first where there were fewer.
use Rattle.std.proofs.Common.{◌++◌, sym, ◌∙◌, subst, List, ℕ}
use Rattle.source_machine.specs.declared.unset.Unset.TheVariants.{Refuse}
use Rattle.blif_reader.specs.Sources.{early}
use Rattle.blif_reader.specs.Readings.{Answers, IsReading}
use Rattle.xsfq_cli.proofs.SourceReading.{due_few, due_many}
use Rattle.xsfq_cli.proofs.sources.SourceReader.feed_blif.Goals as goal

pub returns-then-held-lt4-clause-read : goal.returns-then-held-lt4-clause-read
returns-then-held-lt4-clause-read c = λ text is.
    subst (λ (l : List ℕ). IsReading Refuse (text ++ (l ++ c.args.piece.now)) c.feed_both_blif.new.blif)
    (c.bytes.ensures ∙ sym (due_few c.args.held c.args.self.now.head c.if-held-lt4.true)) (c.feed_both_blif.ensures.read text is)

pub returns-then-held-lt4-clause-early : goal.returns-then-held-lt4-clause-early
returns-then-held-lt4-clause-early c = λ text is.
    subst (λ (l : List ℕ). Answers c.feed_both_blif.result (early Refuse (text ++ (l ++ c.args.piece.now))))
    (c.bytes.ensures ∙ sym (due_few c.args.held c.args.self.now.head c.if-held-lt4.true)) (c.feed_both_blif.ensures.early text is)

pub returns-else-held-lt4-clause-early : goal.returns-else-held-lt4-clause-early
returns-else-held-lt4-clause-early c = λ text is.
    subst (λ (l : List ℕ). Answers c.feed.result (early Refuse (text ++ (l ++ c.args.piece.now))))
    (sym (due_many c.args.held c.args.self.now.head c.if-held-lt4.false)) (c.feed.ensures.early Refuse text is)
