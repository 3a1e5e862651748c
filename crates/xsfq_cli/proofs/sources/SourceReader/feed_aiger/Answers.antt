-- The four bytes are fed first where there were fewer.
use Rattle.std.proofs.Common.{◌++◌, sym, ◌∙◌, subst, List, ℕ}
use Rattle.source_machine.specs.declared.unset.Unset.TheVariants.{Refuse}
use Rattle.aiger_reader.specs.Sources.{early}
use Rattle.aiger_reader.specs.Readings.{Answers, IsReading}
use Rattle.xsfq_cli.proofs.SourceReading.{due_few}
use Rattle.xsfq_cli.proofs.sources.SourceReader.feed_aiger.Goals as goal

pub returns-then-held-lt4-clause-read : goal.returns-then-held-lt4-clause-read
returns-then-held-lt4-clause-read c = λ text is.
    subst (λ (l : List ℕ). IsReading Refuse (text ++ (l ++ c.args.piece.now)) c.feed_both.new.aiger)
    (c.bytes.ensures ∙ sym (due_few c.args.held c.args.self.now.head c.if-held-lt4.true)) (c.feed_both.ensures.read text is)

pub returns-then-held-lt4-clause-early : goal.returns-then-held-lt4-clause-early
returns-then-held-lt4-clause-early c = λ text is.
    subst (λ (l : List ℕ). Answers c.feed_both.result (early Refuse (text ++ (l ++ c.args.piece.now))))
    (c.bytes.ensures ∙ sym (due_few c.args.held c.args.self.now.head c.if-held-lt4.true)) (c.feed_both.ensures.early text is)
