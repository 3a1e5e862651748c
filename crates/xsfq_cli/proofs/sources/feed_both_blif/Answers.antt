-- What two pieces show together is what the second one shows after the first.
use Rattle.std.proofs.Common.{◌++◌, List, ℕ, subst}
use Rattle.std.proofs.lemmas.List.{append_assoc}
use Rattle.source_machine.specs.declared.unset.Unset.TheVariants.{Refuse}
use Rattle.blif_reader.specs.Sources.{early}
use Rattle.blif_reader.specs.Readings.{Answers}
use Rattle.xsfq_cli.proofs.sources.feed_both_blif.Goals as goal

pub returns-clause-early : goal.returns-clause-early
returns-clause-early c = λ text is.
    subst (λ (l : List ℕ). Answers c.feed-2.result (early Refuse l)) (append_assoc text c.args.first.now c.args.second.now)
    (c.feed-2.ensures.early Refuse (text ++ c.args.first.now) (c.feed.ensures.read Refuse text is))
