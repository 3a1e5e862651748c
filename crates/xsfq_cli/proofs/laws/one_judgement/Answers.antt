-- The laws of judgements.
use Rattle.xsfq_cli.proofs.Judging.{refusals_are_one, refusals_of_bytes, refused_without_text, shown_is_refused, verdicts_are_one}
use Rattle.xsfq_cli.proofs.laws.one_judgement.Goals as goal

pub returns-clause-verdict : goal.returns-clause-verdict
returns-clause-verdict c = verdicts_are_one c.one_verdict.ensures.founded c.one_verdict.ensures.at_most_one c.one_refusal.ensures.at_most_one c.one_refusal.ensures.sound

pub returns-clause-refusal : goal.returns-clause-refusal
returns-clause-refusal c = refusals_are_one c.one_verdict.ensures.founded c.one_verdict.ensures.at_most_one c.one_refusal.ensures.at_most_one c.one_refusal.ensures.sound

pub returns-clause-no_text : goal.returns-clause-no_text
returns-clause-no_text c = refused_without_text c.one_verdict.ensures.founded c.one_verdict.ensures.at_most_one c.one_refusal.ensures.at_most_one c.one_refusal.ensures.sound

pub returns-clause-of_bytes : goal.returns-clause-of_bytes
returns-clause-of_bytes c = refusals_of_bytes c.sources_are_told.ensures c.refusals_are_of_bytes.ensures

pub returns-clause-shown : goal.returns-clause-shown
returns-clause-shown c = shown_is_refused c.early_refusals_stand.ensures c.early_refusals_stand-2.ensures c.net_refusals_stand.ensures c.input_refusals_stand.ensures
