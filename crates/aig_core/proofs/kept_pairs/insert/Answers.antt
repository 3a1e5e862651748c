use Rattle.aig_core.proofs.PairLemmas.{inserted_placed, missing_from_any}
use Rattle.aig_core.proofs.kept_pairs.insert.Goals as goal

pub returns-in-Ok-clause-placed : goal.returns-in-Ok-clause-placed
returns-in-Ok-clause-placed c =
    inserted_placed c.args.set.now.keys c.args.pair c.insert_full.new.self.keys c.in-Ok.place c.in-Ok.ensures.keys c.in-Ok.ensures.stored

pub returns-in-Err-clause-missing : goal.returns-in-Err-clause-missing
returns-in-Err-clause-missing c =
    missing_from_any c.args.set.now.keys c.args.pair c.in-Err.ensures.absent
