use Rattle.std.proofs.Common.{arith, [], ◌∷◌}
use Rattle.rail_mapper.proofs.CountedReads.{reads_total}
use Rattle.rail_mapper.proofs.counting.count_output.Goals as goal

pub count_read-requires-in-Both-2-clause-few : goal.count_read-requires-in-Both-2-clause-few
count_read-requires-in-Both-2-clause-few c = let t =
    reads_total c.args.draft.now c.count_read-in-Both.new.self (c.literal_rail-in-Both.result ∷ []) c.count_read-in-Both.ensures in omega (arith, c.requires.few)
