use Rattle.std.proofs.Common.{◌∙◌}
use Rattle.droc_pairs.proofs.PairLemmas.{can_be_fed, is_pair}
use Rattle.droc_pairs.proofs.pairs.finish_pair.Goals as goal

pub set_feed-requires-clause-droc : goal.set_feed-requires-clause-droc
set_feed-requires-clause-droc c =
    can_be_fed c.args.net.now c.add_front.new.net c.add_front.new.net c.args.half.back.number c.args.half.init c.args.next.number c.requires.back c.in_ok-add_front.ensures.added
    c.places_of_wires.ensures.below c.new-link.result.number (c.new-link.ensures ∙ c.wires.ensures.value)

pub returns-clause-pair : goal.returns-clause-pair
returns-clause-pair c =
    is_pair c.args.net.now c.add_front.new.net c.set_feed.new.self c.args.half.back.number c.args.half.init c.args.next.number c.requires.back c.in_ok-add_front.ensures.added
    c.another_feed.ensures c.new-link.result (c.new-link.ensures ∙ c.wires.ensures.value) c.in_ok-add_front.ensures.wires c.set_feed.ensures.fed c.set_feed.ensures.wires
