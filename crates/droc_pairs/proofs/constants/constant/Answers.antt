use Rattle.std.proofs.Common.{arith, refl}
use Rattle.droc_pairs.proofs.ConstantLemmas.{can_be_fed, return_below, is_constant}
use Rattle.droc_pairs.proofs.constants.constant.Goals as goal

pub set_feed-requires-clause-droc : goal.set_feed-requires-clause-droc
set_feed-requires-clause-droc c =
    can_be_fed c.args.net.now c.place.new.net c.spread_if_read.new.net c.spread.new.net c.args.ones c.args.zeros c.take_first-back.result.number
    c.new.result.number c.new-own.result.number c.in_ok-one.one c.in_ok-zero.zero c.take_first-back.new.self
    c.in_ok-cell.ensures.placed c.in_ok-cell.ensures.wires (omega (arith, c.new.ensures, c.wires-next.ensures.value)) c.in_ok-one.ensures.spread
    (omega (arith, c.new-own.ensures, c.wires-next.ensures.value, c.wires_of.ensures.value)) c.take_first-back.ensures c.in_ok-zero.ensures.spread
    c.in_ok-cell.cell.number c.in_ok-cell.ensures.cell

pub set_feed-requires-clause-wire : goal.set_feed-requires-clause-wire
set_feed-requires-clause-wire c =
    return_below c.args.net.now c.place.new.net c.spread_if_read.new.net c.spread.new.net c.args.ones c.args.zeros c.take_first-back.result.number
    c.new.result.number c.new-own.result.number c.in_ok-one.one c.in_ok-zero.zero c.take_first-back.new.self
    c.in_ok-cell.ensures.placed c.in_ok-cell.ensures.wires (omega (arith, c.new.ensures, c.wires-next.ensures.value)) c.in_ok-one.ensures.spread
    (omega (arith, c.new-own.ensures, c.wires-next.ensures.value, c.wires_of.ensures.value)) c.take_first-back.ensures c.in_ok-zero.ensures.spread
    4194304 c.requires.wires

pub returns-clause-constant : goal.returns-clause-constant
returns-clause-constant c =
    is_constant c.args.net.now c.place.new.net c.spread_if_read.new.net c.spread.new.net c.args.ones c.args.zeros c.take_first-back.result.number
    c.new.result.number c.new-own.result.number c.in_ok-one.one c.in_ok-zero.zero c.take_first-back.new.self
    c.in_ok-cell.ensures.placed c.in_ok-cell.ensures.wires (omega (arith, c.new.ensures, c.wires-next.ensures.value)) c.in_ok-one.ensures.spread
    (omega (arith, c.new-own.ensures, c.wires-next.ensures.value, c.wires_of.ensures.value)) c.take_first-back.ensures c.in_ok-zero.ensures.spread
    c.set_feed.new.self c.in_ok-cell.cell.number c.take_first-back.result c.in_ok-cell.ensures.cell refl c.set_feed.ensures.fed c.set_feed.ensures.wires
