use Rattle.pulse_traces.proofs.OneText.{one_replayed}
use Rattle.pulse_traces.proofs.laws.one_replay.Goals as goal

pub returns : goal.returns
returns c =
    one_replayed c.one_replay.ensures c.deliveries_in_turn.ensures.keep c.moments_of_worlds.ensures.relax c.moments_of_worlds.ensures.excite
    c.moments_of_worlds.ensures.start
