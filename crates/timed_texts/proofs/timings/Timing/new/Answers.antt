use Rattle.timed_texts.specs.Timings.{IsTiming, timing_of}
use Rattle.timed_texts.proofs.timings.Timing.new.Goals as goal

pub returns : goal.returns
returns g c =
    let times = c.in_ok-cycles.ensures in
    let by = c.in_ok-bound.ensures.bound in
    let timing = timing_of c.in_ok-cycles.cycles.items c.in_ok-bound.bound in
    let is : IsTiming by.delays c.args.net.now c.args.vectors.now.vectors timing = record { last = times.0; times = times.1 by.delays by.given; bounds = by.is } in
    record {
      delays = by.delays;
      given = by.given;
      within = by.within;
      is = is;
      bounded = c.phases_within_bound.ensures c.args.net.now c.net.ensures.sound by.delays c.args.vectors.now.vectors timing is;
    }
