-- A piece before the `end` line, or after it.
use Rattle.std.proofs.Common.{◌++◌, ◌∙◌, ap, refl}
use Rattle.std.specs.Prelude.{option_map}
use Rattle.simulation_reader.specs.InputTexts as inputs
use Rattle.simulation_reader.proofs.Feeding.{after-early, after-more, again-before, form_after, of-good, taken-after, taken-before, vector-answer}
use Rattle.simulation_reader.proofs.readers.SimulationReader.feed.Goals as goal

pub returns-in-None-clause-read : goal.returns-in-None-clause-read
returns-in-None-clause-read c =
    let old = c.args.self.now in
    of-good _ _ c.feed_net.result (λ good text has. good text (taken-before old.scripted text old.net old.vectors c.in-None.is has.taken)) c.feed_net.ensures.read

pub returns-in-None-clause-early : goal.returns-in-None-clause-early
returns-in-None-clause-early c =
    let old = c.args.self.now in
    λ text has. c.feed_net.ensures.early text (taken-before old.scripted text old.net old.vectors c.in-None.is has.taken)

pub returns-in-None-clause-again : goal.returns-in-None-clause-again
returns-in-None-clause-again c =
    let old = c.args.self.now in
    again-before Unit old.net old.vectors c.feed_net.result c.in-None.is c.feed_net.ensures.again

pub returns-in-Err-clause-early : goal.returns-in-Err-clause-early
returns-in-Err-clause-early c =
    let old = c.args.self.now in
    let piece = c.args.piece.now in
    λ text has.
    let after = taken-after old.scripted text old.net old.vectors c.in-Some.vectors c.in-Some.is has.taken in
    vector-answer _ (inputs.early old.scripted (text ++ piece)) c.in-Err.refusal (after-early old.scripted text piece old.net c.in-Some.vectors after)
    (c.in-Err.ensures.early (form_after old.scripted after.first) after.rest after.has_read)

pub returns-in-Ok-clause-early : goal.returns-in-Ok-clause-early
returns-in-Ok-clause-early c =
    let old = c.args.self.now in
    let piece = c.args.piece.now in
    λ text has.
    let after = taken-after old.scripted text old.net old.vectors c.in-Some.vectors c.in-Some.is has.taken in
    after-early old.scripted text piece old.net c.in-Some.vectors after
    ∙ ap (option_map inputs.of_vectors) (c.in-Ok.ensures.early (form_after old.scripted after.first) after.rest after.has_read)

pub returns-in-Ok-clause-read : goal.returns-in-Ok-clause-read
returns-in-Ok-clause-read c =
    let old = c.args.self.now in
    let piece = c.args.piece.now in
    λ text has.
    let after = taken-after old.scripted text old.net old.vectors c.in-Some.vectors c.in-Some.is has.taken in
    record {
      scripted_is = refl;
      taken = after-more old.scripted text piece old.net c.in-Some.vectors c.feed.new.self after (c.in-Ok.ensures.read (form_after old.scripted after.first) after.rest after.has_read);
    }
