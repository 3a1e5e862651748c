-- A piece of the netlist's text, with what stands after it.
use Rattle.std.proofs.Common.{◌++◌, ◌∙◌, List, ℕ, Option, take, sym, subst, refl}
use Rattle.schedule_replay.specs.declared.readings.Reading as vector_readings
use Rattle.simulation_reader.specs.InputTexts as inputs
use Rattle.simulation_reader.specs.Reading.{Answers, HasTaken, TakenBy, HasAnsweredBy}
use Rattle.simulation_reader.proofs.Inputs.{open-early}
use Rattle.simulation_reader.proofs.Feeding.{net-answer, fed-open, fed-ended, of-good, parted-by}
use Rattle.simulation_reader.proofs.readers.SimulationReader.feed_net.Goals as goal

pub returns-in-Err-clause-early : goal.returns-in-Err-clause-early
returns-in-Err-clause-early c =
    λ text before. net-answer c.args.self.now.scripted (text ++ c.args.piece.now) c.in-Err.refusal (c.in-Err.ensures.early text before.read)

pub returns-in-Err-clause-kept : goal.returns-in-Err-clause-kept
returns-in-Err-clause-kept c =
    subst (λ (v : Option vector_readings.Reading). HasAnsweredBy v c.feed.new.self (inputs.of_net c.in-Err.refusal)) (sym c.requires) c.in-Err.ensures.kept

pub returns-then-fed-clause-early : goal.returns-then-fed-clause-early
returns-then-fed-clause-early c =
    let piece = c.args.piece.now in
    let used = c.in-Ok.fed.used in
    λ text before.
    let ended = sym (c.in-Ok.ensures.ended text before.read) ∙ c.if-fed.true in
    let quiet = c.in-Ok.ensures.early text before.read in
    let begun = fed-ended c.early_refusals_stand.ensures text piece used c.feed.new.self (c.in-Ok.ensures.ok text before.read) c.in-Ok.ensures.goes_on ended
    (c.in-Ok.ensures.nothing_after text before.read) quiet in
    let parts = parted-by text piece c.behind.result.now used c.behind.ensures in
    subst (λ (t : List ℕ). Answers c.start.result (inputs.early c.args.self.now.scripted t)) (sym parts) (c.start.ensures.early (text ++ take used piece) begun)

pub returns-then-fed-clause-read : goal.returns-then-fed-clause-read
returns-then-fed-clause-read c =
    let piece = c.args.piece.now in
    let used = c.in-Ok.fed.used in
    of-good _ _ c.start.result (λ good text before.
    let ended = sym (c.in-Ok.ensures.ended text before.read) ∙ c.if-fed.true in
    let quiet = c.in-Ok.ensures.early text before.read in
    let begun = fed-ended c.early_refusals_stand.ensures text piece used c.feed.new.self (c.in-Ok.ensures.ok text before.read) c.in-Ok.ensures.goes_on ended
    (c.in-Ok.ensures.nothing_after text before.read) quiet in
    let parts = parted-by text piece c.behind.result.now used c.behind.ensures in
    subst (λ (t : List ℕ). HasTaken c.args.self.now.scripted t c.start.new.self) (sym parts) (good (text ++ take used piece) begun)) c.start.ensures.read

pub returns-else-fed-clause-early : goal.returns-else-fed-clause-early
returns-else-fed-clause-early c =
    let piece = c.args.piece.now in
    let used = c.in-Ok.fed.used in
    λ text before.
    let unended = sym (c.in-Ok.ensures.ended text before.read) ∙ c.if-fed.false in
    let quiet = c.in-Ok.ensures.early text before.read in
    let now = fed-open text piece used c.feed.new.self (c.in-Ok.ensures.all c.if-fed.false) (c.in-Ok.ensures.ok text before.read) unended quiet in
    open-early c.args.self.now.scripted (text ++ piece) now.quiet now.open_end

pub returns-else-fed-clause-read : goal.returns-else-fed-clause-read
returns-else-fed-clause-read c =
    let piece = c.args.piece.now in
    let used = c.in-Ok.fed.used in
    let scripted = c.args.self.now.scripted in
    λ text before.
    let unended = sym (c.in-Ok.ensures.ended text before.read) ∙ c.if-fed.false in
    let quiet = c.in-Ok.ensures.early text before.read in
    let now = fed-open text piece used c.feed.new.self (c.in-Ok.ensures.all c.if-fed.false) (c.in-Ok.ensures.ok text before.read) unended quiet in
    record { scripted_is = refl; taken = subst (λ (v : Option vector_readings.Reading). TakenBy scripted (text ++ piece) c.feed.new.self v) (sym c.requires) now }
