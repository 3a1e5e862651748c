-- The first bytes of the vectors.
use Rattle.std.proofs.Common.{◌++◌, ◌∙◌, [], ap, refl}
use Rattle.std.specs.Prelude.{option_map}
use Rattle.simulation_reader.specs.InputTexts as inputs
use Rattle.simulation_reader.proofs.Inputs.{begun-early}
use Rattle.simulation_reader.proofs.Feeding.{form_after, vector-answer}
use Rattle.simulation_reader.proofs.readers.SimulationReader.start.Goals as goal

pub returns-in-Err-clause-early : goal.returns-in-Err-clause-early
returns-in-Err-clause-early c =
    let old = c.args.self.now in
    let rest = c.args.rest.now in
    λ text begun. vector-answer _ (inputs.early old.scripted (text ++ rest)) c.in-Err.refusal (begun-early text old.net begun old.scripted rest)
    (c.in-Err.ensures.early (form_after old.scripted text) [] (c.begin-vectors.ensures text begun))

pub returns-in-Ok-clause-early : goal.returns-in-Ok-clause-early
returns-in-Ok-clause-early c =
    let old = c.args.self.now in
    let rest = c.args.rest.now in
    λ text begun. begun-early text old.net begun old.scripted rest
    ∙ ap (option_map inputs.of_vectors) (c.in-Ok.ensures.early (form_after old.scripted text) [] (c.begin-vectors.ensures text begun))

pub returns-in-Ok-clause-read : goal.returns-in-Ok-clause-read
returns-in-Ok-clause-read c =
    let old = c.args.self.now in
    let rest = c.args.rest.now in
    λ text begun. record {
      scripted_is = refl;
      taken = record {
        first = text;
        rest = rest;
        parts = refl;
        begun = begun;
        has_read = c.in-Ok.ensures.read (form_after old.scripted text) [] (c.begin-vectors.ensures text begun);
      };
    }
