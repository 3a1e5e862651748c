-- What stands after a netlist's text changes nothing of what it says.
use Rattle.std.proofs.Common.{◌≡◌, ◌++◌, ℕ, Bool, true, false, List, [], length, Option, Some, None, Result, Ok, Err, sym, ap, ◌∙◌, subst, refl, append-nil}
use Rattle.std.specs.Prelude.{option_map}
use Rattle.cell_netlist.specs.Netlists.{PlainNetlist}
use Rattle.pulse_ids.specs.Lists.{IsIn}
use Rattle.word_scan.specs.Lines.{whole_lines}
use Rattle.netlist_reader.specs.declared.readings.Reading.{Reading}
use Rattle.netlist_reader.specs.declared.refusals.NetRefusal.{NetRefusal}
use Rattle.netlist_reader.specs.declared.refusals.NetRefusal.TheVariants.{Truncated}
use Rattle.netlist_reader.specs.Laws as nets
use Rattle.netlist_reader.specs.Places.{netlist_in, has_end}
use Rattle.netlist_reader.specs.Verdicts.{lines_in, early, after_end, judged, net_verdict}
use Rattle.netlist_reader.proofs.CallerLemmas.{lines_joined_in, after_end_joined, lines_of_ended, quiet_ended}
use Rattle.schedule_replay.specs.declared.refusals.VectorRefusal.{VectorRefusal}
use Rattle.schedule_replay.specs.declared.vector_lines.Form.{Form}
use Rattle.schedule_replay.specs.PlainVectors.{PlainVectors}
use Rattle.schedule_replay.specs.VectorTexts as vectors
use Rattle.schedule_replay.specs.Laws as vector_laws
use Rattle.simulation_reader.specs.declared.readers.SimulationInput.{SimulationInput}
use Rattle.simulation_reader.specs.declared.refusals.InputRefusal.{InputRefusal}
use Rattle.simulation_reader.specs.declared.refusals.InputRefusal.TheVariants.{Net}
use Rattle.simulation_reader.specs.InputTexts as inputs
use Rattle.simulation_reader.specs.Laws.{EarlyStands, HasForm, InputsHaveTheirForm}
use Rattle.simulation_reader.specs.Reading.{HasBegun}

-- the verdict of a text that has ended without a refusal
ended-verdict : (text : List ℕ) → early text ≡ None → has_end (lines_in text) ≡ true → net_verdict text ≡ Ok (netlist_in (lines_in text), after_end text)
ended-verdict text quiet ended = rw (quiet, ended) refl

-- and of one that has not
open-verdict : (text : List ℕ) → early text ≡ None → has_end (lines_in text) ≡ false → net_verdict text ≡ Err Truncated
open-verdict text quiet unended = rw (quiet, unended) refl

pair : {lines other : List (List ℕ)} {rest more : List ℕ} → lines ≡ other → rest ≡ more → ◌≡◌ {A = PlainNetlist × List ℕ} (netlist_in lines, rest) (netlist_in other, more)
pair e f = cc

-- of a netlist's text that has ended without a refusal, with more bytes after it
module _ (text : List ℕ) (quiet : early text ≡ None) (ended : has_end (lines_in text) ≡ true) where
  abbrev form : Bool → Form
  form scripted = inputs.form_of scripted (netlist_in (lines_in text)) (length (lines_in text))

  more-verdict : (more : List ℕ) → net_verdict (text ++ more) ≡ Ok (netlist_in (lines_in text), after_end text ++ more)
  more-verdict more =
      let lines = lines_joined_in text more ended in
      ended-verdict (text ++ more) (quiet_ended text more ended quiet) (ap has_end lines ∙ ended)
      ∙ ap (λ (x : PlainNetlist × List ℕ). Ok x) (pair lines (after_end_joined text more ended))

  more-lines : (more : List ℕ) → length (lines_in (text ++ more)) ≡ length (lines_in text)
  more-lines more = ap (λ l. length l) (lines_joined_in text more ended)

  -- what is shown early, and what is judged, is that of the vectors
  pub more-early : (scripted : Bool) (more : List ℕ) → inputs.early scripted (text ++ more)
      ≡ option_map inputs.of_vectors (vectors.early (form scripted) (after_end text ++ more))
  more-early scripted more =
      ap (λ n. inputs.early_by scripted n (early (text ++ more)) (net_verdict (text ++ more))) (more-lines more)
      ∙ ap (inputs.early_by scripted (length (lines_in text)) (early (text ++ more))) (more-verdict more)

  pub more-judged : (scripted : Bool) (more : List ℕ) → inputs.judgement scripted (text ++ more)
      ≡ inputs.both_of (netlist_in (lines_in text)) (vectors.judgement (form scripted) (after_end text ++ more))
  more-judged scripted more =
      ap (λ n. inputs.judged_by scripted n (net_verdict (text ++ more))) (more-lines more)
      ∙ ap (inputs.judged_by scripted (length (lines_in text))) (more-verdict more)

-- where nothing stands after it yet
module _ (text : List ℕ) (net : Reading) (begun : HasBegun text net) where
  pub begun-early : (scripted : Bool) (rest : List ℕ) → inputs.early scripted (text ++ rest)
      ≡ option_map inputs.of_vectors (vectors.early (form text begun.quiet begun.ended scripted) rest)
  begun-early scripted rest =
      more-early text begun.quiet begun.ended scripted rest
      ∙ ap (λ l. option_map inputs.of_vectors (vectors.early (form text begun.quiet begun.ended scripted) (l ++ rest))) begun.none_after

  pub begun-judged : (scripted : Bool) (rest : List ℕ) → inputs.judgement scripted (text ++ rest)
      ≡ inputs.both_of (netlist_in (lines_in text)) (vectors.judgement (form text begun.quiet begun.ended scripted) rest)
  begun-judged scripted rest =
      more-judged text begun.quiet begun.ended scripted rest
      ∙ ap (λ l. inputs.both_of (netlist_in (lines_in text)) (vectors.judgement (form text begun.quiet begun.ended scripted) (l ++ rest))) begun.none_after

  pub begun-verdict : net_verdict text ≡ Ok (netlist_in (lines_in text), [])
  begun-verdict = ended-verdict text begun.quiet begun.ended ∙ ap (λ (x : PlainNetlist × List ℕ). Ok x) (pair {lines = lines_in text} refl begun.none_after)

  -- there are as many whole lines as lines up to the `end` line
  pub begun-count : length (whole_lines text) ≡ length (lines_in text)
  begun-count = lines_of_ended text begun.ended begun.none_after

-- a text without an `end` line shows what its netlist shows
pub open-early : (scripted : Bool) (text : List ℕ) → early text ≡ None → has_end (lines_in text) ≡ false → inputs.early scripted text ≡ None
open-early scripted text quiet unended =
    ap (inputs.early_by scripted (length (lines_in text)) (early text)) (open-verdict text quiet unended) ∙ ap (option_map inputs.of_net) quiet

pub open-judged : (scripted : Bool) (text : List ℕ) → early text ≡ None → has_end (lines_in text) ≡ false → inputs.judgement scripted text ≡ Err (Net Truncated)
open-judged scripted text quiet unended = ap (inputs.judged_by scripted (length (lines_in text))) (open-verdict text quiet unended)

-- a refusal of the netlist's text is one of the input
pub net-early : (scripted : Bool) (text : List ℕ) (refusal : NetRefusal) → early text ≡ Some refusal → inputs.early scripted text ≡ Some (Net refusal)
net-early scripted text refusal e =
    let verdict : net_verdict text ≡ Err refusal = ap (λ shown. judged shown text) e in
    ap (inputs.early_by scripted (length (lines_in text)) (early text)) verdict ∙ ap (option_map inputs.of_net) e

-- what is shown early stays shown, and is the judgement
shown-some : {A B : Type 0} (f : A → B) (shown : Option A) (b : B) → option_map f shown ≡ Some b → (a : A) × (shown ≡ Some a) × (b ≡ f a)
shown-some f None b e = cc
shown-some f (Some a) b e = (a, refl, let g = e in cc)

module _ (of_nets : nets.EarlyStands) (of_vectors : vector_laws.EarlyStands) (scripted : Bool) (text more : List ℕ) (refusal : InputRefusal) (e : inputs.early scripted text ≡ Some refusal) where
  abbrev Stands : Type 0
  Stands = (inputs.early scripted (text ++ more) ≡ Some refusal) × (inputs.judgement scripted (text ++ more) ≡ Err refusal)

  -- a refusal of the netlist's text
  of-net : (net : NetRefusal) → early text ≡ Some net → Stands
  of-net net shown =
      let is : refusal ≡ Net net = let f = net-early scripted text net shown in cc in
      let stays = of_nets.shown text more net shown in
      let verdict = of_nets.judged text more net shown in (
        net-early scripted (text ++ more) net stays ∙ ap (λ r. Some r) (sym is),
        ap (inputs.judged_by scripted (length (lines_in (text ++ more)))) verdict ∙ ap (λ r. Err r) (sym is),
      )

  -- or of what stands after it
  of-rest : early text ≡ None → has_end (lines_in text) ≡ true → Stands
  of-rest quiet ended =
      let now : option_map inputs.of_vectors (vectors.early (form text quiet ended scripted) (after_end text)) ≡ Some refusal =
      ap (λ l. option_map inputs.of_vectors (vectors.early (form text quiet ended scripted) l)) (sym (append-nil (after_end text)))
      ∙ (sym (more-early text quiet ended scripted []) ∙ (ap (inputs.early scripted) (append-nil text) ∙ e)) in
      let found = shown-some inputs.of_vectors (vectors.early (form text quiet ended scripted) (after_end text)) refusal now in
      let stays = of_vectors.shown (form text quiet ended scripted) (after_end text) more found.0 found.1 in
      let judged = of_vectors.judged (form text quiet ended scripted) (after_end text) more found.0 found.1 in (
        more-early text quiet ended scripted more ∙ (ap (option_map inputs.of_vectors) stays ∙ ap (λ r. Some r) (sym found.2)),
        more-judged text quiet ended scripted more ∙ (ap (inputs.both_of (netlist_in (lines_in text))) judged ∙ ap (λ r. Err r) (sym found.2)),
      )

  stands : Stands
  stands = by-early (early text) refl
    where
      by-end : (b : Bool) → has_end (lines_in text) ≡ b → early text ≡ None → Stands
      by-end true ended quiet = of-rest quiet ended
      by-end false unended quiet = let none = open-early scripted text quiet unended in absurd cc

      by-early : (shown : Option NetRefusal) → early text ≡ shown → Stands
      by-early (Some net) shown = of-net net shown
      by-early None quiet = by-end (has_end (lines_in text)) refl quiet

pub early-stands : nets.EarlyStands → vector_laws.EarlyStands → EarlyStands
early-stands of_nets of_vectors = record {
  shown = λ scripted text more refusal e. (stands of_nets of_vectors scripted text more refusal e).0;
  judged = λ scripted text more refusal e. (stands of_nets of_vectors scripted text more refusal e).1;
}

-- an input has its form
both-form : (net : PlainNetlist) (form : Form) (said : Result PlainVectors VectorRefusal) (input : SimulationInput) → form.inputs ≡ net.inputs
    → ((read : PlainVectors) → said ≡ Ok read → vector_laws.HasTheForm form read) → inputs.both_of net said ≡ Ok input → HasForm input
both-form net form (Ok read) input width law e =
    let has = law read refl in
    let net_is : net ≡ input.net = cc in
    let read_is : read ≡ input.vectors = cc in
    record {
      width = λ vector i. has.width vector (subst (λ (r : PlainVectors). IsIn vector r.vectors) (sym read_is) i) ∙ (width ∙ ap (λ (n : PlainNetlist). n.inputs) net_is);
      short = λ script i. has.short script (subst (λ (r : PlainVectors). IsIn script r.scripts) (sym read_is) i);
    }
both-form net form (Err refusal) input width law e = cc

form-by : vector_laws.TextsHaveTheirForm → (scripted : Bool) (lines : ℕ) (verdict : Result (PlainNetlist × List ℕ) NetRefusal) (input : SimulationInput)
    → inputs.judged_by scripted lines verdict ≡ Ok input → HasForm input
form-by law scripted lines (Ok (net, rest)) input e =
    both-form net (inputs.form_of scripted net lines) (vectors.judgement (inputs.form_of scripted net lines) rest) input refl
    (λ read is. law (inputs.form_of scripted net lines) rest read is) e
form-by law scripted lines (Err refusal) input e = cc

pub inputs-in-form : vector_laws.TextsHaveTheirForm → InputsHaveTheirForm
inputs-in-form law scripted text input e = form-by law scripted (length (lines_in text)) (net_verdict text) input e
