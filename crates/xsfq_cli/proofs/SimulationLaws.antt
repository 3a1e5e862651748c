-- What the table gives of `simulate`, and how a simulation is performed.
use Rattle.std.proofs.Common.{◌≡◌, inl, inr, ◌<◌, ◌^◌, ℕ, Bool, List, ◌++◌, length, Ok, Err, refl, sym, subst, arith}
use Rattle.std.specs.declared.result.Result.{Result}
use Rattle.pulse_ids.specs.Ids.{WireId}
use Rattle.pulse_ids.specs.Lists.{IsIn}
use Rattle.byte_ports.specs.declared.port.Failed.{Failed}
use Rattle.cell_netlist.specs.Netlists.{PlainNetlist, IsNetlist}
use Rattle.cell_netlist.specs.Sound.{IsSound}
use Rattle.pulse_world.specs.RailPulses.{RailLaw}
use Rattle.simulation_reader.specs.declared.readers.SimulationInput.{SimulationInput}
use Rattle.simulation_reader.specs.declared.refusals.InputRefusal.{InputRefusal}
use Rattle.simulation_reader.specs.InputTexts.{judgement}
use Rattle.simulation_reader.specs.Laws.{HasForm, InputsHaveTheirForm}
use Rattle.xsfq_cli.specs.declared.orders.Order.TheVariants.{Simulate}
use Rattle.xsfq_cli.specs.declared.orders.Schedule.{Schedule}
use Rattle.run_outcomes.specs.declared.outcomes.Outcome.{Outcome}
use Rattle.run_outcomes.specs.declared.outcomes.Outcome.TheVariants as outcomes
use Rattle.xsfq_cli.specs.declared.simulation_inputs.SoundInput.{SoundInput}
use Rattle.xsfq_cli.specs.Answering.{IsOrNoMemory}
use Rattle.xsfq_cli.specs.Halves.{Emits, Reads}
use Rattle.xsfq_cli.specs.Judgements.{Writes}
use Rattle.xsfq_cli.specs.Laws.{RefusalsAreOfBytes, SimulatedLaw}
use Rattle.run_outcomes.specs.Outcomes.{IsEnding}
use Rattle.xsfq_cli.specs.Simulated.{HasInput, has_scripts, in_outcomes, input_shown, IsInputBy, IsSimulation, IsSoundInputOr, SaysInput, Simulates}
use Rattle.xsfq_cli.specs.Table.{AnswersOrder, Ends, Input, Output, ReadWhole, Wrote}
use Rattle.xsfq_cli.proofs.TableLaws.{refusal_apart}
use Rattle.xsfq_cli.proofs.Taking.{finished}

-- an input that is found has the form of its netlist
found_form : (judged : Result SimulationInput InputRefusal) (found : SoundInput) → ((input : SimulationInput) → judged ≡ Ok input → HasForm input)
    → IsInputBy (in_outcomes judged) (Ok found) → HasForm (record { net = found.net; vectors = found.vectors })
found_form (Ok input) found form (net, vectors, sound) = rw (net, vectors) (form input refl)
found_form (Err refusal) found form e = cc

-- and it is sound
pub found_sound : (said : Result SimulationInput Outcome) (found : SoundInput) → IsInputBy said (Ok found) → IsSound found.net
found_sound (Ok input) found (net, vectors, sound) = subst IsSound (sym net) sound
found_sound (Err refusal) found e = cc

module _ (form : InputsHaveTheirForm) (with_scripts : Bool) (bytes : List ℕ) (found : SoundInput) (has : HasInput with_scripts bytes (Ok found)) where
  in_form : HasForm (record { net = found.net; vectors = found.vectors })
  in_form = found_form (judgement with_scripts bytes) found (λ input e. form with_scripts bytes input e) has

  -- its vectors fit the netlist
  pub vectors_fit : (vector : List Bool) → IsIn vector found.vectors.vectors → length vector ≡ found.net.inputs
  vectors_fit vector among = in_form.width vector among

  -- and its scripts are short
  pub scripts_short : (script : List WireId) → IsIn script found.vectors.scripts → length script < 2 ^ 32
  scripts_short script among = let few = in_form.short script among in omega (arith, few)

-- a text that was found is checked by the rules
pub input_checked : (with_scripts : Bool) (input : Input) (read : SimulationInput) (result : Result SoundInput Outcome)
    → Reads (input_shown with_scripts) (SaysInput with_scripts) input (Ok read) → IsOrNoMemory (IsSoundInputOr read) result
    → Reads (input_shown with_scripts) (HasInput with_scripts) input result
input_checked with_scripts input read result (bytes, whole, said) judged =
    finished (input_shown with_scripts) (HasInput with_scripts) input bytes result whole
    (subst (λ (found : Result SimulationInput Outcome). IsOrNoMemory (IsInputBy found) result) (sym said) judged)

-- an input that was read and whose text was written, or not
module _ (schedule : Schedule) (trace : Bool) (input : Input) (output : Output) (read : SoundInput) (net : PlainNetlist) (same : net ≡ read.net)
    (rails : RailLaw) (netlist : IsNetlist read.net) (has_read : Reads (input_shown (has_scripts schedule)) (HasInput (has_scripts schedule)) input (Ok read)) where
  as_read : (text : List ℕ) (ending : Outcome) → Simulates schedule trace (record { net = net; vectors = read.vectors }) text ending
      → Writes (Simulate schedule trace) has_read.0 text ending
  as_read text ending told = (
    read,
    record {
      has = has_read.2;
      netlist = netlist;
      pulses = rails read.net (found_sound _ read has_read.2);
      simulates = subst (λ (n : PlainNetlist). Simulates schedule trace (record { net = n; vectors = read.vectors }) text ending) same told;
    },
  )

  pub simulated : (outcome : Outcome) → Emits {E = Failed} (Simulates schedule trace (record { net = net; vectors = read.vectors })) output (Ok outcome)
      → AnswersOrder (Simulate schedule trace) input output outcome
  simulated outcome (text, told, wrote) = inr (record {
    bytes = has_read.0;
    reads_all = has_read.1;
    text = text;
    ending = outcome;
    writes = as_read text outcome told;
    ends = inl (refl, wrote);
  })

  pub not_simulated : (failed : Failed) → Emits (Simulates schedule trace (record { net = net; vectors = read.vectors })) output (Err failed)
      → AnswersOrder (Simulate schedule trace) input output outcomes.WriteFault
  not_simulated failed (text, ending, told, not_all) = inr (record {
    bytes = has_read.0;
    reads_all = has_read.1;
    text = text;
    ending = ending;
    writes = as_read text ending told;
    ends = inr (refl, not_all);
  })

-- after an ending the input was read, and a text for it was written
ended : RefusalsAreOfBytes → SimulatedLaw
ended of schedule trace input output outcome answers ends = go answers
  where
    Ended : Type 0
    Ended = (bytes : List ℕ) × ReadWhole (input_shown (has_scripts schedule)) input bytes × (read : SoundInput) × (text : List ℕ)
        × IsSimulation schedule trace bytes read text outcome × Wrote output text

    go : AnswersOrder (Simulate schedule trace) input output outcome → Ended
    go (inl (inl refused, unwritten)) = absurd (refusal_apart outcome (of (Simulate schedule trace) (refused.taken ++ refused.rest) outcome refused.refuses_all) ends)
    go (inl (inr (inl (e, failed)), unwritten)) = absurd (subst IsEnding e ends)
    go (inl (inr (inr (e, starved)), unwritten)) = absurd (subst IsEnding e ends)
    go (inr performed) = by_end performed.ends
      where
        by_end : Ends output performed.text performed.ending outcome → Ended
        by_end (inl (e, wrote)) = (
          performed.bytes,
          performed.reads_all,
          performed.writes.0,
          performed.text,
          subst (λ (o : Outcome). IsSimulation schedule trace performed.bytes performed.writes.0 performed.text o) (sym e) performed.writes.1,
          wrote,
        )
        by_end (inr (e, failed)) = absurd (subst IsEnding e ends)

pub simulated_law : RefusalsAreOfBytes → SimulatedLaw
simulated_law of = ended of
