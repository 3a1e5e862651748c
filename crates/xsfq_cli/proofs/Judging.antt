-- What a command makes of an input is one thing.
use Rattle.std.proofs.Common.{◌≡◌, ◌++◌, ℕ, List, Ok, Err, refl, sym, ap, subst, ◌∙◌}
use Rattle.std.specs.declared.result.Result.{Result}
use Rattle.cell_netlist.specs.Netlists.{PlainNetlist}
use Rattle.cell_netlist.specs.Sound.{Breaks, IsSound}
use Rattle.cell_netlist.specs.Refused.{FirstRefusalsAreEqual, SoundIsNotRefused}
use Rattle.netlist_reader.specs.Laws as nets
use Rattle.simulation_reader.specs.declared.readers.SimulationInput.{SimulationInput}
use Rattle.netlist_reader.specs.declared.refusals.NetRefusal.TheVariants as net_refusals
use Rattle.schedule_replay.specs.declared.refusals.VectorRefusal.TheVariants as vector_refusals
use Rattle.simulation_reader.specs.declared.refusals.InputRefusal.{InputRefusal}
use Rattle.simulation_reader.specs.declared.refusals.InputRefusal.TheVariants.{Net, Vectors}
use Rattle.simulation_reader.specs.InputTexts as input_texts
use Rattle.simulation_reader.specs.Laws as inputs
use Rattle.xsfq_cli.specs.declared.simulation_inputs.SoundInput.{SoundInput}
use Rattle.xsfq_cli.specs.Simulated.{has_scripts, in_outcomes, input_said, IsInputBy}
use Rattle.source_machine.specs.declared.unset.Unset.TheVariants.{Refuse}
use Rattle.source_machine.specs.Machines.{PlainMachine}
use Rattle.source_machine.specs.Laws.{FoundedIsNotRefused, RefusalsAreEqual}
use Rattle.aiger_reader.specs.declared.refusals.AigerRefusal.{AigerRefusal}
use Rattle.aiger_reader.specs.declared.refusals.AigerRefusal.TheVariants as refusals
use Rattle.aiger_reader.specs.Sources.{judgement}
use Rattle.aiger_reader.specs.Laws.{EarlyStands}
use Rattle.blif_reader.specs.declared.refusals.BlifRefusal.{BlifRefusal}
use Rattle.blif_reader.specs.declared.refusals.BlifRefusal.TheVariants as blif_refusals
use Rattle.blif_reader.specs.Sources as blif_sources
use Rattle.blif_reader.specs.Laws as blif_laws
use Rattle.xsfq_cli.specs.declared.orders.Order.TheVariants.{Check, Compile, Report, Simulate, Workload}
use Rattle.run_outcomes.specs.declared.outcomes.Outcome.{Outcome}
use Rattle.run_outcomes.specs.declared.outcomes.Outcome.TheVariants.{Unsound}
use Rattle.xsfq_cli.specs.Checked.{IsCheckBy}
use Rattle.xsfq_cli.specs.NetTexts.{net_said}
use Rattle.run_outcomes.specs.Outcomes.{aiger_outcome, blif_outcome, input_outcome, IsRefusal}
use Rattle.xsfq_cli.specs.Sources.{SourceKind, Aiger, Blif, kind_of, IsVerdictAs}
use Rattle.xsfq_cli.specs.Laws.{OneVerdict, OneRefusal, RefusedHasNoText, RefusalsAreOfBytes, ShownIsRefused}
use Rattle.xsfq_cli.proofs.AigerVerdicts.{IsOfBytes, one_verdict_of, verdict_of_bytes}
use Rattle.xsfq_cli.proofs.BlifVerdicts.{one_blif, blif_of_bytes}
use Rattle.xsfq_cli.proofs.InputReading.{input_is_early}
use Rattle.xsfq_cli.proofs.SoundInputs.{refused_text}
use Rattle.xsfq_cli.proofs.NetReading.{net_is_early}
use Rattle.xsfq_cli.proofs.NetVerdicts.{said_of_bytes}
use Rattle.xsfq_cli.proofs.SourceReading.{source_is_early}

-- a text is checked by one outcome
one_check : FirstRefusalsAreEqual → (said : Result PlainNetlist Outcome) (one other : Outcome) → IsCheckBy said (Err one) → IsCheckBy said (Err other) → one ≡ other
one_check first (Ok net) one other (broken, is, e) (second, are, d) = e ∙ ap (λ u. Unsound u) (first net broken second is are) ∙ sym d
one_check first (Err refusal) one other is are = let both = is ∙ sym are in cc

-- a sound netlist has no refusal
pub unrefused : SoundIsNotRefused → (net : PlainNetlist) (said : Result PlainNetlist Outcome) (refusal : Outcome) → said ≡ Ok net → IsSound net → IsCheckBy said (Err refusal) → ⊥
unrefused sound net (Ok other) refusal e is (broken, first, d) = sound net is broken (subst (λ (n : PlainNetlist). Breaks n broken) (let same : other ≡ net = cc in same) first.breaks)
unrefused sound net (Err other) refusal e is are = cc

-- an input of `simulate` is refused by one outcome
one_input : FirstRefusalsAreEqual → (said : Result SimulationInput Outcome) (one other : Outcome) → IsInputBy said (Err one) → IsInputBy said (Err other) → one ≡ other
one_input first (Ok input) one other (broken, is, e) (second, are, d) = e ∙ ap (λ u. Unsound u) (first input.net broken second is are) ∙ sym d
one_input first (Err refusal) one other is are = let both = is ∙ sym are in cc

-- one with a sound netlist has no refusal
found_unrefused : SoundIsNotRefused → (said : Result SimulationInput Outcome) (found : SoundInput) (refusal : Outcome) → IsInputBy said (Ok found) → IsInputBy said (Err refusal) → ⊥
found_unrefused sound (Ok input) found refusal (net, vectors, is) (broken, first, e) = sound input.net is broken first.breaks
found_unrefused sound (Err other) found refusal e d = cc

module _ (founded : FoundedIsNotRefused) (equal : RefusalsAreEqual) (first : FirstRefusalsAreEqual) (sound : SoundIsNotRefused) where
  -- a source of a kind has one verdict
  one_as : (kind : SourceKind) (bytes : List ℕ) (one other : Result PlainMachine Outcome) → IsVerdictAs kind bytes one → IsVerdictAs kind bytes other → one ≡ other
  one_as Aiger bytes (Ok one) (Ok other) is are = let e = one_verdict_of founded equal (judgement Refuse bytes) (Ok one) (Ok other) is are in cc
  one_as Aiger bytes (Ok one) (Err other) is (refusal, are, d) =
      let e = one_verdict_of founded equal (judgement Refuse bytes) (Ok one) (Err refusal) is are in cc
  one_as Aiger bytes (Err one) (Ok other) (refusal, is, d) are =
      let e = one_verdict_of founded equal (judgement Refuse bytes) (Err refusal) (Ok other) is are in cc
  one_as Aiger bytes (Err one) (Err other) (refusal, is, d) (second, are, f) =
      let e = one_verdict_of founded equal (judgement Refuse bytes) (Err refusal) (Err second) is are in
      let same : refusal ≡ second = cc in
      ap (λ o. Err o) (d ∙ ap aiger_outcome same ∙ sym f)
  one_as Blif bytes (Ok one) (Ok other) is are = let e = one_blif founded equal (blif_sources.judgement Refuse bytes) (Ok one) (Ok other) is are in cc
  one_as Blif bytes (Ok one) (Err other) is (refusal, are, d) =
      let e = one_blif founded equal (blif_sources.judgement Refuse bytes) (Ok one) (Err refusal) is are in cc
  one_as Blif bytes (Err one) (Ok other) (refusal, is, d) are =
      let e = one_blif founded equal (blif_sources.judgement Refuse bytes) (Err refusal) (Ok other) is are in cc
  one_as Blif bytes (Err one) (Err other) (refusal, is, d) (second, are, f) =
      let e = one_blif founded equal (blif_sources.judgement Refuse bytes) (Err refusal) (Err second) is are in
      let same : refusal ≡ second = cc in
      ap (λ o. Err o) (d ∙ ap blif_outcome same ∙ sym f)

  pub verdicts_are_one : OneVerdict
  verdicts_are_one = λ bytes one other is are. one_as (kind_of bytes) bytes one other is are

  pub refusals_are_one : OneRefusal
  refusals_are_one (Compile ask version) bytes one other is are = let e = verdicts_are_one bytes (Err one) (Err other) is are in cc
  refusals_are_one Check bytes one other is are = one_check first (net_said bytes) one other is are
  refusals_are_one Report bytes one other is are = one_check first (net_said bytes) one other is are
  refusals_are_one (Simulate schedule trace) bytes one other is are = one_input first (input_said (has_scripts schedule) bytes) one other is are
  refusals_are_one (Workload bits) bytes one other is are = absurd is

  pub refused_without_text : RefusedHasNoText
  refused_without_text (Compile ask version) bytes text refusal ending is (net, compiled, e, d) =
      let same = verdicts_are_one bytes (Err refusal) (Ok compiled.machine) is compiled.verdict in cc
  refused_without_text Check bytes text refusal ending is (net, checked, e, d) = unrefused sound net (net_said bytes) refusal checked.said checked.sound is
  refused_without_text Report bytes text refusal ending is (net, reported, d) =
      unrefused sound net (net_said bytes) refusal reported.checked.said reported.checked.sound is
  refused_without_text (Simulate schedule trace) bytes text refusal ending is (found, simulation) =
      found_unrefused sound (input_said (has_scripts schedule) bytes) found refusal simulation.has is
  refused_without_text (Workload bits) bytes text refusal ending is writes = absurd is

-- the outcome of a refusal of the bytes
of_bytes : (refusal : AigerRefusal) (outcome : Outcome) → IsOfBytes refusal → outcome ≡ aiger_outcome refusal → IsRefusal outcome
of_bytes (refusals.Fault fault) outcome is e = subst IsRefusal (sym e) tt
of_bytes (refusals.Limit quantity) outcome is e = subst IsRefusal (sym e) tt
of_bytes refusals.NoMemory outcome is e = absurd is

of_blif_bytes : (refusal : BlifRefusal) (outcome : Outcome) → blif_laws.IsOfBytes refusal → outcome ≡ blif_outcome refusal → IsRefusal outcome
of_blif_bytes (blif_refusals.Fault fault) outcome is e = subst IsRefusal (sym e) tt
of_blif_bytes (blif_refusals.Limit quantity) outcome is e = subst IsRefusal (sym e) tt
of_blif_bytes blif_refusals.NoMemory outcome is e = absurd is

refusal_as : blif_laws.SourcesAreTold → (kind : SourceKind) (bytes : List ℕ) (outcome : Outcome) → IsVerdictAs kind bytes (Err outcome) → IsRefusal outcome
refusal_as told Aiger bytes outcome (refusal, is, e) = of_bytes refusal outcome (verdict_of_bytes Refuse bytes refusal is) e
refusal_as told Blif bytes outcome (refusal, is, e) = of_blif_bytes refusal outcome (blif_of_bytes told Refuse bytes refusal is) e

check_of_bytes : (bytes : List ℕ) (said : Result PlainNetlist Outcome) (outcome : Outcome) → net_said bytes ≡ said → IsCheckBy said (Err outcome) → IsRefusal outcome
check_of_bytes bytes (Ok net) outcome e (broken, is, d) = subst IsRefusal (sym d) tt
check_of_bytes bytes (Err refusal) outcome e is = said_of_bytes bytes outcome (e ∙ sym is)

-- a refusal of an input of `simulate` is one of its bytes, or that its netlist is unsound
input_outcome_is : (refusal : InputRefusal) → inputs.IsOfBytes refusal → IsRefusal (input_outcome refusal)
input_outcome_is (Net (net_refusals.BadLine line)) is = tt
input_outcome_is (Net net_refusals.Truncated) is = tt
input_outcome_is (Net (net_refusals.Limit quantity)) is = tt
input_outcome_is (Net net_refusals.NoMemory) is = absurd is
input_outcome_is (Vectors (vector_refusals.BadLine line)) is = tt
input_outcome_is (Vectors vector_refusals.Truncated) is = tt
input_outcome_is (Vectors (vector_refusals.Limit quantity)) is = tt
input_outcome_is (Vectors vector_refusals.NoMemory) is = absurd is

input_refusal : (judged : Result SimulationInput InputRefusal) (outcome : Outcome) → ((refusal : InputRefusal) → judged ≡ Err refusal → inputs.IsOfBytes refusal)
    → IsInputBy (in_outcomes judged) (Err outcome) → IsRefusal outcome
input_refusal (Ok input) outcome of (broken, is, d) = subst IsRefusal (sym d) tt
input_refusal (Err refusal) outcome of e =
    let same : input_outcome refusal ≡ outcome = cc in subst IsRefusal same (input_outcome_is refusal (of refusal refl))

pub refusals_of_bytes : blif_laws.SourcesAreTold → inputs.RefusalsAreOfBytes → RefusalsAreOfBytes
refusals_of_bytes told of (Compile ask version) bytes refusal is = refusal_as told (kind_of bytes) bytes refusal is
refusals_of_bytes told of Check bytes refusal is = check_of_bytes bytes (net_said bytes) refusal refl is
refusals_of_bytes told of Report bytes refusal is = check_of_bytes bytes (net_said bytes) refusal refl is
refusals_of_bytes told of (Simulate schedule trace) bytes refusal is =
    input_refusal (input_texts.judgement (has_scripts schedule) bytes) refusal (of (has_scripts schedule) bytes) is
refusals_of_bytes told of (Workload bits) bytes refusal is = absurd is

-- what refuses the bytes refuses the input
refused_input : (said : Result SimulationInput Outcome) (outcome : Outcome) → said ≡ Err outcome → IsInputBy said (Err outcome)
refused_input (Ok input) outcome e = cc
refused_input (Err refusal) outcome e = let same : outcome ≡ refusal = cc in ap (λ (o : Outcome). Err o) same

pub shown_is_refused : EarlyStands → blif_laws.EarlyStands → nets.EarlyStands → inputs.EarlyStands → ShownIsRefused
shown_is_refused stands also others last (Compile ask version) bytes more outcome e = (source_is_early stands also).final bytes more outcome e
shown_is_refused stands also others last Check bytes more outcome e = refused_text (net_said (bytes ++ more)) outcome ((net_is_early others).final bytes more outcome e)
shown_is_refused stands also others last Report bytes more outcome e = refused_text (net_said (bytes ++ more)) outcome ((net_is_early others).final bytes more outcome e)
shown_is_refused stands also others last (Simulate schedule trace) bytes more outcome e =
    refused_input (input_said (has_scripts schedule) (bytes ++ more)) outcome ((input_is_early last (has_scripts schedule)).final bytes more outcome e)
shown_is_refused stands also others last (Workload bits) bytes more outcome e = cc
