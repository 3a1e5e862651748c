-- What the table gives: each outcome has its cause, and each cause its outcome.
use Rattle.std.proofs.Common.{◌≡◌, ◌⊎◌, inl, inr, ◌<◌, ◌-◌, ◌^◌, ℕ, Bool, true, false, List, [], ◌++◌, Some, None, refl, sym, ap, subst, ◌∙◌, append-nil}
use Rattle.std.specs.declared.option.Option.{Option}
use Rattle.std.specs.Io.KnownBytes.{Consumes, IsAtEnd}
use Rattle.byte_ports.specs.Causes.{Rose}
use Rattle.xsfq_cli.specs.declared.orders.Order.{Order}
use Rattle.xsfq_cli.specs.declared.orders.Order.TheVariants.{Check, Compile, Report, Simulate, Workload}
use Rattle.pulse_traces.specs.declared.scripts.CycleFault.{CycleFault}
use Rattle.xsfq_cli.specs.declared.orders.Schedule.{Schedule}
use Rattle.xsfq_cli.specs.declared.orders.Schedule.TheVariants.{Order as Ordered, Script}
use Rattle.run_outcomes.specs.declared.outcomes.Outcome.{Outcome}
use Rattle.run_outcomes.specs.declared.outcomes.Outcome.TheVariants as outcomes
use Rattle.xsfq_cli.specs.Judgements.{reads, shown, Refuses, Writes}
use Rattle.xsfq_cli.specs.Laws.{AcceptedLaw, IsCalm, OneRefusal, OnlyRefusedLaw, ReadFaultLaw, RefusalsAreOfBytes, RefusedHasNoText, RefusedLaw, UnreadLaw, UnwrittenLaw, UsageLaw, WriteFaultLaw}
use Rattle.xsfq_cli.specs.declared.simulation_inputs.SoundInput.{SoundInput}
use Rattle.run_outcomes.specs.Outcomes.{IsEnding, IsRefusal}
use Rattle.xsfq_cli.specs.Simulated.{ending_of, Simulates}
use Rattle.xsfq_cli.specs.Table.{AnswersOrder, Ends, Input, Leaves, Output, Performed, ReadsAll, ReadWhole, Refused, StopsAs, Unread, Unwritten, WriteFailed, Wrote}
use Rattle.xsfq_cli.proofs.Noting.{stayed}
use Rattle.xsfq_cli.proofs.Stopping.{answers_like, AnswersLike}

-- the ending of a replay
replay_ends : (fault : Option CycleFault) (ending : Outcome) → ending ≡ ending_of fault → IsEnding ending
replay_ends None ending e = subst IsEnding (sym e) tt
replay_ends (Some fault) ending e = subst IsEnding (sym e) tt

simulation_ends : (schedule : Schedule) (trace : Bool) (input : SoundInput) (text : List ℕ) (ending : Outcome) → Simulates schedule trace input text ending → IsEnding ending
simulation_ends (Ordered order) trace input text ending (cycles, simulated, e, d) = subst IsEnding (sym d) tt
simulation_ends Script trace input text ending (made, fault, replayed, e, d) = replay_ends fault ending d

-- the ending of a text is one
text_ends : (order : Order) (bytes text : List ℕ) (ending : Outcome) → Writes order bytes text ending → IsEnding ending
text_ends (Compile ask version) bytes text ending (net, compiled, e, d) = subst IsEnding (sym d) tt
text_ends Check bytes text ending (net, checked, e, d) = subst IsEnding (sym d) tt
text_ends Report bytes text ending (net, reported, d) = subst IsEnding (sym d) tt
text_ends (Simulate schedule trace) bytes text ending (input, is) = simulation_ends schedule trace input text ending is.simulates
text_ends (Workload bits) bytes text ending (work, is, made, e, d) = subst IsEnding (sym d) tt

-- no refusal is an ending
pub refusal_apart : (outcome : Outcome) → IsRefusal outcome → IsEnding outcome → ⊥
refusal_apart outcomes.Done is ends = absurd is
refusal_apart outcomes.Usage is ends = absurd is
refusal_apart (outcomes.Blif fault) is ends = absurd ends
refusal_apart (outcomes.Aiger fault) is ends = absurd ends
refusal_apart (outcomes.NetText refusal) is ends = absurd ends
refusal_apart (outcomes.Vector refusal) is ends = absurd ends
refusal_apart (outcomes.Limit quantity) is ends = absurd ends
refusal_apart (outcomes.Unsound unsound) is ends = absurd ends
refusal_apart (outcomes.Script cycle phase fault) is ends = absurd is
refusal_apart outcomes.ReadFault is ends = absurd is
refusal_apart outcomes.WriteFault is ends = absurd is
refusal_apart outcomes.NoMemory is ends = absurd is

-- an outcome that is no refusal is not one
not_refusal : (of : RefusalsAreOfBytes) (order : Order) (input : Input) (outcome other : Outcome) → (IsRefusal other → ⊥) → Refused (shown order) (Refuses order) input outcome
    → outcome ≡ other → ⊥
not_refusal of order input outcome other unlike refused e =
    unlike (subst IsRefusal e (of order (refused.taken ++ refused.rest) outcome refused.refuses_all))

-- the input of a whole reading did not fail
read_calm : (reading : Bool) (shows : List ℕ → Option Outcome) (input : Input) (bytes : List ℕ) → ReadsAll reading shows input bytes → input.faults_now ≡ input.faults
read_calm true shows input bytes whole = whole.calm
read_calm false shows input bytes (unread, e) = unread.faults

-- the bytes of an input that tells them
told_bytes : (before now : Option (List ℕ)) (bytes taken rest : List ℕ) → before ≡ Some bytes → Consumes before now taken → Leaves now rest → bytes ≡ taken ++ rest
told_bytes None now bytes taken rest e took leaves = cc
told_bytes (Some before) None bytes taken rest e took leaves = absurd took
told_bytes (Some before) (Some now) bytes taken rest e took leaves = let same : before ≡ bytes = cc in sym same ∙ took ∙ ap (λ l. taken ++ l) leaves

at_end : (now : Option (List ℕ)) → IsAtEnd now → Leaves now []
at_end None ended = tt
at_end (Some now) ended = ended

whole_bytes : (shows : List ℕ → Option Outcome) (input : Input) (bytes taken : List ℕ) → input.before ≡ Some bytes → ReadWhole shows input taken → bytes ≡ taken
whole_bytes shows input bytes taken e whole =
    told_bytes input.before input.now bytes taken [] e whole.took.consumed (at_end input.now whole.ended) ∙ append-nil taken

refused_bytes : (order : Order) (input : Input) (outcome : Outcome) (bytes : List ℕ) → input.before ≡ Some bytes → Refused (shown order) (Refuses order) input outcome
    → Refuses order bytes outcome
refused_bytes order input outcome bytes e refused =
    subst (λ (l : List ℕ). Refuses order l outcome) (sym (told_bytes input.before input.now bytes refused.taken refused.rest e refused.took.consumed refused.leaves)) refused.refuses_all

-- a text was written whole and the outcome is its ending, or not
ended_or_failed : (order : Order) (input : Input) (output : Output) (outcome : Outcome) → (performed : Performed order input output outcome)
    → (IsEnding outcome × Wrote output performed.text) ⊎ ((outcome ≡ outcomes.WriteFault) × WriteFailed output performed.text)
ended_or_failed order input output outcome performed = go performed.ends
  where
    go : Ends output performed.text performed.ending outcome
        → (IsEnding outcome × Wrote output performed.text) ⊎ ((outcome ≡ outcomes.WriteFault) × WriteFailed output performed.text)
    go (inl (e, wrote)) = inl (subst IsEnding (sym e) (text_ends order performed.bytes performed.text performed.ending performed.writes), wrote)
    go (inr failed) = inr failed

-- a command that reads nothing leaves its input as it was
unread_by : (order : Order) (reading : Bool) (input : Input) (output : Output) (outcome : Outcome) → reading ≡ false
    → StopsAs reading (shown order) (Refuses order) input outcome → Unread input
unread_by order true input output outcome is stops = cc
unread_by order false input output outcome is (e, unread) = unread

unread_whole : (order : Order) (reading : Bool) (input : Input) (bytes : List ℕ) → reading ≡ false → ReadsAll reading (shown order) input bytes → Unread input
unread_whole order true input bytes is whole = cc
unread_whole order false input bytes is (unread, e) = unread

pub unread_law : UnreadLaw
unread_law order input output outcome is answers = go answers
  where
    go : AnswersOrder order input output outcome → Unread input
    go (inl (stops, unwritten)) = unread_by order (reads order) input output outcome is stops
    go (inr performed) = unread_whole order (reads order) input performed.bytes is performed.reads_all

pub unwritten_law : UnwrittenLaw
unwritten_law order input output outcome answers not_ended not_failed = go answers
  where
    by_end : (text : List ℕ) → (IsEnding outcome × Wrote output text) ⊎ ((outcome ≡ outcomes.WriteFault) × WriteFailed output text) → Unwritten output
    by_end text (inl (ends, wrote)) = absurd (not_ended ends)
    by_end text (inr (e, failed)) = absurd (not_failed e)

    go : AnswersOrder order input output outcome → Unwritten output
    go (inl (stops, unwritten)) = unwritten
    go (inr performed) = by_end performed.text (ended_or_failed order input output outcome performed)

module _ (of : RefusalsAreOfBytes) (order : Order) (input : Input) (output : Output) (outcome : Outcome) where
  -- an outcome that comes neither of a refusal nor of a text
  apart : (other : Outcome) → (IsRefusal other → ⊥) → (IsEnding other → ⊥) → (other ≡ outcomes.WriteFault → ⊥) → (other ≡ outcomes.ReadFault → ⊥)
      → (other ≡ outcomes.NoMemory → ⊥) → outcome ≡ other → AnswersLike order input output outcome → ⊥
  apart other unlike done failed read memory e (inl (inl refused, unwritten)) = not_refusal of order input outcome other unlike refused e
  apart other unlike done failed read memory e (inl (inr (inl (d, f)), unwritten)) = read (sym e ∙ d)
  apart other unlike done failed read memory e (inl (inr (inr (d, s)), unwritten)) = memory (sym e ∙ d)
  apart other unlike done failed read memory e (inr performed) = go (ended_or_failed order input output outcome performed)
    where
      go : (IsEnding outcome × Wrote output performed.text) ⊎ ((outcome ≡ outcomes.WriteFault) × WriteFailed output performed.text) → ⊥
      go (inl (d, wrote)) = done (subst IsEnding e d)
      go (inr (d, f)) = failed (sym e ∙ d)

  write_rose : AnswersLike order input output outcome → outcome ≡ outcomes.WriteFault → Rose output.faults output.faults_now
  write_rose (inl (inl refused, unwritten)) e = absurd (not_refusal of order input outcome outcomes.WriteFault (λ is. is) refused e)
  write_rose (inl (inr (inl (d, f)), unwritten)) e = let both = sym e ∙ d in cc
  write_rose (inl (inr (inr (d, s)), unwritten)) e = let both = sym e ∙ d in cc
  write_rose (inr performed) e = go (ended_or_failed order input output outcome performed)
    where
      go : (IsEnding outcome × Wrote output performed.text) ⊎ ((outcome ≡ outcomes.WriteFault) × WriteFailed output performed.text)
          → Rose output.faults output.faults_now
      go (inl (d, wrote)) = absurd (subst IsEnding e d)
      go (inr (d, failed)) = failed.rose

  write_faulted : output.faults < 2 ^ 64 - 1 → AnswersLike order input output outcome → Rose output.faults output.faults_now → outcome ≡ outcomes.WriteFault
  write_faulted less (inl (stops, unwritten)) rose = absurd (stayed output.faults output.faults_now less unwritten.faults rose)
  write_faulted less (inr performed) rose = go (ended_or_failed order input output outcome performed)
    where
      go : (IsEnding outcome × Wrote output performed.text) ⊎ ((outcome ≡ outcomes.WriteFault) × WriteFailed output performed.text)
          → outcome ≡ outcomes.WriteFault
      go (inl (d, wrote)) = absurd (stayed output.faults output.faults_now less wrote.calm rose)
      go (inr (d, failed)) = d

  read_rose : AnswersLike order input output outcome → outcome ≡ outcomes.ReadFault → Rose input.faults input.faults_now
  read_rose (inl (inl refused, unwritten)) e = absurd (not_refusal of order input outcome outcomes.ReadFault (λ is. is) refused e)
  read_rose (inl (inr (inl (d, failed)), unwritten)) e = failed.rose
  read_rose (inl (inr (inr (d, s)), unwritten)) e = let both = sym e ∙ d in cc
  read_rose (inr performed) e = go (ended_or_failed order input output outcome performed)
    where
      go : (IsEnding outcome × Wrote output performed.text) ⊎ ((outcome ≡ outcomes.WriteFault) × WriteFailed output performed.text)
          → Rose input.faults input.faults_now
      go (inl (d, wrote)) = absurd (subst IsEnding e d)
      go (inr (d, failed)) = let both = sym e ∙ d in cc

  read_faulted : input.faults < 2 ^ 64 - 1 → AnswersLike order input output outcome → Rose input.faults input.faults_now → outcome ≡ outcomes.ReadFault
  read_faulted less (inl (inl refused, unwritten)) rose = absurd (stayed input.faults input.faults_now less refused.calm rose)
  read_faulted less (inl (inr (inl (d, failed)), unwritten)) rose = d
  read_faulted less (inl (inr (inr (d, starved)), unwritten)) rose = absurd (stayed input.faults input.faults_now less starved.calm rose)
  read_faulted less (inr performed) rose =
      absurd (stayed input.faults input.faults_now less (read_calm (reads order) (shown order) input performed.bytes performed.reads_all) rose)

  only_refused : (bytes : List ℕ) → input.before ≡ Some bytes → AnswersLike order input output outcome → IsRefusal outcome → Refuses order bytes outcome
  only_refused bytes e (inl (inl refused, unwritten)) is = refused_bytes order input outcome bytes e refused
  only_refused bytes e (inl (inr (inl (d, failed)), unwritten)) is = absurd (subst IsRefusal d is)
  only_refused bytes e (inl (inr (inr (d, starved)), unwritten)) is = absurd (subst IsRefusal d is)
  only_refused bytes e (inr performed) is = go (ended_or_failed order input output outcome performed)
    where
      go : (IsEnding outcome × Wrote output performed.text) ⊎ ((outcome ≡ outcomes.WriteFault) × WriteFailed output performed.text)
          → Refuses order bytes outcome
      go (inl (d, wrote)) = absurd (refusal_apart outcome is d)
      go (inr (d, failed)) = absurd (subst IsRefusal d is)

  -- the bytes of an input that was read whole
  read_bytes : (bytes : List ℕ) → reads order ≡ true → input.before ≡ Some bytes → (performed : Performed order input output outcome) → bytes ≡ performed.bytes
  read_bytes bytes reading e performed =
      whole_bytes (shown order) input bytes performed.bytes e
      (subst (λ (b : Bool). ReadsAll b (shown order) input performed.bytes) reading performed.reads_all)

  complete_refused : OneRefusal → RefusedHasNoText → (refusal : Outcome) (bytes : List ℕ) → reads order ≡ true → input.before ≡ Some bytes
      → IsCalm input.faults input.faults_now → AnswersLike order input output outcome → Refuses order bytes refusal
      → (outcome ≡ refusal) ⊎ (outcome ≡ outcomes.NoMemory)
  complete_refused one none refusal bytes reading e calm (inl (inl refused, unwritten)) is =
      inl (one order bytes outcome refusal (refused_bytes order input outcome bytes e refused) is)
  complete_refused one none refusal bytes reading e calm (inl (inr (inl (d, failed)), unwritten)) is =
      absurd (stayed input.faults input.faults_now calm.below calm.kept failed.rose)
  complete_refused one none refusal bytes reading e calm (inl (inr (inr (d, starved)), unwritten)) is = inr d
  complete_refused one none refusal bytes reading e calm (inr performed) is =
      absurd (none order performed.bytes performed.text refusal performed.ending
      (subst (λ (l : List ℕ). Refuses order l refusal) (read_bytes bytes reading e performed) is) performed.writes)

  complete_accepted : (bytes : List ℕ) → reads order ≡ true → input.before ≡ Some bytes → IsCalm input.faults input.faults_now → IsCalm output.faults output.faults_now
      → AnswersLike order input output outcome → ((refusal : Outcome) → Refuses order bytes refusal → ⊥)
      → (outcome ≡ outcomes.NoMemory) ⊎ ((text : List ℕ) × Writes order bytes text outcome × Wrote output text)
  complete_accepted bytes reading e calm quiet (inl (inl refused, unwritten)) accepted =
      absurd (accepted outcome (refused_bytes order input outcome bytes e refused))
  complete_accepted bytes reading e calm quiet (inl (inr (inl (d, failed)), unwritten)) accepted =
      absurd (stayed input.faults input.faults_now calm.below calm.kept failed.rose)
  complete_accepted bytes reading e calm quiet (inl (inr (inr (d, starved)), unwritten)) accepted = inl d
  complete_accepted bytes reading e calm quiet (inr performed) accepted = go performed.ends
    where
      go : Ends output performed.text performed.ending outcome
          → (outcome ≡ outcomes.NoMemory) ⊎ ((text : List ℕ) × Writes order bytes text outcome × Wrote output text)
      go (inl (d, wrote)) =
          inr (
            performed.text,
            subst (λ (l : List ℕ). Writes order l performed.text outcome) (sym (read_bytes bytes reading e performed))
                (subst (λ (o : Outcome). Writes order performed.bytes performed.text o) (sym d) performed.writes),
            wrote,
          )
      go (inr (d, failed)) = absurd (stayed output.faults output.faults_now quiet.below quiet.kept failed.rose)

module _ (one : OneRefusal) (none : RefusedHasNoText) (of : RefusalsAreOfBytes) where
  pub usage_law : UsageLaw
  usage_law = record {
    comes = λ input output outcome answers. answers;
    only = λ order input output answers.
        apart of order input output outcomes.Usage outcomes.Usage (λ is. is) (λ is. is) (λ e. cc) (λ e. cc) (λ e. cc) refl (answers_like order input output outcomes.Usage answers);
  }

  pub read_fault_law : ReadFaultLaw
  read_fault_law = λ order input output outcome less answers.
      (read_rose of order input output outcome (answers_like order input output outcome answers), read_faulted of order input output outcome less (answers_like order input output outcome answers))

  pub write_fault_law : WriteFaultLaw
  write_fault_law = λ order input output outcome less answers.
      (write_rose of order input output outcome (answers_like order input output outcome answers), write_faulted of order input output outcome less (answers_like order input output outcome answers))

  pub refused_law : RefusedLaw
  refused_law = λ order input output outcome refusal bytes reading e calm answers is.
      complete_refused of order input output outcome one none refusal bytes reading e calm (answers_like order input output outcome answers) is

  pub accepted_law : AcceptedLaw
  accepted_law = λ order input output outcome bytes reading e calm quiet answers accepted.
      complete_accepted of order input output outcome bytes reading e calm quiet (answers_like order input output outcome answers) accepted

  pub only_refused_law : OnlyRefusedLaw
  only_refused_law = λ order input output outcome bytes e answers is. only_refused of order input output outcome bytes e (answers_like order input output outcome answers) is
