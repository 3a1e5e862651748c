-- What lines add to what was built, and that it adds up.
use Rattle.std.proofs.Common.{◌≡◌, ℕ, Bool, true, false, ◌||◌, List, [], ◌∷◌, ◌++◌, map, Option, Some, None, refl, sym, ap, subst, ◌∙◌, append_assoc}
use Rattle.std.specs.List.{flat_map}
use Rattle.std.specs.Option.{option_or}
use Rattle.std.proofs.lemmas.List.{append-nil, map-append}
use Rattle.std.proofs.Math.Bool.{or-false}
use Rattle.source_machine.specs.declared.unset.Unset.{Unset}
use Rattle.source_machine.specs.Machines.{PlainMachine, PlainLatch}
use Rattle.blif_reader.specs.States.{BlifState, OpenEquation, closed, with_open}
use Rattle.blif_reader.specs.Tellings.{net_of, literal_told, latch_told, first_of, has_words, names_in, input_words, output_words, latch_words, clocks_in, clock_words}
use Rattle.blif_reader.proofs.FirstNames.{joined, joined_on, Extends, extends_on, extends_joined}

-- names of nets, inputs and outputs, latches over all nets, names of clocks, and those of `.clock`
pub record Said : Type 0 where
  pub names : List (List ℕ)
  pub inputs : List (List ℕ)
  pub outputs : List (List ℕ)
  pub latches : List (List ℕ) → List PlainLatch
  pub clocks : List (List ℕ)
  pub declared : List (List ℕ)

abbrev pub nothing_said : Said
nothing_said = record { names = []; inputs = []; outputs = []; latches = λ big. []; clocks = []; declared = [] }

abbrev pub and_then : Said → Said → Said
and_then a b = record {
  names = a.names ++ b.names;
  inputs = a.inputs ++ b.inputs;
  outputs = a.outputs ++ b.outputs;
  latches = λ big. a.latches big ++ b.latches big;
  clocks = a.clocks ++ b.clocks;
  declared = a.declared ++ b.declared;
}

abbrev pub said_in : Unset → List (List ℕ) → Said
said_in unset line = record {
  names = names_in line;
  inputs = input_words line;
  outputs = output_words line;
  latches = λ big. latch_told unset big (latch_words line);
  clocks = clocks_in line;
  declared = clock_words line;
}

abbrev pub said_by : Unset → List (List (List ℕ)) → Said
said_by unset lines = record {
  names = flat_map names_in lines;
  inputs = flat_map input_words lines;
  outputs = flat_map output_words lines;
  latches = λ big. flat_map (λ line. latch_told unset big (latch_words line)) lines;
  clocks = flat_map clocks_in lines;
  declared = flat_map clock_words lines;
}

abbrev pub named : List ℕ → Option (List ℕ)
named name = Some name

-- the later state has what is said beside what the earlier one has
pub record Tells (state next : BlifState) (said : Said) : Type 0 where
  pub nets : next.nets ≡ joined state.nets said.names
  pub inputs : (big : List (List ℕ)) → Extends next.nets big → next.machine.inputs ≡ state.machine.inputs ++ map (net_of big) said.inputs
  pub input_names : next.machine.input_names ≡ state.machine.input_names ++ map named said.inputs
  pub outputs : (big : List (List ℕ)) → Extends next.nets big → next.machine.outputs ≡ state.machine.outputs ++ map (literal_told big) said.outputs
  pub output_names : next.machine.output_names ≡ state.machine.output_names ++ map named said.outputs
  pub latches : (big : List (List ℕ)) → Extends next.nets big → next.machine.latches ≡ state.machine.latches ++ said.latches big
  pub clock : next.clock ≡ option_or state.clock (first_of said.clocks)
  pub clocked : next.clocked ≡ (state.clocked || has_words said.declared)

pub or_none : {A : Type 0} (o : Option A) → option_or o None ≡ o
or_none None = refl
or_none (Some x) = refl

first_or : (old : Option (List ℕ)) (a b : List (List ℕ)) → option_or (option_or old (first_of a)) (first_of b) ≡ option_or old (first_of (a ++ b))
first_or (Some name) a b = refl
first_or None [] b = refl
first_or None (name ∷ a) b = refl

words_or : (old : Bool) (a b : List (List ℕ)) → ((old || has_words a) || has_words b) ≡ (old || has_words (a ++ b))
words_or old [] b = ap (λ c. c || has_words b) (or-false old)
words_or true (name ∷ a) b = refl
words_or false (name ∷ a) b = refl

latches_join : (old middle next a b : List PlainLatch) → middle ≡ old ++ a → next ≡ middle ++ b → next ≡ old ++ (a ++ b)
latches_join old middle next a b e h = h ∙ ap (λ (l : List PlainLatch). l ++ b) e ∙ append_assoc old a b

joins : {A B : Type 0} (f : A → B) (old middle next : List B) (a b : List A) → middle ≡ old ++ map f a → next ≡ middle ++ map f b → next ≡ old ++ map f (a ++ b)
joins {A = A} {B = B} f old middle next a b e h =
    h ∙ ap (λ (l : List B). l ++ map f b) e ∙ append_assoc old (map f a) (map f b) ∙ ap (λ (l : List B). old ++ l) (sym (map-append f a b))

-- one thing after another
pub tells_on : (state middle next : BlifState) (a b : Said) → Tells state middle a → Tells middle next b → Tells state next (and_then a b)
tells_on state middle next a b s t =
    let more : Extends middle.nets next.nets = subst (λ (l : List (List ℕ)). Extends middle.nets l) (sym t.nets) (extends_joined middle.nets b.names) in
    record {
      nets = t.nets ∙ ap (λ (l : List (List ℕ)). joined l b.names) s.nets ∙ sym (joined_on state.nets a.names b.names);
      inputs = λ big x. joins (net_of big) state.machine.inputs middle.machine.inputs next.machine.inputs a.inputs b.inputs
          (s.inputs big (extends_on middle.nets next.nets big more x)) (t.inputs big x);
      input_names = joins named state.machine.input_names middle.machine.input_names next.machine.input_names a.inputs b.inputs s.input_names t.input_names;
      outputs = λ big x. joins (literal_told big) state.machine.outputs middle.machine.outputs next.machine.outputs a.outputs b.outputs
          (s.outputs big (extends_on middle.nets next.nets big more x)) (t.outputs big x);
      output_names = joins named state.machine.output_names middle.machine.output_names next.machine.output_names a.outputs b.outputs s.output_names t.output_names;
      latches = λ big x. latches_join state.machine.latches middle.machine.latches next.machine.latches (a.latches big) (b.latches big)
          (s.latches big (extends_on middle.nets next.nets big more x)) (t.latches big x);
      clock = t.clock ∙ ap (λ (o : Option (List ℕ)). option_or o (first_of b.clocks)) s.clock ∙ first_or state.clock a.clocks b.clocks;
      clocked = t.clocked ∙ ap (λ c. c || has_words b.declared) s.clocked ∙ words_or state.clocked a.declared b.declared;
    }

-- what keeps nets, machine and clock says nothing
pub tells_nothing : (state next : BlifState) → next.nets ≡ state.nets → next.machine ≡ state.machine → next.clock ≡ state.clock → next.clocked ≡ state.clocked → Tells state next nothing_said
tells_nothing state next nets machine clock clocked = record {
  nets = nets;
  inputs = λ big x. ap (λ (m : PlainMachine). m.inputs) machine ∙ sym (append-nil state.machine.inputs);
  input_names = ap (λ (m : PlainMachine). m.input_names) machine ∙ sym (append-nil state.machine.input_names);
  outputs = λ big x. ap (λ (m : PlainMachine). m.outputs) machine ∙ sym (append-nil state.machine.outputs);
  output_names = ap (λ (m : PlainMachine). m.output_names) machine ∙ sym (append-nil state.machine.output_names);
  latches = λ big x. ap (λ (m : PlainMachine). m.latches) machine ∙ sym (append-nil state.machine.latches);
  clock = clock ∙ sym (or_none state.clock);
  clocked = clocked ∙ sym (or-false state.clocked);
}

open_by : (state next : BlifState) (said : Said) (unended : Option OpenEquation) → Tells (record state { machine = with_open unended state.machine; unended = None }) next said → Tells state next said
open_by state next said None t = record {
  nets = t.nets;
  inputs = t.inputs;
  input_names = t.input_names;
  outputs = t.outputs;
  output_names = t.output_names;
  latches = t.latches;
  clock = t.clock;
  clocked = t.clocked;
}
open_by state next said (Some unended) t = record {
  nets = t.nets;
  inputs = t.inputs;
  input_names = t.input_names;
  outputs = t.outputs;
  output_names = t.output_names;
  latches = t.latches;
  clock = t.clock;
  clocked = t.clocked;
}

-- closing the last equation says nothing
pub after_closing : (state next : BlifState) (said : Said) → Tells (closed state) next said → Tells state next said
after_closing state next said t = open_by state next said state.unended t
