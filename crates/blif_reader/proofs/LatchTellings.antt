-- What the line of a latch adds.
use Rattle.std.proofs.Common.{◌≡◌, ℕ, ◌+◌, Bool, true, false, ◌||◌, cond, List, [], ◌∷◌, ◌++◌, length, Option, Some, None, Ok, Err, codes, refl, sym, ap, subst, ◌∙◌}
use Rattle.std.specs.Prelude.{unwrap_or}
use Rattle.std.specs.Option.{option_or}
use Rattle.std.specs.Str.{bytes_eq}
use Rattle.std.proofs.lemmas.List.{append-nil}
use Rattle.std.proofs.Math.Bool.{or-false}
use Rattle.pulse_ids.specs.declared.quantities.Quantity.TheVariants as quantities
use Rattle.numbered_names.specs.Names.{names_with, number_for}
use Rattle.source_machine.specs.declared.unset.Unset.{Unset}
use Rattle.source_machine.specs.Unset.{first_bit}
use Rattle.source_machine.specs.Machines.{PlainLatch}
use Rattle.source_machine.specs.Additions.{with_latch}
use Rattle.blif_reader.specs.declared.refusals.LineRefusal.{LineRefusal}
use Rattle.blif_reader.specs.declared.refusals.LineRefusal.TheVariants as line_refusals
use Rattle.blif_reader.specs.declared.refusals.BlifCause.TheVariants as causes
use Rattle.blif_reader.specs.States.{BlifState}
use Rattle.blif_reader.specs.Latches.{net_read, latch_read, latch_added, state_given, untyped_read, typed_read, latch_words_read, is_mixed, with_type, edge_of, first_state, names_clock}
use Rattle.blif_reader.specs.Tellings.{net_of, latch_told, value_in, bit_given, control_in, ends_of, first_of}
use Rattle.blif_reader.proofs.Inversions.{allowed, over_ok, after_ok}
use Rattle.blif_reader.proofs.FirstNames.{extends_on, extends_with, net_kept}
use Rattle.blif_reader.proofs.Sayings.{Said, nothing_said, Tells, or_none}
use Rattle.blif_reader.proofs.WordTellings.{Keeps, net_named}

abbrev pub says_latch : Unset → List (List ℕ) → Said
says_latch unset words = record nothing_said { names = ends_of words; latches = λ big. latch_told unset big words; clocks = control_in words }

bit_by : (a b c : Bool) (refusal : LineRefusal) (init given : Option Bool) (bit : Bool) → cond a (Ok (Some false)) (cond b (Ok (Some true)) (cond c (Ok None) (Err refusal))) ≡ Ok init
    → option_or init given ≡ Some bit → bit ≡ cond a false (cond b true (unwrap_or given false))
bit_by true b c refusal (Some x) given bit e h = cc
bit_by true b c refusal None given bit e h = absurd cc
bit_by false true c refusal (Some x) given bit e h = cc
bit_by false true c refusal None given bit e h = absurd cc
bit_by false false true refusal (Some x) given bit e h = absurd cc
bit_by false false true refusal None given bit e h = rw h refl
bit_by false false false refusal init given bit e h = absurd cc

-- the bit of an initial value
bit_is : (unset : Unset) (value : List ℕ) (init : Option Bool) (bit : Bool) → first_state value ≡ Ok init → state_given unset init ≡ Some bit → bit ≡ bit_given unset value
bit_is unset value init bit e h =
    bit_by (bytes_eq value (codes "0")) (bytes_eq value (codes "1")) (bytes_eq value (codes "2") || bytes_eq value (codes "3")) (line_refusals.Cause causes.BadWord) init (first_bit unset) bit e h

-- a latch's nets and first bit, on top of the type and the control
record Latched (unset : Unset) (state next : BlifState) (input output value : List ℕ) : Type 0 where
  bit : Bool
  first : bit ≡ bit_given unset value
  is : next ≡ record state {
    nets = names_with (names_with state.nets input) output;
    machine = with_latch state.machine (record {
      out = number_for (names_with state.nets input) output;
      init = bit;
      next = record { net = number_for state.nets input; negated = false };
    });
  }

added_is : (unset : Unset) (state next : BlifState) (input output value : List ℕ) (init given : Option Bool) → first_state value ≡ Ok init → state_given unset init ≡ given
    → latch_added state (names_with state.nets input) (names_with (names_with state.nets input) output) input output given ≡ Ok next → Latched unset state next input output value
added_is unset state next input output value init None e f h = absurd cc
added_is unset state next input output value init (Some bit) e f h = record { bit = bit; first = bit_is unset value init bit e f; is = cc }

latch_is : (unset : Unset) (state next : BlifState) (input output value : List ℕ) (init : Option Bool) → first_state value ≡ Ok init → latch_read unset state input output init ≡ Ok next
    → Latched unset state next input output value
latch_is unset state next input output value init e h =
    let first = after_ok (net_read state.nets input) _ next h in
    let second = after_ok (net_read first.0 output) _ next first.2 in
    let room = over_ok quantities.Latches (length state.machine.latches + 1) _ next second.2 in
    let a = net_named state.nets first.0 input first.1 in
    let b : names_with (names_with state.nets input) output ≡ second.0 = ap (λ (l : List (List ℕ)). names_with l output) a ∙ net_named first.0 second.0 output second.1 in
    added_is unset state next input output value init (state_given unset init) e refl
    (ap (λ (l : List (List ℕ)). latch_added state l (names_with (names_with state.nets input) output) input output (state_given unset init)) a
    ∙ ap (λ (l : List (List ℕ)). latch_added state first.0 l input output (state_given unset init)) b ∙ room.1)

-- the words of a latch are read
latched_tells : (unset : Unset) (state typed next : BlifState) (input output value : List ℕ) (more : List (List ℕ)) → value_in more ≡ value
    → typed.nets ≡ state.nets → typed.machine ≡ state.machine → typed.unended ≡ state.unended → typed.modelled ≡ state.modelled → typed.clocked ≡ state.clocked
    → typed.clock ≡ option_or state.clock (first_of (control_in (input ∷ output ∷ more)))
    → Latched unset typed next input output value → Tells state next (says_latch unset (input ∷ output ∷ more)) × Keeps state next
latched_tells unset state typed next input output value more v nets machine unended modelled clocked clock l =
    let middle : List (List ℕ) = names_with state.nets input in
    let latch : List (List ℕ) → PlainLatch = λ (n : List (List ℕ)). record {
      out = number_for (names_with n input) output;
      init = l.bit;
      next =
          record { net = number_for n input; negated = false };
    } in
    let new : BlifState = record typed { nets = names_with middle output; machine = with_latch state.machine (latch state.nets) } in
    let is : new ≡ next =
    ap (λ m. record typed { nets = names_with middle output; machine = with_latch m (latch state.nets) }) (sym machine)
    ∙ ap (λ (n : List (List ℕ)). record typed { nets = names_with (names_with n input) output; machine = with_latch typed.machine (latch n) }) (sym nets) ∙ sym l.is in
    let at : ℕ → ℕ → Bool → List PlainLatch = λ out net init. state.machine.latches ++ (record { out = out; init = init; next = record { net = net; negated = false } }) ∷ [] in
    let bit : l.bit ≡ bit_given unset (value_in more) = l.first ∙ ap (bit_given unset) (sym v) in
    subst (λ (s : BlifState). Tells state s (says_latch unset (input ∷ output ∷ more)) × Keeps state s) is (
      record {
        nets = refl;
        inputs = λ big x. sym (append-nil state.machine.inputs);
        input_names = sym (append-nil state.machine.input_names);
        outputs = λ big x. sym (append-nil state.machine.outputs);
        output_names = sym (append-nil state.machine.output_names);
        latches = λ big x.
            ap (λ n. at n (number_for state.nets input) l.bit) (sym (net_kept middle big output x))
            ∙ ap (λ n. at (net_of big output) n l.bit) (sym (net_kept state.nets big input (extends_on middle (names_with middle output) big (extends_with middle output) x)))
            ∙ ap (λ b. at (net_of big output) (net_of big input) b) bit;
        clock = clock;
        clocked = clocked ∙ sym (or-false state.clocked);
      },
      record { equations = refl; unended = unended; modelled = modelled },
    )

untyped_tells : (unset : Unset) (state next : BlifState) (input output value : List ℕ) (more : List (List ℕ)) → value_in more ≡ value → control_in (input ∷ output ∷ more) ≡ []
    → untyped_read unset state input output value ≡ Ok next → Tells state next (says_latch unset (input ∷ output ∷ more)) × Keeps state next
untyped_tells unset state next input output value more v none h =
    let init = after_ok (first_state value) _ next h in
    let a = over_ok quantities.NameBytes (length input) _ next init.2 in
    let b = over_ok quantities.NameBytes (length output) _ next a.1 in
    latched_tells unset state state next input output value more v refl refl refl refl refl (sym (or_none state.clock) ∙ ap (λ (l : List (List ℕ)). option_or state.clock (first_of l)) (sym none))
    (latch_is unset state next input output value init.0 init.1 b.1)

control_by : (b : Bool) (clock : Option (List ℕ)) (control : List ℕ) → cond b (option_or clock (Some control)) clock ≡ option_or clock (first_of (cond b (control ∷ []) []))
control_by true clock control = refl
control_by false clock control = sym (or_none clock)

typed_tells : (unset : Unset) (state next : BlifState) (input output kind control value : List ℕ) (more : List (List ℕ)) → value_in (kind ∷ control ∷ more) ≡ value
    → typed_read unset state input output kind control value ≡ Ok next → Tells state next (says_latch unset (input ∷ output ∷ kind ∷ control ∷ more)) × Keeps state next
typed_tells unset state next input output kind control value more v h =
    let edge = after_ok (edge_of kind) _ next h in
    let init = after_ok (first_state value) _ next edge.2 in
    let right = allowed (is_mixed state edge.0 control) (line_refusals.Cause causes.MixedClock) _ next init.2 in
    let a = over_ok quantities.NameBytes (length input) _ next right.1 in
    let b = over_ok quantities.NameBytes (length output) _ next a.1 in
    let c = over_ok quantities.NameBytes (length control) _ next b.1 in
    latched_tells unset state (with_type state edge.0 control) next input output value (kind ∷ control ∷ more) v refl refl refl refl refl
    (control_by (names_clock control) state.clock control) (latch_is unset (with_type state edge.0 control) next input output value init.0 init.1 c.1)

pub latch_tells : (unset : Unset) (words : List (List ℕ)) (state next : BlifState) → latch_words_read unset state words ≡ Ok next → Tells state next (says_latch unset words) × Keeps state next
latch_tells unset [] state next h = absurd cc
latch_tells unset (a ∷ []) state next h = absurd cc
latch_tells unset (a ∷ b ∷ []) state next h = untyped_tells unset state next a b (codes "3") [] refl refl h
latch_tells unset (a ∷ b ∷ c ∷ []) state next h = untyped_tells unset state next a b c (c ∷ []) refl refl h
latch_tells unset (a ∷ b ∷ c ∷ d ∷ []) state next h = typed_tells unset state next a b c d (codes "3") [] refl h
latch_tells unset (a ∷ b ∷ c ∷ d ∷ e ∷ []) state next h = typed_tells unset state next a b c d e (e ∷ []) refl h
latch_tells unset (a ∷ b ∷ c ∷ d ∷ e ∷ f ∷ words) state next h = absurd cc
