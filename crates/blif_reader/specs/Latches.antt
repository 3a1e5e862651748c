-- Latches and clocks. (BLIF, generic latches.)
use Rattle.std.specs.Prelude.{ℕ, ◌+◌, Bool, true, false, not, ◌||◌, ◌&&◌, List, [], ◌∷◌, Option, Some, None, Result, Ok, Err, length, codes, if◌then◌else◌}
use Rattle.std.specs.Option.{option_or, is_some}
use Rattle.std.specs.Bool.{beq}
use Rattle.std.specs.Str.{bytes_eq}
use Rattle.pulse_ids.specs.declared.quantities.Quantity.TheVariants as quantities
use Rattle.numbered_names.specs.Names.{number_in, names_with, number_for}
use Rattle.source_machine.specs.declared.unset.Unset.{Unset}
use Rattle.source_machine.specs.Unset.{first_bit}
use Rattle.source_machine.specs.Additions.{with_latch}
use Rattle.blif_reader.specs.declared.refusals.BlifCause.TheVariants.{BadWord, LatchType, MixedClock, NoFixedInit}
use Rattle.blif_reader.specs.declared.refusals.LineRefusal.{LineRefusal}
use Rattle.blif_reader.specs.declared.refusals.LineRefusal.TheVariants.{Cause}
use Rattle.blif_reader.specs.States.{BlifState}
use Rattle.blif_reader.specs.declared.latch_kinds.LatchKind.{LatchKind}
use Rattle.blif_reader.specs.Refusing.{after, over, unless_long}

-- a net of this name: a new one is one more net
abbrev pub net_read : List (List ℕ) → List ℕ → Result (List (List ℕ)) LineRefusal
net_read nets name =
    if is_some (number_in nets name) then Ok nets else over quantities.Nets (length nets + 1) (Ok (names_with nets name))

-- whether a latch of this type takes its input at the rising edge, and not at the falling one
abbrev pub edge_of : List ℕ → Result Bool LineRefusal
edge_of kind =
    if bytes_eq kind (codes "ah") || (bytes_eq kind (codes "al") || bytes_eq kind (codes "as")) then Err (Cause LatchType) else
    (if bytes_eq kind (codes "re") then Ok true else
    (if bytes_eq kind (codes "fe") then Ok false else Err (Cause BadWord)))

-- the first state that an initial value gives: none for 2 and 3
abbrev pub first_state : List ℕ → Result (Option Bool) LineRefusal
first_state value =
    if bytes_eq value (codes "0") then Ok (Some false) else
    (if bytes_eq value (codes "1") then Ok (Some true) else
    (if bytes_eq value (codes "2") || bytes_eq value (codes "3") then Ok None else Err (Cause BadWord)))

-- the first typed latch fixes type and control
abbrev pub differs_in_type : Option LatchKind → Bool → List ℕ → Bool
differs_in_type None rises control = false
differs_in_type (Some typed) rises control = not (beq typed.rises rises) || not (bytes_eq typed.control control)

-- the first name of a clock is the clock's
abbrev pub differs_in_clock : Option (List ℕ) → List ℕ → Bool
differs_in_clock None name = false
differs_in_clock (Some clock) name = not (bytes_eq clock name)

-- a control other than `NIL` names the clock
abbrev pub names_clock : List ℕ → Bool
names_clock control = not (bytes_eq control (codes "NIL"))

abbrev pub is_mixed : BlifState → Bool → List ℕ → Bool
is_mixed state rises control =
    differs_in_type state.typed rises control || (names_clock control && differs_in_clock state.clock control)

-- the type, the control and the clock with those of one more latch
abbrev pub with_type : BlifState → Bool → List ℕ → BlifState
with_type state rises control = record state {
  typed = option_or state.typed (Some (record { rises = rises; control = control }));
  clock = if names_clock control then option_or state.clock (Some control) else state.clock;
}

-- the first state, or the choice for latches that have none
abbrev pub state_given : Unset → Option Bool → Option Bool
state_given unset init = option_or init (first_bit unset)

-- a latch from the net of this name to the net of that one
abbrev pub latch_added : BlifState → List (List ℕ) → List (List ℕ) → List ℕ → List ℕ → Option Bool → Result BlifState LineRefusal
latch_added state middle nets input output None = Err (Cause (NoFixedInit output))
latch_added state middle nets input output (Some init) = Ok (record state {
  nets = nets;
  machine = with_latch state.machine (record {
    out = number_for middle output;
    init = init;
    next = record { net = number_for state.nets input; negated = false };
  });
})

abbrev pub latch_read : Unset → BlifState → List ℕ → List ℕ → Option Bool → Result BlifState LineRefusal
latch_read unset state input output init =
    after (net_read state.nets input) (λ middle.
    after (net_read middle output) (λ nets.
    over quantities.Latches (length state.machine.latches + 1) (latch_added state middle nets input output (state_given unset init))))

-- a latch without type and control
abbrev pub untyped_read : Unset → BlifState → List ℕ → List ℕ → List ℕ → Result BlifState LineRefusal
untyped_read unset state input output value =
    after (first_state value) (λ init.
    unless_long input (unless_long output (latch_read unset state input output init)))

-- a latch with type and control
abbrev pub typed_read : Unset → BlifState → List ℕ → List ℕ → List ℕ → List ℕ → List ℕ → Result BlifState LineRefusal
typed_read unset state input output kind control value =
    after (edge_of kind) (λ rises.
    after (first_state value) (λ init.
    if is_mixed state rises control then Err (Cause MixedClock) else
    unless_long input (unless_long output (unless_long control (latch_read unset (with_type state rises control) input output init)))))

-- the words after `.latch`
abbrev pub latch_words_read : Unset → BlifState → List (List ℕ) → Result BlifState LineRefusal
latch_words_read unset state (input ∷ output ∷ []) = untyped_read unset state input output (codes "3")
latch_words_read unset state (input ∷ output ∷ value ∷ []) = untyped_read unset state input output value
latch_words_read unset state (input ∷ output ∷ kind ∷ control ∷ []) = typed_read unset state input output kind control (codes "3")
latch_words_read unset state (input ∷ output ∷ kind ∷ control ∷ value ∷ []) = typed_read unset state input output kind control value
latch_words_read unset state words = Err (Cause BadWord)

-- a name of a `.clock` line
abbrev pub clock_read : BlifState → List ℕ → Result BlifState LineRefusal
clock_read state name =
    unless_long name (
    if differs_in_clock state.clock name then Err (Cause MixedClock)
    else Ok (record state { clock = option_or state.clock (Some name); clocked = true }))
