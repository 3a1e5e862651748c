-- The bit of a DROC that is put, and the bits of a gate that gets a pulse.
use Rattle.std.proofs.Common.{◌≡◌, ◌∙◌, ℕ, Bool, true, false, not, Some, List, slice_get, slice_set, get_or, ap, refl, if◌then◌else◌}
use Rattle.cell_netlist.specs.declared.kinds.Held.TheVariants.{HasA, HasB}
use Rattle.cell_netlist.specs.declared.kinds.Port.{Port}
use Rattle.cell_netlist.specs.declared.kinds.Port.TheVariants.{A, B}
use Rattle.cell_netlist.specs.declared.kinds.CellState.{CellState}
use Rattle.cell_netlist.specs.declared.lines.Cell.{Cell}
use Rattle.cell_netlist.specs.declared.lines.Cell.TheVariants.{La, Fa, Split, Droc}
use Rattle.pulse_world.specs.PackedStates.{held_by, state_by, bit_place, states_by, packed_states, ArePacked, is_droc, is_gate, droc_with, gate_with, held_of, other_port, HasPulsed}
use Rattle.pulse_world.proofs.StateBits.{first-there, second-there, state-there, first-put, second-put, packed-first, packed-second}

-- a DROC keeps its first bit alone
droc-keeps : (cell : Cell) (first second : Bool) → is_droc cell ≡ true → state_by cell first second ≡ droc_with first
droc-keeps (La a b out) first second droc = absurd cc
droc-keeps (Fa a b out) first second droc = absurd cc
droc-keeps (Split from left right) first second droc = absurd cc
droc-keeps (Droc role preload feed q n) first second droc = refl

gate-keeps : (cell : Cell) (first second : Bool) → is_gate cell ≡ true → state_by cell first second ≡ gate_with (held_by first second)
gate-keeps (La a b out) first second gate = refl
gate-keeps (Fa a b out) first second gate = refl
gate-keeps (Split from left right) first second gate = absurd cc
gate-keeps (Droc role preload feed q n) first second gate = absurd cc

gate-plain : (cell : Cell) → is_gate cell ≡ true → is_droc cell ≡ false
gate-plain (La a b out) gate = refl
gate-plain (Fa a b out) gate = refl
gate-plain (Split from left right) gate = refl
gate-plain (Droc role preload feed q n) gate = absurd cc

-- the bit of a port of which nothing is held is 0
own-first : (first second : Bool) → (held_by first second ≡ HasA → ⊥) → first ≡ false
own-first false second free = refl
own-first true second free = absurd (free refl)

own-second : (first second : Bool) → (held_by first second ≡ HasB → ⊥) → (first ≡ true → second ≡ true → ⊥) → second ≡ false
own-second first false free apart = refl
own-second false true free apart = absurd (free refl)
own-second true true free apart = absurd (apart refl refl)

module _ (cells : List Cell) (bits : List Bool) (packed : ArePacked cells bits) (i : ℕ) (cell : Cell) (at : slice_get cells i ≡ Some cell) where
  abbrev one : Bool
  one = get_or bits (bit_place i A) false

  abbrev two : Bool
  two = get_or bits (bit_place i B) false

  module _ (droc : is_droc cell ≡ true) where
    pub droc-there : slice_get (states_by cells bits) i ≡ Some (droc_with one)
    droc-there = state-there cells bits packed i cell at ∙ ap (λ s. Some s) (droc-keeps cell one two droc)

    pub droc-put : (bit : Bool) → states_by cells (slice_set bits (bit_place i A) bit) ≡ slice_set (states_by cells bits) i (droc_with bit)
    droc-put bit = first-put cells bits packed i cell at bit ∙ ap (slice_set (states_by cells bits) i) (droc-keeps cell bit two droc)

    pub droc-packed : (bit : Bool) → ArePacked cells (slice_set bits (bit_place i A) bit)
    droc-packed bit = packed-first cells bits packed i cell at bit (λ plain a b. absurd cc)

  module _ (gate : is_gate cell ≡ true) where
    gate-there : (first second : Bool) → one ≡ first → two ≡ second → slice_get (states_by cells bits) i ≡ Some (gate_with (held_by first second))
    gate-there first second f s = state-there cells bits packed i cell at ∙ (ap (λ s. Some s) (gate-keeps cell one two gate)
        ∙ (ap (λ b. Some (gate_with (held_by b two))) f ∙ ap (λ b. Some (gate_with (held_by first b))) s))

    first-kept : (bit second : Bool) → two ≡ second
        → states_by cells (slice_set bits (bit_place i A) bit) ≡ slice_set (states_by cells bits) i (gate_with (held_by bit second))
    first-kept bit second s = first-put cells bits packed i cell at bit ∙ (ap (slice_set (states_by cells bits) i) (gate-keeps cell bit two gate)
        ∙ ap (λ b. slice_set (states_by cells bits) i (gate_with (held_by bit b))) s)

    second-kept : (first bit : Bool) → one ≡ first
        → states_by cells (slice_set bits (bit_place i B) bit) ≡ slice_set (states_by cells bits) i (gate_with (held_by first bit))
    second-kept first bit f = second-put cells bits packed i cell at bit ∙ (ap (slice_set (states_by cells bits) i) (gate-keeps cell one bit gate)
        ∙ ap (λ b. slice_set (states_by cells bits) i (gate_with (held_by b bit))) f)

    -- the bits after a pulse on a port
    abbrev pub pulsed_bits : Port → Bool → List Bool
    pulsed_bits port met = slice_set bits (bit_place i (if met then other_port port else port)) (not met)

    abbrev pub Pulses : Port → Bool → Type 0
    Pulses port met = ArePacked cells (pulsed_bits port met) × HasPulsed (packed_states cells bits) (packed_states cells (pulsed_bits port met)) i port met

    kept-is : (after : List Bool) (state : CellState) → states_by cells after ≡ slice_set (states_by cells bits) i state
        → packed_states cells after ≡ record (packed_states cells bits) { states = slice_set (states_by cells bits) i state }
    kept-is after state e = ap (λ states. record { cells = cells; states = states }) e

    pub pulsed : (port : Port) (met : Bool) → slice_get bits (bit_place i (other_port port)) ≡ Some met → (state : CellState) → slice_get (states_by cells bits) i ≡ Some state
        → (state.held ≡ held_of port → ⊥) → Pulses port met
    pulsed A met is state there free = go met refl
      where
        here : two ≡ met
        here = let e = second-there cells bits packed i cell at in cc

        rests : one ≡ false
        rests = own-first one two (λ holds. free (ap (λ (s : CellState). s.held) state-is ∙ holds))
          where
            state-is : state ≡ gate_with (held_by one two)
            state-is = let e = gate-there one two refl refl in cc

        go : (m : Bool) → met ≡ m → Pulses A m
        go true e = (
          packed-second cells bits packed i cell at false (λ plain a b. absurd cc),
          record { was = gate-there false true rests (here ∙ e); is = kept-is _ _ (second-kept false false rests) },
        )
        go false e = (
          packed-first cells bits packed i cell at true (λ plain a b. let none = here ∙ e in absurd cc),
          record { was = gate-there false false rests (here ∙ e); is = kept-is _ _ (first-kept true false (here ∙ e)) },
        )
    pulsed B met is state there free = go met refl
      where
        here : one ≡ met
        here = let e = first-there cells bits packed i cell at in cc

        rests : two ≡ false
        rests = own-second one two (λ holds. free (ap (λ (s : CellState). s.held) state-is ∙ holds))
            (λ a b. packed.apart i cell at (gate-plain cell gate) (first-there cells bits packed i cell at ∙ ap (λ x. Some x) a) (second-there cells bits packed i cell at ∙ ap (λ x. Some x) b))
          where
            state-is : state ≡ gate_with (held_by one two)
            state-is = let e = gate-there one two refl refl in cc

        go : (m : Bool) → met ≡ m → Pulses B m
        go true e = (
          packed-first cells bits packed i cell at false (λ plain a b. absurd cc),
          record { was = gate-there true false (here ∙ e) rests; is = kept-is _ _ (first-kept false false rests) },
        )
        go false e = (
          packed-second cells bits packed i cell at true (λ plain a b. let none = here ∙ e in absurd cc),
          record { was = gate-there false false (here ∙ e) rests; is = kept-is _ _ (second-kept false true (here ∙ e)) },
        )
