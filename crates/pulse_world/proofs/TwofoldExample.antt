-- Two output rails of one port that contradict each other.
use Rattle.std.proofs.Common.{◌≡◌, ℕ, zero, suc, Bool, true, false, Some, slice_get, List, [], ◌∷◌, length, refl, ap, sym, ◌∙◌, inl, inr, arith, if◌then◌else◌}
use Rattle.std.specs.Prelude.{codes}
use Rattle.std.proofs.lemmas.Fmt.{decimal_digit}
use Rattle.cell_netlist.specs.declared.kinds.Phase.{Phase}
use Rattle.cell_netlist.specs.declared.kinds.Phase.TheVariants.{Excite, Relax}
use Rattle.cell_netlist.specs.declared.lines.Rail.{Rail}
use Rattle.pulse_ids.specs.Lists.{bit_at}
use Rattle.cell_netlist.specs.Netlists.{wire_of}
use Rattle.cell_netlist.specs.NetRuns.{bits_in}
use Rattle.cell_netlist.specs.RailEquations.{IsNetRun}
use Rattle.cell_netlist.specs.Runs.{Stage, Moment, IsMoment}
use Rattle.cell_netlist.specs.Sound.{IsSound}
use Rattle.cell_netlist.specs.Text.{text_of}
use Rattle.cell_netlist.specs.World.{IsSettled, has_sign}
use Rattle.cell_netlist.proofs.CallerLemmas.{is_sound-at}
use Rattle.cell_netlist.proofs.CallerLemmasOnLists.{each-at}
use Rattle.pulse_world.specs.Delivery.{Delivers, rail_counts}
use Rattle.pulse_world.specs.Examples.{twofold, one_zero, twofold_counts, TwofoldDelivers}
use Rattle.pulse_world.specs.RailPulses.{PulsesAsItsRuns}
use Rattle.pulse_world.proofs.RunMoments.{vector-of}
use Rattle.pulse_world.proofs.WholeCycles.{rail_law}

twofold_is_sound : IsSound twofold
twofold_is_sound = is_sound-at twofold refl

twofold_pulses : PulsesAsItsRuns twofold
twofold_pulses = rail_law twofold twofold_is_sound

twofold_run : IsNetRun twofold one_zero one_zero
twofold_run = (
  record {
    length_is = refl;
    rails = each-at (λ (r : Rail). bit_at (true ∷ false ∷ []) (wire_of r) ≡ has_sign (bit_at (true ∷ false ∷ []) r.port) r.sign) twofold.input_rails (refl, (refl, tt));
    cells = λ cell none. absurd none;
  },
  tt,
)

-- two bits that meet the equations
two_bits : (bits : List Bool) → length bits ≡ 2 → bit_at bits 0 ≡ true → bit_at bits 1 ≡ false → bits ≡ true ∷ false ∷ []
two_bits [] e first second = absurd (omega arith)
two_bits (x ∷ []) e first second = absurd (omega arith)
two_bits (x ∷ y ∷ []) e first second = cc
two_bits (x ∷ y ∷ z ∷ bits) e first second = absurd (omega arith)

twofold_one_run : (run : List (List Bool)) → IsNetRun twofold one_zero run → run ≡ one_zero
twofold_one_run [] none = absurd none
twofold_one_run (bits ∷ []) (its, tt) =
    ap (λ b. b ∷ []) (two_bits bits its.length_is (its.rails _ (inl refl)) (its.rails _ (inr (inl refl))))
twofold_one_run (bits ∷ more ∷ run) (its, none) = absurd none

-- the vector has the first cycle alone
first_cycle : (cycle : ℕ) (vector : List Bool) → slice_get one_zero cycle ≡ Some vector → cycle ≡ 0
first_cycle zero vector e = refl
first_cycle (suc cycle) vector e = absurd cc

twofold_counted : (moment : Moment) → IsMoment twofold one_zero moment → (stage : Stage) → moment.stage ≡ Some stage → IsSettled moment.state
    → moment.state.counted ≡ twofold_counts stage.phase
twofold_counted moment m stage e settled =
    let v = vector-of twofold one_zero m.0 moment m.1 stage e in
    (twofold_pulses.as_run one_zero one_zero twofold_run).delivers.counts moment m stage e settled
    ∙ (ap (λ cycle. rail_counts (bits_in one_zero cycle) stage.phase twofold.output_rails) (first_cycle stage.cycle v.0 v.1) ∙ by_phase stage.phase)
  where
    by_phase : (phase : Phase) → rail_counts (true ∷ false ∷ []) phase twofold.output_rails ≡ twofold_counts phase
    by_phase Excite = refl
    by_phase Relax = refl

abbrev two_counts : ℕ → ℕ → List ℕ
two_counts one other = one ∷ other ∷ []

-- both rails would have the port's bit
no_bit : (bit : Bool) → two_counts 1 0 ≡ two_counts (if bit then 1 else 0) (if bit then 1 else 0) → ⊥
no_bit false e = absurd cc
no_bit true e = absurd cc

twofold_no_bits : (bit : ℕ → ℕ → Bool) → Delivers twofold one_zero bit → ⊥
twofold_no_bits bit delivers =
    let whole = twofold_pulses.some_whole one_zero in
    let passed = twofold_pulses.cycles one_zero whole.1.0 whole.0 whole.1.1 whole.2 0 (omega arith) in
    let c = passed.is_cycle in
    no_bit (bit 0 0) (sym (twofold_counted passed.excited c.reached _ c.excite c.excite_settled) ∙ delivers.counts passed.excited c.reached _ c.excite c.excite_settled)

twofold_text : text_of twofold ≡ codes "xsfq 1\nports 2 1\ninput 0 p 0\ninput 1 p 1\noutput 0 p 0\noutput 0 p 1\nend\n"
twofold_text =
    let d0 = decimal_digit 0 (omega arith) in let d1 = decimal_digit 1 (omega arith) in let d2 = decimal_digit 2 (omega arith) in simp (d0, d1, d2)

pub twofold_delivers : TwofoldDelivers
twofold_delivers = record {
  text = twofold_text;
  sound = twofold_is_sound;
  no_bits = twofold_no_bits;
  pulses = twofold_pulses;
  some_run = twofold_run;
  one_run = twofold_one_run;
  counts = twofold_counted;
}
