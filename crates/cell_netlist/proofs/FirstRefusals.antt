-- A sound netlist breaks no rule, and a netlist has at most one first refusal.
use Rattle.std.proofs.Common.{◌≡◌, ◌≤◌, ℕ, ap, sym, ◌∙◌, inl, inr, arith, refl, if◌then◌else◌, ◌==◌}
use Rattle.std.proofs.lemmas.Bool.{cases_eq, cases_lt}
use Rattle.pulse_ids.specs.Ids.{numbered}
use Rattle.cell_netlist.specs.declared.unsound.RailLine.TheVariants.{Input, Output}
use Rattle.cell_netlist.specs.declared.unsound.Unsound.{Unsound}
use Rattle.cell_netlist.specs.declared.unsound.Unsound.TheVariants.{WireUndriven, WireTwiceDriven, WireUnread, WireTwiceRead, PortRange, RailTwice, Loop, LooseDroc, WrongPreload, LooseState}
use Rattle.pulse_ids.specs.Lists.{occurrences}
use Rattle.cell_netlist.specs.Netlists.{PlainNetlist, driven, read}
use Rattle.cell_netlist.specs.Sound.{IsSound, Breaks, rule_of, number_in, IsFirstUnsound}
use Rattle.pulse_ids.proofs.CallerLemmas.{IsIn-place}
use Rattle.cell_netlist.proofs.WireBounds.{driven_within, read_within}

pub sound_unbroken : (net : PlainNetlist) → IsSound net → (unsound : Unsound) → Breaks net unsound → ⊥
sound_unbroken net sound (WireUndriven wire) b = let t = sound.wired.all_driven wire.number b.0 in omega (arith, b.1)
sound_unbroken net sound (WireTwiceDriven wire) b =
    let some : 1 ≤ occurrences wire.number (driven net) = omega (arith, b) in
    let t = sound.wired.none_driven_twice wire.number (driven_within net wire.number some) in omega (arith, b)
sound_unbroken net sound (WireUnread wire) b = let t = sound.wired.all_read wire.number b.0 in omega (arith, b.1)
sound_unbroken net sound (WireTwiceRead wire) b =
    let some : 1 ≤ occurrences wire.number (read net) = omega (arith, b) in
    let t = sound.wired.none_read_twice wire.number (read_within net wire.number some) in omega (arith, b)
sound_unbroken net sound (PortRange (Input id)) b = let t = sound.input_ports b.0 (IsIn-place b.0 _ id.number b.1) in omega (arith, b.2)
sound_unbroken net sound (PortRange (Output id)) b = let t = sound.output_ports b.0 (IsIn-place b.0 _ id.number b.1) in omega (arith, b.2)
sound_unbroken net sound (RailTwice id) b = sound.none_twice b.0 id.number b.1 b.2 b.3 b.4 b.5 b.6 b.7
sound_unbroken net sound (Loop id) b = b.5 (sound.grounded b.0 (IsIn-place b.0 _ id.number b.1) b.2 b.3 b.4)
sound_unbroken net sound (LooseDroc id) b = b.2 (sound.roles b.0 (IsIn-place b.0 _ id.number b.1))
sound_unbroken net sound (WrongPreload id) b =
    b.7 (sound.preloads b.2 b.4 b.3 b.6 (record { back = b.0; among = IsIn-place b.0 _ id.number b.1; role = b.5 }))
sound_unbroken net sound (LooseState k) (line, at_line, inl loose) = loose (sound.states.backs line (IsIn-place line _ k at_line))
sound_unbroken net sound (LooseState k) (line, at_line, inr before) = sound.states.apart k line at_line before

-- the refusal of a place in the order of the rules, at a number
abbrev pub refusal_at : ℕ → ℕ → Unsound
refusal_at rule n =
    if rule == 1 then WireUndriven (numbered n) else if rule == 2 then WireTwiceDriven (numbered n)
    else if rule == 3 then WireUnread (numbered n) else if rule == 4 then WireTwiceRead (numbered n)
    else if rule == 5 then PortRange (Input (numbered n)) else if rule == 6 then PortRange (Output (numbered n))
    else if rule == 7 then RailTwice (numbered n) else if rule == 8 then Loop (numbered n)
    else if rule == 9 then LooseDroc (numbered n) else if rule == 10 then WrongPreload (numbered n) else LooseState n

-- a refusal is the one at its place and number
pub refusal_is : (unsound : Unsound) → unsound ≡ refusal_at (rule_of unsound) (number_in unsound)
refusal_is (WireUndriven wire) = refl
refusal_is (WireTwiceDriven wire) = refl
refusal_is (WireUnread wire) = refl
refusal_is (WireTwiceRead wire) = refl
refusal_is (PortRange (Input id)) = refl
refusal_is (PortRange (Output id)) = refl
refusal_is (RailTwice id) = refl
refusal_is (Loop id) = refl
refusal_is (LooseDroc id) = refl
refusal_is (WrongPreload id) = refl
refusal_is (LooseState k) = refl

same_place : (one other : Unsound) → rule_of one ≡ rule_of other → number_in one ≡ number_in other → one ≡ other
same_place one other rule number =
    refusal_is one ∙ ap (λ r. refusal_at r (number_in one)) rule ∙ ap (λ n. refusal_at (rule_of other) n) number ∙ sym (refusal_is other)

pub first_refusals_equal : (net : PlainNetlist) (one other : Unsound) → IsFirstUnsound net one → IsFirstUnsound net other → one ≡ other
first_refusals_equal net one other of_one of_other = elim (cases_lt (rule_of one) (rule_of other)) [
  | inl lt ↦ absurd (of_other.first one of_one.breaks (inl lt))
  | inr ge ↦ elim (cases_eq (rule_of one) (rule_of other)) [
    | inl rule ↦ elim (cases_lt (number_in one) (number_in other)) [
      | inl lt ↦ absurd (of_other.first one of_one.breaks (inr (rule, lt)))
      | inr high ↦ elim (cases_eq (number_in one) (number_in other)) [
        | inl number ↦ same_place one other rule number
        | inr differ ↦ absurd (of_one.first other of_other.breaks (inr (sym rule, omega arith)))
      ]
    ]
    | inr differ ↦ absurd (of_one.first other of_other.breaks (inl (omega arith)))
  ]
]
