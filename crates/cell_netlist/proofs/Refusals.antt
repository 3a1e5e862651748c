-- The first refusal of a netlist, by computation.
use Rattle.std.proofs.Common.{◌≡◌, ◌<◌, ◌≤◌, ◌+◌, ◌⊎◌, ℕ, zero, suc, Bool, true, not, ◌&&◌, ◌||◌, ◌==◌, nat_lt, nat_le, Option, Some, None, List, [], ◌∷◌, map, length, slice_get, ap, sym, ◌∙◌}
use Rattle.std.proofs.Common.{subst, inl, inr, arith, refl, if◌then◌else◌}
use Rattle.std.specs.List.{list_all}
use Rattle.std.proofs.lemmas.Bool.{and_parts, or_cases, eq-eqb, cases_lt, ltb-true, lt-ltb, le-ltb, leb-true, true≢false}
use Rattle.std.proofs.lemmas.Option.{slice_get_within}
use Rattle.pulse_ids.specs.Ids.{numbered}
use Rattle.cell_netlist.specs.declared.lines.Rail.{Rail}
use Rattle.cell_netlist.specs.declared.lines.Cell.{Cell}
use Rattle.cell_netlist.specs.declared.lines.StateLine.{StateLine}
use Rattle.cell_netlist.specs.declared.unsound.RailLine.TheVariants.{Input, Output}
use Rattle.cell_netlist.specs.declared.unsound.Unsound.{Unsound}
use Rattle.cell_netlist.specs.declared.unsound.Unsound.TheVariants.{WireUndriven, WireTwiceDriven, WireUnread, WireTwiceRead, PortRange, RailTwice, Loop, LooseDroc, WrongPreload, LooseState}
use Rattle.pulse_ids.specs.Lists.{IsIn, occurrences}
use Rattle.cell_netlist.specs.Netlists.{PlainNetlist, wire_of, outs, reads, driven, read, number_of_wires, Grounded, of_rail, of_droc, of_gate}
use Rattle.cell_netlist.specs.Sound.{Breaks, rule_of, number_in, IsFirstUnsound}
use Rattle.cell_netlist.specs.Decisions.{all_below, has, are_other_rails, droc_outs, is_ready, known_after, are_outs_known, fits_role, have_right_preloads, names_back, name_other_cells}
use Rattle.pulse_ids.proofs.CallerLemmas.{IsIn-left, IsIn-right, IsIn-map, IsIn-flat_map}
use Rattle.cell_netlist.proofs.ListLemmas.{all_below-at, list_all-at, list_all-from, has-at, has-from}
use Rattle.cell_netlist.proofs.SoundDecisions.{other_rails-at, known_after-grounded, fits-at, right_preloads-at, droc_outs-is}
use Rattle.cell_netlist.proofs.StateDecisions.{names_back-at, other_cells-at}
use Rattle.cell_netlist.proofs.WireBounds.{occurrences-past, wire_bound-append}

-- a value that is there has the test
abbrev pub is_none_or : {X : Type 0} → (X → Bool) → Option X → Bool
is_none_or test None = true
is_none_or test (Some x) = test x

-- the first n items
abbrev pub before : {X : Type 0} → ℕ → List X → List X
before zero xs = []
before (suc n) [] = []
before (suc n) (x ∷ xs) = x ∷ before n xs

before-in : {X : Type 0} (n i : ℕ) (xs : List X) (x : X) → i < n → slice_get xs i ≡ Some x → IsIn x (before n xs)
before-in zero i xs x lt e = absurd (omega arith)
before-in (suc n) i [] x lt e = absurd cc
before-in (suc n) zero (y ∷ xs) x lt e = inl cc
before-in (suc n) (suc i) (y ∷ xs) x lt e = inr (before-in n i xs x (omega arith) e)

-- a netlist does not break a rule at this place
abbrev pub passes : PlainNetlist → Unsound → Bool
passes net (WireUndriven wire) = nat_le (number_of_wires net) wire.number || nat_lt 0 (occurrences wire.number (driven net))
passes net (WireTwiceDriven wire) = nat_lt (occurrences wire.number (driven net)) 2
passes net (WireUnread wire) = nat_le (number_of_wires net) wire.number || nat_lt 0 (occurrences wire.number (read net))
passes net (WireTwiceRead wire) = nat_lt (occurrences wire.number (read net)) 2
passes net (PortRange (Input id)) = is_none_or (λ rail. nat_lt rail.port net.inputs) (slice_get net.input_rails id.number)
passes net (PortRange (Output id)) = is_none_or (λ rail. nat_lt rail.port net.outputs) (slice_get net.output_rails id.number)
passes net (RailTwice id) =
    is_none_or (λ rail. list_all (λ earlier. are_other_rails earlier rail) (before id.number net.input_rails)) (slice_get net.input_rails id.number)
passes net (Loop id) = is_none_or (are_outs_known (known_after net (length net.cells))) (slice_get net.cells id.number)
passes net (LooseDroc id) = is_none_or (fits_role net.cells) (slice_get net.cells id.number)
passes net (WrongPreload id) = is_none_or (λ back. list_all (λ front. have_right_preloads front back) net.cells) (slice_get net.cells id.number)
passes net (LooseState k) =
    is_none_or (λ line. names_back net.cells line && list_all (λ earlier. name_other_cells earlier line) (before k net.states)) (slice_get net.states k)

passes-right : (net : PlainNetlist) (unsound : Unsound) → Breaks net unsound → passes net unsound ≡ true → ⊥
passes-right net (WireUndriven wire) b e = elim (or_cases (nat_le (number_of_wires net) wire.number) (nat_lt 0 (occurrences wire.number (driven net))) e) [
  | inl past ↦ let t = leb-true (number_of_wires net) wire.number past in omega (arith, b.0)
  | inr some ↦ let t = ltb-true 0 (occurrences wire.number (driven net)) some in omega (arith, b.1)
]
passes-right net (WireTwiceDriven wire) b e = let t = ltb-true _ _ e in omega (arith, b)
passes-right net (WireUnread wire) b e = elim (or_cases (nat_le (number_of_wires net) wire.number) (nat_lt 0 (occurrences wire.number (read net))) e) [
  | inl past ↦ let t = leb-true (number_of_wires net) wire.number past in omega (arith, b.0)
  | inr some ↦ let t = ltb-true 0 (occurrences wire.number (read net)) some in omega (arith, b.1)
]
passes-right net (WireTwiceRead wire) b e = let t = ltb-true _ _ e in omega (arith, b)
passes-right net (PortRange (Input id)) b e =
    let g = subst (λ o. is_none_or (λ (rail : Rail). nat_lt rail.port net.inputs) o ≡ true) b.1 e in let t = ltb-true _ _ g in omega (arith, b.2)
passes-right net (PortRange (Output id)) b e =
    let g = subst (λ o. is_none_or (λ (rail : Rail). nat_lt rail.port net.outputs) o ≡ true) b.1 e in let t = ltb-true _ _ g in omega (arith, b.2)
passes-right net (RailTwice id) b e =
    let g = subst (λ o. is_none_or (λ (rail : Rail). list_all (λ earlier. are_other_rails earlier rail) (before id.number net.input_rails)) o ≡ true) b.5 e in
    let t = list_all-at (λ earlier. are_other_rails earlier b.2) (before id.number net.input_rails) g b.1 (before-in id.number b.0 net.input_rails b.1 b.3 b.4) in
    other_rails-at b.1 b.2 t b.6 b.7
passes-right net (Loop id) b e =
    let g = subst (λ o. is_none_or (are_outs_known (known_after net (length net.cells))) o ≡ true) b.1 e in
    b.5 (known_after-grounded net (length net.cells) b.3 (has-at b.3 _ (list_all-at (λ w. has w (known_after net (length net.cells))) (outs b.0) g b.3 b.4)))
passes-right net (LooseDroc id) b e =
    let g = subst (λ o. is_none_or (fits_role net.cells) o ≡ true) b.1 e in b.2 (fits-at net b.0 g)
passes-right net (WrongPreload id) b e =
    let g = subst (λ o. is_none_or (λ (back : Cell). list_all (λ front. have_right_preloads front back) net.cells) o ≡ true) b.1 e in
    let front = b.6 in
    let t = list_all-at (λ f. have_right_preloads f b.0) net.cells g front.front front.among in
    b.7 (right_preloads-at net front.front b.0 b.4 b.3 front.feed b.2 t front.role front.q b.5)
passes-right net (LooseState k) b e =
    let g = subst (λ o. is_none_or (λ (line : StateLine). names_back net.cells line && list_all (λ earlier. name_other_cells earlier line) (before k net.states)) o ≡ true) b.1 e in
    let both = and_parts _ _ g in
    elim b.2 [
      | inl loose ↦ loose (names_back-at net b.0 both.0)
      | inr twice ↦
          let t = list_all-at (λ earlier. name_other_cells earlier b.0) (before k net.states) both.1 twice.1 (before-in k twice.0 net.states twice.1 twice.2 twice.3) in
          other_cells-at twice.1 b.0 t twice.4
    ]

-- a number that no refusal of the netlist reaches
abbrev pub bound : PlainNetlist → ℕ
bound net = number_of_wires net + (length net.input_rails + (length net.output_rails + (length net.cells + length net.states)))

pub in_bound : (net : PlainNetlist) (unsound : Unsound) → Breaks net unsound → number_in unsound < bound net
in_bound net (WireUndriven wire) b = omega (arith, b.0)
in_bound net (WireTwiceDriven wire) b = elim (cases_lt wire.number (number_of_wires net)) [
  | inl lt ↦ omega arith
  | inr ge ↦
      let both = wire_bound-append (driven net) (read net) in
      let none = occurrences-past wire.number (driven net) (omega arith) in absurd (omega (arith, b))
]
in_bound net (WireUnread wire) b = omega (arith, b.0)
in_bound net (WireTwiceRead wire) b = elim (cases_lt wire.number (number_of_wires net)) [
  | inl lt ↦ omega arith
  | inr ge ↦
      let both = wire_bound-append (driven net) (read net) in
      let none = occurrences-past wire.number (read net) (omega arith) in absurd (omega (arith, b))
]
in_bound net (PortRange (Input id)) b = let t = slice_get_within net.input_rails id.number b.0 b.1 in omega arith
in_bound net (PortRange (Output id)) b = let t = slice_get_within net.output_rails id.number b.0 b.1 in omega arith
in_bound net (RailTwice id) b = let t = slice_get_within net.input_rails id.number b.2 b.5 in omega arith
in_bound net (Loop id) b = let t = slice_get_within net.cells id.number b.0 b.1 in omega arith
in_bound net (LooseDroc id) b = let t = slice_get_within net.cells id.number b.0 b.1 in omega arith
in_bound net (WrongPreload id) b = let t = slice_get_within net.cells id.number b.0 b.1 in omega arith
in_bound net (LooseState k) b = let t = slice_get_within net.states k b.0 b.1 in omega arith

-- below which numbers a rule has to hold where a refusal is the first one
abbrev pub limit : PlainNetlist → Unsound → ℕ → ℕ
limit net unsound rule = if nat_lt rule (rule_of unsound) then bound net else if rule == rule_of unsound then number_in unsound else 0

limit-above : (net : PlainNetlist) (unsound : Unsound) (rule n : ℕ) → n < bound net
    → (rule < rule_of unsound) ⊎ ((rule ≡ rule_of unsound) × (n < number_in unsound)) → n < limit net unsound rule
limit-above net unsound rule n lt (inl earlier) = rw (lt-ltb _ _ earlier) lt
limit-above net unsound rule n lt (inr here) =
    let low : rule_of unsound ≤ rule = omega (arith, here.0) in
    rw (le-ltb _ _ low, eq-eqb _ _ here.0) here.1

-- the decisions that no rule is broken before this refusal
abbrev pub decisions_before : PlainNetlist → Unsound → List Bool
decisions_before net unsound =
    all_below (λ n. passes net (WireUndriven (numbered n))) (limit net unsound 1)
    ∷ all_below (λ n. passes net (WireTwiceDriven (numbered n))) (limit net unsound 2)
    ∷ all_below (λ n. passes net (WireUnread (numbered n))) (limit net unsound 3)
    ∷ all_below (λ n. passes net (WireTwiceRead (numbered n))) (limit net unsound 4)
    ∷ all_below (λ n. passes net (PortRange (Input (numbered n)))) (limit net unsound 5)
    ∷ all_below (λ n. passes net (PortRange (Output (numbered n)))) (limit net unsound 6)
    ∷ all_below (λ n. passes net (RailTwice (numbered n))) (limit net unsound 7)
    ∷ all_below (λ n. passes net (Loop (numbered n))) (limit net unsound 8)
    ∷ all_below (λ n. passes net (LooseDroc (numbered n))) (limit net unsound 9)
    ∷ all_below (λ n. passes net (WrongPreload (numbered n))) (limit net unsound 10)
    ∷ all_below (λ n. passes net (LooseState n)) (limit net unsound 11) ∷ []

abbrev pub all_before : PlainNetlist → Unsound → Bool
all_before net unsound = list_all (λ b. b) (decisions_before net unsound)

passes-before : (net : PlainNetlist) (unsound other : Unsound) → all_before net unsound ≡ true → number_in other < limit net unsound (rule_of other) → passes net other ≡ true
passes-before net unsound (WireUndriven wire) e lt =
    all_below-at (λ n. passes net (WireUndriven (numbered n))) (limit net unsound 1)
    (list_all-at (λ b. b) (decisions_before net unsound) e _ (inl refl)) wire.number lt
passes-before net unsound (WireTwiceDriven wire) e lt =
    all_below-at (λ n. passes net (WireTwiceDriven (numbered n))) (limit net unsound 2)
    (list_all-at (λ b. b) (decisions_before net unsound) e _ (inr (inl refl))) wire.number lt
passes-before net unsound (WireUnread wire) e lt =
    all_below-at (λ n. passes net (WireUnread (numbered n))) (limit net unsound 3)
    (list_all-at (λ b. b) (decisions_before net unsound) e _ (inr (inr (inl refl)))) wire.number lt
passes-before net unsound (WireTwiceRead wire) e lt =
    all_below-at (λ n. passes net (WireTwiceRead (numbered n))) (limit net unsound 4)
    (list_all-at (λ b. b) (decisions_before net unsound) e _ (inr (inr (inr (inl refl))))) wire.number lt
passes-before net unsound (PortRange (Input id)) e lt =
    all_below-at (λ n. passes net (PortRange (Input (numbered n)))) (limit net unsound 5)
    (list_all-at (λ b. b) (decisions_before net unsound) e _ (inr (inr (inr (inr (inl refl)))))) id.number lt
passes-before net unsound (PortRange (Output id)) e lt =
    all_below-at (λ n. passes net (PortRange (Output (numbered n)))) (limit net unsound 6)
    (list_all-at (λ b. b) (decisions_before net unsound) e _ (inr (inr (inr (inr (inr (inl refl))))))) id.number lt
passes-before net unsound (RailTwice id) e lt =
    all_below-at (λ n. passes net (RailTwice (numbered n))) (limit net unsound 7)
    (list_all-at (λ b. b) (decisions_before net unsound) e _ (inr (inr (inr (inr (inr (inr (inl refl)))))))) id.number lt
passes-before net unsound (Loop id) e lt =
    all_below-at (λ n. passes net (Loop (numbered n))) (limit net unsound 8)
    (list_all-at (λ b. b) (decisions_before net unsound) e _ (inr (inr (inr (inr (inr (inr (inr (inl refl))))))))) id.number lt
passes-before net unsound (LooseDroc id) e lt =
    all_below-at (λ n. passes net (LooseDroc (numbered n))) (limit net unsound 9)
    (list_all-at (λ b. b) (decisions_before net unsound) e _ (inr (inr (inr (inr (inr (inr (inr (inr (inl refl)))))))))) id.number lt
passes-before net unsound (WrongPreload id) e lt =
    all_below-at (λ n. passes net (WrongPreload (numbered n))) (limit net unsound 10)
    (list_all-at (λ b. b) (decisions_before net unsound) e _ (inr (inr (inr (inr (inr (inr (inr (inr (inr (inl refl))))))))))) id.number lt
passes-before net unsound (LooseState k) e lt =
    all_below-at (λ n. passes net (LooseState n)) (limit net unsound 11)
    (list_all-at (λ b. b) (decisions_before net unsound) e _ (inr (inr (inr (inr (inr (inr (inr (inr (inr (inr (inl refl)))))))))))) k lt

pub first_refusal : (net : PlainNetlist) (unsound : Unsound) → Breaks net unsound → all_before net unsound ≡ true → IsFirstUnsound net unsound
first_refusal net unsound breaks e = record {
  breaks = breaks;
  first = λ other b comes.
      passes-right net other b (passes-before net unsound other e (limit-above net unsound (rule_of other) (number_in other) (in_bound net other b) comes));
}

-- a list of wires is closed under the rules of grounded wires
abbrev pub is_closed : PlainNetlist → List ℕ → Bool
is_closed net ws = list_all (λ w. has w ws) (known_after net 0) && list_all (λ cell. not (is_ready ws cell) || are_outs_known ws cell) net.cells

module _ (net : PlainNetlist) (ws : List ℕ) (closed : is_closed net ws ≡ true) where
  known-first : (w : ℕ) → IsIn w (known_after net 0) → IsIn w ws
  known-first w h = has-at w ws (list_all-at (λ v. has v ws) (known_after net 0) (and_parts _ _ closed).0 w h)

  -- so it holds every grounded wire
  pub grounded-known : (w : ℕ) → Grounded net w → IsIn w ws
  grounded-known _ (of_rail w rail h e) =
      known-first w (IsIn-left w _ _ (subst (λ v. IsIn v (map wire_of net.input_rails)) e (IsIn-map wire_of rail net.input_rails h)))
  grounded-known _ (of_droc w cell h d o) =
      known-first w (IsIn-right w (map wire_of net.input_rails) _ (IsIn-flat_map droc_outs w cell net.cells h (rw (droc_outs-is cell d) o)))
  grounded-known _ (of_gate w cell h d o ports) =
      let ready : is_ready ws cell ≡ true = list_all-from (λ v. has v ws) (reads cell) (λ v g. has-from v ws (grounded-known v (ports v g))) in
      let step = list_all-at (λ c. not (is_ready ws c) || are_outs_known ws c) net.cells (and_parts _ _ closed).1 cell h in
      elim (or_cases _ _ step) [
        | inl blocked ↦ absurd (true≢false (sym blocked ∙ ap not ready))
        | inr known ↦ has-at w ws (list_all-at (λ v. has v ws) (outs cell) known w o)
      ]
