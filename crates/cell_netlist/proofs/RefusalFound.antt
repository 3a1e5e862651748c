-- A netlist that breaks no rule is sound, and every netlist is sound or has a first refusal.
use Rattle.std.proofs.Common.{◌≡◌, ◌<◌, ◌≤◌, ◌⊎◌, ℕ, zero, suc, Bool, true, false, not, Some, slice_get, length, ap, sym, ◌∙◌, subst, inl, inr, arith, refl}
use Rattle.std.specs.List.{list_all}
use Rattle.std.proofs.lemmas.Bool.{or_parts, cases_eq, cases_lt, cases_Bool, true≢false}
use Rattle.pulse_ids.specs.Ids.{numbered}
use Rattle.cell_netlist.specs.declared.lines.Rail.{Rail}
use Rattle.cell_netlist.specs.declared.lines.Cell.{Cell}
use Rattle.cell_netlist.specs.declared.lines.Cell.TheVariants.{La, Fa, Split, Droc}
use Rattle.cell_netlist.specs.declared.kinds.Role.TheVariants.{Back}
use Rattle.cell_netlist.specs.declared.unsound.RailLine.TheVariants.{Input, Output}
use Rattle.cell_netlist.specs.declared.unsound.Unsound.{Unsound}
use Rattle.cell_netlist.specs.declared.unsound.Unsound.TheVariants.{WireUndriven, WireTwiceDriven, WireUnread, WireTwiceRead, PortRange, RailTwice, Loop, LooseDroc, WrongPreload, LooseState}
use Rattle.pulse_ids.specs.Lists.{IsIn, occurrences}
use Rattle.cell_netlist.specs.Netlists.{PlainNetlist, outs, driven, read, number_of_wires, IsDroc, Grounded}
use Rattle.cell_netlist.specs.RailEquations.{is_back_from, preload_of}
use Rattle.cell_netlist.specs.Sound.{IsDrocOf, FitsRole, IsFrontTo, NamesBack, IsNamedBefore, IsSound, Breaks, rule_of, number_in, ComesBefore, IsFirstUnsound}
use Rattle.cell_netlist.specs.Decisions.{is_some_with, has, is_same_sign, known_after, are_outs_known, fits_role, link_of, differ, have_right_preloads, is_none_driven_twice}
use Rattle.pulse_ids.proofs.CallerLemmas.{place_of}
use Rattle.cell_netlist.proofs.ListLemmas.{list_all-at, is_some_with-at, has-at, has-from}
use Rattle.cell_netlist.proofs.SoundDecisions.{same_sign-at, same_sign-from, known_after-grounded, fits-at, right_preloads-at, back-at, differ-at, none_driven_twice-is}
use Rattle.cell_netlist.proofs.StateDecisions.{decide_back, decide_state}
use Rattle.cell_netlist.proofs.Refusals.{bound, in_bound}
use Rattle.cell_netlist.proofs.FirstRefusals.{refusal_at, refusal_is}
use Rattle.cell_netlist.proofs.GroundedDecision.{list_all-not}
use Rattle.cell_netlist.proofs.SoundIsDecided.{fits-from, link-at, differ-from}
use Rattle.cell_netlist.proofs.GroundedDecision.{grounded_known}
use Rattle.cell_netlist.proofs.ListLemmas.{first_of, decide_item}

-- a cell is a DROC or not
droc_or_not : (cell : Cell) → IsDroc cell ⊎ (IsDroc cell → ⊥)
droc_or_not (La a b out) = inr (λ d. d)
droc_or_not (Fa a b out) = inr (λ d. d)
droc_or_not (Split from left right) = inr (λ d. d)
droc_or_not (Droc role preload feed q n) = inl tt

module _ (net : PlainNetlist) where
  -- a wire that is not known is not grounded
  not_grounded : (w : ℕ) → has w (known_after net (length net.cells)) ≡ false → Grounded net w → ⊥
  not_grounded w e g = true≢false (sym (has-from w (known_after net (length net.cells)) (grounded_known net w g)) ∙ e)

  not_fitting : is_none_driven_twice net ≡ true → (cell : Cell) → fits_role net.cells cell ≡ false → FitsRole net cell → ⊥
  not_fitting once cell e h = true≢false (sym (fits-from net once cell h) ∙ e)

  no_wire_twice : ((wire : ℕ) → 2 ≤ occurrences wire (driven net) → ⊥) → is_none_driven_twice net ≡ true
  no_wire_twice none = (none_driven_twice-is net).1 (λ w lt. elim (cases_lt (occurrences w (driven net)) 2) [ inl few ↦ omega arith | inr many ↦ absurd (none w many) ])

  -- a netlist that breaks no rule is sound
  pub unbroken_sound : ((unsound : Unsound) → Breaks net unsound → ⊥) → IsSound net
  unbroken_sound none = record {
    wired = record {
      all_driven = λ w lt. elim (cases_eq (occurrences w (driven net)) 0) [ inl e ↦ absurd (none (WireUndriven (numbered w)) (lt, e)) | inr some ↦ omega arith ];
      none_driven_twice = λ w lt. elim (cases_lt (occurrences w (driven net)) 2) [ inl few ↦ omega arith | inr many ↦ absurd (none (WireTwiceDriven (numbered w)) many) ];
      all_read = λ w lt. elim (cases_eq (occurrences w (read net)) 0) [ inl e ↦ absurd (none (WireUnread (numbered w)) (lt, e)) | inr some ↦ omega arith ];
      none_read_twice = λ w lt. elim (cases_lt (occurrences w (read net)) 2) [ inl few ↦ omega arith | inr many ↦ absurd (none (WireTwiceRead (numbered w)) many) ];
    };
    input_ports = λ rail among. elim (cases_lt rail.port net.inputs) [
      | inl lt ↦ lt
      | inr ge ↦ let place = place_of rail net.input_rails among in absurd (none (PortRange (Input (numbered place.0))) (rail, place.1, ge))
    ];
    output_ports = λ rail among. elim (cases_lt rail.port net.outputs) [
      | inl lt ↦ lt
      | inr ge ↦ let place = place_of rail net.output_rails among in absurd (none (PortRange (Output (numbered place.0))) (rail, place.1, ge))
    ];
    none_twice = λ first later rail other lt at_first at_later port sign.
        none (RailTwice (numbered later)) (first, rail, other, lt, at_first, at_later, port, sign);
    grounded = λ cell among gate w h. elim (cases_Bool (has w (known_after net (length net.cells)))) [
      | inl known ↦ known_after-grounded net (length net.cells) w (has-at w (known_after net (length net.cells)) known)
      | inr unknown ↦ let place = place_of cell net.cells among in absurd (none (Loop (numbered place.0)) (cell, place.1, gate, w, h, not_grounded w unknown))
    ];
    roles = λ cell among. elim (cases_Bool (fits_role net.cells cell)) [
      | inl fits ↦ fits-at net cell fits
      | inr loose ↦
          let place = place_of cell net.cells among in
          absurd (none (LooseDroc (numbered place.0)) (cell, place.1, not_fitting (no_wire_twice (λ w many. none (WireTwiceDriven (numbered w)) many)) cell loose))
    ];
    preloads = λ link front back of_front of_back. elim (cases_Bool (differ front back)) [
      | inl apart ↦ differ-at net front back apart
      | inr alike ↦
          let place = place_of of_back.back net.cells of_back.among in
          absurd (none (WrongPreload (numbered place.0))
          (of_back.back, place.1, link, back, front, of_back.role, of_front, λ e. true≢false (sym (differ-from net front back e) ∙ alike)))
    ];
    states = record {
      backs = λ line among. elim (decide_back net line) [
        | inl back ↦ back
        | inr loose ↦ let place = place_of line net.states among in absurd (none (LooseState place.0) (line, place.1, inl loose))
      ];
      apart = λ k line at_line before. none (LooseState k) (line, at_line, inr before);
    };
  }

  -- the rail of this number has the same port and sign
  abbrev EarlierRail : Rail → ℕ → Type 0
  EarlierRail other n = (rail : Rail) × (slice_get net.input_rails n ≡ Some rail) × ((rail.port ≡ other.port) × (rail.sign ≡ other.sign))

  decide_same : (rail other : Rail) → ((rail.port ≡ other.port) × (rail.sign ≡ other.sign)) ⊎ (((rail.port ≡ other.port) × (rail.sign ≡ other.sign)) → ⊥)
  decide_same rail other = elim (cases_eq rail.port other.port) [
    | inr apart ↦ inr (λ both. apart both.0)
    | inl port ↦ elim (cases_Bool (is_same_sign rail.sign other.sign)) [
      | inl sign ↦ inl (port, same_sign-at _ _ sign)
      | inr apart ↦ inr (λ both. true≢false (sym (same_sign-from _ _ both.1) ∙ apart))
    ]
  ]

  -- an earlier rail has the same port and sign
  abbrev AfterTwin : ℕ → Rail → Type 0
  AfterTwin later other = (first : ℕ) × (first < later) × EarlierRail other first

  decide_twin : (later : ℕ) (other : Rail) → AfterTwin later other ⊎ (AfterTwin later other → ⊥)
  decide_twin later other =
      elim (first_of (EarlierRail other) later
      (λ n lt before. decide_item net.input_rails n (λ rail. (rail.port ≡ other.port) × (rail.sign ≡ other.sign)) (λ rail among. decide_same rail other))) [
        | inl none ↦ inr (λ twin. none twin.0 twin.1 twin.2)
        | inr found ↦ inl (found.0, found.1, found.2)
      ]

  -- an output of a gate or splitter is not grounded
  abbrev IsLooped : Cell → Type 0
  IsLooped cell = (IsDroc cell → ⊥) × (wire : ℕ) × IsIn wire (outs cell) × (Grounded net wire → ⊥)

  decide_loop : (cell : Cell) → IsLooped cell ⊎ (IsLooped cell → ⊥)
  decide_loop cell = elim (droc_or_not cell) [
    | inl droc ↦ inr (λ looped. looped.0 droc)
    | inr gate ↦ elim (cases_Bool (are_outs_known (known_after net (length net.cells)) cell)) [
      | inl known ↦ inr (λ looped. looped.3 (known_after-grounded net (length net.cells) looped.1
          (has-at looped.1 _ (list_all-at (λ w. has w (known_after net (length net.cells))) (outs cell) known looped.1 looped.2))))
      | inr unknown ↦
          let found = list_all-not (λ w. has w (known_after net (length net.cells))) (outs cell) unknown in
          inl (gate, found.0, found.1, not_grounded found.0 found.2)
    ]
  ]

  -- the back's preload is not the complement of its front's
  abbrev HasWrongPreload : Cell → Type 0
  HasWrongPreload cell = (link : ℕ) × (back : Bool) × (front : Bool) × IsDrocOf cell Back back link × IsFrontTo net link front × (back ≡ not front → ⊥)

  decide_preload : (cell : Cell) → HasWrongPreload cell ⊎ (HasWrongPreload cell → ⊥)
  decide_preload cell = elim (cases_Bool (list_all (λ front. have_right_preloads front cell) net.cells)) [
    | inl right ↦ inr (λ wrong.
        let front = wrong.4 in
        let pair = list_all-at (λ f. have_right_preloads f cell) net.cells right front.front front.among in
        wrong.5 (right_preloads-at net front.front cell wrong.2 wrong.1 front.feed wrong.0 pair front.role front.q wrong.3))
    | inr wrong ↦
        let found = list_all-not (λ f. have_right_preloads f cell) net.cells wrong in
        let parts = or_parts (not (is_some_with (λ link. is_back_from link cell) (link_of found.0))) (differ (preload_of found.0) (preload_of cell)) found.2 in
        let linked : is_some_with (λ link. is_back_from link cell) (link_of found.0) ≡ true =
        elim (cases_Bool (is_some_with (λ link. is_back_from link cell) (link_of found.0))) [ inl hit ↦ hit | inr miss ↦ absurd (true≢false (sym (ap not miss) ∙ parts.0)) ] in
        let link = is_some_with-at (λ l. is_back_from l cell) (link_of found.0) linked in
        let its = link-at net found.0 link.0 link.1 in
        inl (
          link.0,
          preload_of cell,
          preload_of found.0,
          back-at net cell link.0 link.2,
          record { front = found.0; among = found.1; feed = its.0; role = its.1; q = its.2 },
          λ e. true≢false (sym (differ-from net _ _ e) ∙ parts.1),
        )
  ]

  -- whether a netlist breaks a rule at a place, where no wire is driven twice if the rule is on roles
  decide_breaks : (unsound : Unsound) → (rule_of unsound ≡ 9 → (wire : ℕ) → 2 ≤ occurrences wire (driven net) → ⊥) → Breaks net unsound ⊎ (Breaks net unsound → ⊥)
  decide_breaks (WireUndriven wire) once = elim (cases_lt wire.number (number_of_wires net)) [
    | inr ge ↦ inr (λ b. omega (arith, b.0))
    | inl lt ↦ elim (cases_eq (occurrences wire.number (driven net)) 0) [ inl none ↦ inl (lt, none) | inr some ↦ inr (λ b. some b.1) ]
  ]
  decide_breaks (WireTwiceDriven wire) once = elim (cases_lt (occurrences wire.number (driven net)) 2) [ inl few ↦ inr (λ b. omega (arith, b)) | inr many ↦ inl many ]
  decide_breaks (WireUnread wire) once = elim (cases_lt wire.number (number_of_wires net)) [
    | inr ge ↦ inr (λ b. omega (arith, b.0))
    | inl lt ↦ elim (cases_eq (occurrences wire.number (read net)) 0) [ inl none ↦ inl (lt, none) | inr some ↦ inr (λ b. some b.1) ]
  ]
  decide_breaks (WireTwiceRead wire) once = elim (cases_lt (occurrences wire.number (read net)) 2) [ inl few ↦ inr (λ b. omega (arith, b)) | inr many ↦ inl many ]
  decide_breaks (PortRange (Input id)) once = decide_item net.input_rails id.number (λ rail. net.inputs ≤ rail.port)
      (λ rail among. elim (cases_lt rail.port net.inputs) [ inl lt ↦ inr (λ le. omega (arith, le)) | inr ge ↦ inl ge ])
  decide_breaks (PortRange (Output id)) once = decide_item net.output_rails id.number (λ rail. net.outputs ≤ rail.port)
      (λ rail among. elim (cases_lt rail.port net.outputs) [ inl lt ↦ inr (λ le. omega (arith, le)) | inr ge ↦ inl ge ])
  decide_breaks (RailTwice id) once = elim (decide_item net.input_rails id.number (AfterTwin id.number) (λ other among. decide_twin id.number other)) [
    | inl found ↦ let twin = found.2 in let rail = twin.2 in inl (twin.0, rail.0, found.0, twin.1, rail.1, found.1, rail.2.0, rail.2.1)
    | inr none ↦ inr (λ b. none (b.2, b.5, (b.0, b.3, (b.1, b.4, (b.6, b.7)))))
  ]
  decide_breaks (Loop id) once = elim (decide_item net.cells id.number IsLooped (λ cell among. decide_loop cell)) [
    | inl found ↦ let its = found.2 in inl (found.0, found.1, its.0, its.1, its.2, its.3)
    | inr none ↦ inr (λ b. none (b.0, b.1, (b.2, b.3, b.4, b.5)))
  ]
  decide_breaks (LooseDroc id) once = decide_item net.cells id.number (λ cell. FitsRole net cell → ⊥) (λ cell among. elim (cases_Bool (fits_role net.cells cell)) [
    | inl fits ↦ inr (λ loose. loose (fits-at net cell fits))
    | inr loose ↦ inl (not_fitting (no_wire_twice (once refl)) cell loose)
  ])
  decide_breaks (WrongPreload id) once = elim (decide_item net.cells id.number HasWrongPreload (λ cell among. decide_preload cell)) [
    | inl found ↦ let its = found.2 in inl (found.0, found.1, its.0, its.1, its.2, its.3, its.4, its.5)
    | inr none ↦ inr (λ b. none (b.0, b.1, (b.2, b.3, b.4, b.5, b.6, b.7)))
  ]
  decide_breaks (LooseState k) once =
      decide_item net.states k (λ line. (NamesBack net line → ⊥) ⊎ IsNamedBefore net k line) (λ line among. decide_state net k line)

-- the place and number of the refusal at a place
at_place : (r n : ℕ) → r < 11 → (rule_of (refusal_at (suc r) n) ≡ suc r) × (number_in (refusal_at (suc r) n) ≡ n)
at_place zero n lt = (refl, refl)
at_place (suc zero) n lt = (refl, refl)
at_place (suc (suc zero)) n lt = (refl, refl)
at_place (suc (suc (suc zero))) n lt = (refl, refl)
at_place (suc (suc (suc (suc zero)))) n lt = (refl, refl)
at_place (suc (suc (suc (suc (suc zero))))) n lt = (refl, refl)
at_place (suc (suc (suc (suc (suc (suc zero)))))) n lt = (refl, refl)
at_place (suc (suc (suc (suc (suc (suc (suc zero))))))) n lt = (refl, refl)
at_place (suc (suc (suc (suc (suc (suc (suc (suc zero)))))))) n lt = (refl, refl)
at_place (suc (suc (suc (suc (suc (suc (suc (suc (suc zero))))))))) n lt = (refl, refl)
at_place (suc (suc (suc (suc (suc (suc (suc (suc (suc (suc zero)))))))))) n lt = (refl, refl)
at_place (suc (suc (suc (suc (suc (suc (suc (suc (suc (suc (suc r))))))))))) n lt = absurd (omega arith)

-- each refusal has a place
place_is : (unsound : Unsound) → (r : ℕ) × (rule_of unsound ≡ suc r) × (r < 11)
place_is (WireUndriven wire) = (0, refl, omega arith)
place_is (WireTwiceDriven wire) = (1, refl, omega arith)
place_is (WireUnread wire) = (2, refl, omega arith)
place_is (WireTwiceRead wire) = (3, refl, omega arith)
place_is (PortRange (Input id)) = (4, refl, omega arith)
place_is (PortRange (Output id)) = (5, refl, omega arith)
place_is (RailTwice id) = (6, refl, omega arith)
place_is (Loop id) = (7, refl, omega arith)
place_is (LooseDroc id) = (8, refl, omega arith)
place_is (WrongPreload id) = (9, refl, omega arith)
place_is (LooseState k) = (10, refl, omega arith)

module _ (net : PlainNetlist) where
  -- the rule of this place, counted from 0, is broken at a number
  abbrev BreaksAt : ℕ → ℕ → Type 0
  BreaksAt r n = Breaks net (refusal_at (suc r) n)

  abbrev BreaksRule : ℕ → Type 0
  BreaksRule r = (n : ℕ) × BreaksAt r n

  -- the first number at which a rule is broken, where no earlier rule is
  first_number : (r : ℕ) → r < 11 → ((k : ℕ) → k < r → BreaksRule k → ⊥)
      → ((n : ℕ) → BreaksAt r n → ⊥) ⊎ ((n : ℕ) × BreaksAt r n × ((k : ℕ) → k < n → BreaksAt r k → ⊥))
  first_number r lt earlier = elim (first_of (BreaksAt r) (bound net) (λ n below before. decide_breaks net (refusal_at (suc r) n) (once n))) [
    | inl none ↦ none_below none
    | inr found ↦ inr (found.0, found.2, found.3)
  ]
    where
      once : (n : ℕ) → rule_of (refusal_at (suc r) n) ≡ 9 → (wire : ℕ) → 2 ≤ occurrences wire (driven net) → ⊥
      once n e wire many = let its = (at_place r n lt).0 in earlier 1 (omega arith) (wire, many)

      none_below : ((n : ℕ) → n < bound net → BreaksAt r n → ⊥)
          → ((n : ℕ) → BreaksAt r n → ⊥) ⊎ ((n : ℕ) × BreaksAt r n × ((k : ℕ) → k < n → BreaksAt r k → ⊥))
      none_below none = inl (λ n b. none n (subst (λ k. k < bound net) (at_place r n lt).1 (in_bound net (refusal_at (suc r) n) b)) b)

  decide_rule : (r : ℕ) → r < 11 → ((k : ℕ) → k < r → BreaksRule k → ⊥) → BreaksRule r ⊎ (BreaksRule r → ⊥)
  decide_rule r lt earlier = elim (first_number r lt earlier) [
    | inl none ↦ inr (λ b. none b.0 b.1)
    | inr found ↦ inl (found.0, found.1)
  ]

  -- a broken rule at its place
  at_its_place : (unsound : Unsound) (r : ℕ) → rule_of unsound ≡ suc r → Breaks net unsound → BreaksAt r (number_in unsound)
  at_its_place unsound r e b =
      subst (λ k. Breaks net (refusal_at k (number_in unsound))) e (subst (λ u. Breaks net u) (refusal_is unsound) b)

  -- so that refusal is the first
  first_at : (r n : ℕ) → r < 11 → BreaksAt r n → ((k : ℕ) → k < r → BreaksRule k → ⊥) → ((k : ℕ) → k < n → BreaksAt r k → ⊥)
      → (other : Unsound) → Breaks net other → ComesBefore other (refusal_at (suc r) n) → ⊥
  first_at r n lt b earlier lower other its (inl before) =
      let place = place_is other in
      let rule : rule_of other ≡ suc place.0 = place.1 in
      let mine = (at_place r n lt).0 in
      earlier place.0 (omega arith) (number_in other, at_its_place other place.0 rule its)
  first_at r n lt b earlier lower other its (inr same) =
      let mine = at_place r n lt in
      lower (number_in other) (subst (λ k. number_in other < k) mine.1 same.1) (at_its_place other r (same.0 ∙ mine.0) its)

  pub sound_or_refused : IsSound net ⊎ ((unsound : Unsound) × IsFirstUnsound net unsound)
  sound_or_refused = elim (first_of BreaksRule 11 decide_rule) [
    | inl none ↦ inl (unbroken_sound net (λ unsound b. let place = place_is unsound in none place.0 place.2 (number_in unsound, at_its_place unsound place.0 place.1 b)))
    | inr found ↦ elim (first_number found.0 found.1 found.3) [
      | inl none ↦ let q = found.2 in absurd (none q.0 q.1)
      | inr lowest ↦ inr (
        refusal_at (suc found.0) lowest.0,
        record { breaks = lowest.1; first = first_at found.0 lowest.0 found.1 lowest.1 found.3 lowest.2 },
      )
    ]
  ]
