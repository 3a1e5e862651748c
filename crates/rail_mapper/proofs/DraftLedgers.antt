-- What gates, trees, latch pairs and constants do to the ledger of open wires.
use Rattle.std.proofs.Common.{◌≡◌, ◌≤◌, ◌<◌, ◌+◌, ◌*◌, ◌-◌, ◌⊎◌, inl, inr, ℕ, Bool, true, false, not, Some, None, List, [], ◌∷◌, ◌++◌, slice_get, ap, subst, ◌∙◌, refl, arith}
use Rattle.std.specs.List.{flat_map, range_with_len}
use Rattle.pulse_ids.specs.Ids.{numbered}
use Rattle.pulse_ids.specs.Lists.{IsIn, occurrences}
use Rattle.pulse_ids.proofs.CallerLemmas.{IsIn-append, IsIn-place}
use Rattle.pulse_ids.proofs.CallerLemmasOnCounts.{occurrences-append}
use Rattle.cell_netlist.specs.declared.kinds.Gate.{Gate}
use Rattle.cell_netlist.specs.declared.kinds.Gate.TheVariants as gates
use Rattle.cell_netlist.specs.declared.kinds.Role.TheVariants.{Front, Back}
use Rattle.cell_netlist.specs.declared.lines.Cell.{Cell}
use Rattle.cell_netlist.specs.declared.lines.Cell.TheVariants.{Droc}
use Rattle.cell_netlist.specs.Netlists.{PlainNetlist, used, outs, reads, number_of_wires, IsDroc}
use Rattle.cell_netlist.proofs.CallerLemmas.{named_below}
use Rattle.splitter_trees.specs.Spreading.{Rises, IsSpread, with_cells}
use Rattle.droc_pairs.specs.Pairs.{asked_output, wires_for, begun_back, StandsBack, front_of, with_front}
use Rattle.droc_pairs.proofs.CallerLemmas.{wires_of_constant, constant_cells, constant_drives, constant_reads}
use Rattle.droc_pairs.specs.Constants.{ones_from, HasTreeIfRead, with_tree, without, IsConstant}
use Rattle.wire_ledgers.specs.Ledgers.{IsLedger, IsGateOn}
use Rattle.wire_ledgers.proofs.CallerLemmas.{cells_step, settle_step}
use Rattle.wire_ledgers.proofs.CallerLemmasOnDrocs as ledgers
use Rattle.rail_mapper.specs.Drafts.{gate_cell}
use Rattle.rail_mapper.proofs.Feeds.{front_place}

is_gate : (gate : Gate) (a b out : ℕ) → IsGateOn (gate_cell gate a b out) a b out
is_gate gates.La a b out = record { two = refl; one = refl }
is_gate gates.Fa a b out = record { two = refl; one = refl }

pub gate_wires : (gate : Gate) (net : PlainNetlist) (a b : ℕ) → a < number_of_wires net → b < number_of_wires net
    → number_of_wires (with_cells net (gate_cell gate a b (number_of_wires net) ∷ [])) ≡ number_of_wires net + 1
gate_wires gate net a b la lb = ledgers.gate_wires net (gate_cell gate a b (number_of_wires net)) a b (is_gate gate a b (number_of_wires net)) la lb

-- a gate on two open wires
pub gate_step : (gate : Gate) (net : PlainNetlist) (a b : ℕ) (before after debts : List ℕ) → IsLedger net before debts
    → ((wire : ℕ) → occurrences wire (a ∷ b ∷ after) ≡ occurrences wire before)
    → IsLedger (with_cells net (gate_cell gate a b (number_of_wires net) ∷ [])) (number_of_wires net ∷ after) debts
gate_step gate net a b before after debts ledger opened =
    ledgers.gate_step net (gate_cell gate a b (number_of_wires net)) a b before after debts ledger (is_gate gate a b (number_of_wires net)) opened

-- an open wire is spread
pub spread_step : (old new : PlainNetlist) (root readers : ℕ) (leaves before after debts : List ℕ) → IsLedger old before debts → IsSpread old new root readers leaves
    → ((wire : ℕ) → occurrences wire after + occurrences wire (root ∷ []) ≡ occurrences wire before + occurrences wire leaves) → IsLedger new after debts
spread_step old new root readers leaves before after debts ledger spread opened =
    ledgers.tree_step old new root (2 * (readers - 1)) spread.cells leaves before after debts ledger spread.added spread.wires spread.spreads.drives spread.spreads.rise spread.spreads.once opened

-- the wires of a back that is begun
abbrev pub back_wires : ℕ → Bool → Bool → List ℕ
back_wires next q n = used (asked_output q next) ++ used (asked_output n (next + wires_for q))

back_range : (next : ℕ) (q n : Bool) → back_wires next q n ≡ range_with_len next (wires_for q + wires_for n)
back_range next true true = refl
back_range next true false = refl
back_range next false true = let z : next + 0 ≡ next = omega arith in rw z refl
back_range next false false = refl

asked_some : (q n : Bool) → (q ≡ true) ⊎ (n ≡ true) → 1 ≤ wires_for q + wires_for n
asked_some true n asked = omega arith
asked_some false true asked = omega arith
asked_some false false (inl e) = absurd cc
asked_some false false (inr e) = absurd cc

pub back_number : (net : PlainNetlist) (init q n : Bool) → (q ≡ true) ⊎ (n ≡ true)
    → number_of_wires (with_cells net (begun_back (number_of_wires net) init q n ∷ [])) ≡ number_of_wires net + (wires_for q + wires_for n)
back_number net init q n asked =
    ledgers.droc_wires net Back init (numbered 0) (asked_output q (number_of_wires net)) (asked_output n (number_of_wires net + wires_for q)) (wires_for q + wires_for n)
    (back_range (number_of_wires net) q n) (let s = asked_some q n asked in omega arith)

pub begin_step : (net : PlainNetlist) (init q n : Bool) (open_wires debts : List ℕ) → IsLedger net open_wires debts → (q ≡ true) ⊎ (n ≡ true)
    → IsLedger (with_cells net (begun_back (number_of_wires net) init q n ∷ [])) (back_wires (number_of_wires net) q n ++ open_wires) (0 ∷ debts)
begin_step net init q n open_wires debts ledger asked =
    ledgers.droc_step net Back init (numbered 0) (asked_output q (number_of_wires net)) (asked_output n (number_of_wires net + wires_for q)) (wires_for q + wires_for n) open_wires debts ledger
    (back_range (number_of_wires net) q n) (let s = asked_some q n asked in omega arith)

-- a front reads an open wire, and its link settles the debt of the back
module _ (net : PlainNetlist) (place : ℕ) (init : Bool) (next : ℕ) (back : StandsBack net place init) (low : next < number_of_wires net) where
  abbrev with_its_front : PlainNetlist
  with_its_front = with_cells net (front_of init next (number_of_wires net) ∷ [])

  one_more : number_of_wires with_its_front ≡ number_of_wires net + 1
  one_more = ledgers.droc_wires net Front (not init) (numbered next) (Some (numbered (number_of_wires net))) None 1 refl (omega arith)

  stands : slice_get with_its_front.cells place ≡ Some (Droc Back init back.feed back.q back.n)
  stands = front_place net.cells (front_of init next (number_of_wires net)) place (Droc Back init back.feed back.q back.n) back.is

  feed_low : back.feed.number < number_of_wires net
  feed_low = (named_below net).of_reads (Droc Back init back.feed back.q back.n) (IsIn-place (Droc Back init back.feed back.q back.n) net.cells place back.is) back.feed.number (inl refl)

  pub finish_number : number_of_wires (with_front net place init next) ≡ number_of_wires net + 1
  finish_number =
      ledgers.fed_wires with_its_front place Back init back.feed (numbered (number_of_wires net)) back.q back.n stands (let f = feed_low in omega arith) (omega (arith, one_more))
      ∙ one_more

  pub finish_step : (before after debts : List ℕ) → IsLedger net before (back.feed.number ∷ debts)
      → ((other : ℕ) → occurrences other (next ∷ after) ≡ occurrences other before) → IsLedger (with_front net place init next) after debts
  finish_step before after debts ledger opened =
      settle_step (with_front net place init next) (number_of_wires net ∷ after) after (number_of_wires net ∷ debts) debts
      (ledgers.feed_step with_its_front place Back init back.feed (numbered (number_of_wires net)) back.q back.n (number_of_wires net ∷ after) debts front_there stands
      (let f = feed_low in omega arith) (omega (arith, one_more)))
      (λ other. omega arith) (λ other. omega arith)
    where
      front_there : IsLedger with_its_front (number_of_wires net ∷ after) (back.feed.number ∷ debts)
      front_there =
          settle_step with_its_front (number_of_wires net ∷ before) (number_of_wires net ∷ after) (next ∷ back.feed.number ∷ debts) (back.feed.number ∷ debts)
          (ledgers.droc_step net Front (not init) (numbered next) (Some (numbered (number_of_wires net))) None 1 before (back.feed.number ∷ debts) ledger refl (omega arith))
          (λ other. let p = opened other in omega arith) (λ other. let p = opened other in omega arith)

-- a constant with its trees
module _ (old new : PlainNetlist) (ones zeros : ℕ) (one none : List ℕ) (c : IsConstant old new ones zeros one none) where
  one_rise : HasTreeIfRead (ones_from (number_of_wires old) ones) (number_of_wires old) ones c.one_cells one → (its : Cell) → IsIn its c.one_cells → Rises its
  one_rise (with_tree some t s) its m = s.rise its m
  one_rise (without idle e l) its m = absurd (subst (λ (cells : List Cell). IsIn its cells) e m)

  rises : (its : Cell) → IsIn its (constant_cells old new ones zeros one none c) → (IsDroc its → ⊥) → Rises its
  rises its (inl e) gate = absurd (gate (subst (λ (x : Cell). IsDroc x) e tt))
  rises its (inr m) gate = elim (IsIn-append its c.one_cells c.zero_cells m) [
    | inl k ↦ one_rise c.one_tree its k
    | inr k ↦ c.zero_spreads.rise its k
  ]

  -- each new wire is read by one of the cells or is a leaf
  balance : (open_wires : List ℕ) (wire : ℕ) → occurrences wire (flat_map reads (constant_cells old new ones zeros one none c)) + occurrences wire (one ++ (none ++ open_wires))
      ≡ occurrences wire open_wires + occurrences wire (flat_map outs (constant_cells old new ones zeros one none c))
  balance open_wires wire =
      omega (
        arith,
        occurrences-append wire one (none ++ open_wires),
        occurrences-append wire none open_wires,
        ap (occurrences wire) (constant_drives old new ones zeros one none c),
        constant_reads old new ones zeros one none c wire,
      )

  pub constant_step : (open_wires debts : List ℕ) → IsLedger old open_wires debts → IsLedger new (one ++ (none ++ open_wires)) debts
  constant_step open_wires debts ledger =
      cells_step old new open_wires (one ++ (none ++ open_wires)) debts debts ledger (record {
        cells = constant_cells old new ones zeros one none c;
        added = c.added;
        more = wires_of_constant ones zeros;
        wires = c.wires ∙ omega arith;
        drives = constant_drives old new ones zeros one none c;
        balance = λ wire. omega (arith, balance open_wires wire);
        opens = λ wire. omega (arith, balance open_wires wire);
        rise = rises;
      })
