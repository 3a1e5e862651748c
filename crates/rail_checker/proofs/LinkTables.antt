-- The tables of fronts and of backs.
use Rattle.std.proofs.Common.{◌≡◌, ℕ, ◌<◌, inl, inr, List, length, get_or, replicate, Option, Some, None, Bool, true, false, refl, ap, ◌∙◌, arith}
use Rattle.std.proofs.lemmas.List.{get_or-replicate, length-replicate}
use Rattle.pulse_ids.specs.Ids.{WireId}
use Rattle.pulse_ids.specs.Lists.{IsIn}
use Rattle.pulse_ids.proofs.CallerLemmas.{IsIn-left, place_of}
use Rattle.cell_netlist.specs.declared.kinds.Role.TheVariants.{Front, Back, Const}
use Rattle.cell_netlist.specs.declared.lines.Cell.{Cell}
use Rattle.cell_netlist.specs.declared.lines.Cell.TheVariants.{La, Fa, Split, Droc}
use Rattle.cell_netlist.specs.Netlists.{PlainNetlist, number_of_wires, used, outs, reads}
use Rattle.cell_netlist.specs.RailEquations.{preload_of}
use Rattle.cell_netlist.specs.Decisions.{link_of, number_on}
use Rattle.cell_netlist.specs.Sound.{IsOn, IsDrocOf, HasQ, IsFrontTo, IsBackFrom}
use Rattle.cell_netlist.specs.Wired.{IsWired}
use Rattle.cell_netlist.proofs.CallerLemmas.{driving_cell-is}
use Rattle.rail_checker.specs.Tables.{through, with_front, with_back, back_feed, AreFronts, AreBacks}
use Rattle.rail_checker.proofs.TableSteps.{through_width, held, found}

number-on : (output : Option WireId) (wire : ℕ) → number_on output ≡ Some wire → IsOn output wire
number-on None wire e = absurd cc
number-on (Some used) wire e = cc

on-number : (output : Option WireId) (wire : ℕ) → IsOn output wire → number_on output ≡ Some wire
on-number None wire h = absurd h
on-number (Some used) wire h = ap Some h

number-used : (output : Option WireId) (wire : ℕ) → number_on output ≡ Some wire → IsIn wire (used output)
number-used None wire e = absurd cc
number-used (Some used) wire e = let same : used.number ≡ wire = cc in inl same

-- a link is driven by its front
pub link_out : (cell : Cell) (wire : ℕ) → link_of cell ≡ Some wire → IsIn wire (outs cell)
link_out (La a b out) wire e = absurd cc
link_out (Fa a b out) wire e = absurd cc
link_out (Split from left right) wire e = absurd cc
link_out (Droc Front preload feed q n) wire e = IsIn-left wire (used q) (used n) (number-used q wire e)
link_out (Droc Back preload feed q n) wire e = absurd cc
link_out (Droc Const preload feed q n) wire e = absurd cc

-- the feed of a back is read by it
pub feed_read : (cell : Cell) (wire : ℕ) → back_feed cell ≡ Some wire → IsIn wire (reads cell)
feed_read (La a b out) wire e = absurd cc
feed_read (Fa a b out) wire e = absurd cc
feed_read (Split from left right) wire e = absurd cc
feed_read (Droc Front preload feed q n) wire e = absurd cc
feed_read (Droc Back preload feed q n) wire e = let same : feed.number ≡ wire = cc in inl same
feed_read (Droc Const preload feed q n) wire e = absurd cc

link_front : (net : PlainNetlist) (cell : Cell) (wire : ℕ) (preload : Bool) → IsIn cell net.cells → link_of cell ≡ Some wire → preload_of cell ≡ preload → IsFrontTo net wire preload
link_front net (La a b out) wire preload i e p = absurd cc
link_front net (Fa a b out) wire preload i e p = absurd cc
link_front net (Split from left right) wire preload i e p = absurd cc
link_front net (Droc Front its feed q n) wire preload i e p =
    record { front = Droc Front its feed q n; among = i; feed = feed.number; role = (refl, p, refl); q = number-on q wire e }
link_front net (Droc Back its feed q n) wire preload i e p = absurd cc
link_front net (Droc Const its feed q n) wire preload i e p = absurd cc

front_link : (cell : Cell) (preload : Bool) (feed wire : ℕ) → IsDrocOf cell Front preload feed → HasQ cell wire → (link_of cell ≡ Some wire) × (preload_of cell ≡ preload)
front_link (La a b out) preload feed wire h q = absurd h
front_link (Fa a b out) preload feed wire h q = absurd h
front_link (Split from left right) preload feed wire h q = absurd h
front_link (Droc Front its its_feed output n) preload feed wire h q = (on-number output wire q, h.1)
front_link (Droc Back its its_feed output n) preload feed wire h q = let e = h.0 in absurd cc
front_link (Droc Const its its_feed output n) preload feed wire h q = let e = h.0 in absurd cc

feed_back : (net : PlainNetlist) (cell : Cell) (wire : ℕ) → IsIn cell net.cells → back_feed cell ≡ Some wire → (preload : Bool) × IsBackFrom net wire preload
feed_back net (La a b out) wire i e = absurd cc
feed_back net (Fa a b out) wire i e = absurd cc
feed_back net (Split from left right) wire i e = absurd cc
feed_back net (Droc Front its feed q n) wire i e = absurd cc
feed_back net (Droc Back its feed q n) wire i e =
    let same : feed.number ≡ wire = cc in (its, record { back = Droc Back its feed q n; among = i; role = (refl, refl, same) })
feed_back net (Droc Const its feed q n) wire i e = absurd cc

pub back_feed-is : (cell : Cell) (preload : Bool) (wire : ℕ) → IsDrocOf cell Back preload wire → (back_feed cell ≡ Some wire) × (preload_of cell ≡ preload)
back_feed-is (La a b out) preload wire h = absurd h
back_feed-is (Fa a b out) preload wire h = absurd h
back_feed-is (Split from left right) preload wire h = absurd h
back_feed-is (Droc Front its feed q n) preload wire h = let e = h.0 in absurd cc
back_feed-is (Droc Back its feed q n) preload wire h = (ap Some h.2, h.1)
back_feed-is (Droc Const its feed q n) preload wire h = let e = h.0 in absurd cc

module _ (net : PlainNetlist) where
  abbrev no_fronts : List (Option Bool)
  no_fronts = replicate (number_of_wires net) None

  abbrev no_backs : List Bool
  no_backs = replicate (number_of_wires net) false

  abbrev front_value : Cell → Option Bool
  front_value cell = Some (preload_of cell)

  abbrev back_value : Cell → Bool
  back_value cell = true

  pub fronts_are : IsWired net → AreFronts net (through with_front no_fronts net.cells)
  fronts_are wired = record {
    width = through_width None link_of front_value net.cells no_fronts ∙ length-replicate {A = Option Bool} (number_of_wires net) None;
    front = λ wire preload lt. (holds wire preload lt, finds wire preload lt);
  }
    where
      long : length no_fronts ≡ number_of_wires net
      long = length-replicate {A = Option Bool} (number_of_wires net) None

      holds : (wire : ℕ) (preload : Bool) → wire < number_of_wires net → get_or (through with_front no_fronts net.cells) wire None ≡ Some preload → IsFrontTo net wire preload
      holds wire preload lt e = elim (held None link_of front_value net.cells no_fronts wire (Some preload) (omega (arith, long)) e) [
        | inl r ↦ let value : Some (preload_of r.0) ≡ Some preload = r.3 in let p : preload_of r.0 ≡ preload = cc in link_front net r.0 wire preload r.1 r.2 p
        | inr none ↦ let empty : get_or no_fronts wire None ≡ None = get_or-replicate (number_of_wires net) wire None None lt in absurd cc
      ]

      finds : (wire : ℕ) (preload : Bool) → wire < number_of_wires net → IsFrontTo net wire preload → get_or (through with_front no_fronts net.cells) wire None ≡ Some preload
      finds wire preload lt f =
          let its = front_link f.front preload f.feed wire f.role f.q in
          let r = found None link_of front_value net.cells no_fronts wire f.front f.among its.0 (omega (arith, long)) in
          let here = place_of f.front net.cells f.among in
          let there = place_of r.0 net.cells r.1 in
          let same : r.0 ≡ f.front = (driving_cell-is net wired wire there.0 here.0 r.0 f.front there.1 here.1 (link_out r.0 wire r.2) (link_out f.front wire its.0)).1 in
          r.3 ∙ ap front_value same ∙ ap Some its.1

  pub backs_are : AreBacks net (through with_back no_backs net.cells)
  backs_are = record {
    width = through_width false back_feed back_value net.cells no_backs ∙ long;
    back = λ wire lt. (holds wire lt, finds wire lt);
  }
    where
      long : length no_backs ≡ number_of_wires net
      long = length-replicate {A = Bool} (number_of_wires net) false

      holds : (wire : ℕ) → wire < number_of_wires net → get_or (through with_back no_backs net.cells) wire false ≡ true → (preload : Bool) × IsBackFrom net wire preload
      holds wire lt e = elim (held false back_feed back_value net.cells no_backs wire true (omega (arith, long)) e) [
        | inl r ↦ feed_back net r.0 wire r.1 r.2
        | inr none ↦ let empty : get_or no_backs wire false ≡ false = get_or-replicate (number_of_wires net) wire false false lt in absurd cc
      ]

      finds : (wire : ℕ) → wire < number_of_wires net → ((preload : Bool) × IsBackFrom net wire preload) → get_or (through with_back no_backs net.cells) wire false ≡ true
      finds wire lt b =
          (found false back_feed back_value net.cells no_backs wire b.1.back b.1.among (back_feed-is b.1.back b.0 wire b.1.role).0 (omega (arith, long))).3
