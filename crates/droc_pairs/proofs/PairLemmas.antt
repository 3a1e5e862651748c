-- What a back and a front come to.
use Rattle.std.proofs.Common.{◌≡◌, ◌≤◌, ◌+◌, ℕ, Bool, not, Option, Some, List, [], ◌∷◌, length, max, slice_get, ap, sym, subst, ◌∙◌, refl, inl, arith}
use Rattle.pulse_ids.specs.Ids.{WireId, numbered}
use Rattle.pulse_ids.proofs.CallerLemmas.{IsIn-place}
use Rattle.cell_netlist.specs.declared.kinds.Role.{Role}
use Rattle.cell_netlist.specs.declared.kinds.Role.TheVariants.{Back}
use Rattle.cell_netlist.specs.declared.lines.Cell.{Cell}
use Rattle.cell_netlist.specs.declared.lines.Cell.TheVariants.{Droc}
use Rattle.cell_netlist.specs.Netlists.{PlainNetlist, number_of_wires, cells_with_feed, IsDrocUpTo}
use Rattle.cell_netlist.specs.WireLaws.{NamedWiresAreBelow, AnotherFeedLeavesRest}
use Rattle.splitter_trees.specs.Spreading.{with_cells}
use Rattle.splitter_trees.proofs.CallerLemmas.{place_stays, place_behind, place_within}
use Rattle.droc_pairs.specs.Pairs.{StandsBack, front_of, IsPair}

-- a DROC at a place whose feed is not above a wire
pub feed_up_to : (cells : List Cell) (place wire : ℕ) (role : Role) (preload : Bool) (feed : WireId) (q n : Option WireId)
    → slice_get cells place ≡ Some (Droc role preload feed q n) → feed.number ≤ wire → IsDrocUpTo (slice_get cells place) wire
feed_up_to cells place wire role preload feed q n at low = subst (λ (o : Option Cell). IsDrocUpTo o wire) (sym at) low

module _ (old middle new : PlainNetlist) (place : ℕ) (init : Bool) (next : ℕ) (back : StandsBack old place init)
    (added : middle ≡ with_cells old (front_of init next (number_of_wires old) ∷ [])) where
  -- the back stays where it was
  back_stays : slice_get middle.cells place ≡ Some (Droc Back init back.feed back.q back.n)
  back_stays = ap (λ (net : PlainNetlist). slice_get net.cells place) added ∙ place_stays old.cells (front_of init next (number_of_wires old) ∷ []) place _ back.is

  front_stands : slice_get middle.cells (length old.cells) ≡ Some (front_of init next (number_of_wires old))
  front_stands = ap (λ (net : PlainNetlist). slice_get net.cells (length old.cells)) added ∙ place_behind old.cells [] (front_of init next (number_of_wires old))

  -- the back can be fed by the link
  pub can_be_fed : NamedWiresAreBelow → (link : ℕ) → link ≡ number_of_wires old → IsDrocUpTo (slice_get middle.cells place) link
  can_be_fed below link is =
      let low = (below old).of_reads (Droc Back init back.feed back.q back.n) (IsIn-place _ old.cells place back.is) back.feed.number (inl refl) in
      feed_up_to middle.cells place link Back init back.feed back.q back.n back_stays (omega arith)

  pub is_pair : AnotherFeedLeavesRest → (link : WireId) → link.number ≡ number_of_wires old → number_of_wires middle ≡ number_of_wires old + 1
      → new ≡ record middle { cells = cells_with_feed place link middle.cells } → number_of_wires new ≡ max (number_of_wires middle) (link.number + 1)
      → IsPair old new place init next
  is_pair leaves link is one_more fed wires = record {
    is = fed ∙ ap (λ (w : WireId). record middle { cells = cells_with_feed place w middle.cells }) link_is
        ∙ ap (λ (net : PlainNetlist). record net { cells = cells_with_feed place (numbered (number_of_wires old)) net.cells }) added;
    wires = omega arith;
    back = fed_back;
    back_at = back_at;
    back_is = (refl, refl, is);
    back_fits = (
      not init,
      record {
        front = front;
        among = IsIn-place front new.cells (length old.cells) front_at;
        feed = next;
        role = (refl, refl, refl);
        q = sym is;
      },
    );
    front_at = front_at;
    front_fits = (
      refl,
      number_of_wires old,
      refl,
      init,
      record {
        back = fed_back;
        among = IsIn-place fed_back new.cells place back_at;
        role = (refl, refl, is);
      },
    );
  }
    where
      front : Cell
      front = front_of init next (number_of_wires old)

      fed_back : Cell
      fed_back = Droc Back init link back.q back.n

      link_is : link ≡ numbered (number_of_wires old)
      link_is = ap (λ (k : ℕ). numbered k) is

      back_at : slice_get new.cells place ≡ Some (Droc Back init link back.q back.n)
      back_at = ap (λ (net : PlainNetlist). slice_get net.cells place) fed ∙ (leaves middle place link).fed _ back_stays

      front_at : slice_get new.cells (length old.cells) ≡ Some (front_of init next (number_of_wires old))
      front_at = ap (λ (net : PlainNetlist). slice_get net.cells (length old.cells)) fed
          ∙ (leaves middle place link).others (length old.cells) (λ e. absurd (omega (arith, place_within old.cells place _ back.is))) ∙ front_stands
