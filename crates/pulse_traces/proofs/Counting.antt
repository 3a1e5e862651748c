-- How often each output rail pulsed is told by the wires that were delivered.
use Rattle.std.proofs.Common.{◌≡◌, ◌+◌, ℕ, Bool, true, false, Some, None, List, [], ◌∷◌, ◌++◌, length, ap, sym, ◌∙◌, inl, inr, arith, refl, append_assoc, append-nil, if◌then◌else◌, ◌==◌}
use Rattle.std.specs.declared.option.Option.{Option}
use Rattle.std.proofs.lemmas.Bool.{cases_eq}
use Rattle.std.proofs.lemmas.List.{length-map}
use Rattle.pulse_ids.specs.Lists.{occurrences}
use Rattle.pulse_ids.proofs.CallerLemmasOnCounts.{occurrences-append, test_same, test_other}
use Rattle.cell_netlist.specs.declared.lines.Rail.{Rail}
use Rattle.cell_netlist.specs.Netlists.{PlainNetlist, wire_of}
use Rattle.cell_netlist.specs.World.{State, Reactions, NotPending, Delivered, counted_after, moved, deliver, reactions}
use Rattle.pulse_world.specs.Worlds.{PlainWorld, state_of}
use Rattle.schedule_replay.specs.Settling.{DeliversInTurn}
use Rattle.pulse_traces.specs.SimulationTexts.{counts_in}

-- the counts after a delivery
moved-counts : (net : PlainNetlist) (state after : State) (wire : ℕ) (reacted : Option Reactions) → moved net state wire reacted ≡ Delivered after
    → after.counted ≡ counted_after net.output_rails state.counted wire
moved-counts net state after wire None e = cc
moved-counts net state after wire (Some reacted) e = cc

tested-counts : (net : PlainNetlist) (state after : State) (wire : ℕ) (none : Bool)
    → (if none then NotPending else moved net state wire (reactions net.cells state.cell_states wire)) ≡ Delivered after
    → after.counted ≡ counted_after net.output_rails state.counted wire
tested-counts net state after wire true e = cc
tested-counts net state after wire false e = moved-counts net state after wire (reactions net.cells state.cell_states wire) e

deliver-counts : (net : PlainNetlist) (state after : State) (wire : ℕ) → deliver net state wire ≡ Delivered after
    → after.counted ≡ counted_after net.output_rails state.counted wire
deliver-counts net state after wire e = tested-counts net state after wire (state.pending wire == 0) e

-- one more wire was counted
if-more : (test : Bool) (a : ℕ) → (if test then a + 1 else a) ≡ a + (if test then 1 else 0)
if-more true a = refl
if-more false a = omega arith

one-counted : (x wire a : ℕ) → (if wire == x then a + 1 else a) ≡ a + ((if x == wire then 1 else 0) + 0)
one-counted x wire a =
    let is = if-more (wire == x) a in
    elim (cases_eq wire x) [
      | inl same ↦ let t = test_same wire x same in let u = test_same x wire (sym same) in omega arith
      | inr ne ↦ let t = test_other wire x ne in let u = test_other x wire (λ e. ne (sym e)) in omega arith
    ]

counts-more : (rails : List Rail) (wires : List ℕ) (wire : ℕ) → counted_after rails (counts_in rails wires) wire ≡ counts_in rails (wires ++ wire ∷ [])
counts-more [] wires wire = refl
counts-more (rail ∷ rails) wires wire =
    let rest = counts-more rails wires wire in
    let first = one-counted (wire_of rail) wire (occurrences (wire_of rail) wires) ∙ sym (occurrences-append (wire_of rail) wires (wire ∷ [])) in
    cc

-- deliveries in turn count what they deliver
pub counts-on : (names : ℕ → ℕ → ℕ → Type 0) (step : ℕ) (wires earlier : List ℕ) (before after : PlainWorld) → DeliversInTurn names step before wires after
    → before.counted ≡ counts_in before.net.output_rails earlier → after.counted ≡ counts_in before.net.output_rails (earlier ++ wires)
counts-on names step [] earlier before after h e =
    ap (λ (w : PlainWorld). w.counted) h ∙ (e ∙ ap (counts_in before.net.output_rails) (sym (append-nil earlier)))
counts-on names step (wire ∷ wires) earlier before after (mid, one, rest) e =
    let rails = before.net.output_rails in
    let counted = deliver-counts before.net (state_of before) (state_of mid) wire one.delivers.delivered in
    let mids : mid.counted ≡ counts_in rails (earlier ++ wire ∷ []) = counted ∙ (ap (λ cs. counted_after rails cs wire) e ∙ counts-more rails earlier wire) in
    let same = ap (λ (n : PlainNetlist). n.output_rails) one.delivers.net in
    let on = counts-on names (step + 1) wires (earlier ++ wire ∷ []) mid after rest (mids ∙ ap (λ rs. counts_in rs (earlier ++ wire ∷ [])) (sym same)) in
    on ∙ (ap (λ rs. counts_in rs ((earlier ++ wire ∷ []) ++ wires)) same ∙ ap (counts_in rails) (append_assoc earlier (wire ∷ []) wires))

-- in a phase that was just opened there is one count an output rail, and the counts are those of the wires delivered
pub counts-length : (rails : List Rail) (wires counted : List ℕ) → counted ≡ counts_in rails wires → length counted ≡ length rails
counts-length rails wires counted e = ap (λ cs. length cs) e ∙ length-map rails (λ rail. occurrences (wire_of rail) wires)
