-- A rail is needed just where some line reads it.
use Rattle.std.proofs.Common.{◌≡◌, ◌<◌, ◌+◌, ◌-◌, ◌/◌, ◌%◌, ◌==◌, inl, inr, ◌||◌, ℕ, zero, suc, Bool, true, false, Option, Some, None, List, [], ◌++◌, map, slice_get, ap, sym, subst, ◌∙◌, refl}
use Rattle.std.proofs.Common.{arith, if◌then◌else◌, Contains, IsTrue}
use Rattle.std.specs.List.{range_with_len}
use Rattle.std.proofs.lemmas.Bool.{eqb-true, eqb-false, or_cases, or_left, or_right}
use Rattle.pulse_ids.specs.Ids.{NodeLit}
use Rattle.pulse_ids.specs.declared.literals.Sign.{Sign}
use Rattle.pulse_ids.specs.declared.literals.Sign.TheVariants.{Pos, Neg}
use Rattle.cell_netlist.specs.declared.kinds.Ask.{Ask}
use Rattle.cell_netlist.specs.Asked.{signs_of}
use Rattle.pulse_ids.specs.Lists.{IsIn}
use Rattle.pulse_ids.proofs.CallerLemmas.{IsIn-append, IsIn-left, IsIn-right, IsIn-place, place_of, IsIn-from_map, IsIn-map, IsIn-from_flat_map, IsIn-flat_map}
use Rattle.aig_core.specs.declared.nodes.Node.{Node}
use Rattle.aig_core.specs.Graphs.{nodes_of, count_of}
use Rattle.aig_core.specs.Laws.{LatchesFollow}
use Rattle.graph_build.specs.Built.{PlainBuilt, IsWithinGraph}
use Rattle.pulse_ids.specs.Literals.{rail_sign}
use Rattle.rail_demand.specs.Demands.{IsRailOf, NeedsAtOnce, of_low, of_high, of_next, Needed, of_output, of_user, PlainDemand, is_needed, IsDemand}
use Rattle.rail_demand.specs.Laws.{NeededAreInside, DemandsHaveOutputs, DemandsAreClosed}
use Rattle.rail_mapper.specs.Labels.{rail_number, literal_number, sign_in, rails_in}
use Rattle.rail_mapper.specs.Plans.{fan_in, rail_uses, gate_uses, front_use, front_uses, output_uses, uses}
use Rattle.rail_mapper.specs.Stages.{IsPlan}
use Rattle.wire_ledgers.proofs.CallerLemmasOnRanges.{in_range, range_has}
use Rattle.pulse_ids.proofs.CallerLemmasOnCounts.{IsIn-occurrences, occurrences-IsIn}
use Rattle.rail_mapper.proofs.StageSteps.{node_of, sign_of}
use Rattle.rail_mapper.proofs.Values.{rail_low}
use Rattle.cell_netlist.specs.declared.kinds.Ask.TheVariants as asks
use Rattle.aig_core.specs.declared.nodes.Node.TheVariants as nodes

-- a rail by its number
pub number_is : (rail : ℕ) → rail_number (rail / 2) (sign_in rail) ≡ rail
number_is rail = by (rail % 2 == 0) refl
  where
    by : (b : Bool) → (rail % 2 == 0) ≡ b → rail_number (rail / 2) (if b then Pos else Neg) ≡ rail
    by true e = let k = eqb-true (rail % 2) 0 e in omega arith
    by false e = let k = eqb-false (rail % 2) 0 e in omega (arith, k)

signs_in : (ask : Ask) (sign : Sign) → Contains (signs_of ask) sign → IsIn sign (signs_of ask)
signs_in asks.Pos sign (zero, lt, e) = inl e
signs_in asks.Pos sign (suc k, lt, e) = absurd (omega arith)
signs_in asks.Neg sign (zero, lt, e) = inl e
signs_in asks.Neg sign (suc k, lt, e) = absurd (omega arith)
signs_in asks.Both sign (zero, lt, e) = inl e
signs_in asks.Both sign (suc zero, lt, e) = inr (inl e)
signs_in asks.Both sign (suc (suc k), lt, e) = absurd (omega arith)

in_signs : (ask : Ask) (sign : Sign) → IsIn sign (signs_of ask) → Contains (signs_of ask) sign
in_signs asks.Pos sign (inl e) = (0, omega arith, e)
in_signs asks.Pos sign (inr m) = absurd m
in_signs asks.Neg sign (inl e) = (0, omega arith, e)
in_signs asks.Neg sign (inr m) = absurd m
in_signs asks.Both sign (inl e) = (0, omega arith, e)
in_signs asks.Both sign (inr (inl e)) = (1, omega arith, e)
in_signs asks.Both sign (inr (inr m)) = absurd m

true_is : (b : Bool) → IsTrue b → b ≡ true
true_is b t = t

is_true : (b : Bool) → b ≡ true → IsTrue b
is_true b e = e

module _ (built : PlainBuilt) (demand : PlainDemand) (ask : Ask) (within : IsWithinGraph built) (exact : IsDemand built ask demand) (inside : NeededAreInside) (asked : DemandsHaveOutputs)
    (closed : DemandsAreClosed) (follow : LatchesFollow) where
  told : (node : ℕ) (sign : Sign) → Needed built ask node sign → is_needed demand node sign ≡ true
  told node sign n = true_is (is_needed demand node sign) ((exact.exact node (inside built ask within node sign n) sign).1 n)

  in_gates : (rail user : ℕ) (sign : Sign) → user < count_of built.graph → is_needed demand user sign ≡ true → IsIn rail (fan_in (slice_get (nodes_of built.graph) user) sign)
      → IsIn rail (uses built demand ask)
  in_gates rail user sign low need m =
      IsIn-left rail (gate_uses built demand 0) (front_uses built demand ++ output_uses built ask)
      (IsIn-flat_map (rail_uses built demand) rail (rail_number user sign) (range_with_len 0 (rails_in built - 0))
      (range_has 0 (rails_in built - 0) (rail_number user sign) (omega arith) (omega (arith, rail_low built user sign low)))
      (subst (λ (l : List ℕ). IsIn rail l) (sym is) m))
    where
      is : rail_uses built demand (rail_number user sign) ≡ fan_in (slice_get (nodes_of built.graph) user) sign
      is = ap (λ (k : ℕ). if is_needed demand k (sign_in (rail_number user sign)) then fan_in (slice_get (nodes_of built.graph) k) (sign_in (rail_number user sign)) else []) (node_of user sign)
          ∙ ap (λ (s : Sign). if is_needed demand user s then fan_in (slice_get (nodes_of built.graph) user) s else []) (sign_of user sign)
          ∙ ap (λ (b : Bool). if b then fan_in (slice_get (nodes_of built.graph) user) sign else []) need

  in_fronts : (rail latch : ℕ) (sign : Sign) → latch < built.graph.latches → is_needed demand (1 + built.graph.inputs + latch) sign ≡ true → IsIn rail (front_use (slice_get built.nexts latch))
      → IsIn rail (uses built demand ask)
  in_fronts rail latch sign low need m =
      IsIn-right rail (gate_uses built demand 0) (front_uses built demand ++ output_uses built ask)
      (IsIn-left rail (front_uses built demand) (output_uses built ask)
      (IsIn-flat_map _ rail latch (range_with_len 0 built.graph.latches) (range_has 0 built.graph.latches latch (omega arith) (omega arith))
      (subst (λ (b : Bool). IsIn rail (if b then front_use (slice_get built.nexts latch) else [])) (sym (either sign need)) m)))
    where
      either : (sign : Sign) → is_needed demand (1 + built.graph.inputs + latch) sign ≡ true
          → (is_needed demand (1 + built.graph.inputs + latch) Pos || is_needed demand (1 + built.graph.inputs + latch) Neg) ≡ true
      either Pos e = or_left _ _ e
      either Neg e = or_right _ _ e

  rail_is : (literal : NodeLit) (sign : Sign) (node : ℕ) (side : Sign) → IsRailOf literal sign node side → literal_number literal sign ≡ rail_number node side
  rail_is literal sign node side h = ap (λ (k : ℕ). rail_number k (rail_sign literal sign)) h.0 ∙ ap (rail_number node) h.1

  needed_is_used : (node : ℕ) (side : Sign) → Needed built ask node side → IsIn (rail_number node side) (uses built demand ask)
  needed_is_used _ _ (of_output node side port literal sign e c r) =
      IsIn-right (rail_number node side) (gate_uses built demand 0) (front_uses built demand ++ output_uses built ask)
      (IsIn-right (rail_number node side) (front_uses built demand) (output_uses built ask)
      (IsIn-flat_map _ (rail_number node side) literal built.outputs (IsIn-place literal built.outputs port e)
      (subst (λ (k : ℕ). IsIn k (map (literal_number literal) (signs_of ask))) (rail_is literal sign node side r) (IsIn-map (literal_number literal) sign (signs_of ask) (signs_in ask sign c)))))
  needed_is_used _ _ (of_user node side user sign n (of_low low high e r)) =
      in_gates (rail_number node side) user sign (inside built ask within user sign n) (told user sign n)
      (subst (λ (o : Option Node). IsIn (rail_number node side) (fan_in o sign)) (sym e) (inl (rail_is low sign node side r)))
  needed_is_used _ _ (of_user node side user sign n (of_high low high e r)) =
      in_gates (rail_number node side) user sign (inside built ask within user sign n) (told user sign n)
      (subst (λ (o : Option Node). IsIn (rail_number node side) (fan_in o sign)) (sym e) (inr (inl (rail_is high sign node side r))))
  needed_is_used _ _ (of_user node side user sign n (of_next latch next e f r)) =
      let p = (follow built.graph user latch).0 e in
      in_fronts (rail_number node side) latch sign p.0 (subst (λ (k : ℕ). is_needed demand k sign ≡ true) p.1 (told user sign n))
      (subst (λ (o : Option NodeLit). IsIn (rail_number node side) (front_use o)) (sym f) (inl (rail_is next Pos node side r)))

  -- what is read is needed
  abbrev IsNeededNumber : ℕ → Type 0
  IsNeededNumber rail = is_needed demand (rail / 2) (sign_in rail) ≡ true

  needed_literal : (literal : NodeLit) (sign : Sign) → is_needed demand literal.id.number (rail_sign literal sign) ≡ true → IsNeededNumber (literal_number literal sign)
  needed_literal literal sign e =
      ap (λ (k : ℕ). is_needed demand k (sign_in (literal_number literal sign))) (node_of literal.id.number (rail_sign literal sign))
      ∙ ap (is_needed demand literal.id.number) (sign_of literal.id.number (rail_sign literal sign)) ∙ e

  needed_at_once : (user : ℕ) (sign : Sign) (literal : NodeLit) (s : Sign) → user < count_of built.graph → is_needed demand user sign ≡ true
      → NeedsAtOnce built user sign literal.id.number (rail_sign literal s) → IsNeededNumber (literal_number literal s)
  needed_at_once user sign literal s low need at =
      needed_literal literal s (true_is _ (closed built ask demand within exact user low sign (is_true _ need) literal.id.number (rail_sign literal s) at).1)

  from_gate : (rail user : ℕ) (sign : Sign) (node : Option Node) → user < count_of built.graph → is_needed demand user sign ≡ true → slice_get (nodes_of built.graph) user ≡ node
      → IsIn rail (fan_in node sign) → IsNeededNumber rail
  from_gate rail user sign None low need e m = absurd m
  from_gate rail user sign (Some nodes.False) low need e m = absurd m
  from_gate rail user sign (Some (nodes.Input k)) low need e m = absurd m
  from_gate rail user sign (Some (nodes.Latch k)) low need e m = absurd m
  from_gate rail user sign (Some (nodes.And a b)) low need e (inl same) = subst (λ (r : ℕ). IsNeededNumber r) same (needed_at_once user sign a sign low need (of_low a b e (refl, refl)))
  from_gate rail user sign (Some (nodes.And a b)) low need e (inr (inl same)) = subst (λ (r : ℕ). IsNeededNumber r) same (needed_at_once user sign b sign low need (of_high a b e (refl, refl)))
  from_gate rail user sign (Some (nodes.And a b)) low need e (inr (inr m)) = absurd m

  from_rail : (rail user : ℕ) (b : Bool) → user / 2 < count_of built.graph → is_needed demand (user / 2) (sign_in user) ≡ b
      → IsIn rail (if b then fan_in (slice_get (nodes_of built.graph) (user / 2)) (sign_in user) else []) → IsNeededNumber rail
  from_rail rail user true low e m = from_gate rail (user / 2) (sign_in user) (slice_get (nodes_of built.graph) (user / 2)) low e refl m
  from_rail rail user false low e m = absurd m

  from_front : (rail latch : ℕ) (b : Bool) (next : Option NodeLit) → latch < built.graph.latches
      → (is_needed demand (1 + built.graph.inputs + latch) Pos || is_needed demand (1 + built.graph.inputs + latch) Neg) ≡ b
      → slice_get built.nexts latch ≡ next → IsIn rail (if b then front_use next else []) → IsNeededNumber rail
  from_front rail latch false next low e f m = absurd m
  from_front rail latch true None low e f m = absurd m
  from_front rail latch true (Some next) low e f (inr m) = absurd m
  from_front rail latch true (Some next) low e f (inl same) =
      subst (λ (r : ℕ). IsNeededNumber r) same (elim (or_cases _ _ e) [
        | inl p ↦ needed_at_once (1 + built.graph.inputs + latch) Pos next Pos (omega arith) p
            (of_next latch next ((follow built.graph (1 + built.graph.inputs + latch) latch).1 (low, refl)) f (refl, refl))
        | inr p ↦ needed_at_once (1 + built.graph.inputs + latch) Neg next Pos (omega arith) p
            (of_next latch next ((follow built.graph (1 + built.graph.inputs + latch) latch).1 (low, refl)) f (refl, refl))
      ])

  used_is_needed : (rail : ℕ) → IsIn rail (uses built demand ask) → IsNeededNumber rail
  used_is_needed rail m = elim (IsIn-append rail (gate_uses built demand 0) (front_uses built demand ++ output_uses built ask) m) [
    | inl g ↦ let u = IsIn-from_flat_map (rail_uses built demand) rail (range_with_len 0 (rails_in built - 0)) g in let r = in_range 0 (rails_in built - 0) u.0 u.1 in
        from_rail rail u.0 (is_needed demand (u.0 / 2) (sign_in u.0)) (omega arith) refl u.2
    | inr k ↦ elim (IsIn-append rail (front_uses built demand) (output_uses built ask) k) [
      | inl f ↦ let u = IsIn-from_flat_map _ rail (range_with_len 0 built.graph.latches) f in let r = in_range 0 built.graph.latches u.0 u.1 in
          from_front rail u.0 (is_needed demand (1 + built.graph.inputs + u.0) Pos || is_needed demand (1 + built.graph.inputs + u.0) Neg) (slice_get built.nexts u.0) (omega arith) refl refl u.2
      | inr o ↦ let u = IsIn-from_flat_map _ rail built.outputs o in let p = place_of u.0 built.outputs u.1 in let s = IsIn-from_map (literal_number u.0) rail (signs_of ask) u.2 in
          subst (λ (r : ℕ). IsNeededNumber r) s.2 (needed_literal u.0 s.0 (true_is _ (asked built ask demand within exact p.0 u.0 p.1 s.0 (in_signs ask s.0 s.1))))
    ]
  ]

  pub demand_plans : IsPlan built demand ask
  demand_plans rail low = (
    λ need. IsIn-occurrences rail (uses built demand ask) (subst (λ (r : ℕ). IsIn r (uses built demand ask)) (number_is rail)
        (needed_is_used (rail / 2) (sign_in rail) ((exact.exact (rail / 2) (omega arith) (sign_in rail)).0 (is_true _ need)))),
    λ some. used_is_needed rail (occurrences-IsIn rail (uses built demand ask) some),
  )
