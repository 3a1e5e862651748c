-- Nets get literals that are worth their bits.
use Rattle.std.proofs.Common.{◌≡◌, ◌≢◌, ℕ, ◌+◌, ◌≤◌, ◌<◌, ◌⊎◌, inl, inr, List, Bool, false, length, map, take, get_or, set, sym, ◌∙◌, ap, subst, arith}
use Rattle.std.proofs.lemmas.List.{take_all, get_or_past, length-set, get_or-set_same, get_or-set_other, get_or-map, length-map}
use Rattle.pulse_ids.specs.Ids.{NetId, NodeLit}
use Rattle.aig_core.specs.Folds.{zero_literal}
use Rattle.aig_core.specs.Graphs.{PlainGraph, count_of}
use Rattle.aig_core.specs.Values.{value_of}
use Rattle.source_machine.specs.declared.machines.Latch.{Latch}
use Rattle.source_machine.specs.declared.machines.RawMachine.{RawMachine}
use Rattle.source_machine.specs.Machines.{PlainMachine, latch_of, machine_of}
use Rattle.pulse_ids.specs.Lists.{IsIn, bit_at}
use Rattle.source_machine.specs.Fitting.{Fits, IsNumbered, LatchFits}
use Rattle.source_machine.specs.Runs.{Agrees}
use Rattle.source_machine.specs.Dependencies.{start_nets}
use Rattle.graph_build.specs.Literals.{literal_at, AllWithin, IsWorth, Grew, HasLiterals}
use Rattle.pulse_ids.proofs.CallerLemmas.{IsIn-append, IsIn-taken}
use Rattle.std.proofs.lemmas.Bool.{cases_eq, cases_lt}

pub fewer_built : (machine : PlainMachine) (graph : PlainGraph) (literals : List NodeLit) (built fewer : ℕ → Type 0) → ((net : ℕ) → fewer net → built net)
    → HasLiterals machine graph literals built → HasLiterals machine graph literals fewer
fewer_built machine graph literals built fewer all h = record {
  inputs = h.inputs;
  latches = h.latches;
  width = h.width;
  within = h.within;
  worth = λ net f. h.worth net (all net f);
}

-- past the end of the list stands the constant, whose node is in the graph
literal_within : (graph : PlainGraph) (literals : List NodeLit) → AllWithin graph literals → (net : ℕ) → (literal_at literals net).id.number < count_of graph
literal_within graph literals within net = go (cases_lt net (length literals))
  where
    go : (net < length literals) ⊎ (length literals ≤ net) → (literal_at literals net).id.number < count_of graph
    go (inl lt) = within net lt
    go (inr le) = subst (λ l. l.id.number < count_of graph) (sym (get_or_past literals net zero_literal le)) (omega arith)

pub literals_kept : (machine : PlainMachine) (most : ℕ) (old new : PlainGraph) (literals : List NodeLit) (built : ℕ → Type 0) → Grew most old new
    → HasLiterals machine old literals built → HasLiterals machine new literals built
literals_kept machine most old new literals built g h = record {
  inputs = g.inputs ∙ h.inputs;
  latches = g.latches ∙ h.latches;
  width = h.width;
  within = λ net lt. omega (arith, h.within net lt, g.at_least);
  worth = λ net b state vector valuation agrees. g.values state vector (literal_at literals net) (literal_within old literals h.within net) ∙ h.worth net b state vector valuation agrees;
}

-- one net gets a literal of its bit
pub literal_set : (machine : PlainMachine) (graph : PlainGraph) (literals after : List NodeLit) (net : ℕ) (item : NodeLit) (built more : ℕ → Type 0)
    → after ≡ set literals net item → net < length literals → item.id.number < count_of graph
    → ((state vector valuation : List Bool) → Agrees machine state vector valuation → value_of graph state vector item ≡ bit_at valuation net)
    → ((other : ℕ) → more other → built other ⊎ (net ≡ other)) → HasLiterals machine graph literals built → HasLiterals machine graph after more
literal_set machine graph literals after net item built more e low placed value split h = record {
  inputs = h.inputs;
  latches = h.latches;
  width = ap (λ l. length l) e ∙ length-set literals net item ∙ h.width;
  within = λ other lt. subst (λ l. (literal_at l other).id.number < count_of graph) (sym e)
      (inside other (omega (arith, lt, ap (λ l. length l) e, length-set literals net item)) (cases_eq net other));
  worth = λ other m. subst (λ l. IsWorth machine graph l other) (sym e) (worth other (cases_eq net other) (split other m));
}
  where
    here : (other : ℕ) → net ≡ other → literal_at (set literals net item) other ≡ item
    here other f = subst (λ n. literal_at (set literals net item) n ≡ item) f (get_or-set_same literals net item zero_literal low)

    apart : (other : ℕ) → net ≢ other → literal_at (set literals net item) other ≡ literal_at literals other
    apart other ne = get_or-set_other literals net other item zero_literal (λ f. ne (sym f))

    inside : (other : ℕ) → other < length literals → (net ≡ other) ⊎ (net ≢ other) → (literal_at (set literals net item) other).id.number < count_of graph
    inside other lt (inl f) = subst (λ l. l.id.number < count_of graph) (sym (here other f)) placed
    inside other lt (inr ne) = subst (λ l. l.id.number < count_of graph) (sym (apart other ne)) (h.within other lt)

    worth : (other : ℕ) → (net ≡ other) ⊎ (net ≢ other) → built other ⊎ (net ≡ other) → IsWorth machine graph (set literals net item) other
    worth other (inl f) b = λ state vector valuation agrees. ap (λ l. value_of graph state vector l) (here other f) ∙ value state vector valuation agrees ∙ ap (λ n. bit_at valuation n) f
    worth other (inr ne) (inl b) = λ state vector valuation agrees. ap (λ l. value_of graph state vector l) (apart other ne) ∙ h.worth other b state vector valuation agrees
    worth other (inr ne) (inr f) = absurd (ne f)

-- no net but 0 has a literal of its bit yet
pub literals_begin : (machine : PlainMachine) (graph : PlainGraph) (literals : List NodeLit) → graph.inputs ≡ length machine.inputs
    → graph.latches ≡ length machine.latches → length literals ≡ machine.nets + 1 → ((net : ℕ) → net < length literals → literal_at literals net ≡ zero_literal)
    → ((state vector : List Bool) → value_of graph state vector zero_literal ≡ false) → HasLiterals machine graph literals (λ net. net ≡ 0)
literals_begin machine graph literals ei el width all value = record {
  inputs = ei;
  latches = el;
  width = width;
  within = λ net lt. subst (λ l. l.id.number < count_of graph) (sym (all net lt)) (omega arith);
  worth = λ net e state vector valuation agrees. ap (λ l. value_of graph state vector l) (all net (omega (arith, e, width))) ∙ value state vector ∙ sym agrees.constant
      ∙ ap (λ n. bit_at valuation n) (sym e);
}

-- the bit at a place of a list of bits of nets
bit_of_map : (f : ℕ → Bool) (xs : List ℕ) (i : ℕ) → i < length xs → bit_at (map f xs) i ≡ f (get_or xs i 0)
bit_of_map f xs i lt = get_or-map f xs i 0 false lt

-- the net of an input or a latch is one of the machine's
pub input_numbered : (raw : RawMachine) → Fits (machine_of raw) → (number : ℕ) (d : NetId) → number < length raw.inputs.items → IsNumbered raw.nets (get_or raw.inputs.items number d).number
input_numbered raw fits number d lt =
    subst (IsNumbered raw.nets) (get_or-map (λ (net : NetId). net.number) raw.inputs.items number d 0 lt)
    (fits.nets_fit.inputs_fit number 0 (omega (arith, lt, length-map raw.inputs.items (λ (net : NetId). net.number))))

pub latch_fits : (raw : RawMachine) → Fits (machine_of raw) → (number : ℕ) (d : Latch) → number < length raw.latches.items → LatchFits raw.nets (latch_of (get_or raw.latches.items number d))
latch_fits raw fits number d lt =
    subst (LatchFits raw.nets) (get_or-map latch_of raw.latches.items number d (latch_of d) lt)
    (fits.nets_fit.latches_fit number (latch_of d) (omega (arith, lt, length-map raw.latches.items latch_of)))

module _ (raw : RawMachine) (fits : Fits (machine_of raw)) (graph : PlainGraph) (literals after : List NodeLit) (number : ℕ) (item : NodeLit) where
  abbrev machine : PlainMachine
  machine = machine_of raw

  -- one input more has its literal
  pub input_goes_on : (d : NetId) → number < length raw.inputs.items → HasLiterals machine graph literals (λ net. (net ≡ 0) ⊎ IsIn net (take number machine.inputs))
      → after ≡ set literals (get_or raw.inputs.items number d).number item → item.id.number < count_of graph
      → ((state vector : List Bool) → value_of graph state vector item ≡ bit_at vector number)
      → HasLiterals machine graph after (λ net. (net ≡ 0) ⊎ IsIn net (take (number + 1) machine.inputs))
  input_goes_on d lt h e placed value =
      literal_set machine graph literals after (get_or raw.inputs.items number d).number item (λ net. (net ≡ 0) ⊎ IsIn net (take number machine.inputs))
      (λ net. (net ≡ 0) ⊎ IsIn net (take (number + 1) machine.inputs)) e (omega (arith, h.width, numbered.1)) placed worth split h
    where
      long : number < length machine.inputs
      long = omega (arith, lt, length-map raw.inputs.items (λ (net : NetId). net.number))

      same : get_or machine.inputs number 0 ≡ (get_or raw.inputs.items number d).number
      same = get_or-map (λ (net : NetId). net.number) raw.inputs.items number d 0 lt

      numbered : IsNumbered machine.nets (get_or raw.inputs.items number d).number
      numbered = input_numbered raw fits number d lt

      worth : (state vector valuation : List Bool) → Agrees machine state vector valuation → value_of graph state vector item ≡ bit_at valuation (get_or raw.inputs.items number d).number
      worth state vector valuation agrees =
          value state vector ∙ ap (λ l. bit_at l number) (sym agrees.inputs_agree) ∙ bit_of_map (bit_at valuation) machine.inputs number long ∙ ap (λ n. bit_at valuation n) same

      split : (other : ℕ) → (other ≡ 0) ⊎ IsIn other (take (number + 1) machine.inputs) → ((other ≡ 0) ⊎ IsIn other (take number machine.inputs))
          ⊎ ((get_or raw.inputs.items number d).number ≡ other)
      split other (inl z) = inl (inl z)
      split other (inr i) = elim (IsIn-taken other machine.inputs number 0 long i) [ inl j ↦ inl (inr j) | inr f ↦ inr (sym same ∙ f) ]

  abbrev outs : List ℕ
  outs = map (λ latch. latch.out) machine.latches

  -- one latch more has its literal
  pub latch_goes_on : (d : Latch) → number < length raw.latches.items
      → HasLiterals machine graph literals (λ net. ((net ≡ 0) ⊎ IsIn net machine.inputs) ⊎ IsIn net (take number outs))
      → after ≡ set literals (get_or raw.latches.items number d).out.number item → item.id.number < count_of graph
      → ((state vector : List Bool) → value_of graph state vector item ≡ bit_at state number)
      → HasLiterals machine graph after (λ net. ((net ≡ 0) ⊎ IsIn net machine.inputs) ⊎ IsIn net (take (number + 1) outs))
  latch_goes_on d lt h e placed value =
      literal_set machine graph literals after (get_or raw.latches.items number d).out.number item
      (λ net. ((net ≡ 0) ⊎ IsIn net machine.inputs) ⊎ IsIn net (take number outs)) (λ net. ((net ≡ 0) ⊎ IsIn net machine.inputs) ⊎ IsIn net (take (number + 1) outs)) e
      (omega (arith, h.width, numbered.1)) placed worth split h
    where
      wide : number < length machine.latches
      wide = omega (arith, lt, length-map raw.latches.items latch_of)

      long : number < length outs
      long = omega (arith, wide, length-map machine.latches (λ latch. latch.out))

      same : get_or outs number 0 ≡ (get_or raw.latches.items number d).out.number
      same = get_or-map (λ latch. latch.out) machine.latches number (latch_of d) 0 wide ∙ ap (λ latch. latch.out) (get_or-map latch_of raw.latches.items number d (latch_of d) lt)

      numbered : IsNumbered machine.nets (get_or raw.latches.items number d).out.number
      numbered = (latch_fits raw fits number d lt).0

      worth : (state vector valuation : List Bool) → Agrees machine state vector valuation → value_of graph state vector item ≡ bit_at valuation (get_or raw.latches.items number d).out.number
      worth state vector valuation agrees =
          value state vector ∙ ap (λ l. bit_at l number) (sym agrees.latches_agree)
          ∙ get_or-map (λ latch. bit_at valuation latch.out) machine.latches number (latch_of d) false wide
          ∙ ap (λ latch. bit_at valuation latch.out) (get_or-map latch_of raw.latches.items number d (latch_of d) lt)

      split : (other : ℕ) → ((other ≡ 0) ⊎ IsIn other machine.inputs) ⊎ IsIn other (take (number + 1) outs)
          → (((other ≡ 0) ⊎ IsIn other machine.inputs) ⊎ IsIn other (take number outs)) ⊎ ((get_or raw.latches.items number d).out.number ≡ other)
      split other (inl z) = inl (inl z)
      split other (inr i) = elim (IsIn-taken other outs number 0 long i) [ inl j ↦ inl (inr j) | inr f ↦ inr (sym same ∙ f) ]

-- the nets that need no equation
pub start_is : (m : PlainMachine) (net : ℕ) → IsIn net (start_nets m) → ((net ≡ 0) ⊎ IsIn net m.inputs) ⊎ IsIn net (map (λ latch. latch.out) m.latches)
start_is m net (inl e) = inl (inl (sym e))
start_is m net (inr i) = elim (IsIn-append net m.inputs _ i) [ inl j ↦ inl (inr j) | inr j ↦ inr j ]

-- all latches have their literals
pub latches_done : (m : PlainMachine) (graph : PlainGraph) (literals : List NodeLit) (number : ℕ) → length (map (λ latch. latch.out) m.latches) ≤ number
    → HasLiterals m graph literals (λ net. ((net ≡ 0) ⊎ IsIn net m.inputs) ⊎ IsIn net (take number (map (λ latch. latch.out) m.latches)))
    → HasLiterals m graph literals (λ net. IsIn net (start_nets m))
latches_done m graph literals number past h =
    fewer_built m graph literals (λ net. ((net ≡ 0) ⊎ IsIn net m.inputs) ⊎ IsIn net (take number (map (λ latch. latch.out) m.latches))) (λ net. IsIn net (start_nets m))
    (λ net i. elim (start_is m net i) [ inl j ↦ inl j | inr j ↦ inr (subst (λ l. IsIn net l) (sym (take_all number (map (λ latch. latch.out) m.latches) past)) j) ]) h
