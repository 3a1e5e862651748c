-- Reads, counted one after the other.
use Rattle.std.proofs.Common.{◌≡◌, ◌≤◌, ◌<◌, ◌+◌, ◌*◌, ◌/◌, ◌^◌, ◌||◌, inl, inr, ℕ, zero, suc, Bool, true, false, Option, Some, None, List, [], ◌∷◌, ◌++◌, map, take, length, slice_get, get_or}
use Rattle.std.proofs.Common.{set, replicate, ap, sym, ◌∙◌, refl, arith, append_assoc, append-nil, if◌then◌else◌}
use Rattle.std.specs.List.{flat_map, range_with_len}
use Rattle.std.proofs.lemmas.Bool.{cases_eq}
use Rattle.std.proofs.lemmas.Grind.{flat_map-append}
use Rattle.std.proofs.lemmas.List.{get_or-set_same, get_or-set_other, length-set, length-append, take_all}
use Rattle.pulse_ids.specs.Ids.{NodeLit}
use Rattle.pulse_ids.specs.Lists.{occurrences}
use Rattle.pulse_ids.specs.declared.literals.Sign.{Sign}
use Rattle.pulse_ids.specs.declared.literals.Sign.TheVariants.{Pos, Neg}
use Rattle.pulse_ids.proofs.CallerLemmasOnCounts.{occurrences-head, occurrences-other}
use Rattle.cell_netlist.specs.declared.kinds.Ask.{Ask}
use Rattle.cell_netlist.specs.declared.kinds.Ask.TheVariants as asks
use Rattle.cell_netlist.specs.Asked.{signs_of}
use Rattle.aig_core.specs.declared.nodes.Node.{Node}
use Rattle.aig_core.specs.declared.nodes.Node.TheVariants.{False, Input, Latch, And}
use Rattle.aig_core.specs.Graphs.{PlainGraph, nodes_of, count_of}
use Rattle.aig_core.specs.Laws.{ConjunctionsArePairs}
use Rattle.aig_core.specs.Tidy.{IsKept}
use Rattle.aig_core.proofs.CallerLemmas.{slice_get_bound}
use Rattle.graph_build.specs.Built.{PlainBuilt}
use Rattle.rail_demand.specs.Demands.{PlainDemand, is_needed}
use Rattle.splitter_trees.proofs.CallerLemmasOnRanges.{range-append}
use Rattle.rail_mapper.specs.Counts.{counted_reads, with_reads}
use Rattle.rail_mapper.specs.Drafts.{PlainDraft, total}
use Rattle.rail_mapper.specs.Labels.{literal_number, sign_in}
use Rattle.rail_mapper.specs.Plans.{fan_in, rail_uses, front_use, latch_uses, output_uses}

-- one list after another
pub counted-append : (counts xs ys : List ℕ) → counted_reads counts (xs ++ ys) ≡ counted_reads (counted_reads counts xs) ys
counted-append counts [] ys = refl
counted-append counts (x ∷ xs) ys = counted-append (set counts x (get_or counts x 0 + 1)) xs ys

pub reads-append : (draft : PlainDraft) (xs ys : List ℕ) → with_reads draft (xs ++ ys) ≡ with_reads (with_reads draft xs) ys
reads-append draft xs ys = ap (λ (c : List ℕ). record draft { counts = c }) (counted-append draft.counts xs ys)

pub length-counted : (counts rails : List ℕ) → length (counted_reads counts rails) ≡ length counts
length-counted counts [] = refl
length-counted counts (rail ∷ rails) = length-counted (set counts rail (get_or counts rail 0 + 1)) rails ∙ length-set counts rail (get_or counts rail 0 + 1)

total-set : (counts : List ℕ) (rail : ℕ) → total (set counts rail (get_or counts rail 0 + 1)) ≤ total counts + 1
total-set [] rail = omega arith
total-set (n ∷ counts) zero = omega arith
total-set (n ∷ counts) (suc rail) = let r = total-set counts rail in omega arith

-- the sum grows by one a read
pub total-counted : (counts rails : List ℕ) → total (counted_reads counts rails) ≤ total counts + length rails
total-counted counts [] = omega arith
total-counted counts (rail ∷ rails) = let r = total-counted (set counts rail (get_or counts rail 0 + 1)) rails in let s = total-set counts rail in omega arith

-- each rail has as many reads more as it stands in the list
pub count_of_rail : (counts rails : List ℕ) (rail : ℕ) → rail < length counts → get_or (counted_reads counts rails) rail 0 ≡ get_or counts rail 0 + occurrences rail rails
count_of_rail counts [] rail low = omega arith
count_of_rail counts (first ∷ rails) rail low =
    let r = count_of_rail (set counts first (get_or counts first 0 + 1)) rails rail (omega (arith, length-set counts first (get_or counts first 0 + 1))) in
    elim (cases_eq first rail) [
      | inl e ↦
          let s : get_or (set counts first (get_or counts first 0 + 1)) rail 0 ≡ get_or counts rail 0 + 1 =
          ap (λ (k : ℕ). get_or (set counts k (get_or counts k 0 + 1)) rail 0) e ∙ get_or-set_same counts rail (get_or counts rail 0 + 1) 0 low in
          omega (arith, r, s, occurrences-head rail first rails e)
      | inr ne ↦
          let s = get_or-set_other counts first rail (get_or counts first 0 + 1) 0 (λ e. ne (sym e)) in
          omega (arith, r, s, occurrences-other rail first rails ne)
    ]

pub total-none : (n : ℕ) → total (replicate n 0) ≡ 0
total-none zero = refl
total-none (suc n) = let r = total-none n in omega arith

pub none_counted : (n rail : ℕ) → get_or (replicate {A = ℕ} n 0) rail 0 ≡ 0
none_counted zero rail = refl
none_counted (suc n) zero = refl
none_counted (suc n) (suc rail) = none_counted n rail

-- the literals of a conjunction are of nodes of the graph
pub and_within : (graph : PlainGraph) (number : ℕ) (low high : NodeLit) → IsKept graph → ConjunctionsArePairs → slice_get (nodes_of graph) number ≡ Some (And low high)
    → (low.id.number < count_of graph) × (high.id.number < count_of graph)
and_within graph number low high kept pairs e =
    let p = pairs graph number low high e in
    let t = kept.tidy.each p.0 (record { low = low; high = high }) p.2 in
    let b = slice_get_bound graph.pairs p.0 (record { low = low; high = high }) p.2 in
    (omega (arith, t.low_before), omega (arith, t.high_before))

-- few nodes
pub few_nodes : (graph : PlainGraph) → IsKept graph → count_of graph ≤ 2 ^ 19
few_nodes graph kept = omega (arith, kept.inputs_fit, kept.latches_fit, kept.pairs_fit)

-- what counting leaves
pub reads_size : (before after : PlainDraft) (rails : List ℕ) → after ≡ with_reads before rails → length after.counts ≡ length before.counts
reads_size before after rails e = ap (λ (d : PlainDraft). length d.counts) e ∙ length-counted before.counts rails

pub reads_total : (before after : PlainDraft) (rails : List ℕ) → after ≡ with_reads before rails → total after.counts ≤ total before.counts + length rails
reads_total before after rails e = let t = total-counted before.counts rails in let s = ap (λ (d : PlainDraft). total d.counts) e in omega arith

-- the reads of the rails below one
abbrev pub reads_below : PlainBuilt → PlainDemand → ℕ → List ℕ
reads_below built demand rail = flat_map (rail_uses built demand) (range_with_len 0 rail)

fan_in_few : (node : Option Node) (sign : Sign) → length (fan_in node sign) ≤ 2
fan_in_few None sign = omega arith
fan_in_few (Some False) sign = omega arith
fan_in_few (Some (Input k)) sign = omega arith
fan_in_few (Some (Latch k)) sign = omega arith
fan_in_few (Some (And low high)) sign = omega arith

pub rail_few : (built : PlainBuilt) (demand : PlainDemand) (rail : ℕ) → length (rail_uses built demand rail) ≤ 2
rail_few built demand rail = by (is_needed demand (rail / 2) (sign_in rail))
  where
    by : (b : Bool) → length (if b then fan_in (slice_get (nodes_of built.graph) (rail / 2)) (sign_in rail) else []) ≤ 2
    by true = fan_in_few (slice_get (nodes_of built.graph) (rail / 2)) (sign_in rail)
    by false = omega arith

few_flat : (f : ℕ → List ℕ) (most : ℕ) → ((k : ℕ) → length (f k) ≤ most) → (first n : ℕ) → length (flat_map f (range_with_len first n)) ≤ most * n
few_flat f most few first zero = omega arith
few_flat f most few first (suc n) =
    let r = few_flat f most few (first + 1) n in let a = length-append (f first) (flat_map f (range_with_len (first + 1) n)) in let b = few first in grind arith

pub reads_few : (built : PlainBuilt) (demand : PlainDemand) (rail : ℕ) → length (reads_below built demand rail) ≤ 2 * rail
reads_few built demand rail = few_flat (rail_uses built demand) 2 (rail_few built demand) 0 rail

flat_next : (f : ℕ → List ℕ) (n : ℕ) → flat_map f (range_with_len 0 (n + 1)) ≡ flat_map f (range_with_len 0 n) ++ f n
flat_next f n =
    ap (flat_map f) (range-append 0 n 1) ∙ flat_map-append f (range_with_len 0 n) (range_with_len (0 + n) 1)
    ∙ (let z : 0 + n ≡ n = omega arith in ap (λ (k : ℕ). flat_map f (range_with_len 0 n) ++ (f k ++ [])) z) ∙ ap (λ (l : List ℕ). flat_map f (range_with_len 0 n) ++ l) (append-nil (f n))

pub reads_next : (built : PlainBuilt) (demand : PlainDemand) (rail : ℕ) → reads_below built demand (rail + 1) ≡ reads_below built demand rail ++ rail_uses built demand rail
reads_next built demand rail = flat_next (rail_uses built demand) rail

pub both_counted : (built : PlainBuilt) (demand : PlainDemand) (node : ℕ) (before middle one two : PlainDraft) → middle ≡ with_reads before (reads_below built demand (2 * node))
    → one ≡ with_reads middle (rail_uses built demand (2 * node)) → two ≡ with_reads one (rail_uses built demand (2 * node + 1)) → two ≡ with_reads before (reads_below built demand (2 * (node + 1)))
both_counted built demand node before middle one two a b d =
    d ∙ ap (λ (x : PlainDraft). with_reads x (rail_uses built demand (2 * node + 1))) (b ∙ ap (λ (x : PlainDraft). with_reads x (rail_uses built demand (2 * node))) a
    ∙ sym (reads-append before (reads_below built demand (2 * node)) (rail_uses built demand (2 * node)))
    ∙ ap (with_reads before) (sym (reads_next built demand (2 * node)))) ∙ sym (reads-append before (reads_below built demand (2 * node + 1)) (rail_uses built demand (2 * node + 1)))
    ∙ ap (with_reads before) (sym (reads_next built demand (2 * node + 1)) ∙ (let z : 2 * node + 1 + 1 ≡ 2 * (node + 1) = omega arith in ap (reads_below built demand) z))

-- the reads of the fronts of the latches below one
abbrev pub fronts_below : PlainBuilt → PlainDemand → ℕ → List ℕ
fronts_below built demand latch = flat_map (latch_uses built demand) (range_with_len 0 latch)

pub fronts_next : (built : PlainBuilt) (demand : PlainDemand) (latch : ℕ) → fronts_below built demand (latch + 1) ≡ fronts_below built demand latch ++ latch_uses built demand latch
fronts_next built demand latch = flat_next (latch_uses built demand) latch

latch_few : (built : PlainBuilt) (demand : PlainDemand) (latch : ℕ) → length (latch_uses built demand latch) ≤ 1
latch_few built demand latch = by (is_needed demand (1 + built.graph.inputs + latch) Pos || is_needed demand (1 + built.graph.inputs + latch) Neg) (slice_get built.nexts latch)
  where
    by : (b : Bool) (next : Option NodeLit) → length (if b then front_use next else []) ≤ 1
    by true None = omega arith
    by true (Some next) = omega arith
    by false next = omega arith

pub fronts_few : (built : PlainBuilt) (demand : PlainDemand) (latch : ℕ) → length (fronts_below built demand latch) ≤ 1 * latch
fronts_few built demand latch = few_flat (latch_uses built demand) 1 (latch_few built demand) 0 latch

-- the reads of the output rails of the first ports
abbrev pub outputs_below : List NodeLit → Ask → ℕ → List ℕ
outputs_below literals ask port = flat_map (λ literal. map (literal_number literal) (signs_of ask)) (take port literals)

asked_few : (literal : NodeLit) (ask : Ask) → length (map (literal_number literal) (signs_of ask)) ≤ 2
asked_few literal asks.Pos = omega arith
asked_few literal asks.Neg = omega arith
asked_few literal asks.Both = omega arith

pub outputs_few : (literals : List NodeLit) (ask : Ask) (port : ℕ) → length (outputs_below literals ask port) ≤ 2 * port
outputs_few literals ask zero = omega arith
outputs_few [] ask (suc port) = omega arith
outputs_few (literal ∷ literals) ask (suc port) =
    let r = outputs_few literals ask port in let a = length-append (map (literal_number literal) (signs_of ask)) (outputs_below literals ask port) in let b = asked_few literal ask in omega arith

pub outputs_next : (literals : List NodeLit) (ask : Ask) (port : ℕ) (literal : NodeLit) → slice_get literals port ≡ Some literal
    → outputs_below literals ask (port + 1) ≡ outputs_below literals ask port ++ map (literal_number literal) (signs_of ask)
outputs_next [] ask port literal e = absurd cc
outputs_next (first ∷ literals) ask zero literal e = let same : first ≡ literal = cc in ap (λ (l : NodeLit). map (literal_number l) (signs_of ask) ++ []) same
    ∙ append-nil (map (literal_number literal) (signs_of ask))
outputs_next (first ∷ literals) ask (suc port) literal e =
    (let z : suc port + 1 ≡ suc (port + 1) = omega arith in ap (outputs_below (first ∷ literals) ask) z)
    ∙ ap (λ (l : List ℕ). map (literal_number first) (signs_of ask) ++ l) (outputs_next literals ask port literal e)
    ∙ sym (append_assoc (map (literal_number first) (signs_of ask)) (outputs_below literals ask port) (map (literal_number literal) (signs_of ask)))

pub outputs_all : (built : PlainBuilt) (ask : Ask) (port : ℕ) → length built.outputs ≤ port → outputs_below built.outputs ask port ≡ output_uses built ask
outputs_all built ask port all = ap (flat_map (λ literal. map (literal_number literal) (signs_of ask))) (take_all port built.outputs all)
