-- An order that names one place fixes the deliveries.
use Rattle.std.proofs.Common.{◌≡◌, ◌+◌, ◌++◌, ℕ, Bool, Option, List, [], ◌∷◌, map, length, Some, slice_get, ap, sym, ◌∙◌, subst, refl}
use Rattle.std.specs.List.{swap_remove}
use Rattle.cell_netlist.specs.declared.kinds.CellState.{CellState}
use Rattle.cell_netlist.specs.declared.kinds.Phase.{Phase}
use Rattle.cell_netlist.specs.declared.kinds.Phase.TheVariants.{Excite, Relax}
use Rattle.cell_netlist.specs.declared.lines.Reader.{Reader}
use Rattle.cell_netlist.specs.Netlists.{PlainNetlist}
use Rattle.cell_netlist.specs.Places.{readers}
use Rattle.cell_netlist.specs.World.{State, Delivered, deliver}
use Rattle.pulse_world.specs.Reacting.{emitted_at}
use Rattle.pulse_world.specs.Worlds.{PlainWorld, world_of, state_of, opened_world, DeliversAt}
use Rattle.schedule_replay.specs.Settling.{DeliversInTurn}
use Rattle.schedule_replay.specs.Orders.{named_by, OneList, Cycle, vector_of, MakesCycle, MakesCycles, OneListOfCycles}

-- worlds of equal parts are equal
world-eq : (one other : PlainWorld) → one.net ≡ other.net → one.opened ≡ other.opened → one.vector ≡ other.vector → one.cell_states ≡ other.cell_states
    → one.queue ≡ other.queue → one.counted ≡ other.counted → one ≡ other
world-eq one other n o v c q k = go one.net other.net one.opened other.opened one.vector other.vector one.cell_states other.cell_states one.queue other.queue
    one.counted other.counted n o v c q k
  where
    go : (n m : PlainNetlist) (o p : Option Phase) (v w : List Bool) (c d : List CellState) (q r : List ℕ) (k l : List ℕ)
        → n ≡ m → o ≡ p → v ≡ w → c ≡ d → q ≡ r → k ≡ l → world_of n o v c q k ≡ world_of m p w d r l
    go n m o p v w c d q r k l e1 e2 e3 e4 e5 e6 = rw (e1, e2, e3, e4, e5, e6) refl

-- a place has one delivery
pub same-delivery : (before one other : PlainWorld) (place w v : ℕ) → DeliversAt before one place w → DeliversAt before other place v → (w ≡ v) × (one ≡ other)
same-delivery before one other place w v a b =
    let both : Some w ≡ Some v = sym a.at ∙ b.at in
    let same : w ≡ v = cc in
    let readers_are : a.reader ∷ [] ≡ b.reader ∷ [] = sym a.reads ∙ (subst (λ x. readers before.net w ≡ readers before.net x) same refl ∙ b.reads) in
    let reader_is : a.reader ≡ b.reader = cc in
    let delivered : Delivered (state_of one) ≡ Delivered (state_of other) =
    sym a.delivered ∙ (subst (λ x. deliver before.net (state_of before) w ≡ deliver before.net (state_of before) x) same refl ∙ b.delivered) in
    let states : state_of one ≡ state_of other = cc in (
      same,
      world-eq one other (a.net ∙ sym b.net) (a.opened ∙ sym b.opened) (a.vector ∙ sym b.vector) (ap (λ (s : State). s.cell_states) states)
          (a.queue ∙ (ap (λ (r : Reader). swap_remove before.queue place 0 ++ emitted_at before.net.cells before.cell_states r) reader_is ∙ sym b.queue))
          (ap (λ (s : State). s.counted) states),
    )

-- two lists in the order that end settled are one, and lead to one world
pub one-list : OneList
one-list place_of step before [] [] one other (h, a) (g, b) = (refl, h ∙ sym g)
one-list place_of step before [] (v ∷ vs) one other (h, a) ((mid, first, rest), b) =
    let none : before.queue ≡ [] = sym (ap (λ (w : PlainWorld). w.queue) h) ∙ a in
    let at : slice_get [] first.place ≡ Some v = subst (λ ws. slice_get ws first.place ≡ Some v) none first.delivers.at in absurd cc
one-list place_of step before (w ∷ ws) [] one other ((mid, first, rest), a) (g, b) =
    let none : before.queue ≡ [] = sym (ap (λ (w : PlainWorld). w.queue) g) ∙ b in
    let at : slice_get [] first.place ≡ Some w = subst (λ ws. slice_get ws first.place ≡ Some w) none first.delivers.at in absurd cc
one-list place_of step before (w ∷ ws) (v ∷ vs) one other ((mid, first, rest), a) ((also, second, others), b) =
    let places : second.place ≡ first.place = second.named ∙ sym first.named in
    let same = same-delivery before mid also first.place w v first.delivers (subst (λ p. DeliversAt before also p v) places second.delivers) in
    let moved = subst (λ m. DeliversInTurn (named_by place_of) (step + 1) m vs other) (sym same.1) others in
    let go = one-list place_of (step + 1) mid ws vs one other (rest, a) (moved, b) in
    (let e = same.0 in let f = go.0 in cc, go.1)

abbrev cycle_of : List Bool → List ℕ → List ℕ → Cycle
cycle_of vector excite relax = record { vector = vector; excite = excite; relax = relax }

cycle-eq : (one other : Cycle) → one.vector ≡ other.vector → one.excite ≡ other.excite → one.relax ≡ other.relax → one ≡ other
cycle-eq one other v e r = go one.vector other.vector one.excite other.excite one.relax other.relax v e r
  where
    go : (v w : List Bool) (e f r s : List ℕ) → v ≡ w → e ≡ f → r ≡ s → cycle_of v e r ≡ cycle_of w f s
    go v w e f r s e1 e2 e3 = rw (e1, e2, e3) refl

module _ (place_of : ℕ → ℕ → ℕ) where
  one-cycle : (step : ℕ) (before : PlainWorld) (one other : Cycle) (after also : PlainWorld) → one.vector ≡ other.vector
      → MakesCycle (named_by place_of) step before one after → MakesCycle (named_by place_of) step before other also → (one ≡ other) × (after ≡ also)
  one-cycle step before one other after also same a b =
      let vector = other.vector in
      let excited = subst (λ v. DeliversInTurn (named_by place_of) step (opened_world Excite v before) one.excite a.middle) same a.excites in
      let first = one-list place_of step (opened_world Excite vector before) one.excite other.excite a.middle b.middle (excited, a.rests) (b.excites, b.rests) in
      let from = subst (λ v. DeliversInTurn (named_by place_of) (step + length one.excite) (opened_world Relax v a.middle) one.relax after) same a.relaxes in
      let moved = subst (λ m. DeliversInTurn (named_by place_of) (step + length one.excite) (opened_world Relax vector m) one.relax after) first.1 from in
      let relaxed = subst (λ ws. DeliversInTurn (named_by place_of) (step + length ws) (opened_world Relax vector b.middle) one.relax after) first.0 moved in
      let second = one-list place_of (step + length other.excite) (opened_world Relax vector b.middle) one.relax other.relax after also (relaxed, a.settled) (b.relaxes, b.settled) in
      (cycle-eq one other same first.0 second.0, second.1)

pub one-list-of-cycles : OneListOfCycles
one-list-of-cycles place_of step before [] [] after other same h g = (refl, h ∙ sym g)
one-list-of-cycles place_of step before [] (d ∷ ds) after other same h g = absurd cc
one-list-of-cycles place_of step before (c ∷ cs) [] after other same h g = absurd cc
one-list-of-cycles place_of step before (c ∷ cs) (d ∷ ds) after other same (mid, first, rest) (also, second, others) =
    let heads : c.vector ≡ d.vector = cc in
    let tails : map vector_of cs ≡ map vector_of ds = cc in
    let one = one-cycle place_of step before c d mid also heads first second in
    let steps = subst (λ (x : Cycle). MakesCycles (named_by place_of) (step + length x.excite + length x.relax) also ds other) (sym one.0) others in
    let moved = subst (λ m. MakesCycles (named_by place_of) (step + length c.excite + length c.relax) m ds other) (sym one.1) steps in
    let go = one-list-of-cycles place_of (step + length c.excite + length c.relax) mid cs ds after other tails rest moved in
    (let e = one.0 in let f = go.0 in cc, go.1)
