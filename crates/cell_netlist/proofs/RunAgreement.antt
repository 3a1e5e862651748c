-- The equations fix the bits of all wires but the links.
use Rattle.std.proofs.Common.{◌≡◌, ℕ, zero, suc, inl, inr, Option, Some, None, List, [], ◌∷◌, ◌++◌, Bool, true, false, not, if◌then◌else◌, refl, sym, ◌∙◌, ap, subst}
use Rattle.pulse_ids.specs.Ids.{WireId}
use Rattle.cell_netlist.specs.declared.kinds.Role.TheVariants.{Front, Back, Const}
use Rattle.cell_netlist.specs.declared.lines.Cell.{Cell}
use Rattle.cell_netlist.specs.declared.lines.Cell.TheVariants.{La, Fa, Split, Droc}
use Rattle.pulse_ids.specs.Lists.{IsIn, bit_at}
use Rattle.cell_netlist.specs.Netlists.{PlainNetlist, outs, reads, used, IsDroc, Grounded, of_rail, of_droc, of_gate}
use Rattle.cell_netlist.specs.RailEquations.{LatchState, CarriesIfUsed, CellEquation, IsRails, IsNetRunFrom, is_front_to, feed_of, of_the, first_state, next_state}
use Rattle.cell_netlist.specs.Sound.{IsSound}
use Rattle.cell_netlist.specs.NetRuns.{bits_in, RunsAgree}
use Rattle.pulse_ids.proofs.CallerLemmas.{IsIn-append}
use Rattle.cell_netlist.proofs.CallerLemmasOnDrivers.{is-droc, read-grounded, all-grounded}
use Rattle.cell_netlist.proofs.CallerLemmasOnLinks.{IsPlain, read-plain, not-front, front-reads, front-no-back, test-front, plain-of}

carries-same : (output : Option WireId) (one other : ℕ → Bool) (first second : Bool) (wire : ℕ) → IsIn wire (used output) → CarriesIfUsed one output first → CarriesIfUsed other output second
    → first ≡ second → one wire ≡ other wire
carries-same None one other first second wire i h k e = absurd i
carries-same (Some w) one other first second wire (inl s) h k e = subst (λ v. one v ≡ other v) s (h ∙ (e ∙ sym k))
carries-same (Some w) one other first second wire (inr i) h k e = absurd i

droc-same : (q n : Option WireId) (one other : ℕ → Bool) (first second : Bool) (wire : ℕ) → IsIn wire (used q ++ used n) → CarriesIfUsed one q first × CarriesIfUsed one n (not first)
    → CarriesIfUsed other q second × CarriesIfUsed other n (not second) → first ≡ second → one wire ≡ other wire
droc-same q n one other first second wire i h k e = elim (IsIn-append wire (used q) (used n) i) [
  | inl j ↦ carries-same q one other first second wire j h.0 k.0 e
  | inr j ↦ carries-same n one other (not first) (not second) wire j h.1 k.1 (ap not e)
]

gate-same : (latches others : LatchState) (one other : ℕ → Bool) (cell : Cell) (wire : ℕ) → (IsDroc cell → ⊥) → IsIn wire (outs cell) → CellEquation latches one cell → CellEquation others other cell
    → ((port : ℕ) → IsIn port (reads cell) → one port ≡ other port) → one wire ≡ other wire
gate-same latches others one other (La a b out) wire gate (inl e) h k same =
    let x = same a.number (inl refl) in
    let y = same b.number (inr (inl refl)) in
    subst (λ w. one w ≡ other w) e (let z : one out.number ≡ other out.number = cc in z)
gate-same latches others one other (La a b out) wire gate (inr i) h k same = absurd i
gate-same latches others one other (Fa a b out) wire gate (inl e) h k same =
    let x = same a.number (inl refl) in
    let y = same b.number (inr (inl refl)) in
    subst (λ w. one w ≡ other w) e (let z : one out.number ≡ other out.number = cc in z)
gate-same latches others one other (Fa a b out) wire gate (inr i) h k same = absurd i
gate-same latches others one other (Split from left right) wire gate (inl e) h k same =
    subst (λ w. one w ≡ other w) e (h.0 ∙ (same from.number (inl refl) ∙ sym k.0))
gate-same latches others one other (Split from left right) wire gate (inr (inl e)) h k same =
    subst (λ w. one w ≡ other w) e (h.1 ∙ (same from.number (inl refl) ∙ sym k.1))
gate-same latches others one other (Split from left right) wire gate (inr (inr i)) h k same = absurd i
gate-same latches others one other (Droc role preload feed q n) wire gate i h k same = absurd (gate tt)

of_the-same : (test one other : Cell → Bool) (cells : List Cell) → ((cell : Cell) → IsIn cell cells → test cell ≡ true → one cell ≡ other cell) → of_the test one cells ≡ of_the test other cells
of_the-same test one other [] same = refl
of_the-same test one other (cell ∷ cells) same = go (test cell) refl (of_the-same test one other cells (λ c i. same c (inr i)))
  where
    go : (b : Bool) → test cell ≡ b → of_the test one cells ≡ of_the test other cells → (if b then one cell else of_the test one cells) ≡ (if b then other cell else of_the test other cells)
    go true t r = same cell (inl refl) t
    go false t r = r

module _ (net : PlainNetlist) (sound : IsSound net) where
  module _ (latches others : LatchState) (vector one other : List Bool) (states : (link : ℕ) → latches link ≡ others link)
      (first : IsRails net latches vector one) (second : IsRails net others vector other) where
    droc-agrees : (wire : ℕ) (cell : Cell) → IsIn cell net.cells → IsDroc cell → IsIn wire (outs cell) → IsPlain net wire → CellEquation latches (bit_at one) cell
        → CellEquation others (bit_at other) cell → bit_at one wire ≡ bit_at other wire
    droc-agrees wire (La a b out) i d j plain h k = absurd d
    droc-agrees wire (Fa a b out) i d j plain h k = absurd d
    droc-agrees wire (Split from left right) i d j plain h k = absurd d
    droc-agrees wire (Droc Front preload feed q n) i d j plain h k =
        absurd (not-front net preload feed q n wire (sound.roles (Droc Front preload feed q n) i) j (plain (Droc Front preload feed q n) i))
    droc-agrees wire (Droc Back preload feed q n) i d j plain h k =
        droc-same q n (bit_at one) (bit_at other) (latches feed.number) (others feed.number) wire j h k (states feed.number)
    droc-agrees wire (Droc Const preload feed q n) i d j plain h k =
        droc-same q n (bit_at one) (bit_at other) preload preload wire j h k refl

    agrees : (wire : ℕ) → Grounded net wire → IsPlain net wire → bit_at one wire ≡ bit_at other wire
    agrees _ (of_rail wire rail i e) plain = subst (λ w. bit_at one w ≡ bit_at other w) e (first.rails rail i ∙ sym (second.rails rail i))
    agrees _ (of_droc wire cell i d j) plain = droc-agrees wire cell i d j plain (first.cells cell i) (second.cells cell i)
    agrees _ (of_gate wire cell i d j ports) plain =
        gate-same latches others (bit_at one) (bit_at other) cell wire d j (first.cells cell i) (second.cells cell i) (λ port k.
        agrees port (ports port k) (read-plain net sound port cell i k (λ preload back. d (is-droc cell Back preload port back))))

    next-agrees : (link : ℕ) → next_state net one link ≡ next_state net other link
    next-agrees link = of_the-same (is_front_to link) (λ cell. bit_at one (feed_of cell)) (λ cell. bit_at other (feed_of cell)) net.cells (λ cell i t.
        let on = test-front cell link t in
        let j = front-reads cell link on in
        agrees (feed_of cell) (read-grounded net sound (feed_of cell) cell i j) (read-plain net sound (feed_of cell) cell i j (λ preload back. front-no-back cell link on preload (feed_of cell) back)))

  agree-from : (latches others : LatchState) (vectors one other : List (List Bool)) → ((link : ℕ) → latches link ≡ others link) → IsNetRunFrom net latches vectors one
      → IsNetRunFrom net others vectors other → (cycle wire : ℕ) → Grounded net wire → IsPlain net wire → bit_at (bits_in one cycle) wire ≡ bit_at (bits_in other cycle) wire
  agree-from latches others [] [] [] states h k cycle wire g plain = refl
  agree-from latches others [] [] (b ∷ other) states h k cycle wire g plain = absurd k
  agree-from latches others [] (a ∷ one) other states h k cycle wire g plain = absurd h
  agree-from latches others (v ∷ vectors) [] other states h k cycle wire g plain = absurd h
  agree-from latches others (v ∷ vectors) (a ∷ one) [] states h k cycle wire g plain = absurd k
  agree-from latches others (v ∷ vectors) (a ∷ one) (b ∷ other) states h k zero wire g plain = agrees latches others v a b states h.0 k.0 wire g plain
  agree-from latches others (v ∷ vectors) (a ∷ one) (b ∷ other) states h k (suc cycle) wire g plain =
      agree-from (next_state net a) (next_state net b) vectors one other (next-agrees latches others v a b states h.0 k.0) h.1 k.1 cycle wire g plain

pub runs_agree : RunsAgree
runs_agree net sound vectors one other h k cycle wire low link =
    agree-from net sound (first_state net) (first_state net) vectors one other (λ link. refl) h k cycle wire (all-grounded net sound wire low) (plain-of net wire link)
