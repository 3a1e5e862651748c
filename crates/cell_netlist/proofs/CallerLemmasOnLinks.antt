-- Links, the wires from fronts to their backs, and the plain wires: the lemmas that the crates above may cite.
use Rattle.std.proofs.Common.{◌≡◌, ℕ, inl, inr, Option, Some, None, List, [], ◌∷◌, ◌++◌, Bool, true, false, ◌||◌, if◌then◌else◌, refl, sym, ◌∙◌, ap, subst, arith, eq-eqb}
use Rattle.std.proofs.lemmas.Bool.{eqb-true}
use Rattle.std.specs.List.{list_any}
use Rattle.pulse_ids.specs.Ids.{WireId}
use Rattle.cell_netlist.specs.declared.kinds.Role.TheVariants.{Front, Back, Const}
use Rattle.cell_netlist.specs.declared.lines.Rail.{Rail}
use Rattle.cell_netlist.specs.declared.lines.Cell.{Cell}
use Rattle.cell_netlist.specs.declared.lines.Cell.TheVariants.{La, Fa, Split, Droc}
use Rattle.pulse_ids.specs.Lists.{IsIn, occurrences, bit_at}
use Rattle.cell_netlist.specs.Netlists.{PlainNetlist, wire_of, outs, reads, used}
use Rattle.cell_netlist.specs.RailEquations.{is_on, is_front_to, is_back_from, is_link, feed_of, preload_of, of_the, first_state, next_state}
use Rattle.cell_netlist.specs.Sound.{IsSound, IsOn, HasQ, IsDrocOf, IsBackFrom, FitsRole}
use Rattle.pulse_ids.proofs.CallerLemmas.{IsIn-append, IsIn-left}
use Rattle.pulse_ids.proofs.CallerLemmasOnCounts.{test_same, IsIn-occurrences}
use Rattle.cell_netlist.proofs.CallerLemmasOnSums.{sum_over-share}
use Rattle.cell_netlist.proofs.CallerLemmasOnDrivers.{IsOn-used, used-on, droc-reads, read-sums, read-once, same_driver, same_reader}

-- the cell is a front whose `q` is the wire
abbrev pub IsFrontOn : Cell → ℕ → Type 0
IsFrontOn (La a b out) wire = ⊥
IsFrontOn (Fa a b out) wire = ⊥
IsFrontOn (Split from left right) wire = ⊥
IsFrontOn (Droc Front preload feed q n) wire = IsOn q wire
IsFrontOn (Droc Back preload feed q n) wire = ⊥
IsFrontOn (Droc Const preload feed q n) wire = ⊥

-- the wire is no front's `q`
abbrev pub IsPlain : PlainNetlist → ℕ → Type 0
IsPlain net wire = (cell : Cell) → IsIn cell net.cells → IsFrontOn cell wire → ⊥

pub IsOn-same : (output : Option WireId) (one other : ℕ) → IsOn output one → IsOn output other → one ≡ other
IsOn-same None one other h i = absurd h
IsOn-same (Some w) one other h i = sym h ∙ i

pub front-outs : (cell : Cell) (wire : ℕ) → IsFrontOn cell wire → IsIn wire (outs cell)
front-outs (La a b out) wire h = absurd h
front-outs (Fa a b out) wire h = absurd h
front-outs (Split from left right) wire h = absurd h
front-outs (Droc Front preload feed q n) wire h = IsIn-left wire (used q) (used n) (IsOn-used q wire h)
front-outs (Droc Back preload feed q n) wire h = absurd h
front-outs (Droc Const preload feed q n) wire h = absurd h

-- a front's wire is the feed of a back
back-of : (net : PlainNetlist) (cell : Cell) (wire : ℕ) → FitsRole net cell → IsFrontOn cell wire → (preload : Bool) × IsBackFrom net wire preload
back-of net (La a b out) wire fits h = absurd h
back-of net (Fa a b out) wire fits h = absurd h
back-of net (Split from left right) wire fits h = absurd h
back-of net (Droc Front preload feed q n) wire fits h =
    let same = IsOn-same q fits.1 wire fits.2 h in
    (fits.3, subst (λ w. IsBackFrom net w fits.3) same fits.4)
back-of net (Droc Back preload feed q n) wire fits h = absurd h
back-of net (Droc Const preload feed q n) wire fits h = absurd h

pub none-used : (n : Option WireId) (wire : ℕ) → n ≡ None → occurrences wire (used n) ≡ 0
none-used n wire e = ap (λ o. occurrences wire (used o)) e

pub on-used : (q : Option WireId) (wire : ℕ) → IsOn q wire → occurrences wire (used q) ≡ 1
on-used None wire h = absurd h
on-used (Some w) wire h = let t = test_same wire w.number (sym h) in omega arith

-- a front with its `q`
pub front-on : (cell : Cell) (preload : Bool) (feed wire : ℕ) → IsDrocOf cell Front preload feed → HasQ cell wire → IsFrontOn cell wire
front-on (La a b out) preload feed wire h q = absurd h
front-on (Fa a b out) preload feed wire h q = absurd h
front-on (Split from left right) preload feed wire h q = absurd h
front-on (Droc Front p f q n) preload feed wire h k = k
front-on (Droc Back p f q n) preload feed wire h k = let e = h.0 in absurd (cc)
front-on (Droc Const p f q n) preload feed wire h k = let e = h.0 in absurd (cc)

-- an output of a front that isn't its `q`
pub not-front : (net : PlainNetlist) (preload : Bool) (feed : WireId) (q n : Option WireId) (wire : ℕ) → FitsRole net (Droc Front preload feed q n) → IsIn wire (used q ++ used n)
    → (IsOn q wire → ⊥) → ⊥
not-front net preload feed q n wire fits i off = elim (IsIn-append wire (used q) (used n) i) [
  | inl j ↦ off (used-on q wire j)
  | inr j ↦ let o = IsIn-occurrences wire (used n) j in let z = none-used n wire fits.0 in absurd (omega arith)
]

-- what `of_the` gives of the one cell with a test
pub of_the-is : (test value : Cell → Bool) (cell : Cell) (cells : List Cell) → IsIn cell cells → test cell ≡ true → ((other : Cell) → IsIn other cells → test other ≡ true → other ≡ cell)
    → of_the test value cells ≡ value cell
of_the-is test value cell [] i t only = absurd i
of_the-is test value cell (first ∷ cells) (inl e) t only =
    let f = ap test e in
    let u : test first ≡ true = cc in
    ap (λ t. if t then value first else of_the test value cells) u ∙ ap value e
of_the-is test value cell (first ∷ cells) (inr i) t only =
    let r = of_the-is test value cell cells i t (λ other j. only other (inr j)) in go (test first) refl r
  where
    go : (b : Bool) → test first ≡ b → of_the test value cells ≡ value cell → (if b then value first else of_the test value cells) ≡ value cell
    go true e r = ap value (only first (inl refl) e)
    go false e r = r

-- the test for a front's `q`
pub on-test : (q : Option WireId) (wire : ℕ) → IsOn q wire → is_on q wire ≡ true
on-test None wire h = absurd h
on-test (Some w) wire h = eq-eqb wire w.number (sym h)

test-on : (q : Option WireId) (wire : ℕ) → is_on q wire ≡ true → IsOn q wire
test-on None wire h = absurd (cc)
test-on (Some w) wire h = sym (eqb-true wire w.number h)

pub front-test : (cell : Cell) (wire : ℕ) → IsFrontOn cell wire → is_front_to wire cell ≡ true
front-test (La a b out) wire h = absurd h
front-test (Fa a b out) wire h = absurd h
front-test (Split from left right) wire h = absurd h
front-test (Droc Front preload feed q n) wire h = on-test q wire h
front-test (Droc Back preload feed q n) wire h = absurd h
front-test (Droc Const preload feed q n) wire h = absurd h

pub test-front : (cell : Cell) (wire : ℕ) → is_front_to wire cell ≡ true → IsFrontOn cell wire
test-front (La a b out) wire h = absurd (cc)
test-front (Fa a b out) wire h = absurd (cc)
test-front (Split from left right) wire h = absurd (cc)
test-front (Droc Front preload feed q n) wire h = test-on q wire h
test-front (Droc Back preload feed q n) wire h = absurd (cc)
test-front (Droc Const preload feed q n) wire h = absurd (cc)

-- the test for a back's feed
back-test : (cell : Cell) (preload : Bool) (wire : ℕ) → IsDrocOf cell Back preload wire → is_back_from wire cell ≡ true
back-test (La a b out) preload wire h = absurd h
back-test (Fa a b out) preload wire h = absurd h
back-test (Split from left right) preload wire h = absurd h
back-test (Droc Front p feed q n) preload wire h = let e = h.0 in absurd (cc)
back-test (Droc Back p feed q n) preload wire h = eq-eqb wire feed.number (sym h.2)
back-test (Droc Const p feed q n) preload wire h = let e = h.0 in absurd (cc)

test-back : (cell : Cell) (wire : ℕ) → is_back_from wire cell ≡ true → IsDrocOf cell Back (preload_of cell) wire
test-back (La a b out) wire h = absurd (cc)
test-back (Fa a b out) wire h = absurd (cc)
test-back (Split from left right) wire h = absurd (cc)
test-back (Droc Front preload feed q n) wire h = absurd (cc)
test-back (Droc Back preload feed q n) wire h = (refl, refl, sym (eqb-true wire feed.number h))
test-back (Droc Const preload feed q n) wire h = absurd (cc)

back-preload : (cell : Cell) (preload : Bool) (wire : ℕ) → IsDrocOf cell Back preload wire → preload_of cell ≡ preload
back-preload (La a b out) preload wire h = absurd h
back-preload (Fa a b out) preload wire h = absurd h
back-preload (Split from left right) preload wire h = absurd h
back-preload (Droc role p feed q n) preload wire h = h.1

pub front-reads : (cell : Cell) (wire : ℕ) → IsFrontOn cell wire → IsIn (feed_of cell) (reads cell)
front-reads (La a b out) wire h = absurd h
front-reads (Fa a b out) wire h = absurd h
front-reads (Split from left right) wire h = absurd h
front-reads (Droc role preload feed q n) wire h = inl refl

pub front-no-back : (cell : Cell) (wire : ℕ) → IsFrontOn cell wire → (preload : Bool) (feed : ℕ) → IsDrocOf cell Back preload feed → ⊥
front-no-back (La a b out) wire h preload feed k = h
front-no-back (Fa a b out) wire h preload feed k = h
front-no-back (Split from left right) wire h preload feed k = h
front-no-back (Droc Front p f q n) wire h preload feed k = let e = k.0 in cc
front-no-back (Droc Back p f q n) wire h preload feed k = h
front-no-back (Droc Const p f q n) wire h preload feed k = h

-- a test that some item passes
any-item : {X : Type 0} (test : X → Bool) (xs : List X) → list_any test xs ≡ true → (x : X) × IsIn x xs × (test x ≡ true)
any-item test [] e = absurd (cc)
any-item test (x ∷ xs) e = go (test x) refl e (any-item test xs)
  where
    go : (b : Bool) → test x ≡ b → (b || list_any test xs) ≡ true → (list_any test xs ≡ true → (y : _) × IsIn y xs × (test y ≡ true)) → (y : _) × IsIn y (x ∷ xs) × (test y ≡ true)
    go true t e rest = (x, inl refl, t)
    go false t e rest = let r = rest e in (r.0, inr r.1, r.2)

none-item : {X : Type 0} (test : X → Bool) (xs : List X) → list_any test xs ≡ false → (x : X) → IsIn x xs → test x ≡ true → ⊥
none-item test [] e x i t = i
none-item test (y ∷ ys) e x (inl k) t = let f = ap test k in let g : (true || list_any test ys) ≡ false = subst (λ b. (b || list_any test ys) ≡ false) (f ∙ t) e in cc
none-item test (y ∷ ys) e x (inr i) t = go (test y) e (none-item test ys)
  where
    go : (b : Bool) → (b || list_any test ys) ≡ false → (list_any test ys ≡ false → (x : _) → IsIn x ys → test x ≡ true → ⊥) → ⊥
    go true e rest = cc
    go false e rest = rest e x i t

pub front-of : (net : PlainNetlist) (wire : ℕ) → is_link net wire ≡ true → (cell : Cell) × IsIn cell net.cells × IsFrontOn cell wire
front-of net wire e =
    let r = any-item (is_front_to wire) net.cells e in (r.0, r.1, test-front r.0 wire r.2)

pub plain-of : (net : PlainNetlist) (wire : ℕ) → is_link net wire ≡ false → IsPlain net wire
plain-of net wire e cell i on = none-item (is_front_to wire) net.cells e cell i (front-test cell wire on)

pub of-plain : (net : PlainNetlist) (wire : ℕ) → IsPlain net wire → is_link net wire ≡ false
of-plain net wire plain = go (is_link net wire) refl
  where
    go : (b : Bool) → is_link net wire ≡ b → b ≡ false
    go true e = let f = front-of net wire e in absurd (plain f.0 f.1 f.2)
    go false e = refl

module _ (net : PlainNetlist) (sound : IsSound net) where
  -- what reads a front's wire is a back
  front-reader : (wire : ℕ) (front cell : Cell) → IsIn front net.cells → IsFrontOn front wire → IsIn cell net.cells → IsIn wire (reads cell)
      → (preload : Bool) × IsDrocOf cell Back preload wire
  front-reader wire front cell i f j r =
      let b = back-of net front wire (sound.roles front i) f in
      let same = same_reader net sound wire b.1.back cell b.1.among j (droc-reads b.1.back Back b.0 wire b.1.role) r in
      (b.0, subst (λ c. IsDrocOf c Back b.0 wire) same b.1.role)

  -- what a cell other than a back reads is plain
  pub read-plain : (wire : ℕ) (cell : Cell) → IsIn cell net.cells → IsIn wire (reads cell) → ((preload : Bool) → IsDrocOf cell Back preload wire → ⊥) → IsPlain net wire
  read-plain wire cell j r other front i f = let b = front-reader wire front cell i f j r in other b.0 b.1

  -- what an output rail reads is plain
  pub output-plain : (rail : Rail) → IsIn rail net.output_rails → IsPlain net (wire_of rail)
  output-plain rail k front i f =
      let b = back-of net front (wire_of rail) (sound.roles front i) f in
      let r = droc-reads b.1.back Back b.0 (wire_of rail) b.1.role in
      let s = read-sums net sound (wire_of rail) in
      let o = read-once net sound (wire_of rail) in
      let t = test_same (wire_of rail) (wire_of rail) refl in
      let c = sum_over-share (λ cell. occurrences (wire_of rail) (reads cell)) b.1.back net.cells b.1.among in
      let d = IsIn-occurrences (wire_of rail) (reads b.1.back) r in
      let e = sum_over-share (λ other. occurrences (wire_of rail) (wire_of other ∷ [])) rail net.output_rails k in absurd (omega arith)

  -- the next state of a link is the bit of its front's feed
  pub next_state-is : (bits : List Bool) (wire : ℕ) (cell : Cell) → IsIn cell net.cells → IsFrontOn cell wire → next_state net bits wire ≡ bit_at bits (feed_of cell)
  next_state-is bits wire cell i h =
      of_the-is (is_front_to wire) (λ cell. bit_at bits (feed_of cell)) cell net.cells i (front-test cell wire h) (λ other j t.
      same_driver net sound wire other cell j i (front-outs other wire (test-front other wire t)) (front-outs cell wire h))

  -- the first state of a link is its back's preload
  pub first_state-is : (wire : ℕ) (cell : Cell) (preload : Bool) → IsIn cell net.cells → IsDrocOf cell Back preload wire → first_state net wire ≡ preload
  first_state-is wire cell preload i h =
      of_the-is (is_back_from wire) preload_of cell net.cells i (back-test cell preload wire h) (λ other j t.
      same_reader net sound wire other cell j i (droc-reads other Back (preload_of other) wire (test-back other wire t)) (droc-reads cell Back preload wire h))
      ∙ back-preload cell preload wire h
