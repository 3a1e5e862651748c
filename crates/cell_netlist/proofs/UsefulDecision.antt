-- The useful wires are found after as many rounds as there are cells.
use Rattle.std.proofs.Common.{◌≡◌, ◌≤◌, ◌+◌, ◌⊎◌, ◌↔◌, ℕ, zero, suc, Bool, true, false, not, ◌||◌, List, [], ◌∷◌, ◌++◌, map, length, ap, sym, ◌∙◌, subst, inl, inr, arith, refl, if◌then◌else◌}
use Rattle.std.specs.List.{list_any, list_all}
use Rattle.std.proofs.lemmas.Bool.{or_parts, cases_Bool, true≢false}
use Rattle.cell_netlist.specs.declared.lines.Cell.{Cell}
use Rattle.pulse_ids.specs.Lists.{IsIn}
use Rattle.cell_netlist.specs.Netlists.{PlainNetlist, wire_of, outs, reads}
use Rattle.cell_netlist.specs.Lean.{Useful, of_output, of_cell}
use Rattle.cell_netlist.specs.Decisions.{has}
use Rattle.cell_netlist.specs.LeanDecisions.{how_many, with_reads, useful_through, useful_after}
use Rattle.pulse_ids.proofs.CallerLemmas.{IsIn-append, IsIn-left, IsIn-right, IsIn-map, IsIn-from_map}
use Rattle.cell_netlist.proofs.ListLemmas.{list_all-at, list_any-at, list_any-from, has-at, has-from}
use Rattle.cell_netlist.proofs.GroundedDecision.{list_all-not, how_many-lt, how_many-most}

-- a cell has an output among these wires
abbrev is_wanted : List ℕ → Cell → Bool
is_wanted known cell = list_any (λ wire. has wire known) (outs cell)

wanted-from : (known : List ℕ) (cell : Cell) (out : ℕ) → IsIn out (outs cell) → IsIn out known → is_wanted known cell ≡ true
wanted-from known cell out h k = list_any-from (λ wire. has wire known) (outs cell) out h (has-from out known k)

wanted-more : (known more : List ℕ) → ((w : ℕ) → IsIn w known → IsIn w more) → (cell : Cell) → is_wanted known cell ≡ true → is_wanted more cell ≡ true
wanted-more known more sub cell e =
    let found = list_any-at (λ wire. has wire known) (outs cell) e in
    wanted-from more cell found.0 found.1 (sub found.0 (has-at found.0 known found.2))

-- a cell keeps what was useful, and makes useful what it reads where it is wanted
with_reads-old : (cell : Cell) (known : List ℕ) (w : ℕ) → IsIn w known → IsIn w (with_reads cell known)
with_reads-old cell known w h = elim (cases_Bool (is_wanted known cell)) [
  | inl hit ↦ rw hit (IsIn-right w (reads cell) known h)
  | inr miss ↦ rw miss h
]

with_reads-new : (cell : Cell) (known : List ℕ) → is_wanted known cell ≡ true → (w : ℕ) → IsIn w (reads cell) → IsIn w (with_reads cell known)
with_reads-new cell known hit w h = rw hit (IsIn-left w (reads cell) known h)

useful_through-old : (cells : List Cell) (known : List ℕ) (w : ℕ) → IsIn w known → IsIn w (useful_through cells known)
useful_through-old [] known w h = h
useful_through-old (cell ∷ cells) known w h = with_reads-old cell (useful_through cells known) w (useful_through-old cells known w h)

useful_through-new : (cells : List Cell) (known : List ℕ) (cell : Cell) → IsIn cell cells → is_wanted known cell ≡ true
    → (w : ℕ) → IsIn w (reads cell) → IsIn w (useful_through cells known)
useful_through-new [] known cell among hit w h = absurd among
useful_through-new (c ∷ cells) known cell (inl same) hit w h =
    with_reads-new c (useful_through cells known)
    (wanted-more known (useful_through cells known) (useful_through-old cells known) c (subst (λ x. is_wanted known x ≡ true) (sym same) hit)) w
    (subst (λ x. IsIn w (reads x)) (sym same) h)
useful_through-new (c ∷ cells) known cell (inr later) hit w h =
    with_reads-old c (useful_through cells known) w (useful_through-new cells known cell later hit w h)

module _ (net : PlainNetlist) where
  -- the wires that are found are useful
  with_reads-useful : (cell : Cell) → IsIn cell net.cells → (known : List ℕ) → ((w : ℕ) → IsIn w known → Useful net w)
      → (w : ℕ) → IsIn w (with_reads cell known) → Useful net w
  with_reads-useful cell among known all w h = elim (cases_Bool (list_any (λ out. has out known) (outs cell))) [
    | inl hit ↦ elim (IsIn-append w (reads cell) known (subst (λ (b : Bool). IsIn w (if b then reads cell ++ known else known)) hit h)) [
      | inl port ↦
          let out = list_any-at (λ out. has out known) (outs cell) hit in
          of_cell w cell among port out.0 out.1 (all out.0 (has-at out.0 known out.2))
      | inr old ↦ all w old
    ]
    | inr miss ↦ all w (subst (λ (b : Bool). IsIn w (if b then reads cell ++ known else known)) miss h)
  ]

  useful_through-useful : (cells : List Cell) → ((cell : Cell) → IsIn cell cells → IsIn cell net.cells) → (known : List ℕ)
      → ((w : ℕ) → IsIn w known → Useful net w) → (w : ℕ) → IsIn w (useful_through cells known) → Useful net w
  useful_through-useful [] sub known all w h = all w h
  useful_through-useful (cell ∷ cells) sub known all w h =
      with_reads-useful cell (sub cell (inl refl)) (useful_through cells known)
      (λ v g. useful_through-useful cells (λ c i. sub c (inr i)) known all v g) w h

  pub useful_after-useful : (n w : ℕ) → IsIn w (useful_after net n) → Useful net w
  useful_after-useful zero w h = let found = IsIn-from_map wire_of w net.output_rails h in of_output w found.0 found.1 found.2
  useful_after-useful (suc n) w h = useful_through-useful net.cells (λ c g. g) (useful_after net n) (λ v g. useful_after-useful n v g) w h

  -- what a wanted cell reads is among the wires
  abbrev IsClosed : List ℕ → Type 0
  IsClosed known = (cell : Cell) → IsIn cell net.cells → is_wanted known cell ≡ true → (w : ℕ) → IsIn w (reads cell) → IsIn w known

  -- closed wires with those of the output rails are all that are useful
  useful_among : (known : List ℕ) → ((w : ℕ) → IsIn w (map wire_of net.output_rails) → IsIn w known) → IsClosed known → (w : ℕ) → Useful net w → IsIn w known
  useful_among known rails closed wire (of_output w rail among e) =
      rails w (subst (λ v. IsIn v (map wire_of net.output_rails)) e (IsIn-map wire_of rail net.output_rails among))
  useful_among known rails closed wire (of_cell w cell among port out h useful) =
      closed cell among (wanted-from known cell out h (useful_among known rails closed out useful)) w port

  useful_after-rails : (n w : ℕ) → IsIn w (map wire_of net.output_rails) → IsIn w (useful_after net n)
  useful_after-rails zero w h = h
  useful_after-rails (suc n) w h = useful_through-old net.cells (useful_after net n) w (useful_after-rails n w h)

  -- how many cells are wanted after some rounds
  abbrev wanted : ℕ → ℕ
  wanted n = how_many (is_wanted (useful_after net n)) net.cells

  abbrev IsAll : ℕ → Type 0
  IsAll n = (w : ℕ) → Useful net w → IsIn w (useful_after net n)

  -- no cell is wanted yet, or one is
  at_first : IsAll 0 ⊎ (1 ≤ wanted 0)
  at_first = elim (cases_Bool (list_all (λ cell. not (is_wanted (useful_after net 0) cell)) net.cells)) [
    | inl none ↦ inl (λ w u. useful_among (useful_after net 0) (λ v h. h)
        (λ cell among hit v h. absurd (true≢false (sym (list_all-at (λ c. not (is_wanted (useful_after net 0) c)) net.cells none cell among) ∙ ap not hit))) w u)
    | inr some ↦
        let found = list_all-not (λ cell. not (is_wanted (useful_after net 0) cell)) net.cells some in
        let hit : is_wanted (useful_after net 0) found.0 ≡ true =
        elim (cases_Bool (is_wanted (useful_after net 0) found.0)) [ inl e ↦ e | inr miss ↦ absurd (true≢false (sym (ap not miss) ∙ found.2)) ] in
        let more = how_many-lt (λ cell. false) (is_wanted (useful_after net 0)) net.cells (λ cell h e. absurd (true≢false (sym e))) found.0 found.1 refl hit in
        inr (omega arith)
  ]

  -- after one more round all useful wires are found, or one more cell is wanted
  one_more : (n : ℕ) → IsAll (suc n) ⊎ (wanted n + 1 ≤ wanted (suc n))
  one_more n =
      let old = useful_after net n in
      let new = useful_after net (suc n) in
      elim (cases_Bool (list_all (λ cell. not (is_wanted new cell) || is_wanted old cell) net.cells)) [
        | inl same ↦ inl (λ w u. useful_among new (useful_after-rails (suc n)) (λ cell among hit v h.
            let either = list_all-at (λ c. not (is_wanted new c) || is_wanted old c) net.cells same cell among in
            let was : is_wanted old cell ≡ true = elim (cases_Bool (is_wanted old cell)) [
              | inl e ↦ e
              | inr miss ↦ absurd (true≢false (sym either ∙ rw (hit, miss) refl))
            ] in
            useful_through-new net.cells old cell among was v h) w u)
        | inr other ↦
            let found = list_all-not (λ cell. not (is_wanted new cell) || is_wanted old cell) net.cells other in
            let parts = or_parts (not (is_wanted new found.0)) (is_wanted old found.0) found.2 in
            let hit : is_wanted new found.0 ≡ true =
            elim (cases_Bool (is_wanted new found.0)) [ inl e ↦ e | inr miss ↦ absurd (true≢false (sym (ap not miss) ∙ parts.0)) ] in
            inr (how_many-lt (is_wanted old) (is_wanted new) net.cells
            (λ cell h e. wanted-more old new (useful_through-old net.cells old) cell e) found.0 found.1 parts.1 hit)
      ]

  -- after n rounds all useful wires are found, or more than n cells are wanted
  found_or_wanted : (n : ℕ) → IsAll n ⊎ (n + 1 ≤ wanted n)
  found_or_wanted zero = elim at_first [ inl all ↦ inl all | inr some ↦ inr (omega arith) ]
  found_or_wanted (suc n) = elim (found_or_wanted n) [
    | inl all ↦ inl (λ w u. useful_through-old net.cells (useful_after net n) w (all w u))
    | inr many ↦ elim (one_more n) [ inl all ↦ inl all | inr more ↦ inr (omega arith) ]
  ]

  pub useful_found : (w : ℕ) → Useful net w → IsIn w (useful_after net (length net.cells))
  useful_found w u = elim (found_or_wanted (length net.cells)) [
    | inl all ↦ all w u
    | inr many ↦ let most = how_many-most (is_wanted (useful_after net (length net.cells))) net.cells in absurd (omega arith)
  ]

pub useful_decided : (net : PlainNetlist) (wire : ℕ) → IsIn wire (useful_after net (length net.cells)) ↔ Useful net wire
useful_decided net wire = (λ h. useful_after-useful net (length net.cells) wire h, useful_found net wire)
