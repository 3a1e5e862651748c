-- The cell of an upset.
use Rattle.std.proofs.Common.{◌≡◌, ◌∙◌, ◌≤◌, ◌⊎◌, ℕ, zero, suc, ◌==◌, Option, Some, None, List, [], ◌∷◌, length, slice_get, ap, sym, inl, inr, arith, refl}
use Rattle.std.proofs.lemmas.Bool.{cases_Bool, eqb-true, eq-eqb, ne_eqb}
use Rattle.pulse_ids.specs.Ids.{numbered}
use Rattle.cell_netlist.specs.declared.lines.Cell.{Cell}
use Rattle.cell_netlist.specs.declared.lines.Cell.TheVariants.{La, Fa, Split, Droc}
use Rattle.cell_netlist.specs.declared.lines.Reader.{Reader}
use Rattle.cell_netlist.specs.declared.lines.Reader.TheVariants.{A, B, From, Feed, Output}
use Rattle.cell_netlist.specs.declared.kinds.CellState.{CellState}
use Rattle.pulse_ids.specs.Lists.{IsIn}
use Rattle.cell_netlist.specs.Netlists.{PlainNetlist, reads}
use Rattle.cell_netlist.specs.Places.{readers, IsReaderOf, first_cell}
use Rattle.cell_netlist.specs.World.{State, Reaction, reaction, Reactions, both, reactions, Upset, moved, deliver}
use Rattle.cell_netlist.specs.Upsets.{UpsetsAreOfCells, ReadingCellsAreUpset}
use Rattle.cell_netlist.proofs.PlaceLemmas.{readers-count}
use Rattle.cell_netlist.proofs.PlacesOfWires.{reader-is, read-reader}
use Rattle.cell_netlist.proofs.WireLemmas.{read_once}

-- one of the cells has no line for a pulse on the wire
record NoLineAt (cells : List Cell) (cell_states : List CellState) (wire c : ℕ) : Type 0 where
  cell : Cell
  at : slice_get cells c ≡ Some cell
  cell_state : CellState
  state_at : slice_get cell_states c ≡ Some cell_state
  no_line : reaction cell cell_state wire ≡ None

both-none : (o : Option Reactions) → both None o ≡ None
both-none o = refl

rest-none : (o : Option Reaction) → both o None ≡ None
rest-none None = refl
rest-none (Some first) = refl

none-of : (o : Option Reaction) (rest : Option Reactions) → both o rest ≡ None → (o ≡ None) ⊎ (rest ≡ None)
none-of None rest e = inl refl
none-of (Some first) None e = inr refl
none-of (Some first) (Some rest) e = absurd cc

module _ (wire : ℕ) where
  no_line-found : (cells : List Cell) (cell_states : List CellState) → length cell_states ≡ length cells → reactions cells cell_states wire ≡ None
      → (c : ℕ) × NoLineAt cells cell_states wire c
  no_line-found [] cell_states len e = absurd cc
  no_line-found (cell ∷ cells) [] len e = absurd (omega arith)
  no_line-found (cell ∷ cells) (cell_state ∷ cell_states) len e =
      elim (none-of (reaction cell cell_state wire) (reactions cells cell_states wire) e) [
        | inl here ↦ (0, record { cell = cell; at = refl; cell_state = cell_state; state_at = refl; no_line = here })
        | inr later ↦
            let found = no_line-found cells cell_states (omega arith) later in (
              suc found.0,
              record { cell = found.1.cell; at = found.1.at; cell_state = found.1.cell_state; state_at = found.1.state_at; no_line = found.1.no_line },
            )
      ]

  no_line-tells : (c : ℕ) (cells : List Cell) (cell_states : List CellState) → NoLineAt cells cell_states wire c → reactions cells cell_states wire ≡ None
  no_line-tells c [] cell_states h = let e = h.at in absurd cc
  no_line-tells c (cell ∷ cells) [] h = let e = h.state_at in absurd cc
  no_line-tells zero (cell ∷ cells) (cell_state ∷ cell_states) h =
      let same : cell ≡ h.cell = let e = h.at in cc in
      let of_state : cell_state ≡ h.cell_state = let e = h.state_at in cc in
      let none : reaction cell cell_state wire ≡ None = rw (same, of_state) h.no_line in
      rw none refl
  no_line-tells (suc c) (cell ∷ cells) (cell_state ∷ cell_states) h =
      let rest = no_line-tells c cells cell_states (record { cell = h.cell; at = h.at; cell_state = h.cell_state; state_at = h.state_at; no_line = h.no_line }) in
      rw rest (rest-none (reaction cell cell_state wire))

  -- a cell without a line for the wire reads it
  no_line-reads : (cell : Cell) (cell_state : CellState) → reaction cell cell_state wire ≡ None → IsIn wire (reads cell)
  no_line-reads (La a b out) cell_state e = elim (cases_Bool (wire == a.number)) [
    | inl hit ↦ inl (sym (eqb-true _ _ hit))
    | inr miss ↦ elim (cases_Bool (wire == b.number)) [ inl hit ↦ inr (inl (sym (eqb-true _ _ hit))) | inr none ↦ let g = rw (miss, none) at e in absurd cc ]
  ]
  no_line-reads (Fa a b out) cell_state e = elim (cases_Bool (wire == a.number)) [
    | inl hit ↦ inl (sym (eqb-true _ _ hit))
    | inr miss ↦ elim (cases_Bool (wire == b.number)) [ inl hit ↦ inr (inl (sym (eqb-true _ _ hit))) | inr none ↦ let g = rw (miss, none) at e in absurd cc ]
  ]
  no_line-reads (Split from left right) cell_state e =
      elim (cases_Bool (wire == from.number)) [ inl hit ↦ inl (sym (eqb-true _ _ hit)) | inr miss ↦ let g = rw miss at e in absurd cc ]
  no_line-reads (Droc role preload feed q n) cell_state e =
      elim (cases_Bool (wire == feed.number)) [ inl hit ↦ inl (sym (eqb-true _ _ hit)) | inr miss ↦ let g = rw miss at e in absurd cc ]

-- an upset shows that something is pending and that the reactions have no line
upset-shows : (net : PlainNetlist) (state : State) (wire : ℕ) → deliver net state wire ≡ Upset
    → (state.pending wire ≡ 0 → ⊥) × (reactions net.cells state.cell_states wire ≡ None)
upset-shows net state wire e = elim (cases_Bool (state.pending wire == 0)) [
  | inl none ↦ let g = rw none at e in absurd cc
  | inr some ↦
      let g : moved net state wire (reactions net.cells state.cell_states wire) ≡ Upset = rw some at e in
      (λ zero_is. let hit = eq-eqb (state.pending wire) 0 zero_is in cc, only_none (reactions net.cells state.cell_states wire) g)
]
  where
    only_none : (o : Option Reactions) → moved net state wire o ≡ Upset → o ≡ None
    only_none None g = refl
    only_none (Some reacted) g = absurd cc

pub upsets_are_of_cells : UpsetsAreOfCells
upsets_are_of_cells net state wire len = (
  λ upset.
      let shown = upset-shows net state wire upset in
      let found = no_line-found wire net.cells state.cell_states len shown.1 in (
        found.0,
        record {
          pending = shown.0;
          cell = found.1.cell;
          at = found.1.at;
          cell_state = found.1.cell_state;
          state_at = found.1.state_at;
          no_line = found.1.no_line;
        },
      ),
  λ found.
      let h = found.1 in
      let some = ne_eqb (state.pending wire) 0 h.pending in
      let none = no_line-tells wire found.0 net.cells state.cell_states
      (record { cell = h.cell; at = h.at; cell_state = h.cell_state; state_at = h.state_at; no_line = h.no_line }) in
      rw (some, none) refl,
)

-- a list of at most one item that holds this one
only_one : {X : Type 0} (xs : List X) (x : X) → length xs ≤ 1 → IsIn x xs → xs ≡ x ∷ []
only_one [] x few h = absurd h
only_one (y ∷ []) x few (inl e) = ap (λ z. z ∷ []) e
only_one (y ∷ []) x few (inr none) = absurd none
only_one (y ∷ z ∷ xs) x few h = absurd (omega arith)

first_cell-is : (reader : Reader) (c : ℕ) → IsReaderOf reader c → first_cell (reader ∷ []) ≡ c
first_cell-is (A id) c own = own
first_cell-is (B id) c own = own
first_cell-is (From id) c own = own
first_cell-is (Feed id) c own = own
first_cell-is (Output id) c own = absurd own

pub reading_cells_are_upset : ReadingCellsAreUpset
reading_cells_are_upset net wired state wire c h =
    let its = read-reader net (numbered wire) c h.cell h.at (no_line-reads wire h.cell h.cell_state h.no_line) in
    let among = (reader-is net (numbered wire) its.0).1 its.2 in
    let count = readers-count net wire in
    let few = read_once net wired wire in
    let one = only_one (readers net wire) its.0 (omega arith) among in
    (its.0, one, its.1, ap first_cell one ∙ first_cell-is its.0 c its.1)
