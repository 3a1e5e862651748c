-- Where the backs stand among cells.
use Rattle.std.proofs.Common.{◌≡◌, ◌<◌, ◌≤◌, ◌+◌, inl, inr, ℕ, zero, suc, Bool, true, false, Some, List, [], ◌∷◌, ◌++◌, map, length, slice_get, if◌then◌else◌, ap, sym, subst, ◌∙◌, refl, arith}
use Rattle.std.proofs.Common.{append_assoc, append-nil}
use Rattle.std.specs.List.{flat_map}
use Rattle.pulse_ids.specs.Ids.{WireId, numbered}
use Rattle.pulse_ids.specs.Lists.{IsIn}
use Rattle.cell_netlist.specs.declared.kinds.Role.TheVariants.{Front, Back, Const}
use Rattle.cell_netlist.specs.declared.kinds.Version.{Version}
use Rattle.cell_netlist.specs.declared.kinds.Version.TheVariants.{One, Two}
use Rattle.cell_netlist.specs.declared.lines.Cell.{Cell}
use Rattle.cell_netlist.specs.declared.lines.Cell.TheVariants.{La, Fa, Split, Droc}
use Rattle.cell_netlist.specs.declared.lines.StateLine.{StateLine}
use Rattle.cell_netlist.specs.Decisions.{is_back}
use Rattle.cell_netlist.specs.Netlists.{PlainNetlist, with_feed, cells_with_feed}
use Rattle.cell_netlist.specs.Sound.{IsNamedBefore}
use Rattle.splitter_trees.specs.Spreading.{IsSplitter}
use Rattle.rail_mapper.specs.Cells.{role_in}
use Rattle.rail_mapper.specs.StateLines.{line_if, lines_of, in_two, backs_from}

-- of one list and then another
pub backs-append : (place : ℕ) (cells more : List Cell) → backs_from place (cells ++ more) ≡ backs_from place cells ++ backs_from (place + length cells) more
backs-append place [] more = let z : place ≡ place + 0 = omega arith in ap (λ (k : ℕ). backs_from k more) z
backs-append place (cell ∷ cells) more =
    let here : List ℕ = if is_back cell then place ∷ [] else [] in
    let z : place + 1 + length cells ≡ place + suc (length cells) = omega arith in
    ap (λ (l : List ℕ). here ++ l) (backs-append (place + 1) cells more ∙ ap (λ (k : ℕ). backs_from (place + 1) cells ++ backs_from k more) z)
    ∙ sym (append_assoc here (backs_from (place + 1) cells) (backs_from (place + suc (length cells)) more))

-- cells none of which has the role of a back
pub backs_none : (place : ℕ) (cells : List Cell) → (IsIn Back (flat_map role_in cells) → ⊥) → backs_from place cells ≡ []
backs_none place [] none = refl
backs_none place ((La a b out) ∷ cells) none = backs_none (place + 1) cells none
backs_none place ((Fa a b out) ∷ cells) none = backs_none (place + 1) cells none
backs_none place ((Split from left right) ∷ cells) none = backs_none (place + 1) cells none
backs_none place ((Droc Front preload feed q n) ∷ cells) none = backs_none (place + 1) cells (λ m. none (inr m))
backs_none place ((Droc Back preload feed q n) ∷ cells) none = absurd (none (inl refl))
backs_none place ((Droc Const preload feed q n) ∷ cells) none = backs_none (place + 1) cells (λ m. none (inr m))

-- splitters have no role
pub no_back : (cells : List Cell) → ((cell : Cell) → IsIn cell cells → IsSplitter cell) → IsIn Back (flat_map role_in cells) → ⊥
no_back [] all m = m
no_back ((La a b out) ∷ cells) all m = all (La a b out) (inl refl)
no_back ((Fa a b out) ∷ cells) all m = all (Fa a b out) (inl refl)
no_back ((Split from left right) ∷ cells) all m = no_back cells (λ cell n. all cell (inr n)) m
no_back ((Droc role preload feed q n) ∷ cells) all m = all (Droc role preload feed q n) (inl refl)

-- more cells without a back
pub backs_stay : (cells more : List Cell) → (IsIn Back (flat_map role_in more) → ⊥) → backs_from 0 (cells ++ more) ≡ backs_from 0 cells
backs_stay cells more none =
    backs-append 0 cells more ∙ ap (λ (l : List ℕ). backs_from 0 cells ++ l) (backs_none (0 + length cells) more none) ∙ append-nil (backs_from 0 cells)

-- another feed
fed_back : (wire : WireId) (cell : Cell) → is_back (with_feed wire cell) ≡ is_back cell
fed_back wire (La a b out) = refl
fed_back wire (Fa a b out) = refl
fed_back wire (Split from left right) = refl
fed_back wire (Droc Front preload feed q n) = refl
fed_back wire (Droc Back preload feed q n) = refl
fed_back wire (Droc Const preload feed q n) = refl

pub backs_fed : (place at : ℕ) (wire : WireId) (cells : List Cell) → backs_from place (cells_with_feed at wire cells) ≡ backs_from place cells
backs_fed place at wire [] = refl
backs_fed place zero wire (cell ∷ cells) = ap (λ (b : Bool). (if b then place ∷ [] else []) ++ backs_from (place + 1) cells) (fed_back wire cell)
backs_fed place (suc at) wire (cell ∷ cells) = ap (λ (l : List ℕ). (if is_back cell then place ∷ [] else []) ++ l) (backs_fed (place + 1) at wire cells)

-- the places rise
abbrev Rises : ℕ → List ℕ → Type 0
Rises low [] = Unit
Rises low (n ∷ ns) = (low ≤ n) × Rises (n + 1) ns

rises_on : (low high : ℕ) (ns : List ℕ) → low ≤ high → Rises high ns → Rises low ns
rises_on low high [] le h = tt
rises_on low high (n ∷ ns) le h = (omega (arith, le, h.0), h.1)

backs_rise : (place : ℕ) (cells : List Cell) → Rises place (backs_from place cells)
backs_rise place [] = tt
backs_rise place (cell ∷ cells) = by (is_back cell) (backs_rise (place + 1) cells)
  where
    by : (b : Bool) → Rises (place + 1) (backs_from (place + 1) cells) → Rises place ((if b then place ∷ [] else []) ++ backs_from (place + 1) cells)
    by true h = (omega arith, h)
    by false h = rises_on place (place + 1) (backs_from (place + 1) cells) (omega arith) h

rising_least : (low : ℕ) (ns : List ℕ) (k n : ℕ) → Rises low ns → slice_get ns k ≡ Some n → low ≤ n
rising_least low [] k n h e = absurd cc
rising_least low (first ∷ ns) zero n h e = let same : first ≡ n = cc in omega (arith, same, h.0)
rising_least low (first ∷ ns) (suc k) n h e = let r = rising_least (first + 1) ns k n h.1 e in omega (arith, r, h.0)

rising_apart : (low : ℕ) (ns : List ℕ) (first later n : ℕ) → Rises low ns → first < later → slice_get ns first ≡ Some n → slice_get ns later ≡ Some n → ⊥
rising_apart low [] first later n h lt e f = cc
rising_apart low (m ∷ ns) zero zero n h lt e f = omega (arith, lt)
rising_apart low (m ∷ ns) zero (suc later) n h lt e f = let same : m ≡ n = cc in let r = rising_least (m + 1) ns later n h.1 f in omega (arith, same, r)
rising_apart low (m ∷ ns) (suc first) zero n h lt e f = omega (arith, lt)
rising_apart low (m ∷ ns) (suc first) (suc later) n h lt e f = rising_apart (m + 1) ns first later n h.1 (omega (arith, lt)) e f

mapped_at : {X Y : Type 0} (f : X → Y) (xs : List X) (k : ℕ) (x : X) → slice_get xs k ≡ Some x → slice_get (map f xs) k ≡ Some (f x)
mapped_at f [] k x e = absurd cc
mapped_at f (y ∷ xs) zero x e = let same : y ≡ x = cc in ap (λ z. Some (f z)) same
mapped_at f (y ∷ xs) (suc k) x e = mapped_at f xs k x e

-- state lines on rising places name no cell twice
pub rising_states : (net : PlainNetlist) (version : Version) → map (λ (line : StateLine). line.cell.number) net.states ≡ in_two version (backs_from 0 net.cells)
    → (k : ℕ) (line : StateLine) → slice_get net.states k ≡ Some line → IsNamedBefore net k line → ⊥
rising_states net version same k line at_line (first, earlier, lt, at_earlier, alike) =
    let cell : StateLine → ℕ = λ line. line.cell.number in
    rising_apart 0 (map cell net.states) first k line.cell.number (subst (Rises 0) (sym same) (rise version)) lt
    (mapped_at cell net.states first earlier at_earlier ∙ ap (λ (n : ℕ). Some n) alike) (mapped_at cell net.states k line at_line)
  where
    rise : (version : Version) → Rises 0 (in_two version (backs_from 0 net.cells))
    rise One = tt
    rise Two = backs_rise 0 net.cells

-- one pair more has one line more
pub lines_next : (version : Version) (pairs : List (ℕ × ℕ)) (place latch : ℕ)
    → lines_of version pairs ++ line_if version latch place ≡ lines_of version (pairs ++ (let half : ℕ × ℕ = (place, latch) in half) ∷ [])
lines_next One pairs place latch = refl
lines_next Two [] place latch = refl
lines_next Two (pair ∷ pairs) place latch = ap (λ (l : List StateLine). record { latch = pair.1; cell = numbered pair.0 } ∷ l) (lines_next Two pairs place latch)

-- what the lines of pairs name
pub line_pair : (version : Version) (pairs : List (ℕ × ℕ)) (line : StateLine) → IsIn line (lines_of version pairs) → IsIn {X = ℕ × ℕ} (line.cell.number, line.latch) pairs
line_pair One pairs line m = absurd m
line_pair Two [] line m = absurd m
line_pair Two (pair ∷ pairs) line (inl e) = inl (ap (λ (l : StateLine). let its : ℕ × ℕ = (l.cell.number, l.latch) in its) e)
line_pair Two (pair ∷ pairs) line (inr m) = inr (line_pair Two pairs line m)

pub lines_latches : (version : Version) (pairs : List (ℕ × ℕ)) → map (λ (line : StateLine). line.latch) (lines_of version pairs) ≡ in_two version (map (λ (pair : ℕ × ℕ). pair.1) pairs)
lines_latches One pairs = refl
lines_latches Two [] = refl
lines_latches Two (pair ∷ pairs) = ap (λ (l : List ℕ). pair.1 ∷ l) (lines_latches Two pairs)

pub lines_cells : (version : Version) (pairs : List (ℕ × ℕ)) → map (λ (line : StateLine). line.cell.number) (lines_of version pairs) ≡ in_two version (map (λ (pair : ℕ × ℕ). pair.0) pairs)
lines_cells One pairs = refl
lines_cells Two [] = refl
lines_cells Two (pair ∷ pairs) = ap (λ (l : List ℕ). pair.0 ∷ l) (lines_cells Two pairs)
