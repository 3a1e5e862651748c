-- State lines of rising latches fit behind those that were read.
use Rattle.std.proofs.Common.{◌≡◌, ◌≤◌, ◌<◌, ◌+◌, ◌-◌, ℕ, zero, suc, ltb, cond, true, false, Bool, Option, Some, None, List, [], ◌∷◌, length, slice_get, refl, sym, subst, inl, inr, arith}
use Rattle.std.proofs.lemmas.Bool.{lt-ltb, ltb-true}
use Rattle.std.proofs.lemmas.Option.{slice_get_within}
use Rattle.pulse_ids.specs.Lists.{IsIn}
use Rattle.pulse_ids.proofs.CallerLemmas.{IsIn-behind}
use Rattle.pulse_ids.specs.Quantities.{greatest_of}
use Rattle.pulse_ids.specs.declared.quantities.Quantity.{Quantity}
use Rattle.pulse_ids.specs.declared.quantities.Quantity.TheVariants.{Latches}
use Rattle.cell_netlist.specs.declared.kinds.Version.{Version}
use Rattle.cell_netlist.specs.declared.kinds.Version.TheVariants.{One, Two}
use Rattle.cell_netlist.specs.declared.lines.StateLine.{StateLine}
use Rattle.cell_netlist.specs.Netlists.{PlainNetlist}
use Rattle.cell_netlist.specs.States.{AreStatesFrom, AreStatesOf, IsAboveStates}
use Rattle.cell_netlist.specs.Text.{state_words}
use Rattle.netlist_reader.specs.declared.statements.Statement.TheVariants.{State}
use Rattle.netlist_reader.specs.Limits.{over_latch}
use Rattle.netlist_reader.specs.Places.{is_above_states, fits_version, fits_behind}
use Rattle.netlist_reader.specs.Building.{with_statement}
use Rattle.netlist_reader.proofs.Bools.{and_parts, and_true}
use Rattle.netlist_reader.proofs.PortNames.{last_by}
use Rattle.netlist_reader.proofs.WrittenLines.{spaced}

-- a latch that is above all, as a test and as a fact
is_above-from : (latch : ℕ) (lines : List StateLine) → IsAboveStates latch lines → is_above_states latch lines ≡ true
is_above-from latch [] f = refl
is_above-from latch (first ∷ lines) f = rw (lt-ltb first.latch latch (f first (inl refl)), is_above-from latch lines (λ l h. f l (inr h))) refl

is_above-at : (latch : ℕ) (lines : List StateLine) → is_above_states latch lines ≡ true → IsAboveStates latch lines
is_above-at latch [] h line i = absurd i
is_above-at latch (first ∷ lines) h line (inl e) =
    subst (λ (l : StateLine). l.latch < latch) e (ltb-true _ _ (and_parts (ltb first.latch latch) (is_above_states latch lines) h).0)
is_above-at latch (first ∷ lines) h line (inr i) = is_above-at latch lines (and_parts (ltb first.latch latch) (is_above_states latch lines) h).1 line i

-- a state line that fits: the version is two, and its latch is above all
pub fits_two : (version : Version) (latch : ℕ) (lines : List StateLine) → fits_version version latch lines ≡ true → version ≡ Two
fits_two One latch lines h = absurd cc
fits_two Two latch lines h = refl

pub fits_above_states : (version : Version) (latch : ℕ) (lines : List StateLine) → fits_version version latch lines ≡ true → IsAboveStates latch lines
fits_above_states One latch lines h = absurd cc
fits_above_states Two latch lines h = is_above-at latch lines h

-- a latch within the limit
pub within_limit : (latch : ℕ) → over_latch latch ≡ None → latch < greatest_of Latches
within_limit latch h = by (ltb latch (greatest_of Latches)) refl h
  where
    by : (b : Bool) → ltb latch (greatest_of Latches) ≡ b → ◌≡◌ {A = Option Quantity} (cond b None (Some Latches)) None → latch < greatest_of Latches
    by true e h = ltb-true _ _ e
    by false e h = absurd cc

-- the last of rising latches decides whether a latch is above all
last_from : (low latch : ℕ) (lines : List StateLine) (last : StateLine) (i : ℕ) → AreStatesFrom low lines → suc i ≡ length lines
    → slice_get lines i ≡ Some last → (low ≤ last.latch) × (is_above_states latch lines ≡ ltb last.latch latch)
last_from low latch [] last i rise e get = absurd (omega arith)
last_from low latch (line ∷ []) last zero rise e get =
    let same : line ≡ last = cc in
    subst (λ (l : StateLine). (low ≤ l.latch) × (is_above_states latch (line ∷ []) ≡ ltb l.latch latch)) same (rise.0, and_true (ltb line.latch latch))
last_from low latch (line ∷ []) last (suc i) rise e get = absurd (omega arith)
last_from low latch (line ∷ next ∷ lines) last zero rise e get = absurd (omega arith)
last_from low latch (line ∷ next ∷ lines) last (suc i) rise e get =
    let r = last_from (line.latch + 1) latch (next ∷ lines) last i rise.3 (omega arith) get in
    (omega (arith, rise.0, r.0), last_by line.latch last.latch latch (ltb last.latch latch) (is_above_states latch (next ∷ lines)) (omega (arith, r.0)) refl r.1)

pub last_state_decides : (version : Version) (latch : ℕ) (lines : List StateLine) (last : StateLine) → AreStatesOf version lines
    → slice_get lines (length lines - 1) ≡ Some last → ltb last.latch latch ≡ is_above_states latch lines
last_state_decides One latch lines last none get = absurd (let gone : slice_get [] 0 ≡ Some last = subst (λ (l : List StateLine). slice_get l (length l - 1) ≡ Some last) none get in cc)
last_state_decides Two latch lines last rise get =
    let within = slice_get_within lines (length lines - 1) last get in
    sym (last_from 0 latch lines last (length lines - 1) rise (omega arith) get).1

-- what is to be read fits behind what was read
abbrev pub StatesFit : List StateLine → PlainNetlist → Type 0
StatesFit [] net = Unit
StatesFit (line ∷ lines) net = (net.version ≡ Two) × (low : ℕ) × AreStatesFrom low (line ∷ lines) × ((earlier : StateLine) → IsIn earlier net.states → earlier.latch < low)

pub state_now : (line : StateLine) (lines : List StateLine) (net : PlainNetlist) → StatesFit (line ∷ lines) net → fits_behind net (State line) ≡ true
state_now line lines net fits = rw fits.0 (is_above-from line.latch net.states (λ earlier h. omega (arith, fits.3 earlier h, fits.2.0)))

pub state_next : (line : StateLine) (lines : List StateLine) (net : PlainNetlist) → StatesFit (line ∷ lines) net → StatesFit lines (with_statement (spaced (state_words line)) (State line) net)
state_next line [] net fits = tt
state_next line (next ∷ lines) net fits = (
  fits.0,
  line.latch + 1,
  fits.2.3,
  λ earlier h. elim (IsIn-behind earlier line net.states h) [
    | inl i ↦ omega (arith, fits.3 earlier i, fits.2.0)
    | inr e ↦ subst (λ (l : StateLine). l.latch < line.latch + 1) e (omega arith)
  ],
)

-- all state lines fit behind none
pub states_fit_first : (version : Version) (lines : List StateLine) (net : PlainNetlist) → AreStatesOf version lines → net.version ≡ version → net.states ≡ [] → StatesFit lines net
states_fit_first One lines net none same empty = subst (λ (l : List StateLine). StatesFit l net) (sym none) tt
states_fit_first Two [] net rise same empty = tt
states_fit_first Two (line ∷ lines) net rise same empty = (same, 0, rise, λ earlier h. absurd (subst (λ (l : List StateLine). IsIn earlier l) empty h))
