-- Each logical line leaves what is bounded.
use Rattle.std.proofs.Common.{◌≡◌, ℕ, ◌+◌, ◌≤◌, ◌==◌, ◌||◌, Bool, true, false, not, cond, List, [], ◌∷◌, length, Option, Some, None, Ok, All, refl, sym, ap, subst, arith}
use Rattle.std.specs.Prelude.{◌&&◌}
use Rattle.std.specs.Bool.{beq}
use Rattle.std.proofs.lemmas.List.Elements.{All-nil, All-cons, All-head, All-tail, All-push, All-weaker}
use Rattle.pulse_ids.specs.Quantities.{greatest_of}
use Rattle.pulse_ids.specs.Names.{IsPortName}
use Rattle.pulse_ids.specs.declared.quantities.Quantity.TheVariants as quantities
use Rattle.numbered_names.specs.Names.{number_for}
use Rattle.word_scan.proofs.CallerLemmasLogical.{IsPlainWord}
use Rattle.source_machine.specs.Machines.{PlainLiteral, PlainEquation, PlainMachine}
use Rattle.source_machine.specs.Fitting.{Fits, EquationFits, LiteralFits, IsNumbered, size_of, size_of_cubes}
use Rattle.source_machine.specs.Additions.{with_nets, with_input, with_output}
use Rattle.source_machine.proofs.CallerLemmas.{bare_fits, bare_equation_fits, more_cube_fits, size_of_cubes-last, size_of_equations-last, more_nets_fit, more_input_fits, more_output_fits}
use Rattle.source_machine.proofs.CallerLemmas.{more_equation_fits}
use Rattle.blif_reader.specs.declared.refusals.LineRefusal.TheVariants as line_refusals
use Rattle.blif_reader.specs.declared.refusals.BlifCause.TheVariants as causes
use Rattle.blif_reader.specs.Rows.{cares_in, literals_of}
use Rattle.blif_reader.specs.States.{BlifState, OpenEquation, nothing_read, closed, with_open, with_column}
use Rattle.blif_reader.specs.Statements.{input_read, output_read, column_read, has_rows, bit_added, with_row}
use Rattle.blif_reader.specs.Latches.{net_read}
use Rattle.blif_reader.specs.Refusing.{after, over}
use Rattle.blif_reader.specs.Bounds.{OpenFits, size_of_open, IsBounded}
use Rattle.blif_reader.proofs.Inversions.{allowed, over_ok, after_ok, net_is_read}

-- nothing is read
pub nothing_bounded : IsBounded nothing_read
nothing_bounded = record { few = omega arith; fits = bare_fits 0 (omega arith); open_fits = tt; size = refl; small = omega arith }

sizes : {a b s t : ℕ} (u v : ℕ) → a ≡ b → u ≡ v → s ≡ t → b + v ≡ t → a + u ≡ s
sizes u v e f g h = omega (arith, e, f, g, h)

-- what keeps nets, machine, open equation and size is as bounded
pub kept_bounded : (old new : BlifState) → new.nets ≡ old.nets → new.machine ≡ old.machine → new.unended ≡ old.unended → new.size ≡ old.size → IsBounded old → IsBounded new
kept_bounded old new nets machine unended size bounded =
    let n : length new.nets ≡ length old.nets = ap length nets in
    record {
      few = omega (arith, n, bounded.few);
      fits = subst (λ k. Fits (with_nets new.machine k)) (sym n) (subst (λ (m : PlainMachine). Fits (with_nets m (length old.nets))) (sym machine) bounded.fits);
      open_fits = subst (λ k. OpenFits k new.unended) (sym n) (subst (λ (u : Option OpenEquation). OpenFits (length old.nets) u) (sym unended) bounded.open_fits);
      size = sizes (size_of_open new.unended) (size_of_open old.unended) (ap size_of machine) (ap size_of_open unended) size bounded.size;
      small = omega (arith, size, bounded.small);
    }

numbered_more : (old new net : ℕ) → old ≤ new → IsNumbered old net → IsNumbered new net
numbered_more old new net le h = (h.0, omega (arith, h.1))

literal_more : (old new : ℕ) (literal : PlainLiteral) → old ≤ new → LiteralFits old literal → LiteralFits new literal
literal_more old new literal le h = omega (arith, h)

equation_more : (old new : ℕ) (equation : PlainEquation) → old ≤ new → EquationFits old equation → EquationFits new equation
equation_more old new equation le h = (
  numbered_more old new equation.net le h.0,
  All-weaker (All (LiteralFits old)) (All (LiteralFits new)) (λ cube k. All-weaker (LiteralFits old) (LiteralFits new) (λ l j. literal_more old new l le j) cube k) equation.cubes h.1,
)

pub open_more : (old new : ℕ) (unended : Option OpenEquation) → old ≤ new → OpenFits old unended → OpenFits new unended
open_more old new None le h = tt
open_more old new (Some unended) le h =
    (equation_more old new unended.equation le h.0, All-weaker (IsNumbered old) (IsNumbered new) (λ net k. numbered_more old new net le k) unended.columns h.1)

-- more nets
pub nets_bounded : (state : BlifState) (nets : List (List ℕ)) → length state.nets ≤ length nets → length nets ≤ greatest_of quantities.Nets → IsBounded state → IsBounded (record state { nets = nets })
nets_bounded state nets grows few bounded = record {
  few = few;
  fits = more_nets_fit (with_nets state.machine (length state.nets)) bounded.fits (length nets) grows few;
  open_fits = open_more (length state.nets) (length nets) state.unended grows bounded.open_fits;
  size = bounded.size;
  small = bounded.small;
}

port_name : (name : List ℕ) → IsPlainWord name → length name ≤ greatest_of quantities.NameBytes → IsPortName name
port_name name plain short = record { not_empty = plain.0; not_long = short; no_line_feed = plain.1 }

pub input_bounded : (state next : BlifState) (name : List ℕ) → IsBounded state → IsPlainWord name → input_read state name ≡ Ok next → IsBounded next
input_bounded state next name bounded plain h =
    let short = over_ok quantities.NameBytes (length name) _ next h in
    let net = after_ok (net_read state.nets name) _ next short.1 in
    let nets : List (List ℕ) = net.0 in
    let read = net_is_read state.nets nets name bounded.few net.1 in
    let port = over_ok quantities.Inputs (length state.machine.inputs + 1) _ next net.2 in
    let more = nets_bounded state nets read.grows read.few bounded in
    let new : BlifState = record state { nets = nets; machine = with_input state.machine (number_for state.nets name) (Some name) } in
    let is : new ≡ next = let k = port.1 in cc in
    subst (λ (s : BlifState). IsBounded s) is (record {
      few = read.few;
      fits = more_input_fits (with_nets state.machine (length nets)) more.fits (number_for state.nets name) (Some name) (read.least, read.most) (port_name name plain short.0) (omega (arith, port.0));
      open_fits = more.open_fits;
      size = bounded.size;
      small = bounded.small;
    })

pub output_bounded : (state next : BlifState) (name : List ℕ) → IsBounded state → IsPlainWord name → output_read state name ≡ Ok next → IsBounded next
output_bounded state next name bounded plain h =
    let short = over_ok quantities.NameBytes (length name) _ next h in
    let net = after_ok (net_read state.nets name) _ next short.1 in
    let nets : List (List ℕ) = net.0 in
    let read = net_is_read state.nets nets name bounded.few net.1 in
    let port = over_ok quantities.Outputs (length state.machine.outputs + 1) _ next net.2 in
    let more = nets_bounded state nets read.grows read.few bounded in
    let literal : PlainLiteral = record { net = number_for state.nets name; negated = false } in
    let new : BlifState = record state { nets = nets; machine = with_output state.machine literal (Some name) } in
    let is : new ≡ next = let k = port.1 in cc in
    subst (λ (s : BlifState). IsBounded s) is (record {
      few = read.few;
      fits = more_output_fits (with_nets state.machine (length nets)) more.fits literal (Some name) read.most (port_name name plain short.0) (omega (arith, port.0));
      open_fits = more.open_fits;
      size = bounded.size;
      small = bounded.small;
    })

column_fits : (old nets net : ℕ) (unended : Option OpenEquation) → IsNumbered nets net → OpenFits nets unended
    → OpenFits nets (Some (with_column unended net)) × (size_of_cubes (with_column unended net).equation.cubes ≡ size_of_open unended)
column_fits old nets net None numbered fits = ((bare_equation_fits nets net true numbered, All-nil (IsNumbered nets)), refl)
column_fits old nets net (Some unended) numbered fits =
    (((numbered, fits.0.1), All-push (IsNumbered nets) unended.columns unended.equation.net fits.1 fits.0.0), refl)

pub column_bounded : (state next : BlifState) (name : List ℕ) → IsBounded state → IsPlainWord name → column_read state name ≡ Ok next → IsBounded next
column_bounded state next name bounded plain h =
    let short = over_ok quantities.NameBytes (length name) _ next h in
    let net = after_ok (net_read state.nets name) _ next short.1 in
    let nets : List (List ℕ) = net.0 in
    let read = net_is_read state.nets nets name bounded.few net.1 in
    let more = nets_bounded state nets read.grows read.few bounded in
    let new : BlifState = record state { nets = nets; unended = Some (with_column state.unended (number_for state.nets name)) } in
    let is : new ≡ next = let k = net.2 in cc in
    let column = column_fits 0 (length nets) (number_for state.nets name) state.unended (read.least, read.most) more.open_fits in
    subst (λ (s : BlifState). IsBounded s) is (record {
      few = read.few;
      fits = more.fits;
      open_fits = column.0;
      size = omega (arith, column.1, bounded.size);
      small = bounded.small;
    })

-- the last equation's rows have ended
closed_by : (state : BlifState) → IsBounded state → (unended : Option OpenEquation) → state.unended ≡ unended
    → IsBounded (record state { machine = with_open unended state.machine; unended = None })
closed_by state bounded None is = record {
  few = bounded.few;
  fits = bounded.fits;
  open_fits = tt;
  size = sizes 0 (size_of_open state.unended) refl (ap size_of_open (sym is)) refl bounded.size;
  small = bounded.small;
}
closed_by state bounded (Some unended) is =
    let fits : OpenFits (length state.nets) (Some unended) = subst (λ (u : Option OpenEquation). OpenFits (length state.nets) u) is bounded.open_fits in
    let size : size_of state.machine + size_of_cubes unended.equation.cubes ≡ state.size = subst (λ (u : Option OpenEquation). size_of state.machine + size_of_open u ≡ state.size) is bounded.size in
    let last = size_of_equations-last state.machine.equations unended.equation in
    record {
      few = bounded.few;
      fits = more_equation_fits (with_nets state.machine (length state.nets)) bounded.fits unended.equation fits.0 (omega (arith, size, bounded.small));
      open_fits = tt;
      size = omega (arith, size, last);
      small = bounded.small;
    }

pub closed_bounded : (state : BlifState) → IsBounded state → IsBounded (closed state)
closed_bounded state bounded = closed_by state bounded state.unended refl

-- the machine of closed lines fits
pub whole_fits : (state after : BlifState) (machine : PlainMachine) (nets : List (List ℕ)) → IsBounded state → after ≡ closed state → after.machine ≡ machine
    → after.nets ≡ nets → Fits (with_nets machine (length nets))
whole_fits state after machine nets bounded is same names =
    let fits : Fits (with_nets after.machine (length after.nets)) = subst (λ (s : BlifState). Fits (with_nets s.machine (length s.nets))) (sym is) (closed_bounded state bounded).fits in
    subst (λ (m : PlainMachine). Fits (with_nets m (length nets))) same (subst (λ (n : List (List ℕ)). Fits (with_nets after.machine (length n))) names fits)

literal_fits : (a b : Bool) (nets net : ℕ) (more : List PlainLiteral) → IsNumbered nets net → All (LiteralFits nets) more
    → All (LiteralFits nets) (cond a (record { net = net; negated = false } ∷ more) (cond b (record { net = net; negated = true } ∷ more) more))
literal_fits true b nets net more numbered rest = All-cons (LiteralFits nets) (record { net = net; negated = false }) more numbered.1 rest
literal_fits false true nets net more numbered rest = All-cons (LiteralFits nets) (record { net = net; negated = true }) more numbered.1 rest
literal_fits false false nets net more numbered rest = rest

literals_fit : (nets : ℕ) (columns marks : List ℕ) → All (IsNumbered nets) columns → All (LiteralFits nets) (literals_of columns marks)
literals_fit nets [] marks numbered = All-nil (LiteralFits nets)
literals_fit nets (net ∷ columns) [] numbered = All-nil (LiteralFits nets)
literals_fit nets (net ∷ columns) (mark ∷ marks) numbered =
    literal_fits (mark == 49) (mark == 48) nets net (literals_of columns marks) (All-head (IsNumbered nets) net columns numbered)
    (literals_fit nets columns marks (All-tail (IsNumbered nets) net columns numbered))

one_counted : (a b : Bool) (net cares : ℕ) (more : List PlainLiteral) → length more ≡ cares
    → length (cond a (record { net = net; negated = false } ∷ more) (cond b (record { net = net; negated = true } ∷ more) more)) ≡ cond (b || a) 1 0 + cares
one_counted true true net cares more e = omega (arith, e)
one_counted true false net cares more e = omega (arith, e)
one_counted false true net cares more e = omega (arith, e)
one_counted false false net cares more e = omega (arith, e)

-- as many literals as marks that give them
literals_count : (nets marks : List ℕ) → length nets ≡ length marks → length (literals_of nets marks) ≡ cares_in marks
literals_count [] [] e = refl
literals_count [] (mark ∷ marks) e = absurd (omega arith)
literals_count (net ∷ nets) [] e = absurd (omega arith)
literals_count (net ∷ nets) (mark ∷ marks) e =
    one_counted (mark == 49) (mark == 48) net (cares_in marks) (literals_of nets marks) (literals_count nets marks (omega arith))

pub bit_bounded : (state next : BlifState) (unended : OpenEquation) (marks : List ℕ) (bit : Option Bool) → IsBounded state → state.unended ≡ Some unended
    → length unended.columns ≡ length marks → bit_added state unended marks bit ≡ Ok next → IsBounded next
bit_bounded state next unended marks None bounded is same h = absurd cc
bit_bounded state next unended marks (Some bit) bounded is same h =
    let new : BlifState = record state { size = state.size + (1 + cares_in marks); unended = Some (with_row unended bit marks) } in
    let right = allowed (has_rows unended.equation.cubes && not (beq unended.equation.on bit)) (line_refusals.Cause causes.MixedCover)
    (over quantities.Size (state.size + (1 + cares_in marks)) (Ok new)) next h in
    let size = over_ok quantities.Size (state.size + (1 + cares_in marks)) (Ok new) next right.1 in
    let same_state : new ≡ next = let k = size.1 in cc in
    let fits : OpenFits (length state.nets) (Some unended) = subst (λ (u : Option OpenEquation). OpenFits (length state.nets) u) is bounded.open_fits in
    let before : size_of state.machine + size_of_cubes unended.equation.cubes ≡ state.size = subst (λ (u : Option OpenEquation). size_of state.machine + size_of_open u ≡ state.size) is bounded.size in
    let last = size_of_cubes-last unended.equation.cubes (literals_of unended.columns marks) in
    let count = literals_count unended.columns marks same in
    subst (λ (s : BlifState). IsBounded s) same_state (record {
      few = bounded.few;
      fits = bounded.fits;
      open_fits = (
        more_cube_fits (length state.nets) (record unended.equation { on = bit }) (literals_of unended.columns marks) fits.0
            (literals_fit (length state.nets) unended.columns marks fits.1),
        fits.1,
      );
      size = omega (arith, before, last, count);
      small = size.0;
    })
