-- Names of rising ports fit behind those that were read.
use Rattle.std.proofs.Common.{◌≡◌, ℕ, ◌+◌, ◌<◌, ◌&&◌, ltb, true, List, [], ◌∷◌, ◌++◌, codes, refl, subst, inl, inr, arith}
use Rattle.std.proofs.lemmas.Bool.{lt-ltb}
use Rattle.pulse_ids.specs.Lists.{IsIn}
use Rattle.pulse_ids.proofs.CallerLemmas.{IsIn-behind}
use Rattle.cell_netlist.specs.Netlists.{PlainNetlist}
use Rattle.cell_netlist.specs.Names.{AreNamesFrom}
use Rattle.cell_netlist.specs.Text.{name_words}
use Rattle.netlist_reader.specs.declared.statements.Statement.TheVariants.{InputName, OutputName}
use Rattle.netlist_reader.specs.Places.{is_above, fits_behind}
use Rattle.netlist_reader.specs.Building.{with_statement}
use Rattle.netlist_reader.proofs.WrittenLines.{spaced}

-- the ports named so far are below those of further names
abbrev FitBehind : ℕ → List (ℕ × List ℕ) → List (ℕ × List ℕ) → Type 0
FitBehind ports before names = (low : ℕ) × AreNamesFrom low ports names × ((named : ℕ × List ℕ) → IsIn named before → named.0 < low)

is_above-from : (port : ℕ) (names : List (ℕ × List ℕ)) → ((named : ℕ × List ℕ) → IsIn named names → named.0 < port) → is_above port names ≡ true
is_above-from port [] f = refl
is_above-from port (first ∷ names) f = rw (lt-ltb first.0 port (f first (inl refl)), is_above-from port names (λ n h. f n (inr h))) refl

fits_now : (ports : ℕ) (before names : List (ℕ × List ℕ)) (named : ℕ × List ℕ) → FitBehind ports before (named ∷ names) → (ltb named.0 ports && is_above named.0 before) ≡ true
fits_now ports before names named fits =
    rw (lt-ltb named.0 ports fits.1.1, is_above-from named.0 before (λ n h. omega (arith, fits.2 n h, fits.1.0))) refl

fits_next : (ports : ℕ) (before names : List (ℕ × List ℕ)) (named : ℕ × List ℕ) (name : List ℕ) → FitBehind ports before (named ∷ names) → FitBehind ports (before ++ (named.0, name) ∷ []) names
fits_next ports before names named name fits = (
  named.0 + 1,
  fits.1.3,
  λ n h. elim (IsIn-behind n (named.0, name) before h) [
    | inl i ↦ omega (arith, fits.2 n i, fits.1.0)
    | inr e ↦ subst (λ (x : ℕ × List ℕ). x.0 < named.0 + 1) e (omega arith)
  ],
)

abbrev pub InputsFit : List (ℕ × List ℕ) → PlainNetlist → Type 0
InputsFit names net = FitBehind net.inputs net.input_names names

abbrev pub OutputsFit : List (ℕ × List ℕ) → PlainNetlist → Type 0
OutputsFit names net = FitBehind net.outputs net.output_names names

pub input_now : (named : ℕ × List ℕ) (names : List (ℕ × List ℕ)) (net : PlainNetlist) → InputsFit (named ∷ names) net → fits_behind net (InputName named.0) ≡ true
input_now named names net fits = fits_now net.inputs net.input_names names named fits

pub output_now : (named : ℕ × List ℕ) (names : List (ℕ × List ℕ)) (net : PlainNetlist) → OutputsFit (named ∷ names) net → fits_behind net (OutputName named.0) ≡ true
output_now named names net fits = fits_now net.outputs net.output_names names named fits

pub input_next : (named : ℕ × List ℕ) (names : List (ℕ × List ℕ)) (net : PlainNetlist) → InputsFit (named ∷ names) net
    → InputsFit names (with_statement (spaced (name_words (codes "iname") named)) (InputName named.0) net)
input_next named names net fits = fits_next net.inputs net.input_names names named _ fits

pub output_next : (named : ℕ × List ℕ) (names : List (ℕ × List ℕ)) (net : PlainNetlist) → OutputsFit (named ∷ names) net
    → OutputsFit names (with_statement (spaced (name_words (codes "oname") named)) (OutputName named.0) net)
output_next named names net fits = fits_next net.outputs net.output_names names named _ fits

-- all names fit behind none
pub fit_first : (ports : ℕ) (names : List (ℕ × List ℕ)) → AreNamesFrom 0 ports names → FitBehind ports [] names
fit_first ports names all = (0, all, λ n h. absurd h)
