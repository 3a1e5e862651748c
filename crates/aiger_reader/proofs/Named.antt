-- The names of symbols are names of ports.
use Rattle.std.proofs.Common.{◌≡◌, ◌≢◌, ℕ, ◌+◌, ◌<◌, Bool, true, false, cond, eqb, ltb, List, [], ◌∷◌, length, Option, Some, None, refl, sym, ap, subst, ◌∙◌, arith}
use Rattle.std.specs.Prelude.{IfSome, option_and_then, slice_index_or, slice_set}
use Rattle.std.specs.Option.{is_some}
use Rattle.std.specs.List.{after_first, before_first, position_or_len}
use Rattle.std.proofs.lemmas.List.Elements.{All-drop}
use Rattle.pulse_ids.specs.declared.quantities.Quantity.TheVariants as quantities
use Rattle.word_scan.specs.Decimals.{decimal_of}
use Rattle.word_scan.specs.Lines.{HasNoFeed}
use Rattle.source_machine.specs.Machines.{PlainMachine}
use Rattle.pulse_ids.specs.Names.{IsPortName}
use Rattle.source_machine.specs.Fitting.{NamesFit, Fits}
use Rattle.source_machine.proofs.CallerLemmas.{names_fit-set}
use Rattle.aiger_reader.specs.declared.headers.Header.{Header}
use Rattle.aiger_reader.specs.declared.refusals.UnitRefusal.{UnitRefusal}
use Rattle.aiger_reader.specs.declared.refusals.UnitRefusal.TheVariants.{SymbolRange}
use Rattle.aiger_reader.specs.Headers.{over}
use Rattle.aiger_reader.specs.Symbols.{symbol_named, symbol_in, begins_comment, positions_of, position_refusal, symbol_refusal, behind_refusal, line_refusal, named_by}
use Rattle.aiger_reader.specs.Building.{PlainBuilt, with_symbol, behind_added}
use Rattle.aiger_reader.proofs.Allowed.{within}

-- a name that isn't empty and holds no LF
abbrev IsLong : List ℕ → Type 0
IsLong name = (0 < length name) × HasNoFeed name

named_long : (letter : ℕ) (name : List ℕ) (place : Option ℕ) (symbol : ℕ × ℕ × List ℕ) → HasNoFeed name → option_and_then (symbol_named letter name) place ≡ Some symbol → IsLong symbol.2
named_long letter name None symbol plain h = absurd cc
named_long letter [] (Some place) symbol plain h = absurd cc
named_long letter (byte ∷ bytes) (Some place) symbol plain h =
    let e : ◌≡◌ {A = List ℕ} (byte ∷ bytes) symbol.2 = ap (λ (s : Option (ℕ × ℕ × List ℕ)). name_in_it s) h in
    subst IsLong e (omega arith, plain)
  where
    name_in_it : Option (ℕ × ℕ × List ℕ) → List ℕ
    name_in_it None = []
    name_in_it (Some s) = s.2

symbol_long : (line : List ℕ) (symbol : ℕ × ℕ × List ℕ) → HasNoFeed line → symbol_in line ≡ Some symbol → IsLong symbol.2
symbol_long [] symbol plain h = absurd cc
symbol_long (letter ∷ rest) symbol plain h =
    let other : HasNoFeed rest = All-drop (λ byte. byte ≢ 10) 1 (letter ∷ rest) plain in
    named_long letter (after_first (λ b. eqb b 32) rest) (decimal_of (before_first (λ b. eqb b 32) rest)) symbol
    (All-drop (λ byte. byte ≢ 10) (position_or_len (λ b. eqb b 32) rest + 1) rest other) h

taken_if : (b : Bool) (x y : Option UnitRefusal) (r : UnitRefusal) → y ≡ Some r → cond b x y ≡ None → (b ≡ true) × (x ≡ None)
taken_if true x y r e h = (refl, h)
taken_if false x y r e h = absurd cc

short_name : (place : ℕ) (name : List ℕ) (positions : Option ℕ) → position_refusal place name positions ≡ None → over quantities.NameBytes (length name) ≡ None
short_name place name None h = absurd cc
short_name place name (Some count) h = (taken_if (ltb place count) (over quantities.NameBytes (length name)) (Some SymbolRange) SymbolRange refl h).1

named_fits : (ports letter : ℕ) (symbol : Option (ℕ × ℕ × List ℕ)) (names : List (Option (List ℕ))) → IfSome symbol (λ s. IsPortName s.2) → NamesFit ports names
    → NamesFit ports (named_by letter symbol names)
named_fits ports letter None names right fit = fit
named_fits ports letter (Some symbol) names right fit = by_letter (eqb symbol.0 letter) (is_some (slice_index_or names symbol.1 None))
  where
    by_letter : (this there : Bool) → NamesFit ports (cond this (cond there names (slice_set names symbol.1 (Some symbol.2))) names)
    by_letter true true = fit
    by_letter true false = names_fit-set ports names symbol.1 symbol.2 fit right
    by_letter false there = fit

port_name : (header : Header) (line : List ℕ) (symbol : Option (ℕ × ℕ × List ℕ)) → HasNoFeed line → symbol_in line ≡ symbol → symbol_refusal header symbol ≡ None → IfSome symbol (λ s. IsPortName s.2)
port_name header line None plain is right = tt
port_name header line (Some symbol) plain is right =
    let long = symbol_long line symbol plain is in
    record {
      not_empty = omega (arith, long.0);
      not_long = within quantities.NameBytes (length symbol.2) (short_name symbol.1 symbol.2 (positions_of header symbol.0) right);
      no_line_feed = long.1;
    }

line_name : (header : Header) (line : List ℕ) → HasNoFeed line → behind_refusal header line ≡ None → begins_comment line ≡ false → IfSome (symbol_in line) (λ s. IsPortName s.2)
line_name header [] plain right none = tt
line_name header (byte ∷ bytes) plain right none =
    let judged : symbol_refusal header (symbol_in (byte ∷ bytes)) ≡ None = sym (ap (λ b. cond b None (symbol_refusal header (symbol_in (byte ∷ bytes)))) none) ∙ right in
    port_name header (byte ∷ bytes) (symbol_in (byte ∷ bytes)) plain refl judged

symbol_fits : (machine : PlainMachine) (symbol : Option (ℕ × ℕ × List ℕ)) → Fits machine → IfSome symbol (λ s. IsPortName s.2) → Fits (with_symbol machine symbol)
symbol_fits machine symbol fits right = record {
  nets_fit = record {
    inputs_fit = fits.nets_fit.inputs_fit;
    latches_fit = fits.nets_fit.latches_fit;
    equations_fit = fits.nets_fit.equations_fit;
    outputs_fit = fits.nets_fit.outputs_fit;
  };
  input_names_fit = named_fits (length machine.inputs) 105 symbol machine.input_names right fits.input_names_fit;
  output_names_fit = named_fits (length machine.outputs) 111 symbol machine.output_names right fits.output_names_fit;
  limits = record {
    few_inputs = fits.limits.few_inputs;
    few_outputs = fits.limits.few_outputs;
    few_latches = fits.limits.few_latches;
    few_nets = fits.limits.few_nets;
    small = fits.limits.small;
  };
}

-- a line behind the sections keeps what fits
pub behind_fits : (header : Header) (built : PlainBuilt) (line : List ℕ) → Fits built.machine → HasNoFeed line → line_refusal header built.commented line ≡ None
    → Fits (behind_added built line).machine
behind_fits header built line fits plain right = by_comment built.commented (begins_comment line) refl right
  where
    by_comment : (commented begins : Bool) → begins_comment line ≡ begins → cond commented None (behind_refusal header line) ≡ None
        → Fits (cond commented built (cond begins (record built { commented = true }) (record built { machine = with_symbol built.machine (symbol_in line) }))).machine
    by_comment true begins e h = fits
    by_comment false true e h = fits
    by_comment false false e h = symbol_fits built.machine (symbol_in line) fits (line_name header line plain h e)

-- and changes nothing but names and whether a comment has begun
pub record NamesAlone (old new : PlainBuilt) : Type 0 where
  pub header : new.header ≡ old.header
  pub place : new.place ≡ old.place
  pub start : new.start ≡ old.start
  pub literal : new.literal ≡ old.literal
  pub nets : new.machine.nets ≡ old.machine.nets
  pub inputs : new.machine.inputs ≡ old.machine.inputs
  pub latches : new.machine.latches ≡ old.machine.latches
  pub equations : new.machine.equations ≡ old.machine.equations
  pub outputs : new.machine.outputs ≡ old.machine.outputs

pub behind_alone : (built : PlainBuilt) (line : List ℕ) → NamesAlone built (behind_added built line)
behind_alone built line = by_comment built.commented (begins_comment line)
  where
    by_comment : (commented begins : Bool) → NamesAlone built (cond commented built
        (cond begins (record built { commented = true }) (record built { machine = with_symbol built.machine (symbol_in line) })))
    by_comment true begins = record { header = refl; place = refl; start = refl; literal = refl; nets = refl; inputs = refl; latches = refl; equations = refl; outputs = refl }
    by_comment false true = record { header = refl; place = refl; start = refl; literal = refl; nets = refl; inputs = refl; latches = refl; equations = refl; outputs = refl }
    by_comment false false = record { header = refl; place = refl; start = refl; literal = refl; nets = refl; inputs = refl; latches = refl; equations = refl; outputs = refl }
