-- Ports that are named in rising order, and the names that lines hold.
use Rattle.std.proofs.Common.{◌≡◌, ◌≢◌, ◌<◌, ◌≤◌, ◌+◌, ◌-◌, ◌&&◌, ◌==◌, ℕ, zero, suc, cond, ltb, Bool, true, false, Option, Some, None, List, [], ◌∷◌, length, codes, slice_get, take, drop, refl}
use Rattle.std.proofs.Common.{sym, ap, subst, ◌∙◌, inl, inr, arith}
use Rattle.std.specs.Prelude.{option_map, option_and_then, unwrap_or, position}
use Rattle.std.specs.Str.{bytes_eq}
use Rattle.std.proofs.lemmas.Bool.{lt-ltb, ltb-true, ltb-false, true≢false}
use Rattle.std.proofs.lemmas.Option.{slice_get_within}
use Rattle.std.proofs.lemmas.List.Elements.{All-drop}
use Rattle.pulse_ids.specs.Names.{IsPortName}
use Rattle.pulse_ids.specs.Quantities.{greatest_of}
use Rattle.pulse_ids.specs.declared.quantities.Quantity.{Quantity}
use Rattle.pulse_ids.specs.declared.quantities.Quantity.TheVariants.{NameBytes}
use Rattle.cell_netlist.specs.declared.kinds.Version.TheVariants.{One, Two}
use Rattle.cell_netlist.specs.Names.{AreNamesFrom, HasRisingPorts, IsAboveAll}
use Rattle.word_scan.specs.Lines.{HasNoFeed}
use Rattle.word_scan.specs.Words.{parted}
use Rattle.word_scan.specs.Decimals.{plain_decimal_of}
use Rattle.netlist_reader.specs.declared.statements.Statement.{Statement}
use Rattle.netlist_reader.specs.declared.statements.Statement.TheVariants.{Version, Ports, Input, OneCell, Output, State, InputName, OutputName, End}
use Rattle.netlist_reader.specs.Words.{by_meaning, after_space, name_in}
use Rattle.netlist_reader.specs.Statements.{ports_in, rail_in, state_in, named_in, cell_in, statement_by, statement_in}
use Rattle.netlist_reader.specs.Limits.{over_name}
use Rattle.netlist_reader.specs.Places.{is_above}
use Rattle.netlist_reader.proofs.Bools.{and_parts, and_true, and_false}

-- the last of rising ports decides whether a port is above all
pub last_by : (first last port : ℕ) (b : Bool) (rest : Bool) → first < last → ltb last port ≡ b → rest ≡ ltb last port → (ltb first port && rest) ≡ ltb last port
last_by first last port true rest lt e h = let below = ltb-true _ _ e in let here : ltb first port ≡ true = lt-ltb _ _ (omega arith) in rw (here, h) refl
last_by first last port false rest lt e h = ap (λ b. ltb first port && b) (h ∙ e) ∙ and_false (ltb first port) ∙ sym e

last_decides_from : (low ports port : ℕ) (names : List (ℕ × List ℕ)) (last : ℕ × List ℕ) (i : ℕ) → AreNamesFrom low ports names → suc i ≡ length names
    → slice_get names i ≡ Some last → (low ≤ last.0) × (is_above port names ≡ ltb last.0 port)
last_decides_from low ports port [] last i rise e get = absurd (omega arith)
last_decides_from low ports port (named ∷ []) last zero rise e get =
    let same : named ≡ last = cc in
    subst (λ (n : ℕ × List ℕ). (low ≤ n.0) × (is_above port (named ∷ []) ≡ ltb n.0 port)) same (rise.0, and_true (ltb named.0 port))
last_decides_from low ports port (named ∷ []) last (suc i) rise e get = absurd (omega arith)
last_decides_from low ports port (named ∷ next ∷ names) last zero rise e get = absurd (omega arith)
last_decides_from low ports port (named ∷ next ∷ names) last (suc i) rise e get =
    let r = last_decides_from (named.0 + 1) ports port (next ∷ names) last i rise.3 (omega arith) get in
    (omega (arith, rise.0, r.0), last_by named.0 last.0 port (ltb last.0 port) (is_above port (next ∷ names)) (omega (arith, r.0)) refl r.1)

pub last_decides : (port : ℕ) (names : List (ℕ × List ℕ)) (last : ℕ × List ℕ) → HasRisingPorts names → slice_get names (length names - 1) ≡ Some last → ltb last.0 port ≡ is_above port names
last_decides port names last rise get =
    let within = slice_get_within names (length names - 1) last get in
    sym (last_decides_from 0 rise.0 port names last (length names - 1) rise.1 (omega arith) get).1

-- a port that is above all, as a fact
above_all : (port : ℕ) (names : List (ℕ × List ℕ)) → is_above port names ≡ true → IsAboveAll port names
above_all port [] h named i = absurd i
above_all port (first ∷ names) h named (inl e) = subst (λ (n : ℕ × List ℕ). n.0 < port) e (ltb-true _ _ (and_parts (ltb first.0 port) (is_above port names) h).0)
above_all port (first ∷ names) h named (inr i) = above_all port names (and_parts (ltb first.0 port) (is_above port names) h).1 named i

pub fits_above : (port ports : ℕ) (names : List (ℕ × List ℕ)) → (ltb port ports && is_above port names) ≡ true → IsAboveAll port names
fits_above port ports names h = above_all port names (and_parts (ltb port ports) (is_above port names) h).1

-- the name in a line has no LF where the line has none
after_by : (line : List ℕ) (place : Option ℕ) → HasNoFeed line → HasNoFeed
    (unwrap_or (option_map (λ (parts : List ℕ × List ℕ). parts.1) (option_map (λ end. (take end line, drop (end + 1) line)) place)) [])
after_by line None f = λ k d lt e. absurd (omega arith)
after_by line (Some end) f = All-drop (λ byte. byte ≢ 10) (end + 1) line f

after_plain : (line : List ℕ) → HasNoFeed line → HasNoFeed (after_space line)
after_plain line f = after_by line (position (λ b. b == 32) line) f

-- a line that names a port has a name
abbrev names_port : Option Statement → Bool
names_port (Some (InputName port)) = true
names_port (Some (OutputName port)) = true
names_port said = false

ports_name_none : (inputs outputs : Option ℕ) → names_port (by_meaning inputs (λ inputs. by_meaning outputs (λ outputs. Some (Ports inputs outputs)))) ≡ false
ports_name_none None outputs = refl
ports_name_none (Some inputs) None = refl
ports_name_none (Some inputs) (Some outputs) = refl

ports_by : (parts : Option (List ℕ × List ℕ)) → names_port (option_and_then
    (λ parts. by_meaning (plain_decimal_of parts.0) (λ inputs. by_meaning (plain_decimal_of parts.1) (λ outputs. Some (Ports inputs outputs)))) parts) ≡ false
ports_by None = refl
ports_by (Some parts) = ports_name_none (plain_decimal_of parts.0) (plain_decimal_of parts.1)

never : {X : Type 0} (f : X → Statement) → ((x : X) → names_port (Some (f x)) ≡ false) → (o : Option X) → names_port (option_map f o) ≡ false
never f each None = refl
never f each (Some x) = each x

-- the rest of a line holds a name
abbrev HasName : List ℕ → Type 0
HasName rest = 1 ≤ length (after_space rest)

some_byte : (name : List ℕ) → bytes_eq name [] ≡ false → 1 ≤ length name
some_byte [] e = absurd cc
some_byte (byte ∷ name) e = omega arith

name_by : (empty : Bool) (name : List ℕ) (port : Option ℕ) (f : ℕ → Statement) → bytes_eq name [] ≡ empty → names_port (option_map f (cond empty None port)) ≡ true → 1 ≤ length name
name_by true name port f e h = absurd cc
name_by false name port f e h = some_byte name e

named_by : (parts : Option (List ℕ × List ℕ)) (f : ℕ → Statement)
    → names_port (option_map f (option_and_then (λ parts. cond (bytes_eq parts.1 []) None (plain_decimal_of parts.0)) parts)) ≡ true
    → 1 ≤ length (unwrap_or (option_map (λ (parts : List ℕ × List ℕ). parts.1) parts) [])
named_by None f h = absurd cc
named_by (Some parts) f h = name_by (bytes_eq parts.1 []) parts.1 (plain_decimal_of parts.0) f refl h

rest_by : (rest : List ℕ) (cell : Option Statement) (a b c s d e : Bool) → names_port cell ≡ false
    → names_port (cond a (ports_in rest) (cond b (option_map Input (rail_in rest))
    (cond c (option_map Output (rail_in rest)) (cond s (option_map State (state_in rest))
    (cond d (option_map InputName (named_in rest)) (cond e (option_map OutputName (named_in rest)) cell)))))) ≡ true
    → HasName rest
rest_by rest cell true b c s d e f h = absurd (true≢false (sym h ∙ ports_by (parted 32 rest)))
rest_by rest cell false true c s d e f h = absurd (true≢false (sym h ∙ never Input (λ x. refl) (rail_in rest)))
rest_by rest cell false false true s d e f h = absurd (true≢false (sym h ∙ never Output (λ x. refl) (rail_in rest)))
rest_by rest cell false false false true d e f h = absurd (true≢false (sym h ∙ never State (λ x. refl) (state_in rest)))
rest_by rest cell false false false false true e f h = named_by (parted 32 rest) InputName h
rest_by rest cell false false false false false true f h = named_by (parted 32 rest) OutputName h
rest_by rest cell false false false false false false f h = absurd (true≢false (sym h ∙ f))

line_by : (parts : Option (List ℕ × List ℕ)) (one two end : Bool) → names_port
    (cond one (Some (Version One)) (cond two (Some (Version Two)) (cond end (Some End) (option_and_then (λ parts. statement_by parts.0 parts.1) parts)))) ≡ true
    → HasName (unwrap_or (option_map (λ (parts : List ℕ × List ℕ). parts.1) parts) [])
line_by parts true two end h = absurd cc
line_by parts false true end h = absurd cc
line_by parts false false true h = absurd cc
line_by None false false false h = absurd cc
line_by (Some parts) false false false h =
    rest_by parts.1 (option_map OneCell (cell_in parts.0 parts.1)) (bytes_eq parts.0 (codes "ports")) (bytes_eq parts.0 (codes "input")) (bytes_eq parts.0 (codes "output"))
    (bytes_eq parts.0 (codes "state"))
    (bytes_eq parts.0 (codes "iname"))
    (bytes_eq parts.0 (codes "oname")) (never OneCell (λ x. refl) (cell_in parts.0 parts.1)) h

has_name : (line : List ℕ) → names_port (statement_in line) ≡ true → 1 ≤ length (name_in line)
has_name line h = line_by (parted 32 line) (bytes_eq line (codes "xsfq 1")) (bytes_eq line (codes "xsfq 2")) (bytes_eq line (codes "end")) h

short_by : (n : ℕ) (long : Bool) → ltb (greatest_of NameBytes) n ≡ long → ◌≡◌ {A = Option Quantity} (cond long (Some NameBytes) None) None → n ≤ greatest_of NameBytes
short_by n true e h = absurd cc
short_by n false e h = ltb-false _ _ e

port_name : (line : List ℕ) → HasNoFeed line → names_port (statement_in line) ≡ true → over_name line ≡ None → IsPortName (name_in line)
port_name line plain said short = record {
  not_empty = has_name line said;
  not_long = short_by (length (name_in line)) (ltb (greatest_of NameBytes) (length (name_in line))) refl short;
  no_line_feed = after_plain (after_space line) (after_plain line plain);
}

pub input_port_name : (line name : List ℕ) (port : ℕ) → HasNoFeed line → statement_in line ≡ Some (InputName port) → over_name line ≡ None → name ≡ name_in line → IsPortName name
input_port_name line name port plain said short e = subst IsPortName (sym e) (port_name line plain (ap names_port said) short)

pub output_port_name : (line name : List ℕ) (port : ℕ) → HasNoFeed line → statement_in line ≡ Some (OutputName port) → over_name line ≡ None → name ≡ name_in line → IsPortName name
output_port_name line name port plain said short e = subst IsPortName (sym e) (port_name line plain (ap names_port said) short)
