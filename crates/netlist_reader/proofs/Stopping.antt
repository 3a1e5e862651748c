-- Where a refusal stops the reading of lines, and so that of a text, however long it grows.
use Rattle.std.proofs.Common.{◌≡◌, ◌||◌, ℕ, ◌≤◌, ◌<◌, ◌-◌, cond, ltb, Bool, true, false, List, [], ◌∷◌, ◌++◌, length, take, drop, Option, Some, None, Result, Ok, Err, refl, sym, ap, subst, ◌∙◌}
use Rattle.std.proofs.Common.{append-nil, append_assoc, arith}
use Rattle.std.specs.Option.{option_or}
use Rattle.std.proofs.lemmas.Bool.{true≢false, lt-ltb, ltb-true}
use Rattle.std.proofs.lemmas.List.{take-append-drop, take-append-le, length-append}
use Rattle.pulse_ids.specs.declared.quantities.Quantity.TheVariants.{NetBytes}
use Rattle.word_scan.specs.declared.lines.Taken.{Taken}
use Rattle.word_scan.specs.Lines.{PlainLines, lines_after, begun_after, begun, whole_lines, last_line, TakesPart, IsAt}
use Rattle.word_scan.specs.Reading.{HasRead, text_read}
use Rattle.word_scan.proofs.CallerLemmasLines.{lines_joined}
use Rattle.word_scan.proofs.CallerLemmasPieces.{take_joined, prefix_within}
use Rattle.netlist_reader.specs.declared.built.Built.{Built}
use Rattle.netlist_reader.specs.declared.refusals.NetRefusal.{NetRefusal}
use Rattle.netlist_reader.specs.declared.refusals.NetRefusal.TheVariants as refusals
use Rattle.netlist_reader.specs.declared.statements.Statement.{Statement}
use Rattle.netlist_reader.specs.Statements.{statement_in}
use Rattle.netlist_reader.specs.Places.{first_refusal, line_refusal, inputs_of, is_end, to_end, has_end}
use Rattle.netlist_reader.specs.Building.{has_ended, line_read, start, inputs_refused, inputs_behind, RefusesNext, StopsReading, OrMemory}
use Rattle.netlist_reader.specs.Verdicts.{limit, lines_in, too_long}
use Rattle.netlist_reader.specs.Readings.{RefusedBehind, looked_at, StopsAt}
use Rattle.netlist_reader.proofs.Steps.{refused, IsBuilt, nothing_built, line_wrong}
use Rattle.netlist_reader.proofs.Lines.{lines_right}
use Rattle.netlist_reader.proofs.Texts.{built_by}
use Rattle.netlist_reader.proofs.KnownPorts.{inputs_told}

-- a line that a piece completes stands behind the whole lines before
lines_with : (text piece line : List ℕ) (old : PlainLines) (taken : Taken) → TakesPart (begun old) piece taken line → taken.whole ≡ true → IsAt text old
    → (more : List (List ℕ)) × (whole_lines (text ++ piece) ≡ whole_lines text ++ line ∷ more)
lines_with text piece line old taken part whole at =
    let first : List ℕ = take taken.used piece in
    let rest : List ℕ = drop taken.used piece in
    let more : List (List ℕ) = lines_after (begun_after (last_line text) first) rest in
    let ends : lines_after (last_line text) first ≡ line ∷ [] =
    ap (λ (l : List ℕ). lines_after l first) at.present ∙ part.lines ∙ ap (λ b. cond b (line ∷ []) []) whole in (
      more,
      ap (λ (p : List ℕ). whole_lines (text ++ p)) (sym (take-append-drop taken.used piece)) ∙ lines_joined [] text (first ++ rest)
          ∙ ap (λ (l : List (List ℕ)). whole_lines text ++ l) (lines_joined (last_line text) first rest ∙ ap (λ (l : List (List ℕ)). l ++ more) ends),
    )

-- a line is refused
pub stopped_line : (text piece line : List ℕ) (old : PlainLines) (built left : Built) (taken : Taken) (refusal : NetRefusal) → TakesPart (begun old) piece taken line → taken.whole ≡ true
    → HasRead line_read start text old built → has_ended built ≡ false → OrMemory refusal (line_read built line ≡ refused refusal) → left.lines ≡ built.lines
    → left.inputs ≡ inputs_refused refusal built.inputs (statement_in line) → StopsReading (whole_lines (text ++ piece)) refusal left
stopped_line text piece line old built left taken refusal part whole has unended wrong counted known =
    let split = lines_with text piece line old taken part whole has.at in
    record {
      before = whole_lines text;
      after = line ∷ split.0;
      state = built;
      lines_are = split.1;
      reads = has.reads;
      unended = unended;
      counted = counted;
      refused = wrong;
      known = known;
    }

nothing_known : (inputs : Option ℕ) (said : Option Statement) → inputs ≡ inputs_refused refusals.NoMemory inputs said
nothing_known inputs None = refl
nothing_known inputs (Some statement) = refl

pub known_before : (inputs : Option ℕ) (after : List (List ℕ)) → inputs ≡ inputs_behind refusals.NoMemory inputs after
known_before inputs [] = refl
known_before inputs (line ∷ lines) = nothing_known inputs (statement_in line)

-- memory for a line is refused
pub stopped_taking : (text piece : List ℕ) (old : PlainLines) (built : Built) → HasRead line_read start text old built → has_ended built ≡ false
    → StopsReading (whole_lines (text ++ piece)) refusals.NoMemory built
stopped_taking text piece old built has unended = record {
  before = whole_lines text;
  after = lines_after (last_line text) piece;
  state = built;
  lines_are = lines_joined [] text piece;
  reads = has.reads;
  unended = unended;
  counted = refl;
  refused = tt;
  known = known_before built.inputs (lines_after (last_line text) piece);
}

-- lines none of which is `end`
no_end : (a b : Bool) → (a || b) ≡ false → (a ≡ false) × (b ≡ false)
no_end true b h = absurd (true≢false h)
no_end false b h = (refl, h)

to_end_open : (lines more : List (List ℕ)) → has_end lines ≡ false → to_end (lines ++ more) ≡ lines ++ to_end more
to_end_open [] more h = refl
to_end_open (line ∷ lines) more h =
    let parts = no_end (is_end line) (has_end lines) h in
    let first : is_end line ≡ false = parts.0 in
    ap (λ b. cond b (line ∷ []) (line ∷ to_end (lines ++ more))) first ∙ ap (λ (l : List (List ℕ)). line ∷ l) (to_end_open lines more parts.1)

to_end_same : (lines : List (List ℕ)) → has_end lines ≡ false → to_end lines ≡ lines
to_end_same lines h = ap to_end (sym (append-nil lines)) ∙ to_end_open lines [] h ∙ append-nil lines

open_by : (line : List ℕ) (lines : List (List ℕ)) (b : Bool) → is_end line ≡ b → (has_end (to_end lines) ≡ false → has_end lines ≡ false)
    → has_end (cond b (line ∷ []) (line ∷ to_end lines)) ≡ false → has_end (line ∷ lines) ≡ false
open_by line lines true e more h = absurd (let now : is_end line ≡ false = (no_end (is_end line) false h).0 in true≢false (sym e ∙ now))
open_by line lines false e more h =
    let rest = (no_end (is_end line) (has_end (to_end lines)) h).1 in
    ap (λ b. b || has_end lines) e ∙ more rest

open_before : (lines : List (List ℕ)) → has_end (to_end lines) ≡ false → has_end lines ≡ false
open_before [] h = refl
open_before (line ∷ lines) h = open_by line lines (is_end line) refl (open_before lines) h

grown_by : (line : List ℕ) (b : Bool) (lines more : List (List ℕ)) → ((extra : List (List ℕ)) × (to_end (lines ++ more) ≡ to_end lines ++ extra))
    → (extra : List (List ℕ)) × (cond b (line ∷ []) (line ∷ to_end (lines ++ more)) ≡ cond b (line ∷ []) (line ∷ to_end lines) ++ extra)
grown_by line true lines more r = ([], refl)
grown_by line false lines more r = (r.0, ap (λ (l : List (List ℕ)). line ∷ l) r.1)

pub to_end_grown : (lines more : List (List ℕ)) → (extra : List (List ℕ)) × (to_end (lines ++ more) ≡ to_end lines ++ extra)
to_end_grown [] more = (to_end more, refl)
to_end_grown (line ∷ lines) more = grown_by line (is_end line) lines more (to_end_grown lines more)

-- lines that are read one after the other, where a refusal stops it
module _ (before : List (List ℕ)) (state : Built) (is : IsBuilt before state) (unended : has_ended state ≡ false) where
  head_by : (text line : List ℕ) (lines : List (List ℕ)) (refusal : NetRefusal) (b : Bool) → line_read state line ≡ refused refusal
      → RefusedBehind text before (cond b (line ∷ []) (line ∷ lines)) refusal
  head_by text line lines refusal true wrong = line_wrong before state is unended line refusal wrong
  head_by text line lines refusal false wrong = line_wrong before state is unended line refusal wrong

  refused_behind : (text : List ℕ) (refusal : NetRefusal) (after : List (List ℕ)) → RefusesNext state after refusal → RefusedBehind text before (to_end after) refusal
  refused_behind text refusal [] wrong = absurd wrong
  refused_behind text refusal (line ∷ lines) wrong = head_by text line (to_end lines) refusal (is_end line) wrong

  first_by : (line : List ℕ) (lines : List (List ℕ)) (b : Bool) → take 1 (cond b (line ∷ []) (line ∷ lines)) ≡ line ∷ []
  first_by line lines true = refl
  first_by line lines false = refl

  known_next : (refusal : NetRefusal) (after : List (List ℕ)) → RefusesNext state after refusal → inputs_behind refusal state.inputs after ≡ inputs_of (before ++ take 1 (to_end after))
  known_next refusal [] wrong = absurd wrong
  known_next refusal (line ∷ lines) wrong =
      inputs_told before state is unended line refusal wrong ∙ ap (λ (l : List (List ℕ)). inputs_of (before ++ l)) (sym (first_by line (to_end lines) (is_end line)))

  pub known_by : (refusal : NetRefusal) (after : List (List ℕ)) → OrMemory refusal (RefusesNext state after refusal)
      → inputs_behind refusal state.inputs after ≡ inputs_of (looked_at refusal before (to_end after))
  known_by (refusals.BadLine line) after wrong = known_next (refusals.BadLine line) after wrong
  known_by refusals.Truncated after wrong = known_next refusals.Truncated after wrong
  known_by (refusals.Limit quantity) after wrong = known_next (refusals.Limit quantity) after wrong
  known_by refusals.NoMemory after wrong = sym (known_before state.inputs after) ∙ is.inputs

  pub refused_by : (text : List ℕ) (refusal : NetRefusal) (after : List (List ℕ)) → OrMemory refusal (RefusesNext state after refusal)
      → OrMemory refusal (RefusedBehind text before (to_end after) refusal)
  refused_by text (refusals.BadLine line) after wrong = refused_behind text (refusals.BadLine line) after wrong
  refused_by text refusals.Truncated after wrong = refused_behind text refusals.Truncated after wrong
  refused_by text (refusals.Limit quantity) after wrong = refused_behind text (refusals.Limit quantity) after wrong
  refused_by text refusals.NoMemory after wrong = tt

-- so of a text
pub stops_by_line : (text piece : List ℕ) (room : ℕ) (refusal : NetRefusal) (left : Built) → room ≤ limit → length text ≡ limit - room
    → StopsReading (whole_lines (text ++ take room piece)) refusal left → StopsAt (text ++ piece) refusal left.lines left.inputs
stops_by_line text piece room refusal left within e stops =
    let before : List (List ℕ) = stops.before in
    let right = lines_right [] before start stops.state nothing_built refl stops.reads in
    let unended : has_end before ≡ false = open_before before (sym right.1.ended ∙ stops.unended) in
    let same : to_end before ≡ before = to_end_same before unended in
    let is : IsBuilt before stops.state = subst (λ (l : List (List ℕ)). IsBuilt l stops.state) same right.1 in
    record {
      before = before;
      after = to_end stops.after;
      lines_are =
          ap (λ (t : List ℕ). to_end (whole_lines t)) (prefix_within limit text piece room within e) ∙ ap to_end stops.lines_are
          ∙ to_end_open before stops.after unended;
      accepted = ap (first_refusal []) (sym same) ∙ right.0;
      counted = stops.counted ∙ is.count;
      refused = refused_by before stops.state is stops.unended (text ++ piece) refusal stops.after stops.refused;
      known = stops.known ∙ known_by before stops.state is stops.unended refusal stops.after stops.refused;
    }

pub stops_by_length : (text piece : List ℕ) (room : ℕ) (lines : PlainLines) (built : Built) → room ≤ limit → length text ≡ limit - room → room < length piece → has_ended built ≡ false
    → HasRead line_read start (text ++ take room piece) lines built → StopsAt (text ++ piece) (refusals.Limit NetBytes) built.lines built.inputs
stops_by_length text piece room lines built within e long unended has =
    let all = text ++ piece in
    let is = built_by all built (ap (text_read line_read start) (prefix_within limit text piece room within e) ∙ has.reads) in
    let going : has_end (lines_in all) ≡ false = sym is.1.ended ∙ unended in
    let over : ltb limit (length all) ≡ true = lt-ltb _ _ (omega (arith, long, within, e, length-append text piece)) in
    record {
      before = lines_in all;
      after = [];
      lines_are = sym (append-nil (lines_in all));
      accepted = is.0;
      counted = is.1.count;
      refused = rw (going, over) refl;
      known = is.1.inputs ∙ ap inputs_of (sym (append-nil (lines_in all)));
    }
