-- What bytes show, and what their end gives.
use Rattle.std.proofs.Common.{◌≡◌, ℕ, ◌-◌, ◌<◌, ◌≤◌, ltb, cond, Bool, true, false, List, [], ◌++◌, length, take, drop, Option, Some, None, Result, Ok, Err, refl, sym, ap, subst, ◌∙◌}
use Rattle.std.proofs.Common.{append_assoc, inl, inr, ◌⊎◌, arith}
use Rattle.std.specs.Option.{option_or}
use Rattle.std.proofs.lemmas.Bool.{lt-ltb, le-ltb, ltb-true}
use Rattle.std.proofs.lemmas.List.{take_all, take-append-le, length-append, take-append-drop}
use Rattle.pulse_ids.specs.declared.quantities.Quantity.TheVariants.{NetBytes}
use Rattle.cell_netlist.specs.Netlists.{PlainNetlist}
use Rattle.word_scan.specs.Lines.{PlainLines, lines_after, whole_lines, last_line}
use Rattle.word_scan.specs.Reading.{read_on, text_read, HasRead}
use Rattle.word_scan.proofs.CallerLemmasPieces.{take_joined, prefix_within}
use Rattle.word_scan.proofs.CallerLemmasReading.{refused_stays, text_joined}
use Rattle.netlist_reader.specs.declared.built.Built.{Built}
use Rattle.netlist_reader.specs.declared.refusals.NetRefusal.{NetRefusal}
use Rattle.netlist_reader.specs.declared.refusals.NetRefusal.TheVariants as refusals
use Rattle.netlist_reader.specs.Places.{first_refusal}
use Rattle.netlist_reader.specs.Building.{has_ended, line_read, start, OrMemory}
use Rattle.netlist_reader.specs.Verdicts.{limit, lines_in, too_long, early, judged, net_verdict}
use Rattle.netlist_reader.proofs.Memory.{or_memory_then}
use Rattle.netlist_reader.proofs.Steps.{going, refused, IsBuilt, nothing_built}
use Rattle.netlist_reader.proofs.Lines.{passed_over, lines_right, lines_wrong}

abbrev pub done : PlainNetlist × List ℕ → Result (PlainNetlist × List ℕ) NetRefusal
done x = Ok x

abbrev failed : NetRefusal → Result (PlainNetlist × List ℕ) NetRefusal
failed r = Err r

-- the whole lines within the limit, read one after the other
abbrev pub lines_read : List ℕ → Result Built NetRefusal
lines_read text = text_read line_read start (take limit text)

pub built_by : (text : List ℕ) (built : Built) → lines_read text ≡ going built → (first_refusal [] (lines_in text) ≡ None) × IsBuilt (lines_in text) built
built_by text built h = lines_right [] (whole_lines (take limit text)) start built nothing_built refl h

-- the two ways to a refusal
by_line : (text : List ℕ) (refusal : NetRefusal) → lines_read text ≡ refused refusal → early text ≡ Some refusal
by_line text refusal h = ap (λ (o : Option NetRefusal). option_or o (too_long text)) (lines_wrong [] (whole_lines (take limit text)) start refusal nothing_built refl h)

pub early_is : (text : List ℕ) (built : Built) → lines_read text ≡ going built → early text ≡ cond (has_ended built) None (cond (ltb limit (length text)) (Some (refusals.Limit NetBytes)) None)
early_is text built h =
    let is = built_by text built h in
    ap (λ (o : Option NetRefusal). option_or o (too_long text)) is.0 ∙ ap (λ b. cond b None (cond (ltb limit (length text)) (Some (refusals.Limit NetBytes)) None)) (sym is.1.ended)

by_length : (text : List ℕ) (built : Built) → lines_read text ≡ going built → has_ended built ≡ false → limit < length text → early text ≡ Some (refusals.Limit NetBytes)
by_length text built h unended long = early_is text built h ∙ rw (unended, lt-ltb _ _ long) refl

data Shows (text : List ℕ) (refusal : NetRefusal) : Type 0 where
  a_line : lines_read text ≡ refused refusal → Shows text refusal
  a_length : (built : Built) → lines_read text ≡ going built → has_ended built ≡ false → limit < length text → refusal ≡ refusals.Limit NetBytes → Shows text refusal

long_by : (text : List ℕ) (refusal : NetRefusal) (built : Built) (ended long : Bool) → lines_read text ≡ going built → has_ended built ≡ ended → ltb limit (length text) ≡ long
    → cond ended None (cond long (Some (refusals.Limit NetBytes)) None) ≡ Some refusal → Shows text refusal
long_by text refusal built true long h e l s = absurd cc
long_by text refusal built false false h e l s = absurd cc
long_by text refusal built false true h e l s = a_length built h e (ltb-true _ _ l) cc

shows_by : (text : List ℕ) (refusal : NetRefusal) (read : Result Built NetRefusal) → lines_read text ≡ read → early text ≡ Some refusal → Shows text refusal
shows_by text refusal (Err other) h s = let same : Some other ≡ Some refusal = sym (by_line text other h) ∙ s in let first : other ≡ refusal = cc in a_line (h ∙ ap refused first)
shows_by text refusal (Ok built) h s = long_by text refusal built (has_ended built) (ltb limit (length text)) h refl refl (sym (early_is text built h) ∙ s)

shows : (text : List ℕ) (refusal : NetRefusal) → early text ≡ Some refusal → Shows text refusal
shows text refusal s = shows_by text refusal (lines_read text) refl s

-- what bytes show stands, and is the verdict
shown_by : (text more : List ℕ) (refusal : NetRefusal) → Shows text refusal → early (text ++ more) ≡ Some refusal
shown_by text more refusal (a_line h) =
    by_line (text ++ more) refusal (ap (text_read line_read start) (take_joined limit text more) ∙ refused_stays line_read start (take limit text) (take (limit - length text) more) refusal h)
shown_by text more refusal (a_length built h unended long e) =
    by_length (text ++ more) built (ap (text_read line_read start) (take-append-le limit text more (omega arith)) ∙ h) unended (omega (arith, length-append text more))
    ∙ ap (λ (r : NetRefusal). Some r) (sym e)

pub shown_stays : (text more : List ℕ) (refusal : NetRefusal) → early text ≡ Some refusal → early (text ++ more) ≡ Some refusal
shown_stays text more refusal s = shown_by text more refusal (shows text refusal s)

pub shown_judged : (text : List ℕ) (refusal : NetRefusal) → early text ≡ Some refusal → net_verdict text ≡ failed refusal
shown_judged text refusal s = ap (λ (o : Option NetRefusal). judged o text) s

pub verdict_shown : (text : List ℕ) (refusal : NetRefusal) → OrMemory refusal (early text ≡ Some refusal) → OrMemory refusal (net_verdict text ≡ failed refusal)
verdict_shown text refusal h = or_memory_then refusal _ _ (shown_judged text refusal) h

pub shown_by_line : (text piece : List ℕ) (room : ℕ) (refusal : NetRefusal) → room ≤ limit → length text ≡ limit - room
    → text_read line_read start (text ++ take room piece) ≡ refused refusal → early (text ++ piece) ≡ Some refusal
shown_by_line text piece room refusal within e h = by_line (text ++ piece) refusal (ap (text_read line_read start) (prefix_within limit text piece room within e) ∙ h)

pub shown_by_length : (text piece : List ℕ) (room : ℕ) (lines : PlainLines) (built : Built) → room ≤ limit → length text ≡ limit - room → room < length piece → has_ended built ≡ false
    → HasRead line_read start (text ++ take room piece) lines built → early (text ++ piece) ≡ Some (refusals.Limit NetBytes)
shown_by_length text piece room lines built within e long unended has =
    by_length (text ++ piece) built (ap (text_read line_read start) (prefix_within limit text piece room within e) ∙ has.reads) unended (omega (arith, length-append text piece))

-- nothing is shown
pub read_within : (text : List ℕ) (lines : PlainLines) (built : Built) → length text ≤ limit → HasRead line_read start text lines built → lines_read text ≡ going built
read_within text lines built short has = ap (text_read line_read start) (take_all limit text short) ∙ has.reads

pub none_going : (text : List ℕ) (built : Built) → length text ≤ limit → lines_read text ≡ going built → early text ≡ None
none_going text built short h = early_is text built h ∙ rw (le-ltb _ _ short) (same (has_ended built))
  where
    same : (b : Bool) → cond b None (cond false (Some (refusals.Limit NetBytes)) None) ≡ None
    same true = refl
    same false = refl

none_ended : (text more : List ℕ) (lines : PlainLines) (built : Built) → length text ≤ limit → HasRead line_read start text lines built → has_ended built ≡ true → early (text ++ more) ≡ None
none_ended text more lines built short has ended =
    let left : List ℕ = take (limit - length text) more in
    let cut : take limit (text ++ more) ≡ text ++ left = take_joined limit text more ∙ ap (λ (l : List ℕ). l ++ left) (take_all limit text short) in
    let reads : lines_read (text ++ more) ≡ going built =
    ap (text_read line_read start) cut ∙ text_joined line_read start text left
    ∙ ap (λ (r : Result Built NetRefusal). read_on line_read r (lines_after (last_line text) left)) has.reads ∙ passed_over built (lines_after (last_line text) left) ended in
    early_is (text ++ more) built reads ∙ rw ended refl

pub either : (b : Bool) → (b ≡ true) ⊎ (b ≡ false)
either true = inl refl
either false = inr refl

pub none_shown : (text piece : List ℕ) (used : ℕ) (lines : PlainLines) (built : Built) → length (text ++ take used piece) ≤ limit → HasRead line_read start (text ++ take used piece) lines built
    → (has_ended built ≡ false → used ≡ length piece) → early (text ++ piece) ≡ None
none_shown text piece used lines built short has all =
    elim (either (has_ended built)) [
      | inl ended ↦ subst (λ (t : List ℕ). early t ≡ None) (append_assoc text (take used piece) (drop used piece) ∙ ap (λ (p : List ℕ). text ++ p) (take-append-drop used piece))
          (none_ended (text ++ take used piece) (drop used piece) lines built short has ended)
      | inr unended ↦
          let e : take used piece ≡ piece = take_all used piece (omega (arith, all unended)) in
          subst (λ (p : List ℕ). early (text ++ p) ≡ None) e (none_going (text ++ take used piece) built short (read_within (text ++ take used piece) lines built short has))
    ]
