-- What a piece makes of the bytes so far, and what is answered then.
use Rattle.std.proofs.Common.{◌≡◌, ◌++◌, ◌-◌, ℕ, Bool, true, false, List, [], length, take, drop, Option, Some, None, Result, Ok, Err}
use Rattle.std.proofs.Common.{sym, ap, ◌∙◌, subst, arith, refl, append_assoc, length-drop, take-append-drop}
use Rattle.std.specs.Prelude.{OnOk, option_map, unwrap_or}
use Rattle.std.proofs.lemmas.List.{take_all}
use Rattle.cell_netlist.specs.Netlists.{PlainNetlist}
use Rattle.netlist_reader.specs.declared.readings.Reading.{Reading}
use Rattle.netlist_reader.specs.declared.refusals.NetRefusal.{NetRefusal}
use Rattle.netlist_reader.specs.declared.refusals.NetRefusal.TheVariants as net_refusals
use Rattle.netlist_reader.specs.Building as net_building
use Rattle.netlist_reader.specs.Laws as net_laws
use Rattle.netlist_reader.specs.Places.{netlist_in, inputs_of, has_end}
use Rattle.netlist_reader.specs.Readings as nets
use Rattle.netlist_reader.specs.Verdicts.{lines_in, early, after_end, net_verdict}
use Rattle.schedule_replay.specs.declared.readings.Reading as vector_readings
use Rattle.schedule_replay.specs.declared.refusals.VectorRefusal.{VectorRefusal}
use Rattle.schedule_replay.specs.declared.refusals.VectorRefusal.TheVariants as vector_refusals
use Rattle.schedule_replay.specs.declared.vector_lines.Form.{Form}
use Rattle.schedule_replay.specs.PlainVectors.{PlainVectors}
use Rattle.schedule_replay.specs.Readings as vectors
use Rattle.schedule_replay.specs.VectorTexts as vector_texts
use Rattle.simulation_reader.specs.declared.readers.SimulationInput.{SimulationInput}
use Rattle.simulation_reader.specs.declared.refusals.InputRefusal.{InputRefusal}
use Rattle.simulation_reader.specs.declared.refusals.InputRefusal.TheVariants.{Net, Vectors}
use Rattle.simulation_reader.specs.InputTexts as inputs
use Rattle.simulation_reader.specs.Reading.{HasBegun, IsAfter, IsBefore, HasRead, HasAnsweredBy, IsNoMemory, OrMemory, TakenBy}
use Rattle.simulation_reader.proofs.Inputs.{begun-early, begun-judged, begun-verdict, net-early}

-- before the first byte
pub nothing_read : (net : Reading) → nets.IsReading [] net → IsBefore [] net
nothing_read net read = record { read = read; open_end = refl; quiet = refl }

-- a slice to the end
pub behind_is : (piece : List ℕ) (used : ℕ) → take (length piece - used) (drop used piece) ≡ drop used piece
behind_is piece used = take_all (length piece - used) (drop used piece) (omega (arith, length-drop used piece))

-- the form of the vectors by what the reader of the netlist tells
pub form-is : (scripted : Bool) (text : List ℕ) (width lines : ℕ) → width ≡ unwrap_or (inputs_of (lines_in text)) 0 → lines ≡ length (lines_in text)
    → ◌≡◌ {A = Form} (record { inputs = width; scripted = scripted; before = lines }) (inputs.form_of scripted (netlist_in (lines_in text)) (length (lines_in text)))
form-is scripted text width lines e f = rw (e, f) refl

-- an answer of the netlist's reader
pub net-answer : (scripted : Bool) (text : List ℕ) (refusal : NetRefusal) → net_building.OrMemory refusal (early text ≡ Some refusal)
    → OrMemory (Net refusal) (inputs.early scripted text ≡ Some (Net refusal))
net-answer scripted text (net_refusals.BadLine line) e = net-early scripted text (net_refusals.BadLine line) e
net-answer scripted text net_refusals.Truncated e = net-early scripted text net_refusals.Truncated e
net-answer scripted text (net_refusals.Limit quantity) e = net-early scripted text (net_refusals.Limit quantity) e
net-answer scripted text net_refusals.NoMemory e = tt

-- an answer of the vectors' reader
pub vector-answer : (shown : Option VectorRefusal) (all : Option InputRefusal) (refusal : VectorRefusal) → all ≡ option_map inputs.of_vectors shown
    → vectors.Answers {A = Unit} (Err refusal) shown → OrMemory (Vectors refusal) (all ≡ Some (Vectors refusal))
vector-answer shown all (vector_refusals.BadLine line) e answer = e ∙ ap (option_map inputs.of_vectors) answer
vector-answer shown all vector_refusals.Truncated e answer = e ∙ ap (option_map inputs.of_vectors) answer
vector-answer shown all (vector_refusals.Limit quantity) e answer = e ∙ ap (option_map inputs.of_vectors) answer
vector-answer shown all vector_refusals.NoMemory e answer = tt

-- the first bytes of what shows no refusal show none
quiet-first : net_laws.EarlyStands → (text more : List ℕ) → early (text ++ more) ≡ None → early text ≡ None
quiet-first stands text more quiet = go (early text) refl
  where
    go : (shown : Option NetRefusal) → early text ≡ shown → early text ≡ None
    go None e = e
    go (Some refusal) e = let stays = stands.shown text more refusal e in absurd cc

-- a piece in which the `end` line does not come
pub fed-open : (text piece : List ℕ) (used : ℕ) (new : Reading) → used ≡ length piece → nets.IsReading (text ++ take used piece) new
    → has_end (lines_in (text ++ take used piece)) ≡ false → early (text ++ piece) ≡ None → IsBefore (text ++ piece) new
fed-open text piece used new all read unended quiet =
    let same : text ++ take used piece ≡ text ++ piece = ap (λ l. text ++ l) (take_all used piece (omega arith)) in
    record { read = subst (λ t. nets.IsReading t new) same read; open_end = subst (λ t. has_end (lines_in t) ≡ false) same unended; quiet = quiet }

-- and one in which it comes
parted : (text piece : List ℕ) (used : ℕ) → text ++ piece ≡ (text ++ take used piece) ++ drop used piece
parted text piece used = ap (λ l. text ++ l) (sym (take-append-drop used piece)) ∙ sym (append_assoc text (take used piece) (drop used piece))

pub parted-by : (text piece rest : List ℕ) (used : ℕ) → rest ≡ drop used piece → text ++ piece ≡ (text ++ take used piece) ++ rest
parted-by text piece rest used e = parted text piece used ∙ ap (λ l. (text ++ take used piece) ++ l) (sym e)

pub fed-ended : net_laws.EarlyStands → (text piece : List ℕ) (used : ℕ) (new : Reading) → nets.IsReading (text ++ take used piece) new → new.stopped ≡ None
    → has_end (lines_in (text ++ take used piece)) ≡ true → after_end (text ++ take used piece) ≡ [] → early (text ++ piece) ≡ None → HasBegun (text ++ take used piece) new
fed-ended stands text piece used new read goes ended after quiet = record {
  read = read;
  goes_on = goes;
  ended = ended;
  none_after = after;
  quiet = quiet-first stands (text ++ take used piece) (drop used piece) (ap early (sym (parted text piece used)) ∙ quiet);
}

-- what follows of a good answer
pub of-good : {A E : Type 0} (F G : Type 0) (answer : Result A E) → (F → G) → OnOk answer F → OnOk answer G
of-good F G (Ok x) f h = f h
of-good F G (Err e) f h = h

-- of bytes after a netlist's text
abbrev pub form_after : Bool → List ℕ → Form
form_after scripted first = inputs.form_of scripted (netlist_in (lines_in first)) (length (lines_in first))

pub after-early : (scripted : Bool) (text more : List ℕ) (net : Reading) (reading : vector_readings.Reading) (after : IsAfter scripted text net reading)
    → inputs.early scripted (text ++ more) ≡ option_map inputs.of_vectors (vector_texts.early (form_after scripted after.first) (after.rest ++ more))
after-early scripted text more net reading after =
    ap (λ t. inputs.early scripted (t ++ more)) after.parts
    ∙ (ap (inputs.early scripted) (append_assoc after.first after.rest more) ∙ begun-early after.first net after.begun scripted (after.rest ++ more))

pub after-more : (scripted : Bool) (text more : List ℕ) (net : Reading) (reading new : vector_readings.Reading) (after : IsAfter scripted text net reading)
    → HasRead scripted after.first (after.rest ++ more) new → IsAfter scripted (text ++ more) net new
after-more scripted text more net reading new after read = record {
  first = after.first;
  rest = after.rest ++ more;
  parts = ap (λ t. t ++ more) after.parts ∙ append_assoc after.first after.rest more;
  begun = after.begun;
  has_read = read;
}

pub after-judged : (scripted : Bool) (text : List ℕ) (net : Reading) (reading : vector_readings.Reading) (after : IsAfter scripted text net reading)
    → inputs.judgement scripted text ≡ inputs.both_of (netlist_in (lines_in after.first)) (vector_texts.judgement (form_after scripted after.first) after.rest)
after-judged scripted text net reading after =
    ap (inputs.judgement scripted) after.parts ∙ begun-judged after.first net after.begun scripted after.rest

same-netlist : (said : Result (PlainNetlist × List ℕ) NetRefusal) (one other : PlainNetlist) (rest more : List ℕ) → said ≡ Ok (one, rest) → said ≡ Ok (other, more) → one ≡ other
same-netlist said one other rest more e d =
    let both = sym e ∙ d in
    let pairs : ◌≡◌ {A = PlainNetlist × List ℕ} (one, rest) (other, more) = cc in
    ap (λ (pair : PlainNetlist × List ℕ). pair.0) pairs

-- a netlist with its vectors
pub both-judged : (scripted : Bool) (text : List ℕ) (net : Reading) (reading : vector_readings.Reading) (after : IsAfter scripted text net reading)
    (read : PlainNetlist) (said : PlainVectors) → net_verdict after.first ≡ Ok (read, [])
    → vector_texts.judgement (form_after scripted after.first) after.rest ≡ Ok said → inputs.judgement scripted text ≡ Ok (record { net = read; vectors = said })
both-judged scripted text net reading after read said verdict judged =
    let same = same-netlist (net_verdict after.first) (netlist_in (lines_in after.first)) read [] [] (begun-verdict after.first net after.begun) verdict in
    after-judged scripted text net reading after
    ∙ (ap (inputs.both_of (netlist_in (lines_in after.first))) judged ∙ ap (λ (n : PlainNetlist). Ok (record { net = n; vectors = said })) same)

-- the verdict of the vectors' reader
pub vector-verdict : (net : PlainNetlist) (all : Result SimulationInput InputRefusal) (said : Result PlainVectors VectorRefusal) (refusal : VectorRefusal)
    → all ≡ inputs.both_of net said → vectors.IsVerdict {A = PlainVectors} (Err refusal) said → OrMemory (Vectors refusal) (all ≡ Err (Vectors refusal))
vector-verdict net all said (vector_refusals.BadLine line) e is = e ∙ ap (inputs.both_of net) is
vector-verdict net all said vector_refusals.Truncated e is = e ∙ ap (inputs.both_of net) is
vector-verdict net all said (vector_refusals.Limit quantity) e is = e ∙ ap (inputs.both_of net) is
vector-verdict net all said vector_refusals.NoMemory e is = tt

-- the verdict of the netlist's reader before an `end` line
net-verdict : (scripted : Bool) (text : List ℕ) (refusal : NetRefusal) → net_building.OrMemory refusal (net_verdict text ≡ Err refusal)
    → OrMemory (Net refusal) (inputs.judgement scripted text ≡ Err (Net refusal))
net-verdict scripted text (net_refusals.BadLine line) is = ap (inputs.judged_by scripted (length (lines_in text))) is
net-verdict scripted text net_refusals.Truncated is = ap (inputs.judged_by scripted (length (lines_in text))) is
net-verdict scripted text (net_refusals.Limit quantity) is = ap (inputs.judged_by scripted (length (lines_in text))) is
net-verdict scripted text net_refusals.NoMemory is = tt

pub net_refused : (net : Reading) (refusal : NetRefusal)
    → ((text : List ℕ) → nets.IsReading text net → net_building.OrMemory refusal (net_verdict text ≡ Err refusal))
    → (scripted : Bool) (text : List ℕ) → IsBefore text net → OrMemory (Net refusal) (inputs.judgement scripted text ≡ Err (Net refusal))
net_refused net refusal law scripted text before = net-verdict scripted text refusal (law text before.read)

-- a netlist that has ended without a refusal is refused for want of memory alone
pub never-refused : (fact : Type 0) (text : List ℕ) (net : Reading) (refusal : NetRefusal) → HasBegun text net → net_building.OrMemory refusal (net_verdict text ≡ Err refusal)
    → OrMemory (Net refusal) fact
never-refused fact text net (net_refusals.BadLine line) begun is = let ok = begun-verdict text net begun in absurd cc
never-refused fact text net net_refusals.Truncated begun is = let ok = begun-verdict text net begun in absurd cc
never-refused fact text net (net_refusals.Limit quantity) begun is = let ok = begun-verdict text net begun in absurd cc
never-refused fact text net net_refusals.NoMemory begun is = tt

-- what a reader has taken, by whether the `end` line has come
pub taken-before : (scripted : Bool) (text : List ℕ) (net : Reading) (both : Option vector_readings.Reading) → both ≡ None → TakenBy scripted text net both → IsBefore text net
taken-before scripted text net None e taken = taken
taken-before scripted text net (Some reading) e taken = cc

pub taken-after : (scripted : Bool) (text : List ℕ) (net : Reading) (both : Option vector_readings.Reading) (reading : vector_readings.Reading) → both ≡ Some reading
    → TakenBy scripted text net both → IsAfter scripted text net reading
taken-after scripted text net both reading e taken = subst (λ (b : Option vector_readings.Reading). TakenBy scripted text net b) e taken

-- a refusal that was answered is answered again
pub again-before : (A : Type 0) (net : Reading) (both : Option vector_readings.Reading) (answer : Result A InputRefusal) → both ≡ None
    → ((refusal : NetRefusal) → net.stopped ≡ Some refusal → answer ≡ Err (Net refusal)) → (refusal : InputRefusal) → HasAnsweredBy both net refusal → answer ≡ Err refusal
again-before A net None answer e law (Net refusal) h = law refusal h
again-before A net None answer e law (Vectors refusal) h = absurd h
again-before A net (Some reading) answer e law refusal h = cc

pub again-after : (A : Type 0) (net : Reading) (both : Option vector_readings.Reading) (reading : vector_readings.Reading) (answer : Result A InputRefusal) → both ≡ Some reading
    → ((refusal : VectorRefusal) → vectors.HasAnswered reading refusal → answer ≡ Err (Vectors refusal)) → (refusal : InputRefusal) → HasAnsweredBy both net refusal → answer ≡ Err refusal
again-after A net None reading answer e law refusal h = cc
again-after A net (Some same) reading answer e law (Net refusal) h = absurd h
again-after A net (Some same) reading answer e law (Vectors refusal) h =
    let is : same ≡ reading = cc in
    law refusal (subst (λ (r : vector_readings.Reading). vectors.HasAnswered r refusal) is h)

-- want of memory was answered before
pub net-memory : (net : Reading) (refusal : NetRefusal) → ((refusal ≡ net_refusals.NoMemory) → net.stopped ≡ Some net_refusals.NoMemory) → IsNoMemory (Net refusal) → net.stopped ≡ Some refusal
net-memory net (net_refusals.BadLine line) law h = absurd h
net-memory net net_refusals.Truncated law h = absurd h
net-memory net (net_refusals.Limit quantity) law h = absurd h
net-memory net net_refusals.NoMemory law h = law refl

pub vector-memory : (reading : vector_readings.Reading) (refusal : VectorRefusal) → ((refusal ≡ vector_refusals.NoMemory) → vectors.HasAnswered reading vector_refusals.NoMemory)
    → IsNoMemory (Vectors refusal) → vectors.HasAnswered reading refusal
vector-memory reading (vector_refusals.BadLine line) law h = absurd h
vector-memory reading vector_refusals.Truncated law h = absurd h
vector-memory reading (vector_refusals.Limit quantity) law h = absurd h
vector-memory reading vector_refusals.NoMemory law h = law refl
