-- The text of a netlist is read back.
use Rattle.std.proofs.Common.{◌≡◌, ◌^◌, ℕ, suc, ◌-◌, ◌≤◌, ltb, cond, true, false, List, [], ◌∷◌, ◌++◌, length, take, map, codes, decimal, Option, None, Result, Err, refl, sym, ap, subst, ◌∙◌}
use Rattle.std.proofs.Common.{append_assoc, append-nil, inl, inr, arith}
use Rattle.std.specs.List.{flat_map}
use Rattle.std.proofs.lemmas.Bool.{le-ltb, le-leb}
use Rattle.std.proofs.lemmas.List.{map-append, length-append, take_all}
use Rattle.pulse_ids.specs.Lists.{IsIn}
use Rattle.cell_netlist.specs.declared.kinds.Version.{Version}
use Rattle.cell_netlist.specs.Netlists.{PlainNetlist, IsNetlist, versioned}
use Rattle.cell_netlist.specs.Text.{line_of, version_word, rail_words, cell_words, state_words, name_words, netlist_words, text_of}
use Rattle.word_scan.specs.Lines.{lines_after, whole_lines}
use Rattle.word_scan.specs.Reading.{read_on, text_read}
use Rattle.word_scan.proofs.CallerLemmasDecimals.{IsFree}
use Rattle.word_scan.proofs.CallerLemmasPieces.{take_joined}
use Rattle.word_scan.proofs.CallerLemmasReading.{read_joined}
use Rattle.netlist_reader.specs.declared.statements.Statement.TheVariants as statements
use Rattle.netlist_reader.specs.declared.places.Section.TheVariants.{InputRails, Cells, OutputRails, States, InputNames, OutputNames, End}
use Rattle.netlist_reader.specs.declared.built.Built.{Built}
use Rattle.netlist_reader.specs.declared.refusals.NetRefusal.{NetRefusal}
use Rattle.netlist_reader.specs.declared.refusals.NetRefusal.TheVariants as refusals
use Rattle.netlist_reader.specs.Limits.{limit_of}
use Rattle.netlist_reader.specs.Places.{rank, has_end, netlist_in}
use Rattle.netlist_reader.specs.Building.{has_ended, after_statement, line_read, start}
use Rattle.netlist_reader.specs.Verdicts.{limit, lines_in, early, after_lines, after_end, judged}
use Rattle.netlist_reader.specs.Laws.{IsWithinLimits, TextsAreRead}
use Rattle.netlist_reader.proofs.Steps.{going}
use Rattle.netlist_reader.proofs.Lines.{passed_over}
use Rattle.netlist_reader.proofs.Texts.{done, lines_read, built_by, early_is}
use Rattle.netlist_reader.proofs.WrittenLines.{spaced, line_is, head_read, end_read, ports_line_read}
use Rattle.netlist_reader.proofs.Sections.{Leads, all_added, one_read, free_more, section_read}
use Rattle.netlist_reader.proofs.NetParts.{input_written, cell_written, output_written, states_written, states_added, input_name_written, output_name_written, inputs_added, cells_added}
use Rattle.netlist_reader.proofs.NetParts.{outputs_added, input_names_added, output_names_added, input_names_in, output_names_in}
use Rattle.netlist_reader.proofs.RisingLatches.{StatesFit, state_now, state_next, states_fit_first}
use Rattle.netlist_reader.proofs.RisingPorts.{InputsFit, OutputsFit, input_now, output_now, input_next, output_next, fit_first}

-- lines that are written and taken
line_taken : (line w rest : List ℕ) → IsFree 10 w → lines_after line (w ++ 10 ∷ rest) ≡ (line ++ w) ∷ lines_after [] rest
line_taken line [] rest f = ap (λ (l : List ℕ). l ∷ lines_after [] rest) (sym (append-nil line))
line_taken line (b ∷ w) rest f = rw f.0 (line_taken (line ++ b ∷ []) w rest f.1 ∙ ap (λ (l : List ℕ). l ∷ lines_after [] rest) (append_assoc line (b ∷ []) w))

line_passed : (n : ℕ) (w rest : List ℕ) → IsFree 10 w → after_lines (suc n) (w ++ 10 ∷ rest) ≡ after_lines n rest
line_passed n [] rest f = refl
line_passed n (b ∷ w) rest f = rw f.0 (line_passed n w rest f.1)

pub line_flat : (words : List (List ℕ)) (rest : List ℕ) → line_of words ++ rest ≡ spaced words ++ 10 ∷ rest
line_flat words rest = ap (λ (l : List ℕ). l ++ rest) (line_is words) ∙ append_assoc (spaced words) (10 ∷ []) rest

texts_taken : (lines : List (List (List ℕ))) (rest : List ℕ) → ((words : List (List ℕ)) → IsIn words lines → IsFree 10 (spaced words))
    → whole_lines (flat_map line_of lines ++ rest) ≡ map spaced lines ++ whole_lines rest
texts_taken [] rest f = refl
texts_taken (words ∷ lines) rest f =
    ap whole_lines (append_assoc (line_of words) (flat_map line_of lines) rest ∙ line_flat words (flat_map line_of lines ++ rest))
    ∙ line_taken [] (spaced words) (flat_map line_of lines ++ rest) (f words (inl refl))
    ∙ ap (λ (ls : List (List ℕ)). spaced words ∷ ls) (texts_taken lines rest (λ w h. f w (inr h)))

texts_passed : (lines : List (List (List ℕ))) (rest : List ℕ) → ((words : List (List ℕ)) → IsIn words lines → IsFree 10 (spaced words))
    → after_lines (length lines) (flat_map line_of lines ++ rest) ≡ rest
texts_passed [] rest f = refl
texts_passed (words ∷ lines) rest f =
    ap (after_lines (suc (length lines))) (append_assoc (line_of words) (flat_map line_of lines) rest ∙ line_flat words (flat_map line_of lines ++ rest))
    ∙ line_passed (length lines) (spaced words) (flat_map line_of lines ++ rest) (f words (inl refl))
    ∙ texts_passed lines rest (λ w h. f w (inr h))

-- after the head
head_leads : (version : Version) (inputs outputs : ℕ) → inputs ≤ 2 ^ 14 → outputs ≤ 2 ^ 14
    → Leads ((codes "xsfq" ∷ version_word version ∷ []) ∷ (codes "ports" ∷ decimal inputs ∷ decimal outputs ∷ []) ∷ []) 2 (versioned version inputs outputs)
head_leads version inputs outputs f g =
    let words : List (List ℕ) = codes "ports" ∷ decimal inputs ∷ decimal outputs ∷ [] in
    let ports = ports_line_read inputs outputs (omega arith) (omega arith) in
    let head = head_read version in
    let first : List ℕ = spaced (codes "xsfq" ∷ version_word version ∷ []) in
    let b : Built = after_statement start first (statements.Version version) in
    let begun : line_read start first ≡ going b = one_read start (codes "xsfq" ∷ version_word version ∷ []) (statements.Version version) refl head refl refl refl in
    let few_inputs : ltb (2 ^ 14) inputs ≡ false = le-ltb _ _ f in
    let few_outputs : ltb (2 ^ 14) outputs ≡ false = le-ltb _ _ g in
    let small : limit_of (spaced words) (statements.Ports inputs outputs) ≡ None = rw (few_inputs, few_outputs) refl in
    record {
      built = after_statement b (spaced words) (statements.Ports inputs outputs);
      reads = ap (λ (r : Result Built NetRefusal). read_on line_read r (spaced words ∷ [])) begun ∙ one_read b words (statements.Ports inputs outputs) refl ports small refl refl;
      count = refl;
      stage = record { net_is = refl; ready = λ next p q. rw (le-leb 2 (rank next) p, le-leb 1 (rank next) (omega arith)) refl; lasts = refl };
      free = λ words h. elim h [
        | inl e ↦ subst (λ (x : List (List ℕ)). IsFree 10 (spaced x)) e head.feeds
        | inr h2 ↦ elim h2 [ inl e ↦ subst (λ (x : List (List ℕ)). IsFree 10 (spaced x)) e ports.feeds | inr none ↦ absurd none ]
      ];
    }

abbrev pub head_lines : PlainNetlist → List (List (List ℕ))
head_lines net = (codes "xsfq" ∷ version_word net.version ∷ []) ∷ (codes "ports" ∷ decimal net.inputs ∷ decimal net.outputs ∷ []) ∷ []

abbrev pub rail_lines : PlainNetlist → List (List (List ℕ))
rail_lines net = ((head_lines net ++ map (rail_words (codes "input")) net.input_rails) ++ map cell_words net.cells) ++ map (rail_words (codes "output")) net.output_rails

abbrev pub all_lines : PlainNetlist → List (List (List ℕ))
all_lines net = ((rail_lines net ++ map state_words net.states) ++ map (name_words (codes "iname")) net.input_names) ++ map (name_words (codes "oname")) net.output_names

-- a netlist without its names, and without its state lines
abbrev unnamed : PlainNetlist → PlainNetlist
unnamed net = record net { input_names = []; output_names = [] }

abbrev stateless : PlainNetlist → PlainNetlist
stateless net = record (unnamed net) { states = [] }

-- what the lines up to `end` lead to
module _ (net : PlainNetlist) (shape : IsNetlist net) (within : IsWithinLimits net) where
  rails_lead : Leads (rail_lines net) 4 (stateless net)
  rails_lead =
      let h = head_leads net.version net.inputs net.outputs within.inputs within.outputs in
      let a = section_read (rail_words (codes "input")) (λ x. statements.Input x) InputRails (λ x. refl) (omega arith) (omega arith) (λ xs n. Unit) (λ x xs n f. refl) (λ x xs n f. tt)
      net.input_rails (head_lines net) 2 _ h (omega arith) (input_written net shape) tt in
      let b = section_read cell_words (λ x. statements.OneCell x) Cells (λ x. refl) (omega arith) (omega arith) (λ xs n. Unit) (λ x xs n f. refl) (λ x xs n f. tt)
      net.cells (head_lines net ++ map (rail_words (codes "input")) net.input_rails) 2 _ a (omega arith) (cell_written net shape) tt in
      let c = section_read (rail_words (codes "output")) (λ x. statements.Output x) OutputRails (λ x. refl) (omega arith) (omega arith) (λ xs n. Unit) (λ x xs n f. refl) (λ x xs n f. tt)
      net.output_rails ((head_lines net ++ map (rail_words (codes "input")) net.input_rails) ++ map cell_words net.cells) 3 _ b (omega arith) (output_written net shape) tt in
      let empty : PlainNetlist = versioned net.version net.inputs net.outputs in
      let same = ap (λ (n : PlainNetlist). all_added (rail_words (codes "output")) (λ x. statements.Output x) net.output_rails (all_added cell_words (λ x. statements.OneCell x) net.cells n))
      (inputs_added net.input_rails empty)
      ∙ ap (λ (n : PlainNetlist). all_added (rail_words (codes "output")) (λ x. statements.Output x) net.output_rails n) (cells_added net.cells (record empty { input_rails = net.input_rails }))
      ∙ outputs_added net.output_rails (record empty { input_rails = net.input_rails; cells = net.cells }) in
      subst (λ (n : PlainNetlist). Leads (rail_lines net) 4 n) same c

  states_lead : Leads (rail_lines net ++ map state_words net.states) 5 (unnamed net)
  states_lead =
      let a = section_read state_words (λ x. statements.State x) States (λ x. refl) (omega arith) (omega arith) StatesFit state_now state_next
      net.states (rail_lines net) 4 (stateless net) rails_lead (omega arith) (states_written net.version net.states shape.states)
      (states_fit_first net.version net.states (stateless net) shape.states refl refl) in
      subst (λ (n : PlainNetlist). Leads (rail_lines net ++ map state_words net.states) 5 n) (states_added net.states (stateless net)) a

  names_lead : Leads (all_lines net) 7 net
  names_lead =
      let half : PlainNetlist = record (unnamed net) { input_names = net.input_names } in
      let a = section_read (name_words (codes "iname")) (λ x. statements.InputName x.0) InputNames (λ x. refl) (omega arith) (omega arith) InputsFit input_now input_next
      net.input_names (rail_lines net ++ map state_words net.states) 5 (unnamed net) states_lead (omega arith) (input_name_written 0 net.inputs net.input_names shape.input_names shape.inputs)
      (fit_first net.inputs net.input_names shape.input_names) in
      let first : Leads ((rail_lines net ++ map state_words net.states) ++ map (name_words (codes "iname")) net.input_names) 6 half =
      subst (λ (n : PlainNetlist). Leads ((rail_lines net ++ map state_words net.states) ++ map (name_words (codes "iname")) net.input_names) 6 n)
      (input_names_added net.input_names (unnamed net) (input_names_in 0 net.inputs net.input_names shape.input_names shape.inputs)) a in
      let b = section_read (name_words (codes "oname")) (λ x. statements.OutputName x.0) OutputNames (λ x. refl) (omega arith) (omega arith) OutputsFit output_now output_next
      net.output_names ((rail_lines net ++ map state_words net.states) ++ map (name_words (codes "iname")) net.input_names) 6 half first (omega arith)
      (output_name_written 0 net.outputs net.output_names shape.output_names shape.outputs)
      (fit_first net.outputs net.output_names shape.output_names) in
      subst (λ (n : PlainNetlist). Leads (all_lines net) 7 n) (output_names_added net.output_names half (output_names_in 0 net.outputs net.output_names shape.output_names shape.outputs)) b

-- what all lines lead to
record Ends (net : PlainNetlist) : Type 0 where
  built : Built
  reads : read_on line_read (going start) (map spaced (netlist_words net)) ≡ going built
  count : built.lines ≡ length (netlist_words net)
  net_is : built.net ≡ net
  ended : has_ended built ≡ true
  free : (words : List (List ℕ)) → IsIn words (netlist_words net) → IsFree 10 (spaced words)

lines_end : (net : PlainNetlist) → IsNetlist net → IsWithinLimits net → Ends net
lines_end net shape within =
    let leads = names_lead net shape within in
    let b = leads.built in
    let words : List (List ℕ) = codes "end" ∷ [] in
    let one = one_read b words statements.End leads.stage.lasts end_read refl (leads.stage.ready End (omega arith) (omega arith)) refl in
    record {
      built = after_statement b (spaced words) statements.End;
      reads = ap (read_on line_read (going start)) (map-append spaced (all_lines net) (words ∷ [])) ∙ read_joined line_read (going start) (map spaced (all_lines net)) (spaced words ∷ [])
          ∙ ap (λ (r : Result Built NetRefusal). read_on line_read r (spaced words ∷ [])) leads.reads ∙ one;
      count = omega (arith, leads.count, length-append (all_lines net) (words ∷ []));
      net_is = leads.stage.net_is;
      ended = refl;
      free = free_more (all_lines net) words leads.free end_read.feeds;
    }

pub texts_are_read : TextsAreRead
texts_are_read net shape within rest =
    let e = lines_end net shape within in
    let text : List ℕ = text_of net in
    let part : List ℕ = take (limit - length text) rest in
    let cut : take limit (text ++ rest) ≡ text ++ part = take_joined limit text rest ∙ ap (λ (l : List ℕ). l ++ part) (take_all limit text within.bytes) in
    let reads : lines_read (text ++ rest) ≡ going e.built =
    ap (text_read line_read start) cut ∙ ap (read_on line_read (going start)) (texts_taken (netlist_words net) part e.free)
    ∙ read_joined line_read (going start) (map spaced (netlist_words net)) (whole_lines part)
    ∙ ap (λ (r : Result Built NetRefusal). read_on line_read r (whole_lines part)) e.reads ∙ passed_over e.built (whole_lines part) e.ended in
    let is = (built_by (text ++ rest) e.built reads).1 in
    let shown : early (text ++ rest) ≡ None = early_is (text ++ rest) e.built reads ∙ rw e.ended refl in
    let ended : has_end (lines_in (text ++ rest)) ≡ true = sym is.ended ∙ e.ended in
    let count : length (lines_in (text ++ rest)) ≡ length (netlist_words net) = sym is.count ∙ e.count in
    let left : after_end (text ++ rest) ≡ rest =
    ap (λ b. cond b (after_lines (length (lines_in (text ++ rest))) (text ++ rest)) []) ended ∙ ap (λ n. after_lines n (text ++ rest)) count ∙ texts_passed (netlist_words net) rest e.free in
    ap (λ (o : Option NetRefusal). judged o (text ++ rest)) shown
    ∙ ap (λ b. cond b (done (netlist_in (lines_in (text ++ rest)), after_end (text ++ rest))) (Err refusals.Truncated)) ended
    ∙ ap (λ (n : PlainNetlist). done (n, after_end (text ++ rest))) (sym is.net ∙ e.net_is) ∙ ap (λ (l : List ℕ). done (net, l)) left
