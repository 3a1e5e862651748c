-- Each logical line that is read leaves what is bounded.
use Rattle.std.proofs.Common.{◌≡◌, ◌^◌, ℕ, ◌+◌, ◌≤◌, ◌==◌, ◌&&◌, Bool, true, false, cond, List, [], ◌∷◌, length, Option, Some, None, Result, Ok, Err, codes, refl, sym, subst, ◌∙◌, arith}
use Rattle.std.specs.Prelude.{slice_index}
use Rattle.std.specs.Option.{option_or}
use Rattle.std.specs.Str.{bytes_eq}
use Rattle.std.proofs.lemmas.Bool.{eqb-true}
use Rattle.pulse_ids.specs.declared.quantities.Quantity.TheVariants as quantities
use Rattle.numbered_names.specs.Names.{number_for}
use Rattle.word_scan.specs.Logical.{dark_words, has_strange}
use Rattle.word_scan.specs.Reading.{read_on}
use Rattle.word_scan.proofs.CallerLemmasReading.{read_refused}
use Rattle.word_scan.proofs.CallerLemmasLogical.{IsPlainWord, ArePlainWords, words_plain}
use Rattle.source_machine.specs.declared.unset.Unset.{Unset}
use Rattle.source_machine.specs.Machines.{PlainLatch}
use Rattle.source_machine.specs.Additions.{with_nets, with_latch}
use Rattle.source_machine.proofs.CallerLemmas.{more_latch_fits}
use Rattle.blif_reader.specs.declared.refusals.LineRefusal.{LineRefusal}
use Rattle.blif_reader.specs.declared.refusals.LineRefusal.TheVariants as line_refusals
use Rattle.blif_reader.specs.declared.refusals.BlifCause.TheVariants as causes
use Rattle.blif_reader.specs.Rows.{are_marks, bit_of}
use Rattle.blif_reader.specs.States.{BlifState, OpenEquation, closed}
use Rattle.blif_reader.specs.Latches.{net_read, latch_read, latch_added, state_given, clock_read, differs_in_clock, untyped_read, typed_read, latch_words_read, is_mixed, with_type, edge_of}
use Rattle.blif_reader.specs.Latches.{first_state}
use Rattle.blif_reader.specs.Statements.{model_read, input_read, output_read, column_read, names_read, end_read, is_passed_over, statement_read, bit_added, row_added, row_read_by, words_read}
use Rattle.blif_reader.specs.Statements.{text_line_read}
use Rattle.blif_reader.specs.Bounds.{IsBounded}
use Rattle.blif_reader.proofs.Inversions.{either, allowed, over_ok, after_ok, NetRead, net_is_read}
use Rattle.blif_reader.proofs.Bounding.{kept_bounded, nets_bounded, input_bounded, output_bounded, column_bounded, closed_bounded, bit_bounded}

-- the first word's result is read on, where the words are
pub goes_by : (read : BlifState → List ℕ → Result BlifState LineRefusal) (Q : Type 0) (result : Result BlifState LineRefusal) (words : List (List ℕ)) (next : BlifState)
    → read_on read result words ≡ Ok next
    → ((middle : BlifState) → result ≡ Ok middle → read_on read (Ok middle) words ≡ Ok next → Q) → Q
goes_by read Q (Ok middle) words next h f = f middle refl h
goes_by read Q (Err refusal) words next h f =
    let k : ◌≡◌ {A = Result BlifState LineRefusal} (Err refusal) (Ok next) = sym (read_refused read refusal words) ∙ h in absurd cc

module _ (read : BlifState → List ℕ → Result BlifState LineRefusal) (each : (state next : BlifState) (word : List ℕ) → IsBounded state → IsPlainWord word
    → read state word ≡ Ok next → IsBounded next) where
  -- words that are read one after the other
  pub words_bounded : (state next : BlifState) (words : List (List ℕ)) → IsBounded state → ArePlainWords words → read_on read (Ok state) words ≡ Ok next → IsBounded next
  words_bounded state next [] bounded plain h = let is : state ≡ next = cc in subst (λ (s : BlifState). IsBounded s) is bounded
  words_bounded state next (word ∷ words) bounded plain h =
      goes_by read (IsBounded next) (read state word) words next h (λ middle is rest. words_bounded middle next words (each state middle word bounded plain.0 is) plain.1 rest)

clock_bounded : (state next : BlifState) (name : List ℕ) → IsBounded state → IsPlainWord name → clock_read state name ≡ Ok next → IsBounded next
clock_bounded state next name bounded plain h =
    let new : BlifState = record state { clock = option_or state.clock (Some name); clocked = true } in
    let short = over_ok quantities.NameBytes (length name) (cond (differs_in_clock state.clock name) (Err (line_refusals.Cause causes.MixedClock)) (Ok new)) next h in
    let right = allowed (differs_in_clock state.clock name) (line_refusals.Cause causes.MixedClock) (Ok new) next short.1 in
    let is : new ≡ next = let k = right.1 in cc in
    subst (λ (s : BlifState). IsBounded s) is (kept_bounded state new refl refl refl refl bounded)

added_bounded : (state next : BlifState) (middle nets : List (List ℕ)) (input output : List ℕ) (init : Option Bool) → IsBounded state
    → NetRead state.nets middle input → NetRead middle nets output → length state.machine.latches + 1 ≤ 2 ^ 14
    → latch_added state middle nets input output init ≡ Ok next → IsBounded next
added_bounded state next middle nets input output None bounded first second room h = absurd cc
added_bounded state next middle nets input output (Some init) bounded first second room h =
    let more = nets_bounded state nets (omega (arith, first.grows, second.grows)) second.few bounded in
    let latch : PlainLatch = record { out = number_for middle output; init = init; next = record { net = number_for state.nets input; negated = false } } in
    let new : BlifState = record state { nets = nets; machine = with_latch state.machine latch } in
    let is : new ≡ next = cc in
    subst (λ (s : BlifState). IsBounded s) is (record {
      few = second.few;
      fits = more_latch_fits (with_nets state.machine (length nets)) more.fits latch ((second.least, second.most), omega (arith, first.most, second.grows)) (omega (arith, room));
      open_fits = more.open_fits;
      size = bounded.size;
      small = bounded.small;
    })

latch_bounded : (unset : Unset) (state next : BlifState) (input output : List ℕ) (init : Option Bool) → IsBounded state → latch_read unset state input output init ≡ Ok next → IsBounded next
latch_bounded unset state next input output init bounded h =
    let first = after_ok (net_read state.nets input) _ next h in
    let read = net_is_read state.nets first.0 input bounded.few first.1 in
    let second = after_ok (net_read first.0 output) _ next first.2 in
    let read2 = net_is_read first.0 second.0 output read.few second.1 in
    let room = over_ok quantities.Latches (length state.machine.latches + 1) _ next second.2 in
    added_bounded state next first.0 second.0 input output (state_given unset init) bounded read read2 room.0 room.1

untyped_bounded : (unset : Unset) (state next : BlifState) (input output value : List ℕ) → IsBounded state → untyped_read unset state input output value ≡ Ok next → IsBounded next
untyped_bounded unset state next input output value bounded h =
    let init = after_ok (first_state value) _ next h in
    let a = over_ok quantities.NameBytes (length input) _ next init.2 in
    let b = over_ok quantities.NameBytes (length output) _ next a.1 in
    latch_bounded unset state next input output init.0 bounded b.1

typed_bounded : (unset : Unset) (state next : BlifState) (input output kind control value : List ℕ) → IsBounded state
    → typed_read unset state input output kind control value ≡ Ok next → IsBounded next
typed_bounded unset state next input output kind control value bounded h =
    let edge = after_ok (edge_of kind) _ next h in
    let init = after_ok (first_state value) _ next edge.2 in
    let right = allowed (is_mixed state edge.0 control) (line_refusals.Cause causes.MixedClock) _ next init.2 in
    let a = over_ok quantities.NameBytes (length input) _ next right.1 in
    let b = over_ok quantities.NameBytes (length output) _ next a.1 in
    let c = over_ok quantities.NameBytes (length control) _ next b.1 in
    latch_bounded unset (with_type state edge.0 control) next input output init.0 (kept_bounded state (with_type state edge.0 control) refl refl refl refl bounded) c.1

latch_words_bounded : (unset : Unset) (state next : BlifState) (words : List (List ℕ)) → IsBounded state → latch_words_read unset state words ≡ Ok next → IsBounded next
latch_words_bounded unset state next [] bounded h = absurd cc
latch_words_bounded unset state next (a ∷ []) bounded h = absurd cc
latch_words_bounded unset state next (a ∷ b ∷ []) bounded h = untyped_bounded unset state next a b (codes "3") bounded h
latch_words_bounded unset state next (a ∷ b ∷ c ∷ []) bounded h = untyped_bounded unset state next a b c bounded h
latch_words_bounded unset state next (a ∷ b ∷ c ∷ d ∷ []) bounded h = typed_bounded unset state next a b c d (codes "3") bounded h
latch_words_bounded unset state next (a ∷ b ∷ c ∷ d ∷ e ∷ []) bounded h = typed_bounded unset state next a b c d e bounded h
latch_words_bounded unset state next (a ∷ b ∷ c ∷ d ∷ e ∷ f ∷ words) bounded h = absurd cc

modelled_bounded : (state next : BlifState) → IsBounded state → ◌≡◌ {A = Result BlifState LineRefusal} (Ok (record state { modelled = true })) (Ok next) → IsBounded next
modelled_bounded state next bounded h =
    let is : record state { modelled = true } ≡ next = cc in
    subst (λ (s : BlifState). IsBounded s) is (kept_bounded state (record state { modelled = true }) refl refl refl refl bounded)

model_bounded : (state next : BlifState) (words : List (List ℕ)) → IsBounded state → model_read state words ≡ Ok next → IsBounded next
model_bounded state next [] bounded h =
    let right = allowed state.modelled (line_refusals.Cause causes.SecondModel) _ next h in modelled_bounded state next bounded right.1
model_bounded state next (name ∷ []) bounded h =
    let right = allowed state.modelled (line_refusals.Cause causes.SecondModel) _ next h in
    let short = over_ok quantities.NameBytes (length name) _ next right.1 in
    modelled_bounded state next bounded short.1
model_bounded state next (name ∷ word ∷ words) bounded h =
    let right = allowed state.modelled (line_refusals.Cause causes.SecondModel) _ next h in let k = right.1 in absurd cc

names_bounded : (state next : BlifState) (words : List (List ℕ)) → IsBounded state → ArePlainWords words → names_read state words ≡ Ok next → IsBounded next
names_bounded state next [] bounded plain h = absurd cc
names_bounded state next (word ∷ words) bounded plain h = words_bounded column_read column_bounded state next (word ∷ words) bounded plain h

end_bounded : (state next : BlifState) (words : List (List ℕ)) → IsBounded state → end_read state words ≡ Ok next → IsBounded next
end_bounded state next [] bounded h =
    let is : record state { ended = true } ≡ next = cc in
    subst (λ (s : BlifState). IsBounded s) is (kept_bounded state (record state { ended = true }) refl refl refl refl bounded)
end_bounded state next (word ∷ words) bounded h = absurd cc

same_bounded : (state next : BlifState) → IsBounded state → ◌≡◌ {A = Result BlifState LineRefusal} (Ok state) (Ok next) → IsBounded next
same_bounded state next bounded h = let is : state ≡ next = cc in subst (λ (s : BlifState). IsBounded s) is bounded

statement_bounded : (unset : Unset) (state next : BlifState) (first : List ℕ) (words : List (List ℕ)) → IsBounded state → ArePlainWords words
    → statement_read unset state first words ≡ Ok next → IsBounded next
statement_bounded unset state next first words bounded plain h =
    let Q : Type 0 = IsBounded next in
    either Q (bytes_eq first (codes ".model")) _ _ next h (λ k. model_bounded state next words bounded k) (λ h.
    either Q (bytes_eq first (codes ".inputs")) _ _ next h (λ k. words_bounded input_read input_bounded state next words bounded plain k) (λ h.
    either Q (bytes_eq first (codes ".outputs")) _ _ next h (λ k. words_bounded output_read output_bounded state next words bounded plain k) (λ h.
    either Q (bytes_eq first (codes ".clock")) _ _ next h (λ k. words_bounded clock_read clock_bounded state next words bounded plain k) (λ h.
    either Q (bytes_eq first (codes ".names")) _ _ next h (λ k. names_bounded state next words bounded plain k) (λ h.
    either Q (bytes_eq first (codes ".latch")) _ _ next h (λ k. latch_words_bounded unset state next words bounded k) (λ h.
    either Q (bytes_eq first (codes ".end")) _ _ next h (λ k. end_bounded state next words bounded k) (λ h.
    either Q (is_passed_over first) _ _ next h (λ k. same_bounded state next bounded k) (λ k. absurd cc))))))))

both_true : (a b : Bool) → (a && b) ≡ true → a ≡ true
both_true true b h = refl
both_true false b h = absurd cc

marks_bounded : (state next : BlifState) (unended : OpenEquation) (words : Option (List ℕ × List ℕ)) → IsBounded state → state.unended ≡ Some unended
    → row_added state unended words ≡ Ok next → IsBounded next
marks_bounded state next unended None bounded is h = absurd cc
marks_bounded state next unended (Some said) bounded is h = by_marks (are_marks (length unended.columns) said.0) refl h
  where
    by_marks : (right : Bool) → are_marks (length unended.columns) said.0 ≡ right
        → cond right (bit_added state unended said.0 (bit_of said.1)) (Err (line_refusals.Cause causes.RowShape)) ≡ Ok next → IsBounded next
    by_marks true e k = bit_bounded state next unended said.0 (bit_of said.1) bounded is (eqb-true _ _ (both_true _ _ e)) k
    by_marks false e k = absurd cc

row_bounded : (state next : BlifState) (words : List (List ℕ)) → IsBounded state → (unended : Option OpenEquation) → state.unended ≡ unended
    → row_read_by state unended words ≡ Ok next → IsBounded next
row_bounded state next words bounded None is h = absurd cc
row_bounded state next words bounded (Some unended) is h = marks_bounded state next unended _ bounded is h

read_bounded : (unset : Unset) (state next : BlifState) (text : List ℕ) (words : List (List ℕ)) → IsBounded state → (has_strange text ≡ false → ArePlainWords words)
    → words_read unset state text words ≡ Ok next → IsBounded next
read_bounded unset state next text [] bounded plain h = same_bounded state next bounded h
read_bounded unset state next text (first ∷ words) bounded plain h =
    let strange = allowed (has_strange text) (line_refusals.Cause causes.BadWord) _ next h in
    let model = allowed _ (line_refusals.Cause causes.NoModel) _ next strange.1 in
    let ended = allowed state.ended _ _ next model.1 in
    either (IsBounded next) (slice_index first 0 == 46) _ _ next ended.1
    (λ k. let short = over_ok quantities.NameBytes (length first) _ next k in statement_bounded unset (closed state) next first words (closed_bounded state bounded) (plain strange.0).1 short.1)
    (λ k. row_bounded state next (first ∷ words) bounded state.unended refl k)

pub line_bounded : (unset : Unset) (state next : BlifState) (text : List ℕ) → IsBounded state → text_line_read unset state text ≡ Ok next → IsBounded next
line_bounded unset state next text bounded h = read_bounded unset state next text (dark_words text) bounded (words_plain text) h
