-- The checks of a latch.
use Rattle.std.proofs.Common.{◌≡◌, ℕ, ◌+◌, Bool, true, false, not, ◌||◌, ◌&&◌, cond, List, [], ◌∷◌, ◌++◌, length, Option, Some, None, Result, Ok, Err, codes, refl, sym, ap, subst, ◌∙◌, arith}
use Rattle.std.specs.Prelude.{filter}
use Rattle.std.specs.Bool.{beq}
use Rattle.std.specs.Option.{option_or, is_some}
use Rattle.std.specs.Str.{bytes_eq}
use Rattle.std.specs.List.{flat_map}
use Rattle.std.proofs.lemmas.List.{append-nil, length_push}
use Rattle.std.proofs.lemmas.Slice.Eq.{bytes_eq-Decides}
use Rattle.std.proofs.Math.Bool.{or-false}
use Rattle.pulse_ids.specs.declared.quantities.Quantity.TheVariants as quantities
use Rattle.numbered_names.specs.Names.{names_with}
use Rattle.source_machine.specs.declared.unset.Unset.{Unset}
use Rattle.source_machine.specs.Unset.{first_bit}
use Rattle.blif_reader.specs.declared.refusals.BlifCause.TheVariants as causes
use Rattle.blif_reader.specs.declared.refusals.LineRefusal.{LineRefusal}
use Rattle.blif_reader.specs.declared.refusals.LineRefusal.TheVariants.{Cause}
use Rattle.blif_reader.specs.declared.latch_kinds.LatchKind.{LatchKind}
use Rattle.blif_reader.specs.States.{BlifState}
use Rattle.blif_reader.specs.Refusing.{after, over}
use Rattle.blif_reader.specs.Latches.{edge_of, first_state, differs_in_type, differs_in_clock, names_clock, is_mixed, with_type, state_given, latch_added, latch_read, untyped_read, typed_read}
use Rattle.blif_reader.specs.Latches.{latch_words_read}
use Rattle.blif_reader.specs.Tellings.{names_in, firsts, clocks_in}
use Rattle.blif_reader.specs.LineRefusals.{first_failed, fails_where, above, net_above, is_latch, kind_refused, is_fixed, is_unfixed, value_refused, differs_from_first, kind_in, control_of}
use Rattle.blif_reader.specs.LineRefusals.{kinds_told, controls_told, is_mixed_told, latch_checks, untyped_refused, typed_refused, latch_refused}
use Rattle.blif_reader.proofs.Checking.{Meets, meets_over, meets_where}
use Rattle.blif_reader.proofs.NewNets.{firsts_with, meets_net}
use Rattle.blif_reader.proofs.TiedStates.{HasTold, HasKept, TypedIs, Adds, OpenIs}
use Rattle.blif_reader.proofs.WordChecks.{differs_as}

module _ {A : Type 0} (After : A → Type 0) (rest : Option LineRefusal) where
  value_by : (a b c : Bool) (next : Option Bool → Result A LineRefusal)
      → ((init : Option Bool) → cond a (Ok (Some false)) (cond b (Ok (Some true)) (cond c (Ok None) (Err (Cause causes.BadWord)))) ≡ Ok init → is_some init ≡ (a || b) → Meets (next init) rest After)
      → Meets (after (cond a (Ok (Some false)) (cond b (Ok (Some true)) (cond c (Ok None) (Err (Cause causes.BadWord))))) next)
      (option_or (fails_where (not ((a || b) || c)) causes.BadWord) rest) After
  value_by true b c next f = f (Some false) refl refl
  value_by false true c next f = f (Some true) refl refl
  value_by false false true next f = f None refl refl
  value_by false false false next f = refl

  meets_value : (value : List ℕ) (next : Option Bool → Result A LineRefusal) → ((init : Option Bool) → first_state value ≡ Ok init → is_some init ≡ is_fixed value → Meets (next init) rest After)
      → Meets (after (first_state value) next) (option_or (value_refused value) rest) After
  meets_value value next f = value_by (bytes_eq value (codes "0")) (bytes_eq value (codes "1")) (is_unfixed value) next f

  kind_by : (a b c : Bool) (next : Bool → Result A LineRefusal)
      → ((rises : Bool) → cond a (Err (Cause causes.LatchType)) (cond b (Ok true) (cond c (Ok false) (Err (Cause causes.BadWord)))) ≡ Ok rises → Meets (next rises) rest After)
      → Meets (after (cond a (Err (Cause causes.LatchType)) (cond b (Ok true) (cond c (Ok false) (Err (Cause causes.BadWord))))) next)
      (option_or (first_failed (fails_where a causes.LatchType ∷ fails_where (not (b || c)) causes.BadWord ∷ [])) rest) After
  kind_by true b c next f = refl
  kind_by false true c next f = f true refl
  kind_by false false true next f = f false refl
  kind_by false false false next f = refl

  meets_kind : (kind : List ℕ) (next : Bool → Result A LineRefusal) → ((rises : Bool) → edge_of kind ≡ Ok rises → Meets (next rises) rest After)
      → Meets (after (edge_of kind) next) (option_or (kind_refused kind) rest) After
  meets_kind kind next f =
      kind_by (bytes_eq kind (codes "ah") || (bytes_eq kind (codes "al") || bytes_eq kind (codes "as"))) (bytes_eq kind (codes "re")) (bytes_eq kind (codes "fe")) next f

edge_by : (a b c : Bool) (kind : List ℕ) (rises : Bool) → bytes_eq kind (codes "re") ≡ b → bytes_eq kind (codes "fe") ≡ c
    → ◌≡◌ {A = Result Bool LineRefusal} (cond a (Err (Cause causes.LatchType)) (cond b (Ok true) (cond c (Ok false) (Err (Cause causes.BadWord))))) (Ok rises)
    → kind ≡ cond rises (codes "re") (codes "fe")
edge_by true b c kind rises e f h = absurd cc
edge_by false true c kind rises e f h = let k : true ≡ rises = cc in subst (λ r. kind ≡ cond r (codes "re") (codes "fe")) k ((bytes_eq-Decides kind (codes "re")).0 e)
edge_by false false true kind rises e f h = let k : false ≡ rises = cc in subst (λ r. kind ≡ cond r (codes "re") (codes "fe")) k ((bytes_eq-Decides kind (codes "fe")).0 f)
edge_by false false false kind rises e f h = absurd cc

-- the word of an edge
word_of : (kind : List ℕ) (rises : Bool) → edge_of kind ≡ Ok rises → kind ≡ cond rises (codes "re") (codes "fe")
word_of kind rises h =
    edge_by (bytes_eq kind (codes "ah") || (bytes_eq kind (codes "al") || bytes_eq kind (codes "as"))) (bytes_eq kind (codes "re")) (bytes_eq kind (codes "fe")) kind rises refl refl h

words_differ : (a b : Bool) → bytes_eq (cond a (codes "re") (codes "fe")) (cond b (codes "re") (codes "fe")) ≡ beq a b
words_differ true true = refl
words_differ true false = refl
words_differ false true = refl
words_differ false false = refl

-- types are compared by their words
edges_differ : (first kind : List ℕ) (a b : Bool) → edge_of first ≡ Ok a → edge_of kind ≡ Ok b → bytes_eq first kind ≡ beq a b
edges_differ first kind a b e f =
    ap (λ (w : List ℕ). bytes_eq w kind) (word_of first a e) ∙ ap (λ (w : List ℕ). bytes_eq (cond a (codes "re") (codes "fe")) w) (word_of kind b f) ∙ words_differ a b

type_differs : (typed : Option LatchKind) (kinds controls : List (List ℕ)) (kind control : List ℕ) (rises : Bool) → TypedIs typed kinds controls → edge_of kind ≡ Ok rises
    → differs_in_type typed rises control ≡ (differs_from_first kinds kind || differs_from_first controls control)
type_differs None kinds controls kind control rises t e = rw (t.0, t.1) refl
type_differs (Some typed) [] controls kind control rises t e = absurd t
type_differs (Some typed) (first ∷ kinds) [] kind control rises t e = absurd t
type_differs (Some typed) (first ∷ kinds) (held ∷ controls) kind control rises t e =
    ap (λ b. not b || not (bytes_eq typed.control control)) (sym (edges_differ first kind typed.rises rises t.0 e))
    ∙ ap (λ (c : List ℕ). not (bytes_eq first kind) || not (bytes_eq c control)) (sym t.1)

given_by : (init bit : Option Bool) → is_some (option_or init bit) ≡ (is_some init || is_some bit)
given_by (Some x) bit = refl
given_by None bit = refl

typed_on : (typed : Option LatchKind) (kinds controls : List (List ℕ)) (kind control : List ℕ) (rises : Bool) → edge_of kind ≡ Ok rises → TypedIs typed kinds controls
    → TypedIs (option_or typed (Some (record { rises = rises; control = control }))) (kinds ++ kind ∷ []) (controls ++ control ∷ [])
typed_on None kinds controls kind control rises e t = rw (t.0, t.1) (e, refl)
typed_on (Some typed) [] controls kind control rises e t = absurd t
typed_on (Some typed) (first ∷ kinds) [] kind control rises e t = absurd t
typed_on (Some typed) (first ∷ kinds) (held ∷ controls) kind control rises e t = t

module _ (unset : Unset) (lines : List (List (List ℕ))) (start : BlifState) (told : HasTold lines start) (kept : HasKept lines start) (ended : start.unended ≡ None) where
  -- what the line of a latch leaves
  abbrev Latches : List (List ℕ) → BlifState → Type 0
  Latches words next = Adds start next (codes ".latch" ∷ words) × OpenIs next.unended None

  -- what type and control leave of the state, before the latch is added
  record Typed (state : BlifState) (words : List (List ℕ)) : Type 0 where
    nets : state.nets ≡ start.nets
    machine : state.machine ≡ start.machine
    typed : (kinds controls : List (List ℕ)) → TypedIs start.typed kinds controls → TypedIs state.typed (kinds ++ kind_in words) (controls ++ control_of words)
    ended_is : state.ended ≡ start.ended
    model : state.modelled ≡ start.modelled
    size : state.size ≡ start.size
    unended : state.unended ≡ start.unended

  added_by : (state : BlifState) (words : List (List ℕ)) (middle nets : List (List ℕ)) (input output value : List ℕ) (given : Option Bool) → Typed state words
      → is_some given ≡ (is_fixed value || is_some (first_bit unset))
      → Meets (latch_added state middle nets input output given) (first_failed (fails_where (not (is_fixed value || is_some (first_bit unset))) (causes.NoFixedInit output) ∷ [])) (Latches words)
  added_by state words middle nets input output value None t e = rw (sym e) refl
  added_by state words middle nets input output value (Some bit) t e = rw (sym e) (
    refl,
    (
      record {
        typed = t.typed;
        ended = t.ended_is ∙ sym (or-false start.ended);
        model = t.model ∙ sym (or-false start.modelled);
        size = omega (arith, t.size);
        latches = length_push state.machine.latches _ ∙ ap (λ m. length m.latches + 1) t.machine;
      },
      subst (λ o. OpenIs o None) (sym (t.unended ∙ ended)) tt,
    ),
  )

  latch_meets : (state : BlifState) (words : List (List ℕ)) (input output value : List ℕ) (init : Option Bool) → Typed state words → is_some init ≡ is_fixed value
      → Meets (latch_read unset state input output init) (first_failed (latch_checks unset lines input output value)) (Latches words)
  latch_meets state words input output value init t e =
      let names : List (List ℕ) = flat_map names_in lines in
      let nets : state.nets ≡ firsts names = t.nets ∙ told.nets in
      let middle : List (List ℕ) = names_with state.nets input in
      let last : Option LineRefusal = first_failed (fails_where (not (is_fixed value || is_some (first_bit unset))) (causes.NoFixedInit output) ∷ []) in
      let count : length state.machine.latches ≡ length (filter is_latch lines) = ap (λ m. length m.latches) t.machine ∙ kept.latches in
      meets_net (Latches words) state.nets names nets input _ (option_or (net_above (names ++ input ∷ []) output) (option_or (above quantities.Latches (length (filter is_latch lines) + 1)) last))
      (meets_net (Latches words) middle (names ++ input ∷ []) (firsts_with state.nets names input nets) output _ (option_or (above quantities.Latches (length (filter is_latch lines) + 1)) last)
      (subst (λ k. Meets (over quantities.Latches (length state.machine.latches + 1) (latch_added state middle (names_with middle output) input output (state_given unset init)))
      (option_or (above quantities.Latches (k + 1)) last) (Latches words)) count
      (meets_over (Latches words) quantities.Latches (length state.machine.latches + 1) _ last
      (added_by state words middle (names_with middle output) input output value (state_given unset init) t
      (given_by init (first_bit unset) ∙ ap (λ b. b || is_some (first_bit unset)) e)))))

  untyped_meets : (words : List (List ℕ)) (input output value : List ℕ) → kind_in words ≡ [] → control_of words ≡ []
      → Meets (untyped_read unset start input output value) (untyped_refused unset lines input output value) (Latches words)
  untyped_meets words input output value kind control =
      meets_value (Latches words) _ value _ (λ init is e.
      meets_over (Latches words) quantities.NameBytes (length input) _ _
      (meets_over (Latches words) quantities.NameBytes (length output) _ _
      (latch_meets start words input output value init (record {
        nets = refl;
        machine = refl;
        typed = λ kinds controls t. subst (λ (l : List (List ℕ)). TypedIs start.typed (kinds ++ l) (controls ++ control_of words)) (sym kind)
            (subst (λ (l : List (List ℕ)). TypedIs start.typed (kinds ++ []) (controls ++ l)) (sym control)
            (subst (λ (l : List (List ℕ)). TypedIs start.typed l (controls ++ [])) (sym (append-nil kinds))
            (subst (λ (l : List (List ℕ)). TypedIs start.typed kinds l) (sym (append-nil controls)) t)));
        ended_is = refl;
        model = refl;
        size = refl;
        unended = refl;
      }) e)))

  typed_meets : (more : List (List ℕ)) (input output kind control value : List ℕ)
      → Meets (typed_read unset start input output kind control value) (typed_refused unset lines input output kind control value) (Latches (input ∷ output ∷ kind ∷ control ∷ more))
  typed_meets more input output kind control value =
      let Then : BlifState → Type 0 = Latches (input ∷ output ∷ kind ∷ control ∷ more) in
      meets_kind Then _ kind _ (λ rises edge.
      meets_value Then _ value _ (λ init is e.
      meets_where Then (is_mixed start rises control) (is_mixed_told lines kind control) causes.MixedClock _ _
      (ap (λ b. b || (names_clock control && differs_in_clock start.clock control)) (type_differs start.typed (kinds_told lines) (controls_told lines) kind control rises kept.typed edge)
      ∙ ap (λ b. (differs_from_first (kinds_told lines) kind || differs_from_first (controls_told lines) control) || (names_clock control && b))
      (ap (λ (o : Option (List ℕ)). differs_in_clock o control) told.clock ∙ differs_as (flat_map clocks_in lines) control)) (λ right.
      meets_over Then quantities.NameBytes (length input) _ _
      (meets_over Then quantities.NameBytes (length output) _ _
      (meets_over Then quantities.NameBytes (length control) _ _
      (latch_meets (with_type start rises control) (input ∷ output ∷ kind ∷ control ∷ more) input output value init (record {
        nets = refl;
        machine = refl;
        typed = λ kinds controls t. typed_on start.typed kinds controls kind control rises edge t;
        ended_is = refl;
        model = refl;
        size = refl;
        unended = refl;
      }) e))))))

  pub latches_meet : (words : List (List ℕ)) → Meets (latch_words_read unset start words) (latch_refused unset lines words) (Latches words)
  latches_meet [] = refl
  latches_meet (a ∷ []) = refl
  latches_meet (a ∷ b ∷ []) = untyped_meets (a ∷ b ∷ []) a b (codes "3") refl refl
  latches_meet (a ∷ b ∷ c ∷ []) = untyped_meets (a ∷ b ∷ c ∷ []) a b c refl refl
  latches_meet (a ∷ b ∷ c ∷ d ∷ []) = typed_meets [] a b c d (codes "3")
  latches_meet (a ∷ b ∷ c ∷ d ∷ e ∷ []) = typed_meets (e ∷ []) a b c d e
  latches_meet (a ∷ b ∷ c ∷ d ∷ e ∷ f ∷ words) = refl
