-- The machine of parts in range is in range.
use Rattle.std.proofs.Common.{◌≡◌, ℕ, zero, suc, ◌+◌, ◌*◌, Bool, true, false, cond, ◌&&◌, eqb, List, [], ◌∷◌, length, map, Some, None, All, refl, ◌∙◌, ap, inl, inr, arith}
use Rattle.std.specs.Prelude.{IfSome}
use Rattle.std.specs.Option.{option_or}
use Rattle.std.proofs.lemmas.List.{length-map}
use Rattle.std.proofs.lemmas.List.Elements.{All-nil, All-cons, All-map}
use Rattle.pulse_ids.specs.Lists.{IsIn}
use Rattle.pulse_ids.specs.Names.{IsPortName}
use Rattle.source_machine.specs.Fitting.{IsNumbered, LiteralFits, LatchFits, EquationFits, NamesFit, size_of_equations, Fits}
use Rattle.aiger_reader.specs.Machines.{numbers_from}
use Rattle.source_texts.specs.Laws.{SourceMachinesFit}
use Rattle.source_texts.specs.Parts.{SourceLatch, SourceAnd, SourceParts, IsLatchOf, IsAndOf, IsSymbolOf, AreInRange, latch_from, equation_from, name_given, names_given, machine_from}

all_each : {X : Type 0} (P : X → Type 0) (xs : List X) → ((x : X) → IsIn x xs → P x) → All P xs
all_each P [] each = All-nil P
all_each P (x ∷ xs) each = All-cons P x xs (each x (inl refl)) (all_each P xs (λ y i. each y (inr i)))

module _ (parts : SourceParts) where
  given_fits : (letter place : ℕ) (symbols : List (ℕ × ℕ × List ℕ)) → ((symbol : ℕ × ℕ × List ℕ) → IsIn symbol symbols → IsSymbolOf parts symbol)
      → IfSome (name_given letter place symbols) IsPortName
  given_fits letter place [] each = tt
  given_fits letter place (symbol ∷ symbols) each =
      let is = each symbol (inl refl) in
      go (eqb symbol.0 letter && eqb symbol.1 place) (record { not_empty = is.not_empty; not_long = is.not_long; no_line_feed = is.no_line_feed })
      (given_fits letter place symbols (λ other i. each other (inr i)))
    where
      go : (t : Bool) → IsPortName symbol.2 → IfSome (name_given letter place symbols) IsPortName
          → IfSome (option_or (cond t (Some symbol.2) None) (name_given letter place symbols)) IsPortName
      go true name rest = name
      go false name rest = rest

  length-numbers : (first count : ℕ) → length (numbers_from first count) ≡ count
  length-numbers first zero = refl
  length-numbers first (suc count) = ap suc (length-numbers (first + 1) count)

  names_fit : AreInRange parts → (letter count : ℕ) → NamesFit count (names_given letter count parts.symbols)
  names_fit right letter count = (
    length-map (numbers_from 0 count) (λ place. name_given letter place parts.symbols) ∙ length-numbers 0 count,
    All-map (λ name. IfSome name IsPortName) (λ place. name_given letter place parts.symbols) (numbers_from 0 count)
        (all_each (λ place. IfSome (name_given letter place parts.symbols) IsPortName) (numbers_from 0 count)
        (λ place i. given_fits letter place parts.symbols right.each_symbol)),
  )

  latch_fits : (latch : SourceLatch) → IsLatchOf parts.variables latch → LatchFits parts.variables (latch_from latch)
  latch_fits latch is = (is.out, is.next)

  and_fits : (and : SourceAnd) → IsAndOf parts.variables and → EquationFits parts.variables (equation_from and)
  and_fits and is = (
    is.net,
    All-cons (All (LiteralFits parts.variables)) (and.left ∷ and.right ∷ []) []
        (All-cons (LiteralFits parts.variables) and.left (and.right ∷ []) is.left
        (All-cons (LiteralFits parts.variables) and.right [] is.right (All-nil (LiteralFits parts.variables))))
        (All-nil (All (LiteralFits parts.variables))),
  )

  size_is : (ands : List SourceAnd) → size_of_equations (map equation_from ands) ≡ 3 * length ands
  size_is [] = omega arith
  size_is (and ∷ ands) = let rest = size_is ands in omega arith

  pub machine_fits : AreInRange parts → Fits (machine_from parts)
  machine_fits right = record {
    nets_fit = record {
      inputs_fit = all_each (IsNumbered parts.variables) parts.inputs right.each_input;
      latches_fit = All-map (LatchFits parts.variables) latch_from parts.latches
          (all_each (λ latch. LatchFits parts.variables (latch_from latch)) parts.latches (λ latch i. latch_fits latch (right.each_latch latch i)));
      equations_fit = All-map (EquationFits parts.variables) equation_from parts.ands
          (all_each (λ and. EquationFits parts.variables (equation_from and)) parts.ands (λ and i. and_fits and (right.each_and and i)));
      outputs_fit = all_each (LiteralFits parts.variables) parts.outputs right.each_output;
    };
    input_names_fit = names_fit right 105 (length parts.inputs);
    output_names_fit = names_fit right 111 (length parts.outputs);
    limits = record {
      few_inputs = right.inputs;
      few_outputs = right.outputs;
      few_latches = omega (arith, right.latches, length-map parts.latches latch_from);
      few_nets = right.variables;
      small = omega (arith, size_is parts.ands, right.size);
    };
  }

pub source_machines_fit : SourceMachinesFit
source_machines_fit parts right = machine_fits parts right
