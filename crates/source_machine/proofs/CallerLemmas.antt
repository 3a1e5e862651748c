-- A machine that is built line by line fits: the lemmas that the crates above may cite.
use Rattle.std.proofs.Common.{Bool, ◌≡◌, ℕ, ◌+◌, ◌≤◌, ◌<◌, List, [], ◌∷◌, ◌++◌, length, length-append, set, Some, All, IfSome, refl, ◌∙◌, ap, arith}
use Rattle.std.specs.declared.option.Option.{Option}
use Rattle.std.proofs.lemmas.List.{length-set}
use Rattle.std.proofs.lemmas.List.Elements.{All-nil, All-push, All-set, All-weaker}
use Rattle.pulse_ids.specs.Quantities.{greatest_of}
use Rattle.pulse_ids.specs.declared.quantities.Quantity.TheVariants.{Inputs, Outputs, Latches, Nets, Size}
use Rattle.pulse_ids.specs.Names.{IsPortName}
use Rattle.source_machine.specs.Machines.{PlainLiteral, PlainLatch, PlainEquation, PlainMachine}
use Rattle.source_machine.specs.Fitting.{IsNumbered, LiteralFits, LatchFits, EquationFits, NamesFit, Fits, size_of, size_of_cubes, size_of_equations}
use Rattle.source_machine.specs.Additions.{bare_equation, with_cube, bare, with_nets, with_input, with_latch, with_equation, with_output, with_input_name, with_output_name}

pub length-last : {X : Type 0} (xs : List X) (x : X) → length (xs ++ x ∷ []) ≡ length xs + 1
length-last xs x = length-append xs (x ∷ [])

-- one more cube adds its literals and itself
pub size_of_cubes-last : (cubes : List (List PlainLiteral)) (cube : List PlainLiteral) → size_of_cubes (cubes ++ cube ∷ []) ≡ size_of_cubes cubes + (1 + length cube)
size_of_cubes-last [] cube = omega arith
size_of_cubes-last (first ∷ cubes) cube = let rest = size_of_cubes-last cubes cube in omega arith

-- one more equation adds its cubes
pub size_of_equations-last : (equations : List PlainEquation) (equation : PlainEquation)
    → size_of_equations (equations ++ equation ∷ []) ≡ size_of_equations equations + size_of_cubes equation.cubes
size_of_equations-last [] equation = omega arith
size_of_equations-last (first ∷ equations) equation =
    let rest = size_of_equations-last equations equation in omega arith

-- an equation without cubes, and with one cube more
pub bare_equation_fits : (nets net : ℕ) (on : Bool) → IsNumbered nets net → EquationFits nets (bare_equation net on)
bare_equation_fits nets net on numbered = (numbered, All-nil (All (LiteralFits nets)))

pub more_cube_fits : (nets : ℕ) (equation : PlainEquation) (cube : List PlainLiteral) → EquationFits nets equation → All (LiteralFits nets) cube → EquationFits nets (with_cube equation cube)
more_cube_fits nets equation cube fits inside = (fits.0, All-push (All (LiteralFits nets)) equation.cubes cube fits.1 inside)

-- one more port with its name
pub names_fit-last : (ports : ℕ) (names : List (Option (List ℕ))) (name : Option (List ℕ)) → NamesFit ports names → IfSome name IsPortName → NamesFit (ports + 1) (names ++ name ∷ [])
names_fit-last ports names name h p =
    (length-last names name ∙ ap (λ n. n + 1) h.0, All-push (λ n. IfSome n IsPortName) names name h.1 p)

-- one port gets a name
pub names_fit-set : (ports : ℕ) (names : List (Option (List ℕ))) (port : ℕ) (name : List ℕ) → NamesFit ports names → IsPortName name → NamesFit ports (set names port (Some name))
names_fit-set ports names port name h p =
    (length-set names port (Some name) ∙ h.0, All-set (λ n. IfSome n IsPortName) names port (Some name) p h.1)

pub bare_fits : (nets : ℕ) → nets ≤ greatest_of Nets → Fits (bare nets)
bare_fits nets few = record {
  nets_fit = record {
    inputs_fit = All-nil (IsNumbered nets);
    latches_fit = All-nil (LatchFits nets);
    equations_fit = All-nil (EquationFits nets);
    outputs_fit = All-nil (LiteralFits nets);
  };
  input_names_fit = (refl, All-nil (λ name. IfSome name IsPortName));
  output_names_fit = (refl, All-nil (λ name. IfSome name IsPortName));
  limits = record {
    few_inputs = omega arith;
    few_outputs = omega arith;
    few_latches = omega arith;
    few_nets = few;
    small = omega arith;
  };
}

module _ (machine : PlainMachine) (fits : Fits machine) where
  -- more nets keep what fits
  pub more_nets_fit : (nets : ℕ) → machine.nets ≤ nets → nets ≤ greatest_of Nets → Fits (with_nets machine nets)
  more_nets_fit nets more few = record {
    nets_fit = record {
      inputs_fit = All-weaker (IsNumbered machine.nets) (IsNumbered nets) numbered machine.inputs fits.nets_fit.inputs_fit;
      latches_fit = All-weaker (LatchFits machine.nets) (LatchFits nets) (λ latch h. (numbered latch.out h.0, literal latch.next h.1)) machine.latches fits.nets_fit.latches_fit;
      equations_fit = All-weaker (EquationFits machine.nets) (EquationFits nets) (λ equation h. (numbered equation.net h.0, cubes equation.cubes h.1)) machine.equations
          fits.nets_fit.equations_fit;
      outputs_fit = All-weaker (LiteralFits machine.nets) (LiteralFits nets) literal machine.outputs fits.nets_fit.outputs_fit;
    };
    input_names_fit = fits.input_names_fit;
    output_names_fit = fits.output_names_fit;
    limits = record {
      few_inputs = fits.limits.few_inputs;
      few_outputs = fits.limits.few_outputs;
      few_latches = fits.limits.few_latches;
      few_nets = few;
      small = fits.limits.small;
    };
  }
    where
      numbered : (net : ℕ) → IsNumbered machine.nets net → IsNumbered nets net
      numbered net h = (h.0, omega (arith, h.1))

      literal : (lit : PlainLiteral) → LiteralFits machine.nets lit → LiteralFits nets lit
      literal lit h = omega arith

      cubes : (all : List (List PlainLiteral)) → All (All (LiteralFits machine.nets)) all → All (All (LiteralFits nets)) all
      cubes all h = All-weaker (All (LiteralFits machine.nets)) (All (LiteralFits nets)) (λ cube k. All-weaker (LiteralFits machine.nets) (LiteralFits nets) literal cube k) all h

  pub more_input_fits : (net : ℕ) (name : Option (List ℕ)) → IsNumbered machine.nets net → IfSome name IsPortName
      → length machine.inputs < greatest_of Inputs → Fits (with_input machine net name)
  more_input_fits net name numbered named room = record {
    nets_fit = record {
      inputs_fit = All-push (IsNumbered machine.nets) machine.inputs net fits.nets_fit.inputs_fit numbered;
      latches_fit = fits.nets_fit.latches_fit;
      equations_fit = fits.nets_fit.equations_fit;
      outputs_fit = fits.nets_fit.outputs_fit;
    };
    input_names_fit = rw (length-last machine.inputs net) (names_fit-last (length machine.inputs) machine.input_names name fits.input_names_fit named);
    output_names_fit = fits.output_names_fit;
    limits = record {
      few_inputs = omega (arith, length-last machine.inputs net, room);
      few_outputs = fits.limits.few_outputs;
      few_latches = fits.limits.few_latches;
      few_nets = fits.limits.few_nets;
      small = fits.limits.small;
    };
  }

  pub more_output_fits : (literal : PlainLiteral) (name : Option (List ℕ)) → LiteralFits machine.nets literal → IfSome name IsPortName
      → length machine.outputs < greatest_of Outputs → Fits (with_output machine literal name)
  more_output_fits literal name inside named room = record {
    nets_fit = record {
      inputs_fit = fits.nets_fit.inputs_fit;
      latches_fit = fits.nets_fit.latches_fit;
      equations_fit = fits.nets_fit.equations_fit;
      outputs_fit = All-push (LiteralFits machine.nets) machine.outputs literal fits.nets_fit.outputs_fit inside;
    };
    input_names_fit = fits.input_names_fit;
    output_names_fit = rw (length-last machine.outputs literal) (names_fit-last (length machine.outputs) machine.output_names name fits.output_names_fit named);
    limits = record {
      few_inputs = fits.limits.few_inputs;
      few_outputs = omega (arith, length-last machine.outputs literal, room);
      few_latches = fits.limits.few_latches;
      few_nets = fits.limits.few_nets;
      small = fits.limits.small;
    };
  }

  pub more_latch_fits : (latch : PlainLatch) → LatchFits machine.nets latch → length machine.latches < greatest_of Latches → Fits (with_latch machine latch)
  more_latch_fits latch inside room = record {
    nets_fit = record {
      inputs_fit = fits.nets_fit.inputs_fit;
      latches_fit = All-push (LatchFits machine.nets) machine.latches latch fits.nets_fit.latches_fit inside;
      equations_fit = fits.nets_fit.equations_fit;
      outputs_fit = fits.nets_fit.outputs_fit;
    };
    input_names_fit = fits.input_names_fit;
    output_names_fit = fits.output_names_fit;
    limits = record {
      few_inputs = fits.limits.few_inputs;
      few_outputs = fits.limits.few_outputs;
      few_latches = omega (arith, length-last machine.latches latch, room);
      few_nets = fits.limits.few_nets;
      small = fits.limits.small;
    };
  }

  pub more_equation_fits : (equation : PlainEquation) → EquationFits machine.nets equation → size_of machine + size_of_cubes equation.cubes ≤ greatest_of Size
      → Fits (with_equation machine equation)
  more_equation_fits equation inside room = record {
    nets_fit = record {
      inputs_fit = fits.nets_fit.inputs_fit;
      latches_fit = fits.nets_fit.latches_fit;
      equations_fit = All-push (EquationFits machine.nets) machine.equations equation fits.nets_fit.equations_fit inside;
      outputs_fit = fits.nets_fit.outputs_fit;
    };
    input_names_fit = fits.input_names_fit;
    output_names_fit = fits.output_names_fit;
    limits = record {
      few_inputs = fits.limits.few_inputs;
      few_outputs = fits.limits.few_outputs;
      few_latches = fits.limits.few_latches;
      few_nets = fits.limits.few_nets;
      small = omega (arith, size_of_equations-last machine.equations equation, room);
    };
  }

  pub input_name_fits : (port : ℕ) (name : List ℕ) → IsPortName name → Fits (with_input_name machine port name)
  input_name_fits port name named =
      record {
        nets_fit = record { inputs_fit = fits.nets_fit.inputs_fit; latches_fit = fits.nets_fit.latches_fit; equations_fit = fits.nets_fit.equations_fit; outputs_fit = fits.nets_fit.outputs_fit };
        input_names_fit = names_fit-set (length machine.inputs) machine.input_names port name fits.input_names_fit named;
        output_names_fit = fits.output_names_fit;
        limits = record {
          few_inputs = fits.limits.few_inputs;
          few_outputs = fits.limits.few_outputs;
          few_latches = fits.limits.few_latches;
          few_nets =
              fits.limits.few_nets;
          small = fits.limits.small;
        };
      }

  pub output_name_fits : (port : ℕ) (name : List ℕ) → IsPortName name → Fits (with_output_name machine port name)
  output_name_fits port name named =
      record {
        nets_fit = record { inputs_fit = fits.nets_fit.inputs_fit; latches_fit = fits.nets_fit.latches_fit; equations_fit = fits.nets_fit.equations_fit; outputs_fit = fits.nets_fit.outputs_fit };
        input_names_fit = fits.input_names_fit;
        output_names_fit = names_fit-set (length machine.outputs) machine.output_names port name fits.output_names_fit named;
        limits = record {
          few_inputs = fits.limits.few_inputs;
          few_outputs = fits.limits.few_outputs;
          few_latches = fits.limits.few_latches;
          few_nets =
              fits.limits.few_nets;
          small = fits.limits.small;
        };
      }
