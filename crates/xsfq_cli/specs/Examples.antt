-- What some words order.
use Rattle.std.specs.Prelude.{◌≡◌, List, ℕ, [], ◌∷◌, Some, None, true, false, codes}
use Rattle.cell_netlist.specs.declared.kinds.Ask.TheVariants.{Pos, Neg, Both}
use Rattle.cell_netlist.specs.declared.kinds.Version.TheVariants.{One, Two}
use Rattle.xsfq_cli.specs.declared.orders.Order.TheVariants.{Check, Compile, Report, Simulate, Workload}
use Rattle.pulse_traces.specs.declared.orders.DeliveryOrder.TheVariants.{First, Last, Mix}
use Rattle.xsfq_cli.specs.declared.orders.Schedule.TheVariants.{Order, Script}
use Rattle.xsfq_cli.specs.Orders.{order_of}

-- the words of `compile` and these
abbrev pub compile_with : List (List ℕ) → List (List ℕ)
compile_with words = codes "compile" ∷ words

pub record WordsAreOrders : Type 0 where
  pub bare : order_of (compile_with []) ≡ Some (Compile Pos One)
  pub positive : order_of (compile_with (codes "--rails" ∷ codes "p" ∷ [])) ≡ Some (Compile Pos One)
  pub negative : order_of (compile_with (codes "--rails" ∷ codes "n" ∷ [])) ≡ Some (Compile Neg One)
  pub both : order_of (compile_with (codes "--rails" ∷ codes "both" ∷ [])) ≡ Some (Compile Both One)
  pub first_format : order_of (compile_with (codes "--format" ∷ codes "1" ∷ [])) ≡ Some (Compile Pos One)
  pub second_format : order_of (compile_with (codes "--format" ∷ codes "2" ∷ [])) ≡ Some (Compile Pos Two)
  pub rails_and_format : order_of (compile_with (codes "--format" ∷ codes "2" ∷ codes "--rails" ∷ codes "both" ∷ [])) ≡ Some (Compile Both Two)
  pub format_twice : order_of (compile_with (codes "--format" ∷ codes "1" ∷ codes "--format" ∷ codes "1" ∷ [])) ≡ None
  pub other_format : order_of (compile_with (codes "--format" ∷ codes "3" ∷ [])) ≡ None
  pub check_with_format : order_of (codes "check" ∷ codes "--format" ∷ codes "2" ∷ []) ≡ None
  pub simulate_with_format : order_of (codes "simulate" ∷ codes "--format" ∷ codes "2" ∷ []) ≡ None
  pub nothing : order_of [] ≡ None
  pub twice : order_of (compile_with (codes "--rails" ∷ codes "p" ∷ codes "--rails" ∷ codes "p" ∷ [])) ≡ None
  pub no_value : order_of (compile_with (codes "--rails" ∷ [])) ≡ None
  pub other_value : order_of (compile_with (codes "--rails" ∷ codes "P" ∷ [])) ≡ None
  pub other_option : order_of (compile_with (codes "--order" ∷ codes "first" ∷ [])) ≡ None
  pub check : order_of (codes "check" ∷ []) ≡ Some Check
  pub check_with_rails : order_of (codes "check" ∷ codes "--rails" ∷ codes "p" ∷ []) ≡ None
  pub report : order_of (codes "report" ∷ []) ≡ Some Report
  pub report_with_rails : order_of (codes "report" ∷ codes "--rails" ∷ codes "p" ∷ []) ≡ None
  pub check_with_order : order_of (codes "check" ∷ codes "--order" ∷ codes "first" ∷ []) ≡ None
  pub simulate : order_of (codes "simulate" ∷ []) ≡ Some (Simulate (Order First) false)
  pub simulate_last : order_of (codes "simulate" ∷ codes "--order" ∷ codes "last" ∷ codes "--trace" ∷ codes "no" ∷ []) ≡ Some (Simulate (Order Last) false)
  pub simulate_mixed : order_of (codes "simulate" ∷ codes "--trace" ∷ codes "yes" ∷ codes "--order" ∷ codes "mix:7" ∷ []) ≡ Some (Simulate (Order (Mix 7)) true)
  pub simulate_scripts : order_of (codes "simulate" ∷ codes "--order" ∷ codes "script" ∷ []) ≡ Some (Simulate Script false)
  pub leading_zero : order_of (codes "simulate" ∷ codes "--order" ∷ codes "mix:07" ∷ []) ≡ None
  pub no_number : order_of (codes "simulate" ∷ codes "--order" ∷ codes "mix:" ∷ []) ≡ None
  pub great_number : order_of (codes "simulate" ∷ codes "--order" ∷ codes "mix:4294967296" ∷ []) ≡ None
  pub simulate_with_rails : order_of (codes "simulate" ∷ codes "--rails" ∷ codes "p" ∷ []) ≡ None
  pub trace_twice : order_of (codes "simulate" ∷ codes "--trace" ∷ codes "yes" ∷ codes "--trace" ∷ codes "no" ∷ []) ≡ None
  pub workload : order_of (codes "workload" ∷ codes "4096" ∷ []) ≡ Some (Workload 4096)
  pub no_bits : order_of (codes "workload" ∷ codes "0" ∷ []) ≡ None
  pub many_bits : order_of (codes "workload" ∷ codes "4097" ∷ []) ≡ None
  pub padded_bits : order_of (codes "workload" ∷ codes "01" ∷ []) ≡ None
  pub workload_with_option : order_of (codes "workload" ∷ codes "4" ∷ codes "--trace" ∷ codes "no" ∷ []) ≡ None
  pub workload_alone : order_of (codes "workload" ∷ []) ≡ None
  pub other_command : order_of (codes "checks" ∷ []) ≡ None
  pub option_first : order_of (codes "--rails" ∷ codes "p" ∷ codes "compile" ∷ []) ≡ None
