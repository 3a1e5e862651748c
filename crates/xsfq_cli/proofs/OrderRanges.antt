-- The numbers of orders are in range.
use Rattle.std.proofs.Common.{◌≡◌, ◌<◌, ◌≤◌, ℕ, Bool, true, false, cond, ◌&&◌, ltb-true, List, [], ◌∷◌, Option, Some, None, refl, arith}
use Rattle.std.specs.Prelude.{IfSome, codes, nat_lt}
use Rattle.std.specs.Str.{bytes_eq}
use Rattle.word_scan.specs.Decimals.{plain_decimal_of}
use Rattle.xsfq_cli.specs.declared.orders.Options.{Options}
use Rattle.xsfq_cli.specs.declared.orders.Order.{Order}
use Rattle.xsfq_cli.specs.declared.orders.Order.TheVariants.{Check, Compile, Report, Simulate, Workload}
use Rattle.xsfq_cli.specs.Orders.{no_options, options_with, order_if, order_of, order_with, unless, workload_of, workload_with}
use Rattle.xsfq_cli.specs.Workloads.{IsInRange}

abbrev In : Option Order → Type 0
In order = IfSome order (λ its. IsInRange its)

either : (b : Bool) (one other : Option Order) → In one → In other → In (cond b one other)
either true one other is are = is
either false one other is are = are

unless_in : (given : Bool) (order : Order) → IsInRange order → In (unless given order)
unless_in true order is = tt
unless_in false order is = is

with_bits : (bits : ℕ) (some few : Bool) → nat_lt 0 bits ≡ some → nat_lt bits 4097 ≡ few → In (cond (some && few) (Some (Workload bits)) None)
with_bits bits true true e d = (let less = ltb-true _ _ e in omega (arith, less), let less = ltb-true _ _ d in omega (arith, less))
with_bits bits true false e d = tt
with_bits bits false few e d = tt

with_number : (bits : Option ℕ) → In (workload_with bits)
with_number None = tt
with_number (Some bits) = with_bits bits (nat_lt 0 bits) (nat_lt bits 4097) refl refl

workload_in : (words : List (List ℕ)) → In (workload_of words)
workload_in [] = tt
workload_in (word ∷ []) = with_number (plain_decimal_of word)
workload_in (word ∷ other ∷ words) = tt

with_options : (command : List ℕ) (options : Options) → In (order_with command options)
with_options command options =
    either (bytes_eq command (codes "compile")) _ _ (unless_in _ (Compile _ _) tt)
    (either (bytes_eq command (codes "check")) _ _ (unless_in _ Check tt)
    (either (bytes_eq command (codes "report")) _ _ (unless_in _ Report tt)
    (either (bytes_eq command (codes "simulate")) _ _ (unless_in _ (Simulate _ _) tt) tt)))

by_options : (command : List ℕ) (options : Option Options) → In (order_if command options)
by_options command None = tt
by_options command (Some options) = with_options command options

pub order_in_range : (words : List (List ℕ)) → In (order_of words)
order_in_range [] = tt
order_in_range (command ∷ words) =
    either (bytes_eq command (codes "workload")) (workload_of words) (order_if command (options_with (Some no_options) words)) (workload_in words)
    (by_options command (options_with (Some no_options) words))
