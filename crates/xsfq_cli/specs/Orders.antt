-- What words order.
use Rattle.std.specs.Prelude.{ℕ, ◌||◌, ◌&&◌, Bool, true, false, Option, Some, None, List, [], ◌∷◌, codes, drop, take, option_map, unwrap_or, nat_lt, if◌then◌else◌}
use Rattle.std.specs.Option.{is_some}
use Rattle.std.specs.Str.{bytes_eq}
use Rattle.cell_netlist.specs.declared.kinds.Ask.{Ask}
use Rattle.cell_netlist.specs.declared.kinds.Ask.TheVariants.{Pos, Neg, Both}
use Rattle.cell_netlist.specs.declared.kinds.Version.{Version}
use Rattle.cell_netlist.specs.declared.kinds.Version.TheVariants.{One, Two}
use Rattle.pulse_traces.specs.declared.orders.DeliveryOrder.TheVariants.{First, Last, Mix}
use Rattle.word_scan.specs.Decimals.{plain_decimal_of}
use Rattle.xsfq_cli.specs.declared.orders.Options.{Options}
use Rattle.xsfq_cli.specs.declared.orders.Order.{Order}
use Rattle.xsfq_cli.specs.declared.orders.Order.TheVariants.{Check, Compile, Report, Simulate, Workload}
use Rattle.xsfq_cli.specs.declared.orders.Schedule.{Schedule}
use Rattle.xsfq_cli.specs.declared.orders.Schedule.TheVariants as schedules

-- no option was given
abbrev pub no_options : Options
no_options = record { rails = None; format = None; schedule = None; trace = None }

-- the rails that a word asks for
abbrev pub ask_of : List ℕ → Option Ask
ask_of word =
    if bytes_eq word (codes "p") then Some Pos
    else if bytes_eq word (codes "n") then Some Neg
    else if bytes_eq word (codes "both") then Some Both
    else None

-- the version that a word asks for
abbrev pub format_of : List ℕ → Option Version
format_of word = if bytes_eq word (codes "1") then Some One else if bytes_eq word (codes "2") then Some Two else None

-- the mixed order of a word: `mix:` and a plain decimal
abbrev pub mixed_of : List ℕ → Option Schedule
mixed_of word =
    if bytes_eq (take 4 word) (codes "mix:") then option_map (λ number. schedules.Order (Mix number)) (plain_decimal_of (drop 4 word))
    else None

-- the schedule that a word asks for
abbrev pub schedule_of : List ℕ → Option Schedule
schedule_of word =
    if bytes_eq word (codes "first") then Some (schedules.Order First)
    else if bytes_eq word (codes "last") then Some (schedules.Order Last)
    else if bytes_eq word (codes "script") then Some schedules.Script
    else mixed_of word

-- whether a word asks for the deliveries
abbrev pub trace_of : List ℕ → Option Bool
trace_of word = if bytes_eq word (codes "yes") then Some true else if bytes_eq word (codes "no") then Some false else None

-- an option's value where it was not given before and this is one of its values
abbrev pub given_once : {A : Type 0} → Option A → Option A → Option A
given_once None value = value
given_once (Some before) value = None

-- the options with one more: a name and a value of it, which was not given before
abbrev pub with_option : Options → List ℕ → List ℕ → Option Options
with_option options name value =
    if bytes_eq name (codes "--rails") then option_map (λ ask. record options { rails = Some ask }) (given_once options.rails (ask_of value))
    else if bytes_eq name (codes "--format") then option_map (λ version. record options { format = Some version }) (given_once options.format (format_of value))
    else if bytes_eq name (codes "--order") then option_map (λ schedule. record options { schedule = Some schedule }) (given_once options.schedule (schedule_of value))
    else if bytes_eq name (codes "--trace") then option_map (λ trace. record options { trace = Some trace }) (given_once options.trace (trace_of value))
    else None

-- the options that pairs of words add, each a name and its value
abbrev pub options_with : Option Options → List (List ℕ) → Option Options
options_with None words = None
options_with (Some options) [] = Some options
options_with (Some options) (name ∷ []) = None
options_with (Some options) (name ∷ value ∷ words) = options_with (with_option options name value) words

-- an order, unless an option was given that it hasn't
abbrev pub unless : Bool → Order → Option Order
unless given order = if given then None else Some order

-- an option of `simulate` is given
abbrev pub asks_simulation : Options → Bool
asks_simulation options = is_some options.schedule || is_some options.trace

-- an option of `compile` is given
abbrev pub asks_compilation : Options → Bool
asks_compilation options = is_some options.rails || is_some options.format

-- any option is given
abbrev pub asks_any : Options → Bool
asks_any options = asks_compilation options || asks_simulation options

-- the order of a command with options
abbrev pub order_with : List ℕ → Options → Option Order
order_with command options =
    if bytes_eq command (codes "compile") then unless (asks_simulation options) (Compile (unwrap_or options.rails Pos) (unwrap_or options.format One))
    else if bytes_eq command (codes "check") then unless (asks_any options) Check
    else if bytes_eq command (codes "report") then unless (asks_any options) Report
    else if bytes_eq command (codes "simulate") then
    unless (asks_compilation options) (Simulate (unwrap_or options.schedule (schedules.Order First)) (unwrap_or options.trace false))
    else None

abbrev pub order_if : List ℕ → Option Options → Option Order
order_if command None = None
order_if command (Some options) = order_with command options

-- the order of `workload` with a number of bits: from 1 to 4,096
abbrev pub workload_with : Option ℕ → Option Order
workload_with None = None
workload_with (Some bits) = if nat_lt 0 bits && nat_lt bits 4097 then Some (Workload bits) else None

-- the order of the words after `workload`: one plain decimal
abbrev pub workload_of : List (List ℕ) → Option Order
workload_of [] = None
workload_of (word ∷ []) = workload_with (plain_decimal_of word)
workload_of (word ∷ other ∷ words) = None

-- the order of these words, each as its bytes
abbrev pub order_of : List (List ℕ) → Option Order
order_of [] = None
order_of (command ∷ words) =
    if bytes_eq command (codes "workload") then workload_of words else order_if command (options_with (Some no_options) words)
