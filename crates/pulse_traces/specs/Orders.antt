-- The places that the orders name.
use Rattle.std.specs.Prelude.{ℕ, ◌+◌, ◌-◌, ◌*◌, ◌/◌, ◌%◌, ◌^◌}
use Rattle.pulse_traces.specs.declared.orders.DeliveryOrder.{DeliveryOrder}
use Rattle.pulse_traces.specs.declared.orders.DeliveryOrder.TheVariants.{First, Last, Mix}

-- what `mix` makes of a number and a step
abbrev pub mixed : ℕ → ℕ → ℕ
mixed n step = (n + step) % 2 ^ 32 * 2654435761 % 2 ^ 32

-- the place of the pulse that is delivered in a step where so many are pending
abbrev pub place_of : DeliveryOrder → ℕ → ℕ → ℕ
place_of First step count = 0
place_of Last step count = count - 1
place_of (Mix n) step count = mixed n step * count / 2 ^ 32
