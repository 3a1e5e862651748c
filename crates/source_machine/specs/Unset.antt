-- What a latch begins with where its source doesn't say.
use Rattle.std.specs.Prelude.{Bool, true, false}
use Rattle.std.specs.declared.option.Option.{Option}
use Rattle.std.specs.declared.option.Option.TheVariants.{None, Some}
use Rattle.source_machine.specs.declared.unset.Unset.{Unset}
use Rattle.source_machine.specs.declared.unset.Unset.TheVariants.{Refuse, Zero, One}

-- the first state of such a latch, or none where its source is refused
abbrev pub first_bit : Unset → Option Bool
first_bit Refuse = None
first_bit Zero = Some false
first_bit One = Some true
