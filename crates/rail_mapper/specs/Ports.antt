-- What a step leaves of the ports of a draft's netlist.
use Rattle.std.specs.Prelude.{◌≡◌}
use Rattle.rail_mapper.specs.Drafts.{PlainDraft}

-- the version, the numbers of ports, their names, and the input rails stay
pub record KeepsInputs (before after : PlainDraft) : Type 0 where
  pub inputs : after.net.inputs ≡ before.net.inputs
  pub outputs : after.net.outputs ≡ before.net.outputs
  pub input_rails : after.net.input_rails ≡ before.net.input_rails
  pub input_names : after.net.input_names ≡ before.net.input_names
  pub output_names : after.net.output_names ≡ before.net.output_names
  pub version : after.net.version ≡ before.net.version

-- and the output rails too
pub record KeepsPorts (before after : PlainDraft) : Type 0 where
  pub others : KeepsInputs before after
  pub output_rails : after.net.output_rails ≡ before.net.output_rails
