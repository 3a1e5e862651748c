-- Ports out of range.
use Rattle.std.proofs.Common.{◌≡◌, ℕ, List, Option, nat_le, sym, subst}
use Rattle.std.specs.List.{position}
use Rattle.std.proofs.lemmas.Bool.{leb-true, le-leb}
use Rattle.pulse_ids.specs.Ids.{numbered}
use Rattle.cell_netlist.specs.declared.lines.Rail.{Rail}
use Rattle.cell_netlist.specs.declared.unsound.RailLine.TheVariants.{Input, Output}
use Rattle.cell_netlist.specs.declared.unsound.Unsound.TheVariants.{PortRange}
use Rattle.cell_netlist.specs.Netlists.{PlainNetlist}
use Rattle.cell_netlist.specs.Sound.{Breaks}
use Rattle.rail_checker.specs.Verdicts.{IsFirst, PassesAt}
use Rattle.rail_checker.proofs.Refusing.{first_passes, first_same}

module _ (net : PlainNetlist) (ports : ℕ) (rails : List Rail) (found : Option ℕ) (e : found ≡ position (λ (rail : Rail). nat_le ports rail.port) rails) where
  first_past : IsFirst (PassesAt (λ (rail : Rail). nat_le ports rail.port) rails) found
  first_past = subst (λ f. IsFirst (PassesAt (λ (rail : Rail). nat_le ports rail.port) rails) f) (sym e) (first_passes (λ (rail : Rail). nat_le ports rail.port) rails)

  -- the lowest input rail whose port is out of range
  pub first_past_input : ports ≡ net.inputs → rails ≡ net.input_rails → IsFirst (λ n. Breaks net (PortRange (Input (numbered n)))) found
  first_past_input p r =
      first_same (PassesAt (λ (rail : Rail). nat_le net.inputs rail.port) net.input_rails) (λ n. Breaks net (PortRange (Input (numbered n))))
      (λ n h. (h.0, h.1, leb-true net.inputs h.0.port h.2)) (λ n h. (h.0, h.1, le-leb net.inputs h.0.port h.2)) found
      (subst (λ l. IsFirst (PassesAt (λ (rail : Rail). nat_le net.inputs rail.port) l) found) r
      (subst (λ m. IsFirst (PassesAt (λ (rail : Rail). nat_le m rail.port) rails) found) p first_past))

  -- the lowest output rail whose port is out of range
  pub first_past_output : ports ≡ net.outputs → rails ≡ net.output_rails → IsFirst (λ n. Breaks net (PortRange (Output (numbered n)))) found
  first_past_output p r =
      first_same (PassesAt (λ (rail : Rail). nat_le net.outputs rail.port) net.output_rails) (λ n. Breaks net (PortRange (Output (numbered n))))
      (λ n h. (h.0, h.1, leb-true net.outputs h.0.port h.2)) (λ n h. (h.0, h.1, le-leb net.outputs h.0.port h.2)) found
      (subst (λ l. IsFirst (PassesAt (λ (rail : Rail). nat_le net.outputs rail.port) l) found) r
      (subst (λ m. IsFirst (PassesAt (λ (rail : Rail). nat_le m rail.port) rails) found) p first_past))
