-- A run of a netlist by its equations: the lemmas that the crates above may cite.
use Rattle.std.proofs.Common.{◌≡◌, ℕ, zero, suc, Some, List, [], ◌∷◌, Bool, sym, ap, subst}
use Rattle.std.specs.Prelude.{slice_get, unwrap_or}
use Rattle.cell_netlist.specs.Netlists.{PlainNetlist}
use Rattle.cell_netlist.specs.RailEquations.{LatchState, next_state, IsRails, IsNetRunFrom, first_state}
use Rattle.cell_netlist.specs.NetRuns.{bits_in, latches_from, RunExists, RunRails, RunsAgree}
use Rattle.cell_netlist.proofs.RunExistence as existence
use Rattle.cell_netlist.proofs.RunAgreement as agreement

-- in the cycle of each vector, the run's bits meet the equations
pub rails-from : (net : PlainNetlist) (state : LatchState) (vectors run : List (List Bool)) → IsNetRunFrom net state vectors run
    → (cycle : ℕ) (vector : List Bool) → slice_get vectors cycle ≡ Some vector → IsRails net (latches_from net state run cycle) vector (bits_in run cycle)
rails-from net state [] [] h cycle vector e = absurd (cc)
rails-from net state [] (bits ∷ run) h cycle vector e = absurd h
rails-from net state (v ∷ vectors) [] h cycle vector e = absurd h
rails-from net state (v ∷ vectors) (bits ∷ run) h zero vector e =
    let same : v ≡ vector = cc in subst (λ x. IsRails net state x bits) same h.0
rails-from net state (v ∷ vectors) (bits ∷ run) h (suc zero) vector e = rails-from net (next_state net bits) vectors run h.1 zero vector e
rails-from net state (v ∷ vectors) (bits ∷ run) h (suc (suc cycle)) vector e =
    rails-from net (next_state net bits) vectors run h.1 (suc cycle) vector e

pub vector-is : (vectors : List (List Bool)) (cycle : ℕ) (vector : List Bool) → slice_get vectors cycle ≡ Some vector → vector ≡ bits_in vectors cycle
vector-is vectors cycle vector e = sym (ap (λ o. unwrap_or o []) e)

pub run_rails : RunRails
run_rails net vectors run is_net_run cycle vector e = rails-from net (first_state net) vectors run is_net_run cycle vector e

-- a sound netlist has a run on any vectors
pub run_exists : RunExists
run_exists = existence.run_exists

-- and its bits are fixed, but for the links
pub runs_agree : RunsAgree
runs_agree = agreement.runs_agree
