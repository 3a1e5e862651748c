-- How often each wire is delivered in a cycle.
use Rattle.std.proofs.Common.{◌≡◌, ℕ, ◌+◌, ◌<◌, List, Bool, true, false, if◌then◌else◌, refl, ◌∙◌, arith}
use Rattle.cell_netlist.specs.declared.kinds.Phase.TheVariants.{Excite, Relax}
use Rattle.pulse_ids.specs.Lists.{bit_at}
use Rattle.cell_netlist.specs.Netlists.{PlainNetlist, wire_of, number_of_wires}
use Rattle.cell_netlist.specs.World.{pulses_in}
use Rattle.cell_netlist.specs.Runs.{Moment}
use Rattle.cell_netlist.specs.RailEquations.{LatchState, IsNetRun, is_due, is_link, link_due, first_state, next_state}
use Rattle.cell_netlist.specs.Sound.{IsSound}
use Rattle.cell_netlist.specs.declared.kinds.Role.TheVariants.{Back}
use Rattle.cell_netlist.specs.NetRuns.{bits_in, latches_from}
use Rattle.pulse_ids.proofs.CallerLemmasOnCounts.{one_if, occurrences-append}
use Rattle.cell_netlist.proofs.CallerLemmasOnLinks.{read-plain, output-plain, of-plain}
use Rattle.cell_netlist.proofs.CallerLemmasOnDrivers.{is-droc}
use Rattle.cell_netlist.proofs.CallerLemmasOnRuns.{run_exists}
use Rattle.pulse_world.specs.PulsesPerCycle.{IsCycle, pulses_on, link_pulses, OncePerCycle, LinkPerCycle, OutputsReadNoLink, GatesReadNoLink}
use Rattle.pulse_world.proofs.DueWires.{due-at}
use Rattle.pulse_world.proofs.WholeRuns.{moments_lead_on}

pub outputs_read_no_link : OutputsReadNoLink
outputs_read_no_link net sound rail i = of-plain net (wire_of rail) (output-plain net sound rail i)

pub gates_read_no_link : GatesReadNoLink
gates_read_no_link net sound cell i gate wire j =
    of-plain net wire (read-plain net sound wire cell i j (λ preload back. gate (is-droc cell Back preload wire back)))

-- in the two phases of a cycle each wire was taken as it is due
two-phases : (net : PlainNetlist) (sound : IsSound net) (vectors run : List (List Bool)) → IsNetRun net vectors run → (cycle : ℕ) (excited relaxed : Moment)
    → IsCycle net vectors cycle excited relaxed → (wire : ℕ) → wire < number_of_wires net
    → pulses_on wire excited relaxed
    ≡ one_if (is_due net (latches_from net (first_state net) run cycle) (bits_in run cycle) Excite wire)
    + one_if (is_due net (latches_from net (first_state net) run cycle) (bits_in run cycle) Relax wire)
two-phases net sound vectors run is_net_run cycle excited relaxed is_cycle wire low =
    let later = moments_lead_on net vectors is_cycle.events excited relaxed is_cycle.reached is_cycle.leads in
    let first = due-at net sound vectors run is_net_run excited is_cycle.reached (record { cycle = cycle; phase = Excite }) is_cycle.excite is_cycle.excite_settled wire low in
    let second = due-at net sound vectors run is_net_run relaxed later (record { cycle = cycle; phase = Relax }) is_cycle.relax is_cycle.relax_settled wire low in
    let both = occurrences-append wire excited.delivered relaxed.delivered in omega arith

-- a wire that is no link is due once
plain-due : (net : PlainNetlist) (latches : LatchState) (bits : List Bool) (wire : ℕ) → is_link net wire ≡ false
    → one_if (is_due net latches bits Excite wire) + one_if (is_due net latches bits Relax wire) ≡ 1
plain-due net latches bits wire e = go (is_link net wire) e (bit_at bits wire)
  where
    go : (link : Bool) → link ≡ false → (bit : Bool)
        → one_if (if link then link_due Excite (latches wire) (next_state net bits wire) else pulses_in Excite bit)
        + one_if (if link then link_due Relax (latches wire) (next_state net bits wire) else pulses_in Relax bit) ≡ 1
    go true e bit = absurd (cc)
    go false e true = refl
    go false e false = refl

-- and a link by its back's states
link-due : (net : PlainNetlist) (latches : LatchState) (bits : List Bool) (wire : ℕ) → is_link net wire ≡ true
    → one_if (is_due net latches bits Excite wire) + one_if (is_due net latches bits Relax wire) ≡ link_pulses (latches wire) (next_state net bits wire)
link-due net latches bits wire e = go (is_link net wire) e (latches wire) (next_state net bits wire)
  where
    go : (link : Bool) → link ≡ true → (now next : Bool)
        → one_if (if link then link_due Excite now next else pulses_in Excite (bit_at bits wire))
        + one_if (if link then link_due Relax now next else pulses_in Relax (bit_at bits wire)) ≡ link_pulses now next
    go false e now next = absurd (cc)
    go true e true true = refl
    go true e true false = refl
    go true e false true = refl
    go true e false false = refl

pub once_per_cycle : OncePerCycle
once_per_cycle net sound vectors cycle excited relaxed is_cycle wire low plain =
    let run = run_exists net sound vectors in
    two-phases net sound vectors run.0 run.1 cycle excited relaxed is_cycle wire low
    ∙ plain-due net (latches_from net (first_state net) run.0 cycle) (bits_in run.0 cycle) wire plain

pub link_per_cycle : LinkPerCycle
link_per_cycle net sound vectors run is_net_run cycle excited relaxed is_cycle wire low link =
    two-phases net sound vectors run is_net_run cycle excited relaxed is_cycle wire low
    ∙ link-due net (latches_from net (first_state net) run cycle) (bits_in run cycle) wire link
