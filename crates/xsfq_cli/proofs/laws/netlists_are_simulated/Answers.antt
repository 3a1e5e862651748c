-- What `simulate` answers by the laws of the table, and its text by the laws of every order.
use Rattle.xsfq_cli.proofs.SimulationLaws.{simulated_law}
use Rattle.xsfq_cli.proofs.SimulationTexts.{faulted_text_says_bits, one_simulation_text, schedules_agree, text_says_bits}
use Rattle.xsfq_cli.proofs.laws.netlists_are_simulated.Goals as goal

pub returns-clause-done : goal.returns-clause-done
returns-clause-done c = simulated_law c.one_judgement.ensures.of_bytes

pub returns-clause-one : goal.returns-clause-one
returns-clause-one c = one_simulation_text c.one_simulation.ensures c.one_replay.ensures c.inputs_have_their_form.ensures

pub returns-clause-bits : goal.returns-clause-bits
returns-clause-bits c =
    let says = c.every_order_says_the_same.ensures in text_says_bits says.order_says says.script_says says.faultless

pub returns-clause-faulted : goal.returns-clause-faulted
returns-clause-faulted c =
    let says = c.every_order_says_the_same.ensures in faulted_text_says_bits says.order_says says.script_says says.faultless

pub returns-clause-agree : goal.returns-clause-agree
returns-clause-agree c =
    let says = c.every_order_says_the_same.ensures in schedules_agree says.order_says says.script_says says.faultless
