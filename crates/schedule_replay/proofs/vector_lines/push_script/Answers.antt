-- A line and its script.
use Rattle.std.proofs.Common.{◌∙◌, [], Some, None, cond, ap, subst}
use Rattle.std.specs.Prelude.{IfOk}
use Rattle.schedule_replay.specs.AddedItems.{Adds}
use Rattle.schedule_replay.proofs.Adding.{nothing_added}
use Rattle.schedule_replay.proofs.Spaces.{script_parts, script_alone}
use Rattle.schedule_replay.proofs.vector_lines.push_script.Goals as goal

pub returns-in-Some : goal.returns-in-Some
returns-in-Some c =
    subst (λ o. IfOk c.push_numbers.result (λ added. Adds added o c.args.wires.now c.push_numbers.new.wires))
    (script_parts c.args.line.now c.in-Some.word.now c.in-Some.numbers.now c.in-Some.ensures.found) c.push_numbers.ensures

pub returns-in-None : goal.returns-in-None
returns-in-None c =
    let wires = c.args.wires.now in
    let b = c.is_deliver.result in
    subst (λ o. Adds b o wires wires) (ap (λ t. cond t (Some []) None) c.is_deliver.ensures ∙ script_alone c.args.line.now c.in-None.ensures.none) (nothing_added b wires)
