use Rattle.std.proofs.Common.{rules}
use Rattle.std.proofs.lemmas.List.Sorted.{answers_always}
use Rattle.cell_netlist.proofs.NameLemmas.{name_at-searched, name_at-gap}
use Rattle.cell_netlist.proofs.netlists.name_of.Goals as goal

pub returns-in-Ok : goal.returns-in-Ok
returns-in-Ok c =
    let facts = c.in-Ok.ensures in
    let by_port = facts.position (λ named. named.0) (answers_always _ _ _ (λ f a r g called. search rules)) in
    name_at-searched c.requires.0 c.args.names.now c.requires.1 c.args.port c.in-Ok.at _ facts.bound by_port

pub returns-in-Err : goal.returns-in-Err
returns-in-Err c =
    let by_port = c.in-Err.ensures.position (λ named. named.0) (answers_always _ _ _ (λ f a r g called. search rules)) in
    name_at-gap c.requires.0 c.args.names.now c.requires.1 c.args.port c.in-Err.field-0 by_port
