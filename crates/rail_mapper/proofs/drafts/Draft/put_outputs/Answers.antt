use Rattle.std.proofs.Common.{[], ◌∷◌, subst, ℕ}
use Rattle.pulse_ids.specs.declared.literals.Sign.TheVariants.{Pos, Neg}
use Rattle.cell_netlist.specs.Asked.{signs_of}
use Rattle.cell_netlist.specs.declared.kinds.Ask.{Ask}
use Rattle.rail_mapper.specs.OutputStages.{CanPut}
use Rattle.rail_mapper.specs.Stages.{Outputs}
use Rattle.rail_mapper.proofs.OutputStageLemmas.{put_inside, put_next}
use Rattle.rail_mapper.proofs.drafts.Draft.put_outputs.Goals as goal

pub put_output-requires-clause-inside : goal.put_output-requires-clause-inside
put_output-requires-clause-inside c = put_inside c.args.literal (signs_of c.args.ask) c.args.self.now c.requires

pub put_output-requires-in-Neg-clause-inside : goal.put_output-requires-in-Neg-clause-inside
put_output-requires-in-Neg-clause-inside c = put_inside c.args.literal (signs_of c.args.ask) c.args.self.now c.requires

pub put_output-requires-in-Both-clause-inside : goal.put_output-requires-in-Both-clause-inside
put_output-requires-in-Both-clause-inside c = put_inside c.args.literal (signs_of c.args.ask) c.args.self.now c.requires

pub put_output-requires-in-Both-2-clause-inside : goal.put_output-requires-in-Both-2-clause-inside
put_output-requires-in-Both-2-clause-inside c =
    put_inside c.args.literal (Neg ∷ []) c.put_output-in-Both.new.self
    (put_next c.args.literal c.args.port Pos (Neg ∷ []) c.args.self.now c.put_output-in-Both.new.self (subst (λ (a : Ask). CanPut c.args.literal (signs_of a) c.args.self.now) c.in-Both.is c.requires)
    (subst (λ (r : ℕ). Outputs r c.args.port Pos c.args.self.now c.put_output-in-Both.new.self) c.literal_rail-in-Both.ensures c.in_ok-put_output-in-Both.ensures))

pub put_output-requires-in-Both-2-clause-wires : goal.put_output-requires-in-Both-2-clause-wires
put_output-requires-in-Both-2-clause-wires c =
    (put_next c.args.literal c.args.port Pos (Neg ∷ []) c.args.self.now c.put_output-in-Both.new.self (subst (λ (a : Ask). CanPut c.args.literal (signs_of a) c.args.self.now) c.in-Both.is c.requires)
    (subst (λ (r : ℕ). Outputs r c.args.port Pos c.args.self.now c.put_output-in-Both.new.self) c.literal_rail-in-Both.ensures c.in_ok-put_output-in-Both.ensures)).wires
