-- Where a net stands in a machine, and in the plain one.
use Rattle.std.proofs.Common.{◌≡◌, ◌==◌, ◌||◌, ℕ, Bool, List, [], ◌∷◌, map, refl, ap, ◌∙◌}
use Rattle.std.specs.List.{list_any}
use Rattle.pulse_ids.specs.Ids.{Lit}
use Rattle.source_machine.specs.declared.machines.Equation.{Equation}
use Rattle.source_machine.specs.declared.machines.RawMachine.{RawMachine}
use Rattle.source_machine.specs.Machines.{literal_of, latch_of, equation_of, machine_of}
use Rattle.blif_reader.specs.Sources.{in_cube, in_rows, is_read, is_made, is_input}

any_mapped : {X Y : Type 0} (f : X → Y) (p : Y → Bool) (q : X → Bool) → ((x : X) → q x ≡ p (f x)) → (xs : List X) → list_any q xs ≡ list_any p (map f xs)
any_mapped f p q same [] = refl
any_mapped f p q same (x ∷ xs) = ap (λ b. b || list_any q xs) (same x) ∙ ap (λ b. p (f x) || b) (any_mapped f p q same xs)

abbrev lits : ℕ → List Lit → Bool
lits net row = list_any (λ literal. literal.id.number == net) row

cube_is : (net : ℕ) (row : List Lit) → lits net row ≡ in_cube net (map literal_of row)
cube_is net row = any_mapped literal_of (λ literal. literal.net == net) (λ literal. literal.id.number == net) (λ x. refl) row

rows_are : (net : ℕ) (equation : Equation) → list_any (λ row. list_any (λ literal. literal.id.number == net) row) equation.rows.items ≡ in_rows net (equation_of equation)
rows_are net equation = any_mapped (map literal_of) (λ cube. in_cube net cube) (λ row. lits net row) (cube_is net) equation.rows.items

pub read_is : (net : ℕ) (machine : RawMachine)
    → (list_any (λ equation. list_any (λ row. list_any (λ literal. literal.id.number == net) row) equation.rows.items) machine.equations.items
    || (list_any (λ latch. latch.next.id.number == net) machine.latches.items || list_any (λ literal. literal.id.number == net) machine.outputs.items))
    ≡ is_read (machine_of machine) net
read_is net machine =
    let latches : Bool = list_any (λ latch. latch.next.id.number == net) machine.latches.items in
    let outputs : Bool = list_any (λ literal. literal.id.number == net) machine.outputs.items in
    ap (λ b. b || (latches || outputs)) (any_mapped equation_of (λ equation. in_rows net equation)
    (λ equation. list_any (λ row. list_any (λ literal. literal.id.number == net) row) equation.rows.items) (rows_are net) machine.equations.items)
    ∙ ap (λ b. list_any (λ equation. in_rows net equation) (map equation_of machine.equations.items) || (b || outputs))
    (any_mapped latch_of (λ latch. latch.next.net == net) (λ latch. latch.next.id.number == net) (λ x. refl) machine.latches.items)
    ∙ ap (λ b. list_any (λ equation. in_rows net equation) (map equation_of machine.equations.items) || (list_any (λ latch. latch.next.net == net) (map latch_of machine.latches.items) || b))
    (any_mapped literal_of (λ literal. literal.net == net) (λ literal. literal.id.number == net) (λ x. refl) machine.outputs.items)

pub made_is : (net : ℕ) (machine : RawMachine)
    → (list_any (λ equation. equation.net.number == net) machine.equations.items || list_any (λ latch. latch.out.number == net) machine.latches.items) ≡ is_made (machine_of machine) net
made_is net machine =
    ap (λ b. b || list_any (λ latch. latch.out.number == net) machine.latches.items)
    (any_mapped equation_of (λ equation. equation.net == net) (λ equation. equation.net.number == net) (λ x. refl) machine.equations.items)
    ∙ ap (λ b. list_any (λ equation. equation.net == net) (map equation_of machine.equations.items) || b)
    (any_mapped latch_of (λ latch. latch.out == net) (λ latch. latch.out.number == net) (λ x. refl) machine.latches.items)

pub input_is : (net : ℕ) (machine : RawMachine) → list_any (λ input. input.number == net) machine.inputs.items ≡ is_input (machine_of machine) net
input_is net machine = any_mapped (λ net. net.number) (λ input. input == net) (λ input. input.number == net) (λ x. refl) machine.inputs.items
