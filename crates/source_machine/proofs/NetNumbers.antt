-- The nets of a machine's lists, read off the code's lists.
use Rattle.std.proofs.Common.{◌≡◌, ℕ, ◌+◌, ◌<◌, List, [], ◌∷◌, ◌++◌, map, take, length, get_or, refl, sym, ◌∙◌, ap, append-nil}
use Rattle.std.specs.List.{flat_map}
use Rattle.std.proofs.lemmas.List.{take_more, append_assoc}
use Rattle.std.proofs.lemmas.Grind.{flat_map-append}
use Rattle.pulse_ids.specs.Ids.{Lit}
use Rattle.source_machine.specs.declared.machines.Latch.{Latch}
use Rattle.source_machine.specs.declared.machines.Equation.{Equation}
use Rattle.source_machine.specs.Machines.{literal_of, latch_of, equation_of}
use Rattle.source_machine.specs.Grounding.{cube_nets}

pub map-after : {X Y Z : Type 0} (f : X → Y) (g : Y → Z) (xs : List X) → map g (map f xs) ≡ map (λ x. g (f x)) xs
map-after f g [] = refl
map-after f g (x ∷ xs) = ap (λ l. g (f x) ∷ l) (map-after f g xs)

pub outs_mapped : (xs : List Latch) → map (λ latch. latch.out) (map latch_of xs) ≡ map (λ latch. latch.out.number) xs
outs_mapped xs = map-after latch_of (λ latch. latch.out) xs

pub nexts_mapped : (xs : List Latch) → map (λ latch. latch.next.net) (map latch_of xs) ≡ map (λ latch. latch.next.id.number) xs
nexts_mapped xs = map-after latch_of (λ latch. latch.next.net) xs

pub literals_mapped : (xs : List Lit) → map (λ literal. literal.net) (map literal_of xs) ≡ map (λ literal. literal.id.number) xs
literals_mapped xs = map-after literal_of (λ literal. literal.net) xs

pub equations_mapped : (xs : List Equation) → map (λ equation. equation.net) (map equation_of xs) ≡ map (λ equation. equation.net.number) xs
equations_mapped xs = map-after equation_of (λ equation. equation.net) xs

pub reads_mapped : (xs : List Equation) → map cube_nets (map equation_of xs) ≡ map (λ equation. cube_nets (equation_of equation)) xs
reads_mapped xs = map-after equation_of cube_nets xs

pub cubes_mapped_nets : (cubes : List (List Lit)) → flat_map (map (λ literal. literal.net)) (map (map literal_of) cubes) ≡ flat_map (λ cube. map (λ literal. literal.id.number) cube) cubes
cubes_mapped_nets [] = refl
cubes_mapped_nets (cube ∷ cubes) =
    ap (λ l. l ++ flat_map (map (λ literal. literal.net)) (map (map literal_of) cubes)) (literals_mapped cube) ∙ ap (λ l. map (λ literal. literal.id.number) cube ++ l) (cubes_mapped_nets cubes)

pub all_cubes_mapped : (xs : List Equation) → flat_map cube_nets (map equation_of xs) ≡ flat_map (λ equation. cube_nets (equation_of equation)) xs
all_cubes_mapped [] = refl
all_cubes_mapped (x ∷ xs) = ap (λ l. cube_nets (equation_of x) ++ l) (all_cubes_mapped xs)

pub flat_map_behind : {X Y : Type 0} (f : X → List Y) (xs : List X) (i : ℕ) (d : X) → i < length xs → flat_map f (take (i + 1) xs) ≡ flat_map f (take i xs) ++ f (get_or xs i d)
flat_map_behind f xs i d lt =
    ap (λ l. flat_map f l) (take_more xs i d lt) ∙ flat_map-append f (take i xs) (get_or xs i d ∷ []) ∙ ap (λ l. flat_map f (take i xs) ++ l) (append-nil (f (get_or xs i d)))

-- three parts after one another
pub three_parts : {a b c d x y z : List ℕ} {x' y' z' : List ℕ} → a ≡ [] → b ≡ a ++ x → c ≡ b ++ y → d ≡ c ++ z → x ≡ x' → y ≡ y' → z ≡ z' → d ≡ x' ++ (y' ++ z')
three_parts {a} {b} {c} {d} {x} {y} {z} {x'} {y'} {z'} ea eb ec ed ex ey ez =
    let one : b ≡ x' = eb ∙ ap (λ l. l ++ x) ea ∙ ex in
    let two : c ≡ x' ++ y' = ec ∙ ap (λ l. l ++ y) one ∙ ap (λ l. x' ++ l) ey in
    ed ∙ ap (λ l. l ++ z) two ∙ ap (λ l. (x' ++ y') ++ l) ez ∙ append_assoc x' y' z'

-- the same, for an item that the list gives
pub flat_map_item : {X Y : Type 0} (f : X → List Y) (xs : List X) (i : ℕ) (x : X) → i < length xs → x ≡ get_or xs i x → flat_map f (take (i + 1) xs) ≡ flat_map f (take i xs) ++ f x
flat_map_item f xs i x lt e = flat_map_behind f xs i x lt ∙ ap (λ y. flat_map f (take i xs) ++ f y) (sym e)
