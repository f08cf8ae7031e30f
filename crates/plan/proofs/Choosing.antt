-- The generators of a plan, from what the choice over lists gives.
use Rattle.std.proofs.Common.{◌≡◌, ◌≤◌, ◌++◌, length, get_or, take, arith}
use Rattle.std.proofs.lemmas.List.{length-append, take_all}
use Rattle.levels.specs.Arithmetic.{Arithmetic, Lawful}
use Rattle.levels.specs.Space.{AllWords}
use Rattle.levels.specs.Generated.{Independent}
use Rattle.levels.proofs.Any.{any_bound, any_place}
use Rattle.levels.proofs.Space.{vector_space}
use Rattle.preferences.specs.Relation.{Relation, PreferenceLaws}
use Rattle.choice.specs.Choice.{BestGenerators}
use Rattle.choice.proofs.Greedy.{best_generators, generators_length}
use Rattle.contents.specs.declared.side.Side.{Side}
use Rattle.contents.specs.declared.side.Side.TheVariants.{Defining, Block}
use Rattle.contents.specs.Content.{Content, Kept, side_of}
use Rattle.contents.proofs.Keeps.{kept_defining}
use Rattle.plan.specs.Answers.{base_of, chosen}

-- no side has more generators than words
pub chosen_few : (A : Arithmetic) → Lawful A → (good : Relation) (side : Side) (p : Content) → length (side_of side p) ≤ 16 → length (chosen A good side p) ≤ 16
chosen_few A L good side p few = omega (arith, generators_length A L good p.factors (base_of side p) (side_of side p))

-- so none of them is cut off
pub chosen_whole : (A : Arithmetic) → Lawful A → (good : Relation) (side : Side) (p : Content) → length (side_of side p) ≤ 16 → take 16 (chosen A good side p) ≡ chosen A good side p
chosen_whole A L good side p few = take_all 16 (chosen A good side p) (chosen_few A L good side p few)

-- the generators of a side are the best of what they generate
pub side_best : (A : Arithmetic) → Lawful A → (good : Relation) → PreferenceLaws A good → (side : Side) (p : Content) → BestGenerators A good p.factors (base_of side p) (side_of side p) (chosen A good side p)
side_best A L good laws side p = best_generators A L good laws p.factors (base_of side p) (side_of side p)

-- those of a plan that is kept are independent, with the base list
pub side_independent : (A : Arithmetic) → Lawful A → (good : Relation) → PreferenceLaws A good → (side : Side) (p : Content) → Kept A p → Independent A p.factors (base_of side p ++ chosen A good side p)
side_independent A L good laws side p k = (side_best A L good laws side p).independent (base side)
  where
    base : (side : Side) → Independent A p.factors (base_of side p)
    base Defining = λ i l g. omega arith
    base Block = (kept_defining A L p k).independent

-- and as many as the side has words
pub side_as_many : (A : Arithmetic) → Lawful A → (good : Relation) → PreferenceLaws A good → (side : Side) (p : Content) → Kept A p → length (chosen A good side p) ≡ length (side_of side p)
side_as_many A L good laws side p k =
    let n = p.factors in
    let V = vector_space A L n in
    let base = base_of side p in
    let ours = chosen A good side p in
    let theirs = base ++ side_of side p in
    let h = held side in
    omega (
      arith,
      generators_length A L good n base (side_of side p),
      any_bound A L n V theirs (base ++ ours) h.1 (λ i l. ((side_best A L good laws side p).exact (get_or theirs i 0)).1 (any_place A L n V theirs i (h.0 i l))),
      length-append base ours,
      length-append base (side_of side p),
    )
  where
    held : (side : Side) → AllWords A p.factors (base_of side p ++ side_of side p) × Independent A p.factors (base_of side p ++ side_of side p)
    held Defining = let d = kept_defining A L p k in (d.words, d.independent)
    held Block = (k.words, k.independent)
