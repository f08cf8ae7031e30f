-- A list that is written over memory.
use Rattle.std.specs.Prelude.{ℕ, List, [], ◌∷◌}

-- a list over the old content of memory, as much of either as there is room for
abbrev pub filled : List ℕ → List ℕ → List ℕ
filled [] memory = memory
filled (x ∷ xs) [] = []
filled (x ∷ xs) (y ∷ memory) = x ∷ filled xs memory
