-- The members of an alias set, in ascending code.
use Rattle.std.specs.Prelude.{◌≡◌, ℕ, true, List, nat_lt}
use Rattle.levels.specs.Generated.{holds}
use Rattle.levels.specs.Alias.{how_many}

-- member m, from 0, of a set: a number of the set, and m of its numbers are smaller
pub record Member (set : List ℕ) (m x : ℕ) : Type 0 where
  pub in_set : holds set x ≡ true
  pub smaller : how_many (λ y. nat_lt y x) set ≡ m
