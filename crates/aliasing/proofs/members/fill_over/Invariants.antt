use Rattle.std.proofs.Common.{◌≡◌, ℕ, List, length, min}
use Rattle.levels.specs.Rows.{basis_rows}
use Rattle.levels.specs.Alias.{alias_set}
use Rattle.aliasing.specs.Blocks.{above}
use Rattle.aliasing.specs.Filled.{filled}
use Rattle.aliasing.proofs.Lower.{Lower}
use Rattle.aliasing.proofs.members.fill_over.Given as goal

-- the alias set over the rows up to the floor is written
abbrev pub invariant-loop-row : goal.invariant-loop-row
invariant-loop-row g l =
    let A = g.L.Levels.model in
    (us : List ℕ)
    × Lower A g.met.L.Levels.lawful l.n l.rows l.floor (basis_rows l.smaller) us
    × (l.len ≡ min (length (alias_set A l.n us l.least)) (length l.fn.memory))
    × (l.memory ≡ filled (alias_set A l.n us l.least) l.fn.memory)

-- the rows above the floor become fewer
abbrev pub decreases-loop-row : goal.decreases-loop-row
decreases-loop-row g l = length (above l.floor l.rows)
