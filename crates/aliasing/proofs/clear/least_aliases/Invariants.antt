use Rattle.std.proofs.Common.{◌≡◌, ℕ, ◌<◌, length, get_or}
use Rattle.levels.specs.Arithmetic.{two}
use Rattle.levels.specs.Space.{Word}
use Rattle.levels.specs.Basis.{Echelon, LeastAlias}
use Rattle.levels.specs.Rows.{basis_rows}
use Rattle.aliasing.specs.Short.{one_letter}
use Rattle.aliasing.proofs.clear.least_aliases.Given as goal

-- the least aliases so far
abbrev pub invariant-loop-i : goal.invariant-loop-i
invariant-loop-i l =
    (length l.least ≡ 33)
    × ((k : ℕ) → k < l.i → Echelon two l.n (basis_rows l.basis) → Word two l.n (one_letter k) → LeastAlias two l.n (basis_rows l.basis) (one_letter k) (get_or l.least k 0))
