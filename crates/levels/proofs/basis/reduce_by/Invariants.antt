use Rattle.std.proofs.Common.{take}
use Rattle.levels.specs.Space.{Word}
use Rattle.levels.specs.Basis.{Echelon}
use Rattle.levels.proofs.Reduced.{Left}
use Rattle.levels.proofs.basis.reduce_by.Given as goal

-- what is left so far is left by the rows so far
abbrev pub invariant-loop-row : goal.invariant-loop-row
invariant-loop-row g l =
    Echelon g.L.Levels.model l.n l.rows → Word g.L.Levels.model l.n l.word →
    Left g.L.Levels.model l.n (take l.row-index l.rows) l.word l.left
