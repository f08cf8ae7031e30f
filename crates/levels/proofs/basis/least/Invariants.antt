use Rattle.levels.specs.Space.{Word}
use Rattle.levels.specs.Rows.{LeastMultiple}
use Rattle.levels.proofs.basis.least.Given as goal

-- the smallest so far is the least of the multiples below the level
abbrev pub invariant-loop-level : goal.invariant-loop-level
invariant-loop-level g l =
    Word g.L.Levels.model l.n l.row → Word g.L.Levels.model l.n l.word →
    LeastMultiple g.L.Levels.model l.n l.level l.row l.word l.smallest
