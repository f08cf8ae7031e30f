use Rattle.std.proofs.Common.{take}
use Rattle.levels.specs.Rows.{basis_rows, Extended}
use Rattle.levels.proofs.basis.Basis.admit_all.Given as goal

-- the rows are as admitting the words so far is to leave them
abbrev pub invariant-loop-word : goal.invariant-loop-word
invariant-loop-word g l =
    Extended g.L.Levels.model l.n (basis_rows l.initial.self) (take l.word-index l.words) (basis_rows l.self)
