use Rattle.aliasing.proofs.Chosen.{ChosenFrom}
use Rattle.aliasing.proofs.runs.Table.run.Given as goal

-- the levels from this factor on are those of run m
abbrev pub invariant-loop-p : goal.invariant-loop-p
invariant-loop-p l = ChosenFrom l.self.factors l.self.rows l.m l.p l.code l.digits
