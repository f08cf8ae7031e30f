use Rattle.std.proofs.Common.{length}
use Rattle.levels.specs.Rows.{basis_rows}
use Rattle.choice.specs.Search.{Below, LedAt}
use Rattle.choice.specs.Judged.{OfferedTo, words_of}
use Rattle.choice.proofs.judge.Judge.best.Given as goal

-- the words that the rows so far lead were offered
abbrev pub invariant-loop-i : goal.invariant-loop-i
invariant-loop-i g l =
    OfferedTo g.L.Levels.model g.P.Preference.good l.self (Below l.i (LedAt g.L.Levels.model l.self.factors (basis_rows l.self.whole) (length (basis_rows l.self.known)))) (words_of l.initial.progress) l.progress
