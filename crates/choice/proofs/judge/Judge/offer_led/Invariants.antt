use Rattle.std.proofs.Common.{◌++◌}
use Rattle.choice.specs.Search.{Below, LedBy}
use Rattle.choice.specs.Judged.{OfferedTo, shared_rows, words_of}
use Rattle.choice.proofs.judge.Judge.offer_led.Given as goal

-- the words led by the levels so far were offered
abbrev pub invariant-loop-level : goal.invariant-loop-level
invariant-loop-level g l =
    OfferedTo g.L.Levels.model g.P.Preference.good l.self (Below l.level (LedBy g.L.Levels.model l.self.factors (l.rows ++ shared_rows l.self) l.lead)) (words_of l.initial.progress) l.progress
