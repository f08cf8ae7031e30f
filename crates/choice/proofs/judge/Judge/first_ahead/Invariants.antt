use Rattle.choice.specs.Judged.{AllBehind}
use Rattle.levels.specs.Leaves.{leaf_words}
use Rattle.choice.proofs.judge.Judge.first_ahead.Given as goal

-- the sums with the leaves so far stand behind
abbrev pub invariant-loop-place : goal.invariant-loop-place
invariant-loop-place g l = AllBehind g.L.Levels.model g.P.Preference.good l.self l.last.word (leaf_words l.leaves) l.start l.first l.place
