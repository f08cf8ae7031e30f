use Rattle.std.proofs.Common.{◌≡◌, map, take}
use Rattle.bounded.specs.Items.{items_of}
use Rattle.plan.proofs.choices.scores_of.Given as goal

abbrev pub invariant-loop-word : goal.invariant-loop-word
invariant-loop-word g l = items_of l.scores ≡ map (g.P.Scored.points l.preference l.n) (take l.word-index l.words)
