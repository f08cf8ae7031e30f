use Rattle.std.proofs.Common.{◌-◌, ◌≤◌, length}
use Rattle.choice.specs.Search.{Below, Leaf}
use Rattle.choice.specs.Judged.{OfferedTo, shared_rows, words_of}
use Rattle.levels.specs.Leaves.{leaf_words}
use Rattle.choice.proofs.judge.Judge.offer_leaves.Given as goal

-- the sums with the leaves before the next were offered
abbrev pub invariant-loop-next : goal.invariant-loop-next
invariant-loop-next g l = record {
  within : l.next ≤ length (leaf_words l.leaves);
  offered : OfferedTo g.L.Levels.model g.P.Preference.good l.self (Below l.next (Leaf g.L.Levels.model l.self.factors (shared_rows l.self) (leaf_words l.leaves) l.start)) (words_of l.initial.progress) l.progress;
}

abbrev pub decreases-loop-next : goal.decreases-loop-next
decreases-loop-next g l = length (leaf_words l.leaves) - l.next
