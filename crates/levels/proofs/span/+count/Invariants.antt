use Rattle.std.proofs.Common.{◌≡◌, map, length, take}
use Rattle.levels.specs.Words.{word_sum}
use Rattle.levels.specs.Alias.{Adds, multiples_below, with_all_multiples}
use Rattle.levels.specs.Leaves.{leaf_words}
use Rattle.levels.proofs.span.+count.Given as goal

abbrev pub decreases-count : goal.decreases-count
decreases-count g l = length l.words.now

-- the sums with the leaves so far are counted
abbrev pub invariant-loop-opposite : goal.invariant-loop-opposite
invariant-loop-opposite g l =
    Adds g.L.Levels.model (map (word_sum g.L.Levels.model l.n l.start) (take l.opposite-index (leaf_words l.leaves))) l.initial.counts l.counts
    × (length l.counts ≡ 33)

-- the sums with the multiples by the levels so far are counted
abbrev pub invariant-loop-level : goal.invariant-loop-level
invariant-loop-level g l =
    Adds g.L.Levels.model
    (map (word_sum g.L.Levels.model l.n l.start) (multiples_below g.L.Levels.model l.n l.level l.word (with_all_multiples g.L.Levels.model l.n l.rest (leaf_words l.leaves))))
    l.initial.counts l.counts
    × (length l.counts ≡ 33)
