use Rattle.std.proofs.Common.{◌≡◌, false, map, length, take}
use Rattle.levels.specs.Words.{word_sum}
use Rattle.levels.specs.Alias.{any_shorter, multiples_below, with_all_multiples}
use Rattle.levels.specs.Leaves.{leaf_words}
use Rattle.levels.proofs.span.+shorter.Given as goal

abbrev pub decreases-shorter : goal.decreases-shorter
decreases-shorter g l = length l.words.now

-- none of the sums with the leaves so far is shorter
abbrev pub invariant-loop-opposite : goal.invariant-loop-opposite
invariant-loop-opposite g l = any_shorter g.L.Levels.model l.bound (map (word_sum g.L.Levels.model l.n l.start) (take l.opposite-index (leaf_words l.leaves))) ≡ false

-- none of the sums with the multiples by the levels so far is shorter
abbrev pub invariant-loop-level : goal.invariant-loop-level
invariant-loop-level g l =
    any_shorter g.L.Levels.model l.bound
    (map (word_sum g.L.Levels.model l.n l.start) (multiples_below g.L.Levels.model l.n l.level l.word (with_all_multiples g.L.Levels.model l.n l.rest (leaf_words l.leaves))))
    ≡ false
