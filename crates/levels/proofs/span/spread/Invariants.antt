use Rattle.std.proofs.Common.{◌≡◌, ◌++◌, map, take}
use Rattle.bounded.specs.Items.{items_of}
use Rattle.levels.specs.Words.{word_sum}
use Rattle.levels.specs.Alias.{multiples_below}
use Rattle.levels.proofs.span.spread.Given as goal

-- the sums are the list once for each level so far
abbrev pub invariant-loop-level : goal.invariant-loop-level
invariant-loop-level g l = items_of l.sums ≡ multiples_below g.L.Levels.model l.n l.level l.word (items_of l.fn.sums)

-- behind them stand the sums of the multiple and the list so far
abbrev pub invariant-loop-sum : goal.invariant-loop-sum
invariant-loop-sum g l =
    items_of l.sums ≡ multiples_below g.L.Levels.model l.n l.level l.word (items_of l.fn.sums) ++ map (word_sum g.L.Levels.model l.n l.multiple) (take l.sum-index (items_of l.fn.sums))
