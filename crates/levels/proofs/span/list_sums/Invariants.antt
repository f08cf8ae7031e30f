use Rattle.std.proofs.Common.{◌≡◌, ◌++◌, length, drop}
use Rattle.bounded.specs.Items.{items_of}
use Rattle.levels.specs.Generated.{combinations}
use Rattle.levels.proofs.span.list_sums.Given as goal

-- the sums are all sums of multiples of the last words
abbrev pub invariant-loop-before : goal.invariant-loop-before
invariant-loop-before g l = record {
  words : l.before ++ drop (length l.before) l.words ≡ l.words;
  sums : items_of l.sums ≡ combinations g.L.Levels.model l.n (drop (length l.before) l.words);
}

abbrev pub decreases-loop-before : goal.decreases-loop-before
decreases-loop-before g l = length l.before
