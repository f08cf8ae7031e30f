use Rattle.std.proofs.Common.{◌≡◌, map, take}
use Rattle.levels.specs.Words.{code_sum}
use Rattle.aliasing.specs.Filled.{filled}
use Rattle.aliasing.proofs.members.append.Given as goal

-- the first of the copied codes are sums
abbrev pub invariant-loop-word : goal.invariant-loop-word
invariant-loop-word g l = l.word-items ≡ filled (take l.word-index (map (code_sum g.L.Levels.model l.code) l.initial.word-items)) l.initial.word-items
