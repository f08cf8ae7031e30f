use Rattle.std.proofs.Common.{◌≡◌, ℕ, ◌<◌, ltb}
use Rattle.levels.specs.Words.{word_sum, word_multiple}
use Rattle.levels.specs.Alias.{how_many}
use Rattle.aliasing.specs.Blocks.{sums_below}
use Rattle.aliasing.proofs.members.pick.Given as goal

-- no sum with the levels so far is at the place
abbrev pub invariant-loop-level : goal.invariant-loop-level
invariant-loop-level g l =
    (c : ℕ) → c < l.level →
    how_many (λ z. ltb z (word_sum g.L.Levels.model l.n l.word (word_multiple g.L.Levels.model l.n c l.row)))
    (sums_below g.L.Levels.model l.n g.L.Levels.model.s l.row l.word) ≡ l.place → ⊥
