use Rattle.std.proofs.Common.{◌≡◌, ℕ, ◌<◌, ◌≤◌}
use Rattle.levels.specs.Words.{word_sum, word_multiple}
use Rattle.levels.proofs.opposites.opposite.Given as goal

-- no multiple so far is the opposite
abbrev pub invariant-loop-level : goal.invariant-loop-level
invariant-loop-level g l =
    (c : ℕ) → 1 ≤ c → c < l.level → word_sum g.L.Levels.model l.n l.word (word_multiple g.L.Levels.model l.n c l.word) ≡ 0 → ⊥
