use Rattle.std.proofs.Common.{◌≡◌, ℕ, ◌<◌, get_or}
use Rattle.aliasing.proofs.pattern.resolution.Given as goal

-- the counts so far are 0
abbrev pub invariant-loop-place : goal.invariant-loop-place
invariant-loop-place g l = (k : ℕ) → k < l.place → get_or l.count-items k 0 ≡ 0
