use Rattle.std.proofs.Common.{◌≡◌, ℕ, ◌<◌, slice_index}
use Rattle.preferences.proofs.aberration.shortest_length.Given as goal

-- the counts so far are 0
abbrev pub invariant-loop-count : goal.invariant-loop-count
invariant-loop-count l = (l.length ≡ l.count-index) × ((i : ℕ) → i < l.length → slice_index l.tally i ≡ 0)
