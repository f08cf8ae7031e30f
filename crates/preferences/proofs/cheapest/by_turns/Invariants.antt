use Rattle.std.proofs.Common.{◌≡◌, ℕ, ◌+◌, ◌*◌, ◌/◌, ◌%◌, ◌<◌, length, get_or}
use Rattle.preferences.proofs.cheapest.by_turns.Given as goal

-- the costs before this place stand
abbrev pub invariant-loop-i : goal.invariant-loop-i
invariant-loop-i l = record {
  size : length l.turned ≡ 32;
  stand : (k : ℕ) → k < l.i → get_or l.turned k 0 ≡ get_or l.costs (k / 2 + k % 2 * 16) 0;
}
