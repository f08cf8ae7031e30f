use Rattle.std.proofs.Common.{◌≡◌, ℕ, ◌<◌, true, false, length, get_or}
use Rattle.aliasing.specs.Short.{one_letter}
use Rattle.aliasing.proofs.clear.own_letters.Given as goal

-- the letters so far
abbrev pub invariant-loop-k : goal.invariant-loop-k
invariant-loop-k l = (length l.own ≡ 33) × ((i : ℕ) → i < l.k → get_or l.own i false ≡ true → get_or l.least i 0 ≡ one_letter i)
